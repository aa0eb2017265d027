-- An idle connection that is taken and given back as a broken one.
use Rattle.std.proofs.Common.{◌≡◌, ℕ, ◌+◌, ◌-◌, ◌*◌, ◌<◌, ◌≤◌, max, Bool, true, false, not, List, [], ◌∷◌, ◌++◌, map, length, append_assoc, Option, Some, None}
use Rattle.std.proofs.Common.{Result, Ok, Err, refl, sym, ◌∙◌, ap, subst, arith}
use Rattle.std.specs.Prelude.{option_map, unwrap_or, is_some, reverse}
use Rattle.std.proofs.lemmas.List.{reverse-append, append-nil, length_push}
use Rattle.pool_machine.specs.declared.schedule.limits.LendingOrder.{LendingOrder}
use Rattle.pool_machine.specs.declared.schedule.limits.LendingOrder.TheVariants as lending
use Rattle.pool_machine.specs.declared.machine.answers.Refusal.{Refusal}
use Rattle.pool_machine.specs.declared.machine.answers.Refusal.TheVariants as refusal
use Rattle.pool_machine.specs.Ids.{copies_of, last_of, front, without}
use Rattle.pool_machine.specs.Lending.{next_to_lend, still_idle}
use Rattle.pool_machine.specs.Refusals.{refused_if, ok_or_back, unless_refused}
use Rattle.pool_machine.specs.Connections.{SeenIdleConnection, SeenLentConnection, SeenReleased, lent_connection, id_of_idle, id_of_lent, birth_in, released_at}
use Rattle.pool_machine.specs.Picture.{Picture, IsSound}
use Rattle.pool_machine.specs.Seen.{SeenTake, SeenReturned, Found, Empty, Closed, take_with}
use Rattle.pool_machine.specs.Table.{raised_to, top_up_of, next_of, take_orders, taken, after_take, take_answer, gone_one, return_of}
use Rattle.pool_machine.specs.Table.{returned, return_answer, after_return}
use Rattle.pool_machine.proofs.Lists.Ids.{copies_of-append3, last_of-push, front-push, last_is}
use Rattle.pool_machine.proofs.Lists.Lending.{none_is_next, length-still_idle, found-next, without-next}
use Rattle.r2d2_core.specs.Book.{SeenBook, seen_book}
use Rattle.r2d2_core.specs.Noted.{noted_take, noted_return}
use Rattle.pool_state.specs.Evicted.{in_lending_order, evicted_of, book_taken, book_broken, one_evicted, each_evicted, IsEvicted}

-- the idle connection that a take found, by what it answers
pub record Next {T : Type 0} (o : Option (SeenIdleConnection T)) (id birth : ℕ) (value : T) : Type 0 where
  pub c : SeenIdleConnection T
  pub is_next : o ≡ Some c
  pub same_id : c.id ≡ id
  pub same_birth : c.birth ≡ birth
  pub same_value : c.value ≡ value

module _ {T : Type 0} where
  pub next : (o : Option (SeenIdleConnection T)) (n id birth m : ℕ) (v : T) → Found id birth v m ≡ take_with o n → Next o id birth v
  next None n id birth m v e = absurd cc
  next (Some c) n id birth m v e = record { c = c; is_next = refl; same_id = cc; same_birth = cc; same_value = cc }

  none_next : (o : Option (SeenIdleConnection T)) (n m : ℕ) → Empty m ≡ take_with o n → o ≡ None
  none_next None n m e = refl
  none_next (Some c) n m e = absurd cc

  none_still : (o : LendingOrder) → still_idle {X = SeenIdleConnection T} o [] ≡ []
  none_still lending.NewestFirst = refl
  none_still lending.OldestFirst = refl

  -- where a take finds none, there are no others
  pub idle_of_none : (t m : ℕ) (p q : Picture T) → Empty m ≡ take_answer false p → q ≡ after_take t false p → q.idle ≡ still_idle p.on_order.limits.order p.idle
  idle_of_none t m p q e after =
      let none : next_of p ≡ None = none_next (next_of p) (take_orders (next_of p) false p) m e in
      let no_idle : p.idle ≡ [] = none_is_next p.on_order.limits.order p.idle none in
      ap (λ x. x.idle) after ∙ (ap (λ o. (taken o false (raised_to t p)).idle) none
      ∙ (no_idle ∙ sym (ap (still_idle p.on_order.limits.order) no_idle ∙ none_still p.on_order.limits.order)))

  -- what was taken is the last that is lent
  pub lent_after : (t id birth : ℕ) (v : T) (p q : Picture T) → Next (next_of p) id birth v → q ≡ after_take t false p
      → q.lent ≡ p.lent ++ lent_connection id birth ∷ []
  lent_after t id birth v p q n after =
      ap (λ x. x.lent) after
      ∙ (ap (λ o. (taken o false (raised_to t p)).lent) n.is_next
      ∙ (ap (λ i. p.lent ++ lent_connection i n.c.birth ∷ []) n.same_id ∙ ap (λ b. p.lent ++ lent_connection id b ∷ []) n.same_birth))

  -- no two that are lent have one id
  lent_apart : (p : Picture T) → IsSound p → (i : ℕ) → copies_of i (map id_of_lent p.lent) ≤ 1
  lent_apart p s i = omega (arith, s.steady.apart i, copies_of-append3 i (map id_of_idle p.idle) (map id_of_lent p.lent) p.on_order.numbered)

  -- the last that is lent is found by its id, and leaves the others
  birth_of_last : (q : Picture T) (others : List SeenLentConnection) (c : SeenLentConnection) → IsSound q → q.lent ≡ others ++ c ∷ []
      → birth_in c.id q.lent ≡ Some c.birth
  birth_of_last q others c s e = ap (option_map (λ l. l.birth)) (found-next id_of_lent lending.NewestFirst q.lent c (ap last_of e ∙ last_of-push others c)
      (lent_apart q s))

  without_last : (q : Picture T) (others : List SeenLentConnection) (c : SeenLentConnection) → IsSound q → q.lent ≡ others ++ c ∷ []
      → without id_of_lent c.id q.lent ≡ others
  without_last q others c s e = without-next id_of_lent lending.NewestFirst q.lent c (ap last_of e ∙ last_of-push others c) (lent_apart q s)
      ∙ (ap front e ∙ front-push others c)

  -- as it comes back broken it is closed
  pub closing : (t id birth : ℕ) (v : T) (q : Picture T) (others : List SeenLentConnection) → IsSound q → q.lent ≡ others ++ lent_connection id birth ∷ []
      → return_answer t id v true q ≡ Ok (Closed v (max q.latest t - birth) (top_up_of (gone_one id (raised_to t q))))
  closing t id birth v q others s e = ap (λ o. ok_or_back (refused_if (not (is_some o)) refusal.NotLent None) v
      (return_of id (unwrap_or o 0) v true (raised_to t q))) (birth_of_last q others (lent_connection id birth) s e)

  -- and the others are still lent
  pub lent_then : (t id birth : ℕ) (v : T) (q r : Picture T) (others : List SeenLentConnection) → IsSound q → q.lent ≡ others ++ lent_connection id birth ∷ []
      → r ≡ after_return t id v true q → r.lent ≡ others
  lent_then t id birth v q r others s e after =
      ap (λ x. x.lent) after
      ∙ (ap (λ o. (unless_refused (refused_if (not (is_some o)) refusal.NotLent None) (returned id (unwrap_or o 0) v true (raised_to t q)) q).lent)
      (birth_of_last q others (lent_connection id birth) s e)
      ∙ without_last q others (lent_connection id birth) s e)

  -- what is handed over of it
  pub released_next : (t id birth age : ℕ) (v w : T) (p : Picture T) → Next (next_of p) id birth v → age ≡ max p.latest t - birth → w ≡ v
      → Some (record { id = id; age = age; value = w }) ≡ option_map (released_at (max p.latest t)) (next_of p)
  unfolding released_at
  released_next t id birth age v w p n a e =
      let same_age : age ≡ max p.latest t - n.c.birth = a ∙ ap (λ b. max p.latest t - b) (sym n.same_birth) in
      ap (λ i. Some (record { id = i; age = age; value = w })) (sym n.same_id)
      ∙ (ap (λ a. Some (record { id = n.c.id; age = a; value = w })) same_age
      ∙ (ap (λ x. Some (record { id = n.c.id; age = max p.latest t - n.c.birth; value = x })) (e ∙ sym n.same_value)
      ∙ sym (ap (option_map (released_at (max p.latest t))) n.is_next)))

  -- what is closed is neither refused nor kept
  pub never_refused : {E : Type 0} (x : E) (v : T) (age n : ℕ) → Err x ≡ Ok (Closed v age n) → ⊥
  never_refused x v age n e = cc

  pub same_age : {E : Type 0} (x : Result (SeenReturned T) E) (v w : T) (age birth n m : ℕ) → x ≡ Ok (Closed w age m) → x ≡ Ok (Closed v birth n) → age ≡ birth
  same_age x v w age birth n m d e = cc

  pub same_value : {E : Type 0} (x : Result (SeenReturned T) E) (v w : T) (age birth n m : ℕ) → x ≡ Ok (Closed w age m) → x ≡ Ok (Closed v birth n) → w ≡ v
  same_value x v w age birth n m d e = cc

  -- a take raises the moment
  latest_of : (o : Option (SeenIdleConnection T)) (t : ℕ) (p : Picture T) → (taken o false (raised_to t p)).latest ≡ max p.latest t
  latest_of None t p = refl
  latest_of (Some c) t p = refl

  pub latest_after : (t : ℕ) (p q : Picture T) → q ≡ after_take t false p → max q.latest t ≡ max p.latest t
  latest_after t p q e = omega (arith, ap (λ x. x.latest) e ∙ latest_of (next_of p) t p)

  -- a book is what it shows and what it notes
  pub taken_is : (t : ℕ) (or_order : Bool) (b q : SeenBook T) (answer : SeenTake T) → answer ≡ take_answer or_order b.picture
      → q.picture ≡ after_take t or_order b.picture → q.journal ≡ noted_take t answer b → q ≡ book_taken t or_order b
  taken_is t or_order b q answer is shows notes =
      ap (λ p. seen_book p q.journal) shows ∙ ap (λ j. seen_book (after_take t or_order b.picture) j) (notes ∙ ap (λ a. noted_take t a b) is)

  pub broken_is : (t id : ℕ) (v : T) (q s : SeenBook T) (answer : Result (SeenReturned T) (Refusal × T)) → answer ≡ return_answer t id v true q.picture
      → s.picture ≡ after_return t id v true q.picture → s.journal ≡ noted_return t id answer q → s ≡ book_broken t id v q
  broken_is t id v q s answer is shows notes =
      ap (λ p. seen_book p s.journal) shows ∙ ap (λ j. seen_book (after_return t id v true q.picture) j) (notes ∙ ap (λ a. noted_return t id a q) is)

  -- the next one went, or there was none
  pub one_went : (t id birth : ℕ) (v : T) (b q s : SeenBook T) → Next (next_of b.picture) id birth v → q ≡ book_taken t false b → s ≡ book_broken t id v q
      → s ≡ one_evicted t (next_of b.picture) b
  one_went t id birth v b q s n taken came =
      came
      ∙ (ap (λ x. book_broken t id v x) taken
      ∙ (ap (λ i. book_broken t i v (book_taken t false b)) (sym n.same_id)
      ∙ (ap (λ w. book_broken t n.c.id w (book_taken t false b)) (sym n.same_value)
      ∙ sym (ap (λ o. one_evicted t o b) n.is_next))))

  pub none_went : (t m : ℕ) (b q : SeenBook T) → Empty m ≡ take_answer false b.picture → q ≡ book_taken t false b → q ≡ one_evicted t (next_of b.picture) b
  none_went t m b q e taken = taken ∙ sym (ap (λ o. one_evicted t o b) (none_next (next_of b.picture) (take_orders (next_of b.picture) false b.picture) m e))

some_same : {X : Type 0} {x y : X} → Some x ≡ Some y → x ≡ y
some_same e = cc

-- an eviction at the moment t on its way: from the picture it began with to one, with what it handed over so far
pub record Evicting {T : Type 0} (t : ℕ) (first now : Picture T) (out : List (SeenReleased T)) : Type 0 where
  pub handed : out ++ map (released_at (max first.latest t)) (in_lending_order first.on_order.limits.order now.idle) ≡ evicted_of t first
  pub left : length out + length now.idle ≡ length first.idle
  pub lent : now.lent ≡ first.lent
  pub latest : max now.latest t ≡ max first.latest t
  pub limits : now.on_order.limits ≡ first.on_order.limits
  pub next_id : now.on_order.next_id ≡ first.on_order.next_id
  pub closed : now.on_order.closed ≡ first.on_order.closed
  pub pending : first.on_order.closed ≡ false → first.on_order.pending ≤ now.on_order.pending
  pub last_error : now.last_error ≡ first.last_error

-- what the closing of the next one leaves
pub record EvictsNext {T : Type 0} (t : ℕ) (p q : Picture T) : Type 0 where
  pub idle : q.idle ≡ still_idle p.on_order.limits.order p.idle
  pub lent : q.lent ≡ p.lent
  pub latest : q.latest ≡ max p.latest t
  pub limits : q.on_order.limits ≡ p.on_order.limits
  pub next_id : q.on_order.next_id ≡ p.on_order.next_id
  pub closed : q.on_order.closed ≡ p.on_order.closed
  pub pending : p.on_order.closed ≡ false → p.on_order.pending ≤ q.on_order.pending
  pub last_error : q.last_error ≡ p.last_error

module _ {T : Type 0} where
  pub evicting : (t : ℕ) (p : Picture T) → Evicting t p p []
  evicting t p = record { handed = refl; left = omega arith; lent = refl; latest = refl; limits = refl; next_id = refl; closed = refl; pending = λ e. omega arith; last_error = refl }

  next_first : (o : LendingOrder) (xs : List (SeenIdleConnection T)) (c : SeenIdleConnection T) → next_to_lend o xs ≡ Some c
      → in_lending_order o xs ≡ c ∷ in_lending_order o (still_idle o xs)
  next_first lending.NewestFirst xs c e = ap reverse (last_is xs c e) ∙ reverse-append (front xs) (c ∷ [])
  next_first lending.OldestFirst [] c e = absurd cc
  next_first lending.OldestFirst (x ∷ xs) c e = let same : x ≡ c = cc in ap (λ y. y ∷ xs) same

  -- the next one goes from those that are idle to what was handed over
  moved : (m : ℕ) (o : LendingOrder) (xs : List (SeenIdleConnection T)) (out : List (SeenReleased T)) (r : SeenReleased T) (c : SeenIdleConnection T)
      → next_to_lend o xs ≡ Some c → r ≡ released_at m c
      → (out ++ r ∷ []) ++ map (released_at m) (in_lending_order o (still_idle o xs)) ≡ out ++ map (released_at m) (in_lending_order o xs)
  moved m o xs out r c e is =
      append_assoc out (r ∷ []) (map (released_at m) (in_lending_order o (still_idle o xs)))
      ∙ (ap (λ x. out ++ x ∷ map (released_at m) (in_lending_order o (still_idle o xs))) is
      ∙ sym (ap (λ l. out ++ map (released_at m) l) (next_first o xs c e)))

  goes_on_by : (t : ℕ) (p q s : Picture T) (out : List (SeenReleased T)) (r : SeenReleased T) (n : Option (SeenIdleConnection T))
      → next_to_lend q.on_order.limits.order q.idle ≡ n → Some r ≡ option_map (released_at (max q.latest t)) n
      → Evicting t p q out → EvictsNext t q s → Evicting t p s (out ++ r ∷ [])
  goes_on_by t p q s out r None e is v x = absurd cc
  goes_on_by t p q s out r (Some c) e is v x =
      let order : q.on_order.limits.order ≡ p.on_order.limits.order = ap (λ l. l.order) v.limits in
      let moment : r ≡ released_at (max p.latest t) c = some_same is ∙ ap (λ m. released_at m c) v.latest in
      let next : next_to_lend p.on_order.limits.order q.idle ≡ Some c = ap (λ o. next_to_lend o q.idle) (sym order) ∙ e in
      let rest : s.idle ≡ still_idle p.on_order.limits.order q.idle = x.idle ∙ ap (λ o. still_idle o q.idle) order in
      record {
        handed = ap (λ l. (out ++ r ∷ []) ++ map (released_at (max p.latest t)) (in_lending_order p.on_order.limits.order l)) rest
            ∙ (moved (max p.latest t) p.on_order.limits.order q.idle out r c next moment ∙ v.handed);
        left = omega (arith, v.left, length_push out r, ap length rest, length-still_idle p.on_order.limits.order q.idle c next);
        lent = x.lent ∙ v.lent;
        latest = omega (arith, x.latest, v.latest);
        limits = x.limits ∙ v.limits;
        next_id = x.next_id ∙ v.next_id;
        closed = x.closed ∙ v.closed;
        pending = λ e. omega (arith, v.pending e, x.pending (v.closed ∙ e));
        last_error = x.last_error ∙ v.last_error;
      }

  pub goes_on : (t : ℕ) (p q s : Picture T) (out : List (SeenReleased T)) (r : SeenReleased T)
      → Some r ≡ option_map (released_at (max q.latest t)) (next_to_lend q.on_order.limits.order q.idle)
      → Evicting t p q out → EvictsNext t q s → Evicting t p s (out ++ r ∷ [])
  goes_on t p q s out r is v x = goes_on_by t p q s out r (next_to_lend q.on_order.limits.order q.idle) refl is v x

  more_by : (t : ℕ) (p q : Picture T) (out : List (SeenReleased T)) (r : SeenReleased T) (n : Option (SeenIdleConnection T))
      → next_to_lend q.on_order.limits.order q.idle ≡ n → Some r ≡ option_map (released_at (max q.latest t)) n
      → Evicting t p q out → IsSound p → length out < p.on_order.limits.max_size
  more_by t p q out r None e is v s = absurd cc
  more_by t p q out r (Some c) e is v s = omega (arith, v.left, length-still_idle q.on_order.limits.order q.idle c e, s.steady.counted, s.steady.fits)

  -- there is room for it
  pub has_more : (t : ℕ) (p q : Picture T) (out : List (SeenReleased T)) (r : SeenReleased T)
      → Some r ≡ option_map (released_at (max q.latest t)) (next_to_lend q.on_order.limits.order q.idle)
      → Evicting t p q out → IsSound p → length out < p.on_order.limits.max_size
  has_more t p q out r is v s = more_by t p q out r (next_to_lend q.on_order.limits.order q.idle) refl is v s

  -- and then fewer are left
  fewer_by : (m : ℕ) (q s : Picture T) (r : SeenReleased T) (n : Option (SeenIdleConnection T)) → next_of q ≡ n → Some r ≡ option_map (released_at m) n
      → s.idle ≡ still_idle q.on_order.limits.order q.idle → length s.idle < length q.idle
  fewer_by m q s r None e is left = absurd cc
  fewer_by m q s r (Some c) e is left = omega (arith, ap length left, length-still_idle q.on_order.limits.order q.idle c e)

  pub fewer : (m : ℕ) (q s : Picture T) (r : SeenReleased T) → Some r ≡ option_map (released_at m) (next_of q)
      → s.idle ≡ still_idle q.on_order.limits.order q.idle → length s.idle < length q.idle
  fewer m q s r is left = fewer_by m q s r (next_of q) refl is left

  -- where none is next it is done
  none_by : (m : ℕ) (n : Option (SeenIdleConnection T)) → None ≡ option_map (released_at m) n → n ≡ None
  none_by m None e = refl
  none_by m (Some c) e = absurd cc

  pub none_left : (t : ℕ) (q : Picture T) → None ≡ option_map (released_at (max q.latest t)) (next_to_lend q.on_order.limits.order q.idle) → q.idle ≡ []
  none_left t q e = none_is_next q.on_order.limits.order q.idle (none_by (max q.latest t) (next_to_lend q.on_order.limits.order q.idle) e)

  none_in_order : (o : LendingOrder) → in_lending_order {X = SeenIdleConnection T} o [] ≡ []
  none_in_order lending.NewestFirst = refl
  none_in_order lending.OldestFirst = refl

  pub all_handed : (t : ℕ) (p q : Picture T) (out : List (SeenReleased T)) → q.idle ≡ [] → Evicting t p q out → out ≡ evicted_of t p
  all_handed t p q out e v =
      sym (append-nil out)
      ∙ (sym (ap (λ l. out ++ map (released_at (max p.latest t)) l) (ap (in_lending_order p.on_order.limits.order) e ∙ none_in_order p.on_order.limits.order))
      ∙ v.handed)

  pub evicted : (t : ℕ) (p q s : Picture T) (out : List (SeenReleased T)) → q.idle ≡ [] → Evicting t p q out → EvictsNext t q s → IsEvicted t p s
  evicted t p q s out e v x = record {
    none_idle = x.idle ∙ (ap (still_idle q.on_order.limits.order) e ∙ none_still q.on_order.limits.order);
    lent = x.lent ∙ v.lent;
    latest = x.latest ∙ v.latest;
    limits = x.limits ∙ v.limits;
    next_id = x.next_id ∙ v.next_id;
    closed = x.closed ∙ v.closed;
    pending = λ e. omega (arith, v.pending e, x.pending (v.closed ∙ e));
    last_error = x.last_error ∙ v.last_error;
  }

  -- what is left to do from a book is what is left after the next one
  rest_by : (t m : ℕ) (b s : SeenBook T) (o : LendingOrder) (r : SeenReleased T) (n : Option (SeenIdleConnection T)) → next_to_lend o b.picture.idle ≡ n
      → Some r ≡ option_map (released_at m) n → s ≡ one_evicted t n b → s.picture.idle ≡ still_idle o b.picture.idle
      → each_evicted t (in_lending_order o s.picture.idle) s ≡ each_evicted t (in_lending_order o b.picture.idle) b
  rest_by t m b s o r None e is went left = absurd cc
  rest_by t m b s o r (Some c) e is went left =
      ap (λ l. each_evicted t (in_lending_order o l) s) left
      ∙ (ap (λ x. each_evicted t (in_lending_order o (still_idle o b.picture.idle)) x) went
      ∙ sym (ap (λ l. each_evicted t l b) (next_first o b.picture.idle c e)))

  pub rest_after : (t m : ℕ) (b s : SeenBook T) (o : LendingOrder) (r : SeenReleased T) → b.picture.on_order.limits.order ≡ o
      → Some r ≡ option_map (released_at m) (next_of b.picture) → s ≡ one_evicted t (next_of b.picture) b
      → s.picture.idle ≡ still_idle b.picture.on_order.limits.order b.picture.idle
      → each_evicted t (in_lending_order o s.picture.idle) s ≡ each_evicted t (in_lending_order o b.picture.idle) b
  rest_after t m b s o r same is went left =
      subst (λ o. each_evicted t (in_lending_order o s.picture.idle) s ≡ each_evicted t (in_lending_order o b.picture.idle) b) same
      (rest_by t m b s b.picture.on_order.limits.order r (next_of b.picture) refl is went left)

  -- and where none is idle, a take that finds none
  pub rest_of_none : (t m : ℕ) (b s : SeenBook T) (o : LendingOrder) → None ≡ option_map (released_at m) (next_of b.picture)
      → s ≡ one_evicted t (next_of b.picture) b → s ≡ each_evicted t (in_lending_order o b.picture.idle) b
  rest_of_none t m b s o is went =
      let none : next_of b.picture ≡ None = none_by m (next_of b.picture) is in
      let no_idle : b.picture.idle ≡ [] = none_is_next b.picture.on_order.limits.order b.picture.idle none in
      went ∙ (ap (λ n. one_evicted t n b) none ∙ sym (ap (λ l. each_evicted t l b) (ap (in_lending_order o) no_idle ∙ none_in_order o)))

-- one take more is counted
pub one_more_counted : (before so_far after count per_take : ℕ) → so_far ≡ before + count * per_take → after ≡ so_far + 1 * per_take
    → after ≡ before + (count + 1) * per_take
one_more_counted before so_far after count per_take e f = omega (arith, e, f)
