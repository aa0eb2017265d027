-- Reading a part leads on to the answer of the whole, whatever bytes follow.
use Rattle.std.proofs.Common.{◌≡◌, ℕ, zero, suc, ◌-◌, ◌<◌, ◌≤◌, Bool, true, false, cond, List, [], ◌∷◌, ◌++◌, length, drop, refl, sym, ap, subst, ◌∙◌, append_assoc, arith, nat_eq, get_or, Option, None, Some}
use Rattle.std.specs.Prelude.{nat_lt, IfSome, is_some, option_copied}
use Rattle.std.specs.Option.{option_eq}
use Rattle.std.specs.Borrow.{Bor}
use Rattle.std.proofs.lemmas.Bool.{le-ltb, lt-ltb, eqb-true, eq-eqb, true≢false}
use Rattle.std.proofs.lemmas.List.{drop-append-le, append-nil, length-append}
use Rattle.redis_codec.specs.declared.item.Fault.{Fault}
use Rattle.redis_codec.specs.declared.item.Fault.TheVariants.{TooMuch}
use Rattle.redis_codec.specs.declared.item.CodecError.{CodecError}
use Rattle.redis_codec.specs.declared.item.CodecError.TheVariants as error
use Rattle.redis_codec.specs.declared.item.Item.{Item}
use Rattle.redis_codec.specs.declared.decoder.Limits.{Limits}
use Rattle.redis_codec.specs.declared.reading.Progress.{Progress}
use Rattle.redis_codec.specs.Resp.{Part, seen, seen_all, Read, Short, Faulty, Found, ◌>>=◌, IsReadAgain, Lasts, Fails, part_at}
use Rattle.redis_codec.specs.Answers.{weight, count_of, settled, lacking_after, Reading, is_too_deep, with_part, step, if_lacking, whole, begin, answer_at, reading_of, Ends, outcome, Follows, Leads, Begins}
use Rattle.redis_codec.proofs.Again.{again_then, again_cond, behind, part_at-again, part_at-ends, found_at, at_rest, ends_drop}

-- READ AGAIN

abbrev longer : List ℕ → Reading → Reading
longer more r = record r { rest = r.rest ++ more }

with_part-again : (depth : ℕ) (r : Reading) (p : Part × List ℕ) (more : List ℕ) → IsReadAgain (longer more) (with_part depth r p) (with_part depth (longer more r) (behind more p))
unfolding with_part
with_part-again depth r p more =
    again_cond (longer more) (nat_lt r.room (weight p.0)) _ _ _ _ refl
    (again_cond (longer more) (is_too_deep depth (length r.lacking) (count_of p.0)) _ _ _ _ refl refl)

step-again : (depth : ℕ) (r : Reading) (more : List ℕ) → IsReadAgain (longer more) (step depth r) (step depth (longer more r))
unfolding step
step-again depth r more =
    again_then (behind more) (longer more) (part_at r.room r.rest) (part_at r.room (r.rest ++ more)) (with_part depth r) (with_part depth (longer more r))
    (part_at-again r.room r.rest more) (λ p e. with_part-again depth r p more)

again_if : {X : Type 0} (f : X → X) (lacking : List ℕ) (r s r' s' : Read X) → IsReadAgain f r r' → IsReadAgain f s s' → IsReadAgain f (if_lacking lacking r s) (if_lacking lacking r' s')
again_if f [] r s r' s' p q = p
again_if f (n ∷ lacking) r s r' s' p q = q

whole-again : (depth left : ℕ) (r : Reading) (more : List ℕ) → Lasts more (whole depth left r) (whole depth left (longer more r))
unfolding whole
whole-again depth zero r more = again_if (behind more) r.lacking (Found (r.parts, r.rest)) (Faulty TooMuch) (Found (r.parts, r.rest ++ more)) (Faulty TooMuch) refl refl
whole-again depth (suc left) r more =
    again_if (behind more) r.lacking (Found (r.parts, r.rest)) (step depth r >>= whole depth left) (Found (r.parts, r.rest ++ more)) (step depth (longer more r) >>= whole depth left) refl
    (again_then (longer more) (behind more) (step depth r) (step depth (longer more r)) (whole depth left) (whole depth left) (step-again depth r more) (λ s e. whole-again depth left s more))

pub answer_at-again : (limits : Limits) (bytes more : List ℕ) → Lasts more (answer_at limits bytes) (answer_at limits (bytes ++ more))
unfolding answer_at
answer_at-again limits bytes more = whole-again limits.depth limits.parts (begin limits bytes) more

-- A STEP

goes_on : {X : Type 0} (lacking : List ℕ) (r s : X) → 0 < length lacking → if_lacking lacking r s ≡ s
goes_on [] r s h = absurd (omega arith)
goes_on (n ∷ lacking) r s h = refl

whole-step : (depth left : ℕ) (r : Reading) → 0 < length r.lacking → whole depth (suc left) r ≡ (step depth r >>= whole depth left)
unfolding whole
whole-step depth left r h = goes_on r.lacking (Found (r.parts, r.rest)) (step depth r >>= whole depth left) h

whole-none_left : (depth : ℕ) (r : Reading) → 0 < length r.lacking → whole depth 0 r ≡ Faulty TooMuch
unfolding whole
whole-none_left depth r h = goes_on r.lacking (Found (r.parts, r.rest)) (Faulty TooMuch) h

is_whole : {X : Type 0} (lacking : List ℕ) (r s : X) → lacking ≡ [] → if_lacking lacking r s ≡ r
is_whole [] r s e = refl
is_whole (n ∷ lacking) r s e = absurd cc

whole-done : (depth left : ℕ) (r : Reading) → r.lacking ≡ [] → whole depth left r ≡ Found (r.parts, r.rest)
unfolding whole
whole-done depth zero r e = is_whole r.lacking (Found (r.parts, r.rest)) (Faulty TooMuch) e
whole-done depth (suc left) r e = is_whole r.lacking (Found (r.parts, r.rest)) (step depth r >>= whole depth left) e

-- OUTCOMES OF A STEP, over what the code has

one_less : (n : ℕ) → 0 < n → (m : ℕ) × (n ≡ suc m)
one_less zero h = absurd (omega arith)
one_less (suc m) h = (m, refl)

-- the step at its bytes, where it is one
outcome_is : (depth : ℕ) (p : Progress) (bytes : List ℕ) (left : ℕ) → 0 < length p.lacking.items → p.left ≡ suc left →
    outcome depth p bytes ≡ (part_at p.room (drop p.at bytes) >>= with_part depth (reading_of p bytes) >>= whole depth left)
unfolding step
outcome_is depth p bytes left h e = ap (λ (n : ℕ). whole depth n (reading_of p bytes)) e ∙ whole-step depth left (reading_of p bytes) h

pub none_left : (depth : ℕ) (p : Progress) (bytes : List ℕ) → 0 < length p.lacking.items → p.left ≡ 0 → outcome depth p bytes ≡ Faulty TooMuch
none_left depth p bytes h e = ap (λ (n : ℕ). whole depth n (reading_of p bytes)) e ∙ whole-none_left depth (reading_of p bytes) h

pub short_part : (depth : ℕ) (p : Progress) (bytes : List ℕ) → 0 < length p.lacking.items → 0 < p.left → part_at p.room (drop p.at bytes) ≡ Short → outcome depth p bytes ≡ Short
short_part depth p bytes h l e =
    let m = one_less p.left l in
    outcome_is depth p bytes m.0 h m.1 ∙ ap (λ (z : Read (Part × List ℕ)). z >>= with_part depth (reading_of p bytes) >>= whole depth m.0) e

pub faulty_part : (depth : ℕ) (p : Progress) (bytes : List ℕ) (why : Fault) → 0 < length p.lacking.items → 0 < p.left → part_at p.room (drop p.at bytes) ≡ Faulty why → outcome depth p bytes ≡ Faulty why
faulty_part depth p bytes why h l e =
    let m = one_less p.left l in
    outcome_is depth p bytes m.0 h m.1 ∙ ap (λ (z : Read (Part × List ℕ)). z >>= with_part depth (reading_of p bytes) >>= whole depth m.0) e

found_part : (depth : ℕ) (p : Progress) (bytes : List ℕ) (left : ℕ) (it : Part × List ℕ) → 0 < length p.lacking.items → p.left ≡ suc left → part_at p.room (drop p.at bytes) ≡ Found it →
    outcome depth p bytes ≡ (with_part depth (reading_of p bytes) it >>= whole depth left)
found_part depth p bytes left it h l e = outcome_is depth p bytes left h l ∙ ap (λ (z : Read (Part × List ℕ)). z >>= with_part depth (reading_of p bytes) >>= whole depth left) e

too_heavy : (depth : ℕ) (r : Reading) (it : Part × List ℕ) → nat_lt r.room (weight it.0) ≡ true → with_part depth r it ≡ Faulty TooMuch
unfolding with_part
too_heavy depth r it e = rw e refl

too_deep : (b : Bool) (depth : ℕ) (r : Reading) (it : Part × List ℕ) → nat_lt r.room (weight it.0) ≡ b → is_too_deep depth (length r.lacking) (count_of it.0) ≡ true → with_part depth r it ≡ Faulty TooMuch
unfolding with_part
too_deep true depth r it w e = rw w refl
too_deep false depth r it w e = rw (w, e) refl

taken : (depth : ℕ) (r : Reading) (it : Part × List ℕ) → nat_lt r.room (weight it.0) ≡ false → is_too_deep depth (length r.lacking) (count_of it.0) ≡ false →
    with_part depth r it ≡ Found (record { parts = r.parts ++ it.0 ∷ []; room = r.room - weight it.0; lacking = lacking_after (count_of it.0) r.lacking; rest = it.1 })
unfolding with_part
taken depth r it w e = rw (w, e) refl

pub heavy_part : (depth : ℕ) (p : Progress) (bytes : List ℕ) (it : Part × List ℕ) → 0 < length p.lacking.items → 0 < p.left → part_at p.room (drop p.at bytes) ≡ Found it →
    nat_lt p.room (weight it.0) ≡ true → outcome depth p bytes ≡ Faulty TooMuch
heavy_part depth p bytes it h l e w =
    let m = one_less p.left l in
    found_part depth p bytes m.0 it h m.1 e ∙ ap (λ (z : Read Reading). z >>= whole depth m.0) (too_heavy depth (reading_of p bytes) it w)

pub deep_part : (depth : ℕ) (p : Progress) (bytes : List ℕ) (it : Part × List ℕ) → 0 < length p.lacking.items → 0 < p.left → part_at p.room (drop p.at bytes) ≡ Found it →
    is_too_deep depth (length p.lacking.items) (count_of it.0) ≡ true → outcome depth p bytes ≡ Faulty TooMuch
deep_part depth p bytes it h l e d =
    let m = one_less p.left l in
    found_part depth p bytes m.0 it h m.1 e ∙ ap (λ (z : Read Reading). z >>= whole depth m.0) (too_deep (nat_lt p.room (weight it.0)) depth (reading_of p bytes) it refl d)

seen_all-append : (xs : List Item) (x : Item) → seen_all (xs ++ x ∷ []) ≡ seen_all xs ++ seen x ∷ []
seen_all-append [] x = refl
seen_all-append (y ∷ xs) x = ap (λ (z : List Part). seen y ∷ z) (seen_all-append xs x)

same_reading : (a b : List Part) (m n : ℕ) (k l : List ℕ) (x y : List ℕ) → a ≡ b → m ≡ n → k ≡ l → x ≡ y →
    (let one : Reading = record { parts = a; room = m; lacking = k; rest = x } in one) ≡ (let other : Reading = record { parts = b; room = n; lacking = l; rest = y } in other)
same_reading a b m n k l x y p q r s = λ i. record { parts = p i; room = q i; lacking = r i; rest = s i }

-- what a step takes
pub record Takes (old new : Progress) (item : Item) (rest bytes : List ℕ) : Type 0 where
  pub at : new.at ≡ length bytes - length rest
  pub items : new.items.items ≡ old.items.items ++ item ∷ []
  pub lacking : new.lacking.items ≡ lacking_after (count_of (seen item)) old.lacking.items
  pub room : new.room ≡ old.room - weight (seen item)
  pub left : old.left ≡ suc new.left

pub part_follows : (depth : ℕ) (old new : Progress) (bytes : List ℕ) (item : Item) (rest : List ℕ) → old.at ≤ length bytes → 0 < length old.lacking.items →
    part_at old.room (drop old.at bytes) ≡ Found (seen item, rest) → weight (seen item) ≤ old.room → is_too_deep depth (length old.lacking.items) (count_of (seen item)) ≡ false →
    Takes old new item rest bytes → Follows depth old new bytes
part_follows depth old new bytes item rest at h e w d t =
    let ends : Ends rest (drop old.at bytes) = found_at (λ (it : Part × List ℕ). Ends it.1 (drop old.at bytes)) (part_at old.room (drop old.at bytes)) (seen item, rest) e (part_at-ends old.room (drop old.at bytes)) in
    let all : Ends rest bytes = ends_drop old.at rest bytes ends in
    let within : new.at ≤ length bytes = rw t.at (omega arith) in
    let light : nat_lt old.room (weight (seen item)) ≡ false = le-ltb old.room (weight (seen item)) w in
    record {
      within = within;
      same = λ more.
          let again : part_at old.room (drop old.at (bytes ++ more)) ≡ Found (seen item, rest ++ more) =
          ap (part_at old.room) (drop-append-le old.at bytes more at) ∙ subst (λ (z : Read (Part × List ℕ)). IsReadAgain (behind more) z (part_at old.room (drop old.at bytes ++ more))) e (part_at-again old.room (drop old.at bytes) more) in
          let here : drop new.at (bytes ++ more) ≡ rest ++ more =
          drop-append-le new.at bytes more within ∙ ap (λ (z : List ℕ). z ++ more) (ap (λ (n : ℕ). drop n bytes) t.at ∙ at_rest rest bytes all) in
          found_part depth old (bytes ++ more) new.left (seen item, rest ++ more) h t.left again
          ∙ ap (λ (z : Read Reading). z >>= whole depth new.left) (taken depth (reading_of old (bytes ++ more)) (seen item, rest ++ more) light d)
          ∙ ap (whole depth new.left) (same_reading _ _ _ _ _ _ _ _ (sym (ap seen_all t.items ∙ seen_all-append old.items.items item)) (sym t.room) (sym t.lacking) (sym here));
    }

-- WAYS

pub follows_same : (depth : ℕ) (p : Progress) (bytes : List ℕ) → p.at ≤ length bytes → Follows depth p p bytes
follows_same depth p bytes h = record { within = h; same = λ more. refl }

pub follows_then : (depth : ℕ) (a b c : Progress) (bytes : List ℕ) → Follows depth a b bytes → Follows depth b c bytes → Follows depth a c bytes
follows_then depth a b c bytes p q = record { within = q.within; same = λ more. p.same more ∙ q.same more }

pub leads_on : (limits : Limits) (a b : Progress) (bytes : List ℕ) → Leads limits a bytes → Follows limits.depth a b bytes → Leads limits b bytes
leads_on limits a b bytes l f = record { within = f.within; same = λ more. sym (f.same more) ∙ l.same more }

pub leads_further : (limits : Limits) (p : Progress) (bytes piece : List ℕ) → Leads limits p bytes → Leads limits p (bytes ++ piece)
leads_further limits p bytes piece l = record {
  within = let h : p.at ≤ length bytes = l.within in omega (arith, length-append bytes piece);
  same = λ more. ap (outcome limits.depth p) (append_assoc bytes piece more) ∙ l.same (piece ++ more) ∙ ap (answer_at limits) (sym (append_assoc bytes piece more));
}

pub leads_fed : (b : Bool) (limits : Limits) (p : Progress) (bytes piece now : List ℕ) → now ≡ cond b (bytes ++ piece) bytes → Leads limits p bytes → Leads limits p now
leads_fed true limits p bytes piece now e l = subst (Leads limits p) (sym e) (leads_further limits p bytes piece l)
leads_fed false limits p bytes piece now e l = subst (Leads limits p) (sym e) l

pub leads_first : (limits : Limits) (p : Progress) (bytes : List ℕ) → Begins limits p → Leads limits p bytes
unfolding answer_at
leads_first limits p bytes b = record {
  within = rw b.at (omega arith);
  same = λ more. ap (λ (n : ℕ). whole limits.depth n (reading_of p (bytes ++ more))) b.left
      ∙ ap (whole limits.depth limits.parts) (same_reading _ _ _ _ _ _ _ _ (ap seen_all b.items) b.room b.lacking (ap (λ (n : ℕ). drop n (bytes ++ more)) b.at));
}

-- the answer as it stands
pub leads_now : (limits : Limits) (p : Progress) (bytes : List ℕ) → Leads limits p bytes → answer_at limits bytes ≡ outcome limits.depth p bytes
leads_now limits p bytes l = subst (λ (z : List ℕ). answer_at limits z ≡ outcome limits.depth p z) (append-nil bytes) (sym (l.same []))

pub leads_whole : (limits : Limits) (p : Progress) (bytes : List ℕ) → Leads limits p bytes → p.lacking.items ≡ [] → answer_at limits bytes ≡ Found (seen_all p.items.items, drop p.at bytes)
leads_whole limits p bytes l e = leads_now limits p bytes l ∙ whole-done limits.depth p.left (reading_of p bytes) e

pub fails_part : (depth : ℕ) (p : Progress) (bytes : List ℕ) (e : CodecError) → 0 < length p.lacking.items → 0 < p.left → Fails e (part_at p.room (drop p.at bytes)) → Fails e (outcome depth p bytes)
fails_part depth p bytes error.Memory h l f = tt
fails_part depth p bytes (error.Fault why) h l f = faulty_part depth p bytes why h l f
fails_part depth p bytes error.Unasked h l f = f

pub part_ends : (room at : ℕ) (bytes : List ℕ) (p : Part) (rest : List ℕ) → part_at room (drop at bytes) ≡ Found (p, rest) → Ends rest bytes
part_ends room at bytes p rest e = ends_drop at rest bytes (found_at (λ (it : Part × List ℕ). Ends it.1 (drop at bytes)) (part_at room (drop at bytes)) (p, rest) e (part_at-ends room (drop at bytes)))

-- LISTS THAT LACK NOTHING

none_ahead : (r : Option (Bor ℕ)) → is_some r ≡ false → option_eq nat_eq (option_copied r) (Some 0) ≡ false
none_ahead None e = refl
none_ahead (Some x) e = absurd cc

some_ahead : (n : ℕ) (r : Option (Bor ℕ)) → is_some r ≡ true → IfSome r (λ x. x.now ≡ n) → option_eq nat_eq (option_copied r) (Some 0) ≡ nat_eq n 0
some_ahead n None e h = absurd cc
some_ahead n (Some x) e h = ap (λ (m : ℕ). nat_eq m 0) h

same_front : (n : ℕ) (xs : List ℕ) (r : Option (Bor ℕ)) → IfSome r (λ x. x.now ≡ get_or (n ∷ xs) 0 x.now) → IfSome r (λ x. x.now ≡ n)
same_front n xs None h = tt
same_front n xs (Some x) h = h

pub settled-step : (xs : List ℕ) (r : Option (Bor ℕ)) → is_some r ≡ nat_lt 0 (length xs) → IfSome r (λ x. x.now ≡ get_or xs 0 x.now) → option_eq nat_eq (option_copied r) (Some 0) ≡ true → settled (drop 1 xs) ≡ settled xs
unfolding settled
settled-step [] r s h e = absurd (let both : true ≡ false = sym e ∙ none_ahead r s in true≢false both)
settled-step (zero ∷ xs) r s h e = refl
settled-step (suc n ∷ xs) r s h e = absurd (let one : is_some r ≡ true = s ∙ lt-ltb 0 (suc (length xs)) (omega arith) in let zero_is : suc n ≡ 0 = eqb-true (suc n) 0 (sym (some_ahead (suc n) r one (same_front (suc n) xs r h)) ∙ e) in omega arith)

pub settled-end : (xs : List ℕ) (r : Option (Bor ℕ)) → is_some r ≡ nat_lt 0 (length xs) → IfSome r (λ x. x.now ≡ get_or xs 0 x.now) → option_eq nat_eq (option_copied r) (Some 0) ≡ false → settled xs ≡ xs
unfolding settled
settled-end [] r s h e = refl
settled-end (zero ∷ xs) r s h e = absurd (let one : is_some r ≡ true = s ∙ lt-ltb 0 (suc (length xs)) (omega arith) in let both : true ≡ false = sym (some_ahead 0 r one (same_front 0 xs r h) ∙ eq-eqb 0 0 refl) ∙ e in true≢false both)
settled-end (suc n ∷ xs) r s h e = refl

-- AN ANSWER, over what the decoder has

pub next_fails : (limits : Limits) (old new : Progress) (bytes slice : List ℕ) (e : CodecError) → slice ≡ bytes → Leads limits old bytes → Follows limits.depth old new slice →
    Fails e (outcome limits.depth new slice) → Fails e (answer_at limits bytes)
next_fails limits old new bytes slice e s l f h =
    let leads : Leads limits old slice = subst (Leads limits old) (sym s) l in
    subst (λ (z : List ℕ). Fails e (answer_at limits z)) s (subst (Fails e) (sym (leads_now limits new slice (leads_on limits old new slice leads f))) h)

pub next_short : (limits : Limits) (old new : Progress) (bytes slice : List ℕ) → slice ≡ bytes → Leads limits old bytes → Follows limits.depth old new slice →
    outcome limits.depth new slice ≡ Short → answer_at limits bytes ≡ Short
next_short limits old new bytes slice s l f h =
    let leads : Leads limits old slice = subst (Leads limits old) (sym s) l in
    sym (ap (answer_at limits) s) ∙ leads_now limits new slice (leads_on limits old new slice leads f) ∙ h

pub next_whole : (limits : Limits) (old new : Progress) (bytes slice : List ℕ) → slice ≡ bytes → Leads limits old bytes → Follows limits.depth old new slice →
    new.lacking.items ≡ [] → answer_at limits bytes ≡ Found (seen_all new.items.items, drop new.at bytes)
next_whole limits old new bytes slice s l f h =
    let leads : Leads limits old slice = subst (Leads limits old) (sym s) l in
    sym (ap (answer_at limits) s) ∙ leads_whole limits new slice (leads_on limits old new slice leads f) h ∙ ap (λ (z : List ℕ). Found (seen_all new.items.items, drop new.at z)) s
