-- Steps that order openings, and do nothing else to what is on order.
use Rattle.std.proofs.Common.{◌≡◌, ℕ, ◌+◌, ◌-◌, ◌≤◌, min, Bool, true, false, cond, List, [], map, length, Option, None, refl, sym, ◌∙◌, ap, arith}
use Rattle.std.specs.Prelude.{filter, not}
use Rattle.std.specs.List.{range_with_len}
use Rattle.std.proofs.Math.Path.{fun_ext}
use Rattle.pool_machine.specs.declared.step.Step.{Step}
use Rattle.pool_machine.specs.Limits.{wanted_of}
use Rattle.pool_machine.specs.Connections.{SeenIdleConnection, SeenLentConnection}
use Rattle.pool_machine.specs.Seen.{SeenAnswer}
use Rattle.pool_machine.specs.Openings.{opening, with_many}
use Rattle.pool_machine.specs.OnOrder.{SeenOnOrder, with_orders, top_up_beside}
use Rattle.pool_machine.specs.Picture.{Picture, IsSound}
use Rattle.pool_machine.specs.Table.{ordered}
use Rattle.r2d2_core.specs.History.{History, Then, limits_of, is_closed, now_of, moment_of}
use Rattle.r2d2_core.specs.Deeds.{idle_of, lent_of, connections_of, admitted_count}
use Rattle.r2d2_core.proofs.Histories.Kept.{gone_count}
use Rattle.r2d2_core.specs.Pending.{ordered_in, ordered_of, pending_of, scheduled_of, begun_of, ended_of, in_work_at, in_work_of, ids_of, next_id_of}
use Rattle.r2d2_core.specs.Pending.{is_admitted, numbered_of, reaps_of, next_reap_of, on_order_of}
use Rattle.r2d2_core.specs.Answers.{refusal_of, orders_of, orders_by, top_up_after, reply_at, reply_with, last_error_of, picture_of}
use Rattle.r2d2_core.proofs.Histories.Kept.{IsKept}

-- a step after h, with its reply, orders as many as the reply says, and does nothing else to what is on order
pub record IsOrdering {T : Type 0} (h : History T) (s : Step T) (r : SeenAnswer T) : Type 0 where
  pub closed : is_closed (Then h s r) ≡ is_closed h
  pub scheduled : scheduled_of (Then h s r) ≡ with_many (ordered_in r) (opening (moment_of h s) 0) (scheduled_of h)
  pub begun : (k : ℕ) → begun_of (Then h s r) k ≡ begun_of h k
  pub ended : (k : ℕ) → ended_of (Then h s r) k ≡ ended_of h k
  pub ids : ids_of (Then h s r) ≡ ids_of h
  pub admitted : (i : ℕ) → is_admitted (Then h s r) i ≡ is_admitted h i
  pub count : admitted_count (Then h s r) ≡ admitted_count h
  pub reaps : reaps_of (Then h s r) ≡ reaps_of h

pub maps_agree : {X Y : Type 0} (f g : X → Y) (xs : List X) → ((x : X) → f x ≡ g x) → map f xs ≡ map g xs
maps_agree f g xs e = ap (λ f. map f xs) (fun_ext e)

pub filters_agree : {X : Type 0} (f g : X → Bool) (xs : List X) → ((x : X) → f x ≡ g x) → filter f xs ≡ filter g xs
filters_agree f g xs e = ap (λ f. filter f xs) (fun_ext e)

-- n more are pending, where none is ordered once closed
pub pending_more : (b : Bool) (a n m : ℕ) → (b ≡ true → n ≡ 0) → (b ≡ false → m ≤ a) → cond b 0 (a + n - m) ≡ cond b 0 (a - m) + n
pending_more true a n m zero_if le = let z : n ≡ 0 = zero_if refl in omega arith
pending_more false a n m zero_if le = let l : m ≤ a = le refl in omega arith

-- no openings are ordered
pub with_orders-none : (t : ℕ) (o : SeenOnOrder) → with_orders 0 t o ≡ o
with_orders-none t o = let e : o.pending + 0 ≡ o.pending = omega arith in ap (λ n. record o { pending = n }) e

pub same_on_order : (o : SeenOnOrder) {scheduled scheduled' : List _} {in_work in_work' numbered numbered' : List ℕ} {next_reap next_reap' : Option ℕ}
    {next_id next_id' pending pending' : ℕ} {closed closed' : Bool}
    → scheduled ≡ scheduled' → in_work ≡ in_work' → numbered ≡ numbered' → next_reap ≡ next_reap' → next_id ≡ next_id' → pending ≡ pending' → closed ≡ closed'
    → ◌≡◌ {A = SeenOnOrder} (record {
      limits = o.limits;
      scheduled = scheduled;
      in_work = in_work;
      numbered = numbered;
      next_reap = next_reap;
      next_id = next_id;
      pending = pending;
      closed = closed;
    })
    (record {
      limits = o.limits;
      scheduled = scheduled';
      in_work = in_work';
      numbered = numbered';
      next_reap = next_reap';
      next_id = next_id';
      pending = pending';
      closed = closed';
    })
same_on_order o e1 e2 e3 e4 e5 e6 e7 = rw (e1, e2, e3, e4, e5, e6, e7) refl

module _ {T : Type 0} where
  -- the answer to a step that is accepted, were it to order n openings
  abbrev pub accepted_with : History T → ℕ → Step T → SeenAnswer T
  accepted_with h n s = reply_at h None (moment_of h s) n s

  -- a closed core orders nothing
  pub orders_if_closed : (h : History T) (s : Step T) → is_closed h ≡ true → orders_of h s ≡ 0
  unfolding orders_of
  orders_if_closed h s e = ap (λ b. cond b 0 (orders_by h (Then h s (reply_with h 0 s)) s (reply_with h 0 s))) e

  pub pending_of-ordered : (h : History T) (s : Step T) (r : SeenAnswer T) → IsOrdering h s r → IsKept h → (is_closed h ≡ true → ordered_in r ≡ 0)
      → pending_of (Then h s r) ≡ pending_of h + ordered_in r
  unfolding pending_of
  pending_of-ordered h s r o kept none =
      ap (λ b. cond b 0 (ordered_of h + ordered_in r - admitted_count (Then h s r))) o.closed
      ∙ (ap (λ n. cond (is_closed h) 0 (ordered_of h + ordered_in r - n)) o.count
      ∙ pending_more (is_closed h) (ordered_of h) (ordered_in r) (admitted_count h) none kept.admitted_were_ordered)

  pub in_work_at-same : (h : History T) (s : Step T) (r : SeenAnswer T) (k : ℕ) → is_closed (Then h s r) ≡ is_closed h → begun_of (Then h s r) k ≡ begun_of h k
      → ended_of (Then h s r) k ≡ ended_of h k
      → in_work_at (Then h s r) k ≡ in_work_at h k
  unfolding in_work_at
  in_work_at-same h s r k closed begun ended = rw (closed, begun, ended) refl

  pub in_work_of-same : (h : History T) (s : Step T) (r : SeenAnswer T) → is_closed (Then h s r) ≡ is_closed h
      → ((k : ℕ) → begun_of (Then h s r) k ≡ begun_of h k) → ((k : ℕ) → ended_of (Then h s r) k ≡ ended_of h k)
      → in_work_of (Then h s r) ≡ in_work_of h
  unfolding in_work_of
  in_work_of-same h s r closed begun ended = maps_agree (in_work_at (Then h s r)) (in_work_at h) (range_with_len 0 100)
      (λ k. in_work_at-same h s r k closed (begun k) (ended k))

  pub next_id_of-same : (h : History T) (s : Step T) (r : SeenAnswer T) → ids_of (Then h s r) ≡ ids_of h → next_id_of (Then h s r) ≡ next_id_of h
  unfolding next_id_of
  next_id_of-same h s r ids = rw ids refl

  pub numbered_of-same : (h : History T) (s : Step T) (r : SeenAnswer T) → is_closed (Then h s r) ≡ is_closed h → ids_of (Then h s r) ≡ ids_of h
      → ((i : ℕ) → is_admitted (Then h s r) i ≡ is_admitted h i)
      → numbered_of (Then h s r) ≡ numbered_of h
  unfolding numbered_of
  numbered_of-same h s r closed ids admitted =
      ap (λ b. cond b [] (filter (λ i. not (is_admitted (Then h s r) i)) (ids_of (Then h s r)))) closed
      ∙ (ap (λ l. cond (is_closed h) [] (filter (λ i. not (is_admitted (Then h s r) i)) l)) ids
      ∙ ap (λ l. cond (is_closed h) [] l) (filters_agree (λ i. not (is_admitted (Then h s r) i)) (λ i. not (is_admitted h i)) (ids_of h)
      (λ i. ap not (admitted i))))

  pub next_reap_of-same : (h : History T) (s : Step T) (r : SeenAnswer T) → is_closed (Then h s r) ≡ is_closed h → reaps_of (Then h s r) ≡ reaps_of h
      → next_reap_of (Then h s r) ≡ next_reap_of h
  unfolding next_reap_of
  next_reap_of-same h s r closed reaps = rw (closed, reaps) refl

  -- a step that orders and admits none
  pub pending_of-same : (h : History T) (s : Step T) (r : SeenAnswer T) → is_closed (Then h s r) ≡ is_closed h → ordered_in r ≡ 0
      → admitted_count (Then h s r) ≡ admitted_count h → pending_of (Then h s r) ≡ pending_of h
  unfolding pending_of
  pending_of-same h s r closed none count =
      let ordered_is : ordered_of h + ordered_in r ≡ ordered_of h = omega (arith, none) in
      rw (closed, count, ordered_is) refl

  -- what is on order after it
  pub on_order_of-ordered : (h : History T) (s : Step T) (r : SeenAnswer T) → IsOrdering h s r → IsKept h → (is_closed h ≡ true → ordered_in r ≡ 0)
      → on_order_of (Then h s r) ≡ with_orders (ordered_in r) (moment_of h s) (on_order_of h)
  unfolding on_order_of
  on_order_of-ordered h s r o kept none =
      same_on_order (on_order_of h) o.scheduled
      (in_work_of-same h s r o.closed o.begun o.ended)
      (numbered_of-same h s r o.closed o.ids o.admitted)
      (next_reap_of-same h s r o.closed o.reaps)
      (next_id_of-same h s r o.ids)
      (pending_of-ordered h s r o kept none)
      o.closed

  -- a step that orders nothing, and does nothing else to what is on order
  pub on_order_of-unchanged : (h : History T) (s : Step T) (r : SeenAnswer T) → IsOrdering h s r → IsKept h → ordered_in r ≡ 0
      → on_order_of (Then h s r) ≡ on_order_of h
  on_order_of-unchanged h s r o kept none =
      on_order_of-ordered h s r o kept (λ closed. none)
      ∙ (ap (λ n. with_orders n (moment_of h s) (on_order_of h)) none ∙ with_orders-none (moment_of h s) (on_order_of h))

  pub same_picture : {latest latest' : ℕ} {idle idle' : List (SeenIdleConnection T)} {lent lent' : List SeenLentConnection} {on_order on_order' : SeenOnOrder}
      {connections connections' : ℕ} {last_error last_error' : Option (List ℕ)}
      → latest ≡ latest' → idle ≡ idle' → lent ≡ lent' → on_order ≡ on_order' → connections ≡ connections' → last_error ≡ last_error'
      → ◌≡◌ {A = Picture T} (record { latest = latest; idle = idle; lent = lent; on_order = on_order; connections = connections; last_error = last_error })
      (record { latest = latest'; idle = idle'; lent = lent'; on_order = on_order'; connections = connections'; last_error = last_error' })
  same_picture e1 e2 e3 e4 e5 e6 = rw (e1, e2, e3, e4, e5, e6) refl

  -- the picture of a history, field by field
  pub picture_of-is : (h : History T) (p : Picture T) → now_of h ≡ p.latest → idle_of h ≡ p.idle → lent_of h ≡ p.lent → on_order_of h ≡ p.on_order
      → connections_of h ≡ p.connections → last_error_of h ≡ p.last_error → picture_of h ≡ p
  unfolding picture_of
  picture_of-is h p latest idle lent on_order connections last_error = same_picture latest idle lent on_order connections last_error

  -- the picture after a step that orders n, where p is the picture with all else that the step does
  pub picture_of-ordered : (h : History T) (s : Step T) (r : SeenAnswer T) (p : Picture T) (n : ℕ) → IsOrdering h s r → IsKept h → ordered_in r ≡ n
      → (is_closed h ≡ true → n ≡ 0)
      → moment_of h s ≡ p.latest → idle_of (Then h s r) ≡ p.idle → lent_of (Then h s r) ≡ p.lent → on_order_of h ≡ p.on_order
      → connections_of (Then h s r) ≡ p.connections → last_error_of (Then h s r) ≡ p.last_error
      → picture_of (Then h s r) ≡ ordered n p
  picture_of-ordered h s r p n o kept is_n none latest idle lent on_order connections last_error =
      picture_of-is (Then h s r) (ordered n p) latest idle lent
      (on_order_of-ordered h s r o kept (λ closed. is_n ∙ none closed)
      ∙ (ap (λ k. with_orders k (moment_of h s) (on_order_of h)) is_n
      ∙ (ap (λ t. with_orders n t (on_order_of h)) latest ∙ ap (with_orders n p.latest) on_order)))
      connections last_error

  -- the picture after a step that orders nothing
  pub picture_of-unordered : (h : History T) (s : Step T) (r : SeenAnswer T) (p : Picture T) → IsOrdering h s r → IsKept h → ordered_in r ≡ 0
      → moment_of h s ≡ p.latest → idle_of (Then h s r) ≡ p.idle → lent_of (Then h s r) ≡ p.lent → on_order_of h ≡ p.on_order
      → connections_of (Then h s r) ≡ p.connections → last_error_of (Then h s r) ≡ p.last_error
      → picture_of (Then h s r) ≡ p
  picture_of-unordered h s r p o kept none latest idle lent on_order connections last_error =
      picture_of-is (Then h s r) p latest idle lent (on_order_of-unchanged h s r o kept none ∙ on_order) connections last_error

  -- what a step orders that nothing refuses
  pub orders_of-accepted : (h : History T) (s : Step T) → refusal_of h s ≡ None
      → orders_of h s ≡ cond (is_closed h) 0 (orders_by h (Then h s (accepted_with h 0 s)) s (accepted_with h 0 s))
  unfolding orders_of
  orders_of-accepted h s none =
      ap (λ o. cond (is_closed h) 0 (orders_by h (Then h s (reply_at h o (moment_of h s) 0 s)) s (reply_at h o (moment_of h s) 0 s))) none

  -- a step that tops up orders what the table says, where so many are idle and connected after it
  pub orders_of-top_up : (h : History T) (s : Step T) (idle connections : ℕ) → refusal_of h s ≡ None
      → orders_by h (Then h s (accepted_with h 0 s)) s (accepted_with h 0 s) ≡ top_up_after h (Then h s (accepted_with h 0 s))
      → length (idle_of (Then h s (accepted_with h 0 s))) ≡ idle → connections_of (Then h s (accepted_with h 0 s)) ≡ connections
      → orders_of h s ≡ top_up_beside idle connections (on_order_of h)
  unfolding orders_of on_order_of
  orders_of-top_up h s idle connections none tops_up idle_is connections_is =
      orders_of-accepted h s none
      ∙ (ap (λ n. cond (is_closed h) 0 n) tops_up
      ∙ (ap (λ n. cond (is_closed h) 0 (min (wanted_of (limits_of h) - n) ((limits_of h).max_size - connections_of
      (Then h s (accepted_with h 0 s)) - pending_of h))) idle_is
      ∙ ap (λ n. cond (is_closed h) 0 (min (wanted_of (limits_of h) - idle) ((limits_of h).max_size - n - pending_of h))) connections_is))

  -- what keeps with a step that orders
  pub kept_ordered : (h : History T) (s : Step T) (r : SeenAnswer T) → IsOrdering h s r → IsKept h → IsSound (picture_of (Then h s r))
      → gone_count (Then h s r) ≤ admitted_count h → IsKept (Then h s r)
  kept_ordered h s r o kept sound gone = record {
    sound = sound;
    gone_were_admitted = omega (arith, gone, o.count);
    admitted_were_ordered = λ is_open. omega (arith, o.count, kept.admitted_were_ordered (sym o.closed ∙ is_open));
    ended_were_begun = λ k. omega (arith, kept.ended_were_begun k, o.begun k, o.ended k);
    few_tries = λ k few. o.begun k ∙ kept.few_tries k few;
    none_admitted_ahead = λ i ahead. o.admitted i ∙ kept.none_admitted_ahead i (omega (arith, ahead, next_id_of-same h s r o.ids));
  }
