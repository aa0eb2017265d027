-- What each step of a book does to what is lent and pending, and that no wake is lost by it.
use Rattle.std.proofs.Common.{◌≡◌, ℕ, zero, suc, ◌+◌, ◌-◌, ◌≤◌, Bool, true, false, cond, List, [], ◌∷◌, length, Option, Some, None, Result, refl, sym, ◌∙◌, ap, subst, arith}
use Rattle.std.specs.Prelude.{String, min, max, ◌==◌}
use Rattle.std.specs.declared.time.Duration.{Duration}
use Rattle.std.specs.Duration.{as_nanos}
use Rattle.std.proofs.lemmas.List.{length_push}
use Rattle.pool_machine.specs.declared.machine.answers.Refusal.{Refusal}
use Rattle.pool_machine.specs.declared.machine.answers.Returned.{Returned}
use Rattle.pool_machine.specs.declared.machine.answers.Released.{Released}
use Rattle.pool_machine.specs.declared.machine.answers.Take.{Take}
use Rattle.pool_machine.specs.declared.schedule.Job.{Job}
use Rattle.pool_machine.specs.Connections.{SeenIdleConnection, SeenLentConnection, id_of_lent, lent_connection}
use Rattle.pool_machine.specs.Ids.{without}
use Rattle.pool_machine.specs.Refusals.{ok_or_back, ok_unless, unless_refused}
use Rattle.pool_machine.specs.OnOrder.{SeenOnOrder, admit_refusal, fail_refusal, miss_order, room_beside, begun_by, job_at, number_refusal, numbered_one}
use Rattle.pool_machine.specs.Jobs.{SeenJob, Open, Reap, Wait, Nothing, Closed}
use Rattle.pool_machine.specs.Limits.{wanted_of}
use Rattle.pool_machine.specs.Picture.{Picture, IsSound}
use Rattle.pool_machine.specs.Seen.{SeenTake, Found, Empty, take_with, seen_take, seen_returned, map_ok}
use Rattle.r2d2_core.specs.Book.{SeenBook}
use Rattle.pool_machine.specs.Table as table
use Rattle.pool_machine.specs.CoreSteps as core
use Rattle.pool_machine.proofs.Lists.Lending.{none_is_next, length-still_idle}
use Rattle.pool_state.specs.declared.engine.Wakes.{Wakes}
use Rattle.pool_state.specs.declared.engine.Outcome.{Outcome}
use Rattle.pool_state.specs.declared.engine.Outcome.TheVariants as outcome
use Rattle.pool_state.specs.declared.engine.Settled.{Settled}
use Rattle.pool_state.specs.declared.state.looking.Turn.{Turn}
use Rattle.pool_state.specs.declared.state.looking.Turn.TheVariants as turn
use Rattle.pool_state.specs.declared.waiters.Wake.{Wake}
use Rattle.pool_state.specs.declared.waiters.Waiters.{Waiters}
use Rattle.pool_state.specs.declared.waiters.ToWake.{ToWake}
use Rattle.pool_state.specs.declared.line.place.Place.{Place}
use Rattle.pool_state.specs.Counted.{found_by}
use Rattle.pool_state.specs.Wakes.{wakes_of_return}
use Rattle.pool_state.specs.Settled.{seen_settled, settle_answer, after_settle, wakes_of_settled, settled_admission, settled_failure, settled_check}
use Rattle.pool_state.specs.Lined.{book_asked}
use Rattle.pool_state.specs.Waits.{NoneIsLost, OthersSleep, IsSent, SleepOnlyUndue, WaitAsBefore, woken_by, waits_after, turn_after, waits_in, one_if, after_wait, waiting_if, IsTokenOf, found_in_turn, AreWoken, AllAreWoken, NobodyWaits}

-- WHAT A STEP DOES: at most so many less are lent, and at most so many less are pending
pub record Moves {T : Type 0} (lent_less pending_less : ℕ) (old new : Picture T) : Type 0 where
  pub size : new.on_order.limits.max_size ≡ old.on_order.limits.max_size
  pub closed : new.on_order.closed ≡ old.on_order.closed
  pub lent : length old.lent ≤ length new.lent + lent_less
  pub pending : old.on_order.closed ≡ false → old.on_order.pending ≤ new.on_order.pending + pending_less

-- there are no more connections, and as many are lent at least
pub record Stays {T : Type 0} (old new : Picture T) : Type 0 where
  pub connections : new.connections ≤ old.connections
  pub limits : new.on_order.limits ≡ old.on_order.limits
  pub lent : length old.lent ≤ length new.lent

-- a connection came, or an opening ended, only where a caller is to be woken
pub record Goes {T : Type 0} (caller : Bool) (old new : Picture T) : Type 0 where
  pub lent_less : ℕ
  pub pending_less : ℕ
  pub due : lent_less + pending_less ≤ one_if caller
  pub moves : Moves lent_less pending_less old new
  pub stays : caller ≡ false → Stays old new

-- as many are woken as connections came or openings ended, or more
open_kept : (M M' L L' P P' W S S' a b : ℕ) → M' ≡ M → L ≤ L' + a → P ≤ P' + b → min (M - L) W ≤ S + P → min (S + (a + b)) W ≤ S' → min (M' - L') W ≤ S' + P'
open_kept M M' L L' P P' W S S' a b size lent pending kept is = omega (arith, size, lent, pending, kept, is)

not_both : {A : Type 0} (b : Bool) → b ≡ true → b ≡ false → A
not_both b is isnt = absurd (let both : true ≡ false = sym is ∙ isnt in cc)

fewer : (b : Bool) (x : SeenLentConnection) (xs ws : List SeenLentConnection) → length xs ≤ length ws + 1 → length (x ∷ xs) ≤ length (cond b xs (x ∷ ws)) + 1
fewer true x xs ws le = omega arith
fewer false x xs ws le = omega (arith, le)

-- at most one leaves
one_leaves : (id : ℕ) (xs : List SeenLentConnection) → length xs ≤ length (without id_of_lent id xs) + 1
one_leaves id [] = omega arith
one_leaves id (x ∷ xs) = fewer (id_of_lent x == id) x xs (without id_of_lent id xs) (one_leaves id xs)

-- what a miss orders in an open pool
miss_open : (o : SeenOnOrder) (c : ℕ) → o.closed ≡ false → miss_order true c o ≡ min 1 (o.limits.max_size - c - o.pending)
miss_open o c e = ap {B = ℕ} (λ b. cond b 0 (min 1 (room_beside c o))) e

-- with one more who waits, and one that is ordered for it if there is room
miss_kept : (M L P W S m w : ℕ) → min (M - L) W ≤ S + P → m ≡ min 1 (M - L - P) → w ≤ W + 1 → min (M - L) w ≤ S + (P + m)
miss_kept M L P W S m w k is more = omega (arith, k, is, more)

-- the same, where it waited before and took one wake
again_kept : (M L P W S m w : ℕ) → min (M - L) W ≤ S + P → m ≡ min 1 (M - L - P) → w ≤ W - 1 + 1 → S ≤ W → min (M - L) w ≤ (S - 1) + (P + m)
again_kept M L P W S m w k is more within = omega (arith, k, is, more, within)

-- how many waits after a wake that was due, or was not
sent_enough : (caller : Bool) (wake : Wake) (v w : Waiters) → IsSent caller wake v w → min (v.woken + one_if caller) v.callers ≤ w.woken
sent_enough true wake v w sent = sent.enough refl
sent_enough false wake v w sent = omega (arith, sent.counted, ap (λ k. woken_by k (v.callers - v.woken)) (sent.nobody refl))

waits_open : (U : Type 0) (n : ℕ) (b : Bool) → b ≡ false → waits_after {T = U} (take_with None n) b ≡ 1
waits_open U n b e = ap {B = ℕ} (λ c. cond c 0 1) e

waits_closed : (U : Type 0) (n : ℕ) (b : Bool) → b ≡ true → waits_after {T = U} (take_with None n) b ≡ 0
waits_closed U n b e = ap {B = ℕ} (λ c. cond c 0 1) e

module _ {T : Type 0} where
  same_moves : (p : Picture T) → Moves 0 0 p p
  same_moves p = record { size = refl; closed = refl; lent = omega arith; pending = λ e. omega arith }

  same_stays : (p : Picture T) → Stays p p
  same_stays p = record { connections = omega arith; limits = refl; lent = omega arith }

  quiet : (caller : Bool) (old new : Picture T) → Moves 0 0 old new → Stays old new → Goes caller old new
  quiet caller old new moves stays = record { lent_less = 0; pending_less = 0; due = omega arith; moves = moves; stays = λ e. stays }

  -- a connection came back, or left; an opening ended
  came : (old new : Picture T) → Moves 1 0 old new → Goes true old new
  came old new moves = record { lent_less = 1; pending_less = 0; due = omega arith; moves = moves; stays = λ e. not_both true refl e }

  ended : (old new : Picture T) → Moves 0 1 old new → Goes true old new
  ended old new moves = record { lent_less = 0; pending_less = 1; due = omega arith; moves = moves; stays = λ e. not_both true refl e }

  -- THE FACTS AFTER A STEP
  kept : (a b W S S' : ℕ) (old new : Picture T) → Moves a b old new → NoneIsLost old W S → min (S + (a + b)) W ≤ S' → S' ≤ W → NoneIsLost new W S'
  kept a b W S S' old new m k is most = record {
    while_open = λ e.
        let was : old.on_order.closed ≡ false = sym m.closed ∙ e in
        open_kept old.on_order.limits.max_size new.on_order.limits.max_size (length old.lent) (length new.lent)
        old.on_order.pending new.on_order.pending W S S' a b m.size m.lent (m.pending was) (k.while_open was) is;
    once_closed = λ e. omega (arith, is, k.once_closed (sym m.closed ∙ e));
    within = most;
  }

  -- what is due is sent
  pub none_lost : (caller : Bool) (wake : Wake) (v w : Waiters) (old new : Picture T) → Goes caller old new → NoneIsLost old v.callers v.woken
      → IsSent caller wake v w → w.woken ≤ v.callers → WaitAsBefore v w → NoneIsLost new w.callers w.woken
  none_lost caller wake v w old new goes k sent most waits =
      subst (λ n. NoneIsLost new n w.woken) (sym waits.callers)
      (kept goes.lent_less goes.pending_less v.callers v.woken w.woken old new goes.moves k (omega (arith, goes.due, sent_enough caller wake v w sent)) most)

  -- who waits for no connection sleeps on, where nothing is due
  pub others_sleep : (caller : Bool) (v w : Waiters) (old new : Picture T) → Goes caller old new → OthersSleep old v.maker_sleeps v.drain_sleeps
      → SleepOnlyUndue caller v w → OthersSleep new w.maker_sleeps w.drain_sleeps
  others_sleep caller v w old new goes o on = record {
    making = λ e. let both = on.maker e in let s = goes.stays both.0 in omega (arith, s.connections, o.making both.1, ap wanted_of s.limits);
    draining = λ e. let both = on.drain e in omega (arith, (goes.stays both.0).lent, o.draining both.1);
  }

  -- nobody is to be woken, and nobody was
  pub none_lost_quiet : (W S : ℕ) (old new : Picture T) → Goes false old new → NoneIsLost old W S → NoneIsLost new W S
  none_lost_quiet W S old new goes k = kept goes.lent_less goes.pending_less W S S old new goes.moves k (omega (arith, goes.due)) k.within

  pub others_sleep_quiet : (maker drain : Bool) (old new : Picture T) → Goes false old new → OthersSleep old maker drain → OthersSleep new maker drain
  others_sleep_quiet maker drain old new goes o =
      let s = goes.stays refl in
      record {
        making = λ e. omega (arith, s.connections, o.making e, ap wanted_of s.limits);
        draining = λ e. omega (arith, s.lent, o.draining e);
      }

  -- all are woken
  pub all_woken : (p : Picture T) (W S : ℕ) → S ≡ W → NoneIsLost p W S
  all_woken p W S e = record {
    while_open = λ f. omega (arith, e);
    once_closed = λ f. omega (arith, e);
    within = omega (arith, e);
  }

  pub none_sleeps : (maker drain : Bool) (p : Picture T) → maker ≡ false → drain ≡ false → OthersSleep p maker drain
  none_sleeps maker drain p m d = record {
    making = λ e. not_both maker e m;
    draining = λ e. not_both drain e d;
  }

  -- A RETURN
  returned_by : (r : Option Refusal) (closing : Bool) (id birth : ℕ) (value : T) (p q : Picture T) → p.lent ≡ q.lent → p.on_order ≡ q.on_order
      → Goes (wakes_of_return (ok_or_back r value (table.return_by closing id birth value p))).caller q
      (unless_refused r (table.returned_by closing id birth value p) q)
  returned_by (Some why) closing id birth value p q lent order = quiet false q q (same_moves q) (same_stays q)
  returned_by None true id birth value p q lent order = came q (table.returned_by true id birth value p) (record {
    size = ap (λ (o : SeenOnOrder). o.limits.max_size) order;
    closed = ap (λ (o : SeenOnOrder). o.closed) order;
    lent = omega (arith, ap length lent, one_leaves id p.lent);
    pending = λ e. omega (arith, ap (λ (o : SeenOnOrder). o.pending) order);
  })
  returned_by None false id birth value p q lent order = came q (table.returned_by false id birth value p) (record {
    size = ap (λ (o : SeenOnOrder). o.limits.max_size) order;
    closed = ap (λ (o : SeenOnOrder). o.closed) order;
    lent = omega (arith, ap length lent, one_leaves id p.lent);
    pending = λ e. omega (arith, ap (λ (o : SeenOnOrder). o.pending) order);
  })

  pub goes_return : (now : Duration) (id : ℕ) (value : T) (broken : Bool) (result : Result (Returned T) (Refusal × T)) (old new : Picture T) (w : Wakes)
      → core.IsReturn now id value broken result old new → w ≡ wakes_of_return (map_ok seen_returned result) → Goes w.caller old new
  goes_return now id value broken result old new w step woken =
      let t : ℕ = as_nanos now in
      let p : Picture T = table.raised_to t old in
      let birth : ℕ = table.lent_birth id old in
      let same : w ≡ wakes_of_return (table.return_answer t id value broken old) = woken ∙ ap wakes_of_return step.answer in
      subst (λ (v : Wakes). Goes v.caller old new) (sym same)
      (subst (λ q. Goes (wakes_of_return (table.return_answer t id value broken old)).caller old q) (sym step.after)
      (returned_by (table.lent_refusal id old) (table.is_closing birth broken p) id birth value p old refl refl))

  -- AN OUTCOME
  admitted_by : (r : Option Refusal) (m id : ℕ) (value : T) (p : Picture T)
      → Goes (wakes_of_settled (settled_admission (ok_or_back r value tt))).caller p (unless_refused r (table.admitted_at m id value p) p)
  admitted_by (Some why) m id value p = quiet false p p (same_moves p) (same_stays p)
  admitted_by None m id value p =
      ended p (table.admitted_at m id value p) (record { size = refl; closed = refl; lent = omega arith; pending = λ e. omega arith })

  failed_by : (r : Option Refusal) (due : ℕ) (p q : Picture T) → p.lent ≡ q.lent → p.connections ≡ q.connections → p.on_order.limits ≡ q.on_order.limits
      → p.on_order.closed ≡ q.on_order.closed → p.on_order.pending ≡ q.on_order.pending
      → Goes (wakes_of_settled {T = T} (settled_failure (ok_unless r due))).caller q (unless_refused r p q)
  failed_by (Some why) due p q lent connections limits closed pending = quiet false q q (same_moves q) (same_stays q)
  failed_by None due p q lent connections limits closed pending = quiet false q p
      (record { size = ap (λ l. l.max_size) limits; closed = closed; lent = omega (arith, ap length lent); pending = λ e. omega (arith, pending) })
      (record { connections = omega (arith, connections); limits = limits; lent = omega (arith, ap length lent) })

  checked_by : (r : Option Refusal) (gone : _) (id : ℕ) (p q : Picture T) → p.lent ≡ q.lent → p.on_order ≡ q.on_order
      → Goes (wakes_of_settled {T = T} (settled_check (ok_unless r gone))).caller q (unless_refused r (table.topped_up (table.gone_one id p)) q)
  checked_by (Some why) gone id p q lent order = quiet false q q (same_moves q) (same_stays q)
  checked_by None gone id p q lent order = came q (table.topped_up (table.gone_one id p)) (record {
    size = ap (λ (o : SeenOnOrder). o.limits.max_size) order;
    closed = ap (λ (o : SeenOnOrder). o.closed) order;
    lent = omega (arith, ap length lent, one_leaves id p.lent);
    pending = λ e. omega (arith, ap (λ (o : SeenOnOrder). o.pending) order);
  })

  settled_by : (t : ℕ) (o : Outcome T) (p : Picture T) → Goes (wakes_of_settled (settle_answer t o p)).caller p (after_settle t o p)
  settled_by t (outcome.Opened id value) p = admitted_by (admit_refusal id p.on_order) _ id value p
  settled_by t (outcome.Failed tries text) p = failed_by (fail_refusal tries p.on_order) _ (table.failed t tries text p) p refl refl refl refl refl
  settled_by t (outcome.Unsound id text) p = checked_by (table.lent_refusal id p) _ id (table.with_text text (table.raised_to t p)) p refl refl

  pub goes_settled : (now : Duration) (o : Outcome T) (result : Settled T) (old new : Picture T) (w : Wakes)
      → seen_settled result ≡ settle_answer (as_nanos now) o old → new ≡ after_settle (as_nanos now) o old
      → w ≡ wakes_of_settled (seen_settled result) → Goes w.caller old new
  goes_settled now o result old new w answer after woken =
      let same : w ≡ wakes_of_settled (settle_answer (as_nanos now) o old) = woken ∙ ap wakes_of_settled answer in
      subst (λ (v : Wakes). Goes v.caller old new) (sym same)
      (subst (λ q. Goes (wakes_of_settled (settle_answer (as_nanos now) o old)).caller old q) (sym after) (settled_by (as_nanos now) o old))

  -- A REAP, whether or not somebody is woken after it
  pub goes_reap : (now : Duration) (out : List (Released T)) (n : ℕ) (caller : Bool) (old new : Picture T) → core.IsReap now out n old new → Goes caller old new
  goes_reap now out n caller old new step =
      subst (λ (q : Picture T). Goes caller old q) (sym step.after)
      (quiet caller old _ (record { size = refl; closed = refl; lent = omega arith; pending = λ e. omega arith })
      (record { connections = omega arith; limits = refl; lent = omega arith }))

  -- A BEGIN, A NUMBERING, A TELLING
  begun_as : (j : SeenJob) (p q : Picture T) → p.lent ≡ q.lent → p.connections ≡ q.connections → Goes false q (table.with_on_order (begun_by j q.on_order) p)
  begun_as (Open tries) p q lent connections = quiet false q _
      (record { size = refl; closed = refl; lent = omega (arith, ap length lent); pending = λ e. omega arith })
      (record { connections = omega (arith, connections); limits = refl; lent = omega (arith, ap length lent) })
  begun_as Reap p q lent connections = quiet false q _
      (record { size = refl; closed = refl; lent = omega (arith, ap length lent); pending = λ e. omega arith })
      (record { connections = omega (arith, connections); limits = refl; lent = omega (arith, ap length lent) })
  begun_as (Wait due) p q lent connections = quiet false q _
      (record { size = refl; closed = refl; lent = omega (arith, ap length lent); pending = λ e. omega arith })
      (record { connections = omega (arith, connections); limits = refl; lent = omega (arith, ap length lent) })
  begun_as Nothing p q lent connections = quiet false q _
      (record { size = refl; closed = refl; lent = omega (arith, ap length lent); pending = λ e. omega arith })
      (record { connections = omega (arith, connections); limits = refl; lent = omega (arith, ap length lent) })
  begun_as Closed p q lent connections = quiet false q _
      (record { size = refl; closed = refl; lent = omega (arith, ap length lent); pending = λ e. omega arith })
      (record { connections = omega (arith, connections); limits = refl; lent = omega (arith, ap length lent) })

  pub goes_begin : (now : Duration) (result : Job) (old new : Picture T) → core.IsBegin now result old new → Goes false old new
  goes_begin now result old new step =
      subst (λ (q : Picture T). Goes false old q) (sym step.after)
      (begun_as (job_at (max old.latest (as_nanos now)) old.on_order) (table.raised_to (as_nanos now) old) old refl refl)

  numbered_as : (r : Option Refusal) (tries : ℕ) (p : Picture T)
      → Goes false p (table.with_on_order (unless_refused r (numbered_one tries p.on_order) p.on_order) p)
  numbered_as (Some why) tries p = quiet false p _ (same_moves p) (same_stays p)
  numbered_as None tries p = quiet false p _
      (record { size = refl; closed = refl; lent = omega arith; pending = λ e. omega arith })
      (record { connections = omega arith; limits = refl; lent = omega arith })

  pub goes_number : (tries : ℕ) (result : Result ℕ Refusal) (old new : Picture T) → core.IsNumbering tries result old new → Goes false old new
  goes_number tries result old new step =
      subst (λ (q : Picture T). Goes false old q) (sym step.after) (numbered_as (number_refusal tries old.on_order) tries old)

  pub goes_telling : {A : Type 0} (result : Option (String A)) (old new : Picture T) → core.IsTelling result old new → Goes false old new
  goes_telling result old new step =
      subst (λ (q : Picture T). Goes false old q) (sym step.after)
      (quiet false old _ (record { size = refl; closed = refl; lent = omega arith; pending = λ e. omega arith })
      (record { connections = omega arith; limits = refl; lent = omega arith }))

  -- A TAKE
  taken_as : (n : Option (SeenIdleConnection T)) (b : Bool) (p q : Picture T) → p.lent ≡ q.lent → p.connections ≡ q.connections
      → p.on_order.limits ≡ q.on_order.limits → p.on_order.closed ≡ q.on_order.closed → p.on_order.pending ≡ q.on_order.pending
      → Goes false q (table.taken n b p)
  taken_as None b p q lent connections limits closed pending = quiet false q _
      (record { size = ap (λ l. l.max_size) limits; closed = closed; lent = omega (arith, ap length lent); pending = λ e. omega (arith, pending) })
      (record { connections = omega (arith, connections); limits = limits; lent = omega (arith, ap length lent) })
  taken_as (Some c) b p q lent connections limits closed pending = quiet false q _
      (record {
        size = ap (λ l. l.max_size) limits;
        closed = closed;
        lent = omega (arith, ap length lent, length_push p.lent (lent_connection c.id c.birth));
        pending = λ e. omega (arith, pending);
      })
      (record {
        connections = omega (arith, connections);
        limits = limits;
        lent = omega (arith, ap length lent, length_push p.lent (lent_connection c.id c.birth));
      })

  taken_goes : (t : ℕ) (b : Bool) (p : Picture T) → Goes false p (table.after_take t b p)
  taken_goes t b p = taken_as (table.next_of p) b (table.raised_to t p) p refl refl refl refl refl

  pub goes_take : (now : Duration) (b : Bool) (result : Take T) (old new : Picture T) → core.IsTake now b result old new → Goes false old new
  goes_take now b result old new step = subst (λ (q : Picture T). Goes false old q) (sym step.after) (taken_goes (as_nanos now) b old)

  -- A TAKE, AND A BROKEN RETURN: none of what is pending goes
  returned_pending : (r : Option Refusal) (closing : Bool) (id birth : ℕ) (value : T) (p q : Picture T) → p.on_order ≡ q.on_order
      → q.on_order.pending ≤ (unless_refused r (table.returned_by closing id birth value p) q).on_order.pending
  returned_pending (Some why) closing id birth value p q same = omega arith
  returned_pending None true id birth value p q same = omega (arith, ap (λ (o : SeenOnOrder). o.pending) same)
  returned_pending None false id birth value p q same = omega (arith, ap (λ (o : SeenOnOrder). o.pending) same)

  pub more_pending_taken : (now : Duration) (taken : Take T) (old new : Picture T) → core.IsTake now false taken old new → old.on_order.closed ≡ false
      → old.on_order.pending ≤ new.on_order.pending
  more_pending_taken now taken old new step e = let g = goes_take now false taken old new step in omega (arith, g.moves.pending e, g.due)

  pub more_pending : (now : Duration) (id : ℕ) (value : T) (taken : Take T) (answer : Result (Returned T) (Refusal × T)) (old new last : Picture T)
      → core.IsTake now false taken old new → core.IsReturn now id value true answer new last → old.on_order.closed ≡ false
      → old.on_order.pending ≤ last.on_order.pending
  more_pending now id value taken answer old new last step back e =
      let p : Picture T = table.raised_to (as_nanos now) new in
      let birth : ℕ = table.lent_birth id new in
      let more : new.on_order.pending ≤ last.on_order.pending = subst (λ (q : Picture T). new.on_order.pending ≤ q.on_order.pending) (sym back.after)
      (returned_pending (table.lent_refusal id new) (table.is_closing birth true p) id birth value p new refl) in
      omega (arith, more, more_pending_taken now taken old new step e)

  -- of a take that finds none in an open pool, one is ordered where there is room
  missed : (n : Option (SeenIdleConnection T)) (p : Picture T) → table.next_of p ≡ n → length p.idle ≡ 0 → p.connections ≡ length p.lent → p.on_order.closed ≡ false
      → min (p.on_order.pending + 1) (p.on_order.limits.max_size - length p.lent) ≤ (table.taken n true p).on_order.pending
  missed None p e none counted open_ =
      let m : table.miss_order_of true p ≡ min 1 (p.on_order.limits.max_size - length p.lent - p.on_order.pending) =
      miss_open p.on_order p.connections open_ ∙ ap (λ c. min 1 (p.on_order.limits.max_size - c - p.on_order.pending)) counted in
      omega (arith, m)
  missed (Some c) p e none counted open_ = absurd (omega (arith, length-still_idle p.on_order.limits.order p.idle c e, none))

  -- after so many takes that found none and were to order, each of which ordered where there was room
  pub record Asked (n : ℕ) (old new : Picture T) : Type 0 where
    pub none : length new.idle ≡ 0
    pub lent : length new.lent ≡ length old.lent
    pub connections : new.connections ≡ old.connections
    pub size : new.on_order.limits.max_size ≡ old.on_order.limits.max_size
    pub closed : new.on_order.closed ≡ old.on_order.closed
    pub enough : old.on_order.closed ≡ false
        → min (old.on_order.pending + n) (old.on_order.limits.max_size - length old.lent) ≤ new.on_order.pending

  one_asked : (o : Option (SeenIdleConnection T)) (p : Picture T) → table.next_of p ≡ o → length p.idle ≡ 0 → p.connections ≡ length p.lent
      → Asked 1 p (table.taken o true p)
  one_asked None p e none counted = record {
    none = none;
    lent = refl;
    connections = refl;
    size = refl;
    closed = refl;
    enough = λ is_open. missed None p e none counted is_open;
  }
  one_asked (Some c) p e none counted = absurd (omega (arith, length-still_idle p.on_order.limits.order p.idle c e, none))

  -- a moment that is raised changes nothing of that
  raised_asked : (t : ℕ) (p q : Picture T) → Asked 1 (table.raised_to t p) q → Asked 1 p q
  raised_asked t p q a = record { none = a.none; lent = a.lent; connections = a.connections; size = a.size; closed = a.closed; enough = a.enough }

  one_more_asked : (n : ℕ) (p q r : Picture T) → Asked n p q → Asked 1 q r → Asked (suc n) p r
  one_more_asked n p q r a b = record {
    none = b.none;
    lent = b.lent ∙ a.lent;
    connections = b.connections ∙ a.connections;
    size = b.size ∙ a.size;
    closed = b.closed ∙ a.closed;
    enough = λ e. omega (arith, a.enough e, b.enough (a.closed ∙ e), a.lent, a.size);
  }

  pub asked : (t n : ℕ) (b : SeenBook T) → length b.picture.idle ≡ 0 → b.picture.connections ≡ length b.picture.lent
      → Asked n b.picture (book_asked t n b).picture
  asked t zero b none counted = record { none = none; lent = refl; connections = refl; size = refl; closed = refl; enough = λ e. omega arith }
  asked t (suc n) b none counted =
      let c = book_asked t n b in
      let k = asked t n b none counted in
      one_more_asked n b.picture c.picture (book_asked t (suc n) b).picture k
      (raised_asked t c.picture (book_asked t (suc n) b).picture
      (one_asked (table.next_of c.picture) (table.raised_to t c.picture) refl k.none (omega (arith, k.connections, k.lent, counted))))

  -- A LOOK OF ONE WHO WAITS AT THE VARIABLE
  -- whoever is to wait is counted
  pub turn_waits : (s : SeenTake T) (closed : Bool) (t : Turn T) → turn_after s closed t → one_if (waits_in t) ≡ waits_after s closed
  turn_waits (Found id birth value n) closed (turn.Found i v) is = refl
  turn_waits (Found id birth value n) closed (turn.Waits w) is = absurd is
  turn_waits (Found id birth value n) closed turn.Closed is = absurd is
  turn_waits (Empty n) closed (turn.Found i v) is = absurd is
  turn_waits (Empty n) closed (turn.Waits w) is = sym (waits_open T n closed is)
  turn_waits (Empty n) closed turn.Closed is = sym (waits_closed T n closed is)

  looked_by : (n : Option (SeenIdleConnection T)) (orders W w S : ℕ) (p : Picture T) → table.next_of p ≡ n → p.connections ≡ length p.idle + length p.lent
      → NoneIsLost p W S → w ≤ W + waits_after (take_with n orders) p.on_order.closed → W ≤ w
      → NoneIsLost (table.taken n true p) w S
  looked_by None orders W w S p next counted k is most =
      let none : length p.idle ≡ 0 = ap length (none_is_next p.on_order.limits.order p.idle next) in
      record {
        while_open = λ e.
            let size : p.connections ≡ length p.lent = omega (arith, none, counted) in
            let m : table.miss_order_of true p ≡ min 1 (p.on_order.limits.max_size - length p.lent - p.on_order.pending) =
            miss_open p.on_order p.connections e ∙ ap (λ c. min 1 (p.on_order.limits.max_size - c - p.on_order.pending)) size in
            miss_kept p.on_order.limits.max_size (length p.lent) p.on_order.pending W S (table.miss_order_of true p) w (k.while_open e) m
            (omega (arith, is, waits_open T orders p.on_order.closed e));
        once_closed = λ e. omega (arith, is, waits_closed T orders p.on_order.closed e, k.once_closed e);
        within = omega (arith, is, most, k.within);
      }
  looked_by (Some c) orders W w S p next counted k is most = record {
    while_open = λ e. omega (arith, is, k.while_open e, length_push p.lent (lent_connection c.id c.birth));
    once_closed = λ e. omega (arith, is, k.once_closed e);
    within = omega (arith, most, k.within);
  }

  -- the same, of one that waited, and takes a wake
  again_by : (n : Option (SeenIdleConnection T)) (orders W w S : ℕ) (p : Picture T) → table.next_of p ≡ n → p.connections ≡ length p.idle + length p.lent
      → NoneIsLost p W S → w ≤ W - 1 + waits_after (take_with n orders) p.on_order.closed → W - 1 ≤ w
      → NoneIsLost (table.taken n true p) w (S - 1)
  again_by None orders W w S p next counted k is most =
      let none : length p.idle ≡ 0 = ap length (none_is_next p.on_order.limits.order p.idle next) in
      record {
        while_open = λ e.
            let size : p.connections ≡ length p.lent = omega (arith, none, counted) in
            let m : table.miss_order_of true p ≡ min 1 (p.on_order.limits.max_size - length p.lent - p.on_order.pending) =
            miss_open p.on_order p.connections e ∙ ap (λ c. min 1 (p.on_order.limits.max_size - c - p.on_order.pending)) size in
            again_kept p.on_order.limits.max_size (length p.lent) p.on_order.pending W S (table.miss_order_of true p) w (k.while_open e) m
            (omega (arith, is, waits_open T orders p.on_order.closed e)) k.within;
        once_closed = λ e. omega (arith, is, waits_closed T orders p.on_order.closed e, k.once_closed e);
        within = omega (arith, most, k.within);
      }
  again_by (Some c) orders W w S p next counted k is most = record {
    while_open = λ e. omega (arith, is, k.while_open e, k.within, length_push p.lent (lent_connection c.id c.birth));
    once_closed = λ e. omega (arith, is, k.once_closed e);
    within = omega (arith, most, k.within);
  }

  raised : (t W S : ℕ) (p : Picture T) → NoneIsLost p W S → NoneIsLost (table.raised_to t p) W S
  raised t W S p k = record { while_open = k.while_open; once_closed = k.once_closed; within = k.within }

  -- by the answer of a take that may order, as its caller sees it
  waits_same : (now : Duration) (result : Take T) (old new : Picture T) (t : Turn T) → core.IsTake now true result old new
      → turn_after (seen_take result) new.on_order.closed t
      → one_if (waits_in t) ≡ waits_after (table.take_answer true old) old.on_order.closed
  waits_same now result old new t step is =
      let goes = goes_take now true result old new step in
      turn_waits (seen_take result) new.on_order.closed t is
      ∙ (ap (λ b. waits_after (seen_take result) b) goes.moves.closed ∙ ap (λ a. waits_after a old.on_order.closed) step.answer)

  pub looked : (now : Duration) (result : Take T) (old new : Picture T) (t : Turn T) (W w S : ℕ) → core.IsTake now true result old new → IsSound old
      → turn_after (seen_take result) new.on_order.closed t → NoneIsLost old W S → w ≤ W + one_if (waits_in t) → W ≤ w → NoneIsLost new w S
  looked now result old new t W w S step sound is k most least =
      let p : Picture T = table.raised_to (as_nanos now) old in
      subst (λ (q : Picture T). NoneIsLost q w S) (sym step.after)
      (looked_by (table.next_of old) (table.take_orders (table.next_of old) true old) W w S p refl sound.steady.counted (raised (as_nanos now) W S old k)
      (subst (λ v. w ≤ W + v) (waits_same now result old new t step is) most) least)

  pub looked_again : (now : Duration) (result : Take T) (old new : Picture T) (t : Turn T) (W w S : ℕ) → core.IsTake now true result old new → IsSound old
      → turn_after (seen_take result) new.on_order.closed t → NoneIsLost old W S → w ≤ W - 1 + one_if (waits_in t) → W - 1 ≤ w → NoneIsLost new w (S - 1)
  looked_again now result old new t W w S step sound is k most least =
      let p : Picture T = table.raised_to (as_nanos now) old in
      subst (λ (q : Picture T). NoneIsLost q w (S - 1)) (sym step.after)
      (again_by (table.next_of old) (table.take_orders (table.next_of old) true old) W w S p refl sound.steady.counted (raised (as_nanos now) W S old k)
      (subst (λ v. w ≤ W - 1 + v) (waits_same now result old new t step is) most) least)

  -- where only the number of callers changed, and since when somebody waits
  pub woken_as_before : (p : Picture T) (v w : Waiters) (S : ℕ) → w ≡ record v { callers = w.callers; since = w.since } → v.woken ≡ S
      → NoneIsLost p w.callers S → NoneIsLost p w.callers w.woken
  woken_as_before p v w S rest same k = subst (λ n. NoneIsLost p w.callers n) (sym (ap (λ (x : Waiters). x.woken) rest ∙ same)) k

  pub sleep_as_before : (p : Picture T) (v w : Waiters) → w ≡ record v { callers = w.callers; since = w.since }
      → OthersSleep p v.maker_sleeps v.drain_sleeps → OthersSleep p w.maker_sleeps w.drain_sleeps
  sleep_as_before p v w rest o = record {
    making = λ e. o.making (sym (ap (λ (x : Waiters). x.maker_sleeps) rest) ∙ e);
    draining = λ e. o.draining (sym (ap (λ (x : Waiters). x.drain_sleeps) rest) ∙ e);
  }

  -- who waits brings the moment with it that was noted
  pub noted_token : (t : Turn T) (since : Duration) (w : Waiters) → IsTokenOf t since → IsTokenOf t (waiting_if (waits_in t) since w).since
  noted_token (turn.Found id value) since w is = tt
  noted_token (turn.Waits token) since w is = is
  noted_token turn.Closed since w is = tt

  -- a look found where its take did
  pub turn_found : (a : SeenTake T) (closed : Bool) (t : Turn T) → turn_after a closed t → found_in_turn t ≡ found_by a
  turn_found (Found id birth value ordered) closed (turn.Found i v) is = refl
  turn_found (Found id birth value ordered) closed (turn.Waits w) is = absurd is
  turn_found (Found id birth value ordered) closed turn.Closed is = absurd is
  turn_found (Empty ordered) closed (turn.Found i v) is = absurd is
  turn_found (Empty ordered) closed (turn.Waits w) is = refl
  turn_found (Empty ordered) closed turn.Closed is = refl

  -- GIVING UP, which wakes another
  pub unchanged : (caller : Bool) (p : Picture T) → Goes caller p p
  unchanged caller p = quiet caller p p (same_moves p) (same_stays p)

  pub gave_up : (p : Picture T) (v u w : Waiters) (wake : Wake) → NoneIsLost p v.callers v.woken → u ≡ after_wait v
      → IsSent true wake u w → w.woken ≤ u.callers → WaitAsBefore u w → NoneIsLost p w.callers w.woken
  gave_up p v u w wake k after sent most waits =
      let callers : u.callers ≡ v.callers - 1 = ap (λ (x : Waiters). x.callers) after in
      let woken : u.woken ≡ v.woken - 1 = ap (λ (x : Waiters). x.woken) after in
      record {
        while_open = λ e. omega (arith, callers, woken, sent.enough refl, waits.callers, k.while_open e, k.within);
        once_closed = λ e. omega (arith, callers, woken, sent.enough refl, waits.callers, k.once_closed e);
        within = omega (arith, most, waits.callers);
      }

  -- after a wake that was due, who waits for no connection was woken
  pub none_sleeps_due : (v w : Waiters) (p : Picture T) → SleepOnlyUndue true v w → OthersSleep p w.maker_sleeps w.drain_sleeps
  none_sleeps_due v w p on = record {
    making = λ e. not_both true refl (on.maker e).0;
    draining = λ e. not_both true refl (on.drain e).0;
  }

-- NOBODY WAITS there, after each step where nobody did
still_awake : (is was : Bool) → (is ≡ true → was ≡ true) → was ≡ false → is ≡ false
still_awake true was slept awake = sym (slept refl) ∙ awake
still_awake false was slept awake = refl

pub nobody_woken : (due : Wakes) (to_wake : ToWake) (v w : Waiters) (ps qs : List Place) → AreWoken due to_wake v w ps qs → NobodyWaits v → NobodyWaits w
nobody_woken due to_wake v w ps qs woken none = record {
  callers = woken.waits.callers ∙ none.callers;
  maker = still_awake w.maker_sleeps v.maker_sleeps (λ e. (woken.sleepers.maker e).1) none.maker;
  drain = still_awake w.drain_sleeps v.drain_sleeps (λ e. (woken.sleepers.drain e).1) none.drain;
}

pub nobody_of_all : (v w : Waiters) → AllAreWoken v w → NobodyWaits v → NobodyWaits w
nobody_of_all v w all none = record { callers = all.waits.callers ∙ none.callers; maker = all.maker; drain = all.drain }

pub nobody_as_before : (v w : Waiters) → w ≡ v → NobodyWaits v → NobodyWaits w
nobody_as_before v w same none = subst NobodyWaits (sym same) none

pub nobody_since : (v w : Waiters) → w.callers ≡ v.callers → w.maker_sleeps ≡ v.maker_sleeps → w.drain_sleeps ≡ v.drain_sleeps → NobodyWaits v → NobodyWaits w
nobody_since v w callers maker drain none = record { callers = callers ∙ none.callers; maker = maker ∙ none.maker; drain = drain ∙ none.drain }
