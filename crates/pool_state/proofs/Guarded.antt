-- What each step of the book keeps, beside those who wait for it: who was told in line, and that no wake is lost.
use Rattle.std.proofs.Common.{◌≡◌, ℕ, ◌+◌, ◌-◌, ◌≤◌, Bool, true, false, cond, List, ◌∷◌, [], ◌++◌, length, sym, ap, ◌∙◌, subst, arith}
use Rattle.std.specs.Prelude.{min, ◌^◌}
use Rattle.std.specs.declared.time.Duration.{Duration}
use Rattle.pool_machine.specs.declared.machine.answers.Take.{Take}
use Rattle.pool_machine.specs.declared.schedule.limits.LimitSettings.{LimitSettings}
use Rattle.r2d2_core.specs.Book.{SeenBook}
use Rattle.r2d2_core.specs.BookSteps.{IsTake}
use Rattle.pool_machine.specs.Picture.{Picture}
use Rattle.pool_machine.specs.Seen.{seen_take}
use Rattle.pool_state.specs.declared.engine.Wakes.{Wakes}
use Rattle.pool_state.specs.declared.line.queue.Line.{Line}
use Rattle.pool_state.specs.declared.line.place.Place.{Place}
use Rattle.pool_state.specs.declared.line.place.Standing.TheVariants.{Quiet, Aside}
use Rattle.pool_state.specs.declared.state.looking.Turn.{Turn}
use Rattle.pool_state.specs.declared.waiters.Wake.{Wake}
use Rattle.pool_state.specs.declared.waiters.Waiters.{Waiters}
use Rattle.pool_state.specs.Evicted.{IsEvicted}
use Rattle.pool_state.specs.Guarded.{IsKeptFor, NoneInLineIsLost}
use Rattle.pool_state.specs.Ring.{next_of, places_in}
use Rattle.pool_state.specs.Waiting.{AreTold, told_if, told_in, told_at, told_first, waiting_in, with_standing, without, place}
use Rattle.pool_state.specs.Waits.{IsSent, SleepOnlyUndue, WaitAsBefore, AllAreWoken, IsLook, turn_after}
use Rattle.pool_state.specs.Wakes.{wakes_of_take}
use Rattle.pool_state.proofs.Lined.{one_told, still_told}
use Rattle.pool_state.proofs.Rows.{length-row}
use Rattle.pool_state.proofs.Waiting.{waiting_in-le, told_in-tell, told_in-told_if, waiting_in-told_if, waiting_in-tell, told_in-join, waiting_in-join, told_in-without, waiting_in-without, told_in-quiet, told_in-quiet_less, told_in-aside, told_in-aside_less}
use Rattle.pool_state.proofs.Waits.{Asked, Goes, none_lost, others_sleep, none_lost_quiet, others_sleep_quiet, all_woken, none_sleeps, goes_take}

-- no more wait than a line has slots
pub few_wait : (l : Line) → waiting_in (places_in l.ring) ≤ 2 ^ 32 - 1
few_wait l =
    let ls = l.ring.links.items in
    omega (arith, waiting_in-le (places_in l.ring), length-row l.ring.standings.items (next_of ls) l.ring.len (next_of ls l.ring.end), l.room, l.small)

-- AS NUMBERS: of M connections L are lent, P pending; W wait, S of them were told, and O are owed
due_kept : (M M' L L' P P' W S S' O a b c : ℕ) → M' ≡ M → L ≤ L' + a → P ≤ P' + b → a + b ≤ c → min (M - L) W ≤ S + O + P → min (S + c) W ≤ S'
    → min (M' - L') W ≤ S' + O + P'
due_kept M M' L L' P P' W S S' O a b c size lent pending few kept is = omega (arith, size, lent, pending, few, kept, is)

-- one waits no more, and with it the next is told, where it was
gone_kept : (M P W W' S S' S'' O d : ℕ) → min M W ≤ S + O + P → W' ≤ W → S ≡ S' + d → min (S' + d) W' ≤ S'' → min M W' ≤ S'' + O + P
gone_kept M P W W' S S' S'' O d kept less told is = omega (arith, kept, less, told, is)

passed_kept : (M P W W' S S' S'' O : ℕ) → min M W ≤ S + O + P → S + W' ≤ S' + W → S ≤ S' + 1 → min (S' + 1) W' ≤ S'' → min M W' ≤ S'' + O + P
passed_kept M P W W' S S' S'' O kept less one is = omega (arith, kept, less, one, is)

-- one is lent a connection, and waits no more
served_kept : (M L L' P P' W W' S S' O : ℕ) → min (M - L) W ≤ S + O + P → L + 1 ≤ L' → P ≤ P' → S + W' ≤ S' + W → S ≤ S' + 1
    → min (M - L') W' ≤ S' + O + P'
served_kept M L L' P P' W W' S S' O kept lent pending less one = omega (arith, kept, lent, pending, less, one)

-- one waits on, or comes to wait, and is owed an opening; all who wait are fewer than `most`
stood_kept : (M P W W' S S' O O' most : ℕ) → min M W ≤ S + O + P → S + W' ≤ S' + W + 1 → S ≤ S' + 1 → W' ≤ most → O' ≡ min (O + 1) most
    → min M W' ≤ S' + O' + P
stood_kept M P W W' S S' O O' most kept less one few owed = omega (arith, kept, less, one, few, owed)

module _ {T : Type 0} where
  -- nobody is to be woken, and no more are idle
  pub kept_quiet : (p q : Picture T) (ps : List Place) (owed : ℕ) (w : Waiters) → IsKeptFor p ps owed w → length q.idle ≤ length p.idle → Goes false p q
      → IsKeptFor q ps owed w
  kept_quiet p q ps owed w kept less goes = record {
    told = still_told (length p.idle) (length q.idle) ps kept.told less;
    in_line = λ e.
        let m = goes.moves in
        let was : p.on_order.closed ≡ false = sym m.closed ∙ e in
        due_kept p.on_order.limits.max_size q.on_order.limits.max_size (length p.lent) (length q.lent) p.on_order.pending q.on_order.pending
        (waiting_in ps) (told_in ps) (told_in ps) owed goes.lent_less goes.pending_less 0 m.size m.lent (m.pending was) (omega (arith, goes.due)) (kept.in_line was) (omega arith);
    none_lost = none_lost_quiet w.callers w.woken p q goes kept.none_lost;
    others = others_sleep_quiet w.maker_sleeps w.drain_sleeps p q goes kept.others;
  }

  pub in_line : (p q : Picture T) (ps : List Place) (owed : ℕ) (w : Waiters) → IsKeptFor p ps owed w → length q.idle ≤ length p.idle → Goes false p q
      → NoneInLineIsLost q ps owed
  in_line p q ps owed w kept less goes = (kept_quiet p q ps owed w kept less goes).in_line

  -- a caller is to be woken, where one more is idle; one in line is told, and one elsewhere woken
  pub kept_due : (caller : Bool) (wake : Wake) (p q : Picture T) (ps qs : List Place) (owed : ℕ) (v w : Waiters) → IsKeptFor p ps owed v
      → length q.idle ≤ length p.idle + cond caller 1 0 → Goes caller p q → qs ≡ told_if caller ps
      → IsSent caller wake v w → w.woken ≤ v.callers → WaitAsBefore v w → SleepOnlyUndue caller v w → IsKeptFor q qs owed w
  kept_due caller wake p q ps qs owed v w kept more goes line sent most waits sleepers = record {
    told = let P : List Place → Type 0 = λ rs. AreTold (length q.idle) rs in
        subst P (sym line) (one_told caller (length p.idle) (length q.idle) ps kept.told more);
    in_line = λ e.
        let m = goes.moves in
        let was : p.on_order.closed ≡ false = sym m.closed ∙ e in
        let waiting : waiting_in qs ≡ waiting_in ps = ap waiting_in line ∙ waiting_in-told_if caller ps in
        let told : told_in qs ≡ told_in (told_if caller ps) = ap told_in line in
        let all = due_kept p.on_order.limits.max_size q.on_order.limits.max_size (length p.lent) (length q.lent) p.on_order.pending q.on_order.pending
        (waiting_in ps) (told_in ps) (told_in (told_if caller ps)) owed goes.lent_less goes.pending_less (cond caller 1 0) m.size m.lent (m.pending was)
        (few caller goes) (kept.in_line was) (told_in-told_if caller ps) in
        omega (arith, waiting, told, all);
    none_lost = none_lost caller wake v w p q goes kept.none_lost sent most waits;
    others = others_sleep caller v w p q goes kept.others sleepers;
  } where
    few : (b : Bool) (g : Goes b p q) → g.lent_less + g.pending_less ≤ cond b 1 0
    few true g = omega (arith, g.due)
    few false g = omega (arith, g.due)

  -- all are woken, and no more are idle
  pub kept_woken : (p q : Picture T) (ps : List Place) (owed : ℕ) (v w : Waiters) → IsKeptFor p ps owed v → length q.idle ≤ length p.idle
      → NoneInLineIsLost q ps owed → AllAreWoken v w → IsKeptFor q ps owed w
  kept_woken p q ps owed v w kept less line woken = record {
    told = still_told (length p.idle) (length q.idle) ps kept.told less;
    in_line = line;
    none_lost = all_woken q w.callers w.woken (woken.woken ∙ sym woken.waits.callers);
    others = none_sleeps w.maker_sleeps w.drain_sleeps q woken.maker woken.drain;
  }

  -- the line alone changes
  pub kept_told : (p : Picture T) (ps qs : List Place) (owed owed' : ℕ) (w : Waiters) → IsKeptFor p ps owed w → AreTold (length p.idle) qs
      → NoneInLineIsLost p qs owed' → IsKeptFor p qs owed' w
  kept_told p ps qs owed owed' w kept told line = record { told = told; in_line = line; none_lost = kept.none_lost; others = kept.others }

  -- a closed pool keeps nobody waiting; and an eviction lends nothing
  pub none_lost-closed : (p : Picture T) (ps : List Place) (owed : ℕ) → p.on_order.closed ≡ true → NoneInLineIsLost p ps owed
  none_lost-closed p ps owed closed = λ e. absurd (let both : true ≡ false = sym closed ∙ e in cc)

  pub none_lost-evicted : (t : ℕ) (p q : Picture T) (ps : List Place) (owed : ℕ) → IsEvicted t p q → NoneInLineIsLost p ps owed → NoneInLineIsLost q ps owed
  none_lost-evicted t p q ps owed comes kept = λ e.
      let was : p.on_order.closed ≡ false = sym comes.closed ∙ e in
      omega (arith, kept was, ap length comes.lent, ap (λ (l : LimitSettings). l.max_size) comes.limits, comes.pending was)

  -- one leaves, and the next is told where it was
  pub none_lost-left : (p : Picture T) (ps : List Place) (owed s : ℕ) → NoneInLineIsLost p ps owed → NoneInLineIsLost p (told_if (told_at s ps) (without s ps)) owed
  none_lost-left p ps owed s kept = λ e.
      let d = told_at s ps in
      let rs = without s ps in
      let all = gone_kept (p.on_order.limits.max_size - length p.lent) p.on_order.pending (waiting_in ps) (waiting_in rs) (told_in ps) (told_in rs) (told_in (told_if d rs)) owed
      (cond d 1 0) (kept e) (omega (arith, waiting_in-without s ps)) (told_in-without s ps) (told_in-told_if d rs) in
      omega (arith, all, waiting_in-told_if d rs)

  -- one is passed, and the next is told
  pub none_lost-passed : (p : Picture T) (ps : List Place) (owed s : ℕ) → NoneInLineIsLost p ps owed → NoneInLineIsLost p (told_first (with_standing s Aside ps)) owed
  none_lost-passed p ps owed s kept = λ e.
      let rs = with_standing s Aside ps in
      let all = passed_kept (p.on_order.limits.max_size - length p.lent) p.on_order.pending (waiting_in ps) (waiting_in rs) (told_in ps) (told_in rs) (told_in (told_first rs)) owed
      (kept e) (told_in-aside_less s ps) (told_in-aside s ps) (told_in-tell rs) in
      omega (arith, all, waiting_in-tell rs)

  -- one is lent a connection, and waits no more
  pub none_lost-served : (p q : Picture T) (ps : List Place) (owed s : ℕ) → Goes false p q → length p.lent + 1 ≤ length q.lent → NoneInLineIsLost p ps owed
      → NoneInLineIsLost q (with_standing s Aside ps) owed
  none_lost-served p q ps owed s goes more kept = λ e.
      let m = goes.moves in
      let was : p.on_order.closed ≡ false = sym m.closed ∙ e in
      let all = served_kept p.on_order.limits.max_size (length p.lent) (length q.lent) p.on_order.pending q.on_order.pending (waiting_in ps) (waiting_in (with_standing s Aside ps))
      (told_in ps) (told_in (with_standing s Aside ps)) owed (kept was) more (omega (arith, m.pending was, goes.due)) (told_in-aside_less s ps) (told_in-aside s ps) in
      omega (arith, all, m.size)

  -- one waits on, or comes to wait, and is owed an opening
  pub none_lost-waits_on : (p : Picture T) (ps : List Place) (owed owed' s : ℕ) (most : ℕ) → NoneInLineIsLost p ps owed → waiting_in (with_standing s Quiet ps) ≤ most
      → owed' ≡ min (owed + 1) most → NoneInLineIsLost p (with_standing s Quiet ps) owed'
  none_lost-waits_on p ps owed owed' s most kept few is = λ e.
      stood_kept (p.on_order.limits.max_size - length p.lent) p.on_order.pending (waiting_in ps) (waiting_in (with_standing s Quiet ps)) (told_in ps) (told_in (with_standing s Quiet ps))
      owed owed' most (kept e) (told_in-quiet_less s ps) (told_in-quiet s ps) few is

  pub none_lost-joined : (p : Picture T) (ps : List Place) (owed owed' s : ℕ) (most : ℕ) → NoneInLineIsLost p ps owed → waiting_in (ps ++ place s Quiet ∷ []) ≤ most
      → owed' ≡ min (owed + 1) most → NoneInLineIsLost p (ps ++ place s Quiet ∷ []) owed'
  none_lost-joined p ps owed owed' s most kept few is = λ e.
      let qs = ps ++ place s Quiet ∷ [] in
      stood_kept (p.on_order.limits.max_size - length p.lent) p.on_order.pending (waiting_in ps) (waiting_in qs) (told_in ps) (told_in qs)
      owed owed' most (kept e) (omega (arith, told_in-join ps s, waiting_in-join ps s)) (omega (arith, told_in-join ps s)) few is

  -- nothing is idle, and what was owed was ordered, for as many as wait
  pub none_lost-paid : (p q : Picture T) (ps : List Place) (owed n : ℕ) → Asked n p q → n ≡ min (waiting_in ps) owed → NoneInLineIsLost p ps owed
      → NoneInLineIsLost q ps 0
  none_lost-paid p q ps owed n asked many kept = λ e.
      let was : p.on_order.closed ≡ false = sym asked.closed ∙ e in
      omega (arith, kept was, asked.enough was, many, asked.size, asked.lent)

  -- what a caller comes to by a take that may order, in a pool that was closed before it or not
  pub turned : (now : Duration) (taken : Take T) (t : Turn T) (closed : Bool) (old new : SeenBook T) → IsTake now true taken old new
      → turn_after (seen_take taken) closed t → closed ≡ old.picture.on_order.closed → turn_after (seen_take taken) new.picture.on_order.closed t
  turned now taken t closed old new step is same =
      subst (λ b. turn_after (seen_take taken) b t) (same ∙ sym (goes_take now true taken old.picture new.picture step.of_core).moves.closed) is

  pub looked_by : (now : Duration) (taken : Take T) (t : Turn T) (closed : Bool) (w : Wakes) (old new : SeenBook T) → IsTake now true taken old new
      → turn_after (seen_take taken) closed t → closed ≡ old.picture.on_order.closed → w ≡ wakes_of_take (seen_take taken) → IsLook now t w.workers old new
  looked_by now taken t closed w old new step is same woken = record {
    taken = taken;
    step = step;
    turn = turned now taken t closed old new step is same;
    workers = ap (λ (v : Wakes). v.workers) woken;
  }
