-- Who was told to look is awake, after each change of the line.
use Rattle.std.proofs.Common.{◌≡◌, ◌≢◌, ℕ, Bool, true, false, List, [], ◌∷◌, ◌++◌, Option, Some, None, ◌⊎◌, inl, inr, refl, sym, ◌∙◌, ap, subst, arith}
use Rattle.std.specs.Prelude.{zero, suc, IfSome, IsSome, Vec, slice_index_or, is_some}
use Rattle.std.proofs.lemmas.Option.{none-some}
use Rattle.std.proofs.lemmas.Bool.{cases_eq}
use Rattle.futures.specs.declared.task.waker.Waker.{Waker}
use Rattle.pool_state.specs.declared.line.place.Place.{Place}
use Rattle.pool_state.specs.declared.line.place.Standing.{Standing}
use Rattle.pool_state.specs.declared.line.place.Standing.TheVariants.{Quiet, Told, Aside}
use Rattle.pool_state.specs.Waiting.{place, told_at, told_first, first_quiet, told_if, slot_if, without, with_standing, left_by, told_by, passed_by, told_instead}
use Rattle.pool_state.specs.Lined.{looked_by, told_looked}
use Rattle.pool_tasks.specs.Wakers.{waker_at, AreAwake, KeepsOthers}

-- who is told after a change was told before, or is the one who is told by it
told_at-first : (s : ℕ) (ps : List Place) → told_at s (told_first ps) ≡ true → (told_at s ps ≡ true) ⊎ (first_quiet ps ≡ Some s)
told_at-first s [] told = inl told
told_at-first s (p ∷ ps) told = grind (arith, told_at-first s ps)

told_at-if : (b : Bool) (s : ℕ) (ps : List Place) → told_at s (told_if b ps) ≡ true → (told_at s ps ≡ true) ⊎ (slot_if b ps ≡ Some s)
told_at-if false s ps told = inl told
told_at-if true s ps told = told_at-first s ps told

told_at-without : (s x : ℕ) (ps : List Place) → s ≢ x → told_at s (without x ps) ≡ true → told_at s ps ≡ true
told_at-without s x [] differs told = told
told_at-without s x (p ∷ ps) differs told = grind (arith, told_at-without s x ps)

told_at-standing : (s x : ℕ) (t : Standing) (ps : List Place) → t ≢ Told → told_at s (with_standing x t ps) ≡ true → told_at s ps ≡ true
told_at-standing s x t [] other told = told
told_at-standing s x Quiet (p ∷ ps) other told = grind (arith, told_at-standing s x Quiet ps)
told_at-standing s x Told (p ∷ ps) other told = absurd (other refl)
told_at-standing s x Aside (p ∷ ps) other told = grind (arith, told_at-standing s x Aside ps)

told_at-joined : (s x : ℕ) (ps : List Place) → told_at s (ps ++ place x Quiet ∷ []) ≡ true → told_at s ps ≡ true
told_at-joined s x [] told = grind arith
told_at-joined s x (p ∷ ps) told = grind (arith, told_at-joined s x ps)

told_at-served : (x : ℕ) (ps : List Place) → told_at x (with_standing x Aside ps) ≡ false
told_at-served x [] = refl
told_at-served x (p ∷ ps) = grind (arith, told_at-served x ps)

-- who has a connection passes nothing on, so a look tells nobody
pub look_tells_nobody : (found keeps : Bool) (o : Option ℕ) (ps : List Place) → told_looked found keeps o ps ≡ None
look_tells_nobody true true o ps = refl
look_tells_nobody true false None ps = refl
look_tells_nobody true false (Some x) ps = ap (λ b. slot_if b (without x (with_standing x Aside ps))) (told_at-served x ps)
look_tells_nobody false keeps o ps = refl

untold_by : (told : Bool) (o : Option Waker) → (told ≡ true → o ≡ None) → IsSome o → told ≡ false
untold_by false o awake asleep = refl
untold_by true None awake asleep = absurd cc
untold_by true (Some w) awake asleep = absurd (none-some w (sym (awake refl)))

-- one more slot, at which nobody sleeps
pub push_none : {X : Type 0} (xs : List X) (d : X) (i : ℕ) → slice_index_or xs i d ≡ d → slice_index_or (xs ++ d ∷ []) i d ≡ d
push_none [] d zero e = refl
push_none [] d (suc i) e = refl
push_none (x ∷ xs) d zero e = e
push_none (x ∷ xs) d (suc i) e = push_none xs d i e

module _ {A : Type 0} where
  -- the one who is told is woken, and nobody else lies down
  at_told : (o : Option ℕ) (s : ℕ) (new : Vec (Option Waker) A) → IfSome o (λ x. waker_at new x ≡ None) → o ≡ Some s → waker_at new s ≡ None
  at_told None s new woken e = absurd cc
  at_told (Some x) s new woken e = let same : x ≡ s = cc in subst (λ i. waker_at new i ≡ None) same woken

  after_told : (b : Bool) (ps : List Place) (old new : Vec (Option Waker) A) → AreAwake ps old
      → IfSome (slot_if b ps) (λ s. waker_at new s ≡ None) → ((s : ℕ) → waker_at old s ≡ None → waker_at new s ≡ None)
      → (s : ℕ) → (told_at s ps ≡ true) ⊎ (slot_if b ps ≡ Some s) → waker_at new s ≡ None
  after_told b ps old new awake woken stay s (inl before) = stay s (awake s before)
  after_told b ps old new awake woken stay s (inr now) = at_told (slot_if b ps) s new woken now

  pub awake_told : (b : Bool) (ps : List Place) (old new : Vec (Option Waker) A) → AreAwake ps old
      → IfSome (slot_if b ps) (λ s. waker_at new s ≡ None) → ((s : ℕ) → waker_at old s ≡ None → waker_at new s ≡ None)
      → AreAwake (told_if b ps) new
  awake_told b ps old new awake woken stay s told = after_told b ps old new awake woken stay s (told_at-if b s ps told)

  -- one leaves, whose waker is gone
  awake_without_at : (x : ℕ) (ps : List Place) (old : Vec (Option Waker) A) → AreAwake ps old → waker_at old x ≡ None
      → (s : ℕ) → told_at s (without x ps) ≡ true → (s ≡ x) ⊎ (s ≢ x) → waker_at old s ≡ None
  awake_without_at x ps old awake none s told (inl same) = subst (λ i. waker_at old i ≡ None) (sym same) none
  awake_without_at x ps old awake none s told (inr differs) = awake s (told_at-without s x ps differs told)

  awake_without : (x : ℕ) (ps : List Place) (old : Vec (Option Waker) A) → AreAwake ps old → waker_at old x ≡ None → AreAwake (without x ps) old
  awake_without x ps old awake none s told = awake_without_at x ps old awake none s told (cases_eq s x)

  pub awake_left : (o : Option ℕ) (ps : List Place) (old new : Vec (Option Waker) A) → AreAwake ps old → IfSome o (λ x. waker_at old x ≡ None)
      → IfSome (told_by o ps) (λ s. waker_at new s ≡ None) → ((s : ℕ) → waker_at old s ≡ None → waker_at new s ≡ None)
      → AreAwake (left_by o ps) new
  awake_left None ps old new awake none woken stay s told = stay s (awake s told)
  awake_left (Some x) ps old new awake none woken stay s told =
      awake_told (told_at x ps) (without x ps) old new (awake_without x ps old awake none) woken stay s told

  -- one who takes, or waits on, was not told by it
  pub awake_looked : (found keeps : Bool) (o q : Option ℕ) (ps : List Place) (old : Vec (Option Waker) A) → AreAwake ps old
      → IfSome o (λ x. waker_at old x ≡ None) → AreAwake (looked_by found keeps o q ps) old
  awake_looked true true None q ps old awake none s told = awake s told
  awake_looked true true (Some x) q ps old awake none s told = awake s (told_at-standing s x Aside ps (λ e. absurd cc) told)
  awake_looked true false None q ps old awake none s told = awake s told
  awake_looked true false (Some x) q ps old awake none s told =
      let kept : AreAwake (with_standing x Aside ps) old = λ i was. awake i (told_at-standing i x Aside ps (λ e. absurd cc) was) in
      let nobody : told_by (Some x) (with_standing x Aside ps) ≡ None = ap (λ b. slot_if b (without x (with_standing x Aside ps))) (told_at-served x ps) in
      awake_left (Some x) (with_standing x Aside ps) old old kept none
      (subst (λ t. IfSome t (λ i. waker_at old i ≡ None)) (sym nobody) tt) (λ i e. e) s told
  awake_looked false keeps (Some x) q ps old awake none s told = awake s (told_at-standing s x Quiet ps (λ e. absurd cc) told)
  awake_looked false keeps None None ps old awake none s told = awake s told
  awake_looked false keeps None (Some x) ps old awake none s told = awake s (told_at-joined s x ps told)

  -- one is passed, and the next one told
  awake_passed_by : (o : Option ℕ) (ps : List Place) (old new : Vec (Option Waker) A) → AreAwake ps old
      → IfSome (told_instead o ps) (λ s. waker_at new s ≡ None) → ((s : ℕ) → waker_at old s ≡ None → waker_at new s ≡ None)
      → AreAwake (passed_by o ps) new
  awake_passed_by None ps old new awake woken stay s told = stay s (awake s told)
  awake_passed_by (Some x) ps old new awake woken stay s told =
      let kept : AreAwake (with_standing x Aside ps) old = λ i was. awake i (told_at-standing i x Aside ps (λ e. absurd cc) was) in
      awake_told true (with_standing x Aside ps) old new kept woken stay s told

  pub awake_none_passed : (o : Option ℕ) (ps qs : List Place) (old : Vec (Option Waker) A) → false ≡ is_some o → qs ≡ passed_by o ps → AreAwake ps old → AreAwake qs old
  awake_none_passed None ps qs old none line awake = subst (λ rs. AreAwake rs old) (sym line) awake
  awake_none_passed (Some x) ps qs old none line awake = absurd cc

  pub awake_passed : (o : Option ℕ) (ps qs : List Place) (t : Option ℕ) (old new : Vec (Option Waker) A) → qs ≡ passed_by o ps → t ≡ told_instead o ps
      → AreAwake ps old → IfSome t (λ s. waker_at new s ≡ None) → ((s : ℕ) → waker_at old s ≡ None → waker_at new s ≡ None) → AreAwake qs new
  awake_passed o ps qs t old new line told awake woken stay =
      subst (λ rs. AreAwake rs new) (sym line)
      (awake_passed_by o ps old new awake (subst (λ v. IfSome v (λ s. waker_at new s ≡ None)) told woken) stay)

  pub awake_kept : (ps : List Place) (old new : Vec (Option Waker) A) → AreAwake ps old
      → ((s : ℕ) → waker_at old s ≡ None → waker_at new s ≡ None) → AreAwake ps new
  awake_kept ps old new awake stay s told = stay s (awake s told)

  -- one who was told nothing lies down
  registered_at : (x : ℕ) (ps : List Place) (old new : Vec (Option Waker) A) → told_at x ps ≡ false
      → ((s : ℕ) → s ≢ x → waker_at new s ≡ waker_at old s) → AreAwake ps old
      → (s : ℕ) → told_at s ps ≡ true → (s ≡ x) ⊎ (s ≢ x) → waker_at new s ≡ None
  registered_at x ps old new quiet others awake s told (inl same) =
      let both : true ≡ false = sym told ∙ (ap (λ i. told_at i ps) same ∙ quiet) in absurd cc
  registered_at x ps old new quiet others awake s told (inr differs) = others s differs ∙ awake s told

  pub awake_registered : (x : ℕ) (ps : List Place) (old new : Vec (Option Waker) A) → told_at x ps ≡ false
      → ((s : ℕ) → s ≢ x → waker_at new s ≡ waker_at old s) → AreAwake ps old → AreAwake ps new
  awake_registered x ps old new quiet others awake s told = registered_at x ps old new quiet others awake s told (cases_eq s x)

  -- a step that told one, or nobody
  pub awake_after : (b : Bool) (ps qs : List Place) (o : Option ℕ) (old new : Vec (Option Waker) A) → qs ≡ told_if b ps → o ≡ slot_if b ps
      → AreAwake ps old → IfSome o (λ s. waker_at new s ≡ None) → ((s : ℕ) → waker_at old s ≡ None → waker_at new s ≡ None) → AreAwake qs new
  awake_after b ps qs o old new line told awake woken stay =
      subst (λ rs. AreAwake rs new) (sym line)
      (awake_told b ps old new awake (subst (λ t. IfSome t (λ s. waker_at new s ≡ None)) told woken) stay)

  -- a step that left the line as it was
  pub awake_same : (ps qs : List Place) (old : Vec (Option Waker) A) → qs ≡ ps → AreAwake ps old → AreAwake qs old
  awake_same ps qs old line awake = subst (λ rs. AreAwake rs old) (sym line) awake

  pub awake_line : (ps : List Place) (old : Vec (Option Waker) A) → ps ≡ [] → AreAwake ps old
  awake_line ps old line s told = let none : told_at s ps ≡ false = ap (told_at s) line in absurd cc

  -- who sleeps was told nothing
  pub untold_asleep : (s : ℕ) (ps : List Place) (old : Vec (Option Waker) A) → AreAwake ps old → IsSome (waker_at old s) → told_at s ps ≡ false
  untold_asleep s ps old awake asleep = untold_by (told_at s ps) (waker_at old s) (awake s) asleep

  -- one left the line, whose waker was cleared
  pub awake_gone : (o : Option ℕ) (ps qs : List Place) (t : Option ℕ) (old mid new : Vec (Option Waker) A) → qs ≡ left_by o ps → t ≡ told_by o ps
      → AreAwake ps old → IfSome o (λ x. waker_at mid x ≡ None) → ((s : ℕ) → waker_at old s ≡ None → waker_at mid s ≡ None)
      → IfSome t (λ x. waker_at new x ≡ None) → ((s : ℕ) → waker_at mid s ≡ None → waker_at new s ≡ None) → AreAwake qs new
  awake_gone o ps qs t old mid new line told awake cleared to_mid woken to_new =
      subst (λ rs. AreAwake rs new) (sym line)
      (awake_left o ps mid new (awake_kept ps old mid awake to_mid) cleared (subst (λ v. IfSome v (λ x. waker_at new x ≡ None)) told woken) to_new)

  -- a look
  pub awake_look : (found keeps : Bool) (o q : Option ℕ) (ps qs : List Place) (old new : Vec (Option Waker) A) → qs ≡ looked_by found keeps o q ps
      → AreAwake ps old → IfSome o (λ x. waker_at old x ≡ None) → ((s : ℕ) → waker_at old s ≡ None → waker_at new s ≡ None) → AreAwake qs new
  awake_look found keeps o q ps qs old new line awake none stay =
      subst (λ rs. AreAwake rs new) (sym line) (awake_kept (looked_by found keeps o q ps) old new (awake_looked found keeps o q ps old awake none) stay)

  -- a look wakes nobody
  pub look_keeps : (found keeps : Bool) (o t : Option ℕ) (ps : List Place) (old new : Vec (Option Waker) A) → t ≡ told_looked found keeps o ps
      → KeepsOthers t old new → (s : ℕ) → waker_at new s ≡ waker_at old s
  look_keeps found keeps o t ps old new told kept s =
      let none : t ≡ None = told ∙ look_tells_nobody found keeps o ps in kept s (λ e. none-some s (sym none ∙ e))
