-- Which of the openings and the next reap is first.
use Rattle.std.proofs.Common.{◌≡◌, ℕ, ◌<◌, ◌≤◌, List, [], ◌∷◌, true, false, refl, cond, Option, Some, None, nat_lt, nat_le, Bool}
use Rattle.std.specs.Option.{option_map}
use Rattle.std.specs.Duration.{as_nanos}
use Rattle.std.specs.declared.time.Duration.{Duration}
use Rattle.std.proofs.lemmas.Bool.{cond-true, cond-false, ltb-true, ltb-false, le-leb, lt-leb}
use Rattle.pool_machine.specs.Openings.{SeenOpening}
use Rattle.pool_machine.specs.Schedule.{is_due_before}
use Rattle.pool_machine.specs.Jobs.{SeenJob, Wait, Open, Reap, once_due, first_job}

-- an opening, and a reap, once they are due
abbrev pub open_or_wait : ℕ → SeenOpening → SeenJob
open_or_wait now x = once_due now x.due (Open x.tries)

abbrev pub reap_or_wait : ℕ → ℕ → SeenJob
reap_or_wait now reap = once_due now reap Reap

-- the opening is the entry
pub opening_first : (now : ℕ) (xs rest : List SeenOpening) (x : SeenOpening) (reap : Option Duration) → xs ≡ x ∷ rest → is_due_before reap x.due ≡ false
    → first_job now xs (option_map as_nanos reap) ≡ open_or_wait now x
opening_first now xs rest x None e h = rw e refl
opening_first now xs rest x (Some r) e h = rw e (cond-true _ _ _ (le-leb x.due (as_nanos r) (ltb-false (as_nanos r) x.due h)))

-- the reap is the entry
pub reap_first : (now : ℕ) (xs rest : List SeenOpening) (x : SeenOpening) (r : ℕ) → xs ≡ x ∷ rest → nat_lt r x.due ≡ true
    → first_job now xs (Some r) ≡ reap_or_wait now r
reap_first now xs rest x r e h = rw e (cond-false _ _ _ (lt-leb x.due r (ltb-true r x.due h)))

-- what the entry says at the moment
pub opening_waits : (now : ℕ) (x : SeenOpening) → now < x.due → open_or_wait now x ≡ Wait x.due
opening_waits now x h = cond-false _ _ _ (lt-leb x.due now h)

pub opening_opens : (now : ℕ) (x : SeenOpening) → x.due ≤ now → open_or_wait now x ≡ Open x.tries
opening_opens now x h = cond-true _ _ _ (le-leb x.due now h)

pub reap_waits : (now r : ℕ) → now < r → reap_or_wait now r ≡ Wait r
reap_waits now r h = cond-false _ _ _ (lt-leb r now h)

pub reap_reaps : (now r : ℕ) → r ≤ now → reap_or_wait now r ≡ Reap
reap_reaps now r h = cond-true _ _ _ (le-leb r now h)

opens_this : (k : ℕ) (b : Bool) (x : SeenOpening) → Open k ≡ cond b (Open x.tries) (Wait x.due) → x.tries ≡ k
opens_this k true x e = cc
opens_this k false x e = absurd cc

opens_no_reap : (k reap : ℕ) (b : Bool) → Open k ≡ cond b Reap (Wait reap) → ⊥
opens_no_reap k reap true e = cc
opens_no_reap k reap false e = cc

opens_or_reap : (k now reap : ℕ) (b : Bool) (x : SeenOpening) → Open k ≡ cond b (open_or_wait now x) (reap_or_wait now reap) → x.tries ≡ k
opens_or_reap k now reap true x e = opens_this k (nat_le x.due now) x e
opens_or_reap k now reap false x e = absurd (opens_no_reap k reap (nat_le reap now) e)

-- an opening that is handed out is the first one
pub opens_first : (k now : ℕ) (xs : List SeenOpening) (reap : Option ℕ) → Open k ≡ first_job now xs reap → (x : SeenOpening) × (rest : List SeenOpening)
    × (xs ≡ x ∷ rest) × (x.tries ≡ k)
opens_first k now [] None e = absurd cc
opens_first k now [] (Some r) e = absurd (opens_no_reap k r (nat_le r now) e)
opens_first k now (x ∷ xs) None e = (x, xs, refl, opens_this k (nat_le x.due now) x e)
opens_first k now (x ∷ xs) (Some r) e = (x, xs, refl, opens_or_reap k now r (nat_le x.due r) x e)
