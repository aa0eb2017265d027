-- What failed in a pool, whom it told so, and what that tells of the connections that are idle.
use Rattle.std.specs.Prelude.{◌≡◌, ℕ, ◌+◌, ◌-◌, ◌^◌, min, max, Option, None, Some, IsSomeAnd}
use Rattle.std.specs.declared.time.Duration.{Duration}
use Rattle.std.specs.Duration.{as_nanos}
use Rattle.pool_state.specs.declared.failures.Failures.{Failures}

-- a count of 64 bits after one more, which stops at the greatest
abbrev pub one_more : ℕ → ℕ
one_more n = min (n + 1) (2 ^ 64 - 1)

-- the later of a moment and the latest before it, if there was one
abbrev pub later_of : ℕ → Option Duration → ℕ
later_of now None = now
later_of now (Some latest) = max (as_nanos latest) now

-- something failed at this moment: the latest is no earlier one now
abbrev pub IsLatest : Duration → Option Duration → Option Duration → Type 0
IsLatest now old new = IsSomeAnd new (λ latest. as_nanos latest ≡ later_of (as_nanos now) old)

-- nothing failed
pub record HaveNone (failures : Failures) : Type 0 where
  pub openings : failures.openings ≡ 0
  pub checks : failures.checks ≡ 0
  pub refused : failures.refused ≡ 0
  pub timeouts : failures.timeouts ≡ 0
  pub latest : failures.latest ≡ None
  pub distrusted_before : as_nanos failures.distrusted_before ≡ 0

-- another opening failed at this moment
pub record IsOneOpeningMore (now : Duration) (old new : Failures) : Type 0 where
  pub openings : new.openings ≡ one_more old.openings
  pub checks : new.checks ≡ old.checks
  pub refused : new.refused ≡ old.refused
  pub timeouts : new.timeouts ≡ old.timeouts
  pub latest : IsLatest now old.latest new.latest
  pub distrusted_before : new.distrusted_before ≡ old.distrusted_before

-- another check failed at this moment, and what was idle before that one is distrusted too
pub record IsOneCheckMore (now before : Duration) (old new : Failures) : Type 0 where
  pub openings : new.openings ≡ old.openings
  pub checks : new.checks ≡ one_more old.checks
  pub refused : new.refused ≡ old.refused
  pub timeouts : new.timeouts ≡ old.timeouts
  pub latest : IsLatest now old.latest new.latest
  pub distrusted_before : as_nanos new.distrusted_before ≡ max (as_nanos old.distrusted_before) (as_nanos before)

-- another caller was refused
pub record IsOneRefusalMore (old new : Failures) : Type 0 where
  pub openings : new.openings ≡ old.openings
  pub checks : new.checks ≡ old.checks
  pub refused : new.refused ≡ one_more old.refused
  pub timeouts : new.timeouts ≡ old.timeouts
  pub latest : new.latest ≡ old.latest
  pub distrusted_before : new.distrusted_before ≡ old.distrusted_before

-- another caller gave up
pub record IsOneTimeoutMore (old new : Failures) : Type 0 where
  pub openings : new.openings ≡ old.openings
  pub checks : new.checks ≡ old.checks
  pub refused : new.refused ≡ old.refused
  pub timeouts : new.timeouts ≡ one_more old.timeouts
  pub latest : new.latest ≡ old.latest
  pub distrusted_before : new.distrusted_before ≡ old.distrusted_before
