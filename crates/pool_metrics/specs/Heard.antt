-- The errors that were heard of.
use Rattle.std.specs.Prelude.{◌≡◌, ◌<◌, ◌≤◌, ℕ, List, Option, None, Some, String, length, take, option_map, string_bytes, IsCharBoundary}
use Rattle.std.specs.Duration.{as_nanos}
use Rattle.pool_metrics.specs.declared.heard.Latest.{Latest}
use Rattle.pool_metrics.specs.declared.heard.LatestError.{LatestError}

-- as much of a text as 1,000 bytes hold, cut between two characters
pub record IsBeginning (whole kept : List ℕ) : Type 0 where
  pub prefix : kept ≡ take (length kept) whole
  pub at_most : length kept ≤ 1000
  pub no_less : (i : ℕ) → length kept < i → i ≤ 1000 → ¬ (IsCharBoundary whole i)

-- a text that is told has at most so many bytes
abbrev pub IsShort : {A : Type 0} → String A → Type 0
IsShort text = length (string_bytes text) ≤ 1000

-- when the latest one came, in nanoseconds; zero before the first
abbrev pub moment_of : Option Latest → ℕ
moment_of None = 0
moment_of (Some latest) = latest.moment.nanos

-- what is told of it
pub record IsToldOf (latest : Latest) (told : LatestError) : Type 0 where
  pub text : option_map string_bytes told.text ≡ option_map (λ kept. string_bytes kept.text) latest.text
  pub at : as_nanos told.at ≡ latest.moment.nanos
  pub time : told.time ≡ latest.moment.time
