-- Since when somebody waits, without a break.
use Rattle.std.specs.Prelude.{ℕ, min, nat_lt, if◌then◌else◌, Option, Some, None}
use Rattle.std.specs.declared.time.Duration.{Duration}

-- once a caller waits whose call began at this moment, where so many waited before it: since then, where nobody did; else since the earlier
-- of that moment and the one before
abbrev pub since_with : ℕ → ℕ → ℕ → ℕ
since_with waiting start since = if nat_lt 0 waiting then min since start else start

-- what is shown, where so many wait: the moment; none, where nobody does
abbrev pub since_if : ℕ → Duration → Option Duration
since_if waiting since = if nat_lt 0 waiting then Some since else None
