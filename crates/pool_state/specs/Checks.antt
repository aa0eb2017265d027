-- When what is lent is checked first, where checks are on.
use Rattle.std.specs.Prelude.{ℕ, ◌-◌, Bool, true, nat_lt, not, if◌then◌else◌, Option, Some, None}
use Rattle.std.specs.declared.time.Duration.{Duration}
use Rattle.std.specs.Duration.{as_nanos}

-- always, unless only what was idle for long is; then, if it was idle for so long by now, or if nobody knows for how long, since no moment
-- is known, or it is later than now
abbrev pub is_check_due : Option Duration → Option ℕ → ℕ → Bool
is_check_due None idle_since now = true
is_check_due (Some least) None now = true
is_check_due (Some least) (Some since) now = if nat_lt now since then true else not (nat_lt (now - since) (as_nanos least))
