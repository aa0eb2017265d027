-- What the program tells of all reports together.
use Rattle.std.specs.Prelude.{ℕ}
use Rattle.pool_audit.specs.declared.outcome.Outcome.{Outcome}
use Rattle.pool_audit.specs.declared.outcome.Outcome.TheVariants.{Sound, Concerned, Unsound}

-- the status that it ends with
abbrev pub exit_of : Outcome → ℕ
exit_of Sound = 0
exit_of Unsound = 1
exit_of Concerned = 7

-- the worse one of two
abbrev pub worse_of : Outcome → Outcome → Outcome
worse_of Sound other = other
worse_of Unsound _ = Unsound
worse_of Concerned Unsound = Unsound
worse_of Concerned _ = Concerned
