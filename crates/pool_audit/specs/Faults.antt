-- What the program tells of a fault.
use Rattle.std.specs.Prelude.{ℕ}
use Rattle.pool_audit.specs.declared.fault.Fault.{Fault}
use Rattle.pool_audit.specs.declared.fault.Fault.TheVariants.{NotUnderstood, NoReport, NotOfReports, Open, NotUtf8, Compressed, OtherPools, Damaged, Memory, Read, Write}

-- the status that the program ends with
abbrev pub status_of : Fault → ℕ
status_of NotUnderstood = 5
status_of (NoReport _ _) = 6
status_of (NotOfReports _ _) = 6
status_of (Open _) = 6
status_of (NotUtf8 _) = 6
status_of Compressed = 6
status_of (OtherPools _ _) = 6
status_of (Damaged _) = 6
status_of (Memory _) = 2
status_of Read = 3
status_of Write = 3
