-- What the program tells of a fault.
use Rattle.std.specs.Prelude.{ℕ, List, ◌<◌, ◌++◌, codes}
use Rattle.std.specs.Fmt.{decimal}
use Rattle.pool_lines.specs.declared.program.Fault.{Fault}
use Rattle.pool_lines.specs.declared.program.Fault.TheVariants.{NotAStep, LimitsRefused, Memory, Read, Write}

-- the status that the program ends with
abbrev pub status_of : Fault → ℕ
status_of (NotAStep _) = 1
status_of LimitsRefused = 1
status_of Memory = 2
status_of Read = 3
status_of Write = 3

-- the text on standard error
abbrev pub text_of : Fault → List ℕ
text_of (NotAStep number) = codes "line " ++ decimal number ++ codes ": not a step"
text_of LimitsRefused = codes "line 1: limits refused"
text_of Memory = codes "out of memory"
text_of Read = codes "read failed"
text_of Write = codes "write failed"

-- a line that is told of is counted from 1
abbrev pub IsCountedFromOne : Fault → Type 0
IsCountedFromOne (NotAStep number) = 0 < number
IsCountedFromOne LimitsRefused = Unit {0}
IsCountedFromOne Memory = Unit {0}
IsCountedFromOne Read = Unit {0}
IsCountedFromOne Write = Unit {0}
