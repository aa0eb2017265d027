-- Refusals, and what they leave.
use Rattle.std.specs.Prelude.{Bool, if◌then◌else◌, Option, Some, None, Result, Ok, Err}
use Rattle.pool_machine.specs.declared.machine.answers.Refusal.{Refusal}

-- the first of these that holds
abbrev pub refused_if : Bool → Refusal → Option Refusal → Option Refusal
refused_if b why next = if b then Some why else next

-- the answer to a step that nothing refuses
abbrev pub ok_unless : {X : Type 0} → Option Refusal → X → Result X Refusal
ok_unless None x = Ok x
ok_unless (Some why) x = Err why

-- the same, where a refusal gives the payload back
abbrev pub ok_or_back : {X T : Type 0} → Option Refusal → T → X → Result X (Refusal × T)
ok_or_back None value x = Ok x
ok_or_back (Some why) value x = Err (why, value)

-- a refused step changes nothing
abbrev pub unless_refused : {X : Type 0} → Option Refusal → X → X → X
unless_refused None new old = new
unless_refused (Some why) new old = old
