-- What the program writes: one line for each step that is taken. Moments and ages come in nanoseconds.
use Rattle.std.specs.Prelude.{ℕ, ◌-◌, ◌/◌, ◌%◌, ◌==◌, ◌^◌, if◌then◌else◌, false, List, [], ◌∷◌, ◌++◌, flat_map, codes, decimal, Option, Some, None, Result, Ok}
use Rattle.std.specs.Prelude.{Err}
use Rattle.std.specs.Fmt.{padded_integral, format_spec}
use Rattle.pool_machine.specs.declared.machine.answers.Refusal.{Refusal}
use Rattle.pool_machine.specs.declared.machine.answers.Refusal.TheVariants.{Closed, NotLent, NoOpening, IdsUsedUp, NotNumbered}
use Rattle.pool_machine.specs.Connections.{SeenReleased}
use Rattle.pool_machine.specs.Jobs.{SeenJob, Open, Reap, Wait, Nothing, Closed as JobClosed}
use Rattle.pool_machine.specs.Seen.{SeenTake, Found, Empty, SeenReturned, Kept, SeenGone}
use Rattle.pool_machine.specs.Seen as reply

-- what `{:06}` writes
abbrev pub six_digits : ℕ → List ℕ
six_digits n = padded_integral (format_spec 32 0 4 6 (2 ^ 64 - 1)) false [] (decimal n)

-- whole milliseconds, and six digits of the nanoseconds that remain, where there are any
abbrev pub milliseconds : ℕ → List ℕ
milliseconds nanos =
    if nanos % 1_000_000 == 0 then decimal (nanos / 1_000_000)
    else decimal (nanos / 1_000_000) ++ codes "." ++ six_digits (nanos % 1_000_000)

-- a text and its line feed
abbrev pub line : List ℕ → List ℕ
line text = text ++ 10 ∷ []

-- a number after a space
abbrev pub then_number : ℕ → List ℕ
then_number n = codes " " ++ decimal n

abbrev pub word_of : Refusal → List ℕ
word_of Closed = codes "Closed"
word_of NotLent = codes "NotLent"
word_of NoOpening = codes "NoOpening"
word_of IdsUsedUp = codes "IdsUsedUp"
word_of NotNumbered = codes "NotNumbered"

abbrev pub refusal_text : Refusal → List ℕ
refusal_text why = line (codes "refused " ++ word_of why)

abbrev pub take_text : SeenTake ℕ → List ℕ
take_text (Found id birth value n) = line (codes "taken " ++ decimal id ++ codes " " ++ decimal value ++ codes " ordered " ++ decimal n)
take_text (Empty n) = line (codes "empty ordered " ++ decimal n)

abbrev pub task_text : SeenJob → List ℕ
task_text (Open tries) = line (codes "open " ++ decimal tries)
task_text Reap = line (codes "reap")
task_text (Wait due) = line (codes "wait " ++ milliseconds due)
task_text Nothing = line (codes "nothing")
task_text JobClosed = line (codes "closed")

abbrev pub number_text : Result ℕ Refusal → List ℕ
number_text (Ok id) = line (codes "numbered " ++ decimal id)
number_text (Err why) = refusal_text why

abbrev pub admission_text : Result (Unit {0}) (Refusal × ℕ) → List ℕ
admission_text (Ok done) = line (codes "admitted")
admission_text (Err back) = refusal_text back.0

abbrev pub failure_text : Result ℕ Refusal → List ℕ
failure_text (Ok due) = line (codes "retry " ++ milliseconds due)
failure_text (Err why) = refusal_text why

-- the connection with the id is gone
abbrev pub gone_text : ℕ → ℕ → ℕ → List ℕ
gone_text id age n = line (codes "gone " ++ decimal id ++ codes " age " ++ milliseconds age ++ codes " ordered " ++ decimal n)

abbrev pub check_text : ℕ → Result SeenGone Refusal → List ℕ
check_text id (Ok loss) = gone_text id loss.age loss.ordered
check_text id (Err why) = refusal_text why

abbrev pub return_text : ℕ → Result (SeenReturned ℕ) (Refusal × ℕ) → List ℕ
return_text id (Ok Kept) = line (codes "kept")
return_text id (Ok (reply.Closed value age n)) = gone_text id age n
return_text id (Err back) = refusal_text back.0

-- the ids of the connections that are to be shut, each after a space
abbrev pub released_text : List (SeenReleased ℕ) → List ℕ
released_text closed = flat_map (λ c. then_number c.id) closed

abbrev pub reap_text : List (SeenReleased ℕ) → ℕ → List ℕ
reap_text closed n = line (codes "reaped" ++ released_text closed ++ codes " ordered " ++ decimal n)

abbrev pub error_text : Option (List ℕ) → List ℕ
error_text (Some text) = line (codes "error " ++ text)
error_text None = line (codes "error none")

abbrev pub left_text : List (ℕ × ℕ) → List ℕ
left_text left = flat_map (λ c. then_number c.0) left

abbrev pub close_text : List (ℕ × ℕ) → List ℕ
close_text left = line (codes "closed" ++ left_text left)

-- connections, idle ones, pending openings
abbrev pub state_text : ℕ → ℕ → ℕ → List ℕ
state_text connections idle pending = line (codes "state " ++ decimal connections ++ codes " " ++ decimal idle ++ codes " " ++ decimal pending)
