-- A whole input: its lines, the outcome, and what is written.
use Rattle.std.specs.Prelude.{◌≡◌, ℕ, ◌+◌, ◌<◌, ◌↔◌, Bool, IsTrue, ◌==◌, if◌then◌else◌, List, [], ◌∷◌, ◌++◌, length, drop, slice_get, Option, Some, None}
use Rattle.std.specs.Prelude.{is_some, unwrap_or, Result, Ok, Err, ⊤}
use Rattle.std.specs.Io.KnownBytes.{Appends}
use Rattle.std.specs.Io.BufRead.{first_piece, drop_through}
use Rattle.pool_machine.specs.declared.schedule.limits.LimitSettings.{LimitSettings}
use Rattle.pool_machine.specs.Limits.{AreLegal}
use Rattle.pool_machine.specs.Picture.{Picture}
use Rattle.pool_machine.specs.Table.{first_picture}
use Rattle.pool_lines.specs.declared.program.Fault.{Fault}
use Rattle.pool_lines.specs.declared.program.Fault.TheVariants.{NotAStep, LimitsRefused, Memory, Read, Write}
use Rattle.pool_lines.specs.Lines.{SeenLine, sizes_of, step_in, limits_in}
use Rattle.pool_lines.specs.Steps.{answer_text, after_said}

-- LINES

abbrev pub onto_first : ℕ → List (List ℕ) → List (List ℕ)
onto_first b [] = (b ∷ []) ∷ []
onto_first b (line ∷ lines) = (b ∷ line) ∷ lines

-- the lines of the bytes: each ends at a line feed, which the last may lack
abbrev pub lines_of : List ℕ → List (List ℕ)
lines_of [] = []
lines_of (b ∷ bytes) = if b == 10 then [] ∷ lines_of bytes else onto_first b (lines_of bytes)

-- the first line is taken off the bytes; there is one where there is a byte
pub record TakesLine (bytes : List ℕ) (is_there : Bool) (taken : List ℕ) (rest : Option (List ℕ)) : Type 0 where
  pub there : IsTrue is_there ↔ (0 < length bytes)
  pub line : taken ≡ first_piece 10 bytes
  pub left : rest ≡ Some (drop_through 10 bytes)

-- THE LINES AFTER THE FIRST

abbrev pub and_then : Option SeenLine → List SeenLine → List SeenLine
and_then None steps = []
and_then (Some said) steps = said ∷ steps

-- the steps up to the first line that is none
abbrev pub steps_of : List (List ℕ) → List SeenLine
steps_of [] = []
steps_of (line ∷ lines) = and_then (step_in line) (steps_of lines)

-- how it ends, where the lines are counted from n
abbrev pub outcome_of : ℕ → List (List ℕ) → Result (Unit {0}) Fault
outcome_of n [] = Ok tt
outcome_of n (line ∷ lines) = if is_some (step_in line) then outcome_of (n + 1) lines else Err (NotAStep n)

-- the answers to the steps of a pool
abbrev pub answers_to : Picture ℕ → List SeenLine → List ℕ
answers_to p [] = []
answers_to p (said ∷ steps) = answer_text said p ++ answers_to (after_said said p) steps

-- HOW IT ENDS

-- memory, reads and writes did not fail
abbrev pub IsPlayed : Result (Unit {0}) Fault → Type 0
IsPlayed (Ok done) = ⊤
IsPlayed (Err (NotAStep n)) = ⊤
IsPlayed (Err LimitsRefused) = ⊤
IsPlayed (Err Memory) = ⊥
IsPlayed (Err Read) = ⊥
IsPlayed (Err Write) = ⊥

-- a pool of this picture ends as the lines do, which are counted from n, and the output grew by its answers
abbrev pub Goes : ℕ → Picture ℕ → List ℕ → Result (Unit {0}) Fault → Option (List ℕ) → Option (List ℕ) → Type 0
Goes n p bytes outcome old new =
    IsPlayed outcome → (outcome ≡ outcome_of n (lines_of bytes)) × Appends old new (answers_to p (steps_of (lines_of bytes)))

-- THE WHOLE

abbrev pub first_of : List (List ℕ) → List ℕ
first_of lines = unwrap_or (slice_get lines 0) []

-- how a script of these lines ends, and what it writes
pub data Plays (lines : List (List ℕ)) : Result (Unit {0}) Fault → List ℕ → Type 0 where
  no_limits : limits_in (first_of lines) ≡ None → Plays lines (Err (NotAStep 1)) []
  refused : (s : LimitSettings) → limits_in (first_of lines) ≡ Some (sizes_of s) → ¬ (AreLegal s) → Plays lines (Err LimitsRefused) []
  played : (s : LimitSettings) → limits_in (first_of lines) ≡ Some (sizes_of s) → AreLegal s →
      Plays lines (outcome_of 2 (drop 1 lines)) (answers_to (first_picture s 0 0) (steps_of (drop 1 lines)))

-- the output grew by what the script of the bytes writes, and the outcome is the script's
abbrev pub Serves : List ℕ → Result (Unit {0}) Fault → Option (List ℕ) → Option (List ℕ) → Type 0
Serves bytes outcome old new = IsPlayed outcome → (text : List ℕ) × Plays (lines_of bytes) outcome text × Appends old new text
