-- Who stands in line, in order.
use Rattle.std.specs.Prelude.{◌≤◌, ℕ, zero, suc, ◌+◌, ◌==◌, if◌then◌else◌, Bool, true, false, List, [], ◌∷◌, ◌++◌, length, Option, Some, None, min, nat_lt, ◌&&◌, not, slice_get}
use Rattle.std.specs.declared.time.Duration.{Duration}
use Rattle.std.specs.Duration.{as_nanos}
use Rattle.pool_machine.specs.Picture.{Picture}
use Rattle.pool_state.specs.declared.line.place.Place.{Place}
use Rattle.pool_state.specs.declared.line.place.Standing.{Standing}
use Rattle.pool_state.specs.declared.line.place.Standing.TheVariants.{Quiet, Told, Aside}

abbrev pub place : ℕ → Standing → Place
place s standing = record { slot = s; standing = standing }

abbrev pub is_quiet : Standing → Bool
is_quiet Quiet = true
is_quiet Told = false
is_quiet Aside = false

abbrev pub is_told : Standing → Bool
is_told Quiet = false
is_told Told = true
is_told Aside = false

-- 1 for one who waits
abbrev pub weight : Standing → ℕ
weight Quiet = 1
weight Told = 1
weight Aside = 0

-- how many wait
abbrev pub waiting_in : List Place → ℕ
waiting_in [] = 0
waiting_in (p ∷ ps) = weight p.standing + waiting_in ps

-- how many wait before the first who was told nothing, or all who wait
abbrev pub told_ahead : List Place → ℕ
told_ahead [] = 0
told_ahead (p ∷ ps) = if is_quiet p.standing then 0 else weight p.standing + told_ahead ps

-- how many were told to look, and have not looked yet
abbrev pub told_in : List Place → ℕ
told_in [] = 0
told_in (p ∷ ps) = (if is_told p.standing then 1 else 0) + told_in ps

-- how many wait before the one with this slot
abbrev pub ahead : ℕ → List Place → ℕ
ahead s [] = 0
ahead s (p ∷ ps) = if p.slot == s then 0 else weight p.standing + ahead s ps

-- whether the one with this slot was told to look, and looks no more
abbrev pub told_at : ℕ → List Place → Bool
told_at s [] = false
told_at s (p ∷ ps) = if p.slot == s then is_told p.standing else told_at s ps

-- 1 if one with this slot waits
abbrev pub weight_at : ℕ → List Place → ℕ
weight_at s [] = 0
weight_at s (p ∷ ps) = if p.slot == s then weight p.standing else weight_at s ps

-- all others, in their order
abbrev pub without : ℕ → List Place → List Place
without s [] = []
without s (p ∷ ps) = if p.slot == s then ps else p ∷ without s ps

-- the same, with another standing of the one with this slot
abbrev pub with_standing : ℕ → Standing → List Place → List Place
with_standing s standing [] = []
with_standing s standing (p ∷ ps) = if p.slot == s then place p.slot standing ∷ ps else p ∷ with_standing s standing ps

-- the slot of the first who was told nothing
abbrev pub first_quiet : List Place → Option ℕ
first_quiet [] = None
first_quiet (p ∷ ps) = if is_quiet p.standing then Some p.slot else first_quiet ps

-- the same, with the first who was told nothing told
abbrev pub told_first : List Place → List Place
told_first [] = []
told_first (p ∷ ps) = if is_quiet p.standing then place p.slot Told ∷ ps else p ∷ told_first ps

-- how often a slot stands in line
abbrev pub copies_in : ℕ → List Place → ℕ
copies_in s [] = 0
copies_in s (p ∷ ps) = (if p.slot == s then 1 else 0) + copies_in s ps

-- how often a number stands in a list
abbrev pub copies_of : ℕ → List ℕ → ℕ
copies_of s [] = 0
copies_of s (x ∷ xs) = (if x == s then 1 else 0) + copies_of s xs

-- the same, where the first who was told nothing is to be told, or is not
abbrev pub told_if : Bool → List Place → List Place
told_if true ps = told_first ps
told_if false ps = ps

-- and the slot of the one who is told
abbrev pub slot_if : Bool → List Place → Option ℕ
slot_if true ps = first_quiet ps
slot_if false ps = None

-- how many wait before the caller with this slot; before one without a slot, all who wait
abbrev pub before : Option ℕ → List Place → ℕ
before None ps = waiting_in ps
before (Some s) ps = ahead s ps

-- the same, where a caller with or without a slot waits on, or at the end, with the slot that it has then
abbrev pub stood_by : Option ℕ → Option ℕ → List Place → List Place
stood_by (Some s) new ps = with_standing s Quiet ps
stood_by None None ps = ps
stood_by None (Some s) ps = ps ++ place s Quiet ∷ []

-- the same, where the one with this slot has a connection
abbrev pub served : Option ℕ → List Place → List Place
served None ps = ps
served (Some s) ps = with_standing s Aside ps

-- the same, where the one with this slot is gone, and passed on what it was told
abbrev pub left_by : Option ℕ → List Place → List Place
left_by None ps = ps
left_by (Some s) ps = told_if (told_at s ps) (without s ps)

-- and the slot of the one who is told then
abbrev pub told_by : Option ℕ → List Place → Option ℕ
told_by None ps = None
told_by (Some s) ps = slot_if (told_at s ps) (without s ps)

-- something is idle, and all of it is kept for those who wait
abbrev pub is_kept : {T : Type 0} → Picture T → List Place → Bool
is_kept p ps = nat_lt 0 (length p.idle) && not (nat_lt (waiting_in ps) (length p.idle))

-- of those who wait the first ones, as many as connections are idle, were told to look
abbrev pub AreTold : ℕ → List Place → Type 0
AreTold idle ps = min idle (waiting_in ps) ≤ told_ahead ps

-- WHOSE TIME IS OVER

-- the time of a call is over at the moment t, of which this is the end, if any is known
abbrev pub is_over : ℕ → Option Duration → Bool
is_over t None = false
is_over t (Some end) = not (nat_lt t (as_nanos end))

-- one was told to look, and its time is over; each one's end stands at its slot
abbrev pub is_late : ℕ → List Duration → Place → Bool
is_late t ends p = is_told p.standing && is_over t (slice_get ends p.slot)

-- the first late one, before all that were told nothing
abbrev pub first_late : ℕ → List Duration → List Place → Option ℕ
first_late t ends [] = None
first_late t ends (p ∷ ps) =
    if is_quiet p.standing then None else (if is_late t ends p then Some p.slot else first_late t ends ps)

-- the line once this one is passed: it waits no more, and the first that was told nothing is told
abbrev pub passed_by : Option ℕ → List Place → List Place
passed_by None ps = ps
passed_by (Some s) ps = told_first (with_standing s Aside ps)

-- and the slot of the one who is told then
abbrev pub told_instead : Option ℕ → List Place → Option ℕ
told_instead None ps = None
told_instead (Some s) ps = first_quiet (with_standing s Aside ps)

-- the line once the first late one is passed, if one is; and once that was done so many times
abbrev pub pass_first : ℕ → List Duration → List Place → List Place
pass_first t ends ps = passed_by (first_late t ends ps) ps

abbrev pub passed_late : ℕ → ℕ → List Duration → List Place → List Place
passed_late zero t ends ps = ps
passed_late (suc n) t ends ps = pass_first t ends (passed_late n t ends ps)
