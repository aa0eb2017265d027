-- The lists while moves are made: at the first one, at each, and after the last.
use Rattle.std.proofs.Common.{◌≡◌, ℕ, ◌+◌, ◌<◌, max, List, [], ◌∷◌, length, get_or, drop, Option, Some, None, ◌∙◌, sym, ap, subst, add-one, drop-cons}
use Rattle.std.specs.Prelude.{◌↔◌, IsSomeAnd}
use Rattle.std.specs.Option.{option_and_then}
use Rattle.r2d2_core.specs.declared.reuse.Move.{Move}
use Rattle.pool_machine.specs.declared.schedule.limits.LendingOrder.{LendingOrder}
use Rattle.r2d2_core.specs.Reuse.{moment_in, last_seen, order_after, order_left, Picked, picked, other_after, other_left}

-- the next move, and those after it
next_move : (moves : List Move) (i : ℕ) (d : Move) → i < length moves → drop i moves ≡ get_or moves i d ∷ drop (i + 1) moves
next_move moves i d within = rw (add-one, drop-cons moves i d)

-- AT THE FIRST MOVE

pub order_started : (order : LendingOrder) (seen first : ℕ) (kept idle : List ℕ) (moves : List Move) → seen ≡ first → kept ≡ idle
    → order_left order seen kept moves ≡ order_left order first idle moves
order_started order seen first kept idle moves same are = ap (λ m. order_left order m kept moves) same ∙ ap (λ k. order_left order first k moves) are

pub other_started : (seen first : ℕ) (kept idle picks : List ℕ) (moves : List Move) → seen ≡ first → kept ≡ idle
    → other_left seen (picked kept picks) moves ≡ other_left first (picked idle picks) moves
other_started seen first kept idle picks moves same are =
    ap (λ m. other_left m (picked kept picks) moves) same ∙ ap (λ k. other_left first (picked k picks) moves) are

-- AT EACH MOVE

pub seen_moved : (seen t : ℕ) (moves : List Move) (i : ℕ) (d : Move) (whole : ℕ) → i < length moves → t ≡ max seen (moment_in (get_or moves i d))
    → last_seen seen (drop i moves) ≡ whole → last_seen t (drop (i + 1) moves) ≡ whole
seen_moved seen t moves i d whole within raised is =
    ap (λ m. last_seen m (drop (i + 1) moves)) raised ∙ (sym (ap (last_seen seen) (next_move moves i d within)) ∙ is)

pub order_moved : (order : LendingOrder) (seen t : ℕ) (kept new : List ℕ) (moves : List Move) (i : ℕ) (d : Move) (whole : List ℕ)
    → i < length moves → t ≡ max seen (moment_in (get_or moves i d)) → order_left order seen kept (drop i moves) ≡ whole
    → new ≡ order_after order t kept (get_or moves i d) → order_left order t new (drop (i + 1) moves) ≡ whole
order_moved order seen t kept new moves i d whole within raised is went =
    ap (λ k. order_left order t k (drop (i + 1) moves)) went
    ∙ (ap (λ m. order_left order m (order_after order m kept (get_or moves i d)) (drop (i + 1) moves)) raised
    ∙ (sym (ap (order_left order seen kept) (next_move moves i d within)) ∙ is))

-- what the picks make of the moves that are left is what they make of the next one, and then of the rest
picks_next : (seen t : ℕ) (other : Picked) (moves : List Move) (i : ℕ) (d : Move) (all : Option (List ℕ)) → i < length moves
    → t ≡ max seen (moment_in (get_or moves i d)) → other_left seen other (drop i moves) ≡ all
    → option_and_then (λ after. other_left t after (drop (i + 1) moves)) (other_after t other (get_or moves i d)) ≡ all
picks_next seen t other moves i d all within raised is =
    ap (λ m. option_and_then (λ after. other_left m after (drop (i + 1) moves)) (other_after m other (get_or moves i d))) raised
    ∙ (sym (ap (other_left seen other) (next_move moves i d within)) ∙ is)

pub other_moved : (seen t : ℕ) (other new : Picked) (moves : List Move) (i : ℕ) (d : Move) (all : Option (List ℕ)) → i < length moves
    → t ≡ max seen (moment_in (get_or moves i d)) → other_left seen other (drop i moves) ≡ all
    → other_after t other (get_or moves i d) ≡ Some new → other_left t new (drop (i + 1) moves) ≡ all
other_moved seen t other new moves i d all within raised is served =
    sym (ap (option_and_then (λ after. other_left t after (drop (i + 1) moves))) served) ∙ picks_next seen t other moves i d all within raised is

pub other_stopped : (seen t : ℕ) (other : Picked) (moves : List Move) (i : ℕ) (d : Move) (all : Option (List ℕ)) → i < length moves
    → t ≡ max seen (moment_in (get_or moves i d)) → other_left seen other (drop i moves) ≡ all → other_after t other (get_or moves i d) ≡ None → all ≡ None
other_stopped seen t other moves i d all within raised is stopped =
    sym (picks_next seen t other moves i d all within raised is) ∙ ap (option_and_then (λ after. other_left t after (drop (i + 1) moves))) stopped

-- AFTER THE LAST MOVE

pub seen_ended : (seen : ℕ) (left : List Move) (whole : ℕ) → left ≡ [] → last_seen seen left ≡ whole → seen ≡ whole
seen_ended seen left whole none is = sym (ap (last_seen seen) none) ∙ is

pub order_ended : (order : LendingOrder) (seen : ℕ) (kept : List ℕ) (left : List Move) (whole : List ℕ) → left ≡ [] → order_left order seen kept left ≡ whole
    → kept ≡ whole
order_ended order seen kept left whole none is = sym (ap (order_left order seen kept) none) ∙ is

pub other_ended : (seen : ℕ) (other : Picked) (left : List Move) (all : Option (List ℕ)) → left ≡ [] → other_left seen other left ≡ all → all ≡ Some other.kept
other_ended seen other left all none is = sym is ∙ ap (other_left seen other) none

pub is_some_and : {X : Type 0} (P : X → Type 0) (o : Option X) (x : X) → o ≡ Some x → P x → IsSomeAnd o P
is_some_and P o x e holds = subst (λ o. IsSomeAnd o P) (sym e) holds

pub never_none : {X Y : Type 0} (x : X) (o : Option Y) (y : Y) → o ≡ Some y → (Some x ≡ None) ↔ (o ≡ None)
never_none x o y e = (λ h. absurd cc, λ h. absurd cc)
