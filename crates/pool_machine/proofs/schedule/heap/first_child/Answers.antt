use Rattle.std.proofs.Common.{arith, ◌≡◌, ℕ, ◌+◌, ◌*◌, ◌<◌, ◌≤◌, true, false, length, get_or, List, sym, ◌∙◌, inl, inr}
use Rattle.std.proofs.lemmas.List.{get_or_read}
use Rattle.std.proofs.lemmas.Bool.{cases_eq}
use Rattle.pool_machine.specs.Openings.{SeenOpening, is_before}
use Rattle.pool_machine.proofs.Scheduling.Openings.{not_before_itself, not_both_before}
use Rattle.pool_machine.proofs.schedule.heap.first_child.Goals as goal
use Rattle.pool_machine.proofs.schedule.heap.first_child.Goals.{else-left-entries-via-then-left-entries+else-is_before, else-left-entries-via-else-left-entries}

-- of two next to each other, the right one comes first
right : (xs : List SeenOpening) (l : ℕ) (x y : SeenOpening) → l + 1 < length xs → x ≡ get_or xs (l + 1) x → y ≡ get_or xs l y → is_before x y ≡ true
    → (k : ℕ) (d : SeenOpening) → l ≤ k → k ≤ l + 1 → is_before (get_or xs k d) (get_or xs (l + 1) d) ≡ false
right xs l x y within read_x read_y before k d low high =
    elim (cases_eq k l) [
      | inl e ↦ rw (e, ← get_or_read xs (l + 1) x within read_x d, ← get_or_read xs l y (omega arith) read_y d) (not_both_before x y before)
      | inr ne ↦ let e : k ≡ l + 1 = omega arith in rw e (not_before_itself (get_or xs (l + 1) d))
    ]

-- the left one does, or there is no right one
left : (xs : List SeenOpening) (l : ℕ) → l < length xs → (l + 1 < length xs → (d : SeenOpening) → is_before (get_or xs (l + 1) d) (get_or xs l d) ≡ false)
    → (k : ℕ) (d : SeenOpening) → l ≤ k → k ≤ l + 1 → k < length xs → is_before (get_or xs k d) (get_or xs l d) ≡ false
left xs l within least k d low high k_within =
    elim (cases_eq k l) [
      | inl e ↦ rw e (not_before_itself (get_or xs l d))
      | inr ne ↦ let e : k ≡ l + 1 = omega arith in let there : l + 1 < length xs = omega arith in rw e (least there d)
    ]

pub returns-then-is_before-clause-least : goal.returns-then-is_before-clause-least
returns-then-is_before-clause-least g c k d low high within =
    let before : is_before c.index-entries-left.result c.index-entries-left-then-left-entries.result ≡ true = sym c.is_before.ensures.value
    ∙ c.if-is_before.true in
    right c.args.entries.now (2 * c.args.at + 1) c.index-entries-left.result c.index-entries-left-then-left-entries.result
    (omega arith) c.index-entries-left.is c.index-entries-left-then-left-entries.is before k d low (omega arith)

pub returns-else-left-entries-clause-least : goal.returns-else-left-entries-clause-least
returns-else-left-entries-clause-least g c =
    elim c.else-left-entries.branch [
      | else-left-entries-via-then-left-entries+else-is_before w ↦
          let x = w.index-entries-left.result in
          let y = w.index-entries-left-then-left-entries.result in
          let not_before : is_before x y ≡ false = sym w.is_before.ensures.value ∙ w.if-is_before.false in
          λ k d low high within. left c.args.entries.now (2 * c.args.at + 1) c.requires
          (λ there d. rw (
            ← get_or_read c.args.entries.now (2 * c.args.at + 1 + 1) x there w.index-entries-left.is d,
            ← get_or_read c.args.entries.now (2 * c.args.at + 1) y c.requires w.index-entries-left-then-left-entries.is d,
          ) not_before)
          k d low (omega arith) within
      | else-left-entries-via-else-left-entries w ↦
          λ k d low high within. left c.args.entries.now (2 * c.args.at + 1) c.requires (λ there d. absurd (omega (arith, w.if-left-entries.false))) k d low
          (omega arith) within
    ]
