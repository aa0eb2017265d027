-- The takes that a journal notes are those that its records tell of.
use Rattle.std.proofs.Common.{◌≡◌, ℕ, ◌+◌, ◌<◌, ◌≤◌, ◌-◌, ◌^◌, Bool, true, false, cond, List, [], ◌∷◌, ◌++◌, length, map, drop, Option, None, refl, sym, ◌∙◌}
use Rattle.std.proofs.Common.{ap, subst, arith}
use Rattle.std.specs.Prelude.{nat_lt, is_some, slice_get}
use Rattle.std.proofs.lemmas.List.{length-map, map-append, length_push}
use Rattle.std.proofs.lemmas.Bool.{ltb-true}
use Rattle.std.proofs.lemmas.List.Sums.{count_by-le-length, sum_by-append}
use Rattle.r2d2_core.specs.declared.journal.record.Record.{Record}
use Rattle.r2d2_core.specs.Records.{SeenRecord, Taken, Ordered, Admitted, Kept, Closed, Reaped, ClosedAll, seen_record, is_take, takes_in}
use Rattle.r2d2_core.specs.Journal.{takes_with}

-- with a record more at the end
takes_more : (rs : List SeenRecord) (r : SeenRecord) → takes_in (rs ++ r ∷ []) ≡ takes_in rs + takes_in (r ∷ [])
takes_more rs r = sum_by-append (λ x. cond (is_take x) 1 0) rs (r ∷ [])

pub counts_more : (rs : List SeenRecord) (r : SeenRecord) (n : ℕ) → length rs < 2 ^ 64 - 1 → n ≡ takes_in rs → takes_with r n ≡ takes_in (rs ++ r ∷ [])
counts_more rs (Taken at id ordered) n few is = omega (arith, takes_more rs (Taken at id ordered), count_by-le-length is_take rs, few, is)
counts_more rs (Ordered at ordered) n few is = omega (arith, takes_more rs (Ordered at ordered), is)
counts_more rs (Admitted at id) n few is = omega (arith, takes_more rs (Admitted at id), is)
counts_more rs (Kept at id) n few is = omega (arith, takes_more rs (Kept at id), is)
counts_more rs (Closed at id ordered) n few is = omega (arith, takes_more rs (Closed at id ordered), is)
counts_more rs (Reaped at ordered) n few is = omega (arith, takes_more rs (Reaped at ordered), is)
counts_more rs (ClosedAll at) n few is = omega (arith, takes_more rs (ClosedAll at), is)

-- a list that has room keeps what is put at its end, and its takes are counted
pub still_counts : (items : List Record) (made : Record) (capacity lost takes taken : ℕ) → length items < capacity → capacity < 2 ^ 64
    → (lost ≡ 0 → takes ≡ takes_in (map seen_record items))
    → taken ≡ takes_with (seen_record made) takes → let now = drop (length (items ++ made ∷ []) - capacity) (items ++ made ∷ []) in
    (length now ≤ capacity) × (capacity < 2 ^ 64) × (lost ≡ 0 → taken ≡ takes_in (map seen_record now))
still_counts items made capacity lost takes taken room few old is =
    let none_given : length (items ++ made ∷ []) - capacity ≡ 0 = omega (arith, length_push items made) in
    subst (λ k. (length (drop k (items ++ made ∷ [])) ≤ capacity) × (capacity < 2 ^ 64)
    × (lost ≡ 0 → taken ≡ takes_in (map seen_record (drop k (items ++ made ∷ []))))) (sym none_given) (
      omega (arith, length_push items made),
      few,
      λ none.
          is
          ∙ (counts_more (map seen_record items) (seen_record made) takes ((let long : length
          (map seen_record items) ≡ length items = length-map items seen_record in omega (arith, long, room, few))) (old none)
          ∙ ap takes_in (sym (map-append seen_record items (made ∷ [])))),
    )

-- where nothing was given up there was room
had_room_by : (items : List Record) (made : Record) (capacity : ℕ) (b : Bool) → nat_lt (length items) capacity ≡ b → (given : Option Record)
    → given ≡ cond b None (slice_get (items ++ made ∷ []) 0) → is_some given ≡ false → length items < capacity
had_room_by items made capacity true lt given is none = ltb-true (length items) capacity lt
had_room_by [] made capacity false lt given is none = absurd cc
had_room_by (x ∷ items) made capacity false lt given is none = absurd cc

pub had_room : (items : List Record) (made : Record) (capacity : ℕ) (given : Option Record)
    → given ≡ cond (nat_lt (length items) capacity) None (slice_get (items ++ made ∷ []) 0) → is_some given ≡ false → length items < capacity
had_room items made capacity given is none = had_room_by items made capacity (nat_lt (length items) capacity) refl given is none
