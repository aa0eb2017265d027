-- A journal beside its machine: where it has no room, what is before its records is what the machine shows.
use Rattle.std.proofs.Common.{◌≡◌, ℕ, zero, suc, ◌<◌, ◌≤◌, ◌==◌, Bool, true, false, cond, List, [], ◌∷◌, ◌++◌, length, drop, Option, Some, None, refl, sym, ◌∙◌}
use Rattle.std.proofs.Common.{ap, subst, arith}
use Rattle.std.specs.Prelude.{nat_lt}
use Rattle.std.proofs.lemmas.Bool.Decides.{nat_tests}
use Rattle.pool_machine.specs.declared.schedule.limits.LimitSettings.{LimitSettings}
use Rattle.pool_machine.specs.Limits.{wanted_of}
use Rattle.pool_machine.specs.Picture.{Picture, IsSound}
use Rattle.pool_machine.specs.Table.{first_picture}
use Rattle.r2d2_core.specs.Records.{SeenRecord}
use Rattle.r2d2_core.specs.Bases.{SeenBase, first_base}
use Rattle.r2d2_core.specs.Folding.{folded}
use Rattle.r2d2_core.specs.Journal.{SeenJournal, first_journal, with_oldest, with_noted, next_count, takes_with, BeginsAtTheMaking}
use Rattle.r2d2_core.specs.JournalParts.{MayNote, passed, kept_alone}
use Rattle.r2d2_core.specs.Book.{seen_book}
use Rattle.r2d2_core.specs.BookParts.{shown_at, beside, book_in, IsFaithful}
use Rattle.r2d2_core.proofs.Recording.Books.{KeepsWith, recorded, recorded_made}
use Rattle.r2d2_core.proofs.Recording.Keeping.{none_lost}
use Rattle.r2d2_core.proofs.Recording.Replaying.{is_shown, at_folded}

abbrev journal : LimitSettings → ℕ → SeenBase → List SeenRecord → ℕ → ℕ → ℕ → SeenJournal
journal limits since b rs room lost takes = record { limits = limits; made = since; base = b; records = rs; room = room; lost = lost; takes = takes }

not_zero : (n : ℕ) → 0 < n → (n == 0) ≡ false
not_zero n some = grind (arith, nat_tests)

-- with room, a journal notes a record as the definitions say
pub kept_with_room : (l : SeenJournal) (made : Option SeenRecord) → 0 < l.room → with_noted made l ≡ kept_alone made l
kept_with_room l made some = ap (λ none. cond none (passed made l) (with_noted made l)) (sym (not_zero l.room some))

alone_by : (has : Bool) (l : SeenJournal) → l ≡ cond has l l
alone_by true l = refl
alone_by false l = refl

pub none_alone : (l : SeenJournal) → l ≡ kept_alone None l
none_alone l = alone_by (l.room == 0) l

-- what is noted changes the base only where it counts a record as lost
begins_by : (l : SeenJournal) (r : SeenRecord) (has_room : Bool) → BeginsAtTheMaking l
    → BeginsAtTheMaking (cond has_room (record l { records = l.records ++ r ∷ []; takes = takes_with r l.takes })
    (record l {
      base = with_oldest l.limits (l.records ++ r ∷ []) l.base;
      records = drop 1 (l.records ++ r ∷ []);
      lost = next_count l.lost;
      takes = takes_with r l.takes;
    }))
begins_by l r true begins = begins
begins_by l r false begins = λ none. absurd (none_lost l.lost none)

begins_noted : (made : Option SeenRecord) (l : SeenJournal) → BeginsAtTheMaking l → BeginsAtTheMaking (with_noted made l)
begins_noted None l begins = begins
begins_noted (Some r) l begins = begins_by l r (nat_lt (length l.records) l.room) begins

-- a journal's room stays
room_by : (l : SeenJournal) (r : SeenRecord) (has_room : Bool)
    → (let n = cond has_room (record l { records = l.records ++ r ∷ []; takes = takes_with r l.takes })
    (record l {
      base = with_oldest l.limits (l.records ++ r ∷ []) l.base;
      records = drop 1 (l.records ++ r ∷ []);
      lost = next_count l.lost;
      takes = takes_with r l.takes;
    }) in
    n.room ≡ l.room)
room_by l r true = refl
room_by l r false = refl

room_noted : (made : Option SeenRecord) (l : SeenJournal) → (let n = with_noted made l in n.room ≡ l.room)
room_noted None l = refl
room_noted (Some r) l = room_by l r (nat_lt (length l.records) l.room)

-- without room nothing comes to be kept
none_at : (limits : LimitSettings) (since : ℕ) (b : SeenBase) (rs : List SeenRecord) (room lost takes : ℕ) (r : SeenRecord) → (room ≡ 0 → rs ≡ []) → room ≡ 0
    → (let n = with_noted (Some r) (journal limits since b rs room lost takes) in n.records ≡ [])
none_at limits since b [] zero lost takes r none e = refl
none_at limits since b (x ∷ rs) zero lost takes r none e = absurd (let no : x ∷ rs ≡ [] = none refl in cc)
none_at limits since b rs (suc room) lost takes r none e = absurd (omega (arith, e))

none_noted : (made : Option SeenRecord) (l : SeenJournal) → (l.room ≡ 0 → l.records ≡ []) → (let n = with_noted made l in n.room ≡ 0 → n.records ≡ [])
none_noted None l none e = none e
none_noted (Some r) l none e = none_at l.limits l.made l.base l.records l.room l.lost l.takes r none (sym (room_noted (Some r) l) ∙ e)

module _ {T : Type 0} where
  -- a journal with room is what it is beside any machine
  beside_same : (p : Picture T) (l : SeenJournal) → 0 < l.room → beside p l ≡ l
  beside_same p l some = ap (λ none. record l { base = cond none (shown_at l.base.at p) l.base }) (not_zero l.room some)

  -- what is before the records of a book
  pub before_shown : (p : Picture T) (l : SeenJournal) (at : ℕ) → l.room ≡ 0 → l.base ≡ first_base l.limits at → (let n = beside p l in shown_at at p ≡ n.base)
  before_shown p l at bare is =
      ap (λ (b : SeenBase). shown_at b.at p) (sym is) ∙ ap (λ n. cond (n == 0) (shown_at l.base.at p) l.base) (sym bare)

  pub before_folded : (p : Picture T) (l : SeenJournal) → 0 < l.room → (let n = beside p l in l.base ≡ n.base)
  before_folded p l some = ap (λ (n : SeenJournal). n.base) (sym (beside_same p l some))

  -- one without room, by what the machine shows before and after a step
  noted_bare : (limits : LimitSettings) (since : ℕ) (b : SeenBase) (lost takes : ℕ) (made : Option SeenRecord) (p p' : Picture T) (m : SeenJournal)
      → KeepsWith (beside p (journal limits since b [] 0 lost takes)) made p' → m ≡ kept_alone made (journal limits since b [] 0 lost takes)
      → beside p' m ≡ with_noted made (beside p (journal limits since b [] 0 lost takes))
  noted_bare limits since b lost takes None p p' m k is =
      ap (beside p') is ∙ ap (λ (x : SeenBase). journal limits since x [] 0 lost takes) (sym (is_shown (shown_at b.at p) p' k.replays.shows))
  noted_bare limits since b lost takes (Some r) p p' m k is =
      ap (beside p') is
      ∙ ap (λ (x : SeenBase). journal limits since x [] 0 (next_count lost) (takes_with r takes))
      (sym (is_shown (folded limits r (shown_at b.at p)) p' k.replays.shows ∙ ap (λ n. shown_at n p') (at_folded limits r (shown_at b.at p))))

  noted_at : (limits : LimitSettings) (since : ℕ) (b : SeenBase) (rs : List SeenRecord) (room lost takes : ℕ) (made : Option SeenRecord) (p p' : Picture T)
      (m : SeenJournal) → (room ≡ 0 → rs ≡ [])
      → KeepsWith (beside p (journal limits since b rs room lost takes)) made p' → m ≡ kept_alone made (journal limits since b rs room lost takes)
      → beside p' m ≡ with_noted made (beside p (journal limits since b rs room lost takes))
  noted_at limits since b [] zero lost takes made p p' m none k is = noted_bare limits since b lost takes made p p' m k is
  noted_at limits since b (x ∷ rs) zero lost takes made p p' m none k is = absurd (let no : x ∷ rs ≡ [] = none refl in cc)
  noted_at limits since b rs (suc room) lost takes made p p' m none k is =
      let l = journal limits since b rs (suc room) lost takes in
      let some : 0 < suc room = omega arith in
      ap (beside p') (is ∙ sym (kept_with_room l made some))
      ∙ (beside_same p' (with_noted made l) (omega (arith, room_noted made l))
      ∙ ap (with_noted made) (sym (beside_same p l some)))

  -- what a journal notes alone is, beside the machine after the step, what the definitions note beside the machine before it
  pub noted_beside : (l m : SeenJournal) (made : Option SeenRecord) (p p' : Picture T) → IsFaithful (book_in p l) → KeepsWith (beside p l) made p'
      → m ≡ kept_alone made l → beside p' m ≡ with_noted made (beside p l)
  noted_beside l m made p p' old k is = noted_at l.limits l.made l.base l.records l.room l.lost l.takes made p p' m old.none_without_room k is

  -- what is kept with a record and a picture is kept with what they are
  pub keeps_as : (l : SeenJournal) (made made' : Option SeenRecord) (p p' : Picture T) → made' ≡ made → p' ≡ p → KeepsWith l made p → KeepsWith l made' p'
  keeps_as l made made' p p' is went k = subst (λ (m : Option SeenRecord). KeepsWith l m p') (sym is) (subst (KeepsWith l made) (sym went) k)

  -- what a step makes may be noted
  pub may_note : (l : SeenJournal) (made : Option SeenRecord) (p p' : Picture T) → KeepsWith (beside p l) made p' → 0 < l.room → MayNote made l
  may_note l made p p' k some =
      let alone : KeepsWith l made p' = subst (λ (n : SeenJournal). KeepsWith n made p') (beside_same p l some) k in
      record { legal = alone.replays.base; follow = alone.replays.legal }

  -- then the book keeps what its type keeps
  pub faithful : (l m : SeenJournal) (made : Option SeenRecord) (p p' : Picture T) → IsFaithful (book_in p l) → IsSound p' → KeepsWith (beside p l) made p'
      → m ≡ kept_alone made l → IsFaithful (book_in p' m)
  faithful l m made p p' old sound k is =
      let noted = noted_beside l m made p p' old k is in
      record {
        sound = sound;
        recorded = recorded made (book_in p l) (book_in p' m) p' refl noted k;
        begins = subst BeginsAtTheMaking (sym noted) (begins_noted made (beside p l) old.begins);
        none_without_room = subst (λ (n : SeenJournal). n.room ≡ 0 → n.records ≡ []) (sym noted) (none_noted made (beside p l) old.none_without_room);
      }

-- MAKING

same_by : (none : Bool) (b : SeenBase) → cond none b b ≡ b
same_by true b = refl
same_by false b = refl

-- at the making the machine shows what the journal begins with
pub beside_first : (T : Type 0) (limits : LimitSettings) (now first_id room : ℕ)
    → beside (first_picture {T = T} limits now first_id) (first_journal limits now room) ≡ first_journal limits now room
beside_first T limits now first_id room = ap (λ (b : SeenBase). record (first_journal limits now room) { base = b })
    (same_by (room == 0) (first_base limits now))

pub faithful_first : (T : Type 0) (limits : LimitSettings) (now first_id room : ℕ) → wanted_of limits ≤ limits.max_size
    → IsSound (first_picture {T = T} limits now first_id)
    → IsFaithful (book_in (first_picture {T = T} limits now first_id) (first_journal limits now room))
faithful_first T limits now first_id room within sound =
    subst (λ (l : SeenJournal). IsFaithful (seen_book (first_picture {T = T} limits now first_id) l)) (sym (beside_first T limits now first_id room))
    (record { sound = sound; recorded = recorded_made limits now first_id room within; begins = λ none. refl; none_without_room = λ none. refl })
