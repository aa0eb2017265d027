-- That a replay of a report follows its records as the definitions say.
use Rattle.std.proofs.Common.{◌≡◌, ℕ, ◌+◌, ◌≤◌, ◌<◌, true, false, List, ◌∷◌, [], ◌++◌, map, length, drop, take, get_or, length-take-le, get_or-take}
use Rattle.std.proofs.Common.{sym, ◌∙◌, ap, subst, arith}
use Rattle.std.proofs.lemmas.List.{take_all, take-map, length-map}
use Rattle.r2d2_core.specs.declared.journal.record.Record.{Record}
use Rattle.r2d2_core.specs.declared.journal.report.Report.{Report}
use Rattle.pool_machine.specs.Limits.{seen_limits}
use Rattle.r2d2_core.specs.Records.{SeenRecord, seen_record}
use Rattle.r2d2_core.specs.Bases.{SeenBase, IsLegalBase}
use Rattle.r2d2_core.specs.Folding.{folded, replay, may_follow, AreLegalFrom}
use Rattle.r2d2_core.specs.RunningBase.{SeenRunningBase, running_base, made_idle_by, made_lent_by, rooms_for}
use Rattle.r2d2_core.specs.Reports.{seen_base, seen_records, told_in, DoesReplay}
use Rattle.r2d2_core.specs.Auditing.{ShowsCounts}
use Rattle.r2d2_core.specs.Faults.{IsFirstWrong, ComesToOther, AreApartUpTo}
use Rattle.r2d2_core.specs.Replays.{HasFollowed}
use Rattle.r2d2_core.proofs.Recording.Auditing.{some_record, seen_next, seen_taken, following_start, following_more, following_stop, following_fits, following_end}
use Rattle.r2d2_core.proofs.Recording.Auditing.{first_wrong_at, all_legal, does}

-- a record stands in a list after so many
abbrev IsNext : ℕ → List SeenRecord → SeenRecord → Type 0
IsNext k rs x = (drop k rs ≡ x ∷ drop (k + 1) rs) × (take (k + 1) rs ≡ take k rs ++ x ∷ [])

module _ {B : Type 0} (r : Report B) (apart k : ℕ) where
  -- the next record
  abbrev pub next_in : SeenRecord
  next_in = seen_record (get_or r.records.items k some_record)

  is_next_in : apart ≤ length r.records.items → k < apart → IsNext k (take apart (seen_records r)) next_in
  is_next_in within lt =
      let items = r.records.items in
      let xs = take apart items in
      let same : map seen_record xs ≡ take apart (seen_records r) = sym (take-map seen_record apart items) in
      let here : k < length xs = omega (arith, lt, length-take-le apart items within) in
      let is : IsNext k (map seen_record xs) (seen_record (get_or xs k some_record)) =
      (seen_next seen_record xs k some_record here, seen_taken seen_record xs k some_record here) in
      subst (λ (x : Record). IsNext k (take apart (seen_records r)) (seen_record x)) (get_or-take apart items k some_record lt)
      (subst (λ (l : List SeenRecord). IsNext k l (seen_record (get_or xs k some_record))) same is)

  pub begun_in : (s : SeenRunningBase) (rs : List SeenRecord) → IsLegalBase (seen_limits r.limits) (seen_base r.base) → AreApartUpTo r apart
      → rs ≡ take apart (seen_records r) → s ≡ running_base (seen_base r.base) (rooms_for (seen_base r.base) rs) → HasFollowed r apart 0 s
  begun_in s rs legal upto same is =
      let base = seen_base r.base in
      subst (λ (s : SeenRunningBase). HasFollowed r apart 0 s) (sym is) (record {
        base = legal;
        upto = upto;
        within = omega arith;
        following = following_start (seen_limits r.limits) (take apart (seen_records r)) base (rooms_for base rs) legal upto.apart (ap (rooms_for base) same);
      })

  pub fits_in : (s : SeenRunningBase) → HasFollowed r apart k s → k < apart
      → (length s.base.idle + made_idle_by next_in ≤ s.room.idle) × (length s.base.lent + made_lent_by next_in ≤ s.room.lent)
  fits_in s h lt = following_fits (seen_limits r.limits) (take apart (seen_records r)) (seen_base r.base) k s.base s.room next_in
      (is_next_in h.upto.within lt).0 h.following

  pub more_in : (s now : SeenRunningBase) → HasFollowed r apart k s → k < apart → may_follow (seen_limits r.limits) next_in s.base ≡ true
      → now ≡ running_base (folded (seen_limits r.limits) next_in s.base) s.room → HasFollowed r apart (k + 1) now
  more_in s now h lt may is =
      let next = is_next_in h.upto.within lt in
      subst (λ (n : SeenRunningBase). HasFollowed r apart (k + 1) n) (sym is) (record {
        base = h.base;
        upto = h.upto;
        within = omega (arith, lt);
        following = following_more (seen_limits r.limits) (take apart (seen_records r)) (seen_base r.base) k s.base s.room next_in next.0 next.1 may h.following;
      })

  pub stop_in : (s : SeenRunningBase) → HasFollowed r apart k s → k < length r.records.items → k < apart
      → may_follow (seen_limits r.limits) next_in s.base ≡ false → IsFirstWrong r k
  stop_in s h here lt may =
      let next = is_next_in h.upto.within lt in
      first_wrong_at r apart k h.base h.upto h.within here h.following.may (λ _. following_stop (seen_limits r.limits) (take apart (seen_records r)) (seen_base r.base)
      k s.base s.room next_in next.1 may h.following)

  pub twice_in : (s : SeenRunningBase) → HasFollowed r apart k s → k < length r.records.items → apart ≤ k → IsFirstWrong r k
  twice_in s h here past = first_wrong_at r apart k h.base h.upto h.within here h.following.may (λ lt. absurd (omega (arith, lt, past)))

  -- where all were followed
  legal_in : (s : SeenRunningBase) → HasFollowed r apart k s → k ≡ length r.records.items
      → AreLegalFrom (seen_limits r.limits) (seen_base r.base) (seen_records r)
  legal_in s h all = all_legal r apart k h.upto h.within (omega (arith, all)) h.following.may

  told_in_end : (s : SeenRunningBase) → HasFollowed r apart k s → k ≡ length r.records.items → s.base ≡ told_in r
  told_in_end s h all =
      let rs = seen_records r in
      let many : length rs ≡ length r.records.items = length-map r.records.items seen_record in
      let whole : take apart rs ≡ rs = take_all apart rs (omega (arith, h.within, all, many)) in
      let past : length (take apart rs) ≤ k = omega (arith, ap (λ (l : List SeenRecord). length l) whole, all, many) in
      sym (following_end (seen_limits r.limits) (take apart rs) (seen_base r.base) k s.base s.room past h.following)
      ∙ ap (λ (l : List SeenRecord). replay (seen_limits r.limits) l (seen_base r.base)) whole

  pub does_in : (s : SeenRunningBase) → HasFollowed r apart k s → k ≡ length r.records.items → ShowsCounts s.base r → DoesReplay r
  does_in s h all shows = does r h.base (legal_in s h all) (subst (λ (b : SeenBase). ShowsCounts b r) (told_in_end s h all) shows)

  pub other_in : (s : SeenRunningBase) → HasFollowed r apart k s → k ≡ length r.records.items → (ShowsCounts s.base r → ⊥) → ComesToOther r
  other_in s h all other = record {
    base = h.base;
    legal = legal_in s h all;
    other = λ shows. other (subst (λ (b : SeenBase). ShowsCounts b r) (sym (told_in_end s h all)) shows);
  }
