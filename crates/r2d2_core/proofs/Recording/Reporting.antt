-- What a report of a book tells.
use Rattle.std.proofs.Common.{◌≡◌, List, length, map, sym, ◌∙◌, ap, subst, arith, inl, inr}
use Rattle.std.proofs.lemmas.List.{length-map}
use Rattle.std.specs.Duration.{as_nanos}
use Rattle.pool_machine.specs.declared.schedule.limits.LimitSettings.{LimitSettings}
use Rattle.pool_machine.specs.Limits.{wanted_of, seen_limits}
use Rattle.pool_machine.specs.Picture.{IsSound}
use Rattle.r2d2_core.specs.declared.journal.report.Report.{Report}
use Rattle.pool_machine.specs.Connections.{id_of_idle, id_of_lent}
use Rattle.r2d2_core.specs.Records.{SeenRecord, takes_in}
use Rattle.r2d2_core.specs.Bases.{SeenBase, first_base}
use Rattle.r2d2_core.specs.Book.{SeenBook, ReplayTo, IsReplayed, HasFacts}
use Rattle.r2d2_core.specs.BookParts.{IsRecorded, IsFaithful}
use Rattle.r2d2_core.specs.Journal.{CountsTakes, BeginsAtTheMaking}
use Rattle.r2d2_core.specs.Reports.{seen_base, seen_records, DoesReplay, IsReportOf, HasSoundCounts, CountsItsTakes, BeginsAtAMaking}
use Rattle.r2d2_core.proofs.Recording.Replaying.{ids_bare}

-- what the type of a book keeps is what its callers see
pub is_replayed : {T : Type 0} (a : SeenBook T) → IsRecorded a → IsReplayed a
is_replayed a k = subst (λ (l : LimitSettings). ReplayTo l a.journal.base a.journal.records a.picture) k.same k.replays

-- and holds of what they see
pub facts_of : {T : Type 0} (a b : SeenBook T) → IsFaithful a → a ≡ b → HasFacts b
facts_of a b kept same = subst HasFacts same (record { sound = kept.sound; replayed = is_replayed a kept.recorded })

-- the records of a report come to what its book shows
pub report_comes_to : {T B : Type 0} (a : SeenBook T) (r : Report B) → IsReportOf a r → IsReplayed a
    → ReplayTo (seen_limits r.limits) (seen_base r.base) (seen_records r) a.picture
report_comes_to a r is replayed =
    subst (λ (l : LimitSettings). ReplayTo l (seen_base r.base) (seen_records r) a.picture) (sym is.limits)
    (subst (λ (b : SeenBase). ReplayTo a.picture.on_order.limits b (seen_records r) a.picture) (sym is.base)
    (subst (λ (rs : List SeenRecord). ReplayTo a.picture.on_order.limits a.journal.base rs a.picture) (sym is.records) replayed))

-- the records of a book replay, so those of its report do
pub report_replays : {T B : Type 0} (a : SeenBook T) (r : Report B) → IsReportOf a r → IsReplayed a → DoesReplay r
report_replays a r is replayed =
    let k = report_comes_to a r is replayed in
    record {
      base = k.base;
      legal = k.legal;
      idle = ap (map id_of_idle) k.shows.idle ∙ ids_bare a.picture.idle ∙ sym is.idle;
      lent = ap (map id_of_lent) k.shows.lent ∙ sym is.lent;
      connections = k.shows.connections ∙ sym is.connections;
      pending = k.shows.pending ∙ sym is.pending;
      closed = k.shows.closed ∙ sym is.closed;
    }

-- the counts of a report of a sound book are sound
pub report_sound : {T B : Type 0} (a : SeenBook T) (r : Report B) → IsReportOf a r → IsSound a.picture → HasSoundCounts r
report_sound a r is s =
    let idle : length r.idle.items ≡ length a.picture.idle = ap length is.idle ∙ length-map a.picture.idle id_of_idle in
    let lent : length r.lent.items ≡ length a.picture.lent = ap length is.lent ∙ length-map a.picture.lent id_of_lent in
    let size : (seen_limits r.limits).max_size ≡ a.picture.on_order.limits.max_size = ap (λ (ls : LimitSettings). ls.max_size) is.limits in
    let wanted : wanted_of (seen_limits r.limits) ≡ wanted_of a.picture.on_order.limits = ap wanted_of is.limits in
    record {
      counted = omega (arith, is.connections, s.steady.counted, idle, lent);
      fits = omega (arith, is.connections, is.pending, s.steady.fits, size);
      replenished = λ still. elim (s.replenished (sym is.closed ∙ still)) [
        | inl h ↦ inl (omega (arith, h, wanted, idle, is.pending))
        | inr h ↦ inr (omega (arith, h, is.connections, is.pending, size))
      ];
    }

-- where a book counts its takes, its report does
pub report_counts : {T B : Type 0} (a : SeenBook T) (r : Report B) → IsReportOf a r → CountsTakes a.journal → CountsItsTakes r
report_counts a r is counted none = is.takes ∙ counted (sym is.lost ∙ none) ∙ ap takes_in (sym is.records)

-- where a book's base is that of the making, its report's is, and stands at that moment
pub report_begins : {T B : Type 0} (a : SeenBook T) (r : Report B) → IsReportOf a r → IsRecorded a → BeginsAtTheMaking a.journal → r.lost ≡ 0
    → seen_base r.base ≡ first_base (seen_limits r.limits) a.journal.made
report_begins a r is recorded begins none =
    is.base ∙ begins (sym is.lost ∙ none) ∙ ap (λ (l : LimitSettings). first_base l a.journal.made) (recorded.same ∙ sym is.limits)

pub report_since : {T B : Type 0} (a : SeenBook T) (r : Report B) → IsReportOf a r → IsRecorded a → BeginsAtTheMaking a.journal → r.lost ≡ 0
    → as_nanos r.base.at ≡ a.journal.made
report_since a r is recorded begins none = ap (λ (b : SeenBase). b.at) (report_begins a r is recorded begins none)

pub report_whole : {T B : Type 0} (a : SeenBook T) (r : Report B) → IsReportOf a r → IsRecorded a → BeginsAtTheMaking a.journal → BeginsAtAMaking r
report_whole a r is recorded begins none =
    report_begins a r is recorded begins none ∙ ap (first_base (seen_limits r.limits)) (sym (report_since a r is recorded begins none))
