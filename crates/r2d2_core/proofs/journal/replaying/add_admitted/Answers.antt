use Rattle.std.proofs.Common.{◌≡◌, map, take, get_or, arith, [], ◌∷◌, ◌∙◌, ap, sym, ◌++◌}
use Rattle.std.proofs.lemmas.List.{append-nil}
use Rattle.r2d2_core.specs.Records.{seen_record}
use Rattle.std.specs.Prelude.{flat_map}
use Rattle.r2d2_core.specs.Folding.{admitted_by}
use Rattle.r2d2_core.proofs.Recording.Auditing.{some_record, admitted_next, added_more}
use Rattle.r2d2_core.proofs.journal.replaying.add_admitted.Goals as goal
use Rattle.r2d2_core.proofs.journal.replaying.add_admitted.Goals.{in-Some+in_ok-push, in_default}

pub loop-record-preserved : goal.loop-record-preserved
loop-record-preserved g c =
    let all = c.args.records.now in
    let old = c.args.ids.now.items in
    let k = c.loop-record.record-index in
    let before = flat_map admitted_by (take k (map seen_record all)) in
    record {
      added = elim c.match-admitted.branch [
        | in-Some+in_ok-push w ↦
            let by : admitted_by (seen_record (get_or all k some_record)) ≡ w.in-Some.id ∷ [] = w.in-Some.ensures.some in
            rw w.ids-is
            (added_more old w.push.new.self.items c.loop-record.ids.items before _ w.in-Some.id w.in_ok-push.ensures.items c.loop-record.invariant.added
            (admitted_next seen_record all k some_record (w.in-Some.id ∷ []) (omega arith) by))
        | in_default w ↦
            let by : admitted_by (seen_record (get_or all k some_record)) ≡ [] = w.in_default.ensures.none in
            rw w.ids-is (c.loop-record.invariant.added ∙ ap (λ l. old ++ l) (sym (admitted_next seen_record all k some_record [] (omega arith) by
            ∙ append-nil before)))
      ];
    }
