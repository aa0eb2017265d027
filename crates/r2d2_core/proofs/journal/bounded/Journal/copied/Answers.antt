use Rattle.std.proofs.Common.{◌≡◌, ◌∙◌, ap, map}
use Rattle.std.proofs.lemmas.Result.{IfOk-weaker}
use Rattle.r2d2_core.specs.Journal.{SeenJournal}
use Rattle.r2d2_core.specs.Records.{seen_record}
use Rattle.r2d2_core.proofs.journal.bounded.Journal.copied.Goals as goal

pub returns : goal.returns
returns g c =
    IfOk-weaker c.to_vec.result (λ list. list.items ≡ c.self.inside.records.items) (λ list. map seen_record list.items ≡ c.args.self.now.records)
    (λ list is. ap (map seen_record) is ∙ ap (λ (l : SeenJournal). l.records) c.self.view_is) c.to_vec.ensures
