use Rattle.std.proofs.Common.{rules, ◌∙◌, ap, length}
use Rattle.std.specs.Option.{is_some}
use Rattle.std.proofs.lemmas.Fn.{filter_same}
use Rattle.pool_machine.specs.Slots.{held}
use Rattle.pool_machine.proofs.Lists.Slots.{held-filter, length-filter}
use Rattle.pool_machine.proofs.machine.roster.squeeze.Goals as goal

pub returns-clause-held : goal.returns-clause-held
returns-clause-held g c = ap held (filter_same _ is_some _ (λ x b f' k. search rules) _ _ c.retain.ensures.filtered) ∙ held-filter c.args.slots.now.items

pub returns-clause-len : goal.returns-clause-len
returns-clause-len g c = ap length (filter_same _ is_some _ (λ x b f' k. search rules) _ _ c.retain.ensures.filtered) ∙ length-filter c.args.slots.now.items
