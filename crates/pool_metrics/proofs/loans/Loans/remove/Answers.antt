use Rattle.std.proofs.Common.{◌≡◌, ◌==◌, ◌≤◌, not, rules, sym, subst}
use Rattle.std.proofs.lemmas.Fn.{filter_same}
use Rattle.std.proofs.lemmas.List.Kept.{IsNonDecreasingBy-filter}
use Rattle.std.proofs.lemmas.List.Elements.{All-filter}
use Rattle.std.specs.Prelude.{filter, List, All}
use Rattle.std.specs.List.Sorted.{IsNonDecreasingBy}
use Rattle.pool_metrics.specs.declared.loans.Loan.{Loan}
use Rattle.pool_metrics.proofs.loans.Loans.remove.Goals as goal

pub returns-clause-removed : goal.returns-clause-removed
returns-clause-removed c = filter_same _ _ _ (λ x b f' k. search rules) _ _ c.retain.ensures.filtered

pub invariant_of-self-clause-in_order : goal.invariant_of-self-clause-in_order
invariant_of-self-clause-in_order c =
    let kept : c.retain.new.self.items ≡ filter (λ (e : Loan). not (e.id == c.args.id)) c.args.self.now.entries.items = filter_same _ _ _
    (λ x b f' k. search rules) _ _ c.retain.ensures.filtered in
    subst (λ (xs : List Loan). IsNonDecreasingBy (λ (e : Loan). e.since) xs) (sym kept) (IsNonDecreasingBy-filter (λ (e : Loan). e.since)
    (λ (e : Loan). not (e.id == c.args.id)) c.args.self.now.entries.items c.args.self.now.in_order)

pub invariant_of-self-clause-until_now : goal.invariant_of-self-clause-until_now
invariant_of-self-clause-until_now c =
    let kept : c.retain.new.self.items ≡ filter (λ (e : Loan). not (e.id == c.args.id)) c.args.self.now.entries.items = filter_same _ _ _
    (λ x b f' k. search rules) _ _ c.retain.ensures.filtered in
    subst (λ (xs : List Loan). All (λ (e : Loan). e.since ≤ c.args.self.now.latest) xs) (sym kept)
    (All-filter (λ (e : Loan). not (e.id == c.args.id)) (λ (e : Loan). e.since ≤ c.args.self.now.latest) c.args.self.now.entries.items
    c.args.self.now.until_now)
