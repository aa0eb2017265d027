-- Who was lent first is lent for longest.
use Rattle.std.proofs.Common.{ℕ, ◌-◌, ◌<◌, ◌≤◌, List, [], ◌∷◌, length, map, arith}
use Rattle.std.specs.Prelude.{All}
use Rattle.std.specs.List.Sorted.{IsNonDecreasingBy}
use Rattle.std.proofs.lemmas.List.{get_or-map, length-map}
use Rattle.pool_metrics.specs.declared.loans.LongLoan.{LongLoan}
use Rattle.pool_metrics.specs.declared.loans.Loan.{Loan}
use Rattle.pool_metrics.specs.Longest.{IsLongestFirst, longest}

pub longest_first : (now : ℕ) (xs : List Loan) → IsNonDecreasingBy (λ (e : Loan). e.since) xs
    → IsLongestFirst (map (λ (e : Loan). record { id = e.id; nanos = now - e.since }) xs)
longest_first now xs in_order i j d before within =
    let f : Loan → LongLoan = λ e. record { id = e.id; nanos = now - e.since } in
    let e : Loan = record { id = 0; since = 0 } in
    let later : j < length xs = rw length-map at within in
    let sooner : i < length xs = omega arith in
    rw (get_or-map f xs j e d later, get_or-map f xs i e d sooner) (omega (arith, in_order i j e before later))

-- and nobody is lent for longer
pub none_longer : (now : ℕ) (xs : List Loan) → IsNonDecreasingBy (λ (e : Loan). e.since) xs → All (λ (e : Loan). now - e.since ≤ longest now xs) xs
none_longer now [] in_order k d within = omega (arith, within)
none_longer now (e ∷ es) in_order k d within = omega (arith, in_order 0 k d (omega arith) within)
