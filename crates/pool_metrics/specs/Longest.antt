-- Who is lent for long.
use Rattle.std.specs.Prelude.{ℕ, ◌-◌, ◌<◌, ◌≤◌, List, [], ◌∷◌, length, filter, map, nat_lt, slice_index_or}
use Rattle.pool_metrics.specs.declared.loans.Loan.{Loan}
use Rattle.pool_metrics.specs.declared.loans.LongLoan.{LongLoan}

-- for how long each of them is lent
abbrev pub told_at : ℕ → List Loan → List LongLoan
told_at now entries = map (λ e. record { id = e.id; nanos = now - e.since }) entries

-- of what is lent, in that order, all that is lent for more than so many nanoseconds
abbrev pub longer_than : ℕ → ℕ → List Loan → List LongLoan
longer_than nanos now entries = told_at now (filter (λ e. nat_lt nanos (now - e.since)) entries)

-- nobody stands behind one who is lent for less
abbrev pub IsLongestFirst : List LongLoan → Type 0
IsLongestFirst xs = (i j : ℕ) (d : LongLoan) → i ≤ j → j < length xs → (slice_index_or xs j d).nanos ≤ (slice_index_or xs i d).nanos

-- for how long the one is lent that was lent first; zero where none is
abbrev pub longest : ℕ → List Loan → ℕ
longest now [] = 0
longest now (e ∷ es) = now - e.since
