-- What a summary counts of a report.
use Rattle.std.specs.Prelude.{◌≡◌, ◌*◌, ◌≤◌, ◌<◌, ℕ, Bool, true, false, List, count_by}
use Rattle.r2d2_core.specs.Records.{SeenRecord, Admitted, Closed}
use Rattle.pool_reports.specs.declared.calls.Calls.{Calls}

-- whether a record tells of a connection that came in
abbrev pub is_admission : SeenRecord → Bool
is_admission (Admitted at id) = true
is_admission _ = false

-- whether it tells of a lent one that is gone
abbrev pub is_closing : SeenRecord → Bool
is_closing (Closed at id ordered) = true
is_closing _ = false

-- how many came in, and how many lent ones went
abbrev pub opened_in : List SeenRecord → ℕ
opened_in rs = count_by is_admission rs

abbrev pub closed_in : List SeenRecord → ℕ
closed_in rs = count_by is_closing rs

-- nobody gave up, and nobody was refused
pub record FailNobody (c : Calls) : Type 0 where
  pub timeouts : c.timeouts ≡ 0
  pub refused : c.refused ≡ 0

-- a part that is there is at least one in so many of the whole
pub record IsShareOf (whole times part : ℕ) : Type 0 where
  pub some : 0 < part
  pub enough : whole ≤ times * part
