-- How it went for those who called, from report to report.
use Rattle.std.specs.Prelude.{◌≡◌, ◌≤◌, ◌<◌, ◌+◌}
use Rattle.std.specs.Duration.{as_nanos}
use Rattle.pool_reports.specs.declared.calls.Calls.{Calls}

-- somebody gave up or was refused
abbrev pub HasFailures : Calls → Type 0
HasFailures c = 0 < c.timeouts + c.refused

-- no count of the later report is smaller than that of the earlier one
pub record IsGrownFrom (earlier later : Calls) : Type 0 where
  pub until : as_nanos earlier.until ≤ as_nanos later.until
  pub takes : earlier.takes ≤ later.takes
  pub timeouts : earlier.timeouts ≤ later.timeouts
  pub refused : earlier.refused ≤ later.refused
  pub openings : earlier.failed_openings ≤ later.failed_openings
  pub checks : earlier.failed_checks ≤ later.failed_checks

-- what came between them, with what was before, is what there is later
pub record IsGrowthFrom (earlier later growth : Calls) : Type 0 where
  pub since : growth.since ≡ earlier.until
  pub until : growth.until ≡ later.until
  pub takes : earlier.takes + growth.takes ≡ later.takes
  pub timeouts : earlier.timeouts + growth.timeouts ≡ later.timeouts
  pub refused : earlier.refused + growth.refused ≡ later.refused
  pub openings : earlier.failed_openings + growth.failed_openings ≡ later.failed_openings
  pub checks : earlier.failed_checks + growth.failed_checks ≡ later.failed_checks
