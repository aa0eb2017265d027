-- Which number stands under which name.
use Rattle.std.specs.Prelude.{◌-◌, ◌^◌, min, Option, Some, option_map}
use Rattle.std.specs.Duration.{as_nanos}
use Rattle.std.specs.Time.{system_time_nanos}
use Rattle.std.specs.declared.time.Duration.{Duration}
use Rattle.std.specs.declared.time.SystemTime.{SystemTime}
use Rattle.pool_state.specs.declared.status.Status.{Status}
use Rattle.pool_metrics.specs.declared.histogram.Distribution.{Distribution}
use Rattle.pool_metrics.specs.declared.recording.Snapshot.{Snapshot}
use Rattle.pool_metrics.specs.declared.text.Figure.{Figure}
use Rattle.pool_metrics.specs.declared.text.Figure.TheVariants.{Count, Length}
use Rattle.pool_metrics.specs.declared.text.Number.{Number}
use Rattle.pool_metrics.specs.declared.text.Number.TheVariants as number
use Rattle.pool_metrics.specs.declared.text.Timing.{Timing}
use Rattle.pool_metrics.specs.declared.text.Timing.TheVariants as timing

-- a length in nanoseconds; what no u64 holds counts as the greatest that one does
abbrev pub length_of : Duration → Figure
length_of length = Length (min (as_nanos length) (2 ^ 64 - 1))

-- a moment, by the length since 1970
abbrev pub moment_of : SystemTime → Figure
moment_of time = Length (min (system_time_nanos time) (2 ^ 64 - 1))

abbrev pub figure_of : Number → Status → Snapshot → Option Figure
figure_of number.Max status snapshot = Some (Count status.max_size)
figure_of number.IdleMin status snapshot = Some (Count status.wanted)
figure_of number.PendingRequests status snapshot = Some (Count status.waiting)
figure_of number.PendingOpenings status snapshot = Some (Count status.opening)
figure_of number.LongestLoan status snapshot = Some (length_of snapshot.longest_loan)
figure_of number.Timeouts status snapshot = Some (Count snapshot.timeouts)
figure_of number.FailedOpenings status snapshot = Some (Count status.failed_openings)
figure_of number.FailedChecks status snapshot = Some (Count status.failed_checks)
figure_of number.Rejected status snapshot = Some (Count status.refused)
figure_of number.Errors status snapshot = option_map (λ count. Count count) snapshot.errors
figure_of number.LatestError status snapshot = option_map moment_of snapshot.latest_error_at
figure_of number.Opened status snapshot = Some (Count snapshot.opened)

abbrev pub timing_of : Timing → Snapshot → Option Distribution
timing_of timing.Wait snapshot = Some snapshot.waits
timing_of timing.TimedOutWait snapshot = Some snapshot.timed_out_waits
timing_of timing.Use snapshot = Some snapshot.uses
timing_of timing.Create snapshot = snapshot.openings
timing_of timing.Age snapshot = Some snapshot.ages
