-- The settings of a pool. Lengths of time are compared in nanoseconds.
use Rattle.std.specs.Prelude.{◌≡◌, ℕ, ◌*◌, ◌<◌, true, false, Some, None, option_map, MatchOption, min}
use Rattle.std.specs.Option.{ForSome}
use Rattle.std.specs.Duration.{as_nanos, max_nanos}
use Rattle.std.specs.declared.time.Duration.{Duration}
use Rattle.pool_machine.specs.declared.schedule.limits.LendingOrder.TheVariants.{NewestFirst}
use Rattle.pool_machine.specs.declared.schedule.limits.LimitSettings.{LimitSettings}
use Rattle.pool_machine.specs.Limits.{settings, with_order}
use Rattle.r2d2_core.specs.Book.{SeenBook, seen_book}
use Rattle.r2d2_core.specs.Journal.{first_journal}
use Rattle.pool_machine.specs.Table.{first_picture}
use Rattle.pool_state.specs.Tuning.{IsOff}
use Rattle.r2d2.specs.declared.config.Config.{Config}
use Rattle.r2d2.specs.declared.config.Settings.{Settings}
use Rattle.pool_state.specs.declared.tuning.Tuning.{Tuning}

-- a number of seconds, in nanoseconds
abbrev pub seconds : ℕ → ℕ
seconds n = n * 1_000_000_000

-- the settings that a builder begins with
pub record AreDefaults {H V Z : Type 0} (config : Config H V Z) : Type 0 where
  pub max_size : config.max_size ≡ 10
  pub min_idle : config.min_idle ≡ None
  pub thread_pool : config.thread_pool ≡ 3
  pub test_on_check_out : config.test_on_check_out ≡ true
  pub max_lifetime : option_map as_nanos config.max_lifetime ≡ Some (seconds 1800)
  pub idle_timeout : option_map as_nanos config.idle_timeout ≡ Some (seconds 600)
  pub connection_timeout : as_nanos config.connection_timeout ≡ seconds 30
  pub journal_room : config.journal_room ≡ 0
  pub reaper_rate : as_nanos config.reaper_rate ≡ seconds 30
  pub lending_order : config.lending_order ≡ NewestFirst

-- all that a builder begins with
pub record AreNew {H V Z : Type 0} (settings : Settings H V Z) : Type 0 where
  pub config : AreDefaults settings.config
  pub tuning : IsOff settings.tuning
  pub first_id : settings.first_id ≡ 0
  pub listens : settings.listens ≡ false

-- all settings of a builder where those that r2d2 has, or its handlers, are others
abbrev pub changed : {G W Y H V Z : Type 0} → Config G W Y → Settings H V Z → Settings G W Y
changed config s = record { config = config; tuning = s.tuning; first_id = s.first_id; listens = s.listens }

-- how long the limits of a pool's book say that callers wait: as long as they do, or twice the longest delay of an opening where that is set
abbrev pub IsTimeoutOfBook : {H V Z : Type 0} → Config H V Z → Tuning → Duration → Type 0
IsTimeoutOfBook config tuning timeout = MatchOption tuning.max_retry_delay (timeout ≡ config.connection_timeout)
    (λ longest. as_nanos timeout ≡ min (as_nanos longest * 2) max_nanos)

-- what a builder keeps: its sizes and lengths of time are positive
pub record ArePositive {H V Z : Type 0} (config : Config H V Z) : Type 0 where
  pub has_size : 0 < config.max_size
  pub has_workers : 0 < config.thread_pool
  pub lives : ForSome config.max_lifetime (λ d. 0 < as_nanos d)
  pub idles : ForSome config.idle_timeout (λ d. 0 < as_nanos d)
  pub waits : 0 < as_nanos config.connection_timeout
  pub reaps : 0 < as_nanos config.reaper_rate

-- and all settings of a builder
pub record AreAllPositive {H V Z : Type 0} (settings : Settings H V Z) : Type 0 where
  pub config : ArePositive settings.config
  pub retries : ForSome settings.tuning.max_retry_delay (λ d. 0 < as_nanos d)
  pub has_room : ForSome settings.tuning.max_waiting (λ n. 0 < n)

-- the limits among the settings, with this connection timeout, and with the settings' own
abbrev pub limits_within : {H V Z : Type 0} → Duration → Config H V Z → LimitSettings
limits_within timeout config = with_order config.lending_order (settings config.max_size config.min_idle config.max_lifetime config.idle_timeout timeout
    config.reaper_rate)

abbrev pub limits_in : {H V Z : Type 0} → Config H V Z → LimitSettings
limits_in config = limits_within config.connection_timeout config

-- in such a book nothing has happened: its limits, first id and journal are those of the settings
abbrev pub BeginsWith : {H V Z T : Type 0} → Settings H V Z → SeenBook T → Type 0
BeginsWith s book = (timeout : Duration) × IsTimeoutOfBook s.config s.tuning timeout
    × (book ≡ seen_book (first_picture (limits_within timeout s.config) 0 s.first_id) (first_journal (limits_within timeout s.config) 0 s.config.journal_room))

-- the same settings with other handlers
abbrev pub with_handlers : {G W Y H V Z : Type 0} → G → W → Y → Config H V Z → Config G W Y
with_handlers error_handler event_handler customizer c = record {
  max_size = c.max_size;
  min_idle = c.min_idle;
  thread_pool = c.thread_pool;
  test_on_check_out = c.test_on_check_out;
  max_lifetime = c.max_lifetime;
  idle_timeout = c.idle_timeout;
  connection_timeout = c.connection_timeout;
  journal_room = c.journal_room;
  reaper_rate = c.reaper_rate;
  lending_order = c.lending_order;
  error_handler = error_handler;
  event_handler = event_handler;
  connection_customizer = customizer;
}

-- with another handler of errors, of events, with another customizer alone
abbrev pub with_error_handler : {G H V Z : Type 0} → G → Config H V Z → Config G V Z
with_error_handler handler c = with_handlers handler c.event_handler c.connection_customizer c

abbrev pub with_event_handler : {W H V Z : Type 0} → W → Config H V Z → Config H W Z
with_event_handler handler c = with_handlers c.error_handler handler c.connection_customizer c

abbrev pub with_customizer : {Y H V Z : Type 0} → Y → Config H V Z → Config H V Y
with_customizer customizer c = with_handlers c.error_handler c.event_handler customizer c

-- with none
abbrev pub BareSettings : Type 0
BareSettings = Settings (Unit {0}) (Unit {0}) (Unit {0})

abbrev pub without_handlers : {H V Z : Type 0} → Settings H V Z → BareSettings
without_handlers s = changed (with_handlers tt tt tt s.config) s
