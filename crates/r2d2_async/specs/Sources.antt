-- The sources of a pool, and its settings.
use Rattle.std.specs.Prelude.{ℕ, Option, option_map}
use Rattle.std.specs.Arc.{arc_value}
use Rattle.std.specs.declared.sync.Arc.{Arc}
use Rattle.r2d2.specs.Settings.{BareSettings}
use Rattle.r2d2_async.specs.declared.shared.Shared.{Shared}
use Rattle.r2d2_async.specs.declared.shared.Closer.{Closer}

module _ {P M T K R Z : Type 0} where
  -- the source that fires for a caller in line once it is told to look, or the pool is closed
  abbrev pub told_of : Arc (Closer P M T K R) Z → ℕ
  told_of closer = (arc_value (arc_value closer).shared).told.id

  -- the settings of a future's pool, until it has ended
  abbrev pub settings_of : Option (Arc (Closer P M T K R) Z) → Option BareSettings
  settings_of closer = option_map (λ (c : Arc (Closer P M T K R) Z). (arc_value (arc_value c).shared).settings) closer

  -- the source that fires for a worker once an opening is ordered, or the pool is closed
  abbrev pub orders_of : Arc (Shared P M T K R) Z → ℕ
  orders_of shared = (arc_value shared).ordered.id

  -- the source that fires for a drain once nothing is lent
  abbrev pub returns_of : Arc (Shared P M T K R) Z → ℕ
  returns_of shared = (arc_value shared).returned.id
