-- Who stands in line after a look.
use Rattle.std.specs.Prelude.{◌≡◌, ⊤, ℕ, false, List, Option, Some, None}
use Rattle.pool_state.specs.declared.line.place.Place.{Place}
use Rattle.pool_state.specs.declared.state.serving.Look.{Look}
use Rattle.pool_state.specs.declared.state.serving.Look.TheVariants as look
use Rattle.pool_state.specs.Waiting.{told_at}

module _ {T : Type 0} where
  -- who stands in line has this slot and was told nothing since it looked; who finds no room has none
  abbrev pub StandsUntold : Look T → Option ℕ → List Place → Type 0
  StandsUntold (look.Found id value) slot ps = ⊤
  StandsUntold (look.Stands own) slot ps = (slot ≡ Some own) × (told_at own ps ≡ false)
  StandsUntold look.Full slot ps = slot ≡ None
