-- What lies in a ring.
use Rattle.std.specs.Prelude.{[], Option, unwrap_or}
use Rattle.circular_buffer.specs.Buffer.{Buffer, buffer}

-- until it was closed: then there is none
abbrev pub roster_of : {X : Type 0} → Option (Buffer X) → Buffer X
roster_of ring = unwrap_or ring (buffer [] 0)
