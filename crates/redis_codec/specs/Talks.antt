-- A conversation: what was asked and is not answered yet, and the session after what was answered.
use Rattle.std.specs.Prelude.{ℕ, List, [], ◌∷◌, ◌++◌}
use Rattle.redis_codec.specs.declared.command.Command.{Command}
use Rattle.redis_codec.specs.declared.decoder.Limits.{Limits}
use Rattle.redis_codec.specs.declared.session.Session.{Session}
use Rattle.redis_codec.specs.Resp.{Part}
use Rattle.redis_codec.specs.Sessions.{after, said_in}

pub record Talk : Type 0 where
  pub limits : Limits
  -- what came, and no answer was taken of
  pub bytes : List ℕ
  -- the commands that still lack their answer, in the order in which they were sent
  pub owed : List Command
  pub session : Session

abbrev pub asked : Command → Talk → Talk
asked command t = record t { owed = t.owed ++ command ∷ [] }

-- an answer is that of the command which waits for the longest
abbrev pub answered_by : List Command → List Part → List ℕ → Talk → Talk
answered_by [] parts rest t = t
answered_by (command ∷ owed) parts rest t = record t { bytes = rest; owed = owed; session = after command (said_in parts) t.session }

abbrev pub answered : List Part → List ℕ → Talk → Talk
answered parts rest t = answered_by t.owed parts rest t
