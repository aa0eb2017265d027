-- A conversation: how many requests lack their end, and how the session was left by what came.
use Rattle.std.specs.Prelude.{ℕ, ◌+◌, ◌*◌, ◌-◌, min, List, length}
use Rattle.postgres_codec.specs.declared.mark.Mark.{Mark}
use Rattle.postgres_codec.specs.declared.mark.Mark.TheVariants.{Plain, Marked, Lasting}
use Rattle.postgres_codec.specs.Messages.{Said, Ready, Row, Complete, Refusal, Login, Key, Setting, Notification, Notice, Passed}

pub record Talk : Type 0 where
  -- how many bytes each answer may have, and how many more this one
  pub limit : ℕ
  pub room : ℕ
  -- what came, and no message was taken of
  pub bytes : List ℕ
  -- how many requests lack their end
  pub owed : ℕ
  -- what the messages say that the session may keep
  pub mark : Mark

-- what two leave
abbrev pub both : Mark → Mark → Mark
both Lasting m = Lasting
both Plain m = m
both Marked Lasting = Lasting
both Marked Plain = Marked
both Marked Marked = Marked

-- how many values it has
abbrev pub count_in : Said → ℕ
count_in (Row values) = length values
count_in (Complete done) = 0
count_in (Refusal severity state text) = 0
count_in Setting = 0
count_in Notification = 0
count_in (Ready status) = 0
count_in (Login asked text) = 0
count_in (Key key) = 0
count_in Notice = 0
count_in Passed = 0

-- A request more. (A machine counts no further than its numbers go.)
abbrev pub asked : Talk → Talk
asked t = record t { owed = min (t.owed + 1) 18_446_744_073_709_551_615 }

-- THE CONVERSATION after a message: where the server is ready, the request is done that waited for the longest.
abbrev pub told : Said → Talk → Talk
told (Ready status) t = record t { room = t.limit; owed = t.owed - 1 }
told (Row values) t = t
told (Complete done) t = record t { mark = both t.mark done.mark }
-- (what it did before it failed may last)
told (Refusal severity state text) t = record t { mark = both t.mark Marked }
told (Login asked text) t = t
told (Key key) t = t
told Setting t = record t { mark = both t.mark Marked }
told Notification t = record t { mark = both t.mark Marked }
told Notice t = t
told Passed t = t

-- and where its bytes are taken: they and 32 for each value are no longer there for the rest of the answer
abbrev pub read : Said → List ℕ → Talk → Talk
read said rest t = told said (record t { bytes = rest; room = t.room - (length t.bytes - length rest) - 32 * count_in said })
