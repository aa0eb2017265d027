-- What Redis remembers of a caller, by the words that were sent and by what they were answered.
use Rattle.std.specs.Prelude.{ℕ, Bool, true, false, if◌then◌else◌, List, [], ◌∷◌, take, codes, bytes_eq}
use Rattle.std.specs.Str.{str_eq_ignore_ascii_case}
use Rattle.redis_codec.specs.declared.session.Session.{Session}
use Rattle.redis_codec.specs.declared.command.Command.{Command}
use Rattle.redis_codec.specs.declared.command.Command.TheVariants.{Watch, Unwatch, Multi, Exec, Discard, Subscribe, Monitor, Select, Auth, Hello, Name, ReplyMode, Setting, Reset, Other}
use Rattle.redis_codec.specs.declared.command.Said.{Said}
use Rattle.redis_codec.specs.declared.command.Said.TheVariants as said
use Rattle.redis_codec.specs.Resp.{Part, Word, Refusal, Number, Value, Nothing, Group}

-- A session that has just begun.
abbrev pub plain : Session
plain = record { transaction = false; watch = false; subscriptions = false; monitor = false; database = false; user = false; name = false; reply_mode = false; protocol = false; settings = false }

-- A command that is not refused marks the session with what it is.
abbrev pub marked : Command → Session → Session
marked Watch s = record s { watch = true }
marked Multi s = record s { transaction = true }
marked Subscribe s = record s { subscriptions = true }
marked Monitor s = record s { monitor = true }
marked Select s = record s { database = true }
marked Auth s = record s { user = true }
marked Hello s = record s { protocol = true; user = true; name = true }
marked Name s = record s { name = true }
marked ReplyMode s = record s { reply_mode = true }
marked Setting s = record s { settings = true }
marked Exec s = s
marked Discard s = s
marked Unwatch s = s
marked Reset s = s
marked Other s = s

-- A transaction ends with its watching.
abbrev pub ended : Session → Session
ended s = record s { transaction = false; watch = false }

-- A reset leaves the server's own user and database, which need not be the caller's. What the server sends unasked may be on its way.
abbrev pub reset : Session → Session
reset s = record plain { user = true; database = true; subscriptions = s.subscriptions; monitor = s.monitor }

-- THE SESSION after a command and its answer
abbrev pub after : Command → Said → Session → Session
after Exec said.Refused s = s
after Exec said.Aborted s = ended s
after Exec said.Other s = ended s
after Discard said.Okay s = ended s
after Unwatch said.Okay s = record s { watch = false }
after Reset said.Reset s = reset s
after command said.Refused s = s
after command said.Aborted s = s
after command said.Queued s = record (marked command s) { transaction = true }
after command said.Okay s = marked command s
after command said.Reset s = marked command s
after command said.Other s = marked command s

-- COMMANDS, by the first word, in capitals or not

unfoldable pub is_word : List ℕ → List ℕ → Bool
is_word word name = str_eq_ignore_ascii_case word name

unfoldable pub of_transactions : List ℕ → Command
of_transactions word =
    if is_word word (codes "MULTI") then Multi
    else if is_word word (codes "EXEC") then Exec
    else if is_word word (codes "DISCARD") then Discard
    else if is_word word (codes "WATCH") then Watch
    else if is_word word (codes "UNWATCH") then Unwatch
    else Other

-- after the last four of these the server sends what it likes, or nothing any more
unfoldable pub of_listening : List ℕ → List ℕ → Command
of_listening word second =
    if is_word word (codes "SUBSCRIBE") then Subscribe
    else if is_word word (codes "PSUBSCRIBE") then Subscribe
    else if is_word word (codes "SSUBSCRIBE") then Subscribe
    else if is_word word (codes "MONITOR") then Monitor
    else if is_word word (codes "SYNC") then Monitor
    else if is_word word (codes "PSYNC") then Monitor
    else if is_word word (codes "QUIT") then Monitor
    else if is_word word (codes "SCRIPT") then (if is_word second (codes "DEBUG") then Monitor else Other)
    else Other

unfoldable pub of_client : List ℕ → Command
of_client second =
    if is_word second (codes "SETNAME") then Name
    else if is_word second (codes "REPLY") then ReplyMode
    else Setting

unfoldable pub of_settings : List ℕ → List ℕ → Command
of_settings word second =
    if is_word word (codes "SELECT") then Select
    else if is_word word (codes "AUTH") then Auth
    else if is_word word (codes "HELLO") then Hello
    else if is_word word (codes "CLIENT") then of_client second
    else if is_word word (codes "READONLY") then Setting
    else if is_word word (codes "READWRITE") then Setting
    else if is_word word (codes "ASKING") then Setting
    else if is_word word (codes "RESET") then Reset
    else Other

-- the first that is not Other
abbrev pub or_else : Command → Command → Command
or_else Other next = next
or_else command next = command

unfoldable pub named : List ℕ → List ℕ → Command
named word second = or_else (of_transactions word) (or_else (of_listening word second) (of_settings word second))

unfoldable pub command_of : List (List ℕ) → Command
command_of [] = Other
command_of (word ∷ []) = named word []
command_of (word ∷ second ∷ words) = named word second

-- ANSWERS, by their first part

abbrev pub said_by_word : List ℕ → Said
said_by_word text =
    if bytes_eq text (codes "OK") then said.Okay
    else if bytes_eq text (codes "QUEUED") then said.Queued
    else if bytes_eq text (codes "RESET") then said.Reset
    else said.Other

abbrev pub said_by_refusal : List ℕ → Said
said_by_refusal text = if bytes_eq (take 10 text) (codes "EXECABORT ") then said.Aborted else said.Refused

abbrev pub said_in : List Part → Said
said_in [] = said.Other
said_in (Word text ∷ ps) = said_by_word text
said_in (Refusal text ∷ ps) = said_by_refusal text
said_in (Number text ∷ ps) = said.Other
said_in (Value bytes ∷ ps) = said.Other
said_in (Nothing ∷ ps) = said.Other
said_in (Group count ∷ ps) = said.Other
