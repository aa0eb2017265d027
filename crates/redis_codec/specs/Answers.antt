-- An answer: its parts up to the one after which none is lacking, within limits.
use Rattle.std.specs.Prelude.{◌≡◌, ℕ, zero, suc, ◌+◌, ◌*◌, ◌-◌, ◌≤◌, Bool, nat_lt, ◌&&◌, if◌then◌else◌, List, [], ◌∷◌, ◌++◌, length, drop, Option, None, Some}
use Rattle.redis_codec.specs.declared.item.Fault.TheVariants.{TooMuch}
use Rattle.redis_codec.specs.declared.decoder.Limits.{Limits}
use Rattle.redis_codec.specs.declared.reading.Progress.{Progress}
use Rattle.redis_codec.specs.Resp.{Part, Word, Refusal, Number, Value, Nothing, Group, seen_all, Read, Faulty, Found, ◌>>=◌, part_at}

-- the bytes of its text or value
abbrev pub weight : Part → ℕ
weight (Word text) = length text
weight (Refusal text) = length text
weight (Number text) = length text
weight (Value bytes) = length bytes
weight Nothing = 0
weight (Group count) = 0

abbrev pub weights : List Part → ℕ
weights [] = 0
weights (p ∷ ps) = weight p + weights ps

-- how many answers it adds to what is lacking
abbrev pub count_of : Part → ℕ
count_of (Word text) = 0
count_of (Refusal text) = 0
count_of (Number text) = 0
count_of (Value bytes) = 0
count_of Nothing = 0
count_of (Group count) = count

-- how many answers each open list lacks, the innermost first, without those that lack none
unfoldable pub settled : List ℕ → List ℕ
settled [] = []
settled (zero ∷ lists) = settled lists
settled (suc n ∷ lists) = suc n ∷ lists

-- the same, after an answer that adds so many
unfoldable pub lacking_after : ℕ → List ℕ → List ℕ
lacking_after count [] = []
lacking_after count (n ∷ lacking) = settled (count ∷ (n - 1) ∷ lacking)

-- an answer that is being read: its parts so far, how many bytes may still come in texts and values, and the bytes not yet read
pub record Reading : Type 0 where
  pub parts : List Part
  pub room : ℕ
  pub lacking : List ℕ
  pub rest : List ℕ

-- whether so many answers more would stand too deep, where so many lists are open
abbrev pub is_too_deep : ℕ → ℕ → ℕ → Bool
is_too_deep depth lists count = nat_lt depth lists && nat_lt 0 count

-- one part more
unfoldable pub with_part : ℕ → Reading → Part × List ℕ → Read Reading
with_part depth r p =
    if nat_lt r.room (weight p.0) then Faulty TooMuch
    else if is_too_deep depth (length r.lacking) (count_of p.0) then Faulty TooMuch
    else Found (record { parts = r.parts ++ p.0 ∷ []; room = r.room - weight p.0; lacking = lacking_after (count_of p.0) r.lacking; rest = p.1 })

unfoldable pub step : ℕ → Reading → Read Reading
step depth r = part_at r.room r.rest >>= with_part depth r

abbrev pub if_lacking : {X : Type 0} → List ℕ → X → X → X
if_lacking [] whole more = whole
if_lacking (n ∷ lacking) whole more = more

-- the parts of the answer and the bytes after it, with at most so many parts more
unfoldable pub whole : ℕ → ℕ → Reading → Read (List Part × List ℕ)
whole depth zero r = if_lacking r.lacking (Found (r.parts, r.rest)) (Faulty TooMuch)
whole depth (suc left) r = if_lacking r.lacking (Found (r.parts, r.rest)) (step depth r >>= whole depth left)

-- nothing is read yet, and one answer is lacking
abbrev pub begin : Limits → List ℕ → Reading
begin limits bytes = record { parts = []; room = limits.bytes; lacking = 1 ∷ []; rest = bytes }

-- THE ANSWER at the front of bytes
unfoldable pub answer_at : Limits → List ℕ → Read (List Part × List ℕ)
answer_at limits bytes = whole limits.depth limits.parts (begin limits bytes)

-- THE REST, AND THE LIMITS

-- how many bytes may be there of an answer that is not whole: beside its texts and values, each part has a kind, the digits of a length,
-- the end of its line, and that of its value
abbrev pub most_kept : Limits → ℕ
most_kept limits = limits.bytes + 23 * limits.parts

-- the bytes are the rest of others
abbrev pub Ends : List ℕ → List ℕ → Type 0
Ends rest bytes = (front : List ℕ) × (bytes ≡ front ++ rest)

-- an answer that is no larger than the limits allow, and what comes after it
pub record IsWithin (limits : Limits) (parts : List Part) (rest stream : List ℕ) : Type 0 where
  pub size : weights parts ≤ limits.bytes
  pub count : length parts ≤ limits.parts
  pub ends : Ends rest stream

-- THE CODE'S OWN

-- what the code has read of bytes
abbrev pub reading_of : Progress → List ℕ → Reading
reading_of p bytes = record { parts = seen_all p.items.items; room = p.room; lacking = p.lacking.items; rest = drop p.at bytes }

-- where its reading stands
abbrev pub outcome : ℕ → Progress → List ℕ → Read (List Part × List ℕ)
outcome depth p bytes = whole depth p.left (reading_of p bytes)

-- a later reading is on its way to the same answer, whatever bytes follow
pub record Follows (depth : ℕ) (old new : Progress) (bytes : List ℕ) : Type 0 where
  pub within : new.at ≤ length bytes
  pub same : (more : List ℕ) → outcome depth old (bytes ++ more) ≡ outcome depth new (bytes ++ more)

-- it is on its way to the answer at the front of the bytes
pub record Leads (limits : Limits) (p : Progress) (bytes : List ℕ) : Type 0 where
  pub within : p.at ≤ length bytes
  pub same : (more : List ℕ) → outcome limits.depth p (bytes ++ more) ≡ answer_at limits (bytes ++ more)

-- nothing is read yet
pub record Begins (limits : Limits) (p : Progress) : Type 0 where
  pub at : p.at ≡ 0
  pub items : p.items.items ≡ []
  pub lacking : p.lacking.items ≡ 1 ∷ []
  pub room : p.room ≡ limits.bytes
  pub left : p.left ≡ limits.parts

-- what a decoder is to a caller: its limits, and the bytes of which no answer was taken yet
pub record Stream : Type 0 where
  pub limits : Limits
  pub bytes : List ℕ

-- where no answer was there, none of its bytes was taken
abbrev pub Took : {X : Type 0} → Stream → Stream → Option X → Type 0
Took old new None = new ≡ old
Took old new (Some items) = Unit {0}
