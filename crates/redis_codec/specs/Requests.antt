-- A request: a list of words, each with its length in front, so that a word may have any bytes.
use Rattle.std.specs.Prelude.{◌≡◌, ℕ, ◌^◌, ◌<◌, List, [], ◌∷◌, ◌++◌, length, codes, decimal}
use Rattle.std.specs.Borrow.{Bor}

-- a length or a count behind its kind, on a line
abbrev pub head : ℕ → ℕ → List ℕ
head kind n = kind ∷ decimal n ++ codes "\r\n"

abbrev pub word : List ℕ → List ℕ
word bytes = head 36 (length bytes) ++ bytes ++ codes "\r\n"

abbrev pub all_words : List (List ℕ) → List ℕ
all_words [] = []
all_words (w ∷ ws) = word w ++ all_words ws

unfoldable pub request : List (List ℕ) → List ℕ
request words = head 42 (length words) ++ all_words words

-- the bytes of lent words
abbrev pub bytes_of : List (Bor (List ℕ)) → List (List ℕ)
bytes_of [] = []
bytes_of (w ∷ ws) = w.now ∷ bytes_of ws

-- words whose lengths a machine has
abbrev pub AreSmall : List (List ℕ) → Type 0
AreSmall [] = Unit {0}
AreSmall (w ∷ ws) = (length w < 2 ^ 64) × AreSmall ws

-- No other words have the bytes of these in front, whatever follows.
abbrev pub IsAlone : List (List ℕ) → Type 0
IsAlone words = (others : List (List ℕ)) (x y : List ℕ) → AreSmall words → AreSmall others → length words < 2 ^ 64 → length others < 2 ^ 64 →
    request words ++ x ≡ request others ++ y → (words ≡ others) × (x ≡ y)
