-- A number, digit by digit.
use Rattle.std.proofs.Common.{◌≡◌, ℕ, suc, ◌+◌, ◌*◌, ◌-◌, ◌<◌, ◌≤◌, ◌⊎◌, inl, inr, true, false, ◌&&◌, List, [], ◌∷◌, length, drop, get_or, None, Some, refl, arith, add-one, drop-cons}
use Rattle.std.specs.Prelude.{nat_lt, nat_le}
use Rattle.std.proofs.lemmas.Bool.{le-leb, lt-leb, lt-ltb, le-ltb, and_from, and_left, and_right}
use Rattle.redis_codec.specs.Resp.{is_digit, number_after, number_in}

pub number_in-empty : (text : List ℕ) → length text ≡ 0 → number_in text ≡ None
unfolding number_in
number_in-empty [] e = refl
number_in-empty (b ∷ text) e = absurd (omega arith)

pub number_in-some : (text : List ℕ) → 0 < length text → number_in text ≡ number_after 0 text
unfolding number_in
number_in-some [] h = absurd (omega arith)
number_in-some (b ∷ text) h = refl

pub number_after-end : (n : ℕ) (text : List ℕ) → number_after n (drop (length text) text) ≡ Some n
unfolding number_after
number_after-end n [] = refl
number_after-end n (b ∷ text) = number_after-end n text

a_digit : (b : ℕ) → 48 ≤ b → b ≤ 57 → is_digit b ≡ true
a_digit b l h = and_from (nat_le 48 b) (nat_le b 57) (le-leb 48 b l) (le-leb b 57 h)

no_digit : (b : ℕ) → (b < 48) ⊎ (57 < b) → is_digit b ≡ false
no_digit b (inl l) = and_left (nat_le 48 b) (nat_le b 57) (lt-leb 48 b l)
no_digit b (inr h) = and_right (nat_le 48 b) (nat_le b 57) (lt-leb b 57 h)

step : (n b : ℕ) (text : List ℕ) → 48 ≤ b → b ≤ 57 → n < 100_000_000_000_000_000 → number_after n (b ∷ text) ≡ number_after (n * 10 + (b - 48)) text
unfolding number_after
step n b text l h s = let t : (is_digit b && nat_lt n 100_000_000_000_000_000) ≡ true = and_from (is_digit b) (nat_lt n 100_000_000_000_000_000) (a_digit b l h) (lt-ltb n 100_000_000_000_000_000 s) in rw t refl

stop : (n b : ℕ) (text : List ℕ) → ((b < 48) ⊎ (57 < b)) ⊎ (100_000_000_000_000_000 ≤ n) → number_after n (b ∷ text) ≡ None
unfolding number_after
stop n b text (inl o) = let t : (is_digit b && nat_lt n 100_000_000_000_000_000) ≡ false = and_left (is_digit b) (nat_lt n 100_000_000_000_000_000) (no_digit b o) in rw t refl
stop n b text (inr s) = let t : (is_digit b && nat_lt n 100_000_000_000_000_000) ≡ false = and_right (is_digit b) (nat_lt n 100_000_000_000_000_000) (le-ltb n 100_000_000_000_000_000 s) in rw t refl

pub number_after-step : (n i : ℕ) (text : List ℕ) → i < length text → 48 ≤ get_or text i 0 → get_or text i 0 ≤ 57 → n < 100_000_000_000_000_000 →
    number_after n (drop i text) ≡ number_after (n * 10 + (get_or text i 0 - 48)) (drop (i + 1) text)
number_after-step n i text lt l h s = rw (add-one, drop-cons text i 0 lt) (step n (get_or text i 0) (drop (suc i) text) l h s)

pub number_after-stop : (n i : ℕ) (text : List ℕ) → i < length text → ((get_or text i 0 < 48) ⊎ (57 < get_or text i 0)) ⊎ (100_000_000_000_000_000 ≤ n) → number_after n (drop i text) ≡ None
number_after-stop n i text lt o = rw (drop-cons text i 0 lt) (stop n (get_or text i 0) (drop (suc i) text) o)
