-- A request is read as its own words, and as no others.
use Rattle.std.proofs.Common.{◌≡◌, ℕ, zero, suc, ◌^◌, ◌<◌, List, [], ◌∷◌, ◌++◌, length, get_or, refl, sym, ap, subst, ◌∙◌, append_assoc, arith}
use Rattle.std.specs.Prelude.{decimal}
use Rattle.std.specs.Char.{digit_value}
use Rattle.std.specs.Str.Parse.{AllDigits, digits_value}
use Rattle.std.proofs.lemmas.Fmt.{decimal_is_IsNumeral}
use Rattle.redis_codec.specs.Requests.{head, word, all_words, request, AreSmall, IsAlone}

-- no carriage return is there
abbrev IsFree : List ℕ → Type 0
IsFree ds = (k : ℕ) → k < length ds → get_or ds k 0 ≡ 13 → ⊥

digits_free : (ds : List ℕ) → AllDigits 10 ds → IsFree ds
digits_free [] a k lt e = absurd (omega arith)
digits_free (c ∷ cs) a zero lt e = absurd (let h : digit_value 13 < 10 = subst (λ (b : ℕ). digit_value b < 10) e a.0 in omega arith)
digits_free (c ∷ cs) a (suc k) lt e = digits_free cs a.1 k (omega arith) e

tail_free : (c : ℕ) (cs : List ℕ) → IsFree (c ∷ cs) → IsFree cs
tail_free c cs f k lt e = f (suc k) (omega arith) e

-- what stands before the first carriage return, and after it
front_alone : (a b x y : List ℕ) → IsFree a → IsFree b → a ++ 13 ∷ x ≡ b ++ 13 ∷ y → (a ≡ b) × (x ≡ y)
front_alone [] [] x y f g e = (refl, cc)
front_alone [] (c ∷ b) x y f g e = absurd (let h : c ≡ 13 = cc in g 0 (omega arith) h)
front_alone (c ∷ a) [] x y f g e = absurd (let h : c ≡ 13 = cc in f 0 (omega arith) h)
front_alone (c ∷ a) (d ∷ b) x y f g e =
    let first : c ≡ d = cc in
    let later : a ++ 13 ∷ x ≡ b ++ 13 ∷ y = cc in
    let both = front_alone a b x y (tail_free c a f) (tail_free d b g) later in
    (λ i. first i ∷ both.0 i, both.1)

decimal_free : (n : ℕ) → n < 2 ^ 64 → IsFree (decimal n)
decimal_free n small = digits_free (decimal n) (decimal_is_IsNumeral n small).0.1

decimal_alone : (m n : ℕ) → m < 2 ^ 64 → n < 2 ^ 64 → decimal m ≡ decimal n → m ≡ n
decimal_alone m n sm sn e = sym (decimal_is_IsNumeral m sm).1 ∙ ap (digits_value 10) e ∙ (decimal_is_IsNumeral n sn).1

head-regroup : (kind n : ℕ) (x : List ℕ) → head kind n ++ x ≡ kind ∷ (decimal n ++ 13 ∷ (10 ∷ x))
head-regroup kind n x = simp append_assoc

head_alone : (kind m n : ℕ) (x y : List ℕ) → m < 2 ^ 64 → n < 2 ^ 64 → head kind m ++ x ≡ head kind n ++ y → (m ≡ n) × (x ≡ y)
head_alone kind m n x y sm sn e =
    let whole : kind ∷ (decimal m ++ 13 ∷ (10 ∷ x)) ≡ kind ∷ (decimal n ++ 13 ∷ (10 ∷ y)) = sym (head-regroup kind m x) ∙ e ∙ head-regroup kind n y in
    let inner : decimal m ++ 13 ∷ (10 ∷ x) ≡ decimal n ++ 13 ∷ (10 ∷ y) = cc in
    let both = front_alone (decimal m) (decimal n) (10 ∷ x) (10 ∷ y) (decimal_free m sm) (decimal_free n sn) inner in
    let rest : 10 ∷ x ≡ 10 ∷ y = both.1 in
    (decimal_alone m n sm sn both.0, cc)

same_front : (a b x y : List ℕ) → length a ≡ length b → a ++ x ≡ b ++ y → (a ≡ b) × (x ≡ y)
same_front [] [] x y l e = (refl, e)
same_front [] (d ∷ b) x y l e = absurd (omega arith)
same_front (c ∷ a) [] x y l e = absurd (omega arith)
same_front (c ∷ a) (d ∷ b) x y l e =
    let first : c ≡ d = cc in
    let later : a ++ x ≡ b ++ y = cc in
    let both = same_front a b x y (omega arith) later in
    (λ i. first i ∷ both.0 i, both.1)

word-regroup : (a x : List ℕ) → word a ++ x ≡ head 36 (length a) ++ (a ++ 13 ∷ (10 ∷ x))
word-regroup a x = simp append_assoc

word_alone : (a b x y : List ℕ) → length a < 2 ^ 64 → length b < 2 ^ 64 → word a ++ x ≡ word b ++ y → (a ≡ b) × (x ≡ y)
word_alone a b x y sa sb e =
    let front = head_alone 36 (length a) (length b) (a ++ 13 ∷ (10 ∷ x)) (b ++ 13 ∷ (10 ∷ y)) sa sb (sym (word-regroup a x) ∙ e ∙ word-regroup b y) in
    let both = same_front a b (13 ∷ (10 ∷ x)) (13 ∷ (10 ∷ y)) front.0 front.1 in
    let rest : 13 ∷ (10 ∷ x) ≡ 13 ∷ (10 ∷ y) = both.1 in
    (both.0, cc)

words_alone : (ws vs : List (List ℕ)) (x y : List ℕ) → length ws ≡ length vs → AreSmall ws → AreSmall vs → all_words ws ++ x ≡ all_words vs ++ y → (ws ≡ vs) × (x ≡ y)
words_alone [] [] x y l sw sv e = (refl, e)
words_alone [] (v ∷ vs) x y l sw sv e = absurd (omega arith)
words_alone (w ∷ ws) [] x y l sw sv e = absurd (omega arith)
words_alone (w ∷ ws) (v ∷ vs) x y l sw sv e =
    let one = word_alone w v (all_words ws ++ x) (all_words vs ++ y) sw.0 sv.0 (sym (append_assoc (word w) (all_words ws) x) ∙ e ∙ append_assoc (word v) (all_words vs) y) in
    let all = words_alone ws vs x y (omega arith) sw.1 sv.1 one.1 in
    (λ i. one.0 i ∷ all.0 i, all.1)

pub request_alone : (words : List (List ℕ)) → IsAlone words
unfolding request
request_alone words others x y sw so cw co e =
    let front = head_alone 42 (length words) (length others) (all_words words ++ x) (all_words others ++ y) cw co
    (sym (append_assoc (head 42 (length words)) (all_words words) x) ∙ e ∙ append_assoc (head 42 (length others)) (all_words others) y) in
    words_alone words others x y front.0 sw so front.1
