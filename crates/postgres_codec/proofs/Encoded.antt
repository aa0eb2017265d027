-- How long a request is.
use Rattle.std.proofs.Common.{◌≡◌, ℕ, zero, suc, ◌<◌, ◌≤◌, Bool, true, false, List, [], ◌∷◌, ◌++◌, length, get_or, Option, Err, refl, ap, arith, length-append}
use Rattle.std.specs.Prelude.{if◌then◌else◌}
use Rattle.std.specs.Int.{w32, to_be_bytes}
use Rattle.std.specs.Borrow.{Bor}
use Rattle.std.proofs.lemmas.Bool.{lt-ltb, le-ltb, ltb-true}
use Rattle.postgres_codec.specs.declared.requests.RequestError.{RequestError}
use Rattle.postgres_codec.specs.declared.requests.RequestError.TheVariants as error
use Rattle.postgres_codec.specs.Requests.{Made, Bytes, Refused, longest, is_long, text, value, all_values, bytes_of_value, bytes_of, sasl_body, message, login_made, has_zero, parse_body, bind_body, bound, bound_made, statement, statement_made, named_made, prepared_made, IsWhy, Makes}

pub long_if : (body : List ℕ) → longest < length body → is_long body ≡ true
long_if body h = lt-ltb longest (length body) h

pub login_long : (body : List ℕ) → longest < length body → login_made body ≡ Refused error.TooMuch
unfolding login_made
login_long body h = ap (λ (t : Bool). if t then Refused error.TooMuch else Bytes (message 112 body)) (long_if body h)

pub sasl_long : (way words : List ℕ) → longest < length words → login_made (sasl_body way words) ≡ Refused error.TooMuch
sasl_long way words h =
    login_long (sasl_body way words) (omega (arith, length-append (text way ++ to_be_bytes w32 (length words)) words))

-- what holds of a part is why the whole is long
pub why_longer : (why : RequestError) (part whole : List ℕ) → length part ≤ length whole → IsWhy why (is_long part) → IsWhy why (is_long whole)
why_longer error.Memory part whole h w = tt
why_longer error.ZeroByte part whole h w = w
why_longer error.TooManyValues part whole h w = w
why_longer error.TooMuch part whole h w = let far : longest < length part = ltb-true longest (length part) w in long_if whole (omega arith)

pub as_many : (values : List (Option (Bor (List ℕ)))) → length (bytes_of values) ≡ length values
as_many [] = refl
as_many (v ∷ values) = ap suc (as_many values)

-- STATEMENTS

by_parse : (p b : Bool) (parse bind : List ℕ) → b ≡ true →
    (if p then Refused error.TooMuch else if b then Refused error.TooMuch else Bytes (statement parse bind)) ≡ Refused error.TooMuch
by_parse true b parse bind e = refl
by_parse false b parse bind e = ap (λ (t : Bool). if t then Refused error.TooMuch else Bytes (statement parse bind)) e

pub statement_long : (parse bind : List ℕ) → is_long bind ≡ true → statement_made parse bind ≡ Refused error.TooMuch
unfolding statement_made
statement_long parse bind e = by_parse (is_long parse) (is_long bind) parse bind e

pub made_many : (name words : List ℕ) (values : List (Option (List ℕ))) → has_zero words ≡ false → 65_535 < length values → named_made name words values ≡ Refused error.TooManyValues
unfolding named_made
made_many name words values z h = rw (z, lt-ltb 65_535 (length values) h) refl

pub made_few : (name words : List ℕ) (values : List (Option (List ℕ))) → has_zero words ≡ false → length values ≤ 65_535 → named_made name words values ≡ statement_made (parse_body name words) (bind_body name values)
unfolding named_made
made_few name words values z h = rw (z, le-ltb 65_535 (length values) h) refl

pub made_zero : (name words : List ℕ) (values : List (Option (List ℕ))) → has_zero words ≡ true → named_made name words values ≡ Refused error.ZeroByte
unfolding named_made
made_zero name words values z = rw z refl

pub bound_long : (bind : List ℕ) → is_long bind ≡ true → bound_made bind ≡ Refused error.TooMuch
unfolding bound_made
bound_long bind e = ap (λ (t : Bool). if t then Refused error.TooMuch else Bytes (bound bind)) e

pub prepared_many : (name : List ℕ) (values : List (Option (List ℕ))) → has_zero name ≡ false → 65_535 < length values → prepared_made name values ≡ Refused error.TooManyValues
unfolding prepared_made
prepared_many name values z h = rw (z, lt-ltb 65_535 (length values) h) refl

pub prepared_few : (name : List ℕ) (values : List (Option (List ℕ))) → has_zero name ≡ false → length values ≤ 65_535 → prepared_made name values ≡ bound_made (bind_body name values)
unfolding prepared_made
prepared_few name values z h = rw (z, le-ltb 65_535 (length values) h) refl

pub prepared_zero : (name : List ℕ) (values : List (Option (List ℕ))) → has_zero name ≡ true → prepared_made name values ≡ Refused error.ZeroByte
unfolding prepared_made
prepared_zero name values z = rw z refl

-- A body that is long makes no request.
pub makes_why : (why : RequestError) (made : Made) (long : Bool) → (long ≡ true → made ≡ Refused error.TooMuch) → IsWhy why long → Makes (Err why) made
makes_why error.Memory made long h w = tt
makes_why error.ZeroByte made long h w = absurd w
makes_why error.TooManyValues made long h w = absurd w
makes_why error.TooMuch made long h w = h w

-- VALUES

pub value_within : (values : List (Option (Bor (List ℕ)))) (i : ℕ) (d : Option (Bor (List ℕ))) → i < length values →
    length (value (bytes_of_value (get_or values i d))) ≤ length (all_values (bytes_of values))
value_within [] i d h = absurd (omega arith)
value_within (v ∷ values) zero d h = omega (arith, length-append (value (bytes_of_value v)) (all_values (bytes_of values)))
value_within (v ∷ values) (suc i) d h =
    let later = value_within values i d (omega arith) in
    omega (arith, later, length-append (value (bytes_of_value v)) (all_values (bytes_of values)))
