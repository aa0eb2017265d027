-- How a field says a number.
use Rattle.std.specs.Prelude.{ℕ, List, ◌<◌, ◌^◌}
use Rattle.std.specs.Str.Parse.{IsNumeral, digits_value}

-- one decimal digit or more and nothing else, and no more than so many bits
abbrev pub IsNumber : ℕ → List ℕ → Type 0
IsNumber bits field = IsNumeral 10 field × (digits_value 10 field < 2 ^ bits)

-- the number that the digits of a field write
abbrev pub number_of : List ℕ → ℕ
number_of field = digits_value 10 field
