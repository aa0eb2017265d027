-- Fields of a line, and texts.
use Rattle.std.proofs.Common.{◌≡◌, ℕ, ◌≤◌, ◌↔◌, Bool, true, false, cond, List, length, Option, Some, None, Result, IsSome, IfSome, IfErr, IsUtf8, refl, sym, ap}
use Rattle.std.proofs.Common.{subst, arith}
use Rattle.std.specs.Str.{all_ascii_digits, is_utf8}
use Rattle.std.specs.Str.Parse.{digits_value, AllDigits}
use Rattle.std.specs.List.{position_or_len, before_first}
use Rattle.std.proofs.lemmas.Bool.Decides.{nat_tests}
use Rattle.std.proofs.lemmas.Str.{IsUtf8-from_is_utf8, is_utf8-from_IsUtf8}
use Rattle.std.proofs.lemmas.Str.Parse.{IsNumeralModel, numerals_by_value, tells_all_ascii_digits}
use Rattle.std.proofs.lemmas.Grind.{common_steps}
use Rattle.std.specs.Option.{ok_or}
use Rattle.pool_machine.specs.declared.schedule.limits.LimitSettings.{LimitSettings}
use Rattle.pool_machine.specs.Limits.{AreLegal}
use Rattle.pool_machine.specs.declared.schedule.limits.Limits.{Limits}
use Rattle.pool_lines.specs.declared.program.Fault.{Fault}
use Rattle.pool_lines.specs.declared.program.Fault.TheVariants.{LimitsRefused}
use Rattle.pool_lines.specs.Number.{IsNumber, number_of}
use Rattle.pool_lines.specs.Lines.{is_number, number_in, text_in, limits_in, sizes_of, is_space}

digits : IsNumeralModel (λ ds. all_ascii_digits ds ≡ true) (digits_value 10)
digits = numerals_by_value _ tells_all_ascii_digits

pub is_number_to : (bits : ℕ) (field : List ℕ) → is_number bits field ≡ true → IsNumber bits field
is_number_to bits field e =
    let own : all_ascii_digits field ≡ true → AllDigits 10 field = digits.to field in
    grind (arith, nat_tests, own)

pub is_number_from : (bits : ℕ) (field : List ℕ) → IsNumber bits field → is_number bits field ≡ true
is_number_from bits field h =
    let own : all_ascii_digits field ≡ true = digits.from field h.0.1 in
    grind (arith, nat_tests)

by_test : (b : Bool) (v : ℕ) (r : Option ℕ) → (IsSome r → b ≡ true) → (b ≡ true → IsSome r) → IfSome r (λ n. n ≡ v) → r ≡ cond b (Some v) None
by_test true v None to from e = let h : false ≡ true = from refl in cc
by_test true v (Some n) to from e = ap (λ m. Some m) e
by_test false v None to from e = refl
by_test false v (Some n) to from e = let h : false ≡ true = to refl in cc

pub number_exact : (bits : ℕ) (field : List ℕ) (r : Option ℕ) → (IsSome r ↔ IsNumber bits field) → IfSome r (λ n. n ≡ number_of field)
    → r ≡ number_in bits field
unfolding number_in
number_exact bits field r some value = by_test (is_number bits field) (number_of field) r (λ s. is_number_from bits field (some.0 s))
    (λ t. some.1 (is_number_to bits field t)) value

text_by : (b : Bool) (bytes : List ℕ) → b ≡ true → cond b (Some bytes) None ≡ Some bytes
text_by true bytes e = refl
text_by false bytes e = cc

no_text_by : (b : Bool) (bytes : List ℕ) → ¬ (b ≡ true) → cond b (Some bytes) None ≡ None
no_text_by true bytes e = absurd (e refl)
no_text_by false bytes e = refl

pub is_text : (bytes : List ℕ) → IsUtf8 bytes → text_in bytes ≡ Some bytes
unfolding text_in
is_text bytes h = text_by (is_utf8 bytes) bytes (is_utf8-from_IsUtf8 bytes h)

pub is_no_text : (bytes : List ℕ) → ¬ (IsUtf8 bytes) → text_in bytes ≡ None
unfolding text_in
is_no_text bytes h = no_text_by (is_utf8 bytes) bytes (λ e. h (IsUtf8-from_is_utf8 bytes e))

-- a text with no space stands before the first one whole
pub before_none : (text : List ℕ) → length text ≤ position_or_len is_space text → before_first is_space text ≡ text
before_none text h = grind (arith, common_steps)

-- LIMITS

abbrev IsRefused : List ℕ → Result Limits Fault → Type 0
IsRefused line r = IfErr r (λ fault. fault ≡ LimitsRefused → (s : LimitSettings) × (limits_in line ≡ Some (sizes_of s)) × ¬ (AreLegal s))

pub refused_limits : (line : List ℕ) (settings : LimitSettings) (o : Option Limits) (r : Result Limits Fault) → r ≡ ok_or o LimitsRefused →
    (IsSome o ↔ AreLegal settings) → limits_in line ≡ Some (sizes_of settings) → IsRefused line r
refused_limits line settings None r e legal says =
    subst (λ (z : Result Limits Fault). IsRefused line z) (sym e) (λ i. (settings, says, λ l. let h : false ≡ true = legal.1 l in cc))
refused_limits line settings (Some l) r e legal says = subst (λ (z : Result Limits Fault). IsRefused line z) (sym e) tt
