-- The number that a field of digits says.
use Rattle.std.proofs.Common.{◌≡◌, ℕ, zero, suc, ◌+◌, ◌*◌, ◌-◌, ◌<◌, ◌≤◌, ◌^◌, List, length, take, get_or, sym, ap, ◌∙◌, arith}
use Rattle.std.specs.Fmt.{decimal}
use Rattle.std.specs.Str.Parse.{AllDigits, digits_value}
use Rattle.std.specs.Char.{digit_value}
use Rattle.std.specs.Int.{IsInRange}
use Rattle.std.proofs.lemmas.Bool.Decides.{nat_tests}
use Rattle.std.proofs.lemmas.List.{take_all}
use Rattle.std.proofs.lemmas.Fmt.{decimal_is_IsNumeral, first_decimal, decimal_nonempty, decimal-digits_value, decimal_digit}
use Rattle.std.proofs.lemmas.Str.Parse.{IsNumeralModel, digit_at, numerals_by_value, tells_digits, digits_value-take-le}
use Rattle.std.proofs.lemmas.Int.Digits.{digits_value_more, digits_more}

-- the digits before a place, and the number that they say
pub record IsRead (bs : List ℕ) (i number : ℕ) : Type 0 where
  pub digits : AllDigits 10 (take i bs)
  pub value : number ≡ digits_value 10 (take i bs)
  pub small : number < 2 ^ 64

own : IsNumeralModel (AllDigits 10) (digits_value 10)
own = numerals_by_value (AllDigits 10) tells_digits

value_of_digit : (c : ℕ) → 48 ≤ c → c ≤ 57 → digit_value c ≡ c - 48
value_of_digit c low high = grind (arith, nat_tests)

pub digit_read : (bs : List ℕ) (i number : ℕ) → i < length bs → IsInRange 48 57 (get_or bs i 0) → IsRead bs i number → (next : ℕ) → next ≡ number * 10 + (get_or bs i 0 - 48) → next < 2 ^ 64 → IsRead bs (i + 1) next
digit_read bs i number lt range before next is small =
    let digit = value_of_digit (get_or bs i 0) range.0 range.1 in
    let less : digit_value (get_or bs i 0) < 10 = omega arith in
    record {
      digits = digits_more 10 bs i lt before.digits less;
      value = omega (arith, digits_value_more 10 bs i lt, before.value, digit);
      small = small;
    }

-- all were digits, and the first of several isn't a zero
pub all_read : (bs : List ℕ) (i number : ℕ) → length bs ≤ i → IsRead bs i number → 0 < length bs → (get_or bs 0 0 ≡ 48 → length bs ≡ 1) → bs ≡ decimal number
all_read bs i number le before some lead =
    let digits = rw (take_all i bs le) at before.digits in
    let value = rw (take_all i bs le) at before.value in
    sym (decimal-digits_value own bs digits some lead (omega (arith, value, before.small))) ∙ ap decimal (sym value)

pub none_empty : (bs : List ℕ) → length bs ≡ 0 → (n : ℕ) → n < 2 ^ 64 → bs ≡ decimal n → ⊥
none_empty bs empty n small e = omega (arith, decimal_nonempty n small, ap length e)

pub none_zero : (bs : List ℕ) → 1 < length bs → get_or bs 0 0 ≡ 48 → (n : ℕ) → n < 2 ^ 64 → bs ≡ decimal n → ⊥
none_zero bs long lead zero small e = omega (arith, ap length e, ap length (decimal_digit 0 (omega arith)))
none_zero bs long lead (suc n) small e = omega (arith, first_decimal (suc n) (omega arith) small, ap (λ (ds : List ℕ). get_or ds 0 0) e)

pub none_other : (bs : List ℕ) (i : ℕ) → i < length bs → (IsInRange 48 57 (get_or bs i 0) → ⊥) → (n : ℕ) → n < 2 ^ 64 → bs ≡ decimal n → ⊥
none_other bs i lt other n small e = other (rw (sym e) at (digit_at (decimal n) i (decimal_is_IsNumeral n small).0.1 (omega (arith, ap length e))))

pub none_large : (bs : List ℕ) (i number : ℕ) → i < length bs → IsInRange 48 57 (get_or bs i 0) → IsRead bs i number → 2 ^ 64 ≤ number * 10 + (get_or bs i 0 - 48) → (n : ℕ) → n < 2 ^ 64 → bs ≡ decimal n → ⊥
none_large bs i number lt range before large n small e =
    let digit = value_of_digit (get_or bs i 0) range.0 range.1 in
    let whole : digits_value 10 bs ≡ n = ap (digits_value 10) e ∙ (decimal_is_IsNumeral n small).1 in
    omega (arith, digits_value_more 10 bs i lt, before.value, digit, digits_value-take-le 10 bs (i + 1) (omega arith))
