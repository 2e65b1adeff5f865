-- What is read as a number is what prints it.
use Rattle.std.proofs.Common.{◌≡◌, ℕ, zero, suc, ◌<◌, ◌^◌, List, length, get_or, Result, Ok, sym, arith, decimal}
use Rattle.std.specs.Str.Parse.{AllDigits, digits_value, ParsesUnsigned}
use Rattle.std.proofs.lemmas.Str.Parse.{IsNumeralModel, numerals_by_value, tells_digits, parse_plain, digit_at}
use Rattle.std.proofs.lemmas.Fmt.{decimal-digits_value, digits_decimal, decimal_digit, first_decimal, parse-decimal, decimal_nonempty}
use Rattle.vectors.specs.Fields.{IsPlain}

numerals : IsNumeralModel (AllDigits 10) (digits_value 10)
numerals = numerals_by_value _ tells_digits

-- a plain number that is read prints as the field
pub plain_read : {E : Type 0} (field : List ℕ) (r : Result ℕ E) (n : ℕ) → ParsesUnsigned 64 10 field r → r ≡ Ok n → IsPlain field → decimal n ≡ field
plain_read field r n parsed is plain =
    let read = rw is at (parse_plain numerals 64 field r parsed plain.0) in
    let lead : get_or field 0 0 ≡ 48 → length field ≡ 1 = λ z. omega (arith, plain.1 z, read.0.1) in
    rw read.1 (decimal-digits_value numerals field read.0.0 read.0.1 lead read.0.2)

-- what prints a number is plain
pub plain_decimal : (n : ℕ) (field : List ℕ) → n < 2 ^ 64 → decimal n ≡ field → IsPlain field
plain_decimal zero field h e = rw (← e) (rw (decimal_digit 0 (omega arith)) (λ z. omega (arith, z), λ z. omega arith))
plain_decimal (suc n) field h e =
    let first : 48 < get_or (decimal (suc n)) 0 0 = first_decimal (suc n) (omega arith) h in
    let digit = digit_at (decimal (suc n)) 0 (digits_decimal numerals (suc n) h) (decimal_nonempty (suc n) h) in
    rw (← e) (λ z. omega (arith, first, z), λ z. absurd (omega (arith, first, z)))

-- a number that was printed is read
pub decimal_read : {E : Type 0} (field : List ℕ) (r : Result ℕ E) (n : ℕ) → ParsesUnsigned 64 10 field r → n < 2 ^ 64 → decimal n ≡ field → r ≡ Ok n
decimal_read field r n parsed h e = parse-decimal 64 n field r h h (sym e) parsed
