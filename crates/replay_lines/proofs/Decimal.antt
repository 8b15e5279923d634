-- A number that the reader finds is the decimal that the printer writes: the two definitions of decimal, from the left and from the right, agree.
use Prim.Native.Nat.{ℕ, zero, suc, ◌+◌, ◌-◌, ◌*◌, ◌/◌, ◌%◌, ◌≤◌, ◌<◌}
use mathlib.Core.Path.{◌≡◌, refl, sym, ap, ◌∙◌, subst}
use mathlib.Core.Logic.{◌≢◌}
use mathlib.Core.Bool.{true, false}
use Rattle.std.specs.Prelude.{Option, Some, None}
use mathlib.Core.List.{List, [], ◌∷◌, ◌++◌, append_assoc, append-nil}
use native.Mathlib.Omega.{arith}
use native.Mathlib.Nat.{div-add-mod', mod-lt}
use lib.Dec.{eqb, ltb}
use lib.ListN.{length, take, drop, length-append}
use borrow.Author.Tests.{ne_eqb, eqb-true, eqb-false, lt-ltb, le-ltb, ltb-true, ltb-false, le-leb}
use Rattle.laws.proofs.Choice.{split, by_test, both_of}
use Rattle.replay_text.specs.Digits.{digit_byte, digits, places_from, places_of, decimal}
use Rattle.replay_text.specs.Bytes.{digit_zero}
use Rattle.replay_text.proofs.{Stores.digits_length, Lengths.places_most}
use Rattle.replay_lines.specs.Bytes.{digit_nine}
use Rattle.replay_lines.specs.Number.{number_limit, is_digit, appended, found, read_digits, read_number}
use Rattle.replay_lines.specs.declared.number.Number.{Number}
use Rattle.replay_lines.proofs.Fields.{digit_low, digit_high}

-- one digit more makes ten times as much
ltb_ten : (value digit bound : ℕ) → digit < 10 → ltb (value * 10 + digit) (bound * 10) ≡ ltb value bound
ltb_ten value digit bound small =
    split (ltb value bound)
    (λ less. lt-ltb (value * 10 + digit) (bound * 10) (omega (arith, ltb-true value bound less)) ∙ sym less)
    (λ more. le-ltb (value * 10 + digit) (bound * 10) (omega (arith, ltb-false value bound more)) ∙ sym more)

module _ (value digit : ℕ) (some : 1 ≤ value) (small : digit < 10) (fits : value * 10 + digit ≤ number_limit) where
  places_more : places_of (value * 10 + digit) ≡ suc (places_of value)
  unfolding places_of places_from
  places_more =
      rw (
        le-ltb (value * 10 + digit) 10 (omega arith),
        ltb_ten value digit 10 small,
        ltb_ten value digit 100 small,
        ltb_ten value digit 1000 small,
        lt-ltb (value * 10 + digit) 100000 (omega arith),
        lt-ltb value 10000 (omega arith),
      )

  quotient : (value * 10 + digit) / 10 ≡ value
  quotient = omega (arith, div-add-mod' (value * 10 + digit) 10, mod-lt (value * 10 + digit) {m = 10} (omega arith))

  remainder : (value * 10 + digit) % 10 ≡ digit
  remainder = omega (arith, div-add-mod' (value * 10 + digit) 10, mod-lt (value * 10 + digit) {m = 10} (omega arith))

  pub decimal_more : decimal (value * 10 + digit) ≡ decimal value ++ ((digit_zero + digit) ∷ [])
  unfolding decimal digits digit_byte
  decimal_more = rw places_more (rw (quotient, remainder) (rw (lt-ltb digit 10 small) refl))

decimal_digit : (digit : ℕ) → digit < 10 → decimal digit ≡ (digit_zero + digit) ∷ []
unfolding decimal digits digit_byte places_of places_from
decimal_digit digit small =
    let whole : digit % 10 ≡ digit = native.Mathlib.Nat.mod-eq_of_lt small in
    rw (lt-ltb digit 10 small) (rw whole (rw (lt-ltb digit 10 small) refl))

-- a number of a line has at most five digits: it does not reach the fifth bound, so four bounds are enough
pub number_fits : (number : ℕ) → number ≤ number_limit → length (decimal number) ≤ 5
unfolding decimal places_of places_from
number_fits number fits =
    let count : places_of number ≡ places_from 4 10 number = rw (lt-ltb number 100000 (omega arith)) in
    omega (arith, digits_length 10 (places_of number) number, count, places_most 4 10 number)

-- what a number found at the start of a text says of it, given the decimal of the digits before: the rest of its digits stand there
abbrev Continues : List ℕ → ℕ → List ℕ → Option Number → Type 0
Continues before at text (Some number) =
    (number.value ≤ number_limit) × (at ≤ number.length) × (decimal number.value ≡ before ++ take (number.length - at) text)
Continues before at text None = Unit

continues_here : (value at : ℕ) (text : List ℕ) → value ≤ number_limit → Continues (decimal value) at text (found value at)
continues_here value at text fits =
    (fits, omega arith, sym (ap (λ (n : ℕ). decimal value ++ take n text) (let none : at - at ≡ 0 = omega arith in none) ∙ append-nil (decimal value)))

continues_further : (number : Option Number) (before : List ℕ) (at byte : ℕ) (text : List ℕ)
    → Continues (before ++ (byte ∷ [])) (at + 1) text number → Continues before at (byte ∷ text) number
continues_further (Some number) before at byte text (fits, within, same) =
    let further : number.length - at ≡ suc (number.length - (at + 1)) = omega arith in (
      fits,
      omega arith,
      same ∙ append_assoc before (byte ∷ []) (take (number.length - (at + 1)) text) ∙ ap (λ (n : ℕ). before ++ take n (byte ∷ text)) (sym further),
    )
continues_further None before at byte text none = none

digits_continue : (value at : ℕ) (text : List ℕ) → 1 ≤ value → value ≤ number_limit → Continues (decimal value) at text (read_digits value at text)
unfolding read_digits
digits_continue value at [] some fits = continues_here value at [] fits
digits_continue value at (byte ∷ text) some fits =
    by_test (Continues (decimal value) at (byte ∷ text)) (is_digit byte)
    (λ digit. by_test (Continues (decimal value) at (byte ∷ text)) (ltb number_limit (appended value byte)) (λ over. tt)
    (λ under.
    let low = digit_low byte digit in
    let small : byte - digit_zero < 10 = omega (arith, digit_high byte digit) in
    let more : appended value byte ≤ number_limit = ltb-false number_limit (appended value byte) under in
    let same : digit_zero + (byte - digit_zero) ≡ byte = omega (arith, low) in
    let longer : decimal (appended value byte) ≡ decimal value ++ (byte ∷ []) =
    decimal_more value (byte - digit_zero) some small more ∙ ap (λ (n : ℕ). decimal value ++ (n ∷ [])) same in
    continues_further (read_digits (appended value byte) (at + 1) text) (decimal value) at byte text
    (subst (λ (x : List ℕ). Continues x (at + 1) text (read_digits (appended value byte) (at + 1) text)) longer
    (digits_continue (appended value byte) (at + 1) text (omega arith) more))))
    (λ other. continues_here value at (byte ∷ text) fits)

-- a number at the start of a text is its decimal
abbrev pub Starts : List ℕ → Option Number → Type 0
Starts text (Some number) = (number.value ≤ number_limit) × (text ≡ decimal number.value ++ drop number.length text)
Starts text None = Unit

starts_at : (value end byte : ℕ) (text : List ℕ) → Continues (byte ∷ []) 1 text (found value end) → Starts (byte ∷ text) (found value end)
starts_at value zero byte text (fits, within, same) = absurd (omega arith)
starts_at value (suc end) byte text (fits, within, same) =
    let count : suc end - 1 ≡ end = omega arith in (
      fits,
      sym (ap (λ (x : List ℕ). x ++ drop end text) (same ∙ ap (λ (n : ℕ). byte ∷ take n text) count)
          ∙ ap (λ (x : List ℕ). byte ∷ x) (lib.ListN.take-append-drop end text)),
    )

starts_continued : (number : Option Number) (byte : ℕ) (text : List ℕ) → Continues (byte ∷ []) 1 text number → Starts (byte ∷ text) number
starts_continued (Some number) byte text continues = starts_at number.value number.length byte text continues
starts_continued None byte text none = none

pub number_starts : (text : List ℕ) → Starts text (read_number text)
unfolding read_number
number_starts [] = tt
number_starts (byte ∷ text) =
    by_test (Starts (byte ∷ text)) (eqb byte digit_zero)
    (λ alone.
    let single : byte ∷ [] ≡ decimal 0 = ap (λ (n : ℕ). n ∷ []) (eqb-true byte digit_zero alone) ∙ sym (decimal_digit 0 (omega arith)) in
    (omega arith, ap (λ (x : List ℕ). x ++ text) single))
    (λ other. by_test (Starts (byte ∷ text)) (is_digit byte)
    (λ digit.
    let low = digit_low byte digit in
    let away : byte ≢ digit_zero = eqb-false byte digit_zero other in
    let small : byte - digit_zero < 10 = omega (arith, digit_high byte digit) in
    let same : digit_zero + (byte - digit_zero) ≡ byte = omega (arith, low) in
    let single : decimal (byte - digit_zero) ≡ byte ∷ [] = decimal_digit (byte - digit_zero) small ∙ ap (λ (n : ℕ). n ∷ []) same in
    starts_continued (read_digits (byte - digit_zero) 1 text) byte text
    (subst (λ (x : List ℕ). Continues x 1 text (read_digits (byte - digit_zero) 1 text)) single
    (digits_continue (byte - digit_zero) 1 text (omega (arith, low, away)) (omega arith))))
    (λ none. tt))

-- the reader goes through the decimal of a number and comes to the number
decimal_read : (fuel number : ℕ) (rest : List ℕ) → number < fuel → 1 ≤ number → number ≤ number_limit
    → read_number (decimal number ++ rest) ≡ read_digits number (length (decimal number)) rest
unfolding read_number read_digits is_digit
decimal_read zero number rest less some fits = absurd (omega arith)
decimal_read (suc fuel) number rest less some fits =
    split (ltb number 10)
    (λ single.
    let small = ltb-true number 10 single in
    let byte = digit_zero + number in
    let digit : is_digit byte ≡ true = both_of (le-leb digit_zero byte (omega arith)) (le-leb byte digit_nine (omega arith)) in
    let back : byte - digit_zero ≡ number = omega arith in
    rw (decimal_digit number small) (rw (ne_eqb byte digit_zero (λ e. omega arith), digit) (ap (λ (n : ℕ). read_digits n 1 rest) back)))
    (λ longer.
    let front = number / 10 in
    let last = number % 10 in
    let parts : front * 10 + last ≡ number = div-add-mod' number 10 in
    let small : last < 10 = mod-lt number {m = 10} (omega arith) in
    let large = ltb-false number 10 longer in
    let byte = digit_zero + last in
    let digit : is_digit byte ≡ true = both_of (le-leb digit_zero byte (omega arith)) (le-leb byte digit_nine (omega arith)) in
    let back : appended front byte ≡ number = omega (arith, parts) in
    let text : decimal number ≡ decimal front ++ (byte ∷ []) =
    ap decimal (sym parts) ∙ decimal_more front last (omega (arith, parts, small, large)) small (omega (arith, parts, fits)) in
    let count : length (decimal number) ≡ length (decimal front) + 1 = ap length text ∙ length-append (decimal front) (byte ∷ []) in
    ap (λ (x : List ℕ). read_number (x ++ rest)) text ∙ ap read_number (append_assoc (decimal front) (byte ∷ []) rest)
    ∙ decimal_read fuel front (byte ∷ rest) (omega (arith, parts, small, large, less)) (omega (arith, parts, small, large)) (omega (arith, parts, fits))
    ∙ rw (digit, le-ltb number_limit (appended front byte) (omega (arith, back, fits)))
    (ap (λ (n : ℕ). read_digits n (length (decimal front) + 1) rest) back ∙ ap (λ (n : ℕ). read_digits number n rest) (sym count)))

-- no digit stands at the start
abbrev pub NoDigit : List ℕ → Type 0
NoDigit [] = Unit
NoDigit (byte ∷ text) = is_digit byte ≡ false

digits_none : (value at : ℕ) (rest : List ℕ) → NoDigit rest → read_digits value at rest ≡ found value at
unfolding read_digits
digits_none value at [] none = refl
digits_none value at (byte ∷ rest) none = rw none refl

pub number_read : (number : ℕ) (rest : List ℕ) → number ≤ number_limit → NoDigit rest
    → read_number (decimal number ++ rest) ≡ found number (length (decimal number))
unfolding read_number
number_read zero rest fits none = rw (decimal_digit 0 (omega arith)) refl
number_read (suc number) rest fits none =
    decimal_read (suc (suc number)) (suc number) rest (omega arith) (omega arith) fits ∙ digits_none (suc number) (length (decimal (suc number))) rest none
