-- Numbers and fields, as their readers go through them: from one digit to the next, and how many bytes they take.
use Prim.Native.Nat.{ℕ, suc, ◌+◌, ◌-◌, ◌≤◌, ◌<◌}
use mathlib.Core.Path.{◌≡◌, refl, ap}
use mathlib.Core.Bool.{Bool, true, false}
use Rattle.std.specs.Prelude.{Option, Some, None}
use Rattle.std.specs.Char.{is_ascii_digit}
use mathlib.Core.List.{List, [], ◌∷◌}
use native.Mathlib.Numerals.{add-one}
use native.Mathlib.Omega.{arith}
use lib.Dec.{eqb, leb, ltb}
use lib.ListN.{length, get_or, take, drop, length-drop}
use lib.Seq.{drop-cons, take_all}
use borrow.Author.Tests.{ne_eqb, lt-ltb, le-ltb, leb-true}
use Rattle.laws.specs.Choice.{pick}
use Rattle.laws.proofs.Choice.{both_first, both_second}
use Rattle.replay_text.specs.Bytes.{space, digit_zero}
use Rattle.replay_lines.specs.Bytes.{digit_nine}
use Rattle.replay_lines.specs.Number.{number_limit, is_digit, appended, read_digits, found, read_number, one_byte_more, read_field}
use Rattle.replay_lines.specs.declared.number.Number.{Number}

-- the part of a slice from `at` to its end
pub rest_of : (at : ℕ) (text : List ℕ) → take (length text - at) (drop at text) ≡ drop at text
rest_of at text = take_all (length text - at) (drop at text) (simp (length-drop) (omega arith))

-- an empty text, and one with a first byte
pub no_bytes : (text : List ℕ) → length text ≡ 0 → text ≡ []
no_bytes [] empty = refl
no_bytes (byte ∷ text) empty = absurd (omega arith)

pub first_byte : (text : List ℕ) → (length text ≡ 0 → ⊥) → text ≡ get_or text 0 0 ∷ drop 1 text
first_byte [] some = absurd (some refl)
first_byte (byte ∷ text) some = refl

module _ (byte : ℕ) (digit : is_digit byte ≡ true) where
  pub digit_low : digit_zero ≤ byte
  unfolding is_digit
  digit_low = leb-true digit_zero byte (both_first (leb digit_zero byte) (leb byte digit_nine) digit)

  pub digit_high : byte ≤ digit_nine
  unfolding is_digit
  digit_high = leb-true byte digit_nine (both_second (leb digit_zero byte) (leb byte digit_nine) digit)

-- the digits from a place on: the text ends, a byte is no digit, the number becomes too large, or goes on
pub digits_end : (value length' place : ℕ) (text : List ℕ) → length text ≤ place → read_digits value length' (drop place text) ≡ found value length'
unfolding read_digits
digits_end value length' place text past = rw (lib.ListN.drop_of_length-le text past)

module _ (value length' place : ℕ) (text : List ℕ) (inside : place < length text) where
  pub digits_stop : is_digit (get_or text place 0) ≡ false → read_digits value length' (drop place text) ≡ found value length'
  unfolding read_digits
  digits_stop other = rw (drop-cons text place 0) (simp other)

  module _ (digit : is_digit (get_or text place 0) ≡ true) where
    pub digits_over : number_limit < appended value (get_or text place 0) → read_digits value length' (drop place text) ≡ None
    unfolding read_digits
    digits_over over = rw (drop-cons text place 0) (simp (digit, lt-ltb _ _ over))

    pub digits_more : appended value (get_or text place 0) ≤ number_limit
        → read_digits value length' (drop place text) ≡ read_digits (appended value (get_or text place 0)) (length' + 1) (drop (place + 1) text)
    unfolding read_digits
    digits_more fits = rw (drop-cons text place 0, add-one place) (simp (digit, le-ltb _ _ fits))

-- a digit, as the code tests it
pub tested : (byte : ℕ) {answer : Bool} → is_ascii_digit byte ≡ answer → is_digit byte ≡ answer
unfolding is_digit
tested byte same = same

-- a number that begins with this byte, as the code tests it
module _ {first : ℕ} {rest text : List ℕ} (parted : text ≡ first ∷ rest) (some : first ≡ digit_zero → ⊥) where
  pub number_none : is_ascii_digit first ≡ false → None ≡ read_number text
  unfolding read_number is_digit
  number_none other = rw parted (simp (ne_eqb first digit_zero some, other) refl)

  pub number_more : is_ascii_digit first ≡ true → read_digits (first - digit_zero) 1 rest ≡ read_number text
  unfolding read_number is_digit
  number_more digit = rw parted (simp (ne_eqb first digit_zero some, digit) refl)

-- how many bytes a number takes
abbrev pub size : Option Number → ℕ
size (Some number) = number.length
size None = 0

pub size_pick : (test : Bool) (a b : Option Number) (n : ℕ) → size a ≤ n → size b ≤ n → size (pick test a b) ≤ n
size_pick true a b n first second = first
size_pick false a b n first second = second

pub size_more : (number : Option Number) (n : ℕ) → size number ≤ n → size (one_byte_more number) ≤ suc n
size_more (Some number) n h = omega arith
size_more None n h = omega arith

digits_within : (value at : ℕ) (text : List ℕ) → size (read_digits value at text) ≤ at + length text
unfolding read_digits
digits_within value at [] = omega arith
digits_within value at (byte ∷ text) =
    size_pick (is_digit byte) _ _ (at + suc (length text))
    (size_pick (ltb number_limit (appended value byte)) _ _ (at + suc (length text)) (omega arith)
    (omega (arith, digits_within (appended value byte) (at + 1) text))) (omega arith)

pub number_within : (text : List ℕ) → size (read_number text) ≤ length text
unfolding read_number
number_within [] = omega arith
number_within (byte ∷ text) =
    size_pick (eqb byte digit_zero) _ _ (suc (length text)) (omega arith)
    (size_pick (is_digit byte) _ _ (suc (length text)) (omega (arith, digits_within (byte - digit_zero) 1 text)) (omega arith))

pub field_within : (text : List ℕ) → size (read_field text) ≤ length text
unfolding read_field
field_within [] = omega arith
field_within (byte ∷ text) =
    size_pick (eqb byte space) _ _ (suc (length text)) (size_more (read_number text) (length text) (number_within text)) (omega arith)

-- a number that was found at the start of a text lies within it
pub found_within : {number : Number} {read : Option Number} {m : ℕ} → Some number ≡ read → size read ≤ m → number.length ≤ m
found_within same within = omega (arith, ap size same, within)
