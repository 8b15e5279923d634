-- Decimal numbers in a line (document 01, "The replay program"): "decimal, no leading zero, at most 65,535".
use Rattle.std.specs.Prelude.{ℕ, ◌+◌, ◌-◌, ◌*◌, Bool, List, [], ◌∷◌, ltb, eqb, Option, Some, None}
use Rattle.laws.specs.Choice.{pick, within}
use Rattle.replay_text.specs.Bytes.{space, digit_zero}
use Rattle.replay_lines.specs.Bytes.{digit_nine}
use Rattle.replay_lines.specs.declared.number.Number.{Number}

abbrev pub number_limit : ℕ
number_limit = 65535

unfoldable pub is_digit : ℕ → Bool
is_digit byte = within digit_zero digit_nine byte

-- the value with one digit more behind it
abbrev pub appended : ℕ → ℕ → ℕ
appended value byte = value * 10 + (byte - digit_zero)

-- a number, and how many bytes it takes
abbrev pub found : ℕ → ℕ → Option Number
found value length = Some (record { value = value; length = length })

-- the digits at the start of the text continue a value that `length` bytes before them gave
unfoldable pub read_digits : ℕ → ℕ → List ℕ → Option Number
read_digits value length [] = found value length
read_digits value length (byte ∷ text) =
    pick (is_digit byte)
    (pick (ltb number_limit (appended value byte)) None (read_digits (appended value byte) (length + 1) text))
    (found value length)

-- a zero alone, or a digit from 1 to 9 and the digits behind it
unfoldable pub read_number : List ℕ → Option Number
read_number [] = None
read_number (first ∷ text) =
    pick (eqb first digit_zero) (found 0 1) (pick (is_digit first) (read_digits (first - digit_zero) 1 text) None)

abbrev pub one_byte_more : Option Number → Option Number
one_byte_more (Some number) = found number.value (number.length + 1)
one_byte_more None = None

-- a single space and a number
unfoldable pub read_field : List ℕ → Option Number
read_field [] = None
read_field (first ∷ text) = pick (eqb first space) (one_byte_more (read_number text)) None
