-- Numbers as digits in ASCII.
use Rattle.std.specs.Prelude.{ℕ, zero, suc, ◌+◌, ◌-◌, ◌*◌, ◌/◌, ◌%◌, List, [], ◌∷◌, ◌++◌, ltb}
use Rattle.laws.specs.Choice.{pick}
use Rattle.replay_text.specs.Bytes.{digit_zero, lower_a}

-- a digit below 16: 0 to 9, then a to f
unfoldable pub digit_byte : ℕ → ℕ
digit_byte digit = pick (ltb digit 10) (digit_zero + digit) (lower_a + (digit - 10))

-- the last `width` digits of a number in a base, the most significant first
unfoldable pub digits : ℕ → ℕ → ℕ → List ℕ
digits base zero number = []
digits base (suc width) number = digits base width (number / base) ++ (digit_byte (number % base) ∷ [])

-- how many decimal digits a number has: one, and one more for each of the bounds 10, 100, .. that it reaches, up to so many of them
unfoldable pub places_from : ℕ → ℕ → ℕ → ℕ
places_from zero bound number = 1
places_from (suc bounds) bound number = pick (ltb number bound) 1 (suc (places_from bounds (bound * 10) number))

-- no number below 2^32 has more
abbrev pub decimal_limit : ℕ
decimal_limit = 10

unfoldable pub places_of : ℕ → ℕ
places_of number = places_from (decimal_limit - 1) 10 number

-- a number below 2^32 in decimal, with no leading zero
unfoldable pub decimal : ℕ → List ℕ
decimal number = digits 10 (places_of number) number
