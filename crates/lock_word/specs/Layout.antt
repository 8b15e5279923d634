-- The bits of a lock word (document 01, "Lock words"): bit 0 shape, bit 1 reserved, bits 2 to 7 count, bits 8 to 22 a number, the rest zero.
use Rattle.std.specs.Prelude.{ℕ, ◌/◌, ◌%◌}

-- where the fields begin: 2, 4, 256 and 8,388,608 are bits 1, 2, 8 and 23
abbrev pub reserved_bit : ℕ
reserved_bit = 2

abbrev pub count_unit : ℕ
count_unit = 4

abbrev pub number_unit : ℕ
number_unit = 256

abbrev pub first_beyond : ℕ
first_beyond = 8388608

-- six bits of count, of which the largest is 63; fifteen bits of number
abbrev pub counts : ℕ
counts = 64

abbrev pub count_limit : ℕ
count_limit = 63

abbrev pub numbers : ℕ
numbers = 32768

-- the fields of a word
abbrev pub shape_field : ℕ → ℕ
shape_field word = word % reserved_bit

abbrev pub reserved_field : ℕ → ℕ
reserved_field word = word / reserved_bit % 2

abbrev pub count_field : ℕ → ℕ
count_field word = word / count_unit % counts

-- bits 1 to 7, which a fat word has clear
abbrev pub below_number_field : ℕ → ℕ
below_number_field word = word / 2 % 128

abbrev pub number_field : ℕ → ℕ
number_field word = word / number_unit % numbers

abbrev pub rest_field : ℕ → ℕ
rest_field word = word / first_beyond
