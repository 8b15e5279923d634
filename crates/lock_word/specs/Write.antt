-- The word that is written for each meaning, and the meanings that a word can have (document 01, "Lock words").
use Rattle.std.specs.Prelude.{ℕ, ◌+◌, ◌*◌, ◌%◌, ◌<◌, ◌≤◌}
use Rattle.lock_word.specs.Layout.{reserved_bit, count_unit, number_unit, counts, numbers}
use Rattle.lock_word.specs.declared.reading.LockWord.{LockWord}
use Rattle.lock_word.specs.declared.reading.LockWord.TheVariants.{Free, Flat, Anonymous, Reserved, Fat}

abbrev pub free_word : ℕ
free_word = 0

abbrev pub anonymous_word : ℕ
anonymous_word = reserved_bit

abbrev pub flat_word : ℕ → ℕ → ℕ
flat_word thread count = thread % numbers * number_unit + count % counts * count_unit

abbrev pub reserved_word : ℕ → ℕ → ℕ
reserved_word thread count = thread % numbers * number_unit + count % counts * count_unit + reserved_bit

abbrev pub fat_word : ℕ → ℕ
fat_word object = object % numbers * number_unit + 1

unfoldable pub write_word : LockWord → ℕ
write_word Free = free_word
write_word (Flat thread count) = flat_word thread.0 count
write_word Anonymous = anonymous_word
write_word (Reserved thread count) = reserved_word thread.0 count
write_word (Fat monitor) = fat_word monitor.0

-- a number of fifteen bits, not 0
abbrev pub IsNumber : ℕ → Type 0
IsNumber n = (1 ≤ n) × (n < numbers)

-- the meanings that words have: numbers of fifteen bits, not 0, and counts of six
unfoldable pub InRange : LockWord → Type 0
InRange Free = Unit
InRange (Flat thread count) = IsNumber thread.0 × (count < counts)
InRange Anonymous = Unit
InRange (Reserved thread count) = IsNumber thread.0 × (count < counts)
InRange (Fat monitor) = IsNumber monitor.0
