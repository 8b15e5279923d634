-- What a word means, by arithmetic on its bits (document 01, "Lock words").
use Rattle.std.specs.Prelude.{ℕ, eqb, Option, Some, None}
use Rattle.laws.specs.Choice.{pick}
use Rattle.lock_word.specs.Layout.{shape_field, reserved_field, count_field, below_number_field, number_field, rest_field}
use Rattle.lock_word.specs.declared.reading.ThreadNumber.{ThreadNumber}
use Rattle.lock_word.specs.declared.reading.MonitorNumber.{MonitorNumber}
use Rattle.lock_word.specs.declared.reading.LockWord.TheVariants.{Free, Flat, Anonymous, Reserved, Fat}
use Rattle.lock_word.specs.declared.reading.LockWord.{LockWord}

abbrev pub thread_number : ℕ → ThreadNumber
thread_number n = record { 0 = n }

abbrev pub monitor_number : ℕ → MonitorNumber
monitor_number n = record { 0 = n }

-- "Flat: number 0 and count 0 is free; otherwise the thread owns it"; number 0 with a count is no lock word
unfoldable pub read_flat : ℕ → ℕ → Option LockWord
read_flat count number = pick (eqb number 0) (pick (eqb count 0) (Some Free) None) (Some (Flat (thread_number number) count))

-- "Reserved: number 0 and count 0 is anonymous; otherwise reserved for the thread"
unfoldable pub read_reserved : ℕ → ℕ → Option LockWord
read_reserved count number = pick (eqb number 0) (pick (eqb count 0) (Some Anonymous) None) (Some (Reserved (thread_number number) count))

-- "Fat: number = its object"; objects are numbered from 1
unfoldable pub fat_of : ℕ → Option LockWord
fat_of number = pick (eqb number 0) None (Some (Fat (monitor_number number)))

-- bits 23 up clear; then by the shape bit and the reserved bit; a fat word has bits 1 to 7 clear; "anything else is no lock word"
unfoldable pub read_word : ℕ → Option LockWord
read_word word =
    pick (eqb (rest_field word) 0)
    (pick (eqb (shape_field word) 0)
    (pick (eqb (reserved_field word) 0)
    (read_flat (count_field word) (number_field word))
    (read_reserved (count_field word) (number_field word)))
    (pick (eqb (below_number_field word) 0) (fat_of (number_field word)) None))
    None
