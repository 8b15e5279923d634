-- An event's answer as one number.
use Rattle.std.specs.Prelude.{ℕ, ◌+◌, ◌*◌, ◌%◌, Bool}
use Rattle.laws.specs.Choice.{pick}

-- the set of an answer begins at bit 32
abbrev pub set_unit : ℕ
set_unit = 4294967296

-- no bit from bit 17 up to the set is used
abbrev pub free_unit : ℕ
free_unit = 131072

-- the returned number, the woken number, whether the event is a committing step, and the set of threads that it unparked, packed: bits 0 to 7, bits 8 to
-- 15, bit 16, bits 32 to 63
unfoldable pub packed_of : ℕ → ℕ → Bool → ℕ → ℕ
packed_of returned woken commits unparked = pick commits (returned + woken * 256 + 65536) (returned + woken * 256) + unparked * set_unit

-- the returned number of a packed answer
abbrev pub returned_in : ℕ → ℕ
returned_in answer = answer % 256
