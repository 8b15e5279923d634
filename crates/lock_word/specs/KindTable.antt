-- The kind of a lock word; which of eight low bytes the constant table has for a low byte; and how a kind, a count and a number are read together.
use Rattle.std.specs.Prelude.{ℕ, ◌+◌, ◌%◌, eqb, ltb, Option, Some, None}
use Rattle.laws.specs.Choice.{pick}
use Rattle.lock_word.specs.Layout.{count_unit, shape_field, reserved_field, below_number_field}
use Rattle.lock_word.specs.Read.{read_flat, read_reserved, fat_of}
use Rattle.lock_word.specs.declared.reading.LockWord.{LockWord}
use Rattle.lock_word.specs.declared.kinds.Kind.{Kind}
use Rattle.lock_word.specs.declared.kinds.Kind.TheVariants.{Flat as FlatKind, Reserved as ReservedKind, Fat as FatKind}

-- the kind that bits 0 to 7 give, if any
unfoldable pub kind_of : ℕ → Option Kind
kind_of word =
    pick (eqb (shape_field word) 0)
    (pick (eqb (reserved_field word) 0) (Some FlatKind) (Some ReservedKind))
    (pick (eqb (below_number_field word) 0) (Some FatKind) None)

-- the low byte that stands for this one in the table: it has the same bits 0 and 1, and count 1 where this one has any
unfoldable pub kind_place : ℕ → ℕ
kind_place low = pick (ltb low count_unit) low (low % count_unit + count_unit)

-- what a word of this kind means; only the count of a flat or a reserved word is looked at
unfoldable pub by_kind : Option Kind → ℕ → ℕ → Option LockWord
by_kind None count number = None
by_kind (Some FlatKind) count number = read_flat count number
by_kind (Some ReservedKind) count number = read_reserved count number
by_kind (Some FatKind) count number = fat_of number
