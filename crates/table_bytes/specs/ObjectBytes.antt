-- An object's record in bytes: its fields and their widths, the record that numbers say, and which numbers there are. All that knows an object's
-- fields stands here, and its code in src/object_bytes.rt.
use Rattle.std.specs.Prelude.{ℕ, Bool, List, [], ◌∷◌, eqb, leb}
use Rattle.laws.specs.Choice.{pick}
use Rattle.lock_table.specs.declared.record.ObjectRecord.{ObjectRecord}
use Rattle.table_bytes.specs.Rows.{Field, field, Numbers}

-- how often this layout has changed; whoever changes a byte of an object's record adds one
abbrev pub object_revision : ℕ
object_revision = 0

unfoldable pub flag_byte : Bool → ℕ
flag_byte flag = pick flag 1 0

abbrev pub object_layout : List (Field ObjectRecord)
object_layout =
    field (λ object. object.word) 4
    ∷ field (λ object. flag_byte object.flag) 1
    ∷ field (λ object. object.monitor.holder) 1
    ∷ field (λ object. object.monitor.depth) 2
    ∷ field (λ object. object.monitor.entry) 1
    ∷ field (λ object. object.monitor.contention) 1
    ∷ field (λ object. object.monitor.waiting) 1
    ∷ []

-- the record that the numbers of its fields say, in the order of its layout
abbrev pub object_of : Numbers object_layout → ObjectRecord
object_of (word, (flag, (holder, (depth, (entry, (contention, (waiting, end))))))) = record {
  word = word;
  monitor = record { depth = depth; holder = holder; entry = entry; contention = contention; waiting = waiting };
  flag = eqb flag 1;
}

-- the numbers are those of a record: flag 0 or 1
abbrev pub object_known : Numbers object_layout → Bool
object_known (word, (flag, rest)) = leb flag 1
