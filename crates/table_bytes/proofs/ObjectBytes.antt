-- An object's record is what its numbers say, and known numbers are those of the record that they say.
use Prim.Native.Nat.{ℕ, ◌≤◌}
use mathlib.Core.Path.{◌≡◌, refl}
use mathlib.Core.Bool.{Bool, true, false}
use native.Mathlib.Omega.{arith}
use lib.Dec.{eqb, leb}
use borrow.Author.Tests.{eqb-true, leb-true}
use Rattle.laws.specs.Every.{all_up_to, all_below}
use Rattle.laws.proofs.Every.{all_below_at}
use Rattle.lock_table.specs.declared.record.ObjectRecord.{ObjectRecord}
use Rattle.table_bytes.specs.Rows.{Numbers}
use Rattle.table_bytes.specs.ObjectBytes.{flag_byte, object_layout, object_of, object_known}
use Rattle.table_bytes.proofs.Rows.{numbers}

-- a flag is read from its own number, which is a known one
by_flag : (flag : Bool) → (eqb (flag_byte flag) 1 ≡ flag) × (leb (flag_byte flag) 1 ≡ true)
unfolding flag_byte
by_flag true = (refl, refl)
by_flag false = (refl, refl)

-- and a flag that there is, is the number of what it is read as
abbrev flag_right : ℕ → Bool
flag_right flag = eqb (flag_byte (eqb flag 1)) flag

flag_test : all_below 2 flag_right ≡ true
unfolding all_up_to flag_byte
flag_test = refl

flag_same : (flag : ℕ) → flag ≤ 1 → flag_byte (eqb flag 1) ≡ flag
flag_same flag few = eqb-true _ flag (all_below_at 2 flag_right flag_test flag (omega (arith, few)))

-- a record is what its numbers say, and they are known ones
pub object_back : (object : ObjectRecord) → object_of (numbers object_layout object) ≡ object
object_back object = rw (by_flag object.flag).0 refl

pub object_read_known : (object : ObjectRecord) → object_known (numbers object_layout object) ≡ true
object_read_known object = (by_flag object.flag).1

-- known numbers are those of the record that they say
pub object_same : (read : Numbers object_layout) → object_known read ≡ true → numbers object_layout (object_of read) ≡ read
object_same (word, (flag, rest)) known = rw (flag_same flag (leb-true flag 1 known)) refl
