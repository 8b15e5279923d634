-- A fresh table written over the caller's bytes is its bytes, whatever stood there.
use Prim.Native.Nat.{ℕ}
use mathlib.Core.Path.{◌≡◌, refl}
use mathlib.Core.List.{List}
use lib.ListN.{length}
use borrow.Author.Tests.{eqb-true}
use Rattle.laws.specs.Choice.{pick}
use Rattle.laws.proofs.Choice.{split}
use Rattle.lock_table.specs.declared.record.Table.{Table}
use Rattle.lock_table.specs.declared.fresh_table.FreshRefusal.{FreshRefusal}
use Rattle.std.specs.Prelude.{Result, Ok, Err}
use Rattle.table_bytes.specs.Layout.{table_size}
use Rattle.table_bytes.proofs.Written.{kept_is}
use Rattle.lock_engine_c.specs.Calls.{made_bytes, keep_made, has_size}

made_is : (bytes : List ℕ) → length bytes ≡ table_size → (made : Result Table FreshRefusal) → keep_made bytes made ≡ made_bytes bytes made
unfolding keep_made made_bytes
made_is bytes long (Ok table) = kept_is bytes table long
made_is bytes long (Err refusal) = refl

pub fresh_written : (bytes : List ℕ) (made : Result Table FreshRefusal)
    → pick (has_size bytes) (keep_made bytes made) bytes ≡ pick (has_size bytes) (made_bytes bytes made) bytes
fresh_written bytes made =
    split (has_size bytes)
    (λ fits. rw fits (made_is bytes (eqb-true (length bytes) table_size fits) made))
    (λ unfit. rw unfit refl)
