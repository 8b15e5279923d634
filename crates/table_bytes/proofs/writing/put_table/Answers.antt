-- Sizes, threads and objects one behind the other.
use mathlib.Core.Path.{◌≡◌}
use native.Mathlib.Omega.{arith}
use Rattle.std.proofs.Common.{rules}
use lib.ListN.{length}
use Rattle.table_bytes.proofs.Written.{sizes_set, written_is}
use Rattle.table_bytes.proofs.writing.put_table.Goals as goal

pub returns : goal.returns
returns c =
    let threads : length c.args.table.threads ≡ 32 = search rules in
    let objects : length c.args.table.objects ≡ 64 = search rules in
    let sizes = sizes_set c.args.bytes.now c.args.table.threadcount c.args.table.objectcount (omega (arith, c.requires)) in
    rw (c.put_records-2.ensures, c.put_records.ensures, threads, objects, sizes) (written_is c.args.table c.args.bytes.now c.requires)
