-- The rows that were put: so many objects' rows, one behind the other.
use Prim.Native.Nat.{ℕ, ◌+◌, ◌*◌, ◌≤◌, ◌<◌}
use mathlib.Core.Path.{◌≡◌}
use mathlib.Core.List.{List}
use native.Mathlib.Omega.{arith}
use native.Mathlib.Numerals.{add-one}
use lib.ListN.{length, get_or}
use lib.Dec.{ltb}
use borrow.Author.Tests.{ltb-false}
use Rattle.laws.proofs.Choice.{by_test}
use Rattle.lock_table.specs.Limits.{object_limit}
use Rattle.replay_text.specs.Row.{row_text, row_room}
use Rattle.replay_text.specs.Written.{Wrote, Put}
use Rattle.replay_text.specs.declared.row.Figures.{Figures}
use Rattle.replay_text.proofs.Stores.{wrote_nothing, wrote_both, wrote_length}
use Rattle.replay_text.proofs.Room.{written_put, put_most}
use Rattle.replay_text.proofs.Lengths.{row_fits}
use Rattle.report_tally.specs.Rows.{row_count, rows_text}
use Rattle.report_tally.specs.Tally.{no_figures}

-- so many rows were put from a place on
pub record RowsPut (rows : List Figures) (before after : List ℕ) (at end count : ℕ) : Type 0 where
  pub wrote : Wrote before after at end (rows_text rows count)
  pub most : end ≤ at + count * row_room

pub rows_first : (rows : List Figures) (bytes : List ℕ) (at : ℕ) → RowsPut rows bytes bytes at at 0
unfolding rows_text
rows_first rows bytes at = record { wrote = wrote_nothing bytes at; most = omega arith }

pub rows_next : {rows : List Figures} {before now after : List ℕ} {at end r count : ℕ} → RowsPut rows before now at end count
    → count < object_limit → at + object_limit * row_room ≤ length before
    → Put row_room now after end r (row_text (count + 1) (get_or rows count no_figures))
    → RowsPut rows before after at r (count + 1)
unfolding rows_text
rows_next {rows} {before} {now} {after} {at} {end} {r} {count} put inside room more =
    let figures = get_or rows count no_figures in
    let kept = wrote_length put.wrote in
    let fits : end + row_room ≤ length now = omega (arith, put.most, room, kept, inside) in
    record {
      wrote = rw (add-one count) (wrote_both put.wrote (rw (add-one count) at (written_put fits more)));
      most = omega (arith, put.most, put_most fits (row_fits (count + 1) figures) more);
    }

-- all of them
pub rows_all : {rows : List Figures} {before after : List ℕ} {at end count all : ℕ} → RowsPut rows before after at end count
    → count ≤ all → all ≤ count → Wrote before after at end (rows_text rows all)
rows_all {count = count} {all} put low high = let same : count ≡ all = omega arith in rw (← same) put.wrote

pub count_within : (largest : ℕ) → row_count largest ≤ object_limit
unfolding row_count
count_within largest = by_test (λ n. n ≤ object_limit) (ltb object_limit largest) (λ more. omega arith) (λ fewer. ltb-false object_limit largest fewer)
