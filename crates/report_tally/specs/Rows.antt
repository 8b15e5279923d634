-- The report's rows (document 02, L4): "a line per object number up to the largest N in a good header, then number 0 for all".
use Rattle.std.specs.Prelude.{ℕ, zero, suc, List, [], ◌++◌, ltb, get_or}
use Rattle.laws.specs.Choice.{pick}
use Rattle.lock_table.specs.Limits.{object_limit}
use Rattle.replay_text.specs.Row.{row_text}
use Rattle.replay_text.specs.declared.row.Figures.{Figures}
use Rattle.report_tally.specs.Tally.{no_figures}
use Rattle.report_tally.specs.declared.tally.Tally.{Tally}

-- the rows of the objects up to this number
unfoldable pub rows_text : List Figures → ℕ → List ℕ
rows_text rows zero = []
rows_text rows (suc number) = rows_text rows number ++ row_text (suc number) (get_or rows number no_figures)

-- no table has more objects
unfoldable pub row_count : ℕ → ℕ
row_count largest = pick (ltb object_limit largest) object_limit largest

unfoldable pub report_text : Tally → List ℕ
report_text tally = rows_text tally.objects (row_count tally.largest) ++ row_text 0 tally.all
