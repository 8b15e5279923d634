-- The tally of a run of the report (document 02, L4).
use Rattle.std.specs.Prelude.{ℕ, ◌+◌, false, ltb, get_or, set, replicate}
use Rattle.laws.specs.Choice.{pick}
use Rattle.lock_table.specs.Limits.{object_limit}
use Rattle.lock_table.specs.Place.{object_place}
use Rattle.replay_text.specs.declared.row.Figures.{Figures}
use Rattle.report_tally.specs.declared.way.Way.{Way}
use Rattle.report_tally.specs.declared.way.Way.TheVariants.{NoEnter, Anonymous, Reserved, Free, Nested, Monitor}
use Rattle.report_tally.specs.declared.tally.Tally.{Tally}

-- "the 60,000 lines, headers not counted, that a run may hold"
abbrev pub most_lines : ℕ
most_lines = 60000

abbrev pub no_figures : Figures
no_figures = record { anonymous = 0; reserved = 0; free = 0; nested = 0; monitor = 0 }

abbrev pub fresh_tally : Tally
fresh_tally = record { lines = 0; largest = 0; printed = false; all = no_figures; objects = replicate object_limit no_figures }

-- a figure stops at the lines that a run may hold; in no run is one stopped (the law `report_right`)
unfoldable pub one_more : ℕ → ℕ
one_more figure = pick (ltb figure most_lines) (figure + 1) figure

-- one enter more that finished this way
unfoldable pub with_enter : Figures → Way → Figures
with_enter figures NoEnter = figures
with_enter figures Anonymous =
    record { anonymous = one_more figures.anonymous; reserved = figures.reserved; free = figures.free; nested = figures.nested; monitor = figures.monitor }
with_enter figures Reserved =
    record { anonymous = figures.anonymous; reserved = one_more figures.reserved; free = figures.free; nested = figures.nested; monitor = figures.monitor }
with_enter figures Free =
    record { anonymous = figures.anonymous; reserved = figures.reserved; free = one_more figures.free; nested = figures.nested; monitor = figures.monitor }
with_enter figures Nested =
    record { anonymous = figures.anonymous; reserved = figures.reserved; free = figures.free; nested = one_more figures.nested; monitor = figures.monitor }
with_enter figures Monitor =
    record { anonymous = figures.anonymous; reserved = figures.reserved; free = figures.free; nested = figures.nested; monitor = one_more figures.monitor }

-- the same in the row at a place, and in the row of all
abbrev pub counted_at : Tally → ℕ → Way → Tally
counted_at tally place way =
    record {
      lines = tally.lines;
      largest = tally.largest;
      printed = tally.printed;
      all = with_enter tally.all way;
      objects = set tally.objects place (with_enter (get_or tally.objects place no_figures) way);
    }

-- the rows of the objects stand in the order of their numbers
unfoldable pub tallied : Tally → ℕ → Way → Tally
tallied tally number way = counted_at tally (object_place number) way
