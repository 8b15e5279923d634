-- What one enter more does to the figures of a tally: the figure of its way grows by one, in the row of its object and in the row of all.
use Prim.Native.Nat.{ℕ, ◌+◌, ◌-◌, ◌<◌}
use mathlib.Core.Path.{◌≡◌, refl, ap, ◌∙◌}
use mathlib.Core.Logic.{◌≢◌}
use mathlib.Core.Bool.{Bool, true, false}
use mathlib.Core.List.{List}
use native.Mathlib.Omega.{arith}
use lib.Dec.{eqb}
use lib.ListN.{length, get_or, set}
use lib.Seq.{get_or-set_same, get_or-set_other, set-get_or}
use borrow.Author.Tests.{lt-ltb}
use Rattle.laws.specs.Choice.{pick, both}
use Rattle.laws.specs.Count.{one_if}
use Rattle.laws.proofs.Choice.{Equal, equal}
use Rattle.lock_table.specs.Limits.{object_limit}
use Rattle.lock_table.specs.Place.{object_place}
use Rattle.lock_table.proofs.Places.{place_has}
use Rattle.replay_text.specs.declared.row.Figures.{Figures}
use Rattle.report_tally.specs.Tally.{most_lines, no_figures, one_more, with_enter, tallied}
use Rattle.report_tally.specs.declared.way.Way.{Way}
use Rattle.report_tally.specs.declared.way.Way.TheVariants.{NoEnter, Anonymous, Reserved, Free, Nested, Monitor}
use Rattle.report_tally.specs.declared.tally.Tally.{Tally}
use Rattle.report_counts.specs.Enters.{Chosen}
use Rattle.report_counts.specs.Report.{figure_of, way_number, same_way, by_way, on_by_way, ObjectNumber}

-- what holds of each way
pub each_way : (P : Way → Type 0) → P NoEnter × P Anonymous × P Reserved × P Free × P Nested × P Monitor → (way : Way) → P way
each_way P all NoEnter = all.0
each_way P all Anonymous = all.1
each_way P all Reserved = all.2
each_way P all Free = all.3
each_way P all Nested = all.4
each_way P all Monitor = all.5

-- the figure of the enter's own way, and no other
abbrev Grown : Figures → Way → Way → Type 0
Grown figures way chosen =
    figure_of chosen (with_enter figures way) ≡ pick (same_way way chosen) (one_more (figure_of chosen figures)) (figure_of chosen figures)

grown : (figures : Figures) (way chosen : Way) → way ≢ NoEnter → Grown figures way chosen
unfolding figure_of with_enter way_number
grown figures NoEnter chosen some = absurd (some refl)
grown figures Anonymous chosen some = each_way (Grown figures Anonymous) (refl, refl, refl, refl, refl, refl) chosen
grown figures Reserved chosen some = each_way (Grown figures Reserved) (refl, refl, refl, refl, refl, refl) chosen
grown figures Free chosen some = each_way (Grown figures Free) (refl, refl, refl, refl, refl, refl) chosen
grown figures Nested chosen some = each_way (Grown figures Nested) (refl, refl, refl, refl, refl, refl) chosen
grown figures Monitor chosen some = each_way (Grown figures Monitor) (refl, refl, refl, refl, refl, refl) chosen

-- by one, where the figure has room
by_one : (here : Bool) (figure : ℕ) → figure < most_lines → pick here (one_more figure) figure ≡ figure + one_if here
unfolding one_more
by_one true figure room = rw (lt-ltb figure most_lines room)
by_one false figure room = omega arith

figure_grows : (figures : Figures) (way chosen : Way) → way ≢ NoEnter → figure_of chosen figures < most_lines
    → figure_of chosen (with_enter figures way) ≡ figure_of chosen figures + one_if (same_way way chosen)
figure_grows figures way chosen some room = grown figures way chosen some ∙ by_one (same_way way chosen) (figure_of chosen figures) room

-- a number that is read off the rows and counts the chosen enters: an enter adds one where it is chosen, and what is no enter adds nothing
abbrev pub Measure : Type 0
Measure = Figures → List Figures → ℕ

abbrev pub measured : Measure → Tally → ℕ
measured measure tally = measure tally.all tally.objects

pub record Counts (measure : Measure) (chosen : Chosen) : Type 0 where
  pub enter : (tally : Tally) (object : ℕ) (way : Way) → ObjectNumber object → way ≢ NoEnter → length tally.objects ≡ object_limit
      → measured measure tally < most_lines → measured measure (tallied tally object way) ≡ measured measure tally + one_if (chosen object way)
  pub none : (tally : Tally) (object : ℕ) → measured measure (tallied tally object NoEnter) ≡ measured measure tally

-- the figure of a way in the row of all
abbrev pub figure_in_all : Way → Measure
figure_in_all way = λ all objects. figure_of way all

pub all_counts : (way : Way) → Counts (figure_in_all way) (by_way way)
unfolding tallied with_enter
all_counts way =
    record {
      enter = λ tally object finished has some full room. figure_grows tally.all finished way some room;
      none = λ tally object. refl;
    }

-- and in the row of an object
abbrev row_in : List Figures → ℕ → Figures
row_in rows number = get_or rows (number - 1) no_figures

abbrev pub figure_in_row : ℕ → Way → Measure
figure_in_row number way = λ all objects. figure_of way (row_in objects number)

module _ (number : ℕ) (has : ObjectNumber number) (way : Way) where
  row_grows : (rows : List Figures) (object : ℕ) (finished : Way) → ObjectNumber object → finished ≢ NoEnter → length rows ≡ object_limit
      → figure_of way (row_in rows number) < most_lines
      → figure_of way (row_in (set rows (object - 1) (with_enter (row_in rows object) finished)) number)
      ≡ figure_of way (row_in rows number) + one_if (on_by_way number way object finished)
  row_grows rows object finished (low, high) some full room = at (eqb object number) (equal object number)
    where
      at : (same : Bool) → Equal same object number
          → figure_of way (row_in (set rows (object - 1) (with_enter (row_in rows object) finished)) number)
          ≡ figure_of way (row_in rows number) + one_if (both same (same_way finished way))
      at true same =
          rw same
          (ap (figure_of way) (get_or-set_same rows (number - 1) (with_enter (row_in rows number) finished) no_figures (omega (arith, has, full)))
          ∙ figure_grows (row_in rows number) finished way some room)
      at false other =
          ap (figure_of way) (get_or-set_other rows (object - 1) (number - 1) _ no_figures (λ e. other (omega (arith, e, low, has)))) ∙ omega arith

  pub row_counts : Counts (figure_in_row number way) (on_by_way number way)
  unfolding tallied with_enter
  row_counts =
      record {
        enter = λ tally object finished (low, high) some full room.
            rw (place_has object_limit object (λ none. omega (arith, none), high))
            (row_grows tally.objects object finished (low, high) some full room);
        none = λ tally object.
            ap (λ (rows : List Figures). figure_of way (row_in rows number)) (set-get_or tally.objects (object_place object) no_figures);
      }
