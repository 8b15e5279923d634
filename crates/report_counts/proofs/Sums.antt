-- Enters that are counted in parts add up: those of the five ways to all, and those on the objects of a run to all.
use Prim.Native.Nat.{ℕ, zero, suc, ◌+◌, ◌≤◌}
use mathlib.Core.Path.{◌≡◌, refl, sym, ap, ◌∙◌}
use mathlib.Core.Logic.{◌≢◌}
use mathlib.Core.Bool.{Bool, true, false}
use mathlib.Core.List.{List, [], ◌∷◌}
use native.Mathlib.Omega.{arith}
use lib.Dec.{eqb, leb}
use borrow.Author.Tests.{le-leb, lt-leb}
use Rattle.laws.specs.Choice.{both}
use Rattle.laws.specs.Count.{one_if}
use Rattle.laws.proofs.Choice.{split, Equal, equal, AtMost, at_most}
use Rattle.lock_table.specs.declared.record.Table.{Table}
use Rattle.replay_lines.specs.Bytes.{letter_L}
use Rattle.replay_lines.specs.Grammar.{read_line}
use Rattle.replay_lines.specs.LineText.{begins_with}
use Rattle.replay_lines.specs.declared.reading.Line.{Line}
use Rattle.replay_lines.specs.declared.reading.Line.TheVariants.{Header, Begin, Step, Tick, BadHeader, Malformed}
use Rattle.replay_session.specs.declared.session.Stage.{Stage}
use Rattle.replay_session.specs.declared.session.Stage.TheVariants.{Opening, Running, Over}
use Rattle.replay_session.specs.declared.session.Session.{Session}
use Rattle.report_tally.specs.declared.way.Way.{Way}
use Rattle.report_tally.specs.declared.way.Way.TheVariants.{NoEnter, Anonymous, Reserved, Free, Nested, Monitor}
use Rattle.report_counts.specs.Enters.{Chosen, session_behind, step_enters, line_enters, stage_enters, enters_here, enters, largest_objects}
use Rattle.report_counts.specs.Report.{way_number, same_way, by_way, on_by_way}
use Rattle.report_counts.proofs.Finishes.{entered_at, entered_by, finishes}
use Rattle.report_counts.proofs.Objects.{Fine, fine_behind, largest_first}

-- a number for each of some choices, added up
unfoldable pub added : (Chosen → ℕ) → List Chosen → ℕ
added number [] = 0
added number (chosen ∷ parts) = number chosen + added number parts

added_none : (parts : List Chosen) → added (λ chosen. 0) parts ≡ 0
unfolding added
added_none [] = refl
added_none (chosen ∷ parts) = let rest = added_none parts in omega (arith, rest)

added_both : (first second : Chosen → ℕ) (parts : List Chosen)
    → added (λ chosen. first chosen + second chosen) parts ≡ added first parts + added second parts
unfolding added
added_both first second [] = refl
added_both first second (chosen ∷ parts) = let rest = added_both first second parts in omega (arith, rest)

-- an enter by one of the five ways, on one of so many objects, is chosen by the whole where one part chooses it
abbrev pub Splits : ℕ → Chosen → List Chosen → Type 0
Splits limit whole parts = (object : ℕ) (way : Way) → 1 ≤ object → object ≤ limit → way ≢ NoEnter
    → one_if (whole object way) ≡ added (λ chosen. one_if (chosen object way)) parts

-- so the enters of a run on at most so many objects add up
module _ (limit : ℕ) (whole : Chosen) (parts : List Chosen) (splits : Splits limit whole parts) where
  line_split : (table : Table) → table.objectcount ≤ limit → (line : Line)
      → one_if (line_enters whole table line) ≡ added (λ chosen. one_if (line_enters chosen table line)) parts
  unfolding line_enters
  line_split table few (Header threads objects reserved) = sym (added_none parts)
  line_split table few (Begin operation thread object limit) = sym (added_none parts)
  line_split table few (Step thread) =
      split (step_enters table thread)
      (λ enters.
      let finished = finishes table thread enters in
      let known = finished.known_object in
      rw enters (splits (entered_at table thread) (entered_by table thread) finished.numbered.0 (omega (arith, known, few)) finished.some_way))
      (λ none. rw none (sym (added_none parts)))
  line_split table few Tick = sym (added_none parts)
  line_split table few BadHeader = sym (added_none parts)
  line_split table few Malformed = sym (added_none parts)

  stage_split : (stage : Stage) (table : Table) → table.objectcount ≤ limit → (line : Line)
      → one_if (stage_enters whole stage table line) ≡ added (λ chosen. one_if (stage_enters chosen stage table line)) parts
  unfolding stage_enters
  stage_split Opening table few line = sym (added_none parts)
  stage_split Running table few line = line_split table few line
  stage_split Over table few line = sym (added_none parts)

  here_split : (session : Session) → session.table.objectcount ≤ limit → (line : List ℕ)
      → one_if (enters_here whole session line) ≡ added (λ chosen. one_if (enters_here chosen session line)) parts
  here_split session few line =
      split (begins_with letter_L line) (λ header. rw header (sym (added_none parts)))
      (λ other. rw other (stage_split session.stage session.table few (read_line line)))

  pub enters_split : (lines : List (List ℕ)) (session : Session) → Fine limit session → largest_objects lines ≤ limit
      → enters whole session lines ≡ added (λ chosen. enters chosen session lines) parts
  unfolding enters
  enters_split [] session fine few = sym (added_none parts)
  enters_split (line ∷ lines) session fine few =
      let (first, later) = largest_first line lines in
      let here = here_split session fine.known line in
      let rest = enters_split lines (session_behind session line) (fine_behind line fine (omega (arith, first, few))) (omega (arith, later, few)) in
      omega (arith, here, rest)
      ∙ sym (added_both (λ chosen. one_if (enters_here chosen session line)) (λ chosen. enters chosen (session_behind session line) lines) parts)

-- the five ways, of the enters on some objects
abbrev pub five_of : (ℕ → Bool) → List Chosen
five_of base = part Anonymous ∷ part Reserved ∷ part Free ∷ part Nested ∷ part Monitor ∷ []
  where
    part : Way → Chosen
    part way = λ object finished. both (base object) (same_way finished way)

pub five_split : (limit : ℕ) (base : ℕ → Bool) → Splits limit (λ object way. base object) (five_of base)
unfolding added way_number
five_split limit base object way low high some = at (base object) way some
  where
    at : (test : Bool) (way : Way) → way ≢ NoEnter → let here : Way → ℕ = λ chosen. one_if (both test (same_way way chosen)) in
        one_if test ≡ here Anonymous + (here Reserved + (here Free + (here Nested + (here Monitor + 0))))
    at test NoEnter some = absurd (some refl)
    at true Anonymous some = refl
    at true Reserved some = refl
    at true Free some = refl
    at true Nested some = refl
    at true Monitor some = refl
    at false Anonymous some = refl
    at false Reserved some = refl
    at false Free some = refl
    at false Nested some = refl
    at false Monitor some = refl

-- the objects up to a number, of the enters by a way
unfoldable pub rows_of : Way → ℕ → List Chosen
rows_of way zero = []
rows_of way (suc number) = on_by_way (suc number) way ∷ rows_of way number

rows_add : (way finished : Way) (object : ℕ) → 1 ≤ object → (number : ℕ)
    → added (λ chosen. one_if (chosen object finished)) (rows_of way number) ≡ one_if (both (leb object number) (same_way finished way))
unfolding added rows_of
rows_add way finished object low zero = rw (lt-leb object 0 low)
rows_add way finished object low (suc number) =
    ap (◌+◌ (one_if (on_by_way (suc number) way object finished))) (rows_add way finished object low number)
    ∙ at (eqb object (suc number)) (leb object number) (leb object (suc number)) (equal object (suc number)) (at_most object number)
    (at_most object (suc number)) (same_way finished way)
  where
    at : (last before upto : Bool) → Equal last object (suc number) → AtMost before object number → AtMost upto object (suc number) → (test : Bool)
        → one_if (both last test) + one_if (both before test) ≡ one_if (both upto test)
    at true true upto e b u test = absurd (omega (arith, e, b))
    at true false true e b u test = omega arith
    at true false false e b u test = absurd (omega (arith, e, u))
    at false true true e b u test = omega arith
    at false true false e b u test = absurd (omega (arith, b, u))
    at false false true e b u test = absurd (e (omega (arith, b, u)))
    at false false false e b u test = refl

pub rows_split : (limit : ℕ) (way : Way) → Splits limit (by_way way) (rows_of way limit)
rows_split limit way object finished low high some = sym (rows_add way finished object low limit ∙ rw (le-leb object limit high))
