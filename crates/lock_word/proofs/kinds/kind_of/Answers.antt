-- The table of the code, computed here over its eight entries, is that of the rule, and these stand for all low bytes.
use mathlib.Core.Path.{◌∙◌}
use borrow.Author.Rules.{rules}
use Rattle.std.specs.Prelude.{None}
use Rattle.laws.specs.Sequence.{tabulate}
use Rattle.laws.proofs.Sequence.{tabulate_at}
use Rattle.lock_word.specs.KindTable.{kind_of}
use Rattle.lock_word.proofs.KindTable.{place_inside, place_kind}
use Rattle.lock_word.proofs.kinds.kind_of.Goals as goal

pub returns : goal.returns
unfolding tabulate kind_of
returns c =
    simp (c.from-place.ensures, c.kind_place.ensures)
    (tabulate_at 8 kind_of None _ (place_inside c.args.low) ∙ place_kind c.args.low (search rules))
