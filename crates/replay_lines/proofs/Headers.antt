-- The lines that begin with L are the headers, of their form or not.
use Prim.Native.Nat.{ℕ}
use mathlib.Core.Path.{◌≡◌, refl, ap, ◌∙◌}
use mathlib.Core.Bool.{Bool, true, false}
use mathlib.Core.List.{List, [], ◌∷◌}
use lib.Dec.{eqb}
use Rattle.laws.specs.Choice.{pick}
use Rattle.laws.proofs.Choice.{either_way}
use Rattle.replay_lines.specs.Bytes.{letter_L}
use Rattle.replay_lines.specs.Grammar.{is_header, read_line}
use Rattle.replay_lines.specs.LineText.{Letter, Writes, begins_with}
use Rattle.replay_lines.specs.declared.reading.Line.{Line}
use Rattle.replay_lines.specs.declared.reading.Line.TheVariants.{BadHeader, Malformed}
use Rattle.replay_lines.proofs.ReadBack.{read_written}

named : {operation letter : ℕ} → Letter operation letter → eqb letter letter_L ≡ false
named Letter.enter = refl
named Letter.exit = refl
named Letter.wait = refl
named Letter.notify = refl
named Letter.notify_all = refl

written : {line : Line} {text : List ℕ} → Writes line text → is_header line ≡ begins_with letter_L text
unfolding is_header
written (Writes.header fits fits') = refl
written (Writes.begin named_so fits fits') = rw (named named_so) refl
written (Writes.timed_wait fits fits' fits'') = refl
written (Writes.step fits) = refl
written Writes.tick = refl

unread : (test : Bool) → is_header (pick test BadHeader Malformed) ≡ test
unfolding is_header
unread true = refl
unread false = refl

-- "every line beginning with L is a header", and no other
pub header_begins : (line : List ℕ) → is_header (read_line line) ≡ begins_with letter_L line
unfolding is_header read_line
header_begins [] = refl
header_begins (letter ∷ text) =
    either_way (read_written letter text) (λ none. ap is_header none ∙ unread (eqb letter letter_L)) (λ is. written is)
