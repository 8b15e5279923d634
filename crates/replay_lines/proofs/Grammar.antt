-- A reader's turn: one field is read, and the part behind it goes to the next reader.
use Prim.Native.Nat.{ℕ, ◌-◌, ◌≤◌}
use mathlib.Core.Path.{◌≡◌, refl, ap, ◌∙◌}
use Rattle.std.specs.Prelude.{Option, Some, None}
use mathlib.Core.List.{List, [], ◌∷◌}
use native.Mathlib.Omega.{arith}
use lib.Dec.{eqb}
use lib.ListN.{length, get_or, take, drop}
use Rattle.laws.specs.Choice.{pick}
use Rattle.replay_text.specs.Bytes.{newline}
use Rattle.replay_lines.specs.Number.{read_field}
use Rattle.replay_lines.specs.Grammar.{number_then, field_then, end_line}
use Rattle.replay_lines.specs.declared.number.Number.{Number}
use Rattle.replay_lines.specs.declared.reading.Line.{Line}
use Rattle.replay_lines.proofs.Fields.{rest_of, field_within, found_within}

pub field_absent : (text : List ℕ) → None ≡ read_field text → (next : ℕ → List ℕ → Option Line) → None ≡ field_then text next
field_absent text absent next = ap (λ (x : Option Number). number_then x text next) absent

module _ {number : Number} (text : List ℕ) (read : Some number ≡ read_field text) where
  pub field_fits : number.length ≤ length text
  field_fits = found_within read (field_within text)

  -- the next reader gets the part of the slice behind the field
  pub field_next : (next : ℕ → List ℕ → Option Line)
      → next number.value (take (length text - number.length) (drop number.length text)) ≡ field_then text next
  field_next next = ap (next number.value) (rest_of number.length text) ∙ ap (λ (x : Option Number). number_then x text next) read

pub end_other : (text : List ℕ) (line : Line) → (length text ≡ 1 → ⊥) → None ≡ end_line text line
unfolding end_line
end_other [] line other = refl
end_other (byte ∷ []) line other = absurd (other refl)
end_other (byte ∷ more ∷ text) line other = refl

pub end_one : (text : List ℕ) (line : Line) → length text ≡ 1 → end_line text line ≡ pick (eqb (get_or text 0 0) newline) (Some line) None
unfolding end_line
end_one [] line one = absurd (omega arith)
end_one (byte ∷ []) line one = refl
end_one (byte ∷ more ∷ text) line one = absurd (omega arith)
