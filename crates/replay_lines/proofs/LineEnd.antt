-- The end of the first line, from where the first newline stands.
use Prim.Native.Nat.{ℕ, zero, suc, ◌+◌}
use mathlib.Core.Path.{◌≡◌, refl, sym, ◌∙◌}
use mathlib.Core.Bool.{Bool}
use mathlib.Core.List.{List, [], ◌∷◌}
use native.Mathlib.Omega.{arith}
use lib.Dec.{eqb}
use Rattle.std.specs.Prelude.{Option, Some, None, position}
use Rattle.std.specs.List.{position_from}
use Rattle.std.proofs.lemmas.Iterator.Adapters.{position_from-zero}
use Rattle.laws.proofs.Choice.{split}
use Rattle.replay_text.specs.Bytes.{newline}
use Rattle.replay_lines.specs.Cutting.{line_end, one_further}

-- an end that is found from `at` on, counted from the start
abbrev pub counted_from : ℕ → ℕ → ℕ
counted_from at zero = 0
counted_from at (suc n) = at + suc n

pub counted_first : (n : ℕ) → counted_from 0 n ≡ n
counted_first zero = refl
counted_first (suc n) = omega arith

counted_further : (at n : ℕ) → counted_from at (one_further n) ≡ counted_from (at + 1) n
counted_further at zero = refl
counted_further at (suc n) = omega arith

-- the place behind a byte
abbrev behind : Option ℕ → ℕ
behind (Some at) = at + 1
behind None = 0

abbrev is_newline : ℕ → Bool
is_newline byte = eqb byte newline

end_from : (at : ℕ) (input : List ℕ) → behind (position_from is_newline at input) ≡ counted_from at (line_end input)
unfolding line_end
end_from at [] = refl
end_from at (byte ∷ input) =
    split (is_newline byte) (λ here. rw here refl)
    (λ later. rw later (end_from (at + 1) input ∙ sym (counted_further at (line_end input))))

pub end_position : (input : List ℕ) (place : Option ℕ) → place ≡ position is_newline input → behind place ≡ line_end input
end_position input place found = rw (found, position_from-zero is_newline input) (end_from 0 input ∙ counted_first (line_end input))
