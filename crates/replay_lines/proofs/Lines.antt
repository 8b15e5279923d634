-- How the first line parts an input, with anything behind it.
use Prim.Native.Nat.{ℕ, zero, suc, ◌-◌, ◌≤◌, ◌<◌}
use mathlib.Core.Path.{◌≡◌, refl, ap, sym, ◌∙◌}
use mathlib.Core.Bool.{Bool, true, false}
use mathlib.Core.List.{List, [], ◌∷◌, ◌++◌, append-nil}
use native.Mathlib.Omega.{arith}
use lib.Dec.{eqb}
use lib.ListN.{length, take, drop, length-drop}
use lib.Seq.{length-take-le}
use Rattle.laws.specs.Choice.{pick}
use Rattle.replay_text.specs.Bytes.{newline}
use Rattle.replay_lines.specs.Cutting.{line_end, one_further, before_first, lines_of, first_line, later_lines}
use Rattle.replay_lines.proofs.Fields.{rest_of}

further_most : (n m : ℕ) → n ≤ m → one_further n ≤ suc m
further_most zero m h = omega arith
further_most (suc n) m h = omega arith

pick_most : (test : Bool) (a b n : ℕ) → a ≤ n → b ≤ n → pick test a b ≤ n
pick_most true a b n first second = first
pick_most false a b n first second = second

pub end_within : (input : List ℕ) → line_end input ≤ length input
unfolding line_end
end_within [] = omega arith
end_within (byte ∷ input) =
    pick_most (eqb byte newline) 1 _ (suc (length input)) (omega arith) (further_most (line_end input) (length input) (end_within input))

-- the first line as `line_end` finds it
module _ (n : ℕ) (input : List ℕ) (end : n ≡ line_end input) where
  pub line_fits : n ≤ length input
  line_fits = omega (arith, end, end_within input)

  pub line_length : n ≡ length (take n input)
  line_length = sym (length-take-le n input line_fits)

  pub rest_shorter : (n ≡ 0 → ⊥) → length (take (length input - n) (drop n input)) < length input
  rest_shorter some = rw (rest_of n input, length-drop n input) (let fits = line_fits in omega (arith, some))

split_step : (byte : ℕ) (input tail : List ℕ) (test : Bool) (n : ℕ) → (pick test 1 (one_further n) ≡ 0 → ⊥)
    → ((n ≡ 0 → ⊥) → lines_of (input ++ tail) ≡ take n input ∷ lines_of (drop n input ++ tail))
    → pick test ((byte ∷ []) ∷ lines_of (input ++ tail)) (before_first byte (lines_of (input ++ tail)))
    ≡ take (pick test 1 (one_further n)) (byte ∷ input) ∷ lines_of (drop (pick test 1 (one_further n)) (byte ∷ input) ++ tail)
split_step byte input tail true n some rest = refl
split_step byte input tail false zero some rest = absurd (some refl)
split_step byte input tail false (suc n) some rest = ap (before_first byte) (rest (λ e. omega arith))

-- an input with a newline is its first line and the lines behind it
pub line_split : (input tail : List ℕ) → (line_end input ≡ 0 → ⊥)
    → lines_of (input ++ tail) ≡ take (line_end input) input ∷ lines_of (drop (line_end input) input ++ tail)
unfolding line_end lines_of
line_split [] tail some = absurd (some refl)
line_split (byte ∷ input) tail some = split_step byte input tail (eqb byte newline) (line_end input) some (line_split input tail)

-- without a newline the first byte is none, and neither is one behind it
none_here : (test : Bool) (n : ℕ) → pick test 1 (one_further n) ≡ 0 → (test ≡ false) × (n ≡ 0)
none_here true n none = absurd (omega arith)
none_here false zero none = (refl, refl)
none_here false (suc n) none = absurd (omega arith)

first_apart : (byte : ℕ) (lines : List (List ℕ)) → before_first byte lines ≡ (byte ∷ first_line lines) ∷ later_lines lines
first_apart byte [] = refl
first_apart byte (line ∷ lines) = refl

-- bytes without a newline are the start of the first line, and leave the later lines as they are
pub line_open : (byte : ℕ) (input tail : List ℕ) → line_end (byte ∷ input) ≡ 0
    → lines_of ((byte ∷ input) ++ tail) ≡ ((byte ∷ input) ++ first_line (lines_of tail)) ∷ later_lines (lines_of tail)
unfolding line_end lines_of
line_open byte [] tail none = rw (none_here (eqb byte newline) 0 none).0 (first_apart byte (lines_of tail))
line_open byte (next ∷ input) tail none =
    let rest = none_here (eqb byte newline) (line_end (next ∷ input)) none in
    rw rest.0 (ap (before_first byte) (line_open next input tail rest.1))

pub later_same : (input tail : List ℕ) → line_end input ≡ 0 → later_lines (lines_of (input ++ tail)) ≡ later_lines (lines_of tail)
later_same [] tail none = refl
later_same (byte ∷ input) tail none = ap later_lines (line_open byte input tail none)

-- an input without a newline is one line without one, or nothing
pub line_last : (input : List ℕ) → line_end input ≡ 0 → (length input ≡ 0 → ⊥) → lines_of input ≡ input ∷ []
unfolding lines_of
line_last [] none some = absurd (some refl)
line_last (byte ∷ input) none some =
    ap lines_of (sym (append-nil (byte ∷ input))) ∙ line_open byte input [] none ∙ ap (λ (line : List ℕ). line ∷ []) (append-nil (byte ∷ input))
