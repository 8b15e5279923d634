-- Refusals as an ordered list of a number and whether it applies, and what it is to be refused by the first that does.
use Rattle.std.specs.Prelude.{ℕ, ◌≤◌, ◌≡◌, ◌⊎◌, ◌↔◌, Bool, true, false, List, [], ◌∷◌}
use Rattle.lock_rules.specs.Numbers.{first_refusal}

-- one refusal: its number, and whether it applies
pub record Row : Type 0 where
  pub number : ℕ
  pub applies : Bool

abbrev pub row : ℕ → Bool → Row
row number applies = record { number = number; applies = applies }

-- this number is that of the first row that applies; no row applies
abbrev pub IsFirst : ℕ → List Row → Type 0
IsFirst number [] = ⊥
IsFirst number (first ∷ rest) =
    ((first.applies ≡ true) × (first.number ≡ number)) ⊎ ((first.applies ≡ false) × IsFirst number rest)

abbrev pub NoneApplies : List Row → Type 0
NoneApplies [] = Unit {0}
NoneApplies (first ∷ rest) = (first.applies ≡ false) × NoneApplies rest

-- "It is refused only where a refusal of document 01 applies, with the first that applies in its order, and otherwise accepted": of what is returned.
pub record RefusedByFirst (rows : List Row) (returned : ℕ) : Type 0 where
  pub refused : (number : ℕ) → first_refusal ≤ number → (returned ≡ number) ↔ IsFirst number rows
  -- accepted is 0, 1 and 2
  pub accepted : (returned ≤ 2) ↔ NoneApplies rows
