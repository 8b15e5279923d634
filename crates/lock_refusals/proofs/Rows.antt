-- The number of the first row that applies, read and made: that of `IsFirst`, or 0 where no row applies. So what is refused with it is refused by the first.
use Prim.Native.Nat.{ℕ, ◌≤◌}
use mathlib.Core.Path.{◌≡◌, refl, sym, ◌∙◌}
use mathlib.Core.Logic.{◌⊎◌, inl, inr}
use mathlib.Core.Bool.{Bool, true}
use mathlib.Core.List.{List, [], ◌∷◌}
use native.Mathlib.Omega.{arith}
use lib.Dec.{leb}
use borrow.Author.Tests.{leb-true, le-leb, lt-leb}
use Rattle.laws.specs.Choice.{pick, both}
use Rattle.laws.proofs.Choice.{split, both_first, both_second}
use Rattle.lock_rules.specs.Numbers.{first_refusal}
use Rattle.lock_refusals.specs.Rows.{Row, IsFirst, NoneApplies, RefusedByFirst}

-- the number of the first row that applies, 0 if none does
abbrev pub first_applies : List Row → ℕ
first_applies [] = 0
first_applies (first ∷ rest) = pick first.applies first.number (first_applies rest)

-- the number returned by what is refused; 0 for what is not
abbrev pub refused_number : ℕ → ℕ
refused_number returned = pick (leb first_refusal returned) returned 0

-- the numbers of refusals are 11 and up
abbrev pub from_eleven : List Row → Bool
from_eleven [] = true
from_eleven (first ∷ rest) = both (leb 11 first.number) (from_eleven rest)

first_read : (rows : List Row) (number : ℕ) → 11 ≤ number → first_applies rows ≡ number → IsFirst number rows
first_read [] number high e = absurd (omega arith)
first_read (first ∷ rest) number high e =
    split first.applies (λ applies. inl (applies, rw applies at e)) (λ passed. inr (passed, first_read rest number high (rw passed at e)))

first_made : (rows : List Row) (number : ℕ) → IsFirst number rows → first_applies rows ≡ number
first_made [] number never = absurd never
first_made (first ∷ rest) number (inl (applies, e)) = rw applies e
first_made (first ∷ rest) number (inr (passed, found)) = rw passed (first_made rest number found)

none_read : (rows : List Row) → from_eleven rows ≡ true → first_applies rows ≡ 0 → NoneApplies rows
none_read [] high e = tt
none_read (first ∷ rest) high e =
    split first.applies
    (λ applies. absurd (omega (arith, leb-true 11 first.number (both_first _ (from_eleven rest) high), rw applies at e)))
    (λ passed. (passed, none_read rest (both_second (leb 11 first.number) _ high) (rw passed at e)))

none_made : (rows : List Row) → NoneApplies rows → first_applies rows ≡ 0
none_made [] none = refl
none_made (first ∷ rest) (passed, none) = rw passed (none_made rest none)

-- accepted or refused
abbrev pub InRange : ℕ → Type 0
InRange returned = (returned ≤ 2) ⊎ (11 ≤ returned)

-- in the words of demand 1
pub refused_by_first : (rows : List Row) (returned : ℕ) → InRange returned → from_eleven rows ≡ true → refused_number returned ≡ first_applies rows
    → RefusedByFirst rows returned
refused_by_first rows returned (inl low) high first =
    let none : first_applies rows ≡ 0 = sym first ∙ rw (lt-leb 11 returned (omega (arith, low))) in
    record {
      refused = λ number large. (
        λ is. absurd (omega (arith, is, low, large)),
        λ found. absurd (omega (arith, first_made rows number found, none, large)),
      );
      accepted = (λ small. none_read rows high none, λ passed. low);
    }
refused_by_first rows returned (inr refused) high first =
    let applies : first_applies rows ≡ returned = sym first ∙ rw (le-leb 11 returned refused) in
    record {
      refused = λ number large. (λ is. first_read rows number large (applies ∙ is), λ found. sym applies ∙ first_made rows number found);
      accepted = (λ small. absurd (omega (arith, small, refused)), λ passed. absurd (omega (arith, none_made rows passed, applies, refused)));
    }
