-- A test of a whole range, read at each of its numbers, made from all of them, and one turn of the loop that computes it, down or up.
use Prim.Native.Nat.{ℕ, zero, suc, ◌+◌, ◌-◌, ◌≤◌, ◌<◌}
use mathlib.Core.Path.{◌≡◌, refl, sym, subst, ◌∙◌}
use mathlib.Core.Bool.{Bool, true, false}
use native.Mathlib.Omega.{arith}
use native.Mathlib.Numerals.{sub-one}
use native.Mathlib.Nat.{le_of_suc-le-suc, not-suc-le-zero, lt_irrefl}
use lib.Arith.{le_of_le-suc-ne}
use lib.Dec.{eqb}
use borrow.Author.Tests.{eqb-true, eqb-false}
use Rattle.laws.specs.Choice.{pick}
use Rattle.laws.specs.Every.{all_up_to, all_below}
use Rattle.laws.proofs.Choice.{split, false≢true}

pub all_at : (n : ℕ) (test : ℕ → Bool) → all_up_to n test ≡ true → (i : ℕ) → 1 ≤ i → i ≤ n → test i ≡ true
unfolding all_up_to
all_at zero test h i low high = absurd (lt_irrefl 0 (omega arith))
all_at (suc n) test h i low high =
    split (test (suc n))
    (λ passed. split (eqb i (suc n))
    (λ e. simp (eqb-true i (suc n) e) passed)
    (λ e. all_at n test (simp passed at h) i low (le_of_le-suc-ne high (eqb-false i (suc n) e))))
    (λ missed. false≢true (simp missed at h))

pub all_of : (n : ℕ) (test : ℕ → Bool) → ((i : ℕ) → 1 ≤ i → i ≤ n → test i ≡ true) → all_up_to n test ≡ true
unfolding all_up_to
all_of zero test h = refl
all_of (suc n) test h = simp (h (suc n) (omega arith) (omega arith)) (all_of n test (λ i low high. h i low (omega arith)))

pub all_step : {n : ℕ} → 0 < n → (test : ℕ → Bool) → all_up_to n test ≡ pick (test n) (all_up_to (n - 1) test) false
unfolding all_up_to
all_step {n = zero} h test = absurd (not-suc-le-zero h)
all_step {n = suc n} h test = simp sub-one

pub all_end : {n : ℕ} → n ≤ 0 → (test : ℕ → Bool) → all_up_to n test ≡ true
unfolding all_up_to
all_end {n = zero} h test = refl
all_end {n = suc n} h test = absurd (not-suc-le-zero h)

-- a loop that goes up through the range, and stops at the first number that fails
pub up_to_none : (test : ℕ → Bool) → all_up_to 0 test ≡ true
unfolding all_up_to
up_to_none test = refl

pub up_to_next : (n : ℕ) (test : ℕ → Bool) → all_up_to n test ≡ true → test (n + 1) ≡ true → all_up_to (n + 1) test ≡ true
up_to_next n test before here = let back : (n + 1) - 1 ≡ n = omega arith in all_step {n = n + 1} (omega arith) test ∙ rw (here, back) before

pub up_to_fails : (n i : ℕ) (test : ℕ → Bool) → i < n → test (i + 1) ≡ false → false ≡ all_up_to n test
up_to_fails n i test low fails =
    split (all_up_to n test) (λ all. let passes = all_at n test all (i + 1) (omega arith) (omega (arith, low)) in cc) (λ some. sym some)

-- the same of places that count from 0
pub below_next : (n : ℕ) (test : ℕ → Bool) → all_below n test ≡ true → test n ≡ true → all_below (n + 1) test ≡ true
below_next n test before here = let back : (n + 1) - 1 ≡ n = omega arith in up_to_next n (λ i. test (i - 1)) before (rw back here)

pub below_fails : (n i : ℕ) (test : ℕ → Bool) → i < n → test i ≡ false → false ≡ all_below n test
below_fails n i test low fails = let back : (i + 1) - 1 ≡ i = omega arith in up_to_fails n i (λ k. test (k - 1)) low (rw back fails)

pub all_below_at : (n : ℕ) (test : ℕ → Bool) → all_below n test ≡ true → (i : ℕ) → i < n → test i ≡ true
all_below_at n test passes i low =
    let place : suc i - 1 ≡ i = omega arith in
    subst (λ (k : ℕ). test k ≡ true) place (all_at n (λ k. test (k - 1)) passes (suc i) (omega arith) (omega (arith, low)))

-- facts of the first n numbers, one by one
abbrev pub Facts : ℕ → (ℕ → Type 0) → Type 0
Facts zero Fact = Unit
Facts (suc n) Fact = Fact zero × Facts n (λ i. Fact (suc i))

-- a list of them ends with `tt`
infixr 5 ◌and◌
abbrev pub ◌and◌ : {A B : Type 0} → A → B → A × B
first and rest = (first, rest)

pub each_below : (n : ℕ) (Fact : ℕ → Type 0) → Facts n Fact → (i : ℕ) → i < n → Fact i
each_below zero Fact facts i low = absurd (not-suc-le-zero low)
each_below (suc n) Fact facts zero low = facts.0
each_below (suc n) Fact facts (suc i) low = each_below n (λ k. Fact (suc k)) facts.1 i (le_of_suc-le-suc low)
