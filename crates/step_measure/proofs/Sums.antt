-- Sums over the numbers 1 to n, and what becomes of one where a place falls and the others rise by a little.
use Prim.Native.Nat.{ℕ, zero, suc, ◌+◌, ◌*◌, ◌-◌, ◌≤◌, ◌<◌}
use mathlib.Core.Path.{◌≡◌}
use mathlib.Core.Logic.{◌≢◌}
use native.Mathlib.Omega.{arith}
use native.Mathlib.Nat.{mul-le-mul_right}
use Rattle.laws.proofs.Choice.{either_way, equal?}
use Rattle.lock_table.specs.Limits.{thread_limit}

unfoldable pub sum_up_to : ℕ → (ℕ → ℕ) → ℕ
sum_up_to zero f = 0
sum_up_to (suc n) f = f (suc n) + sum_up_to n f

module _ (f g : ℕ → ℕ) (r : ℕ) where
  -- every place rises by r at most
  pub sum_rises : (n : ℕ) → ((i : ℕ) → 1 ≤ i → i ≤ n → g i ≤ f i + r) → sum_up_to n g ≤ sum_up_to n f + n * r
  unfolding sum_up_to
  sum_rises zero rises = omega arith
  sum_rises (suc n) rises =
      omega (arith, rises (suc n) (omega arith) (omega arith), sum_rises n (λ i low high. rises i low (omega arith)))

  -- all but one do
  pub sum_moves : (place : ℕ) → ((i : ℕ) → i ≢ place → g i ≤ f i + r) → (n : ℕ) → 1 ≤ place → place ≤ n
      → (sum_up_to n g + f place) + r ≤ (sum_up_to n f + g place) + n * r
  unfolding sum_up_to
  sum_moves place rises zero low high = absurd (omega (arith, low, high))
  sum_moves place rises (suc n) low high =
      either_way (equal? place (suc n))
      (λ last. rw last (omega (arith, sum_rises n (λ i real small. rises i (λ e. omega (arith, e, small, last))))))
      (λ before. omega (arith, rises (suc n) (λ e. before (omega (arith, e))), sum_moves place rises n low (omega (arith, high, before))))

-- as many as a table has at most besides one thread
abbrev pub others : ℕ
others = thread_limit - 1

-- one place falls by more than all the others may rise together
pub record Falls (place : ℕ) (f g : ℕ → ℕ) : Type 0 where
  pub raise : ℕ
  pub own : g place + others * raise < f place
  pub other : (i : ℕ) → i ≢ place → g i ≤ f i + raise

pub sum_falls : (f g : ℕ → ℕ) (place n : ℕ) → 1 ≤ place → place ≤ n → n ≤ thread_limit → Falls place f g → sum_up_to n g < sum_up_to n f
sum_falls f g place n low high few falls =
    let r = falls.raise in
    omega (arith, mul-le-mul_right r few, falls.own, sum_moves f g r place falls.other n low high)

-- the same values, the same sum
pub sum_same : (f g : ℕ → ℕ) (n : ℕ) → ((i : ℕ) → 1 ≤ i → i ≤ n → f i ≡ g i) → sum_up_to n f ≡ sum_up_to n g
sum_same f g n same =
    omega (arith, sum_rises f g 0 n (λ i low high. omega (arith, same i low high)), sum_rises g f 0 n (λ i low high. omega (arith, same i low high)))

-- each value is small
pub sum_most : (f : ℕ → ℕ) (most : ℕ) → ((i : ℕ) → f i ≤ most) → (n : ℕ) → sum_up_to n f ≤ most * n
unfolding sum_up_to
sum_most f most small zero = omega arith
sum_most f most small (suc n) = omega (arith, small (suc n), sum_most f most small n)
