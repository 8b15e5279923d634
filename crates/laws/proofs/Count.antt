-- Counting in lists: one more, joined lists, and that distinct numbers from 1 to n are at most n.
use Prim.Native.Nat.{ℕ, zero, suc, ◌+◌, ◌≤◌, ◌<◌}
use mathlib.Core.Path.{◌≡◌, refl, sym, ◌∙◌}
use mathlib.Core.Logic.{◌≢◌, ◌⊎◌, inl, inr}
use mathlib.Core.Bool.{Bool, true, false}
use mathlib.Core.List.{List, [], ◌∷◌, ◌++◌}
use native.Mathlib.Omega.{arith}
use lib.Dec.{eqb}
use lib.ListN.{length}
use borrow.Author.Tests.{eq-eqb, ne_eqb}
use Rattle.laws.specs.{Choice.pick, Count.count}
use Rattle.laws.proofs.Choice.{equal?, Equal, equal}

pub count_none : (n : ℕ) → count n [] ≡ 0
unfolding count
count_none n = refl

pub count_same : (n : ℕ) (xs : List ℕ) → count n (n ∷ xs) ≡ suc (count n xs)
unfolding count
count_same n xs = rw (eq-eqb n n refl) (omega arith)

pub count_other : (n x : ℕ) (xs : List ℕ) → n ≢ x → count n (x ∷ xs) ≡ count n xs
unfolding count
count_other n x xs away = rw (ne_eqb n x away) (omega arith)

pub count_more : (n x : ℕ) (xs : List ℕ) → count n xs ≤ count n (x ∷ xs)
unfolding count
count_more n x xs = omega arith

pub count_append : (n : ℕ) (xs ys : List ℕ) → count n (xs ++ ys) ≡ count n xs + count n ys
unfolding count
count_append n [] ys = omega arith
count_append n (x ∷ xs) ys = omega (arith, count_append n xs ys)

-- one more at the end
pub count_joined : (n : ℕ) (xs : List ℕ) → count n (xs ++ (n ∷ [])) ≡ suc (count n xs)
unfolding count
count_joined n xs = omega (arith, count_append n xs (n ∷ []), count_same n [])

without : ℕ → List ℕ → List ℕ
without n [] = []
without n (x ∷ xs) = pick (eqb n x) (without n xs) (x ∷ without n xs)

without_other : (n m : ℕ) (xs : List ℕ) → m ≢ n → count m (without n xs) ≡ count m xs
unfolding without
without_other n m [] away = refl
without_other n m (x ∷ xs) away = at (eqb n x) (equal n x) (without_other n m xs away)
  where
    at : (b : Bool) → Equal b n x → count m (without n xs) ≡ count m xs
        → count m (pick b (without n xs) (x ∷ without n xs)) ≡ count m (x ∷ xs)
    at true e rest = rest ∙ sym (count_other m x xs (λ q. away (q ∙ sym e)))
    at false e rest = by (equal? m x)
      where
        by : (m ≡ x) ⊎ (m ≢ x) → count m (x ∷ without n xs) ≡ count m (x ∷ xs)
        by (inl q) = rw q (omega (arith, count_same x (without n xs), count_same x xs, rw q at rest))
        by (inr d) = omega (arith, count_other m x (without n xs) d, count_other m x xs d, rest)

without_same : (n : ℕ) (xs : List ℕ) → count n (without n xs) ≡ 0
unfolding without
without_same n [] = count_none n
without_same n (x ∷ xs) = at (eqb n x) (equal n x) (without_same n xs)
  where
    at : (b : Bool) → Equal b n x → count n (without n xs) ≡ 0 → count n (pick b (without n xs) (x ∷ without n xs)) ≡ 0
    at true e rest = rest
    at false e rest = count_other n x (without n xs) e ∙ rest

without_length : (n : ℕ) (xs : List ℕ) → length xs ≤ count n xs + length (without n xs)
unfolding without
without_length n [] = omega arith
without_length n (x ∷ xs) = at (eqb n x) (equal n x) (without_length n xs)
  where
    at : (b : Bool) → Equal b n x → length xs ≤ count n xs + length (without n xs)
        → suc (length xs) ≤ count n (x ∷ xs) + length (pick b (without n xs) (x ∷ without n xs))
    at true e rest = rw (← e) (omega (arith, count_same n xs, rest))
    at false e rest = omega (arith, count_other n x xs e, rest)

-- the pigeonhole: numbers from 1 to n, none of them twice, are at most n
pub distinct_within : (n : ℕ) (xs : List ℕ) → ((m : ℕ) → count m xs ≤ 1) → ((m : ℕ) → 0 < count m xs → (0 < m) × (m ≤ n)) → length xs ≤ n
distinct_within zero [] once inside = omega arith
distinct_within zero (x ∷ xs) once inside = absurd (let (a, b) = inside x (omega (arith, count_same x xs)) in omega (arith, a, b))
distinct_within (suc n) xs once inside =
    let rest : length (without (suc n) xs) ≤ n = distinct_within n (without (suc n) xs) (λ m. small m (equal? m (suc n))) (λ m h. smaller m h (equal? m (suc n))) in
    omega (arith, rest, without_length (suc n) xs, once (suc n))
  where
    small : (m : ℕ) → (m ≡ suc n) ⊎ (m ≢ suc n) → count m (without (suc n) xs) ≤ 1
    small m (inl q) = rw q (omega (arith, without_same (suc n) xs))
    small m (inr d) = omega (arith, without_other (suc n) m xs d, once m)

    smaller : (m : ℕ) → 0 < count m (without (suc n) xs) → (m ≡ suc n) ⊎ (m ≢ suc n) → (0 < m) × (m ≤ n)
    smaller m h (inl q) = absurd (omega (arith, without_same (suc n) xs, rw q at h))
    smaller m h (inr d) = let (a, b) = inside m (omega (arith, h, without_other (suc n) m xs d)) in (a, omega (arith, a, b, d))
