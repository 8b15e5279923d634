-- The laws of sets of threads: who is in the empty set, in the set of one thread, in two sets together, and in a set with a list's threads.
use Prim.Native.Nat.{ℕ, zero, suc, ◌+◌, ◌/◌, ◌%◌, ◌^◌, ◌≤◌, ◌<◌}
use mathlib.Core.Path.{◌≡◌, refl, sym, ap, ◌∙◌}
use mathlib.Core.Logic.{◌≢◌, ◌⊎◌, inl, inr}
use mathlib.Core.Bool.{false}
use mathlib.Core.List.{List, [], ◌∷◌}
use native.Mathlib.Nat.{mod-lt, div-one, one-mul}
use native.Mathlib.Numerals.{sub-one}
use native.Mathlib.Omega.{arith}
use lib.Dec.{eqb, eqb-suc-suc}
use lib.Bits.{bit_or, or_shr, or_mod, shifted_half, shifted_even}
use lib.Pow.{shr-shr, shr_le}
use borrow.Author.Tests.{eq-eqb, ne_eqb, le-ltb}
use Rattle.laws.specs.{Choice.either, Count.count}
use Rattle.laws.proofs.Choice.{equal?, either_no, either_yes}
use Rattle.laws.proofs.Count.{count_none, count_same, count_other, count_more}
use Rattle.lock_rules.specs.PlainMonitor.{above_zero}
use Rattle.lock_table.specs.Limits.{thread_limit}
use Rattle.lock_perform.specs.ThreadSet.{thread_set, has_thread}

-- the empty set
bit_none : (k : ℕ) → 0 / 2 ^ k ≡ 0
bit_none k = omega (arith, shr_le 0 k)

pub has_none : (n : ℕ) → has_thread 0 n ≡ false
unfolding has_thread
has_none zero = refl
has_none (suc n) = ap (λ (x : ℕ). eqb (x % 2) 1) (bit_none n)

-- one thread: halved, the set and the place of its bit go down together
half_first : (a j : ℕ) → a / 2 ^ suc j ≡ a / 2 / 2 ^ j
half_first a j = let shift : suc j ≡ 1 + j = omega arith in ap (λ (x : ℕ). a / 2 ^ x) shift ∙ sym (shr-shr a 1 j)

half_power : (k : ℕ) → 2 ^ suc k / 2 ≡ 2 ^ k
half_power k = ap (λ (x : ℕ). x / 2) (sym (one-mul (2 ^ suc k))) ∙ (shifted_half 1 k ∙ one-mul (2 ^ k))

even_power : (k : ℕ) → 2 ^ suc k % 2 ≡ 0
even_power k = ap (λ (x : ℕ). x % 2) (sym (one-mul (2 ^ suc k))) ∙ shifted_even 1 k

one_bit : (k j : ℕ) → eqb (2 ^ k / 2 ^ j % 2) 1 ≡ eqb (suc j) (suc k)
one_bit zero zero = refl
one_bit zero (suc j) = ap (λ (x : ℕ). eqb (x % 2) 1) (half_first 1 j ∙ bit_none j) ∙ sym (ne_eqb (suc (suc j)) 1 (λ e. omega (arith, e)))
one_bit (suc k) zero =
    ap (λ (x : ℕ). eqb (x % 2) 1) (div-one (2 ^ suc k)) ∙ (ap (λ (x : ℕ). eqb x 1) (even_power k) ∙ sym (ne_eqb 1 (suc (suc k)) (λ e. omega (arith, e))))
one_bit (suc k) (suc j) =
    ap (λ (x : ℕ). eqb (x % 2) 1) (half_first (2 ^ suc k) j ∙ ap (λ (x : ℕ). x / 2 ^ j) (half_power k)) ∙ (one_bit k j ∙ sym (eqb-suc-suc (suc j) (suc k)))

pub has_one : (thread n : ℕ) → 0 < thread → thread ≤ thread_limit → has_thread (thread_set thread) n ≡ eqb n thread
unfolding thread_set has_thread
has_one zero n low high = absurd (omega (arith, low))
has_one (suc k) zero low high = sym (ne_eqb 0 (suc k) (λ e. omega (arith, e)))
has_one (suc k) (suc j) low high = rw (ne_eqb (suc k) 0 (λ e. omega (arith, e)), le-ltb thread_limit (suc k) high, sub-one) (one_bit k j)

-- nobody is thread 0
pub nobody_set : thread_set 0 ≡ 0
unfolding thread_set
nobody_set = refl

-- two sets together
bits_together : (p q : ℕ) → p < 2 → q < 2 → eqb (bit_or p q) 1 ≡ either (eqb p 1) (eqb q 1)
bits_together zero q low high = refl
bits_together (suc zero) zero low high = refl
bits_together (suc zero) (suc zero) low high = refl
bits_together (suc zero) (suc (suc q)) low high = absurd (omega (arith, high))
bits_together (suc (suc p)) q low high = absurd (omega (arith, low))

pub has_either : (a b n : ℕ) → has_thread (bit_or a b) n ≡ either (has_thread a n) (has_thread b n)
unfolding has_thread
has_either a b zero = refl
has_either a b (suc n) =
    let x = a / 2 ^ n in
    let y = b / 2 ^ n in
    ap (λ (z : ℕ). eqb (z % 2) 1) (or_shr a b n) ∙ ap (λ (z : ℕ). eqb z 1) (or_mod x y 1)
    ∙ bits_together (x % 2) (y % 2) (mod-lt x (omega arith)) (mod-lt y (omega arith))

-- a set with the threads of a list, one after the other
abbrev pub set_with : ℕ → List ℕ → ℕ
set_with set [] = set
set_with set (thread ∷ rest) = set_with (bit_or set (thread_set thread)) rest

pub has_with : (list : List ℕ) → ((n : ℕ) → 0 < count n list → (0 < n) × (n ≤ thread_limit)) → (set n : ℕ)
    → has_thread (set_with set list) n ≡ either (has_thread set n) (above_zero (count n list))
has_with [] inside set n = rw (count_none n) (sym (either_no (has_thread set n)))
has_with (x ∷ rest) inside set n =
    let (low, high) = inside x (omega (arith, count_same x rest)) in
    has_with rest (λ m h. inside m (omega (arith, h, count_more m x rest))) (bit_or set (thread_set x)) n
    ∙ (rw (has_either set (thread_set x) n, has_one x n low high) (at (equal? n x)))
  where
    at : (n ≡ x) ⊎ (n ≢ x)
        → either (either (has_thread set n) (eqb n x)) (above_zero (count n rest)) ≡ either (has_thread set n) (above_zero (count n (x ∷ rest)))
    at (inl e) = rw (e, eq-eqb x x refl, count_same x rest) (rw (either_yes (has_thread set x)) refl)
    at (inr away) = rw (ne_eqb n x away, count_other n x rest away, either_no (has_thread set n)) refl
