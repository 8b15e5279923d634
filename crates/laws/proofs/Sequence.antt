-- Lists given place by place: one turn of the loop that computes them, and what stands at each place.
use Prim.Native.Nat.{ℕ, zero, suc, ◌+◌, ◌≤◌, ◌<◌}
use mathlib.Core.Path.{◌≡◌, refl, ap, sym, ◌∙◌}
use mathlib.Core.Logic.{◌≢◌}
use mathlib.Core.List.{List}
use native.Mathlib.Omega.{arith}
use native.Mathlib.Numerals.{add-one}
use native.Mathlib.Nat.{not-suc-le-zero, le_of_suc-le-suc, zero-add}
use lib.Dec.{eqb}
use lib.ListN.{length, get_or, set, length-set}
use lib.Seq.{get_or-set_same, get_or-set_other, ext_get_or}
use borrow.Author.Tests.{eqb-true, eqb-false}
use Rattle.laws.proofs.Choice.{split}
use Rattle.laws.specs.Sequence.{tabulate, patched}

module _ {A : Type 0} where
  pub tabulate_length : (n : ℕ) (f : ℕ → A) → length (tabulate n f) ≡ n
  unfolding tabulate
  tabulate_length zero f = refl
  tabulate_length (suc n) f = ap suc (tabulate_length n (λ (i : ℕ). f (suc i)))

  pub tabulate_at : (n : ℕ) (f : ℕ → A) (none : A) (i : ℕ) → i < n → get_or (tabulate n f) i none ≡ f i
  unfolding tabulate
  tabulate_at zero f none i low = absurd (not-suc-le-zero low)
  tabulate_at (suc n) f none zero low = refl
  tabulate_at (suc n) f none (suc i) low = tabulate_at n (λ (k : ℕ). f (suc k)) none i (le_of_suc-le-suc low)

  -- what holds of each, and of the one that stands for those past the end, holds wherever the list is read
  pub tabulate_every : (n : ℕ) (f : ℕ → A) (Fact : A → Type 0) → ((i : ℕ) → Fact (f i)) → (none : A) → Fact none → (i : ℕ) → Fact (get_or (tabulate n f) i none)
  unfolding tabulate
  tabulate_every zero f Fact holds none past i = past
  tabulate_every (suc n) f Fact holds none past zero = holds zero
  tabulate_every (suc n) f Fact holds none past (suc i) = tabulate_every n (λ (k : ℕ). f (suc k)) Fact (λ k. holds (suc k)) none past i

  -- a list is given by what stands at its places
  pub tabulate_all : (n : ℕ) (f : ℕ → A) (none : A) (list : List A) → length list ≡ n → ((i : ℕ) → i < n → get_or list i none ≡ f i)
      → list ≡ tabulate n f
  tabulate_all n f none list long each =
      ext_get_or none list (tabulate n f) (long ∙ sym (tabulate_length n f))
      (λ i low. let inside : i < n = omega (arith, long, low) in each i inside ∙ sym (tabulate_at n f none i inside))

  module _ (start : ℕ) (f : ℕ → A) (list : List A) where
    pub patched_none : list ≡ patched start 0 f list
    unfolding patched
    patched_none = refl

    -- a turn of the loop
    pub patched_next : (n : ℕ) → set (patched start n f list) (start + n) (f n) ≡ patched start (n + 1) f list
    unfolding patched
    patched_next n = rw (add-one n) refl

    pub patched_length : (n : ℕ) → length (patched start n f list) ≡ length list
    unfolding patched
    patched_length zero = refl
    patched_length (suc n) = length-set (patched start n f list) (start + n) (f n) ∙ patched_length n

    -- before the patch, and behind it
    pub patched_outside : (none : A) (i n : ℕ) → ((k : ℕ) → k < n → i ≢ start + k) → get_or (patched start n f list) i none ≡ get_or list i none
    unfolding patched
    patched_outside none i zero away = refl
    patched_outside none i (suc n) away =
        get_or-set_other (patched start n f list) (start + n) i (f n) none (away n (omega arith))
        ∙ patched_outside none i n (λ k low. away k (omega arith))

    pub patched_inside : (none : A) (i n : ℕ) → i < n → start + n ≤ length list → get_or (patched start n f list) (start + i) none ≡ f i
    unfolding patched
    patched_inside none i zero low room = absurd (not-suc-le-zero low)
    patched_inside none i (suc n) low room =
        split (eqb i n)
        (λ same. let last : i ≡ n = eqb-true i n same in
        rw last (get_or-set_same (patched start n f list) (start + n) (f n) none (omega (arith, room, patched_length n))))
        (λ other. let earlier : i ≢ n = eqb-false i n other in
        get_or-set_other (patched start n f list) (start + n) (start + i) (f n) none (λ e. earlier (omega (arith, e)))
        ∙ patched_inside none i n (omega (arith, low, earlier)) (omega (arith, room)))

  -- all places given, whatever stood there
  pub patched_all : (n : ℕ) (f : ℕ → A) (none : A) (list : List A) → length list ≡ n → patched 0 n f list ≡ tabulate n f
  patched_all n f none list long =
      tabulate_all n f none (patched 0 n f list) (patched_length 0 f list n ∙ long)
      (λ i low. ap (λ (k : ℕ). get_or (patched 0 n f list) k none) (sym (zero-add i)) ∙ patched_inside 0 f list none i n low (omega (arith, long)))

  pub patched_next_front : (f : ℕ → A) (list : List A) (n : ℕ) → set (patched 0 n f list) n (f n) ≡ patched 0 (n + 1) f list
  patched_next_front f list n = ap (λ (k : ℕ). set (patched 0 n f list) k (f n)) (sym (zero-add n)) ∙ patched_next 0 f list n
