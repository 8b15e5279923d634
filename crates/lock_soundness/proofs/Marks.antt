-- What a walk marks: whoever was marked before it, and each thread of the chain that it walks.
use Prim.Native.Nat.{ℕ, zero, suc, ◌-◌, ◌≤◌, ◌<◌}
use mathlib.Core.Path.{◌≡◌, refl, sym, ap, ◌∙◌}
use mathlib.Core.Logic.{◌≢◌, ◌⊎◌, inl, inr}
use mathlib.Core.Bool.{Bool, true, false}
use mathlib.Core.List.{List}
use native.Mathlib.Omega.{arith}
use lib.Dec.{eqb}
use lib.ListN.{length, get_or, set, length-set}
use lib.Seq.{get_or-set_same, get_or-set_other}
use Rattle.laws.specs.Choice.{pick, either}
use Rattle.laws.specs.Count.{count}
use Rattle.laws.proofs.Choice.{false≢true, Equal, equal, either_no, either_yes}
use Rattle.laws.proofs.Facts.{Reads, reads_as, reads_ltb, reads_either}
use Rattle.chains.specs.Chain.{members, chain_test, in_chain}
use Rattle.chains.proofs.Test.{in_chain_count}
use Rattle.lock_soundness.specs.OnePass.{marked}

-- the thread is marked
abbrev pub IsMarked : List Bool → ℕ → Type 0
IsMarked met n = get_or met (n - 1) false ≡ true

-- marks upon marks
pub reads_more : {a b : Bool} {P Q R : Type 0} → Reads a (P ⊎ Q) → Reads b ((a ≡ true) ⊎ R) → Reads b (P ⊎ (Q ⊎ R))
reads_more {a} {b} {P} {Q} {R} first second = record { read = λ e. read (second.read e); make = λ fact. second.make (make fact) }
  where
    either_one : P ⊎ Q → P ⊎ (Q ⊎ R)
    either_one (inl p) = inl p
    either_one (inr q) = inr (inl q)

    read : (a ≡ true) ⊎ R → P ⊎ (Q ⊎ R)
    read (inl e) = either_one (first.read e)
    read (inr r) = inr (inr r)

    make : P ⊎ (Q ⊎ R) → (a ≡ true) ⊎ R
    make (inl p) = inl (first.make (inl p))
    make (inr (inl q)) = inl (first.make (inr q))
    make (inr (inr r)) = inr r

pub reads_right : {a : Bool} {P Q R : Type 0} → Reads a (P ⊎ Q) → (Q → R) → (R → Q) → Reads a (P ⊎ R)
reads_right {a} {P} {Q} {R} known there back = record { read = λ e. map there (known.read e); make = λ fact. known.make (map back fact) }
  where
    map : {X Y : Type 0} → (X → Y) → P ⊎ X → P ⊎ Y
    map f (inl p) = inl p
    map f (inr x) = inr (f x)

-- one turn of the walk, and its end
pub marked_step : {fuel : ℕ} → 0 < fuel → (next : ℕ → ℕ) (ok : ℕ → Bool) (first : ℕ) (met : List Bool)
    → marked fuel next ok first met ≡ pick (eqb first 0) met (pick (ok first) (marked (fuel - 1) next ok (next first) (set met (first - 1) true)) met)
unfolding marked
marked_step {fuel} h next ok first met = let one : fuel ≡ suc (fuel - 1) = omega arith in ap (λ (k : ℕ). marked k next ok first met) one

pub marked_end : {fuel : ℕ} → fuel ≤ 0 → (next : ℕ → ℕ) (ok : ℕ → Bool) (first : ℕ) (met : List Bool) → marked fuel next ok first met ≡ met
unfolding marked
marked_end {fuel} h next ok first met = let none : fuel ≡ 0 = omega arith in ap (λ (k : ℕ). marked k next ok first met) none

module _ (next : ℕ → ℕ) (ok : ℕ → Bool) where
  pub marked_none : (fuel : ℕ) (met : List Bool) → marked fuel next ok 0 met ≡ met
  unfolding marked
  marked_none zero met = refl
  marked_none (suc fuel) met = refl

  pub marked_length : (fuel first : ℕ) (met : List Bool) → length (marked fuel next ok first met) ≡ length met
  unfolding marked
  marked_length zero first met = refl
  marked_length (suc fuel) first met = at (eqb first 0) (ok first) (marked_length fuel (next first) (set met (first - 1) true))
    where
      at : (none good : Bool) → length (marked fuel next ok (next first) (set met (first - 1) true)) ≡ length (set met (first - 1) true)
          → length (pick none met (pick good (marked fuel next ok (next first) (set met (first - 1) true)) met)) ≡ length met
      at true good later = refl
      at false true later = later ∙ length-set met (first - 1) true
      at false false later = refl

  marked_is : (fuel first : ℕ) (met : List Bool) → chain_test fuel next ok first ≡ true → (n : ℕ) → 1 ≤ n → n ≤ length met
      → get_or (marked fuel next ok first met) (n - 1) false ≡ either (get_or met (n - 1) false) (in_chain fuel next n first)
  unfolding marked chain_test in_chain
  marked_is zero first met passes n low high = sym (either_no (get_or met (n - 1) false))
  marked_is (suc fuel) first met passes n low high =
      at (eqb first 0) (equal first 0) (ok first) (eqb first n) (equal first n) passes
      (λ rest. marked_is fuel (next first) (set met (first - 1) true) rest n low (rw (length-set met (first - 1) true) high))
    where
      at : (none : Bool) → Equal none first 0 → (good same : Bool) → Equal same first n
          → pick none true (pick good (chain_test fuel next ok (next first)) false) ≡ true
          → (chain_test fuel next ok (next first) ≡ true
          → get_or (marked fuel next ok (next first) (set met (first - 1) true)) (n - 1) false
          ≡ either (get_or (set met (first - 1) true) (n - 1) false) (in_chain fuel next n (next first)))
          → get_or (pick none met (pick good (marked fuel next ok (next first) (set met (first - 1) true)) met)) (n - 1) false
          ≡ either (get_or met (n - 1) false) (pick none false (pick same true (in_chain fuel next n (next first))))
      at true e good same s passes later = sym (either_no (get_or met (n - 1) false))
      at false e false same s passes later = false≢true passes
      at false e true true s passes later =
          later passes
          ∙ (ap (λ (b : Bool). either b (in_chain fuel next n (next first)))
          (ap (λ (k : ℕ). get_or (set met (k - 1) true) (n - 1) false) s ∙ get_or-set_same met (n - 1) true false (omega (arith, low, high)))
          ∙ sym (either_yes (get_or met (n - 1) false)))
      at false e true false s passes later =
          let apart : n - 1 ≢ first - 1 = λ q. s (omega (arith, q, e, low)) in
          later passes
          ∙ ap (λ (b : Bool). either b (in_chain fuel next n (next first))) (get_or-set_other met (first - 1) (n - 1) true false apart)

  -- after a walk of a chain that passes
  pub reads_marked : (fuel first : ℕ) (met : List Bool) → chain_test fuel next ok first ≡ true → (n : ℕ) → 1 ≤ n → n ≤ length met
      → Reads (get_or (marked fuel next ok first met) (n - 1) false) (IsMarked met n ⊎ (0 < count n (members fuel next first)))
  reads_marked fuel first met passes n low high =
      reads_as (marked_is fuel first met passes n low high)
      (reads_either (record { read = λ e. e; make = λ e. e })
      (reads_as (in_chain_count fuel next n first) (reads_ltb 0 (count n (members fuel next first)))))
