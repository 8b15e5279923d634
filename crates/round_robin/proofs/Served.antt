-- Laws of being served, and how many turns a thread waits.
use Prim.Native.Nat.{ℕ, zero, suc, ◌+◌, ◌*◌, ◌-◌, ◌≤◌, ◌<◌}
use mathlib.Core.Path.{◌≡◌, sym, ◌∙◌, ap, subst}
use mathlib.Core.Logic.{◌≢◌, inl, inr}
use mathlib.Core.Bool.{Bool}
use mathlib.Core.List.{List, [], ◌∷◌}
use native.Mathlib.Omega.{arith}
use native.Mathlib.Nat.{mul-le-mul_right, suc-mul}
use lib.Dec.{leb}
use borrow.Author.Tests.{le-leb, lt-leb}
use Rattle.laws.specs.Choice.{pick}
use Rattle.laws.proofs.Choice.{split}
use borrow.Author.Tests.{leb-true, leb-false}
use Rattle.round_robin.specs.Dispatch.{Step}
use Rattle.round_robin.specs.Fair.{Served}

module _ {W E : Type 0} where
  pub served_at_once : (t n : ℕ) (step : Step W E) (steps : List (Step W E)) → step.thread ≡ t → Served t n (step ∷ steps)
  served_at_once t zero step steps own = own
  served_at_once t (suc n) step steps own = inl own

  pub served_more : (t n m : ℕ) (steps : List (Step W E)) → n ≤ m → Served t n steps → Served t m steps
  served_more t n m [] more known = absurd known
  served_more t zero m (step ∷ steps) more known = served_at_once t m step steps known
  served_more t (suc n) zero (step ∷ steps) more known = absurd (omega (arith, more))
  served_more t (suc n) (suc m) (step ∷ steps) more (inl own) = inl own
  served_more t (suc n) (suc m) (step ∷ steps) more (inr known) = inr (served_more t n m steps (omega (arith, more)) known)

-- how many turns of others lie between the start of u's turn and t's next one; u goes up to one past the last thread
abbrev pub gap : ℕ → ℕ → ℕ → ℕ
gap threads u t = pick (leb u t) (t - u) (threads + t - u)

gap_above : (threads u t : ℕ) → u ≤ t → gap threads u t ≡ t - u
gap_above threads u t above = ap (λ (b : Bool). pick b (t - u) (threads + t - u)) (le-leb u t above)

gap_below : (threads u t : ℕ) → t < u → gap threads u t ≡ threads + t - u
gap_below threads u t below = ap (λ (b : Bool). pick b (t - u) (threads + t - u)) (lt-leb u t below)

-- a turn of another brings t's one nearer
pub gap_next : (threads u t : ℕ) → u ≢ t → 1 ≤ t → t ≤ threads → u ≤ threads → gap threads u t ≡ suc (gap threads (suc u) t)
gap_next threads u t away low inside within =
    split (leb u t)
    (λ e. let above : u ≤ t = leb-true u t e in let far : suc u ≤ t = omega (arith, above, away) in
    gap_above threads u t above ∙ (let one : t - u ≡ suc (t - suc u) = omega (arith, far) in one) ∙ ap suc (sym (gap_above threads (suc u) t far)))
    (λ e. let below : t < u = leb-false u t e in
    gap_below threads u t below ∙ (let one : threads + t - u ≡ suc (threads + t - suc u) = omega (arith, below, within, low) in one) ∙ ap suc (sym (gap_below threads (suc u) t (omega (arith, below)))))

-- at most all the other threads' turns
pub gap_most : (threads u t : ℕ) → 1 ≤ u → u ≤ suc threads → 1 ≤ t → t ≤ threads → gap threads u t ≤ threads - 1
gap_most threads u t one past low inside =
    split (leb u t)
    (λ e. let above : u ≤ t = leb-true u t e in subst (λ (n : ℕ). n ≤ threads - 1) (sym (gap_above threads u t above)) (omega (arith, above, inside, one)))
    (λ e. let below : t < u = leb-false u t e in subst (λ (n : ℕ). n ≤ threads - 1) (sym (gap_below threads u t below)) (omega (arith, below, past, low)))

-- past the last thread comes the first
pub gap_again : (threads t : ℕ) → 1 ≤ t → t ≤ threads → gap threads 1 t ≡ gap threads (suc threads) t
gap_again threads t low inside =
    gap_above threads 1 t low ∙ (let one : t - 1 ≡ threads + t - suc threads = omega (arith, low, inside) in one) ∙ sym (gap_below threads (suc threads) t (omega (arith, inside)))

pub turns_fit : (k q g n : ℕ) → k ≤ q → suc g ≤ n → k + g * q ≤ n * q
turns_fit k q g n few less =
    let most : suc g * q ≤ n * q = mul-le-mul_right q less in
    let one : suc g * q ≡ g * q + q = suc-mul g q in
    omega (arith, few, most, one)
