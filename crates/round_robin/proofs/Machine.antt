-- What a machine must keep to for its runs to end, and what more for them to be fair: laws of its threads, 1 to `threads`.
use Prim.Native.Nat.{ℕ, ◌≤◌, ◌<◌}
use mathlib.Core.Path.{◌≡◌}
use mathlib.Core.Logic.{◌≢◌}
use mathlib.Core.Bool.{Bool, true, false}
use mathlib.Core.List.{List, [], ◌∷◌, ◌++◌}
use Rattle.round_robin.specs.Dispatch.{Tried, Step, taken}

abbrev pub IsThread : ℕ → ℕ → Type 0
IsThread threads u = (1 ≤ u) × (u ≤ threads)

-- Runs end. For the lock engine: on every sound table.
pub record Ending {W E : Type 0} (threads : ℕ) (try : ℕ → W → Tried W E) (Good : W → Type 0) (size : W → ℕ) : Type 0 where
  -- a good world stays good
  pub good : (u : ℕ) → IsThread threads u → (w : W) → Good w → Good (try u w).world
  -- without a step nothing changes
  pub same : (u : ℕ) → IsThread threads u → (w : W) → Good w → (try u w).stepped ≡ false → (try u w).world ≡ w
  -- a step makes the size fall
  pub falls : (u : ℕ) → IsThread threads u → (w : W) → Good w → (try u w).stepped ≡ true → size (try u w).world < size w

-- And they are fair. For the lock engine: on every table that a schedule reaches from a fresh one.
pub record Fairly {W E : Type 0} (threads : ℕ) (try : ℕ → W → Tried W E) (ready : ℕ → W → Bool) (Good : W → Type 0) : Type 0 where
  -- who is ready can take a step
  pub steps : (u : ℕ) → IsThread threads u → (w : W) → Good w → ready u w ≡ true → (try u w).stepped ≡ true
  -- and stays ready while others step
  pub keeps : (u : ℕ) → IsThread threads u → (t : ℕ) → IsThread threads t → u ≢ t → (w : W) → Good w → ready t w ≡ true → ready t (try u w).world ≡ true

-- What holds of the worlds before and after a part of a run, and of its steps, if it holds of no steps, of parts one behind the other, and of a thread that
-- may take a step.
pub record Along {W E : Type 0} (threads : ℕ) (try : ℕ → W → Tried W E) (P : W → List (Step W E) → W → Type 0) : Type 0 where
  pub nothing : (w : W) → P w [] w
  pub behind : {u v w : W} {xs ys : List (Step W E)} → P u xs v → P v ys w → P u (xs ++ ys) w
  pub step : (u : ℕ) → IsThread threads u → (w : W) → (try u w).stepped ≡ true → P w (taken u (try u w) ∷ []) (try u w).world
  pub no_step : (u : ℕ) → IsThread threads u → (w : W) → (try u w).stepped ≡ false → P w [] (try u w).world
