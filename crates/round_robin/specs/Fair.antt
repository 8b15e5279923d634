-- Fairness of a run, over its trace.
use Rattle.std.specs.Prelude.{ℕ, zero, suc, ◌*◌, ◌-◌, ◌≤◌, ◌≡◌, ◌⊎◌, Bool, true, List, [], ◌∷◌}
use Rattle.round_robin.specs.Dispatch.{Step}

-- the thread takes a step in the trace, and the others take at most `others` before it
abbrev pub Served : {W E : Type 0} → ℕ → ℕ → List (Step W E) → Type 0
Served thread others [] = ⊥
Served thread zero (step ∷ steps) = step.thread ≡ thread
Served thread (suc others) (step ∷ steps) = (step.thread ≡ thread) ⊎ Served thread others steps

-- "(T − 1) times q"
abbrev pub most_before : ℕ → ℕ → ℕ
most_before threads q = (threads - 1) * q

module _ {W E : Type 0} (ready : ℕ → W → Bool) (q threads : ℕ) where
  -- each thread that is ready in this world is served by these steps "before the others have taken more than (T − 1) times q"
  abbrev pub Prompt : W → List (Step W E) → Type 0
  Prompt world steps = (thread : ℕ) → 1 ≤ thread → thread ≤ threads → ready thread world ≡ true → Served thread (most_before threads q) steps

  -- That holds at the start and after every step. Since nobody is served by no steps, it says of the end that nobody is ready there.
  abbrev pub Fair : W → List (Step W E) → Type 0
  Fair world [] = Prompt world []
  Fair world (step ∷ steps) = Prompt world (step ∷ steps) × Fair step.after steps
