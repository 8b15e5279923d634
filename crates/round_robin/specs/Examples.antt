-- Examples of runs, of a machine of three threads that have so many steps to take and never park: whose step is when, and that the bound of fairness is
-- reached.
use Rattle.std.specs.Prelude.{ℕ, zero, suc, ◌≡◌, Bool, true, false, List, [], ◌∷◌, eqb}
use Rattle.laws.specs.Choice.{pick}
use Rattle.round_robin.specs.Dispatch.{Tried, Step, run}
use Rattle.round_robin.specs.Fair.{Served, Prompt}

-- the steps that each thread has to take
pub record Work : Type 0 where
  pub first : ℕ
  pub second : ℕ
  pub third : ℕ

abbrev pub work : ℕ → ℕ → ℕ → Work
work first second third = record { first = first; second = second; third = third }

abbrev pub with_less : ℕ → (ℕ → Work) → Work → Tried Work ℕ
with_less zero less before = record { world = before; stepped = false; on = false; shows = 0 }
with_less (suc left) less before = record { world = less left; stepped = true; on = true; shows = left }

-- one step less, if there is one
abbrev pub works : ℕ → Work → Tried Work ℕ
works thread w =
    pick (eqb thread 1) (with_less w.first (λ left. work left w.second w.third) w)
    (pick (eqb thread 2) (with_less w.second (λ left. work w.first left w.third) w)
    (with_less w.third (λ left. work w.first w.second left) w))

-- a thread is ready if it has a step to take
abbrev pub some_left : ℕ → Bool
some_left zero = false
some_left (suc left) = true

abbrev pub has_steps : ℕ → Work → Bool
has_steps thread w = pick (eqb thread 1) (some_left w.first) (pick (eqb thread 2) (some_left w.second) (some_left w.third))

abbrev pub whose : List (Step Work ℕ) → List ℕ
whose [] = []
whose (step ∷ steps) = step.thread ∷ whose steps

-- the steps of a run of so many threads, in at most nine rounds
abbrev pub steps_of : ℕ → ℕ → Work → List (Step Work ℕ)
steps_of q threads w = (run works q threads 9 w).steps

pub record Examples : Type 0 where
  -- a turn has at most q steps; a thread without a step does not end the round; then from the first again
  pub order : whose (steps_of 2 3 (work 3 0 1)) ≡ 1 ∷ 1 ∷ 3 ∷ 1 ∷ []
  pub one_each : whose (steps_of 1 3 (work 2 1 2)) ≡ 1 ∷ 2 ∷ 3 ∷ 1 ∷ 3 ∷ []
  -- the last of three threads waits for just (3 − 1) times 2 steps of the others, as fairness says, and no lower number would do
  pub waits : Prompt has_steps 2 3 (work 2 2 1) (steps_of 2 3 (work 2 2 1))
  pub no_less : Served 3 3 (steps_of 2 3 (work 2 2 1)) → ⊥
