-- A dispatcher: it "runs threads in rising number, then from the first again, each for at most q steps a turn" and "ends .. after a round without a step"
-- (document 02, L6). What a world is, what a thread does in it and what a step shows is left open.
use Rattle.std.specs.Prelude.{ℕ, zero, suc, Bool, true, false, List, [], ◌∷◌, ◌++◌}
use Rattle.laws.specs.Choice.{pick}

-- what a thread did when it might take a step
pub record Tried (W E : Type 0) : Type 0 where
  pub world : W
  -- it took a step
  pub stepped : Bool
  -- and its turn may go on
  pub on : Bool
  -- what the step shows
  pub shows : E

-- a step in a run's trace: whose it was, the world after it, and what it showed
pub record Step (W E : Type 0) : Type 0 where
  pub thread : ℕ
  pub after : W
  pub shows : E

-- a part of a run: the world it came to, and its steps in order
pub record Ran (W E : Type 0) : Type 0 where
  pub world : W
  pub steps : List (Step W E)

abbrev pub still : {W E : Type 0} → W → Ran W E
still world = record { world = world; steps = [] }

abbrev pub taken : {W E : Type 0} → ℕ → Tried W E → Step W E
taken thread tried = record { thread = thread; after = tried.world; shows = tried.shows }

abbrev pub with_step : {W E : Type 0} → Step W E → Ran W E → Ran W E
with_step step ran = record { world = ran.world; steps = step ∷ ran.steps }

-- one part, and what follows from the world it came to
abbrev pub followed : {W E : Type 0} → Ran W E → (W → Ran W E) → Ran W E
followed first next = record { world = (next first.world).world; steps = first.steps ++ (next first.world).steps }

abbrev pub none : {W E : Type 0} → List (Step W E) → Bool
none [] = true
none (step ∷ steps) = false

module _ {W E : Type 0} (try : ℕ → W → Tried W E) where
  -- at most `left` steps of one thread
  unfoldable pub turn : ℕ → ℕ → W → Ran W E
  turn zero thread world = still world
  turn (suc left) thread world =
      let tried = try thread world in
      pick tried.stepped
      (with_step (taken thread tried) (pick tried.on (turn left thread tried.world) (still tried.world)))
      (still tried.world)

  -- the turns of `count` threads from `thread` on
  unfoldable pub turns : ℕ → ℕ → ℕ → W → Ran W E
  turns q zero thread world = still world
  turns q (suc count) thread world = followed (turn q thread world) (turns q count (suc thread))

  abbrev pub round : ℕ → ℕ → W → Ran W E
  round q threads world = turns q threads 1 world

  -- rounds until one is without a step, at most `rounds` of them
  unfoldable pub run : ℕ → ℕ → ℕ → W → Ran W E
  run q threads zero world = still world
  run q threads (suc rounds) world =
      let first = round q threads world in
      pick (none first.steps) first (followed first (run q threads rounds))
