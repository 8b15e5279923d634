-- What holds along every turn, round and run.
use Prim.Native.Nat.{ℕ, zero, suc, ◌+◌, ◌≤◌}
use mathlib.Core.Path.{◌≡◌, refl}
use mathlib.Core.Bool.{Bool, true, false}
use native.Mathlib.Omega.{arith}
use mathlib.Core.List.{List}
use Rattle.laws.specs.Choice.{pick}
use Rattle.round_robin.specs.Dispatch.{Tried, Step, Ran, still, taken, with_step, followed, none, turn, turns, round, run}
use Rattle.round_robin.proofs.Machine.{IsThread, Along}

module _ {W E : Type 0} {threads : ℕ} {try : ℕ → W → Tried W E} {P : W → List (Step W E) → W → Type 0} (along : Along threads try P) (q : ℕ) where
  abbrev Holds : W → Ran W E → Type 0
  Holds w ran = P w ran.steps ran.world

  -- a thread may take a step, and a rest of its turn follows
  one_along : (u : ℕ) → IsThread threads u → (w : W) (rest : Ran W E) → let tried = try u w in Holds tried.world rest
      → Holds w (pick tried.stepped (with_step (taken u tried) (pick tried.on rest (still tried.world))) (still tried.world))
  one_along u is w rest known = at (try u w).stepped refl (goes_on (try u w).on)
    where
      next : W
      next = (try u w).world

      goes_on : (on : Bool) → Holds next (pick on rest (still next))
      goes_on true = known
      goes_on false = along.nothing next

      at : (b : Bool) → (try u w).stepped ≡ b → Holds next (pick (try u w).on rest (still next))
          → Holds w (pick b (with_step (taken u (try u w)) (pick (try u w).on rest (still next))) (still next))
      at true took later = along.behind (along.step u is w took) later
      at false none later = along.no_step u is w none

  pub turn_along : (left u : ℕ) → IsThread threads u → (w : W) → Holds w (turn try left u w)
  unfolding turn
  turn_along zero u is w = along.nothing w
  turn_along (suc left) u is w = one_along u is w (turn try left u (try u w).world) (turn_along left u is (try u w).world)

  pub turns_along : (count u : ℕ) → 1 ≤ u → u + count ≤ suc threads → (w : W) → Holds w (turns try q count u w)
  unfolding turns
  turns_along zero u low high w = along.nothing w
  turns_along (suc count) u low high w =
      along.behind (turn_along q u (low, omega (arith, high)) w)
      (turns_along count (suc u) (omega arith) (omega (arith, high)) (turn try q u w).world)

  pub round_along : (w : W) → Holds w (round try q threads w)
  round_along w = turns_along threads 1 (omega arith) (omega arith) w

  pub run_along : (rounds : ℕ) (w : W) → Holds w (run try q threads rounds w)
  unfolding run
  run_along zero w = along.nothing w
  run_along (suc rounds) w = at (none (round try q threads w).steps) (run_along rounds (round try q threads w).world)
    where
      at : (b : Bool) → Holds (round try q threads w).world (run try q threads rounds (round try q threads w).world)
          → Holds w (pick b (round try q threads w) (followed (round try q threads w) (run try q threads rounds)))
      at true later = round_along w
      at false later = along.behind (round_along w) later
