-- The examples hold: the definitions compute them.
use Prim.Native.Nat.{ℕ, zero, suc, ◌<◌}
use mathlib.Core.Path.{◌≡◌, refl}
use mathlib.Core.Logic.{inl, inr}
use native.Mathlib.Omega.{arith}
use Rattle.laws.proofs.Choice.{either_way}
use Rattle.round_robin.specs.Dispatch.{turn, turns, run}
use Rattle.round_robin.specs.Fair.{Prompt}
use Rattle.round_robin.specs.Examples.{work, has_steps, steps_of, Examples}

not_third : (thread : ℕ) → thread ≡ 3 → thread < 3 → ⊥
not_third thread is less = omega (arith, is, less)

-- the steps are those of 1, 1, 2, 2 and 3
all_wait : Prompt has_steps 2 3 (work 2 2 1) (steps_of 2 3 (work 2 2 1))
unfolding run turns turn
all_wait zero first last ready = absurd (omega (arith, first))
all_wait (suc zero) first last ready = inl refl
all_wait (suc (suc zero)) first last ready = inr (inr (inl refl))
all_wait (suc (suc (suc zero))) first last ready = inr (inr (inr (inr refl)))
all_wait (suc (suc (suc (suc thread)))) first last ready = absurd (omega (arith, last))

pub examples_hold : Examples
unfolding run turns turn
examples_hold =
    record {
      order = refl;
      one_each = refl;
      waits = all_wait;
      no_less = λ served. either_way served (λ e. not_third 1 e (omega arith))
          (λ later. either_way later (λ e. not_third 1 e (omega arith)) (λ later. either_way later (λ e. not_third 2 e (omega arith)) (λ e. not_third 2 e (omega arith))));
    }
