-- A run as one loop takes it, from the middle of a turn on: what is left to run after a thread might take a step.
use Prim.Native.Nat.{ℕ, suc, ◌-◌, ◌≤◌, ◌<◌}
use mathlib.Core.Path.{◌≡◌, refl, ap, ◌∙◌}
use mathlib.Core.Bool.{Bool, true, false, not}
use native.Mathlib.Omega.{arith}
use Rattle.laws.specs.Choice.{pick, either}
use Rattle.laws.proofs.Choice.{either_no}
use Rattle.round_robin.specs.Dispatch.{Tried, Step, Ran, still, taken, with_step, followed, none, turn, turns, round, run}

module _ {W E : Type 0} (try : ℕ → W → Tried W E) (q threads : ℕ) where
  -- a part that ends a round, and the rounds behind it, if the round has a step
  abbrev round_left : Bool → ℕ → Ran W E → Ran W E
  round_left stepped rounds part = pick (either stepped (not (none part.steps))) (followed part (run try q threads rounds)) part

  -- what is left when a thread's turn is over
  abbrev pub turn_left : ℕ → Bool → ℕ → W → Ran W E
  turn_left thread stepped rounds world = round_left stepped rounds (turns try q (threads - thread) (suc thread) world)

  -- what is left when a thread may take `left` steps more
  abbrev pub left_from : ℕ → ℕ → Bool → ℕ → W → Ran W E
  left_from thread left stepped rounds world = round_left stepped rounds (followed (turn try left thread world) (turns try q (threads - thread) (suc thread)))

  -- a step that the rest of a round begins with
  with_one : (stepped : Bool) (rounds : ℕ) (step : Step W E) (part : Ran W E) → round_left stepped rounds (with_step step part) ≡ with_step step (round_left true rounds part)
  with_one true rounds step part = refl
  with_one false rounds step part = refl

  module _ (thread rest : ℕ) (stepped : Bool) (rounds : ℕ) (world : W) where
    abbrev next : W
    next = (try thread world).world

    -- it took a step, and its turn goes on
    pub took_and_on : (try thread world).stepped ≡ true → (try thread world).on ≡ true
        → left_from thread (suc rest) stepped rounds world ≡ with_step (taken thread (try thread world)) (left_from thread rest true rounds next)
    unfolding turn
    took_and_on took on =
        rw (took, on) (with_one stepped rounds (taken thread (try thread world)) (followed (turn try rest thread next) (turns try q (threads - thread) (suc thread))))

    -- it took a step that ended its turn
    pub took_and_ended : (try thread world).stepped ≡ true → (try thread world).on ≡ false
        → left_from thread (suc rest) stepped rounds world ≡ with_step (taken thread (try thread world)) (turn_left thread true rounds next)
    unfolding turn
    took_and_ended took off = rw (took, off) (with_one stepped rounds (taken thread (try thread world)) (turns try q (threads - thread) (suc thread) next))

    -- it took none
    pub took_none : (try thread world).stepped ≡ false → left_from thread (suc rest) stepped rounds world ≡ turn_left thread stepped rounds next
    unfolding turn
    took_none none = rw none refl

  -- no steps are left to its turn
  pub spent : (thread : ℕ) (stepped : Bool) (rounds : ℕ) (world : W) → left_from thread 0 stepped rounds world ≡ turn_left thread stepped rounds world
  unfolding turn
  spent thread stepped rounds world = refl

  -- the next thread's turn
  pub next_turn : (thread : ℕ) (stepped : Bool) (rounds : ℕ) (world : W) → thread < threads
      → turn_left thread stepped rounds world ≡ left_from (suc thread) q stepped rounds world
  unfolding turns
  next_turn thread stepped rounds world more =
      let fewer : threads - thread ≡ suc (threads - suc thread) = omega (arith, more) in
      ap (λ (count : ℕ). round_left stepped rounds (turns try q count (suc thread) world)) fewer

  -- a round and those behind it
  by_round : (rounds : ℕ) (part : Ran W E) (quiet : Bool) → none part.steps ≡ quiet
      → pick quiet part (followed part (run try q threads rounds)) ≡ round_left false rounds part
  by_round rounds part true is = rw is refl
  by_round rounds part false is = rw is refl

  pub first_turn : (rounds : ℕ) (world : W) → 1 ≤ threads → run try q threads (suc rounds) world ≡ left_from 1 q false rounds world
  unfolding run turns
  first_turn rounds world some =
      let more : threads ≡ suc (threads - 1) = omega (arith, some) in
      by_round rounds (round try q threads world) (none (round try q threads world).steps) refl
      ∙ ap (λ (count : ℕ). round_left false rounds (turns try q count 1 world)) more

  -- the last thread's turn is over
  last_turn : (thread : ℕ) (stepped : Bool) (rounds : ℕ) (world : W) → threads ≤ thread
      → turn_left thread stepped rounds world ≡ pick stepped (run try q threads rounds world) (still world)
  unfolding turns
  last_turn thread stepped rounds world last =
      let none_left : threads - thread ≡ 0 = omega (arith, last) in
      ap (λ (count : ℕ). round_left stepped rounds (turns try q count (suc thread) world)) none_left
      ∙ ap (λ (b : Bool). pick b (run try q threads rounds world) (still world)) (either_no stepped)

  pub next_round : (thread rounds : ℕ) (world : W) → 1 ≤ threads → threads ≤ thread → turn_left thread true (suc rounds) world ≡ left_from 1 q false rounds world
  next_round thread rounds world some last = last_turn thread true (suc rounds) world last ∙ first_turn rounds world some

  pub no_more_rounds : (thread : ℕ) (world : W) → threads ≤ thread → turn_left thread true 0 world ≡ still world
  unfolding run
  no_more_rounds thread world last = last_turn thread true 0 world last

  pub no_step_taken : (thread rounds : ℕ) (world : W) → threads ≤ thread → turn_left thread false rounds world ≡ still world
  no_step_taken thread rounds world last = last_turn thread false rounds world last
