-- Where the loop is says what is left of the run, and what it still takes at most.
use Prim.Native.Nat.{ℕ, zero, suc, ◌-◌, ◌≤◌, ◌<◌}
use mathlib.Core.Path.{◌≡◌, refl, sym, ap, ◌∙◌}
use mathlib.Core.Bool.{Bool, true, false}
use native.Mathlib.Omega.{arith}
use native.Mathlib.Numerals.{add-one}
use lib.Dec.{ltb}
use Rattle.laws.specs.Choice.{pick, both, either}
use Rattle.laws.proofs.Choice.{by_test, by_below, either_yes, either_no}
use Rattle.round_robin.specs.Dispatch.{Tried, Ran, still, taken, with_step, run}
use Rattle.round_robin.proofs.Positions.{turn_left, left_from, took_and_on, took_and_ended, took_none, spent, first_turn, next_turn, next_round, no_more_rounds, no_step_taken}
use Rattle.dispatch_core.specs.Position.{over, turn_of, after_turn, next_position}
use Rattle.dispatch_core.specs.declared.position.Position.{Position}

module _ {W E : Type 0} (try : ℕ → W → Tried W E) (q threads : ℕ) where
  -- where a turn may take no step the run is over
  abbrev resumed : ℕ → ℕ → Bool → ℕ → W → Ran W E
  resumed thread zero stepped rounds world = still world
  resumed thread (suc left) stepped rounds world = left_from try q threads thread (suc left) stepped rounds world

  abbrev pub left_at : Position → W → Ran W E
  left_at position world = resumed position.thread position.left position.stepped position.rounds world

  pub left_over : (position : Position) (world : W) → position.left ≤ 0 → left_at position world ≡ still world
  left_over position world none =
      let zero_left : position.left ≡ 0 = omega (arith, none) in
      ap (λ (left : ℕ). resumed position.thread left position.stepped position.rounds world) zero_left

  resumed_is : (thread left : ℕ) (stepped : Bool) (rounds : ℕ) (world : W) → 0 < left → resumed thread left stepped rounds world ≡ left_from try q threads thread left stepped rounds world
  resumed_is thread zero stepped rounds world some = absurd (omega (arith, some))
  resumed_is thread (suc left) stepped rounds world some = refl

  -- a run begins with the first thread's turn
  pub left_first : 1 ≤ q → 1 ≤ threads → (rounds : ℕ) (world : W) → run try q threads (suc rounds) world ≡ left_at (turn_of 1 q false rounds) world
  left_first some_steps some_threads rounds world =
      first_turn try q threads rounds world some_threads ∙ sym (resumed_is 1 q false rounds world some_steps)

module _ {W E : Type 0} (try : ℕ → W → Tried W E) (q threads : ℕ) (some_steps : 1 ≤ q) (some_threads : 1 ≤ threads) where
  -- a thread's turn is over
  module _ (thread rounds : ℕ) (world : W) where
    last_over : (stepped : Bool) → threads ≤ thread
        → turn_left try q threads thread stepped rounds world ≡ left_at try q threads (pick stepped (pick (ltb 0 rounds) (turn_of 1 q false (rounds - 1)) over) over) world
    last_over true last =
        by_below (λ (position : Position). turn_left try q threads thread true rounds world ≡ left_at try q threads position world) 0 rounds
        (λ more. let one : rounds ≡ suc (rounds - 1) = omega (arith, more) in
        ap (λ (r : ℕ). turn_left try q threads thread true r world) one ∙ next_round try q threads thread (rounds - 1) world some_threads last
        ∙ sym (resumed_is try q threads 1 q false (rounds - 1) world some_steps))
        (λ none. let no : rounds ≡ 0 = omega (arith, none) in
        ap (λ (r : ℕ). turn_left try q threads thread true r world) no ∙ no_more_rounds try q threads thread world last)
    last_over false last = no_step_taken try q threads thread rounds world last

    turn_over : (stepped : Bool) → turn_left try q threads thread stepped rounds world ≡ left_at try q threads (after_turn threads q thread stepped rounds) world
    unfolding after_turn
    turn_over stepped =
        by_below (λ (position : Position). turn_left try q threads thread stepped rounds world ≡ left_at try q threads position world) thread threads
        (λ more. next_turn try q threads thread stepped rounds world more ∙ sym (resumed_is try q threads (suc thread) q stepped rounds world some_steps)
        ∙ ap (λ (n : ℕ). left_at try q threads (turn_of n q stepped rounds) world) (sym (add-one thread)))
        (λ last. last_over stepped last)

  -- a thread might take a step
  module _ (position : Position) (some : 0 < position.left) (world : W) where
    abbrev thread : ℕ
    thread = position.thread

    abbrev next : W
    next = (try thread world).world

    abbrev went : Bool → Bool → Position
    went took on = next_position threads q position took on

    before : left_at try q threads position world ≡ left_from try q threads thread (suc (position.left - 1)) position.stepped position.rounds world
    before =
        let one : position.left ≡ suc (position.left - 1) = omega (arith, some) in
        ap (λ (left : ℕ). resumed try q threads thread left position.stepped position.rounds world) one

    -- what is left from there on, with the step in front if there was one
    abbrev LeftSo : Bool → Bool → Type 0
    LeftSo took on =
        left_at try q threads position world ≡ pick took (with_step (taken thread (try thread world)) (left_at try q threads (went took on) next)) (left_at try q threads (went took on) next)

    by_answers : (took on : Bool) → (try thread world).stepped ≡ took → (try thread world).on ≡ on → LeftSo took on
    unfolding next_position
    by_answers true true is on =
        before ∙ took_and_on try q threads thread (position.left - 1) position.stepped position.rounds world is on
        ∙ ap (with_step (taken thread (try thread world))) (by_below
        (λ (p : Position). left_from try q threads thread (position.left - 1) true position.rounds next ≡ left_at try q threads p next) 1 position.left
        (λ more. ap (λ (b : Bool). left_from try q threads thread (position.left - 1) b position.rounds next) (sym (either_yes position.stepped))
        ∙ sym (resumed_is try q threads thread (position.left - 1) (either position.stepped true) position.rounds next (omega (arith, more))))
        (λ last. let none : position.left - 1 ≡ 0 = omega (arith, last) in
        ap (λ (left : ℕ). left_from try q threads thread left true position.rounds next) none ∙ spent try q threads thread true position.rounds next
        ∙ turn_over thread position.rounds next true
        ∙ ap (λ (b : Bool). left_at try q threads (after_turn threads q thread b position.rounds) next) (sym (either_yes position.stepped))))
    by_answers true false is on =
        before ∙ took_and_ended try q threads thread (position.left - 1) position.stepped position.rounds world is on
        ∙ ap (with_step (taken thread (try thread world))) (turn_over thread position.rounds next true
        ∙ ap (λ (b : Bool). left_at try q threads (after_turn threads q thread b position.rounds) next) (sym (either_yes position.stepped)))
    by_answers false on is known =
        before ∙ took_none try q threads thread (position.left - 1) position.stepped position.rounds world is
        ∙ turn_over thread position.rounds next position.stepped
        ∙ ap (λ (b : Bool). left_at try q threads (after_turn threads q thread b position.rounds) next) (sym (either_no position.stepped))

    pub left_next : LeftSo (try thread world).stepped (try thread world).on
    left_next = by_answers (try thread world).stepped (try thread world).on refl refl

-- every position on the way is one of a thread
abbrev Inside : ℕ → Position → Type 0
Inside threads position = (1 ≤ position.thread) × (position.thread ≤ threads)

turned_inside : (threads q thread : ℕ) (stepped : Bool) (rounds : ℕ) → 1 ≤ threads → Inside threads (after_turn threads q thread stepped rounds)
unfolding after_turn
turned_inside threads q thread stepped rounds some =
    by_below (Inside threads) thread threads (λ more. (omega arith, omega (arith, more)))
    (λ last. by_test (Inside threads) stepped (λ some_step. by_test (Inside threads) (ltb 0 rounds) (λ more. (omega arith, some)) (λ none. (omega arith, some)))
    (λ none. (omega arith, some)))

pub next_inside : (threads q : ℕ) → 1 ≤ threads → (position : Position) (took on : Bool) → 1 ≤ position.thread → position.thread ≤ threads
    → Inside threads (next_position threads q position took on)
unfolding next_position
next_inside threads q some position took on low high =
    by_test (Inside threads) (both took on)
    (λ goes. by_below (Inside threads) 1 position.left (λ more. (low, high)) (λ last. turned)) (λ ended. turned)
  where
    turned : Inside threads (after_turn threads q position.thread (either position.stepped took) position.rounds)
    turned = turned_inside threads q position.thread (either position.stepped took) position.rounds some
