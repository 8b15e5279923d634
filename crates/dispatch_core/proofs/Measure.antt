-- How often the loop goes round at most from a position, which no step or turn makes more.
use Prim.Native.Nat.{ℕ, zero, suc, ◌+◌, ◌-◌, ◌*◌, ◌≤◌, ◌<◌}
use mathlib.Core.Path.{◌≡◌, ap}
use mathlib.Core.Bool.{Bool, false}
use native.Mathlib.Omega.{arith}
use native.Mathlib.Nat.{mul-le-mul, suc-mul}
use Rattle.laws.specs.Choice.{both, either}
use Rattle.laws.proofs.Choice.{by_below, by_test}
use Rattle.dispatch_core.specs.Position.{round_room, turn_of, after_turn, next_position}
use Rattle.dispatch_core.specs.declared.position.Position.{Position}

-- so often at most, in any run
abbrev pub loop_room : ℕ
loop_room = 1152921504606846976

module _ (threads q : ℕ) where
  -- the turns behind this one, in this round and in the rounds that may follow, have q steps each
  abbrev turns_behind : ℕ → ℕ → ℕ
  turns_behind thread rounds = rounds * threads + (threads - thread)

  abbrev ahead_from : ℕ → ℕ → ℕ → ℕ
  ahead_from zero thread rounds = 0
  ahead_from (suc left) thread rounds = suc left + turns_behind thread rounds * q

  abbrev pub ahead : Position → ℕ
  ahead position = ahead_from position.left position.thread position.rounds

  -- no more than the steps left and all turns behind
  ahead_most : (left thread rounds : ℕ) → ahead_from left thread rounds ≤ left + turns_behind thread rounds * q
  ahead_most zero thread rounds = omega arith
  ahead_most (suc left) thread rounds = omega arith

  ahead_some : (left thread rounds : ℕ) → 0 < left → left + turns_behind thread rounds * q ≤ ahead_from left thread rounds
  ahead_some zero thread rounds some = absurd (omega (arith, some))
  ahead_some (suc left) thread rounds some = omega arith

  pub some_ahead : (position : Position) → 0 < position.left → 0 < ahead position
  some_ahead position some = let least = ahead_some position.left position.thread position.rounds some in omega (arith, least, some)

  -- a turn whose q steps are among those behind another
  turn_behind : (thread rounds other more : ℕ) → suc (turns_behind other more) ≤ turns_behind thread rounds
      → ahead_from q other more ≤ turns_behind thread rounds * q
  turn_behind thread rounds other more less =
      let most = ahead_most q other more in
      let one : suc (turns_behind other more) * q ≡ turns_behind other more * q + q = suc-mul (turns_behind other more) q in
      let many : suc (turns_behind other more) * q ≤ turns_behind thread rounds * q = mul-le-mul less (let same : q ≤ q = omega arith in same) in
      omega (arith, most, one, many)

  after_turn_less : 1 ≤ threads → (thread : ℕ) (stepped : Bool) (rounds : ℕ) → thread ≤ threads → ahead (after_turn threads q thread stepped rounds) ≤ turns_behind thread rounds * q
  unfolding after_turn
  after_turn_less some_threads thread stepped rounds high =
      by_below (λ (position : Position). ahead position ≤ turns_behind thread rounds * q) thread threads
      (λ more. turn_behind thread rounds (thread + 1) rounds (omega (arith, more)))
      (λ last. by_test (λ (position : Position). ahead position ≤ turns_behind thread rounds * q) stepped
      (λ some. by_below (λ (position : Position). ahead position ≤ turns_behind thread rounds * q) 0 rounds
      (λ more. turn_behind thread rounds 1 (rounds - 1) (fewer more)) (λ none. omega arith))
      (λ none. omega arith))
    where
      fewer : 0 < rounds → suc ((rounds - 1) * threads + (threads - 1)) ≤ rounds * threads + (threads - thread)
      fewer more =
          let one : suc (rounds - 1) * threads ≡ (rounds - 1) * threads + threads = suc-mul (rounds - 1) threads in
          let same : rounds * threads ≡ suc (rounds - 1) * threads = ap (λ (r : ℕ). r * threads) (let is : rounds ≡ suc (rounds - 1) = omega (arith, more) in is) in
          omega (arith, one, same, some_threads)

  pub next_less : 1 ≤ threads → (position : Position) (took on : Bool) → 0 < position.left → position.thread ≤ threads → ahead (next_position threads q position took on) < ahead position
  unfolding next_position
  next_less some_threads position took on some high =
      let here = ahead_some position.left position.thread position.rounds some in
      let turned = after_turn_less some_threads position.thread (either position.stepped took) position.rounds high in
      by_test (λ (next : Position). ahead next < ahead position) (both took on)
      (λ goes. by_below (λ (next : Position). ahead next < ahead position) 1 position.left
      (λ more. let less = ahead_most (position.left - 1) position.thread position.rounds in omega (arith, less, here, some))
      (λ last. omega (arith, turned, here, some)))
      (λ ended. omega (arith, turned, here, some))

  -- the whole fits, and so does the number of its steps
  pub first_few : (rounds : ℕ) → threads ≤ 32 → q ≤ 100 → rounds ≤ threads * round_room → ahead (turn_of 1 q false rounds) ≤ loop_room
  first_few rounds few_threads few_steps few_rounds =
      let most = ahead_most q 1 rounds in
      let enough : rounds ≤ 32 * round_room = omega (arith, few_rounds, few_threads) in
      let product : rounds * threads ≤ (32 * round_room) * 32 = mul-le-mul enough few_threads in
      let behind : turns_behind 1 rounds ≤ (32 * round_room) * 32 + 32 = omega (arith, product, few_threads) in
      let all : turns_behind 1 rounds * q ≤ ((32 * round_room) * 32 + 32) * 100 = mul-le-mul behind few_steps in
      omega (arith, most, all, few_steps)
