-- A machine that keeps to the laws has fair runs, and with enough rounds a run ends by a round without a step.
use Prim.Native.Nat.{ℕ, zero, suc, ◌+◌, ◌*◌, ◌-◌, ◌≤◌, ◌<◌}
use mathlib.Core.Path.{◌≡◌, refl, sym, ◌∙◌, ap, subst}
use mathlib.Core.Logic.{◌≢◌, inr, ⊎_elim}
use mathlib.Core.Bool.{Bool, true, false}
use mathlib.Core.List.{List, [], ◌∷◌, ◌++◌, append_assoc}
use native.Mathlib.Omega.{arith}
use native.Mathlib.Nat.{suc-mul}
use lib.ListN.{length, length-append}
use Rattle.laws.specs.Choice.{pick}
use Rattle.laws.proofs.Choice.{false≢true, equal?}
use Rattle.round_robin.specs.Dispatch.{Tried, Step, Ran, still, taken, with_step, followed, none, turn, turns, round, run}
use Rattle.round_robin.specs.Fair.{Served, most_before, Prompt, Fair}
use Rattle.round_robin.specs.Rounds.{LastIsStill}
use Rattle.round_robin.proofs.Machine.{IsThread, Ending, Fairly, Along}
use Rattle.round_robin.proofs.Runs.{turn_along, round_along, run_along}
use Rattle.round_robin.proofs.Served.{served_at_once, served_more, gap, gap_next, gap_most, gap_again, turns_fit}

module _ {W E : Type 0} where
  none_nil : (steps : List (Step W E)) → none steps ≡ true → steps ≡ []
  none_nil [] e = refl
  none_nil (step ∷ steps) e = false≢true e

  some_long : (steps : List (Step W E)) → none steps ≡ false → 1 ≤ length steps
  some_long [] e = false≢true (sym e)
  some_long (step ∷ steps) e = omega arith

  front_nil : (xs ys : List (Step W E)) → none (xs ++ ys) ≡ true → none xs ≡ true
  front_nil [] ys e = refl
  front_nil (x ∷ xs) ys e = e

  back_nil : (xs ys : List (Step W E)) → none (xs ++ ys) ≡ true → none ys ≡ true
  back_nil [] ys e = e
  back_nil (x ∷ xs) ys e = false≢true e

module _ {W E : Type 0} {threads : ℕ} {try : ℕ → W → Tried W E} {Good : W → Type 0} {size : W → ℕ} (ending : Ending threads try Good size) (q : ℕ) where
  -- a good world stays good, and the size falls by one for each step
  abbrev Spends : W → List (Step W E) → W → Type 0
  Spends w steps after = Good w → Good after × (size after + length steps ≤ size w)

  spending : Along threads try Spends
  spending = record {
    nothing = λ w fine. (fine, omega arith);
    behind = λ {u} {v} {w} {xs} {ys} first second fine.
        let (between, one) = first fine in
        let (after, other) = second between in
        let sum : length (xs ++ ys) ≡ length xs + length ys = length-append xs ys in
        (after, omega (arith, one, other, sum));
    step = λ u is w took fine. (ending.good u is w fine, omega (arith, ending.falls u is w fine took));
    no_step = λ u is w none fine. let same = ending.same u is w fine none in (subst Good (sym same) fine, rw same (omega arith));
  }

  -- what a run leaves, and that it took no more steps than the size
  pub run_spent : (rounds : ℕ) (w : W) → Spends w (run try q threads rounds w).steps (run try q threads rounds w).world
  run_spent = run_along spending q

  -- ---- a round without a step leaves the world
  turn_still : (left u : ℕ) → IsThread threads u → (w : W) → 1 ≤ left → Good w → none (turn try left u w).steps ≡ true → ((turn try left u w).world ≡ w) × ((try u w).stepped ≡ false)
  unfolding turn
  turn_still zero u is w some fine e = absurd (omega (arith, some))
  turn_still (suc left) u is w some fine e = at (try u w).stepped refl (pick (try u w).on (turn try left u (try u w).world) (still (try u w).world)) e
    where
      at : (b : Bool) → (try u w).stepped ≡ b → (rest : Ran W E) → none (pick b (with_step (taken u (try u w)) rest) (still (try u w).world)).steps ≡ true
          → ((pick b (with_step (taken u (try u w)) rest) (still (try u w).world)).world ≡ w) × ((try u w).stepped ≡ false)
      at true known rest nothing = false≢true nothing
      at false known rest nothing = (ending.same u is w fine known, known)

  pub turns_still : 1 ≤ q → (count u : ℕ) → 1 ≤ u → u + count ≤ suc threads → (w : W) → Good w → none (turns try q count u w).steps ≡ true
      → ((turns try q count u w).world ≡ w) × ((t : ℕ) → u ≤ t → t < u + count → (try t w).stepped ≡ false)
  unfolding turns
  turns_still some zero u first last w fine e = (refl, λ t low high. absurd (omega (arith, low, high)))
  turns_still some (suc count) u first last w fine e =
      let middle = (turn try q u w).world in
      let front = turn_still q u (first, omega (arith, last)) w some fine (front_nil (turn try q u w).steps (turns try q count (suc u) middle).steps e) in
      let back = turns_still some count (suc u) (omega arith) (omega (arith, last)) middle (turn_along spending q q u (first, omega (arith, last)) w fine).0 (back_nil (turn try q u w).steps (turns try q count (suc u) middle).steps e) in (
        back.0 ∙ front.0,
        λ t low high. ⊎_elim (λ same. subst (λ (x : ℕ). (try x w).stepped ≡ false) same front.1)
            (λ away. subst (λ (x : W). (try t x).stepped ≡ false) front.0 (back.1 t (omega (arith, low, away)) (omega (arith, high)))) (equal? u t),
      )

  -- with more rounds than the size, another round would take no step: the rounds did not run out
  pub run_ends : 1 ≤ q → (rounds : ℕ) (w : W) → Good w → size w < rounds → none (round try q threads (run try q threads rounds w).world).steps ≡ true
  unfolding run
  run_ends some zero w fine enough = absurd (omega (arith, enough))
  run_ends some (suc rounds) w fine enough = at (none opening.steps) refl (λ less. run_ends some rounds opening.world spent.0 less)
    where
      opening : Ran W E
      opening = round try q threads w

      spent : Good opening.world × (size opening.world + length opening.steps ≤ size w)
      spent = round_along spending q w fine

      at : (b : Bool) → none opening.steps ≡ b → (size opening.world < rounds → none (round try q threads (run try q threads rounds opening.world).world).steps ≡ true)
          → none (round try q threads (pick b opening (followed opening (run try q threads rounds))).world).steps ≡ true
      at true e go = subst (λ (x : W). none (round try q threads x).steps ≡ true) (sym (turns_still some threads 1 (omega arith) (omega arith) w fine e).0) e
      at false e go = go (let long = some_long opening.steps e in omega (arith, long, spent.1, enough))

  -- and its last round took none
  pub run_last_still : (rounds : ℕ) (w : W) → Good w → size w < rounds → (before : ℕ) × LastIsStill try q threads before w (run try q threads rounds w)
  unfolding run
  run_last_still zero w fine enough = absurd (omega (arith, enough))
  run_last_still (suc rounds) w fine enough =
      let first = round try q threads w in
      let (good, fell) = round_along spending q w fine in
      at (none first.steps) refl
      (λ moved. let long = some_long first.steps moved in run_last_still rounds first.world good (omega (arith, long, fell, enough)))
    where
      at : (b : Bool) → none (round try q threads w).steps ≡ b
          → let first = round try q threads w in
          (none first.steps ≡ false → (before : ℕ) × LastIsStill try q threads before first.world (run try q threads rounds first.world))
          → (before : ℕ) × LastIsStill try q threads before w (pick b first (followed first (run try q threads rounds)))
      at true ended go = (0, (ended, refl))
      at false moved go = let (before, last) = go moved in (suc before, (moved, (run try q threads rounds (round try q threads w).world, last, refl)))

module _ {W E : Type 0} {threads : ℕ} {try : ℕ → W → Tried W E} {ready : ℕ → W → Bool} {Good : W → Type 0} {size : W → ℕ} (ending : Ending threads try Good size) (fairly : Fairly threads try ready Good) (q : ℕ) where
  -- ---- fairness, with a bound for each thread
  -- what is known at the start of u's turn of the steps that follow
  abbrev At : ℕ → W → List (Step W E) → Type 0
  At u w steps = ((t : ℕ) → 1 ≤ t → t ≤ threads → ready t w ≡ true → Served t (gap threads u t * q) steps) × Fair ready q threads w steps

  -- in a turn of u with `left` steps to go, the others wait for these too
  abbrev In : ℕ → ℕ → W → List (Step W E) → Type 0
  In u left w steps = ((t : ℕ) → u ≢ t → 1 ≤ t → t ≤ threads → ready t w ≡ true → Served t (left + gap threads (suc u) t * q) steps) × Fair ready q threads w steps

  settled : (u left : ℕ) (w : W) (steps : List (Step W E)) → At (suc u) w steps → In u left w steps
  settled u left w steps known = (λ t away low high r. served_more t (gap threads (suc u) t * q) (left + gap threads (suc u) t * q) steps (omega arith) (known.0 t low high r), known.1)

  module _ (u : ℕ) (first : 1 ≤ u) (within : u ≤ threads) where
    -- one step of u in its turn, and a rest of the turn
    step_in : (left : ℕ) (w : W) (rest : W → Ran W E) (tail : List (Step W E)) → suc left ≤ q → Good w
        → let next = (try u w).world in let ran = pick (try u w).stepped (with_step (taken u (try u w)) (pick (try u w).on (rest next) (still next))) (still next) in
        At (suc u) ran.world tail → (Good next → At (suc u) (rest next).world tail → In u left next ((rest next).steps ++ tail)) → In u (suc left) w (ran.steps ++ tail)
    step_in left w rest tail few fine = at (try u w).stepped refl
      where
        next : W
        next = (try u w).world

        after : (on : Bool) → At (suc u) (pick on (rest next) (still next)).world tail → (At (suc u) (rest next).world tail → In u left next ((rest next).steps ++ tail))
            → In u left next ((pick on (rest next) (still next)).steps ++ tail)
        after true known inner = inner known
        after false known inner = settled u left next tail known

        goes : (steps : List (Step W E)) → In u left next steps → In u (suc left) w (taken u (try u w) ∷ steps)
        goes steps inner = (others, (prompt, inner.1))
          where
            others : (t : ℕ) → u ≢ t → 1 ≤ t → t ≤ threads → ready t w ≡ true → Served t (suc left + gap threads (suc u) t * q) (taken u (try u w) ∷ steps)
            others t away low high r =
                served_more t (suc (left + gap threads (suc u) t * q)) (suc left + gap threads (suc u) t * q) (taken u (try u w) ∷ steps) (omega arith)
                (inr (inner.0 t away low high (fairly.keeps u (first, within) t (low, high) away w fine r)))

            prompt : Prompt ready q threads w (taken u (try u w) ∷ steps)
            prompt t low high r = ⊎_elim (λ same. served_at_once t (most_before threads q) (taken u (try u w)) steps same)
                (λ away. served_more t (suc left + gap threads (suc u) t * q) (most_before threads q) (taken u (try u w) ∷ steps)
                (let near = gap_next threads u t away low high within in
                let most = gap_most threads u t first (omega (arith, within)) low high in
                let fits = turns_fit (suc left) q (gap threads (suc u) t) (threads - 1) few (omega (arith, near, most)) in omega (arith, fits))
                (others t away low high r)) (equal? u t)

        at : (b : Bool) → (try u w).stepped ≡ b → let ran = pick b (with_step (taken u (try u w)) (pick (try u w).on (rest next) (still next))) (still next) in
            At (suc u) ran.world tail → (Good next → At (suc u) (rest next).world tail → In u left next ((rest next).steps ++ tail)) → In u (suc left) w (ran.steps ++ tail)
        at true e known inner = goes ((pick (try u w).on (rest next) (still next)).steps ++ tail) (after (try u w).on known (inner (ending.good u (first, within) w fine)))
        at false e known inner = settled u (suc left) w tail (subst (λ (x : W). At (suc u) x tail) (ending.same u (first, within) w fine e) known)

    in_turn : (left : ℕ) (w : W) (tail : List (Step W E)) → left ≤ q → Good w → At (suc u) (turn try left u w).world tail → In u left w ((turn try left u w).steps ++ tail)
    unfolding turn
    in_turn zero w tail few fine known = settled u 0 w tail known
    in_turn (suc left) w tail few fine known =
        step_in left w (turn try left u) tail few fine known (λ good inner. in_turn left (try u w).world tail (omega (arith, few)) good inner)

    -- who is ready at the start of its turn is served at once
    own : (left n : ℕ) (w : W) (tail : List (Step W E)) → 1 ≤ left → Good w → ready u w ≡ true → Served u n ((turn try left u w).steps ++ tail)
    unfolding turn
    own zero n w tail some fine r = absurd (omega (arith, some))
    own (suc left) n w tail some fine r = at (try u w).stepped (fairly.steps u (first, within) w fine r) (pick (try u w).on (turn try left u (try u w).world) (still (try u w).world))
      where
        at : (b : Bool) → b ≡ true → (rest : Ran W E) → Served u n ((pick b (with_step (taken u (try u w)) rest) (still (try u w).world)).steps ++ tail)
        at true e rest = served_at_once u n (taken u (try u w)) (rest.steps ++ tail) refl
        at false e rest = false≢true e

  -- the turns of a round from u on
  in_turns : 1 ≤ q → (count u : ℕ) (w : W) (tail : List (Step W E)) → 1 ≤ u → u + count ≡ suc threads → Good w
      → At (suc threads) (turns try q count u w).world tail → At u w ((turns try q count u w).steps ++ tail)
  unfolding turns
  in_turns some zero u w tail first place fine known = subst (λ (x : ℕ). At x w tail) (sym (let last : u ≡ suc threads = omega (arith, place) in last)) known
  in_turns some (suc count) u w tail first place fine known =
      let middle = (turn try q u w).world in
      let front = (turn try q u w).steps in
      let back = (turns try q count (suc u) middle).steps in
      let within : u ≤ threads = omega (arith, place) in
      let inner : At (suc u) middle (back ++ tail) = in_turns some count (suc u) middle tail (omega arith) (let moved : suc u + count ≡ suc threads = omega (arith, place) in moved) (turn_along (spending ending q) q q u (first, within) w fine).0 known in
      let mine : In u q w (front ++ (back ++ tail)) = in_turn u first within q w (back ++ tail) (omega arith) fine inner in
      subst (At u w) (sym (append_assoc front back tail)) (
        (λ t low high r. ⊎_elim
            (λ same. subst (λ (x : ℕ). Served x (gap threads u t * q) (front ++ (back ++ tail))) same (own u first within q (gap threads u t * q) w (back ++ tail) some fine (subst (λ (x : ℕ). ready x w ≡ true) (sym same) r)))
            (λ away. served_more t (q + gap threads (suc u) t * q) (gap threads u t * q) (front ++ (back ++ tail))
            (let near = gap_next threads u t away low high within in let one = suc-mul (gap threads (suc u) t) q in let same : gap threads u t * q ≡ suc (gap threads (suc u) t) * q = ap (λ (x : ℕ). x * q) near in omega (arith, one, same))
            (mine.0 t away low high r)) (equal? u t)),
        mine.1,
      )

  -- ---- the run
  in_run : 1 ≤ q → (rounds : ℕ) (w : W) → Good w → size w < rounds → At 1 w (run try q threads rounds w).steps
  unfolding run
  in_run some zero w fine enough = absurd (omega (arith, enough))
  in_run some (suc rounds) w fine enough = at (none opening.steps) refl (λ less. in_run some rounds opening.world spent.0 less)
    where
      opening : Ran W E
      opening = round try q threads w

      spent : Good opening.world × (size opening.world + length opening.steps ≤ size w)
      spent = round_along (spending ending q) q w fine

      rest : Ran W E
      rest = run try q threads rounds opening.world

      at : (b : Bool) → none opening.steps ≡ b → (size opening.world < rounds → At 1 opening.world rest.steps) → At 1 w (pick b opening (followed opening (run try q threads rounds))).steps
      at true e go =
          let quiet = turns_still ending q some threads 1 (omega arith) (omega arith) w fine e in
          let idle : (t : ℕ) → 1 ≤ t → t ≤ threads → ready t w ≡ true → ⊥ = λ t low high r. false≢true (sym (quiet.1 t low (omega (arith, high))) ∙ fairly.steps t (low, high) w fine r) in
          subst (At 1 w) (sym (none_nil opening.steps e)) ((λ t low high r. absurd (idle t low high r)), (λ t low high r. absurd (idle t low high r)))
      at false e go =
          let long = some_long opening.steps e in
          let later = go (omega (arith, long, spent.1, enough)) in
          in_turns some threads 1 w rest.steps (omega arith) (let one : 1 + threads ≡ suc threads = omega arith in one) fine
          ((λ t low high r. subst (λ (x : ℕ). Served t (x * q) rest.steps) (gap_again threads t low high) (later.0 t low high r)), later.1)

  pub run_fair : 1 ≤ q → (rounds : ℕ) (w : W) → Good w → size w < rounds → Fair ready q threads w (run try q threads rounds w).steps
  run_fair some rounds w fine enough = (in_run some rounds w fine enough).1
