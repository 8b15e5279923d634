-- One event and the steps of one thread: what it has taken and what it has left are together no more than there are from its start.
use Prim.Native.Nat.{ℕ, ◌+◌, ◌≤◌, ◌<◌}
use mathlib.Core.Path.{◌≡◌, refl, sym, ◌∙◌, subst}
use mathlib.Core.Bool.{Bool, true, false, not}
use native.Mathlib.Omega.{arith}
use lib.Dec.{eqb}
use borrow.Author.Tests.{ne_eqb}
use Rattle.laws.specs.Choice.{both, either}
use Rattle.laws.proofs.Choice.{split, false≢true, by_equal, both_no, both_not, both_first, failed}
use Rattle.lock_word.specs.declared.meaning.WordSeen.{WordSeen}
use Rattle.lock_rules.specs.Numbers.{phase_of, phase_of_doing, asked_for, first_refusal, refusal_number}
use Rattle.lock_rules.specs.Operations.{Asked, Unknown, Known, Operation, timed_wait}
use Rattle.lock_rules.specs.{RunQueue.own_event, Rules.begun}
use Rattle.lock_rules.specs.declared.{Limit.Limit, Doing.Doing, ThreadState.ThreadState}
use Rattle.lock_rules.specs.declared.ThreadState.TheVariants.{Running}
use Rattle.lock_rules.specs.declared.event.{Event.Event, Refusal.Refusal}
use Rattle.lock_rules.specs.declared.event.Event.TheVariants.{Begin, Step, Tick}
use Rattle.lock_rules.specs.declared.event.Refusal.TheVariants.{NotSound, NoSuchThread, NoSuchObject, NotIdle, ThreadIdle, ThreadParked}
use Rattle.lock_rules.specs.declared.event.Refusal.TheVariants.{NoSuchOperation, LimitOutOfRange}
use Rattle.lock_rules.proofs.Each.{each_doing, each_state}
use Rattle.lock_rules.proofs.{Status.unparked, SoundEffects.either_way}
use Rattle.step_bounds.specs.SixSteps.{is_step, own_steps, is_parked_phase, kept_after, step_limit}
use Rattle.step_bounds.specs.Starts.{Start, NotBegun, Begun, Unparked, most_from, own_start}
use Rattle.step_bounds.proofs.Ranks.{left, look_six}
use Rattle.step_bounds.proofs.RankMoves.{Bounded}

-- never more than six
pub most_six : (start : Start) → most_from start ≤ step_limit
most_six NotBegun = omega arith
most_six (Begun number) = either_way (λ most. most ≤ step_limit) (either (eqb number 4) (eqb number 5)) (omega arith) (omega arith)
most_six (Unparked phase) = either_way (λ most. most ≤ step_limit) (eqb phase 0) (omega arith) (either_way (λ most. most ≤ step_limit) (eqb phase 15) (omega arith) (omega arith))

-- a begin: what an operation has left is what there is from beginning the one of this number
abbrev Fits : WordSeen → ℕ → Asked → Type 0
Fits word number Unknown = Unit {0}
Fits word number (Known operation limit) = left word (Running (begun operation limit)) ≤ most_from (Begun number)

pub begun_left : (word : WordSeen) (number limit : ℕ) (operation : Operation) (given : Limit) → asked_for number limit ≡ Known operation given
    → Fits word number (Known operation given)
unfolding asked_for
begun_left word number limit operation given asked =
    let fits = Fits word number in
    subst fits asked
    (by_equal fits number 1 (λ e. rw e (omega (arith, look_six 4 (omega arith) word)))
    (λ n. by_equal fits number 2 (λ e. rw e (omega (arith, look_six 5 (omega arith) word)))
    (λ n. by_equal fits number 3 (λ e. rw e (omega (arith, look_six 4 (omega arith) word)))
    (λ n. by_equal fits number 4 (λ e. rw e (omega arith))
    (λ n. by_equal fits number 5 (λ e. rw e (omega arith))
    (λ n. by_equal fits number timed_wait (λ e. rw e (omega (arith, look_six 4 (omega arith) word))) (λ n. tt)))))))

-- the phases of parked threads
doing_unparked : (doing : Doing) → is_parked_phase (phase_of_doing doing) ≡ false
doing_unparked = each_doing _ (search)

parked_is : (state : ThreadState) → is_parked_phase (phase_of state) ≡ not (unparked state)
parked_is = each_state _ (refl, doing_unparked, λ carried. refl, refl, λ saved. refl)

parked_none : (word : WordSeen) (state : ThreadState) → unparked state ≡ false → left word state ≡ 0
parked_none word = each_state _ (search, λ doing e. false≢true (sym e), search, search, search)

-- no refusal is a step
pub refused_none : (refusal : Refusal) → is_step (refusal_number refusal) ≡ false
unfolding refusal_number
refused_none NotSound = refl
refused_none NoSuchThread = refl
refused_none NoSuchObject = refl
refused_none NotIdle = refl
refused_none ThreadIdle = refl
refused_none ThreadParked = refl
refused_none NoSuchOperation = refl
refused_none LimitOutOfRange = refl

-- the test of `kept_after`
abbrev is_unparked : ThreadState → ThreadState → Bool
is_unparked state next = both (is_parked_phase (phase_of state)) (not (is_parked_phase (phase_of next)))

module _ (n : ℕ) (event : Event) (returned steps : ℕ) (start : Start) (word : WordSeen) (state : ThreadState) (word_after : WordSeen) (next : ThreadState) where
  abbrev pub Counted : Type 0
  Counted =
      kept_after (λ after. 0) own_steps n event returned (phase_of state) (phase_of next) steps + left word_after next
      ≤ most_from (kept_after Unparked own_start n event returned (phase_of state) (phase_of next) start)

  -- an event of its own, when it was not parked
  pub own_counted : own_event event returned n ≡ true → unparked state ≡ true → own_steps event returned steps + left word_after next ≤ most_from (own_start event returned start)
      → Counted
  own_counted own free within = rw (parked_is state, free, own) within

  -- any other, if it does not unpark the thread
  stays_low : is_unparked state next ≡ false → Bounded word state word_after next → left word_after next ≤ left word state
  stays_low stays bounded = at (unparked state) (unparked next) refl refl
    where
      at : (was is : Bool) → unparked state ≡ was → unparked next ≡ is → left word_after next ≤ left word state
      at true is e q = rw e at bounded
      at false true e q = false≢true (sym stays ∙ rw (parked_is state, parked_is next, e, q) refl)
      at false false e q = omega (arith, parked_none word_after next q)

  pub other_counted : own_event event returned n ≡ false → Bounded word state word_after next → steps + left word state ≤ most_from start → Counted
  other_counted other bounded within =
      split (is_unparked state next)
      (λ freed. let parked : unparked state ≡ false = failed (unparked state) (sym (parked_is state) ∙ both_first (is_parked_phase (phase_of state)) _ freed) in
      rw freed (omega (arith, rw parked at bounded)))
      (λ stays. rw (stays, other) (omega (arith, within, stays_low stays bounded)))

-- a refused event, its own or another's
pub refused_counted : (n : ℕ) (event : Event) (refusal : Refusal) → first_refusal < refusal_number refusal → (steps : ℕ) (start : Start) (word : WordSeen) (state : ThreadState)
    → steps + left word state ≤ most_from start → Counted n event (refusal_number refusal) steps start word state word state
unfolding own_event
refused_counted n (Begin number thread object limit) refusal high steps start word state within =
    rw (both_not (is_parked_phase (phase_of state)), ne_eqb (refusal_number refusal) 0 (λ e. omega (arith, high, e)), both_no (eqb n thread)) within
refused_counted n (Step thread) refusal high steps start word state within =
    rw (both_not (is_parked_phase (phase_of state)), refused_none refusal) (split (eqb n thread) (λ e. rw e within) (λ e. rw e within))
refused_counted n Tick refusal high steps start word state within = rw (both_not (is_parked_phase (phase_of state))) within
