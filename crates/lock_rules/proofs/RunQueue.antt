-- One event and an interpreter's run queue: who can take a step is in it, and besides only exits that were let out and whose threads were neither stepped
-- nor begun since. They are idle, and their answer was the plain one.
use Prim.Native.Nat.{ℕ, ◌≤◌}
use mathlib.Core.Path.{◌≡◌, refl, sym, ap, ◌∙◌, subst}
use mathlib.Core.Logic.{◌≢◌, ◌⊎◌, inl, inr, ◌↔◌}
use mathlib.Core.Bool.{Bool, true, false, not}
use lib.Dec.{T}
use borrow.Author.Tests.{eq-eqb, eqb-true, le-leb}
use Rattle.laws.specs.{Choice.both, Choice.either, Choice.within}
use Rattle.laws.proofs.Choice.{either_way, equal?, split, both_no, false≢true, either_yes, either_says}
use Rattle.laws.proofs.Update.{update_other}
use Rattle.lock_rules.specs.Feed.{OperationLog, Plain, fed_begin, feed, LetOutRight}
use Rattle.lock_rules.specs.Numbers.{asked_for, refusal_number, returned_of}
use Rattle.lock_rules.specs.RunQueue.{own_event, goes_out, own_queued}
use Rattle.lock_rules.specs.Events.{Reply, Accepted, Refused, Answered, returned}
use Rattle.lock_rules.specs.Operations.{Asked, Unknown, Known}
use Rattle.lock_rules.specs.Gate.{gate}
use Rattle.lock_rules.specs.declared.{Answer.Answer, ThreadState.ThreadState}
use Rattle.lock_rules.specs.declared.Answer.TheVariants.{GoneOn, Finished, Parked, NotOwner, TooDeep, NoRule}
use Rattle.lock_rules.specs.declared.ThreadState.TheVariants.{Idle, Running, Queued, Contending, Waiting}
use Rattle.lock_rules.specs.declared.event.Event.{Event}
use Rattle.lock_rules.specs.declared.event.Event.TheVariants.{Begin, Step, Tick}
use Rattle.lock_rules.specs.declared.event.Refusal.TheVariants.{ThreadIdle, ThreadParked}
use Rattle.lock_rules.proofs.Each.{each_state}
use Rattle.lock_rules.proofs.Status.{unparked, unfinished, Runs}
use Rattle.lock_rules.proofs.SoundEffects.{Answers}
use Rattle.lock_rules.proofs.ListSound.{SoundTable}
use Rattle.lock_rules.proofs.TableKinds.{TurnOf, status_of, step_thread, through}
use Rattle.lock_rules.proofs.Tables.{ListTable, perform_at, step_at, list_kind, turn}
use Rattle.lock_rules.proofs.Lift.{World}
use Rattle.lock_rules.proofs.LetOut.{turn_ends}
use Rattle.lock_rules.proofs.Unparks.{unparks_says, says_unparks, Turned, TurnedBy, turn_turned}

-- a thread, whether it is in the queue, and what is left of an exit that was let out
pub record Kept (queued : Bool) (state : ThreadState) (out : Type 0) (log : OperationLog) : Type 0 where
  pub runs : Runs state → queued ≡ true
  pub besides : queued ≡ true → Runs state ⊎ out
  pub idle : out → state ≡ Idle
  pub right : out → LetOutRight log

-- what two tests say of a state
runs_or_idle : (state : ThreadState) → T (unparked state) → Runs state ⊎ (state ≡ Idle)
runs_or_idle = each_state _ (λ free. inr refl, λ doing free. inl (tt, tt), λ carried free. absurd free, λ free. absurd free, λ saved free. absurd free)

idle_by : (state : ThreadState) → T (unparked state) → unfinished state ≡ false → state ≡ Idle
idle_by = each_state _ (search, λ doing free e. false≢true (sym e), λ carried free. absurd free, λ free. absurd free, λ saved free. absurd free)

parked_busy : (state : ThreadState) → unparked state ≡ false → T (unfinished state)
parked_busy = each_state _ (λ e. false≢true (sym e), search, search, search, search)

-- an event that does not count for a thread leaves it in the queue or out of it, and its log as it is
own_queued_other : (event : Event) (number n : ℕ) (was : Bool) → own_event event number n ≡ false → own_queued event number was n ≡ was
unfolding own_queued
own_queued_other (Begin operation thread object limit) number n was away = rw away refl
own_queued_other (Step thread) number n was away = rw away refl
own_queued_other Tick number n was away = refl

begun_queued : (operation thread object limit number n : ℕ) (was : Bool) → own_event (Begin operation thread object limit) number n ≡ true
    → own_queued (Begin operation thread object limit) number was n ≡ true
unfolding own_queued
begun_queued operation thread object limit number n was counted = rw counted refl

log_kept : (plain : Plain) (event : Event) (reply : Reply) (n : ℕ) → own_event event (returned reply) n ≡ false → (feed plain event reply).logs n ≡ plain.logs n
unfolding own_event
log_kept plain (Begin operation thread object limit) Accepted n away = at (asked_for operation limit) (equal? n thread)
  where
    at : (asked : Asked) → (n ≡ thread) ⊎ (n ≢ thread) → (fed_begin plain thread object asked).logs n ≡ plain.logs n
    at asked (inl e) = false≢true (sym away ∙ rw (eq-eqb n thread e) refl)
    at Unknown (inr other) = refl
    at (Known operation limit) (inr other) = update_other plain.logs thread _ n other
log_kept plain (Begin operation thread object limit) (Refused number) n away = refl
log_kept plain (Begin operation thread object limit) (Answered answer commits) n away = refl
log_kept plain (Step thread) Accepted n away = refl
log_kept plain (Step thread) (Refused number) n away = refl
log_kept plain (Step thread) (Answered answer commits) n away =
    either_way (equal? n thread) (λ e. false≢true (sym away ∙ eq-eqb n thread e)) (λ other. update_other plain.logs thread _ n other)
log_kept plain Tick Accepted n away = refl
log_kept plain Tick (Refused number) n away = refl
log_kept plain Tick (Answered answer commits) n away = refl

-- a step of a thread of the table is refused with 15 where it is idle, with 16 where it is parked, and else done
pub own_step : (threads objects : ℕ) (table : ListTable) (n : ℕ) → 1 ≤ n → n ≤ threads → (state : ThreadState) → (table.threads n).state ≡ state
    → through list_kind (gate true threads objects (Step n) (status_of state)) table (Step n) ≡ step_thread list_kind table n state
own_step threads objects table n low high =
    each_state _ (
      λ is. rw (inside) refl,
      λ doing is. rw (inside) (ap (step_thread list_kind table n) is),
      λ carried is. rw (inside) refl,
      λ is. rw (inside) refl,
      λ saved is. rw (inside) refl,
    )
  where
    inside : within 1 threads n ≡ true
    inside = rw (le-leb 1 n low, le-leb n threads high) refl

-- a thread that can take a step is not idle, and one that is parked is neither
idle_stuck : {A : Type 0} (state : ThreadState) → Runs state → state ≡ Idle → A
idle_stuck state runs idle = absurd (rw idle at runs.1)

parked_stuck : {A : Type 0} (state : ThreadState) → unparked state ≡ false → T (unparked state) → A
parked_stuck state parked free = absurd (rw parked at free)

parked_idle : {A : Type 0} (state : ThreadState) → unparked state ≡ false → state ≡ Idle → A
parked_idle state parked idle = false≢true (sym parked ∙ ap unparked idle)

-- thread n before and after an event; `ended` says that the event, which is no step of the thread's, ended its operation
module _ (n : ℕ) (event : Event) (was : Bool) (before : ThreadState) (out ended : Type 0) (plain : Plain) (kept : Kept was before out (plain.logs n)) where
  abbrev pub Ends : ThreadState → Type 0
  Ends after = ended ↔ ((event ≢ Step n) × T (unfinished before) × (after ≡ Idle))

  -- what is left of an exit that was let out, now or before
  abbrev pub StillOut : Reply → Type 0
  StillOut reply = ended ⊎ (out × (own_event event (returned reply) n ≡ false))

  abbrev pub KeptBy : Reply → Bool → ThreadState → Type 0
  KeptBy reply named after = Kept (either named (own_queued event (returned reply) was n)) after (StillOut reply) ((feed plain event reply).logs n)

  -- the event does not count for it
  other_kept : (reply : Reply) (named : Bool) (after : ThreadState) → Turned n event reply named before after → own_event event (returned reply) n ≡ false
      → (event ≢ Step n) → Ends after → (ended → LetOutRight ((feed plain event reply).logs n)) → KeptBy reply named after
  other_kept reply named after turned away not_step ends answered =
      rw (own_queued_other event (returned reply) n was away)
      (record {
        runs = λ runs. split (unparked before)
            (λ free. rw (kept.runs (rw free tt, subst T (turned.other away (rw free tt)).1 runs.1)) (either_yes named))
            (λ parked. rw (turned.names ∙ says_unparks (unparked before) (unparked after) parked runs.0) refl);
        besides = λ queued. either_way (either_says named was queued) unparked_now still_there;
        idle = λ left. either_way left (λ now. (ends.0 now).2) (λ (before_it, away). stays_idle before_it);
        right = λ left. either_way left answered (λ (before_it, away). rw (log_kept plain event reply n away) (kept.right before_it));
      })
    where
      -- its operation goes on, or it was an exit that was let out
      unparked_now : named ≡ true → Runs after ⊎ StillOut reply
      unparked_now in_set =
          let (parked, free) = unparks_says (unparked before) (unparked after) (sym turned.names ∙ in_set) in
          either_way (runs_or_idle after free) inl (λ idle. inr (inl (ends.1 (not_step, parked_busy before parked, idle))))

      still_there : was ≡ true → Runs after ⊎ StillOut reply
      still_there queued =
          either_way (kept.besides queued)
          (λ runs. let (free, same) = turned.other away runs.0 in inl (free, subst T (sym same) runs.1))
          (λ left. inr (inr (left, away)))

      stays_idle : out → after ≡ Idle
      stays_idle left =
          let idle = kept.idle left in
          let (free, same) = turned.other away (rw idle tt) in
          idle_by after free (same ∙ ap unfinished idle)

  -- its own event, after which it can take a step
  running_kept : (reply : Reply) (named : Bool) (after : ThreadState) → Runs after → own_queued event (returned reply) was n ≡ true → (StillOut reply → ⊥)
      → KeptBy reply named after
  running_kept reply named after runs in_queue none =
      record {
        runs = λ again. rw in_queue (either_yes named);
        besides = λ queued. inl runs;
        idle = λ left. absurd (none left);
        right = λ left. absurd (none left);
      }

  -- its own event, after which it cannot
  stopped_kept : (reply : Reply) (named : Bool) (after : ThreadState) → (Runs after → ⊥) → named ≡ false → own_queued event (returned reply) was n ≡ false → (StillOut reply → ⊥)
      → KeptBy reply named after
  stopped_kept reply named after stuck unnamed out_of_queue none =
      record {
        runs = λ runs. absurd (stuck runs);
        besides = λ queued. false≢true (sym (rw (unnamed, out_of_queue) refl) ∙ queued);
        idle = λ left. absurd (none left);
        right = λ left. absurd (none left);
      }

-- its own step: it comes back, goes out, or, refused as parked, stays out
module _ (n : ℕ) (was : Bool) (before : ThreadState) (out ended : Type 0) (plain : Plain) (kept : Kept was before out (plain.logs n)) where
  abbrev EndsBy : ThreadState → Type 0
  EndsBy = Ends n (Step n) was before out ended plain kept

  abbrev StepKept : Reply → Bool → ThreadState → Type 0
  StepKept = KeptBy n (Step n) was before out ended plain kept

  counts : (number : ℕ) → own_event (Step n) number n ≡ true
  unfolding own_event
  counts number = eq-eqb n n refl

  none_left : (reply : Reply) (after : ThreadState) → EndsBy after → StillOut n (Step n) was before out ended plain kept reply → ⊥
  none_left reply after ends left = either_way left (λ now. (ends.0 now).0 refl) (λ (before_it, away). false≢true (sym away ∙ counts (returned reply)))

  -- by the number that it returned
  goes : (number : ℕ) → goes_out number ≡ true → own_queued (Step n) number was n ≡ false
  unfolding own_queued
  goes number leaves = rw (counts number, leaves) refl

  stays : (number : ℕ) → goes_out number ≡ false → own_queued (Step n) number was n ≡ was
  unfolding own_queued
  stays number remains = rw (counts number, remains) refl

  goes_on_kept : (answer : Answer) (commits named : Bool) (after : ThreadState) → EndsBy after → Runs before → goes_out (returned_of answer) ≡ false → Runs after
      → StepKept (Answered answer commits) named after
  goes_on_kept answer commits named after ends runs remains again =
      running_kept n (Step n) was before out ended plain kept (Answered answer commits) named after again (stays (returned_of answer) remains ∙ kept.runs runs)
      (none_left (Answered answer commits) after ends)

  goes_out_kept : (answer : Answer) (commits named : Bool) (after : ThreadState) → EndsBy after → named ≡ false → goes_out (returned_of answer) ≡ true → (Runs after → ⊥)
      → StepKept (Answered answer commits) named after
  goes_out_kept answer commits named after ends unnamed leaves stuck =
      stopped_kept n (Step n) was before out ended plain kept (Answered answer commits) named after stuck unnamed (goes (returned_of answer) leaves)
      (none_left (Answered answer commits) after ends)

  answer_kept : (answer : Answer) (commits named : Bool) (after : ThreadState) → EndsBy after → Runs before → named ≡ false → Answers answer after
      → StepKept (Answered answer commits) named after
  unfolding goes_out refusal_number
  answer_kept GoneOn commits named after ends runs unnamed again = goes_on_kept GoneOn commits named after ends runs refl again
  answer_kept (Finished woken) commits named after ends runs unnamed idle = goes_out_kept (Finished woken) commits named after ends unnamed refl (λ again. idle_stuck after again idle)
  answer_kept Parked commits named after ends runs unnamed parked = goes_out_kept Parked commits named after ends unnamed refl (λ again. parked_stuck after parked again.0)
  answer_kept NotOwner commits named after ends runs unnamed idle = goes_out_kept NotOwner commits named after ends unnamed refl (λ again. idle_stuck after again idle)
  answer_kept TooDeep commits named after ends runs unnamed idle = goes_out_kept TooDeep commits named after ends unnamed refl (λ again. idle_stuck after again idle)
  answer_kept NoRule commits named after ends runs unnamed again = goes_on_kept NoRule commits named after ends runs refl again

  idle_kept : before ≡ Idle → EndsBy before → StepKept (Refused (refusal_number ThreadIdle)) false before
  unfolding goes_out refusal_number
  idle_kept idle ends =
      stopped_kept n (Step n) was before out ended plain kept (Refused 15) false before (λ again. idle_stuck before again idle) refl (goes 15 refl) (none_left (Refused 15) before ends)

  parked_kept : unparked before ≡ false → EndsBy before → StepKept (Refused (refusal_number ThreadParked)) false before
  unfolding goes_out refusal_number
  parked_kept parked ends =
      let none = none_left (Refused 16) before ends in
      record {
        runs = λ runs. parked_stuck before parked runs.0;
        besides = λ queued. either_way (kept.besides (sym (stays 16 refl) ∙ queued)) (λ runs. parked_stuck before parked runs.0)
            (λ left. parked_idle before parked (kept.idle left));
        idle = λ left. absurd (none left);
        right = λ left. absurd (none left);
      }

-- any event of a sound table that a schedule has come to
module _ (threads objects : ℕ) (table : ListTable) (sound : SoundTable threads objects table) (plain : Plain) (world : World table plain)
    (n : ℕ) (low : 1 ≤ n) (high : n ≤ threads) (was : Bool) (out ended : Type 0) (kept : Kept was (table.threads n).state out (plain.logs n)) where
  abbrev now : ThreadState
  now = (table.threads n).state

  -- what is asked of an event and what is shown of it
  abbrev pub Ended : Event → TurnOf ListTable → Type 0
  Ended event result = Ends n event was now out ended plain kept (result.table.threads n).state

  abbrev pub KeptAfter : Event → TurnOf ListTable → Type 0
  KeptAfter event result = KeptBy n event was now out ended plain kept result.reply (result.unparked n) (result.table.threads n).state

  step_kept : Ended (Step n) (turn threads objects table (Step n)) → KeptAfter (Step n) (turn threads objects table (Step n))
  step_kept =
      subst (λ (result : TurnOf ListTable). TurnedBy threads objects table sound n (Step n) result → Ended (Step n) result → KeptAfter (Step n) result)
      (sym (own_step threads objects table n low high now refl)) (at now refl) (turn_turned threads objects table sound n (Step n))
    where
      at : (state : ThreadState) → now ≡ state
          → let result = step_thread list_kind table n state in TurnedBy threads objects table sound n (Step n) result → Ended (Step n) result → KeptAfter (Step n) result
      at Idle is turned ends = idle_kept n was now out ended plain kept is ends
      at (Running doing) is turned ends =
          let performed = perform_at table (table.threads n).object n doing in
          let result = step_at table n doing in
          answer_kept n was now out ended plain kept performed.answer performed.commits (result.unparked n) (result.table.threads n).state ends (rw is (tt, tt))
          (turned.names ∙ ap (λ (state : ThreadState). both (not (unparked state)) (unparked (result.table.threads n).state)) is)
          (turned.own (counts n was now out ended plain kept (returned result.reply)))
      at (Queued carried) is turned ends = parked_kept n was now out ended plain kept (ap unparked is) ends
      at Contending is turned ends = parked_kept n was now out ended plain kept (ap unparked is) ends
      at (Waiting saved) is turned ends = parked_kept n was now out ended plain kept (ap unparked is) ends

  pub event_kept : (event : Event) → Ended event (turn threads objects table event) → KeptAfter event (turn threads objects table event)
  unfolding own_event
  event_kept event ends = split (own_event event (returned (turn threads objects table event).reply) n) (own event ends) other
    where
      steps_count : (number : ℕ) → event ≡ Step n → own_event event number n ≡ true
      steps_count number is = rw is (counts n was now out ended plain kept number)

      other : own_event event (returned (turn threads objects table event).reply) n ≡ false → KeptAfter event (turn threads objects table event)
      other away =
          other_kept n event was now out ended plain kept _ _ _ (turn_turned threads objects table sound n event) away
          (λ is. false≢true (sym away ∙ steps_count _ is)) ends
          (λ ended_now. let (not_step, busy, idle) = ends.0 ended_now in turn_ends threads objects table plain world n busy event not_step idle)

      own : (event : Event) → Ended event (turn threads objects table event) → own_event event (returned (turn threads objects table event).reply) n ≡ true
          → KeptAfter event (turn threads objects table event)
      own (Begin number thread object limit) ends counted =
          let event = Begin number thread object limit in
          let result = turn threads objects table event in
          let runs = (turn_turned threads objects table sound n event).own counted in
          running_kept n event was now out ended plain kept result.reply (result.unparked n) (result.table.threads n).state runs
          (begun_queued number thread object limit (returned result.reply) n was counted)
          (λ left. either_way left (λ ended_now. idle_stuck (result.table.threads n).state runs (ends.0 ended_now).2) (λ (before_it, away). false≢true (sym away ∙ counted)))
      own (Step thread) ends counted =
          let same : thread ≡ n = sym (eqb-true n thread counted) in
          subst (λ (m : ℕ). Ended (Step m) (turn threads objects table (Step m)) → KeptAfter (Step m) (turn threads objects table (Step m))) (sym same) step_kept ends
      own Tick ends counted = false≢true counted

-- a number that is no thread's never comes into the queue
pub outside_kept : (threads objects : ℕ) (table : ListTable) → SoundTable threads objects table → (n : ℕ) (event : Event)
    → let result = turn threads objects table event in
    (table.threads n).state ≡ Idle → (result.table.threads n).state ≡ Idle
    → either (result.unparked n) (own_queued event (returned result.reply) false n) ≡ false
unfolding own_queued
outside_kept threads objects table sound n event idle idle_after =
    let result = turn threads objects table event in
    let turned = turn_turned threads objects table sound n event in
    let unnamed : result.unparked n ≡ false =
    turned.names ∙ ap (λ (state : ThreadState). both (not (unparked state)) (unparked (result.table.threads n).state)) idle in
    ap (λ (named : Bool). either named (own_queued event (returned result.reply) false n)) unnamed ∙ at event turned idle_after
  where
    at : (event : Event)
        → let result = turn threads objects table event in
        TurnedBy threads objects table sound n event result → (result.table.threads n).state ≡ Idle
        → own_queued event (returned result.reply) false n ≡ false
    at (Begin number thread object limit) turned idle_after =
        let result = turn threads objects table (Begin number thread object limit) in
        split (own_event (Begin number thread object limit) (returned result.reply) n)
        (λ counted. idle_stuck (result.table.threads n).state (turned.own counted) idle_after)
        (λ away. own_queued_other (Begin number thread object limit) (returned result.reply) n false away)
    at (Step thread) turned idle_after =
        let number = returned (turn threads objects table (Step thread)).reply in both_no (not (both (own_event (Step thread) number n) (goes_out number)))
    at Tick turned idle_after = refl
