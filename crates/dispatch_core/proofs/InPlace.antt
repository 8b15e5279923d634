-- The run as its loop carries it out: one table and one array of cursors, changed in place. What was done so far and what is left give what the whole run
-- gives.
use Prim.Native.Nat.{ℕ, suc, ◌+◌, ◌*◌, ◌≤◌, ◌<◌}
use mathlib.Core.Path.{◌≡◌, refl, sym, ap, ◌∙◌, subst}
use mathlib.Core.Logic.{◌⊎◌}
use mathlib.Core.Bool.{Bool, true, false}
use mathlib.Core.List.{List, [], ◌∷◌, ◌++◌, append_assoc, append-nil}
use native.Mathlib.Omega.{arith}
use lib.ListN.{length, get_or, set, length-append}
use lib.Seq.{set-get_or, get_or-set_same}
use borrow.Author.Tests.{lt-ltb}
use Rattle.laws.specs.Choice.{pick}
use Rattle.laws.specs.Count.{one_if}
use Rattle.lock_rules.specs.declared.event.Event.TheVariants.{Step as StepOf}
use Rattle.lock_rules.specs.declared.event.ThreadStatus.{ThreadStatus}
use Rattle.lock_table.specs.Limits.{thread_limit}
use Rattle.lock_table.specs.Record.{no_thread, no_object}
use Rattle.lock_table.specs.Place.{thread_place, object_place}
use Rattle.lock_table.specs.Access.{thread_at}
use Rattle.lock_table.specs.WellTyped.{WellTyped}
use Rattle.lock_table.specs.declared.record.ThreadRecord.{ThreadRecord}
use Rattle.lock_table.specs.declared.record.Table.{Table}
use Rattle.lock_table.proofs.Records.{thread_in, set_thread_in}
use Rattle.lock_table.proofs.Places.{place_has, place_inside}
use Rattle.lock_gate.specs.Status.{thread_status}
use Rattle.lock_soundness.proofs.Reading.{sound_reads}
use Rattle.lock_engine.specs.Outcome.{reply_returned}
use Rattle.lock_engine.specs.Handle.{handle_trusting, handle}
use Rattle.lock_engine.specs.declared.outcome.Outcome.{Outcome}
use Rattle.step_bounds.specs.SixSteps.{is_step}
use Rattle.round_robin.specs.Dispatch.{Tried, Step, Ran, still, taken, with_step, run}
use Rattle.dispatch_rules.specs.Script.{no_cursor, cursor_at, begins}
use Rattle.dispatch_rules.specs.Attempt.{Shown, goes_on, begins_in, begun_in, begin_next, attempt}
use Rattle.std.proofs.Common.{Ok, Err}
use Rattle.dispatch_rules.specs.Dispatch.{DispatchAnswer, most_steps, steps_room, scripted, dispatch_answer, run_answered, dispatched, is_begun, trace_entry, entry_of, traced}
use Rattle.dispatch_rules.specs.declared.ScriptCursor.{ScriptCursor}
use Rattle.dispatch_rules.specs.Script.{Scripted}
use Rattle.dispatch_rules.specs.Claims.{RunInput}
use Rattle.dispatch_rules.proofs.Cursors.{begins_says}
use Rattle.dispatch_rules.proofs.Ends.{runs_end}
use Rattle.dispatch_rules.proofs.Good.{Good, good_first, few_threads, begin_accepted, good_begin, good_attempt}
use Rattle.dispatch_core.specs.Records.{record_ready, cursor_after}
use Rattle.dispatch_core.specs.Position.{round_room, first_position, next_position}
use Rattle.dispatch_core.specs.declared.position.Position.{Position}
use Rattle.dispatch_core.proofs.Positions.{left_at, left_over, left_first, left_next, next_inside}
use Rattle.dispatch_core.proofs.Measure.{loop_room, ahead, some_ahead, next_less, first_few}

-- steps that were taken, and what is left
abbrev behind : List (Step Scripted Shown) → Ran Scripted Shown → Ran Scripted Shown
behind done ran = record { world = ran.world; steps = done ++ ran.steps }

-- an entry more
traced_one : (place : ℕ) (trace : List ℕ) (done : List (Step Scripted Shown)) (step : Step Scripted Shown)
    → traced place trace (done ++ (step ∷ [])) ≡ set (traced place trace done) (place + length done) (entry_of step)
unfolding traced
traced_one place trace [] step = ap (λ (at : ℕ). set trace at (entry_of step)) (let same : place ≡ place + 0 = omega arith in same)
traced_one place trace (first ∷ done) step =
    traced_one (suc place) (set trace place (entry_of first)) done step
    ∙ ap (λ (at : ℕ). set (traced (suc place) (set trace place (entry_of first)) done) at (entry_of step)) (let same : suc place + length done ≡ place + suc (length done) = omega arith in same)

-- the table with one thread's record set in place
abbrev pub with_own : Table → ℕ → ThreadRecord → Table
with_own table place own =
    record { threadcount = table.threadcount; objectcount = table.objectcount; threads = set table.threads place own; objects = table.objects }

module _ (scripts : List ℕ) (threads objects : ℕ) (w : Scripted) (good : Good scripts threads objects w) (thread : ℕ) (low : 1 ≤ thread) (high : thread ≤ threads) where
  abbrev place : ℕ
  place = thread_place thread

  abbrev before : ThreadRecord
  before = get_or w.table.threads place no_thread

  abbrev cursor : ScriptCursor
  cursor = cursor_at w.cursors thread

  abbrev starts : Bool
  starts = begins (thread_status before.phase) cursor

  inside : thread ≤ thread_limit
  inside = omega (arith, high, few_threads scripts threads objects w good)

  record_here : thread_at w.table thread ≡ before
  record_here =
      thread_in w.table thread (λ e. omega (arith, e, low)) inside
      ∙ ap (λ (at : ℕ). get_or w.table.threads at no_thread) (sym (place_has thread_limit thread (λ e. omega (arith, e, low), inside)))

  starts_so : begins_in thread w ≡ starts
  starts_so = ap (λ (own : ThreadRecord). begins (thread_status own.phase) cursor) record_here

  -- the next operation is begun in place
  abbrev readied : Bool → Scripted
  readied started = scripted (with_own w.table place (record_ready started scripts before cursor)) (set w.cursors place (cursor_after started cursor))

  begun_so : (started : Bool) → begins_in thread w ≡ started → readied started ≡ begin_next scripts thread w
  unfolding record_ready cursor_after
  begun_so true is =
      let left = (begins_says (thread_status (thread_at w.table thread).phase) cursor is).1 in
      rw (
        is,
        lt-ltb cursor.cursor cursor.length left,
        begin_accepted scripts threads objects w good thread low high is,
        record_here,
        set_thread_in w.table thread _ (λ e. omega (arith, e, low)) inside,
        place_has thread_limit thread (λ e. omega (arith, e, low), inside),
      ) refl
  begun_so false is =
      rw is (λ j. scripted
      (record {
        threadcount = w.table.threadcount;
        objectcount = w.table.objectcount;
        threads = set-get_or w.table.threads place no_thread j;
        objects = w.table.objects;
      })
      (set-get_or w.cursors place no_cursor j))

  -- what the loop's locals are when the thread may take its step
  pub record Readied (at : ℕ) (status : ThreadStatus) (started : Bool) (own : ThreadRecord) (moved : ScriptCursor) : Type 0 where
    pub place_is : at ≡ place
    pub status_is : status ≡ thread_status (get_or w.table.threads at no_thread).phase
    pub started_is : started ≡ begins status (get_or w.cursors at no_cursor)
    pub own_is : own ≡ record_ready started scripts (get_or w.table.threads at no_thread) (get_or w.cursors at no_cursor)
    pub moved_is : moved ≡ cursor_after started (get_or w.cursors at no_cursor)

  module _ {at : ℕ} {status : ThreadStatus} {started : Bool} {own : ThreadRecord} {moved : ScriptCursor} (ready : Readied at status started own moved) where
    pub started_so : started ≡ begins_in thread w
    started_so = rw (ready.started_is, ready.status_is, ready.place_is) (sym starts_so)

    pub ready_so : scripted (with_own w.table at own) (set w.cursors at moved) ≡ begin_next scripts thread w
    ready_so = rw (ready.own_is, ready.moved_is, ready.place_is) (begun_so started (sym started_so))

    -- the step, as the engine takes it of a table that it takes to be sound
    pub stepped_so : {outcome : Outcome} → outcome ≡ handle_trusting (with_own w.table at own) (StepOf thread) true
        → outcome ≡ handle (begin_next scripts thread w).table (StepOf thread)
    unfolding handle
    stepped_so is =
        is ∙ ap (λ (x : Scripted). handle_trusting x.table (StepOf thread) true) ready_so
        ∙ ap (handle_trusting (begin_next scripts thread w).table (StepOf thread)) (sym (good_begin scripts threads objects w good thread low high).sound)

begun_mark : (scripts : List ℕ) (thread : ℕ) (w : Scripted) (started : Bool) → begins_in thread w ≡ started → is_begun (begun_in scripts thread w) ≡ started
begun_mark scripts thread w true is = rw is refl
begun_mark scripts thread w false is = rw is refl

-- what is known while the run goes on
pub record Alive (scripts : List ℕ) (q threads objects : ℕ) (w : Scripted) (position : Position) : Type 0 where
  pub good : Good scripts threads objects w
  pub low : 1 ≤ position.thread
  pub high : position.thread ≤ threads

-- what was done and what is left, from the loop's locals
pub record Going (scripts : List ℕ) (q threads objects : ℕ) (whole : Ran Scripted Shown) (trace₀ trace : List ℕ) (w : Scripted) (steps : ℕ) (position : Position) : Type 0 where
  pub done : List (Step Scripted Shown)
  pub whole_is : whole ≡ behind done (left_at (attempt scripts) q threads position w)
  pub steps_are : steps ≡ length done
  pub trace_is : trace ≡ traced 0 trace₀ done
  pub room : steps + ahead threads q position ≤ loop_room
  pub alive : 0 < position.left → (1 ≤ q) × Alive scripts q threads objects w position

module _ {scripts : List ℕ} {q threads objects : ℕ} {whole : Ran Scripted Shown} {trace₀ trace : List ℕ} {w : Scripted} {steps : ℕ} {position : Position}
    (going : Going scripts q threads objects whole trace₀ trace w steps position) where
  module _ (more : 0 < position.left) where
    abbrev some_steps : 1 ≤ q
    some_steps = (going.alive more).0

    abbrev here : Alive scripts q threads objects w position
    here = (going.alive more).1

    some_threads : 1 ≤ threads
    some_threads = omega (arith, here.low, here.high)

    pub goes_round : {outcome : Outcome} {started took : Bool} {after : Scripted} {trace' : List ℕ} {steps' : ℕ} {next : Position}
        → started ≡ begins_in position.thread w
        → outcome ≡ handle (begin_next scripts position.thread w).table (StepOf position.thread)
        → after ≡ scripted outcome.table (begin_next scripts position.thread w).cursors
        → took ≡ is_step (reply_returned outcome.reply)
        → trace' ≡ pick took (set trace steps (trace_entry position.thread started outcome.reply outcome.commits outcome.unparked)) trace
        → steps' ≡ steps + one_if took
        → next ≡ next_position threads q position took (goes_on (reply_returned outcome.reply))
        → Going scripts q threads objects whole trace₀ trace' after steps' next
    goes_round {outcome} {started} {took} {after} {trace'} {steps'} {next} start same came stepped traces counts goes =
        rw (trace_is, steps_is, next_is, after_is) (core tried.stepped refl)
      where
        thread : ℕ
        thread = position.thread

        tried : Tried Scripted Shown
        tried = attempt scripts thread w

        one : Step Scripted Shown
        one = taken thread tried

        took_is : took ≡ tried.stepped
        took_is = stepped ∙ ap (λ (o : Outcome). is_step (reply_returned o.reply)) same

        entry_is : trace_entry thread started outcome.reply outcome.commits outcome.unparked ≡ entry_of one
        entry_is = λ j. trace_entry thread ((start ∙ sym (begun_mark scripts thread w (begins_in thread w) refl)) j) (same j).reply (same j).commits (same j).unparked

        trace_is : trace' ≡ pick tried.stepped (set trace steps (entry_of one)) trace
        trace_is = traces ∙ (λ j. pick (took_is j) (set trace steps (entry_is j)) trace)

        steps_is : steps' ≡ steps + one_if tried.stepped
        steps_is = counts ∙ ap (λ (b : Bool). steps + one_if b) took_is

        next_is : next ≡ next_position threads q position tried.stepped tried.on
        next_is = goes ∙ (λ j. next_position threads q position (took_is j) (goes_on (reply_returned (same j).reply)))

        after_is : after ≡ tried.world
        after_is = came ∙ ap (λ (o : Outcome). scripted o.table (begin_next scripts thread w).cursors) same

        -- what is left after it
        left_so : (took : Bool) → tried.stepped ≡ took
            → let rest = left_at (attempt scripts) q threads (next_position threads q position took tried.on) tried.world in
            left_at (attempt scripts) q threads position w ≡ pick took (with_step one rest) rest
        left_so took is =
            subst
            (λ (b : Bool). let rest = left_at (attempt scripts) q threads (next_position threads q position b tried.on) tried.world in
            left_at (attempt scripts) q threads position w ≡ pick b (with_step one rest) rest) is
            (left_next (attempt scripts) q threads some_steps some_threads position more w)

        lives : (took : Bool) → (1 ≤ q) × Alive scripts q threads objects tried.world (next_position threads q position took tried.on)
        lives took =
            let (low, high) = next_inside threads q some_threads position took tried.on here.low here.high in
            (some_steps, record { good = good_attempt scripts threads objects w here.good thread here.low here.high; low = low; high = high })

        less : (took : Bool) → ahead threads q (next_position threads q position took tried.on) < ahead threads q position
        less took = next_less threads q some_threads position took tried.on more here.high

        at_end : steps ≡ 0 + length going.done
        at_end = omega (arith, going.steps_are)

        core : (took : Bool) → tried.stepped ≡ took
            → Going scripts q threads objects whole trace₀ (pick took (set trace steps (entry_of one)) trace) tried.world (steps + one_if took)
            (next_position threads q position took tried.on)
        core true is =
            let rest = left_at (attempt scripts) q threads (next_position threads q position true tried.on) tried.world in
            record {
              done = going.done ++ (one ∷ []);
              whole_is = going.whole_is ∙ ap (behind going.done) (left_so true is)
                  ∙ (λ j. record { world = rest.world; steps = sym (append_assoc going.done (one ∷ []) rest.steps) j });
              steps_are = let sum : length (going.done ++ (one ∷ [])) ≡ length going.done + 1 = length-append going.done (one ∷ []) in
                  omega (arith, going.steps_are, sum);
              trace_is = (λ j. set (going.trace_is j) (at_end j) (entry_of one)) ∙ sym (traced_one 0 trace₀ going.done one);
              room = omega (arith, going.room, less true);
              alive = λ on. lives true;
            }
        core false is =
            record {
              done = going.done;
              whole_is = going.whole_is ∙ ap (behind going.done) (left_so false is);
              steps_are = omega (arith, going.steps_are);
              trace_is = going.trace_is;
              room = omega (arith, going.room, less false);
              alive = λ on. lives false;
            }

    -- the loop comes nearer its end
    pub goes_less : {next : Position} (took on : Bool) → next ≡ next_position threads q position took on → ahead threads q next < ahead threads q position
    goes_less took on goes = rw goes (next_less threads q some_threads position took on more here.high)

  -- the run is over
  pub run_over : position.left ≤ 0 → (w ≡ whole.world) × (steps ≡ length whole.steps) × (trace ≡ traced 0 trace₀ whole.steps)
  run_over none =
      let ended : whole ≡ behind going.done (still w) = going.whole_is ∙ ap (behind going.done) (left_over (attempt scripts) q threads position w none) in
      let all : whole.steps ≡ going.done = ap (λ (ran : Ran Scripted Shown). ran.steps) ended ∙ append-nil going.done in (
        sym (ap (λ (ran : Ran Scripted Shown). ran.world) ended),
        going.steps_are ∙ ap length (sym all),
        going.trace_is ∙ ap (traced 0 trace₀) (sym all),
      )

  -- there is room to count one more
  pub counts_fit : 0 < position.left → (took : Bool) → steps + one_if took ≤ loop_room
  counts_fit more true = omega (arith, going.room, some_ahead threads q position more)
  counts_fit more false = omega (arith, going.room)

-- the run begins, or is over where it is refused
pub run_begins : (scripts : List ℕ) (q lent : ℕ) (w : Scripted) (trace : List ℕ) (answer : DispatchAnswer) (rounds : ℕ) → WellTyped w.table
    → length w.cursors ≡ thread_limit → answer ≡ dispatch_answer scripts q lent w → rounds ≡ most_steps w.table.threadcount w.cursors
    → rounds ≤ w.table.threadcount * round_room
    → Going scripts q w.table.threadcount w.table.objectcount (dispatched scripts q lent w) trace trace w 0 (first_position answer q rounds)
unfolding traced first_position run_answered
run_begins scripts q lent w trace answer rounds typed long is rounds_are few =
    record {
      done = [];
      whole_is = ap (λ (a : DispatchAnswer). run_answered a scripts q w) (sym is) ∙ whole answer is;
      steps_are = refl;
      trace_is = refl;
      room = first_room answer is;
      alive = first_alive answer is;
    }
  where
    threads : ℕ
    threads = w.table.threadcount

    some_thread : Good scripts threads w.table.objectcount w → 1 ≤ threads
    some_thread good = (sound_reads w.table good.sound).sizes.0.0

    whole : (a : DispatchAnswer) → a ≡ dispatch_answer scripts q lent w
        → run_answered a scripts q w ≡ left_at (attempt scripts) q threads (first_position a q rounds) w
    whole (Ok ended) is =
        let (good, (some, small), all) = good_first scripts q lent w typed long (sym is) in
        ap (λ (n : ℕ). run (attempt scripts) q threads (suc n) w) (sym rounds_are) ∙ left_first (attempt scripts) q threads some (some_thread good) rounds w
    whole (Err refusal) is = refl

    first_room : (a : DispatchAnswer) → a ≡ dispatch_answer scripts q lent w → 0 + ahead threads q (first_position a q rounds) ≤ loop_room
    first_room (Ok ended) is =
        let (good, (some, small), all) = good_first scripts q lent w typed long (sym is) in
        let fits = first_few threads q rounds (few_threads scripts threads w.table.objectcount w good) small few in omega (arith, fits)
    first_room (Err refusal) is = omega arith

    first_alive : (a : DispatchAnswer) → a ≡ dispatch_answer scripts q lent w → 0 < (first_position a q rounds).left
        → (1 ≤ q) × Alive scripts q threads w.table.objectcount w (first_position a q rounds)
    first_alive (Ok ended) is more =
        let (good, (some, small), all) = good_first scripts q lent w typed long (sym is) in
        (some, record { good = good; low = omega arith; high = some_thread good })
    first_alive (Err refusal) is more = absurd (omega (arith, more))

-- a run takes few steps: none where it is refused
pub run_few : (scripts : List ℕ) (q lent : ℕ) (w : Scripted) (answer : DispatchAnswer) (rounds : ℕ) → WellTyped w.table → length w.cursors ≡ thread_limit
    → answer ≡ dispatch_answer scripts q lent w → rounds ≡ most_steps w.table.threadcount w.cursors → rounds ≤ w.table.threadcount * round_room
    → let steps = length (run_answered answer scripts q w).steps in (steps ≤ most_steps w.table.threadcount w.cursors) × (steps < steps_room)
unfolding run_answered
run_few scripts q lent w (Ok ended) rounds typed long is rounds_are few =
    let (good, small, all) = good_first scripts q lent w typed long (sym is) in
    let threads = few_threads scripts w.table.threadcount w.table.objectcount w good in
    let given : RunInput = record { scripts = scripts; quantum = q; lent = lent; cursors = w.cursors; long = long } in
    let most : length (run_answered (Ok ended) scripts q w).steps ≤ most_steps w.table.threadcount w.cursors =
    subst (λ (a : DispatchAnswer). length (run_answered a scripts q w).steps ≤ most_steps w.table.threadcount w.cursors) (sym is)
    (runs_end given w.table typed (sym is)).2 in
    (most, omega (arith, most, rounds_are, few, threads))
run_few scripts q lent w (Err refusal) rounds typed long is rounds_are few = (omega arith, omega arith)
