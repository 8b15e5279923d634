-- Runs are fair, and at the end nobody unparked has work left: from every table that a schedule makes from a fresh one.
use Prim.Native.Nat.{ℕ, suc, ◌≤◌}
use mathlib.Core.Path.{◌≡◌, refl, sym, ap, ◌∙◌, subst}
use mathlib.Core.Logic.{◌≢◌}
use mathlib.Core.Bool.{true, false}
use mathlib.Core.List.{List, ◌++◌}
use native.Mathlib.Omega.{arith}
use Rattle.laws.proofs.Choice.{split, by_test, false≢true}
use Rattle.lock_rules.specs.Gate.{is_parked}
use Rattle.lock_rules.specs.declared.event.{Event.Event, ThreadStatus.ThreadStatus}
use Rattle.lock_rules.specs.declared.event.Event.TheVariants.{Step}
use Rattle.lock_rules.specs.declared.event.ThreadStatus.TheVariants.{Idle, Ready, Parked}
use Rattle.lock_table.specs.WellTyped.{WellTyped}
use Rattle.lock_table.specs.Fresh.{InRange, table_of}
use Rattle.lock_table.specs.declared.fresh_table.FreshRequest.{FreshRequest}
use Rattle.lock_table.specs.declared.record.Table.{Table}
use Rattle.lock_engine.specs.Outcome.{reply_returned}
use Rattle.lock_engine.specs.Handle.{handle}
use Rattle.step_bounds.specs.SixSteps.{is_step}
use Rattle.lock_records.specs.Unparked.{CanStep}
use Rattle.lock_records.proofs.Claim.{schedule_represents}
use Rattle.lock_schedule.specs.Schedule.{final_of}
use Rattle.lock_schedule.proofs.{Theorem.from_fresh, Theorem.reached_well_typed, Steps.steps_by_start}
use Rattle.round_robin.specs.Dispatch.{run}
use Rattle.round_robin.specs.Fair.{Fair}
use Rattle.round_robin.proofs.Machine.{Ending, Fairly}
use Rattle.round_robin.proofs.Fairness.{run_spent, run_ends, turns_still, run_fair}
use Rattle.dispatch_rules.specs.Script.{cursor_at, next_begin, moved_on, begins, has_work}
use Rattle.dispatch_rules.specs.Attempt.{begins_in, begin_next, attempt, ready_in}
use Rattle.dispatch_rules.specs.Dispatch.{most_steps}
use Rattle.dispatch_rules.specs.Claims.{RunInput, given_world, given_run, Accepted, RunsFair, NobodyLeft}
use Rattle.dispatch_rules.specs.declared.ScriptCursor.{ScriptCursor}
use Rattle.dispatch_rules.specs.Script.{Scripted}
use Rattle.dispatch_rules.proofs.Cursors.{cursor_set_other}
use Rattle.dispatch_rules.proofs.Good.{Good, few_threads, begun_attempt, good_begin}
use Rattle.dispatch_rules.proofs.Ends.{size, ending, first_good, some_steps, enough_rounds, runs}
use Rattle.dispatch_rules.proofs.Schedules.{final_append, tried_events, attempt_schedule}
use Rattle.dispatch_rules.proofs.Statuses.{status_at, status_kept, ready_steps}

-- who has work is not parked
work_unparked : (status : ThreadStatus) (cursor : ScriptCursor) → has_work status cursor ≡ true → is_parked status ≡ false
unfolding has_work
work_unparked Idle cursor e = refl
work_unparked Ready cursor e = refl
work_unparked Parked cursor e = false≢true e

-- and begins an operation or is ready
work_ready : (status : ThreadStatus) (cursor : ScriptCursor) → has_work status cursor ≡ true → begins status cursor ≡ false → status ≡ Ready
unfolding has_work begins
work_ready Idle cursor e none = false≢true (sym none ∙ e)
work_ready Ready cursor e none = refl
work_ready Parked cursor e none = false≢true e

-- what its work is read from, in two worlds
abbrev Alike : ℕ → Scripted → Scripted → Type 0
Alike n w after = (status_at after.table n ≡ status_at w.table n) × (cursor_at after.cursors n ≡ cursor_at w.cursors n)

module _ (scripts : List ℕ) (request : FreshRequest) (in_range : InRange request) (threads objects : ℕ) where
  -- a good world whose table a schedule makes from a fresh one
  abbrev Reached : Scripted → Type 0
  Reached w = Good scripts threads objects w × ((events : List Event) × (w.table ≡ final_of (table_of request) events))

  reached_ending : Ending threads (attempt scripts) Reached (size threads)
  reached_ending =
      let every = ending scripts threads objects in
      record {
        good = λ u is w (good, (events, from)). (
          every.good u is w good,
          (
            events ++ tried_events scripts u w,
            attempt_schedule scripts u w
                ∙ (ap (λ (table : Table). final_of table (tried_events scripts u w)) from ∙ sym (final_append (table_of request) events (tried_events scripts u w))),
          ),
        );
        same = λ u is w (good, from). every.same u is w good;
        falls = λ u is w (good, from). every.falls u is w good;
      }

  module _ (u : ℕ) (low : 1 ≤ u) (high : u ≤ threads) (w : Scripted) (reached : Reached w) where
    good : Good scripts threads objects w
    good = reached.0

    -- who is ready can take a step
    steps_able : ready_in u w ≡ true → (attempt scripts u w).stepped ≡ true
    steps_able works =
        split (begins_in u w) (begun_attempt scripts threads objects w good u low high)
        (λ none. rw none
        (let (events, from) = reached.1 in
        subst (λ (table : Table). CanStep table u → is_step (reply_returned (handle table (Step u)).reply) ≡ true) (sym from) (steps_by_start request in_range events u).able
        (ready_steps w.table good.typed good.sound u (work_ready (status_at w.table u) (cursor_at w.cursors u) works none))))

    -- another stays as it is
    module _ (n : ℕ) (real : 1 ≤ n) (inside : n ≤ threads) (away : n ≢ u) (free : is_parked (status_at w.table n) ≡ false) where
      begin_alike : Alike n w (begin_next scripts u w)
      begin_alike =
          by_test (Alike n w) (begins_in u w)
          (λ starts. (
            status_kept w.table good.typed good.sound n (next_begin scripts u (cursor_at w.cursors u)) away free,
            (let few = few_threads scripts threads objects w good in
                cursor_set_other w.cursors good.long u low (omega (arith, high, few)) (moved_on (cursor_at w.cursors u)) n real (omega (arith, inside, few)) away),
          ))
          (λ waits. (refl, refl))

      attempt_alike : Alike n w (attempt scripts u w).world
      attempt_alike =
          let ready = begin_next scripts u w in
          let fine = good_begin scripts threads objects w good u low high in
          let (status, cursor) = begin_alike in
          (status_kept ready.table fine.typed fine.sound n (Step u) away (rw status free) ∙ status, cursor)

  fairly : Fairly threads (attempt scripts) ready_in Reached
  fairly =
      record {
        steps = λ u (low, high) w reached. steps_able u low high w reached;
        keeps = λ u (low, high) n (real, inside) away w reached works.
            let (status, cursor) = attempt_alike u low high w reached n real inside (λ e. away (sym e)) (work_unparked (status_at w.table n) (cursor_at w.cursors n) works) in
            (λ j. has_work (status j) (cursor j)) ∙ works;
      }

-- a run from a table that a schedule makes from a fresh one
module _ (request : FreshRequest) (in_range : InRange request) (before : List Event) (given : RunInput) where
  abbrev table : Table
  table = final_of (table_of request) before

  abbrev start : Scripted
  start = given_world given table

  -- it is well typed and has the sizes that were asked for
  fits : WellTyped table × (table.threadcount ≡ request.threads)
  fits =
      let (represents, sound, same) = schedule_represents request in_range before in
      (reached_well_typed request in_range before, rw (from_fresh request in_range before).0 represents.threadcount)

  module _ (accepted : Accepted given table) where
    abbrev rounds : ℕ
    rounds = suc (most_steps table.threadcount given.cursors)

    reached : Reached given.scripts request in_range table.threadcount table.objectcount start
    reached = (first_good given table fits.0 accepted, (before, refl))

    machine : Ending table.threadcount (attempt given.scripts) (Reached given.scripts request in_range table.threadcount table.objectcount) (size table.threadcount)
    machine = reached_ending given.scripts request in_range table.threadcount table.objectcount

    fair : Fair ready_in given.quantum request.threads start (given_run given table).steps
    fair =
        subst (λ (threads : ℕ). Fair ready_in given.quantum threads start (given_run given table).steps) fits.1
        (rw (runs given table fits.0 accepted)
        (run_fair machine (fairly given.scripts request in_range table.threadcount table.objectcount) given.quantum (some_steps given table fits.0 accepted) rounds start reached
        (enough_rounds given table fits.0 accepted)))

    left : (n : ℕ) → 1 ≤ n → n ≤ request.threads → ready_in n (given_run given table).world ≡ false
    left n low high =
        let some = some_steps given table fits.0 accepted in
        let last = (run (attempt given.scripts) given.quantum table.threadcount rounds start).world in
        let good = (run_spent machine given.quantum rounds start reached).0 in
        let ended = run_ends machine given.quantum some rounds start reached (enough_rounds given table fits.0 accepted) in
        let within : n ≤ table.threadcount = rw fits.1 high in
        let none = (turns_still machine given.quantum some table.threadcount 1 (omega arith) (omega arith) last good ended).1 n low (omega (arith, within)) in
        rw (runs given table fits.0 accepted)
        (split (ready_in n last)
        (λ works. false≢true (sym none ∙ (fairly given.scripts request in_range table.threadcount table.objectcount).steps n (low, within) last good works))
        (λ idle. idle))

pub runs_fair : RunsFair
runs_fair = fair

pub nobody_left : NobodyLeft
nobody_left = left
