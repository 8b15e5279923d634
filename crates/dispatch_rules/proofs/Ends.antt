-- Runs end: a size of worlds that falls with every step, on every sound table.
use Prim.Native.Nat.{ℕ, suc, ◌+◌, ◌*◌, ◌≤◌, ◌<◌}
use mathlib.Core.Path.{◌≡◌, ap}
use mathlib.Core.List.{List}
use native.Mathlib.Omega.{arith}
use Rattle.laws.proofs.Choice.{by_test}
use Rattle.lock_table.specs.Access.{thread_at}
use Rattle.lock_table.specs.WellTyped.{WellTyped}
use Rattle.lock_table.specs.declared.record.Table.{Table}
use Rattle.lock_gate.specs.Status.{thread_status}
use Rattle.lock_engine.specs.Outcome.{reply_returned}
use Rattle.lock_engine.specs.declared.outcome.Outcome.{Outcome}
use Rattle.step_measure.proofs.Theorem.{work_left, step_lowers, begin_adds, work_most}
use Rattle.round_robin.proofs.Machine.{Ending}
use Rattle.round_robin.proofs.Fairness.{run_spent, run_last_still, run_ends}
use Rattle.dispatch_rules.specs.Script.{operation_at, object_of, cursor_at, next_place}
use Rattle.dispatch_rules.specs.Attempt.{begins_in, begin_next, attempt}
use Rattle.dispatch_rules.specs.Dispatch.{step_weight, quantum_limit, operations_left, most_steps, rounds_of, run_answered, DispatchAnswer}
use Rattle.dispatch_rules.specs.Claims.{RunInput, given_world, given_run, Accepted, RunsEnd}
use Rattle.dispatch_rules.specs.Script.{Scripted}
use Rattle.dispatch_rules.proofs.Cursors.{begins_says, moved_less}
use Rattle.dispatch_rules.proofs.Good.{Good, good_first, few_threads, begin_accepted, good_begin, good_attempt, attempt_same}

-- the work left on the table, and for each operation that is still to begin more than its begin adds
abbrev pub size : ℕ → Scripted → ℕ
size threads w = work_left w.table + step_weight * operations_left threads w.cursors

module _ (scripts : List ℕ) (threads objects : ℕ) where
  -- a begin does not raise it
  begin_lowers : (u : ℕ) → 1 ≤ u → u ≤ threads → (w : Scripted) → Good scripts threads objects w → size threads (begin_next scripts u w) ≤ size threads w
  unfolding reply_returned
  begin_lowers u low high w good =
      let cursor = cursor_at w.cursors u in
      by_test (λ (x : Scripted). size threads x ≤ size threads w) (begins_in u w)
      (λ starts. let (idle, left) = begins_says (thread_status (thread_at w.table u).phase) cursor starts in
      omega (
        arith,
        begin_adds w.table good.typed good.sound (operation_at scripts (next_place cursor)) u (object_of scripts (next_place cursor)) 0
            (ap (λ (outcome : Outcome). reply_returned outcome.reply) (begin_accepted scripts threads objects w good u low high starts)),
        moved_less w.cursors good.long u low threads high (few_threads scripts threads objects w good) left,
      ))
      (λ none. omega arith)

  pub ending : Ending threads (attempt scripts) (Good scripts threads objects) (size threads)
  ending =
      record {
        good = λ u (low, high) w good. good_attempt scripts threads objects w good u low high;
        same = λ u (low, high) w good. attempt_same scripts threads objects w good u low high;
        falls = λ u (low, high) w good stepped.
            let ready = begin_next scripts u w in
            let fine = good_begin scripts threads objects w good u low high in
            omega (arith, begin_lowers u low high w good, step_lowers ready.table fine.typed fine.sound u stepped);
      }

-- a run that nothing refuses
module _ (given : RunInput) (table : Table) (typed : WellTyped table) (accepted : Accepted given table) where
  abbrev start : Scripted
  start = given_world given table

  abbrev threads : ℕ
  threads = table.threadcount

  abbrev quantum : ℕ
  quantum = given.quantum

  first : Good given.scripts threads table.objectcount start × ((1 ≤ quantum) × (quantum ≤ quantum_limit)) × (given.lent ≡ threads)
  first = good_first given.scripts quantum given.lent start typed given.long accepted

  pub first_good : Good given.scripts threads table.objectcount start
  first_good = first.0

  pub some_steps : 1 ≤ quantum
  some_steps = first.1.0

  -- its steps are at most the size at its start, and its rounds are more
  pub few_steps : size threads start ≤ most_steps threads given.cursors
  few_steps = omega (arith, work_most table typed first_good.sound)

  pub enough_rounds : size threads start < suc (most_steps threads given.cursors)
  enough_rounds = omega (arith, few_steps)

  -- it is a run of the scripts
  pub runs : given_run given table ≡ rounds_of given.scripts quantum start
  unfolding run_answered
  runs = ap (λ (answer : DispatchAnswer). run_answered answer given.scripts quantum start) accepted

pub runs_end : RunsEnd
runs_end given table typed accepted =
    let good = first_good given table typed accepted in
    let threads = table.threadcount in
    let rounds = suc (most_steps threads given.cursors) in
    let machine = ending given.scripts threads table.objectcount in
    rw (runs given table typed accepted) (
      run_last_still machine given.quantum rounds (given_world given table) good (enough_rounds given table typed accepted),
      run_ends machine given.quantum (some_steps given table typed accepted) rounds (given_world given table) good (enough_rounds given table typed accepted),
      omega (arith, few_steps given table typed accepted, (run_spent machine given.quantum rounds (given_world given table) good).1),
    )
