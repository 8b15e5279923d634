-- Runs are schedules of the same engine: so demand 3 and six steps hold of them.
use Prim.Native.Nat.{ℕ, suc}
use mathlib.Core.Path.{◌≡◌, refl, sym, ap, ◌∙◌, subst}
use mathlib.Core.List.{List, [], ◌∷◌, ◌++◌, append_assoc}
use native.Mathlib.Omega.{arith}
use lib.ListN.{length}
use Rattle.laws.proofs.Choice.{split}
use Rattle.lock_rules.specs.declared.event.Event.{Event}
use Rattle.lock_rules.specs.declared.event.Event.TheVariants.{Step as StepOf}
use Rattle.lock_table.specs.WellTyped.{WellTyped}
use Rattle.lock_table.specs.Fresh.{table_of}
use Rattle.lock_table.specs.declared.record.Table.{Table}
use Rattle.lock_engine.specs.Handle.{handle}
use Rattle.lock_schedule.specs.Schedule.{final_of}
use Rattle.lock_schedule.specs.Demand.{Claim}
use Rattle.lock_schedule.proofs.{Theorem.demand_three, Theorem.reached_well_typed, Steps.six_steps}
use Rattle.round_robin.specs.Dispatch.{Step}
use Rattle.round_robin.proofs.Machine.{Along}
use Rattle.round_robin.proofs.Runs.{run_along}
use Rattle.dispatch_rules.specs.Attempt.{Shown, begins_in, begun_in, attempt}
use Rattle.dispatch_rules.specs.Dispatch.{DispatchAnswer, most_steps, dispatch_answer, run_answered}
use Rattle.std.proofs.Common.{Ok, Err}
use Rattle.dispatch_rules.specs.Claims.{RunInput, given_world, given_run, events_of, RunsAreSchedules, RunsClaim}
use Rattle.dispatch_rules.specs.Script.{Scripted}
use Rattle.dispatch_rules.proofs.Good.{Good, good_attempt, attempt_same}
use Rattle.dispatch_rules.proofs.Ends.{first_good, runs}

-- schedules one behind the other
pub final_append : (table : Table) (xs ys : List Event) → final_of table (xs ++ ys) ≡ final_of (final_of table xs) ys
final_append table [] ys = refl
final_append table (x ∷ xs) ys = final_append (handle table x).table xs ys

events_append : (xs ys : List (Step Scripted Shown)) → events_of (xs ++ ys) ≡ events_of xs ++ events_of ys
events_append [] ys = refl
events_append (x ∷ xs) ys =
    ap (λ (events : List Event). x.shows.begun ++ (StepOf x.thread ∷ events)) (events_append xs ys)
    ∙ sym (append_assoc x.shows.begun (StepOf x.thread ∷ events_of xs) (events_of ys))

-- the events of a thread that may take a step
abbrev pub tried_events : List ℕ → ℕ → Scripted → List Event
tried_events scripts u w = begun_in scripts u w ++ (StepOf u ∷ [])

pub attempt_schedule : (scripts : List ℕ) (u : ℕ) (w : Scripted) → (attempt scripts u w).world.table ≡ final_of w.table (tried_events scripts u w)
attempt_schedule scripts u w = split (begins_in u w) (λ starts. rw starts refl) (λ waits. rw waits refl)

module _ (scripts : List ℕ) (threads objects : ℕ) where
  -- the table that a part of a run comes to
  abbrev Scheduled : Scripted → List (Step Scripted Shown) → Scripted → Type 0
  Scheduled w steps after = Good scripts threads objects w → Good scripts threads objects after × (after.table ≡ final_of w.table (events_of steps))

  scheduled : Along threads (attempt scripts) Scheduled
  scheduled =
      record {
        nothing = λ w good. (good, refl);
        behind = λ {u} {v} {w} {xs} {ys} first second good.
            let (between, one) = first good in
            let (after, other) = second between in
            (after, other ∙ (ap (λ (table : Table). final_of table (events_of ys)) one ∙ (sym (final_append u.table (events_of xs) (events_of ys)) ∙ ap (final_of u.table) (sym (events_append xs ys)))));
        step = λ u (low, high) w stepped good. (good_attempt scripts threads objects w good u low high, attempt_schedule scripts u w);
        no_step = λ u (low, high) w none good.
            (good_attempt scripts threads objects w good u low high, ap (λ (x : Scripted). x.table) (attempt_same scripts threads objects w good u low high none));
      }

pub runs_are_schedules : RunsAreSchedules
runs_are_schedules given table typed accepted =
    rw (runs given table typed accepted)
    (run_along (scheduled given.scripts table.threadcount table.objectcount) given.quantum (suc (most_steps table.threadcount given.cursors)) (given_world given table)
    (first_good given table typed accepted)).1

pub runs_claim : RunsClaim
runs_claim request in_range before given accepted =
    let first = table_of request in
    let table = final_of first before in
    let events = events_of (given_run given table).steps in (
      subst (Claim first (before ++ events))
          (final_append first before events ∙ sym (runs_are_schedules given table (reached_well_typed request in_range before) accepted))
          (demand_three request in_range (before ++ events)),
      six_steps request in_range (before ++ events),
    )

-- A run without a step leaves the table, refused or not.
no_events : (steps : List (Step Scripted Shown)) → length steps ≡ 0 → events_of steps ≡ []
no_events [] none = refl
no_events (step ∷ steps) none = absurd (omega (arith, none))

pub unstepped_same : (given : RunInput) (table : Table) → WellTyped table → length (given_run given table).steps ≡ 0 → (given_run given table).world.table ≡ table
unfolding run_answered
unstepped_same given table typed none = by_answer (dispatch_answer given.scripts given.quantum given.lent (given_world given table)) refl
  where
    by_answer : (answer : DispatchAnswer) → dispatch_answer given.scripts given.quantum given.lent (given_world given table) ≡ answer
        → (given_run given table).world.table ≡ table
    by_answer (Ok ended) is = runs_are_schedules given table typed is ∙ ap (final_of table) (no_events (given_run given table).steps none)
    by_answer (Err refusal) is = rw is refl
