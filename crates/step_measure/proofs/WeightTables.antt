-- Tables with lists: a step that is one lowers the sum of all threads' weights, and a begin adds at most the largest weight.
use Prim.Native.Nat.{ℕ, ◌+◌, ◌≤◌, ◌<◌}
use mathlib.Core.Path.{◌≡◌, refl, sym, ◌∙◌}
use mathlib.Core.Logic.{◌≢◌}
use mathlib.Core.Bool.{true}
use native.Mathlib.Omega.{arith}
use borrow.Author.Tests.{eq-eqb, ne_eqb}
use Rattle.laws.proofs.Choice.{false≢true, either_way, equal?}
use Rattle.laws.proofs.Update.{update_same, update_other}
use Rattle.lock_rules.specs.Numbers.{first_refusal, refusal_number}
use Rattle.lock_rules.specs.{Operations.Operation, Events.returned, Rules.begun}
use Rattle.lock_rules.specs.declared.{Limit.Limit, Doing.Doing}
use Rattle.lock_rules.specs.declared.ThreadState.TheVariants.{Idle, Running}
use Rattle.lock_rules.specs.declared.event.{Event.Event, Refusal.Refusal}
use Rattle.lock_rules.specs.declared.event.Event.TheVariants.{Begin, Step, Tick}
use Rattle.lock_rules.proofs.Perform.{Performed}
use Rattle.lock_rules.proofs.TableKinds.{by_event}
use Rattle.lock_rules.proofs.Tables.{ListThread, ListTable, states_at, put_back, perform_at, begin_at, step_at, list_kind, turn, seen_here}
use Rattle.lock_table.specs.Limits.{thread_limit}
use Rattle.step_bounds.specs.SixSteps.{is_step}
use Rattle.step_bounds.proofs.Counting.{refused_none}
use Rattle.step_measure.proofs.Sums.{sum_up_to, sum_moves, sum_falls}
use Rattle.step_measure.proofs.Weights.{look_more, weight, weight_limit, weight_most}
use Rattle.step_measure.proofs.WeightMoves.{weights, step_falls}

-- the weight of a thread of the table
abbrev pub weight_to : ListTable → ℕ → ℕ
weight_to table n = weight (look_more (table.objects (table.threads n).object).word) (table.threads n).state

-- the work left on a table of so many threads
abbrev pub list_work : ℕ → ListTable → ℕ
list_work threads table = sum_up_to threads (weight_to table)

-- a thread before and after a rule's result is put back at the object `home`
module _ (table : ListTable) (home : ℕ) (result : Performed) (n : ℕ) where
  before_here : (table.threads n).object ≡ home → weight_to table n ≡ weights (table.objects home).word (states_at table home) n
  before_here here = λ j. weight (look_more (table.objects (here j)).word) (sym (seen_here home (table.threads n) here) j)

  after_here : (table.threads n).object ≡ home → weight_to (put_back table home result) n ≡ weights result.object.word result.states n
  after_here here = rw (eq-eqb (table.threads n).object home here, update_same table.objects home result.object) refl

  after_away : (table.threads n).object ≢ home → weight_to (put_back table home result) n ≡ weight_to table n
  after_away away = rw (ne_eqb (table.threads n).object home away, update_other table.objects home result.object (table.threads n).object away) refl

-- what is shown of an event that returned this number, with the work left before and after it
abbrev pub Measured : Event → ℕ → ℕ → ℕ → Type 0
Measured (Begin operation n object limit) returned before after = returned ≡ 0 → after ≤ before + weight_limit
Measured (Step n) returned before after = is_step returned ≡ true → after < before
Measured Tick returned before after = Unit {0}

refused_measured : (work : ℕ) (event : Event) (refusal : Refusal) → first_refusal < refusal_number refusal → Measured event (refusal_number refusal) work work
refused_measured work (Begin operation n object limit) refusal high = λ accepted. omega arith
refused_measured work (Step n) refusal high = λ step. false≢true (sym (refused_none refusal) ∙ step)
refused_measured work Tick refusal high = tt

module _ (threads objects : ℕ) (few : threads ≤ thread_limit) (table : ListTable) where
  begin_at_adds : (operation : Operation) (limit : Limit) (t o : ℕ) → 1 ≤ t → t ≤ threads → (table.threads t).state ≡ Idle
      → list_work threads (begin_at table operation limit t o) ≤ list_work threads table + weight_limit
  begin_at_adds operation limit t o low high idle =
      let thread : ListThread = record { object = o; state = Running (begun operation limit) } in
      let after = begin_at table operation limit t o in
      let none : weight_to table t ≡ 0 = rw idle refl in
      omega (
        arith,
        none,
        weight_most (after.objects (after.threads t).object).word (after.threads t).state,
        sum_moves (weight_to table) (weight_to after) 0 t (λ n away. rw (update_other table.threads t thread n away) (omega arith)) threads low high,
      )

  step_at_lowers : (t : ℕ) (doing : Doing) → 1 ≤ t → t ≤ threads → (table.threads t).state ≡ Running doing
      → is_step (returned (step_at table t doing).reply) ≡ true → list_work threads (step_at table t doing).table < list_work threads table
  step_at_lowers t doing low high running step =
      let home = (table.threads t).object in
      let result = perform_at table home t doing in
      let falls = step_falls t (states_at table home) (table.objects home) doing (seen_here home (table.threads t) refl ∙ running) step in
      sum_falls (weight_to table) (weight_to (put_back table home result)) t threads low high few
      (record {
        raise = falls.raise;
        own = omega (arith, falls.own, before_here table home result t refl, after_here table home result t refl);
        other = λ n other. either_way (equal? (table.threads n).object home)
            (λ here. omega (arith, falls.other n other, before_here table home result n here, after_here table home result n here))
            (λ away. omega (arith, after_away table home result n away));
      })

  pub event_measured : (event : Event) → let result = turn threads objects table event in Measured event (returned result.reply) (list_work threads table) (list_work threads result.table)
  event_measured =
      by_event list_kind threads objects table (λ event result. Measured event (returned result.reply) (list_work threads table) (list_work threads result.table))
      (refused_measured (list_work threads table))
      (λ number limit operation given t o asked fits low high real small idle accepted. begin_at_adds operation given t o low high idle) step_at_lowers tt
