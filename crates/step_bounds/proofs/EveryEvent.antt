-- Every event on a table with lists keeps a thread's steps, taken and left, within what there are from its start.
use Prim.Native.Nat.{ℕ, ◌+◌, ◌≤◌, ◌<◌}
use mathlib.Core.Path.{◌≡◌, refl, sym, ap, ◌∙◌, subst, subst₂}
use mathlib.Core.Logic.{◌≢◌}
use mathlib.Core.Bool.{false}
use native.Mathlib.Omega.{arith}
use borrow.Author.Tests.{eq-eqb, ne_eqb}
use Rattle.laws.proofs.Choice.{either_way, equal?}
use Rattle.laws.proofs.Update.{update_same, update_other}
use Rattle.lock_word.specs.declared.meaning.WordSeen.{WordSeen}
use Rattle.lock_rules.specs.Numbers.{returned_of, asked_for, first_refusal, refusal_number}
use Rattle.lock_rules.specs.Operations.{Operation, Known}
use Rattle.lock_rules.specs.Feed.{Plain}
use Rattle.lock_rules.specs.Events.{Accepted, returned}
use Rattle.lock_rules.specs.{RunQueue.own_event, Rules.begun}
use Rattle.lock_rules.specs.declared.{Limit.Limit, Doing.Doing, ThreadState.ThreadState}
use Rattle.lock_rules.specs.declared.ThreadState.TheVariants.{Idle, Running}
use Rattle.lock_rules.specs.declared.event.{Event.Event, Refusal.Refusal}
use Rattle.lock_rules.specs.declared.event.Event.TheVariants.{Begin, Step, Tick}
use Rattle.lock_rules.proofs.Objects.{ListObject}
use Rattle.lock_rules.proofs.Perform.{Performed}
use Rattle.lock_rules.proofs.TableKinds.{TurnOf, refuse, by_event}
use Rattle.lock_rules.proofs.Tables.{ListThread, ListTable, states_at, perform_at, begin_at, step_at, ticked_at, tick_all, tick_all_unparks, list_kind, turn, seen_here}
use Rattle.lock_rules.proofs.Invariant.{Relies, phase_row, ReliesOn}
use Rattle.lock_rules.proofs.{Lift.World, Status.unparked}
use Rattle.step_bounds.specs.SixSteps.{own_steps}
use Rattle.step_bounds.specs.Starts.{Start, most_from}
use Rattle.step_bounds.proofs.Ranks.{left}
use Rattle.step_bounds.proofs.RankMoves.{Bounded, same_bounded, other_step, own_step, tick_bounded}
use Rattle.step_bounds.proofs.Counting.{begun_left, Counted, own_counted, other_counted, refused_counted}

-- the steps that a thread of the table has left
abbrev pub left_to : ListTable → ℕ → ℕ
left_to table n = left (table.objects (table.threads n).object).word (table.threads n).state

module _ (threads objects : ℕ) (table : ListTable) (plain : Plain) (world : World table plain) (n steps : ℕ) (start : Start)
    (within : steps + left_to table n ≤ most_from start)
  where
    abbrev state : ThreadState
    state = (table.threads n).state

    abbrev word_at : ListTable → ListThread → WordSeen
    word_at t thread = (t.objects thread.object).word

    -- what is shown of an event
    abbrev CountedBy : Event → TurnOf ListTable → Type 0
    CountedBy event result =
        let thread = result.table.threads n in
        Counted n event (returned result.reply) steps start (word_at table (table.threads n)) state (word_at result.table thread) thread.state

    refused_by : (event : Event) (refusal : Refusal) → first_refusal < refusal_number refusal → CountedBy event (refuse list_kind table (refusal_number refusal))
    refused_by event refusal high = refused_counted n event refusal high steps start (word_at table (table.threads n)) state within

    begun_by : (number limit : ℕ) (operation : Operation) (given : Limit) (t o : ℕ) → asked_for number limit ≡ Known operation given → (table.threads t).state ≡ Idle
        → CountedBy (Begin number t o limit) (record { table = begin_at table operation given t o; reply = Accepted; unparked = λ m. false })
    unfolding own_event
    begun_by number limit operation given t o asked idle =
        let thread : ListThread = record { object = o; state = Running (begun operation given) } in
        either_way (equal? n t)
        (λ e. rw (e, update_same table.threads t thread)
        (own_counted t (Begin number t o limit) 0 steps start (word_at table (table.threads t)) (table.threads t).state (word_at table thread) thread.state
        (rw (eq-eqb t t refl) refl) (rw idle refl) (omega (arith, begun_left (table.objects o).word number limit operation given asked))))
        (λ away. let word = word_at table (table.threads n) in
        rw (update_other table.threads t thread n away)
        (other_counted n (Begin number t o limit) 0 steps start word state word state (rw (ne_eqb n t away) refl) (same_bounded word word (λ clear. clear) state) within))

    -- a step of thread t, which is at the object `home`
    module _ (t : ℕ) (doing : Doing) (running : (table.threads t).state ≡ Running doing) where
      abbrev home : ℕ
      home = (table.threads t).object

      abbrev object : ListObject
      object = table.objects home

      abbrev result : Performed
      result = perform_at table home t doing

      here : states_at table home t ≡ Running doing
      here = seen_here home (table.threads t) refl ∙ running

      relies : ReliesOn (phase_row doing).reliance t object.word object.flag object.holder
      relies = subst (λ (seen : ThreadState). Relies seen t object.word object.flag object.holder) here ((world.inv home).threads t).relies

      abbrev turned : ListTable
      turned = (step_at table t doing).table

      -- thread n, with the word of its object
      there : (table.threads n).object ≡ home → (turned.threads n ≡ record { object = home; state = result.states n }) × (word_at turned (turned.threads n) ≡ result.object.word)
      there e =
          let thread : turned.threads n ≡ record { object = home; state = result.states n } = rw (eq-eqb (table.threads n).object home e) in
          (thread, ap (word_at turned) thread ∙ ap (λ (o : ListObject). o.word) (update_same table.objects home result.object))

      away : (table.threads n).object ≢ home → (turned.threads n ≡ table.threads n) × (word_at turned (turned.threads n) ≡ word_at table (table.threads n))
      away far =
          let thread : turned.threads n ≡ table.threads n = rw (ne_eqb (table.threads n).object home far) in
          (thread, ap (word_at turned) thread ∙ ap (λ (o : ListObject). o.word) (update_other table.objects home result.object (table.threads n).object far))

      abbrev CountedAt : WordSeen → ListThread → Type 0
      CountedAt word thread = Counted n (Step t) (returned_of result.answer) steps start (word_at table (table.threads n)) state word thread.state

      abbrev Lowered : ℕ → Type 0
      Lowered m =
          own_steps (Step t) (returned_of result.answer) steps + left result.object.word (result.states m) ≤ steps + left object.word (states_at table home m)

      own_by : n ≡ t → CountedAt (word_at turned (turned.threads n)) (turned.threads n)
      unfolding own_event
      own_by e =
          let at_home = ap (λ (m : ℕ). (table.threads m).object) e in
          let (thread, word) = there at_home in
          let lowered = subst Lowered (sym e) (own_step t (states_at table home) object doing relies steps here) in
          let before : left object.word (states_at table home n) ≡ left_to table n =
          λ j. left (table.objects (sym at_home j)).word (seen_here home (table.threads n) at_home j) in
          subst₂ CountedAt (sym word) (sym thread)
          (own_counted n (Step t) (returned_of result.answer) steps start (word_at table (table.threads n)) state result.object.word (result.states n)
          (eq-eqb n t e) (ap (λ (m : ℕ). unparked (table.threads m).state) e ∙ ap unparked running) (omega (arith, lowered, before, within)))

      other_by : n ≢ t → CountedAt (word_at turned (turned.threads n)) (turned.threads n)
      unfolding own_event
      other_by other =
          either_way (equal? (table.threads n).object home)
          (λ here. let (thread, word) = there here in
          let bounded : Bounded (word_at table (table.threads n)) state result.object.word (result.states n) =
          subst₂ (λ (o : ℕ) (seen : ThreadState). Bounded (table.objects o).word seen result.object.word (result.states n)) (sym here)
          (seen_here home (table.threads n) here) (other_step t (states_at table home) object doing relies n other) in
          subst₂ CountedAt (sym word) (sym thread)
          (other_counted n (Step t) (returned_of result.answer) steps start (word_at table (table.threads n)) state result.object.word (result.states n) (ne_eqb n t other)
          bounded within))
          (λ far. let (thread, word) = away far in
          let old = word_at table (table.threads n) in
          subst₂ CountedAt (sym word) (sym thread)
          (other_counted n (Step t) (returned_of result.answer) steps start old state old state (ne_eqb n t other) (same_bounded old old (λ clear. clear) state) within))

      step_by : CountedBy (Step t) (step_at table t doing)
      step_by = either_way (equal? n t) own_by other_by

    tick_by : CountedBy Tick (record { table = tick_all table; reply = Accepted; unparked = tick_all_unparks table })
    unfolding own_event
    tick_by =
        let home = (table.threads n).object in
        let bounded = tick_bounded (states_at table home) (table.objects home) n in
        let after = ticked_at table home in
        other_counted n Tick 0 steps start (table.objects home).word state after.object.word (after.states n) refl
        (rw (seen_here home (table.threads n) refl) at bounded) within

    pub event_counted : (event : Event) → CountedBy event (turn threads objects table event)
    event_counted =
        by_event list_kind threads objects table CountedBy refused_by
        (λ number limit operation given t o asked fits low high real small idle. begun_by number limit operation given t o asked idle)
        (λ t doing low high running. step_by t doing running) tick_by
