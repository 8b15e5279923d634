-- A tick as the code does it, with records read and written where they are in their array: the handing, an object on which somebody waits, and the loop
-- over the objects.
use Prim.Native.Nat.{ℕ, suc, ◌+◌, ◌-◌, ◌<◌}
use mathlib.Core.Logic.{◌≢◌}
use mathlib.Core.Path.{◌≡◌, refl, sym, ap, ◌∙◌}
use mathlib.Core.Bool.{Bool, true, false}
use native.Mathlib.Numerals.{add-one, sub-one}
use native.Mathlib.Omega.{arith}
use lib.Dec.{eqb}
use lib.Bits.{or_zero_r}
use lib.ListN.{get_or, set}
use borrow.Author.Tests.{eq-eqb, ne_eqb}
use Rattle.laws.specs.Choice.{pick}
use Rattle.chains.specs.declared.named.Chain.{Chain}
use Rattle.lock_rules.specs.declared.ChainWork.{ChainWork}
use Rattle.lock_rules.specs.declared.ChainWork.TheVariants.{Hand, Stay}
use Rattle.lock_table.specs.Limits.{thread_limit, object_limit}
use Rattle.lock_table.specs.Record.{no_thread, no_object, with_monitor}
use Rattle.lock_table.specs.Access.{object_at, set_object}
use Rattle.lock_table.specs.Monitor.{move_to_entry}
use Rattle.lock_table.specs.Place.{thread_place}
use Rattle.lock_table.specs.declared.record.{ObjectRecord.ObjectRecord, Monitor.Monitor, Table.Table}
use Rattle.lock_table.proofs.Records.{object_in, set_object_in}
use Rattle.lock_perform.specs.Moving.{CarriedOut, touched, relink}
use Rattle.lock_perform.specs.Parting.{no_parting}
use Rattle.lock_perform.specs.Parting.{PartedChain}
use Rattle.lock_perform.specs.Queueing.{queue}
use Rattle.lock_perform.specs.Queueing.{JoinedChain}
use Rattle.lock_perform.specs.InPlace.{plan_at}
use Rattle.lock_perform.specs.declared.moving.ChainPlan.{ChainPlan}
use Rattle.lock_perform.proofs.InPlace.{with_threads, relinked_alone}
use Rattle.lock_work.specs.Waiters.{part_waiters}
use Rattle.lock_work.specs.Tick.{handing, hand_if_free, tick_waited, behind, tick_object, tick_to}
use Rattle.lock_work.specs.WorkDone.{WorkDone}

-- a table, and what of a plan by which nobody joins a chain goes with it
abbrev handed_out : Table → ChainPlan → CarriedOut
handed_out table planned = record { table = table; monitor = planned.monitor; unparked = planned.unparked }

-- a monitor that nobody holds is handed to the first of the entry chain; one that somebody holds leaves every record
pub handed_in_place : (t : Table) (monitor : Monitor)
    → let work = handing monitor in
    let place = thread_place (touched work monitor) in
    let planned = plan_at work monitor 0 0 (get_or t.threads place no_thread) in
    handed_out (with_threads t (set t.threads place planned.changed)) planned ≡ hand_if_free t monitor
unfolding handing hand_if_free
handed_in_place t monitor = at (eqb monitor.holder 0)
  where
    at : (free : Bool)
        → let work = pick free Hand Stay in
        let place = thread_place (touched work monitor) in
        let planned = plan_at work monitor 0 0 (get_or t.threads place no_thread) in
        handed_out (with_threads t (set t.threads place planned.changed)) planned ≡ relink t monitor work 0 0
    at true = relinked_alone t monitor Hand 0 0 refl
    at false = relinked_alone t monitor Stay 0 0 refl

-- an object on which somebody waits: what the code's locals are when its waiters are parted, those that run out have joined the entry chain and the monitor is handed
module _ (t : Table) (done : ℕ) (small : done < object_limit) where
  abbrev number : ℕ
  number = done + 1

  abbrev written_over : CarriedOut → ObjectRecord → Table
  written_over after object =
      record {
        threadcount = after.table.threadcount;
        objectcount = after.table.objectcount;
        threads = after.table.threads;
        objects = set after.table.objects done (with_monitor object after.monitor);
      }

  abbrev after_hand : CarriedOut → ObjectRecord → WorkDone
  after_hand after object = record { table = written_over after object; unparked = after.unparked }

  abbrev joined_to : PartedChain → ObjectRecord → JoinedChain
  joined_to parted object = queue Chain.Entry thread_limit parted.table object.monitor.entry parted.parting.taken.first

  abbrev given_on : PartedChain → ObjectRecord → CarriedOut
  given_on parted object =
      let joined = joined_to parted object in hand_if_free joined.table (move_to_entry object.monitor Chain.Waiting parted.parting.left.first joined.first)

  read_here : object_at t number ≡ get_or t.objects done no_object
  read_here =
      let place : number - 1 ≡ done = omega arith in
      object_in t number (λ none. omega (arith, none)) (omega (arith, small)) ∙ ap (λ (n : ℕ). get_or t.objects n no_object) place

  written_here : (after : CarriedOut) (object : ObjectRecord)
      → set_object after.table number (with_monitor object after.monitor) ≡ written_over after object
  written_here after object =
      let place : number - 1 ≡ done = omega arith in
      set_object_in after.table number (with_monitor object after.monitor) (λ none. omega (arith, none)) (omega (arith, small))
      ∙ ap
      (λ (n : ℕ). record {
        threadcount = after.table.threadcount;
        objectcount = after.table.objectcount;
        threads = after.table.threads;
        objects = set after.table.objects n (with_monitor object after.monitor);
      })
      place

  by_definition : (object : ObjectRecord) → object ≡ object_at t number → (parted : PartedChain)
      → parted ≡ part_waiters thread_limit t no_parting object.monitor.waiting
      → after_hand (given_on parted object) object ≡ tick_waited t number
  by_definition object is parted parted_is =
      let after = given_on parted object in
      (λ j. record { table = sym (written_here after object) j; unparked = after.unparked }) ∙ rw (parted_is, is) refl

  pub waited_in_place : {object : ObjectRecord} {parted : PartedChain} {joined : JoinedChain} {monitor : Monitor} {work : ChainWork} {heir place : ℕ} {planned : ChainPlan}
      {written : ObjectRecord}
      → object ≡ get_or t.objects done no_object → parted ≡ part_waiters thread_limit t no_parting object.monitor.waiting → joined ≡ joined_to parted object
      → monitor ≡ move_to_entry object.monitor Chain.Waiting parted.parting.left.first joined.first → work ≡ handing monitor → heir ≡ touched work monitor → place ≡ thread_place heir
      → planned ≡ plan_at work monitor 0 0 (get_or joined.table.threads place no_thread) → written ≡ with_monitor object planned.monitor
      → record {
        table = record {
          threadcount = joined.table.threadcount;
          objectcount = joined.table.objectcount;
          threads = set joined.table.threads place planned.changed;
          objects = set joined.table.objects done written;
        };
        unparked = planned.unparked;
      }
      ≡ tick_waited t number
  waited_in_place {object} {parted} {joined} is parted_is joined_is monitor_is work_is heir_is place_is planned_is written_is =
      let after = joined_to parted object in
      rw (written_is, planned_is, place_is, heir_is, work_is, monitor_is, joined_is)
      (ap (λ (after : CarriedOut). after_hand after object) (handed_in_place after.table (move_to_entry object.monitor Chain.Waiting parted.parting.left.first after.first))
      ∙ by_definition object (is ∙ sym read_here) parted parted_is)

-- the next object, on which nobody waits, and one on which somebody does
pub tick_skips : (t : Table) (done : ℕ) → done < object_limit → (get_or (tick_to done t).table.objects done no_object).monitor.waiting ≡ 0
    → tick_to done t ≡ tick_to (done + 1) t
unfolding tick_to tick_object
tick_skips t done small none =
    let read = object_in (tick_to done t).table (suc done) (λ e. omega (arith, e)) (omega (arith, small)) in
    let waiting : (object_at (tick_to done t).table (suc done)).monitor.waiting ≡ 0 =
    ap (λ (object : ObjectRecord). object.monitor.waiting) read ∙ (rw sub-one none) in
    rw (add-one done, eq-eqb _ 0 waiting) (λ j. record { table = (tick_to done t).table; unparked = sym (or_zero_r (tick_to done t).unparked) j })

pub tick_takes : (t : Table) (done : ℕ) → done < object_limit → (get_or (tick_to done t).table.objects done no_object).monitor.waiting ≢ 0
    → behind (tick_to done t) (tick_waited (tick_to done t).table (done + 1)) ≡ tick_to (done + 1) t
unfolding tick_to tick_object
tick_takes t done small some =
    let read = object_in (tick_to done t).table (suc done) (λ e. omega (arith, e)) (omega (arith, small)) in
    let waiting : (object_at (tick_to done t).table (suc done)).monitor.waiting ≢ 0 =
    λ none. some (sym (ap (λ (object : ObjectRecord). object.monitor.waiting) (rw sub-one at read)) ∙ none) in
    rw (add-one done, ne_eqb _ 0 waiting) refl
