-- A table has thirty-two thread records and sixty-four object records, and every event keeps it so.
use Prim.Native.Nat.{ℕ, zero, suc}
use mathlib.Core.Path.{◌≡◌, ap, ◌∙◌}
use mathlib.Core.Bool.{Bool, true, false}
use lib.Dec.{eqb}
use lib.ListN.{length}
use Rattle.laws.specs.Choice.{pick, within}
use Rattle.laws.proofs.Choice.{by_test}
use Rattle.chains.specs.declared.named.Chain.{Chain}
use Rattle.lock_rules.specs.Gate.{event_thread, event_object}
use Rattle.lock_rules.specs.declared.event.Event.{Event}
use Rattle.lock_rules.specs.declared.ChainWork.{ChainWork}
use Rattle.lock_table.specs.Limits.{thread_limit, object_limit}
use Rattle.lock_table.specs.Access.{thread_at, set_thread, object_at, set_object, next_of}
use Rattle.lock_table.specs.Chain.{moved, move_all}
use Rattle.lock_table.specs.declared.record.{ThreadRecord.ThreadRecord, ObjectRecord.ObjectRecord, Monitor.Monitor, Table.Table}
use Rattle.lock_table.proofs.Records.{thread_beside, object_beside}
use Rattle.lock_perform.specs.Moving.{CarriedOut, relink, moved_whole, after_whole, queued_exit, let_out, let_outs, lets_out, carry_out}
use Rattle.lock_perform.specs.Queueing.{queue}
use Rattle.lock_perform.specs.Queueing.{JoinedChain}
use Rattle.lock_perform.specs.Parting.{no_parting, part_chain}
use Rattle.lock_perform.specs.Parting.{PartedChain}
use Rattle.lock_perform.specs.declared.parting.Parting.{Parting}
use Rattle.lock_soundness.specs.Sound.{sound_of}
use Rattle.lock_work.specs.Waiters.{waiter_goes, waiter_ticked}
use Rattle.lock_work.specs.Tick.{handing, hand_if_free, tick_object, tick_to, tick}
use Rattle.lock_work.specs.Work.{work_stays, work_done}
use Rattle.lock_engine.specs.Handle.{turn_with, outcome_of, handle_trusting, handle}
use Rattle.lock_work.specs.declared.settling.Work.{Work}
use Rattle.lock_work.specs.WorkDone.{WorkDone}
use Rattle.lock_engine.specs.declared.turning.Turn.{Turn}
use Rattle.lock_work.specs.declared.settling.Work.TheVariants.{Chains, Tick}

pub record Full (table : Table) : Type 0 where
  pub threads : length table.threads ≡ thread_limit
  pub objects : length table.objects ≡ object_limit

-- writes to a record
pub full_thread : {table : Table} (number : ℕ) (thread : ThreadRecord) → Full table → Full (set_thread table number thread)
full_thread {table} number thread full =
    let beside = thread_beside table number thread in
    record { threads = beside.length_kept ∙ full.threads; objects = ap length beside.objects ∙ full.objects }

pub full_object : {table : Table} (number : ℕ) (object : ObjectRecord) → Full table → Full (set_object table number object)
full_object {table} number object full =
    let beside = object_beside table number object in
    record { threads = ap length beside.threads ∙ full.threads; objects = beside.length_kept ∙ full.objects }

-- threads join a chain, and chains move whole
full_queue : (into : Chain) (fuel : ℕ) (table : Table) (first at : ℕ) → Full table → Full (queue into fuel table first at).table
unfolding queue
full_queue into zero table first at full = full
full_queue into (suc fuel) table first at full =
    by_test (λ (joined : JoinedChain). Full joined.table) (within 1 thread_limit at)
    (λ inside. full_queue into fuel _ _ _ (full_thread _ _ (full_thread _ _ full))) (λ outside. full)

full_move : (fuel : ℕ) (table : Table) (first : ℕ) → Full table → Full (move_all fuel table first)
unfolding move_all
full_move zero table first full = full
full_move (suc fuel) table first full =
    by_test Full (eqb first 0) (λ none. full)
    (λ some. full_move fuel (set_thread table first (moved (thread_at table first))) (next_of table first) (full_thread _ _ full))

full_relink : {table : Table} (monitor : Monitor) (work : ChainWork) (thread number : ℕ) → Full table → Full (relink table monitor work thread number).table
full_relink monitor work thread number full = full_queue _ thread_limit _ _ _ (full_thread _ _ full)

-- a chain parted
full_parted : (goes : ThreadRecord → Bool) (after : ThreadRecord → Bool → ThreadRecord) (together : Bool) (fuel : ℕ) (table : Table) (parting : Parting) (at : ℕ)
    → Full table → Full (part_chain goes after together fuel table parting at).table
unfolding part_chain
full_parted goes after together zero table parting at full = full
full_parted goes after together (suc fuel) table parting at full =
    by_test (λ (parted : PartedChain). Full parted.table) (within 1 thread_limit at)
    (λ inside. full_parted goes after together fuel _ _ _ (full_thread _ _ (full_thread _ _ full))) (λ outside. full)

full_whole : (table : Table) (monitor : Monitor) (work : ChainWork) (thread number : ℕ) → Full table
    → Full (after_whole table (moved_whole work monitor) monitor work thread number).table
unfolding after_whole
full_whole table monitor work thread number full =
    by_test (λ (after : CarriedOut). Full after.table) (eqb (moved_whole work monitor) 0) (λ none. full_relink monitor work thread number full)
    (λ some. full_relink monitor work thread number (full_move thread_limit table (moved_whole work monitor) full))

pub full_carried : (table : Table) (monitor : Monitor) (work : ChainWork) (thread number : ℕ) → Full table
    → Full (carry_out table monitor work thread number).table
full_carried table monitor work thread number full =
    let carried = after_whole table (moved_whole work monitor) monitor work thread number in
    let whole = full_whole table monitor work thread number full in
    at (lets_out work) (let_outs carried.table carried.monitor) carried
    (full_parted queued_exit let_out false thread_limit carried.table no_parting carried.monitor.entry whole) whole
  where
    at : (lets : Bool) (after carried : CarriedOut) → Full after.table → Full carried.table → Full (pick lets after carried).table
    at true after carried out whole = out
    at false after carried out whole = whole

-- a tick: the waiters of each object parted, those that ran out put in the entry chain, and the monitor handed
full_handed : (table : Table) (monitor : Monitor) → Full table → Full (hand_if_free table monitor).table
unfolding hand_if_free
full_handed table monitor full = full_relink monitor (handing monitor) 0 0 full

full_object_ticked : (table : Table) (number : ℕ) → Full table → Full (tick_object table number).table
unfolding tick_object
full_object_ticked table number full =
    by_test (λ (done : WorkDone). Full done.table) (eqb (object_at table number).monitor.waiting 0) (λ none. full)
    (λ some. full_object _ _ (full_handed _ _ (full_queue Chain.Entry thread_limit _ _ _ (full_parted waiter_goes waiter_ticked true thread_limit table no_parting _ full))))

full_ticked_to : (number : ℕ) (table : Table) → Full table → Full (tick_to number table).table
unfolding tick_to
full_ticked_to zero table full = full
full_ticked_to (suc number) table full = full_object_ticked (tick_to number table).table (suc number) (full_ticked_to number table full)

pub full_tick : (table : Table) → Full table → Full (tick table).table
full_tick table full = full_ticked_to object_limit table full

-- the work of a turn, and the outcome of an event
pub full_work : (work : Work) (table : Table) (thread number : ℕ) (own : ThreadRecord) (object : ObjectRecord) → Full table
    → Full (work_done work table thread number own object).table
unfolding work_done
full_work (Chains work) table thread number own object full =
    full_object _ _ (full_thread _ _ (full_carried table object.monitor work thread number full))
full_work Tick table thread number own object full = full_tick table full

full_outcome : (table : Table) (thread number : ℕ) (turn : Turn) → Full table → Full (outcome_of table thread number turn).table
full_outcome table thread number turn full =
    by_test Full (work_stays turn.work) (λ stay. full_object number turn.object (full_thread thread turn.own full))
    (λ some. full_work turn.work table thread number turn.own turn.object full)

pub full_handle : (table : Table) (event : Event) → Full table → Full (handle table event).table
unfolding handle handle_trusting
full_handle table event full =
    let own = thread_at table (event_thread event) in
    let number = event_object event own.object in
    full_outcome table (event_thread event) number (turn_with table event (sound_of table) own (object_at table number)) full
