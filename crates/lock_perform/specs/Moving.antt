-- What the work of a rule on chains does to the table's threads and to the monitor of the step's object (document 01, "Steps").
use Rattle.std.specs.Prelude.{ℕ, Bool, true, false, eqb}
use Rattle.laws.specs.Choice.{pick}
use Rattle.chains.specs.declared.named.Chain.{Chain}
use Rattle.lock_rules.specs.declared.Taken.{Taken}
use Rattle.lock_rules.specs.declared.Taken.TheVariants.{First, All}
use Rattle.lock_rules.specs.declared.ChainWork.{ChainWork}
use Rattle.lock_rules.specs.declared.ChainWork.TheVariants.{Stay, Join, JoinAndHand, Hand, Move, MoveAndLetOut, SendBack}
use Rattle.lock_table.specs.Limits.{thread_limit}
use Rattle.lock_table.specs.Record.{with_next, with_activity, idle}
use Rattle.lock_table.specs.Phase.{phase_number, carried_number}
use Rattle.lock_table.specs.Access.{thread_at, set_thread}
use Rattle.lock_table.specs.Monitor.{hand_of, first_in, with_first, join, let_out_of}
use Rattle.lock_table.specs.Chain.{handed_of, moved, move_all}
use Rattle.lock_table.specs.Narrow.{narrow_of}
use Rattle.lock_table.specs.declared.phase.Phase.{Phase}
use Rattle.lock_table.specs.declared.phase.Phase.TheVariants.{Idle, Look, Store, Cancel, GoIn, Queued, Check, Try, Contending, Test, Tell, Leave}
use Rattle.lock_table.specs.declared.phase.Phase.TheVariants.{Inflate}
use Rattle.lock_table.specs.declared.phase.Phase.TheVariants.{GiveUp, Waiting, Resume}
use Rattle.lock_table.specs.declared.record.ThreadRecord.{ThreadRecord}
use Rattle.lock_table.specs.declared.record.Monitor.{Monitor}
use Rattle.lock_table.specs.declared.record.Table.{Table}
use Rattle.lock_perform.specs.ThreadSet.{thread_set}
use Rattle.lock_perform.specs.Parting.{no_parting, part_chain}
use Rattle.lock_perform.specs.Queueing.{queue}
use Rattle.lock_perform.specs.Queueing.{JoinedChain}
use Rattle.lock_perform.specs.Parting.{PartedChain}
use Rattle.lock_perform.specs.declared.moving.ChainPlan.{ChainPlan}

-- cancel: the word's thread, if in phase 2 on this object, goes back to 1; its kept word falls out of use
abbrev pub look_again : ThreadRecord → ThreadRecord
look_again thread =
    with_activity thread (record { kept = 0; saved = thread.saved; ticks = thread.ticks; object = thread.object; operation = thread.operation; phase = Look })

unfoldable pub back_from : ThreadRecord → Phase → ThreadRecord
back_from thread Idle = thread
back_from thread Look = thread
back_from thread Store = look_again thread
back_from thread Cancel = thread
back_from thread GoIn = thread
back_from thread (Queued onward) = thread
back_from thread Check = thread
back_from thread Try = thread
back_from thread Contending = thread
back_from thread Test = thread
back_from thread Tell = thread
back_from thread Leave = thread
back_from thread Inflate = thread
back_from thread GiveUp = thread
back_from thread Waiting = thread
back_from thread Resume = thread

unfoldable pub sent_back_of : ℕ → ThreadRecord → ThreadRecord
sent_back_of object thread = pick (eqb thread.object object) (back_from thread thread.phase) thread

-- whose record the work changes, 0 for nobody's: who is handed the monitor, moves alone, or is sent back
abbrev pub touched_by_move : Monitor → Chain → Taken → ℕ
touched_by_move monitor from First = first_in monitor from
touched_by_move monitor from All = 0

abbrev pub touched : ChainWork → Monitor → ℕ
touched Stay monitor = 0
touched (Join chain) monitor = 0
touched (JoinAndHand chain) monitor = monitor.entry
touched Hand monitor = monitor.entry
touched (Move from which) monitor = touched_by_move monitor from which
touched MoveAndLetOut monitor = touched_by_move monitor Chain.Contention All
touched (SendBack owner) monitor = narrow_of owner

-- the record changes, and nobody joins a chain
abbrev pub unlinked : ThreadRecord → Monitor → ℕ → ChainPlan
unlinked changed monitor unparked = record { changed = changed; monitor = monitor; unparked = unparked; back = 0; into = Chain.Entry }

-- `thread` joins a chain
abbrev pub joining : ThreadRecord → Monitor → ℕ → Chain → ℕ → ChainPlan
joining changed monitor unparked chain thread =
    record { changed = changed; monitor = monitor; unparked = unparked; back = thread; into = chain }

-- the first of a chain, or the whole of it, moves to the entry chain; `left` is who its chain begins with then
abbrev pub moving : ThreadRecord → Monitor → Chain → ℕ → ChainPlan
moving changed monitor from left =
    record {
      changed = changed;
      monitor = with_first monitor from left;
      unparked = 0;
      back = first_in monitor from;
      into = Chain.Entry;
    }

-- What each work does, by `thread` at `object`; `before` is the record that it changes.
-- hand: the first of the entry chain leaves it, becomes holder at depth 0 and takes its carried phase
abbrev pub plan_hand : Monitor → ThreadRecord → ChainPlan
plan_hand monitor before = let handed = hand_of monitor before.next in unlinked (handed_of before) handed.monitor (thread_set handed.thread)

abbrev pub plan_join_and_hand : Monitor → ThreadRecord → Chain → ℕ → ChainPlan
plan_join_and_hand monitor before chain thread =
    let handed = hand_of monitor before.next in joining (handed_of before) handed.monitor (thread_set handed.thread) chain thread

abbrev pub plan_move : Monitor → ThreadRecord → Chain → Taken → ChainPlan
plan_move monitor before from First = moving (with_next (moved before) 0) monitor from before.next
plan_move monitor before from All = moving before monitor from 0

abbrev pub plan : ChainWork → Monitor → ℕ → ℕ → ThreadRecord → ChainPlan
plan Stay monitor thread object before = unlinked before monitor 0
plan (Join chain) monitor thread object before = joining before monitor 0 chain thread
plan (JoinAndHand chain) monitor thread object before = plan_join_and_hand monitor before chain thread
plan Hand monitor thread object before = plan_hand monitor before
plan (Move from which) monitor thread object before = plan_move monitor before from which
plan MoveAndLetOut monitor thread object before = plan_move monitor before Chain.Contention All
plan (SendBack owner) monitor thread object before = unlinked (sent_back_of object before) monitor 0

-- the table and the monitor after a work, and the set of threads that it unparked
pub record CarriedOut : Type 0 where
  pub table : Table
  pub monitor : Monitor
  pub unparked : ℕ

-- a table in which threads have joined the plan's chain, and what of the plan goes with it
abbrev pub carried_out : JoinedChain → ChainPlan → CarriedOut
carried_out queued planned =
    record { table = queued.table; monitor = join planned.monitor planned.into queued.first; unparked = planned.unparked }

-- who joins, in a table
abbrev pub joined_by : Table → ChainPlan → JoinedChain
joined_by table planned = queue planned.into thread_limit table (first_in planned.monitor planned.into) planned.back

-- one record changed, and those that join a chain put at their places
abbrev pub relink : Table → Monitor → ChainWork → ℕ → ℕ → CarriedOut
relink table monitor work thread object =
    let number = touched work monitor in
    let planned = plan work monitor thread object (thread_at table number) in
    carried_out (joined_by (set_thread table number planned.changed) planned) planned

-- the first of a chain that moves whole, 0 for none
abbrev pub whole_move : Monitor → Chain → Taken → ℕ
whole_move monitor from First = 0
whole_move monitor from All = first_in monitor from

abbrev pub moved_whole : ChainWork → Monitor → ℕ
moved_whole Stay monitor = 0
moved_whole (Join chain) monitor = 0
moved_whole (JoinAndHand chain) monitor = 0
moved_whole Hand monitor = 0
moved_whole (Move from which) monitor = whole_move monitor from which
moved_whole MoveAndLetOut monitor = whole_move monitor Chain.Contention All
moved_whole (SendBack owner) monitor = 0

-- the threads of that chain changed first
unfoldable pub after_whole : Table → ℕ → Monitor → ChainWork → ℕ → ℕ → CarriedOut
after_whole table whole monitor work thread object =
    pick (eqb whole 0) (relink table monitor work thread object) (relink (move_all thread_limit table whole) monitor work thread object)

-- "inflating lets every queued exit out of the entry chain, finished and idle" (document 02, L2): who carries 10 is one
abbrev pub queued_exit : ThreadRecord → Bool
queued_exit thread = eqb (carried_number thread.phase) (phase_number Tell)

-- a thread of the entry chain, in no chain yet: one that goes is idle
unfoldable pub let_out : ThreadRecord → Bool → ThreadRecord
let_out thread goes = let after = with_next thread 0 in pick goes (idle after) after

abbrev pub exits_parted : Table → ℕ → PartedChain
exits_parted table first = part_chain queued_exit let_out false thread_limit table no_parting first

-- the others stay in order; those that were let out are unparked, and nobody was by the move before
abbrev pub let_outs : Table → Monitor → CarriedOut
let_outs table monitor =
    let parted = exits_parted table monitor.entry in
    let left = let_out_of monitor parted.parting.left.first parted.parting.set in
    record { table = parted.table; monitor = left.monitor; unparked = left.threads }

abbrev pub lets_out : ChainWork → Bool
lets_out Stay = false
lets_out (Join chain) = false
lets_out (JoinAndHand chain) = false
lets_out Hand = false
lets_out (Move from which) = false
lets_out MoveAndLetOut = true
lets_out (SendBack owner) = false

-- the work of `thread` at `object` carried out
abbrev pub carry_out : Table → Monitor → ChainWork → ℕ → ℕ → CarriedOut
carry_out table monitor work thread object =
    let carried = after_whole table (moved_whole work monitor) monitor work thread object in
    pick (lets_out work) (let_outs carried.table carried.monitor) carried
