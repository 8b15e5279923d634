-- A tick of the clock (document 02, L1): "objects rising, waiters in chain order, and a monitor that nobody holds is then handed".
use Rattle.std.specs.Prelude.{ℕ, zero, suc, eqb}
use Rattle.std.specs.Int.Bits.{bit_or}
use Rattle.laws.specs.Choice.{pick}
use Rattle.chains.specs.declared.named.Chain.{Chain}
use Rattle.lock_rules.specs.declared.ChainWork.{ChainWork}
use Rattle.lock_rules.specs.declared.ChainWork.TheVariants.{Hand, Stay}
use Rattle.lock_table.specs.Limits.{thread_limit, object_limit}
use Rattle.lock_table.specs.Record.{with_monitor}
use Rattle.lock_table.specs.Access.{object_at, set_object}
use Rattle.lock_table.specs.Monitor.{move_to_entry}
use Rattle.lock_table.specs.declared.record.Monitor.{Monitor}
use Rattle.lock_table.specs.declared.record.Table.{Table}
use Rattle.lock_perform.specs.Moving.{CarriedOut, relink}
use Rattle.lock_perform.specs.Parting.{no_parting}
use Rattle.lock_perform.specs.Queueing.{queue}
use Rattle.lock_work.specs.Waiters.{part_waiters}
use Rattle.lock_work.specs.WorkDone.{WorkDone}

-- a monitor that nobody holds is handed as a step hands it
unfoldable pub handing : Monitor → ChainWork
handing monitor = pick (eqb monitor.holder 0) Hand Stay

unfoldable pub hand_if_free : Table → Monitor → CarriedOut
hand_if_free table monitor = relink table monitor (handing monitor) 0 0

-- an object on which somebody waits: those that run out join the entry chain, and the waiting chain is left to the others; whom the hand unparks is
-- passed up
abbrev pub tick_waited : Table → ℕ → WorkDone
tick_waited table number =
    let object = object_at table number in
    let monitor = object.monitor in
    let parted = part_waiters thread_limit table no_parting monitor.waiting in
    let queued = queue Chain.Entry thread_limit parted.table monitor.entry parted.parting.taken.first in
    let after = hand_if_free queued.table (move_to_entry monitor Chain.Waiting parted.parting.left.first queued.first) in
    record { table = set_object after.table number (with_monitor object after.monitor); unparked = after.unparked }

-- nobody is unparked
abbrev pub untouched : Table → WorkDone
untouched table = record { table = table; unparked = 0 }

-- where nobody waits nobody moves, and a monitor that nobody holds has nobody to be handed to
unfoldable pub tick_object : Table → ℕ → WorkDone
tick_object table number = pick (eqb (object_at table number).monitor.waiting 0) (untouched table) (tick_waited table number)

-- one object after others: the set of all whom they unparked
abbrev pub behind : WorkDone → WorkDone → WorkDone
behind before after = record { table = after.table; unparked = bit_or before.unparked after.unparked }

-- the first so many objects, rising
unfoldable pub tick_to : ℕ → Table → WorkDone
tick_to zero table = untouched table
tick_to (suc number) table = let before = tick_to number table in behind before (tick_object before.table (suc number))

abbrev pub tick : Table → WorkDone
tick table = tick_to object_limit table
