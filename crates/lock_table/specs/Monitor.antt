-- What is done to a monitor (document 01, "Steps": going in, handing, inflating and moving each take a monitor and give it back altered).
use Rattle.std.specs.Prelude.{ℕ}
use Rattle.chains.specs.declared.named.Chain.{Chain}
use Rattle.lock_table.specs.declared.record.Monitor.{Monitor}
use Rattle.lock_table.specs.declared.monitor.Handed.{Handed}
use Rattle.lock_table.specs.declared.monitor.LetOut.{LetOut}

-- becoming holder
abbrev pub held_by : Monitor → ℕ → Monitor
held_by m thread = record { depth = m.depth; holder = thread; entry = m.entry; contention = m.contention; waiting = m.waiting }

abbrev pub with_depth : Monitor → ℕ → Monitor
with_depth m depth = record { depth = depth; holder = m.holder; entry = m.entry; contention = m.contention; waiting = m.waiting }

-- hand: the first of the entry chain leaves it and becomes holder at depth 0; with nobody there holder and depth are 0
abbrev pub hand_of : Monitor → ℕ → Handed
hand_of m next =
    record { monitor = record { depth = 0; holder = m.entry; entry = next; contention = m.contention; waiting = m.waiting }; thread = m.entry }

-- the first of a chain, and the chain with another first
abbrev pub first_in : Monitor → Chain → ℕ
first_in m Chain.Entry = m.entry
first_in m Chain.Contention = m.contention
first_in m Chain.Waiting = m.waiting

abbrev pub with_first : Monitor → Chain → ℕ → Monitor
with_first m Chain.Entry first =
    record { depth = m.depth; holder = m.holder; entry = first; contention = m.contention; waiting = m.waiting }
with_first m Chain.Contention first =
    record { depth = m.depth; holder = m.holder; entry = m.entry; contention = first; waiting = m.waiting }
with_first m Chain.Waiting first =
    record { depth = m.depth; holder = m.holder; entry = m.entry; contention = m.contention; waiting = first }

-- threads have joined a chain: it begins with `first` then
abbrev pub join : Monitor → Chain → ℕ → Monitor
join m chain first = with_first m chain first

-- threads of a chain have moved to the entry chain: that chain begins with `left` then, and the entry chain with `first`
abbrev pub move_to_entry : Monitor → Chain → ℕ → ℕ → Monitor
move_to_entry m from left first = join (with_first m from left) Chain.Entry first

-- threads are let out of the entry chain: it begins with `left` then, and the set of them is given back
abbrev pub let_out_of : Monitor → ℕ → ℕ → LetOut
let_out_of m left out = record { monitor = with_first m Chain.Entry left; threads = out }
