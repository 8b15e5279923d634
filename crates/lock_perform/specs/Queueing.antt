-- Threads join a chain, each at its place (document 01, "The table": threads join at the end; document 02, L8: "the entry chain is kept by falling rank,
-- then by time of joining"). Whoever joins a chain comes through here: one thread, or all of a chain in their order.
use Rattle.std.specs.Prelude.{ℕ, zero, suc, eqb, leb}
use Rattle.laws.specs.Choice.{pick, both, within}
use Rattle.chains.specs.declared.place.Place.{Place}
use Rattle.chains.specs.declared.named.Chain.{Chain}
use Rattle.lock_table.specs.Limits.{thread_limit}
use Rattle.lock_table.specs.Record.{with_next}
use Rattle.lock_table.specs.Access.{thread_at, set_thread}
use Rattle.lock_table.specs.declared.record.ThreadRecord.{ThreadRecord}
use Rattle.lock_table.specs.declared.record.Table.{Table}

-- a table, and the first of the chain that threads have joined
pub record JoinedChain : Type 0 where
  pub table : Table
  pub first : ℕ

-- the rank by which a thread joins a chain: its own in the entry chain. The other chains are by time of joining alone: by rank 0 nobody is passed.
abbrev pub joining_rank : Chain → ThreadRecord → ℕ
joining_rank Chain.Entry thread = thread.rank
joining_rank Chain.Contention thread = 0
joining_rank Chain.Waiting thread = 0

-- the place of one who joins by a rank: behind those from `here` on that have it or a higher one. `last` stands before `here`.
unfoldable pub place_for : ℕ → (ℕ → ThreadRecord) → ℕ → ℕ → ℕ → Place
place_for zero thread rank last here = record { last = last; here = here }
place_for (suc fuel) thread rank last here =
    pick (both (within 1 thread_limit here) (leb rank (thread here).rank)) (place_for fuel thread rank here (thread here).next)
    (record { last = last; here = here })

-- thread n put there, and the first of the chain then
abbrev pub put_at : Table → Place → ℕ → Table
put_at table place n =
    let alone = set_thread table n (with_next (thread_at table n) place.here) in
    set_thread alone place.last (with_next (thread_at alone place.last) n)

unfoldable pub first_at : ℕ → ℕ → ℕ → ℕ
first_at last first n = pick (eqb last 0) n first

-- each thread from `at` on joins the chain that begins with `first`
unfoldable pub queue : Chain → ℕ → Table → ℕ → ℕ → JoinedChain
queue into zero table first at = record { table = table; first = first }
queue into (suc fuel) table first at =
    let thread = thread_at table at in
    let place = place_for thread_limit (thread_at table) (joining_rank into thread) 0 first in
    pick (within 1 thread_limit at) (queue into fuel (put_at table place at) (first_at place.last first at) thread.next)
    (record { table = table; first = first })
