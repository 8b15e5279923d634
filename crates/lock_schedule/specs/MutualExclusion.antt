-- Mutual exclusion, from events and answers alone (ours): the enters of a thread that returned 1, less its exits that committed, are a number that is above 0 for
-- one thread at most. A wait gives it up and takes it back (lock_rules, Presence).
use Rattle.std.specs.Prelude.{ℕ, ◌+◌, ◌≤◌, ◌<◌, ◌≡◌, List, eqb}
use Rattle.laws.specs.Choice.{pick}
use Rattle.lock_rules.specs.Presence.{times_of, times_inside}
use Rattle.lock_rules.specs.declared.event.Event.{Event}
use Rattle.lock_table.specs.Fresh.{InRange, table_of}
use Rattle.lock_table.specs.Ownership.{ownership_at}
use Rattle.lock_table.specs.declared.fresh_table.FreshRequest.{FreshRequest}
use Rattle.lock_schedule.specs.Schedule.{final_of, shown_of}

-- after every schedule from a fresh table, two threads that are inside one object are one thread
abbrev pub MutualExclusion : Type 0
MutualExclusion =
    (request : FreshRequest) → InRange request → (events : List Event) (o t u : ℕ) → 1 ≤ t → 1 ≤ u
    → let shown = shown_of (table_of request) events in
    0 < times_inside t o shown → 0 < times_inside u o shown → t ≡ u

-- And it is the thread's depth, by the object's word: it has entered as often as it has left, and as much more as it owns the object deep. So no exit commits
-- at 0.
abbrev pub InsideIsDepth : Type 0
InsideIsDepth =
    (request : FreshRequest) → InRange request → (events : List Event) (o t : ℕ) → 1 ≤ o → o ≤ request.objects → 1 ≤ t
    → let table = table_of request in
    let was = times_of t o (shown_of table events) in
    let owned = ownership_at (final_of table events) o in
    was.entered ≡ was.left + pick (eqb owned.thread t) owned.depth 0
