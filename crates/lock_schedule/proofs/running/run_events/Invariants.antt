-- What is still to run from this table gives what the whole gives.
use Rattle.std.proofs.Common.{◌≡◌, ◌-◌, ◌*◌}
use Rattle.event_bytes.specs.Encoding.{event_size, event_count, events_from, events_of}
use Rattle.lock_schedule.specs.Schedule.{final_of}
use Rattle.lock_schedule.proofs.running.run_events.Given as goal

abbrev pub invariant-loop-bytes : goal.invariant-loop-bytes
invariant-loop-bytes l =
    final_of l.fn.table (events_of l.events) ≡ final_of l.current (events_from (event_count l.events - l.bytes-index) l.events (l.bytes-index * event_size))
