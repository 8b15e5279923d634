-- What is still to run from this table gives what the whole gives.
use Rattle.std.proofs.Common.{ℕ, List, [], ◌≡◌, ◌+◌, ◌-◌, ◌*◌, ◌<◌, get_or, sym, ap, ◌∙◌, arith}
use Rattle.event_bytes.specs.Encoding.{event_size, event_count, event_at}
use Rattle.event_bytes.proofs.Chunks.{chunk_event}
use Rattle.lock_schedule.proofs.Runs.{run_ends, run_goes_on}
use Rattle.lock_schedule.proofs.running.run_events.Goals as goal

pub loop-bytes-preserved : goal.loop-bytes-preserved
loop-bytes-preserved c =
    let loop = c.loop-bytes in
    let bytes = c.args.events.now in
    let chunks = c.as_chunks.ensures in
    let low : loop.bytes-index < event_count bytes = omega (arith, chunks.front_len, c.loop-bytes-test.true) in
    let left : 0 < event_count bytes - loop.bytes-index = omega (arith, low) in
    let event = c.event_of.ensures ∙ ap (λ (parts : List (List ℕ)). event_at (get_or parts loop.bytes-index []) 0) chunks.front
    ∙ chunk_event (event_count bytes) bytes loop.bytes-index [] low in
    let fewer : event_count bytes - loop.bytes-index - 1 ≡ event_count bytes - (loop.bytes-index + 1) = omega arith in
    let behind : loop.bytes-index * event_size + event_size ≡ (loop.bytes-index + 1) * event_size = omega arith in
    loop.invariant ∙ rw (← fewer, ← behind) (run_goes_on bytes (loop.bytes-index * event_size) loop.current left event c.handle-outcome.ensures)

pub returns : goal.returns
returns c =
    let loop = c.loop-bytes in
    let bytes = c.args.events.now in
    sym (loop.invariant ∙ run_ends bytes (loop.bytes-index * event_size) loop.current (omega (arith, c.as_chunks.ensures.front_len, c.loop-bytes-test.false)))
