-- The answer and the marks from here are those from the first thread.
use Rattle.std.proofs.Common.{◌≡◌, ◌-◌}
use Rattle.chains.specs.Chain.{chain_test}
use Rattle.sound_records.specs.OnePass.{chain_number}
use Rattle.lock_soundness.specs.OnePass.{next_in, member_fits, chain_passes, marked, chain_marks}
use Rattle.lock_soundness.proofs.chain.chain_passes.Given as goal

abbrev pub invariant-loop : goal.invariant-loop
invariant-loop l =
    let threads = l.table.threads in
    let count = l.table.threadcount in
    let chain = chain_number l.chain in
    (chain_passes threads count l.object chain l.first ≡ chain_test (count - l.counter) (next_in threads) (member_fits threads count l.object chain) l.at)
    × (chain_marks threads count l.object chain l.first l.fn.met ≡ marked (count - l.counter) (next_in threads) (member_fits threads count l.object chain) l.at l.met)
