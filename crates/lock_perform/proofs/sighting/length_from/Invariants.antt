-- The threads passed and those from here on are all of the chain.
use Rattle.std.proofs.Common.{◌≡◌, ◌+◌, ◌-◌}
use Rattle.chains.specs.Chain.{chain_length}
use Rattle.lock_table.specs.Access.{next_of}
use Rattle.lock_perform.proofs.sighting.length_from.Given as goal

abbrev pub invariant-loop-passed : goal.invariant-loop-passed
invariant-loop-passed l =
    chain_length 32 (next_of l.table) l.first ≡ l.passed + chain_length (32 - l.passed) (next_of l.table) l.at
