-- The operations, and the one that a begin asks for by its number (document 01, "The table"; document 02, L1).
use Rattle.std.specs.Prelude.{ℕ}
use Rattle.lock_rules.specs.declared.Limit.{Limit}

-- a timed wait is a wait with a limit
pub data Operation : Type 0 where
  Enter Exit Wait Notify NotifyAll : Operation

-- their numbers are 1 to that of a timed wait
abbrev pub timed_wait : ℕ
timed_wait = 6

abbrev pub operation_limit : ℕ
operation_limit = timed_wait

-- no number but theirs asks for one
pub data Asked : Type 0 where
  Unknown : Asked
  Known : Operation → Limit → Asked
