-- Sets of threads, as 32 bits: "bit n − 1 for thread n" (document 02, L3).
use Rattle.std.specs.Prelude.{ℕ, zero, suc, ◌-◌, ◌/◌, ◌%◌, ◌^◌, Bool, false, eqb, ltb}
use Rattle.laws.specs.Choice.{pick}
use Rattle.lock_table.specs.Limits.{thread_limit}

-- the set of one thread, and of nobody for a number that has no record
unfoldable pub thread_set : ℕ → ℕ
thread_set thread = pick (eqb thread 0) 0 (pick (ltb thread_limit thread) 0 (2 ^ (thread - 1)))

-- whether a thread is in a set; number 0 is no thread
unfoldable pub has_thread : ℕ → ℕ → Bool
has_thread set zero = false
has_thread set (suc n) = eqb (set / 2 ^ n % 2) 1
