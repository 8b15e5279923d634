-- The limit of a timed wait (document 02, L1): what a tick does to it, and what it says of a wait that resumes.
use Rattle.std.specs.Prelude.{ℕ, ◌-◌, Bool, false, eqb}
use Rattle.laws.specs.Choice.{pick}
use Rattle.lock_rules.specs.declared.Limit.{Limit}
use Rattle.lock_rules.specs.declared.Limit.TheVariants.{Unlimited, Ticks}
use Rattle.lock_rules.specs.declared.Suspension.{Suspension}

-- "loses one"
unfoldable pub one_less : Limit → Limit
one_less Unlimited = Unlimited
one_less (Ticks left) = Ticks (left - 1)

abbrev pub ticked : Suspension → Suspension
ticked suspension = record { depth = suspension.depth; limit = one_less suspension.limit }

unfoldable pub no_ticks : Limit → Bool
no_ticks Unlimited = false
no_ticks (Ticks left) = eqb left 0

abbrev pub at_zero : Suspension → Bool
at_zero suspension = no_ticks suspension.limit

-- "1 for run out, 0 for notified": the ticks left are 0 only when they ran out
unfoldable pub run_out : Limit → ℕ
run_out limit = pick (no_ticks limit) 1 0
