-- A rule with no work on chains leaves table and monitor as they are.
use Prim.Native.Nat.{ℕ}
use mathlib.Core.Path.{◌≡◌, refl}
use mathlib.Core.Logic.{inl}
use mathlib.Core.Bool.{true}
use Rattle.laws.proofs.Choice.{false≢true}
use Rattle.lock_rules.specs.declared.ChainWork.{ChainWork}
use Rattle.lock_rules.specs.declared.ChainWork.TheVariants.{Stay, Join, JoinAndHand, Hand, Move, MoveAndLetOut, SendBack}
use Rattle.lock_table.specs.{Limits.thread_limit, Access.thread_at}
use Rattle.lock_table.specs.declared.record.{Monitor.Monitor, Table.Table}
use Rattle.chains.specs.declared.named.Chain.{Chain}
use Rattle.lock_table.proofs.Records.{set_thread_out}
use Rattle.lock_perform.proofs.InPlace.{queue_none}
use Rattle.lock_perform.specs.Moving.{after_whole, carry_out}
use Rattle.lock_perform.specs.Perform.{stays}

pub carry_out_stay : (table : Table) (monitor : Monitor) (thread object : ℕ)
    → carry_out table monitor Stay thread object ≡ record { table = table; monitor = monitor; unparked = 0 }
unfolding after_whole
carry_out_stay table monitor thread object = rw (set_thread_out table 0 (thread_at table 0) (inl refl), queue_none Chain.Entry thread_limit table monitor.entry)

-- the same of any work that stays: there is no other
pub stays_carried : (table : Table) (monitor : Monitor) (thread object : ℕ) (work : ChainWork) → stays work ≡ true
    → carry_out table monitor work thread object ≡ record { table = table; monitor = monitor; unparked = 0 }
unfolding stays
stays_carried table monitor thread object Stay stay = carry_out_stay table monitor thread object
stays_carried table monitor thread object (Join chain) stay = false≢true stay
stays_carried table monitor thread object (JoinAndHand chain) stay = false≢true stay
stays_carried table monitor thread object Hand stay = false≢true stay
stays_carried table monitor thread object (Move from which) stay = false≢true stay
stays_carried table monitor thread object MoveAndLetOut stay = false≢true stay
stays_carried table monitor thread object (SendBack owner) stay = false≢true stay
