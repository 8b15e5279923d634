-- A tick at one object with lists: what becomes of the object and of the threads at it (document 02, L1).
use Prim.Native.Nat.{ℕ}
use mathlib.Core.Path.{◌≡◌}
use mathlib.Core.Logic.{◌≢◌}
use mathlib.Core.Bool.{Bool, false}
use lib.Dec.{eqb}
use Rattle.laws.specs.{Choice.pick}
use Rattle.laws.specs.Filter.{failing}
use Rattle.laws.proofs.Filter.{passing, count_parted}
use Rattle.laws.proofs.Choice.{by_test, by_equal}
use Rattle.chains.specs.declared.named.Chain.{Chain}
use Rattle.lock_rules.specs.Limits.{ticked, at_zero}
use Rattle.lock_rules.specs.declared.ThreadState.{ThreadState}
use Rattle.lock_rules.specs.declared.ThreadState.TheVariants.{Idle, Running, Queued, Contending, Waiting}
use Rattle.lock_rules.proofs.{Each.each_state, Changes.moved}
use Rattle.lock_rules.proofs.Objects.{ListObject, empty}
use Rattle.lock_rules.proofs.Perform.{Parting, is_handed, changed_states, changed_so, handed_object, handed_states, parted_object}

-- a timed thread in a waiting chain loses one
abbrev pub one_tick_less : ThreadState → ThreadState
one_tick_less = each_state _ (Idle, Running, Queued, Contending, λ suspension. Waiting (ticked suspension))

-- it is at zero then
abbrev pub run_out_in : ThreadState → Bool
run_out_in = each_state _ (false, λ doing. false, λ carried. false, false, at_zero)

-- the threads at an object, and the object
pub record Ticked : Type 0 where
  pub states : ℕ → ThreadState
  pub object : ListObject

module _ (states : ℕ → ThreadState) (o : ListObject) where
  abbrev pub aged : ℕ → ThreadState
  aged = changed_states one_tick_less states o.waiting

  -- those at zero go, the others stay in order
  abbrev pub due : ℕ → Bool
  due t = run_out_in (aged t)

  abbrev pub parting : Parting o.waiting
  parting = record { gone = passing due o.waiting; kept = failing due o.waiting; parted = count_parted due o.waiting }

  -- they move to the entry chain
  abbrev pub expired : Ticked
  expired =
      record {
        states = changed_states moved aged parting.gone;
        object = parted_object Chain.Waiting parting.gone parting.kept o;
      }

  -- what relates each state to itself and to what either change makes of it, and goes on over the next change, relates every thread's state before to
  -- its state when they have moved
  pub expired_so : (R : ThreadState → ThreadState → Type 0) → ((state : ThreadState) → R state state) → ((a b c : ThreadState) → R a b → R b c → R a c)
      → ((state : ThreadState) → R state (one_tick_less state)) → ((state : ThreadState) → R state (moved state)) → (t : ℕ) → R (states t) (expired.states t)
  expired_so R same behind ticks moves t =
      behind _ _ _ (changed_so R same one_tick_less ticks states o.waiting t) (changed_so R same moved moves aged parting.gone t)

  -- a monitor that nobody holds is then handed
  abbrev pub handed_if_free : Ticked → Ticked
  handed_if_free after =
      pick (eqb after.object.holder 0) (record { states = handed_states after.states after.object; object = handed_object after.object }) after

  -- where nobody waits nobody moves, and a monitor that nobody holds has nobody to be handed to
  abbrev pub tick_at : Ticked
  tick_at = pick (empty o.waiting) (record { states = states; object = o }) (handed_if_free expired)

  -- what holds where nobody waits, of a monitor that is handed, and of one that somebody holds, holds of a tick
  pub by_tick : (P : Ticked → Type 0) → P (record { states = states; object = o })
      → (o.holder ≡ 0 → P (record { states = handed_states expired.states expired.object; object = handed_object expired.object }))
      → (o.holder ≢ 0 → P expired) → P tick_at
  by_tick P still handed held = by_test P (empty o.waiting) (λ none. still) (λ some. by_equal P o.holder 0 handed held)

  -- whom a tick unparks: who is then handed the monitor
  abbrev pub tick_unparks : ℕ → Bool
  tick_unparks t =
      pick (empty o.waiting) false (pick (eqb expired.object.holder 0) (is_handed expired.object t) false)
