-- The three chains of an object by number, as the engine's test has them, and the chain that a state's phase names.
use Prim.Native.Nat.{ℕ, zero, suc, ◌≤◌, ◌<◌}
use mathlib.Core.Path.{◌≡◌, ap, ◌∙◌}
use mathlib.Core.Logic.{◌≢◌, ◌⊎◌, inl, inr}
use native.Mathlib.Omega.{arith}
use lib.Dec.{T, eqb}
use borrow.Author.Tests.{eq-eqb, ne_eqb}
use Rattle.laws.specs.Count.{one_if}
use Rattle.laws.proofs.Choice.{either_way, equal?}
use Rattle.lock_rules.specs.Numbers.{phase_of_doing, phase_of}
use Rattle.lock_rules.proofs.Each.{each_doing, each_state, each_chain}
use Rattle.lock_rules.proofs.{Status.unfinished, ListChains.times_in}
use Rattle.lock_rules.specs.declared.{Doing.Doing, ThreadState.ThreadState}
use Rattle.lock_rules.specs.declared.ThreadState.TheVariants.{Idle}
use Rattle.chains.specs.declared.named.Chain.{Chain}
use Rattle.lock_table.specs.Parked.{chain_named}
use Rattle.sound_records.specs.OnePass.{chain_number}

pub chain_number_low : (chain : Chain) → 1 ≤ chain_number chain
chain_number_low = each_chain _ (search arith)

pub chain_number_high : (chain : Chain) → chain_number chain ≤ 3
chain_number_high = each_chain _ (search arith)

-- what holds of each chain holds of the numbers 1 to 3
pub by_chain : (P : ℕ → Type 0) → ((chain : Chain) → P (chain_number chain)) → (k : ℕ) → 1 ≤ k → k ≤ 3 → P k
by_chain P each zero low high = absurd (omega (arith, low))
by_chain P each (suc zero) low high = each Chain.Entry
by_chain P each (suc (suc zero)) low high = each Chain.Contention
by_chain P each (suc (suc (suc zero))) low high = each Chain.Waiting
by_chain P each (suc (suc (suc (suc k)))) low high = absurd (omega (arith, high))

-- two chains with one number are the same chain
pub one_chain : (a b : Chain) → chain_number a ≡ chain_number b → a ≡ b
one_chain = each_chain _ (each_chain _ (search, λ e. cc, λ e. cc), each_chain _ (λ e. cc, search, λ e. cc), each_chain _ (λ e. cc, λ e. cc, search))

-- a thread that can take a step is in no phase that names a chain
pub running_names_none : (doing : Doing) → chain_named (phase_of_doing doing) ≡ 0
unfolding chain_named
running_names_none = each_doing _ (search)

-- a thread is in the chain that its phase names, once, and in no other
pub state_names : (chain : Chain) (state : ThreadState) → times_in chain state ≡ one_if (eqb (chain_named (phase_of state)) (chain_number chain))
unfolding chain_named
state_names = each_chain _ (each_state _ (search running_names_none), each_state _ (search running_names_none), each_state _ (search running_names_none))

pub idle_never : (chain : Chain) → times_in chain Idle ≡ 0
idle_never = each_chain _ (search)

-- so it is in this chain just where its phase names it
pub named_once : (chain : Chain) (state : ThreadState) → chain_named (phase_of state) ≡ chain_number chain → times_in chain state ≡ 1
named_once chain state e = state_names chain state ∙ ap one_if (eq-eqb (chain_named (phase_of state)) (chain_number chain) e)

pub unnamed_never : (chain : Chain) (state : ThreadState) → chain_named (phase_of state) ≢ chain_number chain → times_in chain state ≡ 0
unnamed_never chain state away = state_names chain state ∙ ap one_if (ne_eqb (chain_named (phase_of state)) (chain_number chain) away)

pub in_named : (chain : Chain) (state : ThreadState) → 0 < times_in chain state → chain_named (phase_of state) ≡ chain_number chain
in_named chain state inside =
    either_way (equal? (chain_named (phase_of state)) (chain_number chain)) (λ e. e) (λ away. absurd (omega (arith, inside, unnamed_never chain state away)))

-- a thread that is in a chain is not idle
pub named_busy : (state : ThreadState) → chain_named (phase_of state) ≢ 0 → T (unfinished state)
unfolding chain_named
named_busy = each_state _ (search)

pub idle_or_busy : (state : ThreadState) → (state ≡ Idle) ⊎ T (unfinished state)
idle_or_busy = each_state _ (search (inl, inr))
