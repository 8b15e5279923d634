-- What document 01's "Sound means" says of a table with lists. What it says of the records' fields and links is not here.
use Prim.Native.Nat.{ℕ, ◌≤◌, ◌<◌}
use mathlib.Core.Path.{◌≡◌}
use mathlib.Core.Logic.{◌⊎◌}
use mathlib.Core.List.{[]}
use Rattle.chains.proofs.Falling.{Falling}
use Rattle.lock_word.specs.{Depth.depth_limit, Layout.count_limit, Ticks.tick_limit}
use Rattle.lock_rules.specs.Rules.{onward}
use Rattle.lock_rules.specs.declared.{Limit.Limit, Suspension.Suspension, Doing.Doing, ThreadState.ThreadState}
use Rattle.lock_rules.specs.declared.Limit.TheVariants.{Unlimited, Ticks}
use Rattle.lock_rules.specs.declared.ThreadState.TheVariants.{Idle}
use Rattle.lock_word.specs.declared.meaning.WordSeen.{WordSeen}
use Rattle.lock_word.specs.declared.meaning.WordSeen.TheVariants.{Free, Anonymous, Fat, Flat, Reserved}
use Rattle.lock_rules.proofs.Each.{each_doing, each_state}
use Rattle.lock_rules.proofs.Objects.{ListObject}
use Rattle.lock_rules.proofs.Tables.{ListThread, ListTable, states_at}
use Rattle.lock_rules.proofs.Invariant.{Placed}

-- a limit is 1 to 65,535 ticks; only one that has run out is 0
abbrev pub LimitFine : Limit → Type 0
LimitFine Unlimited = Unit {0}
LimitFine (Ticks left) = (1 ≤ left) × (left ≤ tick_limit)

abbrev pub LeftFine : Limit → Type 0
LeftFine Unlimited = Unit {0}
LeftFine (Ticks left) = left ≤ tick_limit

-- a saved depth is 1 to 65,535
abbrev pub SuspensionFine : Suspension → Type 0
SuspensionFine suspension = (0 < suspension.depth) × (suspension.depth ≤ depth_limit) × LeftFine suspension.limit

-- of a wait that is not woken yet
abbrev pub WaitingFine : Suspension → Type 0
WaitingFine suspension = (0 < suspension.depth) × (suspension.depth ≤ depth_limit) × LimitFine suspension.limit

-- a kept word in phase 2 has count 0 to 62 for enter, 1 to 63 for exit
abbrev pub DoingFine : Doing → Type 0
DoingFine =
    let fine = Unit {0} in
    each_doing _ (
      (fine, λ c. c < count_limit, fine, fine, fine, fine),
      (fine, λ c. (0 < c) × (c ≤ count_limit), fine, fine, fine, fine),
      (LimitFine, LimitFine, LimitFine, LimitFine, LimitFine, SuspensionFine),
      fine,
      fine,
    )

abbrev pub StateFine : ThreadState → Type 0
StateFine = each_state _ (Unit {0}, DoingFine, λ carried. DoingFine (onward carried), Unit {0}, WaitingFine)

-- a word is valid, with its thread at most `threads`
abbrev pub WordFine : ℕ → WordSeen → Type 0
WordFine threads Free = Unit {0}
WordFine threads Anonymous = Unit {0}
WordFine threads Fat = Unit {0}
WordFine threads (Flat owner c) = (0 < owner) × (owner ≤ threads) × (c ≤ count_limit)
WordFine threads (Reserved owner c) = (0 < owner) × (owner ≤ threads) × (c ≤ count_limit)

-- of an object and the threads as it sees them
pub record SoundObject (threads : ℕ) (states : ℕ → ThreadState) (o : ListObject) : Type 0 where
  pub nobody : states 0 ≡ Idle
  -- each parked thread is in exactly the chain that its phase names, and no other thread is in a chain
  pub placed : (t : ℕ) → Placed (states t) t o.entry o.contention o.waiting
  pub word : WordFine threads o.word
  pub holder : o.holder ≤ threads
  pub deep : o.depth ≤ depth_limit
  -- holder 0 goes with depth 0 and an empty entry chain
  pub shallow : o.holder ≡ 0 → o.depth ≡ 0
  pub empty : o.holder ≡ 0 → o.entry ≡ []
  -- "its entry chains in falling rank" (document 02, L8)
  pub ordered : Falling o.rank o.entry

-- every thread past the table's size is idle, and every other one that is not has an object of the table
abbrev pub InTable : ℕ → ℕ → ℕ → ListThread → Type 0
InTable threads objects t thread = (thread.state ≡ Idle) ⊎ ((t ≤ threads) × (1 ≤ thread.object) × (thread.object ≤ objects))

pub record SoundTable (threads objects : ℕ) (table : ListTable) : Type 0 where
  pub range : (t : ℕ) → InTable threads objects t (table.threads t)
  pub fine : (t : ℕ) → StateFine (table.threads t).state
  pub sound : (o : ℕ) → SoundObject threads (states_at table o) (table.objects o)
