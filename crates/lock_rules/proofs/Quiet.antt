-- Changes that leave who is parked, and who has an operation: of a thread that moves to another chain, is sent back, or loses a tick.
use Prim.Native.Nat.{ℕ}
use mathlib.Core.Path.{◌≡◌, refl, sym, ◌∙◌, subst}
use mathlib.Core.List.{List}
use lib.Dec.{T}
use Rattle.lock_rules.specs.declared.ThreadState.{ThreadState}
use Rattle.lock_rules.proofs.Each.{each_state}
use Rattle.lock_rules.proofs.Changes.{moved, sent_back}
use Rattle.lock_rules.proofs.Status.{unparked, unfinished}
use Rattle.lock_rules.proofs.Objects.{ListObject}
use Rattle.lock_rules.proofs.Perform.{changed_states, changed_so}
use Rattle.lock_rules.proofs.Tick.{one_tick_less, expired, expired_so}

pub record Quiet (before after : ThreadState) : Type 0 where
  pub parks : unparked after ≡ unparked before
  pub works : unfinished after ≡ unfinished before

pub same_quiet : (state : ThreadState) → Quiet state state
same_quiet state = record { parks = refl; works = refl }

pub moved_quiet : (state : ThreadState) → Quiet state (moved state)
moved_quiet = each_state _ (search)

pub sent_back_quiet : (state : ThreadState) → Quiet state (sent_back state)
sent_back_quiet = each_state _ (search)

ticked_quiet : (state : ThreadState) → Quiet state (one_tick_less state)
ticked_quiet = each_state _ (search)

-- made in any threads' states
pub changed_quiet : (change : ThreadState → ThreadState) → ((state : ThreadState) → Quiet state (change state)) → (states : ℕ → ThreadState) (list : List ℕ) (t : ℕ)
    → Quiet (states t) (changed_states change states list t)
changed_quiet = changed_so Quiet same_quiet

behind_quiet : (a b c : ThreadState) → Quiet a b → Quiet b c → Quiet a c
behind_quiet a b c first second = record { parks = second.parks ∙ first.parks; works = second.works ∙ first.works }

-- a tick, until a monitor is handed
pub expired_quiet : (states : ℕ → ThreadState) (o : ListObject) (t : ℕ) → Quiet (states t) ((expired states o).states t)
expired_quiet states o = expired_so states o Quiet same_quiet behind_quiet ticked_quiet moved_quiet

-- nobody's operation ends
pub quiet_busy : {before after : ThreadState} → Quiet before after → T (unfinished before) → T (unfinished after)
quiet_busy quiet busy = subst T (sym quiet.works) busy
