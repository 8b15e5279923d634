-- The chains of a sound table, any of the three: their members are threads of the table, at that object, each once;
-- so no chain is longer than the table has threads.
use Prim.Native.Nat.{ℕ, ◌≤◌, ◌<◌}
use mathlib.Core.Path.{◌≡◌, refl, ap, ◌∙◌}
use mathlib.Core.Logic.{◌≢◌, ◌⊎◌, inl, inr}
use mathlib.Core.Bool.{Bool, true, false}
use mathlib.Core.List.{List}
use native.Mathlib.Omega.{arith}
use lib.Dec.{eqb}
use lib.ListN.{length}
use Rattle.laws.specs.{Choice.pick, Count.count}
use Rattle.laws.proofs.Choice.{equal?, Equal, equal}
use Rattle.laws.proofs.Count.{distinct_within}
use Rattle.chains.specs.declared.named.Chain.{Chain}
use Rattle.lock_rules.specs.declared.ThreadState.{ThreadState}
use Rattle.lock_rules.specs.declared.ThreadState.TheVariants.{Idle}
use Rattle.lock_rules.proofs.Each.{each_state, each_chain}
use Rattle.lock_rules.proofs.Objects.{ListObject, chain_of}
use Rattle.lock_rules.proofs.Tables.{ListThread, ListTable, seen_from, states_at, seen_idle}
use Rattle.lock_rules.proofs.Invariant.{in_entry, in_contention, in_waiting, Placed}
use Rattle.lock_rules.proofs.ListSound.{InTable, SoundTable}

-- how often a thread in this state is in the chain
abbrev pub times_in : Chain → ThreadState → ℕ
times_in Chain.Entry state = in_entry state
times_in Chain.Contention state = in_contention state
times_in Chain.Waiting state = in_waiting state

pub placed_in : (chain : Chain) (t : ℕ) (state : ThreadState) (o : ListObject) → Placed state t o.entry o.contention o.waiting
    → count t (chain_of chain o) ≡ times_in chain state
placed_in Chain.Entry t state o p = p.entry
placed_in Chain.Contention t state o p = p.contention
placed_in Chain.Waiting t state o p = p.waiting

idle_out : (chain : Chain) → times_in chain Idle ≡ 0
idle_out = each_chain _ (search)

once : (chain : Chain) (state : ThreadState) → times_in chain state ≤ 1
once = each_chain _ (each_state _ (search arith), each_state _ (search arith), each_state _ (search arith))

-- a thread is seen idle from o, or is at o
pub seen_or_at : (o : ℕ) (thread : ListThread) → (seen_from o thread ≡ Idle) ⊎ (thread.object ≡ o)
seen_or_at o thread = at (eqb thread.object o) (equal thread.object o)
  where
    at : (b : Bool) → Equal b thread.object o → (pick b thread.state Idle ≡ Idle) ⊎ (thread.object ≡ o)
    at true q = inr q
    at false q = inl refl

module _ (threads objects : ℕ) (table : ListTable) (sound : SoundTable threads objects table) (chain : Chain) (o : ℕ) where
  abbrev members : List ℕ
  members = chain_of chain (table.objects o)

  counted : (t : ℕ) → count t members ≡ times_in chain (states_at table o t)
  counted t = placed_in chain t (states_at table o t) (table.objects o) ((sound.sound o).placed t)

  -- a member is no idle thread
  not_idle : (t : ℕ) → 0 < count t members → states_at table o t ≡ Idle → ⊥
  not_idle t h e = omega (arith, h, counted t, ap (times_in chain) e, idle_out chain)

  pub member_at : (t : ℕ) → 0 < count t members → (table.threads t).object ≡ o
  member_at t h = at (seen_or_at o (table.threads t))
    where
      at : (states_at table o t ≡ Idle) ⊎ ((table.threads t).object ≡ o) → (table.threads t).object ≡ o
      at (inl e) = absurd (not_idle t h e)
      at (inr q) = q

  pub member_in : (t : ℕ) → 0 < count t members → (0 < t) × (t ≤ threads)
  member_in t h = (real (equal? t 0), at (sound.range t))
    where
      real : (t ≡ 0) ⊎ (t ≢ 0) → 0 < t
      real (inl q) = absurd (not_idle t h (ap (states_at table o) q ∙ (sound.sound o).nobody))
      real (inr n) = omega (arith, n)

      at : InTable threads objects t (table.threads t) → t ≤ threads
      at (inl e) = absurd (not_idle t h (seen_idle o (table.threads t) e))
      at (inr b) = b.0

  pub short : length members ≤ threads
  short = distinct_within threads members (λ t. omega (arith, counted t, once chain (states_at table o t))) member_in

  -- a thread whose state names no chain is in none
  pub out_of_chain : (t : ℕ) → times_in chain (table.threads t).state ≡ 0 → count t members ≡ 0
  out_of_chain t e = counted t ∙ at (eqb (table.threads t).object o)
    where
      at : (b : Bool) → times_in chain (pick b (table.threads t).state Idle) ≡ 0
      at true = e
      at false = idle_out chain
