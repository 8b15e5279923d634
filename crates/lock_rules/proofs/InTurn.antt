-- Who is queued for a monitor is not passed: whoever comes ahead of it has a higher rank, and whoever is handed the monitor was ahead of it.
use Prim.Native.Nat.{ℕ, zero, suc, ◌≤◌, ◌<◌}
use mathlib.Core.Path.{◌≡◌, refl, sym, ap, ◌∙◌}
use mathlib.Core.Logic.{◌≢◌, ◌⊎◌, inl, inr}
use mathlib.Core.List.{List, [], ◌∷◌}
use native.Mathlib.Omega.{arith}
use Rattle.laws.specs.{Update.update, Count.count}
use Rattle.laws.proofs.Choice.{equal?}
use Rattle.laws.proofs.Update.{update_same, update_other}
use Rattle.laws.proofs.Count.{count_none, count_other}
use Rattle.chains.specs.Chain.{Ahead}
use Rattle.chains.proofs.{Falling.Falling, Ahead.Rightly, Ahead.ahead_queue, Ahead.ahead_failing}
use Rattle.chains.specs.declared.named.Chain.{Chain}
use Rattle.std.specs.Prelude.{Option, Some, None}
use Rattle.lock_rules.specs.declared.Effect.{Effect}
use Rattle.lock_rules.specs.declared.{ThreadState.ThreadState, Doing.Doing, Taken.Taken, ChainWork.ChainWork}
use Rattle.lock_rules.specs.declared.event.Event.{Event}
use Rattle.lock_rules.specs.declared.ThreadState.TheVariants.{Running, Queued}
use Rattle.lock_rules.specs.declared.Taken.TheVariants.{First, All}
use Rattle.lock_rules.specs.declared.ChainWork.TheVariants.{Stay, Join, JoinAndHand, Hand, Move, MoveAndLetOut, SendBack}
use Rattle.lock_rules.proofs.Changes.{is_queued_exit}
use Rattle.lock_rules.proofs.Objects.{ListObject}
use Rattle.lock_rules.proofs.Perform.{enter_queue_all, taken, left, first_of, count_taken, joined_object, handed_object, moved_object, object_after, effected}
use Rattle.lock_rules.proofs.Perform.{moved_states, perform}
use Rattle.lock_rules.proofs.Tick.{parting, tick_at, by_tick}
use Rattle.lock_rules.proofs.Tables.{ListTable, states_at, decide_at, perform_at, turn, list_kind}
use Rattle.lock_rules.proofs.{Each.each_chain, TableKinds.by_event, Invariant.Placed, Reliances.is_queued}
use Rattle.lock_rules.proofs.ListSound.{SoundObject, SoundTable}
use Rattle.lock_rules.proofs.{SoundEffects.EntryHeld, SoundEffects.ActionFine, SoundKept.here, SoundKept.owes}

-- from one object to the next, thread a being queued in both
pub record InTurn (a : ℕ) (before after : ListObject) : Type 0 where
  pub ahead : (m : ℕ) → Ahead m a after.entry → Rightly m a before.rank before.entry
  pub holder : (after.holder ≡ before.holder) ⊎ Ahead after.holder a before.entry

-- nothing happens
pub unmoved : (a : ℕ) (o : ListObject) → InTurn a o o
unmoved a o = record { ahead = λ m ahead. inl ahead; holder = inl refl }

-- a list that its first leaves
ahead_left : (m a : ℕ) (list : List ℕ) → Ahead m a (left First list) → Ahead m a list
ahead_left m a [] ahead = ahead
ahead_left m a (first ∷ rest) ahead = inr ahead

first_ahead : (a : ℕ) (list : List ℕ) → 0 < count a (left First list) → Ahead (first_of list) a list
first_ahead a [] inside = absurd (omega (arith, inside, count_none a))
first_ahead a (first ∷ rest) inside = inl (refl, inside)

-- at an object in whose entry chain alone thread a is
module _ (a : ℕ) (o : ListObject) (falls : Falling o.rank o.entry) (alone : (count a o.contention ≡ 0) × (count a o.waiting ≡ 0)) where
  -- with this entry chain and this holder after it
  abbrev Turned : List ℕ → ℕ → Type 0
  Turned entry holder = ((m : ℕ) → Ahead m a entry → Rightly m a o.rank o.entry) × ((holder ≡ o.holder) ⊎ Ahead holder a o.entry)

  still : Turned o.entry o.holder
  still = (λ m ahead. inl ahead, inl refl)

  -- others join
  joined : (moved : List ℕ) → count a moved ≡ 0 → Turned (enter_queue_all o.rank o.entry moved) o.holder
  unfolding enter_queue_all
  joined moved none = (λ m ahead. ahead_queue m a o.rank o.entry moved none falls ahead, inl refl)

  taken_joined : (which : Taken) (list : List ℕ) → count a list ≡ 0 → Turned (enter_queue_all o.rank o.entry (taken which list)) o.holder
  taken_joined which list none = joined (taken which list) (omega (arith, count_taken which list a, none))

  -- the first is handed the monitor
  handed : 0 < count a (left First o.entry) → Turned (left First o.entry) (first_of o.entry)
  handed inside = (λ m ahead. inl (ahead_left m a o.entry ahead), inr (first_ahead a o.entry inside))

  -- the work of a thread that is not a; `was` was the holder
  turned : (thread : ℕ) → thread ≢ a → (states : ℕ → ThreadState) (work : ChainWork) (was : ℕ) → EntryHeld work was o.holder
      → let after = object_after work thread states o in 0 < count a after.entry → Turned after.entry after.holder
  turned thread other states Stay was held inside = still
  turned thread other states (Join Chain.Entry) was held inside = joined (thread ∷ []) (count_other a thread [] (λ e. other (sym e)) ∙ count_none a)
  turned thread other states (Join Chain.Contention) was held inside = still
  turned thread other states (Join Chain.Waiting) was held inside = still
  turned thread other states (JoinAndHand Chain.Entry) was held inside = absurd held
  turned thread other states (JoinAndHand Chain.Contention) was held inside = handed inside
  turned thread other states (JoinAndHand Chain.Waiting) was held inside = handed inside
  turned thread other states Hand was held inside = handed inside
  turned thread other states (Move Chain.Entry which) was held inside = absurd held
  turned thread other states (Move Chain.Contention which) was held inside = taken_joined which o.contention alone.0
  turned thread other states (Move Chain.Waiting which) was held inside = taken_joined which o.waiting alone.1
  turned thread other states MoveAndLetOut was held inside = (
    λ m ahead. (joined o.contention alone.0).0 m
        (ahead_failing m a (λ t. is_queued_exit (moved_states Chain.Contention All states o t)) (enter_queue_all o.rank o.entry o.contention) ahead),
    inl refl,
  )
  turned thread other states (SendBack u) was held inside = still

-- at a sound object
module _ (a threads : ℕ) (states : ℕ → ThreadState) (o : ListObject) (sound : SoundObject threads states o) (queued : 0 < count a o.entry) where
  held : o.holder ≢ 0
  held free = omega (arith, queued, ap (count a) (sound.empty free), count_none a)

  -- who is in the entry chain is in no other
  alone : (count a o.contention ≡ 0) × (count a o.waiting ≡ 0)
  alone = at (count a o.entry) refl
    where
      at : (k : ℕ) → count a o.entry ≡ k → (count a o.contention ≡ 0) × (count a o.waiting ≡ 0)
      at zero none = absurd (omega (arith, queued, none))
      at (suc k) some =
          let (carried, is, once) = is_queued (states a) k (sym (sound.placed a).entry ∙ some) in
          let p : Placed (Queued carried) a o.entry o.contention o.waiting = rw is at (sound.placed a) in
          (p.contention, p.waiting)

  -- a step of a thread
  performed_in_turn : (thread : ℕ) (doing : Doing) → states thread ≡ Running doing → (action : Option Effect) → ActionFine thread o.holder action
      → let after = (perform thread states o action).object in 0 < count a after.entry → InTurn a o after
  performed_in_turn thread doing running None owes inside = unmoved a o
  performed_in_turn thread doing running (Some effect) owes inside =
      let (ahead, holder) = turned a (effected thread effect o) sound.ordered alone thread other states effect.work o.holder owes.entry inside in
      record { ahead = ahead; holder = onward owes.holder holder }
    where
      other : thread ≢ a
      other e =
          let out = (sound.placed thread).entry in
          omega (arith, queued, ap (λ k. count k o.entry) e, rw running at out)

      onward : (effect.holder ≡ o.holder) ⊎ ((effect.holder ≡ thread) × (o.holder ≡ 0))
          → let after = (perform thread states o (Some effect)).object in
          (after.holder ≡ effect.holder) ⊎ Ahead after.holder a o.entry → (after.holder ≡ o.holder) ⊎ Ahead after.holder a o.entry
      onward (inl same) (inl e) = inl (e ∙ same)
      onward (inr (e, free)) (inl is) = absurd (held free)
      onward was (inr ahead) = inr ahead

  -- a tick
  ticked_in_turn : InTurn a o (tick_at states o).object
  ticked_in_turn =
      by_tick states o (λ result. InTurn a o result.object) (unmoved a o) (λ free. absurd (held free))
      (λ is. let (ahead, holder) = joined a o sound.ordered alone (parting states o).gone (omega (arith, (parting states o).parted a, alone.1)) in
      record { ahead = ahead; holder = holder })

-- no work changes a rank
ranks_after : (work : ChainWork) (thread : ℕ) (states : ℕ → ThreadState) (o : ListObject) → (object_after work thread states o).rank ≡ o.rank
ranks_after Stay thread states o = refl
ranks_after (Join chain) thread states o = each_chain (λ c. (joined_object c thread o).rank ≡ o.rank) (refl, refl, refl) chain
ranks_after (JoinAndHand chain) thread states o = each_chain (λ c. (joined_object c thread (handed_object o)).rank ≡ o.rank) (refl, refl, refl) chain
ranks_after Hand thread states o = refl
ranks_after (Move from which) thread states o = each_chain (λ c. (moved_object c which o).rank ≡ o.rank) (refl, refl, refl) from
ranks_after MoveAndLetOut thread states o = refl
ranks_after (SendBack u) thread states o = refl

ranks_performed : (thread : ℕ) (states : ℕ → ThreadState) (o : ListObject) (action : Option Effect) → (perform thread states o action).object.rank ≡ o.rank
ranks_performed thread states o None = refl
ranks_performed thread states o (Some effect) = ranks_after effect.work thread states (effected thread effect o)

ranks_ticked : (states : ℕ → ThreadState) (o : ListObject) → (tick_at states o).object.rank ≡ o.rank
ranks_ticked states o = by_tick states o (λ result. result.object.rank ≡ o.rank) refl (λ free. refl) (λ held. refl)

-- every event on a table
module _ (threads objects : ℕ) (table : ListTable) where
  -- leaves every rank
  pub ranks_turn : (o : ℕ) (event : Event) → ((turn threads objects table event).table.objects o).rank ≡ (table.objects o).rank
  ranks_turn o =
      by_event list_kind threads objects table (λ event result. (result.table.objects o).rank ≡ (table.objects o).rank) (λ event refusal high. refl)
      (λ number limit operation given t b asked fits real low oreal olow idle. refl)
      (λ t doing real low running. let home = (table.threads t).object in
      at home (perform_at table home t doing).object (ranks_performed t (states_at table home) (table.objects home) (decide_at table home t doing)) (equal? o home))
      (ranks_ticked (states_at table o) (table.objects o))
    where
      at : (home : ℕ) (after : ListObject) → after.rank ≡ (table.objects home).rank → (o ≡ home) ⊎ (o ≢ home)
          → (update table.objects home after o).rank ≡ (table.objects o).rank
      at home after same (inl q) = rw (q, update_same table.objects home after) same
      at home after same (inr n) = rw (update_other table.objects home after o n) refl

  -- and on a sound one passes nobody who is queued before and after
  module _ (sound : SoundTable threads objects table) (a : ℕ) where
    stepped : (t : ℕ) (doing : Doing) (real : 1 ≤ t) (low : t ≤ threads) (running : (table.threads t).state ≡ Running doing) (o : ℕ)
        → let home = (table.threads t).object in (o ≡ home) ⊎ (o ≢ home) → 0 < count a (table.objects o).entry
        → let after = update table.objects home (perform_at table home t doing).object in
        0 < count a (after o).entry → InTurn a (table.objects o) (after o)
    stepped t doing real low running o (inl q) =
        let home = (table.threads t).object in
        rw (q, update_same table.objects home (perform_at table home t doing).object)
        (λ queued. performed_in_turn a threads (states_at table home) (table.objects home) (sound.sound home) queued t doing
        (here threads objects table sound t doing real low running) (decide_at table home t doing) (owes threads objects table sound t doing real low running))
    stepped t doing real low running o (inr n) =
        let home = (table.threads t).object in
        rw (update_other table.objects home (perform_at table home t doing).object o n) (λ queued inside. unmoved a (table.objects o))

    pub turn_in_turn : (o : ℕ) (event : Event) → 0 < count a (table.objects o).entry → 0 < count a ((turn threads objects table event).table.objects o).entry
        → InTurn a (table.objects o) ((turn threads objects table event).table.objects o)
    turn_in_turn o event queued =
        by_event list_kind threads objects table
        (λ event result. 0 < count a (result.table.objects o).entry → InTurn a (table.objects o) (result.table.objects o))
        (λ event refusal high inside. unmoved a (table.objects o))
        (λ number limit operation given t b asked fits real low oreal olow idle inside. unmoved a (table.objects o))
        (λ t doing real low running. stepped t doing real low running o (equal? o (table.threads t).object) queued)
        (λ inside. ticked_in_turn a threads (states_at table o) (table.objects o) (sound.sound o) queued) event
