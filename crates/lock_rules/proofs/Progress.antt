-- A thread that is parked for entry is not stranded: another owns the object, or another that can take a step has an operation on it.
use Prim.Native.Nat.{ℕ, ◌<◌}
use mathlib.Core.Path.{◌≡◌, refl, sym, ap, ◌∙◌}
use mathlib.Core.Logic.{◌≢◌, ◌⊎◌, inl, inr}
use mathlib.Core.List.{[]}
use native.Mathlib.Omega.{arith}
use lib.Dec.{T}
use Rattle.laws.specs.Count.{count}
use Rattle.laws.proofs.Count.{count_none}
use Rattle.lock_word.specs.Meaning.{owner_of}
use Rattle.lock_rules.proofs.{Each.each_state, SharedFacts.fat_owner}
use Rattle.lock_rules.proofs.Status.{parked_for_entry, unparked, unfinished, Runs}
use Rattle.lock_rules.specs.declared.ThreadState.{ThreadState}
use Rattle.lock_rules.specs.declared.ThreadState.TheVariants.{Idle, Running, Queued, Contending, Waiting}
use Rattle.lock_word.specs.declared.meaning.WordSeen.{WordSeen}
use Rattle.lock_word.specs.declared.meaning.WordSeen.TheVariants.{Free, Anonymous, Fat, Flat, Reserved}
use Rattle.lock_rules.proofs.Objects.{ListObject, object_owner}
use Rattle.lock_rules.proofs.Invariant.{seat, telling?, Seated, NotOwn, Ghost, ThreadOk, MonitorOk, Told, Unstranded, Invariant}

telling_runs : (state : ThreadState) → T (telling? (seat state)) → Runs state
telling_runs = each_state _ (search)

deep_owner : (word : WordSeen) (holder depth : ℕ) → MonitorOk word holder depth → 0 < depth → owner_of word holder depth ≡ holder
deep_owner Free holder depth m l = absurd (omega (arith, m, l))
deep_owner Anonymous holder depth m l = absurd (omega (arith, m, l))
deep_owner Fat holder depth m l = fat_owner holder depth l
deep_owner (Flat owner c) holder depth m l = absurd (omega (arith, m.0, l))
deep_owner (Reserved owner c) holder depth m l = absurd (omega (arith, m.0, l))

module _ (states : ℕ → ThreadState) (o : ListObject) (ghost : Ghost) (inv : Invariant states o ghost) (t : ℕ) where
  -- another thread than t owns the object, or can take a step at it
  abbrev pub Rescued : ℕ → Type 0
  Rescued owner = ((owner ≢ 0) × (owner ≢ t)) ⊎ ((u : ℕ) × (u ≢ t) × T (unparked (states u)) × T (unfinished (states u)))

  -- the holder of the monitor, if it is another, owns the object or can take a step
  by_holder : (word : WordSeen) → MonitorOk word o.holder o.depth → o.holder ≢ 0 → o.holder ≢ t → Rescued (owner_of word o.holder o.depth)
  by_holder word m z n = at (states o.holder) (inv.threads o.holder).seated refl
    where
      owns : 0 < o.depth → Rescued (owner_of word o.holder o.depth)
      owns l = let e = deep_owner word o.holder o.depth m l in inl (λ q. z (sym e ∙ q), λ q. n (sym e ∙ q))

      at : (state : ThreadState) → Seated (seat state) o.holder o.holder o.depth → states o.holder ≡ state
          → Rescued (owner_of word o.holder o.depth)
      at Idle a e = owns (a refl z)
      at (Running doing) a e = inr (o.holder, n, rw e tt, rw e tt)
      at (Queued carried) a e = absurd (a.0 refl)
      at Contending a e = absurd (a.0 refl)
      at (Waiting suspension) a e = absurd (a.0 refl)

  -- a contender: a flat word has another owner, and a free one is about to be told
  contender_rescued : (word : WordSeen) → MonitorOk word o.holder o.depth → Unstranded word states o.holder o.entry o.contention → NotOwn t word
      → o.contention ≢ [] → o.holder ≢ t → (T (unparked (states t)) → ⊥) → Rescued (owner_of word o.holder o.depth)
  contender_rescued Free m r u c n p = at (r c)
    where
      at : Told states o.holder o.entry → Rescued 0
      at (inl (u, q)) = let (a, b) = telling_runs (states u) q in inr (u, λ e. p (rw e at a), a, b)
      at (inr (z, q)) = by_holder Free m z n
  contender_rescued Anonymous m r u c n p = absurd u
  contender_rescued Fat m r u c n p = absurd u
  contender_rescued (Flat owner d) m r u c n p = inl (m.1, u)
  contender_rescued (Reserved owner d) m r u c n p = absurd u

  pub rescued : T (parked_for_entry (states t)) → Rescued (object_owner o)
  rescued k = at (states t) refl k
    where
      at : (state : ThreadState) → states t ≡ state → T (parked_for_entry state) → Rescued (object_owner o)
      at Idle e k = absurd k
      at (Running doing) e k = absurd k
      at (Queued carried) e k =
          let a : ThreadOk t (Queued carried) o (ghost.logs t) (ghost.woken t) (ghost.saved t) = rw e at (inv.threads t) in
          by_holder o.word inv.whole.monitor (λ z. omega (arith, a.placed.entry, ap (count t) (inv.whole.empty z), count_none t)) a.seated.0
      at Contending e k =
          let a : ThreadOk t Contending o (ghost.logs t) (ghost.woken t) (ghost.saved t) = rw e at (inv.threads t) in
          contender_rescued o.word inv.whole.monitor inv.whole.unstranded a.relies
          (λ z. omega (arith, a.placed.contention, ap (count t) z, count_none t)) a.seated.0 (rw e (λ x. x))
      at (Waiting suspension) e k = absurd k
