-- Demand 3 over tables with lists: what is claimed of a schedule's last table and of the plain monitors that were fed with it, and that it holds.
use Prim.Native.Nat.{ℕ}
use mathlib.Core.Path.{◌≡◌, refl, ap, ◌∙◌}
use mathlib.Core.Logic.{◌≢◌, ◌⊎◌, inl, inr}
use mathlib.Core.Bool.{Bool, true, false}
use mathlib.Core.List.{List}
use lib.Dec.{T, eqb}
use Rattle.laws.specs.Choice.{pick}
use Rattle.laws.proofs.Choice.{Equal, equal}
use Rattle.lock_rules.specs.{Numbers.phase_of_doing, PlainMonitor.PlainMonitor}
use Rattle.lock_rules.proofs.Each.{each_doing, each_state}
use Rattle.lock_rules.proofs.Status.{is_woken, parked_for_entry, unparked, unfinished}
use Rattle.lock_rules.specs.declared.{Doing.Doing, ThreadState.ThreadState}
use Rattle.lock_rules.specs.declared.ThreadState.TheVariants.{Idle}
use Rattle.lock_rules.specs.declared.event.Event.{Event}
use Rattle.lock_rules.specs.Feed.{Plain, feed_all, blank, AllEndRight}
use Rattle.lock_rules.proofs.Objects.{ListObject, object_owner, owned_depth}
use Rattle.lock_rules.proofs.Tables.{ListTable, states_at, final, shown, fresh, seen_here}
use Rattle.lock_rules.proofs.Invariant.{phase_row, woken?, state_woken?}
use Rattle.lock_rules.proofs.Lift.{ghost_at, World, world_fresh, world_run}
use Rattle.lock_rules.proofs.Progress.{rescued}

-- another thread than t owns the object
abbrev pub OwnedByOther : ListObject → ℕ → Type 0
OwnedByOther o t = (object_owner o ≢ 0) × (object_owner o ≢ t)

-- another thread than t, not parked, has an unfinished operation on the object of t
abbrev pub BusyOther : ListTable → ℕ → Type 0
BusyOther table t =
    (u : ℕ) × (u ≢ t) × T (unparked (table.threads u).state) × T (unfinished (table.threads u).state)
    × ((table.threads u).object ≡ (table.threads t).object)

pub record Claim (table : ListTable) (plain : Plain) : Type 0 where
  -- each object's owner and depth, its waiting threads in order, its woken threads
  pub owners : (o : ℕ) → ((plain.monitors o).owner ≡ object_owner (table.objects o)) × ((plain.monitors o).depth ≡ owned_depth (table.objects o))
  pub waiting : (o : ℕ) → (plain.monitors o).waiting ≡ (table.objects o).waiting
  pub woken : (o t : ℕ) → (plain.monitors o).woken t ≡ is_woken (states_at table o t)
  -- every operation that ended has the plain answer, and no step had no rule
  pub ended : AllEndRight plain.steps
  -- nobody is stranded
  pub unstranded : (t : ℕ) → T (parked_for_entry (table.threads t).state) → OwnedByOther (table.objects (table.threads t).object) t ⊎ BusyOther table t

abbrev pub Demand : Type 0
Demand =
    (threads objects : ℕ) (reserved : Bool) (rank : ℕ → ℕ) (events : List Event)
    → Claim (final threads objects (fresh reserved rank) events) (feed_all blank (shown threads objects (fresh reserved rank) events))

woken_doing : (doing : Doing) → woken? (phase_row doing).saved ≡ eqb (phase_of_doing doing) 15
woken_doing = each_doing _ (search)

woken_state : (state : ThreadState) → state_woken? state ≡ is_woken state
woken_state = each_state _ (search woken_doing)

pub world_claim : (table : ListTable) (plain : Plain) → World table plain → Claim table plain
world_claim table plain world =
    record {
      owners = λ o. (ap (λ (m : PlainMonitor). m.owner) (world.monitors o), ap (λ (m : PlainMonitor). m.depth) (world.monitors o));
      waiting = λ o. ap (λ (m : PlainMonitor). m.waiting) (world.monitors o);
      woken = λ o t. ((world.inv o).threads t).woken ∙ woken_state (states_at table o t);
      ended = world.ended;
      unstranded = unstranded;
    }
  where
    unstranded : (t : ℕ) → T (parked_for_entry (table.threads t).state) → OwnedByOther (table.objects (table.threads t).object) t ⊎ BusyOther table t
    unstranded t k =
        on
        (rescued (states_at table (table.threads t).object) (table.objects (table.threads t).object) (ghost_at plain (table.threads t).object)
        (world.inv (table.threads t).object) t (rw (seen_here (table.threads t).object (table.threads t) refl) k))
      where
        there : (u : ℕ) (b : Bool) → Equal b (table.threads u).object (table.threads t).object → T (unparked (pick b (table.threads u).state Idle))
            → T (unfinished (pick b (table.threads u).state Idle))
            → T (unparked (table.threads u).state) × T (unfinished (table.threads u).state) × ((table.threads u).object ≡ (table.threads t).object)
        there u true s p q = (p, q, s)
        there u false s p q = absurd q

        on : OwnedByOther (table.objects (table.threads t).object) t
            ⊎ ((u : ℕ) × (u ≢ t) × T (unparked (states_at table (table.threads t).object u)) × T (unfinished (states_at table (table.threads t).object u)))
            → OwnedByOther (table.objects (table.threads t).object) t ⊎ BusyOther table t
        on (inl n) = inl n
        on (inr (u, n, p, q)) =
            let home = (table.threads t).object in
            let (a, b, c) = there u (eqb (table.threads u).object home) (equal (table.threads u).object home) p q in
            inr (u, n, a, b, c)

pub demand : Demand
demand threads objects reserved rank events = world_claim _ _ (world_run threads objects events (fresh reserved rank) blank (world_fresh reserved rank))
