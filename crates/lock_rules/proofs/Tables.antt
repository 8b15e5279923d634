-- Tables of threads and objects with lists; fresh tables, events and schedules.
use Prim.Native.Nat.{ℕ}
use mathlib.Core.Path.{◌≡◌, refl}
use mathlib.Core.Logic.{◌≢◌}
use mathlib.Core.Bool.{Bool, true, false}
use mathlib.Core.List.{List, []}
use lib.Dec.{eqb}
use borrow.Author.Tests.{eq-eqb, ne_eqb}
use Rattle.laws.specs.{Choice.pick, Update.update}
use Rattle.lock_rules.specs.Rules.{decide, begun}
use Rattle.lock_rules.specs.Operations.{Operation}
use Rattle.std.specs.Prelude.{Option}
use Rattle.lock_rules.specs.declared.Effect.{Effect}
use Rattle.lock_rules.specs.declared.{Limit.Limit, Doing.Doing, ThreadState.ThreadState}
use Rattle.lock_rules.specs.declared.ThreadState.TheVariants.{Idle, Running}
use Rattle.lock_word.specs.declared.meaning.WordSeen.{WordSeen}
use Rattle.lock_word.specs.declared.meaning.WordSeen.TheVariants.{Free, Anonymous}
use Rattle.lock_rules.specs.declared.event.Event.{Event}
use Rattle.lock_rules.specs.Events.{Answered, Shown}
use Rattle.lock_rules.proofs.Objects.{ListObject, object_of, sight_of}
use Rattle.lock_rules.proofs.Perform.{Performed, perform, action_unparks}
use Rattle.lock_rules.proofs.Tick.{Ticked, tick_at, tick_unparks}
use Rattle.lock_rules.proofs.TableKinds.{TurnOf, Kind, turn_on, final_on, shown_on}

-- a thread's object and state; the object of an idle thread is its last one
pub record ListThread : Type 0 where
  pub object : ℕ
  pub state : ThreadState

pub record ListTable : Type 0 where
  pub threads : ℕ → ListThread
  pub objects : ℕ → ListObject

-- a thread as object o sees it: idle, if it is elsewhere
abbrev pub seen_from : ℕ → ListThread → ThreadState
seen_from o thread = pick (eqb thread.object o) thread.state Idle

abbrev pub states_at : ListTable → ℕ → ℕ → ThreadState
states_at table o t = seen_from o (table.threads t)

-- a rule's result put back: the object, and the threads at it
abbrev pub put_back : ListTable → ℕ → Performed → ListTable
put_back table o performed =
    record {
      threads = λ t. pick (eqb (table.threads t).object o) (record { object = o; state = performed.states t }) (table.threads t);
      objects = update table.objects o performed.object;
    }

abbrev pub decide_at : ListTable → ℕ → ℕ → Doing → Option Effect
decide_at table o thread doing = decide thread (sight_of (table.objects o)) doing

abbrev pub perform_at : ListTable → ℕ → ℕ → Doing → Performed
perform_at table o thread doing = perform thread (states_at table o) (table.objects o) (decide_at table o thread doing)

abbrev pub acted_at : ListTable → ℕ → ℕ → Option Effect → TurnOf ListTable
acted_at table o thread action =
    let performed = perform thread (states_at table o) (table.objects o) action in
    record {
      table = put_back table o performed;
      reply = Answered performed.answer performed.commits;
      unparked = action_unparks thread (states_at table o) (table.objects o) action;
    }

abbrev pub begin_at : ListTable → Operation → Limit → ℕ → ℕ → ListTable
begin_at table operation limit thread o =
    record { threads = update table.threads thread (record { object = o; state = Running (begun operation limit) }); objects = table.objects }

abbrev pub step_at : ListTable → ℕ → Doing → TurnOf ListTable
step_at table thread doing =
    acted_at table (table.threads thread).object thread (decide_at table (table.threads thread).object thread doing)

-- a tick at one object, at those that pass a test, at all
abbrev pub ticked_at : ListTable → ℕ → Ticked
ticked_at table o = tick_at (states_at table o) (table.objects o)

abbrev pub tick_where : (ℕ → Bool) → ListTable → ListTable
tick_where which table =
    record {
      threads = λ t. let home = (table.threads t).object in
          record { object = home; state = pick (which home) ((ticked_at table home).states t) (table.threads t).state };
      objects = λ o. pick (which o) (ticked_at table o).object (table.objects o);
    }

abbrev pub tick_all : ListTable → ListTable
tick_all = tick_where (λ o. true)

-- whom a tick unparks: each thread is at one object
abbrev pub tick_all_unparks : ListTable → ℕ → Bool
tick_all_unparks table t = let home = (table.threads t).object in tick_unparks (states_at table home) (table.objects home) t

abbrev pub list_kind : Kind
list_kind =
    record {
      Table = ListTable;
      state = λ table thread. (table.threads thread).state;
      begins = begin_at;
      steps = step_at;
      ticks = tick_all;
      unparks = tick_all_unparks;
    }

abbrev pub turn : ℕ → ℕ → ListTable → Event → TurnOf ListTable
turn = turn_on list_kind

abbrev pub final : ℕ → ℕ → ListTable → List Event → ListTable
final = final_on list_kind

abbrev pub shown : ℕ → ℕ → ListTable → List Event → List Shown
shown = shown_on list_kind

-- every thread idle, every word free or every word anonymously reserved
abbrev pub fresh_word : Bool → WordSeen
fresh_word true = Anonymous
fresh_word false = Free

abbrev pub fresh_object : Bool → (ℕ → ℕ) → ListObject
fresh_object reserved rank = object_of rank (fresh_word reserved) false 0 0 [] [] []

abbrev pub fresh : Bool → (ℕ → ℕ) → ListTable
fresh reserved rank = record { threads = λ t. record { object = 0; state = Idle }; objects = λ o. fresh_object reserved rank }

-- reading a thread from an object
pub seen_idle : (o : ℕ) (thread : ListThread) → thread.state ≡ Idle → seen_from o thread ≡ Idle
seen_idle o thread e = at (eqb thread.object o)
  where
    at : (b : Bool) → pick b thread.state Idle ≡ Idle
    at true = e
    at false = refl

pub seen_here : (o : ℕ) (thread : ListThread) → thread.object ≡ o → seen_from o thread ≡ thread.state
seen_here o thread e = rw (eq-eqb thread.object o e)

pub seen_elsewhere : (o : ℕ) (thread : ListThread) → thread.object ≢ o → seen_from o thread ≡ Idle
seen_elsewhere o thread away = rw (ne_eqb thread.object o away)
