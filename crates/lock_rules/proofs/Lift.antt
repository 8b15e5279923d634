-- From one object to the table: every event keeps the invariant at every object, and the plain monitors agree with the objects. A step changes one object and
-- the threads at it; any other object is seen as before.
use Prim.Native.Nat.{ℕ}
use mathlib.Core.Path.{◌≡◌, refl, sym, ap, ◌∙◌, subst₂, subst₃, fun_ext}
use mathlib.Core.Logic.{◌≢◌, ◌⊎◌, inl, inr}
use mathlib.Core.Bool.{Bool, true, false}
use mathlib.Core.List.{List, [], ◌∷◌}
use native.Mathlib.Omega.{arith}
use lib.Dec.{T, eqb}
use borrow.Author.Tests.{eq-eqb, ne_eqb}
use Rattle.laws.specs.{Choice.pick, Update.update}
use Rattle.laws.proofs.Choice.{equal?, either_way, Equal, equal}
use Rattle.laws.proofs.Update.{update_same, update_other, update_map}
use Rattle.laws.proofs.Count.{count_none}
use Rattle.lock_rules.specs.{Rules.begun}
use Rattle.lock_rules.specs.Operations.{Operation, Known}
use Rattle.lock_rules.specs.declared.{Limit.Limit, Suspension.Suspension, Doing.Doing, ThreadState.ThreadState, Answer.Answer}
use Rattle.lock_rules.specs.declared.ThreadState.TheVariants.{Idle, Running}
use Rattle.lock_rules.specs.declared.event.{Event.Event}
use Rattle.lock_rules.specs.PlainMonitor.{PlainMonitor, Committed, unowned, commit, plain_tick}
use Rattle.lock_rules.specs.Feed.{OperationLog, Plain, new_log, log_after, fed_step, fed_begin, fed_tick, feed, feed_all, blank, EndsRight, AllEndRight}
use Rattle.lock_rules.proofs.{Each.each_operation, Perform.Performed, TableKinds.by_event, OtherThreads.with_own}
use Rattle.lock_rules.proofs.{SharedFacts.unstranded_moved, EveryStep.step_refines}
use Rattle.lock_rules.proofs.Objects.{ListObject}
use Rattle.lock_rules.proofs.Tables.{ListThread, ListTable, seen_from, states_at, put_back, perform_at, begin_at, ticked_at, tick_where, tick_all, list_kind, turn, final}
use Rattle.lock_rules.proofs.Tables.{shown, fresh_object, fresh, seen_idle, seen_here, seen_elsewhere}
use Rattle.lock_rules.proofs.Invariant.{phase_row, leaving?, Ghost, ThreadOk, ObjectOk, Invariant, monitor_of, Refines}
use Rattle.lock_rules.proofs.Refinement.{Actor, Stepping}
use Rattle.lock_rules.proofs.TickRules.{ticked_idle, ghost_after, Refines as TickRefines, tick_refines}

-- what the plain monitors know of the threads at object o
abbrev pub ghost_at : Plain → ℕ → Ghost
ghost_at plain o = record { logs = plain.logs; woken = (plain.monitors o).woken; saved = (plain.monitors o).saved }

pub record World (table : ListTable) (plain : Plain) : Type 0 where
  pub inv : (o : ℕ) → Invariant (states_at table o) (table.objects o) (ghost_at plain o)
  pub monitors : (o : ℕ) → plain.monitors o ≡ monitor_of (table.objects o) (ghost_at plain o)
  pub objects : (t : ℕ) → (plain.logs t).object ≡ (table.threads t).object
  pub ended : AllEndRight plain.steps

-- the log of a thread that is idle here is not read here
inv_log : (t : ℕ) (states : ℕ → ThreadState) (o : ListObject) (ghost : Ghost) (log : OperationLog) → Invariant states o ghost → states t ≡ Idle
    → Invariant states o (record { logs = update ghost.logs t log; woken = ghost.woken; saved = ghost.saved })
inv_log t states o ghost log inv e = record { threads = λ u. at u (equal? u t); whole = inv.whole }
  where
    at : (u : ℕ) → (u ≡ t) ⊎ (u ≢ t) → ThreadOk u (states u) o (update ghost.logs t log u) (ghost.woken u) (ghost.saved u)
    at u (inl q) =
        let a : ThreadOk t Idle o (ghost.logs t) (ghost.woken t) (ghost.saved t) = rw e at (inv.threads t) in
        rw (q, e) (record { seated = a.seated; placed = a.placed; relies = tt; logged = tt; saved = tt; woken = a.woken })
    at u (inr n) = rw (update_other ghost.logs t log u n) (inv.threads u)

-- an idle thread begins
first_phase : (operation : Operation) (limit : Limit) (t object : ℕ) (o : ListObject) (log : OperationLog) (woken : Bool) (suspension : Suspension)
    → ThreadOk t Idle o log woken suspension
    → ThreadOk t (Running (begun operation limit)) o (new_log operation limit object) woken suspension
first_phase operation limit t object o log woken suspension a =
    each_operation (λ asked. ThreadOk t (Running (begun asked limit)) o (new_log asked limit object) woken suspension) (search) operation

first_stays : (limit : Limit) (operation : Operation) → T (leaving? (phase_row (begun operation limit)).seat) → ⊥
first_stays limit = each_operation _ (search)

inv_begin : (operation : Operation) (limit : Limit) (t object : ℕ) (states : ℕ → ThreadState) (o : ListObject) (ghost : Ghost) → t ≢ 0 → Invariant states o ghost
    → states t ≡ Idle
    → Invariant (update states t (Running (begun operation limit))) o
    (record { logs = update ghost.logs t (new_log operation limit object); woken = ghost.woken; saved = ghost.saved })
inv_begin operation limit t object states o ghost z inv e =
    let a : ThreadOk t Idle o (ghost.logs t) (ghost.woken t) (ghost.saved t) = rw e at (inv.threads t) in
    record {
      threads = with_own t states o ghost (Running (begun operation limit)) _ (λ u n. inv.threads u) (first_phase operation limit t object o _ _ _ a);
      whole = record {
        nobody = update_other states t (Running (begun operation limit)) 0 (λ q. z (sym q)) ∙ inv.whole.nobody;
        monitor = inv.whole.monitor;
        empty = inv.whole.empty;
        flag = inv.whole.flag;
        unstranded = unstranded_moved o.word states t Idle (Running (begun operation limit)) o.holder o.entry o.contention e (λ k. absurd k)
            (λ k. absurd (first_stays limit operation k)) inv.whole.unstranded;
      };
    }

world_begin : (table : ListTable) (plain : Plain) (operation : Operation) (limit : Limit) (t o : ℕ) → t ≢ 0 → (table.threads t).state ≡ Idle → World table plain
    → World (begin_at table operation limit t o) (fed_begin plain t o (Known operation limit))
world_begin table plain operation limit t o z e world =
    record {
      inv = λ b. at b (equal? b o);
      monitors = world.monitors;
      objects = λ u.
          rw (
            update_map (λ (x : OperationLog). x.object) plain.logs t (new_log operation limit o) u,
            update_map (λ (x : ListThread). x.object) table.threads t (record { object = o; state = Running (begun operation limit) }) u,
            fun_ext world.objects,
          );
      ended = world.ended;
    }
  where
    at : (b : ℕ) → (b ≡ o) ⊎ (b ≢ o)
        → Invariant (states_at (begin_at table operation limit t o) b) (table.objects b) (ghost_at (fed_begin plain t o (Known operation limit)) b)
    at b (inl s) =
        subst₃ Invariant
        (fun_ext
        (λ u. sym
        (update_map (seen_from b) table.threads t (record { object = o; state = Running (begun operation limit) }) u
        ∙ ap (λ v. update (states_at table b) t v u) (seen_here b _ (sym s)))))
        refl refl (inv_begin operation limit t o (states_at table b) (table.objects b) (ghost_at plain b) z (world.inv b) (seen_idle b (table.threads t) e))
    at b (inr n) =
        subst₃ Invariant (fun_ext (λ u. sym (away u (equal? u t)))) refl refl
        (inv_log t (states_at table b) (table.objects b) (ghost_at plain b) _ (world.inv b) (seen_idle b (table.threads t) e))
      where
        away : (u : ℕ) → (u ≡ t) ⊎ (u ≢ t) → states_at (begin_at table operation limit t o) b u ≡ states_at table b u
        away u (inl s) =
            rw (s, update_same table.threads t (record { object = o; state = Running (begun operation limit) }))
            (seen_elsewhere b _ (λ k. n (sym k)) ∙ sym (seen_idle b (table.threads t) e))
        away u (inr m) = ap (seen_from b) (update_other table.threads t _ u m)

log_is : (commits : Bool) (log : OperationLog) (a b : Answer) → (T commits → a ≡ b) → log_after commits log a ≡ log_after commits log b
log_is true log a b e = ap (log_after true log) (e tt)
log_is false log a b e = refl

pub log_keeps : (commits : Bool) (log : OperationLog) (a : Answer)
    → ((log_after commits log a).object ≡ log.object) × ((log_after commits log a).operation ≡ log.operation)
log_keeps true log a = (refl, refl)
log_keeps false log a = (refl, refl)

pick_is : (commits : Bool) (a b old : PlainMonitor) → (T commits → a ≡ b) → pick commits a old ≡ pick commits b old
pick_is true a b old e = e tt
pick_is false a b old e = refl

-- how the threads are seen after a rule's result result is put back at object o, if it leaves the idle threads idle
module _ (table : ListTable) (o : ℕ) (result : Performed) where
  abbrev after : ListTable
  after = put_back table o result

  pub seen_there : ((t : ℕ) → (table.threads t).object ≢ o → result.states t ≡ Idle) → (t : ℕ) → result.states t ≡ states_at after o t
  seen_there stays t = at (eqb (table.threads t).object o) (equal (table.threads t).object o)
    where
      at : (b : Bool) → Equal b (table.threads t).object o
          → result.states t ≡ seen_from o (pick b (record { object = o; state = result.states t }) (table.threads t))
      at true s = sym (seen_here o (record { object = o; state = result.states t }) refl)
      at false s = stays t s ∙ sym (seen_elsewhere o (table.threads t) s)

  pub seen_as_before : (b : ℕ) → b ≢ o → (t : ℕ) → states_at table b t ≡ states_at after b t
  seen_as_before b n t = at (eqb (table.threads t).object o) (equal (table.threads t).object o)
    where
      at : (c : Bool) → Equal c (table.threads t).object o
          → states_at table b t ≡ seen_from b (pick c (record { object = o; state = result.states t }) (table.threads t))
      at true s =
          seen_elsewhere b (table.threads t) (λ k. n (sym k ∙ s)) ∙ sym (seen_elsewhere b (record { object = o; state = result.states t }) (λ k. n (sym k)))
      at false s = refl

  same_object : (t : ℕ) → (after.threads t).object ≡ (table.threads t).object
  same_object t = at (eqb (table.threads t).object o) (equal (table.threads t).object o)
    where
      at : (b : Bool) → Equal b (table.threads t).object o
          → (pick {A = ListThread} b (record { object = o; state = result.states t }) (table.threads t)).object ≡ (table.threads t).object
      at true s = sym s
      at false s = refl

-- how the threads are seen after a tick at those objects that pass a test
pub tick_seen : (which : ℕ → Bool) (table : ListTable) (o t : ℕ)
    → states_at (tick_where which table) o t ≡ pick (which o) (ticked_at table o).states (states_at table o) t
tick_seen which table o t =
    either_way (equal? (table.threads t).object o) (λ is. rw (eq-eqb (table.threads t).object o is, is) (here (which o) is))
    (λ away. rw (ne_eqb (table.threads t).object o away) (elsewhere (which o) (seen_elsewhere o (table.threads t) away)))
  where
    here : (b : Bool) → (table.threads t).object ≡ o
        → pick b ((ticked_at table o).states t) (table.threads t).state ≡ pick b (ticked_at table o).states (states_at table o) t
    here true is = refl
    here false is = sym (seen_here o (table.threads t) is)

    elsewhere : (b : Bool) → states_at table o t ≡ Idle → Idle ≡ pick b (ticked_at table o).states (states_at table o) t
    elsewhere true idle = sym (ticked_idle (states_at table o) (table.objects o) t idle)
    elsewhere false idle = sym idle

-- a step of thread t, which is at the object `home`, with a result that refines the plain monitor there
module _ (table : ListTable) (plain : Plain) (t : ℕ) (result : Performed) (world : World table plain) where
  abbrev home : ℕ
  home = (table.threads t).object

  abbrev next : ListTable
  next = put_back table home result

  abbrev fed : Plain
  fed = fed_step plain t result.answer result.commits

  pub world_step : (operation : Operation) → (plain.logs t).operation ≡ operation
      → Refines t operation (states_at table home) (table.objects home) (ghost_at plain home) result → World next fed
  world_step operation e refined =
      record {
        inv = λ b. invs b (equal? b home);
        monitors = λ b. mons b (equal? b home);
        objects = λ u. logs u (equal? u t) ∙ (world.objects u ∙ sym (same_object table home result u));
        ended = (
          subst₂ (λ (p : Operation) (x : OperationLog). EndsRight p result.answer x) (sym ((log_keeps result.commits (plain.logs t) _).1 ∙ e)) log
              refined.ended,
          world.ended,
        );
      }
    where
      runs : commit (plain.logs t).operation (plain.logs t).limit t (plain.monitors (plain.logs t).object)
          ≡ commit operation (plain.logs t).limit t (monitor_of (table.objects home) (ghost_at plain home))
      runs = rw (e, world.objects t) (ap (commit operation (plain.logs t).limit t) (world.monitors home))

      log : log_after result.commits (plain.logs t) refined.committed.answer
          ≡ log_after result.commits (plain.logs t) (commit (plain.logs t).operation (plain.logs t).limit t (plain.monitors (plain.logs t).object)).answer
      log = log_is result.commits (plain.logs t) _ _ (λ k. sym (ap (λ (x : Committed). x.answer) (runs ∙ refined.commits k)))

      -- the plain monitor of the object, after the step
      here : fed.monitors home ≡ monitor_of result.object (record { logs = plain.logs; woken = refined.woken; saved = refined.saved })
      here = rw (world.objects t, update_same plain.monitors home) (pick_is result.commits _ refined.committed.monitor (plain.monitors home)
          (λ k. ap (λ (x : Committed). x.monitor) ((rw (world.objects t) at runs) ∙ refined.commits k))
          ∙ (ap (pick result.commits refined.committed.monitor) (world.monitors home) ∙ refined.monitor))

      there : (b : ℕ) → b ≢ home → plain.monitors b ≡ fed.monitors b
      there b n = sym (rw (world.objects t) (update_other plain.monitors home _ b n))

      stays : (u : ℕ) → (table.threads u).object ≢ home → result.states u ≡ Idle
      stays u s =
          refined.outside u (λ k. s (ap (λ x. (table.threads x).object) k)) (seen_elsewhere home (table.threads u) s)

      invs : (b : ℕ) → (b ≡ home) ⊎ (b ≢ home)
          → Invariant (states_at next b) (next.objects b) (ghost_at fed b)
      invs b (inl s) =
          rw s
          (subst₃ Invariant (fun_ext (seen_there table home result stays))
          (sym (update_same table.objects home result.object))
          (λ k. record { logs = update plain.logs t (log k); woken = (back k).woken; saved = (back k).saved }) refined.invariant)
        where
          back : monitor_of result.object (record { logs = plain.logs; woken = refined.woken; saved = refined.saved }) ≡ fed.monitors home
          back = sym here
      invs b (inr n) =
          subst₃ Invariant (fun_ext (seen_as_before table home result b n))
          (sym (update_other table.objects home result.object b n))
          (λ k. record { logs = fed.logs; woken = (there b n k).woken; saved = (there b n k).saved })
          (inv_log t (states_at table b) (table.objects b) (ghost_at plain b) _ (world.inv b) (seen_elsewhere b (table.threads t) (λ k. n (sym k))))

      mons : (b : ℕ) → (b ≡ home) ⊎ (b ≢ home)
          → fed.monitors b ≡ monitor_of (next.objects b) (ghost_at fed b)
      mons b (inl s) =
          rw s
          (here
          ∙ (λ k. monitor_of (sym (update_same table.objects home result.object) k)
          (record { logs = plain.logs; woken = (sym here k).woken; saved = (sym here k).saved })))
      mons b (inr n) =
          sym (there b n)
          ∙ (world.monitors b
          ∙ (λ k. monitor_of (sym (update_other table.objects home result.object b n) k)
          (record { logs = plain.logs; woken = (there b n k).woken; saved = (there b n k).saved })))

      logs : (u : ℕ) → (u ≡ t) ⊎ (u ≢ t) → (fed.logs u).object ≡ (plain.logs u).object
      logs u (inl s) = rw (s, update_same plain.logs t) (log_keeps result.commits (plain.logs t) _).0
      logs u (inr n) = ap (λ (x : OperationLog). x.object) (update_other plain.logs t _ u n)

-- the thread t that steps, at its object
abbrev actor_at : ListTable → Plain → (t : ℕ) → t ≢ 0 → Actor
actor_at table plain t z =
    record { thread = t; states = states_at table (table.threads t).object; ghost = ghost_at plain (table.threads t).object; real = z }

stepping : (table : ListTable) (plain : Plain) (t : ℕ) (doing : Doing) (z : t ≢ 0) → (table.threads t).state ≡ Running doing → World table plain
    → Stepping (actor_at table plain t z) doing (table.objects (table.threads t).object)
stepping table plain t doing z k world =
    let o = (table.threads t).object in
    let e : states_at table o t ≡ Running doing = seen_here o (table.threads t) refl ∙ k in
    record { inv = world.inv o; running = e; self = rw e at ((world.inv o).threads t) }

-- a tick: each object's own, and the plain monitor of each
world_tick : (table : ListTable) (plain : Plain) → World table plain → World (tick_all table) (fed_tick plain)
world_tick table plain world =
    record {
      inv = λ o. subst₃ Invariant (fun_ext (λ t. sym (tick_seen (λ b. true) table o t))) refl (known o) (shown_at o).0;
      monitors = λ o. ap plain_tick (world.monitors o) ∙ ((shown_at o).1 ∙ ap (monitor_of (ticked_at table o).object) (known o));
      objects = world.objects;
      ended = world.ended;
    }
  where
    shown_at : (o : ℕ) → TickRefines (table.objects o) (ghost_at plain o) (ticked_at table o)
    shown_at o = tick_refines (states_at table o) (table.objects o) (ghost_at plain o) (world.inv o)

    known : (o : ℕ) → ghost_after (table.objects o) (ghost_at plain o) ≡ ghost_at (fed_tick plain) o
    known o =
        ap (λ (monitor : PlainMonitor). record { logs = plain.logs; woken = (plain_tick monitor).woken; saved = (plain_tick monitor).saved }) (sym (world.monitors o))

pub world_turn : (threads objects : ℕ) (table : ListTable) (plain : Plain) → World table plain → (event : Event)
    → World (turn threads objects table event).table (feed plain event (turn threads objects table event).reply)
world_turn threads objects table plain world =
    by_event list_kind threads objects table (λ event result. World result.table (feed plain event result.reply)) (λ event refusal high. world)
    (λ number limit operation given t o asked fits low high olow ohigh idle. rw asked (world_begin table plain operation given t o (λ z. omega (arith, low, z)) idle world))
    (λ t doing low high running.
    let z : t ≢ 0 = λ e. omega (arith, low, e) in
    world_step table plain t (perform_at table (table.threads t).object t doing) world (phase_row doing).operation
    (stepping table plain t doing z running world).self.logged.0 (step_refines (actor_at table plain t z) (table.objects (table.threads t).object)
    doing (stepping table plain t doing z running world)))
    (world_tick table plain world)

inv_fresh : (reserved : Bool) (rank : ℕ → ℕ) (ghost : Ghost) → ((t : ℕ) → ghost.woken t ≡ false) → Invariant (λ t. Idle) (fresh_object reserved rank) ghost
inv_fresh reserved rank ghost e =
    record {
      threads = λ t.
          record {
            seated = λ x n. absurd (n (sym x));
            placed = record { entry = count_none t; contention = count_none t; waiting = count_none t };
            relies = tt;
            logged = tt;
            saved = tt;
            woken = e t;
          };
      whole = whole reserved;
    }
  where
    whole : (reserved : Bool) → ObjectOk (λ t. Idle) (fresh_object reserved rank)
    whole true = record { nobody = refl; monitor = refl; empty = λ e. refl; flag = refl; unstranded = tt }
    whole false = record { nobody = refl; monitor = refl; empty = λ e. refl; flag = λ e. refl; unstranded = λ c. absurd (c refl) }

pub world_fresh : (reserved : Bool) (rank : ℕ → ℕ) → World (fresh reserved rank) blank
world_fresh reserved rank =
    record {
      inv = λ o. subst₃ Invariant (fun_ext (λ t. sym (seen_idle o (record { object = 0; state = Idle }) refl))) refl refl
          (inv_fresh reserved rank (ghost_at blank o) (λ t. refl));
      monitors = λ o. mons reserved;
      objects = λ t. refl;
      ended = tt;
    }
  where
    mons : (reserved : Bool) → unowned ≡ monitor_of (fresh_object reserved rank) (ghost_at blank 0)
    mons true = refl
    mons false = refl

-- over a whole schedule
pub world_run : (threads objects : ℕ) (events : List Event) (table : ListTable) (plain : Plain) → World table plain
    → World (final threads objects table events) (feed_all plain (shown threads objects table events))
world_run threads objects [] table plain world = world
world_run threads objects (event ∷ rest) table plain world =
    world_run threads objects rest (turn threads objects table event).table (feed plain event (turn threads objects table event).reply)
    (world_turn threads objects table plain world event)
