-- The work on the chains done in place: what the code's locals are when it is done gives what the definitions say.
use Prim.Native.Nat.{ℕ}
use mathlib.Core.Path.{◌≡◌, refl, sym, ap, ◌∙◌}
use mathlib.Core.Bool.{Bool, true, false}
use lib.Dec.{eqb}
use lib.ListN.{get_or, set}
use Rattle.laws.specs.Choice.{pick}
use Rattle.lock_rules.specs.declared.ChainWork.{ChainWork}
use Rattle.lock_table.specs.Limits.{thread_limit}
use Rattle.lock_table.specs.Record.{no_thread, no_object, with_next, with_monitor}
use Rattle.lock_table.specs.Access.{set_thread, set_object, next_of}
use Rattle.lock_table.specs.Monitor.{join}
use Rattle.lock_table.specs.Chain.{move_all}
use Rattle.lock_table.specs.Place.{thread_place, object_place}
use Rattle.lock_table.specs.declared.monitor.LetOut.{LetOut}
use Rattle.lock_table.specs.declared.record.{ThreadRecord.ThreadRecord, ObjectRecord.ObjectRecord, Monitor.Monitor, Table.Table}
use Rattle.lock_perform.specs.Queueing.{JoinedChain}
use Rattle.lock_perform.specs.Moving.{CarriedOut, touched, moved_whole, carried_out, joined_by, relink, after_whole, let_outs, lets_out, carry_out}
use Rattle.lock_perform.specs.InPlace.{plan_at, own_written, object_written}
use Rattle.lock_perform.specs.declared.moving.ChainPlan.{ChainPlan}
use Rattle.lock_perform.proofs.InPlace.{with_threads, set_both_in_place, relinked}
use Rattle.lock_work.specs.Work.{chains_done}
use Rattle.lock_work.specs.WorkDone.{WorkDone}

-- the whole chain moved, one record changed, and those that join a chain put at their places
abbrev relinked_in : Table → ChainPlan → ℕ → JoinedChain
relinked_in t planned place = joined_by (with_threads t (set t.threads place planned.changed)) planned

-- and both records written
abbrev both_in : Table → ℕ → ℕ → ThreadRecord → ObjectRecord → Table
both_in t place home own object =
    record { threadcount = t.threadcount; objectcount = t.objectcount; threads = set t.threads place own; objects = set t.objects home object }

-- exits let out, by a work that does so
abbrev pub after_joining : ChainWork → CarriedOut → CarriedOut
after_joining work carried = pick (lets_out work) (let_outs carried.table carried.monitor) carried

module _ (t : Table) (thread number : ℕ) (own : ThreadRecord) (object : ObjectRecord) (work : ChainWork) where
  abbrev first : ℕ
  first = moved_whole work object.monitor

  abbrev spot : ℕ
  spot = thread_place (touched work object.monitor)

  abbrev plan_in : Table → ChainPlan
  plan_in moved = plan_at work object.monitor thread number (get_or moved.threads spot no_thread)

  -- the threads of a chain that moves whole changed first
  abbrev moved_in : Table
  moved_in = pick (eqb first 0) t (move_all thread_limit t first)

  abbrev out_in : CarriedOut
  out_in = after_joining work (carried_out (relinked_in moved_in (plan_in moved_in) spot) (plan_in moved_in))

  whole_in : after_whole t first object.monitor work thread number ≡ relink moved_in object.monitor work thread number
  unfolding after_whole
  whole_in = at (eqb first 0)
    where
      at : (none : Bool)
          → pick none (relink t object.monitor work thread number) (relink (move_all thread_limit t first) object.monitor work thread number)
          ≡ relink (pick none t (move_all thread_limit t first)) object.monitor work thread number
      at true = refl
      at false = refl

  carried : carry_out t object.monitor work thread number ≡ out_in
  carried = ap (after_joining work) (whole_in ∙ relinked moved_in object.monitor work thread number)

  done : ◌≡◌ {A = WorkDone}
      (record {
        table = both_in out_in.table (thread_place thread) (object_place number)
            (own_written thread own (get_or out_in.table.threads (thread_place thread) no_thread))
            (object_written number object out_in.monitor (get_or out_in.table.objects (object_place number) no_object));
        unparked = out_in.unparked;
      })
      (chains_done t thread number own object work)
  done =
      (λ j. record { table = set_both_in_place out_in.table thread number own object out_in.monitor j; unparked = out_in.unparked })
      ∙ ap
      (λ (after : CarriedOut). record {
        table = set_object (set_thread after.table thread (with_next own (next_of after.table thread))) number
            (with_monitor object after.monitor);
        unparked = after.unparked;
      })
      (sym carried)

  pub work_in_place : {whole touches place own_place home : ℕ} {moved after : Table} {planned : ChainPlan} {joined : JoinedChain} {monitor : Monitor} {out : LetOut}
      {own_after : ThreadRecord} {object_after : ObjectRecord}
      → whole ≡ first → moved ≡ pick (eqb whole 0) t (move_all thread_limit t whole) → touches ≡ touched work object.monitor → place ≡ thread_place touches
      → planned ≡ plan_at work object.monitor thread number (get_or moved.threads place no_thread)
      → joined ≡ relinked_in moved planned place → monitor ≡ join planned.monitor planned.into joined.first
      → (let carried = after_joining work (record { table = joined.table; monitor = monitor; unparked = planned.unparked }) in
      (after ≡ carried.table) × (out ≡ record { monitor = carried.monitor; threads = carried.unparked }))
      → own_place ≡ thread_place thread → own_after ≡ own_written thread own (get_or after.threads own_place no_thread) → home ≡ object_place number
      → object_after ≡ object_written number object out.monitor (get_or after.objects home no_object)
      → record { table = both_in after own_place home own_after object_after; unparked = out.threads } ≡ chains_done t thread number own object work
  work_in_place whole_is moved_is touches_are place_is planned_is joined_is monitor_is (after_is, out_is) own_place_is own_is home_is object_is =
      rw (object_is, home_is, own_is, own_place_is, out_is, after_is, monitor_is, joined_is, planned_is, place_is, touches_are, moved_is, whole_is) done
