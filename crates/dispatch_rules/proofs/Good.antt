-- Worlds that the dispatcher keeps: a sound table of its sizes, and cursors of scripts that are known. What nothing refuses is one, and stays one whatever a
-- thread does when it may take a step. Without a step nothing changes.
use Prim.Native.Nat.{ℕ, ◌≤◌, ◌<◌}
use mathlib.Core.Path.{◌≡◌, refl, sym, ap, ◌∙◌, subst}
use mathlib.Core.Bool.{Bool, true, false}
use mathlib.Core.List.{List}
use native.Mathlib.Omega.{arith}
use lib.ListN.{length, length-set}
use borrow.Author.Tests.{eqb-true}
use lib.Dec.{eqb}
use Rattle.laws.specs.Choice.{within}
use Rattle.laws.proofs.Choice.{split, by_test, either_way, equal?, false≢true, both_first, both_second}
use Rattle.laws.proofs.Every.{all_at}
use Rattle.lock_rules.proofs.Gating.{within_says}
use Rattle.lock_rules.specs.declared.event.ThreadStatus.TheVariants.{Idle}
use Rattle.lock_rules.specs.declared.event.Event.{Event}
use Rattle.lock_rules.specs.declared.event.Event.TheVariants.{Step}
use Rattle.lock_table.specs.Limits.{thread_limit}
use Rattle.lock_table.specs.Operation.{operation_from}
use Rattle.lock_table.specs.Place.{thread_place}
use Rattle.lock_table.specs.Access.{thread_at, set_thread}
use Rattle.lock_table.specs.WellTyped.{WellTyped}
use Rattle.lock_table.specs.declared.record.Table.{Table}
use Rattle.lock_gate.specs.Status.{thread_status}
use Rattle.lock_soundness.specs.Sound.{sound_of}
use Rattle.lock_engine.specs.Turn.{begun}
use Rattle.lock_engine.specs.Handle.{handle}
use Rattle.lock_engine.specs.declared.outcome.Reply.TheVariants.{Accepted}
use Rattle.lock_engine.proofs.Narrow.{sizes}
use Rattle.lock_schedule.proofs.Theorem.{sound_kept, well_typed_kept}
use Rattle.dispatch_rules.specs.Script.{script_operations, operation_at, object_of, cursor_at, set_cursor, next_place, next_begin, moved_on, script_known}
use Rattle.dispatch_rules.specs.Attempt.{begins_in, begin_next, attempt}
use Rattle.dispatch_rules.specs.Dispatch.{quantum_limit, scripted, scripts_known, first_answer, dispatch_answer}
use Rattle.dispatch_rules.specs.declared.ScriptCursor.{ScriptCursor}
use Rattle.dispatch_rules.specs.Script.{Scripted}
use Rattle.std.proofs.Common.{Ok}
use Rattle.dispatch_rules.proofs.Cursors.{begins_says, next_known, moved_known, cursor_set_same, cursor_set_other}
use Rattle.dispatch_rules.proofs.Events.{no_step_leaves, sizes_kept, MayBegin, begin_taken, begun_steps}

-- a world of these scripts, and of a table of these sizes
pub record Good (scripts : List ℕ) (threads objects : ℕ) (w : Scripted) : Type 0 where
  pub typed : WellTyped w.table
  pub sound : sound_of w.table ≡ true
  pub threadcount : w.table.threadcount ≡ threads
  pub objectcount : w.table.objectcount ≡ objects
  pub long : length w.cursors ≡ thread_limit
  pub known : (n : ℕ) → 1 ≤ n → n ≤ threads → script_known scripts objects (cursor_at w.cursors n) ≡ true

-- what the answer 0 says
first_says : (issound isquantum areknown : Bool) → first_answer issound isquantum areknown ≡ Ok tt → (issound ≡ true) × (isquantum ≡ true) × (areknown ≡ true)
first_says true true true e = (refl, refl, refl)
first_says true true false e = (refl, refl, cc)
first_says true false areknown e = (refl, cc, cc)
first_says false isquantum areknown e = (cc, cc, cc)

-- the world that nothing refuses
pub good_first : (scripts : List ℕ) (quantum lent : ℕ) (w : Scripted) → WellTyped w.table → length w.cursors ≡ thread_limit
    → dispatch_answer scripts quantum lent w ≡ Ok tt
    → Good scripts w.table.threadcount w.table.objectcount w × ((1 ≤ quantum) × (quantum ≤ quantum_limit)) × (lent ≡ w.table.threadcount)
good_first scripts quantum lent w typed long ended =
    let threads = w.table.threadcount in
    let (issound, isquantum, areknown) = first_says (sound_of w.table) (within 1 quantum_limit quantum) (scripts_known scripts lent w.table w.cursors) ended in (
      record {
        typed = typed;
        sound = issound;
        threadcount = refl;
        objectcount = refl;
        long = long;
        known = all_at threads (λ n. script_known scripts w.table.objectcount (cursor_at w.cursors n)) (both_second (eqb lent threads) _ areknown);
      },
      within_says isquantum,
      eqb-true lent threads (both_first (eqb lent threads) _ areknown),
    )

-- an event keeps a world good
pub good_event : {scripts : List ℕ} {threads objects : ℕ} {w : Scripted} → Good scripts threads objects w → (event : Event)
    → Good scripts threads objects (scripted (handle w.table event).table w.cursors)
good_event {w = w} good event =
    let (same_threads, same_objects) = sizes_kept w.table good.typed good.sound event in
    record {
      typed = well_typed_kept w.table good.typed good.sound event;
      sound = sound_kept w.table good.typed good.sound event;
      threadcount = same_threads ∙ good.threadcount;
      objectcount = same_objects ∙ good.objectcount;
      long = good.long;
      known = good.known;
    }

module _ (scripts : List ℕ) (threads objects : ℕ) (w : Scripted) (good : Good scripts threads objects w) where
  pub few_threads : threads ≤ thread_limit
  few_threads = subst (λ (n : ℕ). n ≤ thread_limit) good.threadcount (sizes w.table good.sound).0

  module _ (u : ℕ) (low : 1 ≤ u) (high : u ≤ threads) where
    abbrev cursor : ScriptCursor
    cursor = cursor_at w.cursors u

    abbrev operation : ℕ
    operation = operation_at scripts (next_place cursor)

    abbrev object : ℕ
    object = object_of scripts (next_place cursor)

    module _ (starts : begins_in u w ≡ true) where
      has_left : (thread_status (thread_at w.table u).phase ≡ Idle) × (cursor.cursor < cursor.length)
      has_left = begins_says (thread_status (thread_at w.table u).phase) cursor starts

      may_begin : MayBegin w.table u operation object
      may_begin =
          let known = next_known scripts objects cursor (good.known u low high) has_left.1 in
          record {
            real = low;
            inside = rw good.threadcount high;
            idle = has_left.0;
            operations = within_says (both_first (within 1 script_operations operation) _ known);
            objects = rw good.objectcount (within_says (both_second (within 1 script_operations operation) _ known));
          }

      -- the next begin is accepted
      pub begin_accepted : handle w.table (next_begin scripts u cursor)
          ≡ record { table = set_thread w.table u (begun (thread_at w.table u) (operation_from operation) object 0); reply = Accepted; commits = false; unparked = 0 }
      begin_accepted = begin_taken w.table good.typed good.sound u operation object may_begin

      -- the cursor moves on
      good_moved : Good scripts threads objects (scripted w.table (set_cursor w.cursors u (moved_on cursor)))
      good_moved =
          record {
            typed = good.typed;
            sound = good.sound;
            threadcount = good.threadcount;
            objectcount = good.objectcount;
            long = length-set w.cursors (thread_place u) (moved_on cursor) ∙ good.long;
            known = λ n real inside. either_way (equal? n u)
                (λ e. rw (e, cursor_set_same w.cursors good.long u low (omega (arith, high, few_threads)) (moved_on cursor))
                (moved_known scripts objects cursor (good.known u low high) has_left.1))
                (λ away. rw (cursor_set_other w.cursors good.long u low (omega (arith, high, few_threads)) (moved_on cursor) n real (omega (arith, inside, few_threads)) away)
                (good.known n real inside));
          }

      -- and the step behind it is one
      pub begun_attempt : (attempt scripts u w).stepped ≡ true
      begun_attempt = rw starts (begun_steps w.table good.typed good.sound u operation object may_begin)

    -- whatever it does, a good world stays one
    pub good_begin : Good scripts threads objects (begin_next scripts u w)
    good_begin = by_test (Good scripts threads objects) (begins_in u w) (λ starts. good_event (good_moved starts) (next_begin scripts u cursor)) (λ none. good)

    pub good_attempt : Good scripts threads objects (attempt scripts u w).world
    good_attempt = good_event good_begin (Step u)

    -- refused, or with 20, it leaves all as it was; behind a begin neither occurs
    pub attempt_same : (attempt scripts u w).stepped ≡ false → (attempt scripts u w).world ≡ w
    attempt_same none =
        split (begins_in u w) (λ starts. false≢true (sym none ∙ begun_attempt starts))
        (λ waits. rw waits (ap (λ (table : Table). scripted table w.cursors) (no_step_leaves w.table good.sound (Step u) (rw waits at none))))
