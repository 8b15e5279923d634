-- The bounds on steps are exact for the engine: its schedules come to what those on tables with lists come to.
use Prim.Native.Nat.{ℕ, ◌≤◌}
use mathlib.Core.Path.{◌∙◌}
use mathlib.Core.List.{List}
use mathlib.Core.Bool.{Bool, true, false}
use native.Mathlib.Omega.{arith}
use Rattle.lock_rules.specs.declared.event.Event.{Event}
use Rattle.lock_table.specs.Fresh.{InRange}
use Rattle.lock_table.proofs.FreshTables.{sized_ranks, fresh_made}
use Rattle.lock_table.specs.declared.fresh_table.FreshRequest.{FreshRequest}
use Rattle.step_bounds.specs.SixSteps.{own_steps}
use Rattle.step_bounds.specs.Starts.{Start, NotBegun, Begun, Unparked, own_start}
use Rattle.step_bounds.specs.Reached.{one_object, enter, exit, wait, timed_wait, notify, told, queued_wait, let_out, queued_exit, resumed}
use Rattle.step_bounds.specs.Reached.{Reached, EachReached, SixIsLeast}
use Rattle.step_bounds.proofs.Reached.{ReachedOnLists, each_reached_on_lists}
use Rattle.lock_schedule.proofs.Steps.{from_fresh_lists}

reached : (request : FreshRequest) → InRange request → (n : ℕ) (events : List Event) (start : Start) → ReachedOnLists request n events start
    → Reached request n events start
reached request in_range n events start (from, taken) = (
  fresh_made request in_range,
  from_fresh_lists request in_range events n Unparked own_start NotBegun ∙ from,
  from_fresh_lists request in_range events n (λ after. 0) own_steps 0 ∙ taken,
)

sized : (threads : ℕ) (reserved : Bool) → 1 ≤ threads → threads ≤ 3 → InRange (one_object threads reserved)
sized threads reserved some few = (some, omega (arith, few), omega arith, omega arith, sized_ranks threads 1 reserved)

two : (reserved : Bool) → InRange (one_object 2 reserved)
two reserved = sized 2 reserved (omega arith) (omega arith)

pub each_reached : EachReached
each_reached =
    let lists = each_reached_on_lists in
    record {
      enters = reached (one_object 2 true) (two true) 2 enter (Begun 1) lists.enters;
      exits = reached (one_object 2 true) (two true) 1 exit (Begun 2) lists.exits;
      waits = reached (one_object 2 true) (two true) 1 wait (Begun 3) lists.waits;
      timed_waits = reached (one_object 2 true) (two true) 1 timed_wait (Begun 6) lists.timed_waits;
      notifies = reached (one_object 2 true) (two true) 1 (notify 4) (Begun 4) lists.notifies;
      notifies_all = reached (one_object 2 true) (two true) 1 (notify 5) (Begun 5) lists.notifies_all;
      told_to_check = reached (one_object 2 true) (two true) 2 told (Unparked 6) lists.told_to_check;
      handed_to_tell = reached (one_object 3 false) (sized 3 false (omega arith) (omega arith)) 1 queued_exit (Unparked 10) lists.handed_to_tell;
      handed_to_inflate = reached (one_object 2 false) (two false) 1 queued_wait (Unparked 12) lists.handed_to_inflate;
      handed_to_resume = reached (one_object 2 true) (two true) 1 resumed (Unparked 15) lists.handed_to_resume;
      lets_out = reached (one_object 2 false) (two false) 1 let_out (Unparked 0) lists.lets_out;
    }

pub six_is_least : SixIsLeast
six_is_least most claim = omega (arith, claim (one_object 2 true) (two true) enter 2, each_reached.enters.2)
