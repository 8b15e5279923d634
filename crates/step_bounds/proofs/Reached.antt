-- What the schedules of `EachStart` come to on tables with lists, by computing it.
use Prim.Native.Nat.{ℕ}
use mathlib.Core.Path.{◌≡◌, refl}
use mathlib.Core.List.{List}
use Rattle.lock_rules.specs.declared.event.Event.{Event}
use Rattle.laws.specs.{Update.update, Count.count}
use Rattle.lock_rules.specs.{RunQueue.own_event, Numbers.asked_for}
use Rattle.lock_rules.specs.Rules.{decide, enter_look, exit_owned, wait_owned, notify_owned, notify_all_owned, enter_store, exit_store, cancel, go_in, go_in_again}
use Rattle.lock_rules.specs.Rules.{exit_go_in, enter_check, enter_try, exit_test, exit_tell, exit_leave, wait_inflate, wait_give_up, wait_resume}
use Rattle.lock_table.specs.declared.fresh_table.FreshRequest.{FreshRequest}
use Rattle.lock_table.proofs.FreshTables.{fresh_rank}
use Rattle.lock_rules.proofs.{Tables.fresh, Perform.enter_queue_all}
use Rattle.step_bounds.specs.SixSteps.{own_steps}
use Rattle.step_bounds.specs.Starts.{Start, NotBegun, Unparked, most_from, own_start}
use Rattle.step_bounds.specs.Reached.{EachStart}
use Rattle.step_bounds.proofs.Schedules.{along_lists}

abbrev pub ReachedOnLists : FreshRequest → ℕ → List Event → Start → Type 0
ReachedOnLists request n events start =
    (along_lists request.threads request.objects Unparked own_start n NotBegun (fresh request.reserved (fresh_rank request)) events ≡ start)
    × (along_lists request.threads request.objects (λ after. 0) own_steps n 0 (fresh request.reserved (fresh_rank request)) events ≡ most_from start)

pub each_reached_on_lists : EachStart ReachedOnLists
unfolding own_event asked_for update count decide enter_look exit_owned wait_owned notify_owned notify_all_owned enter_store exit_store cancel go_in go_in_again exit_go_in
    enter_check enter_try exit_test exit_tell exit_leave wait_inflate wait_give_up wait_resume enter_queue_all
each_reached_on_lists =
    record {
      enters = (refl, refl);
      exits = (refl, refl);
      waits = (refl, refl);
      timed_waits = (refl, refl);
      notifies = (refl, refl);
      notifies_all = (refl, refl);
      told_to_check = (refl, refl);
      handed_to_tell = (refl, refl);
      handed_to_inflate = (refl, refl);
      handed_to_resume = (refl, refl);
      lets_out = (refl, refl);
    }
