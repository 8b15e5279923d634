-- How often a thread is inside an object, from events and answers alone (ours): its enters that returned 1, less its exits that committed. A wait that commits
-- before it finishes gives up what there is, and takes it back when it returns 1. Nothing of a table is looked at.
use Rattle.std.specs.Prelude.{ℕ, ◌+◌, ◌-◌, Bool, List, [], ◌∷◌, eqb}
use Rattle.laws.specs.Choice.{pick, both}
use Rattle.lock_rules.specs.Numbers.{asked_for}
use Rattle.lock_rules.specs.Operations.{Operation, Enter, Exit, Wait, Notify, NotifyAll, Asked, Unknown, Known}
use Rattle.lock_rules.specs.declared.Answer.{Answer}
use Rattle.lock_rules.specs.declared.Answer.TheVariants.{GoneOn, Finished, Parked, NotOwner, TooDeep, NoRule}
use Rattle.lock_rules.specs.declared.event.Event.{Event}
use Rattle.lock_rules.specs.declared.event.Event.TheVariants.{Begin, Step, Tick}
use Rattle.lock_rules.specs.Events.{Reply, Accepted, Refused, Answered, Shown}

-- of one thread and one object: the enters that returned 1 and the exits that committed, and what its last wait there gave up; counted anew from a wait on
pub record Times : Type 0 where
  pub entered : ℕ
  pub left : ℕ
  pub aside : ℕ

abbrev pub times : ℕ → ℕ → ℕ → Times
times entered left aside = record { entered = entered; left = left; aside = aside }

abbrev pub inside : Times → ℕ
inside was = was.entered - was.left

-- and the thread's last begin that returned 0
pub record Presence : Type 0 where
  pub operation : Operation
  pub object : ℕ
  pub times : Times

-- before any event
abbrev pub absent : Presence
absent = record { operation = Enter; object = 0; times = times 0 0 0 }

abbrev pub comes_in : Times → Times
comes_in was = times (was.entered + 1) was.left was.aside

abbrev pub goes_out : Times → Times
goes_out was = times was.entered (was.left + 1) was.aside

abbrev pub gives_up : Times → Times
gives_up was = times 0 0 (inside was)

abbrev pub takes_back : Times → Times
takes_back was = times was.aside 0 was.aside

-- an enter that returns 1
abbrev pub by_enter : Answer → Times → Times
by_enter GoneOn was = was
by_enter (Finished woken) was = comes_in was
by_enter Parked was = was
by_enter NotOwner was = was
by_enter TooDeep was = was
by_enter NoRule was = was

-- an exit that commits, whether it finishes with that step or later; 18 is no exit
abbrev pub by_exit : Answer → Bool → Times → Times
by_exit GoneOn commits was = pick commits (goes_out was) was
by_exit (Finished woken) commits was = pick commits (goes_out was) was
by_exit Parked commits was = pick commits (goes_out was) was
by_exit NotOwner commits was = was
by_exit TooDeep commits was = was
by_exit NoRule commits was = was

-- a wait that commits before it finishes, and one that returns 1
abbrev pub by_wait : Answer → Bool → Times → Times
by_wait GoneOn commits was = pick commits (gives_up was) was
by_wait (Finished woken) commits was = takes_back was
by_wait Parked commits was = pick commits (gives_up was) was
by_wait NotOwner commits was = was
by_wait TooDeep commits was = was
by_wait NoRule commits was = was

-- a step of the thread's operation on the object
abbrev pub by_step : Operation → Answer → Bool → Times → Times
by_step Enter answer commits was = by_enter answer was
by_step Exit answer commits was = by_exit answer commits was
by_step Wait answer commits was = by_wait answer commits was
by_step Notify answer commits was = was
by_step NotifyAll answer commits was = was

abbrev pub by_begin : Asked → ℕ → Presence → Presence
by_begin Unknown object presence = presence
by_begin (Known operation limit) object presence =
    record { operation = operation; object = object; times = presence.times }

abbrev pub stepped : Answer → Bool → Presence → Presence
stepped answer commits presence =
    record { operation = presence.operation; object = presence.object; times = by_step presence.operation answer commits presence.times }

-- of thread t and object o, after an event and what it returned
module _ (t o : ℕ) where
  abbrev pub accepted_by : Event → Presence → Presence
  accepted_by (Begin number thread object limit) presence = pick (eqb thread t) (by_begin (asked_for number limit) object presence) presence
  accepted_by (Step thread) presence = presence
  accepted_by Tick presence = presence

  abbrev pub answered_by : Event → Answer → Bool → Presence → Presence
  answered_by (Begin number thread object limit) answer commits presence = presence
  answered_by (Step thread) answer commits presence =
      pick (both (eqb thread t) (eqb presence.object o)) (stepped answer commits presence) presence
  answered_by Tick answer commits presence = presence

  abbrev pub presence_after : Presence → Event → Reply → Presence
  presence_after presence event Accepted = accepted_by event presence
  presence_after presence event (Refused refusal) = presence
  presence_after presence event (Answered answer commits) = answered_by event answer commits presence

  abbrev pub presence_run : Presence → List Shown → Presence
  presence_run presence [] = presence
  presence_run presence (shown ∷ rest) = presence_run (presence_after presence shown.event shown.reply) rest

  abbrev pub times_of : List Shown → Times
  times_of shown = (presence_run absent shown).times

  abbrev pub times_inside : List Shown → ℕ
  times_inside shown = inside (times_of shown)
