-- The bounds are exact: for each start a schedule in which a thread takes all the steps that there are from it, so none of them can be lower.
use Rattle.std.specs.Prelude.{ℕ, zero, suc, ◌≤◌, ◌≡◌, Bool, true, false, List, [], ◌∷◌, ◌++◌, Ok}
use Rattle.lock_rules.specs.declared.event.Event.{Event}
use Rattle.lock_rules.specs.declared.event.Event.TheVariants.{Begin, Step}
use Rattle.lock_table.specs.Fresh.{sized_request, table_of, fresh_of}
use Rattle.lock_table.specs.declared.fresh_table.FreshRequest.{FreshRequest}
use Rattle.step_bounds.specs.SixSteps.{steps_taken, AtMost, step_limit}
use Rattle.step_bounds.specs.Starts.{Start, Begun, Unparked, most_from, start_of_steps}

-- so many threads and one object, whose word is anonymously reserved or free
abbrev pub one_object : ℕ → Bool → FreshRequest
one_object threads reserved = sized_request threads 1 reserved

-- a thread begins the operation of this number, without a limit
abbrev pub begins : ℕ → ℕ → Event
begins number n = Begin number n 1 0

-- and takes so many steps, one behind the other
abbrev pub steps : ℕ → ℕ → List Event
steps n zero = []
steps n (suc k) = Step n ∷ steps n k

-- thread 1 enters
abbrev pub entered : List Event
entered = begins 1 1 ∷ steps 1 1

-- the reservation is thread 1's: thread 2 looks, cancels, looks, goes in, checks and tries, and is parked (1 3 1 4 6 7)
abbrev pub enter : List Event
enter = entered ++ (begins 1 2 ∷ steps 2 6)

-- thread 1 looks, and is sent back from its store by thread 2's cancel; it looks, tests, goes in, tells and leaves (1 1 9 4 10 11)
abbrev pub exit : List Event
exit = entered ++ (begins 2 1 ∷ Step 1 ∷ begins 1 2 ∷ (steps 2 6 ++ steps 1 5))

-- thread 1 looks, cancels, looks, goes in, inflates and waits (1 3 1 4 12 13)
abbrev pub wait : List Event
wait = entered ++ (begins 3 1 ∷ steps 1 6)

-- the same with a limit, of nine ticks
abbrev pub timed_wait : List Event
timed_wait = entered ++ (Begin 6 1 1 9 ∷ steps 1 6)

-- the owner notifies one, or all
abbrev pub notify : ℕ → List Event
notify number = entered ++ (begins number 1 ∷ steps 1 1)

-- thread 1's exit told the contender and handed it the monitor: thread 2 checks and tries (6 7)
abbrev pub told : List Event
told = exit ++ steps 2 2

-- thread 1 owns the word, which was free; thread 2 holds the monitor and is about to try
abbrev pub contended : List Event
contended = entered ++ (begins 1 2 ∷ steps 2 3)

-- thread 1 goes in to wait and is queued; thread 2 is parked and hands it the monitor: it inflates and waits (12 13)
abbrev pub queued_wait : List Event
queued_wait = contended ++ (begins 3 1 ∷ (steps 1 2 ++ (Step 2 ∷ steps 1 2)))

-- thread 1 goes in to tell and is queued; thread 2 inflates and lets it out
abbrev pub let_out : List Event
let_out = contended ++ (begins 2 1 ∷ (steps 1 3 ++ steps 2 1))

-- but if thread 3 takes the free word first, thread 2 is parked and hands thread 1 the monitor: it tells and leaves (10 11)
abbrev pub queued_exit : List Event
queued_exit = contended ++ (begins 2 1 ∷ (steps 1 3 ++ (begins 1 3 ∷ Step 3 ∷ Step 2 ∷ steps 1 2)))

-- thread 2 enters while thread 1 waits, notifies it and leaves; thread 1 resumes (15)
abbrev pub resumed : List Event
resumed = wait ++ (begins 1 2 ∷ (steps 2 3 ++ (begins 4 2 ∷ Step 2 ∷ begins 2 2 ∷ (steps 2 2 ++ steps 1 1))))

-- each start, with the table, the thread and the schedule that come to it
pub record EachStart (Claimed : FreshRequest → ℕ → List Event → Start → Type 0) : Type 0 where
  pub enters : Claimed (one_object 2 true) 2 enter (Begun 1)
  pub exits : Claimed (one_object 2 true) 1 exit (Begun 2)
  pub waits : Claimed (one_object 2 true) 1 wait (Begun 3)
  pub timed_waits : Claimed (one_object 2 true) 1 timed_wait (Begun 6)
  pub notifies : Claimed (one_object 2 true) 1 (notify 4) (Begun 4)
  pub notifies_all : Claimed (one_object 2 true) 1 (notify 5) (Begun 5)
  pub told_to_check : Claimed (one_object 2 true) 2 told (Unparked 6)
  pub handed_to_tell : Claimed (one_object 3 false) 1 queued_exit (Unparked 10)
  pub handed_to_inflate : Claimed (one_object 2 false) 1 queued_wait (Unparked 12)
  pub handed_to_resume : Claimed (one_object 2 true) 1 resumed (Unparked 15)
  pub lets_out : Claimed (one_object 2 false) 1 let_out (Unparked 0)

-- the request is answered by its table; from there on the thread's steps are counted from this start, and are all that there are from it
abbrev pub Reached : FreshRequest → ℕ → List Event → Start → Type 0
Reached request n events start =
    let table = table_of request in
    (fresh_of request ≡ Ok table) × (start_of_steps n table events ≡ start) × (steps_taken n table events ≡ most_from start)

abbrev pub EachReached : Type 0
EachReached = EachStart Reached

-- so there is no lower bound than six, and with five the claim is false
abbrev pub SixIsLeast : Type 0
SixIsLeast = (most : ℕ) → AtMost most → step_limit ≤ most
