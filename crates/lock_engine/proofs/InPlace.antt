-- An event carried out in place: the code reads and writes the two records where they are in their arrays. It does what the definition says of their
-- numbers, also where a number has no record.
use Prim.Native.Nat.{ℕ, ◌≤◌}
use mathlib.Core.Path.{◌≡◌, refl, sym, ap, ◌∙◌}
use mathlib.Core.Logic.{◌⊎◌, inl, inr}
use mathlib.Core.Bool.{Bool, true, false}
use native.Mathlib.Omega.{arith}
use lib.Dec.{leb}
use lib.ListN.{get_or, set}
use lib.Seq.{set-get_or}
use borrow.Author.Tests.{leb-true, le-leb, lt-leb}
use Rattle.laws.specs.Choice.{pick, both, within}
use Rattle.laws.proofs.Choice.{split, both_second}
use Rattle.chains.specs.Chain.{chain_length}
use Rattle.lock_rules.specs.Gate.{gate, event_thread, event_object}
use Rattle.std.specs.Prelude.{Result, Ok, Err}
use Rattle.lock_rules.specs.declared.event.{Event.Event, ThreadStatus.ThreadStatus, Refusal.Refusal}
use Rattle.lock_rules.specs.declared.event.Event.TheVariants.{Begin, Step, Tick}
use Rattle.lock_rules.specs.declared.event.Refusal.TheVariants.{NotSound, NoSuchThread}
use Rattle.lock_rules.specs.declared.ChainWork.TheVariants.{Stay}
use Rattle.lock_table.specs.Limits.{thread_limit, object_limit}
use Rattle.lock_table.specs.Record.{no_thread, no_object}
use Rattle.lock_table.specs.Access.{thread_at, set_thread, object_at, set_object, next_of}
use Rattle.lock_table.specs.declared.record.{ThreadRecord.ThreadRecord, ObjectRecord.ObjectRecord, Table.Table}
use Rattle.lock_table.specs.Operation.{operation_from}
use Rattle.lock_table.proofs.Records.{thread_in, object_in, set_thread_in, set_thread_out, set_object_in, set_object_out, object_unchanged}
use Rattle.lock_perform.specs.Perform.{stays}
use Rattle.lock_perform.proofs.Lengths.{length_none}
use Rattle.lock_engine.specs.Turn.{begun, gate_turn, open_turn, step_turn}
use Rattle.lock_gate.specs.Status.{thread_status}
use Rattle.lock_table.specs.Place.{thread_place, object_place}
use Rattle.lock_table.proofs.Places.{Has, Lacks, has?, place_has}
use Rattle.lock_work.specs.Work.{work_stays}
use Rattle.lock_engine.specs.Handle.{trusted, turn_with, work_done_of, handle_with, handle_trusting}
use Rattle.lock_engine.specs.declared.outcome.{Reply.Reply, Outcome.Outcome}
use Rattle.lock_engine.specs.declared.outcome.Reply.TheVariants.{Accepted, Refused}
use Rattle.lock_work.specs.declared.settling.Work.TheVariants.{Chains}
use Rattle.lock_engine.specs.declared.turning.Turn.{Turn}
use Rattle.lock_work.specs.WorkDone.{WorkDone}

lacks_within : (limit size number : ℕ) → size ≤ limit → Lacks limit number → within 1 size number ≡ false
lacks_within limit size number small (inl none) = rw (none) refl
lacks_within limit size number small (inr past) = rw (le-leb 1 number (omega (arith, past)), lt-leb number size (omega (arith, past, small))) refl

-- the first record is always there
pub first_there : (limit : ℕ) → 1 ≤ limit → Lacks limit 1 → ⊥
first_there limit some (inl none) = omega (arith, none)
first_there limit some (inr past) = omega (arith, some, past)

-- both records stored in place
abbrev pub stored : Table → ℕ → ℕ → ThreadRecord → ObjectRecord → Table
stored t place home own object =
    record { threadcount = t.threadcount; objectcount = t.objectcount; threads = set t.threads place own; objects = set t.objects home object }

-- what was read is stored again
stored_same : (t : Table) (place home : ℕ) → stored t place home (get_or t.threads place no_thread) (get_or t.objects home no_object) ≡ t
stored_same t place home =
    λ j. record {
      threadcount = t.threadcount;
      objectcount = t.objectcount;
      threads = set-get_or t.threads place no_thread j;
      objects = set-get_or t.objects home no_object j;
    }

-- both records set by their numbers
set_both : (t : Table) (n o : ℕ) (own : ThreadRecord) (object : ObjectRecord) → Has thread_limit n → Has object_limit o
    → set_object (set_thread t n own) o object ≡ stored t (thread_place n) (object_place o) own object
set_both t n o own object (some, high) (real, small) =
    rw (place_has thread_limit n (some, high), place_has object_limit o (real, small), set_thread_in t n own some high)
    (set_object_in _ o object real small)

-- What an event that is about no object's record makes of its thread's record, and its reply: the object's record stays, and nothing else of it
-- is looked at.
pub record Parts : Type 0 where
  pub own : ThreadRecord
  pub reply : Reply

abbrev pub kept_turn : Parts → ObjectRecord → Turn
kept_turn parts object = record { own = parts.own; object = object; work = Chains Stay; reply = parts.reply; commits = false }

-- a tick is about the first object, which has a record: its row is never met
abbrev pub parts_of : Result (Unit {0}) Refusal → Event → ThreadRecord → Parts
parts_of (Ok _) (Begin operation thread number limit) own =
    record { own = begun own (operation_from operation) number limit; reply = Accepted }
parts_of (Ok _) (Step thread) own = record { own = own; reply = Refused NotSound }
parts_of (Ok _) Tick own = record { own = own; reply = Accepted }
parts_of (Err refusal) event own = record { own = own; reply = Refused refusal }

pub keeps_object : (gate : Result (Unit {0}) Refusal) (event : Event) (own : ThreadRecord) (object : ObjectRecord) (waiters : ℕ)
    → Lacks object_limit (event_object event own.object) → gate_turn gate event own object waiters ≡ kept_turn (parts_of gate event own) object
unfolding gate_turn open_turn step_turn
keeps_object (Ok _) (Begin operation thread number limit) own object waiters lacks = refl
keeps_object (Ok _) (Step thread) own object waiters lacks = rw (lacks_within object_limit object_limit own.object (omega arith) lacks) refl
keeps_object (Ok _) Tick own object waiters lacks = absurd (first_there object_limit (omega arith) lacks)
keeps_object (Err refusal) (Begin operation thread number limit) own object waiters lacks = refl
keeps_object (Err refusal) (Step thread) own object waiters lacks = refl
keeps_object (Err refusal) Tick own object waiters lacks = refl

-- an event of a thread that has no record is refused, whatever is read in its place
pub shut_thread : (issound : Bool) (threads objects : ℕ) (event : Event) → Lacks thread_limit (event_thread event)
    → (refusal : Refusal) × ((status : ThreadStatus) → gate (both issound (leb threads thread_limit)) threads objects event status ≡ Err refusal)
shut_thread issound threads objects event lacks =
    split (both issound (leb threads thread_limit)) (λ is. (NoSuchThread, λ status. at event lacks (below_limit is) is status))
    (λ is. (NotSound, λ status. unsound event is status))
  where
    below_limit : both issound (leb threads thread_limit) ≡ true → within 1 threads (event_thread event) ≡ false
    below_limit is = lacks_within thread_limit threads (event_thread event) (leb-true threads thread_limit (both_second issound _ is)) lacks

    at : (event : Event) → Lacks thread_limit (event_thread event) → within 1 threads (event_thread event) ≡ false → both issound (leb threads thread_limit) ≡ true → (status : ThreadStatus)
        → gate (both issound (leb threads thread_limit)) threads objects event status ≡ Err NoSuchThread
    at (Begin operation thread object limit) lacks out is status = rw (is, out) refl
    at (Step thread) lacks out is status = rw (is, out) refl
    at Tick lacks out is status = absurd (first_there thread_limit (omega arith) lacks)

    unsound : (event : Event) → both issound (leb threads thread_limit) ≡ false → (status : ThreadStatus)
        → gate (both issound (leb threads thread_limit)) threads objects event status ≡ Err NotSound
    unsound event is status = rw is refl

module _ (t : Table) (event : Event) (issound : Bool) where
  -- the thread's record as the code reads it, and the number of the object that it finds by it
  abbrev pub own_in_place : ThreadRecord
  own_in_place = get_or t.threads (thread_place (event_thread event)) no_thread

  abbrev pub number_in_place : ℕ
  number_in_place = event_object event own_in_place.object

  abbrev pub object_in_place : ObjectRecord
  object_in_place = get_or t.objects (object_place number_in_place) no_object

  -- the outcome as the code makes it of a turn
  abbrev pub stored_outcome : Turn → Outcome
  stored_outcome turn =
      record {
        table = pick (work_stays turn.work)
            (stored t (thread_place (event_thread event)) (object_place number_in_place) turn.own turn.object)
            (work_done_of t (event_thread event) number_in_place turn).table;
        reply = turn.reply;
        commits = turn.commits;
        unparked = pick (work_stays turn.work) 0 (work_done_of t (event_thread event) number_in_place turn).unparked;
      }

  -- a thread with a record
  pub own_here : Has thread_limit (event_thread event) → thread_at t (event_thread event) ≡ own_in_place
  own_here (some, high) = thread_in t (event_thread event) some high ∙ rw (place_has thread_limit (event_thread event) (some, high)) refl

  pub object_here : Has object_limit number_in_place → object_at t number_in_place ≡ object_in_place
  object_here (real, small) = object_in t number_in_place real small ∙ rw (place_has object_limit number_in_place (real, small)) refl

  abbrev pub gate_here : Result (Unit {0}) Refusal
  gate_here = gate (trusted t issound) t.threadcount t.objectcount event (thread_status own_in_place.phase)

  abbrev pub turn_here : Turn
  turn_here = turn_with t event issound own_in_place object_in_place

  both_have : Has thread_limit (event_thread event) → Has object_limit number_in_place → handle_with t event issound own_in_place ≡ stored_outcome turn_here
  both_have thread object =
      rw (object_here object)
      (λ j. record {
        table = pick (work_stays turn_here.work)
            (set_both t (event_thread event) number_in_place turn_here.own turn_here.object thread object j)
            (work_done_of t (event_thread event) number_in_place turn_here).table;
        reply = turn_here.reply;
        commits = turn_here.commits;
        unparked = pick (work_stays turn_here.work) 0 (work_done_of t (event_thread event) number_in_place turn_here).unparked;
      })

  thread_has : Has thread_limit (event_thread event) → Lacks object_limit number_in_place → handle_with t event issound own_in_place ≡ stored_outcome turn_here
  unfolding work_stays stays
  thread_has (some, high) lacks =
      rw (
        keeps_object gate_here event own_in_place (object_at t number_in_place) _ lacks,
        keeps_object gate_here event own_in_place object_in_place _ lacks,
        set_object_out (set_thread t (event_thread event) (parts_of gate_here event own_in_place).own) number_in_place (object_at t number_in_place) lacks,
        set_thread_in t (event_thread event) (parts_of gate_here event own_in_place).own some high,
        set-get_or t.objects (object_place number_in_place) no_object,
        place_has thread_limit (event_thread event) (some, high),
      )
      refl

  nobody : Lacks thread_limit (event_thread event) → handle_trusting t event issound ≡ stored_outcome turn_here
  unfolding handle_trusting gate_turn work_stays stays
  nobody lacks =
      let (refusal, shut) = shut_thread issound t.threadcount t.objectcount event lacks in
      let own = thread_at t (event_thread event) in
      let number = event_object event own.object in
      rw (
        shut (thread_status own.phase),
        shut (thread_status own_in_place.phase),
        set_thread_out t (event_thread event) own lacks,
        object_unchanged t number,
        stored_same t (thread_place (event_thread event)) (object_place number_in_place),
      )
      refl

  -- IN PLACE
  pub in_place : handle_trusting t event issound ≡ stored_outcome turn_here
  unfolding handle_trusting
  in_place = by_thread (has? thread_limit (event_thread event))
    where
      by_object : Has thread_limit (event_thread event) → Has object_limit number_in_place ⊎ Lacks object_limit number_in_place
          → handle_with t event issound own_in_place ≡ stored_outcome turn_here
      by_object thread (inl object) = both_have thread object
      by_object thread (inr lacks) = thread_has thread lacks

      by_thread : Has thread_limit (event_thread event) ⊎ Lacks thread_limit (event_thread event) → handle_trusting t event issound ≡ stored_outcome turn_here
      by_thread (inl thread) = ap (handle_with t event issound) (own_here thread) ∙ by_object thread (has? object_limit number_in_place)
      by_thread (inr lacks) = nobody lacks

-- what the code's locals are when the turn has been taken
pub record Taken (t : Table) (event : Event) (issound : Bool) (thread place number home : ℕ) (turn : Turn) : Type 0 where
  pub thread_is : thread ≡ event_thread event
  pub place_is : place ≡ thread_place thread
  pub number_is : number ≡ event_object event (get_or t.threads place no_thread).object
  pub home_is : home ≡ object_place number
  pub turn_is : turn ≡ turn_with t event issound (get_or t.threads place no_thread) (get_or t.objects home no_object)

-- nobody waits, and nobody was counted
pub none_wait : (t : Table) {first : ℕ} → first ≡ 0 → 0 ≡ chain_length thread_limit (next_of t) first
none_wait t none = sym (ap (chain_length thread_limit (next_of t)) none ∙ length_none thread_limit (next_of t))

module _ {t : Table} {event : Event} {issound : Bool} {thread place number home : ℕ} {turn : Turn}
    (taken : Taken t event issound thread place number home turn) where
  settled_so :
      record {
        table = pick (work_stays turn.work) (stored t place home turn.own turn.object)
            (work_done_of t thread number turn).table;
        reply = turn.reply;
        commits = turn.commits;
        unparked = pick (work_stays turn.work) 0 (work_done_of t thread number turn).unparked;
      }
      ≡ handle_trusting t event issound
  settled_so =
      rw (taken.turn_is, taken.home_is, taken.number_is, taken.place_is, taken.thread_is) (sym (in_place t event issound))

  -- both records were stored
  pub stored_so : work_stays turn.work ≡ true
      → record { table = stored t place home turn.own turn.object; reply = turn.reply; commits = turn.commits; unparked = 0 } ≡ handle_trusting t event issound
  stored_so stay = rw stay at settled_so

  -- work on the chains was done
  pub worked_so : work_stays turn.work ≡ false → {done : WorkDone} → done ≡ work_done_of t thread number turn
      → record { table = done.table; reply = turn.reply; commits = turn.commits; unparked = done.unparked } ≡ handle_trusting t event issound
  worked_so work is = rw is (rw work at settled_so)

-- what a loop makes of its table in place, both records stored or the work done
pub came_so : {t : Table} {event : Event} {issound : Bool} {thread place number home : ℕ} {turn : Turn}
    → Taken t event issound thread place number home turn → {stay : Bool} → stay ≡ work_stays turn.work → {after : Table}
    → {unparked : ℕ}
    → ((stay ≡ true) × (after ≡ stored t place home turn.own turn.object) × (unparked ≡ 0))
    ⊎ ((stay ≡ false) × (done : WorkDone) × (done ≡ work_done_of t thread number turn) × (after ≡ done.table) × (unparked ≡ done.unparked))
    → record { table = after; reply = turn.reply; commits = turn.commits; unparked = unparked } ≡ handle_trusting t event issound
came_so {turn = turn} taken told (inl (stay, is, none)) =
    (λ j. record { table = is j; reply = turn.reply; commits = turn.commits; unparked = none j }) ∙ stored_so taken (sym told ∙ stay)
came_so {turn = turn} taken told (inr (work, done, worked, is, whom)) =
    (λ j. record { table = is j; reply = turn.reply; commits = turn.commits; unparked = whom j }) ∙ worked_so taken (sym told ∙ work) worked
