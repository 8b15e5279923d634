-- How often a thread is inside an object, counted from events and answers, is what the plain monitors say of it: after every event, on tables with lists.
use Prim.Native.Nat.{ℕ, ◌+◌, ◌-◌, ◌<◌}
use mathlib.Core.Path.{◌≡◌, refl, sym, ap, ◌∙◌, subst}
use mathlib.Core.Logic.{◌≢◌, ◌⊎◌, inl, inr}
use mathlib.Core.Bool.{Bool, true, false}
use mathlib.Core.List.{List, [], ◌∷◌}
use native.Mathlib.Omega.{arith}
use lib.Dec.{T, eqb, ltb}
use borrow.Author.Tests.{eq-eqb, ne_eqb, eqb-true}
use Rattle.laws.specs.{Choice.pick, Choice.both, Update.update}
use Rattle.laws.proofs.Choice.{equal?, either_way, by_test, by_equal, split, pick_same, both_second, false≢true}
use Rattle.laws.proofs.Update.{update_same, update_other}
use Rattle.lock_word.specs.{Depth.depth_limit, Meaning.owner_of, Meaning.depth_of}
use Rattle.lock_word.specs.declared.meaning.WordSeen.{WordSeen}
use Rattle.lock_rules.specs.Operations.{Operation, Enter, Exit, Wait, Notify, NotifyAll, Known}
use Rattle.lock_rules.specs.Rules.{onward}
use Rattle.lock_rules.specs.declared.{Limit.Limit, Suspension.Suspension, Doing.Doing, ThreadState.ThreadState, Answer.Answer}
use Rattle.lock_rules.specs.declared.ThreadState.TheVariants.{Running}
use Rattle.lock_rules.specs.declared.Answer.TheVariants.{GoneOn, Finished, Parked, NotOwner, TooDeep, NoRule}
use Rattle.lock_rules.specs.declared.event.Event.{Event}
use Rattle.lock_rules.specs.declared.event.Event.TheVariants.{Step}
use Rattle.lock_rules.specs.RunQueue.{own_event}
use Rattle.lock_rules.specs.PlainMonitor.{PlainMonitor, Committed, owned_by, finished, give_up, resume, wake_first, is_waiting, commit}
use Rattle.lock_rules.specs.Feed.{OperationLog, Plain, new_log, log_after, fed_step, fed_begin, fed_tick, feed, feed_all, blank, EndsRight}
use Rattle.lock_rules.specs.Presence.{Times, Presence, absent, comes_in, goes_out, gives_up, takes_back, by_step, by_begin, stepped, presence_after, presence_run}
use Rattle.lock_rules.proofs.Each.{each_doing, each_state, each_word}
use Rattle.lock_rules.proofs.Status.{unparked, unfinished}
use Rattle.lock_rules.proofs.TableKinds.{TurnOf, by_event}
use Rattle.lock_rules.proofs.Tables.{ListTable, list_kind, perform_at, step_at, turn, shown, seen_here}
use Rattle.lock_rules.proofs.ListSound.{SoundTable}
use Rattle.lock_rules.proofs.SoundKept.{sound_turn}
use Rattle.lock_rules.proofs.SoundEffects.{Answers}
use Rattle.lock_rules.proofs.Invariant.{phase_row, Staged, Logged}
use Rattle.lock_rules.proofs.Lift.{World, log_keeps, world_turn}
use Rattle.lock_rules.proofs.Unparks.{TurnedBy, turn_turned}

-- how deep thread t owns a plain monitor
abbrev pub owned : ℕ → PlainMonitor → ℕ
owned t monitor = pick (eqb monitor.owner t) monitor.depth 0

owned_own : (t : ℕ) (monitor : PlainMonitor) → monitor.owner ≡ t → owned t monitor ≡ monitor.depth
owned_own t monitor e = rw (eq-eqb monitor.owner t e)

owned_other : (t : ℕ) (monitor : PlainMonitor) → monitor.owner ≢ t → owned t monitor ≡ 0
owned_other t monitor n = rw (ne_eqb monitor.owner t n)

-- the count is what a plain monitor says of the thread
pub record Holds (t : ℕ) (was : Times) (monitor : PlainMonitor) : Type 0 where
  pub entered : was.entered ≡ was.left + owned t monitor
  pub aside : was.aside ≡ (monitor.saved t).depth

-- by the plain answer of a commit
abbrev counted : Operation → Answer → Times → Times
counted Enter GoneOn was = was
counted Enter (Finished woken) was = comes_in was
counted Enter Parked was = was
counted Enter NotOwner was = was
counted Enter TooDeep was = was
counted Enter NoRule was = was
counted Exit GoneOn was = was
counted Exit (Finished woken) was = goes_out was
counted Exit Parked was = was
counted Exit NotOwner was = was
counted Exit TooDeep was = was
counted Exit NoRule was = was
counted Wait GoneOn was = gives_up was
counted Wait (Finished woken) was = takes_back was
counted Wait Parked was = was
counted Wait NotOwner was = was
counted Wait TooDeep was = was
counted Wait NoRule was = was
counted Notify answer was = was
counted NotifyAll answer was = was

-- The plain monitors keep the count: of the thread that commits, and of any other.
module _ (t : ℕ) (real : t ≢ 0) (was : Times) (monitor : PlainMonitor) (holds : Holds t was monitor) where
  abbrev Counts : Operation → Committed → Type 0
  Counts operation committed = Holds t (counted operation committed.answer was) committed.monitor

  -- where the thread owns the monitor, it is inside as often as that is deep
  entered_own : monitor.owner ≡ t → was.entered ≡ was.left + monitor.depth
  entered_own e = holds.entered ∙ ap (λ (n : ℕ). was.left + n) (owned_own t monitor e)

  -- and has entered as often as it has left, where nobody does
  entered_free : monitor.owner ≡ 0 → was.entered ≡ was.left
  entered_free e = omega (arith, holds.entered, owned_other t monitor (λ q. real (sym q ∙ e)))

  exit_counted : 0 < monitor.depth → monitor.owner ≡ t
      → Counts Exit (finished (pick (eqb monitor.depth 1) (owned_by monitor 0 0) (owned_by monitor t (monitor.depth - 1))))
  exit_counted deep e =
      by_equal (λ (after : PlainMonitor). Counts Exit (finished after)) monitor.depth 1
      (λ one. record { entered = omega (arith, entered_own e, one, owned_other t (owned_by monitor 0 0) (λ q. real (sym q))); aside = holds.aside })
      (λ more. record {
        entered = omega (arith, entered_own e, deep, owned_own t (owned_by monitor t (monitor.depth - 1)) refl);
        aside = holds.aside;
      })

  wait_counted : (limit : Limit) → Counts Wait (commit Wait limit t monitor)
  wait_counted limit =
      by_test (Counts Wait) (both (monitor.woken t) (eqb monitor.owner 0))
      (λ resumes. record { entered = omega (arith, holds.aside, owned_own t (resume t monitor).monitor refl); aside = holds.aside })
      (λ gives. by_equal (Counts Wait) monitor.owner t
      (λ e.
      let saved = ap (λ (saved : Suspension). saved.depth) (update_same monitor.saved t (record { depth = monitor.depth; limit = limit })) in
      record { entered = omega (arith, owned_other t (give_up limit t monitor).monitor (λ q. real (sym q))); aside = omega (arith, entered_own e, saved) })
      (λ other. holds))

  notify_counted : (waiting : List ℕ) → Counts Notify (wake_first monitor waiting)
  notify_counted [] = holds
  notify_counted (first ∷ rest) = record { entered = holds.entered; aside = holds.aside }

  commit_counted : (monitor.owner ≡ t → 0 < monitor.depth) → (operation : Operation) (limit : Limit) → Counts operation (commit operation limit t monitor)
  commit_counted deep Enter limit =
      by_equal (Counts Enter) monitor.owner 0
      (λ free. record { entered = omega (arith, entered_free free, owned_own t (owned_by monitor t 1) refl); aside = holds.aside })
      (λ some. by_equal (Counts Enter) monitor.owner t
      (λ e. by_test (Counts Enter) (ltb monitor.depth depth_limit)
      (λ low. record { entered = omega (arith, entered_own e, owned_own t (owned_by monitor t (monitor.depth + 1)) refl); aside = holds.aside })
      (λ high. holds))
      (λ other. holds))
  commit_counted deep Exit limit = by_equal (Counts Exit) monitor.owner t (λ e. exit_counted (deep e) e) (λ other. holds)
  commit_counted deep Wait limit = wait_counted limit
  commit_counted deep Notify limit = by_equal (Counts Notify) monitor.owner t (λ e. notify_counted monitor.waiting) (λ other. holds)
  commit_counted deep NotifyAll limit =
      by_equal (Counts NotifyAll) monitor.owner t (λ e. record { entered = holds.entered; aside = holds.aside }) (λ other. holds)

  -- a commit of another thread s
  module _ (s : ℕ) (away : s ≢ t) where
    abbrev Stays : Committed → Type 0
    Stays committed = Holds t was committed.monitor

    -- nobody or s owned it, and nobody or s does; what t saved stays
    changes_hands : (after : PlainMonitor) → monitor.owner ≢ t → after.owner ≢ t → after.saved t ≡ monitor.saved t → Holds t was after
    changes_hands after before now saved =
        record {
          entered = omega (arith, holds.entered, owned_other t monitor before, owned_other t after now);
          aside = holds.aside ∙ sym (ap (λ (saved : Suspension). saved.depth) saved);
        }

    not_free : (owner : ℕ) → owner ≡ 0 → owner ≢ t
    not_free owner free e = real (sym e ∙ free)

    not_its : (owner : ℕ) → owner ≡ s → owner ≢ t
    not_its owner is e = away (sym is ∙ e)

    commit_away : (operation : Operation) (limit : Limit) → Stays (commit operation limit s monitor)
    commit_away Enter limit =
        by_equal Stays monitor.owner 0 (λ free. changes_hands (owned_by monitor s 1) (not_free _ free) away refl)
        (λ some. by_equal Stays monitor.owner s
        (λ is. by_test Stays (ltb monitor.depth depth_limit)
        (λ low. changes_hands (owned_by monitor s (monitor.depth + 1)) (not_its _ is) away refl) (λ high. holds))
        (λ other. holds))
    commit_away Exit limit =
        by_equal Stays monitor.owner s
        (λ is. by_test (λ (after : PlainMonitor). Holds t was after) (eqb monitor.depth 1)
        (λ one. changes_hands (owned_by monitor 0 0) (not_its _ is) (not_free 0 refl) refl)
        (λ more. changes_hands (owned_by monitor s (monitor.depth - 1)) (not_its _ is) away refl))
        (λ other. holds)
    commit_away Wait limit =
        by_test Stays (both (monitor.woken s) (eqb monitor.owner 0))
        (λ resumes. changes_hands (resume s monitor).monitor (not_free _ (eqb-true monitor.owner 0 (both_second (monitor.woken s) _ resumes))) away refl)
        (λ gives. by_equal Stays monitor.owner s
        (λ is. changes_hands (give_up limit s monitor).monitor (not_its _ is) (not_free 0 refl)
        (update_other monitor.saved s (record { depth = monitor.depth; limit = limit }) t (λ e. away (sym e))))
        (λ other. holds))
    commit_away Notify limit = by_equal Stays monitor.owner s (λ is. wakes monitor.waiting) (λ other. holds)
      where
        wakes : (waiting : List ℕ) → Stays (wake_first monitor waiting)
        wakes [] = holds
        wakes (first ∷ rest) = record { entered = holds.entered; aside = holds.aside }
    commit_away NotifyAll limit = by_equal Stays monitor.owner s (λ is. record { entered = holds.entered; aside = holds.aside }) (λ other. holds)

-- What an operation that goes on has committed, and with which plain answer.
abbrev Committing : Operation → OperationLog → Type 0
Committing Enter log = log.commits ≡ 0
Committing Exit log = (log.commits ≡ 0) ⊎ ((log.commits ≡ 1) × (log.answer ≡ Finished 0))
Committing Wait log = (log.commits ≡ 0) ⊎ ((log.commits ≡ 1) × (log.answer ≡ GoneOn))
Committing Notify log = Unit {0}
Committing NotifyAll log = Unit {0}

doing_committing : (log : OperationLog) (doing : Doing) → Staged (phase_row doing).stage log → Committing (phase_row doing).operation log
doing_committing log = each_doing _ (search (inl, inr))

state_committing : (log : OperationLog) (state : ThreadState) → T (unfinished state) → Logged state log → Committing log.operation log
state_committing log =
    each_state (λ state. T (unfinished state) → Logged state log → Committing log.operation log) (
      λ never. absurd never,
      λ doing busy (is, staged, limit). logs is (doing_committing log doing staged),
      λ carried busy (is, staged, limit). logs is (doing_committing log (onward carried) staged),
      λ busy (is, staged, limit). logs is staged,
      λ suspension busy (is, staged, limit). logs is (inr staged),
    )
  where
    logs : {operation : Operation} → log.operation ≡ operation → Committing operation log → Committing log.operation log
    logs is committing = subst (λ (operation : Operation). Committing operation log) (sym is) committing

-- an answer with which the operation goes on
abbrev goes_on : Answer → Bool
goes_on GoneOn = true
goes_on (Finished woken) = false
goes_on Parked = true
goes_on NotOwner = false
goes_on TooDeep = false
goes_on NoRule = false

parked_busy : (state : ThreadState) → unparked state ≡ false → T (unfinished state)
parked_busy = each_state _ (λ e. false≢true (sym e), λ doing e. false≢true (sym e), λ carried e. tt, λ e. tt, λ suspension e. tt)

answers_busy : (answer : Answer) (state : ThreadState) → Answers answer state → T (goes_on answer) → T (unfinished state)
answers_busy GoneOn state says on = says.1
answers_busy (Finished woken) state says never = absurd never
answers_busy Parked state says on = parked_busy state says
answers_busy NotOwner state says never = absurd never
answers_busy TooDeep state says never = absurd never
answers_busy NoRule state says never = absurd never

-- The step's own count is that of its plain commit.
module _ (plain : Answer) (log : OperationLog) (was : Times) where
  abbrev after : Bool → OperationLog
  after commits = log_after commits log plain

  abbrev Same : Operation → Answer → Bool → Type 0
  Same operation answer commits =
      Committing operation log → (T (goes_on answer) → Committing operation (after commits)) → EndsRight operation answer (after commits)
      → by_step operation answer commits was ≡ pick commits (counted operation plain was) was

  enter_same : (answer : Answer) (commits : Bool) → Same Enter answer commits
  enter_same GoneOn true before now ends = absurd (omega (arith, now tt))
  enter_same GoneOn false before now ends = refl
  enter_same (Finished woken) true before now (once, is) = rw is refl
  enter_same (Finished woken) false before now (once, is) = absurd (omega (arith, once, before))
  enter_same Parked true before now ends = absurd (omega (arith, now tt))
  enter_same Parked false before now ends = refl
  enter_same NotOwner true before now (once, is) = rw is refl
  enter_same NotOwner false before now ends = refl
  enter_same TooDeep true before now (once, is) = rw is refl
  enter_same TooDeep false before now ends = refl
  enter_same NoRule commits before now ends = absurd ends

  went_out : Committing Exit (after true) → goes_out was ≡ counted Exit plain was
  went_out (inl none) = absurd (omega (arith, none))
  went_out (inr (once, is)) = rw is refl

  exit_same : (answer : Answer) (commits : Bool) → Same Exit answer commits
  exit_same GoneOn true before now ends = went_out (now tt)
  exit_same GoneOn false before now ends = refl
  exit_same (Finished woken) true before now (once, is) = rw is refl
  exit_same (Finished woken) false before now ends = refl
  exit_same Parked true before now ends = went_out (now tt)
  exit_same Parked false before now ends = refl
  exit_same NotOwner true before now (once, is) = rw is refl
  exit_same NotOwner false before now ends = refl
  exit_same TooDeep true before now (once, is) = rw is refl
  exit_same TooDeep false before now ends = refl
  exit_same NoRule commits before now ends = absurd ends

  gave_up : Committing Wait (after true) → gives_up was ≡ counted Wait plain was
  gave_up (inl none) = absurd (omega (arith, none))
  gave_up (inr (once, is)) = rw is refl

  wait_same : (answer : Answer) (commits : Bool) → Same Wait answer commits
  wait_same GoneOn true before now ends = gave_up (now tt)
  wait_same GoneOn false before now ends = refl
  wait_same (Finished woken) true before now (twice, is) = rw is refl
  wait_same (Finished woken) false (inl none) now (twice, is) = absurd (omega (arith, none, twice))
  wait_same (Finished woken) false (inr (once, was)) now (twice, is) = absurd (omega (arith, once, twice))
  wait_same Parked true before now ends = gave_up (now tt)
  wait_same Parked false before now ends = refl
  wait_same NotOwner true before now (once, is) = rw is refl
  wait_same NotOwner false before now ends = refl
  wait_same TooDeep true before now (once, is) = rw is refl
  wait_same TooDeep false before now ends = refl
  wait_same NoRule commits before now ends = absurd ends

  step_same : (operation : Operation) (answer : Answer) (commits : Bool) → Same operation answer commits
  step_same Enter answer commits = enter_same answer commits
  step_same Exit answer commits = exit_same answer commits
  step_same Wait answer commits = wait_same answer commits
  step_same Notify answer commits = λ before now ends. sym (pick_same commits was)
  step_same NotifyAll answer commits = λ before now ends. sym (pick_same commits was)

-- an object that is owned, by its word, is owned at a depth above 0
owner_deep : (holder depth : ℕ) (word : WordSeen) → owner_of word holder depth ≢ 0 → 0 < depth_of word depth
owner_deep holder depth =
    each_word _ (
      λ some. absurd (some refl),
      λ some. absurd (some refl),
      by_equal (λ owner. owner ≢ 0 → 0 < depth) depth 0 (λ none some. absurd (some refl)) (λ deep some. omega (arith, deep)),
      λ owner c some. omega arith,
      λ owner c. by_equal (λ x. x ≢ 0 → 0 < c) c 0 (λ none some. absurd (some refl)) (λ deep some. omega (arith, deep)),
    )

-- the count of thread t at object o is what the plain monitors say, and the operation that it goes by is the one that they log
pub record Matches (t o : ℕ) (presence : Presence) (plain : Plain) : Type 0 where
  pub operation : presence.operation ≡ (plain.logs t).operation
  pub object : presence.object ≡ (plain.logs t).object
  pub holds : Holds t presence.times (plain.monitors o)

-- by the log that the thread has
matching : {t o : ℕ} {presence : Presence} {plain : Plain} (log : OperationLog) → plain.logs t ≡ log → presence.operation ≡ log.operation
    → presence.object ≡ log.object → Holds t presence.times (plain.monitors o) → Matches t o presence plain
matching log is operation object holds =
    record {
      operation = operation ∙ sym (ap (λ (x : OperationLog). x.operation) is);
      object = object ∙ sym (ap (λ (x : OperationLog). x.object) is);
      holds = holds;
    }

logged_at : (table : ListTable) (plain : Plain) → World table plain → (t : ℕ) → Logged (table.threads t).state (plain.logs t)
logged_at table plain world t =
    let home = (table.threads t).object in
    subst (λ (state : ThreadState). Logged state (plain.logs t)) (seen_here home (table.threads t) refl) ((world.inv home).threads t).logged

module _ (threads objects : ℕ) (table : ListTable) (sound : SoundTable threads objects table) (plain : Plain) (world : World table plain) (t o : ℕ) (real : t ≢ 0)
    (presence : Presence) (matches : Matches t o presence plain) where
  -- what is to be shown of an event, from what is known of it
  abbrev MatchesBy : Event → TurnOf ListTable → Type 0
  MatchesBy event result =
      World result.table (feed plain event result.reply) → TurnedBy threads objects table sound t event result
      → Matches t o (presence_after t o presence event result.reply) (feed plain event result.reply)

  begin_matches : (operation : Operation) (limit : Limit) (thread object : ℕ)
      → Matches t o (pick (eqb thread t) (by_begin (Known operation limit) object presence) presence) (fed_begin plain thread object (Known operation limit))
  begin_matches operation limit thread object =
      either_way (equal? thread t)
      (λ e. rw (e, eq-eqb t t refl)
      (matching (new_log operation limit object) (update_same plain.logs t (new_log operation limit object)) refl refl
      matches.holds))
      (λ away. rw (ne_eqb thread t away)
      (matching (plain.logs t) (update_other plain.logs thread (new_log operation limit object) t (λ e. away (sym e))) matches.operation matches.object matches.holds))

  tick_matches : Matches t o presence (fed_tick plain)
  tick_matches =
      let monitor = plain.monitors o in
      record {
        operation = matches.operation;
        object = matches.object;
        holds = record {
          entered = matches.holds.entered;
          aside = matches.holds.aside
              ∙ by_test (λ (saved : Suspension). (monitor.saved t).depth ≡ saved.depth) (is_waiting monitor t) (λ waits. refl) (λ stays. refl);
        };
      }

  -- a step of thread s, with this answer
  module _ (s : ℕ) (answer : Answer) (commits : Bool) where
    abbrev log : OperationLog
    log = plain.logs s

    abbrev was : PlainMonitor
    was = plain.monitors log.object

    abbrev committed : Committed
    committed = commit log.operation log.limit s was

    abbrev now : PlainMonitor
    now = pick commits committed.monitor was

    -- the plain monitor of o after it, where that is not the step's object, and where it is
    elsewhere : (held : Times) → o ≢ log.object → Holds t held (plain.monitors o) → Holds t held ((fed_step plain s answer commits).monitors o)
    elsewhere held away holds = subst (Holds t held) (sym (update_other plain.monitors log.object now o away)) holds

    here : (held : Times) → o ≡ log.object → Holds t held now → Holds t held ((fed_step plain s answer commits).monitors o)
    here held is holds = subst (Holds t held) (sym (ap (update plain.monitors log.object now) is ∙ update_same plain.monitors log.object now)) holds

    held_there : o ≡ log.object → Holds t presence.times was
    held_there is = subst (λ (place : ℕ). Holds t presence.times (plain.monitors place)) is matches.holds

    other_matches : s ≢ t → Matches t o presence (fed_step plain s answer commits)
    other_matches away =
        matching (plain.logs t) (update_other plain.logs s (log_after commits log committed.answer) t (λ e. away (sym e))) matches.operation matches.object
        (either_way (equal? o log.object)
        (λ is. here presence.times is
        (by_test (Holds t presence.times) commits (λ c. commit_away t real presence.times was (held_there is) s away log.operation log.limit) (λ quiet. held_there is)))
        (λ away. elsewhere presence.times away matches.holds))

  -- a step of its own
  module _ (doing : Doing) (running : (table.threads t).state ≡ Running doing) (answer : Answer) (commits : Bool) (next : ListTable)
      (world_after : World next (fed_step plain t answer commits)) (says : Answers answer (next.threads t).state) where
    abbrev own : OperationLog
    own = plain.logs t

    abbrev own_committed : Committed
    own_committed = commit own.operation own.limit t (plain.monitors own.object)

    abbrev own_after : OperationLog
    own_after = log_after commits own own_committed.answer

    -- it is logged as the plain monitors have it
    logs : (fed_step plain t answer commits).logs t ≡ own_after
    logs = update_same plain.logs t own_after

    same_operation : own_after.operation ≡ own.operation
    same_operation = (log_keeps commits own own_committed.answer).1

    same_times : by_step own.operation answer commits presence.times
        ≡ pick commits (counted own.operation own_committed.answer presence.times) presence.times
    same_times =
        step_same own_committed.answer own presence.times own.operation answer commits
        (state_committing own (table.threads t).state (rw running tt) (logged_at table plain world t))
        (λ on. subst (λ (operation : Operation). Committing operation own_after) same_operation
        (state_committing own_after (next.threads t).state (answers_busy answer (next.threads t).state says on)
        (subst (Logged (next.threads t).state) logs (logged_at next (fed_step plain t answer commits) world_after t))))
        (subst (λ (operation : Operation). EndsRight operation answer own_after) same_operation world_after.ended.0)

    -- who owns an object is inside
    deep : (plain.monitors own.object).owner ≡ t → 0 < (plain.monitors own.object).depth
    deep e =
        let home = own.object in
        let object = table.objects home in
        subst (λ (monitor : PlainMonitor). monitor.owner ≡ t → 0 < monitor.depth) (sym (world.monitors home))
        (λ is. owner_deep object.holder object.depth object.word (λ none. real (sym is ∙ none))) e

    times_held : o ≡ own.object → Holds t (by_step own.operation answer commits presence.times) (now t answer commits)
    times_held is =
        subst (λ (held : Times). Holds t held (now t answer commits)) (sym same_times)
        (split commits
        (λ c. rw c (commit_counted t real presence.times (was t answer commits) (held_there t answer commits is) deep own.operation own.limit))
        (λ quiet. rw quiet (held_there t answer commits is)))

    own_matches : Matches t o (pick (eqb presence.object o) (stepped answer commits presence) presence) (fed_step plain t answer commits)
    own_matches =
        either_way (equal? presence.object o)
        (λ at_home. let is : o ≡ own.object = sym at_home ∙ matches.object in
        rw (eq-eqb presence.object o at_home)
        (matching own_after logs (matches.operation ∙ sym same_operation) (matches.object ∙ sym (log_keeps commits own own_committed.answer).0)
        (here t answer commits (by_step presence.operation answer commits presence.times) is
        (subst (λ (operation : Operation). Holds t (by_step operation answer commits presence.times) (now t answer commits)) (sym matches.operation) (times_held is)))))
        (λ away. rw (ne_eqb presence.object o away)
        (matching own_after logs (matches.operation ∙ sym same_operation) (matches.object ∙ sym (log_keeps commits own own_committed.answer).0)
        (elsewhere t answer commits presence.times (λ e. away (matches.object ∙ sym e)) matches.holds)))

  step_matches : (s : ℕ) (doing : Doing) → (table.threads s).state ≡ Running doing → MatchesBy (Step s) (step_at table s doing)
  unfolding own_event
  step_matches s doing running world_after turned =
      let performed = perform_at table (table.threads s).object s doing in
      either_way (equal? s t)
      (λ e. rw (eq-eqb s t e)
      (subst (λ (thread : ℕ). Matches t o (pick (eqb presence.object o) (stepped performed.answer performed.commits presence) presence)
      (fed_step plain thread performed.answer performed.commits)) (sym e)
      (own_matches doing (subst (λ (thread : ℕ). (table.threads thread).state ≡ Running doing) e running) performed.answer performed.commits _
      (subst (λ (thread : ℕ). World (step_at table s doing).table (fed_step plain thread performed.answer performed.commits)) e world_after)
      (turned.own (eq-eqb t s (sym e))))))
      (λ away. rw (ne_eqb s t away) (other_matches s performed.answer performed.commits away))

  pub turn_matches : (event : Event)
      → Matches t o (presence_after t o presence event (turn threads objects table event).reply) (feed plain event (turn threads objects table event).reply)
  turn_matches event =
      by_event list_kind threads objects table MatchesBy (λ event refusal high after turned. matches)
      (λ number limit operation given thread object asked fits low high real small idle after turned. rw asked (begin_matches operation given thread object))
      (λ s doing low high running. step_matches s doing running) (λ after turned. tick_matches) event
      (world_turn threads objects table plain world event) (turn_turned threads objects table sound t event)

-- over a whole schedule
pub run_matches : (threads objects : ℕ) (events : List Event) (table : ListTable) (plain : Plain) (t o : ℕ) → t ≢ 0 → (presence : Presence)
    → SoundTable threads objects table → World table plain → Matches t o presence plain
    → Matches t o (presence_run t o presence (shown threads objects table events)) (feed_all plain (shown threads objects table events))
run_matches threads objects [] table plain t o real presence sound world matches = matches
run_matches threads objects (event ∷ rest) table plain t o real presence sound world matches =
    let turned = turn threads objects table event in
    run_matches threads objects rest turned.table (feed plain event turned.reply) t o real (presence_after t o presence event turned.reply)
    (sound_turn threads objects table sound event) (world_turn threads objects table plain world event)
    (turn_matches threads objects table sound plain world t o real presence matches event)

pub blank_matches : (t o : ℕ) → t ≢ 0 → Matches t o absent blank
blank_matches t o real = record { operation = refl; object = refl; holds = record { entered = omega (arith, owned_other t (blank.monitors o) (λ q. real (sym q))); aside = refl } }
