-- Whom an event unparks, by the states before and after it: those that were parked and are not, and nobody else (document 02, L3). Another's event
-- leaves whoever was not parked so, with its operation or without one. What its own event makes of a thread, the answer says.
use Prim.Native.Nat.{ℕ, zero, suc, ◌≤◌, ◌<◌}
use mathlib.Core.Path.{◌≡◌, refl, sym, ap, ◌∙◌, subst}
use mathlib.Core.Logic.{◌≢◌}
use mathlib.Core.Bool.{Bool, true, false, not}
use mathlib.Core.List.{[], ◌∷◌}
use native.Mathlib.Omega.{arith}
use lib.Dec.{T, eqb}
use borrow.Author.Tests.{eq-eqb, ne_eqb, eqb-true}
use Rattle.laws.specs.{Choice.pick, Choice.both, Count.count}
use Rattle.laws.proofs.Choice.{either_way, equal?, both_first, both_second, not_both, false≢true, holds, failed}
use Rattle.laws.proofs.Update.{update_same, update_other}
use Rattle.chains.specs.declared.named.Chain.{Chain}
use Rattle.lock_rules.specs.Rules.{begun}
use Rattle.lock_rules.specs.RunQueue.{own_event}
use Rattle.lock_rules.specs.Numbers.{first_refusal, refusal_number}
use Rattle.lock_rules.specs.Operations.{Operation}
use Rattle.lock_rules.specs.Events.{Reply, Accepted, Refused, Answered, returned}
use Rattle.lock_rules.specs.declared.event.{Event.Event, Refusal.Refusal}
use Rattle.lock_rules.specs.declared.event.Event.TheVariants.{Begin, Step, Tick}
use Rattle.std.specs.Prelude.{Option, Some, None}
use Rattle.lock_rules.specs.declared.Effect.{Effect}
use Rattle.lock_rules.specs.declared.{Limit.Limit, Doing.Doing, ThreadState.ThreadState, ChainWork.ChainWork}
use Rattle.lock_rules.specs.declared.ThreadState.TheVariants.{Idle, Running}
use Rattle.lock_rules.specs.declared.Taken.TheVariants.{First, All}
use Rattle.lock_rules.specs.declared.ChainWork.TheVariants.{Stay, Join, JoinAndHand, Hand, Move, MoveAndLetOut, SendBack}
use Rattle.lock_rules.proofs.Each.{each_state, each_carried}
use Rattle.lock_rules.proofs.Changes.{moved, is_queued_exit, let_out_state, sent_back}
use Rattle.lock_rules.proofs.Status.{unparked, unfinished, Runs}
use Rattle.lock_rules.proofs.Objects.{ListObject, chain_of, empty, sight_of}
use Rattle.lock_rules.proofs.Perform.{taking, taken, handed_object, handed_states, moved_states, is_handed, states_after, unparks, effected, perform, action_unparks}
use Rattle.lock_rules.proofs.Tick.{expired, tick_at, tick_unparks}
use Rattle.lock_rules.proofs.Quiet.{Quiet, same_quiet, moved_quiet, sent_back_quiet, changed_quiet, expired_quiet}
use Rattle.lock_rules.proofs.Membership.{PlacedAt, was_in}
use Rattle.lock_rules.proofs.ListSound.{SoundObject, SoundTable}
use Rattle.lock_rules.proofs.SoundTick.{expired_placed}
use Rattle.lock_rules.proofs.SoundEffects.{Answers, ActionFine, decide_fine}
use Rattle.lock_rules.proofs.TableKinds.{TurnOf, by_event}
use Rattle.lock_rules.proofs.Tables.{ListThread, ListTable, states_at, ticked_at, decide_at, acted_at, begin_at, step_at, tick_all, tick_all_unparks, list_kind, turn, seen_here, seen_elsewhere}

-- A thread before and after an event of another. `named` says whether it is in the event's set.
pub record Passed (named : Bool) (before after : ThreadState) : Type 0 where
  pub names : named ≡ both (not (unparked before)) (unparked after)
  pub stays : T (unparked before) → T (unparked after) × (unfinished after ≡ unfinished before)

-- who is in such a set was parked and is not
pub unparks_says : (before after : Bool) → both (not before) after ≡ true → (before ≡ false) × T after
unparks_says before after in_set = (failed before (both_first (not before) after in_set), rw (both_second (not before) after in_set) tt)

pub says_unparks : (before after : Bool) → before ≡ false → T after → both (not before) after ≡ true
says_unparks before after parked free = rw (parked) (holds after free)

-- first a quiet change, then one that may unpark
then_passed : {a b c : ThreadState} {named : Bool} → Quiet a b → Passed named b c → Passed named a c
then_passed {a} {b} {c} quiet after =
    record {
      names = after.names ∙ ap (λ (x : Bool). both (not x) (unparked c)) quiet.parks;
      stays = λ free. let (still, same) = after.stays (rw quiet.parks free) in (still, same ∙ quiet.works);
    }

quiet_passed : {a b : ThreadState} → Quiet a b → Passed false a b
quiet_passed {a} {b} quiet =
    record { names = sym (not_both (unparked a)) ∙ ap (both (not (unparked a))) (sym quiet.parks); stays = λ free. (rw quiet.parks free, quiet.works) }

-- who is handed the monitor was queued
handed_passed : (states : ℕ → ThreadState) (o : ListObject) (t : ℕ) → PlacedAt t (states t) o
    → Passed (is_handed o t) (states t) (handed_states states o t)
handed_passed states o t placed = at (count t (taken First o.entry)) refl
  where
    at : (k : ℕ) → count t (taken First o.entry) ≡ k → Passed (is_handed o t) (states t) (handed_states states o t)
    at zero none = rw none (quiet_passed (same_quiet (states t)))
    at (suc k) some =
        let ((carried, queued), once) = was_in t (states t) o placed Chain.Entry (taking First o.entry) k some in
        rw (some, queued) (record { names = refl; stays = λ free. absurd free })

-- a queued exit that is let out was parked, and nobody else is changed
let_out_passed : (state : ThreadState) → Passed (is_queued_exit state) state (let_out_state state)
let_out_passed = each_state _ (search, search, each_carried _ (search, record { names = refl; stays = λ free. absurd free }, search, search), search, search)

-- the work on chains
work_passed : (states : ℕ → ThreadState) (o : ListObject) (t : ℕ) → PlacedAt t (states t) o → (work : ChainWork)
    → Passed (unparks work states o t) (states t) (states_after work states o t)
work_passed states o t placed Stay = quiet_passed (same_quiet (states t))
work_passed states o t placed (Join chain) = quiet_passed (same_quiet (states t))
work_passed states o t placed (JoinAndHand chain) = handed_passed states o t placed
work_passed states o t placed Hand = handed_passed states o t placed
work_passed states o t placed (Move from which) = quiet_passed (changed_quiet moved moved_quiet states (taken which (chain_of from o)) t)
work_passed states o t placed MoveAndLetOut =
    then_passed (changed_quiet moved moved_quiet states o.contention t) (let_out_passed (moved_states Chain.Contention All states o t))
work_passed states o t placed (SendBack u) = quiet_passed (changed_quiet sent_back sent_back_quiet states (u ∷ []) t)

-- a rule, at its object, for every thread but the one that steps
acted_passed : (thread : ℕ) (states : ℕ → ThreadState) (o : ListObject) (t : ℕ) → PlacedAt t (states t) o → t ≢ thread → (action : Option Effect)
    → Passed (action_unparks thread states o action t) (states t) ((perform thread states o action).states t)
acted_passed thread states o t placed other None = quiet_passed (same_quiet (states t))
acted_passed thread states o t placed other (Some effect) =
    let now = effected thread effect o in
    rw (update_other (states_after effect.work states now) thread effect.state t other) (work_passed states now t placed effect.work)

-- that one was not parked, so it is not in the set
own_unnamed : (thread : ℕ) (states : ℕ → ThreadState) (o : ListObject) → PlacedAt thread (states thread) o → T (unparked (states thread)) → (action : Option Effect)
    → action_unparks thread states o action thread ≡ false
own_unnamed thread states o placed free None = refl
own_unnamed thread states o placed free (Some effect) =
    let now = effected thread effect o in
    (work_passed states now thread placed effect.work).names ∙ unnamed (unparked (states thread)) _ free
  where
    unnamed : (b c : Bool) → T b → both (not b) c ≡ false
    unnamed true c free = refl
    unnamed false c free = absurd free

-- a tick, at one object
pub tick_passed : (threads : ℕ) (states : ℕ → ThreadState) (o : ListObject) → SoundObject threads states o → (t : ℕ)
    → Passed (tick_unparks states o t) (states t) ((tick_at states o).states t)
tick_passed threads states o sound t = at (empty o.waiting) (eqb (expired states o).object.holder 0)
  where
    at : (none free : Bool)
        → let after = expired states o in
        Passed (pick none false (pick free (is_handed after.object t) false)) (states t)
        ((pick none (record { states = states; object = o })
        (pick free (record { states = handed_states after.states after.object; object = handed_object after.object }) after)).states t)
    at true free = quiet_passed (same_quiet (states t))
    at false true = then_passed (expired_quiet states o t) (handed_passed (expired states o).states (expired states o).object t (expired_placed threads states o sound t))
    at false false = quiet_passed (expired_quiet states o t)

-- what its own event that counts makes of a thread
abbrev pub OwnTurned : Event → Reply → ThreadState → Type 0
OwnTurned (Begin number thread object limit) reply after = Runs after
OwnTurned (Step thread) Accepted after = Unit {0}
OwnTurned (Step thread) (Refused number) after = Unit {0}
OwnTurned (Step thread) (Answered answer commits) after = Answers answer after
OwnTurned Tick reply after = Unit {0}

-- thread n before and after an event, by what the event returned and by whether the thread is in its set
pub record Turned (n : ℕ) (event : Event) (reply : Reply) (named : Bool) (before after : ThreadState) : Type 0 where
  pub names : named ≡ both (not (unparked before)) (unparked after)
  pub other : own_event event (returned reply) n ≡ false → T (unparked before) → T (unparked after) × (unfinished after ≡ unfinished before)
  pub own : own_event event (returned reply) n ≡ true → OwnTurned event reply after

-- by no event of its own
passed_turned : {n : ℕ} {event : Event} {reply : Reply} {named : Bool} {before after : ThreadState} → Passed named before after
    → (own_event event (returned reply) n ≡ true → ⊥) → Turned n event reply named before after
passed_turned moves never = record { names = moves.names; other = λ away. moves.stays; own = λ own. absurd (never own) }

still : (state : ThreadState) → Passed false state state
still state = quiet_passed (same_quiet state)

-- by a refused one
refused_turned : (n : ℕ) (state : ThreadState) (event : Event) (refusal : Refusal) → first_refusal < refusal_number refusal
    → Turned n event (Refused (refusal_number refusal)) false state state
unfolding own_event
refused_turned n state (Begin number thread object limit) refusal high =
    passed_turned (still state) (λ own. absurd (omega (arith, high, eqb-true (refusal_number refusal) 0 (both_second (eqb n thread) _ own))))
refused_turned n state (Step thread) refusal high = record { names = (still state).names; other = λ away. (still state).stays; own = λ own. tt }
refused_turned n state Tick refusal high = passed_turned (still state) (λ own. false≢true own)

module _ (threads objects : ℕ) (table : ListTable) (sound : SoundTable threads objects table) (n : ℕ) where
  abbrev before : ThreadState
  before = (table.threads n).state

  abbrev pub TurnedBy : Event → TurnOf ListTable → Type 0
  TurnedBy event result = Turned n event result.reply (result.unparked n) before (result.table.threads n).state

  pub begun_turned : (number limit : ℕ) (operation : Operation) (given : Limit) (t o : ℕ) → (table.threads t).state ≡ Idle
      → TurnedBy (Begin number t o limit) (record { table = begin_at table operation given t o; reply = Accepted; unparked = λ m. false })
  unfolding own_event
  begun_turned number limit operation given t o idle =
      let thread : ListThread = record { object = o; state = Running (begun operation given) } in
      either_way (equal? n t)
      (λ e. rw (e, update_same table.threads t thread, idle)
      (record { names = refl; other = λ away. false≢true (sym away ∙ rw (eq-eqb t t refl) refl); own = λ own. (tt, tt) }))
      (λ away. rw (update_other table.threads t thread n away)
      (passed_turned (still before) (λ own. absurd (away (eqb-true n t (both_first (eqb n t) _ own))))))

  -- a step of thread t, which is at the object `home`
  module _ (t : ℕ) (doing : Doing) (real : 1 ≤ t) (low : t ≤ threads) (running : (table.threads t).state ≡ Running doing) where
    abbrev home : ℕ
    home = (table.threads t).object

    abbrev states : ℕ → ThreadState
    states = states_at table home

    abbrev object : ListObject
    object = table.objects home

    here : states t ≡ Running doing
    here = seen_here home (table.threads t) refl ∙ running

    own_answers : (action : Option Effect) → ActionFine t object.holder action
        → OwnTurned (Step t) (acted_at table home t action).reply ((perform t states object action).states t)
    own_answers None fine = rw here (tt, tt)
    own_answers (Some effect) fine =
        rw (update_same (states_after effect.work states (effected t effect object)) t effect.state) fine.answers

    own_turned : n ≡ t → (action : Option Effect) → ActionFine t object.holder action → TurnedBy (Step t) (acted_at table home t action)
    unfolding own_event
    own_turned e action fine =
        rw (e, eq-eqb home home refl, running)
        (record {
          names = own_unnamed t states object ((sound.sound home).placed t) (rw here tt) action;
          other = λ away. false≢true (sym away ∙ eq-eqb t t refl);
          own = λ own. own_answers action fine;
        })

    -- elsewhere it is not in the set
    unseen : (named : Bool) (after : ThreadState) → states n ≡ Idle → Passed named (states n) after → Passed named before before
    unseen named after idle there =
        let unnamed = there.names ∙ ap (λ (state : ThreadState). both (not (unparked state)) (unparked after)) idle in
        record { names = unnamed ∙ (still before).names; stays = (still before).stays }

    other_turned : n ≢ t → (action : Option Effect) → TurnedBy (Step t) (acted_at table home t action)
    unfolding own_event
    other_turned away action =
        let moves = acted_passed t states object n ((sound.sound home).placed n) away action in
        let never : eqb n t ≡ true → ⊥ = λ own. away (eqb-true n t own) in
        either_way (equal? (table.threads n).object home)
        (λ at_home. rw (eq-eqb (table.threads n).object home at_home, ← (seen_here home (table.threads n) at_home)) (passed_turned moves never))
        (λ elsewhere. rw (ne_eqb (table.threads n).object home elsewhere)
        (passed_turned (unseen _ _ (seen_elsewhere home (table.threads n) elsewhere) moves) never))

    pub step_turned : TurnedBy (Step t) (step_at table t doing)
    step_turned =
        let fine = decide_fine threads t (sight_of object) (λ e. omega (arith, real, e)) (sound.sound home).deep (sound.sound home).shallow doing
        (rw running at (sound.fine t)) (sound.sound home).word in
        either_way (equal? n t) (λ e. own_turned e (decide_at table home t doing) fine) (λ away. other_turned away (decide_at table home t doing))

  tick_turned : TurnedBy Tick (record { table = tick_all table; reply = Accepted; unparked = tick_all_unparks table })
  unfolding own_event
  tick_turned =
      let home = (table.threads n).object in
      let moves = tick_passed threads (states_at table home) (table.objects home) (sound.sound home) n in
      passed_turned (subst (λ (state : ThreadState). Passed (tick_all_unparks table n) state ((ticked_at table home).states n)) (seen_here home (table.threads n) refl) moves)
      (λ own. false≢true own)

  -- any event
  pub turn_turned : (event : Event) → TurnedBy event (turn threads objects table event)
  turn_turned =
      by_event list_kind threads objects table TurnedBy (refused_turned n before)
      (λ number limit operation given t o asked fits low high real small idle. begun_turned number limit operation given t o idle)
      step_turned tick_turned
