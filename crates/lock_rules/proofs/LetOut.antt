-- Operations that end by an event of another thread: they are queued exits, and they have the plain monitors' answer. And what a queued exit waits for.
use Prim.Native.Nat.{ℕ}
use mathlib.Core.Path.{◌≡◌, refl, sym, ap, ◌∙◌, subst}
use mathlib.Core.Logic.{◌≢◌}
use mathlib.Core.List.{List, [], ◌∷◌}
use native.Mathlib.Omega.{arith}
use lib.Dec.{T}
use borrow.Author.Tests.{eq-eqb, ne_eqb}
use Rattle.laws.specs.Count.{count}
use Rattle.laws.proofs.Choice.{either_way, equal?, by_test}
use Rattle.laws.proofs.Count.{count_none}
use Rattle.laws.proofs.Update.{update_other}
use Rattle.chains.specs.declared.named.Chain.{Chain}
use Rattle.lock_rules.specs.Rules.{decide}
use Rattle.lock_rules.specs.Feed.{OperationLog, Plain, feed, LetOutRight}
use Rattle.std.specs.Prelude.{Option, Some, None}
use Rattle.lock_rules.specs.declared.Effect.{Effect}
use Rattle.lock_rules.specs.declared.{Doing.Doing, ThreadState.ThreadState, ChainWork.ChainWork}
use Rattle.lock_rules.specs.declared.OnwardStep.TheVariants.{ToTell}
use Rattle.lock_rules.specs.declared.ThreadState.TheVariants.{Idle, Running, Queued, Contending, Waiting}
use Rattle.lock_rules.specs.declared.Taken.TheVariants.{First, All}
use Rattle.lock_rules.specs.declared.ChainWork.TheVariants.{Stay, Join, JoinAndHand, Hand, Move, MoveAndLetOut, SendBack}
use Rattle.lock_rules.specs.declared.event.Event.{Event}
use Rattle.lock_rules.specs.declared.event.Event.TheVariants.{Step}
use Rattle.lock_rules.proofs.Each.{each_state, each_carried}
use Rattle.lock_rules.proofs.Changes.{handed, moved, is_queued_exit, let_out_state, sent_back}
use Rattle.lock_rules.proofs.Status.{unfinished, Runs}
use Rattle.lock_rules.proofs.Objects.{ListObject, chain_of, sight_of}
use Rattle.lock_rules.proofs.Perform.{taken, changed_states, changed_so, handed_states, moved_states, states_after, effected, perform}
use Rattle.lock_rules.proofs.Tick.{expired, tick_at, by_tick}
use Rattle.lock_rules.proofs.Quiet.{moved_quiet, sent_back_quiet, changed_quiet, expired_quiet, quiet_busy}
use Rattle.lock_rules.proofs.TableKinds.{TurnOf, by_event}
use Rattle.lock_rules.proofs.Tables.{ListThread, ListTable, states_at, step_at, list_kind, turn, seen_here}
use Rattle.lock_rules.proofs.Invariant.{seat, Seated, Logged, Ghost, ThreadOk, Invariant}
use Rattle.lock_rules.proofs.SharedFacts.{thin_shallow}
use Rattle.lock_rules.proofs.Lift.{World}

busy≢idle : {A : Type 0} (state : ThreadState) → T (unfinished state) → state ≡ Idle → A
busy≢idle state busy idle = absurd (rw idle at busy)

-- nobody but a queued exit goes idle by another's event: who is handed the monitor goes on, and the other changes are quiet
handed_busy : (state : ThreadState) → T (unfinished state) → T (unfinished (handed state))
handed_busy = each_state _ (search)

handed_on : (states : ℕ → ThreadState) (o : ListObject) (t : ℕ) → T (unfinished (states t)) → T (unfinished (handed_states states o t))
handed_on states o =
    changed_so (λ before after. T (unfinished before) → T (unfinished after)) (λ state busy. busy) handed handed_busy states (taken First o.entry)

-- who is let out was a queued exit, and was one before the contenders moved
pub exit_is : (state : ThreadState) → T (is_queued_exit state) → state ≡ Queued ToTell
exit_is = each_state _ (search absurd, search absurd, each_carried _ (search absurd), search absurd, search absurd)

moved_exit : (state : ThreadState) → T (is_queued_exit (moved state)) → T (is_queued_exit state)
moved_exit = each_state _ (search)

let_out_exit : (state : ThreadState) → T (unfinished state) → let_out_state state ≡ Idle → T (is_queued_exit state)
let_out_exit state busy idle = by_test (λ after. after ≡ Idle → T (is_queued_exit state)) (is_queued_exit state) (λ exits now. rw exits tt) (λ stays now. busy≢idle state busy now) idle

pub moved_from : (states : ℕ → ThreadState) (t : ℕ) (list : List ℕ) → T (is_queued_exit (changed_states moved states list t)) → T (is_queued_exit (states t))
moved_from states t list =
    changed_so (λ before after. T (is_queued_exit after) → T (is_queued_exit before)) (λ state exits. exits) moved moved_exit states list t

module _ (states : ℕ → ThreadState) (t : ℕ) (busy : T (unfinished (states t))) where
  work_ends : (work : ChainWork) (o : ListObject) → states_after work states o t ≡ Idle → T (is_queued_exit (states t))
  work_ends Stay o = busy≢idle (states t) busy
  work_ends (Join chain) o = busy≢idle (states t) busy
  work_ends (JoinAndHand chain) o = busy≢idle _ (handed_on states o t busy)
  work_ends Hand o = busy≢idle _ (handed_on states o t busy)
  work_ends (Move from which) o = busy≢idle _ (quiet_busy (changed_quiet moved moved_quiet states (taken which (chain_of from o)) t) busy)
  work_ends MoveAndLetOut o =
      λ idle. moved_from states t o.contention (let_out_exit (moved_states Chain.Contention All states o t) (quiet_busy (changed_quiet moved moved_quiet states o.contention t) busy) idle)
  work_ends (SendBack u) o = busy≢idle _ (quiet_busy (changed_quiet sent_back sent_back_quiet states (u ∷ []) t) busy)

  step_ends : (thread : ℕ) (o : ListObject) (action : Option Effect) → t ≢ thread → (perform thread states o action).states t ≡ Idle → T (is_queued_exit (states t))
  step_ends thread o None other idle = busy≢idle (states t) busy idle
  step_ends thread o (Some effect) other idle =
      work_ends effect.work (effected thread effect o)
      (sym (update_other (states_after effect.work states (effected thread effect o)) thread effect.state t other) ∙ idle)

  tick_ends : {A : Type 0} (o : ListObject) → (tick_at states o).states t ≡ Idle → A
  tick_ends o =
      let moved_on = quiet_busy (expired_quiet states o t) busy in
      busy≢idle _
      (by_tick states o (λ result. T (unfinished (result.states t))) busy (λ free. handed_on (expired states o).states (expired states o).object t moved_on) (λ held. moved_on))

-- a queued exit has committed once, and its answer was 1 with 0
exit_answered : (log : OperationLog) → Logged (Queued ToTell) log → LetOutRight log
exit_answered log (operation, staged, limit) = (operation, staged)

-- an event of another that leaves a busy thread n idle has ended such an operation
module _ (threads objects : ℕ) (table : ListTable) (plain : Plain) (world : World table plain) (n : ℕ) (busy : T (unfinished (table.threads n).state)) where
  abbrev Ends : Event → TurnOf ListTable → Type 0
  Ends event result = event ≢ Step n → (result.table.threads n).state ≡ Idle → LetOutRight ((feed plain event result.reply).logs n)

  still : {A : Type 0} → (table.threads n).state ≡ Idle → A
  still = busy≢idle (table.threads n).state busy

  module _ (t : ℕ) (doing : Doing) (other : n ≢ t) where
    abbrev home : ℕ
    home = (table.threads t).object

    -- it was at the object of the thread that stepped
    let_out_there : ((step_at table t doing).table.threads n).state ≡ Idle → Logged (Queued ToTell) (plain.logs n)
    let_out_there idle =
        either_way (equal? (table.threads n).object home)
        (λ here. let seen = seen_here home (table.threads n) here in
        let exits = step_ends (states_at table home) n (rw seen busy) t (table.objects home) (decide t (sight_of (table.objects home)) doing) other
        (rw (eq-eqb (table.threads n).object home here) at idle) in
        subst (λ (state : ThreadState). Logged state (plain.logs n)) (exit_is (states_at table home n) exits) ((world.inv home).threads n).logged)
        (λ away. still (rw (ne_eqb (table.threads n).object home away) at idle))

  pub turn_ends : (event : Event) → Ends event (turn threads objects table event)
  turn_ends =
      by_event list_kind threads objects table Ends (λ event refusal high other idle. still idle)
      (λ number limit operation given t o asked fits low high real small free other ended.
      either_way (equal? n t) (λ e. still (rw e free))
      (λ away. still (sym (ap (λ (thread : ListThread). thread.state) (update_other table.threads t _ n away)) ∙ ended)))
      (λ t doing low high running other idle.
      let away : n ≢ t = λ e. other (rw e refl) in
      rw (update_other plain.logs t _ n away) (exit_answered (plain.logs n) (let_out_there t doing away idle)))
      (λ other idle. let home = (table.threads n).object in
      tick_ends (states_at table home) n (rw (seen_here home (table.threads n) refl) busy) (table.objects home) idle)

-- What a queued exit waits for: another thread, which holds the monitor at depth 0, can take a step, and has an operation on the object.
pub record HolderRuns (states : ℕ → ThreadState) (o : ListObject) (t : ℕ) : Type 0 where
  pub other : o.holder ≢ t
  pub shallow : o.depth ≡ 0
  pub runs : Runs (states o.holder)

pub exit_waits : (states : ℕ → ThreadState) (o : ListObject) (ghost : Ghost) → Invariant states o ghost → (t : ℕ) → states t ≡ Queued ToTell
    → HolderRuns states o t
exit_waits states o ghost inv t e =
    let a : ThreadOk t (Queued ToTell) o (ghost.logs t) (ghost.woken t) (ghost.saved t) = rw e at (inv.threads t) in
    let shallow = thin_shallow o.holder o.depth o.word a.relies inv.whole.monitor in
    let someone : o.holder ≢ 0 = λ z. omega (arith, a.placed.entry, ap (count t) (inv.whole.empty z), count_none t) in
    record { other = a.seated.0; shallow = shallow; runs = at someone shallow (states o.holder) (inv.threads o.holder).seated }
  where
    -- at depth 0 a holder is neither idle nor parked
    at : o.holder ≢ 0 → o.depth ≡ 0 → (state : ThreadState) → Seated (seat state) o.holder o.holder o.depth
        → Runs state
    at someone shallow Idle s = absurd (omega (arith, s refl someone, shallow))
    at someone shallow (Running doing) s = (tt, tt)
    at someone shallow (Queued carried) s = absurd (s.0 refl)
    at someone shallow Contending s = absurd (s.0 refl)
    at someone shallow (Waiting suspension) s = absurd (s.0 refl)
