-- "From a fresh table 11 and 20 never occur" (document 01, "Steps"): of 11, that no step of a schedule meets a word that is none.
use Prim.Native.Nat.{ℕ, ◌≤◌, ◌<◌}
use mathlib.Core.Path.{◌≡◌, sym, subst}
use mathlib.Core.Bool.{Bool}
use mathlib.Core.List.{List, [], ◌∷◌}
use native.Mathlib.Omega.{arith}
use borrow.Author.Tests.{le-leb}
use Rattle.lock_rules.specs.declared.event.{Event.Event, Refusal.Refusal}
use Rattle.lock_rules.specs.declared.event.Event.TheVariants.{Step}
use Rattle.lock_rules.specs.declared.event.Refusal.TheVariants.{NotSound, NoSuchThread, NoSuchObject, NotIdle, ThreadIdle, ThreadParked}
use Rattle.lock_rules.specs.declared.event.Refusal.TheVariants.{NoSuchOperation, LimitOutOfRange}
use Rattle.lock_rules.specs.Events.{Refused, Answered}
use Rattle.lock_rules.specs.Feed.{Plain, OperationLog, feed, blank, EndsRight}
use Rattle.lock_rules.specs.Numbers.{first_refusal, refusal_number}
use Rattle.lock_rules.specs.Operations.{Operation}
use Rattle.lock_rules.specs.declared.{Doing.Doing, Answer.Answer}
use Rattle.lock_rules.specs.declared.ThreadState.TheVariants.{Running}
use Rattle.lock_rules.specs.declared.Answer.TheVariants.{GoneOn, Finished, Parked, NotOwner, TooDeep, NoRule}
use Rattle.lock_table.proofs.FreshTables.{fresh_rank}
use Rattle.lock_rules.proofs.TableKinds.{TurnOf, shown_on, by_event}
use Rattle.lock_rules.proofs.Tables.{ListTable, list_kind, turn, step_at, perform_at, shown, fresh}
use Rattle.lock_rules.proofs.Lift.{World, world_turn, world_fresh}
use Rattle.lock_table.specs.Fresh.{InRange, table_of}
use Rattle.lock_table.specs.declared.fresh_table.FreshRequest.{FreshRequest}
use Rattle.lock_records.specs.Agrees.{RuledReply, Ruled}
use Rattle.lock_records.proofs.{RecordKind.record_kind, Claim.schedule_represents}

-- a step that ends right had a rule
ended_ruled : (operation : Operation) (answer : Answer) (commits : Bool) (log : OperationLog) → EndsRight operation answer log
    → RuledReply (Answered answer commits)
ended_ruled operation GoneOn commits log ends = (omega arith, omega arith)
ended_ruled operation (Finished woken) commits log ends = (omega arith, omega arith)
ended_ruled operation Parked commits log ends = (omega arith, omega arith)
ended_ruled operation NotOwner commits log ends = (omega arith, omega arith)
ended_ruled operation TooDeep commits log ends = (omega arith, omega arith)
ended_ruled operation NoRule commits log ends = absurd ends

-- a refusal before any rule has its own number
refusal_ruled : (refusal : Refusal) → first_refusal < refusal_number refusal → RuledReply (Refused (refusal_number refusal))
unfolding refusal_number
refusal_ruled NotSound high = absurd (omega (arith, high))
refusal_ruled NoSuchThread high = (omega arith, omega arith)
refusal_ruled NoSuchObject high = (omega arith, omega arith)
refusal_ruled NotIdle high = (omega arith, omega arith)
refusal_ruled ThreadIdle high = (omega arith, omega arith)
refusal_ruled ThreadParked high = (omega arith, omega arith)
refusal_ruled NoSuchOperation high = (omega arith, omega arith)
refusal_ruled LimitOutOfRange high = (omega arith, omega arith)

module _ (threads objects : ℕ) (lists : ListTable) (plain : Plain) (world : World lists plain) where
  pub step_ruled : (t : ℕ) (doing : Doing) → 1 ≤ t → t ≤ threads → (lists.threads t).state ≡ Running doing → RuledReply (step_at lists t doing).reply
  step_ruled t doing low high e =
      let same : turn threads objects lists (Step t) ≡ step_at lists t doing = simp (le-leb 1 t low, le-leb t threads high, e) in
      let after = subst (λ (result : TurnOf ListTable). World result.table (feed plain (Step t) result.reply)) same
      (world_turn threads objects lists plain world (Step t)) in
      let performed = perform_at lists (lists.threads t).object t doing in
      ended_ruled _ performed.answer performed.commits _ after.ended.0

  turn_ruled : (event : Event) → RuledReply (turn threads objects lists event).reply
  turn_ruled =
      by_event list_kind threads objects lists (λ event result. RuledReply result.reply) (λ event refusal high. refusal_ruled refusal high)
      (λ number limit operation given t o asked fits low high real small idle. (omega arith, omega arith)) step_ruled (omega arith, omega arith)

lists_ruled : (threads objects : ℕ) (events : List Event) (lists : ListTable) (plain : Plain) → World lists plain
    → Ruled (shown threads objects lists events)
lists_ruled threads objects [] lists plain world = tt
lists_ruled threads objects (event ∷ rest) lists plain world = (
  turn_ruled threads objects lists plain world event,
  lists_ruled threads objects rest (turn threads objects lists event).table (feed plain event (turn threads objects lists event).reply)
      (world_turn threads objects lists plain world event),
)

-- no event of a schedule on records returns 11 or 20
pub schedule_ruled : (request : FreshRequest) → InRange request → (events : List Event)
    → Ruled (shown_on record_kind request.threads request.objects (table_of request) events)
schedule_ruled request in_range events =
    subst Ruled (sym (schedule_represents request in_range events).2)
    (lists_ruled request.threads request.objects events (fresh request.reserved (fresh_rank request)) blank (world_fresh request.reserved (fresh_rank request)))
