-- What is shown of a rule, and how its parts are put together.
use Prim.Native.Nat.{ℕ}
use mathlib.Core.Path.{◌≡◌, sym, ◌∙◌}
use mathlib.Core.Logic.{◌≢◌}
use mathlib.Core.Bool.{Bool, false}
use mathlib.Core.List.{[]}
use lib.Dec.{T}
use Rattle.laws.specs.{Choice.pick, Update.update}
use Rattle.laws.proofs.Update.{update_other}
use Rattle.lock_rules.specs.Operations.{Operation}
use Rattle.std.specs.Prelude.{Option}
use Rattle.lock_rules.specs.declared.Effect.{Effect}
use Rattle.lock_rules.specs.declared.{Limit.Limit, Suspension.Suspension, Doing.Doing, ThreadState.ThreadState, Answer.Answer}
use Rattle.lock_rules.specs.declared.ThreadState.TheVariants.{Idle, Running}
use Rattle.lock_rules.specs.declared.Answer.TheVariants.{GoneOn}
use Rattle.lock_rules.specs.PlainMonitor.{PlainMonitor, Committed, unowned, commit}
use Rattle.lock_rules.specs.Feed.{log_after, EndsRight}
use Rattle.lock_rules.proofs.Objects.{ListObject}
use Rattle.lock_rules.proofs.{Perform.perform, Invariant.Refines}
use Rattle.lock_rules.proofs.Invariant.{phase_row, ReliesOn, Ghost, ThreadOk, MonitorOk, FlagOk, Unstranded, Invariant, monitor_of}
use Rattle.lock_rules.proofs.OtherThreads.{Others, with_own}

-- the thread that steps, the states of all threads as its object sees them, and what the plain monitors know of them
pub record Actor : Type 0 where
  pub thread : ℕ
  pub states : ℕ → ThreadState
  pub ghost : Ghost
  pub real : thread ≢ 0

abbrev pub Self : Actor → ThreadState → ListObject → Type 0
Self actor state o = ThreadOk actor.thread state o (actor.ghost.logs actor.thread) (actor.ghost.woken actor.thread)
    (actor.ghost.saved actor.thread)

-- a step is to be taken in this phase
pub record Stepping (actor : Actor) (doing : Doing) (o : ListObject) : Type 0 where
  pub inv : Invariant actor.states o actor.ghost
  pub running : actor.states actor.thread ≡ Running doing
  pub self : Self actor (Running doing) o

-- the limit that the thread's begin gave
abbrev pub limit_of : Actor → Limit
limit_of actor = (actor.ghost.logs actor.thread).limit

-- the plain monitor that an object shows
abbrev pub plain_at : Actor → ListObject → PlainMonitor
plain_at actor o = monitor_of o actor.ghost

-- what is to be shown of an action
abbrev pub Right : Actor → Operation → ListObject → Option Effect → Type 0
Right actor operation o action = Refines actor.thread operation actor.states o actor.ghost (perform actor.thread actor.states o action)

-- two phases that sit alike, and whose operation has committed and saved alike
abbrev pub Alike : Doing → Doing → Type 0
Alike doing next =
    ((phase_row next).seat ≡ (phase_row doing).seat) × ((phase_row next).operation ≡ (phase_row doing).operation) × ((phase_row next).stage ≡ (phase_row doing).stage)
    × ((phase_row next).saved ≡ (phase_row doing).saved) × ((phase_row next).limit ≡ (phase_row doing).limit)

pub sits_alike : (actor : Actor) {doing : Doing} {o : ListObject} → Self actor (Running doing) o → (next : Doing) → Alike doing next
    → ReliesOn (phase_row next).reliance actor.thread o.word o.flag o.holder → Self actor (Running next) o
sits_alike actor a next (same_seat, same_operation, same_stage, same_saved, same_limit) relies =
    record {
      seated = rw same_seat a.seated;
      placed = a.placed;
      relies = relies;
      logged = rw (same_operation, same_stage, same_limit) a.logged;
      saved = rw same_saved a.saved;
      woken = rw same_saved a.woken;
    }

-- a step that does not commit
pub nothing_committed : Committed
nothing_committed = record { monitor = unowned; answer = GoneOn }

-- the logs before a step, with who is woken and what is saved after it
abbrev pub known : Actor → (ℕ → Bool) → (ℕ → Suspension) → Ghost
known actor woken saved = record { logs = actor.ghost.logs; woken = woken; saved = saved }

-- What a rule does, and what is to be shown of it: of the others, of the thread itself, of the object, and of the plain monitor.
pub record RuleParts (actor : Actor) (operation : Operation) (o : ListObject) : Type 0 where
  -- the object and the states of the others after it, the thread's state, the answer, whether it commits
  pub after : ListObject
  pub states : ℕ → ThreadState
  pub state : ThreadState
  pub answer : Answer
  pub commits : Bool
  -- what the plain monitor does if it commits, and who is woken and what is saved then
  pub committed : Committed
  pub woken : ℕ → Bool
  pub saved : ℕ → Suspension
  pub nobody : actor.states 0 ≡ Idle
  pub stays : (t : ℕ) → actor.states t ≡ Idle → states t ≡ Idle
  pub does : T commits → commit operation (limit_of actor) actor.thread (plain_at actor o) ≡ committed
  pub others : Others actor.thread states after (known actor woken saved)
  pub self : ThreadOk actor.thread state after (log_after commits (actor.ghost.logs actor.thread) committed.answer) (woken actor.thread)
      (saved actor.thread)
  pub monitor : MonitorOk after.word after.holder after.depth
  pub empty : after.holder ≡ 0 → after.entry ≡ []
  pub flag : FlagOk after.word after.flag after.contention
  pub unstranded : Unstranded after.word (update states actor.thread state) after.holder after.entry after.contention
  pub shows : pick commits committed.monitor (plain_at actor o) ≡ monitor_of after (known actor woken saved)
  pub ended : EndsRight operation answer (log_after commits (actor.ghost.logs actor.thread) committed.answer)

-- What is shown of a step that does not commit and changes no other thread: of the others, the thread itself, and the object after it.
pub record QuietParts (actor : Actor) (o after : ListObject) (state : ThreadState) : Type 0 where
  pub others : Others actor.thread actor.states after actor.ghost
  pub self : Self actor state after
  pub monitor : MonitorOk after.word after.holder after.depth
  pub empty : after.holder ≡ 0 → after.entry ≡ []
  pub flag : FlagOk after.word after.flag after.contention
  pub unstranded : Unstranded after.word (update actor.states actor.thread state) after.holder after.entry after.contention
  pub shows : plain_at actor o ≡ plain_at actor after

module _ (actor : Actor) where
  -- the parts of a rule, put together
  pub refine : (operation : Operation) (o : ListObject) (rule : RuleParts actor operation o)
      → Refines actor.thread operation actor.states o actor.ghost
      (record {
        states = update rule.states actor.thread rule.state;
        object = rule.after;
        answer = rule.answer;
        commits = rule.commits;
      })
  refine operation o rule =
      record {
        outside = λ t n e. update_other rule.states actor.thread rule.state t n ∙ rule.stays t e;
        committed = rule.committed;
        woken = rule.woken;
        saved = rule.saved;
        commits = rule.does;
        monitor = rule.shows;
        ended = rule.ended;
        invariant = record {
          threads = with_own actor.thread rule.states rule.after (known actor rule.woken rule.saved) rule.state _ rule.others rule.self;
          whole = record {
            nobody = update_other rule.states actor.thread rule.state 0 (λ q. actor.real (sym q)) ∙ rule.stays 0 rule.nobody;
            monitor = rule.monitor;
            empty = rule.empty;
            flag = rule.flag;
            unstranded = rule.unstranded;
          };
        };
      }

  pub quiet_refines : (operation : Operation) (o after : ListObject) (state : ThreadState) (answer : Answer) → Invariant actor.states o actor.ghost
      → EndsRight operation answer (actor.ghost.logs actor.thread) → QuietParts actor o after state
      → Refines actor.thread operation actor.states o actor.ghost
      (record { states = update actor.states actor.thread state; object = after; answer = answer; commits = false })
  quiet_refines operation o after state answer inv ended parts =
      refine operation o
      (record {
        after = after;
        states = actor.states;
        state = state;
        answer = answer;
        commits = false;
        committed = nothing_committed;
        woken = actor.ghost.woken;
        saved = actor.ghost.saved;
        nobody = inv.whole.nobody;
        stays = λ t e. e;
        does = λ k. absurd k;
        others = parts.others;
        self = parts.self;
        monitor = parts.monitor;
        empty = parts.empty;
        flag = parts.flag;
        unstranded = parts.unstranded;
        shows = parts.shows;
        ended = ended;
      })
