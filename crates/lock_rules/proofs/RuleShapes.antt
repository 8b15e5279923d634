-- The shapes that rules have, each shown once: moving on, ending, another word, another depth, handing over, inflating.
use Prim.Native.Nat.{ℕ, ◌≤◌, ◌<◌}
use mathlib.Core.Path.{◌≡◌, refl, sym, ap, ◌∙◌}
use mathlib.Core.Logic.{◌≢◌}
use mathlib.Core.Bool.{Bool, true, false}
use mathlib.Core.List.{List, [], ◌∷◌}
use native.Mathlib.Omega.{arith}
use lib.Dec.{T}
use Rattle.laws.specs.{Choice.pick, Update.update, Count.count}
use Rattle.laws.proofs.{Choice.by_equal, Count.count_none, Filter.count_parted}
use Rattle.chains.specs.declared.named.Chain.{Chain}
use Rattle.lock_word.specs.Depth.{depth_limit}
use Rattle.lock_rules.specs.Actions.{keep_object, go_on, finish_word, finish_depth, inflate}
use Rattle.lock_rules.specs.Rules.{owner_seen, owner_only}
use Rattle.lock_rules.proofs.Changes.{seen_after, handed, moved, is_queued_exit, let_out_state}
use Rattle.lock_rules.specs.Operations.{Operation}
use Rattle.lock_rules.specs.declared.{Suspension.Suspension, Doing.Doing, ThreadState.ThreadState, WordChange.WordChange, Answer.Answer}
use Rattle.std.specs.Prelude.{Option}
use Rattle.lock_rules.specs.declared.Effect.{Effect}
use Rattle.lock_rules.specs.declared.ThreadState.TheVariants.{Idle, Running}
use Rattle.lock_word.specs.declared.meaning.WordSeen.TheVariants.{Fat}
use Rattle.lock_rules.specs.declared.Taken.TheVariants.{First, All}
use Rattle.lock_rules.specs.declared.ChainWork.TheVariants.{Stay}
use Rattle.lock_rules.specs.declared.Answer.TheVariants.{GoneOn, Finished, NotOwner}
use Rattle.lock_rules.specs.PlainMonitor.{PlainMonitor, Committed, unaltered, finished, commit}
use Rattle.lock_rules.specs.Feed.{OperationLog, log_after, EndsRight}
use Rattle.lock_rules.proofs.Commits.{commit_not_owner, owner_operation}
use Rattle.lock_rules.proofs.Objects.{with_word, with_depth, with_contention, with_waiting, ListObject, sight_of, object_owner}
use Rattle.lock_rules.proofs.Perform.{first_of, taken, left, enter_queue_all, count_entered_all, handed_to, handed_object, handed_states, let_out_states}
use Rattle.lock_rules.proofs.{Perform.moved_states, Tables.fresh, Reliances.KeepsReliance, Membership.not_first}
use Rattle.lock_rules.proofs.Invariant.{Ghost, outside, nothing_saved, phase_row, telling?, leaving?, Seated, InChains, Unreserved, FlatOf}
use Rattle.lock_rules.proofs.Invariant.{ReliesOn, ThreadOk, MonitorOk, FlagOk, Unstranded, Invariant, monitor_of, Refines}
use Rattle.lock_rules.proofs.OtherThreads.{Others, inflated, others_word, others_depth, others_ghost, others_handed, others_inflated}
use Rattle.lock_rules.proofs.SharedFacts.{unstranded_moved, monitor_handed, fat_owner, first_commit, idle_changed}
use Rattle.lock_rules.proofs.SharedFacts.{first_queued, same_monitor}
use Rattle.lock_rules.proofs.Refinement.{known, Actor, limit_of, Self, Stepping, plain_at, Right, Alike, sits_alike, refine, quiet_refines}

-- the plain monitor, owned by the thread
abbrev pub owned : Actor → ListObject → ℕ → (ℕ → Bool) → PlainMonitor
owned actor o depth woken = record { owner = actor.thread; depth = depth; waiting = o.waiting; woken = woken; saved = actor.ghost.saved }

-- what is shown of a rule that changes the word and ends the operation
pub record WordParts (actor : Actor) (operation : Operation) (o : ListObject) (change : WordChange) : Type 0 where
  pub keeps : (t : ℕ) → t ≢ actor.thread → KeepsReliance (actor.states t) t o.word (seen_after actor.thread change o.word) o.holder
  pub does : commit operation (limit_of actor) actor.thread (plain_at actor o) ≡ finished (plain_at actor (with_word o (seen_after actor.thread change o.word)))
  pub monitor : MonitorOk (seen_after actor.thread change o.word) o.holder o.depth
  pub flag : FlagOk (seen_after actor.thread change o.word) o.flag o.contention
  pub unstranded : Unstranded (seen_after actor.thread change o.word) (update actor.states actor.thread Idle) o.holder o.entry o.contention
  pub ended : EndsRight operation (Finished 0) (log_after true (actor.ghost.logs actor.thread) (Finished 0))

-- what is shown of a rule that changes the depth and ends the operation; a wait that resumes is no longer woken
pub record DepthParts (actor : Actor) (operation : Operation) (o : ListObject) (new number : ℕ) : Type 0 where
  pub woken : ℕ → Bool
  pub does : commit operation (limit_of actor) actor.thread (plain_at actor o) ≡ record { monitor = owned actor o new woken; answer = Finished number }
  pub others : (t : ℕ) → t ≢ actor.thread → woken t ≡ actor.ghost.woken t
  pub asleep : woken actor.thread ≡ false
  pub above : 0 < new
  pub limit : new ≤ depth_limit
  pub ended : EndsRight operation (Finished number) (log_after true (actor.ghost.logs actor.thread) (Finished number))

-- what is shown of a rule that inflates: the word is no other thread's and not reserved
pub record InflateParts (actor : Actor) (operation : Operation) (o : ListObject) (new : ℕ) : Type 0 where
  pub state : ThreadState
  pub answer : Answer
  pub commits : Bool
  pub committed : Committed
  pub foreign : (t : ℕ) → t ≢ actor.thread → FlatOf t o.word → ⊥
  pub open_word : Unreserved o.word
  pub above : 0 < new
  pub limit : new ≤ depth_limit
  pub does : T commits → commit operation (limit_of actor) actor.thread (plain_at actor o) ≡ committed
  pub self : InChains 0 0 0 actor.thread (inflated actor.states o new).entry [] o.waiting
      → ThreadOk actor.thread state (inflated actor.states o new) (log_after commits (actor.ghost.logs actor.thread) committed.answer)
      (actor.ghost.woken actor.thread) (actor.ghost.saved actor.thread)
  pub shows : pick commits committed.monitor (plain_at actor o) ≡ owned actor o new actor.ghost.woken
  pub ended : EndsRight operation answer (log_after commits (actor.ghost.logs actor.thread) committed.answer)

-- the object with other contention and waiting chains
abbrev pub with_chains : ListObject → List ℕ → List ℕ → ListObject
with_chains o contention waiting = with_waiting (with_contention o contention) waiting

-- What a rule that hands the monitor over does: the contention and waiting chains by then, the thread's state, the answer, and what the plain monitor does.
-- `next` and `rest` are the next holder and its followers, whoever they are.
pub record HandParts (actor : Actor) (operation : Operation) (o : ListObject) : Type 0 where
  pub contenders : List ℕ
  pub waiters : List ℕ
  pub state : ThreadState
  pub answer : Answer
  pub commits : Bool
  pub committed : Committed
  pub saved : ℕ → Suspension
  pub does : T commits → commit operation (limit_of actor) actor.thread (plain_at actor o) ≡ committed
  pub others : Others actor.thread actor.states (with_chains o contenders waiters) (known actor actor.ghost.woken saved)
  pub self : (next : ℕ) (rest : List ℕ) → Seated outside actor.thread next 0 → count actor.thread rest ≡ 0
      → ThreadOk actor.thread state (with_chains (handed_to o next rest) contenders waiters)
      (log_after commits (actor.ghost.logs actor.thread) committed.answer) (actor.ghost.woken actor.thread) (saved actor.thread)
  pub flag : FlagOk o.word o.flag contenders
  pub unstranded : Unstranded o.word (update (handed_states actor.states o) actor.thread state) (first_of o.entry) (left First o.entry)
      contenders
  pub shows : (next : ℕ) (rest : List ℕ) → pick commits committed.monitor (plain_at actor o)
      ≡ monitor_of (with_chains (handed_to o next rest) contenders waiters) (known actor actor.ghost.woken saved)
  pub ended : EndsRight operation answer (log_after commits (actor.ghost.logs actor.thread) committed.answer)

module _ (actor : Actor) where
  -- to another phase, and nothing else
  pub move_refines : (operation : Operation) (o : ListObject) (doing next : Doing) → Stepping actor doing o
      → (T (telling? (phase_row doing).seat) → T (telling? (phase_row next).seat)) → (T (leaving? (phase_row next).seat) → ⊥)
      → Self actor (Running next) o → Right actor operation o (go_on (sight_of o) next)
  move_refines operation o doing next step keep stays a =
      let inv = step.inv in
      quiet_refines actor operation o o (Running next) GoneOn inv tt
      (record {
        others = λ t n. inv.threads t;
        self = a;
        monitor = inv.whole.monitor;
        empty = inv.whole.empty;
        flag = inv.whole.flag;
        unstranded = unstranded_moved o.word actor.states actor.thread (Running doing) (Running next) o.holder o.entry o.contention
            step.running keep (λ k. absurd (stays k)) inv.whole.unstranded;
        shows = refl;
      })

  -- to a phase that sits alike
  pub go_on_refines : (o : ListObject) (doing next : Doing) → Stepping actor doing o → Alike doing next → (T (leaving? (phase_row next).seat) → ⊥)
      → ReliesOn (phase_row next).reliance actor.thread o.word o.flag o.holder
      → Right actor (phase_row doing).operation o (go_on (sight_of o) next)
  go_on_refines o doing next step alike stays relies =
      move_refines (phase_row doing).operation o doing next step (rw alike.0 (λ k. k)) stays (sits_alike actor step.self next alike relies)

  -- the thread, after its operation has ended
  pub ended_self : {o : ListObject} {log : OperationLog} {woken : Bool} {suspension : Suspension} → Seated outside actor.thread o.holder o.depth
      → InChains 0 0 0 actor.thread o.entry o.contention o.waiting → woken ≡ false → ThreadOk actor.thread Idle o log woken suspension
  ended_self seated placed asleep = record { seated = seated; placed = placed; relies = tt; logged = tt; saved = tt; woken = asleep }

  -- an operation ends with the object as it is
  pub end_refines : (operation : Operation) (o : ListObject) (doing : Doing) (answer : Answer) → Stepping actor doing o
      → (T (telling? (phase_row doing).seat) → ⊥)
      → Seated outside actor.thread o.holder o.depth → actor.ghost.woken actor.thread ≡ false
      → commit operation (limit_of actor) actor.thread (plain_at actor o) ≡ unaltered (plain_at actor o) answer
      → EndsRight operation answer (log_after true (actor.ghost.logs actor.thread) answer)
      → Right actor operation o (keep_object (sight_of o) Stay Idle answer true)
  end_refines operation o doing answer step quiet seated asleep does ended =
      let inv = step.inv in
      refine actor operation o
      (record {
        after = o;
        states = actor.states;
        state = Idle;
        answer = answer;
        commits = true;
        committed = unaltered (plain_at actor o) answer;
        woken = actor.ghost.woken;
        saved = actor.ghost.saved;
        nobody = inv.whole.nobody;
        stays = λ t e. e;
        does = λ k. does;
        others = λ t n. inv.threads t;
        self = ended_self seated step.self.placed asleep;
        monitor = inv.whole.monitor;
        empty = inv.whole.empty;
        flag = inv.whole.flag;
        unstranded = unstranded_moved o.word actor.states actor.thread (Running doing) Idle o.holder o.entry
            o.contention step.running (λ k. quiet k) (λ k. absurd k) inv.whole.unstranded;
        shows = refl;
        ended = ended;
      })

  -- exit, wait or notify: 18, unless the thread is the owner
  pub owner_only_refines : (operation : Operation) (o : ListObject) (doing : Doing) (action : Option Effect) → T (owner_operation operation) → Stepping actor doing o
      → (T (telling? (phase_row doing).seat) → ⊥) → Seated outside actor.thread o.holder o.depth → actor.ghost.woken actor.thread ≡ false
      → (actor.ghost.logs actor.thread).commits ≡ 0 → (object_owner o ≡ actor.thread → Right actor operation o action)
      → Right actor operation o (owner_only actor.thread (sight_of o) (owner_seen (sight_of o)) action)
  owner_only_refines operation o doing action only step quiet seated asleep fresh owner =
      by_equal (Right actor operation o) (object_owner o) actor.thread owner
      (λ other. end_refines operation o doing NotOwner step quiet seated asleep (commit_not_owner (limit_of actor) actor.thread (plain_at actor o) operation only asleep
      other)
      (first_commit fresh, refl))

  -- the word changes, and the operation ends
  pub word_refines : (operation : Operation) (o : ListObject) (change : WordChange) {doing : Doing} → Stepping actor doing o
      → (phase_row doing).seat ≡ outside → (phase_row doing).saved ≡ nothing_saved → WordParts actor operation o change
      → Right actor operation o (finish_word (sight_of o) change)
  word_refines operation o change step out saves_not parts =
      refine actor operation o
      (record {
        after = with_word o (seen_after actor.thread change o.word);
        states = actor.states;
        state = Idle;
        answer = Finished 0;
        commits = true;
        committed = finished (plain_at actor (with_word o (seen_after actor.thread change o.word)));
        woken = actor.ghost.woken;
        saved = actor.ghost.saved;
        nobody = step.inv.whole.nobody;
        stays = λ t e. e;
        does = λ k. parts.does;
        others = others_word actor.thread actor.states o actor.ghost (seen_after actor.thread change o.word) parts.keeps
            (λ t n. step.inv.threads t);
        self = ended_self (rw out at step.self.seated) step.self.placed (rw saves_not at step.self.woken);
        monitor = parts.monitor;
        empty = step.inv.whole.empty;
        flag = parts.flag;
        unstranded = parts.unstranded;
        shows = refl;
        ended = parts.ended;
      })

  -- the holder's depth changes to one above 0, and the operation ends
  pub depth_refines : (operation : Operation) (it : ListObject) (new number : ℕ) {doing : Doing} → let o = with_word it Fat in
      Stepping actor doing o → it.holder ≡ actor.thread → DepthParts actor operation o new number
      → Right actor operation o (finish_depth (sight_of o) new number)
  depth_refines operation it new number step q parts =
      let o = with_word it Fat in
      refine actor operation o
      (record {
        after = with_depth o new;
        states = actor.states;
        state = Idle;
        answer = Finished number;
        commits = true;
        committed = record { monitor = owned actor o new parts.woken; answer = Finished number };
        woken = parts.woken;
        saved = actor.ghost.saved;
        nobody = step.inv.whole.nobody;
        stays = λ t e. e;
        does = λ k. parts.does;
        others = others_ghost actor.thread actor.states (with_depth o new) actor.ghost parts.woken actor.ghost.saved parts.others
            (λ t n. refl)
            (others_depth actor.thread actor.states o actor.ghost new q (λ t n. step.inv.threads t));
        self = ended_self (λ e z. parts.above) step.self.placed parts.asleep;
        monitor = (parts.limit, λ k x. actor.real (sym q ∙ x));
        empty = step.inv.whole.empty;
        flag = step.inv.whole.flag;
        unstranded = tt;
        shows = same_monitor (sym (fat_owner it.holder new parts.above ∙ q)) refl;
        ended = parts.ended;
      })

  -- a thread that is not in the entry chain is not the next holder
  handed_self : (queue : List ℕ) → count actor.thread queue ≡ 0
      → Seated outside actor.thread (first_of queue) 0 × (count actor.thread (left First queue) ≡ 0)
  handed_self [] out = (λ x n. absurd (n (sym x)), out)
  handed_self (first ∷ rest) out = let (n, gone) = not_first actor.thread first rest out in (λ x p. absurd (n (sym x)), gone)

  -- the next holder is no thread 0
  next_real : (states : ℕ → ThreadState) (o : ListObject) (ghost : Ghost) → Invariant states o ghost → (queue : List ℕ) → o.entry ≡ queue → first_of queue ≡ 0
      → left First queue ≡ []
  next_real states o ghost inv [] e zeroth = refl
  next_real states o ghost inv (first ∷ rest) e zeroth = absurd ((first_queued states o ghost inv first rest e).0 zeroth)

  -- the holder leaves the monitor
  pub hand_refines : (operation : Operation) (o : ListObject) (doing : Doing)
      → Stepping actor doing o → o.holder ≡ actor.thread → (hand : HandParts actor operation o)
      → Refines actor.thread operation actor.states o actor.ghost
      (record {
        states = update (handed_states actor.states o) actor.thread hand.state;
        object = handed_object (with_chains o hand.contenders hand.waiters);
        answer = hand.answer;
        commits = hand.commits;
      })
  hand_refines operation o doing step q hand =
      let (seated, gone) = handed_self o.entry step.self.placed.entry in
      refine actor operation o
      (record {
        after = handed_object (with_chains o hand.contenders hand.waiters);
        states = handed_states actor.states o;
        state = hand.state;
        answer = hand.answer;
        commits = hand.commits;
        committed = hand.committed;
        woken = actor.ghost.woken;
        saved = hand.saved;
        nobody = step.inv.whole.nobody;
        stays = idle_changed handed refl actor.states (taken First o.entry);
        does = hand.does;
        others = others_handed actor.thread actor.states (with_chains o hand.contenders hand.waiters)
            (known actor actor.ghost.woken hand.saved) q step.inv.whole.nobody hand.others;
        self = hand.self (first_of o.entry) (left First o.entry) seated gone;
        monitor = monitor_handed o.word o.holder (first_of o.entry) o.depth step.inv.whole.monitor;
        empty = next_real actor.states o actor.ghost step.inv o.entry refl;
        flag = hand.flag;
        unstranded = hand.unstranded;
        shows = hand.shows (first_of o.entry) (left First o.entry);
        ended = hand.ended;
      })

  -- the holder at depth 0 inflates a word that is its own or nobody's, to a depth above 0
  pub inflate_refines : (operation : Operation) (o : ListObject) (new : ℕ) {doing : Doing}
      → Stepping actor doing o → o.holder ≡ actor.thread → (parts : InflateParts actor operation o new)
      → Right actor operation o (inflate (sight_of o) new parts.state parts.answer parts.commits)
  inflate_refines operation o new step q parts =
      let moves = moved_states Chain.Contention All actor.states o in
      refine actor operation o
      (record {
        after = inflated actor.states o new;
        states = let_out_states moves;
        state = parts.state;
        answer = parts.answer;
        commits = parts.commits;
        committed = parts.committed;
        woken = actor.ghost.woken;
        saved = actor.ghost.saved;
        nobody = step.inv.whole.nobody;
        stays = λ t e. ap let_out_state (idle_changed moved refl actor.states o.contention t e);
        does = parts.does;
        others = others_inflated actor.thread actor.states o actor.ghost new q parts.foreign parts.open_word (λ t n. step.inv.threads t);
        self = parts.self
            (record {
              entry = omega (
                arith,
                count_parted (λ t. is_queued_exit (moves t)) (enter_queue_all o.rank o.entry o.contention) actor.thread,
                count_entered_all actor.thread o.rank o.entry o.contention,
                step.self.placed.entry,
                step.self.placed.contention,
              );
              contention = count_none actor.thread;
              waiting = step.self.placed.waiting;
            });
        monitor = (parts.limit, λ x e. actor.real (sym q ∙ e));
        empty = λ e. absurd (actor.real (sym q ∙ e));
        flag = (refl, refl);
        unstranded = tt;
        shows = parts.shows ∙ same_monitor (sym (fat_owner o.holder new parts.above ∙ q)) refl;
        ended = parts.ended;
      })
