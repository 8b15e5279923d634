-- Phases 4, go in, of enter, exit and wait; 6, check, and 7, try, of enter.
use Prim.Native.Nat.{ℕ, suc, ◌+◌, ◌≤◌, ◌<◌}
use mathlib.Core.Path.{◌≡◌, refl, sym, ap, ◌∙◌}
use mathlib.Core.Logic.{◌≢◌}
use mathlib.Core.Bool.{true, false, true≢false}
use mathlib.Core.List.{List, [], ◌∷◌, ◌++◌}
use native.Mathlib.Omega.{arith}
use lib.Dec.{T}
use Rattle.laws.specs.Update.{update}
use Rattle.laws.proofs.Choice.{by_below, by_equal}
use Rattle.laws.proofs.Count.{count_none, count_same, count_joined}
use Rattle.chains.specs.declared.named.Chain.{Chain}
use Rattle.lock_word.specs.Depth.{depth_limit}
use Rattle.lock_rules.specs.Actions.{keep_object, inflate, become_holder, raise_flag}
use Rattle.lock_rules.specs.Rules.{onward, go_in_again, go_in, enter_check, enter_try}
use Rattle.lock_rules.specs.Operations.{Operation, Enter, Exit, Wait}
use Rattle.lock_rules.specs.declared.{Limit.Limit, OnwardStep.OnwardStep, Doing.Doing}
use Rattle.lock_rules.specs.declared.OnwardStep.TheVariants.{ToCheck, ToTell, ToInflate}
use Rattle.lock_rules.specs.declared.Doing.TheVariants.{EnterGoIn, EnterCheck, EnterTry, ExitGoIn, WaitGoIn}
use Rattle.lock_rules.specs.declared.ThreadState.TheVariants.{Idle, Running, Queued, Contending}
use Rattle.lock_word.specs.declared.meaning.WordSeen.{WordSeen}
use Rattle.lock_word.specs.declared.meaning.WordSeen.TheVariants.{Free, Anonymous, Fat, Flat, Reserved}
use Rattle.lock_rules.specs.declared.ChainWork.TheVariants.{Join}
use Rattle.lock_rules.specs.declared.Answer.TheVariants.{GoneOn, Finished, Parked, TooDeep}
use Rattle.lock_rules.specs.PlainMonitor.{owned_by, finished, commit}
use Rattle.lock_rules.proofs.{Each.each_word, Reliances.flat_thin, Tables.fresh}
use Rattle.lock_rules.proofs.Commits.{commit_enter, commit_enter_again, commit_too_deep}
use Rattle.lock_rules.proofs.Objects.{ListObject, with_word, with_flag, with_holder, with_entry, sight_of, object_owner}
use Rattle.lock_rules.proofs.Perform.{enter_queue, count_join}
use Rattle.lock_rules.proofs.Invariant.{holding, nothing_saved, phase_row, leaving?, InChains, Unreserved, FlatOf, NotOwn, Thin, ReliesOn, Relies}
use Rattle.lock_rules.proofs.Invariant.{Logged, woken?, SavedIs, FlagOk, Invariant}
use Rattle.lock_rules.proofs.OtherThreads.{others_flag, others_taken, others_joined}
use Rattle.lock_rules.proofs.SharedFacts.{unstranded_moved, unstranded_held, unstranded_joined, unheld, monitor_handed}
use Rattle.lock_rules.proofs.SharedFacts.{thin_shallow, owner_shallow, fat_owner, fat_unowned, first_commit, same_monitor}
use Rattle.lock_rules.proofs.Refinement.{limit_of, plain_at, Actor, Self, Stepping, Right, nothing_committed, quiet_refines}
use Rattle.lock_rules.proofs.RuleShapes.{ended_self, end_refines, depth_refines, hand_refines, inflate_refines}

module _ (actor : Actor) where
  -- nobody holds the monitor: the thread becomes its holder
  take_refines : (operation : Operation) (o : ListObject) (next : Doing)
      → Invariant actor.states o actor.ghost → o.holder ≡ 0 → (T (leaving? (phase_row next).seat) → ⊥)
      → (o.depth ≡ 0 → Self actor (Running next) (with_holder o actor.thread))
      → Right actor operation o (become_holder actor.thread (sight_of o) next)
  take_refines operation o next inv q stays self =
      let u : o.depth ≡ 0 = unheld o.word o.holder o.depth inv.whole.monitor q in
      let same_owner : object_owner o ≡ object_owner (with_holder o actor.thread) = rw u (owner_shallow o.word o.holder actor.thread) in
      quiet_refines actor operation o (with_holder o actor.thread) (Running next) GoneOn inv tt
      (record {
        others = others_taken actor.thread actor.states o actor.ghost q (λ t n. inv.threads t);
        self = self u;
        monitor = rw u (monitor_handed o.word o.holder actor.thread o.depth inv.whole.monitor);
        empty = λ x. absurd (actor.real x);
        flag = inv.whole.flag;
        unstranded = unstranded_held o.word actor.states actor.thread (Running next) o.entry o.contention actor.real stays;
        shows = same_monitor same_owner refl;
      })

  -- another holds it: the thread joins the entry chain
  join_refines : (operation : Operation) (o : ListObject) (carried : OnwardStep) → Invariant actor.states o actor.ghost → o.holder ≢ 0
      → Self actor (Queued carried) (with_entry o (enter_queue o.rank o.entry actor.thread))
      → Right actor operation o (keep_object (sight_of o) (Join Chain.Entry) (Queued carried) Parked false)
  join_refines operation o carried inv q self =
      quiet_refines actor operation o (with_entry o (enter_queue o.rank o.entry actor.thread)) (Queued carried) Parked inv tt
      (record {
        others = others_joined actor.thread actor.states
            o actor.ghost Chain.Entry (λ t n. inv.threads t);
        self = self;
        monitor = inv.whole.monitor;
        empty = λ x. absurd (q x);
        flag = inv.whole.flag;
        unstranded = unstranded_joined o.word (update actor.states actor.thread (Queued carried)) actor.thread o.holder o.rank o.entry
            o.contention q;
        shows = refl;
      })

  joined : (rank : ℕ → ℕ) {entry contention waiting : List ℕ} → InChains 0 0 0 actor.thread entry contention waiting
      → InChains 1 0 0 actor.thread (enter_queue rank entry actor.thread) contention waiting
  joined rank {entry} a =
      record {
        entry = omega (arith, count_join Chain.Entry actor.thread actor.thread rank entry, count_same actor.thread [], count_none actor.thread, a.entry);
        contention = a.contention;
        waiting = a.waiting;
      }

  -- 4 go in, whatever is carried: only the case that the thread is the holder already is left
  go_in_refines : (o : ListObject) (doing : Doing) (carried : OnwardStep)
      → Stepping actor doing o → (phase_row (onward carried)).seat ≡ holding → (phase_row (onward carried)).saved ≡ nothing_saved
      → (phase_row doing).saved ≡ nothing_saved → (phase_row (onward carried)).operation ≡ (phase_row doing).operation
      → (phase_row (onward carried)).stage ≡ (phase_row doing).stage → (phase_row (onward carried)).limit ≡ (phase_row doing).limit
      → (o.holder ≡ 0 → ReliesOn (phase_row (onward carried)).reliance actor.thread o.word o.flag actor.thread)
      → (o.holder ≢ 0 → Relies (Queued carried) actor.thread o.word o.flag o.holder)
      → (o.holder ≡ actor.thread → Right actor (phase_row doing).operation o (go_in_again (sight_of o) carried))
      → Right actor (phase_row doing).operation o (go_in actor.thread (sight_of o) carried)
  unfolding go_in
  go_in_refines o doing carried step seated saves_not saved_not operation stage limit relies queued again =
      by_equal (Right actor (phase_row doing).operation o) o.holder 0 free
      (λ e. by_equal (Right actor (phase_row doing).operation o) o.holder actor.thread again
      (λ q. join_refines (phase_row doing).operation o carried step.inv e
      (record { seated = (q, actor.real); placed = joined o.rank step.self.placed; relies = queued e; logged = logged; saved = saved; woken = woken })))
    where
      woken : actor.ghost.woken actor.thread ≡ woken? (phase_row (onward carried)).saved
      woken = rw saves_not (rw saved_not at step.self.woken)

      saved : SavedIs (phase_row (onward carried)).saved (actor.ghost.saved actor.thread)
      saved = rw saves_not tt

      logged : Logged (Running (onward carried)) (actor.ghost.logs actor.thread)
      logged = rw (operation, stage, limit) step.self.logged

      free : o.holder ≡ 0 → Right actor (phase_row doing).operation o (become_holder actor.thread (sight_of o) (onward carried))
      free e =
          take_refines (phase_row doing).operation o (onward carried) step.inv e (rw seated (λ k. k))
          (λ u. record {
            seated = rw seated (refl, u, actor.real);
            placed = step.self.placed;
            relies = relies e;
            logged = logged;
            saved = saved;
            woken = woken;
          })

  enter_again_refines : (it : ListObject) (word : WordSeen) → let o = with_word it word in
      Stepping actor EnterGoIn o → it.holder ≡ actor.thread → Right actor Enter o (go_in_again (sight_of o) ToCheck)
  unfolding go_in_again
  enter_again_refines it Free step q = absurd (omega (arith, step.self.seated q actor.real, step.inv.whole.monitor))
  enter_again_refines it Anonymous step q = absurd (omega (arith, step.self.seated q actor.real, step.inv.whole.monitor))
  enter_again_refines it (Flat owner c) step q = absurd (omega (arith, step.self.seated q actor.real, step.inv.whole.monitor.0))
  enter_again_refines it (Reserved owner c) step q = absurd (omega (arith, step.self.seated q actor.real, step.inv.whole.monitor.0))
  enter_again_refines it Fat step q =
      let o = with_word it Fat in
      let above = step.self.seated q actor.real in
      by_equal (Right actor Enter o) it.depth 0 (λ e. absurd (omega (arith, above, e)))
      (λ e. by_below (Right actor Enter o) it.depth depth_limit
      (λ l. depth_refines actor Enter it (it.depth + 1) 0 step q
      (record {
        woken = actor.ghost.woken;
        does = commit_enter_again (limit_of actor) actor.thread (plain_at actor o) actor.real (fat_owner it.holder it.depth above ∙ q) l;
        others = λ t n. refl;
        asleep = step.self.woken;
        above = omega arith;
        limit = omega (arith, l);
        ended = (
          first_commit step.self.logged.1,
          refl,
        );
      }))
      (λ l. end_refines actor Enter o EnterGoIn TooDeep step (λ k. k) step.self.seated step.self.woken
      (commit_too_deep (limit_of actor) actor.thread (plain_at actor o) actor.real (fat_owner it.holder it.depth above ∙ q) l)
      (first_commit step.self.logged.1, refl)))

  pub enter_go_in_refines : (o : ListObject) → Stepping actor EnterGoIn o → Right actor Enter o (go_in actor.thread (sight_of o) ToCheck)
  enter_go_in_refines o step =
      go_in_refines o EnterGoIn ToCheck step refl refl refl refl refl refl (λ e. step.self.relies) (λ e. step.self.relies) (enter_again_refines o o.word step)

  -- an exit in 4 is not the holder, and a wait in 4 would be the owner at a depth above 0 of a flat word
  pub exit_goes_in_refines : (o : ListObject) → Stepping actor ExitGoIn o → Thin o.word → Right actor Exit o (go_in actor.thread (sight_of o) ToTell)
  exit_goes_in_refines o step thin =
      go_in_refines o ExitGoIn ToTell step refl refl refl refl refl refl (λ e. step.self.relies) (λ e. thin) (λ q. absurd (step.self.seated.0 q))

  pub wait_go_in_refines : (o : ListObject) (limit : Limit) → Stepping actor (WaitGoIn limit) o
      → Right actor Wait o (go_in actor.thread (sight_of o) (ToInflate limit))
  wait_go_in_refines o limit step =
      go_in_refines o (WaitGoIn limit) (ToInflate limit) step refl refl refl refl refl refl (λ e. step.self.relies) (λ e. step.self.relies)
      (λ q. absurd (omega (
        arith,
        step.self.seated q actor.real,
        thin_shallow o.holder o.depth o.word (flat_thin actor.thread o.word step.self.relies) step.inv.whole.monitor,
      )))

  -- the flag goes up, and the thread goes on to try
  raise_flag_refines : (o : ListObject) → Stepping actor EnterCheck o → NotOwn actor.thread o.word → Right actor Enter o (raise_flag (sight_of o))
  raise_flag_refines o step foreign =
      let a = step.self in
      quiet_refines actor Enter o (with_flag o true) (Running EnterTry) GoneOn step.inv tt
      (record {
        others = others_flag actor.thread actor.states o actor.ghost (λ t n. step.inv.threads t);
        self = record {
          seated = a.seated;
          placed = a.placed;
          relies = (foreign, a.seated.0, a.seated.2, refl);
          logged = a.logged;
          saved = tt;
          woken = a.woken;
        };
        monitor = step.inv.whole.monitor;
        empty = step.inv.whole.empty;
        flag = up o.word foreign;
        unstranded = unstranded_moved o.word actor.states actor.thread (Running EnterCheck)
            (Running EnterTry) o.holder o.entry o.contention step.running (λ k. k) (λ k. absurd k) step.inv.whole.unstranded;
        shows = refl;
      })
    where
      up : (word : WordSeen) → NotOwn actor.thread word → FlagOk word true o.contention
      up = each_word _ (λ x e. absurd (true≢false e), λ x. absurd x, λ x. absurd x, λ owner c x e. absurd (true≢false e), λ owner c x. absurd x)

  -- an enter ends by inflating
  enter_inflates : (o : ListObject) (new : ℕ) (doing : Doing)
      → Stepping actor doing o → o.holder ≡ actor.thread → ((t : ℕ) → t ≢ actor.thread → FlatOf t o.word → ⊥) → Unreserved o.word → 0 < new
      → new ≤ depth_limit → (actor.ghost.logs actor.thread).commits ≡ 0 → actor.ghost.woken actor.thread ≡ false
      → commit Enter (limit_of actor) actor.thread (plain_at actor o) ≡ finished (owned_by (plain_at actor o) actor.thread new)
      → Right actor Enter o (inflate (sight_of o) new Idle (Finished 0) true)
  enter_inflates o new doing step q foreign thin above limit fresh asleep does =
      inflate_refines actor Enter o new step q
      (record {
        state = Idle;
        answer = Finished 0;
        commits = true;
        committed = finished (owned_by (plain_at actor o) actor.thread new);
        foreign = foreign;
        open_word = thin;
        above = above;
        limit = limit;
        does = λ k. does;
        self = λ placed. ended_self actor (λ x z. above) placed asleep;
        shows = refl;
        ended = (first_commit fresh, refl);
      })

  pub enter_check_refines : (it : ListObject) (word : WordSeen) → let o = with_word it word in
      Stepping actor EnterCheck o → Right actor Enter o (enter_check actor.thread (sight_of o) word)
  unfolding enter_check
  enter_check_refines it Free step = raise_flag_refines (with_word it Free) step tt
  enter_check_refines it Anonymous step = absurd step.self.relies
  enter_check_refines it Fat step =
      by_equal (Right actor Enter (with_word it Fat)) it.depth 0
      (λ e. depth_refines actor Enter it 1 0 step step.self.seated.0
      (record {
        woken = actor.ghost.woken;
        does = commit_enter (limit_of actor) actor.thread (plain_at actor (with_word it Fat)) (fat_unowned it.holder it.depth e);
        others = λ t n. refl;
        asleep = step.self.woken;
        above = omega arith;
        limit = omega arith;
        ended = (first_commit step.self.logged.1, refl);
      }))
      (λ e. absurd (e step.self.seated.1))
  enter_check_refines it (Flat owner c) step =
      by_equal (Right actor Enter (with_word it (Flat owner c))) owner actor.thread
      (λ q. let m = plain_at actor (with_word it (Flat owner c)) in
      let same : c + 1 + 1 ≡ c + 2 = omega arith in
      enter_inflates (with_word it (Flat owner c)) (c + 2) EnterCheck step step.self.seated.0 (λ t n o. n (sym o ∙ q)) tt (omega arith)
      (omega (arith, step.inv.whole.monitor.2)) step.self.logged.1 step.self.woken
      (commit_enter_again (limit_of actor) actor.thread m actor.real q (omega (arith, step.inv.whole.monitor.2)) ∙ ap
      (λ (n : ℕ). finished (owned_by m actor.thread n)) same)) (λ q. raise_flag_refines (with_word it (Flat owner c)) step q)
  enter_check_refines it (Reserved owner c) step = absurd step.self.relies

  pub enter_try_refines : (it : ListObject) (word : WordSeen) → let o = with_word it word in
      Stepping actor EnterTry o → Right actor Enter o (enter_try actor.thread (sight_of o) word)
  unfolding enter_try
  enter_try_refines it Free step =
      enter_inflates (with_word it Free) 1 EnterTry step step.self.seated.0 (λ t n o. o) tt (omega arith) (omega arith) step.self.logged.1
      step.self.woken (commit_enter (limit_of actor) actor.thread (plain_at actor (with_word it Free)) refl)
  enter_try_refines it Anonymous step = absurd step.self.relies.0
  enter_try_refines it Fat step = absurd step.self.relies.0
  enter_try_refines it (Flat owner c) step =
      by_equal (Right actor Enter (with_word it (Flat owner c))) owner actor.thread (λ q. absurd (step.self.relies.0 q))
      (λ q. let o = with_word it (Flat owner c) in
      hand_refines actor Enter o EnterTry step step.self.seated.0
      (record {
        contenders = it.contention ++ (actor.thread ∷ []);
        waiters = it.waiting;
        state = Contending;
        answer = Parked;
        commits = false;
        committed = nothing_committed;
        saved = actor.ghost.saved;
        does = λ k. absurd k;
        others = others_joined actor.thread actor.states o actor.ghost Chain.Contention (λ t n. step.inv.threads t);
        self = λ next rest seated gone. record {
          seated = (λ x. omega (arith, seated x actor.real), actor.real);
          placed = record {
            entry = gone;
            contention = count_joined actor.thread it.contention ∙ ap suc step.self.placed.contention;
            waiting = step.self.placed.waiting;
          };
          relies = q;
          logged = step.self.logged;
          saved = tt;
          woken = step.self.woken;
        };
        flag = λ x. absurd (true≢false (sym step.self.relies.3 ∙ x));
        unstranded = tt;
        shows = λ next rest. refl;
        ended = tt;
      }))
  enter_try_refines it (Reserved owner c) step = absurd step.self.relies.0
