-- Phases 12, inflate, 13, wait, and 15, resume, of wait.
use Prim.Native.Nat.{suc, ◌+◌}
use mathlib.Core.Path.{refl, sym, ap, ◌∙◌}
use mathlib.Core.Bool.{true, false}
use mathlib.Core.List.{[], ◌∷◌, ◌++◌}
use native.Mathlib.Omega.{arith}
use Rattle.laws.specs.Update.{update}
use Rattle.laws.proofs.{Choice.by_equal, Count.count_joined}
use Rattle.laws.proofs.Update.{update_same, update_other}
use Rattle.chains.specs.declared.named.Chain.{Chain}
use Rattle.lock_rules.specs.Rules.{wait_inflate, wait_give_up, wait_resume}
use Rattle.lock_rules.specs.Operations.{Wait}
use Rattle.lock_rules.specs.Limits.{run_out}
use Rattle.lock_rules.specs.declared.{Limit.Limit, Suspension.Suspension}
use Rattle.lock_rules.specs.declared.Doing.TheVariants.{WaitInflate, WaitGiveUp, WaitResume}
use Rattle.lock_rules.specs.declared.ThreadState.TheVariants.{Running, Waiting}
use Rattle.lock_word.specs.declared.meaning.WordSeen.{WordSeen}
use Rattle.lock_word.specs.declared.meaning.WordSeen.TheVariants.{Free, Anonymous, Fat, Flat, Reserved}
use Rattle.lock_rules.specs.declared.Answer.TheVariants.{GoneOn, Finished, Parked}
use Rattle.lock_rules.specs.PlainMonitor.{give_up}
use Rattle.lock_rules.proofs.Commits.{commit_give_up, commit_resume}
use Rattle.lock_rules.proofs.Objects.{ListObject, with_word, with_waiting, sight_of}
use Rattle.lock_rules.proofs.OtherThreads.{others_joined, others_ghost}
use Rattle.lock_rules.proofs.SharedFacts.{fat_owner, fat_unowned, first_commit, second_commit, same_monitor}
use Rattle.lock_rules.proofs.Refinement.{limit_of, plain_at, Actor, Stepping, Right, nothing_committed}
use Rattle.lock_rules.proofs.RuleShapes.{owned, depth_refines, hand_refines, inflate_refines}

module _ (actor : Actor) where
  pub wait_inflate_refines : (it : ListObject) (word : WordSeen) (limit : Limit) → let o = with_word it word in
      Stepping actor (WaitInflate limit) o → Right actor Wait o (wait_inflate actor.thread (sight_of o) limit word)
  unfolding wait_inflate
  wait_inflate_refines it Free limit step = absurd step.self.relies
  wait_inflate_refines it Anonymous limit step = absurd step.self.relies
  wait_inflate_refines it Fat limit step = absurd step.self.relies
  wait_inflate_refines it (Flat owner c) limit step =
      by_equal (Right actor Wait (with_word it (Flat owner c))) owner actor.thread
      (λ q. inflate_refines actor Wait (with_word it (Flat owner c)) (c + 1) step step.self.seated.0
      (record {
        state = Running (WaitGiveUp limit);
        answer = GoneOn;
        commits = false;
        committed = nothing_committed;
        foreign = λ t n o. n (sym o ∙ q);
        open_word = tt;
        above = omega arith;
        limit = omega (arith, step.inv.whole.monitor.2);
        does = λ k. absurd k;
        self = λ placed. record {
          seated = (step.self.seated.0, omega arith, actor.real);
          placed = placed;
          relies = (tt, step.self.seated.0, actor.real);
          logged = step.self.logged;
          saved = tt;
          woken = step.self.woken;
        };
        shows = same_monitor q refl;
        ended = tt;
      }))
      (λ q. absurd (q step.self.relies))
  wait_inflate_refines it (Reserved owner c) limit step = absurd step.self.relies

  pub wait_give_up_refines : (it : ListObject) (word : WordSeen) (limit : Limit) → let o = with_word it word in
      Stepping actor (WaitGiveUp limit) o → Right actor Wait o (wait_give_up (sight_of o) limit word)
  unfolding wait_give_up
  wait_give_up_refines it Free limit step = absurd step.self.relies.0
  wait_give_up_refines it Anonymous limit step = absurd step.self.relies.0
  wait_give_up_refines it Fat limit step =
      by_equal (Right actor Wait (with_word it Fat)) it.depth 0 (λ e. absurd (omega (arith, e, step.self.seated.1)))
      (λ e. let o = with_word it Fat in
      let saves : Suspension = record { depth = it.depth; limit = limit } in
      let saved = update actor.ghost.saved actor.thread saves in
      hand_refines actor Wait o (WaitGiveUp limit) step step.self.seated.0
      (record {
        contenders = it.contention;
        waiters = it.waiting ++ (actor.thread ∷ []);
        state = Waiting saves;
        answer = Parked;
        commits = true;
        committed = give_up limit actor.thread (plain_at actor o);
        saved = saved;
        does = λ k. commit_give_up (limit_of actor) actor.thread (plain_at actor o) step.self.woken (fat_owner it.holder it.depth step.self.seated.1
            ∙ step.self.seated.0)
            ∙ ap (λ (given : Limit). give_up given actor.thread (plain_at actor o)) step.self.logged.2;
        others = others_ghost actor.thread actor.states (with_waiting o (it.waiting ++ (actor.thread ∷ []))) actor.ghost actor.ghost.woken saved
            (λ t n. refl) (λ t n. update_other actor.ghost.saved actor.thread saves t n)
            (others_joined actor.thread actor.states o actor.ghost Chain.Waiting (λ t n. step.inv.threads t));
        self = λ next rest seated gone. record {
          seated = (λ x. omega (arith, seated x actor.real), actor.real);
          placed = record {
            entry = gone;
            contention = step.self.placed.contention;
            waiting = count_joined actor.thread it.waiting ∙ ap suc step.self.placed.waiting;
          };
          relies = tt;
          logged = (step.self.logged.0, (first_commit step.self.logged.1, refl), tt);
          saved = (update_same actor.ghost.saved actor.thread saves, step.self.seated.1, step.inv.whole.monitor.0);
          woken = step.self.woken;
        };
        flag = step.inv.whole.flag;
        unstranded = tt;
        shows = λ next rest. refl;
        ended = tt;
      }))
  wait_give_up_refines it (Flat owner c) limit step = absurd step.self.relies.0
  wait_give_up_refines it (Reserved owner c) limit step = absurd step.self.relies.0

  pub wait_resume_refines : (it : ListObject) (word : WordSeen) (suspension : Suspension) → let o = with_word it word in
      Stepping actor (WaitResume suspension) o → Right actor Wait o (wait_resume (sight_of o) suspension word)
  unfolding wait_resume
  wait_resume_refines it Free suspension step = absurd step.self.relies.0
  wait_resume_refines it Anonymous suspension step = absurd step.self.relies.0
  wait_resume_refines it Fat suspension step =
      by_equal (Right actor Wait (with_word it Fat)) it.depth 0
      (λ e. let o = with_word it Fat in
      depth_refines actor Wait it suspension.depth (run_out suspension.limit) step step.self.seated.0
      (record {
        woken = update actor.ghost.woken actor.thread false;
        does = commit_resume (limit_of actor) actor.thread (plain_at actor o) step.self.woken (fat_unowned it.holder it.depth e)
            ∙ ap (λ (saved : Suspension). record { monitor = owned actor o saved.depth (update actor.ghost.woken actor.thread false); answer = Finished (run_out saved.limit) })
            step.self.saved.0;
        others = λ t n. update_other actor.ghost.woken actor.thread false t n;
        asleep = update_same actor.ghost.woken actor.thread false;
        above = step.self.saved.1;
        limit = step.self.saved.2;
        ended = (second_commit step.self.logged.1.0, refl);
      }))
      (λ e. absurd (e step.self.seated.1))
  wait_resume_refines it (Flat owner c) suspension step = absurd step.self.relies.0
  wait_resume_refines it (Reserved owner c) suspension step = absurd step.self.relies.0
