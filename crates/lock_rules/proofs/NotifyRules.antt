-- Phase 1, look: notify and notify all.
use Prim.Native.Nat.{ℕ}
use mathlib.Core.Path.{◌≡◌, refl, sym, ◌∙◌}
use mathlib.Core.Logic.{◌≢◌, ◌⊎◌, inl, inr}
use mathlib.Core.Bool.{Bool, true, false}
use mathlib.Core.List.{List, [], ◌∷◌}
use native.Mathlib.Omega.{arith}
use lib.Dec.{eqb}
use lib.ListN.{length}
use Rattle.laws.specs.Choice.{pick, either}
use Rattle.laws.specs.{Update.update, Count.count}
use Rattle.laws.proofs.Choice.{equal?, Equal, equal}
use Rattle.laws.proofs.Update.{update_same, update_other}
use Rattle.laws.proofs.Count.{count_none, count_same, count_other}
use Rattle.chains.specs.declared.named.Chain.{Chain}
use Rattle.lock_rules.specs.Actions.{keep_object, finish}
use Rattle.lock_rules.specs.Rules.{owner_seen, notify_owned, notify_all_owned, owner_only}
use Rattle.lock_rules.proofs.{Changes.moved, Membership.placed_unmoved}
use Rattle.lock_rules.specs.Operations.{Operation, Notify, NotifyAll}
use Rattle.lock_rules.specs.declared.{Doing.Doing, Taken.Taken}
use Rattle.lock_rules.specs.declared.Doing.TheVariants.{NotifyLook, NotifyAllLook}
use Rattle.lock_rules.specs.declared.ThreadState.TheVariants.{Idle}
use Rattle.lock_word.specs.declared.meaning.WordSeen.{WordSeen}
use Rattle.lock_word.specs.declared.meaning.WordSeen.TheVariants.{Free, Anonymous, Fat, Flat, Reserved}
use Rattle.lock_rules.specs.declared.Taken.TheVariants.{First, All}
use Rattle.lock_rules.specs.declared.ChainWork.TheVariants.{Move}
use Rattle.lock_rules.specs.declared.Answer.TheVariants.{Finished}
use Rattle.lock_rules.specs.PlainMonitor.{above_zero, commit}
use Rattle.lock_rules.specs.Feed.{log_after, EndsRight}
use Rattle.lock_rules.proofs.Commits.{commit_notify, commit_notify_all, commit_notify_nobody, commit_notify_all_nobody}
use Rattle.lock_rules.proofs.Objects.{ListObject, with_word, with_waiting, sight_of, object_owner}
use Rattle.lock_rules.proofs.Perform.{taking, taken, count_taken, moved_object, moved_states}
use Rattle.lock_rules.proofs.Invariant.{outside, Seated, monitor_of}
use Rattle.lock_rules.proofs.OtherThreads.{others_ghost, others_moved}
use Rattle.lock_rules.proofs.SharedFacts.{nobody_waits, fat_owned, first_commit, none, idle_changed}
use Rattle.lock_rules.proofs.Refinement.{limit_of, known, plain_at, Actor, Stepping, Right, refine}
use Rattle.lock_rules.proofs.RuleShapes.{ended_self, end_refines, owner_only_refines}

module _ (actor : Actor) where
  notify_nobody : (o : ListObject) → Stepping actor NotifyLook o → object_owner o ≡ actor.thread → o.waiting ≡ [] → Right actor Notify o (finish (sight_of o))
  notify_nobody o step q e =
      end_refines actor Notify o NotifyLook (Finished 0) step (λ k. k) step.self.seated step.self.woken
      (commit_notify_nobody (limit_of actor) actor.thread (plain_at actor o) q e) (first_commit step.self.logged.1, refl)

  notify_all_nobody : (o : ListObject) → Stepping actor NotifyAllLook o → object_owner o ≡ actor.thread → o.waiting ≡ []
      → Right actor NotifyAll o (finish (sight_of o))
  notify_all_nobody o step q e =
      end_refines actor NotifyAll o NotifyAllLook (Finished 0) step (λ k. k) step.self.seated step.self.woken
      (commit_notify_all_nobody (limit_of actor) actor.thread (plain_at actor o) q e) (first_commit step.self.logged.1, refl)

  -- waiters are woken, the first or all
  wake_refines : (operation : Operation) (doing : Doing) (which : Taken) (number : ℕ) (woken : ℕ → Bool) (it : ListObject) → let o = with_word it Fat in
      Stepping actor doing o → Seated outside actor.thread it.holder it.depth → actor.ghost.woken actor.thread ≡ false
      → object_owner o ≡ actor.thread → ((t : ℕ) → woken t ≡ either (above_zero (count t (taken which it.waiting))) (actor.ghost.woken t))
      → commit operation (limit_of actor) actor.thread (plain_at actor o)
      ≡ record { monitor = monitor_of (moved_object Chain.Waiting which o) (known actor woken actor.ghost.saved); answer = Finished number }
      → EndsRight operation (Finished number) (log_after true (actor.ghost.logs actor.thread) (Finished number))
      → Right actor operation o (keep_object (sight_of o) (Move Chain.Waiting which) Idle (Finished number) true)
  wake_refines operation doing which number woken it step seated asleep q wakes does ended =
      let o = with_word it Fat in
      let out : count actor.thread (taken which it.waiting) ≡ 0 =
      omega (arith, count_taken which it.waiting actor.thread, step.self.placed.waiting) in
      refine actor operation o
      (record {
        after = moved_object Chain.Waiting which o;
        states = moved_states Chain.Waiting which actor.states o;
        state = Idle;
        answer = Finished number;
        commits = true;
        committed = record { monitor = monitor_of (moved_object Chain.Waiting which o) (known actor woken actor.ghost.saved); answer = Finished number };
        woken = woken;
        saved = actor.ghost.saved;
        nobody = step.inv.whole.nobody;
        stays = idle_changed moved refl actor.states (taken which it.waiting);
        does = λ k. does;
        others = others_ghost actor.thread (moved_states Chain.Waiting which actor.states o) (moved_object Chain.Waiting which o) _ woken
            actor.ghost.saved (λ t n. wakes t) (λ t n. refl)
            (others_moved actor.thread actor.states o actor.ghost Chain.Waiting (taking which it.waiting) (λ t n. step.inv.threads t));
        self = ended_self actor seated (placed_unmoved actor.thread Idle o step.self.placed Chain.Waiting (taking which it.waiting) out)
            (wakes actor.thread ∙ rw out asleep);
        monitor = step.inv.whole.monitor;
        empty = λ x. absurd (actor.real (sym (fat_owned it.holder it.depth actor.thread actor.real q).1 ∙ x));
        flag = step.inv.whole.flag;
        unstranded = tt;
        shows = refl;
        ended = ended;
      })

  -- one thread becomes woken
  woken_one : (first t : ℕ) → update actor.ghost.woken first true t ≡ either (above_zero (count t (first ∷ []))) (actor.ghost.woken t)
  woken_one first t = at (equal? t first)
    where
      at : (t ≡ first) ⊎ (t ≢ first) → update actor.ghost.woken first true t ≡ either (above_zero (count t (first ∷ []))) (actor.ghost.woken t)
      at (inl e) = rw (e, update_same actor.ghost.woken first true, count_same first [])
      at (inr n) = rw (update_other actor.ghost.woken first true t n, count_other t first [] n, count_none t)

  notify_fat_refines : (it : ListObject) (waiting : List ℕ) (b : Bool) → Equal b (length waiting) 0 → let o = with_waiting (with_word it Fat) waiting in
      Stepping actor NotifyLook o → object_owner o ≡ actor.thread
      → Right actor Notify o (pick b (finish (sight_of o)) (keep_object (sight_of o) (Move Chain.Waiting First) Idle (Finished 1) true))
  notify_fat_refines it waiting true e step q = notify_nobody _ step q (none waiting e)
  notify_fat_refines it [] false e step q = absurd (e refl)
  notify_fat_refines it (first ∷ rest) false e step q =
      wake_refines Notify NotifyLook First 1 (update actor.ghost.woken first true) (with_waiting it (first ∷ rest)) step
      step.self.seated step.self.woken q (woken_one first) (commit_notify (limit_of actor) actor.thread
      (plain_at actor (with_waiting (with_word it Fat) (first ∷ rest))) q) (first_commit step.self.logged.1, refl)

  notify_owned_refines : (it : ListObject) (word : WordSeen) → let o = with_word it word in
      Stepping actor NotifyLook o → object_owner o ≡ actor.thread → Right actor Notify o (notify_owned (sight_of o) word)
  unfolding notify_owned
  notify_owned_refines it Free step q = absurd (actor.real (sym q))
  notify_owned_refines it Anonymous step q = absurd (actor.real (sym q))
  notify_owned_refines it Fat step q = notify_fat_refines it it.waiting (eqb (length it.waiting) 0) (equal (length it.waiting) 0) step q
  notify_owned_refines it (Flat owner c) step q = notify_nobody _ step q (nobody_waits _ _ _ step.inv (λ k. k))
  notify_owned_refines it (Reserved owner c) step q = notify_nobody _ step q (nobody_waits _ _ _ step.inv (λ k. k))

  pub notify_look_refines : (o : ListObject) → Stepping actor NotifyLook o
      → Right actor Notify o (owner_only actor.thread (sight_of o) (owner_seen (sight_of o)) (notify_owned (sight_of o) o.word))
  notify_look_refines o step =
      owner_only_refines actor Notify o NotifyLook (notify_owned (sight_of o) o.word) tt step (λ k. k) step.self.seated step.self.woken
      step.self.logged.1 (notify_owned_refines o o.word step)

  notify_all_owned_refines : (it : ListObject) (word : WordSeen) → let o = with_word it word in
      Stepping actor NotifyAllLook o → object_owner o ≡ actor.thread → Right actor NotifyAll o (notify_all_owned (sight_of o) word)
  unfolding notify_all_owned
  notify_all_owned_refines it Free step q = absurd (actor.real (sym q))
  notify_all_owned_refines it Anonymous step q = absurd (actor.real (sym q))
  notify_all_owned_refines it Fat step q =
      wake_refines NotifyAll NotifyAllLook All (length it.waiting) (λ t. either (above_zero (count t it.waiting)) (actor.ghost.woken t)) it step
      step.self.seated step.self.woken q (λ t. refl) (commit_notify_all (limit_of actor) actor.thread (plain_at actor (with_word it Fat)) q)
      (first_commit step.self.logged.1, refl)
  notify_all_owned_refines it (Flat owner c) step q = notify_all_nobody _ step q (nobody_waits _ _ _ step.inv (λ k. k))
  notify_all_owned_refines it (Reserved owner c) step q = notify_all_nobody _ step q (nobody_waits _ _ _ step.inv (λ k. k))

  pub notify_all_look_refines : (o : ListObject) → Stepping actor NotifyAllLook o
      → Right actor NotifyAll o (owner_only actor.thread (sight_of o) (owner_seen (sight_of o)) (notify_all_owned (sight_of o) o.word))
  notify_all_look_refines o step =
      owner_only_refines actor NotifyAll o NotifyAllLook (notify_all_owned (sight_of o) o.word) tt step (λ k. k) step.self.seated step.self.woken
      step.self.logged.1 (notify_all_owned_refines o o.word step)
