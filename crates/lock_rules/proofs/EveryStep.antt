-- Every step of a thread that is neither idle nor parked keeps the invariant and commits as the plain monitor does.
use mathlib.Core.Path.{◌≡◌, refl}
use Rattle.laws.proofs.Choice.{by_equal}
use Rattle.lock_rules.specs.Rules.{holder_only, enter_check, enter_try, exit_tell, exit_leave, wait_inflate, wait_give_up, wait_resume, decide}
use Rattle.lock_rules.specs.Operations.{Operation, Enter, Exit, Wait}
use Rattle.std.specs.Prelude.{Option}
use Rattle.lock_rules.specs.declared.Effect.{Effect}
use Rattle.lock_rules.specs.declared.{Doing.Doing}
use Rattle.lock_rules.specs.declared.Doing.TheVariants.{EnterLook, EnterStore, EnterCancel, EnterGoIn, EnterCheck, EnterTry, ExitLook}
use Rattle.lock_rules.specs.declared.Doing.TheVariants.{ExitStore}
use Rattle.lock_rules.specs.declared.Doing.TheVariants.{ExitGoIn, ExitTest, ExitTell, ExitLeave, WaitLook, WaitCancel, WaitGoIn, WaitInflate}
use Rattle.lock_rules.specs.declared.Doing.TheVariants.{WaitGiveUp, WaitResume, NotifyLook, NotifyAllLook}
use Rattle.lock_rules.proofs.Objects.{ListObject, sight_of}
use Rattle.lock_rules.proofs.Invariant.{phase_row}
use Rattle.lock_rules.proofs.Refinement.{Actor, Stepping, Right}
use Rattle.lock_rules.proofs.LookRules.{enter_look_refines, exit_look_refines, wait_look_refines}
use Rattle.lock_rules.proofs.NotifyRules.{notify_look_refines, notify_all_look_refines}
use Rattle.lock_rules.proofs.StoreRules.{enter_store_refines, exit_store_refines, cancel_refines}
use Rattle.lock_rules.proofs.EntryRules.{enter_go_in_refines, wait_go_in_refines, enter_check_refines, enter_try_refines}
use Rattle.lock_rules.proofs.ExitRules.{exit_go_in_refines, exit_test_refines, exit_tell_refines, exit_leave_refines}
use Rattle.lock_rules.proofs.WaitRules.{wait_inflate_refines, wait_give_up_refines, wait_resume_refines}

module _ (actor : Actor) where
  -- a phase that needs the thread as holder has it
  holder_refines : (operation : Operation) (o : ListObject) (action : Option Effect) → o.holder ≡ actor.thread → Right actor operation o action
      → Right actor operation o (holder_only actor.thread (sight_of o) action)
  holder_refines operation o action q right =
      by_equal (Right actor operation o) o.holder actor.thread
      (λ e. right)
      (λ e. absurd (e q))

  pub step_refines : (o : ListObject) (doing : Doing) → Stepping actor doing o
      → Right actor (phase_row doing).operation o (decide actor.thread (sight_of o) doing)
  unfolding decide
  step_refines o EnterLook step = enter_look_refines actor o o.word step
  step_refines o (EnterStore c) step = enter_store_refines actor o o.word c step
  step_refines o EnterCancel step =
      cancel_refines actor o o.word EnterCancel EnterLook (refl, refl, refl, refl, refl) refl (λ k. k) step
  step_refines o EnterGoIn step = enter_go_in_refines actor o step
  step_refines o EnterCheck step =
      holder_refines Enter o (enter_check actor.thread (sight_of o) o.word) step.self.seated.0 (enter_check_refines actor o o.word step)
  step_refines o EnterTry step =
      holder_refines Enter o (enter_try actor.thread (sight_of o) o.word) step.self.seated.0 (enter_try_refines actor o o.word step)
  step_refines o ExitLook step = exit_look_refines actor o step
  step_refines o (ExitStore c) step = exit_store_refines actor o o.word c step
  step_refines o ExitGoIn step = exit_go_in_refines actor o o.flag step
  step_refines o ExitTest step = exit_test_refines actor o o.flag step
  step_refines o ExitTell step =
      holder_refines Exit o (exit_tell (sight_of o)) step.self.seated.0 (exit_tell_refines actor o o.flag o.contention step)
  step_refines o ExitLeave step = holder_refines Exit o (exit_leave (sight_of o)) step.self.seated.0 (exit_leave_refines actor o step)
  step_refines o (WaitLook limit) step = wait_look_refines actor o limit step
  step_refines o (WaitCancel limit) step =
      cancel_refines actor o o.word (WaitCancel limit) (WaitLook limit) (refl, refl, refl, refl, refl) refl (λ k. k) step
  step_refines o (WaitGoIn limit) step = wait_go_in_refines actor o limit step
  step_refines o (WaitInflate limit) step =
      holder_refines Wait o (wait_inflate actor.thread (sight_of o) limit o.word) step.self.seated.0 (wait_inflate_refines actor o o.word limit step)
  step_refines o (WaitGiveUp limit) step =
      holder_refines Wait o (wait_give_up (sight_of o) limit o.word) step.self.seated.0 (wait_give_up_refines actor o o.word limit step)
  step_refines o (WaitResume suspension) step =
      holder_refines Wait o (wait_resume (sight_of o) suspension o.word) step.self.seated.0 (wait_resume_refines actor o o.word suspension step)
  step_refines o NotifyLook step = notify_look_refines actor o step
  step_refines o NotifyAllLook step = notify_all_look_refines actor o step
