-- Phases 2, store, and 3, cancel.
use Prim.Native.Nat.{ℕ, ◌+◌, ◌-◌}
use mathlib.Core.Path.{ap, ◌≡◌, refl, sym, ◌∙◌}
use mathlib.Core.Bool.{Bool, true, false}
use mathlib.Core.List.{[], ◌∷◌}
use native.Mathlib.Omega.{arith}
use lib.Dec.{T, eqb}
use Rattle.laws.specs.{Choice.pick, Update.update}
use Rattle.laws.proofs.Choice.{Equal, equal, by_equal, by_below}
use Rattle.lock_word.specs.Layout.{count_limit}
use Rattle.lock_word.specs.Meaning.{owner_of, cancelled}
use Rattle.lock_rules.specs.Rules.{enter_store, exit_store, cancel}
use Rattle.lock_rules.proofs.{Changes.sent_back, Perform.changed_states}
use Rattle.lock_rules.specs.Operations.{Enter, Exit}
use Rattle.lock_rules.specs.declared.Doing.{Doing}
use Rattle.lock_rules.specs.declared.Doing.TheVariants.{EnterStore, ExitStore}
use Rattle.lock_rules.specs.declared.ThreadState.TheVariants.{Running}
use Rattle.lock_word.specs.declared.meaning.WordSeen.{WordSeen}
use Rattle.lock_word.specs.declared.meaning.WordSeen.TheVariants.{Free, Anonymous, Fat, Flat, Reserved}
use Rattle.lock_rules.specs.declared.WordChange.TheVariants.{OwnReserved}
use Rattle.lock_rules.specs.declared.Answer.TheVariants.{GoneOn}
use Rattle.lock_rules.specs.PlainMonitor.{PlainMonitor, Committed, owned_by, finished, commit}
use Rattle.lock_rules.proofs.Commits.{commit_enter, commit_enter_again, commit_exit_last, commit_exit}
use Rattle.lock_rules.proofs.Objects.{ListObject, with_word, sight_of}
use Rattle.lock_rules.proofs.Invariant.{anything, phase_row, leaving?, MonitorOk, FlagOk, Unstranded, monitor_of}
use Rattle.lock_rules.proofs.OtherThreads.{beside, others_word, others_cancelled}
use Rattle.lock_rules.proofs.SharedFacts.{keeps_anonymous, keeps_reserved, unstranded_empty, reserved_owner}
use Rattle.lock_rules.proofs.SharedFacts.{reserved_unowned, first_commit, idle_changed, same_monitor}
use Rattle.lock_rules.proofs.Refinement.{limit_of, plain_at, Actor, Stepping, Right, Alike, sits_alike, nothing_committed, refine, quiet_refines}
use Rattle.lock_rules.proofs.RuleShapes.{go_on_refines, word_refines}

module _ (actor : Actor) where
  pub enter_store_refines : (it : ListObject) (word : WordSeen) (c : ℕ) → let o = with_word it word in
      Stepping actor (EnterStore c) o → Right actor Enter o (enter_store (sight_of o) c)
  unfolding enter_store
  enter_store_refines it Free c step = absurd step.self.relies.0
  enter_store_refines it Anonymous c step = absurd step.self.relies.0
  enter_store_refines it Fat c step = absurd step.self.relies.0
  enter_store_refines it (Flat owner d) c step = absurd step.self.relies.0
  enter_store_refines it (Reserved owner d) c step =
      by_below (Right actor Enter (with_word it (Reserved owner d))) c count_limit
      (λ l. word_refines actor Enter (with_word it (Reserved owner d)) (OwnReserved (c + 1)) step refl refl
      (record {
        keeps = λ t n. keeps_reserved (actor.states t) actor.thread t it.holder n owner d (c + 1) own;
        does = does (eqb d 0) (equal d 0) ∙ ap
            finished (same_monitor (sym (reserved_owner actor.thread (c + 1) it.holder it.depth (omega arith))) (deep (eqb d 0) (equal d 0)));
        monitor = (step.inv.whole.monitor.0, actor.real, omega (arith, l));
        flag = step.inv.whole.flag;
        unstranded = tt;
        ended = (first_commit step.self.logged.1, refl);
      }))
      (λ l. absurd (omega (arith, l, step.self.relies.1)))
    where
      own : owner ≡ actor.thread
      own = step.self.relies.0.0

      kept : d ≡ c
      kept = step.self.relies.0.1

      -- the thread is in at depth d, or nobody is
      first : Bool → Committed
      first b = finished (owned_by (plain_at actor (with_word it (Reserved owner d))) actor.thread (pick b 1 (d + 1)))

      does : (b : Bool) → Equal b d 0 → commit Enter (limit_of actor) actor.thread (plain_at actor (with_word it (Reserved owner d))) ≡ first b
      does true e = commit_enter (limit_of actor) actor.thread (plain_at actor (with_word it (Reserved owner d))) (reserved_unowned owner d it.holder it.depth e)
      does false e =
          commit_enter_again (limit_of actor) actor.thread (plain_at actor (with_word it (Reserved owner d))) actor.real
          (reserved_owner owner d it.holder it.depth (omega (arith, e)) ∙ own) (omega (arith, step.inv.whole.monitor.2))

      deep : (b : Bool) → Equal b d 0 → pick b 1 (d + 1) ≡ c + 1
      deep true e = omega (arith, e, kept)
      deep false e = omega (arith, kept)

  pub exit_store_refines : (it : ListObject) (word : WordSeen) (c : ℕ) → let o = with_word it word in
      Stepping actor (ExitStore c) o → Right actor Exit o (exit_store (sight_of o) c)
  unfolding exit_store
  exit_store_refines it Free c step = absurd step.self.relies.0
  exit_store_refines it Anonymous c step = absurd step.self.relies.0
  exit_store_refines it Fat c step = absurd step.self.relies.0
  exit_store_refines it (Flat owner d) c step = absurd step.self.relies.0
  exit_store_refines it (Reserved owner d) c step =
      by_equal (Right actor Exit (with_word it (Reserved owner d))) c 0 (λ e. absurd (omega (arith, e, step.self.relies.1)))
      (λ e. word_refines actor Exit (with_word it (Reserved owner d)) (OwnReserved (c - 1)) step refl refl
      (record {
        keeps = λ t n. keeps_reserved (actor.states t) actor.thread t it.holder n owner d (c - 1) own;
        does = does (eqb d 1) (equal d 1) ∙ ap finished (shows (eqb d 1) (equal d 1));
        monitor = (
          step.inv.whole.monitor.0,
          actor.real,
          omega (arith, kept, step.inv.whole.monitor.2),
        );
        flag = step.inv.whole.flag;
        unstranded = tt;
        ended = (first_commit step.self.logged.1, refl);
      }))
    where
      own : owner ≡ actor.thread
      own = step.self.relies.0.0

      kept : d ≡ c
      kept = step.self.relies.0.1

      owns : owner_of (Reserved owner d) it.holder it.depth ≡ actor.thread
      owns = reserved_owner owner d it.holder it.depth (omega (arith, kept, step.self.relies.1)) ∙ own

      after : Bool → PlainMonitor
      after b =
          let m = plain_at actor (with_word it (Reserved owner d)) in
          pick b (owned_by m 0 0) (owned_by m actor.thread (d - 1))

      does : (b : Bool) → Equal b d 1 → commit Exit (limit_of actor) actor.thread (plain_at actor (with_word it (Reserved owner d))) ≡ finished (after b)
      does true e = commit_exit_last (limit_of actor) actor.thread (plain_at actor (with_word it (Reserved owner d))) owns e
      does false e = commit_exit (limit_of actor) actor.thread (plain_at actor (with_word it (Reserved owner d))) owns e

      shows : (b : Bool) → Equal b d 1 → after b ≡ plain_at actor (with_word it (Reserved actor.thread (c - 1)))
      shows true e = same_monitor (sym (reserved_unowned actor.thread (c - 1) it.holder it.depth (omega (arith, e, kept)))) (omega (arith, e, kept))
      shows false e =
          same_monitor (sym (reserved_owner actor.thread (c - 1) it.holder it.depth (omega (arith, e, kept, step.self.relies.1))))
          (omega (arith, kept))

  -- a cancelled word: nobody else is moved but the thread of a reserved one
  pub cancel_refines : (it : ListObject) (word : WordSeen) (doing look : Doing) → Alike doing look
      → (phase_row look).reliance ≡ anything → (T (leaving? (phase_row look).seat) → ⊥) → let o = with_word it word in
      Stepping actor doing o → Right actor (phase_row doing).operation o (cancel (sight_of o) look word)
  unfolding cancel
  cancel_refines it Free doing look alike easy stays step = go_on_refines actor _ doing look step alike stays (rw easy tt)
  cancel_refines it Anonymous doing look alike easy stays step =
      quiet_refines actor (phase_row doing).operation (with_word it Anonymous) (with_word it Free) (Running look) GoneOn step.inv tt
      (record {
        others = others_word actor.thread actor.states (with_word it Anonymous) actor.ghost Free
            (λ t n. keeps_anonymous (actor.states t) actor.thread t it.holder n Free) (λ t n. step.inv.threads t);
        self = let a = sits_alike actor step.self look alike (rw easy tt) in beside a a.seated a.placed (rw easy tt);
        monitor = step.inv.whole.monitor;
        empty = step.inv.whole.empty;
        flag = λ k. step.inv.whole.flag;
        unstranded = unstranded_empty Free (update actor.states actor.thread (Running look)) it.holder it.entry it.contention
            step.inv.whole.flag;
        shows = refl;
      })
  cancel_refines it Fat doing look alike easy stays step = go_on_refines actor _ doing look step alike stays (rw easy tt)
  cancel_refines it (Flat owner c) doing look alike easy stays step = go_on_refines actor _ doing look step alike stays (rw easy tt)
  cancel_refines it (Reserved owner c) doing look alike easy stays step =
      refine actor (phase_row doing).operation (with_word it (Reserved owner c))
      (record {
        after = with_word it (cancelled (Reserved owner c));
        states = changed_states sent_back actor.states (owner ∷ []);
        state = Running look;
        answer = GoneOn;
        commits = false;
        committed = nothing_committed;
        woken = actor.ghost.woken;
        saved = actor.ghost.saved;
        nobody = step.inv.whole.nobody;
        stays = idle_changed sent_back refl actor.states (owner ∷ []);
        does = λ k. absurd k;
        others = others_cancelled actor.thread actor.states actor.ghost it owner c (cancelled (Reserved owner c)) (λ t n. step.inv.threads t);
        self = let a = sits_alike actor step.self look alike (rw easy tt) in beside a a.seated a.placed (rw easy tt);
        monitor = monitor (eqb c 0);
        empty = step.inv.whole.empty;
        flag = flagged (eqb c 0);
        unstranded = stranded (eqb c 0);
        shows = shows (eqb c 0) (equal c 0);
        ended = tt;
      })
    where
      monitor : (b : Bool) → MonitorOk (pick b Free (Flat owner (c - 1))) it.holder it.depth
      monitor true = step.inv.whole.monitor.0
      monitor false = (step.inv.whole.monitor.0, step.inv.whole.monitor.1, omega (arith, step.inv.whole.monitor.2))

      flagged : (b : Bool) → FlagOk (pick b Free (Flat owner (c - 1))) it.flag it.contention
      flagged true = λ k. step.inv.whole.flag
      flagged false = λ k. step.inv.whole.flag

      stranded : (b : Bool)
          → Unstranded (pick b Free (Flat owner (c - 1))) (update (changed_states sent_back actor.states (owner ∷ [])) actor.thread
          (Running look)) it.holder it.entry it.contention
      stranded b =
          unstranded_empty (pick b Free (Flat owner (c - 1))) (update (changed_states sent_back actor.states (owner ∷ [])) actor.thread
          (Running look)) it.holder it.entry it.contention step.inv.whole.flag

      shows : (b : Bool) → Equal b c 0 → plain_at actor (with_word it (Reserved owner c))
          ≡ monitor_of (with_word it (pick b Free (Flat owner (c - 1)))) actor.ghost
      shows true e = same_monitor (reserved_unowned owner c it.holder it.depth e) e
      shows false e = same_monitor (reserved_owner owner c it.holder it.depth (omega (arith, e))) (omega (arith, e))
