-- Phases 4, go in, 9, test, 10, tell, and 11, leave, of exit.
use Prim.Native.Nat.{ℕ, suc}
use mathlib.Core.Path.{◌≡◌, refl, sym, ◌∙◌}
use mathlib.Core.Logic.{◌≢◌, inl, inr}
use mathlib.Core.Bool.{Bool, true, false, true≢false}
use mathlib.Core.List.{List, [], ◌∷◌, cons≢nil}
use native.Mathlib.Omega.{arith}
use lib.Dec.{T}
use Rattle.laws.specs.{Update.update, Count.count}
use Rattle.laws.proofs.{Choice.by_equal, Update.update_other}
use Rattle.laws.proofs.Count.{count_none, count_same}
use Rattle.chains.specs.declared.named.Chain.{Chain}
use Rattle.lock_rules.specs.{Actions.go_on, Actions.finish_committed, Operations.Exit, Feed.EndsRight}
use Rattle.lock_rules.specs.Rules.{onward, exit_go_in, exit_test, exit_tell, exit_leave}
use Rattle.lock_rules.proofs.{Each.each_word, Reliances.is_queued, Membership.placed_unmoved, OtherThreads.others_moved}
use Rattle.lock_rules.proofs.Changes.{handed, moved}
use Rattle.lock_rules.specs.declared.{OnwardStep.OnwardStep, Doing.Doing}
use Rattle.lock_rules.specs.declared.OnwardStep.TheVariants.{ToCheck, ToTell, ToInflate, ToResume}
use Rattle.lock_rules.specs.declared.Doing.TheVariants.{ExitGoIn, ExitTest, ExitTell, ExitLeave}
use Rattle.lock_rules.specs.declared.ThreadState.TheVariants.{Idle, Running}
use Rattle.lock_word.specs.declared.meaning.WordSeen.{WordSeen}
use Rattle.lock_word.specs.declared.meaning.WordSeen.TheVariants.{Free, Anonymous, Fat, Flat, Reserved}
use Rattle.lock_rules.specs.declared.Taken.TheVariants.{First}
use Rattle.lock_rules.specs.declared.Answer.TheVariants.{GoneOn, Finished}
use Rattle.lock_rules.proofs.Objects.{ListObject, with_word, with_flag, with_entry, with_contention, sight_of}
use Rattle.lock_rules.proofs.Perform.{taking, left, count_taken, first_of, changed_states, handed_states, moved_object, moved_states}
use Rattle.lock_rules.proofs.Invariant.{phase_row, leaving?, in_entry, InChains, Unreserved, Thin, FlagOk, Told, Unstranded}
use Rattle.lock_rules.proofs.SharedFacts.{unstranded_empty, unstranded_joined, flag_down, owner_shallow, first_queued}
use Rattle.lock_rules.proofs.SharedFacts.{idle_changed, same_monitor}
use Rattle.lock_rules.proofs.Refinement.{Actor, Stepping, Right, nothing_committed, refine, quiet_refines}
use Rattle.lock_rules.proofs.EntryRules.{exit_goes_in_refines}
use Rattle.lock_rules.proofs.RuleShapes.{go_on_refines, ended_self, hand_refines}

module _ (actor : Actor) where
  -- with flag 0 there is nobody to tell, and the exit finishes
  finish_committed_refines : (it : ListObject) (doing : Doing) → let o = with_flag it false in
      Stepping actor doing o → it.holder ≢ actor.thread → InChains 0 0 0 actor.thread it.entry it.contention it.waiting
      → actor.ghost.woken actor.thread ≡ false → EndsRight Exit (Finished 0) (actor.ghost.logs actor.thread)
      → Right actor Exit o (finish_committed (sight_of o))
  finish_committed_refines it doing step away placed asleep ended =
      let o = with_flag it false in
      quiet_refines actor Exit o o Idle (Finished 0) step.inv ended
      (record {
        others = λ t n. step.inv.threads t;
        self = ended_self actor (λ x k. absurd (away x)) placed asleep;
        monitor = step.inv.whole.monitor;
        empty = step.inv.whole.empty;
        flag = step.inv.whole.flag;
        unstranded = unstranded_empty it.word (update actor.states actor.thread Idle) it.holder it.entry it.contention
            (flag_down it.word it.contention step.inv.whole.flag);
        shows = refl;
      })

  pub exit_test_refines : (it : ListObject) (flag : Bool) → let o = with_flag it flag in
      Stepping actor ExitTest o → Right actor Exit o (exit_test (sight_of o))
  unfolding exit_test
  exit_test_refines it true step = go_on_refines actor _ ExitTest ExitGoIn step (refl, refl, refl, refl, refl) (λ k. k) step.self.relies
  exit_test_refines it false step =
      finish_committed_refines it ExitTest step step.self.seated.0 step.self.placed step.self.woken step.self.logged.1

  -- an exit that goes in found flag 1, so the word is not fat
  thin_raised : (word : WordSeen) (contention : List ℕ) → FlagOk word true contention → Unreserved word → Thin word
  thin_raised word contention =
      each_word (λ w. FlagOk w true contention → Unreserved w → Thin w)
      (λ f u. tt, λ f u. absurd u, λ f u. absurd (true≢false f.0), λ owner c f u. tt, λ owner c f u. absurd u) word

  pub exit_go_in_refines : (it : ListObject) (flag : Bool) → let o = with_flag it flag in
      Stepping actor ExitGoIn o → Right actor Exit o (exit_go_in actor.thread (sight_of o))
  unfolding exit_go_in
  exit_go_in_refines it true step =
      exit_goes_in_refines actor (with_flag it true) step (thin_raised it.word it.contention step.inv.whole.flag step.self.relies)
  exit_go_in_refines it false step =
      finish_committed_refines it ExitGoIn step step.self.seated.0 step.self.placed step.self.woken step.self.logged.1

  flag_rest : (word : WordSeen) (first : ℕ) (rest : List ℕ) → FlagOk word true (first ∷ rest) → FlagOk word true rest
  flag_rest Free first rest x = λ e. absurd (true≢false e)
  flag_rest Anonymous first rest x = absurd (cons≢nil x)
  flag_rest Fat first rest x = absurd (cons≢nil x.1)
  flag_rest (Flat owner c) first rest x = λ e. absurd (true≢false e)
  flag_rest (Reserved owner c) first rest x = absurd (cons≢nil x)

  -- there is nobody to tell
  tell_nobody : (o : ListObject) → Stepping actor ExitTell o → o.contention ≡ [] → Right actor Exit o (go_on (sight_of o) ExitLeave)
  tell_nobody o step e =
      quiet_refines actor Exit o o (Running ExitLeave) GoneOn step.inv tt
      (record {
        others = λ t n. step.inv.threads t;
        self = record {
          seated = step.self.seated;
          placed = step.self.placed;
          relies = tt;
          logged = step.self.logged;
          saved = tt;
          woken = step.self.woken;
        };
        monitor = step.inv.whole.monitor;
        empty = step.inv.whole.empty;
        flag = step.inv.whole.flag;
        unstranded = unstranded_empty o.word (update actor.states actor.thread (Running ExitLeave)) o.holder o.entry o.contention e;
        shows = refl;
      })

  pub exit_tell_refines : (it : ListObject) (flag : Bool) (contention : List ℕ) → let o = with_contention (with_flag it flag) contention in
      Stepping actor ExitTell o → Right actor Exit o (exit_tell (sight_of o))
  unfolding exit_tell
  exit_tell_refines it true [] step = tell_nobody _ step refl
  exit_tell_refines it true (first ∷ rest) step =
      let o = with_contention (with_flag it true) (first ∷ rest) in
      let q : it.holder ≡ actor.thread = step.self.seated.0 in
      let out : count actor.thread (first ∷ []) ≡ 0 = omega (
        arith,
        count_taken First (first ∷ rest) actor.thread,
        step.self.placed.contention,
      ) in
      refine actor Exit o
      (record {
        after = moved_object Chain.Contention First o;
        states = moved_states Chain.Contention First actor.states o;
        state = Running ExitLeave;
        answer = GoneOn;
        commits = false;
        committed = nothing_committed;
        woken = actor.ghost.woken;
        saved = actor.ghost.saved;
        nobody = step.inv.whole.nobody;
        stays = idle_changed moved refl actor.states (first ∷ []);
        does = λ k. absurd k;
        others = others_moved actor.thread actor.states o actor.ghost Chain.Contention (taking First (first ∷ rest)) (λ t n. step.inv.threads t);
        self = record {
          seated = step.self.seated;
          placed = placed_unmoved actor.thread (Running ExitLeave) o step.self.placed Chain.Contention (taking First (first ∷ rest)) out;
          relies = tt;
          logged = step.self.logged;
          saved = tt;
          woken = step.self.woken;
        };
        monitor = step.inv.whole.monitor;
        empty = λ x. absurd (actor.real (sym q ∙ x));
        flag = flag_rest it.word first rest step.inv.whole.flag;
        unstranded = unstranded_joined it.word (update (moved_states Chain.Contention First actor.states o) actor.thread (Running ExitLeave)) first
            it.holder it.rank it.entry rest (λ x. actor.real (sym q ∙ x));
        shows = refl;
        ended = tt;
      })
  exit_tell_refines it false contention step = tell_nobody _ step (flag_down it.word contention step.inv.whole.flag)

  -- a thread that is handed the monitor does not leave it at once
  onward_stays : (carried : OnwardStep) → T (leaving? (phase_row (onward carried)).seat) → ⊥
  onward_stays ToCheck k = k
  onward_stays ToTell k = k
  onward_stays (ToInflate limit) k = k
  onward_stays (ToResume suspension) k = k

  -- the contenders of a free word, after the leaving
  told_handed : (it : ListObject) (entry : List ℕ) → let o = with_entry (with_word it Free) entry in
      Stepping actor ExitLeave o → it.contention ≢ []
      → Told (update (handed_states actor.states o) actor.thread Idle) (first_of entry) (left First entry)
  told_handed it [] step c = at (step.inv.whole.unstranded c)
    where
      at : Told actor.states it.holder [] → Told (update (changed_states handed actor.states []) actor.thread Idle) 0 []
      at (inl (t, k)) =
          inl (
            t,
            rw (
              update_other (changed_states handed actor.states []) actor.thread Idle t (λ p. rw (p, step.running) at k),
              count_none t,
            ) k,
          )
      at (inr (n, k)) = absurd (k (rw (step.self.seated.0, step.running) tt) refl)
  told_handed it (first ∷ rest) step c =
      let o = with_entry (with_word it Free) (first ∷ rest) in
      let (n, m) = first_queued actor.states o actor.ghost step.inv first rest refl in
      let (carried, v, u) = is_queued (actor.states first) (count first rest) m in
      let far : first ≢ actor.thread =
      λ p. (let b : in_entry (actor.states actor.thread) ≡ suc (count actor.thread rest) = rw p at m in absurd
      (omega (arith, rw step.running at b))) in
      inr (
        n,
        rw (update_other (handed_states actor.states o) actor.thread Idle first far, count_same first [], v) (λ k. absurd (onward_stays carried k)),
      )

  unstranded_handed : (it : ListObject) (word : WordSeen) → let o = with_word it word in
      Stepping actor ExitLeave o
      → Unstranded word (update (handed_states actor.states o) actor.thread Idle) (first_of it.entry) (left First it.entry) it.contention
  unstranded_handed it =
      each_word _ (told_handed it it.entry, search, search, search, search)

  pub exit_leave_refines : (o : ListObject) → Stepping actor ExitLeave o → Right actor Exit o (exit_leave (sight_of o))
  unfolding exit_leave
  exit_leave_refines o step =
      by_equal (Right actor Exit o) o.depth 0
      (λ e. hand_refines actor Exit o ExitLeave step step.self.seated.0
      (record {
        contenders = o.contention;
        waiters = o.waiting;
        state = Idle;
        answer = Finished 0;
        commits = false;
        committed = nothing_committed;
        saved = actor.ghost.saved;
        does = λ k. absurd k;
        others = λ t n. step.inv.threads t;
        self = λ next rest seated gone. ended_self actor seated
            (record { entry = gone; contention = step.self.placed.contention; waiting = step.self.placed.waiting }) step.self.woken;
        flag = step.inv.whole.flag;
        unstranded = unstranded_handed o o.word step;
        shows = λ next rest. rw e (same_monitor (owner_shallow o.word o.holder next) refl);
        ended = step.self.logged.1;
      }))
      (λ e. absurd (e step.self.seated.1))
