-- Phase 1, look: enter, exit and wait.
use Prim.Native.Nat.{ℕ, ◌+◌, ◌-◌, ◌<◌}
use mathlib.Core.Path.{◌≡◌, refl, sym, ap, ◌∙◌}
use mathlib.Core.Logic.{inl}
use mathlib.Core.Bool.{Bool, true, false}
use mathlib.Core.List.{List, [], ◌∷◌}
use native.Mathlib.Omega.{arith}
use lib.Dec.{eqb}
use lib.ListN.{length}
use Rattle.laws.specs.Choice.{pick, both}
use Rattle.laws.specs.{Update.update, Count.count}
use Rattle.laws.proofs.Choice.{Equal, equal, by_equal, by_below}
use Rattle.laws.proofs.{Update.update_same, Count.count_none}
use Rattle.lock_word.specs.Layout.{count_limit}
use Rattle.lock_word.specs.Meaning.{owner_of, depth_of}
use Rattle.lock_rules.specs.Actions.{let_go}
use Rattle.lock_rules.specs.Rules.{owner_seen, enter_look, exit_owned, wait_owned, owner_only}
use Rattle.lock_rules.proofs.Changes.{seen_after}
use Rattle.lock_rules.specs.Operations.{Enter, Exit, Wait}
use Rattle.lock_rules.specs.declared.{Limit.Limit, Doing.Doing, WordChange.WordChange}
use Rattle.lock_rules.specs.declared.Doing.TheVariants.{EnterLook, EnterStore, EnterCancel, EnterGoIn, ExitLook, ExitStore, ExitTest}
use Rattle.lock_rules.specs.declared.Doing.TheVariants.{ExitLeave, WaitLook, WaitCancel, WaitGoIn, WaitGiveUp}
use Rattle.lock_rules.specs.declared.ThreadState.TheVariants.{Running}
use Rattle.lock_word.specs.declared.meaning.WordSeen.{WordSeen}
use Rattle.lock_word.specs.declared.meaning.WordSeen.TheVariants.{Free, Anonymous, Fat, Flat, Reserved}
use Rattle.lock_rules.specs.declared.WordChange.TheVariants.{Unchanged, Freed, OwnFlat, OwnReserved}
use Rattle.lock_rules.specs.declared.Answer.TheVariants.{GoneOn}
use Rattle.lock_rules.specs.PlainMonitor.{owned_by, finished}
use Rattle.lock_rules.proofs.Commits.{commit_enter, commit_enter_again, commit_exit_last, commit_exit}
use Rattle.lock_rules.proofs.Objects.{with_word, with_depth, ListObject, empty, sight_of, object_owner, owned_depth}
use Rattle.lock_rules.proofs.Invariant.{any_limit, all_committed, nothing_saved, phase_row, Seated, ReliesOn, MonitorOk, FlagOk, Unstranded}
use Rattle.lock_rules.proofs.OtherThreads.{Others, others_word, others_depth}
use Rattle.lock_rules.proofs.SharedFacts.{keeps_taken, keeps_flat, keeps_freed, keeps_anonymous, keeps_deflated}
use Rattle.lock_rules.proofs.SharedFacts.{unstranded_empty, fat_owned, reserved_owned, first_commit, none, same_monitor}
use Rattle.lock_rules.proofs.Refinement.{limit_of, plain_at, Actor, Stepping, Right, refine}
use Rattle.lock_rules.proofs.RuleShapes.{move_refines, go_on_refines, owner_only_refines, word_refines, depth_refines}

-- What is shown of an exit's last commit: the thread owned the object at depth 1, and nobody owns it after.
record LetGoParts (actor : Actor) (o : ListObject) (change : WordChange) (new : ℕ) (next : Doing) : Type 0 where
  owns : object_owner o ≡ actor.thread
  one : owned_depth o ≡ 1
  others : Others actor.thread actor.states (with_depth (with_word o (seen_after actor.thread change o.word)) new) actor.ghost
  seated : Seated (phase_row next).seat actor.thread o.holder new
  relies : ReliesOn (phase_row next).reliance actor.thread (seen_after actor.thread change o.word) o.flag o.holder
  operation : (phase_row next).operation ≡ Exit
  stage : (phase_row next).stage ≡ all_committed
  limit : (phase_row next).limit ≡ any_limit
  saved : (phase_row next).saved ≡ nothing_saved
  monitor : MonitorOk (seen_after actor.thread change o.word) o.holder new
  flag : FlagOk (seen_after actor.thread change o.word) o.flag o.contention
  unstranded : Unstranded (seen_after actor.thread change o.word) (update actor.states actor.thread (Running next)) o.holder o.entry
      o.contention
  unowned : owner_of (seen_after actor.thread change o.word) o.holder new ≡ 0
  shallow : depth_of (seen_after actor.thread change o.word) new ≡ 0

module _ (actor : Actor) where
  pub enter_look_refines : (it : ListObject) (word : WordSeen) → let o = with_word it word in
      Stepping actor EnterLook o → Right actor Enter o (enter_look actor.thread (sight_of o) word)
  unfolding enter_look
  enter_look_refines it Free step =
      word_refines actor Enter (with_word it Free) (OwnFlat 0) step refl refl
      (record {
        keeps = λ t n. keeps_taken (actor.states t) actor.thread t it.holder n 0;
        does = commit_enter (limit_of actor) actor.thread (plain_at actor (with_word it Free)) refl;
        monitor = (step.inv.whole.monitor, actor.real, omega arith);
        flag = step.inv.whole.flag;
        unstranded = tt;
        ended = (first_commit step.self.logged.1, refl);
      })
  enter_look_refines it Anonymous step =
      word_refines actor Enter (with_word it Anonymous) (OwnReserved 1) step refl refl
      (record {
        keeps = λ t n. keeps_anonymous (actor.states t) actor.thread t it.holder n (Reserved actor.thread 1);
        does = commit_enter (limit_of actor) actor.thread (plain_at actor (with_word it Anonymous)) refl;
        monitor = (step.inv.whole.monitor, actor.real, omega arith);
        flag = step.inv.whole.flag;
        unstranded = tt;
        ended = (first_commit step.self.logged.1, refl);
      })
  enter_look_refines it Fat step = go_on_refines actor _ EnterLook EnterGoIn step (refl, refl, refl, refl, refl) (λ k. k) tt
  enter_look_refines it (Flat owner c) step =
      by_equal (Right actor Enter (with_word it (Flat owner c))) owner actor.thread
      (λ q. by_below (Right actor Enter (with_word it (Flat owner c))) c count_limit
      (λ l. word_refines actor Enter (with_word it (Flat owner c)) (OwnFlat (c + 1)) step refl refl
      (record {
        keeps = λ t n. keeps_flat (actor.states t) actor.thread t it.holder n owner c (c + 1) q;
        does = commit_enter_again (limit_of actor) actor.thread (plain_at actor (with_word it (Flat owner c))) actor.real q (omega (arith, l));
        monitor = (step.inv.whole.monitor.0, actor.real, omega (arith, l));
        flag = step.inv.whole.flag;
        unstranded = tt;
        ended = (first_commit step.self.logged.1, refl);
      }))
      (λ l. go_on_refines actor _ EnterLook EnterGoIn step (refl, refl, refl, refl, refl) (λ k. k) tt))
      (λ q. go_on_refines actor _ EnterLook EnterGoIn step (refl, refl, refl, refl, refl) (λ k. k) tt)
  enter_look_refines it (Reserved owner c) step =
      by_equal (Right actor Enter (with_word it (Reserved owner c))) owner actor.thread
      (λ q. by_below (Right actor Enter (with_word it (Reserved owner c))) c count_limit
      (λ l. go_on_refines actor _ EnterLook (EnterStore c) step (refl, refl, refl, refl, refl) (λ k. k) ((q, refl), l))
      (λ l. go_on_refines actor _ EnterLook EnterCancel step (refl, refl, refl, refl, refl) (λ k. k) tt))
      (λ q. go_on_refines actor _ EnterLook EnterCancel step (refl, refl, refl, refl, refl) (λ k. k) tt)

  -- an exit's last commit: nobody owns the object after it
  let_go_refines : (o : ListObject) (change : WordChange) (new : ℕ) (next : Doing) → Stepping actor ExitLook o → LetGoParts actor o change new next
      → Right actor Exit o (let_go (sight_of o) change new next)
  let_go_refines o change new next step parts =
      refine actor Exit o
      (record {
        after = with_depth (with_word o (seen_after actor.thread change o.word)) new;
        states = actor.states;
        state = Running next;
        answer = GoneOn;
        commits = true;
        committed = finished (owned_by (plain_at actor o) 0 0);
        woken = actor.ghost.woken;
        saved = actor.ghost.saved;
        nobody = step.inv.whole.nobody;
        stays = λ t e. e;
        does = λ k. commit_exit_last (limit_of actor) actor.thread (plain_at actor o) parts.owns parts.one;
        others = parts.others;
        self = record {
          seated = parts.seated;
          placed = step.self.placed;
          relies = parts.relies;
          logged = rw (parts.operation, parts.stage, parts.limit) (step.self.logged.0, (first_commit step.self.logged.1, refl), tt);
          saved = rw parts.saved tt;
          woken = rw parts.saved step.self.woken;
        };
        monitor = parts.monitor;
        empty = step.inv.whole.empty;
        flag = parts.flag;
        unstranded = parts.unstranded;
        shows = same_monitor (sym parts.unowned) (sym parts.shallow);
        ended = tt;
      })

  -- the test for an empty monitor, and what it says
  abbrev AllEmpty : Bool → List ℕ → List ℕ → List ℕ → Type 0
  AllEmpty true entry contention waiting = (entry ≡ []) × (waiting ≡ [])
  AllEmpty false entry contention waiting = Unit {0}

  all_empty : (entry contention waiting : List ℕ) → AllEmpty (both (empty entry) (both (empty contention) (eqb (length waiting) 0))) entry contention waiting
  all_empty [] [] waiting = at (eqb (length waiting) 0) (equal (length waiting) 0)
    where
      at : (b : Bool) → Equal b (length waiting) 0 → AllEmpty b [] [] waiting
      at true e = (refl, none waiting e)
      at false e = tt
  all_empty [] (first ∷ rest) waiting = tt
  all_empty (first ∷ rest) contention waiting = tt

  exit_owned_refines : (it : ListObject) (word : WordSeen) → let o = with_word it word in
      Stepping actor ExitLook o → object_owner o ≡ actor.thread → Right actor Exit o (exit_owned (sight_of o) word)
  unfolding exit_owned
  exit_owned_refines it Free step q = absurd (actor.real (sym q))
  exit_owned_refines it Anonymous step q = absurd (actor.real (sym q))
  exit_owned_refines it Fat step q =
      by_below (Right actor Exit (with_word it Fat)) 1 it.depth
      (λ more. depth_refines actor Exit it (it.depth - 1) 0 step inside.1
      (record {
        woken = actor.ghost.woken;
        does = commit_exit (limit_of actor) actor.thread (plain_at actor (with_word it Fat)) q (λ e. omega (arith, more, e));
        others = λ t n. refl;
        asleep = step.self.woken;
        above = omega (arith, more);
        limit = omega (arith, step.inv.whole.monitor.0);
        ended = (first_commit step.self.logged.1, refl);
      }))
      (λ low. leave (both (empty it.entry) (both (empty it.contention) (eqb (length it.waiting) 0)))
      (all_empty it.entry it.contention it.waiting) (omega (arith, inside.0, low)))
    where
      inside : (0 < it.depth) × (it.holder ≡ actor.thread)
      inside = fat_owned it.holder it.depth actor.thread actor.real q

      leave : (b : Bool) → AllEmpty b it.entry it.contention it.waiting → it.depth ≡ 1 → let o = with_word it Fat in
          Right actor Exit o (let_go (sight_of o) (pick b Freed Unchanged) 0 ExitLeave)
      leave true (noentry, nowaiting) one =
          let lowered = others_depth actor.thread actor.states (with_word it Fat) actor.ghost 0 inside.1 (λ t n. step.inv.threads t) in
          let free = others_word actor.thread actor.states (with_depth (with_word it Fat) 0) actor.ghost Free
          (λ t n. keeps_deflated (actor.states t) actor.thread t it.holder n inside.1
          (sym (step.inv.threads t).placed.entry ∙ (ap (count t) noentry ∙ count_none t)) (sym (step.inv.threads t).placed.waiting
          ∙ (ap (count t) nowaiting ∙ count_none t)))
          lowered in
          let_go_refines (with_word it Fat) Freed 0 ExitLeave step
          (record {
            owns = q;
            one = one;
            others = free;
            seated = (inside.1, refl, actor.real);
            relies = tt;
            operation = refl;
            stage = refl;
            limit = refl;
            saved = refl;
            monitor = refl;
            flag = λ k. step.inv.whole.flag.1;
            unstranded = unstranded_empty Free
                (update actor.states actor.thread (Running ExitLeave)) it.holder it.entry it.contention step.inv.whole.flag.1;
            unowned = refl;
            shallow = refl;
          })
      leave false e one =
          let_go_refines (with_word it Fat) Unchanged 0 ExitLeave step
          (record {
            owns = q;
            one = one;
            others = others_depth actor.thread actor.states (with_word it Fat) actor.ghost 0 inside.1 (λ t n. step.inv.threads t);
            seated = (inside.1, refl, actor.real);
            relies = tt;
            operation = refl;
            stage = refl;
            limit = refl;
            saved = refl;
            monitor = (omega arith, λ k. absurd (omega arith));
            flag = step.inv.whole.flag;
            unstranded = tt;
            unowned = refl;
            shallow = refl;
          })
  exit_owned_refines it (Flat owner c) step q =
      by_below (Right actor Exit (with_word it (Flat owner c))) 0 c
      (λ e. word_refines actor Exit (with_word it (Flat owner c)) (OwnFlat (c - 1)) step refl refl
      (record {
        keeps = λ t n. keeps_flat (actor.states t) actor.thread t it.holder n owner c (c - 1) q;
        does = commit_exit (limit_of actor) actor.thread (plain_at actor (with_word it (Flat owner c))) q (λ x. omega (arith, e, x)) ∙ ap finished
            (same_monitor refl (omega (arith, e)));
        monitor = (
          step.inv.whole.monitor.0,
          actor.real,
          omega (arith, step.inv.whole.monitor.2),
        );
        flag = step.inv.whole.flag;
        unstranded = tt;
        ended = (first_commit step.self.logged.1, refl);
      }))
      (λ e. let_go_refines (with_word it (Flat owner c)) Freed it.depth ExitTest step
      (record {
        owns = q;
        one = omega (arith, e);
        others = others_word actor.thread actor.states (with_word it (Flat owner c)) actor.ghost Free
            (λ t n. keeps_freed (actor.states t) actor.thread t it.holder n owner c q) (λ t n. step.inv.threads t);
        seated = (λ x. omega (arith, step.self.seated x actor.real, step.inv.whole.monitor.0), actor.real);
        relies = tt;
        operation = refl;
        stage = refl;
        limit = refl;
        saved = refl;
        monitor = step.inv.whole.monitor.0;
        flag = step.inv.whole.flag;
        unstranded = λ k. inl (actor.thread, rw (update_same actor.states actor.thread (Running ExitTest)) tt);
        unowned = refl;
        shallow = refl;
      }))
  exit_owned_refines it (Reserved owner c) step q =
      let (l, own) = reserved_owned owner c actor.thread actor.real q in
      go_on_refines actor _ ExitLook (ExitStore c) step (refl, refl, refl, refl, refl) (λ k. k) ((own, refl), l)

  pub exit_look_refines : (o : ListObject) → Stepping actor ExitLook o
      → Right actor Exit o (owner_only actor.thread (sight_of o) (owner_seen (sight_of o)) (exit_owned (sight_of o) o.word))
  exit_look_refines o step =
      owner_only_refines actor Exit o ExitLook (exit_owned (sight_of o) o.word) tt step (λ k. k) step.self.seated step.self.woken
      step.self.logged.1 (exit_owned_refines o o.word step)

  wait_owned_refines : (it : ListObject) (word : WordSeen) (limit : Limit) → let o = with_word it word in
      Stepping actor (WaitLook limit) o → object_owner o ≡ actor.thread → Right actor Wait o (wait_owned (sight_of o) limit word)
  unfolding wait_owned
  wait_owned_refines it Free limit step q = absurd (actor.real (sym q))
  wait_owned_refines it Anonymous limit step q = absurd (actor.real (sym q))
  wait_owned_refines it Fat limit step q =
      let (l, held) = fat_owned it.holder it.depth actor.thread actor.real q in
      move_refines actor Wait _ (WaitLook limit) (WaitGiveUp limit) step (λ k. k) (λ k. k)
      (record {
        seated = (held, l, actor.real);
        placed = step.self.placed;
        relies = (tt, held, actor.real);
        logged = step.self.logged;
        saved = tt;
        woken = step.self.woken;
      })
  wait_owned_refines it (Flat owner c) limit step q = go_on_refines actor _ (WaitLook limit) (WaitGoIn limit) step (refl, refl, refl, refl, refl) (λ k. k) q
  wait_owned_refines it (Reserved owner c) limit step q = go_on_refines actor _ (WaitLook limit) (WaitCancel limit) step (refl, refl, refl, refl, refl) (λ k. k) tt

  pub wait_look_refines : (o : ListObject) (limit : Limit) → Stepping actor (WaitLook limit) o
      → Right actor Wait o (owner_only actor.thread (sight_of o) (owner_seen (sight_of o)) (wait_owned (sight_of o) limit o.word))
  wait_look_refines o limit step =
      owner_only_refines actor Wait o (WaitLook limit) (wait_owned (sight_of o) limit o.word) tt step (λ k. k) step.self.seated step.self.woken
      step.self.logged.1 (wait_owned_refines o o.word limit step)
