-- How every step of a thread that can take one ends, by the rows of document 01's list.
use Prim.Native.Nat.{ℕ, ◌≤◌}
use mathlib.Core.Path.{◌≡◌, sym, ◌∙◌}
use mathlib.Core.Logic.{◌≢◌}
use mathlib.Core.Bool.{Bool, not}
use mathlib.Core.List.{List, [], ◌∷◌}
use lib.Dec.{eqb}
use Rattle.laws.specs.Choice.{pick}
use Rattle.lock_word.specs.Meaning.{seen_word, owner_of, depth_of}
use Rattle.lock_word.proofs.Owning.{owner_owned}
use Rattle.lock_word.specs.declared.reading.LockWord.{LockWord}
use Rattle.std.specs.Prelude.{Some, Option, None}
use Rattle.lock_word.specs.Depth.{depth_limit}
use Rattle.lock_rules.specs.Rules.{owner_seen, owner_only, holder_only, decide, enter_look, enter_store, cancel, enter_check, enter_try}
use Rattle.lock_rules.specs.Rules.{go_in_again, go_in, exit_go_in}
use Rattle.lock_rules.specs.Rules.{exit_owned, exit_store, exit_test, exit_tell, exit_leave, wait_owned, wait_inflate, wait_give_up, wait_resume}
use Rattle.lock_rules.specs.Rules.{notify_owned, notify_all_owned}
use Rattle.lock_rules.proofs.Each.{Words, each_word}
use Rattle.lock_rules.specs.declared.Effect.{Effect}
use Rattle.lock_rules.specs.declared.{Limit.Limit, Doing.Doing, Sight.Sight}
use Rattle.lock_rules.specs.declared.Limit.TheVariants.{Unlimited, Ticks}
use Rattle.lock_word.specs.declared.meaning.WordSeen.{WordSeen}
use Rattle.lock_rules.specs.declared.Doing.TheVariants.{EnterLook, EnterStore, EnterCancel, EnterGoIn, EnterCheck, EnterTry, ExitLook}
use Rattle.lock_rules.specs.declared.Doing.TheVariants.{ExitStore, ExitGoIn, ExitTest, ExitTell, ExitLeave, WaitLook, WaitCancel, WaitGoIn}
use Rattle.lock_rules.specs.declared.Doing.TheVariants.{WaitInflate, WaitGiveUp, WaitResume, NotifyLook, NotifyAllLook}
use Rattle.lock_table.specs.{Operation.operation_number, Phase.phase_number, Ownership.ownership_in}
use Rattle.lock_table.specs.declared.operation.Operation.TheVariants.{Wait}
use Rattle.lock_table.specs.declared.phase.Phase.{Phase}
use Rattle.lock_table.specs.declared.phase.Phase.TheVariants.{Look, Cancel, GoIn, Inflate, GiveUp, Resume}
use Rattle.lock_table.specs.declared.record.{Monitor.Monitor, ObjectRecord.ObjectRecord, Table.Table}
use Rattle.lock_perform.specs.{State.doing_activity, State.wait_activity, Sight.sight_at}
use Rattle.lock_refusals.specs.Rows.{Row, row}
use Rattle.lock_refusals.specs.Refusals.{not_the_owner, too_deep, unruled}
use Rattle.lock_refusals.proofs.Rows.{first_applies}
use Rattle.lock_refusals.proofs.RuleEnds.{Ends, Ordinary, ordinary_ends, either_ordinary, owner_ends, go_in_ends}

-- a step's refusals by its rule, of a thread with this operation and phase; `none` says that no rule fits
abbrev pub rule_refusals : ℕ → ℕ → ℕ → ℕ → Monitor → Bool → List Row
rule_refusals thread operation phase owner monitor none =
    row 18 (not_the_owner thread operation phase owner)
    ∷ row 19 (too_deep thread operation phase monitor)
    ∷ row 20 none
    ∷ []

-- the owner by an object's word is the one that the rules see
owner_is : (word : LockWord) (monitor : Monitor) → (ownership_in (Some word) monitor).thread ≡ owner_of (seen_word word) monitor.holder monitor.depth
unfolding ownership_in
owner_is word monitor = owner_owned (owner_of (seen_word word) monitor.holder monitor.depth) (depth_of (seen_word word) monitor.depth)

-- what a thread of this number sees of an object, doing this
module _ (table : Table) (object : ObjectRecord) (word : LockWord) (thread : ℕ) (some : thread ≢ 0) (small : object.monitor.depth ≤ depth_limit) where
  abbrev sight : Sight
  sight = sight_at table object word

  -- the first of the rows that applies, for a thread with this operation and phase that decides on this, at its object with the owner in sight
  abbrev rows_first : ℕ → Phase → Option Effect → ℕ
  rows_first operation phase action = first_applies (rule_refusals thread operation (phase_number phase) (owner_seen sight) object.monitor (unruled action))

  -- the record of such a thread, at an object with this owner, ends as its list says
  abbrev Decided : ℕ → ℕ → Doing → Type 0
  Decided o owner doing =
      let own = doing_activity thread o doing in
      let action = decide thread sight doing in
      Ends sight action
      (first_applies
      (rule_refusals thread (operation_number own.operation) (phase_number own.phase) owner object.monitor (unruled action)))

  -- a rule that goes by the word is accepted or has no case, whatever the word is; the owner's, whatever word has an owner, so that it never says 18
  by_word : (rule : WordSeen → Option Effect) → Words (λ word. Ordinary (rule word)) → Ordinary (rule sight.word)
  by_word rule all = each_word (λ word. Ordinary (rule word)) all sight.word

  by_owned : (rule : WordSeen → Option Effect) → Words (λ word. owner_of word sight.holder sight.depth ≢ 0 → Ordinary (rule word))
      → let decided = owner_only thread sight (owner_seen sight) (rule sight.word) in
      Ends sight decided (pick (not (eqb (owner_seen sight) thread)) 18 (pick (unruled decided) 20 0))
  by_owned rule all =
      owner_ends thread sight (owner_seen sight) (rule sight.word)
      (λ same. each_word (λ word. owner_of word sight.holder sight.depth ≢ 0 → Ordinary (rule word)) all sight.word (λ none. some (sym same ∙ none)))

  plain : (doing : Doing) → let action = decide thread sight doing in Ordinary action → Ends sight action (pick (unruled action) 20 0)
  plain doing = ordinary_ends sight (decide thread sight doing)

  held : (action : Option Effect) → Ordinary action → Ordinary (holder_only thread sight action)
  held action ordinary = either_ordinary (eqb sight.holder thread) action None ordinary tt

  -- the rows of a timed wait are those of a wait
  as_wait : (o : ℕ) (phase : Phase) (saved : ℕ) (limit : Limit) (doing : Doing)
      → let action = decide thread sight doing in
      Ends sight action (rows_first (operation_number Wait) phase action)
      → Ends sight action (rows_first (operation_number (wait_activity o phase saved limit).operation) (wait_activity o phase saved limit).phase action)
  unfolding wait_activity operation_number
  as_wait o phase saved Unlimited doing ends = ends
  as_wait o phase saved (Ticks left) doing ends = ends

  seen_ends : (o : ℕ) (doing : Doing) → Decided o (owner_seen sight) doing
  unfolding decide doing_activity phase_number operation_number enter_look enter_store cancel enter_check enter_try go_in_again go_in exit_go_in exit_owned exit_store exit_test
      exit_tell exit_leave wait_owned wait_inflate wait_give_up wait_resume notify_owned notify_all_owned
  seen_ends o EnterLook = plain EnterLook (by_word (enter_look thread sight) (search either_ordinary))
  seen_ends o (EnterStore count) = plain (EnterStore count) (search either_ordinary)
  seen_ends o EnterCancel = plain EnterCancel (by_word (cancel sight EnterLook) (search))
  seen_ends o EnterGoIn = go_in_ends thread sight some small
  seen_ends o EnterCheck = plain EnterCheck (held _ (by_word (enter_check thread sight) (search either_ordinary)))
  seen_ends o EnterTry = plain EnterTry (held _ (by_word (enter_try thread sight) (search either_ordinary)))
  seen_ends o ExitLook = by_owned (exit_owned sight) (search either_ordinary)
  seen_ends o (ExitStore count) = plain (ExitStore count) (search either_ordinary)
  seen_ends o ExitGoIn = plain ExitGoIn (search either_ordinary)
  seen_ends o ExitTest = plain ExitTest (search either_ordinary)
  seen_ends o ExitTell = plain ExitTell (search either_ordinary)
  seen_ends o ExitLeave = plain ExitLeave (search either_ordinary)
  seen_ends o (WaitLook limit) = as_wait o Look 0 limit (WaitLook limit) (by_owned (wait_owned sight limit) (search))
  seen_ends o (WaitCancel limit) = as_wait o Cancel 0 limit (WaitCancel limit) (plain (WaitCancel limit) (by_word (cancel sight (WaitLook limit)) (search)))
  seen_ends o (WaitGoIn limit) = as_wait o GoIn 0 limit (WaitGoIn limit) (plain (WaitGoIn limit) (search either_ordinary))
  seen_ends o (WaitInflate limit) =
      as_wait o Inflate 0 limit (WaitInflate limit) (plain (WaitInflate limit) (held _ (by_word (wait_inflate thread sight limit) (search either_ordinary))))
  seen_ends o (WaitGiveUp limit) =
      as_wait o GiveUp 0 limit (WaitGiveUp limit) (plain (WaitGiveUp limit) (held _ (by_word (wait_give_up sight limit) (search either_ordinary))))
  seen_ends o (WaitResume suspension) =
      as_wait o Resume suspension.depth suspension.limit (WaitResume suspension)
      (plain (WaitResume suspension) (held _ (by_word (wait_resume sight suspension) (search either_ordinary))))
  seen_ends o NotifyLook = by_owned (notify_owned sight) (search either_ordinary)
  seen_ends o NotifyAllLook = by_owned (notify_all_owned sight) (search)

  pub decide_ends : (o : ℕ) (doing : Doing) → Decided o (ownership_in (Some word) object.monitor).thread doing
  decide_ends o doing = rw (owner_is word object.monitor) (seen_ends o doing)
