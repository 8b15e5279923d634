-- Whole schedules on tables with lists: a thread's steps, taken and left, stay within what there are from its start.
use Prim.Native.Nat.{ℕ, ◌+◌, ◌≤◌, ◌<◌}
use mathlib.Core.List.{List, [], ◌∷◌}
use native.Mathlib.Omega.{arith}
use Rattle.lock_word.specs.declared.meaning.WordSeen.{WordSeen}
use Rattle.lock_rules.specs.{Numbers.phase_of, Events.returned}
use Rattle.lock_rules.specs.Feed.{Plain, feed}
use Rattle.lock_rules.specs.declared.{ThreadState.ThreadState, Doing.Doing, event.Event.Event}
use Rattle.lock_rules.proofs.Each.{each_word, each_doing, each_state}
use Rattle.lock_rules.proofs.Status.{Runs}
use Rattle.lock_rules.proofs.Tables.{ListTable, turn, final}
use Rattle.lock_rules.proofs.Lift.{World, world_turn}
use Rattle.step_bounds.specs.SixSteps.{own_steps, kept_after}
use Rattle.step_bounds.specs.Starts.{Start, Unparked, most_from, own_start}
use Rattle.step_bounds.proofs.Ranks.{look_left, doing_left, left}
use Rattle.step_bounds.proofs.EveryEvent.{left_to, event_counted}

-- who can take a step has one left
look_some : (n : ℕ) → 0 < n → (word : WordSeen) → 0 < look_left n word
look_some n some = each_word _ (some, omega arith, some, λ owner c. some, λ owner c. omega arith)

doing_some : (word : WordSeen) (doing : Doing) → 0 < doing_left word doing
doing_some word =
    let enter = look_some 4 (omega arith) word in
    let exit = look_some 5 (omega arith) word in
    each_doing _ (search arith)

pub runs_some : (word : WordSeen) (state : ThreadState) → Runs state → 0 < left word state
runs_some word =
    each_state _ (λ runs. absurd runs.1, λ doing runs. doing_some word doing, λ carried runs. absurd runs.0, λ runs. absurd runs.0, λ saved runs. absurd runs.0)

module _ (threads objects : ℕ) where
  -- `along`, on lists
  abbrev pub along_lists : {A : Type 0} → (ℕ → A) → (Event → ℕ → A → A) → ℕ → A → ListTable → List Event → A
  along_lists unparked own n kept table [] = kept
  along_lists unparked own n kept table (event ∷ rest) =
      let result = turn threads objects table event in
      let before = phase_of (table.threads n).state in
      let after = phase_of (result.table.threads n).state in
      along_lists unparked own n (kept_after unparked own n event (returned result.reply) before after kept) result.table rest

  pub lists_within : (n : ℕ) (events : List Event) (table : ListTable) (plain : Plain) → World table plain → (steps : ℕ) (start : Start)
      → steps + left_to table n ≤ most_from start
      → along_lists (λ after. 0) own_steps n steps table events + left_to (final threads objects table events) n
      ≤ most_from (along_lists Unparked own_start n start table events)
  lists_within n [] table plain world steps start within = within
  lists_within n (event ∷ rest) table plain world steps start within =
      let result = turn threads objects table event in
      lists_within n rest result.table (feed plain event result.reply) (world_turn threads objects table plain world event) _ _
      (event_counted threads objects table plain world n steps start within event)
