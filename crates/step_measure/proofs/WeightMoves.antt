-- One object with lists: a step lowers its own thread's weight by more than it raises those of all other threads.
use Prim.Native.Nat.{ℕ, ◌+◌, ◌≤◌}
use mathlib.Core.Path.{◌≡◌, ap, ◌∙◌}
use mathlib.Core.Bool.{true}
use mathlib.Core.List.{List, [], ◌∷◌}
use native.Mathlib.Omega.{arith}
use Rattle.laws.proofs.Choice.{false≢true}
use Rattle.laws.proofs.Update.{update_same, update_other}
use Rattle.chains.specs.declared.named.Chain.{Chain}
use Rattle.lock_word.specs.declared.meaning.WordSeen.{WordSeen}
use Rattle.lock_rules.specs.{Numbers.returned_of, Rules.decide}
use Rattle.std.specs.Prelude.{Option, Some, None}
use Rattle.lock_rules.specs.declared.Effect.{Effect}
use Rattle.lock_rules.specs.declared.{Doing.Doing, ThreadState.ThreadState, ChainWork.ChainWork}
use Rattle.lock_rules.specs.declared.ThreadState.TheVariants.{Running}
use Rattle.lock_rules.specs.declared.Taken.TheVariants.{First, All}
use Rattle.lock_rules.specs.declared.ChainWork.TheVariants.{Stay, Join, JoinAndHand, Hand, Move, MoveAndLetOut, SendBack}
use Rattle.lock_rules.proofs.Changes.{handed, moved, sent_back}
use Rattle.lock_rules.proofs.Objects.{ListObject, chain_of, sight_of}
use Rattle.lock_rules.proofs.Perform.{taken, changed_states, changed_so, moved_states, states_after, object_after, effected, perform}
use Rattle.step_bounds.specs.SixSteps.{is_step}
use Rattle.step_bounds.proofs.RankMoves.{work_word}
use Rattle.step_measure.proofs.Sums.{Falls}
use Rattle.step_measure.proofs.Weights.{look_more, more_after, more_seen, weight, word_raises, handed_raises, moved_raises, let_out_raises, sent_back_raises}
use Rattle.step_measure.proofs.WeightRules.{work_raise, step_raise, Lowers, decide_lowers}

-- the work on chains, and nothing but it
module _ (more : ℕ) (states : ℕ → ThreadState) (o : ListObject) (t : ℕ) where
  changed_raises : (change : ThreadState → ThreadState) (r : ℕ) → ((state : ThreadState) → weight more (change state) ≤ weight more state + r) → (list : List ℕ)
      → weight more (changed_states change states list t) ≤ weight more (states t) + r
  changed_raises change r raises list = changed_so (λ before next. weight more next ≤ weight more before + r) (λ state. omega arith) change raises states list t

  work_raises : (work : ChainWork) → weight more (states_after work states o t) ≤ weight more (states t) + work_raise work more
  work_raises Stay = omega arith
  work_raises (Join chain) = omega arith
  work_raises (JoinAndHand chain) = changed_raises handed 0 (handed_raises more) (taken First o.entry)
  work_raises Hand = changed_raises handed 0 (handed_raises more) (taken First o.entry)
  work_raises (Move from which) = changed_raises moved 3 (moved_raises more) (taken which (chain_of from o))
  work_raises MoveAndLetOut =
      omega (arith, changed_raises moved 3 (moved_raises more) o.contention, let_out_raises more (moved_states Chain.Contention All states o t))
  work_raises (SendBack u) = changed_raises sent_back more (sent_back_raises more) (u ∷ [])

-- the weights of threads in these states at an object with this word
abbrev pub weights : WordSeen → (ℕ → ThreadState) → ℕ → ℕ
weights word states t = weight (look_more word) (states t)

module _ (thread : ℕ) (states : ℕ → ThreadState) (o : ListObject) where
  performed_falls : (action : Option Effect) → Lowers (look_more o.word) (weights o.word states thread) action
      → let result = perform thread states o action in
      is_step (returned_of result.answer) ≡ true → Falls thread (weights o.word states) (weights result.object.word result.states)
  performed_falls None lowers step = false≢true step
  performed_falls (Some effect) lowers step =
      let now = effected thread effect o in
      let more = look_more o.word in
      let after = more_after effect.word more in
      let word : look_more (object_after effect.work thread states now).word ≡ after =
      ap look_more (work_word effect.work thread states now) ∙ more_seen thread effect.word o.word in
      record {
        raise = step_raise more after effect.work;
        own = rw (word, update_same (states_after effect.work states now) thread effect.state) lowers;
        other = λ t other. rw (word, update_other (states_after effect.work states now) thread effect.state t other)
            (omega (arith, work_raises after states now t effect.work, word_raises more after (states t)));
      }

  pub step_falls : (doing : Doing) → states thread ≡ Running doing
      → let result = perform thread states o (decide thread (sight_of o) doing) in
      is_step (returned_of result.answer) ≡ true → Falls thread (weights o.word states) (weights result.object.word result.states)
  step_falls doing running = performed_falls (decide thread (sight_of o) doing) (rw running (decide_lowers thread o doing))
