-- One object with lists: a step leaves its thread fewer steps than it had. Another's event leaves a thread that was not parked no more than it had, and one
-- that was parked no more than there are from being unparked.
use Prim.Native.Nat.{ℕ, ◌+◌, ◌≤◌}
use mathlib.Core.Path.{◌≡◌, refl, ap, ◌∙◌}
use mathlib.Core.Logic.{◌≢◌}
use mathlib.Core.Bool.{Bool, true, false}
use mathlib.Core.List.{List, [], ◌∷◌}
use native.Mathlib.Omega.{arith}
use Rattle.laws.specs.Choice.{pick}
use Rattle.laws.proofs.Update.{update_same, update_other}
use Rattle.chains.specs.declared.named.Chain.{Chain}
use Rattle.lock_word.specs.declared.meaning.WordSeen.{WordSeen}
use Rattle.lock_rules.specs.{Numbers.phase_of, Numbers.returned_of, Rules.decide}
use Rattle.std.specs.Prelude.{Option, Some, None}
use Rattle.lock_rules.specs.declared.Effect.{Effect}
use Rattle.lock_rules.specs.declared.{Doing.Doing, ThreadState.ThreadState, ChainWork.ChainWork}
use Rattle.lock_rules.specs.declared.ThreadState.TheVariants.{Running}
use Rattle.lock_rules.specs.declared.Taken.TheVariants.{First, All}
use Rattle.lock_rules.specs.declared.ChainWork.TheVariants.{Stay, Join, JoinAndHand, Hand, Move, MoveAndLetOut, SendBack}
use Rattle.lock_rules.specs.declared.event.Event.TheVariants.{Step}
use Rattle.lock_rules.proofs.Each.{each_state, each_carried, each_chain}
use Rattle.lock_rules.proofs.Changes.{handed, moved, let_out_state, sent_back}
use Rattle.lock_rules.proofs.Status.{unparked}
use Rattle.lock_rules.proofs.Objects.{ListObject, chain_of, with_chain, sight_of}
use Rattle.lock_rules.proofs.Perform.{taken, changed_states, changed_so, handed_states, handed_object, moved_states, states_after, object_after, effected, perform}
use Rattle.lock_rules.proofs.Tick.{one_tick_less, expired, expired_so, tick_at, by_tick}
use Rattle.lock_rules.proofs.Invariant.{Unreserved, phase_row, ReliesOn}
use Rattle.step_bounds.specs.SixSteps.{is_step, own_steps}
use Rattle.step_bounds.specs.Starts.{Unparked, most_from}
use Rattle.step_bounds.proofs.Ranks.{doing_left, left, Keeps, left_kept, left_back}
use Rattle.step_bounds.proofs.RankRules.{Sends, Lowers, decide_lowers}

-- A thread whose state and whose object's word another's event has changed: it has no more steps left than it had, and if it was parked no more than there
-- are from being unparked to its new phase.
abbrev pub Bounded : WordSeen → ThreadState → WordSeen → ThreadState → Type 0
Bounded word state after next = left after next ≤ pick (unparked state) (left word state) (most_from (Unparked (phase_of next)))

-- a change that neither parks nor unparks a thread, and leaves it as many steps as it had
record Calm (word : WordSeen) (before after : ThreadState) : Type 0 where
  parks : unparked after ≡ unparked before
  same : left word after ≡ left word before

module _ (word : WordSeen) where
  same_calm : (state : ThreadState) → Calm word state state
  same_calm state = record { parks = refl; same = refl }

  behind_calm : (a b c : ThreadState) → Calm word a b → Calm word b c → Calm word a c
  behind_calm a b c first second = record { parks = second.parks ∙ first.parks; same = second.same ∙ first.same }

  moved_calm : (state : ThreadState) → Calm word state (moved state)
  moved_calm = each_state _ (search)

  ticked_calm : (state : ThreadState) → Calm word state (one_tick_less state)
  ticked_calm = each_state _ (search)

  module _ (after : WordSeen) (keeps : Keeps word after) where
    -- first such a change, then another
    then_bounded : {a b : ThreadState} (c : ThreadState) → Calm word a b → Bounded word b after c → Bounded word a after c
    then_bounded c calm bounded = rw (← calm.parks, ← calm.same) bounded

    running_bounded : (doing : Doing) → Bounded word (Running doing) after (Running doing)
    running_bounded doing = left_kept word after keeps (Running doing)

    pub same_bounded : (state : ThreadState) → Bounded word state after state
    same_bounded = each_state (λ state. Bounded word state after state) (search (arith, running_bounded))

    handed_bounded : (state : ThreadState) → Bounded word state after (handed state)
    handed_bounded = each_state _ (omega arith, running_bounded, each_carried _ (search arith), search arith, search arith)

    let_out_bounded : (state : ThreadState) → Bounded word state after (let_out_state state)
    let_out_bounded = each_state _ (omega arith, running_bounded, each_carried _ (search arith), search arith, search arith)

    sent_back_bounded : Unreserved after → (state : ThreadState) → Bounded word state after (sent_back state)
    sent_back_bounded clear = each_state _ (omega arith, λ doing. left_back word after clear (Running doing), search arith, search arith, search arith)

    -- one change made in any threads' states
    changed_bounded : (change : ThreadState → ThreadState) → ((state : ThreadState) → Bounded word state after (change state)) → (states : ℕ → ThreadState) (list : List ℕ) (t : ℕ)
        → Bounded word (states t) after (changed_states change states list t)
    changed_bounded = changed_so (λ before next. Bounded word before after next) same_bounded

    handing_bounded : (states : ℕ → ThreadState) (o : ListObject) (t : ℕ) → Bounded word (states t) after (handed_states states o t)
    handing_bounded states o t = changed_bounded handed handed_bounded states (taken First o.entry) t

    moved_bounded : (state : ThreadState) → Bounded word state after (moved state)
    moved_bounded state = then_bounded (moved state) (moved_calm state) (same_bounded (moved state))

    work_bounded : (work : ChainWork) (states : ℕ → ThreadState) (o : ListObject) (t : ℕ) → Sends work after → Bounded word (states t) after (states_after work states o t)
    work_bounded Stay states o t sends = same_bounded (states t)
    work_bounded (Join chain) states o t sends = same_bounded (states t)
    work_bounded (JoinAndHand chain) states o t sends = handing_bounded states o t
    work_bounded Hand states o t sends = handing_bounded states o t
    work_bounded (Move from which) states o t sends = changed_bounded moved moved_bounded states (taken which (chain_of from o)) t
    work_bounded MoveAndLetOut states o t sends =
        let between = moved_states Chain.Contention All states o t in
        then_bounded (let_out_state between) (changed_so (Calm word) same_calm moved moved_calm states o.contention t) (let_out_bounded between)
    work_bounded (SendBack u) states o t sends = changed_bounded sent_back (sent_back_bounded sends) states (u ∷ []) t

-- the work on chains leaves the word
chain_word : (chain : Chain) (o : ListObject) (list : List ℕ) → (with_chain chain o list).word ≡ o.word
chain_word = each_chain _ (search)

pub work_word : (work : ChainWork) (thread : ℕ) (states : ℕ → ThreadState) (o : ListObject) → (object_after work thread states o).word ≡ o.word
work_word Stay thread states o = refl
work_word (Join chain) thread states o = chain_word chain o _
work_word (JoinAndHand chain) thread states o = chain_word chain (handed_object o) _
work_word Hand thread states o = refl
work_word (Move from which) thread states o = chain_word from o _
work_word MoveAndLetOut thread states o = refl
work_word (SendBack u) thread states o = refl

one_more : (test : Bool) (steps : ℕ) → pick test (steps + 1) steps ≤ steps + 1
one_more true steps = omega arith
one_more false steps = omega arith

-- a step of `thread` at this object
module _ (thread : ℕ) (states : ℕ → ThreadState) (o : ListObject) (doing : Doing) (relies : ReliesOn (phase_row doing).reliance thread o.word o.flag o.holder) where
  other_bounded : (before : ℕ) (action : Option Effect) → Lowers thread o.word before action → (t : ℕ) → t ≢ thread
      → let result = perform thread states o action in Bounded o.word (states t) result.object.word (result.states t)
  other_bounded before None lowers t other = same_bounded o.word o.word (λ clear. clear) (states t)
  other_bounded before (Some effect) lowers t other =
      let now = effected thread effect o in
      rw (work_word effect.work thread states now, update_other (states_after effect.work states now) thread effect.state t other)
      (work_bounded o.word now.word lowers.keeps effect.work states now t lowers.sends)

  pub other_step : (t : ℕ) → t ≢ thread
      → let result = perform thread states o (decide thread (sight_of o) doing) in Bounded o.word (states t) result.object.word (result.states t)
  other_step = other_bounded _ (decide thread (sight_of o) doing) (decide_lowers thread (sight_of o) doing relies)

  -- its own: the step that is counted is one that it had left
  own_bounded : (before steps : ℕ) (action : Option Effect) → left o.word (states thread) ≡ before → Lowers thread o.word before action
      → let result = perform thread states o action in
      own_steps (Step thread) (returned_of result.answer) steps + left result.object.word (result.states thread) ≤ steps + before
  own_bounded before steps None is lowers = omega (arith, is)
  own_bounded before steps (Some effect) is lowers =
      let now = effected thread effect o in
      rw (work_word effect.work thread states now, update_same (states_after effect.work states now) thread effect.state)
      (omega (arith, lowers.own, one_more (is_step (returned_of effect.answer)) steps))

  pub own_step : (steps : ℕ) → states thread ≡ Running doing
      → let result = perform thread states o (decide thread (sight_of o) doing) in
      own_steps (Step thread) (returned_of result.answer) steps + left result.object.word (result.states thread)
      ≤ steps + left o.word (states thread)
  own_step steps running =
      rw running
      (own_bounded (doing_left o.word doing) steps (decide thread (sight_of o) doing) (ap (left o.word) running)
      (decide_lowers thread (sight_of o) doing relies))

-- a tick at this object
module _ (states : ℕ → ThreadState) (o : ListObject) (t : ℕ) where
  pub tick_bounded : Bounded o.word (states t) (tick_at states o).object.word ((tick_at states o).states t)
  tick_bounded =
      let word = o.word in
      let after = expired states o in
      let expires = expired_so states o (Calm word) (same_calm word) (behind_calm word) (ticked_calm word) (moved_calm word) t in
      let same = same_bounded word word (λ clear. clear) in
      let then = then_bounded word word (λ clear. clear) in
      by_tick states o (λ result. Bounded word (states t) result.object.word (result.states t)) (same (states t))
      (λ free. then (handed_states after.states after.object t) expires (handing_bounded word word (λ clear. clear) after.states after.object t))
      (λ held. then (after.states t) expires (same (after.states t)))
