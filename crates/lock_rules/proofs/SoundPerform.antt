-- An action whose effect owes nothing keeps the object sound.
use Prim.Native.Nat.{ℕ, suc, ◌-◌, ◌≤◌, ◌<◌}
use mathlib.Core.Path.{◌≡◌, refl, sym, ap, ◌∙◌}
use mathlib.Core.Logic.{◌≢◌, ◌⊎◌, inl, inr}
use mathlib.Core.Bool.{Bool, true, false}
use mathlib.Core.List.{List, [], ◌∷◌}
use native.Mathlib.Omega.{arith}
use lib.Dec.{eqb}
use Rattle.laws.specs.{Choice.pick, Update.update, Count.count}
use Rattle.laws.proofs.Choice.{equal?, either_way as by_case}
use Rattle.laws.proofs.Update.{update_same, update_other}
use Rattle.laws.proofs.Count.{count_none, count_same}
use Rattle.laws.proofs.Filter.{count_parted}
use Rattle.chains.specs.declared.named.Chain.{Chain}
use Rattle.chains.proofs.Falling.{Falling, falling_failing}
use Rattle.lock_word.specs.Depth.{depth_limit}
use Rattle.lock_rules.proofs.Changes.{seen_after, handed, moved, is_queued_exit, let_out_state, look_again, sent_back}
use Rattle.lock_rules.specs.declared.Limit.TheVariants.{Unlimited, Ticks}
use Rattle.lock_rules.specs.declared.{Limit.Limit, Doing.Doing, ThreadState.ThreadState, WordChange.WordChange, Taken.Taken, ChainWork.ChainWork}
use Rattle.std.specs.Prelude.{Option, Some, None}
use Rattle.lock_rules.specs.declared.Effect.{Effect}
use Rattle.lock_rules.specs.declared.ThreadState.TheVariants.{Idle, Running}
use Rattle.lock_word.specs.declared.meaning.WordSeen.{WordSeen}
use Rattle.lock_word.specs.declared.meaning.WordSeen.TheVariants.{Free, Anonymous, Fat, Flat, Reserved}
use Rattle.lock_rules.specs.declared.WordChange.TheVariants.{Unchanged, Freed, OwnFlat, OwnReserved, Cancelled, Inflated}
use Rattle.lock_rules.specs.declared.Taken.TheVariants.{First, All}
use Rattle.lock_rules.specs.declared.ChainWork.TheVariants.{Stay, Join, JoinAndHand, Hand, Move, MoveAndLetOut, SendBack}
use Rattle.lock_rules.proofs.Each.{each_doing, each_state, each_chain}
use Rattle.lock_rules.proofs.Objects.{ListObject, chain_of, empty}
use Rattle.lock_rules.proofs.Perform.{count_join, taking, taken, left, count_taken, first_of, changed_states, changed_so, joined_object, handed_object}
use Rattle.lock_rules.proofs.Perform.{enter_queue_all, count_entered_all, falling_entered, moved_object, moved_states, states_after, object_after, effected, perform}
use Rattle.lock_rules.proofs.Invariant.{InChains, Placed}
use Rattle.lock_rules.proofs.Membership.{PlacedAt, placed_left, placed_unmoved, members_after}
use Rattle.lock_rules.proofs.SharedFacts.{idle_changed}
use Rattle.lock_rules.proofs.ListSound.{LimitFine, LeftFine, DoingFine, StateFine, WordFine, SoundObject}
use Rattle.lock_rules.proofs.SoundEffects.{InNone, Joins, EntryHeld, ChangeFine, ActionFine, either_way}

-- the word after the step
word_after_fine : (threads thread : ℕ) → 0 < thread → thread ≤ threads → (change : WordChange) (word : WordSeen) → ChangeFine change → WordFine threads word
    → WordFine threads (seen_after thread change word)
word_after_fine threads thread real low Unchanged word fine valid = valid
word_after_fine threads thread real low Freed word fine valid = tt
word_after_fine threads thread real low (OwnFlat c) word fine valid = (real, low, fine)
word_after_fine threads thread real low (OwnReserved c) word fine valid = (real, low, fine)
word_after_fine threads thread real low Cancelled Free fine valid = tt
word_after_fine threads thread real low Cancelled Anonymous fine valid = tt
word_after_fine threads thread real low Cancelled Fat fine valid = tt
word_after_fine threads thread real low Cancelled (Flat owner c) fine valid = valid
word_after_fine threads thread real low Cancelled (Reserved owner c) fine valid = at (eqb c 0)
  where
    at : (b : Bool) → WordFine threads (pick b Free (Flat owner (c - 1)))
    at true = tt
    at false = (valid.0, valid.1, omega (arith, valid.2))
word_after_fine threads thread real low Inflated word fine valid = tt

-- the other threads' states
look_again_fine : (doing : Doing) → DoingFine doing → DoingFine (look_again doing)
look_again_fine = each_doing _ (search)

sent_back_fine : (state : ThreadState) → StateFine state → StateFine (sent_back state)
sent_back_fine = each_state _ (search look_again_fine)

pub handed_fine : (state : ThreadState) → StateFine state → StateFine (handed state)
handed_fine = each_state _ (search)

left_fine : (limit : Limit) → LimitFine limit → LeftFine limit
left_fine Unlimited fine = tt
left_fine (Ticks left) fine = fine.1

moved_fine : (state : ThreadState) → StateFine state → StateFine (moved state)
moved_fine = each_state _ (search, search, search, search, λ saved fine. (fine.0, fine.1, left_fine saved.limit fine.2))

module _ (states : ℕ → ThreadState) (fine : (t : ℕ) → StateFine (states t)) where
  update_fine : (u : ℕ) (state : ThreadState) → StateFine state → (t : ℕ) → StateFine (update states u state t)
  update_fine u state f t = by_case (equal? t u) (λ q. rw (q, update_same states u state) f) (λ n. rw (update_other states u state t n) (fine t))

  pub changed_fine : (change : ThreadState → ThreadState) → ((state : ThreadState) → StateFine state → StateFine (change state)) → (list : List ℕ) (t : ℕ)
      → StateFine (changed_states change states list t)
  changed_fine change kept list t = changed_so (λ before after. StateFine before → StateFine after) (λ state is. is) change kept states list t (fine t)

  states_after_fine : (work : ChainWork) (o : ListObject) (t : ℕ) → StateFine (states_after work states o t)
  states_after_fine Stay o t = fine t
  states_after_fine (Join chain) o t = fine t
  states_after_fine (JoinAndHand chain) o t = changed_fine handed handed_fine (taken First o.entry) t
  states_after_fine Hand o t = changed_fine handed handed_fine (taken First o.entry) t
  states_after_fine (Move from which) o t = changed_fine moved moved_fine (taken which (chain_of from o)) t
  states_after_fine MoveAndLetOut o t =
      either_way StateFine (is_queued_exit (moved_states Chain.Contention All states o t)) tt (changed_fine moved moved_fine o.contention t)
  states_after_fine (SendBack u) o t = changed_fine sent_back sent_back_fine (u ∷ []) t

-- an idle thread stays idle
idle_after : (work : ChainWork) (states : ℕ → ThreadState) (o : ListObject) (t : ℕ) → states t ≡ Idle
    → states_after work states o t ≡ Idle
idle_after Stay states o t e = e
idle_after (Join chain) states o t e = e
idle_after (JoinAndHand chain) states o t e = idle_changed handed refl states (taken First o.entry) t e
idle_after Hand states o t e = idle_changed handed refl states (taken First o.entry) t e
idle_after (Move from which) states o t e = idle_changed moved refl states (taken which (chain_of from o)) t e
idle_after MoveAndLetOut states o t e = ap let_out_state (idle_changed moved refl states o.contention t e)
idle_after (SendBack u) states o t e = idle_changed sent_back refl states (u ∷ []) t e

-- the thread that steps, which was in no chain, is in the one that it joins
module _ (thread : ℕ) where
  own_joined : (chain : Chain) (o : ListObject) (state : ThreadState) → InChains 0 0 0 thread o.entry o.contention o.waiting → Joins (Join chain) state
      → PlacedAt thread state (joined_object chain thread o)
  own_joined chain o state p = at chain (count_same thread [] ∙ ap suc (count_none thread))
    where
      at : (chain : Chain) → count thread (thread ∷ []) ≡ 1 → Joins (Join chain) state → PlacedAt thread state (joined_object chain thread o)
      at Chain.Entry one (a, b, c) =
          record {
            entry = omega (arith, count_join Chain.Entry thread thread o.rank o.entry, one, p.entry, a);
            contention = p.contention ∙ sym b;
            waiting = p.waiting ∙ sym c;
          }
      at Chain.Contention one (a, b, c) =
          record {
            entry = p.entry ∙ sym a;
            contention = omega (arith, count_join Chain.Contention thread thread o.rank o.contention, one, p.contention, b);
            waiting = p.waiting ∙ sym c;
          }
      at Chain.Waiting one (a, b, c) =
          record {
            entry = p.entry ∙ sym a;
            contention = p.contention ∙ sym b;
            waiting = omega (arith, count_join Chain.Waiting thread thread o.rank o.waiting, one, p.waiting, c);
          }

  own_out : (o : ListObject) (state : ThreadState) → InChains 0 0 0 thread o.entry o.contention o.waiting → InNone state → PlacedAt thread state o
  own_out o state p (a, b, c) = record { entry = p.entry ∙ sym a; contention = p.contention ∙ sym b; waiting = p.waiting ∙ sym c }

  -- whoever is not in a chain is not taken from it
  untaken : (list : List ℕ) (which : Taken) → count thread list ≡ 0 → count thread (taken which list) ≡ 0
  untaken list which out = omega (arith, count_taken which list thread, out)

  own_after : (work : ChainWork) (states : ℕ → ThreadState) (o : ListObject) (state : ThreadState)
      → InChains 0 0 0 thread o.entry o.contention o.waiting → Joins work state
      → PlacedAt thread state (object_after work thread states o)
  own_after Stay states o state p joins = own_out o state p joins
  own_after (Join chain) states o state p joins = own_joined chain o state p joins
  own_after (JoinAndHand chain) states o state p joins =
      own_joined chain (handed_object o) state (placed_left thread Idle o p (untaken o.entry First p.entry)) joins
  own_after Hand states o state p joins = placed_left thread state o (own_out o state p joins) (untaken o.entry First p.entry)
  own_after (Move from which) states o state p joins =
      placed_unmoved thread state o (own_out o state p joins) from (taking which (chain_of from o)) (untaken (chain_of from o) which (at from))
    where
      at : (from : Chain) → count thread (chain_of from o) ≡ 0
      at Chain.Entry = p.entry
      at Chain.Contention = p.contention
      at Chain.Waiting = p.waiting
  own_after MoveAndLetOut states o state p (a, b, c) =
      record {
        entry = omega (
          arith,
          count_parted (λ t. is_queued_exit (moved_states Chain.Contention All states o t)) (enter_queue_all o.rank o.entry o.contention) thread,
          count_entered_all thread o.rank o.entry o.contention,
          p.entry,
          p.contention,
          a,
        );
        contention = count_none thread ∙ sym b;
        waiting = p.waiting ∙ sym c;
      }
  own_after (SendBack u) states o state p joins = own_out o state p joins

-- word, holder, depth and entry chain after the work; `was` was the holder, and `queued` what holder 0 said of the entry chain
module _ (threads : ℕ) where
  abbrev WholeFine : ListObject → Type 0
  WholeFine o = WordFine threads o.word × (o.holder ≤ threads) × (o.depth ≤ depth_limit) × (o.holder ≡ 0 → o.depth ≡ 0) × (o.holder ≡ 0 → o.entry ≡ [])

  pub whole_handed : (o : ListObject) → ((t : ℕ) → 0 < count t o.entry → (0 < t) × (t ≤ threads)) → WordFine threads o.word → WholeFine (handed_object o)
  whole_handed o members word = let (low, alone) = at o.entry members in (word, low, omega arith, λ e. refl, alone)
    where
      at : (queue : List ℕ) → ((t : ℕ) → 0 < count t queue → (0 < t) × (t ≤ threads)) → (first_of queue ≤ threads) × (first_of queue ≡ 0 → left First queue ≡ [])
      at [] members = (omega arith, λ e. refl)
      at (first ∷ rest) members =
          let (real, low) = members first (omega (arith, count_same first rest)) in
          (low, λ e. absurd (omega (arith, real, e)))

  whole_after : (work : ChainWork) (thread was : ℕ) (states : ℕ → ThreadState) (o : ListObject)
      → ((t : ℕ) → 0 < count t o.entry → (0 < t) × (t ≤ threads))
      → (was ≡ 0 → o.entry ≡ [])
      → EntryHeld work was o.holder → WordFine threads o.word → o.holder ≤ threads → o.depth ≤ depth_limit → (o.holder ≡ 0 → o.depth ≡ 0)
      → WholeFine (object_after work thread states o)
  whole_after Stay thread was states o members queued held word low deep shallow = (word, low, deep, shallow, λ e. queued (held e))
  whole_after (Join chain) thread was states o members queued held word low deep shallow =
      let unheld : (list : List ℕ) → o.holder ≡ 0 → list ≡ [] = λ list e. absurd (held e) in each_chain (λ c. WholeFine (joined_object c thread o)) (search unheld) chain
  whole_after (JoinAndHand Chain.Entry) thread was states o members queued held word low deep shallow = absurd held
  whole_after (JoinAndHand Chain.Contention) thread was states o members queued held word low deep shallow = whole_handed o members word
  whole_after (JoinAndHand Chain.Waiting) thread was states o members queued held word low deep shallow = whole_handed o members word
  whole_after Hand thread was states o members queued held word low deep shallow = whole_handed o members word
  whole_after (Move Chain.Entry which) thread was states o members queued held word low deep shallow = absurd held
  whole_after (Move Chain.Contention which) thread was states o members queued held word low deep shallow = (word, low, deep, shallow, λ e. absurd (held e))
  whole_after (Move Chain.Waiting which) thread was states o members queued held word low deep shallow = (word, low, deep, shallow, λ e. absurd (held e))
  whole_after MoveAndLetOut thread was states o members queued held word low deep shallow = (word, low, deep, shallow, λ e. absurd (held e))
  whole_after (SendBack u) thread was states o members queued held word low deep shallow = (word, low, deep, shallow, λ e. queued (held e))

-- the entry chain stays in falling rank, whatever is done to it
pub falling_left : (rank : ℕ → ℕ) (which : Taken) (list : List ℕ) → Falling rank list → Falling rank (left which list)
falling_left rank First [] falls = tt
falling_left rank First (first ∷ rest) falls = falls.1
falling_left rank All list falls = tt

abbrev pub Ordered : ListObject → Type 0
Ordered o = Falling o.rank o.entry

ordered_joined : (chain : Chain) (thread : ℕ) (o : ListObject) → Ordered o → Ordered (joined_object chain thread o)
ordered_joined Chain.Entry thread o falls = falling_entered o.rank o.entry (thread ∷ []) falls
ordered_joined Chain.Contention thread o falls = falls
ordered_joined Chain.Waiting thread o falls = falls

ordered_moved : (from : Chain) (which : Taken) (o : ListObject) → Ordered o → Ordered (moved_object from which o)
ordered_moved Chain.Entry which o falls = falling_entered o.rank (left which o.entry) (taken which o.entry) (falling_left o.rank which o.entry falls)
ordered_moved Chain.Contention which o falls = falling_entered o.rank o.entry (taken which o.contention) falls
ordered_moved Chain.Waiting which o falls = falling_entered o.rank o.entry (taken which o.waiting) falls

ordered_after : (work : ChainWork) (thread : ℕ) (states : ℕ → ThreadState) (o : ListObject) → Ordered o → Ordered (object_after work thread states o)
ordered_after Stay thread states o falls = falls
ordered_after (Join chain) thread states o falls = ordered_joined chain thread o falls
ordered_after (JoinAndHand chain) thread states o falls = ordered_joined chain thread (handed_object o) (falling_left o.rank First o.entry falls)
ordered_after Hand thread states o falls = falling_left o.rank First o.entry falls
ordered_after (Move from which) thread states o falls = ordered_moved from which o falls
ordered_after MoveAndLetOut thread states o falls = falling_failing o.rank _ (moved_object Chain.Contention All o).entry (ordered_moved Chain.Contention All o falls)
ordered_after (SendBack u) thread states o falls = falls

-- a step of `thread` at an object that is sound
module _ (threads thread : ℕ) (states : ℕ → ThreadState) (o : ListObject) (sound : SoundObject threads states o) (doing : Doing)
    (running : states thread ≡ Running doing)
    (real : 0 < thread) (low : thread ≤ threads) where
  pub performed_idle : (action : Option Effect) (t : ℕ) → t ≢ thread → states t ≡ Idle → (perform thread states o action).states t ≡ Idle
  performed_idle None t n e = e
  performed_idle (Some effect) t n e =
      update_other (states_after effect.work states (effected thread effect o)) thread effect.state t n
      ∙ idle_after effect.work states (effected thread effect o) t e

  pub performed_fine : (action : Option Effect) → ActionFine thread o.holder action → ((t : ℕ) → StateFine (states t)) → (t : ℕ)
      → StateFine ((perform thread states o action).states t)
  performed_fine None owes fine t = fine t
  performed_fine (Some effect) owes fine t =
      update_fine (states_after effect.work states (effected thread effect o)) (states_after_fine states fine effect.work
      (effected thread effect o)) thread
      effect.state owes.state t

  holder_low : (holder : ℕ) → (holder ≡ o.holder) ⊎ ((holder ≡ thread) × (o.holder ≡ 0)) → holder ≤ threads
  holder_low holder (inl e) = omega (arith, e, sound.holder)
  holder_low holder (inr (e, free)) = omega (arith, e, low)

  pub performed_sound : (action : Option Effect) → ActionFine thread o.holder action → ((t : ℕ) → 0 < count t o.entry → (0 < t) × (t ≤ threads))
      → SoundObject threads (perform thread states o action).states (perform thread states o action).object
  performed_sound None owes members = sound
  performed_sound (Some effect) owes members =
      let (word, holder, deep, shallow, empty) =
      whole_after threads effect.work thread o.holder states (effected thread effect o) members sound.empty owes.entry
      (word_after_fine threads thread real low effect.word o.word owes.word sound.word) (holder_low effect.holder owes.holder) owes.deep
      owes.shallow in
      record {
        nobody = performed_idle (Some effect) 0 (λ e. omega (arith, real, e)) sound.nobody;
        placed = λ t. at t (equal? t thread);
        word = word;
        holder = holder;
        deep = deep;
        shallow = shallow;
        empty = empty;
        ordered = ordered_after effect.work thread states (effected thread effect o) sound.ordered;
      }
    where
      at : (t : ℕ) → (t ≡ thread) ⊎ (t ≢ thread) → let after = object_after effect.work thread states (effected thread effect o) in
          Placed (update (states_after effect.work states (effected thread effect o)) thread effect.state t) t after.entry after.contention
          after.waiting
      at t (inl q) =
          rw (q, update_same (states_after effect.work states (effected thread effect o)) thread effect.state)
          (own_after thread effect.work states (effected thread effect o) effect.state (rw running at (sound.placed thread)) owes.joins)
      at t (inr n) =
          rw (update_other (states_after effect.work states (effected thread effect o)) thread effect.state t n)
          (members_after effect.work thread states (effected thread effect o) (λ u m. sound.placed u) t n)
