-- What a change of the object by one thread leaves of the others: once for each kind of change.
use Prim.Native.Nat.{ℕ, zero, suc}
use mathlib.Core.Path.{◌≡◌, refl, sym, ap, ◌∙◌, subst}
use mathlib.Core.Logic.{◌≢◌, ◌⊎◌, inl, inr}
use mathlib.Core.Bool.{Bool, true, false}
use mathlib.Core.List.{[], ◌∷◌}
use Rattle.laws.specs.Choice.{pick, both, either}
use Rattle.laws.specs.{Update.update, Count.count}
use Rattle.laws.proofs.Choice.{equal?, either_way, false≢true}
use Rattle.laws.proofs.Update.{update_same, update_other}
use Rattle.laws.proofs.Count.{count_none, count_same, count_other}
use Rattle.chains.specs.declared.named.Chain.{Chain}
use Rattle.lock_rules.specs.{Rules.onward, PlainMonitor.above_zero, Feed.OperationLog}
use Rattle.lock_rules.proofs.Each.{each_state, each_carried, each_chain}
use Rattle.lock_rules.proofs.{Changes.moved, Changes.is_queued_exit, Changes.let_out_state, Changes.sent_back, Perform.moved_states}
use Rattle.lock_rules.specs.declared.{Suspension.Suspension, OnwardStep.OnwardStep, ThreadState.ThreadState}
use Rattle.lock_rules.specs.declared.ThreadState.TheVariants.{Idle, Running, Queued, Contending, Waiting}
use Rattle.lock_rules.specs.declared.Taken.TheVariants.{First, All}
use Rattle.lock_word.specs.declared.meaning.WordSeen.{WordSeen}
use Rattle.lock_word.specs.declared.meaning.WordSeen.TheVariants.{Fat, Reserved}
use Rattle.lock_rules.proofs.Objects.{ListObject, chain_of, with_word, with_flag, with_holder, with_depth}
use Rattle.lock_rules.proofs.Perform.{Parting, taking, taken, first_of, changed_states, joined_object, handed_object, handed_states, parted_object, moved_object}
use Rattle.lock_rules.proofs.Perform.{let_out_object, let_out_states}
use Rattle.lock_rules.proofs.Invariant.{parked, seat, Seated, Placed, Unreserved, FlatOf, Relies, state_woken?, Ghost, ThreadOk}
use Rattle.lock_rules.proofs.Reliances.{seated_depth, seated_handed, not_own_unreserved, thin_unreserved, KeepsReliance, relies_flag, relies_handed}
use Rattle.lock_rules.proofs.Reliances.{relies_word, relies_inflated, relies_sent_back, sent_back_row}
use Rattle.lock_rules.proofs.Membership.{Members, PlacedAt, first_taken, not_taken, was_in, members_joined, members_handed, members_moved}
use Rattle.lock_rules.proofs.Membership.{members_let_out}

-- every thread but one
abbrev pub Others : ℕ → (ℕ → ThreadState) → ListObject → Ghost → Type 0
Others thread states o ghost = (t : ℕ) → t ≢ thread → ThreadOk t (states t) o (ghost.logs t) (ghost.woken t) (ghost.saved t)

-- the others, and the thread itself in its new state
pub with_own : (thread : ℕ) (states : ℕ → ThreadState) (o : ListObject) (ghost : Ghost) (state : ThreadState) (log : OperationLog)
    → Others thread states o ghost
    → ThreadOk thread state o log (ghost.woken thread) (ghost.saved thread)
    → (t : ℕ) → ThreadOk t (update states thread state t) o (update ghost.logs thread log t) (ghost.woken t) (ghost.saved t)
with_own thread states o ghost state log others self t =
    either_way (equal? t thread) (λ e. rw (e, update_same states thread state, update_same ghost.logs thread log) self)
    (λ n. rw (update_other states thread state t n, update_other ghost.logs thread log t n) (others t n))

-- the same thread beside another object
pub beside : {t : ℕ} {state : ThreadState} {o o' : ListObject} {log : OperationLog} {woken : Bool} {suspension : Suspension}
    → ThreadOk t state o log woken suspension
    → Seated (seat state) t o'.holder o'.depth → Placed state t o'.entry o'.contention o'.waiting
    → Relies state t o'.word o'.flag o'.holder → ThreadOk t state o' log woken suspension
beside a seated placed relies = record { seated = seated; placed = placed; relies = relies; logged = a.logged; saved = a.saved; woken = a.woken }

places : {thread : ℕ} {states : ℕ → ThreadState} {o : ListObject} {ghost : Ghost} → Others thread states o ghost → Members thread states o
places others t n = (others t n).placed

-- word fat, flag 0, all contenders in the entry chain, and no exit
abbrev pub inflated : (ℕ → ThreadState) → ListObject → ℕ → ListObject
inflated states o depth =
    with_depth (with_flag (with_word (let_out_object (moved_states Chain.Contention All states o) (moved_object Chain.Contention All o)) Fat) false) depth

-- a queued exit sits parked, and is not woken
exit_sits : (state : ThreadState) → is_queued_exit state ≡ true → (seat state ≡ parked) × (state_woken? state ≡ false)
exit_sits =
    each_state _ (
      λ e. false≢true e,
      λ doing e. false≢true e,
      each_carried _ (search, search, λ limit e. false≢true e, λ saved e. false≢true e),
      λ e. false≢true e,
      λ saved e. false≢true e,
    )

-- one that is let out, and any other thread
let_out_ok : {t : ℕ} {o o' : ListObject} {log : OperationLog} {woken : Bool} {suspension : Suspension} (state : ThreadState)
    → ThreadOk t state o log woken suspension → Seated (seat state) t o'.holder o'.depth → PlacedAt t (let_out_state state) o'
    → Relies state t o'.word o'.flag o'.holder → ThreadOk t (let_out_state state) o' log woken suspension
let_out_ok {t} {o} {o'} {log} {woken} {suspension} state a seated placed relies = at (is_queued_exit state) refl placed
  where
    at : (exit : Bool) → is_queued_exit state ≡ exit → PlacedAt t (pick exit Idle state) o' → ThreadOk t (pick exit Idle state) o' log woken suspension
    at true exits placed =
        let (sits, asleep) = exit_sits state exits in
        let away : Seated parked t o'.holder o'.depth = rw sits at seated in
        record { seated = λ e z. absurd (away.0 e); placed = placed; relies = tt; logged = tt; saved = tt; woken = a.woken ∙ asleep }
    at false stays placed = beside a seated placed relies

-- nobody is left to let out
none_left : (state : ThreadState) → is_queued_exit (let_out_state state) ≡ false
none_left = each_state _ (search, search, each_carried _ (search), search, search)

-- a queued thread that is handed the monitor
handed_ok : (t : ℕ) (o : ListObject) (log : OperationLog) (woken : Bool) (suspension : Suspension) → t ≢ 0 → first_of o.entry ≡ t → (carried : OnwardStep)
    → ThreadOk t (Queued carried) o log woken suspension → PlacedAt t (Running (onward carried)) (handed_object o)
    → ThreadOk t (Running (onward carried)) (handed_object o) log woken suspension
handed_ok t o log woken suspension real first =
    each_carried _ (λ a placed. search, λ a placed. search (thin_unreserved), λ limit a placed. search, λ saved a placed. search)

-- moving from the waiting chain wakes
abbrev wakes : Chain → Bool
wakes Chain.Entry = false
wakes Chain.Contention = false
wakes Chain.Waiting = true

module _ (thread : ℕ) (states : ℕ → ThreadState) (o : ListObject) (ghost : Ghost) where
  pub others_word : (word : WordSeen) → ((t : ℕ) → t ≢ thread → KeepsReliance (states t) t o.word word o.holder) → Others thread states o ghost
      → Others thread states (with_word o word) ghost
  others_word word keeps others t n =
      let a = others t n in
      beside a a.seated a.placed (relies_word t o.word o.flag o.holder (states t) word (keeps t n) a.relies)

  pub others_flag : Others thread states o ghost → Others thread states (with_flag o true) ghost
  others_flag others t n =
      let a = others t n in
      beside a a.seated a.placed (relies_flag t o.word o.flag o.holder (states t) a.relies)

  pub others_depth : (depth : ℕ) → o.holder ≡ thread → Others thread states o ghost → Others thread states (with_depth o depth) ghost
  others_depth depth q others t n =
      let a = others t n in
      beside a (seated_depth (seat (states t)) thread t o.holder o.depth depth n q a.seated) a.placed a.relies

  -- the thread becomes holder
  pub others_taken : o.holder ≡ 0 → Others thread states o ghost → Others thread states (with_holder o thread) ghost
  others_taken q others t n =
      let a = others t n in
      let was : o.holder ≡ t → t ≢ 0 → ⊥ = λ e z. z (sym e ∙ q) in
      beside a (seated_handed (seat (states t)) t o.holder o.depth thread o.depth was (λ e z. n (sym e)) a.seated) a.placed
      (relies_handed t o.word o.flag o.holder thread was (states t) a.relies)

  -- the thread joins a chain
  pub others_joined : (chain : Chain) → Others thread states o ghost → Others thread states (joined_object chain thread o) ghost
  others_joined chain others t n =
      let a = others t n in
      each_chain (λ c. PlacedAt t (states t) (joined_object c thread o) → ThreadOk t (states t) (joined_object c thread o) (ghost.logs t) (ghost.woken t) (ghost.saved t))
      (search beside) chain (members_joined thread states o (places others) chain t n)

  -- what the plain monitor knows of the others stays
  pub others_ghost : (woken : ℕ → Bool) (saved : ℕ → Suspension) → ((t : ℕ) → t ≢ thread → woken t ≡ ghost.woken t)
      → ((t : ℕ) → t ≢ thread → saved t ≡ ghost.saved t)
      → Others thread states o ghost → Others thread states o (record { logs = ghost.logs; woken = woken; saved = saved })
  others_ghost woken saved e q others t n = rw (e t n, q t n) (others t n)

  -- the holder hands the monitor over
  pub others_handed : o.holder ≡ thread → states 0 ≡ Idle → Others thread states o ghost → Others thread (handed_states states o) (handed_object o) ghost
  others_handed h nobody others t n = at (count t (taken First o.entry)) refl (others t n) (members_handed thread states o (places others) t n)
    where
      was : o.holder ≡ t → t ≢ 0 → ⊥
      was k p = n (sym k ∙ h)

      at : (k : ℕ) → count t (taken First o.entry) ≡ k → ThreadOk t (states t) o (ghost.logs t) (ghost.woken t) (ghost.saved t)
          → PlacedAt t (handed_states states o t) (handed_object o)
          → ThreadOk t (handed_states states o t) (handed_object o) (ghost.logs t) (ghost.woken t) (ghost.saved t)
      at zero e a =
          rw e
          (λ placed. beside a
          (seated_handed (seat (states t)) t o.holder o.depth (first_of o.entry) 0 was (not_taken o.entry t e) a.seated) placed
          (relies_handed t o.word o.flag o.holder (first_of o.entry) was (states t) a.relies))
      at (suc k) e a =
          let ((carried, v), c) = was_in t (states t) o a.placed Chain.Entry (taking First o.entry) k e in
          let b : ThreadOk t (Queued carried) o (ghost.logs t) (ghost.woken t) (ghost.saved t) = rw v at a in
          rw (e, v) (handed_ok t o (ghost.logs t) (ghost.woken t) (ghost.saved t) b.seated.1 (first_taken o.entry t k e) carried b)

  -- threads of a chain move to the entry chain; waiters are woken
  pub others_moved : (from : Chain) (part : Parting (chain_of from o)) → Others thread states o ghost
      → Others thread (changed_states moved states part.gone) (parted_object from part.gone part.kept o)
      (record {
        logs = ghost.logs;
        woken = λ t. either (both (wakes from) (above_zero (count t part.gone))) (ghost.woken t);
        saved = ghost.saved;
      })
  others_moved from part others t n =
      at from part (count t part.gone) refl (others t n) (members_moved thread states o (places others) from part t n)
    where
      at : (from : Chain) (part : Parting (chain_of from o)) (k : ℕ) → count t part.gone ≡ k
          → ThreadOk t (states t) o (ghost.logs t) (ghost.woken t) (ghost.saved t)
          → PlacedAt t (changed_states moved states part.gone t) (parted_object from part.gone part.kept o)
          → ThreadOk t (changed_states moved states part.gone t) (parted_object from part.gone part.kept o) (ghost.logs t)
          (either (both (wakes from) (above_zero (count t part.gone))) (ghost.woken t)) (ghost.saved t)
      at Chain.Entry part zero e a = rw e (λ placed. beside a a.seated placed a.relies)
      at Chain.Contention part zero e a = rw e (λ placed. beside a a.seated placed a.relies)
      at Chain.Waiting part zero e a = rw e (λ placed. beside a a.seated placed a.relies)
      at Chain.Entry part (suc k) e a =
          let ((carried, v), c) = was_in t (states t) o a.placed Chain.Entry part k e in
          let b : ThreadOk t (Queued carried) o (ghost.logs t) (ghost.woken t) (ghost.saved t) = rw v at a in
          rw (e, v) (λ placed. beside b b.seated placed b.relies)
      at Chain.Contention part (suc k) e a =
          let (v, c) = was_in t (states t) o a.placed Chain.Contention part k e in
          let b : ThreadOk t Contending o (ghost.logs t) (ghost.woken t) (ghost.saved t) = rw v at a in
          rw (e, v)
          (λ placed. record {
            seated = b.seated;
            placed = placed;
            relies = not_own_unreserved t o.word b.relies;
            logged = b.logged;
            saved = tt;
            woken = b.woken;
          })
      at Chain.Waiting part (suc k) e a =
          let ((suspension, v), c) = was_in t (states t) o a.placed Chain.Waiting part k e in
          let b : ThreadOk t (Waiting suspension) o (ghost.logs t) (ghost.woken t) (ghost.saved t) = rw v at a in
          rw (e, v) (λ placed. record { seated = b.seated; placed = placed; relies = b.relies; logged = b.logged; saved = b.saved; woken = refl })

  -- the queued exits are let out of the entry chain
  others_let_out : Others thread states o ghost → Others thread (let_out_states states) (let_out_object states o) ghost
  others_let_out others t n =
      let a = others t n in
      let_out_ok (states t) a a.seated (members_let_out thread states o (places others) t n) a.relies

-- the holder inflates a word that is its own or nobody's
pub others_inflated : (thread : ℕ) (states : ℕ → ThreadState) (o : ListObject) (ghost : Ghost) (depth : ℕ) → o.holder ≡ thread
    → ((t : ℕ) → t ≢ thread → FlatOf t o.word → ⊥) → Unreserved o.word → Others thread states o ghost
    → Others thread (let_out_states (moved_states Chain.Contention All states o)) (inflated states o depth) ghost
others_inflated thread states o ghost depth h foreign u others t n =
    let moves = moved_states Chain.Contention All states o in
    let a = others_let_out thread moves (moved_object Chain.Contention All o) ghost
    (others_moved thread states o ghost Chain.Contention (taking All o.contention) others) t n in
    beside a (seated_depth (seat (let_out_state (moves t))) thread t o.holder o.depth depth n h a.seated) a.placed
    (relies_inflated t o.word o.flag o.holder (λ q z. n (sym q ∙ h)) (foreign t n) u (let_out_state (moves t))
    (sym a.placed.contention ∙ count_none t) (none_left (moves t)) a.relies)

-- the thread for which the word was reserved, after a cancel
sent_back_ok : (t c : ℕ) (it : ListObject) (word' : WordSeen) (log : OperationLog) (woken : Bool) (suspension : Suspension) (state : ThreadState)
    → ThreadOk t state (with_word it (Reserved t c)) log woken suspension
    → ThreadOk t (sent_back state) (with_word it word') log woken suspension
sent_back_ok t c it word' log woken suspension =
    each_state _ (
      λ a. beside a a.seated a.placed tt,
      λ doing a.
          (let (same_operation, same_seat, same_stage, same_saved, same_limit) = sent_back_row doing in
          record {
            seated = rw same_seat a.seated;
            placed = a.placed;
            relies = relies_sent_back t c word' it.flag it.holder doing a.relies;
            logged = rw (same_operation, same_stage, same_limit) a.logged;
            saved = rw same_saved a.saved;
            woken = rw same_saved a.woken;
          }),
      each_carried _ (λ a. absurd a.relies, λ a. absurd a.relies, λ limit a. absurd a.relies, λ saved a. absurd a.relies),
      λ a. absurd a.relies,
      λ saved a. absurd a.relies,
    )

pub others_cancelled : (thread : ℕ) (states : ℕ → ThreadState) (ghost : Ghost) (it : ListObject) (u c : ℕ) (word' : WordSeen)
    → Others thread states (with_word it (Reserved u c)) ghost
    → Others thread (changed_states sent_back states (u ∷ [])) (with_word it word') ghost
others_cancelled thread states ghost it u c word' others t x = at (equal? t u) (others t x)
  where
    at : (t ≡ u) ⊎ (t ≢ u) → ThreadOk t (states t) (with_word it (Reserved u c)) (ghost.logs t) (ghost.woken t) (ghost.saved t)
        → ThreadOk t (changed_states sent_back states (u ∷ []) t) (with_word it word') (ghost.logs t) (ghost.woken t) (ghost.saved t)
    at (inl q) a =
        let here : count t (u ∷ []) ≡ 1 = rw q (count_same u [] ∙ ap suc (count_none u)) in
        rw here
        (sent_back_ok t c it word' _ _ _ (states t)
        (subst (λ (owner : ℕ). ThreadOk t (states t) (with_word it (Reserved owner c)) (ghost.logs t) (ghost.woken t) (ghost.saved t)) (sym q) a))
    at (inr p) a =
        rw (count_other t u [] p ∙ count_none t)
        (beside a a.seated a.placed
        (relies_word t (Reserved u c) it.flag it.holder (states t) word'
        (record {
          unreserved = λ k. absurd k;
          flat = λ k. absurd k;
          chained = λ l k. absurd k;
          held = λ e k. absurd k;
          not_own = λ k. absurd k;
          kept = λ e k. absurd (p (sym k.0));
          thin = λ k. absurd k;
        })
        a.relies))
