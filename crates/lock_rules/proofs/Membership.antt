-- Who is in which chain after the work on chains: every thread but the one that steps is in the chain that its state names, before and after.
use Prim.Native.Nat.{ℕ, zero, suc, ◌+◌}
use mathlib.Core.Path.{◌≡◌, refl, sym, ap, ◌∙◌}
use mathlib.Core.Logic.{◌≢◌}
use mathlib.Core.Bool.{Bool, true, false}
use mathlib.Core.List.{List, [], ◌∷◌}
use native.Mathlib.Omega.{arith}
use Rattle.laws.specs.{Choice.pick, Count.count}
use Rattle.laws.proofs.Choice.{equal?, either_way, false≢true}
use Rattle.laws.proofs.Count.{count_none, count_same, count_other}
use Rattle.laws.proofs.Filter.{count_failing}
use Rattle.chains.specs.declared.named.Chain.{Chain}
use Rattle.lock_rules.proofs.{Changes.moved, Changes.is_queued_exit, Changes.let_out_state, Changes.sent_back}
use Rattle.lock_rules.proofs.Invariant.{in_contention, in_waiting, Placed}
use Rattle.lock_rules.specs.declared.{Suspension.Suspension, OnwardStep.OnwardStep, ThreadState.ThreadState, ChainWork.ChainWork}
use Rattle.lock_rules.specs.declared.ThreadState.TheVariants.{Idle, Queued, Contending, Waiting}
use Rattle.lock_rules.specs.declared.Taken.TheVariants.{First, All}
use Rattle.lock_rules.specs.declared.ChainWork.TheVariants.{Stay, Join, JoinAndHand, Hand, Move, MoveAndLetOut, SendBack}
use Rattle.lock_rules.proofs.Each.{each_state}
use Rattle.lock_rules.proofs.Objects.{ListObject, chain_of}
use Rattle.lock_rules.proofs.Perform.{count_entered_all, count_join, taken, count_taken, first_of, changed_states, joined_object}
use Rattle.lock_rules.proofs.Perform.{Parting, taking, handed_object, handed_states, parted_object, moved_object, moved_states, let_out_object}
use Rattle.lock_rules.proofs.Perform.{let_out_states, states_after, object_after}
use Rattle.lock_rules.proofs.Reliances.{is_queued, is_contending, is_waiting}

abbrev pub Members : ℕ → (ℕ → ThreadState) → ListObject → Type 0
Members thread states o = (t : ℕ) → t ≢ thread → Placed (states t) t o.entry o.contention o.waiting

-- a thread that is not in a list is neither its first nor in the rest
pub not_first : (t first : ℕ) (rest : List ℕ) → count t (first ∷ rest) ≡ 0 → (t ≢ first) × (count t rest ≡ 0)
not_first t first rest out =
    either_way (equal? t first) (λ q. absurd (omega (arith, out, ap (λ (x : ℕ). count t (x ∷ rest)) (sym q), count_same t rest)))
    (λ n. (n, sym (count_other t first rest n) ∙ out))

-- going back from a store moves nobody
pub placed_sent_back : {t : ℕ} {entry contention waiting : List ℕ} (state : ThreadState) → Placed state t entry contention waiting
    → Placed (sent_back state) t entry contention waiting
placed_sent_back = each_state _ (search)

-- a queued exit is in the entry chain alone
exit_in_entry : (state : ThreadState) → is_queued_exit state ≡ true → (in_contention state ≡ 0) × (in_waiting state ≡ 0)
exit_in_entry = each_state _ (search, search, search, λ e. false≢true e, λ saved e. false≢true e)

-- one that is let out is in no chain, and nobody else moves
placed_let_out : {t : ℕ} {entry contention waiting stay : List ℕ} (state : ThreadState) → Placed state t entry contention waiting
    → count t stay ≡ pick (is_queued_exit state) 0 (count t entry) → Placed (let_out_state state) t stay contention waiting
placed_let_out {t} {entry} {contention} {waiting} {stay} state p = at (is_queued_exit state) refl
  where
    at : (exit : Bool) → is_queued_exit state ≡ exit → count t stay ≡ pick exit 0 (count t entry) → Placed (pick exit Idle state) t stay contention waiting
    at true exits e = let (c, w) = exit_in_entry state exits in record { entry = e; contention = p.contention ∙ c; waiting = p.waiting ∙ w }
    at false stays e = record { entry = e ∙ p.entry; contention = p.contention; waiting = p.waiting }

-- the chains of an object, and where a thread in a state is in them
abbrev pub PlacedAt : ℕ → ThreadState → ListObject → Type 0
PlacedAt t state o = Placed state t o.entry o.contention o.waiting

-- the state of a thread that is in the chain
abbrev pub ParkedIn : Chain → ThreadState → Type 0
ParkedIn Chain.Entry state = (carried : OnwardStep) × (state ≡ Queued carried)
ParkedIn Chain.Contention state = state ≡ Contending
ParkedIn Chain.Waiting state = (suspension : Suspension) × (state ≡ Waiting suspension)

-- the first of a list is who is taken from it first, if there is one
pub first_taken : (queue : List ℕ) (t k : ℕ) → count t (taken First queue) ≡ suc k → first_of queue ≡ t
first_taken [] t k e = absurd (omega (arith, count_none t, e))
first_taken (first ∷ rest) t k e = either_way (equal? t first) (λ q. sym q) (λ n. absurd (omega (arith, count_other t first [] n, count_none t, e)))

pub not_taken : (queue : List ℕ) (t : ℕ) → count t (taken First queue) ≡ 0 → first_of queue ≡ t → t ≢ 0 → ⊥
not_taken [] t out e real = real (sym e)
not_taken (first ∷ rest) t out e real = (not_first t first [] out).0 (sym e)

module _ (t : ℕ) (state : ThreadState) (o : ListObject) (p : PlacedAt t state o) where
  -- a thread that is not among those that join, leave or move stays where it is
  pub placed_joined : (chain : Chain) (thread : ℕ) → t ≢ thread → PlacedAt t state (joined_object chain thread o)
  placed_joined chain thread n = at chain (count_other t thread [] n ∙ count_none t)
    where
      at : (chain : Chain) → count t (thread ∷ []) ≡ 0 → PlacedAt t state (joined_object chain thread o)
      at Chain.Entry out =
          record { entry = omega (arith, count_join Chain.Entry t thread o.rank o.entry, out, p.entry); contention = p.contention; waiting = p.waiting }
      at Chain.Contention out =
          record {
            entry = p.entry;
            contention = omega (arith, count_join Chain.Contention t thread o.rank o.contention, out, p.contention);
            waiting = p.waiting;
          }
      at Chain.Waiting out =
          record {
            entry = p.entry;
            contention = p.contention;
            waiting = omega (arith, count_join Chain.Waiting t thread o.rank o.waiting, out, p.waiting);
          }

  pub placed_left : count t (taken First o.entry) ≡ 0 → PlacedAt t state (handed_object o)
  placed_left out = record { entry = omega (arith, count_taken First o.entry t, out, p.entry); contention = p.contention; waiting = p.waiting }

  placed_requeued : (part : Parting o.entry) → PlacedAt t state (parted_object Chain.Entry part.gone part.kept o)
  placed_requeued part =
      record {
        entry = omega (arith, count_entered_all t o.rank part.kept part.gone, part.parted t, p.entry);
        contention = p.contention;
        waiting = p.waiting;
      }

  pub placed_unmoved : (from : Chain) (part : Parting (chain_of from o)) → count t part.gone ≡ 0
      → PlacedAt t state (parted_object from part.gone part.kept o)
  placed_unmoved Chain.Entry part out = placed_requeued part
  placed_unmoved Chain.Contention part out =
      record {
        entry = omega (arith, count_entered_all t o.rank o.entry part.gone, out, p.entry);
        contention = omega (arith, part.parted t, out, p.contention);
        waiting = p.waiting;
      }
  placed_unmoved Chain.Waiting part out =
      record {
        entry = omega (arith, count_entered_all t o.rank o.entry part.gone, out, p.entry);
        contention = p.contention;
        waiting = omega (arith, part.parted t, out, p.waiting);
      }

  -- one that goes from a chain was in its state, and is not left in it
  pub was_in : (from : Chain) (part : Parting (chain_of from o)) (k : ℕ) → count t part.gone ≡ suc k
      → ParkedIn from state × (k + count t part.kept ≡ 0)
  was_in Chain.Entry part k e =
      let (carried, v, c) = is_queued state (k + count t part.kept) (omega (arith, p.entry, part.parted t, e)) in ((carried, v), c)
  was_in Chain.Contention part k e = is_contending state (k + count t part.kept) (omega (arith, p.contention, part.parted t, e))
  was_in Chain.Waiting part k e =
      let (suspension, v, c) = is_waiting state (k + count t part.kept) (omega (arith, p.waiting, part.parted t, e)) in ((suspension, v), c)

module _ (thread : ℕ) (states : ℕ → ThreadState) (o : ListObject) (members : Members thread states o) where
  pub members_joined : (chain : Chain) → Members thread states (joined_object chain thread o)
  members_joined chain t n = placed_joined t (states t) o (members t n) chain thread n

  pub members_handed : Members thread (handed_states states o) (handed_object o)
  members_handed t n = at (count t (taken First o.entry)) refl (members t n)
    where
      at : (k : ℕ) → count t (taken First o.entry) ≡ k → PlacedAt t (states t) o → PlacedAt t (handed_states states o t) (handed_object o)
      at zero e p = rw e (placed_left t (states t) o p e)
      at (suc k) e p =
          let ((carried, v), c) = was_in t (states t) o p Chain.Entry (taking First o.entry) k e in
          let p' : PlacedAt t (Queued carried) o = rw v at p in
          rw (e, v) (record { entry = omega (arith, c); contention = p'.contention; waiting = p'.waiting })

  pub members_moved : (from : Chain) (part : Parting (chain_of from o))
      → Members thread (changed_states moved states part.gone) (parted_object from part.gone part.kept o)
  members_moved from part t n = at from part (count t part.gone) refl (members t n)
    where
      at : (from : Chain) (part : Parting (chain_of from o)) (k : ℕ) → count t part.gone ≡ k → PlacedAt t (states t) o
          → PlacedAt t (changed_states moved states part.gone t) (parted_object from part.gone part.kept o)
      at from part zero e p = rw e (placed_unmoved t (states t) o p from part e)
      at Chain.Entry part (suc k) e p =
          let ((carried, v), c) = was_in t (states t) o p Chain.Entry part k e in
          rw (e, v) (placed_requeued t (Queued carried) o (rw v at p) part)
      at Chain.Contention part (suc k) e p =
          let (v, c) = was_in t (states t) o p Chain.Contention part k e in
          let p' : PlacedAt t Contending o = rw v at p in
          rw (e, v)
          (record {
            entry = omega (arith, count_entered_all t o.rank o.entry part.gone, p'.entry, c, e);
            contention = omega (arith, c);
            waiting = p'.waiting;
          })
      at Chain.Waiting part (suc k) e p =
          let ((suspension, v), c) = was_in t (states t) o p Chain.Waiting part k e in
          let p' : PlacedAt t (Waiting suspension) o = rw v at p in
          rw (e, v)
          (record {
            entry = omega (arith, count_entered_all t o.rank o.entry part.gone, p'.entry, c, e);
            contention = p'.contention;
            waiting = omega (arith, c);
          })

  pub members_let_out : Members thread (let_out_states states) (let_out_object states o)
  members_let_out t n = placed_let_out (states t) (members t n) (count_failing (λ u. is_queued_exit (states u)) o.entry t)

  pub members_sent_back : (u : ℕ) → Members thread (changed_states sent_back states (u ∷ [])) o
  members_sent_back u t n = at (count t (u ∷ [])) refl (members t n)
    where
      at : (k : ℕ) → count t (u ∷ []) ≡ k → PlacedAt t (states t) o → PlacedAt t (changed_states sent_back states (u ∷ []) t) o
      at zero e p = rw e p
      at (suc k) e p = rw e (placed_sent_back (states t) p)

pub members_after : (work : ChainWork) (thread : ℕ) (states : ℕ → ThreadState) (o : ListObject) → Members thread states o
    → Members thread (states_after work states o) (object_after work thread states o)
members_after Stay thread states o members = members
members_after (Join chain) thread states o members = members_joined thread states o members chain
members_after (JoinAndHand chain) thread states o members =
    members_joined thread (handed_states states o) (handed_object o) (members_handed thread states o members) chain
members_after Hand thread states o members = members_handed thread states o members
members_after (Move from which) thread states o members = members_moved thread states o members from (taking which (chain_of from o))
members_after MoveAndLetOut thread states o members =
    members_let_out thread (moved_states Chain.Contention All states o) (moved_object Chain.Contention All o)
    (members_moved thread states o members Chain.Contention (taking All o.contention))
members_after (SendBack u) thread states o members = members_sent_back thread states o members u
