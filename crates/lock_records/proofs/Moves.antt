-- Thread records written one at a time, as the work on chains does it: what the threads and their next indexes are then. All else in the table stays.
use Prim.Native.Nat.{ℕ, zero, suc, ◌≤◌, ◌<◌}
use mathlib.Core.Path.{◌≡◌, refl, sym, ap, ◌∙◌, subst, fun_ext}
use mathlib.Core.Logic.{◌≢◌, ◌⊎◌, inl, inr}
use mathlib.Core.Bool.{Bool}
use mathlib.Core.List.{List, [], ◌∷◌}
use native.Mathlib.Omega.{arith}
use lib.Dec.{eqb, ltb}
use lib.ListN.{length}
use borrow.Author.Tests.{eq-eqb, ne_eqb, ltb-true, ltb-false}
use Rattle.laws.specs.{Choice.pick, Update.update, Count.count}
use Rattle.laws.proofs.Choice.{either_way, split, equal?, pick_same}
use Rattle.laws.proofs.Update.{update_same, update_other, update_id}
use Rattle.laws.proofs.Count.{count_same}
use Rattle.chains.proofs.Listed.{Chain, chain_some}
use Rattle.chains.proofs.Walk.{walk}
use Rattle.lock_rules.proofs.Changes.{moved, sent_back}
use Rattle.lock_rules.specs.declared.ThreadState.{ThreadState}
use Rattle.lock_rules.specs.declared.ThreadState.TheVariants.{Idle}
use Rattle.lock_rules.proofs.Tables.{ListThread}
use Rattle.lock_table.specs.{Limits.thread_limit, Record.with_next}
use Rattle.lock_table.specs.Access.{thread_at, set_thread}
use Rattle.lock_table.specs.Chain.{moved as moved_record, move_all}
use Rattle.lock_table.proofs.Records.{BesideThreads, thread_set, thread_beside, set_thread_out}
use Rattle.lock_table.proofs.Walks.{next_none}
use Rattle.lock_table.specs.declared.record.{ThreadRecord.ThreadRecord, Table.Table}
use Rattle.lock_perform.specs.Moving.{sent_back_of}
use Rattle.lock_records.proofs.Written.{moved_written, sent_back_written}
use Rattle.lock_records.proofs.Represents.{thread_record, ThreadsWritten, record_is, next_is}

-- a thread in another state, where it is
abbrev pub change : (ThreadState → ThreadState) → ListThread → ListThread
change f thread = record { object = thread.object; state = f thread.state }

-- sent back by a cancel at object o, if it is there
abbrev pub sent_from : ℕ → ListThread → ListThread
sent_from o thread = record { object = thread.object; state = pick (eqb thread.object o) (sent_back thread.state) thread.state }

-- the threads are written in table t so, and all else in it is as before
pub record Moves (given : ℕ → ThreadRecord) (before t : Table) (threads : ℕ → ListThread) (next : ℕ → ℕ) : Type 0 where
  pub written : ThreadsWritten given t threads next
  pub beside : BesideThreads before t

-- the members of a chain have records
abbrev pub Inside : List ℕ → Type 0
Inside list = (n : ℕ) → 0 < count n list → (0 < n) × (n ≤ thread_limit)

beside_both : (a b c : Table) → BesideThreads a b → BesideThreads b c → BesideThreads a c
beside_both a b c p q =
    record {
      threadcount = q.threadcount ∙ p.threadcount;
      objectcount = q.objectcount ∙ p.objectcount;
      objects = q.objects ∙ p.objects;
      length_kept = q.length_kept ∙ p.length_kept;
    }

module _ (given : ℕ → ThreadRecord) (before t : Table) (threads : ℕ → ListThread) (next : ℕ → ℕ) (moves : Moves given before t threads next) where
  -- one record written
  pub moves_set : (n : ℕ) → 0 < n → n ≤ thread_limit → (thread : ListThread) (link : ℕ)
      → Moves given before (set_thread t n (thread_record n thread link (given n))) (update threads n thread) (update next n link)
  moves_set n low high thread link =
      record {
        written = record {
          records = thread_set t n (thread_record n thread link (given n)) moves.written.full low high ∙ fun_ext at;
          full = (thread_beside t n (thread_record n thread link (given n))).length_kept ∙ moves.written.full;
        };
        beside = beside_both before t (set_thread t n (thread_record n thread link (given n))) moves.beside (thread_beside t n (thread_record n thread link (given n)));
      }
    where
      at : (m : ℕ) → update (thread_at t) n (thread_record n thread link (given n)) m ≡ thread_record m (update threads n thread m) (update next n link m) (given m)
      at m =
          either_way (equal? m n)
          (λ e. rw (e, update_same (thread_at t) n (thread_record n thread link (given n)), update_same threads n thread, update_same next n link))
          (λ away. rw (update_other (thread_at t) n (thread_record n thread link (given n)) m away, update_other threads n thread m away, update_other next n link m away)
          (record_is given t threads next moves.written m))

  -- one record changed, its next index kept
  pub moves_change : (F : ThreadRecord → ThreadRecord) (thread : ListThread) (n : ℕ) → 0 < n → n ≤ thread_limit
      → F (thread_record n (threads n) (next n) (given n)) ≡ thread_record n thread (next n) (given n)
      → Moves given before (set_thread t n (F (thread_at t n))) (update threads n thread) next
  moves_change F thread n low high law =
      let same : F (thread_at t n) ≡ thread_record n thread (next n) (given n) = ap F (record_is given t threads next moves.written n) ∙ law in
      rw same (rw (update_id next n (next n) refl) at (moves_set n low high thread (next n)))

  -- nobody's record changed
  moves_none : (F : ThreadRecord → ThreadRecord) (f : ThreadState → ThreadState) (n : ℕ) → (n ≡ 0) ⊎ (thread_limit < n) → (threads n).state ≡ Idle → f Idle ≡ Idle
      → Moves given before (set_thread t n (F (thread_at t n))) (update threads n (change f (threads n))) next
  moves_none F f n out idle fixed =
      let same : threads n ≡ change f (threads n) = λ j. record { object = (threads n).object; state = (idle ∙ sym (ap f idle ∙ fixed)) j } in
      rw (set_thread_out t n (F (thread_at t n)) out, update_id threads n (change f (threads n)) same) moves

  -- the first of a chain, if there is one, changed on leaving it; the record of number 0 is not written
  pub moves_first : (F : ThreadRecord → ThreadRecord) (f : ThreadState → ThreadState) (first : ℕ) → first ≤ thread_limit
      → (threads 0).state ≡ Idle → f Idle ≡ Idle
      → (first ≢ 0 → F (thread_record first (threads first) (next first) (given first)) ≡ thread_record first (change f (threads first)) 0 (given first))
      → Moves given before (set_thread t first (F (thread_at t first))) (update threads first (change f (threads first))) (update next first 0)
  moves_first F f first high nobody fixed law =
      either_way (equal? first 0)
      (λ e.
      let ends : next first ≡ 0 =
      ap next e ∙ (ap (λ (g : ℕ → ℕ). g 0) (sym (next_is given t threads next moves.written)) ∙ next_none t) in
      rw (update_id next first 0 ends) (moves_none F f first (inl e) (ap (λ (n : ℕ). (threads n).state) e ∙ nobody) fixed))
      (λ real.
      let same : F (thread_at t first) ≡ thread_record first (change f (threads first)) 0 (given first) =
      ap F (record_is given t threads next moves.written first) ∙ law real in
      rw same (moves_set first (omega (arith, real)) high (change f (threads first)) 0))

  -- the thread of a cancelled word sent back, if it has a record
  pub moves_send : (o number : ℕ) → ((n : ℕ) → (n ≡ 0) ⊎ (thread_limit < n) → (threads n).state ≡ Idle)
      → Moves given before (set_thread t number (sent_back_of o (thread_at t number))) (update threads number (sent_from o (threads number))) next
  moves_send o number outside =
      either_way (equal? number 0) (λ e. still (inl e))
      (λ real. split (ltb thread_limit number) (λ past. still (inr (ltb-true thread_limit number past)))
      (λ near. moves_change (sent_back_of o) (sent_from o (threads number)) number (omega (arith, real)) (ltb-false thread_limit number near)
      (sent_back_written o number (threads number).object (threads number).state (with_next (given number) (next number)))))
    where
      still : (number ≡ 0) ⊎ (thread_limit < number)
          → Moves given before (set_thread t number (sent_back_of o (thread_at t number))) (update threads number (sent_from o (threads number))) next
      still out =
          let there : Bool = eqb (threads number).object o in
          moves_none (sent_back_of o) (λ state. pick there (sent_back state) state) number out (outside number out) (pick_same there Idle)

-- each of a chain moved, its next index kept
pub moves_all : (given : ℕ → ThreadRecord) (before : Table) (next : ℕ → ℕ) (list : List ℕ) (fuel first : ℕ) (t : Table) (threads : ℕ → ListThread) → Moves given before t threads next
    → Chain next first list → length list ≤ fuel → Inside list → Moves given before (move_all fuel t first) (walk fuel next (change moved) threads first) next
unfolding move_all walk count
moves_all given before next [] zero first t threads moves chain short inside = moves
moves_all given before next [] (suc fuel) first t threads moves chain short inside = rw (eq-eqb first 0 chain) moves
moves_all given before next (x ∷ rest) zero first t threads moves chain short inside = absurd (omega (arith, short))
moves_all given before next (x ∷ rest) (suc fuel) first t threads moves chain short inside =
    let (low, high) = inside first (rw chain.0 (omega (arith, count_same x rest))) in
    let changed : Moves given before (set_thread t first (moved_record (thread_at t first))) (update threads first (change moved (threads first))) next =
    moves_change given before t threads next moves moved_record (change moved (threads first)) first low high
    (moved_written first (threads first).object (threads first).state (with_next (given first) (next first))) in
    rw (ne_eqb first 0 (chain_some next first x rest chain))
    (subst
    (λ (n : ℕ). Moves given before (move_all fuel (set_thread t first (moved_record (thread_at t first))) n)
    (walk fuel next (change moved) (update threads first (change moved (threads first))) (next first)) next)
    (sym (ap (λ (g : ℕ → ℕ). g first) (next_is given t threads next moves.written)))
    (moves_all given before next rest fuel (next first) (set_thread t first (moved_record (thread_at t first)))
    (update threads first (change moved (threads first))) changed (rw chain.0 chain.2) (omega (arith, short)) (λ n h. inside n (omega (arith, h)))))
