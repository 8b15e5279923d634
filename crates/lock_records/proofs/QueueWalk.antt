-- The walk by which threads join a chain, on records: nobody's state changes, and the next indexes put each at its place.
use Prim.Native.Nat.{ℕ, zero, suc, ◌+◌, ◌≤◌, ◌<◌}
use mathlib.Core.Path.{◌≡◌, refl, ap, ◌∙◌}
use mathlib.Core.Logic.{◌≢◌, inl, inr}
use mathlib.Core.Bool.{Bool, true, false}
use mathlib.Core.List.{List, [], ◌∷◌}
use native.Mathlib.Omega.{arith}
use lib.Dec.{leb}
use lib.ListN.{length}
use borrow.Author.Tests.{ne_eqb, le-leb}
use Rattle.laws.specs.{Choice.pick, Update.update, Count.count}
use Rattle.laws.proofs.Choice.{either_way, equal?}
use Rattle.laws.proofs.Update.{update_id}
use Rattle.laws.proofs.Count.{count_same, count_other, count_more}
use Rattle.chains.specs.declared.place.Place.{Place}
use Rattle.chains.specs.declared.named.Chain.{Chain as ChainName}
use Rattle.chains.proofs.Listed.{Chain, chain_frame, chain_first_once}
use Rattle.chains.proofs.Queue.{place_in, put, put_first, queued, queued_end, insert, count_insert, length_insert, put_in_chain}
use Rattle.lock_rules.proofs.Tables.{ListThread}
use Rattle.lock_table.specs.{Limits.thread_limit, Record.with_next}
use Rattle.lock_table.specs.Access.{thread_at}
use Rattle.lock_table.specs.declared.record.{ThreadRecord.ThreadRecord, Table.Table}
use Rattle.lock_perform.specs.Queueing.{joining_rank, place_for, put_at, first_at, queue}
use Rattle.lock_perform.proofs.InPlace.{queue_none}
use Rattle.lock_records.proofs.Numbering.{joining, order}
use Rattle.lock_records.proofs.Represents.{thread_record, record_is}
use Rattle.lock_records.proofs.Moves.{Moves, Inside, moves_set}
use Rattle.lock_records.proofs.PartWalk.{NoneOrIn, moves_link}

-- the last of those that a walk to a place has passed is who was passed before it, or a member of the chain
last_from : (P : ℕ → Type 0) (fuel : ℕ) (next : ℕ → ℕ) (stays : ℕ → Bool) (last here : ℕ) (list : List ℕ) → Chain next here list → P last
    → ((n : ℕ) → 0 < count n list → P n) → P (place_in fuel next stays last here).last
unfolding place_in
last_from P zero next stays last here list chain passed each = passed
last_from P (suc fuel) next stays last here [] chain passed each = rw chain passed
last_from P (suc fuel) next stays last here (x ∷ rest) chain passed each =
    rw (chain.0, ne_eqb x 0 chain.1)
    (at (stays x) (last_from P fuel next stays x (next x) rest chain.2 (each x (omega (arith, count_same x rest))) (λ n h. each n (omega (arith, h, count_more n x rest)))))
  where
    at : (b : Bool) → P (place_in fuel next stays x (next x)).last
        → P (let found : Place = pick b (place_in fuel next stays x (next x)) (record { last = last; here = x }) in found.last)
    at true later = later
    at false later = passed

module _ (given : ℕ → ThreadRecord) (before : Table) (threads : ℕ → ListThread) (into : ChainName) where
  abbrev rank : ℕ → ℕ
  rank n = (given n).rank

  -- the rank by which a thread joins
  joining_is : (t : Table) (n : ℕ) → (thread_at t n).rank ≡ rank n → joining_rank into (thread_at t n) ≡ joining rank into n
  joining_is t n is = at into
    where
      at : (chain : ChainName) → joining_rank chain (thread_at t n) ≡ joining rank chain n
      at ChainName.Entry = is
      at ChainName.Contention = refl
      at ChainName.Waiting = refl

  module _ (t : Table) (next : ℕ → ℕ) (moves : Moves given before t threads next) where
    own : (n : ℕ) → thread_at t n ≡ thread_record n (threads n) (next n) (given n)
    own n = record_is given t threads next moves.written n

    -- the walk on records finds the same place
    same_place : (fuel r last here : ℕ) (list : List ℕ) → Chain next here list → Inside list
        → place_for fuel (thread_at t) r last here ≡ place_in fuel next (λ x. leb r (rank x)) last here
    unfolding place_for place_in
    same_place zero r last here list chain inside = refl
    same_place (suc fuel) r last here [] chain inside = rw chain
    same_place (suc fuel) r last here (x ∷ rest) chain inside =
        let (low, high) = inside x (omega (arith, count_same x rest)) in
        let later = same_place fuel r x (next x) rest chain.2 (λ n h. inside n (omega (arith, h, count_more n x rest))) in
        rw (
          chain.0,
          le-leb 1 x low,
          le-leb x thread_limit high,
          ne_eqb x 0 chain.1,
          ap (λ (thread : ThreadRecord). thread.rank) (own x),
          ap (λ (thread : ThreadRecord). thread.next) (own x),
          later,
        )

    -- thread x put there
    put_moves : (x : ℕ) (place : Place) → 0 < x → x ≤ thread_limit → NoneOrIn place.last → Moves given before (put_at t place x) threads (put next place x)
    put_moves x place low high ends =
        let same : with_next (thread_at t x) place.here ≡ thread_record x (threads x) place.here (given x) =
        ap (λ (thread : ThreadRecord). with_next thread place.here) (own x) in
        moves_link given before _ threads (update next x place.here)
        (rw same (rw (update_id threads x (threads x) refl) at (moves_set given before t threads next moves x low high (threads x) place.here))) place.last x ends

  -- all of them
  pub moves_queue : (moved list : List ℕ) (fuel : ℕ) (t : Table) (next : ℕ → ℕ) (first at : ℕ) → Moves given before t threads next → Chain next first list
      → Chain next at moved → Inside list → Inside moved → length moved ≤ fuel → length list + length moved ≤ suc thread_limit
      → ((n : ℕ) → 0 < count n moved → count n list ≡ 0)
      → let q = queue into fuel t first at in
      let p = queued fuel thread_limit (order rank into) next first at in
      Moves given before q.table threads p.next × (q.first ≡ p.first)
  unfolding queue queued first_at
  moves_queue [] list fuel t next first at moves chain waits inside moved_in few short apart =
      rw (waits, queue_none into fuel t first, queued_end fuel thread_limit (order rank into) next first) (moves, refl)
  moves_queue (x ∷ rest) list zero t next first at moves chain waits inside moved_in few short apart = absurd (omega arith)
  moves_queue (x ∷ rest) list (suc fuel) t next first at moves chain waits inside moved_in few short apart =
      let (low, high) = moved_in x (omega (arith, count_same x rest)) in
      let stays : ℕ → Bool = λ y. order rank into y x in
      let place = place_in thread_limit next stays 0 first in
      let new : count x list ≡ 0 = apart x (omega (arith, count_same x rest)) in
      let one = put_in_chain next stays x waits.1 thread_limit first list chain (omega (arith, short)) new in
      let ends : NoneOrIn place.last = last_from NoneOrIn thread_limit next stays 0 first list chain (inl refl) (λ n h. inr (inside n h)) in
      let found : place_for thread_limit (thread_at t) (joining_rank into (thread_at t x)) 0 first ≡ place =
      ap (λ (r : ℕ). place_for thread_limit (thread_at t) r 0 first) (joining_is t x (ap (λ (thread : ThreadRecord). thread.rank) (own t next moves x)))
      ∙ same_place t next moves thread_limit (joining rank into x) 0 first list chain inside in
      let alone : (n : ℕ) → 0 < count n rest → n ≢ x =
      λ n h e. omega (arith, h, ap (λ (k : ℕ). count k rest) e, chain_first_once next at x rest waits) in
      let old : (n : ℕ) → 0 < count n rest → count n list ≡ 0 = λ n h. apart n (omega (arith, h, count_more n x rest)) in
      rw (waits.0, le-leb 1 x low, le-leb x thread_limit high, ne_eqb x 0 waits.1, found, ap (λ (thread : ThreadRecord). thread.next) (own t next moves x))
      (moves_queue rest (insert stays x list) fuel (put_at t place x) (put next place x) (put_first first place x) (next x)
      (put_moves t next moves x place low high ends) one.chain
      (chain_frame next (put next place x) (next x) rest (λ n h. one.kept n (alone n h) (old n h)) waits.2)
      (λ n h. either_way (equal? n x) (λ e. rw e (low, high)) (λ away. inside n (omega (arith, h, count_insert stays x list n, count_other n x list away))))
      (λ n h. moved_in n (omega (arith, h, count_more n x rest))) (omega (arith, few)) (omega (arith, short, length_insert stays x list))
      (λ n h. count_insert stays x list n ∙ (count_other n x list (alone n h) ∙ old n h)))
