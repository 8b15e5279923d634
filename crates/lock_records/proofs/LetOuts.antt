-- The walk that lets exits out of an entry chain, on records: those that it writes are idle, the others as they were, and the next indexes are those of
-- the chain without them. Those in the walk's set are those that it lets out.
use Prim.Native.Nat.{ℕ, zero, suc, ◌≤◌, ◌<◌}
use mathlib.Core.Path.{◌≡◌, refl, ap, ◌∙◌, subst, fun_ext}
use mathlib.Core.Bool.{Bool, true, false}
use mathlib.Core.List.{List}
use native.Mathlib.Omega.{arith}
use lib.ListN.{length}
use borrow.Author.Tests.{eq-eqb}
use Rattle.laws.specs.{Choice.pick, Choice.either, Count.count}
use Rattle.laws.proofs.Choice.{split}
use Rattle.laws.proofs.Filter.{passing, count_passing, count_parted}
use Rattle.chains.specs.Joining.{no_ends}
use Rattle.chains.proofs.Listed.{Chain}
use Rattle.chains.proofs.Parting.{part}
use Rattle.lock_rules.specs.PlainMonitor.{above_zero}
use Rattle.lock_rules.specs.declared.ThreadState.{ThreadState}
use Rattle.lock_rules.proofs.Each.{each_limit, each_suspension, each_state, each_carried}
use Rattle.lock_rules.proofs.Changes.{is_queued_exit, let_out_state}
use Rattle.lock_rules.proofs.Perform.{changed_states, let_out_states}
use Rattle.lock_rules.proofs.Tables.{ListThread}
use Rattle.lock_table.specs.{Limits.thread_limit, Record.with_next}
use Rattle.lock_table.specs.Phase.{onward_number, phase_number, carried_number}
use Rattle.lock_table.specs.declared.record.{ThreadRecord.ThreadRecord, Table.Table}
use Rattle.lock_perform.specs.State.{wait_activity, carried_activity, write_activity, write_thread}
use Rattle.lock_perform.specs.Parting.{no_parting, part_chain}
use Rattle.lock_perform.specs.Moving.{queued_exit, let_out}
use Rattle.lock_perform.specs.ThreadSet.{has_thread}
use Rattle.lock_perform.proofs.ThreadSets.{has_none, has_with}
use Rattle.lock_records.proofs.Written.{written_doing}
use Rattle.lock_records.proofs.Moves.{Moves, Inside}
use Rattle.lock_records.proofs.PartWalk.{Becomes, walk_moves}
use Rattle.lock_records.proofs.Placing.{placed, placed_each}

-- a record says whether its thread is a queued exit, and is idle when it is let out
exit_written : (n o : ℕ) (state : ThreadState) (own : ThreadRecord) → queued_exit (write_thread n o state own) ≡ is_queued_exit state
unfolding write_activity carried_activity wait_activity phase_number carried_number onward_number
exit_written n o =
    each_state _ (
      search,
      λ doing own. rw (written_doing n o doing own).carried refl,
      each_carried _ (search, search, each_limit _ (search), each_suspension _ (search)),
      search,
      each_suspension _ (search),
    )

out_written : (n o : ℕ) (state : ThreadState) (own : ThreadRecord)
    → let_out (write_thread n o state own) (is_queued_exit state) ≡ write_thread n o (let_out_state state) (with_next own 0)
unfolding let_out write_activity
out_written n o = each_state _ (search, search, each_carried _ (search), search, search)

module _ (o : ℕ) (threads : ℕ → ListThread) (states : ℕ → ThreadState) (list : List ℕ) (home : (n : ℕ) → 0 < count n list → (threads n).object ≡ o)
    (queued : (n : ℕ) → is_queued_exit (states n) ≡ true → 0 < count n list) where
  -- who is let out
  abbrev exits : ℕ → Bool
  exits n = is_queued_exit (states n)

  becomes : (given : ℕ → ThreadRecord) → Becomes queued_exit let_out let_out_state given (placed o threads states) exits list
  becomes given n member link =
      rw (eq-eqb (threads n).object o (home n member))
      (exit_written n o (states n) (with_next (given n) link), out_written n o (states n) (with_next (given n) link))

  -- whoever is an exit in 5 is in the chain, so nobody else would be let out
  alike : (n : ℕ) → changed_states let_out_state states list n ≡ let_out_states states n
  alike n = at (count n list) refl
    where
      at : (k : ℕ) → count n list ≡ k → changed_states let_out_state states list n ≡ let_out_state (states n)
      at zero none =
          split (is_queued_exit (states n)) (λ exit. absurd (omega (arith, none, queued n exit))) (λ stays. rw (none, stays) refl)
      at (suc k) some = rw some refl

  out_named : (n : ℕ) → either (has_thread 0 n) (above_zero (count n (passing exits list))) ≡ exits n
  out_named n = rw (has_none n, count_passing exits list n) (at (exits n) refl (count n list) refl)
    where
      at : (b : Bool) → exits n ≡ b → (k : ℕ) → count n list ≡ k → above_zero (pick b k 0) ≡ b
      at true exit zero none = absurd (omega (arith, none, queued n exit))
      at true exit (suc k) some = refl
      at false stays k some = refl

  pub let_outs_moves : (given : ℕ → ThreadRecord) (before t : Table) (next : ℕ → ℕ) (first : ℕ) → Moves given before t (placed o threads states) next
      → Chain next first list → length list ≤ thread_limit → Inside list
      → let walked = part_chain queued_exit let_out false thread_limit t no_parting first in
      let p = part thread_limit false exits next no_ends no_ends first in
      Moves given before walked.table (placed o threads (let_out_states states)) p.next × (walked.parting.left ≡ p.left)
      × ((n : ℕ) → has_thread walked.parting.set n ≡ is_queued_exit (states n))
  let_outs_moves given before t next first moves chain short inside =
      let (after, left, taken, set) = walk_moves queued_exit let_out false let_out_state given before next exits list thread_limit first chain short inside t
      (placed o threads states) moves (becomes given) in
      let same = placed_each o threads let_out_state states next list thread_limit first chain short home ∙ ap (placed o threads) (fun_ext alike) in
      let walked = part_chain queued_exit let_out false thread_limit t no_parting first in
      let p = part thread_limit false exits next no_ends no_ends first in (
        subst (λ now. Moves given before walked.table now p.next) same after,
        left,
        λ n. ap (λ (out : ℕ). has_thread out n) set ∙ (has_with (passing exits list) (λ m h. inside m (omega (arith, h, count_parted exits list m))) 0 n ∙ out_named n),
      )
