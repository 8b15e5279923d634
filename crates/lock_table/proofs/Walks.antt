-- One turn of the walks along a table's chains, and their ends, for the loops of the code.
use Prim.Native.Nat.{ℕ, zero, suc, ◌-◌, ◌<◌, ◌≤◌}
use mathlib.Core.Path.{◌≡◌, refl, ap, ◌∙◌}
use mathlib.Core.Logic.{◌≢◌, inr}
use native.Mathlib.Nat.{not-suc-le-zero}
use native.Mathlib.Numerals.{sub-one}
use native.Mathlib.Omega.{arith}
use lib.Dec.{eqb}
use lib.ListN.{get_or, set}
use borrow.Author.Tests.{ne_eqb}
use Rattle.laws.specs.Choice.{pick}
use Rattle.lock_table.specs.Limits.{thread_limit}
use Rattle.lock_table.specs.Record.{no_thread}
use Rattle.lock_table.specs.Access.{thread_at, set_thread, next_of}
use Rattle.lock_table.specs.Chain.{moved, move_all}
use Rattle.lock_table.specs.declared.record.{ThreadRecord.ThreadRecord, Table.Table}
use Rattle.lock_table.proofs.Records.{thread_in, set_thread_in, thread_none, thread_past, set_thread_out}

pub next_none : (t : Table) → next_of t 0 ≡ 0
next_none t = ap (λ (thread : ThreadRecord). thread.next) (thread_none t)

pub next_past : (t : Table) (n : ℕ) → thread_limit < n → next_of t n ≡ 0
next_past t n past = ap (λ (thread : ThreadRecord). thread.next) (thread_past t n past)

-- one turn of each walk
pub move_all_step : {left : ℕ} → 0 < left → (t : Table) (first : ℕ)
    → move_all left t first ≡ pick (eqb first 0) t (move_all (left - 1) (set_thread t first (moved (thread_at t first))) (next_of t first))
unfolding move_all
move_all_step {left = zero} h t first = absurd (not-suc-le-zero h)
move_all_step {left = suc left} h t first = simp sub-one

-- and its end
pub move_all_end : {left : ℕ} → left ≤ 0 → (t : Table) (first : ℕ) → move_all left t first ≡ t
unfolding move_all
move_all_end {left = zero} h t first = refl
move_all_end {left = suc left} h t first = absurd (not-suc-le-zero h)

-- of an empty chain nobody moves
pub move_none : (left : ℕ) (t : Table) → move_all left t 0 ≡ t
unfolding move_all
move_none zero t = refl
move_none (suc left) t = refl

-- a number past the end has no thread: nothing is written, and the walk ends
pub move_all_past : {left : ℕ} → 0 < left → (t : Table) (first : ℕ) → thread_limit < first → move_all left t first ≡ t
move_all_past {left} h t first past =
    move_all_step h t first
    ∙ rw (ne_eqb first 0 (λ q. omega (arith, q, past)), set_thread_out t first (moved (thread_at t first)) (inr past), next_past t first past)
    (move_none (left - 1) t)

-- a number in range: its record is read and written in place
abbrev written : Table → ℕ → ThreadRecord → Table
written t n thread =
    record { threadcount = t.threadcount; objectcount = t.objectcount; threads = set t.threads (n - 1) thread; objects = t.objects }

abbrev read : Table → ℕ → ThreadRecord
read t n = get_or t.threads (n - 1) no_thread

pub move_all_turn : {left : ℕ} → 0 < left → (t : Table) (first : ℕ) → first ≢ 0 → first ≤ thread_limit
    → move_all left t first ≡ move_all (left - 1) (written t first (moved (read t first))) (read t first).next
move_all_turn {left} h t first some high =
    move_all_step h t first
    ∙ rw (ne_eqb first 0 some)
    (ap (λ (u : Table). move_all (left - 1) u (next_of t first)) (set_thread_in t first (moved (thread_at t first)) some high)
    ∙ ap (λ (thread : ThreadRecord). move_all (left - 1) (written t first (moved thread)) thread.next) (thread_in t first some high))
