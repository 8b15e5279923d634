-- Cursors: what a script that is known says of the next operation, and what moving one cursor on leaves.
use Prim.Native.Nat.{ℕ, zero, suc, ◌+◌, ◌-◌, ◌≤◌, ◌<◌}
use mathlib.Core.Path.{◌≡◌, refl, sym, ap, ◌∙◌}
use mathlib.Core.Logic.{◌≢◌}
use mathlib.Core.Bool.{true}
use mathlib.Core.List.{List}
use native.Mathlib.Omega.{arith}
use lib.ListN.{length}
use lib.Seq.{get_or-set_same, get_or-set_other}
use borrow.Author.Tests.{ltb-true}
use Rattle.laws.specs.Every.{all_below}
use Rattle.laws.proofs.Choice.{either_way, equal?, false≢true}
use Rattle.laws.proofs.Every.{all_below_at}
use Rattle.laws.proofs.Facts.{Reads, reads_leb, reads_both}
use Rattle.lock_rules.specs.declared.event.ThreadStatus.{ThreadStatus}
use Rattle.lock_rules.specs.declared.event.ThreadStatus.TheVariants.{Idle, Ready, Parked}
use Rattle.lock_table.specs.Limits.{thread_limit}
use Rattle.lock_table.specs.Place.{thread_place}
use Rattle.lock_table.proofs.Places.{place_has, place_inside}
use Rattle.step_measure.proofs.Sums.{sum_up_to, sum_moves}
use Rattle.dispatch_rules.specs.Script.{no_cursor, cursor_at, set_cursor, next_place, moved_on, begins, operations_lent, operation_known, script_known}
use Rattle.dispatch_rules.specs.Dispatch.{operations_left}
use Rattle.dispatch_rules.specs.declared.ScriptCursor.{ScriptCursor}

-- a thread that begins its next operation is idle and has one left
pub begins_says : (status : ThreadStatus) (cursor : ScriptCursor) → begins status cursor ≡ true → (status ≡ Idle) × (cursor.cursor < cursor.length)
unfolding begins
begins_says Idle cursor e = (refl, ltb-true cursor.cursor cursor.length e)
begins_says Ready cursor e = false≢true e
begins_says Parked cursor e = false≢true e

-- a script that is known
script_reads : (scripts : List ℕ) (objects : ℕ) (cursor : ScriptCursor)
    → Reads (script_known scripts objects cursor) (
    (cursor.start + cursor.length ≤ operations_lent scripts) × ((cursor.cursor ≤ cursor.length)
    × (all_below cursor.length (λ i. operation_known scripts objects (cursor.start + i)) ≡ true)))
unfolding script_known
script_reads scripts objects cursor =
    reads_both (reads_leb (cursor.start + cursor.length) (operations_lent scripts))
    (reads_both (reads_leb cursor.cursor cursor.length) (record { read = λ e. e; make = λ e. e }))

module _ (scripts : List ℕ) (objects : ℕ) (cursor : ScriptCursor) (known : script_known scripts objects cursor ≡ true) (left : cursor.cursor < cursor.length) where
  -- its next operation is known
  pub next_known : operation_known scripts objects (next_place cursor) ≡ true
  next_known =
      let (lent, (within, all)) = (script_reads scripts objects cursor).read known in
      all_below_at cursor.length (λ i. operation_known scripts objects (cursor.start + i)) all cursor.cursor left

  -- and it stays known
  pub moved_known : script_known scripts objects (moved_on cursor) ≡ true
  moved_known =
      let (lent, (within, all)) = (script_reads scripts objects cursor).read known in
      (script_reads scripts objects (moved_on cursor)).make (lent, (omega (arith, left), all))

module _ (cursors : List ScriptCursor) (long : length cursors ≡ thread_limit) (u : ℕ) (low : 1 ≤ u) (high : u ≤ thread_limit) (cursor : ScriptCursor) where
  place : (n : ℕ) → 1 ≤ n → n ≤ thread_limit → thread_place n ≡ n - 1
  place n low high = place_has thread_limit n (λ e. omega (arith, e, low), high)

  pub cursor_set_same : cursor_at (set_cursor cursors u cursor) u ≡ cursor
  cursor_set_same = get_or-set_same cursors (thread_place u) cursor no_cursor (omega (arith, place u low high, long, low, high))

  pub cursor_set_other : (n : ℕ) → 1 ≤ n → n ≤ thread_limit → n ≢ u → cursor_at (set_cursor cursors u cursor) n ≡ cursor_at cursors n
  cursor_set_other n real small away =
      get_or-set_other cursors (thread_place u) (thread_place n) cursor no_cursor
      (λ e. away (let same : n - 1 ≡ u - 1 = sym (place n real small) ∙ (e ∙ place u low high) in omega (arith, same, real, low)))

-- the operations that a thread has still to begin
abbrev left_at : List ScriptCursor → ℕ → ℕ
left_at cursors n = let cursor = cursor_at cursors n in cursor.length - cursor.cursor

operations_sum : (n : ℕ) (cursors : List ScriptCursor) → operations_left n cursors ≡ sum_up_to n (left_at cursors)
unfolding operations_left sum_up_to
operations_sum zero cursors = refl
operations_sum (suc n) cursors = omega (arith, operations_sum n cursors)

module _ (cursors : List ScriptCursor) (long : length cursors ≡ thread_limit) (u : ℕ) (low : 1 ≤ u) where
  abbrev before : ScriptCursor
  before = cursor_at cursors u

  abbrev after : List ScriptCursor
  after = set_cursor cursors u (moved_on before)

  -- nobody has more, also where a number that is no thread's reads the same cursor
  none_more : (n : ℕ) → left_at after n ≤ left_at cursors n + 0
  none_more n =
      either_way (equal? (thread_place n) (thread_place u))
      (λ e. rw (e, get_or-set_same cursors (thread_place u) (moved_on before) no_cursor (omega (arith, place_inside thread_limit u (omega arith), long))) (omega arith))
      (λ away. rw (get_or-set_other cursors (thread_place u) (thread_place n) (moved_on before) no_cursor away) (omega arith))

  pub moved_less : (threads : ℕ) → u ≤ threads → threads ≤ thread_limit → before.cursor < before.length → suc (operations_left threads after) ≤ operations_left threads cursors
  moved_less threads high few left =
      let own : left_at after u ≡ before.length - (before.cursor + 1) =
      ap (λ (cursor : ScriptCursor). cursor.length - cursor.cursor) (cursor_set_same cursors long u low (omega (arith, high, few)) (moved_on before)) in
      omega (
        arith,
        own,
        left,
        operations_sum threads cursors,
        operations_sum threads after,
        sum_moves (left_at cursors) (left_at after) 0 u (λ n away. none_more n) threads low high,
      )
