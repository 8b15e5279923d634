-- A run of scripts over bytes as its calls carry it out: the table that is stored is that of the bytes after it.
use Prim.Native.Nat.{ℕ, ◌+◌, ◌*◌, ◌%◌}
use mathlib.Core.Path.{◌≡◌, refl, sym, ap, ◌∙◌}
use mathlib.Core.Logic.{◌≢◌}
use mathlib.Core.Bool.{Bool, true}
use mathlib.Core.List.{List}
use native.Mathlib.Omega.{arith}
use lib.Dec.{ltb}
use lib.ListN.{length}
use Rattle.laws.specs.Choice.{pick}
use Rattle.laws.proofs.Choice.{split, by_below}
use Rattle.event_bytes.specs.Answer.{returned_in}
use Rattle.lock_table.specs.declared.record.Table.{Table}
use Rattle.table_bytes.specs.Reading.{AreBytes, is_table, table_of}
use Rattle.table_bytes.specs.Writing.{bytes_of}
use Rattle.table_bytes.proofs.SameBytes.{bytes_back}
use Rattle.table_bytes.proofs.Written.{kept_is, table_long}
use Rattle.dispatch_rules.specs.Claims.{RunInput}
use Rattle.dispatch_rules.specs.Dispatch.{DispatchAnswer, dispatch_returned}
use Rattle.dispatch_rules.specs.declared.ScriptCursor.{ScriptCursor}
use Rattle.dispatch_rules.specs.declared.Dispatched.{Dispatched}
use Rattle.std.proofs.Common.{Ok}
use Rattle.dispatch_rules.proofs.Schedules.{unstepped_same}
use Rattle.lock_dispatch.specs.Lent.{fitting, no_cursors, loaded, dispatch, cursors_after, trace_after}
use Rattle.lock_dispatch.proofs.Refused.{refused_leaves_slice}
use Rattle.lock_dispatch.proofs.Copied.{length_copied}
use Rattle.lock_engine_c.specs.Calls.{not_sound, stored_over}
use Rattle.lock_engine_c.specs.Dispatch.{steps_unit, run_answer, dispatched_answer, dispatched_bytes, dispatched_cursors, dispatched_trace, RefusedRunLeaves}
use Rattle.lock_engine_c.proofs.RefusedBytes.{read_well_typed}

-- a run that ended returns 0
zero_returned : (done : Dispatched) → done.answer ≡ Ok tt → returned_in (run_answer done) ≡ 0
unfolding dispatch_returned
zero_returned done ended =
    ap (λ (answer : DispatchAnswer). (dispatch_returned answer + done.steps * steps_unit) % 256) ended
    ∙ (let whole : (0 + done.steps * steps_unit) % 256 ≡ 0 = omega arith in whole)

module _ (bytes : List ℕ) (quantum : ℕ) (scripts : List ℕ) (lent : List ScriptCursor) (trace : List ℕ) where
  -- what the call answers, and the slices after it
  abbrev pub CallGives : ℕ → List ℕ → List ScriptCursor → List ℕ → Type 0
  CallGives answer stored cursors entries =
      (answer ≡ dispatched_answer bytes quantum scripts lent) × (stored ≡ dispatched_bytes bytes quantum scripts lent)
      × (cursors ≡ dispatched_cursors bytes quantum scripts lent) × (entries ≡ dispatched_trace bytes quantum scripts lent trace)

  -- a run of the table, stored over the bytes and packed, is that
  abbrev run_of : Table → Dispatched
  run_of table = dispatch table quantum scripts lent

  abbrev stored_by : Dispatched → List ℕ
  stored_by done = stored_over (ltb 0 done.steps) bytes done.table

  abbrev RunGives : Table → Type 0
  RunGives table =
      CallGives (run_answer (run_of table)) (stored_by (run_of table)) (cursors_after table quantum scripts lent) (trace_after table quantum scripts lent trace)

  -- on the table that the bytes say: stored where there was a step, and the same where there was none
  table_stored : AreBytes bytes → is_table bytes ≡ true → stored_by (run_of (table_of bytes)) ≡ bytes_of (run_of (table_of bytes)).table
  unfolding stored_over
  table_stored small known =
      let done = run_of (table_of bytes) in
      let given : RunInput =
      record { scripts = scripts; quantum = quantum; lent = length lent; cursors = loaded lent; long = length_copied (fitting (length lent)) lent no_cursors } in
      by_below (λ (stored : List ℕ). stored ≡ bytes_of done.table) 0 done.steps (λ some. kept_is bytes done.table (table_long bytes known))
      (λ none. sym (ap bytes_of (unstepped_same given (table_of bytes) (read_well_typed bytes small) (omega (arith, none))) ∙ bytes_back bytes small known))

  table_gives : AreBytes bytes → is_table bytes ≡ true → RunGives (table_of bytes)
  table_gives small known = rw known (refl, table_stored small known, refl, refl)

  -- what the calls give, together
  pub call_gives : AreBytes bytes → is_table bytes ≡ true
      → {done : Dispatched} {answer : ℕ} {stored : List ℕ} {cursors : List ScriptCursor} {entries : List ℕ}
      → done ≡ run_of (table_of bytes) → cursors ≡ cursors_after (table_of bytes) quantum scripts lent → entries ≡ trace_after (table_of bytes) quantum scripts lent trace
      → answer ≡ run_answer done → stored ≡ stored_by done → CallGives answer stored cursors entries
  call_gives small known ran moved traced answered kept =
      let (a, b, c, d) = table_gives small known in (answered ∙ ap run_answer ran ∙ a, kept ∙ ap stored_by ran ∙ b, moved ∙ c, traced ∙ d)

  ended_zero : is_table bytes ≡ true → (run_of (table_of bytes)).answer ≡ Ok tt → returned_in (dispatched_answer bytes quantum scripts lent) ≡ 0
  ended_zero known ended =
      ap (λ (b : Bool). returned_in (pick b (run_answer (run_of (table_of bytes))) not_sound)) known ∙ zero_returned (run_of (table_of bytes)) ended

  refused_so : AreBytes bytes → returned_in (dispatched_answer bytes quantum scripts lent) ≢ 0
      → (dispatched_bytes bytes quantum scripts lent ≡ bytes) × (dispatched_cursors bytes quantum scripts lent ≡ lent)
      × (dispatched_trace bytes quantum scripts lent trace ≡ trace)
  refused_so small refused =
      split (is_table bytes)
      (λ known. let (same, none, cursors, entries) = refused_leaves_slice (table_of bytes) quantum scripts lent trace (λ ended. refused (ended_zero known ended)) in
      rw known (ap bytes_of same ∙ bytes_back bytes small known, cursors, entries))
      (λ unknown. rw unknown (refl, refl, refl))

pub refused_run_leaves : RefusedRunLeaves
refused_run_leaves bytes small quantum scripts lent trace refused = refused_so bytes quantum scripts lent trace small refused
