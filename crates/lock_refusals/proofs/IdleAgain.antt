-- What refuses with 18 or 19 makes the thread's record that of an idle thread, and changes nothing else of the table.
use Prim.Native.Nat.{ℕ}
use mathlib.Core.Path.{◌≡◌, sym, ap, ◌∙◌}
use Rattle.lock_word.specs.declared.reading.LockWord.{LockWord}
use Rattle.lock_rules.specs.declared.Answer.{Answer}
use Rattle.lock_table.specs.Record.{idle}
use Rattle.lock_table.specs.Access.{thread_at, set_thread, object_at, set_object}
use Rattle.lock_table.specs.declared.record.Table.{Table}
use Rattle.lock_table.proofs.Records.{object_unchanged, object_beside_thread}
use Rattle.lock_perform.specs.{State.write_activity, Sight.sight_at, Perform.word_after, Moving.CarriedOut}
use Rattle.lock_perform.proofs.Performed.{write_back, perform_of}
use Rattle.lock_perform.proofs.Staying.{carry_out_stay}
use Rattle.lock_refusals.proofs.RuleEnds.{idle_again}

pub idle_again_performed : (t : Table) (n o : ℕ) (word : LockWord) (answer : Answer)
    → perform_of t n o (object_at t o) (idle_again (sight_at t (object_at t o) word) answer) ≡ set_thread t n (idle (thread_at t n))
unfolding word_after write_activity
idle_again_performed t n o word answer =
    let object = object_at t o in
    let own = idle (thread_at t n) in
    ap (λ (carried : CarriedOut). write_back carried n o own object) (carry_out_stay t object.monitor n o)
    ∙ ((λ j. set_object (set_thread t n own) o (sym (object_beside_thread t n o own) j)) ∙ object_unchanged (set_thread t n own) o)
