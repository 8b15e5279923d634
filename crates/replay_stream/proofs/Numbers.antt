-- The code hands a table's numbers on in eight bits, 255 for all larger ones; what a line does and prints does not change by it.
use Prim.Native.Nat.{ℕ}
use mathlib.Core.Path.{◌≡◌, refl, ap, sym, ◌∙◌}
use borrow.Author.Tests.{lt-ltb}
use Rattle.lock_table.specs.{Access.thread_at, Narrow.narrow_of}
use Rattle.lock_table.specs.declared.record.{ThreadRecord.ThreadRecord, ObjectRecord.ObjectRecord, Table.Table}
use Rattle.lock_table.proofs.Narrowed.{narrowed, narrow_thread, narrow_object}
use Rattle.lock_engine.specs.Outcome.{reply_returned, reply_woken}
use Rattle.lock_engine.specs.Handle.{begin, step}
use Rattle.lock_engine.specs.declared.outcome.Outcome.{Outcome}
use Rattle.lock_engine.proofs.Narrow.{narrow_begin, narrow_step}
use Rattle.replay_session.specs.Session.{staying, phase_of, answer_with, after_event, begun_by, stepped_by}
use Rattle.replay_session.specs.declared.session.Stage.TheVariants.{Running}

narrow_twice : (n : ℕ) → narrow_of (narrow_of n) ≡ narrow_of n
unfolding narrow_of
narrow_twice n = narrowed narrow_of (λ k past. rw (lt-ltb 255 k past) refl) n

module _ (table : Table) where
  begun : (thread operation object limit : ℕ)
      → begin table (narrow_of thread) operation (narrow_of object) limit ≡ begin table thread operation object limit
  begun thread operation object limit =
      sym (narrow_begin table (narrow_of thread) operation (narrow_of object) limit)
      ∙ ap (λ (n : ℕ). begin table n (narrow_of operation) (narrow_of (narrow_of object)) limit) (narrow_twice thread)
      ∙ ap (λ (n : ℕ). begin table (narrow_of thread) (narrow_of operation) n limit) (narrow_twice object) ∙ narrow_begin table thread operation object limit

-- what is printed of the thread and of the object
narrow_phase : (outcome : Outcome) (thread object : ℕ) → after_event outcome (narrow_of thread) object ≡ after_event outcome thread object
narrow_phase outcome thread object = rw (narrow_thread outcome.table thread) refl

narrow_word : (outcome : Outcome) (thread object : ℕ) → after_event outcome thread (narrow_of object) ≡ after_event outcome thread object
narrow_word outcome thread object =
    ap (λ (at : ObjectRecord). staying Running outcome.table
    (answer_with (reply_returned outcome.reply) (phase_of outcome.table thread) (reply_woken outcome.reply) at.word outcome.unparked))
    (narrow_object outcome.table object)

pub narrow_begun : (table : Table) (thread operation object limit : ℕ)
    → begun_by table (narrow_of thread) operation (narrow_of object) limit ≡ begun_by table thread operation object limit
narrow_begun table thread operation object limit =
    ap (λ (outcome : Outcome). after_event outcome (narrow_of thread) (narrow_of object)) (begun table thread operation object limit)
    ∙ narrow_phase (begin table thread operation object limit) thread (narrow_of object) ∙ narrow_word (begin table thread operation object limit) thread object

pub narrow_stepped : (table : Table) (thread : ℕ) → stepped_by table (narrow_of thread) ≡ stepped_by table thread
narrow_stepped table thread =
    ap (λ (outcome : Outcome). after_event outcome (narrow_of thread) (thread_at table (narrow_of thread)).object) (narrow_step table thread)
    ∙ ap (λ (at : ThreadRecord). after_event (step table thread) (narrow_of thread) at.object) (narrow_thread table thread)
    ∙ narrow_phase (step table thread) thread (thread_at table thread).object
