-- A thread record whose fields are as soundness asks is some fine state, written: the one that it is read as.
use Prim.Native.Nat.{ℕ}
use mathlib.Core.Path.{◌≡◌, refl, sym, ap, ◌∙◌, subst}
use mathlib.Core.Logic.{◌≢◌, inl, inr}
use mathlib.Core.Bool.{Bool, true, false, not}
use native.Mathlib.Omega.{arith}
use lib.Dec.{T, eqb, ltb}
use borrow.Author.Tests.{eqb-false, ltb-true}
use Rattle.laws.specs.Choice.{both}
use Rattle.laws.proofs.Choice.{either_way, false≢true, both_first, both_second}
use Rattle.lock_word.specs.Read.{read_word}
use Rattle.lock_word.specs.Write.{write_word, reserved_word, IsNumber}
use Rattle.lock_word.specs.declared.reading.LockWord.TheVariants.{Free, Flat, Anonymous, Reserved, Fat}
use Rattle.std.specs.Prelude.{Option, Some, None}
use Rattle.lock_word.specs.declared.reading.LockWord.{LockWord}
use Rattle.lock_word.proofs.RoundTrip.{word_of_meaning}
use Rattle.lock_rules.specs.Numbers.{phase_of}
use Rattle.lock_rules.proofs.Status.{unfinished}
use Rattle.lock_rules.specs.declared.{Doing.Doing, ThreadState.ThreadState}
use Rattle.lock_rules.specs.declared.Doing.TheVariants.{EnterStore, ExitStore}
use Rattle.lock_rules.specs.declared.ThreadState.TheVariants.{Idle, Running}
use Rattle.lock_rules.proofs.ListSound.{LimitFine, LeftFine, DoingFine, StateFine}
use Rattle.lock_table.specs.Phase.{onward_number, phase_number, carried_number}
use Rattle.lock_table.specs.Record.{no_thread, with_activity}
use Rattle.lock_table.specs.declared.operation.Operation.{Operation}
use Rattle.lock_table.specs.declared.operation.Operation.TheVariants.{Idle as NoOperation, Enter, Exit, Wait, Notify, NotifyAll, TimedWait}
use Rattle.lock_table.specs.declared.phase.Onward.TheVariants.{ToCheck as OnToCheck, ToTell as OnToTell, ToInflate as OnToInflate}
use Rattle.lock_table.specs.declared.phase.Onward.TheVariants.{ToResume as OnToResume}
use Rattle.lock_table.specs.declared.phase.Phase.{Phase}
use Rattle.lock_table.specs.declared.phase.Phase.TheVariants.{Idle as IdlePhase, Look, Store, Cancel, GoIn, Queued as QueuedPhase, Check, Try}
use Rattle.lock_table.specs.declared.phase.Phase.TheVariants.{Contending as ContendingPhase, Test, Tell, Leave, Inflate, GiveUp}
use Rattle.lock_table.specs.declared.phase.Phase.TheVariants.{Waiting as WaitingPhase, Resume}
use Rattle.lock_table.specs.declared.record.ThreadRecord.{ThreadRecord}
use Rattle.lock_perform.specs.State.{activity_of, wait_activity, limit_of, doing_activity, carried_activity, write_activity, write_thread, read_thread}
use Rattle.lock_perform.specs.State.{look_of, store_of, cancel_of, go_in_of, carried_of, state_by, read_activity}
use Rattle.lock_records.proofs.Written.{state_read, phase_written}
use Rattle.sound_records.specs.Records.{uses_phase, carries_phase}
use Rattle.sound_records.proofs.Reading.{Within, allowed?, KeptCountFits, ReservedFor, SavesDepth, Resumes, TicksFit, ThreadFits}
use Rattle.lock_word.specs.Depth.{depth_limit}
use Rattle.lock_rules.specs.declared.Limit.TheVariants.{Ticks}
use Rattle.lock_table.specs.declared.record.Activity.{Activity}
use Rattle.laws.proofs.Facts.{reads_both, reads_ltb, reads_not}

-- thread n's record is a fine state, written; unless it is idle its number is one that a word can name, and it is at an object of the table
pub record IsWritten (objects n : ℕ) (thread : ThreadRecord) : Type 0 where
  pub state : ThreadState
  pub fine : StateFine state
  pub written : thread ≡ write_thread n thread.object state thread
  pub home : T (unfinished state) → Within 1 objects thread.object
  pub number : T (unfinished state) → IsNumber n

-- what a phase does not use, as tests that compute on each phase
abbrev busy? : Phase → Bool
busy? phase = ltb 0 (phase_number phase)

abbrev unkept? : Phase → Bool
unkept? phase = not (eqb (phase_number phase) 2)

abbrev unsaved? : Phase → Bool
unsaved? phase = both (ltb (phase_number phase) 14) (not (eqb (carried_number phase) 15))

busy_phase : (phase : Phase) → busy? phase ≡ true → phase_number phase ≢ 0
busy_phase phase test e = omega (arith, e, ltb-true 0 (phase_number phase) test)

unkept_phase : (phase : Phase) → unkept? phase ≡ true → phase_number phase ≢ 2
unkept_phase phase test = eqb-false (phase_number phase) 2 ((reads_not (eqb (phase_number phase) 2)).read test)

unsaved_phase : (phase : Phase) → unsaved? phase ≡ true → SavesDepth (phase_number phase) (carried_number phase) → ⊥
unsaved_phase phase test saves =
    let (small, other) = (reads_both (reads_ltb (phase_number phase) 14) (reads_not (eqb (carried_number phase) 15))).read test in
    either_way saves (λ inside. omega (arith, inside.0, small)) (eqb-false (carried_number phase) 15 other)

-- who resumes has saved a depth
resumes_saves : (phase : Phase) → Resumes (phase_number phase) (carried_number phase) → SavesDepth (phase_number phase) (carried_number phase)
resumes_saves phase resumes = either_way resumes (λ here. inl (omega (arith, here), omega (arith, here))) inr

-- the operation may be in the phase
abbrev may_be_in? : Phase → Operation → Bool
may_be_in? phase operation = allowed? (phase_number phase) (carried_number phase) operation

-- what is asked where a test is true
abbrev Where : Bool → Type 0 → Type 0
Where true P = P
Where false P = Unit {0}

given : (P : Type 0) (b : Bool) → Where b P → b ≡ true → P
given P true p e = p
given P false p e = false≢true e

-- a kept word that is reserved for thread n is its reserved word with a count
kept_is : (n : ℕ) (operation : Operation) (kept : ℕ) → ReservedFor n operation (read_word kept)
    → (count : ℕ) × (kept ≡ reserved_word n count) × KeptCountFits operation count
unfolding write_word
kept_is n operation kept reserved = at (read_word kept) refl reserved
  where
    at : (decoded : Option LockWord) → read_word kept ≡ decoded → ReservedFor n operation decoded
        → (count : ℕ) × (kept ≡ reserved_word n count) × KeptCountFits operation count
    at None e no_word = absurd no_word
    at (Some Free) e no_word = absurd no_word
    at (Some (Flat thread count)) e no_word = absurd no_word
    at (Some Anonymous) e no_word = absurd no_word
    at (Some (Reserved thread count)) e (same, fits) =
        (count, sym (ap (λ (k : ℕ). reserved_word k count) (sym same) ∙ word_of_meaning kept (Reserved thread count) e), fits)
    at (Some (Fat monitor)) e no_word = absurd no_word

module _ (objects n o kept saved ticks : ℕ) (own : ThreadRecord) (is_number : IsNumber n) where
  -- any activity
  abbrev activity_with : Operation → Phase → ℕ → ℕ → ℕ → Activity
  activity_with operation phase kept saved ticks =
      record { kept = kept; saved = saved; ticks = ticks; object = o; operation = operation; phase = phase }

  -- the record in this phase of this operation, if it fits, is written
  abbrev Back : Phase → Operation → Type 0
  Back phase operation =
      let thread = with_activity own (activity_with operation phase kept saved ticks) in ThreadFits objects n thread → IsWritten objects n thread

  -- the record of a thread that is not idle is that of a fine state
  made : (phase : Phase) (operation : Operation) (state : ThreadState) → busy? phase ≡ true → StateFine state
      → activity_with operation phase kept saved ticks ≡ write_activity n o state → Back phase operation
  made phase operation state test fine written fits =
      let home : Within 1 objects o = (fits.operation (busy_phase phase test)).0 in
      record { state = state; fine = fine; written = ap (with_activity own) written; home = λ busy. home; number = λ busy. is_number }

  -- every operation but a timed wait has no ticks
  abbrev Untimed : Phase → Operation → Type 0
  Untimed phase operation = TicksFit operation (phase_number phase) (carried_number phase) ticks → ticks ≡ 0

  -- a phase that uses neither kept word nor saved depth
  plain : (phase : Phase) (operation : Operation) → both (busy? phase) (both (unkept? phase) (unsaved? phase)) ≡ true → Untimed phase operation
      → let state = read_activity (activity_of operation o phase 0 0) in
      StateFine state → write_activity n o state ≡ activity_of operation o phase 0 0 → Back phase operation
  plain phase operation test untimed fine written fits =
      let rest : both (unkept? phase) (unsaved? phase) ≡ true = both_second (busy? phase) _ test in
      let no_kept : kept ≡ 0 = fits.unused.kept (unkept_phase phase (both_first (unkept? phase) _ rest)) in
      let no_saved : saved ≡ 0 = fits.unused.saved (unsaved_phase phase (both_second (unkept? phase) _ rest)) in
      made phase operation _ (both_first (busy? phase) _ test) fine ((λ j. activity_with operation phase (no_kept j) (no_saved j) (untimed fits.ticks j)) ∙ sym written) fits

  -- the same of a timed wait, which has ticks left
  timed : (phase : Phase) → both (busy? phase) (both (unkept? phase) (unsaved? phase)) ≡ true
      → let state = read_activity (activity_with TimedWait phase 0 0 ticks) in
      (LimitFine (Ticks ticks) → StateFine state) → write_activity n o state ≡ activity_with TimedWait phase 0 0 ticks → Back phase TimedWait
  timed phase test fine written fits =
      let rest : both (unkept? phase) (unsaved? phase) ≡ true = both_second (busy? phase) _ test in
      let unsaved = unsaved_phase phase (both_second (unkept? phase) _ rest) in
      let no_kept : kept ≡ 0 = fits.unused.kept (unkept_phase phase (both_first (unkept? phase) _ rest)) in
      let no_saved : saved ≡ 0 = fits.unused.saved unsaved in
      let left : LimitFine (Ticks ticks) = either_way fits.ticks (λ some. some) (λ none. absurd (unsaved (resumes_saves phase none.1))) in
      made phase TimedWait _ (both_first (busy? phase) _ test) (fine left) ((λ j. activity_with TimedWait phase (no_kept j) (no_saved j) ticks) ∙ sym written) fits

  -- one that uses the saved depth
  saving : (phase : Phase) → both (busy? phase) (unkept? phase) ≡ true → SavesDepth (phase_number phase) (carried_number phase)
      → let state = read_activity (activity_of Wait o phase 0 saved) in
      (Within 1 depth_limit saved → StateFine state) → write_activity n o state ≡ activity_of Wait o phase 0 saved → Back phase Wait
  saving phase test saves fine written fits =
      let no_kept : kept ≡ 0 = fits.unused.kept (unkept_phase phase (both_second (busy? phase) _ test)) in
      made phase Wait _ (both_first (busy? phase) _ test) (fine (fits.saved saves)) ((λ j. activity_with Wait phase (no_kept j) saved (fits.ticks j)) ∙ sym written) fits

  timed_saving : (phase : Phase) → both (busy? phase) (unkept? phase) ≡ true → SavesDepth (phase_number phase) (carried_number phase)
      → let state = read_activity (activity_with TimedWait phase 0 saved ticks) in
      (Within 1 depth_limit saved → TicksFit TimedWait (phase_number phase) (carried_number phase) ticks → StateFine state)
      → write_activity n o state ≡ activity_with TimedWait phase 0 saved ticks → Back phase TimedWait
  timed_saving phase test saves fine written fits =
      let no_kept : kept ≡ 0 = fits.unused.kept (unkept_phase phase (both_second (busy? phase) _ test)) in
      made phase TimedWait _ (both_first (busy? phase) _ test) (fine (fits.saved saves) fits.ticks)
      ((λ j. activity_with TimedWait phase (no_kept j) saved ticks) ∙ sym written) fits

  -- ticks that are left, and those of a wait that resumes
  still_left : {phase carried : ℕ} → phase ≢ 15 → carried ≢ 15 → TicksFit TimedWait phase carried ticks → LimitFine (Ticks ticks)
  still_left waits queued fits = either_way fits (λ some. some) (λ none. absurd (either_way none.1 waits queued))

  any_left : {phase carried : ℕ} → TicksFit TimedWait phase carried ticks → LeftFine (Ticks ticks)
  any_left fits = either_way fits (λ some. some.1) (λ none. omega (arith, none.0))

  -- phase 2, which uses the kept word
  storing : (operation : Operation) (doing : ℕ → Doing) → Untimed Store operation → ((count : ℕ) → KeptCountFits operation count → DoingFine (doing count))
      → ((count : ℕ) → write_activity n o (Running (doing count)) ≡ activity_of operation o Store (reserved_word n count) 0)
      → Back Store operation
  unfolding phase_number carried_number
  storing operation doing untimed fine written fits =
      let (count, is_kept, Fits_count) = kept_is n operation kept (fits.kept refl) in
      let no_saved : saved ≡ 0 = fits.unused.saved (unsaved_phase Store refl) in
      made Store operation (Running (doing count)) refl (fine count Fits_count)
      ((λ j. activity_with operation Store (is_kept j) (no_saved j) (untimed fits.ticks j)) ∙ sym (written count)) fits

  -- an idle thread has no operation and no object
  idle : (operation : Operation) → Back IdlePhase operation
  unfolding phase_number carried_number write_activity
  idle operation fits =
      let (no_operation, no_object) = fits.unused.operation refl in
      let no_kept : kept ≡ 0 = fits.unused.kept (unkept_phase IdlePhase refl) in
      let no_saved : saved ≡ 0 = fits.unused.saved (unsaved_phase IdlePhase refl) in
      let no_ticks : ticks ≡ 0 = subst (λ (none : Operation). TicksFit none 0 0 ticks) no_operation fits.ticks in
      record {
        state = Idle;
        fine = tt;
        written = λ j. with_activity own
            (record { kept = no_kept j; saved = no_saved j; ticks = no_ticks j; object = no_object j; operation = no_operation j; phase = IdlePhase });
        home = λ busy. absurd busy;
        number = λ busy. absurd busy;
      }

  -- a phase with the operations that may be in it
  abbrev Row : Phase → Operation → Type 0
  Row phase operation = Where (may_be_in? phase operation) (Back phase operation)

  by_operation : (phase : Phase) → busy? phase ≡ true → Row phase Enter × Row phase Exit × Row phase Wait × Row phase Notify × Row phase NotifyAll
      × Row phase TimedWait
      → (operation : Operation) → Back phase operation
  unfolding uses_phase
  by_operation phase test all operation fits = at operation (fits.operation (busy_phase phase test)).1 fits
    where
      at : (operation : Operation) → may_be_in? phase operation ≡ true → Back phase operation
      at NoOperation = false≢true
      at Enter = given (Back phase Enter) (may_be_in? phase Enter) all.0
      at Exit = given (Back phase Exit) (may_be_in? phase Exit) all.1
      at Wait = given (Back phase Wait) (may_be_in? phase Wait) all.2
      at Notify = given (Back phase Notify) (may_be_in? phase Notify) all.3
      at NotifyAll = given (Back phase NotifyAll) (may_be_in? phase NotifyAll) all.4
      at TimedWait = given (Back phase TimedWait) (may_be_in? phase TimedWait) all.5

  -- and what each of them is doing there
  back : (phase : Phase) (operation : Operation) → Back phase operation
  unfolding uses_phase carries_phase phase_number carried_number onward_number doing_activity carried_activity write_activity
      wait_activity limit_of state_by look_of store_of cancel_of go_in_of carried_of
  back IdlePhase = idle
  back Look = by_operation Look refl (search (plain, timed))
  back Store =
      by_operation Store refl
      (storing Enter EnterStore (λ none. none) (λ count small. omega arith) (λ count. refl), storing Exit ExitStore (λ none. none) (λ count fits. fits) (λ count. refl), tt, tt, tt, tt)
  back Cancel = by_operation Cancel refl (search (plain, timed))
  back GoIn = by_operation GoIn refl (search (plain, timed))
  back (QueuedPhase OnToCheck) = by_operation (QueuedPhase OnToCheck) refl (search plain)
  back (QueuedPhase OnToTell) = by_operation (QueuedPhase OnToTell) refl (search plain)
  back (QueuedPhase OnToInflate) = by_operation (QueuedPhase OnToInflate) refl (search (plain, timed))
  back (QueuedPhase OnToResume) = by_operation (QueuedPhase OnToResume) refl (
    tt,
    tt,
    saving (QueuedPhase OnToResume) refl (inr refl) (λ fine. (fine.0, fine.1, tt)) refl,
    tt,
    tt,
    timed_saving (QueuedPhase OnToResume) refl (inr refl) (λ fine left. (fine.0, fine.1, any_left left)) refl,
  )
  back Check = by_operation Check refl (search plain)
  back Try = by_operation Try refl (search plain)
  back ContendingPhase = by_operation ContendingPhase refl (search plain)
  back Test = by_operation Test refl (search plain)
  back Tell = by_operation Tell refl (search plain)
  back Leave = by_operation Leave refl (search plain)
  back Inflate = by_operation Inflate refl (search (plain, timed))
  back GiveUp = by_operation GiveUp refl (search (plain, timed))
  back WaitingPhase = by_operation WaitingPhase refl (
    tt,
    tt,
    saving WaitingPhase refl (inl (omega arith, omega arith)) (λ fine. (fine.0, fine.1, tt)) refl,
    tt,
    tt,
    timed_saving WaitingPhase refl (inl (omega arith, omega arith)) (λ fine left. (fine.0, fine.1, still_left (λ e. omega (arith, e)) (λ e. omega (arith, e)) left)) refl,
  )
  back Resume = by_operation Resume refl (
    tt,
    tt,
    saving Resume refl (inl (omega arith, omega arith)) (λ fine. (fine.0, fine.1, tt)) refl,
    tt,
    tt,
    timed_saving Resume refl (inl (omega arith, omega arith)) (λ fine left. (fine.0, fine.1, any_left left)) refl,
  )

pub fits_written : (objects n : ℕ) → IsNumber n → (thread : ThreadRecord) → ThreadFits objects n thread → IsWritten objects n thread
fits_written objects n is_number thread =
    back objects n thread.object thread.kept thread.saved thread.ticks thread is_number thread.phase thread.operation

-- the empty record is an idle thread
pub none_written : (objects n : ℕ) → IsWritten objects n no_thread
unfolding write_activity
none_written objects n = record { state = Idle; fine = tt; written = refl; home = λ busy. absurd busy; number = λ busy. absurd busy }

-- the state is the one that the record is read as
pub state_back : (objects n : ℕ) (thread : ThreadRecord) (is : IsWritten objects n thread) → read_thread thread ≡ is.state
state_back objects n thread is = ap read_thread is.written ∙ state_read n thread.object is.state is.number is.fine

-- and the phase is that state's
pub phase_back : (objects n : ℕ) (thread : ThreadRecord) (is : IsWritten objects n thread) → phase_number thread.phase ≡ phase_of is.state
phase_back objects n thread is =
    ap (λ (read : ThreadRecord). phase_number read.phase) is.written ∙ phase_written n thread.object is.state
