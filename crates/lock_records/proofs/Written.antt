-- What a rule's view of a word and a thread's state are written as, how they are read back, and what the changes of words and records make of them.
use Prim.Native.Nat.{ℕ, ◌≤◌}
use mathlib.Core.Path.{◌≡◌, refl, sym, ap, ◌∙◌}
use mathlib.Core.Logic.{◌⊎◌, inl, inr}
use native.Mathlib.Omega.{arith}
use native.Mathlib.Nat.{le_of_lt}
use lib.Dec.{T, eqb}
use Rattle.laws.specs.Choice.{pick}
use Rattle.laws.proofs.Choice.{by_test, either_way, split, pick_same}
use Rattle.lock_word.specs.Layout.{count_limit}
use Rattle.lock_word.specs.Read.{read_word, thread_number, monitor_number}
use Rattle.lock_word.specs.Write.{write_word, IsNumber, InRange, reserved_word}
use Rattle.lock_word.specs.Meaning.{seen_word, kept_count, cancelled, rewritten_of, cancel_of, cancel_read}
use Rattle.lock_word.proofs.RoundTrip.{meaning_of_word}
use Rattle.lock_word.specs.declared.reading.LockWord.{LockWord}
use Rattle.lock_word.specs.declared.reading.LockWord.TheVariants.{Free, Flat, Anonymous, Reserved, Fat}
use Rattle.std.specs.Prelude.{Some}
use Rattle.lock_rules.specs.Numbers.{phase_of_doing, phase_of}
use Rattle.lock_rules.specs.Rules.{onward}
use Rattle.lock_rules.proofs.Changes.{seen_after, handed, moved, look_again, sent_back}
use Rattle.lock_rules.proofs.Each.{each_limit, each_suspension, each_doing, each_state, each_carried, each_word}
use Rattle.lock_rules.proofs.Status.{unfinished}
use Rattle.lock_rules.specs.declared.{OnwardStep.OnwardStep, Doing.Doing, ThreadState.ThreadState, WordChange.WordChange}
use Rattle.lock_rules.specs.declared.Doing.TheVariants.{ExitStore}
use Rattle.lock_rules.specs.declared.ThreadState.TheVariants.{Idle, Running}
use Rattle.lock_word.specs.declared.meaning.WordSeen.{WordSeen}
use Rattle.lock_word.specs.declared.meaning.WordSeen.TheVariants.{Free as SeenFree, Flat as SeenFlat, Anonymous as SeenAnonymous}
use Rattle.lock_word.specs.declared.meaning.WordSeen.TheVariants.{Reserved as SeenReserved, Fat as SeenFat}
use Rattle.lock_rules.specs.declared.WordChange.TheVariants.{Unchanged, Freed, OwnFlat, OwnReserved, Cancelled, Inflated}
use Rattle.lock_rules.proofs.ListSound.{WordFine, DoingFine, StateFine}
use Rattle.lock_table.specs.Limits.{thread_limit, object_limit}
use Rattle.lock_table.specs.Phase.{onward_number, onward_phase, phase_number, carried_number}
use Rattle.lock_table.specs.Record.{no_thread, with_activity, with_next}
use Rattle.lock_table.specs.Chain.{carried_of, handed_of, moved_phase, moved as moved_record}
use Rattle.lock_table.specs.declared.record.ThreadRecord.{ThreadRecord}
use Rattle.lock_perform.specs.State.{wait_activity, limit_of, look_of, store_of, cancel_of as cancel_state_of, go_in_of, carried_of as carried_state_of, state_by}
use Rattle.lock_perform.specs.State.{read_activity, doing_activity, carried_activity, write_activity, write_thread}
use Rattle.lock_perform.specs.Moving.{back_from, sent_back_of}
use Rattle.lock_perform.specs.Perform.{word_after}

-- the lock word of what a rule sees at object o, and its bits
abbrev pub lock_word : ℕ → WordSeen → LockWord
lock_word o SeenFree = Free
lock_word o SeenAnonymous = Anonymous
lock_word o SeenFat = Fat (monitor_number o)
lock_word o (SeenFlat thread count) = Flat (thread_number thread) count
lock_word o (SeenReserved thread count) = Reserved (thread_number thread) count

abbrev pub word_written : ℕ → WordSeen → ℕ
word_written o seen = write_word (lock_word o seen)

-- a rule sees what was written
pub seen_written : (o : ℕ) (seen : WordSeen) → seen_word (lock_word o seen) ≡ seen
unfolding seen_word
seen_written o = each_word _ search

module _ (threads o : ℕ) (thread_room : threads ≤ thread_limit) (real : 1 ≤ o) (object_room : o ≤ object_limit) where
  word_in_range : (seen : WordSeen) → WordFine threads seen → InRange (lock_word o seen)
  unfolding InRange
  word_in_range = each_word _ (search arith)

  -- a written word is valid, and is read as what was written
  pub word_read : (seen : WordSeen) → WordFine threads seen → read_word (word_written o seen) ≡ Some (lock_word o seen)
  word_read seen fine = meaning_of_word (lock_word o seen) (word_in_range seen fine)

  -- cancelling the bits writes the cancelled word
  cancel_written : (seen : WordSeen) → WordFine threads seen → cancel_of (word_written o seen) ≡ word_written o (cancelled seen)
  unfolding cancel_of cancel_read rewritten_of seen_word write_word
  cancel_written seen fine = rw (word_read seen fine) (at seen)
    where
      at : (seen : WordSeen) → cancel_read (word_written o seen) (Some (lock_word o seen)) ≡ word_written o (cancelled seen)
      at =
          each_word _ (
            search,
            search,
            search,
            search,
            λ thread count. by_test (λ word. rewritten_of (word_written o (SeenReserved thread count)) word ≡ word_written o word) (eqb count 0) (λ e. refl) (λ e. refl),
          )

  -- a change of the bits by thread n writes the word that the change makes
  pub word_changed : (n : ℕ) (seen : WordSeen) → WordFine threads seen → (change : WordChange)
      → word_after n o (word_written o seen) change ≡ word_written o (seen_after n change seen)
  unfolding word_after write_word
  word_changed n seen fine Unchanged = refl
  word_changed n seen fine Freed = refl
  word_changed n seen fine (OwnFlat count) = refl
  word_changed n seen fine (OwnReserved count) = refl
  word_changed n seen fine Cancelled = cancel_written seen fine
  word_changed n seen fine Inflated = refl

-- the count of a kept word, by the word reader
count_kept : (n count : ℕ) → IsNumber n → count ≤ count_limit → kept_count (read_word (reserved_word n count)) ≡ count
unfolding write_word InRange kept_count
count_kept n count is_number small = ap kept_count (meaning_of_word (Reserved (thread_number n) count) (is_number, omega (arith, small)))

-- a fine state is read back
doing_read : (n o : ℕ) (doing : Doing) → IsNumber n → DoingFine doing → read_activity (doing_activity n o doing) ≡ Running doing
unfolding doing_activity wait_activity limit_of state_by look_of store_of cancel_state_of go_in_of
doing_read n o doing is_number =
    each_doing (λ d. DoingFine d → read_activity (doing_activity n o d) ≡ Running d) (
      search (count_kept, le_of_lt),
      (search, λ count fine. ap (λ (c : ℕ). Running (ExitStore c)) (count_kept n count is_number fine.1), search, search, search, search),
      (each_limit _ (search), each_limit _ (search), each_limit _ (search), each_limit _ (search), each_limit _ (search), each_suspension _ (search)),
      search,
      search,
    ) doing

pub state_read : (n o : ℕ) (state : ThreadState) → (T (unfinished state) → IsNumber n) → StateFine state → read_activity (write_activity n o state) ≡ state
unfolding write_activity carried_activity wait_activity limit_of state_by carried_state_of
state_read n o state is_number fine =
    each_state (λ s. (T (unfinished s) → IsNumber n) → StateFine s → read_activity (write_activity n o s) ≡ s) (
      search,
      λ doing is fine. doing_read n o doing (is tt) fine,
      each_carried _ (search, search, each_limit _ (search), each_suspension _ (search)),
      search,
      each_suspension _ (search),
    ) state is_number fine

-- The record of a thread that can take a step, field by field and after each change of another thread's record.
pub record WrittenDoing (n o : ℕ) (doing : Doing) (own : ThreadRecord) : Type 0 where
  pub object : (doing_activity n o doing).object ≡ o
  pub phase : phase_number (doing_activity n o doing).phase ≡ phase_of_doing doing
  pub carried : carried_number (doing_activity n o doing).phase ≡ 0
  -- it carries no phase to take when it is handed the monitor
  pub handed_on : handed_of (with_activity own (doing_activity n o doing)) ≡ with_activity (with_next own 0) (doing_activity n o doing)
  -- nor does it move
  pub unmoved : moved_record (with_activity own (doing_activity n o doing)) ≡ with_activity own (doing_activity n o doing)
  -- from its store it goes back to its look
  pub back : back_from (with_activity own (doing_activity n o doing)) (doing_activity n o doing).phase
      ≡ with_activity own (doing_activity n o (look_again doing))

pub written_doing : (n o : ℕ) (doing : Doing) (own : ThreadRecord) → WrittenDoing n o doing own
unfolding doing_activity wait_activity carried_of moved_phase back_from phase_number carried_number
written_doing n o doing own = each_doing (λ d. WrittenDoing n o d own) (search, search, (each_limit _ (search), each_limit _ (search), each_limit _ (search), each_limit _ (search), each_limit _ (search), each_suspension _ (search)), search, search) doing

-- the same for a queued thread, which carries the phase that it takes
pub record WrittenCarried (n o : ℕ) (carried : OnwardStep) (own : ThreadRecord) : Type 0 where
  pub object : (carried_activity o carried).object ≡ o
  pub phase : phase_number (carried_activity o carried).phase ≡ 5
  pub carries : carried_number (carried_activity o carried).phase ≡ phase_of_doing (onward carried)
  pub handed_on : handed_of (with_activity own (carried_activity o carried)) ≡ with_activity (with_next own 0) (doing_activity n o (onward carried))
  pub unmoved : moved_record (with_activity own (carried_activity o carried)) ≡ with_activity own (carried_activity o carried)
  pub back : back_from (with_activity own (carried_activity o carried)) (carried_activity o carried).phase ≡ with_activity own (carried_activity o carried)

pub written_carried : (n o : ℕ) (carried : OnwardStep) (own : ThreadRecord) → WrittenCarried n o carried own
unfolding carried_activity doing_activity wait_activity carried_of moved_phase onward_phase back_from phase_number carried_number onward_number
written_carried n o carried own = each_carried (λ c. WrittenCarried n o c own) (search, search, each_limit _ (search), each_suspension _ (search)) carried

-- the object of a thread that is not idle is written as it is
pub idle_or_written : (n o : ℕ) (state : ThreadState) → (state ≡ Idle) ⊎ ((write_activity n o state).object ≡ o)
unfolding write_activity wait_activity
idle_or_written n o = each_state _ (
  search inl,
  λ doing. inr (written_doing n o doing no_thread).object,
  λ carried. inr (written_carried n o carried no_thread).object,
  search inr,
  each_suspension _ (search inr),
)

pub object_written : (n o : ℕ) (state : ThreadState) → T (unfinished state) → (write_activity n o state).object ≡ o
object_written n o state busy = either_way (idle_or_written n o state) (λ idle. absurd (rw idle at busy)) (λ same. same)

-- and the phase, by its number
pub phase_written : (n o : ℕ) (state : ThreadState) → phase_number (write_activity n o state).phase ≡ phase_of state
unfolding write_activity wait_activity phase_number
phase_written n o =
    each_state _ (search, λ doing. (written_doing n o doing no_thread).phase, λ carried. (written_carried n o carried no_thread).phase, search, each_suspension _ (search))

-- a thread that is handed the monitor, having left the entry chain, takes the phase that it carries
pub handed_written : (n o : ℕ) (state : ThreadState) (own : ThreadRecord) → handed_of (write_thread n o state own) ≡ write_thread n o (handed state) (with_next own 0)
unfolding write_activity wait_activity carried_of
handed_written n o =
    each_state _ (search, λ doing own. (written_doing n o doing own).handed_on, λ carried own. (written_carried n o carried own).handed_on, search, each_suspension _ (search))

-- a thread that moves to the entry chain
pub moved_written : (n o : ℕ) (state : ThreadState) (own : ThreadRecord) → moved_record (write_thread n o state own) ≡ write_thread n o (moved state) own
unfolding write_activity carried_activity wait_activity moved_phase
moved_written n o =
    each_state _ (search, λ doing own. (written_doing n o doing own).unmoved, λ carried own. (written_carried n o carried own).unmoved, search, each_suspension _ (search))

back_written : (n o : ℕ) (state : ThreadState) (own : ThreadRecord)
    → back_from (write_thread n o state own) (write_activity n o state).phase ≡ write_thread n o (sent_back state) own
unfolding write_activity wait_activity back_from
back_written n o =
    each_state _ (search, λ doing own. (written_doing n o doing own).back, λ carried own. (written_carried n o carried own).back, search, each_suspension _ (search))

-- a thread at `home` is sent back by a cancel at object o if it is there
pub sent_back_written : (o n home : ℕ) (state : ThreadState) (own : ThreadRecord)
    → sent_back_of o (write_thread n home state own) ≡ write_thread n home (pick (eqb home o) (sent_back state) state) own
unfolding sent_back_of
sent_back_written o n home state own =
    ap (λ (back : ThreadRecord). pick (eqb (write_activity n home state).object o) back (write_thread n home state own)) (back_written n home state own)
    ∙ either_way (idle_or_written n home state)
    (λ idle. rw idle
    (pick_same (eqb (write_activity n home Idle).object o) (write_thread n home Idle own)
    ∙ ap (λ (s : ThreadState). write_thread n home s own) (sym (pick_same (eqb home o) Idle))))
    (λ same. ap (λ (b : ℕ). pick (eqb b o) (write_thread n home (sent_back state) own) (write_thread n home state own)) same
    ∙ split (eqb home o) (λ e. rw e) (λ e. rw e))
