-- On every sound table, reached by a schedule or not: a step lowers the work that is left, a begin adds 205 to it at most, and no thread has more than that.
use Prim.Native.Nat.{ℕ, ◌+◌, ◌*◌, ◌≤◌, ◌<◌}
use mathlib.Core.Path.{◌≡◌, refl, ap, ◌∙◌}
use mathlib.Core.Bool.{true}
use Rattle.laws.proofs.Choice.{either_way}
use Rattle.lock_word.specs.{Read.read_word, Meaning.seen_word}
use Rattle.std.specs.Prelude.{Option, Some, None}
use Rattle.lock_word.specs.declared.reading.LockWord.{LockWord}
use Rattle.lock_rules.specs.declared.event.Event.{Event}
use Rattle.lock_rules.specs.declared.event.Event.TheVariants.{Begin, Step}
use Rattle.lock_rules.proofs.ListSound.{SoundTable}
use Rattle.lock_rules.proofs.Tables.{ListTable, turn}
use Rattle.lock_table.specs.Access.{thread_at, object_at}
use Rattle.lock_table.specs.WellTyped.{WellTyped}
use Rattle.lock_table.specs.declared.record.Table.{Table}
use Rattle.lock_perform.specs.State.{read_thread}
use Rattle.lock_soundness.specs.Sound.{sound_of}
use Rattle.lock_engine.specs.{Outcome.reply_returned, Handle.handle}
use Rattle.lock_records.proofs.{Represents.Represents, SoundRepresents.sound_represents, Naming.idle_or_busy, Written.seen_written}
use Rattle.lock_records.proofs.Readings.{busy_in, state_is, home_is, word_is}
use Rattle.step_bounds.specs.SixSteps.{is_step}
use Rattle.lock_schedule.proofs.{EngineKind.event_is_turn, Interpreter.told}
use Rattle.step_measure.proofs.Sums.{sum_up_to, sum_same, sum_most}
use Rattle.step_measure.proofs.Weights.{look_more, weight, weight_limit, weight_most}
use Rattle.step_measure.proofs.WeightTables.{weight_to, list_work, Measured, event_measured}

-- what a look has besides, by a word's bits; what is no lock word is no reserved one
abbrev pub more_read : Option LockWord → ℕ
more_read None = 0
more_read (Some word) = look_more (seen_word word)

-- the weight of a thread, by its record and its object's
abbrev pub weight_at : Table → ℕ → ℕ
weight_at t n = let own = thread_at t n in weight (more_read (read_word (object_at t own.object).word)) (read_thread own)

-- the work left on a table: its threads' weights
unfoldable pub work_left : Table → ℕ
work_left t = sum_up_to t.threadcount (weight_at t)

-- is that on the lists that it represents
module _ (threads objects : ℕ) (t : Table) (lists : ListTable) (represents : Represents threads objects t lists) (sound : SoundTable threads objects lists) where
  weight_is : (n : ℕ) → weight_at t n ≡ weight_to lists n
  weight_is n =
      let home = (lists.threads n).object in
      let state = state_is threads objects t lists represents sound n in
      either_way (idle_or_busy (lists.threads n).state) (λ idle. rw (state, idle) refl)
      (λ busy. let (number, first, last) = busy_in threads objects lists sound n busy in
      rw (state, home_is threads objects t lists represents sound n busy, word_is threads objects t lists represents sound home first last, seen_written home (lists.objects home).word)
      refl)

  work_is : work_left t ≡ list_work threads lists
  unfolding work_left
  work_is = ap (λ (n : ℕ). sum_up_to n (weight_at t)) represents.threadcount ∙ sum_same (weight_at t) (weight_to lists) threads (λ n low high. weight_is n)

module _ (t : Table) (typed : WellTyped t) (sound : sound_of t ≡ true) where
  abbrev threads : ℕ
  threads = t.threadcount

  abbrev objects : ℕ
  objects = t.objectcount

  pub read : (lists : ListTable) × Represents threads objects t lists × SoundTable threads objects lists
  read = sound_represents t typed.threads typed.objects (λ o real inside. typed.depths o) sound

  measured : (event : Event) → let outcome = handle t event in Measured event (reply_returned outcome.reply) (work_left t) (work_left outcome.table)
  measured event =
      let (lists, represents, fine) = read in
      let one = told threads objects t lists represents fine event (event_is_turn t sound event) in
      let after = (turn threads objects lists event).table in
      rw (one.number, work_is threads objects t lists represents fine, work_is threads objects (handle t event).table after one.represents one.sound)
      (event_measured threads objects represents.thread_room lists event)

  pub step_lowers : (n : ℕ) → is_step (reply_returned (handle t (Step n)).reply) ≡ true → work_left (handle t (Step n)).table < work_left t
  step_lowers n = measured (Step n)

  pub begin_adds : (operation n object limit : ℕ) → reply_returned (handle t (Begin operation n object limit)).reply ≡ 0
      → work_left (handle t (Begin operation n object limit)).table ≤ work_left t + weight_limit
  begin_adds operation n object limit = measured (Begin operation n object limit)

  pub work_most : work_left t ≤ weight_limit * t.threadcount
  work_most =
      let (lists, represents, fine) = read in
      rw (work_is threads objects t lists represents fine)
      (sum_most (weight_to lists) weight_limit (λ n. weight_most (lists.objects (lists.threads n).object).word (lists.threads n).state) threads)
