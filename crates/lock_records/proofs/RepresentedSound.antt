-- A table of records that represents a sound table with lists passes the engine's test: so 11 never occurs where lists are kept sound.
use Prim.Native.Nat.{ℕ, ◌≤◌, ◌<◌}
use mathlib.Core.Path.{◌≡◌, refl, sym, ap, ◌∙◌, subst, fun_ext}
use mathlib.Core.Logic.{◌≢◌}
use mathlib.Core.Bool.{true}
use native.Mathlib.Omega.{arith}
use lib.Dec.{T}
use Rattle.laws.specs.Count.{count}
use Rattle.chains.proofs.Listed.{Chain as Linked, head, chain_members}
use Rattle.chains.proofs.Falling.{falling_links}
use Rattle.lock_rules.specs.Numbers.{phase_of}
use Rattle.lock_rules.proofs.{Status.unfinished, ListSound.SoundTable, Objects.chain_of}
use Rattle.lock_rules.specs.declared.ThreadState.{ThreadState}
use Rattle.lock_rules.proofs.Tables.{ListTable, states_at, seen_here}
use Rattle.chains.specs.declared.named.Chain.{Chain}
use Rattle.lock_rules.proofs.ListChains.{times_in, placed_in, member_at, member_in, short, out_of_chain}
use Rattle.lock_table.specs.Record.{no_thread, with_next}
use Rattle.lock_table.specs.Access.{thread_at, object_at, next_of, phase_number_at}
use Rattle.lock_table.specs.Parked.{chain_named, thread_chain, first_in, chain_first}
use Rattle.lock_table.specs.declared.record.{ThreadRecord.ThreadRecord, ObjectRecord.ObjectRecord, Table.Table}
use Rattle.lock_table.proofs.{Records.thread_none, Walks.next_none}
use Rattle.lock_perform.specs.State.{write_activity, write_thread}
use Rattle.lock_records.proofs.Numbering.{number, lists_of, list_at, by_number}
use Rattle.lock_records.proofs.Written.{phase_written, word_written, word_read}
use Rattle.lock_records.proofs.Represents.{thread_record, monitor_record, Represents, next_is}
use Rattle.lock_records.proofs.Readings.{past_idle, busy_in, thread_is, home_is, first_is, chained}
use Rattle.lock_soundness.specs.Sound.{sound_of}
use Rattle.sound_records.proofs.Reading.{Within, chain_kinds, parked_busy, ObjectFits, ThreadFits, written_object_fits}
use Rattle.lock_soundness.proofs.Chained.{follow, chain_leads}
use Rattle.lock_soundness.proofs.Reading.{threads_in_chain, Sound, sound_made}
use Rattle.sound_records.specs.OnePass.{chain_number}
use Rattle.lock_records.proofs.Naming.{chain_number_low, by_chain, named_once, unnamed_never, in_named, named_busy}
use Rattle.lock_records.proofs.{Fits.written_fits, Words.word_fits}

module _ (t : Table) (lists : ListTable) (represents : Represents t.threadcount t.objectcount t lists)
    (sound : SoundTable t.threadcount t.objectcount lists) where
  -- a thread's record, and the object of one that is not idle
  record_at : (n : ℕ) → thread_at t n ≡ thread_record n (lists.threads n) (represents.links.next n) (represents.given.thread n)
  record_at = thread_is t.threadcount t.objectcount t lists represents sound

  home_at : (n : ℕ) → T (unfinished (lists.threads n).state) → (thread_at t n).object ≡ (lists.threads n).object
  home_at = home_is t.threadcount t.objectcount t lists represents sound

  -- which is one of the table
  home_in : (n : ℕ) → T (unfinished (lists.threads n).state) → Within 1 t.objectcount (lists.threads n).object
  home_in n busy = let (thread, low, high) = busy_in t.threadcount t.objectcount lists sound n busy in (low, high)

  -- the chain that its phase names
  named_is : (n : ℕ) → thread_chain (thread_at t n) ≡ chain_named (phase_of (lists.threads n).state)
  named_is n =
      ap thread_chain (record_at n)
      ∙ ap chain_named (phase_written n (lists.threads n).object (lists.threads n).state)

  -- where that is none, it is in none and has no next index
  no_next : (n : ℕ) → chain_named (phase_of (lists.threads n).state) ≡ 0 → represents.links.next n ≡ 0
  no_next n none =
      represents.chains.loose n
      (by_number (λ c. count n (lists_of lists.objects c) ≡ 0)
      (λ o chain. ap (count n) (list_at lists.objects o chain)
      ∙ out_of_chain t.threadcount t.objectcount lists sound chain o n
      (unnamed_never chain (lists.threads n).state (λ e. omega (arith, none, e, chain_number_low chain)))))

  thread_fits : (n : ℕ) → 1 ≤ n → n ≤ t.threadcount → ThreadFits t.objectcount n (thread_at t n)
  thread_fits n low high =
      subst (ThreadFits t.objectcount n) (sym (record_at n))
      (written_fits t.objectcount n (lists.threads n).object (represents.given.thread n) (represents.links.next n) low
      (omega (arith, high, represents.thread_room)) (represents.given.thread_fits n low high) (lists.threads n).state (sound.fine n) (home_in n)
      (no_next n))

  -- a chain of an object of the table, by its first thread and the next indexes
  module _ (o : ℕ) (low : 1 ≤ o) (high : o ≤ t.objectcount) where
    first_at : (chain : Chain) → chain_first t o (chain_number chain) ≡ represents.links.first (number o chain)
    unfolding first_in
    first_at Chain.Entry = ap (λ (object : ObjectRecord). object.monitor.entry) (represents.object_is o low high)
    first_at Chain.Contention = ap (λ (object : ObjectRecord). object.monitor.contention) (represents.object_is o low high)
    first_at Chain.Waiting = ap (λ (object : ObjectRecord). object.monitor.waiting) (represents.object_is o low high)

    linked_at : (chain : Chain) → Linked (next_of t) (chain_first t o (chain_number chain)) (chain_of chain (lists.objects o))
    linked_at chain =
        rw (next_is represents.given.thread t lists.threads represents.links.next represents.written, first_at chain)
        (chained t.threadcount t.objectcount t lists represents sound o chain)

    chain_is : (chain : Chain) → threads_in_chain t o (chain_number chain) ≡ chain_of chain (lists.objects o)
    chain_is chain =
        chain_members t.threadcount (next_of t) (chain_first t o (chain_number chain)) (chain_of chain (lists.objects o)) (linked_at chain)
        (short t.threadcount t.objectcount lists sound chain o)

    chain_ends : (chain : Chain) → follow t.threadcount (next_of t) (chain_first t o (chain_number chain)) ≡ 0
    chain_ends chain =
        chain_leads t.threadcount (next_of t) (chain_first t o (chain_number chain)) (chain_of chain (lists.objects o)) (next_none t) (linked_at chain)
        (short t.threadcount t.objectcount lists sound chain o)

    -- how often a thread at the object is in it
    counted : (chain : Chain) (n : ℕ) → (lists.threads n).object ≡ o → count n (chain_of chain (lists.objects o)) ≡ times_in chain (lists.threads n).state
    counted chain n here =
        placed_in chain n (states_at lists o n) (lists.objects o) ((sound.sound o).placed n)
        ∙ ap (times_in chain) (seen_here o (lists.threads n) here)

    members_named : (chain : Chain) (n : ℕ) → 0 < count n (threads_in_chain t o (chain_number chain))
        → ((thread_at t n).object ≡ o) × (thread_chain (thread_at t n) ≡ chain_number chain)
    members_named chain n inside =
        let member : 0 < count n (chain_of chain (lists.objects o)) = rw (chain_is chain) at inside in
        let here = member_at t.threadcount t.objectcount lists sound chain o n member in
        let names : chain_named (phase_of (lists.threads n).state) ≡ chain_number chain =
        in_named chain (lists.threads n).state (omega (arith, member, counted chain n here)) in
        let busy = named_busy (lists.threads n).state (λ none. omega (arith, none, names, chain_number_low chain)) in
        (home_at n busy ∙ here, named_is n ∙ names)

  -- a parked thread is in the chain that its phase names
  parked_in : (n : ℕ) → 1 ≤ n → n ≤ t.threadcount → thread_chain (thread_at t n) ≢ 0
      → 0 < count n (threads_in_chain t (thread_at t n).object (thread_chain (thread_at t n)))
  parked_in n low high parked =
      by_chain (λ k. thread_chain (thread_at t n) ≡ k → 0 < count n (threads_in_chain t (thread_at t n).object k)) at (thread_chain (thread_at t n))
      (omega (arith, parked)) (chain_kinds (phase_number_at t n)) refl
    where
      at : (chain : Chain) → thread_chain (thread_at t n) ≡ chain_number chain → 0 < count n (threads_in_chain t (thread_at t n).object (chain_number chain))
      at chain e =
          let names : chain_named (phase_of (lists.threads n).state) ≡ chain_number chain = sym (named_is n) ∙ e in
          let busy = named_busy (lists.threads n).state (λ none. omega (arith, none, names, chain_number_low chain)) in
          let (first, last) = home_in n busy in
          rw (home_at n busy, chain_is (lists.threads n).object first last chain)
          (omega (arith, counted (lists.threads n).object first last chain n refl, named_once chain (lists.threads n).state names))

  -- records past the table's sizes
  thread_past_empty : (n : ℕ) → t.threadcount < n → thread_at t n ≡ no_thread
  unfolding write_activity chain_named
  thread_past_empty n past =
      let idle = past_idle t.threadcount t.objectcount lists sound n past in
      record_at n
      ∙ (λ j. write_thread n (lists.threads n).object (idle j)
      (with_next (represents.given.thread_past n past j) (no_next n (ap (λ (state : ThreadState). chain_named (phase_of state)) idle) j)))

  -- the fields of an object
  object_fits : (o : ℕ) → 1 ≤ o → o ≤ t.objectcount → ObjectFits t.threadcount o (object_at t o)
  object_fits o low high =
      subst (ObjectFits t.threadcount o) (sym (represents.object_is o low high))
      (written_object_fits t.threadcount o (represents.given.object o) (word_written o (lists.objects o).word)
      (monitor_record o represents.links (lists.objects o).holder (lists.objects o).depth) (lists.objects o).flag (represents.given.object_fits o low high)
      (rw
      (word_read t.threadcount o represents.thread_room low (omega (arith, high, represents.object_room)) (lists.objects o).word
      (sound.sound o).word) (word_fits t.threadcount o (lists.objects o).word (sound.sound o).word))
      (sound.sound o).holder
      (λ unheld. (
        (sound.sound o).shallow unheld,
        first_is t.threadcount t.objectcount t lists represents sound o Chain.Entry ∙ ap head ((sound.sound o).empty unheld),
      )))

  -- behind a queued thread stands nobody of a higher rank
  falls : (n : ℕ) → 1 ≤ n → n ≤ t.threadcount → thread_chain (thread_at t n) ≡ 1 → (thread_at t (next_of t n)).rank ≤ (thread_at t n).rank
  falls n low high queued =
      let parked : thread_chain (thread_at t n) ≢ 0 = λ none. omega (arith, queued, none) in
      let o = (thread_at t n).object in
      let (first, last) = ((thread_fits n low high).operation (parked_busy (phase_number_at t n) parked)).0 in
      let member : 0 < count n (lists.objects o).entry = rw (queued, chain_is o first last Chain.Entry) at (parked_in n low high parked) in
      let ranks : (lists.objects o).rank ≡ (λ m. (thread_at t m).rank) =
      represents.ranked o ∙ fun_ext (λ m. ap (λ (thread : ThreadRecord). thread.rank) (sym (record_at m))) in
      rw ranks at
      (falling_links (lists.objects o).rank (next_of t) (chain_first t o 1) (lists.objects o).entry
      (ap (λ (rank : ℕ → ℕ). rank 0) ranks ∙ ap (λ (thread : ThreadRecord). thread.rank) (thread_none t)) (linked_at o first last Chain.Entry) (sound.sound o).ordered n member)

  clauses_hold : 1 ≤ t.threadcount → 1 ≤ t.objectcount → Sound t
  clauses_hold some_thread some_object =
      record {
        sizes = ((some_thread, represents.thread_room), (some_object, represents.object_room));
        objects = object_fits;
        threads = thread_fits;
        chains_end = λ o low high. by_chain (λ k. follow t.threadcount (next_of t) (chain_first t o k) ≡ 0) (chain_ends o low high);
        chains_inside = λ o low high.
            by_chain (λ k. (n : ℕ) → 0 < count n (threads_in_chain t o k) → Within 1 t.threadcount n)
            (λ chain n inside.
            member_in t.threadcount t.objectcount lists sound chain o n (rw (chain_is o low high chain) at inside));
        parked = parked_in;
        no_others = λ o low high.
            by_chain (λ k. (n : ℕ) → 0 < count n (threads_in_chain t o k) → ((thread_at t n).object ≡ o) × (thread_chain (thread_at t n) ≡ k))
            (members_named o low high);
        falling = falls;
        threads_past = λ n low high. thread_past_empty n;
        objects_past = λ o low high. represents.object_past o;
      }

pub represented_sound : (threads objects : ℕ) (t : Table) (lists : ListTable) → 1 ≤ threads → 1 ≤ objects → Represents threads objects t lists
    → SoundTable threads objects lists → sound_of t ≡ true
represented_sound threads objects t lists some_thread some_object represents sound =
    -- the sizes are the table's
    subst (λ (T : ℕ). 1 ≤ T → 1 ≤ objects → Represents T objects t lists → SoundTable T objects lists → sound_of t ≡ true) represents.threadcount
    (subst (λ (N : ℕ). 1 ≤ t.threadcount → 1 ≤ N → Represents t.threadcount N t lists → SoundTable t.threadcount N lists → sound_of t ≡ true)
    represents.objectcount (λ some_thread some_object represents sound. sound_made t (clauses_hold t lists represents sound some_thread some_object)))
    some_thread some_object represents sound
