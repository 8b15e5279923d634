-- Every table that passes the engine's test represents a sound table with lists: the one that it is read as.
use Prim.Native.Nat.{ℕ, ◌≤◌, ◌<◌}
use mathlib.Core.Path.{◌≡◌, refl, sym, ap, ◌∙◌, subst, fun_ext}
use mathlib.Core.Logic.{inl, inr}
use mathlib.Core.Bool.{true}
use native.Mathlib.Omega.{arith}
use lib.ListN.{length}
use Rattle.laws.specs.Count.{count}
use Rattle.laws.proofs.Choice.{either_way, equal?}
use Rattle.chains.specs.Chain.{members}
use Rattle.chains.proofs.Listed.{Chain as Linked, head, chain_head, members_none}
use Rattle.chains.proofs.Falling.{links_falling}
use Rattle.chains.proofs.Links.{Links, LinksRepresent}
use Rattle.lock_word.specs.{Read.read_word, Depth.depth_limit}
use Rattle.lock_rules.specs.declared.ThreadState.{ThreadState}
use Rattle.lock_rules.specs.declared.ThreadState.TheVariants.{Idle}
use Rattle.lock_rules.proofs.Each.{each_chain}
use Rattle.lock_rules.proofs.Objects.{ListObject, object_of, chain_of}
use Rattle.lock_rules.proofs.Tables.{ListTable, seen_idle}
use Rattle.lock_rules.proofs.ListSound.{StateFine, WordFine, InTable, SoundTable}
use Rattle.chains.specs.declared.named.Chain.{Chain}
use Rattle.lock_table.specs.Limits.{thread_limit, object_limit}
use Rattle.lock_table.specs.Record.{no_thread, with_word, with_monitor}
use Rattle.lock_table.specs.Access.{thread_at, object_at, next_of, phase_number_at}
use Rattle.lock_table.specs.Parked.{chain_named, thread_chain, first_in, chain_first}
use Rattle.lock_table.specs.Phase.{phase_number}
use Rattle.lock_table.specs.declared.record.{ObjectRecord.ObjectRecord, Table.Table}
use Rattle.lock_table.proofs.Records.{thread_none}
use Rattle.lock_perform.specs.State.{write_thread, state_by, read_thread}
use Rattle.lock_records.proofs.Numbering.{number, lists_of, list_at, by_number}
use Rattle.lock_records.proofs.Represents.{object_record, thread_record, Represents}
use Rattle.lock_soundness.specs.Sound.{sound_of}
use Rattle.sound_records.proofs.Reading.{chain_kinds, UnheldFits}
use Rattle.lock_soundness.proofs.Reading.{threads_in_chain, Sound, sound_reads}
use Rattle.sound_records.specs.OnePass.{chain_number}
use Rattle.lock_records.proofs.Naming.{by_chain, one_chain, idle_or_busy}
use Rattle.lock_records.proofs.{ReadBack.state_back, Depths.DepthsFit, EveryNumber.counted_at}
use Rattle.lock_records.proofs.Words.{seen_in, word_back, no_word_fine}
use Rattle.lock_records.proofs.EveryNumber.{thread_read, thread_where, object_where, written_at, no_next_at, chain_at, members_at, parked_at}

-- the table with lists that a table is read as
abbrev pub object_read : Table → ℕ → ListObject
object_read t o =
    object_of (λ n. (thread_at t n).rank) (seen_in (read_word (object_at t o).word)) (object_at t o).flag (object_at t o).monitor.holder (object_at t o).monitor.depth
    (threads_in_chain t o 1) (threads_in_chain t o 2) (threads_in_chain t o 3)

abbrev pub lists_read : Table → ListTable
lists_read t = record { threads = thread_read t; objects = object_read t }

list_read : (t : Table) (o : ℕ) (chain : Chain) → chain_of chain (object_read t o) ≡ threads_in_chain t o (chain_number chain)
list_read t o = each_chain _ (search)

list_numbered : (t : Table) (o : ℕ) (chain : Chain) → lists_of (object_read t) (number o chain) ≡ threads_in_chain t o (chain_number chain)
list_numbered t o chain = list_at (object_read t) o chain ∙ list_read t o chain

-- its links: the first thread of a numbered chain is its list's
abbrev links_read : Table → Links
links_read t = record { next = next_of t; first = λ c. head (lists_of (object_read t) c) }

-- the empty record is read as an idle thread
idle_none : read_thread no_thread ≡ Idle
unfolding state_by
idle_none = refl

-- what the list object that a record is read as owes to soundness
record ObjectFine (threads : ℕ) (object : ObjectRecord) : Type 0 where
  word : WordFine threads (seen_in (read_word object.word))
  holder : object.monitor.holder ≤ threads
  deep : object.monitor.depth ≤ depth_limit
  unheld : UnheldFits object.monitor

module _ (t : Table) (sound : Sound t) where
  first_read : (o : ℕ) (chain : Chain) → (links_read t).first (number o chain) ≡ chain_first t o (chain_number chain)
  first_read o chain =
      ap head (list_numbered t o chain)
      ∙ sym (chain_head (next_of t) (chain_first t o (chain_number chain)) (threads_in_chain t o (chain_number chain)) (chain_at t sound o chain))

  -- the chain that a thread is in is that of its object which its phase names
  member_number : (c n : ℕ) → 0 < count n (lists_of (object_read t) c)
      → (chain : Chain) × (thread_chain (thread_at t n) ≡ chain_number chain) × (c ≡ number (thread_at t n).object chain)
  member_number =
      by_number
      (λ c. (n : ℕ) → 0 < count n (lists_of (object_read t) c)
      → (chain : Chain) × (thread_chain (thread_at t n) ≡ chain_number chain) × (c ≡ number (thread_at t n).object chain))
      (λ o chain n inside.
      let (here, names) = members_at t sound o chain n (rw (list_numbered t o chain) at inside) in
      (chain, names, ap (λ (k : ℕ). number k chain) (sym here)))

  represented : LinksRepresent (links_read t) (lists_of (object_read t))
  represented = record { chain = by_number (λ c. Linked (next_of t) ((links_read t).first c) (lists_of (object_read t) c)) linked; apart = apart; loose = loose }
    where
      linked : (o : ℕ) (chain : Chain) → Linked (next_of t) ((links_read t).first (number o chain)) (lists_of (object_read t) (number o chain))
      linked o chain = rw (first_read o chain, list_numbered t o chain) (chain_at t sound o chain)

      apart : (c d n : ℕ) → 0 < count n (lists_of (object_read t) c) → 0 < count n (lists_of (object_read t) d) → c ≡ d
      apart c d n in_c in_d =
          let (a, names_a, c_is) = member_number c n in_c in
          let (b, names_b, d_is) = member_number d n in_d in
          c_is ∙ (ap (number (thread_at t n).object) (one_chain a b (sym names_a ∙ names_b)) ∙ sym d_is)

      loose : (n : ℕ) → ((c : ℕ) → count n (lists_of (object_read t) c) ≡ 0) → next_of t n ≡ 0
      loose n nowhere =
          either_way (equal? (thread_chain (thread_at t n)) 0) (no_next_at t sound n)
          (λ some. absurd
          (by_chain (λ k. thread_chain (thread_at t n) ≡ k → ⊥) found (thread_chain (thread_at t n)) (omega (arith, some)) (chain_kinds (phase_number_at t n)) refl))
        where
          found : (chain : Chain) → thread_chain (thread_at t n) ≡ chain_number chain → ⊥
          found chain names =
              let none : count n (threads_in_chain t (thread_at t n).object (chain_number chain)) ≡ 0 =
              rw (list_numbered t (thread_at t n).object chain) at (nowhere (number (thread_at t n).object chain)) in
              omega (arith, none, parked_at t sound chain n names)

  -- every thread record is the thread that it is read as, written
  thread_written : (n : ℕ) → thread_at t n ≡ thread_record n (thread_read t n) (next_of t n) (thread_at t n)
  thread_written n =
      (written_at t sound n).written
      ∙ ap (λ (state : ThreadState). write_thread n (thread_at t n).object state (thread_at t n))
      (sym (state_back t.objectcount n (thread_at t n) (written_at t sound n)))

  -- and so is every object record in use
  object_written : (o : ℕ) → 1 ≤ o → o ≤ t.objectcount → object_at t o ≡ object_record o (object_read t o) (links_read t) (object_at t o)
  unfolding first_in
  object_written o low high =
      let (word, fine) = word_back t.threadcount o (object_at t o).word (sound.objects o low high).word in
      λ j.
      with_monitor (with_word (object_at t o) (sym word j)) (record {
        depth = (object_at t o).monitor.depth;
        holder = (object_at t o).monitor.holder;
        entry = sym (first_read o Chain.Entry) j;
        contention = sym (first_read o Chain.Contention) j;
        waiting = sym (first_read o Chain.Waiting) j;
      })

  represents_read : length t.threads ≡ thread_limit → length t.objects ≡ object_limit
      → Represents t.threadcount t.objectcount t (lists_read t)
  represents_read threads_full objects_full =
      record {
        threadcount = refl;
        objectcount = refl;
        thread_room = sound.sizes.0.1;
        object_room = sound.sizes.1.1;
        given = record {
          thread = thread_at t;
          object = object_at t;
          thread_fits = sound.threads;
          thread_past = λ n past. either_way (thread_where t sound n) (λ used. absurd (omega (arith, past, used.1))) (λ empty. empty);
          object_fits = sound.objects;
        };
        links = links_read t;
        chains = represented;
        written = record { records = fun_ext thread_written; full = threads_full };
        objects_full = objects_full;
        object_is = object_written;
        object_past = λ o past. either_way (object_where t sound o) (λ used. absurd (omega (arith, past, used.1))) (λ empty. empty);
        ranked = λ o. refl;
      }

  -- what the table with lists owes to soundness, thread by thread
  range_read : (n : ℕ) → InTable t.threadcount t.objectcount n (thread_read t n)
  range_read n =
      either_way (idle_or_busy (read_thread (thread_at t n))) inl
      (λ busy. either_way (thread_where t sound n)
      (λ used. let (low, high) = (written_at t sound n).home (rw (state_back t.objectcount n (thread_at t n) (written_at t sound n)) at busy) in
      inr (used.1, low, high))
      (λ empty. inl (ap read_thread empty ∙ idle_none)))

  -- nobody stands behind one of a lower rank in an entry chain
  falls : (o n : ℕ) → 0 < count n (threads_in_chain t o 1) → (thread_at t (next_of t n)).rank ≤ (thread_at t n).rank
  unfolding chain_named phase_number
  falls o n inside =
      let (here, queued) = members_at t sound o Chain.Entry n inside in
      either_way (thread_where t sound n) (λ used. sound.falling n used.0 used.1 queued)
      (λ empty. absurd (let none : thread_chain (thread_at t n) ≡ 0 = ap thread_chain empty in omega (arith, none, queued)))

  -- and object by object
  module _ (depths : DepthsFit t) where
    object_fine : (o : ℕ) → ObjectFine t.threadcount (object_at t o)
    object_fine o =
        either_way (object_where t sound o)
        (λ (low, high).
        record {
          word = (word_back t.threadcount o (object_at t o).word (sound.objects o low high).word).1;
          holder = (sound.objects o low high).holder;
          deep = depths o low high;
          unheld = (sound.objects o low high).unheld;
        })
        (λ empty. subst (ObjectFine t.threadcount) (sym empty)
        (record { word = no_word_fine t.threadcount; holder = omega arith; deep = omega arith; unheld = λ unheld. (refl, refl) }))

    sound_read : SoundTable t.threadcount t.objectcount (lists_read t)
    unfolding first_in
    sound_read =
        record {
          range = range_read;
          fine = λ n. subst StateFine (sym (state_back t.objectcount n (thread_at t n) (written_at t sound n))) (written_at t sound n).fine;
          sound = λ o.
              record {
                nobody = seen_idle o (thread_read t 0) (ap read_thread (thread_none t) ∙ idle_none);
                placed = λ n.
                    record {
                      entry = counted_at t sound o Chain.Entry n;
                      contention = counted_at t sound o Chain.Contention n;
                      waiting = counted_at t sound o Chain.Waiting n;
                    };
                word = (object_fine o).word;
                holder = (object_fine o).holder;
                deep = (object_fine o).deep;
                shallow = λ nobody. ((object_fine o).unheld nobody).0;
                empty = λ nobody.
                    ap (members t.threadcount (next_of t)) ((object_fine o).unheld nobody).1 ∙ members_none t.threadcount (next_of t);
                ordered = links_falling (λ n. (thread_at t n).rank) (next_of t) (chain_first t o 1) (threads_in_chain t o 1) (chain_at t sound o Chain.Entry) (falls o);
              };
        }

-- the lengths are those of the code's arrays, the depths those of its 16 bits
pub sound_represents : (t : Table) → length t.threads ≡ thread_limit → length t.objects ≡ object_limit → DepthsFit t → sound_of t ≡ true
    → (lists : ListTable) × Represents t.threadcount t.objectcount t lists × SoundTable t.threadcount t.objectcount lists
sound_represents t threads_full objects_full depths sound =
    (lists_read t, represents_read t (sound_reads t sound) threads_full objects_full, sound_read t (sound_reads t sound) depths)
