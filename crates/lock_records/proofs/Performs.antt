-- An effect carried out on the records, and a begin, represent the table with lists on which the same was done.
use Prim.Native.Nat.{ℕ, ◌≤◌}
use mathlib.Core.Path.{◌≡◌, refl, sym, ap, ◌∙◌, subst}
use mathlib.Core.List.{[]}
use native.Mathlib.Omega.{arith}
use lib.ListN.{length}
use Rattle.laws.specs.{Update.update, Count.count}
use Rattle.laws.proofs.Update.{update_id}
use Rattle.chains.proofs.Links.{Links, LinksRepresent}
use Rattle.lock_rules.proofs.{Changes.seen_after, Each.each_chain, ListSound.SoundTable}
use Rattle.lock_rules.specs.declared.{Doing.Doing, ThreadState.ThreadState, Effect.Effect}
use Rattle.lock_rules.specs.declared.ThreadState.TheVariants.{Running}
use Rattle.std.specs.Prelude.{Some, None}
use Rattle.lock_rules.proofs.Objects.{ListObject}
use Rattle.lock_rules.proofs.Perform.{perform, states_after, unparks, action_unparks, object_after, effected}
use Rattle.lock_rules.proofs.Tables.{ListThread, ListTable, states_at, put_back}
use Rattle.chains.specs.declared.named.Chain.{Chain}
use Rattle.lock_rules.proofs.ListChains.{times_in, short, out_of_chain}
use Rattle.lock_table.specs.Limits.{thread_limit}
use Rattle.lock_table.specs.Record.{with_next, with_word, with_flag, with_monitor}
use Rattle.lock_table.specs.Access.{thread_at, set_thread, object_at, set_object, next_of}
use Rattle.lock_table.specs.declared.record.{ObjectRecord.ObjectRecord, Table.Table}
use Rattle.lock_perform.specs.State.{write_thread}
use Rattle.lock_perform.specs.Moving.{CarriedOut, carry_out}
use Rattle.lock_perform.specs.{ThreadSet.has_thread, Perform.object_after as object_after_record}
use Rattle.lock_perform.proofs.Performed.{perform_of}
use Rattle.lock_records.proofs.Numbering.{lists_of, list_at, by_number, update_number, work_links, Room, represent_work, goes, lists_work}
use Rattle.lock_records.proofs.Written.{word_written, word_changed}
use Rattle.lock_records.proofs.Represents.{thread_record, monitor_record, object_record, Represents, record_is, next_is}
use Rattle.lock_records.proofs.Moves.{Moves, moves_set, moves_change}
use Rattle.lock_records.proofs.Placing.{placed, placed_none, placed_own}
use Rattle.lock_records.proofs.Shorts.{both_brief}
use Rattle.lock_records.proofs.Actions.{Acted, acted, word_kept, rank_kept}
use Rattle.lock_records.proofs.Replaced.{objects_of, replaced_represents}

-- a thread in no chain names none
abbrev Unchained : ThreadState → Type 0
Unchained state = (chain : Chain) → times_in chain state ≡ 0

pub running_unchained : (doing : Doing) → Unchained (Running doing)
running_unchained doing = each_chain _ (search)

module _ (threads objects : ℕ) (t : Table) (lists : ListTable) (represents : Represents threads objects t lists) (sound : SoundTable threads objects lists)
    (i : ℕ) (low : 1 ≤ i) (high : i ≤ threads) where
  -- thread i is in no chain, and every chain is short enough to walk to its end
  room : Unchained (lists.threads i).state → Room i (lists_of lists.objects)
  room unchained =
      record {
        real = λ e. omega (arith, low, e);
        out = by_number (λ c. count i (lists_of lists.objects c) ≡ 0)
            (λ o chain. rw (list_at lists.objects o chain) (out_of_chain threads objects lists sound chain o i (unchained chain)));
        short = by_number (λ c. length (lists_of lists.objects c) ≤ thread_limit)
            (λ o chain. rw (list_at lists.objects o chain) (omega (arith, short threads objects lists sound chain o, represents.thread_room)));
        both_short = λ o from. rw (update_number (lists_of lists.objects) o from Chain.Entry [], list_at lists.objects o Chain.Entry, list_at lists.objects o from)
            (omega (arith, both_brief threads objects lists sound o from, represents.thread_room));
      }

  -- a begin writes one thread's record
  pub begin_represents : (thread : ListThread)
      → Represents threads objects (set_thread t i (write_thread i thread.object thread.state (thread_at t i)))
      (record { threads = update lists.threads i thread; objects = lists.objects })
  begin_represents thread =
      record {
        threadcount = moves.beside.threadcount ∙ represents.threadcount;
        objectcount = moves.beside.objectcount ∙ represents.objectcount;
        thread_room = represents.thread_room;
        object_room = represents.object_room;
        given = represents.given;
        links = represents.links;
        chains = represents.chains;
        written = moves.written;
        objects_full = ap length moves.beside.objects ∙ represents.objects_full;
        object_is = λ o real small. ap (λ (f : ℕ → ObjectRecord). f o) same ∙ represents.object_is o real small;
        object_past = λ o past. ap (λ (f : ℕ → ObjectRecord). f o) same ∙ represents.object_past o past;
        ranked = represents.ranked;
      }
    where
      begun : Table
      begun = set_thread t i (write_thread i thread.object thread.state (thread_at t i))

      moves : Moves represents.given.thread t begun (update lists.threads i thread) represents.links.next
      moves =
          moves_change represents.given.thread t t lists.threads represents.links.next
          (record { written = represents.written; beside = record { threadcount = refl; objectcount = refl; objects = refl; length_kept = refl } })
          (write_thread i thread.object thread.state) thread i low (omega (arith, represents.thread_room)) refl

      same : object_at begun ≡ object_at t
      same = objects_of t begun moves.beside.objects

  -- a step at object o
  module _ (o : ℕ) (home : (lists.threads i).object ≡ o) (real : 1 ≤ o) (small : o ≤ objects) (unchained : Unchained (lists.threads i).state) where
    -- no rule fits: nothing changes
    pub unruled_represents : Represents threads objects t (put_back lists o (perform i (states_at lists o) (lists.objects o) None))
    unruled_represents =
        subst (Represents threads objects t)
        (λ j. record { threads = placed_none o lists.threads j; objects = sym (update_id lists.objects o (lists.objects o) refl) j }) represents

    module _ (effect : Effect) where
      abbrev now : ListObject
      now = effected i effect (lists.objects o)

      abbrev new : ListObject
      new = object_after effect.work i (states_at lists o) now

      abbrev links : Links
      links = work_links now.rank (goes lists.objects (states_at lists o) i o effect) i o effect.work represents.links

      abbrev moved : CarriedOut
      moved = carry_out t (monitor_record o represents.links effect.holder effect.depth) effect.work i o

      abbrev written_word : ℕ
      written_word = word_written o (seen_after i effect.word (lists.objects o).word)

      abbrev states : ℕ → ThreadState
      states = update (states_after effect.work (states_at lists o) now) i effect.state

      abbrev own_written : Table
      own_written =
          set_thread moved.table i (with_next (write_thread i o effect.state (thread_at t i)) (next_of moved.table i))

      abbrev object_written : ObjectRecord
      object_written = with_flag (with_monitor (with_word (represents.given.object o) written_word) moved.monitor) effect.flag

      represented : LinksRepresent links (lists_of (update lists.objects o new))
      represented =
          subst (LinksRepresent links) (lists_work lists.objects (states_at lists o) i o effect effect.work)
          (represent_work now.rank (goes lists.objects (states_at lists o) i o effect) i o represents.links (lists_of lists.objects) represents.chains (room unchained) effect.work)

      action : Acted represents.given.thread t lists o links moved (states_after effect.work (states_at lists o) now) new.holder new.depth
          (unparks effect.work (states_at lists o) now)
      action = acted threads objects t lists represents sound o i effect (room unchained) (omega (arith, high, represents.thread_room)) effect.work

      threads_after : Moves represents.given.thread t own_written (placed o lists.threads states) links.next
      threads_after =
          let link : next_of moved.table i ≡ links.next i =
          ap (λ (next : ℕ → ℕ). next i) (next_is represents.given.thread moved.table _ links.next action.moves.written) in
          let before = record_is represents.given.thread t lists.threads represents.links.next represents.written i in
          let same : with_next (write_thread i o effect.state (thread_at t i)) (next_of moved.table i)
          ≡ thread_record i (record { object = o; state = effect.state }) (links.next i) (represents.given.thread i) =
          λ j. with_next (write_thread i o effect.state (before j)) (link j) in
          rw (same, ← (placed_own o lists.threads (states_after effect.work (states_at lists o) now) i effect.state home))
          (rw (update_id links.next i (links.next i) refl) at
          (moves_set represents.given.thread t moved.table (placed o lists.threads (states_after effect.work (states_at lists o) now)) links.next
          action.moves i low (omega (arith, high, represents.thread_room)) (record { object = o; state = effect.state }) (links.next i)))

      written_is : object_written ≡ object_record o new links (represents.given.object o)
      written_is =
          let (same_word, same_flag) = word_kept effect.work i (states_at lists o) now in
          λ j. with_flag (with_monitor (with_word (represents.given.object o) (word_written o (sym same_word j))) (action.monitor j)) (sym same_flag j)

      effect_represents : Represents threads objects (set_object own_written o object_written)
          (put_back lists o (perform i (states_at lists o) (lists.objects o) (Some effect)))
      effect_represents = replaced_represents threads objects t lists represents o real small new links own_written states object_written represented threads_after written_is
          (rank_kept effect.work i (states_at lists o) now)

      -- the effect on the records as they are: the word is changed by its bits
      pub perform_represents : Represents threads objects (perform_of t i o (object_at t o) effect)
          (put_back lists o (perform i (states_at lists o) (lists.objects o) (Some effect)))
      perform_represents =
          rw (
            represents.object_is o real small,
            word_changed threads o represents.thread_room real (omega (arith, small, represents.object_room)) i (lists.objects o).word
                (sound.sound o).word effect.word,
          )
          effect_represents

      -- and whom it names
      pub perform_names : (n : ℕ) → has_thread (carry_out t (object_after_record i o (object_at t o) effect).monitor effect.work i o).unparked n
          ≡ action_unparks i (states_at lists o) (lists.objects o) (Some effect) n
      perform_names n = rw (represents.object_is o real small) (action.names n)
