-- The work on chains, on records: the threads that it writes are those of the table with lists, and its links stand for the lists.
use Prim.Native.Nat.{ℕ, suc, ◌+◌, ◌≤◌, ◌<◌}
use mathlib.Core.Path.{◌≡◌, refl, sym, ap, ◌∙◌, subst}
use mathlib.Core.Logic.{◌⊎◌, inl, inr}
use mathlib.Core.Bool.{Bool, true, false}
use mathlib.Core.List.{List, [], ◌∷◌}
use native.Mathlib.Omega.{arith}
use lib.Dec.{eqb}
use lib.ListN.{length}
use Rattle.laws.specs.{Choice.pick, Update.update, Count.count}
use Rattle.laws.proofs.Choice.{by_equal, either_way, equal?}
use Rattle.laws.proofs.Count.{count_none, count_same, count_other}
use Rattle.laws.proofs.Update.{update_same}
use Rattle.chains.specs.declared.{named.Chain.Chain, ends.Ends.Ends}
use Rattle.chains.proofs.Listed.{by_update, Chain as ChainOf, head}
use Rattle.chains.proofs.Walk.{walk}
use Rattle.chains.proofs.Links.{Links, leave_links, leave_lists, move_links, drop_links, leave_within, leave_short, represent_leave, represent_left, represent_move}
use Rattle.chains.proofs.{Family.others, Queue.queued, Queue.length_queue}
use Rattle.lock_rules.proofs.Changes.{handed, moved, is_queued_exit}
use Rattle.lock_rules.specs.declared.{ThreadState.ThreadState, ChainWork.ChainWork, Effect.Effect}
use Rattle.lock_rules.specs.declared.ThreadState.TheVariants.{Idle}
use Rattle.lock_rules.specs.declared.Taken.TheVariants.{First, All}
use Rattle.lock_rules.specs.declared.ChainWork.TheVariants.{Stay, Join, JoinAndHand, Hand, Move, MoveAndLetOut, SendBack}
use Rattle.lock_rules.proofs.{Each.each_chain, ListSound.SoundTable}
use Rattle.lock_rules.proofs.Objects.{ListObject, chain_of, with_chain}
use Rattle.lock_rules.proofs.Perform.{count_entered_all, taken, count_taken, left as left_list, first_of, changed_states, handed_object, moved_object, moved_states, let_out_states}
use Rattle.lock_rules.proofs.Perform.{is_handed, states_after, unparks, object_after, effected}
use Rattle.lock_rules.proofs.{Invariant.in_entry, LetOut.exit_is, LetOut.moved_from}
use Rattle.lock_rules.proofs.Tables.{ListThread, ListTable}
use Rattle.lock_rules.proofs.ListChains.{member_at, member_in, short}
use Rattle.lock_table.specs.{Limits.thread_limit, Record.with_next, Narrow.narrow_of}
use Rattle.lock_table.specs.Access.{thread_at, set_thread}
use Rattle.lock_table.specs.Monitor.{hand_of, first_in, with_first}
use Rattle.lock_table.specs.Chain.{handed_of, moved as moved_record, move_all}
use Rattle.lock_table.specs.declared.record.{ThreadRecord.ThreadRecord, Monitor.Monitor, Table.Table}
use Rattle.lock_table.proofs.{Records.set_thread_out, Narrowed.narrowed}
use Rattle.lock_table.proofs.Walks.{move_none}
use Rattle.lock_perform.specs.State.{write_thread}
use Rattle.lock_perform.specs.Moving.{CarriedOut, unlinked, carried_out, joined_by, sent_back_of, relink, after_whole, let_outs, carry_out}
use Rattle.lock_perform.specs.Queueing.{queue as queue_of}
use Rattle.lock_perform.specs.Queueing.{JoinedChain}
use Rattle.lock_perform.proofs.InPlace.{queue_none}
use Rattle.lock_records.proofs.QueueWalk.{moves_queue}
use Rattle.lock_records.proofs.Shorts.{both_brief}
use Rattle.lock_records.proofs.Numbering.{Room, order, chains_differ}
use Rattle.lock_records.proofs.Numbering.{number, place_of, lists_of, list_at, update_number, work_links, first_is_head, entered_all, all_moved as lists_moved}
use Rattle.lock_records.proofs.Written.{handed_written, moved_written}
use Rattle.lock_records.proofs.Represents.{monitor_record, Represents, next_is}
use Rattle.lock_records.proofs.Readings.{nobody, past_idle, first_is, chained as chained_in}
use Rattle.lock_records.proofs.Moves.{change, Moves, Inside, moves_first, moves_send, moves_all}
use Rattle.lock_perform.specs.ThreadSet.{thread_set, has_thread}
use Rattle.lock_perform.proofs.ThreadSets.{has_none}
use Rattle.lock_records.proofs.HandNames.{hand_names}
use Rattle.lock_records.proofs.LetOuts.{let_outs_moves}
use Rattle.lock_records.proofs.Placing.{sees, placed, placed_none, placed_before, placed_first, placed_all, placed_sent}

-- what a work leaves of the object
pub record SameScalars (old new : ListObject) : Type 0 where
  pub word : new.word ≡ old.word
  pub flag : new.flag ≡ old.flag
  pub holder : new.holder ≡ old.holder
  pub depth : new.depth ≡ old.depth
  pub rank : new.rank ≡ old.rank

scalars_with : (chain : Chain) (o : ListObject) (list : List ℕ) → SameScalars o (with_chain chain o list)
scalars_with = each_chain _ (search)

-- no work changes word or flag
pub word_kept : (work : ChainWork) (thread : ℕ) (states : ℕ → ThreadState) (o : ListObject)
    → ((object_after work thread states o).word ≡ o.word) × ((object_after work thread states o).flag ≡ o.flag)
word_kept Stay thread states o = (refl, refl)
word_kept (Join chain) thread states o = let same = scalars_with chain o _ in (same.word, same.flag)
word_kept (JoinAndHand chain) thread states o = let same = scalars_with chain _ _ in (same.word, same.flag)
word_kept Hand thread states o = (refl, refl)
word_kept (Move from which) thread states o = let same = scalars_with from o _ in (same.word, same.flag)
word_kept MoveAndLetOut thread states o = (refl, refl)
word_kept (SendBack owner) thread states o = (refl, refl)

-- nor the ranks
pub rank_kept : (work : ChainWork) (thread : ℕ) (states : ℕ → ThreadState) (o : ListObject) → (object_after work thread states o).rank ≡ o.rank
rank_kept Stay thread states o = refl
rank_kept (Join chain) thread states o = (scalars_with chain o _).rank
rank_kept (JoinAndHand chain) thread states o = (scalars_with chain (handed_object o) _).rank
rank_kept Hand thread states o = refl
rank_kept (Move from which) thread states o = (scalars_with from o _).rank
rank_kept MoveAndLetOut thread states o = refl
rank_kept (SendBack owner) thread states o = refl

-- after a work at object o on table t: its threads are in these states, written with these links, its monitor has these chains, holder and depth, and
-- these are whom it names as unparked
pub record Acted (given : ℕ → ThreadRecord) (t : Table) (lists : ListTable) (o : ℕ) (links : Links) (after : CarriedOut) (states : ℕ → ThreadState) (holder depth : ℕ) (named : ℕ → Bool)
    : Type 0 where
  pub moves : Moves given t after.table (placed o lists.threads states) links.next
  pub monitor : after.monitor ≡ monitor_record o links holder depth
  pub names : (n : ℕ) → has_thread after.unparked n ≡ named n

-- the monitor of object o with other links
module _ (o : ℕ) (links : Links) (holder depth : ℕ) where
  pub first_recorded : (chain : Chain) → first_in (monitor_record o links holder depth) chain ≡ links.first (number o chain)
  first_recorded = each_chain _ (search)

  pub left_recorded : (chain : Chain) (first : ℕ)
      → with_first (monitor_record o links holder depth) chain first
      ≡ monitor_record o (record { next = links.next; first = update links.first (number o chain) first }) holder depth
  left_recorded = each_chain _ (λ first. simp update_number, λ first. simp update_number, λ first. simp update_number)

  pub handed_recorded : (next : ℕ)
      → (hand_of (monitor_record o links holder depth) next).monitor
      ≡ monitor_record o (record { next = links.next; first = update links.first (number o Chain.Entry) next }) (links.first (number o Chain.Entry)) 0
  handed_recorded next = simp update_number

module _ (threads objects : ℕ) (t : Table) (lists : ListTable) (represents : Represents threads objects t lists) (sound : SoundTable threads objects lists)
  where
    none : (lists.threads 0).state ≡ Idle
    none = nobody threads objects lists sound

    outside : (n : ℕ) → (n ≡ 0) ⊎ (thread_limit < n) → (lists.threads n).state ≡ Idle
    outside n (inl e) = ap (λ (m : ℕ). (lists.threads m).state) e ∙ none
    outside n (inr past) = past_idle threads objects lists sound n (omega (arith, past, represents.thread_room))

    begun : Moves represents.given.thread t t lists.threads represents.links.next
    begun =
        record { written = represents.written; beside = record { threadcount = refl; objectcount = refl; objects = refl; length_kept = refl } }

    next_at : (n : ℕ) → (thread_at t n).next ≡ represents.links.next n
    next_at n = ap (λ (next : ℕ → ℕ). next n) (next_is represents.given.thread t lists.threads represents.links.next represents.written)

    -- nobody's record is written
    unwritten : (table : Table) (thread : ThreadRecord) → set_thread table 0 thread ≡ table
    unwritten table thread = set_thread_out table 0 thread (inl refl)

    module _ (o : ℕ) where
      abbrev first : Chain → ℕ
      first chain = represents.links.first (number o chain)

      abbrev list : Chain → List ℕ
      list chain = chain_of chain (lists.objects o)

      -- any chain of object o: its members have records and are at o
      chained : (chain : Chain) → ChainOf represents.links.next (first chain) (list chain)
      chained = chained_in threads objects t lists represents sound o

      brief : (chain : Chain) → length (list chain) ≤ thread_limit
      brief chain = omega (arith, short threads objects lists sound chain o, represents.thread_room)

      inside : (chain : Chain) → Inside (list chain)
      inside chain n h = let (low, high) = member_in threads objects lists sound chain o n h in (low, omega (arith, high, represents.thread_room))

      home : (chain : Chain) (n : ℕ) → 0 < count n (list chain) → (lists.threads n).object ≡ o
      home chain = member_at threads objects lists sound chain o

      headed : (chain : Chain) → first chain ≡ head (list chain)
      headed = first_is threads objects t lists represents sound o

      first_low : (chain : Chain) → first chain ≤ thread_limit
      first_low chain = at (list chain) (headed chain) (inside chain)
        where
          at : (members : List ℕ) → first chain ≡ head members → Inside members → first chain ≤ thread_limit
          at [] e within = omega (arith, e)
          at (x ∷ rest) e within = rw e (within x (omega (arith, count_same x rest))).1

      -- the first of a chain, if there is one, leaves it, changed
      leaves : (from : Chain) (F : ThreadRecord → ThreadRecord) (f : ThreadState → ThreadState) → f Idle ≡ Idle
          → ((n home : ℕ) (state : ThreadState) (own : ThreadRecord) → F (write_thread n home state own) ≡ write_thread n home (f state) (with_next own 0))
          → Moves represents.given.thread t (set_thread t (first from) (F (thread_at t (first from))))
          (placed o lists.threads (changed_states f (sees o lists.threads) (taken First (list from))))
          (leave_links (number o from) represents.links).next
      leaves from F f fixed law =
          let changed : update lists.threads (first from) (change f (lists.threads (first from)))
          ≡ placed o lists.threads (changed_states f (sees o lists.threads) (taken First (list from))) =
          placed_before o lists.threads
          (λ before. update before (first from) (change f (before (first from))) ≡ placed o lists.threads (changed_states f (sees o lists.threads) (taken First (list from))))
          (placed_first o lists.threads f (sees o lists.threads) (list from) (first from) (headed from)
          (subst (λ (before : ℕ → ListThread). (before 0).state ≡ Idle) (placed_none o lists.threads) none) fixed (home from)) in
          rw (← changed)
          (moves_first represents.given.thread t t lists.threads represents.links.next begun F f (first from) (first_low from) none fixed
          (λ real. law (first from) (lists.threads (first from)).object (lists.threads (first from)).state
          (with_next (represents.given.thread (first from)) (represents.links.next (first from)))))

      -- the ranks by which threads are queued
      abbrev ranks : ℕ → ℕ
      ranks = (lists.objects o).rank

      -- threads join a chain, each at its place
      joins : (into : Chain) (movers members : List ℕ) (table : Table) (next : ℕ → ℕ) (front back : ℕ) (after : ℕ → ListThread)
          → Moves represents.given.thread t table after next → ChainOf next front members → ChainOf next back movers → Inside members → Inside movers
          → length movers ≤ thread_limit → length members + length movers ≤ suc thread_limit → ((n : ℕ) → 0 < count n movers → count n members ≡ 0)
          → let q = queue_of into thread_limit table front back in
          let p = queued thread_limit thread_limit (order ranks into) next front back in
          Moves represents.given.thread t q.table after p.next × (q.first ≡ p.first)
      joins into movers members table next front back after =
          rw (represents.ranked o) (moves_queue represents.given.thread t after into movers members thread_limit table next front back)

      -- one joins a chain when the first of a chain has left it
      joined_left : (from to : Chain) (back : ℕ) (movers : List ℕ) (table : Table) (after : ℕ → ListThread)
          → let left = leave_links (number o from) represents.links in
          let all = leave_lists (number o from) (lists_of lists.objects) in
          Moves represents.given.thread t table after left.next → ChainOf left.next back movers → Inside movers → length movers ≤ 1
          → ((n : ℕ) → 0 < count n movers → count n (all (number o to)) ≡ 0)
          → let q = queue_of to thread_limit table (left.first (number o to)) back in
          let p = queued thread_limit thread_limit (order ranks to) left.next (left.first (number o to)) back in
          Moves represents.given.thread t q.table after p.next × (q.first ≡ p.first)
      joined_left from to back movers table after moves waits movers_in few apart =
          let left = leave_links (number o from) represents.links in
          let all = lists_of lists.objects in
          let same : all (number o to) ≡ list to = list_at lists.objects o to in
          let brief_left = leave_short all (number o from) (number o to) in
          joins to movers (leave_lists (number o from) all (number o to)) table left.next (left.first (number o to)) back after moves
          ((represent_leave represents.links all represents.chains (number o from)).chain (number o to)) waits
          (λ n h. inside to n (omega (arith, h, leave_within all (number o from) (number o to) n, ap (count n) same))) movers_in (omega (arith, few))
          (omega (arith, few, brief_left, ap length same, brief to)) apart

      -- the first of a chain, when it has left it, is a chain of its own
      alone : (from : Chain) → let left = leave_links (number o from) represents.links in ChainOf left.next (first from) (taken First (list from))
      alone from = at (list from) (chained from)
        where
          at : (members : List ℕ) → ChainOf represents.links.next (first from) members
              → ChainOf (leave_links (number o from) represents.links).next (first from) (taken First members)
          at [] chain = chain
          at (x ∷ rest) chain = (chain.0, chain.1, rw chain.0 (update_same represents.links.next x 0))

      taken_one : (members : List ℕ) → length (taken First members) ≤ 1
      taken_one [] = omega arith
      taken_one (x ∷ rest) = omega arith

      taken_in : (from : Chain) → Inside (taken First (list from))
      taken_in from n h = inside from n (omega (arith, h, count_taken First (list from) n))

      -- and in no chain
      taken_out : (from to : Chain) (n : ℕ) → 0 < count n (taken First (list from)) → count n (leave_lists (number o from) (lists_of lists.objects) (number o to)) ≡ 0
      taken_out from to n = at (list from) (list_at lists.objects o from)
        where
          at : (members : List ℕ) → lists_of lists.objects (number o from) ≡ members → 0 < count n (taken First members)
              → count n (leave_lists (number o from) (lists_of lists.objects) (number o to)) ≡ 0
          at [] is h = absurd (omega (arith, h, count_none n))
          at (x ∷ rest) is h =
              either_way (equal? n x) (λ e. rw e (represent_left represents.links (lists_of lists.objects) represents.chains (number o from) x rest is (number o to)))
              (λ away. absurd (omega (arith, h, count_other n x [] away, count_none n)))

      -- all of a chain move to the entry chain
      all_moved : (from : Chain)
          → let front = update represents.links.first (number o from) 0 (number o Chain.Entry) in
          let q = queue_of Chain.Entry thread_limit (move_all thread_limit t (first from)) front (first from) in
          let p = queued thread_limit thread_limit (order ranks Chain.Entry) represents.links.next front (first from) in
          Moves represents.given.thread t q.table (placed o lists.threads (changed_states moved (sees o lists.threads) (list from))) p.next × (q.first ≡ p.first)
      all_moved from =
          rw (
            ← (placed_all o lists.threads moved represents.links.next (list from) thread_limit (first from) (chained from) (brief from) (home from)),
            update_number represents.links.first o from Chain.Entry 0,
          )
          (joins Chain.Entry (list from) (pick (eqb (place_of Chain.Entry) (place_of from)) [] (list Chain.Entry)) (move_all thread_limit t (first from))
          represents.links.next (pick (eqb (place_of Chain.Entry) (place_of from)) 0 (first Chain.Entry)) (first from) _ moves
          (at (eqb (place_of Chain.Entry) (place_of from))) (chained from) (members_in (eqb (place_of Chain.Entry) (place_of from))) (inside from) (brief from)
          (omega (arith, both_brief threads objects lists sound o from, represents.thread_room)) (apart from))
        where
          moves : Moves represents.given.thread t (move_all thread_limit t (first from)) (walk thread_limit represents.links.next (change moved) lists.threads (first from))
              represents.links.next
          moves =
              moves_all represents.given.thread t represents.links.next (list from) thread_limit (first from) t lists.threads begun (chained from) (brief from) (inside from)

          at : (b : Bool) → ChainOf represents.links.next (pick b 0 (first Chain.Entry)) (pick b [] (list Chain.Entry))
          at true = refl
          at false = chained Chain.Entry

          members_in : (b : Bool) → Inside (pick b [] (list Chain.Entry))
          members_in true n h = absurd (omega (arith, h, count_none n))
          members_in false n h = inside Chain.Entry n h

          -- nobody is in two chains
          apart : (chain : Chain) (n : ℕ) → 0 < count n (list chain) → count n (pick (eqb (place_of Chain.Entry) (place_of chain)) [] (list Chain.Entry)) ≡ 0
          apart Chain.Entry n h = count_none n
          apart Chain.Contention n h =
              rw (list_at lists.objects o Chain.Entry) at
              (others (lists_of lists.objects) represents.chains.apart (number o Chain.Contention) (number o Chain.Entry) n (chains_differ o Chain.Contention (λ e. omega (arith, e)))
              (rw (list_at lists.objects o Chain.Contention) h))
          apart Chain.Waiting n h =
              rw (list_at lists.objects o Chain.Entry) at
              (others (lists_of lists.objects) represents.chains.apart (number o Chain.Waiting) (number o Chain.Entry) n (chains_differ o Chain.Waiting (λ e. omega (arith, e)))
              (rw (list_at lists.objects o Chain.Waiting) h))

      -- an effect of thread i with any work
      module _ (i : ℕ) (effect : Effect) (room : Room i (lists_of lists.objects)) (small : i ≤ thread_limit) where
        abbrev now : ListObject
        now = effected i effect (lists.objects o)

        abbrev monitor : Monitor
        monitor = monitor_record o represents.links effect.holder effect.depth

        same_list : (chain : Chain) → chain_of chain now ≡ list chain
        same_list = each_chain _ (search)

        holds : first Chain.Entry ≡ first_of (list Chain.Entry)
        holds = headed Chain.Entry ∙ sym (first_is_head (list Chain.Entry))

        after_hand : (hand_of monitor (thread_at t (first Chain.Entry)).next).monitor
            ≡ monitor_record o (leave_links (number o Chain.Entry) represents.links) (first Chain.Entry) 0
        after_hand =
            rw (next_at (first Chain.Entry))
            (handed_recorded o represents.links effect.holder effect.depth (represents.links.next (first Chain.Entry)))

        moved_alone : (n home : ℕ) (state : ThreadState) (own : ThreadRecord)
            → with_next (moved_record (write_thread n home state own)) 0 ≡ write_thread n home (moved state) (with_next own 0)
        moved_alone n home state own = ap (λ (thread : ThreadRecord). with_next thread 0) (moved_written n home state own)

        -- of an empty chain nobody moves
        whole_moved : (whole : ℕ) (work : ChainWork)
            → after_whole t whole monitor work i o ≡ relink (move_all thread_limit t whole) monitor work i o
        unfolding after_whole
        whole_moved whole work =
            let after : Table → CarriedOut = λ table. relink table monitor work i o in
            by_equal (λ out. out ≡ after (move_all thread_limit t whole)) whole 0 (λ e. ap after (sym (ap (move_all thread_limit t) e ∙ move_none thread_limit t))) (λ e. refl)

        abbrev seen : ℕ → ThreadState
        seen = sees o lists.threads

        moved_first : (from : Chain)
            → after_whole t (first_in monitor from) monitor (Move from All) i o ≡ relink (move_all thread_limit t (first from)) monitor (Move from All) i o
        moved_first from =
            whole_moved (first_in monitor from) (Move from All)
            ∙ ap (λ (n : ℕ). relink (move_all thread_limit t n) monitor (Move from All) i o)
            (first_recorded o represents.links effect.holder effect.depth from)

        -- a number that is taken as 255 where it is larger sends the same thread back: past the records there is nobody
        narrow_sent : (owner : ℕ)
            → set_thread t (narrow_of owner) (sent_back_of o (thread_at t (narrow_of owner))) ≡ set_thread t owner (sent_back_of o (thread_at t owner))
        narrow_sent owner = narrowed sent (λ n past. out 255 (omega arith) ∙ sym (out n (omega (arith, past)))) owner
          where
            sent : ℕ → Table
            sent n = set_thread t n (sent_back_of o (thread_at t n))

            out : (n : ℕ) → thread_limit < n → sent n ≡ t
            out n past = set_thread_out t n (sent_back_of o (thread_at t n)) (inr past)

        -- whom a hand names
        handed_names : (n : ℕ) → has_thread (thread_set (first Chain.Entry)) n ≡ is_handed now n
        handed_names n = rw (headed Chain.Entry) (hand_names (list Chain.Entry) (inside Chain.Entry) n)

        -- a plan by which nobody joins a chain
        none_joins : (table : Table) (m : Monitor) (changed : ThreadRecord) (unparked : ℕ)
            → carried_out (joined_by table (unlinked changed m unparked)) (unlinked changed m unparked) ≡ record { table = table; monitor = m; unparked = unparked }
        none_joins table m changed unparked = ap (λ (q : JoinedChain). carried_out q (unlinked changed m unparked)) (queue_none Chain.Entry thread_limit table m.entry)

        -- the thread itself, in no chain
        self_in : Inside (i ∷ [])
        self_in n h = either_way (equal? n i) (λ e. rw e (omega (arith, room.real), small)) (λ away. absurd (omega (arith, h, count_other n i [] away, count_none n)))

        self_alone : ChainOf represents.links.next i (i ∷ [])
        self_alone = (refl, room.real, represents.chains.loose i room.out)

        self_out : (c n : ℕ) → 0 < count n (i ∷ []) → count n (lists_of lists.objects c) ≡ 0
        self_out c n h = either_way (equal? n i) (λ e. rw e (room.out c)) (λ away. absurd (omega (arith, h, count_other n i [] away, count_none n)))

        -- all of a chain have moved to the entry chain
        acted_all : (from : Chain)
            → Acted represents.given.thread t lists o (move_links thread_limit (order ranks Chain.Entry) (number o from) (number o Chain.Entry) represents.links)
            (after_whole t (first_in monitor from) monitor (Move from All) i o) (moved_states from All seen now) effect.holder effect.depth (λ n. false)
        acted_all from =
            let recorded = first_recorded o represents.links effect.holder effect.depth from in
            let left : Links = record { next = represents.links.next; first = update represents.links.first (number o from) 0 } in
            let rest : with_first monitor from 0 ≡ monitor_record o left effect.holder effect.depth =
            left_recorded o represents.links effect.holder effect.depth from 0 in
            let queued = move_all thread_limit t (first from) in
            let step = all_moved from in
            subst
            (λ (after : CarriedOut). Acted represents.given.thread t lists o (move_links thread_limit (order ranks Chain.Entry) (number o from) (number o Chain.Entry) represents.links) after
            (moved_states from All seen now) effect.holder effect.depth (λ n. false)) (sym (moved_first from))
            (record {
              moves = rw (recorded, unwritten queued (thread_at queued 0), rest, same_list from) step.0;
              monitor = rw (recorded, unwritten queued (thread_at queued 0), rest)
                  (ap (with_first (monitor_record o left effect.holder effect.depth) Chain.Entry) step.1 ∙ left_recorded o left effect.holder effect.depth Chain.Entry _);
              names = has_none;
            })

        -- and the exits are let out of it
        abbrev queue : ListObject
        queue = moved_object Chain.Contention All now

        abbrev queue_links : Links
        queue_links = move_links thread_limit (order ranks Chain.Entry) (number o Chain.Contention) (number o Chain.Entry) represents.links

        queue_chained : ChainOf queue_links.next (queue_links.first (number o Chain.Entry)) queue.entry
        queue_chained =
            rw (lists_moved lists.objects seen i o effect Chain.Contention Chain.Entry) at
            ((represent_move represents.links (lists_of lists.objects) represents.chains thread_limit (order ranks Chain.Entry) (number o Chain.Contention) (number o Chain.Entry)
            (room.short _) (omega (arith, room.both_short o Chain.Contention))).chain (number o Chain.Entry))

        -- who is in it was queued or contended
        queue_from : (P : Type 0) (n : ℕ) → 0 < count n queue.entry → ((chain : Chain) → 0 < count n (list chain) → P) → P
        queue_from P n h each =
            either_way (equal? (count n (list Chain.Entry)) 0)
            (λ none. each Chain.Contention (omega (arith, h, none, count_entered_all n ranks (list Chain.Entry) (list Chain.Contention))))
            (λ some. each Chain.Entry (omega (arith, some)))

        queue_short : length queue.entry ≤ thread_limit
        queue_short =
            rw (entered_all ranks (list Chain.Entry) (list Chain.Contention))
            (omega (arith, length_queue (order ranks Chain.Entry) (list Chain.Entry) (list Chain.Contention), both_brief threads objects lists sound o Chain.Contention, represents.thread_room))

        -- a queued exit was one before the contenders moved, and so was in the entry chain
        exit_queued : (n : ℕ) → is_queued_exit (moved_states Chain.Contention All seen now n) ≡ true → 0 < count n queue.entry
        exit_queued n exits =
            let was = exit_is (seen n) (moved_from seen n (list Chain.Contention) (rw exits tt)) in
            omega (
              arith,
              count_entered_all n ranks (list Chain.Entry) (list Chain.Contention),
              ((sound.sound o).placed n).entry,
              ap in_entry was,
            )

        acted_out : let after = after_whole t (first_in monitor Chain.Contention) monitor (Move Chain.Contention All) i o in
            let moves = moved_states Chain.Contention All seen now in
            Acted represents.given.thread t lists o (drop_links thread_limit (λ n. is_queued_exit (moves n)) (number o Chain.Entry) queue_links)
            (let_outs after.table after.monitor) (let_out_states moves) effect.holder effect.depth (λ n. is_queued_exit (moves n))
        acted_out =
            let base = acted_all Chain.Contention in
            let after = after_whole t (first_in monitor Chain.Contention) monitor (Move Chain.Contention All) i o in
            let moves = moved_states Chain.Contention All seen now in
            let (out, left, names) = let_outs_moves o lists.threads moves queue.entry (λ n h. queue_from ((lists.threads n).object ≡ o) n h (λ chain. home chain n)) exit_queued
            represents.given.thread t after.table queue_links.next (queue_links.first (number o Chain.Entry)) base.moves queue_chained queue_short
            (λ n h. queue_from ((0 < n) × (n ≤ thread_limit)) n h (λ chain. inside chain n)) in
            subst
            (λ (m : Monitor). Acted represents.given.thread t lists o (drop_links thread_limit (λ n. is_queued_exit (moves n)) (number o Chain.Entry) queue_links)
            (let_outs after.table m) (let_out_states moves) effect.holder effect.depth (λ n. is_queued_exit (moves n))) (sym base.monitor)
            (record {
              moves = out;
              monitor = ap (λ (ends : Ends). with_first (monitor_record o queue_links effect.holder effect.depth) Chain.Entry ends.first) left
                  ∙ left_recorded o queue_links effect.holder effect.depth Chain.Entry _;
              names = names;
            })

        pub acted : (work : ChainWork)
            → Acted represents.given.thread t lists o (work_links ranks (λ n. is_queued_exit (moved_states Chain.Contention All seen now n)) i o work represents.links)
            (carry_out t monitor work i o) (states_after work seen now) (object_after work i seen now).holder (object_after work i seen now).depth
            (unparks work seen now)
        unfolding after_whole
        acted Stay =
            rw (unwritten t (thread_at t 0), none_joins t monitor (thread_at t 0) 0)
            (record { moves = rw (← (placed_none o lists.threads)) begun; monitor = refl; names = has_none })
        acted (Join chain) =
            let same : SameScalars now (object_after (Join chain) i seen now) = scalars_with chain now _ in
            let recorded = first_recorded o represents.links effect.holder effect.depth chain in
            let step = joins chain (i ∷ []) (list chain) t represents.links.next (first chain) i lists.threads begun (chained chain) self_alone (inside chain) self_in
            (omega arith) (omega (arith, brief chain)) (λ n h. rw (list_at lists.objects o chain) at (self_out (number o chain) n h)) in
            record {
              moves = rw (unwritten t (thread_at t 0), recorded, ← (placed_none o lists.threads)) step.0;
              monitor = rw (same.holder, same.depth, unwritten t (thread_at t 0), recorded)
                  (ap (with_first monitor chain) step.1 ∙ left_recorded o represents.links effect.holder effect.depth chain _);
              names = has_none;
            }
        acted (JoinAndHand chain) =
            let same : SameScalars (handed_object now) (object_after (JoinAndHand chain) i seen now) = scalars_with chain (handed_object now) _ in
            let left = leave_links (number o Chain.Entry) represents.links in
            let recorded = first_recorded o left (first Chain.Entry) 0 chain in
            let step = joined_left Chain.Entry chain i (i ∷ []) _ _ (leaves Chain.Entry handed_of handed refl handed_written)
            (refl, room.real, by_update (λ m. m ≡ 0) represents.links.next (first Chain.Entry) 0 i (λ e. refl) (λ away. self_alone.2)) self_in (omega arith)
            (λ n h. omega (arith, leave_within (lists_of lists.objects) (number o Chain.Entry) (number o chain) n, self_out (number o chain) n h)) in
            record {
              moves = rw (after_hand, recorded) step.0;
              monitor = rw (same.holder, same.depth, ← holds, after_hand, recorded)
                  (ap (with_first (monitor_record o left (first Chain.Entry) 0) chain) step.1 ∙ left_recorded o left (first Chain.Entry) 0 chain _);
              names = handed_names;
            }
        acted Hand =
            rw (none_joins (set_thread t (first Chain.Entry) (handed_of (thread_at t (first Chain.Entry)))) _ (handed_of (thread_at t (first Chain.Entry))) (thread_set (first Chain.Entry)))
            (record { moves = leaves Chain.Entry handed_of handed refl handed_written; monitor = rw (← holds) after_hand; names = handed_names })
        acted (Move from First) =
            let same : SameScalars now (with_chain from now (left_list First (chain_of from now))) = scalars_with from now _ in
            let recorded = first_recorded o represents.links effect.holder effect.depth from in
            let left = leave_links (number o from) represents.links in
            let rest : with_first monitor from (thread_at t (first from)).next ≡ monitor_record o left effect.holder effect.depth =
            rw (next_at (first from))
            (left_recorded o represents.links effect.holder effect.depth from (represents.links.next (first from))) in
            let step = joined_left from Chain.Entry (first from) (taken First (list from)) _ _
            (leaves from (λ (thread : ThreadRecord). with_next (moved_record thread) 0) moved refl moved_alone) (alone from) (taken_in from) (taken_one (list from)) (taken_out from Chain.Entry) in
            record {
              moves = rw (recorded, rest, same_list from) step.0;
              monitor = rw (same.holder, same.depth, recorded, rest)
                  (ap (with_first (monitor_record o left effect.holder effect.depth) Chain.Entry) step.1 ∙ left_recorded o left effect.holder effect.depth Chain.Entry _);
              names = has_none;
            }
        acted (Move from All) =
            let same : SameScalars now (with_chain from now []) = scalars_with from now _ in
            rw (same.holder, same.depth) (acted_all from)
        acted MoveAndLetOut = acted_out
        acted (SendBack owner) =
            rw (narrow_sent owner, none_joins (set_thread t owner (sent_back_of o (thread_at t owner))) monitor _ 0)
            (record {
              moves = rw (← (placed_sent o lists.threads owner)) (moves_send represents.given.thread t t lists.threads represents.links.next begun o owner outside);
              monitor = refl;
              names = has_none;
            })
