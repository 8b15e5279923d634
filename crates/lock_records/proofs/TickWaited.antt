-- A tick at one object on which somebody waits, on records: it stands for the tick at that object with lists, and names whom that unparks.
use Prim.Native.Nat.{ℕ, zero, suc, ◌≤◌, ◌<◌}
use mathlib.Core.Path.{◌≡◌, refl, sym, ap, ◌∙◌, subst, fun_ext}
use mathlib.Core.Logic.{◌≢◌}
use mathlib.Core.Bool.{Bool, true, false}
use mathlib.Core.List.{List, [], ◌∷◌, tail}
use native.Mathlib.Omega.{arith}
use lib.Dec.{eqb}
use lib.ListN.{length}
use Rattle.laws.specs.{Choice.pick, Update.update, Count.count}
use Rattle.laws.specs.Filter.{failing}
use Rattle.laws.proofs.Count.{count_same}
use Rattle.laws.proofs.Filter.{passing, count_parted, count_passing, length_passing}
use Rattle.laws.proofs.Choice.{either_way, equal?, by_test}
use Rattle.laws.proofs.Update.{update_other}
use Rattle.chains.specs.Joining.{no_ends}
use Rattle.chains.specs.declared.named.Chain.{Chain}
use Rattle.chains.proofs.Listed.{Chain as ChainOf, head}
use Rattle.chains.proofs.{Walk.walk, Family.others, Queue.queued}
use Rattle.chains.proofs.Parting.{Parted, part, chains_part}
use Rattle.chains.proofs.Links.{Links, LinksRepresent, part_links, part_lists, represent_part, first_head, leave_links, leave_lists, represent_leave}
use Rattle.lock_rules.specs.PlainMonitor.{above_zero}
use Rattle.lock_rules.specs.Limits.{ticked, at_zero}
use Rattle.lock_rules.specs.declared.{Suspension.Suspension, ThreadState.ThreadState}
use Rattle.lock_rules.specs.declared.ThreadState.TheVariants.{Idle, Waiting}
use Rattle.lock_rules.specs.declared.ChainWork.TheVariants.{Hand, Stay}
use Rattle.lock_rules.proofs.Changes.{moved, handed}
use Rattle.lock_rules.proofs.Each.{each_chain}
use Rattle.lock_rules.proofs.Objects.{ListObject, chain_of}
use Rattle.lock_rules.proofs.Perform.{changed_states, is_handed, first_of, handed_object, handed_states, count_entered_all}
use Rattle.lock_rules.proofs.Tick.{Ticked, one_tick_less, run_out_in, aged, due, parting, expired, handed_if_free}
use Rattle.lock_rules.proofs.{Reliances.is_waiting, Invariant.in_waiting}
use Rattle.lock_rules.proofs.{SharedFacts.expired_idle, ListSound.SoundTable}
use Rattle.lock_rules.proofs.ListChains.{member_at, member_in, short}
use Rattle.lock_rules.proofs.Tables.{ListThread, ListTable, states_at, seen_here}
use Rattle.lock_table.specs.Limits.{thread_limit}
use Rattle.lock_table.specs.Record.{with_next, with_monitor}
use Rattle.lock_table.specs.Access.{thread_at, set_thread, set_object, next_of}
use Rattle.lock_table.specs.Chain.{handed_of}
use Rattle.lock_table.specs.Monitor.{hand_of, with_first, move_to_entry}
use Rattle.lock_table.specs.declared.record.{ThreadRecord.ThreadRecord, ObjectRecord.ObjectRecord, Monitor.Monitor, Table.Table}
use Rattle.lock_perform.specs.Moving.{CarriedOut, unlinked, plan_hand, carried_out, relink}
use Rattle.lock_perform.specs.Queueing.{queue}
use Rattle.lock_perform.specs.Queueing.{JoinedChain}
use Rattle.lock_perform.proofs.InPlace.{queue_none}
use Rattle.lock_perform.specs.Parting.{no_parting}
use Rattle.lock_perform.specs.Parting.{PartedChain}
use Rattle.lock_perform.specs.declared.parting.Parting.{Parting}
use Rattle.lock_perform.specs.ThreadSet.{thread_set, has_thread}
use Rattle.lock_perform.proofs.ThreadSets.{has_none}
use Rattle.lock_work.specs.Waiters.{waiter_goes, waiter_ticked, part_waiters}
use Rattle.lock_work.specs.WorkDone.{WorkDone}
use Rattle.lock_work.specs.Tick.{handing, hand_if_free, tick_waited}
use Rattle.lock_records.proofs.Numbering.{order, number, place_of, lists_of, list_at, update_number, lists_replaced, chain_handed, entered_all, first_is_head}
use Rattle.lock_records.proofs.Represents.{monitor_record, object_record, Represents, next_is}
use Rattle.lock_records.proofs.Written.{handed_written}
use Rattle.lock_records.proofs.Readings.{nobody, chained}
use Rattle.lock_records.proofs.HandNames.{hand_names}
use Rattle.lock_records.proofs.Moves.{change, Moves, Inside, moves_first}
use Rattle.lock_records.proofs.QueueWalk.{moves_queue}
use Rattle.lock_records.proofs.Shorts.{both_brief}
use Rattle.lock_records.proofs.Placing.{placed, placed_all, placed_first}
use Rattle.lock_records.proofs.Actions.{left_recorded, handed_recorded}
use Rattle.lock_records.proofs.Replaced.{replaced_represents}
use Rattle.lock_records.proofs.PartWalk.{Becomes, walk_moves}
use Rattle.lock_records.proofs.WaiterTicked.{ticked_by, waiter_becomes}

-- those that lose their last tick move: told from each state alone, or from the two lists
ticked_alike : (states : ℕ → ThreadState) (o : ListObject) → changed_states ticked_by states o.waiting ≡ (expired states o).states
ticked_alike states o = fun_ext (λ n. rw (count_passing (due states o) o.waiting n) (at n (count n o.waiting) refl))
  where
    out : (b : Bool) (state : ThreadState) → state ≡ pick (above_zero (pick b 0 0)) (moved state) state
    out true state = refl
    out false state = refl

    in_it : (b : Bool) (k : ℕ) (after : ThreadState) → pick b (moved after) after ≡ pick (above_zero (pick b (suc k) 0)) (moved after) after
    in_it true k after = refl
    in_it false k after = refl

    at : (n k : ℕ) → count n o.waiting ≡ k
        → pick (above_zero (count n o.waiting)) (ticked_by (states n)) (states n)
        ≡ pick (above_zero (pick (due states o n) (count n o.waiting) 0)) (moved (aged states o n)) (aged states o n)
    at n zero e = rw e (out (run_out_in (states n)) (states n))
    at n (suc k) e = rw e (in_it (run_out_in (one_tick_less (states n))) k (one_tick_less (states n)))

-- the lists of the object then
module _ (objects : ℕ → ListObject) (o : ℕ) (states : ℕ → ThreadState) where
  abbrev after : ListObject
  after = (expired states (objects o)).object

  abbrev parted_lists : ℕ → List ℕ
  parted_lists = part_lists (order (objects o).rank Chain.Entry) (due states (objects o)) (number o Chain.Waiting) (number o Chain.Entry) (lists_of objects)

  own_parted : (chain : Chain) → parted_lists (number o chain) ≡ chain_of chain after
  own_parted =
      let list = list_at objects o in
      each_chain _ (
        simp (update_number, list, entered_all),
        simp (update_number, list),
        simp (update_number, list),
      )

  other_parted : (c : ℕ) → ((chain : Chain) → c ≢ number o chain) → parted_lists c ≡ lists_of objects c
  other_parted c away = update_other _ _ _ c (away Chain.Entry) ∙ update_other _ _ _ c (away Chain.Waiting)

  lists_parted : parted_lists ≡ lists_of (update objects o after)
  lists_parted = lists_replaced objects o after parted_lists own_parted other_parted

  own_handed : (chain : Chain) → leave_lists (number o Chain.Entry) parted_lists (number o chain) ≡ chain_of chain (handed_object after)
  own_handed chain =
      update_number parted_lists o Chain.Entry chain (tail (parted_lists (number o Chain.Entry)))
      ∙ ((λ j. pick (eqb (place_of chain) (place_of Chain.Entry)) (tail (own_parted Chain.Entry j)) (own_parted chain j)) ∙ sym (chain_handed chain after))

  lists_handed : leave_lists (number o Chain.Entry) parted_lists ≡ lists_of (update objects o (handed_object after))
  lists_handed =
      lists_replaced objects o (handed_object after) (leave_lists (number o Chain.Entry) parted_lists) own_handed
      (λ c away. update_other _ _ _ c (away Chain.Entry) ∙ other_parted c away)

module _ (threads objects : ℕ) (t : Table) (lists : ListTable) (represents : Represents threads objects t lists) (sound : SoundTable threads objects lists)
    (o : ℕ) (real : 1 ≤ o) (small : o ≤ objects) where
  abbrev given : ℕ → ThreadRecord
  given = represents.given.thread

  abbrev old : Links
  old = represents.links

  abbrev here : ListObject
  here = lists.objects o

  abbrev states : ℕ → ThreadState
  states = states_at lists o

  abbrev result : Ticked
  result = expired states here

  abbrev first : Chain → ℕ
  first chain = old.first (number o chain)

  brief : (chain : Chain) → length (chain_of chain here) ≤ thread_limit
  brief chain = omega (arith, short threads objects lists sound chain o, represents.thread_room)

  inside : (chain : Chain) → Inside (chain_of chain here)
  inside chain n h = let (low, high) = member_in threads objects lists sound chain o n h in (low, omega (arith, high, represents.thread_room))

  begun : Moves given t t lists.threads old.next
  begun = record { written = represents.written; beside = record { threadcount = refl; objectcount = refl; objects = refl; length_kept = refl } }

  due_of : (n k : ℕ) (saved : Suspension) → count n here.waiting ≡ suc k → states n ≡ Waiting saved → due states here n ≡ at_zero (ticked saved)
  due_of n k saved e is = rw (e, is) refl

  -- each of the waiting waits, and is due by what it has left
  waits : (n : ℕ) → 0 < count n here.waiting → (saved : Suspension) × ((lists.threads n).state ≡ Waiting saved) × (due states here n ≡ at_zero (ticked saved))
  waits n h = at (count n here.waiting) refl h ((sound.sound o).placed n).waiting
    where
      at : (k : ℕ) → count n here.waiting ≡ k → 0 < k → count n here.waiting ≡ in_waiting (states n)
          → (saved : Suspension) × ((lists.threads n).state ≡ Waiting saved) × (due states here n ≡ at_zero (ticked saved))
      at zero e low p = absurd (omega (arith, low))
      at (suc k) e low p =
          let (saved, is, once) = is_waiting (states n) k (sym p ∙ e) in
          (saved, sym (seen_here o (lists.threads n) (member_at threads objects lists sound Chain.Waiting o n h)) ∙ is, due_of n k saved e is)

  becomes : Becomes waiter_goes waiter_ticked ticked_by given lists.threads (due states here) here.waiting
  becomes n h link =
      let (saved, is, is_due) = waits n h in
      waiter_becomes n (lists.threads n) saved (due states here n) is is_due link (given n)

  -- the walk
  abbrev walked : PartedChain
  walked = part_waiters thread_limit t no_parting (first Chain.Waiting)

  abbrev p : Parted
  p = part thread_limit true (due states here) old.next no_ends no_ends (first Chain.Waiting)

  abbrev placed_after : ℕ → ListThread
  placed_after = placed o lists.threads result.states

  the_walk : Moves given t walked.table placed_after p.next × (walked.parting.left ≡ p.left) × (walked.parting.taken ≡ p.taken)
  the_walk =
      let list = here.waiting in
      let chain = chained threads objects t lists represents sound o Chain.Waiting in
      let same : walk thread_limit old.next (change ticked_by) lists.threads (first Chain.Waiting) ≡ placed_after =
      placed_all o lists.threads ticked_by old.next list thread_limit (first Chain.Waiting) chain (brief Chain.Waiting) (member_at threads objects lists sound Chain.Waiting o)
      ∙ ap (placed o lists.threads) (ticked_alike states here) in
      let (moves, left, taken, set) = walk_moves waiter_goes waiter_ticked true ticked_by given t old.next (due states here) list thread_limit (first Chain.Waiting)
      chain (brief Chain.Waiting) (inside Chain.Waiting) t lists.threads begun becomes in
      (subst (λ after. Moves given t walked.table after p.next) same moves, left, taken)

  -- those that ran out join the entry chain
  abbrev links : Links
  links = part_links thread_limit (order here.rank Chain.Entry) (due states here) (number o Chain.Waiting) (number o Chain.Entry) old

  apart : number o Chain.Waiting ≢ number o Chain.Entry
  unfolding number
  apart e = omega (arith, e)

  length_at : (chain : Chain) → length (lists_of lists.objects (number o chain)) ≤ thread_limit
  length_at chain = rw (list_at lists.objects o chain) (brief chain)

  parted_chains : LinksRepresent links (parted_lists lists.objects o states)
  parted_chains =
      represent_part old (lists_of lists.objects) represents.chains thread_limit (order here.rank Chain.Entry) (due states here) (number o Chain.Waiting) (number o Chain.Entry) apart
      (length_at Chain.Waiting)
      (rw (list_at lists.objects o Chain.Entry, list_at lists.objects o Chain.Waiting)
      (omega (arith, both_brief threads objects lists sound o Chain.Waiting, represents.thread_room)))

  entry_stays : ChainOf p.next (first Chain.Entry) here.entry
  entry_stays =
      let (aside, taken) = chains_part old.next old.first (lists_of lists.objects) represents.chains (number o Chain.Waiting) thread_limit (due states here)
      (length_at Chain.Waiting) in
      rw (
        update_other old.first (number o Chain.Waiting) p.left.first (number o Chain.Entry) (λ e. apart (sym e)),
        update_other (lists_of lists.objects) (number o Chain.Waiting) (failing (due states here) (lists_of lists.objects (number o Chain.Waiting))) (number o Chain.Entry)
            (λ e. apart (sym e)),
        list_at lists.objects o Chain.Entry,
      ) at (aside.chain (number o Chain.Entry))

  abbrev ran_out : List ℕ
  ran_out = passing (due states here) here.waiting

  -- those that ran out are a chain, and waited
  taken_chain : ChainOf p.next p.taken.first ran_out
  taken_chain =
      let (aside, taken) = chains_part old.next old.first (lists_of lists.objects) represents.chains (number o Chain.Waiting) thread_limit (due states here)
      (length_at Chain.Waiting) in
      rw (list_at lists.objects o Chain.Waiting) at taken

  waited : (n : ℕ) → 0 < count n ran_out → 0 < count n here.waiting
  waited n h = omega (arith, h, count_parted (due states here) here.waiting n)

  not_queued : (n : ℕ) → 0 < count n ran_out → count n here.entry ≡ 0
  not_queued n h =
      rw (list_at lists.objects o Chain.Entry) at
      (others (lists_of lists.objects) represents.chains.apart (number o Chain.Waiting) (number o Chain.Entry) n (λ e. apart (sym e))
      (rw (list_at lists.objects o Chain.Waiting) (waited n h)))

  abbrev joined : JoinedChain
  joined = queue Chain.Entry thread_limit walked.table (first Chain.Entry) p.taken.first

  abbrev joined_table : Table
  joined_table = joined.table

  joined_moves : Moves given t joined_table placed_after links.next
      × (joined.first ≡ (queued thread_limit thread_limit (order here.rank Chain.Entry) p.next (first Chain.Entry) p.taken.first).first)
  joined_moves =
      let few = length_passing (due states here) here.waiting in
      rw (represents.ranked o)
      (moves_queue given t placed_after Chain.Entry ran_out here.entry thread_limit walked.table p.next (first Chain.Entry) p.taken.first the_walk.0
      entry_stays taken_chain (inside Chain.Entry) (λ n h. inside Chain.Waiting n (waited n h)) (omega (arith, few, brief Chain.Waiting))
      (omega (arith, few, both_brief threads objects lists sound o Chain.Waiting, represents.thread_room)) not_queued)

  joined_written : Moves given t joined_table placed_after links.next
  joined_written = joined_moves.0

  abbrev parted : Parting
  parted = record { left = p.left; taken = p.taken; set = walked.parting.set }

  parted_is : walked.parting ≡ parted
  parted_is = let (moves, left, taken) = the_walk in λ j. record { left = left j; taken = taken j; set = walked.parting.set }

  abbrev monitor : Monitor
  monitor = monitor_record o old here.holder here.depth

  moved_recorded : move_to_entry monitor Chain.Waiting parted.left.first joined.first ≡ monitor_record o links here.holder here.depth
  moved_recorded =
      let left : Links = record { next = old.next; first = update old.first (number o Chain.Waiting) p.left.first } in
      ap (λ (m : Monitor). with_first m Chain.Entry joined.first) (left_recorded o old here.holder here.depth Chain.Waiting p.left.first)
      ∙ (ap (with_first (monitor_record o left here.holder here.depth) Chain.Entry) joined_moves.1
      ∙ left_recorded o left here.holder here.depth Chain.Entry _)

  abbrev before : ObjectRecord
  before = object_record o here old (represents.given.object o)

  -- a monitor that somebody holds: nobody is handed it
  held_represents : Represents threads objects (set_object joined_table o (with_monitor before (monitor_record o links here.holder here.depth)))
      (record { threads = placed_after; objects = update lists.objects o result.object })
  held_represents =
      replaced_represents threads objects t lists represents o real small result.object links joined_table result.states (with_monitor before (monitor_record o links here.holder here.depth))
      (subst (LinksRepresent links) (lists_parted lists.objects o states) parted_chains) joined_written refl refl

  -- one that nobody holds: the first of the entry chain is handed it
  abbrev left_links : Links
  left_links = leave_links (number o Chain.Entry) links

  abbrev handed_first : ℕ
  handed_first = links.first (number o Chain.Entry)

  handed_head : handed_first ≡ head result.object.entry
  handed_head =
      first_head links (parted_lists lists.objects o states) parted_chains (number o Chain.Entry) ∙ ap head (own_parted lists.objects o states Chain.Entry)

  -- who is in the entry chain then was in it or waited
  entry_from : (P : Type 0) (n : ℕ) → 0 < count n result.object.entry → ((chain : Chain) → 0 < count n (chain_of chain here) → P) → P
  entry_from P n h each =
      either_way (equal? (count n here.entry) 0)
      (λ out. each Chain.Waiting (omega (arith, h, out, count_entered_all n here.rank here.entry (parting states here).gone, (parting states here).parted n)))
      (λ in_it. each Chain.Entry (omega (arith, in_it)))

  entry_home : (n : ℕ) → 0 < count n result.object.entry → (lists.threads n).object ≡ o
  entry_home n h = entry_from ((lists.threads n).object ≡ o) n h (λ chain. member_at threads objects lists sound chain o n)

  handed_low : handed_first ≤ thread_limit
  handed_low = at result.object.entry handed_head refl
    where
      at : (queue : List ℕ) → handed_first ≡ head queue → result.object.entry ≡ queue → handed_first ≤ thread_limit
      at [] e is = omega (arith, e)
      at (x ∷ rest) e is =
          rw e (entry_from (x ≤ thread_limit) x (omega (arith, count_same x rest, ap (count x) is)) (λ chain h. (inside chain x h).1))

  -- number 0 is idle still
  idle_still : (placed_after 0).state ≡ Idle
  idle_still =
      by_test (λ (thread : ListThread). thread.state ≡ Idle) (eqb (lists.threads 0).object o)
      (λ at_o. expired_idle states here 0 (sound.sound o).nobody) (λ away. nobody threads objects lists sound)

  abbrev at_hand : Monitor
  at_hand = monitor_record o links here.holder here.depth

  abbrev freed : CarriedOut
  freed =
      let first = thread_at joined_table handed_first in
      let planned = plan_hand at_hand first in
      record { table = set_thread joined_table handed_first (handed_of first); monitor = planned.monitor; unparked = planned.unparked }

  free_moves : Moves given t freed.table (placed o lists.threads (handed_states result.states result.object)) left_links.next
  free_moves =
      subst (λ after. Moves given t freed.table after left_links.next)
      (placed_first o lists.threads handed result.states result.object.entry handed_first handed_head idle_still refl entry_home)
      (moves_first given t joined_table placed_after links.next joined_written handed_of handed handed_first handed_low idle_still refl
      (λ real. handed_written handed_first (placed_after handed_first).object (placed_after handed_first).state (with_next (given handed_first) (links.next handed_first))))

  free_monitor : freed.monitor ≡ monitor_record o left_links (handed_object result.object).holder 0
  free_monitor =
      let entry_next : next_of joined_table handed_first ≡ links.next handed_first =
      ap (λ (next : ℕ → ℕ). next handed_first) (next_is given joined_table placed_after links.next joined_written.written) in
      let holder : handed_first ≡ first_of result.object.entry = handed_head ∙ sym (first_is_head result.object.entry) in
      ap (λ (next : ℕ). (hand_of (monitor_record o links here.holder here.depth) next).monitor) entry_next
      ∙ (handed_recorded o links here.holder here.depth (links.next handed_first) ∙ ap (λ (holder : ℕ). monitor_record o left_links holder 0) holder)

  free_represents : Represents threads objects (set_object freed.table o (with_monitor before freed.monitor))
      (record { threads = placed o lists.threads (handed_states result.states result.object); objects = update lists.objects o (handed_object result.object) })
  free_represents =
      replaced_represents threads objects t lists represents o real small (handed_object result.object) left_links freed.table
      (handed_states result.states result.object) (with_monitor before freed.monitor)
      (subst (LinksRepresent left_links) (lists_handed lists.objects o states)
      (represent_leave links (parted_lists lists.objects o states) parted_chains (number o Chain.Entry))) free_moves
      (ap (with_monitor before) free_monitor) refl

  -- either way
  abbrev finished : Table → Monitor → WorkDone
  finished table after =
      let handed = hand_if_free table after in
      record { table = set_object handed.table o (with_monitor before handed.monitor); unparked = handed.unparked }

  finishes : tick_waited t o ≡ finished joined_table (monitor_record o links here.holder here.depth)
  finishes =
      ap (λ (object : ObjectRecord).
      let monitor = object.monitor in
      let parted = part_waiters thread_limit t no_parting monitor.waiting in
      let joined = queue Chain.Entry thread_limit parted.table monitor.entry parted.parting.taken.first in
      let after = hand_if_free joined.table (move_to_entry monitor Chain.Waiting parted.parting.left.first joined.first) in
      record { table = set_object after.table o (with_monitor object after.monitor); unparked = after.unparked }) (represents.object_is o real small)
      ∙ (ap (λ (parting : Parting).
      let joined = queue Chain.Entry thread_limit walked.table (first Chain.Entry) parting.taken.first in
      finished joined.table (move_to_entry monitor Chain.Waiting parting.left.first joined.first)) parted_is
      ∙ ap (finished joined_table) moved_recorded)

  abbrev at_object : Ticked
  at_object = handed_if_free states here result

  freed_is : relink joined_table at_hand Hand 0 0 ≡ freed
  freed_is =
      let first = thread_at joined_table handed_first in
      let planned = plan_hand at_hand first in
      ap (λ (q : JoinedChain). carried_out q planned) (queue_none Chain.Entry thread_limit (set_thread joined_table handed_first (handed_of first)) planned.monitor.entry)

  held_is : relink joined_table at_hand Stay 0 0 ≡ record { table = joined_table; monitor = at_hand; unparked = 0 }
  unfolding set_thread
  held_is = ap (λ (q : JoinedChain). carried_out q (unlinked (thread_at joined_table 0) at_hand 0)) (queue_none Chain.Entry thread_limit joined_table at_hand.entry)

  abbrev Handed : CarriedOut → Ticked → Type 0
  Handed handed after =
      Represents threads objects (set_object handed.table o (with_monitor before handed.monitor))
      (record { threads = placed o lists.threads after.states; objects = update lists.objects o after.object })

  pub waited_represents : Represents threads objects (tick_waited t o).table
      (record { threads = placed o lists.threads at_object.states; objects = update lists.objects o at_object.object })
  unfolding handing hand_if_free
  waited_represents =
      subst (λ (done : WorkDone). Represents threads objects done.table
      (record { threads = placed o lists.threads at_object.states; objects = update lists.objects o at_object.object })) (sym finishes)
      (at (eqb here.holder 0))
    where
      free : Ticked
      free = record { states = handed_states result.states result.object; object = handed_object result.object }

      at : (b : Bool) → Handed (relink joined_table at_hand (pick b Hand Stay) 0 0) (pick b free result)
      at true = subst (λ (handed : CarriedOut). Handed handed free) (sym freed_is) free_represents
      at false = subst (λ (handed : CarriedOut). Handed handed result) (sym held_is) held_represents

  -- and whom it names: who is handed a monitor that nobody holds
  pub waited_names : (n : ℕ) → has_thread (tick_waited t o).unparked n ≡ pick (eqb here.holder 0) (is_handed result.object n) false
  unfolding handing hand_if_free
  waited_names n = ap (λ (done : WorkDone). has_thread done.unparked n) finishes ∙ at (eqb here.holder 0)
    where
      queue_in : Inside result.object.entry
      queue_in m h = entry_from ((0 < m) × (m ≤ thread_limit)) m h (λ chain. inside chain m)

      at : (b : Bool) → has_thread (relink joined_table at_hand (pick b Hand Stay) 0 0).unparked n ≡ pick b (is_handed result.object n) false
      at true = ap (λ (first : ℕ). has_thread (thread_set first) n) handed_head ∙ hand_names result.object.entry queue_in n
      at false = has_none n
