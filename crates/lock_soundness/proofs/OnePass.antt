-- One pass with marks finds out what the clauses ask: `one_pass_is`. Whoever is met in a walk names that chain, so that a parked thread is marked just
-- where it is in its own chain.
use Prim.Native.Nat.{ℕ, zero, suc, ◌-◌, ◌≤◌, ◌<◌}
use mathlib.Core.Path.{◌≡◌, refl, sym, ap, ◌∙◌}
use mathlib.Core.Logic.{◌≢◌, ◌⊎◌, inl, inr}
use mathlib.Core.Bool.{Bool, true, false}
use mathlib.Core.List.{List}
use native.Mathlib.Omega.{arith}
use lib.Dec.{eqb, leb}
use lib.ListN.{length, get_or, replicate, get_or-replicate, length-replicate}
use borrow.Author.Tests.{le-leb, lt-leb}
use Rattle.laws.specs.Choice.{pick, both, either}
use Rattle.laws.specs.{Count.count, Every.all_up_to}
use Rattle.laws.proofs.Choice.{false≢true, equal?, both_first, both_second, either_no, either_yes}
use Rattle.laws.proofs.Count.{count_none}
use Rattle.chains.specs.Chain.{members, chain_test}
use Rattle.chains.proofs.Listed.{members_none}
use Rattle.lock_table.specs.Limits.{thread_limit, object_limit}
use Rattle.lock_table.specs.Phase.{phase_number}
use Rattle.lock_table.specs.Record.{no_thread, no_object}
use Rattle.lock_table.specs.Access.{thread_at, object_at, next_of, phase_number_at}
use Rattle.lock_table.specs.Parked.{chain_named, thread_chain, first_in, chain_first}
use Rattle.lock_table.specs.declared.record.{Monitor.Monitor, Table.Table}
use Rattle.lock_table.proofs.{Records.thread_none, Walks.next_none}
use Rattle.sound_records.specs.Records.{used_object_fits, empty_object}
use Rattle.sound_records.specs.OnePass.{thread_passes}
use Rattle.sound_records.proofs.Reading.{Within, ObjectFits, ThreadFits, chain_kinds, parked_busy, no_object_fits, no_thread_fits}
use Rattle.sound_records.proofs.Reading.{reads_object, reads_thread, reads_falls, reads_names, reads_empty_thread, reads_empty_object}
use Rattle.lock_soundness.specs.Sound.{sound_of}
use Rattle.lock_soundness.specs.OnePass.{thread_in, next_in, member_fits, chain_passes, chains_pass, chain_marks, chains_marks, object_passes}
use Rattle.lock_soundness.specs.OnePass.{object_turn, objects_marks, thread_turn, one_pass}
use Rattle.laws.proofs.Facts.{Reads, reads_map, reads_as, reads_eqb, reads_then, reads_first, reads_both, reads_unless, reads_guard}
use Rattle.laws.proofs.Facts.{reads_used_and_past, reads_same}
use Rattle.lock_soundness.proofs.Chained.{follow, reads_chain, members_real}
use Rattle.lock_soundness.proofs.Reading.{Each, threads_in_chain, Sound, reads_sizes, sound_is}
use Rattle.lock_soundness.proofs.OnePassTurns.{empty_passes}
use Rattle.lock_soundness.proofs.Marks.{IsMarked, reads_more, reads_right, marked_length, reads_marked}

-- a first test that says more than the second asks
reads_covered : {a b : Bool} {P Q : Type 0} → Reads a P → Reads b Q → (P → Q) → Reads (either a b) Q
reads_covered {a} {b} {P} {Q} p q more = record { read = read a p.read; make = λ fact. rw (q.make fact) (either_yes a) }
  where
    read : (a : Bool) → (a ≡ true → P) → either a b ≡ true → Q
    read true known e = more (known refl)
    read false known e = q.read e

-- chains are numbered 1 to 3
each_three : (P : ℕ → Type 0) → P 1 → P 2 → P 3 → Each 3 P
each_three P one two three zero low high = absurd (omega (arith, low))
each_three P one two three (suc zero) low high = one
each_three P one two three (suc (suc zero)) low high = two
each_three P one two three (suc (suc (suc zero))) low high = three
each_three P one two three (suc (suc (suc (suc k)))) low high = absurd (omega (arith, high))

-- what soundness says of a thread in a chain, of the chain, of an object's three, and of a thread that is in the chain of its object which its phase
-- names
module _ (t : Table) where
  -- nobody of a higher rank stands behind it, if it is queued
  abbrev Falls : ℕ → Type 0
  Falls n = thread_chain (thread_at t n) ≡ 1 → (thread_at t (next_of t n)).rank ≤ (thread_at t n).rank

  abbrev MemberSays : ℕ → ℕ → ℕ → Type 0
  MemberSays o chain n = (((thread_at t n).object ≡ o) × (thread_chain (thread_at t n) ≡ chain)) × Falls n

  abbrev ChainSays : ℕ → ℕ → ℕ → Type 0
  ChainSays o chain first =
      (follow t.threadcount (next_of t) first ≡ 0)
      × ((n : ℕ) → 0 < count n (members t.threadcount (next_of t) first) → Within 1 t.threadcount n × MemberSays o chain n)

  abbrev ChainsSay : ℕ → Type 0
  ChainsSay o = Each 3 (λ chain. ChainSays o chain (chain_first t o chain))

  abbrev Placed : ℕ → Type 0
  Placed n = 0 < count n (threads_in_chain t (thread_at t n).object (thread_chain (thread_at t n)))

  abbrev Found : ℕ → Type 0
  Found n = thread_chain (thread_at t n) ≢ 0 → Placed n

  -- such a thread is parked
  placed_parked : (n : ℕ) → Placed n → thread_chain (thread_at t n) ≢ 0
  unfolding first_in
  placed_parked n placed none =
      let nobody : count n (members t.threadcount (next_of t) 0) ≡ 0 = rw (members_none t.threadcount (next_of t)) (count_none n) in
      omega (arith, nobody, rw none at placed)

-- each is what the code asks of the record
module _ (t : Table) (few : t.threadcount ≤ thread_limit) (fewer : t.objectcount ≤ object_limit) where
  member : (o chain n : ℕ)
      → Reads (member_fits t.threads t.threadcount o chain n) ((n ≤ t.threadcount) × ((n ≤ thread_limit) × MemberSays t o chain n))
  unfolding member_fits thread_in thread_at
  member o chain n =
      reads_guard t.threadcount n
      (reads_guard thread_limit n (reads_both (reads_names o chain (thread_at t n)) (reads_falls (thread_at t n) (thread_at t (next_of t n)).rank)))

  -- one walk finds out what three clauses ask of a chain
  walked : (o chain first : ℕ) → Reads (chain_passes t.threads t.threadcount o chain first) (ChainSays t o chain first)
  unfolding chain_passes thread_in thread_at
  walked o chain first =
      reads_map (reads_chain t.threadcount (next_of t) first (member_fits t.threads t.threadcount o chain) (next_none t) (member o chain))
      (λ (leads, good). (
        leads,
        λ n h.
            let (inside, (held, names)) = good n h in
            ((omega (arith, members_real t.threadcount (next_of t) first leads n h), inside), names),
      ))
      (λ (leads, good). (
        leads,
        λ n h.
            let ((low, high), names) = good n h in
            (high, (omega (arith, high, few), names)),
      ))

  -- an object's three chains
  walks : (o : ℕ) → Reads (chains_pass t.threads t.threadcount o (object_at t o).monitor) (ChainsSay t o)
  unfolding chains_pass first_in
  walks o =
      let monitor = (object_at t o).monitor in
      reads_map (reads_both (walked o 1 monitor.entry) (reads_both (walked o 2 monitor.contention) (walked o 3 monitor.waiting)))
      (λ (entry, (contention, waiting)). each_three (λ chain. ChainSays t o chain (chain_first t o chain)) entry contention waiting)
      (λ say. (say 1 (omega arith) (omega arith), (say 2 (omega arith) (omega arith), say 3 (omega arith) (omega arith))))

  turn_chains : (o : ℕ) → object_turn t o ≡ true → chains_pass t.threads t.threadcount o (object_at t o).monitor ≡ true
  unfolding object_passes
  turn_chains o =
      both_second (either (empty_object (object_at t o)) (both (leb o t.objectcount) (used_object_fits t.threadcount o (object_at t o)))) _

  -- walks keep the number of marks
  chain_full : (o chain first : ℕ) (met : List Bool) → length (chain_marks t.threads t.threadcount o chain first met) ≡ length met
  unfolding chain_marks
  chain_full o chain first = marked_length (next_in t.threads) (member_fits t.threads t.threadcount o chain) t.threadcount first

  chains_full : (o : ℕ) (monitor : Monitor) (met : List Bool) → length (chains_marks t.threads t.threadcount o monitor met) ≡ length met
  unfolding chains_marks
  chains_full o monitor met =
      chain_full o 3 monitor.waiting _ ∙ (chain_full o 2 monitor.contention _ ∙ chain_full o 1 monitor.entry met)

  -- a walk marks the threads of its chain
  module _ (n : ℕ) (low : 1 ≤ n) (high : n ≤ thread_limit) where
    chain_met : (o chain first : ℕ) (met : List Bool) → length met ≡ thread_limit → chain_passes t.threads t.threadcount o chain first ≡ true
        → Reads (get_or (chain_marks t.threads t.threadcount o chain first met) (n - 1) false)
        (IsMarked met n ⊎ (0 < count n (members t.threadcount (next_of t) first)))
    unfolding chain_passes chain_marks thread_in thread_at
    chain_met o chain first met full passes =
        reads_marked (next_in t.threads) (member_fits t.threads t.threadcount o chain) t.threadcount first met passes n low
        (omega (arith, high, full))

    -- which are those that name it
    chains_met : (o : ℕ) (met : List Bool) → length met ≡ thread_limit → chains_pass t.threads t.threadcount o (object_at t o).monitor ≡ true
        → Reads (get_or (chains_marks t.threads t.threadcount o (object_at t o).monitor met) (n - 1) false)
        (IsMarked met n ⊎ (Placed t n × ((thread_at t n).object ≡ o)))
    unfolding chains_pass chains_marks first_in
    chains_met o met full passes =
        let say = (walks o).read passes in
        let monitor = (object_at t o).monitor in
        let rest = both_second (chain_passes t.threads t.threadcount o 1 monitor.entry) _ passes in
        let one = chain_marks t.threads t.threadcount o 1 monitor.entry met in
        let two = chain_marks t.threads t.threadcount o 2 monitor.contention one in
        let one_full : length one ≡ thread_limit = chain_full o 1 monitor.entry met ∙ full in
        let two_full : length two ≡ thread_limit = chain_full o 2 monitor.contention one ∙ one_full in
        reads_right
        (reads_more
        (reads_more
        (chain_met o 1 monitor.entry met full (both_first (chain_passes t.threads t.threadcount o 1 monitor.entry) _ passes))
        (chain_met o 2 monitor.contention one one_full
        (both_first (chain_passes t.threads t.threadcount o 2 monitor.contention) _ rest)))
        (chain_met o 3 monitor.waiting two two_full
        (both_second (chain_passes t.threads t.threadcount o 2 monitor.contention) _ rest)))
        (there say) back
      where
        own : ChainsSay t o → (chain : ℕ) → 1 ≤ chain → chain ≤ 3 → 0 < count n (threads_in_chain t o chain) → Placed t n × ((thread_at t n).object ≡ o)
        own say chain first last inside =
            let (here, names) = ((say chain first last).1 n inside).1.0 in
            (rw (here, names) inside, here)

        there : ChainsSay t o → ((0 < count n (threads_in_chain t o 1)) ⊎ (0 < count n (threads_in_chain t o 2))) ⊎ (0 < count n (threads_in_chain t o 3))
            → Placed t n × ((thread_at t n).object ≡ o)
        there say (inl (inl inside)) = own say 1 (omega arith) (omega arith) inside
        there say (inl (inr inside)) = own say 2 (omega arith) (omega arith) inside
        there say (inr inside) = own say 3 (omega arith) (omega arith) inside

        back : Placed t n × ((thread_at t n).object ≡ o)
            → ((0 < count n (threads_in_chain t o 1)) ⊎ (0 < count n (threads_in_chain t o 2))) ⊎ (0 < count n (threads_in_chain t o 3))
        back (placed, here) = at (thread_chain (thread_at t n)) refl
          where
            at : (chain : ℕ) → thread_chain (thread_at t n) ≡ chain
                → ((0 < count n (threads_in_chain t o 1)) ⊎ (0 < count n (threads_in_chain t o 2))) ⊎ (0 < count n (threads_in_chain t o 3))
            at zero e = absurd (placed_parked t n placed e)
            at (suc zero) e = inl (inl (rw (here, e) at placed))
            at (suc (suc zero)) e = inl (inr (rw (here, e) at placed))
            at (suc (suc (suc zero))) e = inr (rw (here, e) at placed)
            at (suc (suc (suc (suc k)))) e = absurd (omega (arith, e, chain_kinds (phase_number_at t n)))

    -- after all objects up to `last`: whoever is in its own chain, at one of them
    objects_met : (last : ℕ) (met : List Bool) → length met ≡ thread_limit → all_up_to last (object_turn t) ≡ true
        → Reads (get_or (objects_marks t last met) (n - 1) false) (IsMarked met n ⊎ (Placed t n × Within 1 last (thread_at t n).object))
    unfolding objects_marks all_up_to
    objects_met zero met full passes = record { read = λ e. inl e; make = make }
      where
        make : IsMarked met n ⊎ (Placed t n × Within 1 0 (thread_at t n).object) → IsMarked met n
        make (inl e) = e
        make (inr (placed, (first, last))) = absurd (omega (arith, first, last))
    objects_met (suc o) met full passes =
        at (object_turn t (suc o)) refl passes (objects_met o marks (chains_full (suc o) (object_at t (suc o)).monitor met ∙ full))
      where
        marks : List Bool
        marks = chains_marks t.threads t.threadcount (suc o) (object_at t (suc o)).monitor met

        there : (Placed t n × ((thread_at t n).object ≡ suc o)) ⊎ (Placed t n × Within 1 o (thread_at t n).object)
            → Placed t n × Within 1 (suc o) (thread_at t n).object
        there (inl (placed, here)) = (placed, (omega (arith, here), omega (arith, here)))
        there (inr (placed, (first, last))) = (placed, (first, omega (arith, last)))

        back : Placed t n × Within 1 (suc o) (thread_at t n).object
            → (Placed t n × ((thread_at t n).object ≡ suc o)) ⊎ (Placed t n × Within 1 o (thread_at t n).object)
        back (placed, (first, last)) = here? (equal? (thread_at t n).object (suc o))
          where
            here? : ((thread_at t n).object ≡ suc o) ⊎ ((thread_at t n).object ≢ suc o)
                → (Placed t n × ((thread_at t n).object ≡ suc o)) ⊎ (Placed t n × Within 1 o (thread_at t n).object)
            here? (inl here) = inl (placed, here)
            here? (inr other) = inr (placed, (first, omega (arith, last, other)))

        at : (passes : Bool) → object_turn t (suc o) ≡ passes → pick passes (all_up_to o (object_turn t)) false ≡ true
            → (all_up_to o (object_turn t) ≡ true
            → Reads (get_or (objects_marks t o marks) (n - 1) false) (IsMarked marks n ⊎ (Placed t n × Within 1 o (thread_at t n).object)))
            → Reads (get_or (pick passes (objects_marks t o marks) marks) (n - 1) false)
            (IsMarked met n ⊎ (Placed t n × Within 1 (suc o) (thread_at t n).object))
        at true turn rest later =
            reads_right
            (reads_more (chains_met (suc o) met full (turn_chains (suc o) turn))
            (later rest))
            there back
        at false turn rest later = false≢true rest

    -- so the marks of a parked thread, whose object is in range, say that it is found
    marks_read : all_up_to object_limit (object_turn t) ≡ true → ThreadFits t.objectcount n (thread_at t n)
        → Reads (either (eqb (thread_chain (thread_at t n)) 0) (get_or (objects_marks t object_limit (replicate thread_limit false)) (n - 1) false)) (Found t n)
    marks_read passes fits =
        reads_map
        (reads_unless (reads_eqb (thread_chain (thread_at t n)) 0)
        (objects_met object_limit (replicate thread_limit false) (length-replicate thread_limit false) passes))
        (λ known parked. placed (known parked))
        (λ found parked.
        let (first, last) = (fits.operation (parked_busy (phase_number_at t n) parked)).0 in
        inr (found parked, (first, omega (arith, last, fewer))))
      where
        placed : IsMarked (replicate thread_limit false) n ⊎ (Placed t n × Within 1 object_limit (thread_at t n).object) → Placed t n
        placed (inl e) = false≢true (sym (get_or-replicate thread_limit (n - 1) false false (omega (arith, low, high))) ∙ e)
        placed (inr (is, range)) = is

  -- an empty record of a thread
  none_says : (n : ℕ) → thread_at t n ≡ no_thread → ThreadFits t.objectcount n (thread_at t n) × Found t n
  unfolding chain_named phase_number
  none_says n e = (rw e (no_thread_fits t.objectcount n), λ parked. absurd (parked (ap thread_chain e)))

  thread_used : all_up_to object_limit (object_turn t) ≡ true → (n : ℕ) → n ≤ t.threadcount
      → Reads (thread_turn t (objects_marks t object_limit (replicate thread_limit false)) n) (ThreadFits t.objectcount n (thread_at t n) × Found t n)
  unfolding thread_passes
  thread_used passes zero inside =
      record { read = λ e. none_says zero (thread_none t); make = λ says. rw ((reads_empty_thread (thread_at t zero)).make (thread_none t)) }
  thread_used passes (suc n) inside =
      rw (le-leb (suc n) t.threadcount inside)
      (reads_covered (reads_empty_thread (thread_at t (suc n)))
      (reads_then (reads_thread t.objectcount (suc n) (thread_at t (suc n))) (marks_read (suc n) (omega arith) (omega (arith, inside, few)) passes))
      (none_says (suc n)))

  thread_past : (met : List Bool) (n : ℕ) → t.threadcount < n → Reads (thread_turn t met n) (thread_at t n ≡ no_thread)
  unfolding thread_passes
  thread_past met n past = rw (lt-leb n t.threadcount past) (reads_as (either_no _) (reads_empty_thread (thread_at t n)))

  object_used : (o : ℕ) → o ≤ t.objectcount → Reads (object_turn t o) (ObjectFits t.threadcount o (object_at t o) × ChainsSay t o)
  unfolding object_passes
  object_used o inside =
      rw (le-leb o t.objectcount inside)
      (reads_both
      (reads_covered (reads_empty_object (object_at t o)) (reads_object t.threadcount o (object_at t o))
      (λ e. rw e (no_object_fits t.threadcount o)))
      (walks o))

  object_past : (o : ℕ) → t.objectcount < o → Reads (object_turn t o) (object_at t o ≡ no_object)
  unfolding object_passes chains_pass chain_passes
  object_past o past =
      rw (lt-leb o t.objectcount past)
      (reads_first (reads_as (either_no _) (reads_empty_object (object_at t o))) (λ e. rw (e, none 1, none 2, none 3)))
    where
      none : (chain : ℕ) → chain_test t.threadcount (next_in t.threads) (member_fits t.threads t.threadcount o chain) 0 ≡ true
      none chain = empty_passes t.threadcount (next_in t.threads) (member_fits t.threads t.threadcount o chain)

  -- each record is in use or past the last, so that the two loops ask what the clauses ask
  objects_read : Reads (all_up_to object_limit (object_turn t))
      (Each t.objectcount (λ o. ObjectFits t.threadcount o (object_at t o) × ChainsSay t o)
      × Each object_limit (λ o. t.objectcount < o → object_at t o ≡ no_object))
  objects_read = reads_used_and_past object_limit t.objectcount fewer object_used object_past

  threads_read : all_up_to object_limit (object_turn t) ≡ true
      → Reads (all_up_to thread_limit (thread_turn t (objects_marks t object_limit (replicate thread_limit false))))
      (Each t.threadcount (λ n. ThreadFits t.objectcount n (thread_at t n) × Found t n)
      × Each thread_limit (λ n. t.threadcount < n → thread_at t n ≡ no_thread))
  threads_read passes = reads_used_and_past thread_limit t.threadcount few (thread_used passes)
      (thread_past (objects_marks t object_limit (replicate thread_limit false)))

-- all of them
one_pass_reads : (t : Table) → Reads (one_pass t) (Sound t)
unfolding one_pass
one_pass_reads t =
    reads_map
    (reads_then (reads_sizes t.threadcount t.objectcount)
    (λ ((one, few), (some, fewer)).
    reads_then (objects_read t few fewer) (λ says. threads_read t few fewer ((objects_read t few fewer).make says))))
    (λ (sizes, ((objects, objects_past), (threads, threads_past))).
    record {
      sizes = sizes;
      objects = λ o low high. (objects o low high).0;
      threads = λ n low high. (threads n low high).0;
      chains_end = λ o low high chain first last. ((objects o low high).1 chain first last).0;
      chains_inside = λ o low high chain first last n h. (((objects o low high).1 chain first last).1 n h).0;
      parked = λ n low high. (threads n low high).1;
      no_others = λ o low high chain first last n h. (((objects o low high).1 chain first last).1 n h).1.0;
      falling = λ n low high queued.
          let parked : thread_chain (thread_at t n) ≢ 0 = λ none. omega (arith, none, queued) in
          let (first, last) = ((threads n low high).0.operation (parked_busy (phase_number_at t n) parked)).0 in
          (((objects (thread_at t n).object first last).1 1 (omega arith) (omega arith)).1 n (rw queued at ((threads n low high).1 parked))).1.1 queued;
      threads_past = threads_past;
      objects_past = objects_past;
    })
    (λ s.
    let chains : Each t.objectcount (ChainsSay t) = λ o low high chain first last. (
      s.chains_end o low high chain first last,
      λ n h.
          let (one, highest) = s.chains_inside o low high chain first last n h in
          ((one, highest), (s.no_others o low high chain first last n h, s.falling n one highest)),
    ) in (
      s.sizes,
      (
        (λ o low high. (s.objects o low high, chains o low high), s.objects_past),
        (λ n low high. (s.threads n low high, s.parked n low high), s.threads_past),
      ),
    ))

pub one_pass_is : (t : Table) → one_pass t ≡ sound_of t
one_pass_is t = reads_same (one_pass_reads t) (sound_is t)
