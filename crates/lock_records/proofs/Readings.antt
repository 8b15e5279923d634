-- What is read from a table of records that represents a sound table with lists: a thread's state and object, the members of a chain, an object's word, and
-- what a rule sees of it.
use Prim.Native.Nat.{ℕ, ◌≤◌, ◌<◌}
use mathlib.Core.Path.{◌≡◌, refl, sym, ap, ◌∙◌}
use mathlib.Core.Logic.{◌≢◌}
use mathlib.Core.List.{List, [], ◌∷◌}
use native.Mathlib.Omega.{arith}
use lib.Dec.{T, eqb}
use lib.ListN.{length}
use borrow.Author.Tests.{eq-eqb, ne_eqb}
use Rattle.laws.proofs.Choice.{either_way, equal?}
use Rattle.chains.specs.Chain.{members}
use Rattle.chains.proofs.Listed.{Chain as ChainOf, head, chain_members}
use Rattle.chains.proofs.Links.{first_head, head_real}
use Rattle.lock_word.specs.Read.{read_word}
use Rattle.std.specs.Prelude.{Some}
use Rattle.lock_rules.proofs.{Status.unfinished, ListSound.SoundTable, ListChains.short}
use Rattle.lock_rules.specs.declared.ThreadState.TheVariants.{Idle}
use Rattle.lock_rules.proofs.Objects.{empty, sight_of, chain_of}
use Rattle.lock_rules.proofs.Tables.{ListTable, seen_here}
use Rattle.chains.specs.declared.named.Chain.{Chain}
use Rattle.lock_table.specs.Limits.{thread_limit}
use Rattle.lock_table.specs.Access.{thread_at, object_at, next_of}
use Rattle.lock_table.specs.declared.record.{ThreadRecord.ThreadRecord, ObjectRecord.ObjectRecord, Table.Table}
use Rattle.lock_perform.specs.{State.read_thread, Sight.sight_at}
use Rattle.lock_records.proofs.Numbering.{number, lists_of, list_at}
use Rattle.lock_records.proofs.Written.{lock_word, word_read, seen_written, state_read, object_written}
use Rattle.lock_records.proofs.Represents.{thread_record, Represents, record_is, next_is}

-- a chain is empty where its first thread is 0
head_empty : (first : ℕ) (list : List ℕ) → first ≡ head list → ((x : ℕ) (rest : List ℕ) → list ≡ x ∷ rest → x ≢ 0) → eqb first 0 ≡ empty list
head_empty first [] e real = eq-eqb first 0 e
head_empty first (x ∷ rest) e real = ne_eqb first 0 (λ q. real x rest refl (sym e ∙ q))

-- in a sound table the numbers that are no thread's are idle, and a thread that is not idle is at an object of the table
module _ (threads objects : ℕ) (lists : ListTable) (sound : SoundTable threads objects lists) where
  pub nobody : (lists.threads 0).state ≡ Idle
  nobody = sym (seen_here (lists.threads 0).object (lists.threads 0) refl) ∙ (sound.sound (lists.threads 0).object).nobody

  pub past_idle : (n : ℕ) → threads < n → (lists.threads n).state ≡ Idle
  past_idle n past = either_way (sound.range n) (λ idle. idle) (λ bounds. absurd (omega (arith, past, bounds.0)))

  pub busy_in : (n : ℕ) → T (unfinished (lists.threads n).state)
      → ((1 ≤ n) × (n ≤ threads)) × (1 ≤ (lists.threads n).object) × ((lists.threads n).object ≤ objects)
  busy_in n busy =
      either_way (sound.range n) (λ idle. absurd (rw idle at busy))
      (λ bounds. either_way (equal? n 0) (λ e. absurd (rw (ap (λ (m : ℕ). (lists.threads m).state) e ∙ nobody) at busy))
      (λ away. ((omega (arith, away), bounds.0), bounds.1, bounds.2)))

module _ (threads objects : ℕ) (t : Table) (lists : ListTable) (represents : Represents threads objects t lists) (sound : SoundTable threads objects lists)
  where
    -- a thread's record
    pub thread_is : (n : ℕ) → thread_at t n ≡ thread_record n (lists.threads n) (represents.links.next n) (represents.given.thread n)
    thread_is = record_is represents.given.thread t lists.threads represents.links.next represents.written

    pub state_is : (n : ℕ) → read_thread (thread_at t n) ≡ (lists.threads n).state
    state_is n =
        ap read_thread (thread_is n)
        ∙ state_read n (lists.threads n).object (lists.threads n).state
        (λ busy. let ((low, high), first, last) = busy_in threads objects lists sound n busy in (low, omega (arith, high, represents.thread_room))) (sound.fine n)

    pub home_is : (n : ℕ) → T (unfinished (lists.threads n).state) → (thread_at t n).object ≡ (lists.threads n).object
    home_is n busy =
        ap (λ (thread : ThreadRecord). thread.object) (thread_is n)
        ∙ object_written n (lists.threads n).object (lists.threads n).state busy

    -- a chain, by its first thread and the next indexes
    pub chained : (o : ℕ) (chain : Chain) → ChainOf represents.links.next (represents.links.first (number o chain)) (chain_of chain (lists.objects o))
    chained o chain = rw (list_at lists.objects o chain) at (represents.chains.chain (number o chain))

    pub first_is : (o : ℕ) (chain : Chain) → represents.links.first (number o chain) ≡ head (chain_of chain (lists.objects o))
    first_is o chain =
        first_head represents.links (lists_of lists.objects) represents.chains (number o chain) ∙ ap head (list_at lists.objects o chain)

    pub members_are : (o : ℕ) (chain : Chain)
        → members thread_limit (next_of t) (represents.links.first (number o chain)) ≡ chain_of chain (lists.objects o)
    members_are o chain =
        ap (λ (next : ℕ → ℕ). members thread_limit next (represents.links.first (number o chain)))
        (next_is represents.given.thread t lists.threads represents.links.next represents.written)
        ∙ chain_members thread_limit represents.links.next (represents.links.first (number o chain)) (chain_of chain (lists.objects o))
        (chained o chain) (omega (arith, short threads objects lists sound chain o, represents.thread_room))

    pub chain_empty : (o : ℕ) (chain : Chain) → eqb (represents.links.first (number o chain)) 0 ≡ empty (chain_of chain (lists.objects o))
    chain_empty o chain =
        head_empty (represents.links.first (number o chain)) (chain_of chain (lists.objects o)) (first_is o chain)
        (λ x rest e. head_real represents.links (lists_of lists.objects) represents.chains (number o chain) x rest
        (list_at lists.objects o chain ∙ e))

    -- an object's word and what a rule sees
    module _ (o : ℕ) (real : 1 ≤ o) (low : o ≤ objects) where
      pub word_is : read_word (object_at t o).word ≡ Some (lock_word o (lists.objects o).word)
      word_is =
          ap (λ (object : ObjectRecord). read_word object.word) (represents.object_is o real low)
          ∙ word_read threads o represents.thread_room real (omega (arith, represents.object_room)) (lists.objects o).word (sound.sound o).word

      pub sight_is : sight_at t (object_at t o) (lock_word o (lists.objects o).word) ≡ sight_of (lists.objects o)
      sight_is =
          ap (λ (object : ObjectRecord). sight_at t object (lock_word o (lists.objects o).word)) (represents.object_is o real low)
          ∙ (λ j.
          record {
            word = seen_written o (lists.objects o).word j;
            flag = (lists.objects o).flag;
            holder = (lists.objects o).holder;
            depth = (lists.objects o).depth;
            entryempty = chain_empty o Chain.Entry j;
            contentionempty = chain_empty o Chain.Contention j;
            waiters = length (members_are o Chain.Waiting j);
          })
