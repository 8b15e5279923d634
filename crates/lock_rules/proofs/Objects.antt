-- An object whose chains are lists, and what a rule sees of it.
use Prim.Native.Nat.{ℕ}
use mathlib.Core.Bool.{Bool, true, false}
use mathlib.Core.List.{List, [], ◌∷◌}
use lib.ListN.{length}
use Rattle.chains.specs.declared.named.Chain.{Chain}
use Rattle.lock_word.specs.Meaning.{owner_of, depth_of}
use Rattle.lock_word.specs.declared.meaning.WordSeen.{WordSeen}
use Rattle.lock_rules.specs.declared.Sight.{Sight}

pub record ListObject : Type 0 where
  pub word : WordSeen
  pub flag : Bool
  pub holder : ℕ
  pub depth : ℕ
  pub entry : List ℕ
  pub contention : List ℕ
  pub waiting : List ℕ
  -- the ranks of the threads, by which they are queued; no event changes them
  pub rank : ℕ → ℕ

abbrev pub object_of : (ℕ → ℕ) → WordSeen → Bool → ℕ → ℕ → List ℕ → List ℕ → List ℕ → ListObject
object_of rank word flag holder depth entry contention waiting =
    record { word = word; flag = flag; holder = holder; depth = depth; entry = entry; contention = contention; waiting = waiting; rank = rank }

abbrev pub with_word : ListObject → WordSeen → ListObject
with_word o word = object_of o.rank word o.flag o.holder o.depth o.entry o.contention o.waiting

abbrev pub with_flag : ListObject → Bool → ListObject
with_flag o flag = object_of o.rank o.word flag o.holder o.depth o.entry o.contention o.waiting

abbrev pub with_holder : ListObject → ℕ → ListObject
with_holder o holder = object_of o.rank o.word o.flag holder o.depth o.entry o.contention o.waiting

abbrev pub with_depth : ListObject → ℕ → ListObject
with_depth o depth = object_of o.rank o.word o.flag o.holder depth o.entry o.contention o.waiting

abbrev pub with_entry : ListObject → List ℕ → ListObject
with_entry o entry = object_of o.rank o.word o.flag o.holder o.depth entry o.contention o.waiting

abbrev pub with_contention : ListObject → List ℕ → ListObject
with_contention o contention = object_of o.rank o.word o.flag o.holder o.depth o.entry contention o.waiting

abbrev pub with_waiting : ListObject → List ℕ → ListObject
with_waiting o waiting = object_of o.rank o.word o.flag o.holder o.depth o.entry o.contention waiting

-- any of the three chains, and the object with another list for it
abbrev pub chain_of : Chain → ListObject → List ℕ
chain_of Chain.Entry o = o.entry
chain_of Chain.Contention o = o.contention
chain_of Chain.Waiting o = o.waiting

abbrev pub with_chain : Chain → ListObject → List ℕ → ListObject
with_chain Chain.Entry o list = with_entry o list
with_chain Chain.Contention o list = with_contention o list
with_chain Chain.Waiting o list = with_waiting o list

abbrev pub empty : List ℕ → Bool
empty [] = true
empty (first ∷ rest) = false

abbrev pub sight_of : ListObject → Sight
sight_of o =
    record {
      word = o.word;
      flag = o.flag;
      holder = o.holder;
      depth = o.depth;
      entryempty = empty o.entry;
      contentionempty = empty o.contention;
      waiters = length o.waiting;
    }

-- owner and depth by the word
abbrev pub object_owner : ListObject → ℕ
object_owner o = owner_of o.word o.holder o.depth

abbrev pub owned_depth : ListObject → ℕ
owned_depth o = depth_of o.word o.depth
