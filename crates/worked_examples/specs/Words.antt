-- Examples of lock words beyond document 01's cases: what is a word, and who owns by it.
use Rattle.std.specs.Prelude.{◌≡◌, Some, None}
use Rattle.lock_word.specs.Read.{read_word, thread_number, monitor_number}
use Rattle.lock_word.specs.Meaning.{ownership_of, cancelled}
use Rattle.lock_word.specs.declared.reading.LockWord.TheVariants.{Free, Flat, Fat as FatWord}
use Rattle.lock_word.specs.declared.meaning.WordSeen.TheVariants.{Fat, Flat as FlatSeen, Reserved}

pub record WordExamples : Type 0 where
  pub free : read_word 0x000000 ≡ Some Free
  pub flat : read_word 0x000300 ≡ Some (Flat (thread_number 3) 0)
  pub fat : read_word 0x000301 ≡ Some (FatWord (monitor_number 3))
  -- bit 23, the first of the rest, and bit 22, the last of the number
  pub beyond : read_word 0x800000 ≡ None
  pub greatest : read_word 0x7fff00 ≡ Some (Flat (thread_number 32767) 0)
  -- number 0 with a count
  pub count_alone : read_word 0x000004 ≡ None
  -- holder and depth of a monitor, and who owns by them
  pub owned : ownership_of Fat 3 2 ≡ record { thread = 3; depth = 2 }
  pub held_only : ownership_of Fat 3 0 ≡ record { thread = 0; depth = 0 }
  pub held_by_nobody : ownership_of Fat 0 2 ≡ record { thread = 0; depth = 0 }
  -- a reserved word with count 2, and what cancelling makes of it
  pub reserved_in : ownership_of (Reserved 3 2) 0 0 ≡ record { thread = 3; depth = 2 }
  pub unreserved : cancelled (Reserved 3 2) ≡ FlatSeen 3 1
