-- A number that is free for another object, and an object that is as new, in terms of the records alone (ours).
use Rattle.std.specs.Prelude.{ℕ, ◌≤◌, ◌≡◌, ◌≢◌, Bool, true, false, Option, Some, None}
use Rattle.lock_word.specs.Read.{read_word}
use Rattle.lock_word.specs.Meaning.{seen_word}
use Rattle.lock_word.specs.declared.meaning.WordSeen.{WordSeen}
use Rattle.lock_word.specs.declared.meaning.WordSeen.TheVariants.{Free, Anonymous, Fat, Flat, Reserved}
use Rattle.lock_word.specs.declared.reading.LockWord.{LockWord}
use Rattle.lock_table.specs.Access.{thread_at, object_at}
use Rattle.lock_table.specs.Ownership.{ownership_at}
use Rattle.lock_table.specs.declared.record.Table.{Table}

-- nobody owns object o, and no thread has an operation on it
pub record FreeNumber (table : Table) (o : ℕ) : Type 0 where
  pub real : (1 ≤ o) × (o ≤ table.objectcount)
  pub unowned : (ownership_at table o).thread ≡ 0
  pub unused : (n : ℕ) → (thread_at table n).object ≢ o

-- a valid word that is not fat
abbrev pub thin_seen : WordSeen → Bool
thin_seen Free = true
thin_seen Anonymous = true
thin_seen Fat = false
thin_seen (Flat owner count) = true
thin_seen (Reserved owner count) = true

abbrev pub thin_word : Option LockWord → Bool
thin_word None = false
thin_word (Some word) = thin_seen (seen_word word)

-- Flag, monitor and chains are those of a fresh table. The word may still be reserved for its last owner.
pub record AsNew (table : Table) (o : ℕ) : Type 0 where
  pub word : thin_word (read_word (object_at table o).word) ≡ true
  pub flag : (object_at table o).flag ≡ false
  pub holder : (object_at table o).monitor.holder ≡ 0
  pub depth : (object_at table o).monitor.depth ≡ 0
  pub entry : (object_at table o).monitor.entry ≡ 0
  pub contention : (object_at table o).monitor.contention ≡ 0
  pub waiting : (object_at table o).monitor.waiting ≡ 0
