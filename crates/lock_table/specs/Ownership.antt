-- Who owns an object of a table, and how deep (document 01, "Lock words").
use Rattle.std.specs.Prelude.{ℕ, Option, Some, None}
use Rattle.lock_word.specs.Read.{read_word}
use Rattle.lock_word.specs.Meaning.{seen_word, unowned, ownership_of}
use Rattle.lock_word.specs.declared.reading.LockWord.{LockWord}
use Rattle.lock_word.specs.declared.meaning.Ownership.{Ownership}
use Rattle.lock_table.specs.Access.{object_at}
use Rattle.lock_table.specs.declared.record.Monitor.{Monitor}
use Rattle.lock_table.specs.declared.record.ObjectRecord.{ObjectRecord}
use Rattle.lock_table.specs.declared.record.Table.{Table}

-- by the word, and by the monitor where that is fat; what is no lock word names nobody
unfoldable pub ownership_in : Option LockWord → Monitor → Ownership
ownership_in None monitor = unowned
ownership_in (Some word) monitor = ownership_of (seen_word word) monitor.holder monitor.depth

abbrev pub ownership_by : ObjectRecord → Ownership
ownership_by object = ownership_in (read_word object.word) object.monitor

-- by an object's word, "0 and 0 with no owner"
abbrev pub ownership_at : Table → ℕ → Ownership
ownership_at table o = ownership_by (object_at table o)
