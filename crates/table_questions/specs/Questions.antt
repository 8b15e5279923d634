-- What can be asked of a table, and the answers. A question is a name of what is asked and a clause that says its value; all share one shape.
use Rattle.std.specs.Prelude.{ℕ, ◌+◌, ◌*◌, Bool, true, List, Option, Some, None, Result, Ok, Err, eqb, leb}
use Rattle.laws.specs.Choice.{pick, both, within}
use Rattle.lock_word.specs.Read.{read_word}
use Rattle.lock_word.specs.declared.reading.LockWord.{LockWord}
use Rattle.lock_word.specs.declared.reading.LockWord.TheVariants.{Free, Flat, Anonymous, Reserved, Fat}
use Rattle.lock_word.specs.declared.meaning.Ownership.{Ownership}
use Rattle.lock_table.specs.Access.{thread_at, object_at}
use Rattle.lock_table.specs.Limits.{thread_limit, object_limit}
use Rattle.lock_table.specs.Operation.{operation_number}
use Rattle.lock_table.specs.Ownership.{ownership_at}
use Rattle.lock_table.specs.Phase.{phase_number, carried_number}
use Rattle.lock_table.specs.declared.record.ThreadRecord.{ThreadRecord}
use Rattle.lock_table.specs.declared.record.ObjectRecord.{ObjectRecord}
use Rattle.lock_table.specs.declared.record.Table.{Table}
use Rattle.lock_rules.specs.Numbers.{refusal_number}
use Rattle.lock_rules.specs.declared.event.Refusal.{Refusal}
use Rattle.lock_rules.specs.declared.event.Refusal.TheVariants.{NotSound, NoSuchThread, NoSuchObject}
use Rattle.table_bytes.specs.Reading.{is_table, table_of}
use Rattle.table_bytes.specs.ObjectBytes.{flag_byte}
use Rattle.table_questions.specs.declared.asking.ThreadQuestion.{ThreadQuestion}
use Rattle.table_questions.specs.declared.asking.ThreadQuestion.TheVariants.{OperationOf, ObjectOf, PhaseOf, OnwardOf, KeptOf, SavedOf}
use Rattle.table_questions.specs.declared.asking.ThreadQuestion.TheVariants.{TicksOf, NextOf, RankOf, BlockerOf}
use Rattle.table_questions.specs.declared.asking.ObjectQuestion.{ObjectQuestion}
use Rattle.table_questions.specs.declared.asking.ObjectQuestion.TheVariants.{WordOf, OwnerOf, DepthOf, FlagOf, HolderOf, MonitorDepthOf}
use Rattle.table_questions.specs.declared.asking.ObjectQuestion.TheVariants.{EntryOf, ContentionOf, WaitingOf, KindOf, NamedOf}

-- the answer to a question: 0 and the value, packed as bits 0 to 7 and the rest; else a refusal's number
abbrev pub saying : ℕ → ℕ
saying value = value * 256

abbrev pub packed_of : Result ℕ Refusal → ℕ
packed_of (Ok value) = saying value
packed_of (Err refusal) = refusal_number refusal

unfoldable pub said_of : Bool → Bool → Refusal → ℕ → ℕ
said_of istable inrange refusal value = pick istable (pick inrange (saying value) (refusal_number refusal)) (refusal_number NotSound)

-- the sizes
abbrev pub thread_count : List ℕ → ℕ
thread_count bytes = said_of (is_table bytes) true NotSound (table_of bytes).threadcount

abbrev pub object_count : List ℕ → ℕ
object_count bytes = said_of (is_table bytes) true NotSound (table_of bytes).objectcount

-- who keeps a parked thread from going on, always another: the monitor's holder, marked by bit 16, or who owns the object
abbrev pub holder_mark : ℕ
holder_mark = 65536

unfoldable pub holder_blocks : ℕ → ℕ → ℕ
holder_blocks number holder = pick (eqb holder 0) 0 (pick (eqb holder number) 0 (holder + holder_mark))

unfoldable pub owner_blocks : ℕ → ℕ → ℕ → ℕ
owner_blocks number owner holder =
    pick (eqb owner 0) (holder_blocks number holder) (pick (eqb owner number) (holder_blocks number holder) owner)

-- an exit waits for no owner
unfoldable pub entry_blocks : ℕ → ℕ → ℕ → ℕ → ℕ
entry_blocks operation number owner holder = pick (eqb operation 2) (holder_blocks number holder) (owner_blocks number owner holder)

-- parked for entry is phase 5 or 8
unfoldable pub blocker_of : ℕ → ℕ → ℕ → ℕ → ℕ → ℕ
blocker_of operation phase number owner holder =
    pick (eqb phase 5) (entry_blocks operation number owner holder) (pick (eqb phase 8) (entry_blocks operation number owner holder) 0)

-- what is asked of a thread, by its number, its record, and the owner of its object and the holder of that object's monitor
unfoldable pub thread_value : ThreadQuestion → ℕ → ThreadRecord → ℕ → ℕ → ℕ
thread_value OperationOf number thread owner holder = operation_number thread.operation
thread_value ObjectOf number thread owner holder = thread.object
thread_value PhaseOf number thread owner holder = phase_number thread.phase
thread_value OnwardOf number thread owner holder = carried_number thread.phase
thread_value KeptOf number thread owner holder = thread.kept
thread_value SavedOf number thread owner holder = thread.saved
thread_value TicksOf number thread owner holder = thread.ticks
thread_value NextOf number thread owner holder = thread.next
thread_value RankOf number thread owner holder = thread.rank
thread_value BlockerOf number thread owner holder =
    blocker_of (operation_number thread.operation) (phase_number thread.phase) number owner holder

-- the kind of a lock word: free, flat, anonymous, reserved, fat, and no lock word, which only a table that is not sound has
unfoldable pub kind_number : Option LockWord → ℕ
kind_number None = 5
kind_number (Some Free) = 0
kind_number (Some (Flat thread count)) = 1
kind_number (Some Anonymous) = 2
kind_number (Some (Reserved thread count)) = 3
kind_number (Some (Fat monitor)) = 4

-- the thread that a flat or reserved word names, whether it owns the object or not; 0 for any other word
unfoldable pub named_thread : Option LockWord → ℕ
named_thread None = 0
named_thread (Some Free) = 0
named_thread (Some (Flat thread count)) = thread.0
named_thread (Some Anonymous) = 0
named_thread (Some (Reserved thread count)) = thread.0
named_thread (Some (Fat monitor)) = 0

-- what is asked of an object, by its record and who owns it; owner and depth are those that the theorem on schedules compares with the plain monitors
unfoldable pub object_value : ObjectQuestion → ObjectRecord → Ownership → ℕ
object_value WordOf object ownership = object.word
object_value KindOf object ownership = kind_number (read_word object.word)
object_value NamedOf object ownership = named_thread (read_word object.word)
object_value OwnerOf object ownership = ownership.thread
object_value DepthOf object ownership = ownership.depth
object_value FlagOf object ownership = flag_byte object.flag
object_value HolderOf object ownership = object.monitor.holder
object_value MonitorDepthOf object ownership = object.monitor.depth
object_value EntryOf object ownership = object.monitor.entry
object_value ContentionOf object ownership = object.monitor.contention
object_value WaitingOf object ownership = object.monitor.waiting

-- one of the table's, and of the records that there are, whatever a size that is not sound says
abbrev pub thread_in_range : Table → ℕ → Bool
thread_in_range table thread = both (within 1 table.threadcount thread) (leb thread thread_limit)

abbrev pub object_in_range : Table → ℕ → Bool
object_in_range table object = both (within 1 table.objectcount object) (leb object object_limit)

-- what is asked of the record with a number
abbrev pub thread_value_in : ThreadQuestion → Table → ℕ → ℕ
thread_value_in question table number =
    let thread = thread_at table number in
    let home = thread.object in
    thread_value question number thread (ownership_at table home).thread (object_at table home).monitor.holder

abbrev pub object_value_in : ObjectQuestion → Table → ℕ → ℕ
object_value_in question table number = object_value question (object_at table number) (ownership_at table number)

abbrev pub thread_in : ThreadQuestion → Bool → Table → ℕ → ℕ
thread_in question istable table number = said_of istable (thread_in_range table number) NoSuchThread (thread_value_in question table number)

abbrev pub object_in : ObjectQuestion → Bool → Table → ℕ → ℕ
object_in question istable table number = said_of istable (object_in_range table number) NoSuchObject (object_value_in question table number)

-- the same of bytes
abbrev pub ask_thread : ThreadQuestion → List ℕ → ℕ → ℕ
ask_thread question bytes thread = thread_in question (is_table bytes) (table_of bytes) thread

abbrev pub ask_object : ObjectQuestion → List ℕ → ℕ → ℕ
ask_object question bytes object = object_in question (is_table bytes) (table_of bytes) object
