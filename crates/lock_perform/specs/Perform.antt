-- What an effect does to the two records that it is about, and how they and its work on the chains go into the table.
use Rattle.std.specs.Prelude.{ℕ, Bool, true, false}
use Rattle.laws.specs.Choice.{pick}
use Rattle.lock_word.specs.Write.{free_word, flat_word, reserved_word, fat_word}
use Rattle.lock_word.specs.Meaning.{cancel_of}
use Rattle.lock_rules.specs.declared.WordChange.{WordChange}
use Rattle.lock_rules.specs.declared.WordChange.TheVariants.{Unchanged, Freed, OwnFlat, OwnReserved, Cancelled, Inflated}
use Rattle.lock_rules.specs.declared.ChainWork.{ChainWork}
use Rattle.lock_rules.specs.declared.ChainWork.TheVariants.{Stay, Join, JoinAndHand, Hand, Move, MoveAndLetOut, SendBack}
use Rattle.lock_rules.specs.declared.Effect.{Effect}
use Rattle.lock_table.specs.Access.{set_thread, set_object, next_of}
use Rattle.lock_table.specs.Record.{with_next, with_word, with_flag, with_monitor}
use Rattle.lock_table.specs.Monitor.{held_by, with_depth}
use Rattle.lock_table.specs.declared.record.Monitor.{Monitor}
use Rattle.lock_table.specs.declared.record.ThreadRecord.{ThreadRecord}
use Rattle.lock_table.specs.declared.record.ObjectRecord.{ObjectRecord}
use Rattle.lock_table.specs.declared.record.Table.{Table}
use Rattle.lock_perform.specs.Moving.{carry_out}

-- the word after a change by `thread` at `object`
unfoldable pub word_after : ℕ → ℕ → ℕ → WordChange → ℕ
word_after thread object word Unchanged = word
word_after thread object word Freed = free_word
word_after thread object word (OwnFlat count) = flat_word thread count
word_after thread object word (OwnReserved count) = reserved_word thread count
word_after thread object word Cancelled = cancel_of word
word_after thread object word Inflated = fat_word object

-- holder and depth by the effect, before its work on chains
abbrev pub begun_monitor : Monitor → ℕ → ℕ → Monitor
begun_monitor monitor holder depth = with_depth (held_by monitor holder) depth

-- the object's record after an effect, its chains as they were
abbrev pub object_after : ℕ → ℕ → ObjectRecord → Effect → ObjectRecord
object_after thread number object effect =
    with_flag
    (with_monitor (with_word object (word_after thread number object.word effect.word)) (begun_monitor object.monitor effect.holder effect.depth))
    effect.flag

-- whether an effect leaves the chains alone
unfoldable pub stays : ChainWork → Bool
stays Stay = true
stays (Join chain) = false
stays (JoinAndHand chain) = false
stays Hand = false
stays (Move from which) = false
stays MoveAndLetOut = false
stays (SendBack owner) = false

-- the work on the chains, then both records: the thread's with the next index and the object's with the chains that the work gave
abbrev pub worked : Table → ℕ → ℕ → ThreadRecord → ObjectRecord → ChainWork → Table
worked table thread number own object work =
    let carried = carry_out table object.monitor work thread number in
    set_object (set_thread carried.table thread (with_next own (next_of carried.table thread))) number (with_monitor object carried.monitor)

-- where there is no such work, both records are written as they are
abbrev pub settled : Table → ℕ → ℕ → ThreadRecord → ObjectRecord → ChainWork → Table
settled table thread number own object work =
    pick (stays work) (set_object (set_thread table thread own) number object) (worked table thread number own object work)
