-- A table of records represents a table with lists: each record is the thread or object written, with the links that stand for the lists.
-- Writing comes first and reading follows from it: so fields that a phase does not use are 0 without a further word.
use Prim.Native.Nat.{ℕ, ◌≤◌, ◌<◌}
use mathlib.Core.Path.{◌≡◌, ap, fun_ext}
use lib.ListN.{length}
use Rattle.chains.proofs.Links.{Links, LinksRepresent}
use Rattle.lock_rules.proofs.Objects.{ListObject}
use Rattle.lock_rules.proofs.Tables.{ListThread, ListTable}
use Rattle.chains.specs.declared.named.Chain.{Chain}
use Rattle.lock_table.specs.Limits.{thread_limit, object_limit}
use Rattle.lock_table.specs.Record.{no_thread, no_object, with_next, with_word, with_flag, with_monitor}
use Rattle.lock_table.specs.Access.{thread_at, object_at, next_of}
use Rattle.lock_table.specs.declared.record.{ThreadRecord.ThreadRecord, Monitor.Monitor, ObjectRecord.ObjectRecord, Table.Table}
use Rattle.lock_perform.specs.State.{write_thread}
use Rattle.lock_records.proofs.Numbering.{number, lists_of}
use Rattle.sound_records.proofs.Reading.{ThreadFits, ObjectFits}
use Rattle.lock_records.proofs.Written.{word_written}

-- thread n in its state, with a next index, written into what it was given
abbrev pub thread_record : ℕ → ListThread → ℕ → ThreadRecord → ThreadRecord
thread_record n thread next given = write_thread n thread.object thread.state (with_next given next)

-- the monitor of object o: the links give the first thread of each of its chains
abbrev pub monitor_record : ℕ → Links → ℕ → ℕ → Monitor
monitor_record o links holder depth =
    record {
      depth = depth;
      holder = holder;
      entry = links.first (number o Chain.Entry);
      contention = links.first (number o Chain.Contention);
      waiting = links.first (number o Chain.Waiting);
    }

-- object o, written into what it was given
abbrev pub object_record : ℕ → ListObject → Links → ObjectRecord → ObjectRecord
object_record o object links given =
    with_flag (with_monitor (with_word given (word_written o object.word)) (monitor_record o links object.holder object.depth)) object.flag

-- What the records of a table hold besides what events write, and that it is as soundness asks: for each number a record into which the thread's or
-- the object's state is written.
pub record Given (threads objects : ℕ) : Type 0 where
  pub thread : ℕ → ThreadRecord
  pub object : ℕ → ObjectRecord
  pub thread_fits : (n : ℕ) → 1 ≤ n → n ≤ threads → ThreadFits objects n (thread n)
  pub thread_past : (n : ℕ) → threads < n → thread n ≡ no_thread
  pub object_fits : (o : ℕ) → 1 ≤ o → o ≤ objects → ObjectFits threads o (object o)

-- all thread records are these threads, written with these next indexes
pub record ThreadsWritten (given : ℕ → ThreadRecord) (t : Table) (threads : ℕ → ListThread) (next : ℕ → ℕ) : Type 0 where
  pub records : thread_at t ≡ (λ n. thread_record n (threads n) (next n) (given n))
  pub full : length t.threads ≡ thread_limit

pub record Represents (threads objects : ℕ) (t : Table) (lists : ListTable) : Type 0 where
  pub threadcount : t.threadcount ≡ threads
  pub objectcount : t.objectcount ≡ objects
  pub thread_room : threads ≤ thread_limit
  pub object_room : objects ≤ object_limit
  pub given : Given threads objects
  pub links : Links
  pub chains : LinksRepresent links (lists_of lists.objects)
  pub written : ThreadsWritten given.thread t lists.threads links.next
  pub objects_full : length t.objects ≡ object_limit
  pub object_is : (o : ℕ) → 1 ≤ o → o ≤ objects → object_at t o ≡ object_record o (lists.objects o) links (given.object o)
  pub object_past : (o : ℕ) → objects < o → object_at t o ≡ no_object
  -- the objects with lists know the ranks
  pub ranked : (o : ℕ) → (lists.objects o).rank ≡ (λ n. (given.thread n).rank)

-- one record, and the next indexes of all
module _ (given : ℕ → ThreadRecord) (t : Table) (threads : ℕ → ListThread) (next : ℕ → ℕ) (written : ThreadsWritten given t threads next) where
  pub record_is : (n : ℕ) → thread_at t n ≡ thread_record n (threads n) (next n) (given n)
  record_is n = ap (λ (f : ℕ → ThreadRecord). f n) written.records

  pub next_is : next_of t ≡ next
  next_is = fun_ext (λ n. ap (λ (thread : ThreadRecord). thread.next) (record_is n))
