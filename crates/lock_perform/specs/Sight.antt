-- What a rule sees of its object: the word as it is read, flag, holder, depth, which chains are empty, how many wait.
use Rattle.std.specs.Prelude.{ℕ, eqb}
use Rattle.chains.specs.Chain.{chain_length}
use Rattle.lock_word.specs.declared.reading.LockWord.{LockWord}
use Rattle.lock_word.specs.declared.meaning.WordSeen.{WordSeen}
use Rattle.lock_word.specs.Meaning.{seen_word}
use Rattle.lock_rules.specs.declared.Sight.{Sight}
use Rattle.lock_table.specs.Limits.{thread_limit}
use Rattle.lock_table.specs.Access.{next_of}
use Rattle.lock_table.specs.declared.record.ObjectRecord.{ObjectRecord}
use Rattle.lock_table.specs.declared.record.Table.{Table}

abbrev pub sight_with : ObjectRecord → WordSeen → ℕ → Sight
sight_with object word waiters =
    record {
      word = word;
      flag = object.flag;
      holder = object.monitor.holder;
      depth = object.monitor.depth;
      entryempty = eqb object.monitor.entry 0;
      contentionempty = eqb object.monitor.contention 0;
      waiters = waiters;
    }

abbrev pub sight_at : Table → ObjectRecord → LockWord → Sight
sight_at table object word = sight_with object (seen_word word) (chain_length thread_limit (next_of table) object.monitor.waiting)
