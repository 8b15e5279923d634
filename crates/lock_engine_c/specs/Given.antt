-- A fresh table asked for over C with what its threads are given (document 02, L8): 27 after 22, and both after 11; all leave the bytes.
use Rattle.std.specs.Prelude.{ℕ, not, List, eqb, get_or, Result}
use Rattle.laws.specs.Sequence.{tabulate}
use Rattle.lock_table.specs.Limits.{thread_limit}
use Rattle.lock_table.specs.Fresh.{request_of, fresh_of}
use Rattle.lock_table.specs.declared.fresh_table.ThreadGiven.{ThreadGiven}
use Rattle.lock_table.specs.declared.fresh_table.FreshRefusal.{FreshRefusal}
use Rattle.lock_table.specs.declared.record.Table.{Table}

-- The bytes are arrays, one behind the other, with an element for each thread: the ranks. Bytes that are not there are 0, so that a caller who knows of fewer
-- arrays gives nothing of the others.
abbrev pub given_from : List ℕ → ℕ → ThreadGiven
given_from bytes place = record { rank = get_or bytes place 0 }

abbrev pub threads_from : List ℕ → List ThreadGiven
threads_from bytes = tabulate thread_limit (given_from bytes)

abbrev pub fresh_given_on : ℕ → ℕ → ℕ → List ℕ → Result Table FreshRefusal
fresh_given_on threads objects reserved bytes = fresh_of (request_of threads objects (not (eqb reserved 0)) (threads_from bytes))
