-- Ranks (document 02, L8): who joins where, what a fresh table is given, and what soundness asks of neighbours in an entry chain.
use Rattle.std.specs.Prelude.{ℕ, ◌≡◌, true, false, [], ◌∷◌, Result, Err}
use Rattle.chains.specs.declared.named.Chain.{Chain}
use Rattle.lock_table.specs.Access.{thread_at}
use Rattle.lock_table.specs.Record.{no_thread, with_rank, with_next, with_phase, idle}
use Rattle.lock_table.specs.Fresh.{request_of, fresh_of, fresh_returned}
use Rattle.lock_table.specs.declared.fresh_table.FreshRefusal.TheVariants.{SizeOutOfRange, RankOutOfRange}
use Rattle.lock_table.specs.declared.fresh_table.FreshRefusal.{FreshRefusal}
use Rattle.lock_table.specs.declared.phase.Onward.TheVariants.{ToCheck, ToTell}
use Rattle.lock_table.specs.declared.phase.Phase.TheVariants.{Queued}
use Rattle.lock_table.specs.declared.record.{ThreadRecord.ThreadRecord, Table.Table}
use Rattle.lock_perform.specs.Moving.{let_out}
use Rattle.lock_perform.specs.Queueing.{queue}
use Rattle.lock_perform.specs.Queueing.{JoinedChain}
use Rattle.sound_records.specs.Records.{falls_behind}

abbrev ranked : ℕ → ℕ → ThreadRecord
ranked rank next = with_next (with_rank no_thread rank) next

-- threads 1 and 2, of ranks 2 and 0, are queued; thread 3 has this rank, and behind it in its chain stands thread 4, of rank 2
abbrev queued_up : ℕ → Table
queued_up rank =
    record { threadcount = 4; objectcount = 1; threads = ranked 2 2 ∷ ranked 0 0 ∷ ranked rank 4 ∷ ranked 2 0 ∷ []; objects = [] }

-- thread 3 joins the chain, and both do
abbrev joined : Chain → ℕ → JoinedChain
joined chain rank = queue chain 1 (queued_up rank) 1 3

abbrev both : JoinedChain
both = queue Chain.Entry 2 (queued_up 1) 1 3

-- what a fresh table is answered, of so many threads and objects, the first two threads being given these ranks
abbrev asked : ℕ → ℕ → ℕ → ℕ → Result Table FreshRefusal
asked threads objects first second = fresh_of (request_of threads objects false (record { rank = first } ∷ record { rank = second } ∷ []))

-- a queued exit of rank 2
abbrev leaving : ThreadRecord
leaving = with_phase (with_rank no_thread 2) (Queued ToTell)

pub record RankExamples : Type 0 where
  -- rank 1 comes between 2 and 0
  pub in_between : (thread_at (joined Chain.Entry 1).table 1).next ≡ 3
  pub before_lower : (thread_at (joined Chain.Entry 1).table 3).next ≡ 2
  pub still_first : (joined Chain.Entry 1).first ≡ 1
  -- rank 2 comes behind the other 2, rank 3 in front
  pub behind_equal : (thread_at (joined Chain.Entry 2).table 1).next ≡ 3
  pub in_front : (joined Chain.Entry 3).first ≡ 3
  -- the contention chain is by time alone
  pub by_time : (thread_at (joined Chain.Contention 3).table 2).next ≡ 3
  -- two that move join in turn: rank 1, then rank 2 behind the first
  pub in_turn : (thread_at both.table 1).next ≡ 4
  pub in_turn_last : (thread_at both.table 4).next ≡ 3
  -- a thread keeps its rank when it is idle again, also when it is let out
  pub idle_keeps : (idle leaving).rank ≡ 2
  pub let_out_keeps : (let_out leaving true).rank ≡ 2
  -- 27 for a rank above 3, but not past T, and after 22
  pub too_high : asked 2 1 0 4 ≡ Err RankOutOfRange
  pub unread : fresh_returned (asked 1 1 3 4) ≡ 0
  pub size_first : asked 2 0 0 4 ≡ Err SizeOutOfRange
  -- behind a queued thread of rank 1 one of rank 1 may stand, and none of rank 2
  pub falls : falls_behind (with_phase (with_rank no_thread 1) (Queued ToCheck)) 1 ≡ true
  pub rises : falls_behind (with_phase (with_rank no_thread 1) (Queued ToCheck)) 2 ≡ false
