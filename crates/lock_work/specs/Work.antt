-- What an event leaves to be done to the table besides its two records: a rule's work on the chains of its object, or a tick's on every waiting chain.
use Rattle.std.specs.Prelude.{ℕ, Bool, false}
use Rattle.lock_rules.specs.declared.ChainWork.{ChainWork}
use Rattle.lock_table.specs.declared.record.ThreadRecord.{ThreadRecord}
use Rattle.lock_table.specs.declared.record.ObjectRecord.{ObjectRecord}
use Rattle.lock_table.specs.declared.record.Table.{Table}
use Rattle.lock_perform.specs.Moving.{carry_out}
use Rattle.lock_perform.specs.Perform.{stays, worked}
use Rattle.lock_work.specs.Tick.{tick}
use Rattle.lock_work.specs.declared.settling.Work.{Work}
use Rattle.lock_work.specs.declared.settling.Work.TheVariants.{Chains, Tick}
use Rattle.lock_work.specs.WorkDone.{WorkDone}

-- whether the two records of the event are all that it changes
unfoldable pub work_stays : Work → Bool
work_stays (Chains work) = stays work
work_stays Tick = false

-- a rule's work done and the two records written, and whom it unparked
abbrev pub chains_done : Table → ℕ → ℕ → ThreadRecord → ObjectRecord → ChainWork → WorkDone
chains_done table thread number own object work =
    record { table = worked table thread number own object work; unparked = (carry_out table object.monitor work thread number).unparked }

-- the work of an event that leaves some
unfoldable pub work_done : Work → Table → ℕ → ℕ → ThreadRecord → ObjectRecord → WorkDone
work_done (Chains work) table thread number own object = chains_done table thread number own object work
work_done Tick table thread number own object = tick table
