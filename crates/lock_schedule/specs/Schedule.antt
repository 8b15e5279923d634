-- A schedule is a list of events, refused ones too; each gets the table that the last one gave back (document 01, "Plain monitors").
use Rattle.std.specs.Prelude.{Bool, List, [], ◌∷◌}
use Rattle.lock_rules.specs.declared.event.Event.{Event}
use Rattle.lock_rules.specs.Events.{Reply as ShownReply, Accepted as ShownAccepted, Refused as ShownRefused, Answered as ShownAnswered, Shown}
use Rattle.lock_rules.specs.Numbers.{refusal_number}
use Rattle.lock_table.specs.declared.record.Table.{Table}
use Rattle.lock_engine.specs.Handle.{handle}
use Rattle.lock_engine.specs.declared.outcome.Reply.{Reply}
use Rattle.lock_engine.specs.declared.outcome.Reply.TheVariants.{Accepted, Refused, Answered}

-- what of an outcome the plain monitors are shown: the reply, with its number, and the mark (c); of the table, nothing
abbrev pub reply_shown : Reply → Bool → ShownReply
reply_shown Accepted commits = ShownAccepted
reply_shown (Refused refusal) commits = ShownRefused (refusal_number refusal)
reply_shown (Answered answer) commits = ShownAnswered answer commits

-- the table after a schedule
abbrev pub final_of : Table → List Event → Table
final_of table [] = table
final_of table (event ∷ rest) = final_of (handle table event).table rest

-- what a schedule shows
abbrev pub shown_of : Table → List Event → List Shown
shown_of table [] = []
shown_of table (event ∷ rest) =
    let outcome = handle table event in
    record { event = event; reply = reply_shown outcome.reply outcome.commits } ∷ shown_of outcome.table rest
