-- The record's own bytes are those of the whole from its place on.
use mathlib.Core.Path.{ap, ◌∙◌}
use Rattle.table_bytes.proofs.Rows.{numbers_at}
use Rattle.table_bytes.proofs.records.record_at.Goals as goal

pub returns : goal.returns
returns g c =
    c.from_bytes.ensures
    ∙ ap g.T.Stored.said
    (numbers_at g.T.Stored.layout _ c.args.start c.args.place c.stored_at.result.now c.args.bytes.now g.met.T.Stored.sized c.stored_at.ensures)
