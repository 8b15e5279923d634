use Rattle.replay_text.specs.Row.{row_text}
use Rattle.replay_text.proofs.Stores.{wrote_both}
use Rattle.replay_text.proofs.row.put_row_text.Goals as goal

pub returns : goal.returns
unfolding row_text
returns c =
    rw (
      ← c.from.ensures,
      ← c.figures_sum-sum.ensures,
      ← c.figure_fields.ensures,
      ← c.share_fields.ensures,
      ← c.remainder_fields.ensures,
    )
    (wrote_both c.put_field-first.ensures.wrote
    (wrote_both c.put_five-shares.ensures.wrote (wrote_both c.put_five-remainders.ensures.wrote c.put_five.ensures.wrote)))
