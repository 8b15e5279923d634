use Rattle.replay_text.specs.Text.{answer_line}
use Rattle.replay_text.proofs.Stores.{wrote_both}
use Rattle.replay_text.proofs.answer.put_fields.Goals as goal

pub returns : goal.returns
unfolding answer_line
returns c =
    rw (← c.from.ensures, ← c.from-2.ensures, ← c.from-3.ensures)
    (wrote_both c.put_field-second.ensures.wrote
    (wrote_both c.put_field-third.ensures.wrote
    (wrote_both c.put_field-fourth.ensures.wrote (wrote_both c.put_hexadecimal-fifth.ensures c.put_hexadecimal.ensures))))
