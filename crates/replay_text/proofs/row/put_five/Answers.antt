use Rattle.replay_text.specs.Row.{five_text}
use Rattle.replay_text.proofs.Stores.{wrote_both}
use Rattle.replay_text.proofs.row.put_five.Goals as goal

pub returns-clause-wrote : goal.returns-clause-wrote
unfolding five_text
returns-clause-wrote c =
    wrote_both c.put_field-second.ensures.wrote
    (wrote_both c.put_field-third.ensures.wrote
    (wrote_both c.put_field-fourth.ensures.wrote (wrote_both c.put_field-fifth.ensures.wrote c.put_field.ensures.wrote)))
