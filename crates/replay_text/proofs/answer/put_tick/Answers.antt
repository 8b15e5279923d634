use Rattle.replay_text.specs.Text.{tick_line}
use Rattle.replay_text.proofs.Stores.{wrote_both}
use Rattle.replay_text.proofs.answer.put_tick.Goals as goal

pub returns : goal.returns
unfolding tick_line
returns c = rw (← c.from.ensures) (wrote_both c.put_field-second.ensures.wrote c.put_hexadecimal.ensures)
