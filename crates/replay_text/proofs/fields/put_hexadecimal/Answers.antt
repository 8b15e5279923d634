use Rattle.replay_text.specs.Text.{hexadecimal_text}
use Rattle.replay_text.proofs.Stores.{wrote_both}
use Rattle.replay_text.proofs.fields.put_hexadecimal.Goals as goal

pub returns : goal.returns
unfolding hexadecimal_text
returns c = wrote_both c.put_digits-behind.ensures c.put_byte.ensures
