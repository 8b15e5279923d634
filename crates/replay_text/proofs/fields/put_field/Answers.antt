use Rattle.replay_text.specs.Text.{field_text}
use Rattle.replay_text.proofs.Stores.{wrote_both}
use Rattle.replay_text.proofs.fields.put_field.Goals as goal

pub returns-clause-wrote : goal.returns-clause-wrote
unfolding field_text
returns-clause-wrote c = wrote_both c.put_decimal-behind.ensures c.put_byte.ensures
