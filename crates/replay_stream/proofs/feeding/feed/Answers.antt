use Rattle.std.proofs.Common.{sym, ◌∙◌}
use Rattle.laws.proofs.Choice.{false≢true}
use Rattle.replay_stream.proofs.feeding.feed.Goals as goal

pub returns : goal.returns
returns c = c.feed_lines.ensures _ (λ ends room. false≢true (sym c.if-last.false ∙ ends))
