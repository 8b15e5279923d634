use Rattle.std.proofs.Common.{sym, ◌∙◌}
use Rattle.replay_lines.proofs.LineEnd.{end_position}
use Rattle.replay_lines.proofs.cutting.line_end.Goals as goal

pub returns-in-Some : goal.returns-in-Some
returns-in-Some c = end_position c.args.input.now _ (sym c.in-Some.is ∙ c.first_newline.ensures)

pub returns-in-None : goal.returns-in-None
returns-in-None c = end_position c.args.input.now _ (sym c.in-None.is ∙ c.first_newline.ensures)
