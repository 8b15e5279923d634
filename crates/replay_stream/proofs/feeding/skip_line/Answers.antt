use Rattle.std.proofs.Common.{sym, ◌∙◌}
use Rattle.replay_parts.proofs.Taken.{skipped_part, skipped_line}
use Rattle.replay_stream.proofs.feeding.skip_line.Goals as goal

pub returns-then-end-ne0 : goal.returns-then-end-ne0
returns-then-end-ne0 c =
    rw c.progressed.ensures (λ last goes_on. skipped_line _ _ _ _ c.line_end-end.ensures c.if-end-ne0.true)

pub returns : goal.returns
returns c = λ last goes_on. skipped_part _ _ _ _ (sym c.line_end-end.ensures ∙ c.if-end-ne0.false) goes_on
