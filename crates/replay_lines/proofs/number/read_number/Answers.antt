use Rattle.std.proofs.Common.{sym, ◌∙◌}
use Rattle.replay_lines.proofs.Fields.{number_none, number_more}
use Rattle.replay_lines.proofs.number.read_number.Goals as goal

pub returns-then-not-is_ascii_digit : goal.returns-then-not-is_ascii_digit
returns-then-not-is_ascii_digit c =
    number_none c.in_ok-first.ensures.cases.0 c.if-first-eq-DIGIT_ZERO.false (sym c.if-not-is_ascii_digit.ensures.value)

pub returns : goal.returns
returns c =
    c.read_digits.ensures
    ∙ number_more c.in_ok-first.ensures.cases.0 c.if-first-eq-DIGIT_ZERO.false (sym c.if-not-is_ascii_digit.ensures.value)
