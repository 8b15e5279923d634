use Rattle.std.proofs.Common.{ℕ, ◌+◌, sym, ap, ◌∙◌, arith}
use native.Mathlib.Nat.{mod-lt}
use Rattle.replay_text.proofs.Stores.{digits_length, digits_turn, digits_done}
use Rattle.replay_text.proofs.digits.put_digits.Goals as goal

pub digit_byte-requires : goal.digit_byte-requires
digit_byte-requires c = omega (arith, mod-lt c.loop-place.rest {m = c.args.base} c.requires.0)

pub loop-place-preserved : goal.loop-place-preserved
loop-place-preserved c =
    let loop = c.loop-place in
    rw c.digit_byte.ensures (sym (digits_turn loop.place c.args.at c.args.base loop.rest loop.out c.loop-place-test.true) ∙ loop.invariant)

pub returns : goal.returns
returns c =
    let loop = c.loop-place in
    record {
      place = ap (λ (n : ℕ). c.args.at + n) (sym (digits_length c.args.base c.args.width c.args.number));
      bytes = sym (digits_done loop.place c.args.at c.args.base loop.rest loop.out c.loop-place-test.false) ∙ loop.invariant;
    }
