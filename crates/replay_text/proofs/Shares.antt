-- A share and its remainder give back the figure.
use Prim.Native.Nat.{ℕ, ◌*◌}
use mathlib.Core.Path.{refl}
use native.Mathlib.Omega.{arith}
use native.Mathlib.Nat.{div-add-mod', mod-lt}
use borrow.Author.Tests.{ne_eqb}
use Rattle.replay_text.specs.Row.{whole_share, share, remainder, SharesRight}

-- WHAT SHARES AND REMAINDERS ARE, WHETHER AN ENTER FINISHED OR NONE
pub shares_right : (figure sum : ℕ) → SharesRight figure sum
unfolding share remainder
shares_right figure sum =
    record {
      exact = λ some. rw (ne_eqb sum 0 (λ none. omega arith)) (div-add-mod' (whole_share * figure) sum);
      rounded_down = λ some. rw (ne_eqb sum 0 (λ none. omega arith)) (mod-lt (whole_share * figure) {m = sum} some);
      no_share = λ none. rw none refl;
      no_remainder = λ none. rw none refl;
    }
