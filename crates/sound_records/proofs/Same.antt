-- Tests joined by `&&`, as a derived comparison joins its fields', and by `both`.
use mathlib.Core.Path.{◌≡◌, refl}
use mathlib.Core.Bool.{Bool, true, false, not, beq, ◌&&◌}
use Rattle.laws.specs.Choice.{both}

pub and_both : (a b : Bool) → (a && b) ≡ both a b
and_both true b = refl
and_both false b = refl

-- a flag that is down, told behind a test and before it
pub flag_down : (a flag : Bool) → both a (beq flag false) ≡ both (not flag) a
flag_down true true = refl
flag_down true false = refl
flag_down false true = refl
flag_down false false = refl
