-- Owner and depth, given together: the owner is the one that the rules see, and where nobody owns the depth is 0.
use Prim.Native.Nat.{ℕ}
use mathlib.Core.Path.{◌≡◌, refl, sym}
use mathlib.Core.Bool.{Bool, true, false}
use lib.Dec.{eqb}
use Rattle.laws.specs.Choice.{pick}
use Rattle.laws.proofs.Choice.{Equal, equal}
use Rattle.lock_word.specs.Meaning.{unowned, owned_by}

-- the owner, whatever the depth
pub owner_owned : (owner depth : ℕ) → (owned_by owner depth).thread ≡ owner
unfolding owned_by
owner_owned owner depth = at (eqb owner 0) (equal owner 0)
  where
    at : (none : Bool) → Equal none owner 0 → (pick none unowned (record { thread = owner; depth = depth })).thread ≡ owner
    at true e = sym e
    at false e = refl

-- owner and depth as they are, if there is no depth without an owner
pub owned_both : (owner depth : ℕ) → (owner ≡ 0 → depth ≡ 0) → owned_by owner depth ≡ record { thread = owner; depth = depth }
unfolding owned_by
owned_both owner depth none_deep = at (eqb owner 0) (equal owner 0)
  where
    at : (none : Bool) → Equal none owner 0 → pick none unowned (record { thread = owner; depth = depth }) ≡ record { thread = owner; depth = depth }
    at true e = λ j. record { thread = sym e j; depth = sym (none_deep e) j }
    at false e = refl

-- where nobody owns, nobody is in
pub unowned_shallow : (owner depth : ℕ) → (owned_by owner depth).thread ≡ 0 → (owned_by owner depth).depth ≡ 0
unfolding owned_by
unowned_shallow owner depth = at (eqb owner 0) (equal owner 0)
  where
    at : (none : Bool) → Equal none owner 0
        → (pick none unowned (record { thread = owner; depth = depth })).thread ≡ 0
        → (pick none unowned (record { thread = owner; depth = depth })).depth ≡ 0
    at true e zero = refl
    at false e zero = absurd (e zero)
