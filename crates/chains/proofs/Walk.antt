-- A walk along a chain that changes each member's record once, and no other.
use Prim.Native.Nat.{ℕ, zero, suc, ◌≤◌}
use mathlib.Core.Path.{◌≡◌, ◌∙◌}
use mathlib.Core.List.{List, [], ◌∷◌}
use native.Mathlib.Omega.{arith}
use lib.Dec.{eqb}
use lib.ListN.{length}
use borrow.Author.Tests.{eq-eqb, ne_eqb}
use Rattle.laws.specs.{Choice.pick, Update.update, Count.count}
use Rattle.laws.proofs.Choice.{either_way, equal?}
use Rattle.laws.proofs.Update.{update_same, update_other}
use Rattle.laws.proofs.Count.{count_none, count_same, count_other}
use Rattle.chains.proofs.Listed.{Chain, chain_first_once}

-- each member's record is changed, from the first on
unfoldable pub walk : {A : Type 0} → ℕ → (ℕ → ℕ) → (A → A) → (ℕ → A) → ℕ → ℕ → A
walk zero next change records first = records
walk (suc fuel) next change records first =
    pick (eqb first 0) records (walk fuel next change (update records first (change (records first))) (next first))

-- a value changed, once, if counted at all
abbrev pub if_counted : {A : Type 0} → ℕ → (A → A) → A → A
if_counted zero change value = value
if_counted (suc k) change value = change value

-- what stands in each record after the walk
pub walk_changes : {A : Type 0} (fuel : ℕ) (next : ℕ → ℕ) (change : A → A) (records : ℕ → A) (first : ℕ) (list : List ℕ) → Chain next first list
    → length list ≤ fuel → (n : ℕ) → walk fuel next change records first n ≡ if_counted (count n list) change (records n)
unfolding walk
walk_changes zero next change records first [] chain short n = rw (count_none n)
walk_changes (suc fuel) next change records first [] chain short n = rw (eq-eqb first 0 chain, count_none n)
walk_changes zero next change records first (x ∷ rest) chain short n = absurd (omega arith)
walk_changes (suc fuel) next change records first (x ∷ rest) chain short n =
    rw (chain.0, ne_eqb x 0 chain.1)
    (walk_changes fuel next change (update records x (change (records x))) (next x) rest chain.2 (omega arith) n
    ∙ either_way (equal? n x) (λ e. rw (e, count_same x rest, chain_first_once next first x rest chain, update_same records x (change (records x))))
    (λ away. rw (count_other n x rest away, update_other records x (change (records x)) n away)))
