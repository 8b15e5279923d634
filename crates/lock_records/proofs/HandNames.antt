-- Whom a hand names: the set of the first thread of a chain is that thread, and empty where the chain is.
use Prim.Native.Nat.{ℕ}
use mathlib.Core.Path.{◌≡◌, refl, ◌∙◌}
use mathlib.Core.List.{List, [], ◌∷◌}
use native.Mathlib.Omega.{arith}
use borrow.Author.Tests.{eq-eqb, ne_eqb}
use Rattle.laws.specs.Count.{count}
use Rattle.laws.proofs.Choice.{either_way, equal?}
use Rattle.laws.proofs.Count.{count_none, count_same, count_other}
use Rattle.chains.proofs.Listed.{head}
use Rattle.lock_rules.specs.PlainMonitor.{above_zero}
use Rattle.lock_rules.specs.declared.Taken.TheVariants.{First}
use Rattle.lock_rules.proofs.Perform.{taken}
use Rattle.lock_perform.specs.ThreadSet.{thread_set, has_thread}
use Rattle.lock_perform.proofs.ThreadSets.{has_none, has_one, nobody_set}
use Rattle.lock_records.proofs.Moves.{Inside}

pub hand_names : (list : List ℕ) → Inside list → (n : ℕ) → has_thread (thread_set (head list)) n ≡ above_zero (count n (taken First list))
hand_names [] inside n = rw (nobody_set, has_none n, count_none n) refl
hand_names (x ∷ rest) inside n =
    let (low, high) = inside x (omega (arith, count_same x rest)) in
    has_one x n low high
    ∙ either_way (equal? n x) (λ e. rw (e, eq-eqb x x refl, count_same x []) refl)
    (λ away. rw (ne_eqb n x away, count_other n x [] away, count_none n) refl)
