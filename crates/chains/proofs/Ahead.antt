-- Who is ahead of whom in a list in falling rank: whoever joins it by rank comes ahead of those alone that have a lower rank, and whoever drops out lets
-- nobody pass.
use Prim.Native.Nat.{ℕ, ◌≤◌, ◌<◌}
use mathlib.Core.Path.{◌≡◌, sym, subst}
use mathlib.Core.Logic.{◌≢◌, ◌⊎◌, inl, inr}
use mathlib.Core.Bool.{Bool, true, false}
use mathlib.Core.List.{List, [], ◌∷◌}
use native.Mathlib.Omega.{arith}
use lib.Dec.{leb}
use Rattle.laws.specs.{Choice.pick, Count.count, Filter.failing}
use Rattle.laws.proofs.Choice.{either_way, equal?, AtMost, at_most}
use Rattle.laws.proofs.Count.{count_none, count_same, count_other, count_more}
use Rattle.laws.proofs.Filter.{count_parted}
use Rattle.chains.specs.Chain.{Ahead}
use Rattle.chains.proofs.Queue.{insert, queue_by, count_insert}
use Rattle.chains.proofs.Falling.{Falling, by_rank, falling_insert}

module _ (m a : ℕ) where
  -- who is behind somebody is in the list
  pub ahead_inside : (list : List ℕ) → Ahead m a list → 0 < count a list
  ahead_inside [] ahead = absurd ahead
  ahead_inside (x ∷ rest) (inl (e, behind)) = omega (arith, behind, count_more a x rest)
  ahead_inside (x ∷ rest) (inr ahead) = omega (arith, ahead_inside rest ahead, count_more a x rest)

  -- some drop out
  pub ahead_failing : (test : ℕ → Bool) (list : List ℕ) → Ahead m a (failing test list) → Ahead m a list
  ahead_failing test [] ahead = ahead
  ahead_failing test (x ∷ rest) ahead = at (test x) (ahead_failing test rest) ahead
    where
      at : (b : Bool) → (Ahead m a (failing test rest) → Ahead m a rest) → Ahead m a (pick b (failing test rest) (x ∷ failing test rest)) → Ahead m a (x ∷ rest)
      at true later ahead = inr (later ahead)
      at false later (inl (e, behind)) = inl (e, omega (arith, behind, count_parted test rest a))
      at false later (inr ahead) = inr (later ahead)

  module _ (rank : ℕ → ℕ) where
    -- the rank says so
    pub ahead_falls : (list : List ℕ) → Falling rank list → Ahead m a list → rank a ≤ rank m
    ahead_falls [] falls ahead = absurd ahead
    ahead_falls (x ∷ rest) falls (inl (e, behind)) = subst (λ k. rank a ≤ rank k) e (falls.0 a behind)
    ahead_falls (x ∷ rest) falls (inr ahead) = ahead_falls rest falls.1 ahead

    -- m was ahead already, or is of a higher rank
    abbrev pub Rightly : List ℕ → Type 0
    Rightly list = Ahead m a list ⊎ (rank a < rank m)

    -- one who joins
    ahead_insert : (n : ℕ) (list : List ℕ) → n ≢ a → Falling rank list → Ahead m a (insert (λ x. by_rank rank x n) n list) → Rightly list
    ahead_insert n [] other falls (inl (e, behind)) = absurd (omega (arith, behind, count_none a))
    ahead_insert n [] other falls (inr ahead) = absurd ahead
    ahead_insert n (x ∷ rest) other falls ahead = at (leb (rank n) (rank x)) (at_most (rank n) (rank x)) (ahead_insert n rest other falls.1) ahead
      where
        onward : Rightly rest → Rightly (x ∷ rest)
        onward (inl ahead) = inl (inr ahead)
        onward (inr higher) = inr higher

        at : (b : Bool) → AtMost b (rank n) (rank x) → (Ahead m a (insert (λ y. by_rank rank y n) n rest) → Rightly rest)
            → Ahead m a (pick b (x ∷ insert (λ y. by_rank rank y n) n rest) (n ∷ (x ∷ rest))) → Rightly (x ∷ rest)
        at true low later (inl (e, behind)) =
            inl (inl (e, omega (arith, behind, count_insert (λ y. by_rank rank y n) n rest a, count_other a n rest (λ q. other (sym q)))))
        at true low later (inr ahead) = onward (later ahead)
        at false high later (inl (e, behind)) =
            inr
            (subst (λ k. rank a < rank k) e
            (either_way (equal? a x) (λ same. subst (λ k. rank k < rank n) (sym same) high)
            (λ away. omega (arith, high, falls.0 a (omega (arith, behind, count_other a x rest away))))))
        at false high later (inr ahead) = inl ahead

    -- several, one after the other
    pub ahead_queue : (list moved : List ℕ) → count a moved ≡ 0 → Falling rank list → Ahead m a (queue_by (by_rank rank) list moved) → Rightly list
    ahead_queue list [] none falls ahead = inl ahead
    ahead_queue list (n ∷ moved) none falls ahead =
        onward
        (ahead_queue (insert (λ x. by_rank rank x n) n list) moved (omega (arith, none, count_more a n moved)) (falling_insert rank n list falls) ahead)
      where
        other : n ≢ a
        other e = omega (arith, subst (λ k. count a (k ∷ moved) ≡ 0) e none, count_same a moved)

        onward : Rightly (insert (λ x. by_rank rank x n) n list) → Rightly list
        onward (inl joined) = ahead_insert n list other falls joined
        onward (inr higher) = inr higher
