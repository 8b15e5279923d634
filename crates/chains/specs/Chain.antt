-- Chains of threads: a first thread followed by next indexes; zero ends the chain (document 01, "The table").
-- A walk follows at most `fuel` links: to a chain that ends within them, more fuel makes no difference.
use Rattle.std.specs.Prelude.{ℕ, zero, suc, ◌<◌, ◌≡◌, ◌⊎◌, Bool, true, false, List, [], ◌∷◌, eqb, length}
use Rattle.laws.specs.Choice.{pick}
use Rattle.laws.specs.Count.{count}

-- the chain's threads, in order
unfoldable pub members : ℕ → (ℕ → ℕ) → ℕ → List ℕ
members zero next first = []
members (suc fuel) next first = pick (eqb first 0) [] (first ∷ members fuel next (next first))

-- how many threads the chain has
abbrev pub chain_length : ℕ → (ℕ → ℕ) → ℕ → ℕ
chain_length fuel next first = length (members fuel next first)

-- the chain ends within `fuel` links, and each of its threads passes `ok`
unfoldable pub chain_test : ℕ → (ℕ → ℕ) → (ℕ → Bool) → ℕ → Bool
chain_test zero next ok first = eqb first 0
chain_test (suc fuel) next ok first = pick (eqb first 0) true (pick (ok first) (chain_test fuel next ok (next first)) false)

-- thread n is in the chain
unfoldable pub in_chain : ℕ → (ℕ → ℕ) → ℕ → ℕ → Bool
in_chain zero next n first = false
in_chain (suc fuel) next n first = pick (eqb first 0) false (pick (eqb first n) true (in_chain fuel next n (next first)))

-- m is in the list, and n behind it
abbrev pub Ahead : ℕ → ℕ → List ℕ → Type 0
Ahead m n [] = ⊥
Ahead m n (x ∷ rest) = ((x ≡ m) × (0 < count n rest)) ⊎ Ahead m n rest
