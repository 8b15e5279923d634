-- All chains of a table at once, by any numbering of them: every thread is in one chain at most.
-- Here c and d are chain numbers, n and x threads.
use Prim.Native.Nat.{ℕ, ◌<◌}
use mathlib.Core.Path.{◌≡◌}
use mathlib.Core.Logic.{◌≢◌}
use mathlib.Core.List.{List, []}
use native.Mathlib.Omega.{arith}
use Rattle.laws.specs.Count.{count}
use Rattle.laws.proofs.Count.{count_none}
use Rattle.chains.proofs.Listed.{Chain, chain_without_zero}

-- no thread is in two of the lists
abbrev pub Apart : (ℕ → List ℕ) → Type 0
Apart list = (c d n : ℕ) → 0 < count n (list c) → 0 < count n (list d) → c ≡ d

-- chain c starts at `first c` and has the threads `list c`; no thread is in two chains; the next index of a thread in none is 0
pub record Chains (next first : ℕ → ℕ) (list : ℕ → List ℕ) : Type 0 where
  pub chain : (c : ℕ) → Chain next (first c) (list c)
  pub apart : Apart list
  pub loose : (n : ℕ) → ((c : ℕ) → count n (list c) ≡ 0) → next n ≡ 0

-- the same while the threads of a list are aside: in no chain, with any next indexes
pub record Aside (next first : ℕ → ℕ) (list : ℕ → List ℕ) (moved : List ℕ) : Type 0 where
  pub chain : (c : ℕ) → Chain next (first c) (list c)
  pub apart : Apart list
  pub out : (n c : ℕ) → 0 < count n moved → count n (list c) ≡ 0
  pub loose : (n : ℕ) → ((c : ℕ) → count n (list c) ≡ 0) → count n moved ≡ 0 → next n ≡ 0

-- threads that are in no chain are aside
pub chains_aside : (next first : ℕ → ℕ) (list : ℕ → List ℕ) (moved : List ℕ) → Chains next first list
    → ((n c : ℕ) → 0 < count n moved → count n (list c) ≡ 0) → Aside next first list moved
chains_aside next first list moved chains out =
    record { chain = chains.chain; apart = chains.apart; out = out; loose = λ n none also. chains.loose n none }

-- with nobody aside these are all
pub none_aside : (next first : ℕ → ℕ) (list : ℕ → List ℕ) → Aside next first list [] → Chains next first list
none_aside next first list aside = record { chain = aside.chain; apart = aside.apart; loose = λ n none. aside.loose n none (count_none n) }

-- what is in list c is in no other
pub others : (list : ℕ → List ℕ) → Apart list → (c d n : ℕ) → d ≢ c → 0 < count n (list c) → count n (list d) ≡ 0
others list apart c d n away h = let never : 0 < count n (list d) → ⊥ = λ k. away (apart d c n k h) in omega arith

-- 0 is in no chain, so its next index is 0
pub chains_zero : (next first : ℕ → ℕ) (list : ℕ → List ℕ) → Chains next first list → next 0 ≡ 0
chains_zero next first list chains = chains.loose 0 (λ c. chain_without_zero next (first c) (list c) (chains.chain c))
