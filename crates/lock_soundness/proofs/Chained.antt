-- The test of a chain read as facts: where its links lead, and what holds of its threads.
use Prim.Native.Nat.{ℕ, zero, suc, ◌≤◌, ◌<◌}
use mathlib.Core.Path.{◌≡◌, refl}
use mathlib.Core.Bool.{Bool, true, false}
use mathlib.Core.List.{List, [], ◌∷◌}
use native.Mathlib.Omega.{arith}
use lib.Dec.{eqb}
use lib.ListN.{length}
use Rattle.laws.specs.{Choice.pick, Count.count}
use Rattle.laws.proofs.Choice.{Equal, equal}
use Rattle.chains.specs.Chain.{members, chain_test}
use Rattle.chains.proofs.Listed.{Chain, chain_without_zero}
use Rattle.chains.proofs.Test.{chain_test_reads, chain_test_of}
use Rattle.laws.proofs.Facts.{Reads}

-- the thread that so many links lead to
unfoldable pub follow : ℕ → (ℕ → ℕ) → ℕ → ℕ
follow zero next n = n
follow (suc links) next n = follow links next (next n)

-- from 0 all links lead to 0
pub follow_none : (links : ℕ) (next : ℕ → ℕ) → next 0 ≡ 0 → follow links next 0 ≡ 0
unfolding follow
follow_none zero next none = refl
follow_none (suc links) next none = rw none (follow_none links next none)

-- a chain that ends leads to 0
pub chain_leads : (links : ℕ) (next : ℕ → ℕ) (first : ℕ) (list : List ℕ) → next 0 ≡ 0 → Chain next first list → length list ≤ links
    → follow links next first ≡ 0
unfolding follow
chain_leads links next first [] none chain short = rw chain (follow_none links next none)
chain_leads zero next first (x ∷ rest) none chain short = absurd (omega (arith, short))
chain_leads (suc links) next first (x ∷ rest) none chain short = rw chain.0 (chain_leads links next (next x) rest none chain.2 (omega (arith, short)))

-- and where links lead to 0 there is a chain that ends
pub leads_chain : (links : ℕ) (next : ℕ → ℕ) (first : ℕ) → follow links next first ≡ 0 → Chain next first (members links next first)
unfolding follow members
leads_chain zero next first leads = leads
leads_chain (suc links) next first leads = at (eqb first 0) (equal first 0) (leads_chain links next (next first) leads)
  where
    at : (none : Bool) → Equal none first 0 → Chain next (next first) (members links next (next first))
        → Chain next first (pick none [] (first ∷ members links next (next first)))
    at true e behind = e
    at false e behind = (refl, e, behind)

pub members_short : (fuel : ℕ) (next : ℕ → ℕ) (first : ℕ) → length (members fuel next first) ≤ fuel
unfolding members
members_short zero next first = omega arith
members_short (suc fuel) next first = at (eqb first 0) (members_short fuel next (next first))
  where
    at : (none : Bool) → length (members fuel next (next first)) ≤ fuel → length (pick none [] (first ∷ members fuel next (next first))) ≤ suc fuel
    at true later = omega arith
    at false later = omega (arith, later)

module _ (fuel : ℕ) (next : ℕ → ℕ) (first : ℕ) where
  -- what holds of each thread in the chain
  abbrev pub Members : (ℕ → Type 0) → Type 0
  Members Fact = (n : ℕ) → 0 < count n (members fuel next first) → Fact n

  -- the test read as facts
  pub reads_chain : (ok : ℕ → Bool) {P : ℕ → Type 0} → next 0 ≡ 0 → ((n : ℕ) → Reads (ok n) (P n))
      → Reads (chain_test fuel next ok first) ((follow fuel next first ≡ 0) × Members P)
  reads_chain ok none known =
      record {
        read = λ e.
            let passes = chain_test_reads fuel next ok first e in
            (chain_leads fuel next first (members fuel next first) none passes.chain passes.short, λ n h. (known n).read (passes.good n h));
        make = λ (leads, good).
            chain_test_of fuel next ok first (members fuel next first)
            (record {
              chain = leads_chain fuel next first leads;
              short = members_short fuel next first;
              good = λ n h. (known n).make (good n h);
            });
      }

  -- no member is 0, the number that ends a chain
  pub members_real : follow fuel next first ≡ 0 → Members (λ n. 1 ≤ n)
  members_real leads zero h = absurd (omega (arith, chain_without_zero next first (members fuel next first) (leads_chain fuel next first leads), h))
  members_real leads (suc n) h = omega arith
