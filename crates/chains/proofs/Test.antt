-- The tests of a chain, read as facts about the list of its threads, and made from them.
use Prim.Native.Nat.{ℕ, zero, suc, ◌≤◌, ◌<◌}
use mathlib.Core.Path.{◌≡◌, refl, sym, ap, ◌∙◌}
use mathlib.Core.Logic.{◌≢◌}
use mathlib.Core.Bool.{Bool, true, false}
use mathlib.Core.List.{List, [], ◌∷◌}
use native.Mathlib.Omega.{arith}
use lib.Dec.{eqb, ltb}
use lib.ListN.{length}
use borrow.Author.Tests.{eq-eqb, ne_eqb, eqb-true, lt-ltb, le-ltb}
use Rattle.laws.specs.{Choice.pick, Count.count}
use Rattle.laws.proofs.Choice.{either_way, false≢true, equal?, Equal, equal}
use Rattle.laws.proofs.Count.{count_none, count_same, count_other}
use Rattle.chains.specs.Chain.{members, chain_test, in_chain}
use Rattle.chains.proofs.Listed.{Chain}

-- the chain is this list, it ends within `fuel` links, and each of its threads passes `ok`
pub record Passes (fuel : ℕ) (next : ℕ → ℕ) (ok : ℕ → Bool) (first : ℕ) (list : List ℕ) : Type 0 where
  pub chain : Chain next first list
  pub short : length list ≤ fuel
  pub good : (n : ℕ) → 0 < count n list → ok n ≡ true

-- an empty chain passes
no_thread : (fuel : ℕ) (next : ℕ → ℕ) (ok : ℕ → Bool) (first : ℕ) → first ≡ 0 → Passes fuel next ok first []
no_thread fuel next ok first e = record { chain = e; short = omega arith; good = λ n h. absurd (omega (arith, count_none n)) }

-- one more thread that passes, in front
one_more : (fuel : ℕ) (next : ℕ → ℕ) (ok : ℕ → Bool) (first : ℕ) (rest : List ℕ) → first ≢ 0 → ok first ≡ true → Passes fuel next ok (next first) rest
    → Passes (suc fuel) next ok first (first ∷ rest)
one_more fuel next ok first rest real passed passes =
    record {
      chain = (refl, real, passes.chain);
      short = omega (arith, passes.short);
      good = λ n h. either_way (equal? n first) (λ e. rw e passed) (λ away. passes.good n (omega (arith, count_other n first rest away)));
    }

-- a chain that passes its test has these members
pub chain_test_reads : (fuel : ℕ) (next : ℕ → ℕ) (ok : ℕ → Bool) (first : ℕ) → chain_test fuel next ok first ≡ true
    → Passes fuel next ok first (members fuel next first)
unfolding chain_test members
chain_test_reads zero next ok first passed = no_thread zero next ok first (eqb-true first 0 passed)
chain_test_reads (suc fuel) next ok first passed =
    at (eqb first 0) (equal first 0) (ok first) refl passed (chain_test_reads fuel next ok (next first))
  where
    at : (b : Bool) → Equal b first 0 → (good : Bool) → ok first ≡ good
        → pick b true (pick good (chain_test fuel next ok (next first)) false) ≡ true
        → (chain_test fuel next ok (next first) ≡ true → Passes fuel next ok (next first) (members fuel next (next first)))
        → Passes (suc fuel) next ok first (pick b [] (first ∷ members fuel next (next first)))
    at true e good g passed later = no_thread (suc fuel) next ok first e
    at false e true g passed later = one_more fuel next ok first (members fuel next (next first)) e g (later passed)
    at false e false g passed later = false≢true passed

-- and a chain with such members passes
pub chain_test_of : (fuel : ℕ) (next : ℕ → ℕ) (ok : ℕ → Bool) (first : ℕ) (list : List ℕ) → Passes fuel next ok first list
    → chain_test fuel next ok first ≡ true
unfolding chain_test count
chain_test_of zero next ok first [] passes = eq-eqb first 0 passes.chain
chain_test_of (suc fuel) next ok first [] passes = rw (eq-eqb first 0 passes.chain)
chain_test_of zero next ok first (x ∷ rest) passes = absurd (omega (arith, passes.short))
chain_test_of (suc fuel) next ok first (x ∷ rest) passes =
    let (same, real, behind) = passes.chain in
    rw (same, ne_eqb x 0 real, passes.good x (omega (arith, count_same x rest)))
    (chain_test_of fuel next ok (next x) rest
    (record { chain = behind; short = omega (arith, passes.short); good = λ n h. passes.good n (omega arith) }))

-- the walk that looks for a thread finds it just where it is among the members
pub in_chain_count : (fuel : ℕ) (next : ℕ → ℕ) (n first : ℕ) → in_chain fuel next n first ≡ ltb 0 (count n (members fuel next first))
unfolding in_chain members
in_chain_count zero next n first = sym (le-ltb 0 (count n []) (omega (arith, count_none n)))
in_chain_count (suc fuel) next n first = at (eqb first 0) (eqb first n) (equal first n) (in_chain_count fuel next n (next first))
  where
    at : (b same : Bool) → Equal same first n → in_chain fuel next n (next first) ≡ ltb 0 (count n (members fuel next (next first)))
        → pick b false (pick same true (in_chain fuel next n (next first))) ≡ ltb 0 (count n (pick b [] (first ∷ members fuel next (next first))))
    at true same e later = sym (le-ltb 0 (count n []) (omega (arith, count_none n)))
    at false true e later =
        sym (lt-ltb 0 (count n (first ∷ members fuel next (next first))) (rw e (omega (arith, count_same n (members fuel next (next n))))))
    at false false e later = later ∙ sym (ap (ltb 0) (count_other n first (members fuel next (next first)) (λ q. e (sym q))))
