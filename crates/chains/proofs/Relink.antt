-- A chain whose members change in any way: some leave, wherever they stand, and others, which were in no chain, come in at any place.
-- Leaving as the first and coming in at a place are cases of one law. Threads on their way from chain to chain are aside.
use Prim.Native.Nat.{ℕ, suc, ◌+◌, ◌≤◌, ◌<◌}
use mathlib.Core.Path.{◌≡◌, refl, sym, ap, ◌∙◌}
use mathlib.Core.Logic.{◌≢◌}
use mathlib.Core.List.{List, [], ◌∷◌}
use native.Mathlib.Omega.{arith}
use Rattle.laws.specs.{Update.update, Count.count}
use Rattle.laws.proofs.Choice.{either_way, equal?}
use Rattle.laws.proofs.Update.{update_same, update_other}
use Rattle.laws.proofs.Count.{count_none, count_same, count_other, count_append}
use Rattle.chains.proofs.Listed.{by_update, Chain, chain_frame, chain_first_once, chain_once, chain_leave}
use Rattle.chains.proofs.Family.{Chains, Aside, chains_aside, none_aside, others}

-- Chain c becomes the list `new`, with other next indexes: of its threads and of those that come in; whoever left has none.
pub record Relinked (next first : ℕ → ℕ) (list : ℕ → List ℕ) (c : ℕ) (next' : ℕ → ℕ) (start : ℕ) (new : List ℕ) : Type 0 where
  pub chain : Chain next' start new
  -- who comes in was in no chain
  pub came : (n d : ℕ) → 0 < count n new → count n (list c) ≡ 0 → count n (list d) ≡ 0
  -- who left is in none
  pub gone : (n : ℕ) → count n new ≡ 0 → 0 < count n (list c) → next' n ≡ 0
  -- nobody else is touched
  pub kept : (n : ℕ) → count n new ≡ 0 → count n (list c) ≡ 0 → next' n ≡ next n

-- of those that were aside some come in, and the others, `rest`, stay aside
module _ (next first : ℕ → ℕ) (list : ℕ → List ℕ) (moved : List ℕ) (aside : Aside next first list moved) (c : ℕ) (next' : ℕ → ℕ) (start : ℕ) (new : List ℕ)
    (relinked : Relinked next first list c next' start new) (rest : List ℕ) (comes : (n : ℕ) → count n moved ≤ count n new + count n rest)
    (stays : (n : ℕ) → 0 < count n rest → (count n new ≡ 0) × (0 < count n moved)) where
  -- a thread of another chain is neither in the new list nor was it in the old one
  foreign : (d n : ℕ) → d ≢ c → 0 < count n (list d) → (count n new ≡ 0) × (count n (list c) ≡ 0)
  foreign d n away h =
      let old : count n (list c) ≡ 0 = others list aside.apart d c n (λ e. away (sym e)) h in
      let never : 0 < count n new → ⊥ = λ k. omega (arith, h, relinked.came n d k old) in
      (omega arith, old)

  pub relink_aside : Aside next' (update first c start) (update list c new) rest
  relink_aside = record { chain = chain; apart = apart; out = out; loose = loose }
    where
      chain : (d : ℕ) → Chain next' (update first c start d) (update list c new d)
      chain d =
          either_way (equal? d c) (λ e. rw (e, update_same first c start, update_same list c new) relinked.chain)
          (λ away. rw (update_other first c start d away, update_other list c new d away)
          (chain_frame next next' (first d) (list d) (λ n h. let (out, old) = foreign d n away h in relinked.kept n out old) (aside.chain d)))

      apart : (a b n : ℕ) → 0 < count n (update list c new a) → 0 < count n (update list c new b) → a ≡ b
      apart a b n =
          by_update (λ l. 0 < count n l → 0 < count n (update list c new b) → a ≡ b) list c new a
          (λ e h. by_update (λ l. 0 < count n l → a ≡ b) list c new b (λ q k. e ∙ sym q) (λ q k. absurd (omega (arith, (foreign b n q k).0, h))))
          (λ e h. by_update (λ l. 0 < count n l → a ≡ b) list c new b (λ q k. absurd (omega (arith, (foreign a n e h).0, k))) (λ q. aside.apart a b n h))

      out : (n d : ℕ) → 0 < count n rest → count n (update list c new d) ≡ 0
      out n d h = let (none, was) = stays n h in by_update (λ l. count n l ≡ 0) list c new d (λ e. none) (λ away. aside.out n d was)

      loose : (n : ℕ) → ((d : ℕ) → count n (update list c new d) ≡ 0) → count n rest ≡ 0 → next' n ≡ 0
      loose n out also =
          let absent : count n new ≡ 0 = rw (update_same list c new) at (out c) in
          either_way (equal? (count n (list c)) 0)
          (λ old. relinked.kept n absent old
          ∙ aside.loose n (λ d. either_way (equal? d c) (λ e. rw e old) (λ away. rw (update_other list c new d away) at (out d)))
          (omega (arith, absent, also, comes n)))
          (λ some. relinked.gone n absent (omega (arith, some)))

-- with nobody aside
pub chains_relink : (next first : ℕ → ℕ) (list : ℕ → List ℕ) → Chains next first list → (c : ℕ) (next' : ℕ → ℕ) (start : ℕ) (new : List ℕ)
    → Relinked next first list c next' start new → Chains next' (update first c start) (update list c new)
chains_relink next first list chains c next' start new relinked =
    none_aside next' (update first c start) (update list c new)
    (relink_aside next first list [] (chains_aside next first list [] chains (λ n d h. absurd (omega (arith, h, count_none n)))) c next' start new relinked []
    (λ n. omega (arith, count_none n)) (λ n h. absurd (omega (arith, h, count_none n))))

module _ (next first : ℕ → ℕ) (list : ℕ → List ℕ) (chains : Chains next first list) (c : ℕ) where
  once : (n : ℕ) → count n (list c) ≤ 1
  once n = chain_once next (first c) (list c) n (chains.chain c)

  -- the first thread of chain c leaves it
  pub chains_leave : (x : ℕ) (rest : List ℕ) → list c ≡ x ∷ rest → Chains (update next x 0) (update first c (next x)) (update list c rest)
  chains_leave x rest is =
      chains_relink next first list chains c (update next x 0) (next x) rest
      (record {
        chain = chain_leave next (first c) x rest (rw is at (chains.chain c));
        came = λ n d h old. absurd (omega (arith, h, old, fewer n));
        gone = λ n out h. by_update (λ m. m ≡ 0) next x 0 n (λ e. refl) (λ away. absurd (omega (arith, out, rw is at h, count_other n x rest away)));
        kept = λ n out old. update_other next x 0 n (λ e. omega (arith, old, ap (λ (m : ℕ). count m (list c)) e, here));
      })
    where
      here : count x (list c) ≡ suc (count x rest)
      here = rw is (count_same x rest)

      fewer : (n : ℕ) → count n rest ≤ count n (list c)
      fewer n = rw is (omega (arith, count_append n (x ∷ []) rest))

  -- and is then in no chain
  pub chains_left : (x : ℕ) (rest : List ℕ) → list c ≡ x ∷ rest → (d : ℕ) → count x (update list c rest d) ≡ 0
  chains_left x rest is d =
      by_update (λ l. count x l ≡ 0) list c rest d (λ e. chain_first_once next (first c) x rest (rw is at (chains.chain c)))
      (λ away. others list chains.apart c d x away (rw is (omega (arith, count_same x rest))))

  -- the threads `moved` leave chain c and are aside; `rest`, the others, is the chain then
  module _ (next' : ℕ → ℕ) (start : ℕ) (rest moved : List ℕ) (parted : (n : ℕ) → count n (list c) ≡ count n moved + count n rest) (stays : Chain next' start rest)
      (kept : (n : ℕ) → count n (list c) ≡ 0 → next' n ≡ next n) where
    fewer : (d n : ℕ) → count n (update list c rest d) ≤ count n (list d)
    fewer d n = by_update (λ l. count n l ≤ count n (list d)) list c rest d (λ e. rw e (omega (arith, parted n))) (λ away. omega arith)

    pub chains_set_aside : Aside next' (update first c start) (update list c rest) moved
    chains_set_aside =
        record {
          chain = λ d. either_way (equal? d c) (λ e. rw (e, update_same first c start, update_same list c rest) stays)
              (λ away. rw (update_other first c start d away, update_other list c rest d away)
              (chain_frame next next' (first d) (list d) (λ n h. kept n (others list chains.apart d c n (λ e. away (sym e)) h)) (chains.chain d)));
          apart = λ a b n h k. chains.apart a b n (omega (arith, h, fewer a n)) (omega (arith, k, fewer b n));
          out = λ n d h. by_update (λ l. count n l ≡ 0) list c rest d (λ e. omega (arith, h, parted n, once n))
              (λ away. others list chains.apart c d n away (omega (arith, h, parted n)));
          loose = λ n none out. let old : count n (list c) ≡ 0 = omega (arith, parted n, out, rw (update_same list c rest) at (none c)) in
              kept n old ∙ chains.loose n (λ d. either_way (equal? d c) (λ e. rw e old) (λ away. rw (update_other list c rest d away) at (none d)));
        }
