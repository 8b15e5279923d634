-- One chain and the list of its threads: what walks find, that no thread is in it twice, and what joining, moving and leaving do to it.
-- The arguments of a law stand in the order of the definitions: fuel, next indexes, first thread, list.
use Prim.Native.Nat.{ℕ, zero, suc, ◌≤◌, ◌<◌}
use mathlib.Core.Path.{◌≡◌, refl, sym, ap, subst, ◌∙◌}
use mathlib.Core.Logic.{◌≢◌}
use mathlib.Core.List.{List, [], ◌∷◌, ◌++◌}
use native.Mathlib.Omega.{arith}
use lib.ListN.{length}
use borrow.Author.Tests.{eq-eqb, ne_eqb}
use Rattle.laws.specs.{Update.update, Count.count}
use Rattle.laws.proofs.Choice.{by_equal, either_way, equal?}
use Rattle.laws.proofs.Update.{update_same, update_other, update_id}
use Rattle.laws.proofs.Count.{count_none, count_same, count_other}
use Rattle.chains.specs.Chain.{members}
use Rattle.chains.specs.Joining.{last_of, first_with, linked}

-- what holds of the new value at its place, and of the old ones elsewhere, holds of each
pub by_update : {A : Type 0} (P : A → Type 0) (f : ℕ → A) (place : ℕ) (value : A) (n : ℕ) → (n ≡ place → P value) → (n ≢ place → P (f n))
    → P (update f place value n)
unfolding update
by_update P f place value n = by_equal P n place

-- from `first`, by the next indexes, the chain's threads are these, in order
abbrev pub Chain : (ℕ → ℕ) → ℕ → List ℕ → Type 0
Chain next first [] = first ≡ 0
Chain next first (x ∷ rest) = (first ≡ x) × (x ≢ 0) × Chain next (next x) rest

-- the first thread of a list, 0 where there is none
abbrev pub head : List ℕ → ℕ
head [] = 0
head (x ∷ rest) = x

-- the last thread of a list that is not empty
abbrev pub last : ℕ → List ℕ → ℕ
last x [] = x
last x (y ∷ rest) = last y rest

-- a chain's first thread is its list's
pub chain_head : (next : ℕ → ℕ) (first : ℕ) (list : List ℕ) → Chain next first list → first ≡ head list
chain_head next first [] chain = chain
chain_head next first (x ∷ rest) chain = chain.0

-- which is not 0 where the list has one
pub chain_some : (next : ℕ → ℕ) (first x : ℕ) (rest : List ℕ) → Chain next first (x ∷ rest) → first ≢ 0
chain_some next first x rest (same, real, behind) e = real (sym same ∙ e)

-- 0 is no member
pub chain_without_zero : (next : ℕ → ℕ) (first : ℕ) (list : List ℕ) → Chain next first list → count 0 list ≡ 0
chain_without_zero next first [] chain = count_none 0
chain_without_zero next first (x ∷ rest) (same, real, behind) = count_other 0 x rest (λ e. real (sym e)) ∙ chain_without_zero next (next x) rest behind

-- the empty chain has no members
pub members_none : (fuel : ℕ) (next : ℕ → ℕ) → members fuel next 0 ≡ []
unfolding members
members_none zero next = refl
members_none (suc fuel) next = refl

-- the walk that collects the members finds the list
pub chain_members : (fuel : ℕ) (next : ℕ → ℕ) (first : ℕ) (list : List ℕ) → Chain next first list → length list ≤ fuel → members fuel next first ≡ list
unfolding members
chain_members zero next first [] chain short = refl
chain_members (suc fuel) next first [] chain short = rw (eq-eqb first 0 chain)
chain_members zero next first (x ∷ rest) chain short = absurd (omega arith)
chain_members (suc fuel) next first (x ∷ rest) (same, real, behind) short =
    rw (same, ne_eqb x 0 real, chain_members fuel next (next x) rest behind (omega arith))

-- a chain whose members keep their next indexes is the same chain
pub chain_frame : (next next' : ℕ → ℕ) (first : ℕ) (list : List ℕ) → ((n : ℕ) → 0 < count n list → next' n ≡ next n)
    → Chain next first list → Chain next' first list
unfolding count
chain_frame next next' first [] kept chain = chain
chain_frame next next' first (x ∷ rest) kept (same, real, behind) =
    (same, real, rw (kept x (omega (arith, count_same x rest))) (chain_frame next next' (next x) rest (λ n h. kept n (omega arith)) behind))

-- a chain has one list
pub chain_unique : (next : ℕ → ℕ) (first : ℕ) (list list' : List ℕ) → Chain next first list → Chain next first list' → list ≡ list'
chain_unique next first [] [] c d = refl
chain_unique next first [] (y ∷ ys) c d = absurd (d.1 (omega (arith, d.0)))
chain_unique next first (x ∷ xs) [] c d = absurd (c.1 (omega (arith, c.0)))
chain_unique next first (x ∷ xs) (y ∷ ys) c d =
    let same : x ≡ y = omega (arith, c.0, d.0) in
    rw (same, chain_unique next (next x) xs ys c.2 (rw same d.2))

-- behind a member stands a shorter chain
behind_member : (next : ℕ → ℕ) (first : ℕ) (list : List ℕ) (n : ℕ) → Chain next first list → 0 < count n list
    → (rest : List ℕ) × Chain next (next n) rest × (length rest < length list)
unfolding count
behind_member next first [] n chain h = absurd (omega arith)
behind_member next first (x ∷ xs) n chain h =
    either_way (equal? n x) (λ e. (xs, rw e chain.2, omega arith))
    (λ away. let (rest, c, s) = behind_member next (next x) xs n chain.2 (omega (arith, count_other n x xs away)) in (rest, c, omega arith))

-- a chain that ends does not come back to its first thread
pub chain_first_once : (next : ℕ → ℕ) (first x : ℕ) (rest : List ℕ) → Chain next first (x ∷ rest) → count x rest ≡ 0
chain_first_once next first x rest chain =
    let never : 0 < count x rest → ⊥ = λ h.
    let (shorter, c, less) = behind_member next (next x) rest x chain.2 h in
    omega (arith, ap length (chain_unique next (next x) shorter rest c chain.2)) in
    omega arith

-- nor to any other: no thread is in it twice
pub chain_once : (next : ℕ → ℕ) (first : ℕ) (list : List ℕ) (n : ℕ) → Chain next first list → count n list ≤ 1
chain_once next first [] n chain = omega (arith, count_none n)
chain_once next first (x ∷ rest) n chain =
    either_way (equal? n x) (λ e. rw e (omega (arith, count_same x rest, chain_first_once next first x rest chain)))
    (λ away. omega (arith, count_other n x rest away, chain_once next (next x) rest n chain.2))

-- the last is a member
pub last_member : (x : ℕ) (rest : List ℕ) → 0 < count (last x rest) (x ∷ rest)
unfolding count
last_member x [] = omega (arith, count_same x [])
last_member x (y ∷ rest) = omega (arith, last_member y rest)

-- its next index is 0
pub last_ends : (next : ℕ → ℕ) (first x : ℕ) (rest : List ℕ) → Chain next first (x ∷ rest) → next (last x rest) ≡ 0
last_ends next first x [] chain = chain.2
last_ends next first x (y ∷ rest) chain = last_ends next (next x) y rest chain.2

-- the walk to the last thread finds the list's last
pub chain_last : (fuel : ℕ) (next : ℕ → ℕ) (first x : ℕ) (rest : List ℕ) → Chain next first (x ∷ rest) → length rest ≤ fuel
    → last_of fuel next first ≡ last x rest
unfolding last_of
chain_last zero next first x [] chain short = chain.0
chain_last (suc fuel) next first x [] (same, real, behind) short = rw (same, eq-eqb (next x) 0 behind)
chain_last zero next first x (y ∷ rest) chain short = absurd (omega arith)
chain_last (suc fuel) next first x (y ∷ rest) (same, real, behind) short =
    rw (same, ne_eqb (next x) 0 (λ e. behind.1 (sym behind.0 ∙ e))) (chain_last fuel next (next x) y rest behind (omega arith))

-- hanging a chain behind another sets the next index of that one's last thread
pub linked_last : (fuel : ℕ) (next : ℕ → ℕ) (front x : ℕ) (rest : List ℕ) (back : ℕ) → Chain next front (x ∷ rest) → length rest ≤ fuel
    → linked fuel next front back ≡ update next (last x rest) back
unfolding linked
linked_last fuel next front x rest back chain short =
    rw (ne_eqb front 0 (chain_some next front x rest chain), chain_last fuel next front x rest chain short)

-- and no other thread's
pub linked_other : (fuel : ℕ) (next : ℕ → ℕ) (front : ℕ) (list : List ℕ) (back n : ℕ) → Chain next front list → length list ≤ fuel → count n list ≡ 0
    → linked fuel next front back n ≡ next n
unfolding linked
linked_other fuel next front [] back n chain short out = rw (eq-eqb front 0 chain)
linked_other fuel next front (x ∷ rest) back n chain short out =
    rw (linked_last fuel next front x rest back chain (omega arith))
    (update_other next (last x rest) back n (λ e. omega (arith, out, rw (← e) at (last_member x rest))))

-- the empty chain hung behind another changes nothing
pub linked_none : (fuel : ℕ) (next : ℕ → ℕ) (front : ℕ) (list : List ℕ) → Chain next front list → length list ≤ fuel → linked fuel next front 0 ≡ next
unfolding linked
linked_none fuel next front [] chain short = rw (eq-eqb front 0 chain)
linked_none fuel next front (x ∷ rest) chain short =
    linked_last fuel next front x rest 0 chain (omega arith) ∙ update_id next (last x rest) 0 (last_ends next front x rest chain)

-- nor the first thread
pub first_with_none : (front : ℕ) → first_with front 0 ≡ front
first_with_none front = by_equal (λ n. n ≡ front) front 0 sym (λ e. refl)

-- the threads `moved` of chain `back`, none of them in chain `front`, stand behind its last thread then
hung_behind : (next : ℕ → ℕ) (front x : ℕ) (rest : List ℕ) (back : ℕ) (moved : List ℕ) → Chain next front (x ∷ rest) → Chain next back moved
    → ((n : ℕ) → 0 < count n (x ∷ rest) → count n moved ≡ 0) → Chain (update next (last x rest) back) front (x ∷ (rest ++ moved))
unfolding count
hung_behind next front x [] back moved (same, real, ends) chain apart =
    let untouched : (n : ℕ) → 0 < count n moved → update next x back n ≡ next n =
    λ n h. update_other next x back n (λ e. omega (arith, h, apart n (rw e (omega (arith, count_same x []))))) in
    (same, real, rw (update_same next x back) (chain_frame next (update next x back) back moved untouched chain))
hung_behind next front x (y ∷ rest) back moved (same, real, behind) chain apart =
    let far : x ≢ last y rest = λ e. omega (arith, chain_first_once next front x (y ∷ rest) (same, real, behind), subst (λ k. 0 < count k (y ∷ rest)) (sym e) (last_member y rest)) in
    (same, real, rw (update_other next (last y rest) back x far) (hung_behind next (next x) y rest back moved behind chain (λ n h. apart n (omega arith))))

-- hanging one chain behind the other appends their lists: one thread joins, or all of a chain move in order
pub chain_link : (fuel : ℕ) (next : ℕ → ℕ) (front : ℕ) (list : List ℕ) (back : ℕ) (moved : List ℕ) → Chain next front list → Chain next back moved
    → length list ≤ fuel → ((n : ℕ) → 0 < count n list → count n moved ≡ 0)
    → Chain (linked fuel next front back) (first_with front back) (list ++ moved)
unfolding linked
chain_link fuel next front [] back moved chain chain' short apart = simp (eq-eqb front 0 chain) chain'
chain_link fuel next front (x ∷ rest) back moved chain chain' short apart =
    subst (λ after. Chain after (first_with front back) (x ∷ (rest ++ moved))) (sym (linked_last fuel next front x rest back chain (omega arith)))
    (rw (ne_eqb front 0 (chain_some next front x rest chain)) (hung_behind next front x rest back moved chain chain' apart))

-- the first thread leaves, its next index cleared
pub chain_leave : (next : ℕ → ℕ) (first x : ℕ) (rest : List ℕ) → Chain next first (x ∷ rest) → Chain (update next x 0) (next x) rest
chain_leave next first x rest chain =
    chain_frame next (update next x 0) (next x) rest
    (λ n h. update_other next x 0 n (λ e. omega (arith, chain_first_once next first x rest chain, rw e at h))) chain.2
