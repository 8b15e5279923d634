-- Threads join a chain, each at its place: behind those that stay before it, up to the first that does not. Who stays before whom is any test: where
-- everybody does, a thread joins at the end. On links this is a walk to the place and two next indexes; on lists it is an insertion.
use Prim.Native.Nat.{ℕ, zero, suc, ◌+◌, ◌≤◌, ◌<◌}
use mathlib.Core.Path.{subst, ◌≡◌, refl, sym, ap, ◌∙◌, fun_ext}
use mathlib.Core.Logic.{◌≢◌}
use mathlib.Core.Bool.{Bool, true, false}
use mathlib.Core.List.{List, [], ◌∷◌, ◌++◌}
use native.Mathlib.Omega.{arith}
use lib.Dec.{eqb}
use lib.ListN.{length}
use borrow.Author.Tests.{ne_eqb}
use Rattle.laws.specs.{Choice.pick, Update.update, Count.count}
use Rattle.laws.proofs.Choice.{either_way, equal?}
use Rattle.laws.proofs.Update.{update_same, update_other, update_id}
use Rattle.laws.proofs.Count.{count_none, count_same, count_other, count_more}
use Rattle.chains.specs.declared.place.Place.{Place}
use Rattle.chains.proofs.Listed.{by_update, Chain, chain_frame, chain_first_once}
use Rattle.chains.proofs.Family.{Chains, Aside, chains_aside, none_aside}
use Rattle.chains.proofs.Relink.{relink_aside}

-- the place that a walk finds from `here` on; `last` was passed before
unfoldable pub place_in : ℕ → (ℕ → ℕ) → (ℕ → Bool) → ℕ → ℕ → Place
place_in zero next stays last here = record { last = last; here = here }
place_in (suc fuel) next stays last here =
    pick (eqb here 0) (record { last = last; here = here })
    (pick (stays here) (place_in fuel next stays here (next here)) (record { last = last; here = here }))

-- thread n put at a place: the next indexes, and the first of the chain
abbrev pub put : (ℕ → ℕ) → Place → ℕ → ℕ → ℕ
put next place n = pick (eqb place.last 0) (update next n place.here) (update (update next n place.here) place.last n)

abbrev pub put_first : ℕ → Place → ℕ → ℕ
put_first first place n = pick (eqb place.last 0) n first

-- the next indexes, and the first of the chain that threads have joined
pub record Queued : Type 0 where
  pub next : ℕ → ℕ
  pub first : ℕ

-- each thread from `at` on, at most `fuel`, joins the chain from `first` on, which `limit` links are enough to walk along
unfoldable pub queued : ℕ → ℕ → (ℕ → ℕ → Bool) → (ℕ → ℕ) → ℕ → ℕ → Queued
queued zero limit before next first at = record { next = next; first = first }
queued (suc fuel) limit before next first at =
    let place = place_in limit next (λ x. before x at) 0 first in
    pick (eqb at 0) (record { next = next; first = first }) (queued fuel limit before (put next place at) (put_first first place at) (next at))

-- the same on lists
abbrev pub insert : (ℕ → Bool) → ℕ → List ℕ → List ℕ
insert stays n [] = n ∷ []
insert stays n (x ∷ rest) = pick (stays x) (x ∷ insert stays n rest) (n ∷ (x ∷ rest))

abbrev pub queue_by : (ℕ → ℕ → Bool) → List ℕ → List ℕ → List ℕ
queue_by before list [] = list
queue_by before list (n ∷ moved) = queue_by before (insert (λ x. before x n) n list) moved

-- who is in the list then, and how long it is
pub count_insert : (stays : ℕ → Bool) (n : ℕ) (list : List ℕ) (m : ℕ) → count m (insert stays n list) ≡ count m (n ∷ list)
unfolding count
count_insert stays n [] m = refl
count_insert stays n (x ∷ rest) m = at (stays x) (count_insert stays n rest m)
  where
    at : (b : Bool) → count m (insert stays n rest) ≡ count m (n ∷ rest) → count m (pick b (x ∷ insert stays n rest) (n ∷ (x ∷ rest))) ≡ count m (n ∷ (x ∷ rest))
    at true later = omega (arith, later)
    at false later = refl

pub length_insert : (stays : ℕ → Bool) (n : ℕ) (list : List ℕ) → length (insert stays n list) ≡ suc (length list)
length_insert stays n [] = refl
length_insert stays n (x ∷ rest) = at (stays x) (length_insert stays n rest)
  where
    at : (b : Bool) → length (insert stays n rest) ≡ suc (length rest) → length (pick b (x ∷ insert stays n rest) (n ∷ (x ∷ rest))) ≡ suc (suc (length rest))
    at true later = omega (arith, later)
    at false later = refl

pub count_queue : (before : ℕ → ℕ → Bool) (list moved : List ℕ) (m : ℕ) → count m (queue_by before list moved) ≡ count m list + count m moved
unfolding count
count_queue before list [] m = omega (arith, count_none m)
count_queue before list (n ∷ moved) m =
    omega (arith, count_queue before (insert (λ x. before x n) n list) moved m, count_insert (λ x. before x n) n list m)

pub length_queue : (before : ℕ → ℕ → Bool) (list moved : List ℕ) → length (queue_by before list moved) ≡ length list + length moved
length_queue before list [] = omega arith
length_queue before list (n ∷ moved) =
    omega (arith, length_queue before (insert (λ x. before x n) n list) moved, length_insert (λ x. before x n) n list)

-- where everybody stays, a thread joins at the end
pub insert_last : (stays : ℕ → Bool) (n : ℕ) (list : List ℕ) → ((x : ℕ) → stays x ≡ true) → insert stays n list ≡ list ++ (n ∷ [])
insert_last stays n [] all = refl
insert_last stays n (x ∷ rest) all = rw (all x, insert_last stays n rest all)

-- the walk ends at once where nobody is
place_end : (fuel : ℕ) (next : ℕ → ℕ) (stays : ℕ → Bool) (last : ℕ) → place_in fuel next stays last 0 ≡ record { last = last; here = 0 }
unfolding place_in
place_end zero next stays last = refl
place_end (suc fuel) next stays last = refl

module _ (next : ℕ → ℕ) (stays : ℕ → Bool) (n : ℕ) (real : n ≢ 0) where
  -- thread n put at a place behind `last`, behind which the list stood
  abbrev linked_at : Place → ℕ → ℕ
  linked_at place = update (update next n place.here) place.last n

  pub record Inserted (last : ℕ) (new list : List ℕ) (place : Place) : Type 0 where
    pub some : place.last ≢ 0
    pub chain : Chain (linked_at place) (linked_at place last) new
    pub kept : (m : ℕ) → m ≢ n → m ≢ last → count m list ≡ 0 → linked_at place m ≡ next m

  -- right behind it
  at_once : (last here : ℕ) (list : List ℕ) → last ≢ 0 → last ≢ n → count last list ≡ 0 → count n list ≡ 0 → Chain next here list
      → let after = update (update next n here) last n in
      Chain after (after last) (n ∷ list) × ((m : ℕ) → m ≢ n → m ≢ last → after m ≡ next m)
  at_once last here list some other away new chain = (
    (
      update_same _ last n,
      real,
      rw (update_other (update next n here) last n n (λ e. other (sym e)), update_same next n here)
          (chain_frame next (update (update next n here) last n) here list untouched chain),
    ),
    λ m apart far. update_other _ last n m far ∙ update_other next n here m apart,
  )
    where
      untouched : (m : ℕ) → 0 < count m list → update (update next n here) last n m ≡ next m
      untouched m h =
          update_other _ last n m (λ e. omega (arith, h, away, ap (λ (k : ℕ). count k list) e))
          ∙ update_other next n here m (λ e. omega (arith, h, new, ap (λ (k : ℕ). count k list) e))

  pub put_behind : (fuel last : ℕ) (list : List ℕ) → Chain next (next last) list → length list ≤ fuel → last ≢ 0 → last ≢ n → count last list ≡ 0
      → count n list ≡ 0 → Inserted last (insert stays n list) list (place_in fuel next stays last (next last))
  unfolding place_in
  put_behind fuel last [] chain short some other away new =
      let (ends, kept) = at_once last 0 [] some other away new refl in
      rw (chain, place_end fuel next stays last) (record { some = some; chain = ends; kept = λ m apart far out. kept m apart far })
  put_behind zero last (x ∷ rest) chain short some other away new = absurd (omega arith)
  put_behind (suc fuel) last (x ∷ rest) chain short some other away new =
      rw (chain.0, ne_eqb x 0 chain.1)
      (at (stays x)
      (put_behind fuel x rest chain.2 (omega (arith, short)) chain.1 (λ e. omega (arith, new, ap (λ (k : ℕ). count k (x ∷ rest)) (sym e), count_same x rest))
      (chain_first_once next (next last) x rest chain) (omega (arith, new, count_more n x rest))))
    where
      far_off : last ≢ x
      far_off e = omega (arith, away, ap (λ (k : ℕ). count k (x ∷ rest)) e, count_same x rest)

      at : (b : Bool) → Inserted x (insert stays n rest) rest (place_in fuel next stays x (next x))
          → Inserted last (pick b (x ∷ insert stays n rest) (n ∷ (x ∷ rest))) (x ∷ rest) (pick b (place_in fuel next stays x (next x)) (record { last = last; here = x }))
      at true later =
          record {
            some = later.some;
            chain = (later.kept last other far_off (omega (arith, away, count_more last x rest)) ∙ chain.0, chain.1, later.chain);
            kept = λ m apart far out. later.kept m apart (λ e. omega (arith, out, ap (λ (k : ℕ). count k (x ∷ rest)) e, count_same x rest)) (omega (arith, out, count_more m x rest));
          }
      at false later =
          let (ends, kept) = at_once last x (x ∷ rest) some other away new (refl, chain.1, chain.2) in
          record { some = some; chain = ends; kept = λ m apart far out. kept m apart far }

  -- in front of a list
  in_front : (here : ℕ) (list : List ℕ) → count n list ≡ 0 → Chain next here list → Chain (update next n here) n (n ∷ list)
  in_front here list new chain = (
    refl,
    real,
    rw (update_same next n here) (chain_frame next (update next n here) here list
        (λ m h. update_other next n here m (λ e. omega (arith, h, new, ap (λ (k : ℕ). count k list) e))) chain),
  )

  -- thread n put at its place in a chain: the chain with it, and no other thread's next index but those of the chain's
  pub record PutIn (first : ℕ) (new list : List ℕ) (place : Place) : Type 0 where
    pub chain : Chain (put next place n) (put_first first place n) new
    pub kept : (m : ℕ) → m ≢ n → count m list ≡ 0 → put next place n m ≡ next m

  pub put_in_chain : (limit first : ℕ) (list : List ℕ) → Chain next first list → length list ≤ limit → count n list ≡ 0
      → PutIn first (insert stays n list) list (place_in limit next stays 0 first)
  unfolding place_in
  put_in_chain limit first [] chain short new =
      rw (chain, place_end limit next stays 0)
      (record { chain = in_front 0 [] new refl; kept = λ m apart out. update_other next n 0 m apart })
  put_in_chain zero first (x ∷ rest) chain short new = absurd (omega arith)
  put_in_chain (suc limit) first (x ∷ rest) chain short new =
      rw (chain.0, ne_eqb x 0 chain.1) (at (stays x))
    where
      behind : Inserted x (insert stays n rest) rest (place_in limit next stays x (next x))
      behind =
          put_behind limit x rest chain.2 (omega (arith, short)) chain.1
          (λ e. omega (arith, new, ap (λ (k : ℕ). count k (x ∷ rest)) (sym e), count_same x rest)) (chain_first_once next first x rest chain)
          (omega (arith, new, count_more n x rest))

      at : (b : Bool) → PutIn x (pick b (x ∷ insert stays n rest) (n ∷ (x ∷ rest))) (x ∷ rest) (pick b (place_in limit next stays x (next x)) (record { last = 0; here = x }))
      at true =
          let some = ne_eqb (place_in limit next stays x (next x)).last 0 behind.some in
          let linked : put next (place_in limit next stays x (next x)) n ≡ linked_at (place_in limit next stays x (next x)) = rw some in
          record {
            chain = subst (λ after. Chain after (put_first x (place_in limit next stays x (next x)) n) (x ∷ insert stays n rest)) (sym linked)
                (rw some (refl, chain.1, behind.chain));
            kept = λ m apart out. ap (λ (after : ℕ → ℕ). after m) linked
                ∙ behind.kept m apart (λ e. omega (arith, out, ap (λ (k : ℕ). count k (x ∷ rest)) e, count_same x rest)) (omega (arith, out, count_more m x rest));
          }
      at false = record { chain = in_front x (x ∷ rest) new (refl, chain.1, chain.2); kept = λ m apart out. update_other next n x m apart }

-- the first of those that are aside joins chain c at its place; the others are aside still, and the chain that they were
module _ (next first : ℕ → ℕ) (list : ℕ → List ℕ) (x : ℕ) (rest : List ℕ) (aside : Aside next first list (x ∷ rest)) (back : ℕ) (waits : Chain next back (x ∷ rest))
    (stays : ℕ → Bool) (c limit : ℕ) (short : length (list c) ≤ limit) where
  abbrev place : Place
  place = place_in limit next stays 0 (first c)

  -- x is in no chain, nor is anybody behind it
  new : count x (list c) ≡ 0
  new = aside.out x c (omega (arith, count_same x rest))

  alone : (n : ℕ) → 0 < count n rest → n ≢ x
  alone n h e = omega (arith, h, ap (λ (k : ℕ). count k rest) e, chain_first_once next back x rest waits)

  apart : (n : ℕ) → 0 < count n rest → count n (list c) ≡ 0
  apart n h = aside.out n c (omega (arith, h, count_more n x rest))

  one_in : PutIn next stays x waits.1 (first c) (insert stays x (list c)) (list c) place
  one_in = put_in_chain next stays x waits.1 limit (first c) (list c) (aside.chain c) short new

  counted : (n : ℕ) → n ≢ x → count n (insert stays x (list c)) ≡ count n (list c)
  counted n away = count_insert stays x (list c) n ∙ count_other n x (list c) away

  among : (n : ℕ) → 0 < count n (insert stays x (list c)) → count n (list c) ≡ 0 → 0 < count n (x ∷ rest)
  among n h old =
      either_way (equal? n x) (λ e. rw e (omega (arith, count_same x rest))) (λ away. absurd (omega (arith, h, old, counted n away)))

  comes : (n : ℕ) → count n (x ∷ rest) ≤ count n (insert stays x (list c)) + count n rest
  comes n =
      either_way (equal? n x)
      (λ e. rw e (omega (arith, count_same x rest, count_insert stays x (list c) x, count_same x (list c))))
      (λ away. omega (arith, count_other n x rest away))

  pub aside_put : Aside (put next place x) (update first c (put_first (first c) place x)) (update list c (insert stays x (list c))) rest
  aside_put =
      relink_aside next first list (x ∷ rest) aside c (put next place x) (put_first (first c) place x) (insert stays x (list c))
      (record {
        chain = one_in.chain;
        came = λ n d h old. aside.out n d (among n h old);
        gone = λ n none h. absurd (omega (arith, none, h, count_insert stays x (list c) n, count_more n x (list c)));
        kept = λ n none old. one_in.kept n (λ e. omega (arith, none, ap (λ (k : ℕ). count k (insert stays x (list c))) e, count_insert stays x (list c) x, count_same x (list c))) old;
      }) rest comes (λ n h. (counted n (alone n h) ∙ apart n h, omega (arith, h, count_more n x rest)))

  pub rest_waits : Chain (put next place x) (next x) rest
  rest_waits = chain_frame next (put next place x) (next x) rest (λ n h. one_in.kept n (alone n h) (apart n h)) waits.2

-- nobody joins
pub queued_end : (fuel limit : ℕ) (before : ℕ → ℕ → Bool) (next : ℕ → ℕ) (first : ℕ) → queued fuel limit before next first 0 ≡ record { next = next; first = first }
unfolding queued
queued_end zero limit before next first = refl
queued_end (suc fuel) limit before next first = refl

-- a place written twice
update_again : {A : Type 0} (f : ℕ → A) (place : ℕ) (a b : A) → update (update f place a) place b ≡ update f place b
update_again f place a b =
    fun_ext (λ n. by_update (λ x. x ≡ update f place b n) (update f place a) place b n (λ e. rw e (sym (update_same f place b)))
    (λ away. update_other f place a n away ∙ sym (update_other f place b n away)))

-- all that are aside, as a chain of their own, join chain `to` in their order, each at its place
pub aside_queue : (moved : List ℕ) (next first : ℕ → ℕ) (list : ℕ → List ℕ) → Aside next first list moved → (fuel limit : ℕ) (before : ℕ → ℕ → Bool) (to back : ℕ)
    → Chain next back moved → length moved ≤ fuel → length (list to) + length moved ≤ suc limit
    → let q = queued fuel limit before next (first to) back in
    Chains q.next (update first to q.first) (update list to (queue_by before (list to) moved))
unfolding queued
aside_queue [] next first list aside fuel limit before to back waits few short =
    rw (waits, queued_end fuel limit before next (first to), update_id first to (first to) refl, update_id list to (list to) refl) (none_aside next first list aside)
aside_queue (x ∷ rest) next first list aside zero limit before to back waits few short = absurd (omega arith)
aside_queue (x ∷ rest) next first list aside (suc fuel) limit before to back waits few short =
    let stays : ℕ → Bool = λ y. before y x in
    let brief : length (list to) ≤ limit = omega (arith, short) in
    let found = place_in limit next stays 0 (first to) in
    let new = insert stays x (list to) in
    let start = put_first (first to) found x in
    rw (waits.0, ne_eqb x 0 waits.1)
    (rw (update_same first to start, update_same list to new, update_again first to start _, update_again list to new _) at
    (aside_queue rest (put next found x) (update first to start) (update list to new)
    (aside_put next first list x rest aside back waits stays to limit brief) fuel limit before to (next x)
    (rest_waits next first list x rest aside back waits stays to limit brief) (omega (arith, few))
    (rw (update_same list to new) (omega (arith, short, length_insert stays x (list to))))))

-- the same where chain c, another one, was changed before: they join chain `to` as it was
pub aside_queue_other : (next first : ℕ → ℕ) (list : ℕ → List ℕ) (c start : ℕ) (rest moved : List ℕ)
    → Aside next (update first c start) (update list c rest) moved → (fuel limit : ℕ) (before : ℕ → ℕ → Bool) (to back : ℕ) → Chain next back moved → c ≢ to
    → length moved ≤ fuel → length (list to) + length moved ≤ suc limit
    → let q = queued fuel limit before next (first to) back in
    Chains q.next (update (update first c start) to q.first) (update (update list c rest) to (queue_by before (list to) moved))
aside_queue_other next first list c start rest moved aside fuel limit before to back waits apart few short =
    let other : to ≢ c = λ e. apart (sym e) in
    rw (update_other first c start to other, update_other list c rest to other) at
    (aside_queue moved next (update first c start) (update list c rest) aside fuel limit before to back waits few (rw (update_other list c rest to other) short))

-- thread n, in no chain, joins chain c
module _ (next first : ℕ → ℕ) (list : ℕ → List ℕ) (chains : Chains next first list) where
  pub chains_join : (c fuel limit : ℕ) (before : ℕ → ℕ → Bool) (n : ℕ) → 1 ≤ fuel → length (list c) ≤ limit → n ≢ 0 → ((d : ℕ) → count n (list d) ≡ 0)
      → let q = queued fuel limit before next (first c) n in
      Chains q.next (update first c q.first) (update list c (queue_by before (list c) (n ∷ [])))
  chains_join c fuel limit before n some short real out =
      aside_queue (n ∷ []) next first list (chains_aside next first list (n ∷ []) chains alone) fuel limit before c n (refl, real, chains.loose n out) (omega arith)
      (omega (arith, short))
    where
      alone : (m d : ℕ) → 0 < count m (n ∷ []) → count m (list d) ≡ 0
      alone m d h = either_way (equal? m n) (λ e. rw e (out d)) (λ away. absurd (omega (arith, h, count_other m n [] away, count_none m)))
