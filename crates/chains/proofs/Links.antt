-- The links of all chains and the lists that they stand for: threads leave, join, move, part and drop out on both alike.
-- Every action on the chains of a table is one of these six or a few of them in a row.
use Prim.Native.Nat.{ℕ, suc, ◌+◌, ◌≤◌}
use mathlib.Core.Path.{◌≡◌, refl, sym, ap, ◌∙◌, subst}
use mathlib.Core.Logic.{◌≢◌}
use mathlib.Core.Bool.{Bool, true, false}
use native.Mathlib.Omega.{arith}
use mathlib.Core.List.{List, [], ◌∷◌, tail}
use lib.ListN.{length, take}
use Rattle.laws.specs.{Update.update, Count.count}
use Rattle.laws.proofs.{Update.update_id, Count.count_none}
use Rattle.chains.specs.Joining.{no_ends}
use Rattle.chains.proofs.Listed.{by_update, Chain, head, chain_head}
use Rattle.chains.proofs.Family.{Chains, chains_zero}
use Rattle.laws.specs.Filter.{failing}
use Rattle.laws.proofs.Filter.{passing, length_passing}
use Rattle.chains.proofs.Relink.{chains_leave, chains_left, chains_set_aside}
use Rattle.chains.proofs.Queue.{Queued, queued, queued_end, queue_by, aside_queue, aside_queue_other, chains_join}
use Rattle.chains.proofs.Parting.{part, chains_part, chains_part_out}

-- the threads' next indexes, and the first thread of each chain by the chain's number
pub record Links : Type 0 where
  pub next : ℕ → ℕ
  pub first : ℕ → ℕ

-- the links stand for these lists
abbrev pub LinksRepresent : Links → (ℕ → List ℕ) → Type 0
LinksRepresent links list = Chains links.next links.first list

-- the first thread of a chain, if there is one, leaves it
abbrev pub leave_links : ℕ → Links → Links
leave_links chain_number links =
    record {
      next = update links.next (links.first chain_number) 0;
      first = update links.first chain_number (links.next (links.first chain_number));
    }

abbrev pub leave_lists : ℕ → (ℕ → List ℕ) → ℕ → List ℕ
leave_lists chain_number list = update list chain_number (tail (list chain_number))

-- thread n joins a chain, which `fuel` links are enough to walk along, at its place: `before` says who stays before whom
abbrev pub join_links : ℕ → (ℕ → ℕ → Bool) → ℕ → ℕ → Links → Links
join_links fuel before chain_number n links =
    let q = queued fuel fuel before links.next (links.first chain_number) n in
    record { next = q.next; first = update links.first chain_number q.first }

abbrev pub join_lists : (ℕ → ℕ → Bool) → ℕ → ℕ → (ℕ → List ℕ) → ℕ → List ℕ
join_lists before chain_number n list = update list chain_number (queue_by before (list chain_number) (n ∷ []))

-- the first thread of a chain, if there is one, moves to its place in another, or in its own
abbrev pub shift_links : ℕ → (ℕ → ℕ → Bool) → ℕ → ℕ → Links → Links
shift_links fuel before from to links = join_links fuel before to (links.first from) (leave_links from links)

abbrev pub shift_lists : (ℕ → ℕ → Bool) → ℕ → ℕ → (ℕ → List ℕ) → ℕ → List ℕ
shift_lists before from to list = update (leave_lists from list) to (queue_by before (leave_lists from list to) (take 1 (list from)))

-- all threads of a chain move, in order, each to its place in another, or in its own
abbrev pub move_links : ℕ → (ℕ → ℕ → Bool) → ℕ → ℕ → Links → Links
move_links fuel before from to links =
    let first = update links.first from 0 in
    let q = queued fuel fuel before links.next (first to) (links.first from) in
    record { next = q.next; first = update first to q.first }

abbrev pub move_lists : (ℕ → ℕ → Bool) → ℕ → ℕ → (ℕ → List ℕ) → ℕ → List ℕ
move_lists before from to list = let rest = update list from [] in update rest to (queue_by before (rest to) (list from))

-- the threads of a chain that pass a test move, in order, each to its place in another; the rest stay in order
abbrev pub part_links : ℕ → (ℕ → ℕ → Bool) → (ℕ → Bool) → ℕ → ℕ → Links → Links
part_links fuel before test from to links =
    let p = part fuel true test links.next no_ends no_ends (links.first from) in
    let q = queued fuel fuel before p.next (links.first to) p.taken.first in
    record { next = q.next; first = update (update links.first from p.left.first) to q.first }

abbrev pub part_lists : (ℕ → ℕ → Bool) → (ℕ → Bool) → ℕ → ℕ → (ℕ → List ℕ) → ℕ → List ℕ
part_lists before test from to list = update (update list from (failing test (list from))) to (queue_by before (list to) (passing test (list from)))

-- the threads of a chain that pass a test drop out of it, and each is in no chain; the rest stay in order
abbrev pub drop_links : ℕ → (ℕ → Bool) → ℕ → Links → Links
drop_links fuel test c links =
    let p = part fuel false test links.next no_ends no_ends (links.first c) in
    record { next = p.next; first = update links.first c p.left.first }

abbrev pub drop_lists : (ℕ → Bool) → ℕ → (ℕ → List ℕ) → ℕ → List ℕ
drop_lists test c list = update list c (failing test (list c))

-- who leaves a chain is no longer in it, and all others are
tail_count : (n : ℕ) (list : List ℕ) → count n (tail list) ≤ count n list
unfolding count
tail_count n [] = omega arith
tail_count n (x ∷ rest) = omega arith

tail_length : (list : List ℕ) → length (tail list) ≤ length list
tail_length [] = omega arith
tail_length (x ∷ rest) = omega arith

pub leave_within : (list : ℕ → List ℕ) (c d n : ℕ) → count n (leave_lists c list d) ≤ count n (list d)
leave_within list c d n = by_update (λ l. count n l ≤ count n (list d)) list c (tail (list c)) d (λ e. rw e (tail_count n (list c))) (λ away. omega arith)

pub leave_short : (list : ℕ → List ℕ) (c d : ℕ) → length (leave_lists c list d) ≤ length (list d)
leave_short list c d = by_update (λ l. length l ≤ length (list d)) list c (tail (list c)) d (λ e. rw e (tail_length (list c))) (λ away. omega arith)

module _ (links : Links) (list : ℕ → List ℕ) (represented : LinksRepresent links list) where
  -- a chain's first thread is its list's
  pub first_head : (c : ℕ) → links.first c ≡ head (list c)
  first_head c = chain_head links.next (links.first c) (list c) (represented.chain c)

  -- and is no 0
  pub head_real : (c x : ℕ) (rest : List ℕ) → list c ≡ x ∷ rest → x ≢ 0
  head_real c x rest is = let here : Chain links.next (links.first c) (x ∷ rest) = rw is at (represented.chain c) in here.1

  -- a thread that has left its chain is in none
  pub represent_left : (c x : ℕ) (rest : List ℕ) → list c ≡ x ∷ rest → (d : ℕ) → count x (leave_lists c list d) ≡ 0
  represent_left c x rest is = rw is (chains_left links.next links.first list represented c x rest is)

  -- leaving an empty chain changes nothing: the code need not ask
  pub leave_none : (c : ℕ) → links.first c ≡ 0 → leave_links c links ≡ links
  leave_none c empty = λ j. record { next = same_next j; first = same_first j }
    where
      ends : links.next (links.first c) ≡ 0
      ends = ap links.next empty ∙ chains_zero links.next links.first list represented

      same_next : update links.next (links.first c) 0 ≡ links.next
      same_next = update_id links.next (links.first c) 0 ends

      same_first : update links.first c (links.next (links.first c)) ≡ links.first
      same_first = update_id links.first c (links.next (links.first c)) (empty ∙ sym ends)

  -- nor does joining by thread 0
  pub join_none : (fuel : ℕ) (before : ℕ → ℕ → Bool) (c : ℕ) → join_links fuel before c 0 links ≡ links
  join_none fuel before c =
      let none = queued_end fuel fuel before links.next (links.first c) in
      λ j. record { next = (none j).next; first = (ap (update links.first c) (ap (λ (q : Queued). q.first) none) ∙ update_id links.first c (links.first c) refl) j }

  -- Each action on links stands for the action on lists.
  -- the first of chain c leaves
  pub represent_leave : (c : ℕ) → LinksRepresent (leave_links c links) (leave_lists c list)
  represent_leave c = at (list c) refl
    where
      at : (threads : List ℕ) → list c ≡ threads → LinksRepresent (leave_links c links) (update list c (tail threads))
      at [] is = subst (λ (s : Links). LinksRepresent s (update list c [])) (sym (leave_none c (first_head c ∙ ap head is))) (rw (update_id list c [] is) represented)
      at (x ∷ rest) is = rw (first_head c ∙ ap head is) (chains_leave links.next links.first list represented c x rest is)

  -- thread n, in no chain, joins chain c
  pub represent_join : (fuel : ℕ) (before : ℕ → ℕ → Bool) (c n : ℕ) → 1 ≤ fuel → length (list c) ≤ fuel → n ≢ 0 → ((d : ℕ) → count n (list d) ≡ 0)
      → LinksRepresent (join_links fuel before c n links) (join_lists before c n list)
  represent_join fuel before c n = chains_join links.next links.first list represented c fuel fuel before n

  -- the first thread of a chain moves to its place in another
  pub represent_shift : (fuel : ℕ) (before : ℕ → ℕ → Bool) (from to : ℕ) → 1 ≤ fuel → length (list to) ≤ fuel
      → LinksRepresent (shift_links fuel before from to links) (shift_lists before from to list)
  represent_shift fuel before from to some short = at (list from) refl
    where
      brief : length (leave_lists from list to) ≤ fuel
      brief = omega (arith, leave_short list from to, short)

      at : (threads : List ℕ) → list from ≡ threads
          → LinksRepresent (shift_links fuel before from to links) (update (leave_lists from list) to (queue_by before (leave_lists from list to) (take 1 threads)))
      at [] is =
          let empty : links.first from ≡ 0 = first_head from ∙ ap head is in
          let still : shift_links fuel before from to links ≡ links =
          ap (join_links fuel before to (links.first from)) (leave_none from empty)
          ∙ (ap (λ (n : ℕ). join_links fuel before to n links) empty ∙ join_none fuel before to) in
          let same : leave_lists from list ≡ list = update_id list from (tail (list from)) (is ∙ sym (ap tail is)) in
          subst (λ (s : Links). LinksRepresent s (update (leave_lists from list) to (leave_lists from list to))) (sym still)
          (rw (same, update_id list to (list to) refl) represented)
      at (x ∷ rest) is =
          let is_first : links.first from ≡ x = first_head from ∙ ap head is in
          subst (λ (n : ℕ). LinksRepresent (shift_links fuel before from to links) (update (leave_lists from list) to (queue_by before (leave_lists from list to) (n ∷ [])))) is_first
          (chains_join (leave_links from links).next (leave_links from links).first (leave_lists from list) (represent_leave from) to fuel fuel before (links.first from)
          some brief (rw is_first (head_real from x rest is)) (rw is_first (represent_left from x rest is)))

  -- all threads of a chain move to their places in another
  pub represent_move : (fuel : ℕ) (before : ℕ → ℕ → Bool) (from to : ℕ) → length (list from) ≤ fuel → length (update list from [] to) + length (list from) ≤ suc fuel
      → LinksRepresent (move_links fuel before from to links) (move_lists before from to list)
  represent_move fuel before from to =
      let aside = chains_set_aside links.next links.first list represented from links.next 0 [] (list from) (λ n. omega (arith, count_none n)) refl (λ n old. refl) in
      aside_queue (list from) links.next (update links.first from 0) (update list from []) aside fuel fuel before to (links.first from) (represented.chain from)

  -- those that pass a test move to their places in another chain
  pub represent_part : (fuel : ℕ) (before : ℕ → ℕ → Bool) (test : ℕ → Bool) (from to : ℕ) → from ≢ to → length (list from) ≤ fuel
      → length (list to) + length (list from) ≤ suc fuel → LinksRepresent (part_links fuel before test from to links) (part_lists before test from to list)
  represent_part fuel before test from to apart few short =
      let p = part fuel true test links.next no_ends no_ends (links.first from) in
      let (aside, leave) = chains_part links.next links.first list represented from fuel test few in
      let fewer = length_passing test (list from) in
      aside_queue_other p.next links.first list from p.left.first (failing test (list from)) (passing test (list from)) aside fuel fuel before to p.taken.first
      leave apart (omega (arith, fewer, few)) (omega (arith, fewer, short))

  -- or drop out
  pub represent_drop : (fuel : ℕ) (test : ℕ → Bool) (c : ℕ) → length (list c) ≤ fuel → LinksRepresent (drop_links fuel test c links) (drop_lists test c list)
  represent_drop fuel test c = chains_part_out links.next links.first list represented c fuel test
