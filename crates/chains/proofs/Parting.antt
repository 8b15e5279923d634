-- A chain parted by a test, in one pass: those that pass leave it, the others stay, and both keep their order. Those that leave become a chain of their
-- own, or each is in none. A chain grows at its end; no other thread is touched.
use Prim.Native.Nat.{ℕ, zero, suc, ◌+◌, ◌≤◌, ◌<◌}
use mathlib.Core.Path.{◌≡◌, refl, sym, ap, ◌∙◌}
use mathlib.Core.Logic.{◌≢◌}
use mathlib.Core.Bool.{Bool, true, false}
use mathlib.Core.List.{List, [], ◌∷◌, ◌++◌, append-nil, append_assoc}
use native.Mathlib.Omega.{arith}
use lib.Dec.{eqb}
use lib.ListN.{length}
use borrow.Author.Tests.{eq-eqb, ne_eqb}
use Rattle.laws.specs.{Choice.pick, Update.update, Count.count}
use Rattle.laws.proofs.Choice.{either_way, equal?}
use Rattle.laws.proofs.Update.{update_same, update_other}
use Rattle.laws.proofs.Count.{count_none, count_same, count_other, count_append}
use Rattle.chains.specs.declared.ends.Ends.{Ends}
use Rattle.chains.specs.Joining.{no_ends, grown, linked}
use Rattle.chains.proofs.Listed.{Chain, last, chain_frame, last_member, chain_without_zero, chain_once, chain_link, linked_last, linked_other}
use Rattle.chains.proofs.Family.{Chains, Aside}
use Rattle.laws.specs.Filter.{failing}
use Rattle.laws.proofs.Filter.{passing, count_parted}
use Rattle.chains.proofs.Relink.{chains_set_aside, chains_relink}

-- x linked behind the last thread, if there is one; x itself ends the chain
abbrev pub behind : (ℕ → ℕ) → ℕ → ℕ → ℕ → ℕ
behind next last x = pick (eqb last 0) (update next x 0) (update (update next x 0) last x)

-- the next indexes, and the two chains that a walk parted the chain into
pub record Parted : Type 0 where
  pub next : ℕ → ℕ
  pub left : Ends
  pub taken : Ends

-- from `at` on, each thread that passes the test leaves: together with the others that do, at the end of `taken`, or alone; each that does not goes to
-- the end of `left`
unfoldable pub part : ℕ → Bool → (ℕ → Bool) → (ℕ → ℕ) → Ends → Ends → ℕ → Parted
part zero together test next left taken at = record { next = next; left = left; taken = taken }
part (suc fuel) together test next left taken at =
    pick (eqb at 0) (record { next = next; left = left; taken = taken })
    (pick (test at) (part fuel together test (behind next taken.last at) left (pick together (grown taken at) taken) (next at))
    (part fuel together test (behind next left.last at) (grown left at) taken (next at)))

-- the last thread of a list, 0 where there is none
abbrev pub end : List ℕ → ℕ
end [] = 0
end (x ∷ rest) = last x rest

-- who joined at the end is the last
last_joined : (y : ℕ) (rest : List ℕ) (x : ℕ) → last y (rest ++ (x ∷ [])) ≡ x
last_joined y [] x = refl
last_joined y (z ∷ rest) x = last_joined z rest x

end_joined : (list : List ℕ) (x : ℕ) → end (list ++ (x ∷ [])) ≡ x
end_joined [] x = refl
end_joined (y ∷ rest) x = last_joined y rest x

-- a growing chain with these threads
pub record Grown (next : ℕ → ℕ) (ends : Ends) (list : List ℕ) : Type 0 where
  pub chain : Chain next ends.first list
  pub ended : ends.last ≡ end list

-- it grows by thread x, which is not in it
module _ (next : ℕ → ℕ) (ends : Ends) (list : List ℕ) (has : Grown next ends list) (x : ℕ) (new : count x list ≡ 0) where
  -- clearing the next index of x leaves the chain as it is
  cleared : Chain (update next x 0) ends.first list
  cleared =
      chain_frame next (update next x 0) ends.first list
      (λ n h. update_other next x 0 n (λ e. omega (arith, h, new, ap (λ (m : ℕ). count m list) e))) has.chain

  -- the last thread is at hand, so that no walk looks for it
  behind_linked : behind next ends.last x ≡ linked (length list) (update next x 0) ends.first x
  unfolding linked
  behind_linked = at list has.chain has.ended cleared
    where
      at : (threads : List ℕ) → Chain next ends.first threads → ends.last ≡ end threads → Chain (update next x 0) ends.first threads
          → behind next ends.last x ≡ linked (length threads) (update next x 0) ends.first x
      at [] chain ended clear = rw (ended, chain)
      at (y ∷ rest) chain ended clear =
          rw (ended, ne_eqb (last y rest) 0 (λ e. omega (arith, last_member y rest, chain_without_zero next ends.first (y ∷ rest) chain, ap (λ (m : ℕ). count m (y ∷ rest)) e)))
          (sym (linked_last (length (y ∷ rest)) (update next x 0) ends.first y rest x clear (omega arith)))

  -- no thread but x and the last is touched
  behind_other : (n : ℕ) → n ≢ x → count n list ≡ 0 → behind next ends.last x n ≡ next n
  behind_other n away out =
      rw behind_linked (linked_other (length list) (update next x 0) ends.first list x n cleared (omega arith) out ∙ update_other next x 0 n away)

  -- and x is the last then
  grow : x ≢ 0 → Grown (behind next ends.last x) (grown ends x) (list ++ (x ∷ []))
  grow real =
      record {
        chain = rw behind_linked
            (chain_link (length list) (update next x 0) ends.first list x (x ∷ []) cleared (refl, real, update_same next x 0) (omega arith)
            (λ n h. count_other n x [] (λ e. omega (arith, h, new, ap (λ (m : ℕ). count m list) e)) ∙ count_none n));
        ended = sym (end_joined list x);
      }

-- those that have left: together they are a growing chain, else each is in none
pub record Leaves (together : Bool) (next : ℕ → ℕ) (taken : Ends) (takens : List ℕ) : Type 0 where
  pub chained : Grown next taken (pick together takens [])
  pub loose : (n : ℕ) → 0 < count n (pick together [] takens) → next n ≡ 0

-- in the middle of the walk: those that stay, those that have left, and the rest of the chain; no thread is in two of the three
pub record Midway (together : Bool) (next : ℕ → ℕ) (left taken : Ends) (at : ℕ) (lefts takens list : List ℕ) : Type 0 where
  pub stay : Grown next left lefts
  pub leave : Leaves together next taken takens
  pub rest : Chain next at list
  pub once : (n : ℕ) → count n lefts + count n takens + count n list ≤ 1

-- the first thread x of the rest goes to the end of a chain; the threads `theres` are elsewhere
module _ (next : ℕ → ℕ) (here : Ends) (at : ℕ) (heres theres : List ℕ) (x : ℕ) (rest : List ℕ) (has : Grown next here heres) (chain : Chain next at (x ∷ rest))
    (once : (n : ℕ) → count n heres + count n theres + count n (x ∷ rest) ≤ 1) where
  -- x is not in it yet
  absent : count x heres ≡ 0
  absent = omega (arith, once x, count_same x rest)

  turn_other : (n : ℕ) → n ≢ x → count n heres ≡ 0 → behind next here.last x n ≡ next n
  turn_other = behind_other next here heres has x absent

  -- the threads elsewhere and of the rest keep their next indexes
  turn_kept : (n : ℕ) → 0 < count n theres + count n rest → behind next here.last x n ≡ next n
  unfolding count
  turn_kept n h =
      turn_other n (λ e. omega (arith, h, once x, count_same x rest, ap (λ (m : ℕ). count m theres + count m rest) e)) (omega (arith, h, once n))

  -- so the other chains stay
  turn_elsewhere : (there : Ends) (list : List ℕ) → ((n : ℕ) → count n list ≤ count n theres) → Grown next there list
      → Grown (behind next here.last x) there list
  turn_elsewhere there list within grows =
      record {
        chain = chain_frame next (behind next here.last x) there.first list (λ n h. turn_kept n (omega (arith, h, within n))) grows.chain;
        ended = grows.ended;
      }

  turn_rest : Chain (behind next here.last x) (next x) rest
  turn_rest = chain_frame next (behind next here.last x) (next x) rest (λ n h. turn_kept n (omega arith)) chain.2

  turn_grown : Grown (behind next here.last x) (grown here x) (heres ++ (x ∷ []))
  turn_grown = grow next here heres has x absent chain.1

  -- a thread that is in the longer list neither so far nor later keeps its next index
  turn_out : (more : List ℕ) (n : ℕ) → count n (heres ++ (x ∷ more)) ≡ 0 → behind next here.last x n ≡ next n
  unfolding count
  turn_out more n out =
      let counted = count_append n heres (x ∷ more) in
      turn_other n (λ e. omega (arith, out, counted, count_same x more, ap (λ (m : ℕ). count m (x ∷ more)) e)) (omega (arith, out, counted))

-- who has left is in their chain or in none
left_once : (together : Bool) (takens : List ℕ) (n : ℕ) → count n (pick together takens []) + count n (pick together [] takens) ≡ count n takens
left_once true takens n = omega (arith, count_none n)
left_once false takens n = omega (arith, count_none n)

-- either way of a turn: x passes the test, or it does not; then it is the middle of the walk again
module _ (together : Bool) (next : ℕ → ℕ) (left taken : Ends) (at : ℕ) (lefts takens : List ℕ) (x : ℕ) (rest : List ℕ)
    (midway : Midway together next left taken at lefts takens (x ∷ rest)) where
  pub midway_fails : Midway together (behind next left.last x) (grown left x) taken (next x) (lefts ++ (x ∷ [])) takens rest
  unfolding count
  midway_fails =
      record {
        stay = turn_grown next left at lefts takens x rest midway.stay midway.rest midway.once;
        leave = record {
          chained = turn_elsewhere next left at lefts takens x rest midway.stay midway.rest midway.once taken (pick together takens [])
              (λ n. omega (arith, left_once together takens n)) midway.leave.chained;
          loose = λ n h. turn_kept next left at lefts takens x rest midway.stay midway.rest midway.once n (omega (arith, h, left_once together takens n))
              ∙ midway.leave.loose n h;
        };
        rest = turn_rest next left at lefts takens x rest midway.stay midway.rest midway.once;
        once = λ n. omega (arith, midway.once n, count_append n lefts (x ∷ []));
      }

  -- who passes goes behind those in the chain of those that have left, of which there are none where they do not leave together
  abbrev chained : List ℕ
  chained = pick together takens []

  abbrev elsewhere : List ℕ
  elsewhere = lefts ++ pick together [] takens

  apart : (n : ℕ) → count n chained + count n elsewhere + count n (x ∷ rest) ≤ 1
  apart n = omega (arith, midway.once n, left_once together takens n, count_append n lefts (pick together [] takens))

  pub midway_passes : Midway together (behind next taken.last x) left (pick together (grown taken x) taken) (next x) lefts (takens ++ (x ∷ [])) rest
  unfolding count
  midway_passes =
      let has = midway.leave.chained in
      let kept = turn_kept next taken at chained elsewhere x rest has midway.rest apart in
      record {
        stay = turn_elsewhere next taken at chained elsewhere x rest has midway.rest apart left lefts
            (λ n. omega (arith, count_append n lefts (pick together [] takens))) midway.stay;
        leave = by together has (turn_grown next taken at chained elsewhere x rest has midway.rest apart)
            (λ n h. kept n (omega (arith, h, count_append n lefts (pick together [] takens))) ∙ midway.leave.loose n h);
        rest = turn_rest next taken at chained elsewhere x rest has midway.rest apart;
        once = λ n. omega (arith, midway.once n, count_append n takens (x ∷ []));
      }
    where
      by : (b : Bool) → Grown next taken (pick b takens []) → Grown (behind next taken.last x) (grown taken x) (pick b takens [] ++ (x ∷ []))
          → ((n : ℕ) → 0 < count n (pick b [] takens) → behind next taken.last x n ≡ 0)
          → Leaves b (behind next taken.last x) (pick b (grown taken x) taken) (takens ++ (x ∷ []))
      by true has grows loose = record { chained = grows; loose = λ n h. absurd (omega (arith, h, count_none n)) }
      by false has grows loose =
          record {
            chained = record { chain = has.chain; ended = has.ended };
            loose = λ n h. either_way (equal? n x) (λ e. rw (has.ended, e) (update_same next x 0))
                (λ away. loose n (omega (arith, h, count_append n takens (x ∷ []), count_other n x [] away, count_none n)));
          }

  -- a thread that leaves neither so far nor later keeps its next index, and so does one that does not stay
  passes_out : (more : List ℕ) (n : ℕ) → count n (takens ++ (x ∷ more)) ≡ 0 → behind next taken.last x n ≡ next n
  passes_out more n out =
      turn_out next taken at chained elsewhere x rest midway.leave.chained midway.rest apart more n
      (omega (arith, out, count_append n takens (x ∷ more), count_append n chained (x ∷ more), left_once together takens n))

  fails_out : (more : List ℕ) (n : ℕ) → count n (lefts ++ (x ∷ more)) ≡ 0 → behind next left.last x n ≡ next n
  fails_out = turn_out next left at lefts takens x rest midway.stay midway.rest midway.once

-- the walk ends with these threads in the chain and gone from it, and no other thread's next index has changed
abbrev pub PartedInto : Bool → (ℕ → ℕ) → List ℕ → List ℕ → Parted → Type 0
PartedInto together next lefts takens p =
    Grown p.next p.left lefts × Leaves together p.next p.taken takens
    × ((n : ℕ) → count n lefts ≡ 0 → count n takens ≡ 0 → p.next n ≡ next n)

-- from the middle of the walk to its end
pub part_midway : (fuel : ℕ) (together : Bool) (test : ℕ → Bool) (next : ℕ → ℕ) (left taken : Ends) (at : ℕ) (lefts takens list : List ℕ)
    → Midway together next left taken at lefts takens list → length list ≤ fuel
    → PartedInto together next (lefts ++ failing test list) (takens ++ passing test list) (part fuel together test next left taken at)
unfolding part
part_midway zero together test next left taken at lefts takens [] midway short =
    rw (append-nil lefts, append-nil takens) (midway.stay, midway.leave, λ n a b. refl)
part_midway (suc fuel) together test next left taken at lefts takens [] midway short =
    rw (eq-eqb at 0 midway.rest, append-nil lefts, append-nil takens) (midway.stay, midway.leave, λ n a b. refl)
part_midway zero together test next left taken at lefts takens (x ∷ rest) midway short = absurd (omega arith)
part_midway (suc fuel) together test next left taken at lefts takens (x ∷ rest) midway short =
    rw (midway.rest.0, ne_eqb x 0 midway.rest.1)
    (by (test x)
    (part_midway fuel together test leave_next left taken' (next x) lefts (takens ++ (x ∷ [])) rest
    (midway_passes together next left taken at lefts takens x rest midway) (omega arith))
    (part_midway fuel together test stay_next (grown left x) taken (next x) (lefts ++ (x ∷ [])) takens rest
    (midway_fails together next left taken at lefts takens x rest midway) (omega arith)))
  where
    leave_next : ℕ → ℕ
    leave_next = behind next taken.last x

    stay_next : ℕ → ℕ
    stay_next = behind next left.last x

    taken' : Ends
    taken' = pick together (grown taken x) taken

    leaves : Parted
    leaves = part fuel together test leave_next left taken' (next x)

    stays : Parted
    stays = part fuel together test stay_next (grown left x) taken (next x)

    by : (b : Bool) → PartedInto together leave_next (lefts ++ failing test rest) ((takens ++ (x ∷ [])) ++ passing test rest) leaves
        → PartedInto together stay_next ((lefts ++ (x ∷ [])) ++ failing test rest) (takens ++ passing test rest) stays
        → PartedInto together next (lefts ++ pick b (failing test rest) (x ∷ failing test rest)) (takens ++ pick b (x ∷ passing test rest) (passing test rest))
        (pick b leaves stays)
    by true one other =
        let (stay, leave, kept) = rw (append_assoc takens (x ∷ []) (passing test rest)) at one in
        (stay, leave, λ n a b. kept n a b ∙ passes_out together next left taken at lefts takens x rest midway (passing test rest) n b)
    by false one other =
        let (stay, leave, kept) = rw (append_assoc lefts (x ∷ []) (failing test rest)) at other in
        (stay, leave, λ n a b. kept n a b ∙ fails_out together next left taken at lefts takens x rest midway (failing test rest) n a)

-- the start of the walk
pub part_start : (together : Bool) (next : ℕ → ℕ) (at : ℕ) (list : List ℕ) → Chain next at list → Midway together next no_ends no_ends at [] [] list
part_start together next at list chain =
    record { stay = none; leave = nobody together; rest = chain; once = λ n. omega (arith, count_none n, chain_once next at list n chain) }
  where
    none : Grown next no_ends []
    none = record { chain = refl; ended = refl }

    nobody : (b : Bool) → Leaves b next no_ends []
    nobody true = record { chained = none; loose = λ n h. absurd (omega (arith, h, count_none n)) }
    nobody false = record { chained = none; loose = λ n h. absurd (omega (arith, h, count_none n)) }

-- Some leave, the rest stay, each in order, and no thread of another chain is touched.
part_whole : (fuel : ℕ) (together : Bool) (test : ℕ → Bool) (next : ℕ → ℕ) (at : ℕ) (list : List ℕ) → Chain next at list → length list ≤ fuel
    → let p = part fuel together test next no_ends no_ends at in
    Chain p.next p.left.first (failing test list) × Leaves together p.next p.taken (passing test list)
    × ((n : ℕ) → count n list ≡ 0 → p.next n ≡ next n)
part_whole fuel together test next at list chain short =
    let (stay, leave, kept) = part_midway fuel together test next no_ends no_ends at [] [] list (part_start together next at list chain) short in
    (stay.chain, leave, λ n out. kept n (omega (arith, out, count_parted test list n)) (omega (arith, out, count_parted test list n)))

-- All chains: those of chain c that pass are aside then, as a chain of their own,
pub chains_part : (next first : ℕ → ℕ) (list : ℕ → List ℕ) → Chains next first list → (c fuel : ℕ) (test : ℕ → Bool) → length (list c) ≤ fuel
    → let p = part fuel true test next no_ends no_ends (first c) in
    Aside p.next (update first c p.left.first) (update list c (failing test (list c))) (passing test (list c))
    × Chain p.next p.taken.first (passing test (list c))
chains_part next first list chains c fuel test short =
    let (stay, leave, kept) = part_whole fuel true test next (first c) (list c) (chains.chain c) short in
    let p = part fuel true test next no_ends no_ends (first c) in (
      chains_set_aside next first list chains c p.next p.left.first (failing test (list c)) (passing test (list c)) (count_parted test (list c)) stay kept,
      leave.chained.chain,
    )

-- or in no chain.
pub chains_part_out : (next first : ℕ → ℕ) (list : ℕ → List ℕ) → Chains next first list → (c fuel : ℕ) (test : ℕ → Bool) → length (list c) ≤ fuel
    → let p = part fuel false test next no_ends no_ends (first c) in
    Chains p.next (update first c p.left.first) (update list c (failing test (list c)))
chains_part_out next first list chains c fuel test short =
    let (stay, leave, kept) = part_whole fuel false test next (first c) (list c) (chains.chain c) short in
    let p = part fuel false test next no_ends no_ends (first c) in
    let parted = count_parted test (list c) in
    chains_relink next first list chains c p.next p.left.first (failing test (list c))
    (record {
      chain = stay;
      came = λ n d h old. absurd (omega (arith, h, old, parted n));
      gone = λ n none h. leave.loose n (omega (arith, none, h, parted n));
      kept = λ n none old. kept n old;
    })
