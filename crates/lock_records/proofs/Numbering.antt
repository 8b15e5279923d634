-- The chains of all objects under one numbering, three to an object; the lists that these chains have in a table with lists; and what each work on chains
-- does to the lists and to the links that stand for them.
use Prim.Native.Nat.{ℕ, zero, suc, ◌+◌, ◌*◌, ◌/◌, ◌%◌, ◌≤◌, ◌<◌}
use mathlib.Core.Path.{◌≡◌, refl, sym, ◌∙◌, subst, fun_ext}
use mathlib.Core.Logic.{◌≢◌}
use mathlib.Core.Bool.{Bool}
use mathlib.Core.List.{List, [], ◌∷◌, tail}
use native.Mathlib.Omega.{arith}
use lib.Dec.{eqb, leb}
use lib.ListN.{length, take}
use borrow.Author.Tests.{le-leb}
use Rattle.laws.specs.{Choice.pick, Update.update, Count.count, Filter.failing}
use Rattle.laws.proofs.Choice.{by_equal, either_way, equal?}
use Rattle.laws.proofs.Update.{update_same, update_other}
use Rattle.chains.proofs.Listed.{head}
use Rattle.chains.proofs.Queue.{queue_by, insert_last, length_queue}
use Rattle.chains.proofs.Links.{Links, LinksRepresent, leave_links, leave_lists, join_links, join_lists, move_links, move_lists, shift_links}
use Rattle.chains.proofs.Links.{shift_lists, drop_links, drop_lists, represent_drop, leave_within, leave_short, represent_leave, represent_join, represent_move, represent_shift}
use Rattle.chains.specs.declared.named.Chain.{Chain}
use Rattle.lock_rules.specs.declared.{ThreadState.ThreadState, Taken.Taken, ChainWork.ChainWork, Effect.Effect}
use Rattle.lock_rules.specs.declared.Taken.TheVariants.{First, All}
use Rattle.lock_rules.specs.declared.ChainWork.TheVariants.{Stay, Join, JoinAndHand, Hand, Move, MoveAndLetOut, SendBack}
use Rattle.lock_rules.proofs.{Each.each_chain, Changes.is_queued_exit}
use Rattle.lock_rules.proofs.Objects.{ListObject, chain_of, with_chain}
use Rattle.lock_rules.proofs.Perform.{enter_queue_all, join, taken, left, first_of, handed_object, moved_object, moved_states, object_after, effected}
use Rattle.lock_table.specs.Limits.{thread_limit}

-- a chain's place among the three of its object
abbrev pub place_of : Chain → ℕ
place_of Chain.Entry = 0
place_of Chain.Contention = 1
place_of Chain.Waiting = 2

abbrev chain_at : ℕ → Chain
chain_at zero = Chain.Entry
chain_at (suc zero) = Chain.Contention
chain_at (suc (suc n)) = Chain.Waiting

-- the number of a chain of object o
unfoldable pub number : ℕ → Chain → ℕ
number o chain = 3 * o + place_of chain

-- the list of each numbered chain
unfoldable pub lists_of : (ℕ → ListObject) → ℕ → List ℕ
lists_of objects c = chain_of (chain_at (c % 3)) (objects (c / 3))

place_small : (chain : Chain) → place_of chain < 3
place_small = each_chain _ (search arith)

chain_back : (chain : Chain) → chain_at (place_of chain) ≡ chain
chain_back = each_chain _ (search)

place_back : (k : ℕ) → k < 3 → place_of (chain_at k) ≡ k
place_back zero small = refl
place_back (suc zero) small = refl
place_back (suc (suc zero)) small = refl
place_back (suc (suc (suc k))) small = absurd (omega arith)

pub list_at : (objects : ℕ → ListObject) (o : ℕ) (chain : Chain) → lists_of objects (number o chain) ≡ chain_of chain (objects o)
unfolding lists_of number
list_at objects o chain =
    let remainder : (3 * o + place_of chain) % 3 ≡ place_of chain = omega (arith, place_small chain) in
    let quotient : (3 * o + place_of chain) / 3 ≡ o = omega (arith, place_small chain) in
    rw (remainder, quotient, chain_back chain)

-- what holds of every chain of every object holds of every number
pub by_number : (P : ℕ → Type 0) → ((o : ℕ) (chain : Chain) → P (number o chain)) → (c : ℕ) → P c
unfolding number
by_number P each c =
    let whole : 3 * (c / 3) + place_of (chain_at (c % 3)) ≡ c = omega (arith, place_back (c % 3) (omega arith)) in
    subst P whole (each (c / 3) (chain_at (c % 3)))

-- two numbers are the same for the same chain of the same object only
pub update_number : {A : Type 0} (f : ℕ → A) (o : ℕ) (a b : Chain) (value : A)
    → update f (number o a) value (number o b) ≡ pick (eqb (place_of b) (place_of a)) value (f (number o b))
unfolding number
update_number f o a b value =
    by_equal (λ x. update f (3 * o + place_of a) value (3 * o + place_of b) ≡ x) (place_of b) (place_of a)
    (λ e. rw (e, update_same f (3 * o + place_of a) value))
    (λ away. update_other f (3 * o + place_of a) value (3 * o + place_of b) (λ q. away (omega (arith, q))))

pub objects_apart : (o p : ℕ) (a b : Chain) → p ≢ o → number p a ≢ number o b
unfolding number
objects_apart o p a b away q = away (omega (arith, q, place_small a, place_small b))

-- another chain of an object than its entry chain has another number
pub chains_differ : (o : ℕ) (chain : Chain) → (place_of chain ≡ 0 → ⊥) → number o Chain.Entry ≢ number o chain
unfolding number
chains_differ o chain other e = other (omega (arith, e))

-- the lists after object o is replaced: its three are those of the new object, and the others are as they were
pub lists_replaced : (objects : ℕ → ListObject) (o : ℕ) (new : ListObject) (list : ℕ → List ℕ)
    → ((chain : Chain) → list (number o chain) ≡ chain_of chain new)
    → ((c : ℕ) → ((chain : Chain) → c ≢ number o chain) → list c ≡ lists_of objects c) → list ≡ lists_of (update objects o new)
lists_replaced objects o new list own others =
    fun_ext
    (by_number (λ c. list c ≡ lists_of (update objects o new) c)
    (λ p chain. either_way (equal? p o) (λ q. rw (q, list_at (update objects o new) o chain, update_same objects o new) (own chain))
    (λ away. others (number p chain) (λ chain'. objects_apart o p chain chain' away)
    ∙ rw (list_at (update objects o new) p chain, list_at objects p chain, update_other objects o new p away))))

-- Who stays before whom in a chain: in the entry chain those of the same rank or a higher one, in the others everybody.
abbrev pub joining : (ℕ → ℕ) → Chain → ℕ → ℕ
joining rank Chain.Entry n = rank n
joining rank Chain.Contention n = 0
joining rank Chain.Waiting n = 0

abbrev pub order : (ℕ → ℕ) → Chain → ℕ → ℕ → Bool
order rank chain x n = leb (joining rank chain n) (rank x)

-- What the work of `thread` at object o on chains does to the lists, and to the links; `goes` says who is let out, by these ranks threads are queued.
module _ (rank : ℕ → ℕ) (goes : ℕ → Bool) (thread o : ℕ) where
  abbrev pub work_lists : ChainWork → (ℕ → List ℕ) → ℕ → List ℕ
  work_lists Stay list = list
  work_lists (Join chain) list = join_lists (order rank chain) (number o chain) thread list
  work_lists (JoinAndHand chain) list = join_lists (order rank chain) (number o chain) thread (leave_lists (number o Chain.Entry) list)
  work_lists Hand list = leave_lists (number o Chain.Entry) list
  work_lists (Move from First) list = shift_lists (order rank Chain.Entry) (number o from) (number o Chain.Entry) list
  work_lists (Move from All) list = move_lists (order rank Chain.Entry) (number o from) (number o Chain.Entry) list
  work_lists MoveAndLetOut list =
      drop_lists goes (number o Chain.Entry) (move_lists (order rank Chain.Entry) (number o Chain.Contention) (number o Chain.Entry) list)
  work_lists (SendBack owner) list = list

  abbrev pub work_links : ChainWork → Links → Links
  work_links Stay links = links
  work_links (Join chain) links = join_links thread_limit (order rank chain) (number o chain) thread links
  work_links (JoinAndHand chain) links = join_links thread_limit (order rank chain) (number o chain) thread (leave_links (number o Chain.Entry) links)
  work_links Hand links = leave_links (number o Chain.Entry) links
  work_links (Move from First) links = shift_links thread_limit (order rank Chain.Entry) (number o from) (number o Chain.Entry) links
  work_links (Move from All) links = move_links thread_limit (order rank Chain.Entry) (number o from) (number o Chain.Entry) links
  work_links MoveAndLetOut links =
      drop_links thread_limit goes (number o Chain.Entry) (move_links thread_limit (order rank Chain.Entry) (number o Chain.Contention) (number o Chain.Entry) links)
  work_links (SendBack owner) links = links

-- thread n can join a chain: it is one, it is in none, and the chains, also another of an object with its entry chain, are short enough to walk along
pub record Room (n : ℕ) (list : ℕ → List ℕ) : Type 0 where
  pub real : n ≢ 0
  pub out : (c : ℕ) → count n (list c) ≡ 0
  pub short : (c : ℕ) → length (list c) ≤ thread_limit
  pub both_short : (o : ℕ) (from : Chain) → length (update list (number o from) [] (number o Chain.Entry)) + length (list (number o from)) ≤ thread_limit

-- after every work the links stand for the lists
pub represent_work : (rank : ℕ → ℕ) (goes : ℕ → Bool) (thread o : ℕ) (links : Links) (list : ℕ → List ℕ) → LinksRepresent links list → Room thread list → (work : ChainWork)
    → LinksRepresent (work_links rank goes thread o work links) (work_lists rank goes thread o work list)
represent_work rank goes thread o links list represented room Stay = represented
represent_work rank goes thread o links list represented room (Join chain) =
    represent_join links list represented thread_limit (order rank chain) (number o chain) thread (omega arith) (room.short _) room.real room.out
represent_work rank goes thread o links list represented room (JoinAndHand chain) =
    represent_join _ _ (represent_leave links list represented (number o Chain.Entry)) thread_limit (order rank chain) (number o chain) thread (omega arith)
    (omega (arith, leave_short list (number o Chain.Entry) (number o chain), room.short (number o chain))) room.real
    (λ c. omega (arith, leave_within list (number o Chain.Entry) c thread, room.out c))
represent_work rank goes thread o links list represented room Hand = represent_leave links list represented (number o Chain.Entry)
represent_work rank goes thread o links list represented room (Move from First) =
    represent_shift links list represented thread_limit (order rank Chain.Entry) _ _ (omega arith) (room.short _)
represent_work rank goes thread o links list represented room (Move from All) =
    represent_move links list represented thread_limit (order rank Chain.Entry) _ _ (room.short _) (omega (arith, room.both_short o from))
represent_work rank goes thread o links list represented room MoveAndLetOut =
    represent_drop _ _
    (represent_move links list represented thread_limit (order rank Chain.Entry) _ _ (room.short _) (omega (arith, room.both_short o Chain.Contention)))
    thread_limit goes (number o Chain.Entry)
    (rw (update_same (update list (number o Chain.Contention) []) (number o Chain.Entry) _)
    (omega (
      arith,
      room.both_short o Chain.Contention,
      length_queue (order rank Chain.Entry) (update list (number o Chain.Contention) [] (number o Chain.Entry)) (list (number o Chain.Contention)),
    )))
represent_work rank goes thread o links list represented room (SendBack owner) = represented

-- The lists of the object after a work, as leaving, joining, moving and dropping out give them. Only here is `enter_queue_all` opened.
pub first_is_head : (queue : List ℕ) → first_of queue ≡ head queue
first_is_head [] = refl
first_is_head (first ∷ rest) = refl

rest_is_tail : (queue : List ℕ) → left First queue ≡ tail queue
rest_is_tail [] = refl
rest_is_tail (first ∷ rest) = refl

first_is_one : (queue : List ℕ) → taken First queue ≡ take 1 queue
first_is_one [] = refl
first_is_one (first ∷ rest) = refl

pub entered_all : (rank : ℕ → ℕ) (entry threads : List ℕ) → enter_queue_all rank entry threads ≡ queue_by (order rank Chain.Entry) entry threads
unfolding enter_queue_all
entered_all rank entry threads = refl

joined_end : (chain : Chain) (rank : ℕ → ℕ) (list : List ℕ) (thread : ℕ) → join chain rank list thread ≡ queue_by (order rank chain) list (thread ∷ [])
joined_end Chain.Entry rank list thread = entered_all rank list (thread ∷ [])
joined_end Chain.Contention rank list thread = sym (insert_last (λ x. order rank Chain.Contention x thread) thread list (λ x. le-leb 0 (rank x) (omega arith)))
joined_end Chain.Waiting rank list thread = sym (insert_last (λ x. order rank Chain.Waiting x thread) thread list (λ x. le-leb 0 (rank x) (omega arith)))

-- another list for one chain leaves the others
pub chain_with : (chain other : Chain) (o : ListObject) (list : List ℕ)
    → chain_of other (with_chain chain o list) ≡ pick (eqb (place_of other) (place_of chain)) list (chain_of other o)
chain_with = each_chain _ (each_chain _ (search), each_chain _ (search), each_chain _ (search))

pub chain_handed : (chain : Chain) (o : ListObject)
    → chain_of chain (handed_object o) ≡ pick (eqb (place_of chain) (place_of Chain.Entry)) (tail o.entry) (chain_of chain o)
chain_handed = each_chain _ (search)

-- the works on lists are those on the object, of which the effect changes word, flag, holder and depth
module _ (objects : ℕ → ListObject) (states : ℕ → ThreadState) (thread o : ℕ) (effect : Effect) where
  abbrev now : ListObject
  now = effected thread effect (objects o)

  unmoved : (chain : Chain) → lists_of objects (number o chain) ≡ chain_of chain now
  unmoved = each_chain _ (list_at objects o Chain.Entry, list_at objects o Chain.Contention, list_at objects o Chain.Waiting)

  moved_chain : (from : Chain) (which : Taken) (chain : Chain)
      → let threads = chain_of from now in
      chain_of chain (moved_object from which now)
      ≡ pick (eqb (place_of chain) (place_of Chain.Entry))
      (queue_by (order now.rank Chain.Entry) (pick (eqb (place_of Chain.Entry) (place_of from)) (left which threads) now.entry) (taken which threads))
      (pick (eqb (place_of chain) (place_of from)) (left which threads) (chain_of chain now))
  moved_chain from which chain =
      let threads = chain_of from now in
      let rest = with_chain from now (left which threads) in
      chain_with Chain.Entry chain rest (enter_queue_all now.rank rest.entry (taken which threads))
      ∙ rw (chain_with from chain now (left which threads), entered_all now.rank rest.entry (taken which threads), chain_with from Chain.Entry now (left which threads))

  -- who is let out: the exits that are queued when the contenders have moved
  abbrev pub goes : ℕ → Bool
  goes t = is_queued_exit (moved_states Chain.Contention All states now t)

  pub all_moved : (from chain : Chain)
      → move_lists (order now.rank Chain.Entry) (number o from) (number o Chain.Entry) (lists_of objects) (number o chain) ≡ chain_of chain (moved_object from All now)
  all_moved from chain = simp (update_number, unmoved) (sym (moved_chain from All chain))

  own_lists : (work : ChainWork) (chain : Chain)
      → work_lists now.rank goes thread o work (lists_of objects) (number o chain) ≡ chain_of chain (object_after work thread states now)
  own_lists Stay chain = unmoved chain
  own_lists (Join into) chain = simp (update_number, unmoved, chain_with, joined_end)
  own_lists (JoinAndHand into) chain = simp (update_number, unmoved, chain_with, joined_end, chain_handed)
  own_lists Hand chain = simp (update_number, unmoved, chain_handed)
  own_lists (Move from First) chain = simp (update_number, unmoved) (simp (rest_is_tail, first_is_one) at (sym (moved_chain from First chain)))
  own_lists (Move from All) chain = all_moved from chain
  own_lists MoveAndLetOut chain =
      let queue = moved_object Chain.Contention All now in
      update_number (move_lists (order now.rank Chain.Entry) (number o Chain.Contention) (number o Chain.Entry) (lists_of objects)) o Chain.Entry chain _
      ∙ ((λ j. pick (eqb (place_of chain) (place_of Chain.Entry)) (failing goes (all_moved Chain.Contention Chain.Entry j)) (all_moved Chain.Contention chain j))
      ∙ sym (chain_with Chain.Entry chain queue (failing goes queue.entry)))
  own_lists (SendBack owner) chain = unmoved chain

  -- no work touches another object's chains
  other_lists : (work : ChainWork) (c : ℕ) → ((chain : Chain) → c ≢ number o chain) → work_lists now.rank goes thread o work (lists_of objects) c ≡ lists_of objects c
  other_lists Stay c away = refl
  other_lists (Join chain) c away = update_other _ _ _ c (away chain)
  other_lists (JoinAndHand chain) c away = update_other _ _ _ c (away chain) ∙ update_other _ _ _ c (away Chain.Entry)
  other_lists Hand c away = update_other _ _ _ c (away Chain.Entry)
  other_lists (Move from First) c away = update_other _ _ _ c (away Chain.Entry) ∙ update_other _ _ _ c (away from)
  other_lists (Move from All) c away = update_other _ _ _ c (away Chain.Entry) ∙ update_other _ _ _ c (away from)
  other_lists MoveAndLetOut c away =
      update_other _ _ _ c (away Chain.Entry) ∙ (update_other _ _ _ c (away Chain.Entry) ∙ update_other _ _ _ c (away Chain.Contention))
  other_lists (SendBack owner) c away = refl

  pub lists_work : (work : ChainWork) → work_lists now.rank goes thread o work (lists_of objects) ≡ lists_of (update objects o (object_after work thread states now))
  lists_work work =
      lists_replaced objects o (object_after work thread states now) (work_lists now.rank goes thread o work (lists_of objects)) (own_lists work) (other_lists work)
