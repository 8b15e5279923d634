-- The walk that parts a chain, on records: the threads that it writes are changed, the next indexes part their chain, and its set is of those that go.
use Prim.Native.Nat.{ℕ, zero, suc, ◌≤◌, ◌<◌}
use mathlib.Core.Path.{◌≡◌, refl, sym, ap, ◌∙◌}
use mathlib.Core.Logic.{◌≢◌, ◌⊎◌, inl, inr}
use mathlib.Core.Bool.{Bool, true, false}
use mathlib.Core.List.{List, [], ◌∷◌, ◌++◌}
use native.Mathlib.Omega.{arith}
use lib.Dec.{eqb}
use lib.ListN.{length}
use borrow.Author.Tests.{eq-eqb, ne_eqb, le-leb}
use Rattle.laws.specs.{Choice.pick, Update.update, Count.count}
use Rattle.laws.proofs.Choice.{either_way, equal?, by_test}
use Rattle.laws.proofs.Update.{update_other, update_id}
use Rattle.laws.proofs.Count.{count_none, count_same, count_other, count_append}
use Rattle.laws.proofs.Filter.{passing}
use Rattle.chains.specs.Joining.{no_ends}
use Rattle.chains.proofs.Listed.{Chain, chain_head, last_member, chain_first_once}
use Rattle.chains.proofs.Parting.{Parted, behind, part, end, Midway, part_start, midway_passes, midway_fails}
use Rattle.chains.proofs.Walk.{walk}
use Rattle.lock_rules.specs.declared.ThreadState.{ThreadState}
use Rattle.lock_rules.proofs.Tables.{ListThread}
use Rattle.lock_table.specs.{Limits.thread_limit, Record.with_next}
use Rattle.lock_table.specs.Access.{thread_at, set_thread}
use Rattle.lock_table.specs.declared.record.{ThreadRecord.ThreadRecord, Table.Table}
use Rattle.lock_table.proofs.Records.{set_thread_out}
use Rattle.lock_perform.specs.Parting.{no_parting, last_behind, taken_with, passed, part_chain}
use Rattle.lock_perform.specs.Parting.{PartedChain}
use Rattle.lock_perform.specs.declared.parting.Parting.{Parting}
use Rattle.lock_perform.proofs.ThreadSets.{set_with}
use Rattle.lock_records.proofs.Represents.{thread_record, record_is}
use Rattle.lock_records.proofs.Moves.{change, Moves, Inside, moves_set}

-- 0, or a number that has a record
abbrev pub NoneOrIn : ℕ → Type 0
NoneOrIn n = (n ≡ 0) ⊎ ((0 < n) × (n ≤ thread_limit))

-- the last of a list is one of these
end_in : (list : List ℕ) → Inside list → NoneOrIn (end list)
end_in [] inside = inl refl
end_in (x ∷ rest) inside = inr (inside _ (last_member x rest))

none_in : Inside []
none_in n h = absurd (omega (arith, h, count_none n))

grown_in : (list : List ℕ) (x : ℕ) → Inside list → (0 < x) × (x ≤ thread_limit) → Inside (list ++ (x ∷ []))
grown_in list x inside here n h =
    either_way (equal? n x) (λ e. rw e here) (λ away. inside n (omega (arith, h, count_append n list (x ∷ []), count_other n x [] away, count_none n)))

-- the last thread of either chain so far is one too
ends_in : {together : Bool} {next : ℕ → ℕ} {at : ℕ} {list : List ℕ} (parting : Parting) (lefts takens : List ℕ)
    → Midway together next parting.left parting.taken at lefts takens list → Inside lefts → Inside takens → (b : Bool) → NoneOrIn (last_behind parting b)
unfolding last_behind
ends_in {together} parting lefts takens midway left_in taken_in true =
    rw midway.leave.chained.ended (end_in (pick together takens []) (by_test Inside together (λ all. taken_in) (λ alone. none_in)))
ends_in parting lefts takens midway left_in taken_in false = rw midway.stay.ended (end_in lefts left_in)

-- a thread linked behind the last of a chain, if there is one
pub moves_link : (given : ℕ → ThreadRecord) (before t : Table) (threads : ℕ → ListThread) (next : ℕ → ℕ) → Moves given before t threads next → (last x : ℕ)
    → NoneOrIn last → Moves given before (set_thread t last (with_next (thread_at t last) x)) threads (pick (eqb last 0) next (update next last x))
moves_link given before t threads next moves last x (inl none) =
    rw (eq-eqb last 0 none, set_thread_out t last (with_next (thread_at t last) x) (inl none)) moves
moves_link given before t threads next moves last x (inr (low, high)) =
    let same : with_next (thread_at t last) x ≡ thread_record last (threads last) x (given last) =
    ap (λ (thread : ThreadRecord). with_next thread x) (record_is given t threads next moves.written last) in
    rw (ne_eqb last 0 (λ e. omega (arith, e, low)), same)
    (rw (update_id threads last (threads last) refl) at (moves_set given before t threads next moves last low high (threads last) x))

-- what these functions make of the records of a list's threads: each goes if the test says so, and its record is then that of its state by f, in no
-- chain, whichever thread was behind it
abbrev pub Becomes : (ThreadRecord → Bool) → (ThreadRecord → Bool → ThreadRecord) → (ThreadState → ThreadState) → (ℕ → ThreadRecord) → (ℕ → ListThread) → (ℕ → Bool) → List ℕ
    → Type 0
Becomes goes after f given threads test list =
    (n : ℕ) → 0 < count n list → (link : ℕ)
    → let own = thread_record n (threads n) link (given n) in
    (goes own ≡ test n) × (after own (test n) ≡ thread_record n (change f (threads n)) 0 (given n))

-- the walk by them
module _ (goes : ThreadRecord → Bool) (after : ThreadRecord → Bool → ThreadRecord) (together : Bool) (f : ThreadState → ThreadState)
    (given : ℕ → ThreadRecord) (before : Table) where
  -- the rest goes on so when the first is changed
  becomes_later : (test : ℕ → Bool) (x : ℕ) (rest : List ℕ) (threads : ℕ → ListThread) (next : ℕ → ℕ) (at : ℕ) → Chain next at (x ∷ rest)
      → Becomes goes after f given threads test (x ∷ rest) → Becomes goes after f given (update threads x (change f (threads x))) test rest
  unfolding count
  becomes_later test x rest threads next at chain becomes n h =
      let away : n ≢ x = λ e. omega (arith, h, chain_first_once next at x rest chain, ap (λ (m : ℕ). count m rest) e) in
      rw (update_other threads x (change f (threads x)) n away) (becomes n (omega (arith, h)))

  -- the table when thread x has its record and the link to it
  abbrev linked_after : Table → ℕ → Parting → Bool → Table
  linked_after t x parting b =
      let alone = set_thread t x (after (thread_at t x) b) in
      let last = last_behind parting b in
      set_thread alone last (with_next (thread_at alone last) x)

  thread_moves : (t : Table) (threads : ℕ → ListThread) (next : ℕ → ℕ) → Moves given before t threads next → (x : ℕ) (parting : Parting) (b : Bool)
      → 0 < x → x ≤ thread_limit → NoneOrIn (last_behind parting b)
      → after (thread_record x (threads x) (next x) (given x)) b ≡ thread_record x (change f (threads x)) 0 (given x)
      → Moves given before (linked_after t x parting b) (update threads x (change f (threads x))) (behind next (last_behind parting b) x)
  thread_moves t threads next moves x parting b low high ends becomes =
      let same : after (thread_at t x) b ≡ thread_record x (change f (threads x)) 0 (given x) =
      ap (λ (thread : ThreadRecord). after thread b) (record_is given t threads next moves.written x) ∙ becomes in
      rw same (moves_link given before _ _ _ (moves_set given before t threads next moves x low high (change f (threads x)) 0) (last_behind parting b) x ends)

  -- what is shown of a walk; `out` are those that went
  abbrev Result : PartedChain → (ℕ → ListThread) → Parted → ℕ → List ℕ → Type 0
  Result walked threads p set out =
      Moves given before walked.table threads p.next × (walked.parting.left ≡ p.left) × (walked.parting.taken ≡ p.taken)
      × (walked.parting.set ≡ set_with set out)

  abbrev Walked : (ℕ → ℕ) → (ℕ → Bool) → List ℕ → ℕ → ℕ → Table → (ℕ → ListThread) → (ℕ → ℕ) → Parting → Type 0
  Walked next₀ test list fuel at t threads next parting =
      Result (part_chain goes after together fuel t parting at) (walk fuel next₀ (change f) threads at)
      (part fuel together test next parting.left parting.taken at) parting.set (passing test list)

  -- one turn, either way
  either_turn : (next₀ : ℕ → ℕ) (test : ℕ → Bool) (rest : List ℕ) (fuel x here : ℕ) (t : Table) (threads : ℕ → ListThread) (next : ℕ → ℕ) (parting : Parting) (b : Bool)
      → here ≡ next x
      → let changed = update threads x (change f (threads x)) in
      Moves given before (linked_after t x parting b) changed (behind next (last_behind parting b) x)
      → (Moves given before (linked_after t x parting true) changed (behind next parting.taken.last x)
      → Walked next₀ test rest fuel (next x) (linked_after t x parting true) changed (behind next parting.taken.last x) (passed together parting true x))
      → (Moves given before (linked_after t x parting false) changed (behind next parting.left.last x)
      → Walked next₀ test rest fuel (next x) (linked_after t x parting false) changed (behind next parting.left.last x) (passed together parting false x))
      → Result (part_chain goes after together fuel (linked_after t x parting b) (passed together parting b x) here) (walk fuel next₀ (change f) changed (next x))
      (pick b (part fuel together test (behind next parting.taken.last x) parting.left (taken_with together parting.taken x) (next x))
      (part fuel together test (behind next parting.left.last x) (passed together parting false x).left parting.taken (next x)))
      parting.set (pick b (x ∷ passing test rest) (passing test rest))
  unfolding last_behind passed
  either_turn next₀ test rest fuel x here t threads next parting true is moves goes_on stays = rw is (goes_on moves)
  either_turn next₀ test rest fuel x here t threads next parting false is moves goes_on stays = rw is (stays moves)

  -- what a walk along `list` from `at` on does, whoever has left or stayed before
  abbrev WalksOn : (ℕ → ℕ) → (ℕ → Bool) → List ℕ → ℕ → ℕ → Type 0
  WalksOn next₀ test list fuel at =
      (t : Table) (threads : ℕ → ListThread) (next : ℕ → ℕ) (parting : Parting) (lefts takens : List ℕ) → Moves given before t threads next
      → Midway together next parting.left parting.taken at lefts takens list → Inside lefts → Inside takens → Becomes goes after f given threads test list
      → Walked next₀ test list fuel at t threads next parting

  -- one thread, then the rest
  turn : (next₀ : ℕ → ℕ) (test : ℕ → Bool) (x : ℕ) (rest : List ℕ) (fuel at : ℕ) → Chain next₀ at (x ∷ rest) → (0 < x) × (x ≤ thread_limit)
      → WalksOn next₀ test rest fuel (next₀ x) → WalksOn next₀ test (x ∷ rest) (suc fuel) at
  unfolding part_chain part walk passed taken_with
  turn next₀ test x rest fuel at chain (low, high) on_rest t threads next parting lefts takens moves midway left_in taken_in becomes =
      let (Goes_by, changes) = becomes x (omega (arith, count_same x rest)) (next x) in
      let own = record_is given t threads next moves.written x in
      let asked : goes (thread_at t x) ≡ test x = ap goes own ∙ Goes_by in
      let on : (thread_at t x).next ≡ next x = ap (λ (thread : ThreadRecord). thread.next) own in
      let same : next₀ x ≡ next x = chain_head next₀ (next₀ x) rest chain.2 ∙ sym (chain_head next (next x) rest midway.rest.2) in
      let rest_becomes = becomes_later test x rest threads next at midway.rest becomes in
      rw (midway.rest.0, le-leb 1 x low, le-leb x thread_limit high, ne_eqb x 0 midway.rest.1, asked, same)
      (either_turn next₀ test rest fuel x (thread_at t x).next t threads next parting (test x) on
      (thread_moves t threads next moves x parting (test x) low high (ends_in parting lefts takens midway left_in taken_in (test x)) changes)
      (λ moved. (rw same at on_rest) _ _ _ (passed together parting true x) lefts (takens ++ (x ∷ [])) moved
      (midway_passes together next parting.left parting.taken at lefts takens x rest midway) left_in (grown_in takens x taken_in (low, high)) rest_becomes)
      (λ moved. (rw same at on_rest) _ _ _ (passed together parting false x) (lefts ++ (x ∷ [])) takens moved
      (midway_fails together next parting.left parting.taken at lefts takens x rest midway) (grown_in lefts x left_in (low, high)) taken_in rest_becomes))

  walks_on : (next₀ : ℕ → ℕ) (test : ℕ → Bool) (list : List ℕ) (fuel at : ℕ) → Chain next₀ at list → length list ≤ fuel → Inside list
      → WalksOn next₀ test list fuel at
  unfolding part_chain part walk count
  walks_on next₀ test [] zero at chain short inside t threads next parting lefts takens moves midway left_in taken_in becomes = (moves, refl, refl, refl)
  walks_on next₀ test [] (suc fuel) at chain short inside t threads next parting lefts takens moves midway left_in taken_in becomes =
      rw midway.rest (moves, refl, refl, refl)
  walks_on next₀ test (x ∷ rest) zero at chain short inside t threads next parting lefts takens moves midway left_in taken_in becomes =
      absurd (omega (arith, short))
  walks_on next₀ test (x ∷ rest) (suc fuel) at chain short inside t threads next parting lefts takens moves midway left_in taken_in becomes =
      turn next₀ test x rest fuel at chain (inside x (omega (arith, count_same x rest)))
      (walks_on next₀ test rest fuel (next₀ x) chain.2 (omega (arith, short)) (λ n h. inside n (omega (arith, h))))
      t threads next parting lefts takens moves midway left_in taken_in becomes

  -- the whole walk along a chain
  pub walk_moves : (next : ℕ → ℕ) (test : ℕ → Bool) (list : List ℕ) (fuel at : ℕ) → Chain next at list → length list ≤ fuel → Inside list
      → (t : Table) (threads : ℕ → ListThread) → Moves given before t threads next → Becomes goes after f given threads test list
      → let walked = part_chain goes after together fuel t no_parting at in
      let p = part fuel together test next no_ends no_ends at in
      Moves given before walked.table (walk fuel next (change f) threads at) p.next × (walked.parting.left ≡ p.left) × (walked.parting.taken ≡ p.taken)
      × (walked.parting.set ≡ set_with 0 (passing test list))
  walk_moves next test list fuel at chain short inside t threads moves =
      walks_on next test list fuel at chain short inside t threads next no_parting [] [] moves (part_start together next at list chain) none_in none_in
