-- What was written: parts of a text one behind the other, and texts one behind the other.
use Rattle.std.proofs.Common.{ℕ, ◌≡◌, ◌≤◌, ◌+◌, ◌-◌, List, [], ◌++◌, Bool, false, length, take, drop, refl, sym, ap, ◌∙◌, subst, arith, length-append, length-drop}
use lib.Seq.{drop-drop, take_all, take-add, take-append-add}
use Rattle.std.specs.Prelude.{Option, Result, is_err}
use Rattle.std.specs.Io.KnownBytes.{Appends}
use Rattle.std.proofs.KnownBytes.{Appends-nil, Appends-trans}
use Rattle.replay_program.specs.declared.moving.Unwritten.{Unwritten}
use Rattle.replay_program.specs.Run.{taken, WritesAll, Written}

-- what is left of the bytes stands at their end, and what stands before it was written
pub record WrittenSoFar (before after : Option (List ℕ)) (bytes rest : List ℕ) : Type 0 where
  pub within : length rest ≤ length bytes
  pub rest_place : drop (length bytes - length rest) bytes ≡ rest
  pub wrote : Appends before after (take (length bytes - length rest) bytes)

pub written_first : (before : Option (List ℕ)) (bytes : List ℕ) → WrittenSoFar before before bytes bytes
written_first before bytes =
    let none : length bytes - length bytes ≡ 0 = omega arith in
    record {
      within = omega arith;
      rest_place = ap (λ (n : ℕ). drop n bytes) none;
      wrote = subst (λ (n : ℕ). Appends before before (take n bytes)) (sym none) (Appends-nil before);
    }

pub written_next : {before now after : Option (List ℕ)} {bytes rest : List ℕ} (count : ℕ) → WrittenSoFar before now bytes rest → count ≤ length rest
    → Appends now after (take count rest) → WrittenSoFar before after bytes (take (length rest - count) (drop count rest))
written_next {before} {now} {after} {bytes} {rest} count so_far fits more =
    let same : take (length rest - count) (drop count rest) ≡ drop count rest = take_all (length rest - count) (drop count rest) (simp (length-drop) (omega arith)) in
    let left : length (drop count rest) ≡ length rest - count = length-drop count rest in
    let start = length bytes - length rest in
    let further : length bytes - length (drop count rest) ≡ start + count = omega (arith, left, fits, so_far.within) in
    let joined : take start bytes ++ take count rest ≡ take (length bytes - length (drop count rest)) bytes =
    ap (λ (x : List ℕ). take start bytes ++ take count x) (sym so_far.rest_place) ∙ sym (take-add start count bytes)
    ∙ ap (λ (n : ℕ). take n bytes) (sym further) in
    subst (λ (x : List ℕ). WrittenSoFar before after bytes x) (sym same) (record {
      within = omega (arith, left, so_far.within);
      rest_place = ap (λ (n : ℕ). drop n bytes) further ∙ sym (drop-drop count start bytes) ∙ ap (drop count) so_far.rest_place;
      wrote = subst (Appends before after) joined (Appends-trans before now after _ _ so_far.wrote more);
    })

-- nothing was printed yet
pub written_none : (failed : Bool) (before : Option (List ℕ)) → Written failed before before []
written_none failed before = record { taken = 0; within = omega arith; appended = Appends-nil before; whole = λ wrote. refl }

-- what the writes took of some bytes
pub written_of : {before after : Option (List ℕ)} {bytes : List ℕ} {r : Result Unit Unwritten} → WritesAll (length bytes) r
    → Appends before after (take (taken (length bytes) r) bytes) → Written (is_err r) before after bytes
written_of {bytes = bytes} {r} moved wrote = record { taken = taken (length bytes) r; within = moved.within; appended = wrote; whole = moved.whole }

-- one text behind another of which all was written
pub written_both : {failed : Bool} {before now after : Option (List ℕ)} {first second : List ℕ} → Written false before now first → Written failed now after second
    → Written failed before after (first ++ second)
written_both {failed} {before} {now} {after} {first} {second} a b =
    let all : take a.taken first ≡ first = take_all a.taken first (omega (arith, a.whole refl)) in
    let count = a.whole refl in
    let part : first ++ take b.taken second ≡ take (length first + b.taken) (first ++ second) = sym (take-append-add first second b.taken) in
    record {
      taken = length first + b.taken;
      within = omega (arith, length-append first second, b.within);
      appended = subst (Appends before after) (ap (λ (x : List ℕ). x ++ take b.taken second) all ∙ part) (Appends-trans before now after _ _ a.appended b.appended);
      whole = λ wrote. omega (arith, length-append first second, b.whole wrote);
    }
