-- How each rule ends: accepted, or refused with the number of the first row of its list that applies. A rule that refuses with 18 or 19 leaves the
-- object as it is in sight and its thread idle.
use Prim.Native.Nat.{ℕ, ◌+◌, ◌≤◌}
use mathlib.Core.Path.{◌≡◌, refl, sym, ◌∙◌}
use mathlib.Core.Logic.{◌≢◌}
use mathlib.Core.Bool.{Bool, true, false, not}
use native.Mathlib.Omega.{arith}
use lib.Dec.{eqb, ltb}
use borrow.Author.Tests.{eq-eqb, ne_eqb}
use Rattle.laws.specs.Choice.{pick, both}
use Rattle.laws.proofs.Choice.{Equal, equal, Below, below}
use Rattle.lock_rules.specs.Actions.{keep_object, finish_depth, become_holder}
use Rattle.lock_word.specs.Depth.{depth_limit}
use Rattle.lock_rules.specs.Rules.{owner_only, go_in_again, go_in}
use Rattle.lock_rules.specs.declared.OnwardStep.TheVariants.{ToCheck}
use Rattle.lock_rules.specs.declared.Doing.TheVariants.{EnterCheck}
use Rattle.lock_rules.specs.declared.ThreadState.TheVariants.{Idle, Queued}
use Rattle.lock_rules.specs.declared.WordChange.TheVariants.{Unchanged}
use Rattle.std.specs.Prelude.{Option, Some, None}
use Rattle.lock_rules.specs.declared.{Sight.Sight, Answer.Answer, Effect.Effect}
use Rattle.chains.specs.declared.named.Chain.{Chain}
use Rattle.lock_rules.specs.declared.ChainWork.TheVariants.{Stay, Join}
use Rattle.lock_rules.specs.declared.Answer.TheVariants.{GoneOn, Finished, Parked, NotOwner, TooDeep, NoRule}
use Rattle.lock_refusals.specs.Refusals.{unruled}

-- the operation ends with the object as it is in sight
abbrev pub idle_again : Sight → Answer → Effect
idle_again sight answer =
    record {
      work = Stay;
      state = Idle;
      word = Unchanged;
      flag = sight.flag;
      holder = sight.holder;
      depth = sight.depth;
      answer = answer;
      commits = true;
    }

-- what an action is refused with, 0 if it is not, and what it does then
abbrev pub EndsAs : Sight → Effect → Answer → ℕ → Type 0
EndsAs sight effect GoneOn number = number ≡ 0
EndsAs sight effect (Finished woken) number = number ≡ 0
EndsAs sight effect Parked number = number ≡ 0
EndsAs sight effect NotOwner number = (number ≡ 18) × (effect ≡ idle_again sight NotOwner)
EndsAs sight effect TooDeep number = (number ≡ 19) × (effect ≡ idle_again sight TooDeep)
EndsAs sight effect NoRule number = ⊥

abbrev pub Ends : Sight → Option Effect → ℕ → Type 0
Ends sight None number = number ≡ 20
Ends sight (Some effect) number = EndsAs sight effect effect.answer number

-- A rule that is accepted or has no case: 20 is all that it can be refused with.
abbrev pub Accepts : Answer → Type 0
Accepts GoneOn = Unit {0}
Accepts (Finished woken) = Unit {0}
Accepts Parked = Unit {0}
Accepts NotOwner = ⊥
Accepts TooDeep = ⊥
Accepts NoRule = ⊥

abbrev pub Ordinary : Option Effect → Type 0
Ordinary None = Unit {0}
Ordinary (Some effect) = Accepts effect.answer

pub ordinary_ends : (sight : Sight) (action : Option Effect) → Ordinary action → Ends sight action (pick (unruled action) 20 0)
ordinary_ends sight None ordinary = refl
ordinary_ends sight (Some effect) ordinary = at effect.answer ordinary
  where
    at : (answer : Answer) → Accepts answer → EndsAs sight effect answer 0
    at GoneOn accepts = refl
    at (Finished woken) accepts = refl
    at Parked accepts = refl
    at NotOwner never = absurd never
    at TooDeep never = absurd never
    at NoRule never = absurd never

-- either side of a test
pub either_ordinary : (test : Bool) (x y : Option Effect) → Ordinary x → Ordinary y → Ordinary (pick test x y)
either_ordinary true x y first second = first
either_ordinary false x y first second = second

module _ (thread : ℕ) (sight : Sight) where
  -- 18, for the rules of the owner, before 20
  pub owner_ends : (owner : ℕ) (action : Option Effect) → (owner ≡ thread → Ordinary action)
      → let decided = owner_only thread sight owner action in
      Ends sight decided (pick (not (eqb owner thread)) 18 (pick (unruled decided) 20 0))
  owner_ends owner action ordinary = at (eqb owner thread) (equal owner thread)
    where
      at : (owns : Bool) → Equal owns owner thread
          → let decided = pick owns action (Some (idle_again sight NotOwner)) in
          Ends sight decided (pick (not owns) 18 (pick (unruled decided) 20 0))
      at true same = ordinary_ends sight action (ordinary same)
      at false other = (refl, refl)

  -- 19, for an enter that goes in, before 20
  pub go_in_ends : thread ≢ 0 → sight.depth ≤ depth_limit
      → let decided = go_in thread sight ToCheck in
      Ends sight decided (pick (both (eqb sight.holder thread) (eqb sight.depth depth_limit)) 19 (pick (unruled decided) 20 0))
  unfolding go_in go_in_again
  go_in_ends some small = at (eqb sight.holder 0) (equal sight.holder 0) (eqb sight.holder thread) (equal sight.holder thread)
    where
      again : (none below? : Bool) → Equal none sight.depth 0 → Below below? sight.depth depth_limit
          → let decided = pick none None (pick below? (finish_depth sight (sight.depth + 1) 0) (Some (idle_again sight TooDeep))) in
          Ends sight decided (pick (eqb sight.depth depth_limit) 19 (pick (unruled decided) 20 0))
      again true below? none low = rw (ne_eqb sight.depth depth_limit (λ full. omega (arith, full, none))) refl
      again false true some low = rw (ne_eqb sight.depth depth_limit (λ full. omega (arith, full, low))) refl
      again false false some high =
          let full : sight.depth ≡ depth_limit = omega (arith, high, small) in
          rw (eq-eqb sight.depth depth_limit full) (refl, refl)

      at : (free : Bool) → Equal free sight.holder 0 → (own : Bool) → Equal own sight.holder thread
          → let decided = pick free (become_holder thread sight EnterCheck)
          (pick own (go_in_again sight ToCheck) (keep_object sight (Join Chain.Entry) (Queued ToCheck) Parked false)) in
          Ends sight decided (pick (both own (eqb sight.depth depth_limit)) 19 (pick (unruled decided) 20 0))
      at true free true own = absurd (some (sym own ∙ free))
      at true free false other = refl
      at false held true own = again (eqb sight.depth 0) (ltb sight.depth depth_limit) (equal sight.depth 0) (below sight.depth depth_limit)
      at false held false other = refl
