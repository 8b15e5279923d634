-- Parts passed on one after another, and the rest that is left where nothing more is taken.
use Prim.Native.Nat.{ℕ, ◌≤◌, ◌<◌}
use mathlib.Core.Path.{◌≡◌, refl, ap, sym, ◌∙◌}
use mathlib.Core.Logic.{inl, inr}
use mathlib.Core.Bool.{Bool, false}
use mathlib.Core.List.{List, [], ◌++◌, append_assoc}
use native.Mathlib.Omega.{arith}
use lib.ListN.{length, take, drop}
use Rattle.laws.proofs.Choice.{false≢true}
use Rattle.replay_lines.specs.Cutting.{line_end, line_limit}
use Rattle.replay_parts.specs.Replay.{Replay, rest_output}
use Rattle.replay_parts.specs.Part.{end_room, Fed, Passed, Settled}

unfoldable pub passed_none : {S : Type 0} (replay : Replay S) (session : S) (inside last : Bool) (input : List ℕ)
    → Passed replay session inside last input session inside input
passed_none replay session inside last input = record { printed = []; prints = λ tail follows. refl }

module _ {S : Type 0} {replay : Replay S} {session session' : S} {inside inside' : Bool} {input rest : List ℕ} where
  -- what a part more prints stands behind what was printed
  unfoldable pub passed_fed : {last : Bool} {out : List ℕ} {session'' : S} {inside'' : Bool} {used wrote : ℕ}
      → Passed replay session inside last input session' inside' rest
      → Fed replay session' inside' last rest out session'' inside'' used wrote
      → Passed replay session inside last input session'' inside'' (drop used rest)
  passed_fed {out = out} {session''} {inside''} {used} {wrote} passed fed = record {
    printed = passed.printed ++ take wrote out;
    prints = λ tail follows.
        passed.prints tail follows ∙ ap (λ (x : List ℕ). passed.printed ++ x) (fed.prints tail follows)
        ∙ sym (append_assoc passed.printed (take wrote out) (rest_output replay session'' inside'' (drop used rest ++ tail)));
  }

  -- the part that was passed on before stands in front
  unfoldable pub passed_both : {last : Bool} {session'' : S} {inside'' : Bool} {rest'' : List ℕ}
      → Passed replay session inside false input session' inside' rest
      → Passed replay session' inside' last rest session'' inside'' rest''
      → Passed replay session inside last input session'' inside'' rest''
  passed_both {session'' = session''} {inside''} {rest''} first second = record {
    printed = first.printed ++ second.printed;
    prints = λ tail follows.
        first.prints tail false≢true ∙ ap (λ (x : List ℕ). first.printed ++ x) (second.prints tail follows)
        ∙ sym (append_assoc first.printed second.printed (rest_output replay session'' inside'' (rest'' ++ tail)));
  }

  -- bytes that come behind the input come behind its rest
  unfoldable pub passed_more : (more : List ℕ) → Passed replay session inside false input session' inside' rest
      → Passed replay session inside false (input ++ more) session' inside' (rest ++ more)
  passed_more more passed = record {
    printed = passed.printed;
    prints = λ tail follows.
        ap (rest_output replay session inside) (append_assoc input more tail) ∙ passed.prints (more ++ tail) false≢true
        ∙ ap (λ (x : List ℕ). passed.printed ++ rest_output replay session' inside' x) (sym (append_assoc rest more tail));
  }

-- where a part is left untouched nothing more can be taken of it
pub settled : {S : Type 0} {replay : Replay S} {session session' : S} {inside inside' last : Bool} {input out : List ℕ} {used wrote : ℕ}
    → Fed replay session inside last input out session' inside' used wrote → end_room ≤ length out → used ≡ 0
    → Settled replay session' inside' last input
settled {input = input} fed room none = record {
  no_line = let line : 0 < line_end input → ⊥ = λ some. let moved = fed.moves (omega arith) (inl some) in omega arith in omega (arith, line);
  short = let long : line_limit < length input → ⊥ = λ more. let moved = fed.moves (omega arith) (inr more) in omega arith in omega (arith, long);
  silent = λ last. fed.finishes last room none;
}
