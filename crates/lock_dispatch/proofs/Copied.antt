-- Records copied one by one: copied out and back they leave the list as it was, which is what a refusal needs; how many are copied; and what is copied in for a run.
use Prim.Native.Nat.{ℕ, zero, suc, ◌<◌, ◌≤◌}
use mathlib.Core.Path.{◌≡◌, refl, sym, ◌∙◌, ap}
use mathlib.Core.Logic.{⊎_elim}
use mathlib.Core.Bool.{Bool, true, false}
use mathlib.Core.List.{List, ◌++◌}
use native.Mathlib.Omega.{arith}
use native.Mathlib.Nat.{zero-add}
use Rattle.std.specs.Prelude.{min}
use Rattle.std.proofs.lemmas.List.{set-get_or}
use lib.Dec.{ltb}
use lib.ListN.{length, get_or, set, take, drop, length-set}
use lib.Seq.{paste, paste-zero, paste-suc, get_or-set_same, get_or-set_other}
use Rattle.laws.specs.Choice.{pick}
use Rattle.laws.proofs.Choice.{Below, below, equal?}
use Rattle.dispatch_rules.specs.declared.ScriptCursor.{ScriptCursor}
use Rattle.dispatch_rules.specs.Script.{no_cursor}
use Rattle.lock_dispatch.specs.Lent.{copied, fitting, no_cursors, loaded, stored}

-- the list keeps its length
pub length_copied : (i : ℕ) (from to : List ScriptCursor) → length (copied i from to) ≡ length to
length_copied zero from to = refl
length_copied (suc i) from to = length-set (copied i from to) i (get_or from i no_cursor) ∙ length_copied i from to

-- a place that was copied
pub copied_at : (n i : ℕ) (from to : List ScriptCursor) → i < n → n ≤ length to → get_or (copied n from to) i no_cursor ≡ get_or from i no_cursor
copied_at zero i from to below fits = absurd (omega (arith, below))
copied_at (suc n) i from to below fits =
    ⊎_elim
    (λ same. ap (λ (k : ℕ). get_or (copied (suc n) from to) k no_cursor) same
    ∙ get_or-set_same (copied n from to) n (get_or from n no_cursor) no_cursor (let long = length_copied n from to in omega (arith, long, fits)) ∙ ap (λ (k : ℕ).
    get_or from k no_cursor) (sym same))
    (λ away. get_or-set_other (copied n from to) n i (get_or from n no_cursor) no_cursor away ∙ copied_at n i from to (omega (arith, below, away)) (omega (arith, fits)))
    (equal? i n)

copied_same : (n i : ℕ) (list blank : List ScriptCursor) → i ≤ n → n ≤ length blank → n ≤ length list → copied i (copied n list blank) list ≡ list
copied_same n zero list blank below fits within = refl
copied_same n (suc i) list blank below fits within =
    ap (λ (l : List ScriptCursor). set l i (get_or (copied n list blank) i no_cursor)) (copied_same n i list blank (omega (arith, below)) fits within)
    ∙ ap (set list i) (copied_at n i list blank (omega (arith, below)) fits) ∙ set-get_or list i no_cursor

pub copied_back : (n : ℕ) (list blank : List ScriptCursor) → n ≤ length blank → n ≤ length list → copied n (copied n list blank) list ≡ list
copied_back n list blank fits within = copied_same n n list blank (omega arith) fits within

-- as many as fit in an array are not more than it holds, nor more than are lent
pub fitting_fits : (n : ℕ) → (fitting n ≤ 32) × (fitting n ≤ n)
unfolding fitting
fitting_fits n = at (ltb 32 n) (below 32 n)
  where
    at : (b : Bool) → Below b 32 n → (pick b 32 n ≤ 32) × (pick b 32 n ≤ n)
    at true over = (omega arith, omega (arith, over))
    at false under = (under, omega arith)

pub fitting_least : (n : ℕ) → min n 32 ≡ fitting n
unfolding fitting
fitting_least n = at (ltb 32 n) (below 32 n)
  where
    at : (b : Bool) → Below b 32 n → min n 32 ≡ pick b 32 n
    at true over = omega (arith, over)
    at false under = omega (arith, under)

-- copied one by one, or as a whole
pub copied_whole : (n : ℕ) (from to : List ScriptCursor) → n ≤ length from → n ≤ length to → take n from ++ drop n to ≡ copied n from to
copied_whole n from to some fits = ap (λ (k : ℕ). take n from ++ drop k to) (sym (zero-add n)) ∙ sym (pasted n some fits)
  where
    pasted : (i : ℕ) → i ≤ length from → i ≤ length to → copied i from to ≡ paste to 0 from i
    pasted zero some fits = paste-zero to 0 from
    pasted (suc i) some fits =
        ap (λ (l : List ScriptCursor). set l i (get_or from i no_cursor)) (pasted i (omega (arith, some)) (omega (arith, fits)))
        ∙ ap (λ (k : ℕ). set (paste to 0 from i) k (get_or from i no_cursor)) (sym (zero-add i))
        ∙ paste-suc to 0 from i no_cursor (omega (arith, fits)) (omega (arith, some))

-- what a run gets, and the records after it
pub loads : (lent : List ScriptCursor) {n : ℕ} {front : List ScriptCursor} → n ≡ min (length lent) 32 → front ≡ take n lent → front ++ drop n no_cursors ≡ loaded lent
loads lent {n} {front} least copied_in =
    let count : n ≡ fitting (length lent) = least ∙ fitting_least (length lent) in
    let (few, some) = fitting_fits (length lent) in
    ap (λ (l : List ScriptCursor). l ++ drop n no_cursors) copied_in ∙ ap (λ (k : ℕ). take k lent ++ drop k no_cursors) count
    ∙ copied_whole (fitting (length lent)) lent no_cursors some few

pub stores : (lent cursors : List ScriptCursor) {n : ℕ} {front : List ScriptCursor} → length cursors ≡ 32 → n ≡ min (length lent) 32 → front ≡ take n cursors
    → front ++ drop n lent ≡ stored lent cursors
stores lent cursors {n} {front} long least copied_back =
    let count : n ≡ fitting (length lent) = least ∙ fitting_least (length lent) in
    let (few, some) = fitting_fits (length lent) in
    ap (λ (l : List ScriptCursor). l ++ drop n lent) copied_back ∙ ap (λ (k : ℕ). take k cursors ++ drop k lent) count
    ∙ copied_whole (fitting (length lent)) cursors lent (omega (arith, few, long)) some
