-- Reading a function with one place replaced.
use Prim.Native.Nat.{ℕ}
use mathlib.Core.Path.{◌≡◌, refl, sym, fun_ext}
use mathlib.Core.Logic.{◌≢◌, ◌⊎◌, inl, inr}
use mathlib.Core.Bool.{Bool, true, false}
use lib.Dec.{eqb}
use borrow.Author.Tests.{eq-eqb, ne_eqb}
use Rattle.laws.specs.{Choice.pick, Update.update}
use Rattle.laws.proofs.Choice.{equal?}

pub update_same {ℓ} : {A : Type ℓ} (f : ℕ → A) (place : ℕ) (value : A) → update f place value place ≡ value
unfolding update
update_same f place value = rw (eq-eqb place place refl)

pub update_other {ℓ} : {A : Type ℓ} (f : ℕ → A) (place : ℕ) (value : A) (n : ℕ) → n ≢ place → update f place value n ≡ f n
unfolding update
update_other f place value n away = rw (ne_eqb n place away)

-- the value that stood there before
pub update_id {ℓ} : {A : Type ℓ} (f : ℕ → A) (place : ℕ) (value : A) → f place ≡ value → update f place value ≡ f
update_id f place value e = fun_ext (λ n. at n (equal? n place))
  where
    at : (n : ℕ) → (n ≡ place) ⊎ (n ≢ place) → update f place value n ≡ f n
    at n (inl q) = rw (q, update_same f place value) (sym e)
    at n (inr away) = update_other f place value n away

-- a function of each value
pub update_map : {A B : Type 0} (each : A → B) (f : ℕ → A) (place : ℕ) (value : A) (n : ℕ)
    → each (update f place value n) ≡ update (λ m. each (f m)) place (each value) n
unfolding update
update_map each f place value n = at (eqb n place)
  where
    at : (here : Bool) → each (pick here value (f n)) ≡ pick here (each value) (each (f n))
    at true = refl
    at false = refl
