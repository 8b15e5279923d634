-- An answer that is packed is what is said.
use Prim.Native.Nat.{ℕ}
use mathlib.Core.Path.{◌≡◌, refl}
use mathlib.Core.Bool.{Bool, true, false}
use Rattle.std.proofs.Common.{Ok, Err}
use Rattle.laws.specs.Choice.{pick}
use Rattle.lock_rules.specs.declared.event.Refusal.{Refusal}
use Rattle.lock_rules.specs.declared.event.Refusal.TheVariants.{NotSound}
use Rattle.table_questions.specs.Questions.{packed_of, said_of}

pub said_packed : (istable inrange : Bool) (refusal : Refusal) (value : ℕ)
    → packed_of (pick istable (pick inrange (Ok value) (Err refusal)) (Err NotSound)) ≡ said_of istable inrange refusal value
unfolding said_of
said_packed true true refusal value = refl
said_packed true false refusal value = refl
said_packed false inrange refusal value = refl

pub count_packed : (istable : Bool) (count : ℕ) → packed_of (pick istable (Ok count) (Err NotSound)) ≡ said_of istable true NotSound count
unfolding said_of
count_packed true count = refl
count_packed false count = refl
