-- A run by its rounds: "The run ends .. after a round without a step" (document 02, L6).
use Rattle.std.specs.Prelude.{ℕ, zero, suc, ◌≡◌, true, false}
use Rattle.round_robin.specs.Dispatch.{Tried, Ran, followed, none, round}

module _ {W E : Type 0} (try : ℕ → W → Tried W E) (q threads : ℕ) where
  -- from this world a run of rounds that took a step, so many of them, and then one that took none
  abbrev pub LastIsStill : ℕ → W → Ran W E → Type 0
  LastIsStill zero world ran = let last = round try q threads world in (none last.steps ≡ true) × (ran ≡ last)
  LastIsStill (suc rounds) world ran =
      let first = round try q threads world in
      (none first.steps ≡ false) × ((rest : Ran W E) × LastIsStill rounds first.world rest × (ran ≡ followed first (λ after. rest)))
