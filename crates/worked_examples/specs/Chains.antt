-- Examples of chains: one hung behind another (document 01, "The table": threads join at the end).
use Rattle.std.specs.Prelude.{ℕ, ◌≡◌, [], ◌∷◌}
use Rattle.laws.specs.Update.{update}
use Rattle.chains.specs.Chain.{members}
use Rattle.chains.specs.Joining.{linked}

-- two chains: thread 2 stands behind thread 1, and thread 4 behind thread 3
abbrev pub apart : ℕ → ℕ
apart = update (update (λ thread. 0) 1 2) 3 4

-- the second hung behind the first
abbrev pub together : ℕ → ℕ
together = linked 5 apart 1 3

pub record ChainExamples : Type 0 where
  pub first : members 5 apart 1 ≡ 1 ∷ 2 ∷ []
  pub second : members 5 apart 3 ≡ 3 ∷ 4 ∷ []
  -- all four in order: threads join behind the last one, not behind the first; and it is the second chain that is hung behind the first
  pub whole : members 5 together 1 ≡ 1 ∷ 2 ∷ 3 ∷ 4 ∷ []
