-- Chains joined at their ends: one hung behind another, and one that grows thread by thread (document 01, "The table": threads join at the end).
use Rattle.std.specs.Prelude.{ℕ, zero, suc, eqb}
use Rattle.laws.specs.Choice.{pick}
use Rattle.laws.specs.Update.{update}
use Rattle.chains.specs.declared.ends.Ends.{Ends}

-- the last thread of a chain that has one
unfoldable pub last_of : ℕ → (ℕ → ℕ) → ℕ → ℕ
last_of zero next first = first
last_of (suc fuel) next first = pick (eqb (next first) 0) first (last_of fuel next (next first))

-- chain `back` hung behind chain `front`: the first thread of the two together, and the next indexes.
-- One thread joins as a chain of its own; all threads of a chain move as that chain.
abbrev pub first_with : ℕ → ℕ → ℕ
first_with front back = pick (eqb front 0) back front

unfoldable pub linked : ℕ → (ℕ → ℕ) → ℕ → ℕ → ℕ → ℕ
linked fuel next front back = pick (eqb front 0) next (update next (last_of fuel next front) back)

-- a chain that grows at its end, by its first and its last thread
abbrev pub no_ends : Ends
no_ends = record { first = 0; last = 0 }

abbrev pub grown : Ends → ℕ → Ends
grown ends thread = record { first = first_with ends.first thread; last = thread }
