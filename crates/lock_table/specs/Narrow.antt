-- A number as the records hold it, in eight bits. What the engine gives does not change by it (proofs/Narrowed.antt here, proofs/Narrow.antt in lock_engine).
use Rattle.std.specs.Prelude.{ℕ, ltb}
use Rattle.laws.specs.Choice.{pick}

unfoldable pub narrow_of : ℕ → ℕ
narrow_of number = pick (ltb 255 number) 255 number
