-- Where the code finds the record of a number in its array. A number that has no record gets the first place; who reads there makes no use of it.
use Rattle.std.specs.Prelude.{ℕ, ◌-◌, eqb, ltb}
use Rattle.laws.specs.Choice.{pick}
use Rattle.lock_table.specs.Limits.{thread_limit, object_limit}

unfoldable pub place_within : ℕ → ℕ → ℕ
place_within limit number = pick (eqb number 0) 0 (pick (ltb limit number) 0 (number - 1))

abbrev pub thread_place : ℕ → ℕ
thread_place number = place_within thread_limit number

abbrev pub object_place : ℕ → ℕ
object_place number = place_within object_limit number
