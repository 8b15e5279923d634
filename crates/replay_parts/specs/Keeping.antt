-- A buffer with a part of it moved to the front.
use Rattle.std.specs.Prelude.{ℕ, ◌-◌, List, ◌++◌, ltb, length, take, drop}
use Rattle.laws.specs.Choice.{pick}

-- `count` bytes from `from` on, and behind them the bytes that stood there
abbrev pub move_down : ℕ → ℕ → List ℕ → List ℕ
move_down from count bytes = take count (drop from bytes) ++ drop count bytes

-- the bytes from `from` up to `to`, if there are such
unfoldable pub keep_rest : ℕ → ℕ → List ℕ → List ℕ
keep_rest from to bytes = pick (ltb (length bytes) to) bytes (pick (ltb to from) bytes (move_down from (to - from) bytes))
