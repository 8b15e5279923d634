-- How large a table can be (document 01, "The table"), and how high a rank.
use Rattle.std.specs.Prelude.{ℕ}

abbrev pub thread_limit : ℕ
thread_limit = 32

abbrev pub object_limit : ℕ
object_limit = 64

-- the highest rank (document 02, L8)
abbrev pub rank_limit : ℕ
rank_limit = 3
