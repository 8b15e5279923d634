-- How deep an object can be owned (document 01, "The table").
use Rattle.std.specs.Prelude.{ℕ}

-- "Returned first": enter at this depth is 19
abbrev pub depth_limit : ℕ
depth_limit = 65535
