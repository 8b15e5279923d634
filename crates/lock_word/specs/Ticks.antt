-- How long a timed wait can be (document 02, L1).
use Rattle.std.specs.Prelude.{ℕ}

-- "a limit in ticks, 1 to 65,535"
abbrev pub tick_limit : ℕ
tick_limit = 65535
