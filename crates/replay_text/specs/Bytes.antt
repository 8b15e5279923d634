-- The bytes that lines are made of, in ASCII: those printed, and those that the line reader shares.
use Rattle.std.specs.Prelude.{ℕ}

abbrev pub newline : ℕ
newline = 10

abbrev pub space : ℕ
space = 32

-- the digits 0 to 9 follow each other
abbrev pub digit_zero : ℕ
digit_zero = 48

-- so do the letters a to f
abbrev pub lower_a : ℕ
lower_a = 97
