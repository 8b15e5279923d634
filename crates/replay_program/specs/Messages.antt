-- What a read or a write that failed is named by on standard error, in ASCII.
use Rattle.std.specs.Prelude.{ℕ, Bool, List, [], ◌∷◌, ◌++◌}
use Rattle.laws.specs.Choice.{pick}

-- "report" or "replay"
abbrev pub program_name : Bool → List ℕ
program_name reporting = pick reporting (114 ∷ 101 ∷ 112 ∷ 111 ∷ 114 ∷ 116 ∷ []) (114 ∷ 101 ∷ 112 ∷ 108 ∷ 97 ∷ 121 ∷ [])

-- ": standard output"
abbrev pub behind_output : List ℕ
behind_output = 58 ∷ 32 ∷ 115 ∷ 116 ∷ 97 ∷ 110 ∷ 100 ∷ 97 ∷ 114 ∷ 100 ∷ 32 ∷ 111 ∷ 117 ∷ 116 ∷ 112 ∷ 117 ∷ 116 ∷ []

-- ": standard input"
abbrev pub behind_input : List ℕ
behind_input = 58 ∷ 32 ∷ 115 ∷ 116 ∷ 97 ∷ 110 ∷ 100 ∷ 97 ∷ 114 ∷ 100 ∷ 32 ∷ 105 ∷ 110 ∷ 112 ∷ 117 ∷ 116 ∷ []

unfoldable pub output_name : Bool → List ℕ
output_name reporting = program_name reporting ++ behind_output

unfoldable pub input_name : Bool → List ℕ
input_name reporting = program_name reporting ++ behind_input
