-- The rows of the report (document 02, L4), each with its newline: "number, figures, shares, remainders".
use Rattle.std.specs.Prelude.{ℕ, ◌+◌, ◌*◌, ◌/◌, ◌%◌, ◌<◌, ◌≡◌, List, ◌++◌, eqb}
use Rattle.laws.specs.Choice.{pick}
use Rattle.replay_text.specs.Bytes.{newline, space}
use Rattle.replay_text.specs.Text.{field_limit, field_text}
use Rattle.replay_text.specs.declared.row.{Figures.Figures, FiveFields.FiveFields}

-- a row's five figures, added up
abbrev pub figures_sum : Figures → ℕ
figures_sum figures = figures.anonymous + figures.reserved + figures.free + figures.nested + figures.monitor

-- shares are in ten-thousandths
abbrev pub whole_share : ℕ
whole_share = 10000

-- "each one's share of its line's five in ten-thousandths rounded down with its remainder, both 0 where no enter finished"
unfoldable pub share : ℕ → ℕ → ℕ
share figure sum = pick (eqb sum 0) 0 ((whole_share * figure) / sum)

unfoldable pub remainder : ℕ → ℕ → ℕ
remainder figure sum = pick (eqb sum 0) 0 ((whole_share * figure) % sum)

-- what a share and its remainder promise, of any figure and any sum (the law `shares_right`)
pub record SharesRight (figure sum : ℕ) : Type 0 where
  pub exact : 0 < sum → share figure sum * sum + remainder figure sum ≡ whole_share * figure
  pub rounded_down : 0 < sum → remainder figure sum < sum
  pub no_share : sum ≡ 0 → share figure sum ≡ 0
  pub no_remainder : sum ≡ 0 → remainder figure sum ≡ 0

-- a field for each of the five
abbrev pub each_of : Figures → (ℕ → ℕ) → FiveFields
each_of figures field =
    record {
      anonymous = field figures.anonymous;
      reserved = field figures.reserved;
      free = field figures.free;
      nested = field figures.nested;
      monitor = field figures.monitor;
    }

-- the five fields as a call of each figure may give them
abbrev pub FieldsBy : (ℕ → ℕ → Type 0) → Figures → FiveFields → Type 0
FieldsBy gives figures five =
    gives figures.anonymous five.anonymous × gives figures.reserved five.reserved × gives figures.free five.free × gives figures.nested five.nested
    × gives figures.monitor five.monitor

abbrev pub figure_fields : Figures → FiveFields
figure_fields figures = each_of figures (λ figure. figure)

abbrev pub share_fields : Figures → ℕ → FiveFields
share_fields figures sum = each_of figures (λ figure. share figure sum)

abbrev pub remainder_fields : Figures → ℕ → FiveFields
remainder_fields figures sum = each_of figures (λ figure. remainder figure sum)

-- five fields, with a space behind each but the last, and `end` behind that
unfoldable pub five_text : FiveFields → ℕ → List ℕ
five_text five end =
    field_text five.anonymous space
    ++ (field_text five.reserved space ++ (field_text five.free space ++ (field_text five.nested space ++ field_text five.monitor end)))

unfoldable pub row_text : ℕ → Figures → List ℕ
row_text number figures =
    field_text number space
    ++ (five_text (figure_fields figures) space
    ++ (five_text (share_fields figures (figures_sum figures)) space ++ five_text (remainder_fields figures (figures_sum figures)) newline))

abbrev pub five_limit : ℕ
five_limit = 5 * field_limit

-- every row fits (the law `row_fits`)
abbrev pub row_room : ℕ
row_room = 176

-- so does every report: a row for each of 64 objects, and one for all
abbrev pub report_room : ℕ
report_room = 65 * row_room
