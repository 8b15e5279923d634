-- The bytes that only the lines read have, in ASCII; those that are printed too stand in replay_text.
use Rattle.std.specs.Prelude.{ℕ}

abbrev pub digit_nine : ℕ
digit_nine = 57

abbrev pub letter_A : ℕ
letter_A = 65

abbrev pub letter_C : ℕ
letter_C = 67

abbrev pub letter_E : ℕ
letter_E = 69

abbrev pub letter_L : ℕ
letter_L = 76

abbrev pub letter_N : ℕ
letter_N = 78

abbrev pub letter_S : ℕ
letter_S = 83

abbrev pub letter_V : ℕ
letter_V = 86

abbrev pub letter_W : ℕ
letter_W = 87

abbrev pub letter_X : ℕ
letter_X = 88
