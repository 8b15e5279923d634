-- Who is parked, who can take a step, and who was unparked between two tables, in terms of the records alone (document 02, L3).
use Rattle.std.specs.Prelude.{ℕ, ◌≡◌, ◌≢◌, ◌⊎◌}
use Rattle.lock_table.specs.Access.{phase_number_at}
use Rattle.lock_table.specs.declared.record.Table.{Table}
use Rattle.lock_records.specs.Agrees.{Unparked}

-- parked, for entry or waiting: in whichever of the phases 5, 8 and 14
abbrev pub Parked : Table → ℕ → Type 0
Parked table n = (phase_number_at table n ≡ 5) ⊎ ((phase_number_at table n ≡ 8) ⊎ (phase_number_at table n ≡ 14))

-- neither idle nor parked
abbrev pub CanStep : Table → ℕ → Type 0
CanStep table n = (phase_number_at table n ≢ 0) × Unparked table n

-- "its thread was parked before and is not after"
abbrev pub UnparkedBetween : Table → Table → ℕ → Type 0
UnparkedBetween before after n = Parked before n × Unparked after n
