-- The journal as lists of records.
use Rattle.std.specs.Prelude.{ℕ, List, [], ◌∷◌, take, drop, refl}
use Rattle.std.specs.Coded.{Coded, code_by, coded×, coded_ℕ, coded_list}

-- The closed records from the oldest on, the open record, and the number of entries and of records
-- that there is room for.
pub record Records (E : Type 0) : Type 0 where
  pub closed : List (List E)
  pub current : List E
  pub entry_room : ℕ
  pub record_room : ℕ

abbrev pub records_code : {E : Type 0} → Coded E → Coded (Records E)
records_code {E} e =
    code_by (List (List E) × (List E × (ℕ × ℕ))) (coded× (coded_list (coded_list e)) (coded× (coded_list e) (coded× coded_ℕ coded_ℕ)))
    (λ r. (r.closed, (r.current, (r.entry_room, r.record_room))))
    (λ p. record { closed = p.0; current = p.1.0; entry_room = p.1.1.0; record_room = p.1.1.1 })
    (λ _. refl)

-- The records of these sizes that a list of entries begins with, one after another.
unfoldable pub records_of : {E : Type 0} → List ℕ → List E → List (List E)
records_of [] _ = []
records_of (n ∷ sizes) entries = take n entries ∷ records_of sizes (drop n entries)
