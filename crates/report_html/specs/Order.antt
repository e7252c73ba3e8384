-- The order of the records on a page: the newest come first
use Rattle.std.specs.Prelude.{Bool, if◌then◌else◌, List, [], ◌∷◌, map}
use Rattle.std.specs.Borrow.{Bor}
use Rattle.report_spec.specs.Packed.{RecordShown}
use Rattle.report_spec.specs.Newest.{later_than}

-- one element more in a list that is in order: it stands after those that go before it by this test
unfoldable pub put_in : {X : Type 0} → (X → X → Bool) → X → List X → List X
put_in before x [] = x ∷ []
put_in before x (y ∷ ys) = if before y x then y ∷ put_in before x ys else x ∷ y ∷ ys

-- all elements in order. Of two that tie the earlier one stays the earlier one
unfoldable pub in_order : {X : Type 0} → (X → X → Bool) → List X → List X
in_order before [] = []
in_order before (x ∷ xs) = put_in before x (in_order before xs)

-- a record with a later time goes before the other, and one with a time before one without
abbrev pub goes_before : RecordShown → RecordShown → Bool
goes_before r other = later_than r.time other.time

abbrev pub newest_first : List RecordShown → List RecordShown
newest_first records = in_order goes_before records

-- what the code holds
abbrev pub shown_in : List (Bor RecordShown) → List RecordShown
shown_in records = map (λ (r : Bor RecordShown). r.now) records
