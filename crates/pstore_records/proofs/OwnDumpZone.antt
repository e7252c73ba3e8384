-- Where the numbers of dump zones rise, a dump's record has its own zone alone. For `numbers_rise`, `source_in` and `stays`.
use Rattle.std.proofs.Common.{◌≡◌, ℕ, zero, suc, ◌+◌, ◌<◌, ◌≤◌, ◌==◌, Bool, true, false, ◌&&◌, List, [], ◌∷◌, length}
use Rattle.std.proofs.Common.{refl, sym, ap, ◌∙◌, drop, drop-cons, get_or, add-one, subst, arith, Some}
use Rattle.std.specs.Prelude.{filter, slice_get, nat_le, if◌then◌else◌}
use Rattle.std.proofs.lemmas.Bool.{and_parts, leb-true, le-leb, lt-leb}
use Rattle.std.proofs.lemmas.Option.{slice_get_within, slice_get-get_or}
use Rattle.std.proofs.Math.ListN.{drop_of_length-le}
use Rattle.std.specs.Option.{option_map}
use Rattle.zone_spec.specs.declared.ZoneName.{ZoneName}
use Rattle.zone_spec.specs.declared.Kind.TheVariants.{Dump}
use Rattle.zone_spec.specs.declared.Name.TheVariants.{Dump as DumpName}
use Rattle.zone_spec.specs.Records.{Saved, is_of}
use Rattle.zone_spec.specs.Notices.{is_in}
use Rattle.pstore_records.specs.Tables.{numbers_rise}

differs : (i j : ℕ) → i < j → (i == j) ≡ false
differs i j h = grind (arith, h)

passed : (i j : ℕ) → j < i → (i == j) ≡ false
passed i j h = grind (arith, h)

pub equals : (i : ℕ) → (i == i) ≡ true
equals i = grind arith

-- what a rising list says of its first zone and of the rest
record Rising (least : ℕ) (zone : Saved) (zones : List Saved) : Type 0 where
  after : is_of Dump zone.0.name.kind ≡ true
      → (least ≤ zone.0.name.index) × (numbers_rise (zone.0.name.index + 1) zones ≡ true)
  other : is_of Dump zone.0.name.kind ≡ false → numbers_rise least zones ≡ true

rising : (least : ℕ) (zone : Saved) (zones : List Saved) → numbers_rise least (zone ∷ zones) ≡ true
    → Rising least zone zones
unfolding numbers_rise
rising least zone zones e = record {
  after = λ is.
      let both : (nat_le least zone.0.name.index && numbers_rise (zone.0.name.index + 1) zones) ≡ true =
      rw is at e in
      let parts = and_parts (nat_le least zone.0.name.index) (numbers_rise (zone.0.name.index + 1) zones) both in
      (leb-true _ _ parts.0, parts.1);
  other = λ is. rw is at e;
}

-- a dump zone of a rising list has at least the first number
least-number : (least : ℕ) (zones : List Saved) (i : ℕ) (s : Saved) → numbers_rise least zones ≡ true
    → slice_get zones i ≡ Some s → is_of Dump s.0.name.kind ≡ true → least ≤ s.0.name.index
least-number least [] i s e at is = absurd (omega (arith, slice_get_within [] i s at))
least-number least (x ∷ zones) zero s e at is =
    let same : x ≡ s = cc in
    let first : is_of Dump x.0.name.kind ≡ true = rw same is in
    omega (arith, ((rising least x zones e).after first).0, ap (λ (z : Saved). z.0.name.index) same)
least-number least (x ∷ zones) (suc i) s e at is = by (is_of Dump x.0.name.kind) refl
    (λ low rises. least-number low zones i s rises at is)
  where
    by : (b : Bool) → is_of Dump x.0.name.kind ≡ b
        → ((low : ℕ) → numbers_rise low zones ≡ true → low ≤ s.0.name.index) → least ≤ s.0.name.index
    by true first rest =
        let next = (rising least x zones e).after first in
        omega (arith, next.0, rest (x.0.name.index + 1) next.1)
    by false other rest = rest least ((rising least x zones e).other other)

-- the zones in the record of a dump
abbrev pub in_dump : ℕ → Bool → List Saved → List Saved
in_dump n packed zones = filter (λ (zone : Saved). is_in (DumpName n packed) zone.0) zones

left-away : (n : ℕ) (packed : Bool) (x : Saved) (zones : List Saved) → is_in (DumpName n packed) x.0 ≡ false
    → in_dump n packed (x ∷ zones) ≡ in_dump n packed zones
left-away n packed x zones e =
    ap (λ (b : Bool). if b then x ∷ in_dump n packed zones else in_dump n packed zones) e

pub taken-in : (n : ℕ) (packed : Bool) (x : Saved) (zones : List Saved) → is_in (DumpName n packed) x.0 ≡ true
    → in_dump n packed (x ∷ zones) ≡ x ∷ in_dump n packed zones
taken-in n packed x zones e =
    ap (λ (b : Bool). if b then x ∷ in_dump n packed zones else in_dump n packed zones) e

and-false : (a b : Bool) → b ≡ false → (a && b) ≡ false
and-false true b e = e
and-false false b e = refl

other-number : (n : ℕ) (packed : Bool) (x : Saved) → (x.0.name.index == n) ≡ false
    → is_in (DumpName n packed) x.0 ≡ false
other-number n packed x e = and-false (is_of Dump x.0.name.kind) (x.0.name.index == n) e

other-kind : (n : ℕ) (packed : Bool) (x : Saved) → is_of Dump x.0.name.kind ≡ false
    → is_in (DumpName n packed) x.0 ≡ false
other-kind n packed x e = rw e refl

-- no zone has a number below the first
none-below : (n : ℕ) (packed : Bool) (least : ℕ) (zones : List Saved) → numbers_rise least zones ≡ true → n < least
    → in_dump n packed zones ≡ []
none-below n packed least [] e lt = refl
none-below n packed least (x ∷ zones) e lt = by (is_of Dump x.0.name.kind) refl
    (λ low rises below. none-below n packed low zones rises below)
  where
    by : (b : Bool) → is_of Dump x.0.name.kind ≡ b
        → ((low : ℕ) → numbers_rise low zones ≡ true → n < low → in_dump n packed zones ≡ [])
        → in_dump n packed (x ∷ zones) ≡ []
    by true first rest =
        let next = (rising least x zones e).after first in
        left-away n packed x zones (other-number n packed x (passed x.0.name.index n (omega (arith, lt, next.0))))
        ∙ rest (x.0.name.index + 1) next.1 (omega (arith, lt, next.0))
    by false other rest =
        left-away n packed x zones (other-kind n packed x other) ∙ rest least ((rising least x zones e).other other) lt

-- the zone of a dump is the only one in its record
pub only-zone : (packed : Bool) (least : ℕ) (zones : List Saved) (i : ℕ) (s : Saved) → numbers_rise least zones ≡ true
    → slice_get zones i ≡ Some s → is_of Dump s.0.name.kind ≡ true → in_dump s.0.name.index packed zones ≡ s ∷ []
only-zone packed least [] i s e at is = absurd (omega (arith, slice_get_within [] i s at))
only-zone packed least (x ∷ zones) zero s e at is =
    let same : x ≡ s = cc in
    let first : is_of Dump x.0.name.kind ≡ true = rw same is in
    let next = (rising least x zones e).after first in
    let own : is_in (DumpName x.0.name.index packed) x.0 ≡ true = cc (first, equals x.0.name.index) in
    let all : in_dump x.0.name.index packed (x ∷ zones) ≡ x ∷ [] =
    taken-in x.0.name.index packed x zones own ∙ ap (λ (zs : List Saved). x ∷ zs)
    (none-below x.0.name.index packed (x.0.name.index + 1) zones next.1 (omega arith)) in
    subst (λ (z : Saved). in_dump z.0.name.index packed (x ∷ zones) ≡ z ∷ []) same all
only-zone packed least (x ∷ zones) (suc i) s e at is = by (is_of Dump x.0.name.kind) refl
    (λ low rises. only-zone packed low zones i s rises at is)
  where
    by : (b : Bool) → is_of Dump x.0.name.kind ≡ b
        → ((low : ℕ) → numbers_rise low zones ≡ true → in_dump s.0.name.index packed zones ≡ s ∷ [])
        → in_dump s.0.name.index packed (x ∷ zones) ≡ s ∷ []
    by true first rest =
        let next = (rising least x zones e).after first in
        let above = least-number (x.0.name.index + 1) zones i s next.1 at is in
        left-away s.0.name.index packed x zones
        (other-number s.0.name.index packed x (differs x.0.name.index s.0.name.index (omega (arith, above))))
        ∙ rest (x.0.name.index + 1) next.1
    by false other rest =
        left-away s.0.name.index packed x zones (other-kind s.0.name.index packed x other)
        ∙ rest least ((rising least x zones e).other other)

-- ---- zone by zone

-- what the numbers of the zones that are left say, one zone on
rise-next : (zones : List Saved) (i least : ℕ) (name : ZoneName) → i < length zones
    → option_map (λ (s : Saved). s.0.name) (slice_get zones i) ≡ Some name
    → numbers_rise least (drop i zones) ≡ (if is_of Dump name.kind
    then (nat_le least name.index && numbers_rise (name.index + 1) (drop (i + 1) zones))
    else numbers_rise least (drop (i + 1) zones))
unfolding numbers_rise
rise-next [] i least name lt e = absurd (omega (arith, lt))
rise-next (x ∷ xs) i least name lt e =
    let zone = get_or (x ∷ xs) i x in
    let left : drop i (x ∷ xs) ≡ zone ∷ drop (i + 1) (x ∷ xs) = rw (add-one, drop-cons (x ∷ xs) i x lt) refl in
    let here : Some zone.0.name ≡ Some name =
    sym (ap (option_map (λ (s : Saved). s.0.name)) (slice_get-get_or (x ∷ xs) i x lt)) ∙ e in
    let named : zone.0.name ≡ name = cc in
    ap (numbers_rise least) left
    ∙ ap (λ (n : ZoneName). if is_of Dump n.kind
    then (nat_le least n.index && numbers_rise (n.index + 1) (drop (i + 1) (x ∷ xs)))
    else numbers_rise least (drop (i + 1) (x ∷ xs))) named

pub rise-fails : (zones : List Saved) (i least : ℕ) (name : ZoneName) → i < length zones
    → option_map (λ (s : Saved). s.0.name) (slice_get zones i) ≡ Some name → is_of Dump name.kind ≡ true
    → name.index < least → numbers_rise 0 zones ≡ numbers_rise least (drop i zones) → false ≡ numbers_rise 0 zones
rise-fails zones i least name lt e is below before =
    sym (before ∙ rise-next zones i least name lt e ∙ chosen (is_of Dump name.kind) (nat_le least name.index) is
    (lt-leb _ _ below))
  where
    chosen : (k l : Bool) → k ≡ true → l ≡ false → (if k then (l && numbers_rise (name.index + 1) (drop (i + 1) zones))
        else numbers_rise least (drop (i + 1) zones)) ≡ false
    chosen k l e f = rw (e, f) refl

pub rise-more : (zones : List Saved) (i least next : ℕ) (name : ZoneName) → i < length zones
    → option_map (λ (s : Saved). s.0.name) (slice_get zones i) ≡ Some name → is_of Dump name.kind ≡ true
    → least ≤ name.index → next ≡ name.index + 1 → numbers_rise 0 zones ≡ numbers_rise least (drop i zones)
    → numbers_rise 0 zones ≡ numbers_rise next (drop (i + 1) zones)
rise-more zones i least next name lt e is above same before =
    before ∙ rise-next zones i least name lt e ∙ chosen (is_of Dump name.kind) (nat_le least name.index) is
    (le-leb _ _ above) ∙ ap (λ n. numbers_rise n (drop (i + 1) zones)) (sym same)
  where
    chosen : (k l : Bool) → k ≡ true → l ≡ true → (if k then (l && numbers_rise (name.index + 1) (drop (i + 1) zones))
        else numbers_rise least (drop (i + 1) zones)) ≡ numbers_rise (name.index + 1) (drop (i + 1) zones)
    chosen k l e f = rw (e, f) refl

pub rise-passes : (zones : List Saved) (i least next : ℕ) (name : ZoneName) → i < length zones
    → option_map (λ (s : Saved). s.0.name) (slice_get zones i) ≡ Some name → is_of Dump name.kind ≡ false
    → next ≡ least → numbers_rise 0 zones ≡ numbers_rise least (drop i zones)
    → numbers_rise 0 zones ≡ numbers_rise next (drop (i + 1) zones)
rise-passes zones i least next name lt e other same before =
    before ∙ rise-next zones i least name lt e ∙ chosen (is_of Dump name.kind) other
    ∙ ap (λ n. numbers_rise n (drop (i + 1) zones)) (sym same)
  where
    chosen : (k : Bool) → k ≡ false → (if k
        then (nat_le least name.index && numbers_rise (name.index + 1) (drop (i + 1) zones))
        else numbers_rise least (drop (i + 1) zones)) ≡ numbers_rise least (drop (i + 1) zones)
    chosen k e = rw e refl

pub rise-ends : (zones : List Saved) (i least : ℕ) → length zones ≤ i
    → numbers_rise 0 zones ≡ numbers_rise least (drop i zones) → true ≡ numbers_rise 0 zones
unfolding numbers_rise
rise-ends zones i least past before = sym (before ∙ ap (numbers_rise least) (drop_of_length-le zones past))
