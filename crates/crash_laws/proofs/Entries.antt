-- The first record of a name
use Rattle.std.proofs.Common.{◌≡◌, ℕ, zero, suc, ◌<◌, ◌==◌, Bool, true, false, cond, ◌&&◌, List, [], ◌∷◌, ◌++◌, filter}
use Rattle.std.proofs.Common.{flat_map, slice_get, zip, Option, Some, None, refl, sym, ap, ap₂, ◌∙◌, arith}
use Rattle.std.proofs.Common.{append_assoc, eq-eqb, eqb-true}
use Rattle.std.proofs.lemmas.Bool.{and_parts}
use Rattle.std.proofs.lemmas.List.Elements.{filter-append}
use Rattle.std.proofs.lemmas.List.Quantifiers.{position-Some}
use Rattle.std.proofs.lemmas.Option.{get_or_from_slice_get}
use Rattle.zone_spec.specs.declared.Zone.{Zone}
use Rattle.zone_spec.specs.declared.ZoneName.{ZoneName}
use Rattle.zone_spec.specs.declared.Kind.TheVariants.{Dump as DumpKind, Console, Ftrace, Pmsg}
use Rattle.zone_spec.specs.declared.Name.{Name}
use Rattle.zone_spec.specs.declared.Name.TheVariants.{Dump as DumpName, Console as ConsoleName, Pmsg as PmsgName}
use Rattle.zone_spec.specs.declared.TimeLine.{TimeLine}
use Rattle.zone_spec.specs.Reading.{ZoneReading}
use Rattle.zone_spec.specs.TimeLines.{read_line}
use Rattle.zone_spec.specs.Names.{is_name}
use Rattle.zone_spec.specs.Records.{Saved, Listed, is_of, found, logs_of, dump_of, dumps_of, plain, ftrace_of}
use Rattle.zone_spec.specs.Records.{listed_of, first_listed, record_of}
use Rattle.zone_spec.specs.Notices.{is_in}
use Rattle.zone_spec.specs.Layouts.{is_zone, zone_place}
use Rattle.machine_spec.specs.States.{LiveState}
use Rattle.machine_spec.specs.LiveZones.{Target, target}
use Rattle.crash_laws.proofs.Calls.{target_place, named}

-- whether a record is that of the dump zone of this number, not compressed
abbrev pub is_dump_of : ℕ → Listed → Bool
is_dump_of j r = is_name r.name (DumpName j false)

-- the records of a zone in the listing of dumps
abbrev pub zone_entries : Saved → List Listed
zone_entries zone = cond (is_of DumpKind zone.0.name.kind)
    (flat_map (λ (q : ZoneReading). dump_of zone.0.name.index q.log (read_line q.log)) (found zone.1)) []

-- ---- zones of other numbers

entry_other : (i j : ℕ) (log : List ℕ) (o : Option TimeLine) → (i == j) ≡ false
    → filter (is_dump_of j) (dump_of i log o) ≡ []
entry_other i j log None e = refl
entry_other i j log (Some line) e = rw e refl

readings_other : (i j : ℕ) (rs : List ZoneReading) → (i == j) ≡ false
    → filter (is_dump_of j) (flat_map (λ (q : ZoneReading). dump_of i q.log (read_line q.log)) rs) ≡ []
readings_other i j [] e = refl
readings_other i j (r ∷ rs) e =
    filter-append (is_dump_of j) (dump_of i r.log (read_line r.log))
    (flat_map (λ (q : ZoneReading). dump_of i q.log (read_line q.log)) rs)
    ∙ ap₂ (λ (xs ys : List Listed). xs ++ ys) (entry_other i j r.log (read_line r.log) e) (readings_other i j rs e)

pub entries_other : (w : Saved) (j : ℕ) → is_in (DumpName j false) w.0 ≡ false
    → filter (is_dump_of j) (zone_entries w) ≡ []
entries_other w j h = by (is_of DumpKind w.0.name.kind) h
  where
    by : (b : Bool) → (b && (w.0.name.index == j)) ≡ false → filter (is_dump_of j) (cond b
        (flat_map (λ (q : ZoneReading). dump_of w.0.name.index q.log (read_line q.log)) (found w.1)) []) ≡ []
    by true h = readings_other w.0.name.index j (found w.1) h
    by false h = refl

-- ---- the first that passes

first_flat : {X : Type 0} (p : Listed → Bool) (f : X → List Listed) (xs : List X) (i : ℕ) (x : X) (e : Listed)
    (more : List Listed) → slice_get xs i ≡ Some x → f x ≡ e ∷ [] → p e ≡ true
    → ((j : ℕ) (w : X) → j < i → slice_get xs j ≡ Some w → filter p (f w) ≡ [])
    → first_listed (filter p (flat_map f xs ++ more)) ≡ Some e
first_flat p f [] i x e more at one pass none = absurd (cc)
first_flat p f (w ∷ ws) zero x e more at one pass none =
    let a : w ≡ x = cc in
    let rest = flat_map f ws in
    ap (λ (us : List Listed). first_listed (filter p ((us ++ rest) ++ more))) (ap f a ∙ one)
    ∙ ap (λ (b : Bool). first_listed (cond b (e ∷ filter p (rest ++ more)) (filter p (rest ++ more)))) pass
first_flat p f (w ∷ ws) (suc i) x e more at one pass none =
    let rest = flat_map f ws in
    ap (λ (us : List Listed). first_listed (filter p us)) (append_assoc (f w) rest more)
    ∙ ap (λ (us : List Listed). first_listed us) (filter-append p (f w) (rest ++ more))
    ∙ ap (λ (us : List Listed). first_listed (us ++ filter p (rest ++ more))) (none 0 w (omega arith) refl)
    ∙ first_flat p f ws i x e more at one pass (λ j u l h. none (suc j) u (omega (arith, l)) h)

zip_left : {X Y : Type 0} (xs : List X) (ys : List Y) (j : ℕ) (w : X × Y) → slice_get (zip xs ys) j ≡ Some w
    → slice_get xs j ≡ Some w.0
zip_left [] ys j w e = absurd (cc)
zip_left (x ∷ xs) [] j w e = absurd (cc)
zip_left (x ∷ xs) (y ∷ ys) zero w e = let same : (x, y) ≡ w = cc in ap (λ (v : _). Some v.0) same
zip_left (x ∷ xs) (y ∷ ys) (suc j) w e = zip_left xs ys j w e

-- no zone before this place is in the record of this dump zone
abbrev pub IsFirst : List Zone → ℕ → ℕ → Type 0
IsFirst layout place index = (j : ℕ) (y : Zone) → j < place → slice_get layout j ≡ Some y
    → is_in (DumpName index false) y ≡ false

-- the record of a name, where its zone is the first of the name and lists one
pub first_of_name : (layout : List Zone) (logs : List (Option ZoneReading)) (place index : ℕ) (zone : Saved)
    (e : Listed) → IsFirst layout place index → slice_get (zip layout logs) place ≡ Some zone
    → zone_entries zone ≡ e ∷ [] → e.name ≡ DumpName index false
    → record_of (zip layout logs) (DumpName index false) ≡ Some e
first_of_name layout logs place index zone e first at one name =
    let zones : List Saved = zip layout logs in
    let consoles = plain ConsoleName (logs_of Console zones) in
    let messages = plain PmsgName (logs_of Pmsg zones) in
    let entries = ftrace_of (logs_of Ftrace zones) in
    let apart : listed_of zones ≡ dumps_of zones ++ (consoles ++ (messages ++ entries)) =
    append_assoc (dumps_of zones ++ consoles) messages entries
    ∙ append_assoc (dumps_of zones) consoles (messages ++ entries) in
    let own : (index == index) ≡ true = eq-eqb index index refl in
    let pass : is_dump_of index e ≡ true =
    ap (λ (n : Name). is_name n (DumpName index false)) name ∙ ap (λ (b : Bool). b && true) own in
    ap (λ (rs : List Listed). first_listed (filter (is_dump_of index) rs)) apart
    ∙ first_flat (is_dump_of index) zone_entries zones place zone e (consoles ++ (messages ++ entries)) at one pass
    (λ j w l h. entries_other w index (first j w.0 l (zip_left layout logs j w h)))

-- the zone that a dump goes to is the first of its name
pub dump_first : (layout : List Zone) (live : LiveState) (t : Target)
    → target layout live (record { kind = DumpKind; index = live.cursor }) ≡ Some t
    → IsFirst layout t.place t.zone.name.index
dump_first layout live t e = λ j y l h.
    let name : ZoneName = record { kind = DumpKind; index = live.cursor } in
    let p = position-Some (is_zone name) layout t.place t.zone
    (target_place layout live (zone_place layout name) t e) in
    let at = get_or_from_slice_get layout j y t.zone h in
    let other : is_zone name y ≡ false = ap (is_zone name) (sym at) ∙ p.2 j l in
    let parts = and_parts (is_of DumpKind t.zone.name.kind) (t.zone.name.index == live.cursor)
    (named layout live name t e) in
    let index : t.zone.name.index ≡ live.cursor = eqb-true t.zone.name.index live.cursor parts.1 in
    ap (λ (n : ℕ). is_of DumpKind y.name.kind && (y.name.index == n)) index ∙ other
