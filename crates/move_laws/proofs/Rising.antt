-- The zones of each kind of parameters come by number, so in one order under all parameters
use Rattle.std.proofs.Common.{◌≡◌, ℕ, zero, suc, ◌+◌, ◌*◌, ◌<◌, ◌≤◌, Bool, true, false, cond, not, ◌&&◌, nat_lt}
use Rattle.std.proofs.Common.{List, [], ◌∷◌, ◌++◌, length, map, slice_get, get_or, refl, sym, ap, ap₂, ◌∙◌, subst}
use Rattle.std.proofs.Common.{arith, inl, inr, Some, None, eq-eqb, true≢false}
use Rattle.std.specs.List.{AllByRecursion, range_with_len, position_or_len}
use Rattle.std.proofs.lemmas.Bool.{cases_lt, cases_eq, lt-ltb}
use Rattle.std.proofs.lemmas.List.Quantifiers.{position-Some}
use Rattle.std.proofs.lemmas.Option.{slice_get-get_or}
use Rattle.list_laws.proofs.Elements.{AllByRecursion-append}
use Rattle.zone_spec.specs.declared.Zone.{Zone}
use Rattle.zone_spec.specs.declared.ZoneName.{ZoneName}
use Rattle.zone_spec.specs.declared.Kind.{Kind}
use Rattle.zone_spec.specs.declared.Kind.TheVariants.{Dump, Console, Ftrace, Pmsg}
use Rattle.zone_spec.specs.declared.params.Order.{Order}
use Rattle.zone_spec.specs.declared.params.Order.TheVariants.{FtracePmsg, PmsgFtrace}
use Rattle.zone_spec.specs.declared.params.Params.{Params}
use Rattle.zone_spec.specs.declared.params.Row.{Row}
use Rattle.zone_spec.specs.Layout.{rows, zone_at, zones_from, zones_of, rounded, one_row, ftrace_row, ordered}
use Rattle.zone_spec.specs.Layouts.{is_zone, zone_place}
use Rattle.zone_spec.specs.Reading.{zone_reading}
use Rattle.zone_spec.specs.Records.{Saved, is_of}
use Rattle.machine_spec.specs.Zones.{zone_bytes}
use Rattle.move_laws.specs.Listed.{AreNamed, LayoutsComeInOrder, LayoutsAreNamed, LayoutsKeepRecords}
use Rattle.move_laws.proofs.Fits.{same_kind, kind_itself, same_name}
use Rattle.move_laws.proofs.SavedLogs.{zip_at, move_keeps_records}

-- of one kind, the one of the lower number
abbrev Before : ZoneName → ZoneName → Type 0
Before a b = is_of a.kind b.kind ≡ true → a.index < b.index

not_self : (a b : ZoneName) → a ≡ b → Before a b → ⊥
not_self a b e h =
    let l : a.index < b.index = h (ap (is_of a.kind) (ap (λ (n : ZoneName). n.kind) (sym e)) ∙ kind_itself a.kind) in
    let same : a.index ≡ b.index = ap (λ (n : ZoneName). n.index) e in
    omega arith

-- each zone is before all behind it
abbrev Rising : List Zone → Type 0
Rising [] = Unit {0}
Rising (z ∷ zs) = AllByRecursion (λ (y : Zone). Before z.name y.name) zs × Rising zs

-- no two rows are of one kind
abbrev RisingRows : List Row → Type 0
RisingRows [] = Unit {0}
RisingRows (row ∷ rows) = AllByRecursion (λ (q : Row). is_of row.kind q.kind ≡ false) rows × RisingRows rows

all_map : (P Q : Zone → Type 0) (zs : List Zone) → AllByRecursion P zs → ((z : Zone) → P z → Q z) → AllByRecursion Q zs
all_map P Q [] h f = tt
all_map P Q (z ∷ zs) h f = (f z h.0, all_map P Q zs h.1 f)

all_get : (P : Zone → Type 0) (zs : List Zone) (i : ℕ) (z : Zone) → AllByRecursion P zs → slice_get zs i ≡ Some z → P z
all_get P [] i z h e = let n : None ≡ Some z = e in cc
all_get P (y ∷ ys) zero z h e = let s : y ≡ z = cc in subst P s h.0
all_get P (y ∷ ys) (suc i) z h e = all_get P ys i z h.1 e

rising_join : (xs ys : List Zone) → Rising xs → Rising ys
    → AllByRecursion (λ (x : Zone). AllByRecursion (λ (y : Zone). Before x.name y.name) ys) xs → Rising (xs ++ ys)
rising_join [] ys h k b = k
rising_join (x ∷ xs) ys h k b =
    (AllByRecursion-append (λ (y : Zone). Before x.name y.name) xs ys h.0 b.0, rising_join xs ys h.1 k b.1)

rising_get : (zs : List Zone) (i j : ℕ) (y z : Zone) → Rising zs → i < j → slice_get zs i ≡ Some y
    → slice_get zs j ≡ Some z → Before y.name z.name
rising_get [] i j y z h l ey ez = let n : None ≡ Some y = ey in cc
rising_get (w ∷ ws) zero zero y z h l ey ez = absurd (omega arith)
rising_get (w ∷ ws) zero (suc j) y z h l ey ez =
    let s : w ≡ y = cc in
    subst (λ (u : Zone). Before u.name z.name) s (all_get (λ (u : Zone). Before w.name u.name) ws j z h.0 ez)
rising_get (w ∷ ws) (suc i) zero y z h l ey ez = absurd (omega arith)
rising_get (w ∷ ws) (suc i) (suc j) y z h l ey ez = rising_get ws i j y z h.1 (omega arith) ey ez

-- ---- the zones of parameters

module _ (p : Params) where
  all_row : (P : Zone → Type 0) (kind : Kind) (size at n a : ℕ)
      → ((i : ℕ) → a ≤ i → P (zone_at p kind size i (at + i * size)))
      → AllByRecursion P (map (λ i. zone_at p kind size i (at + i * size)) (range_with_len a n))
  all_row P kind size at zero a h = tt
  all_row P kind size at (suc n) a h = (h a (omega arith), all_row P kind size at n (a + 1) (λ i l. h i (omega arith)))

  rising_row : (kind : Kind) (size at n a : ℕ)
      → Rising (map (λ i. zone_at p kind size i (at + i * size)) (range_with_len a n))
  rising_row kind size at zero a = tt
  rising_row kind size at (suc n) a = (
    all_row (λ (y : Zone). Before (record { kind = kind; index = a }) y.name) kind size at n (a + 1)
        (λ i l e. omega arith),
    rising_row kind size at n (a + 1),
  )

  all_from : (r : Kind) (rs : List Row) (at : ℕ) → AllByRecursion (λ (q : Row). is_of r q.kind ≡ false) rs
      → AllByRecursion (λ (z : Zone). is_of r z.name.kind ≡ false) (zones_from p at rs)
  unfolding zones_from
  all_from r [] at h = tt
  all_from r (row ∷ rs) at h =
      AllByRecursion-append (λ (z : Zone). is_of r z.name.kind ≡ false)
      (map (λ i. zone_at p row.kind row.size i (at + i * row.size)) (range_with_len 0 row.count))
      (zones_from p (at + row.count * row.size) rs)
      (all_row (λ (z : Zone). is_of r z.name.kind ≡ false) row.kind row.size at row.count 0 (λ i l. h.0))
      (all_from r rs (at + row.count * row.size) h.1)

  rising_from : (rs : List Row) (at : ℕ) → RisingRows rs → Rising (zones_from p at rs)
  unfolding zones_from
  rising_from [] at h = tt
  rising_from (row ∷ rs) at h =
      let behind : List Zone = zones_from p (at + row.count * row.size) rs in
      rising_join (map (λ i. zone_at p row.kind row.size i (at + i * row.size)) (range_with_len 0 row.count)) behind
      (rising_row row.kind row.size at row.count 0) (rising_from rs (at + row.count * row.size) h.1)
      (all_row (λ (x : Zone). AllByRecursion (λ (y : Zone). Before x.name y.name) behind) row.kind row.size at
      row.count 0 (λ i l. all_map (λ (z : Zone). is_of row.kind z.name.kind ≡ false)
      (λ (y : Zone). Before (record { kind = row.kind; index = i }) y.name) behind
      (all_from row.kind rs (at + row.count * row.size) h.0) (λ z other same. absurd (true≢false (sym same ∙ other)))))

  kinds_differ : (order : Order) (ftrace pmsg : Row) → ftrace.kind ≡ Ftrace → pmsg.kind ≡ Pmsg
      → AllByRecursion (λ (q : Row). is_of Dump q.kind ≡ false) (ordered order ftrace pmsg)
      × AllByRecursion (λ (q : Row). is_of Console q.kind ≡ false) (ordered order ftrace pmsg)
      × RisingRows (ordered order ftrace pmsg)
  kinds_differ FtracePmsg ftrace pmsg f m = rw (f, m) ((refl, (refl, tt)), (refl, (refl, tt)), ((refl, tt), (tt, tt)))
  kinds_differ PmsgFtrace ftrace pmsg f m = rw (f, m) ((refl, (refl, tt)), (refl, (refl, tt)), ((refl, tt), (tt, tt)))

  rising_zones : Rising (zones_of p)
  rising_zones =
      let last = kinds_differ p.order (ftrace_row p) (one_row Pmsg (rounded p.pmsg)) refl refl in
      rising_from (rows p) 0 ((refl, last.0), (last.1, last.2))

-- ---- one order

there : (layout : List Zone) (name : ZoneName) (m : ℕ) → zone_place layout name ≡ Some m
    → (z : Zone) × (slice_get layout m ≡ Some z) × (name ≡ z.name)
there [] name m e = let n : None ≡ Some m = e in cc
there (w ∷ ws) name m e =
    let p = position-Some (is_zone name) (w ∷ ws) m w e in
    (get_or (w ∷ ws) m w, slice_get-get_or (w ∷ ws) m w p.0, same_name name (get_or (w ∷ ws) m w) p.1)

places_rise : (layout : List Zone) (a b : ZoneName) (m n : ℕ) → Rising layout → is_of a.kind b.kind ≡ true
    → a.index < b.index → zone_place layout a ≡ Some m → zone_place layout b ≡ Some n → m < n
places_rise layout a b m n rising same before pa pb =
    let za = there layout a m pa in
    let zb = there layout b n pb in
    elim (cases_lt m n) [
      | inl l ↦ l
      | inr g ↦ elim (cases_eq n m) [
        | inl e ↦ (let one : za.0 ≡ zb.0 = (let h : Some za.0 ≡ Some zb.0 =
            sym za.1 ∙ ap (slice_get layout) (sym e) ∙ zb.1 in cc) in
            let names : a ≡ b = za.2 ∙ ap (λ (z : Zone). z.name) one ∙ sym zb.2 in
            let numbers : a.index ≡ b.index = ap (λ (c : ZoneName). c.index) names in
            absurd (omega arith))
        | inr ne ↦ (let back : Before zb.0.name za.0.name =
            rising_get layout n m zb.0 za.0 rising (omega arith) zb.1 za.1 in
            let turned : Before b a = subst (λ (c : ZoneName). Before c a) (sym zb.2)
            (subst (λ (c : ZoneName). Before zb.0.name c) (sym za.2) back) in
            let less : b.index < a.index =
            turned (ap (is_of b.kind) (same_kind a.kind b.kind same) ∙ kind_itself b.kind) in
            absurd (omega arith))
      ]
    ]

pub layouts_come_in_order : LayoutsComeInOrder
layouts_come_in_order p q off i j m n a b l ea eb same pa pb =
    let za = zip_at (λ z. Some (zone_reading z (zone_bytes z off.image))) (zones_of p) i a ea in
    let zb = zip_at (λ z. Some (zone_reading z (zone_bytes z off.image))) (zones_of p) j b eb in
    let before : Before za.0.name zb.0.name =
    rising_get (zones_of p) i j za.0 zb.0 (rising_zones p) l za.1 zb.1 in
    let turned : Before a.0.name b.0.name = subst (λ (s : Saved). Before s.0.name b.0.name) za.2
    (subst (λ (s : Saved). Before za.0.name s.0.name) zb.2 before) in
    places_rise (zones_of q) a.0.name b.0.name m n (rising_zones q) same (turned same) pa pb

-- ---- names

below_place : {X : Type 0} (p : X → Bool) (xs : List X) (i : ℕ) (x : X) → slice_get xs i ≡ Some x → p x ≡ true
    → position_or_len p xs < length xs
below_place p [] i x e t = let n : None ≡ Some x = e in cc
below_place p (y ∷ ys) zero x e t =
    let s : y ≡ x = cc in
    subst (λ b. cond (not b) (1 + position_or_len p ys) 0 < length (y ∷ ys)) (sym (ap p s ∙ t)) (omega arith)
below_place p (y ∷ ys) (suc i) x e t = by (p y) (below_place p ys i x e t)
  where
    by : (b : Bool) → position_or_len p ys < length ys
        → cond (not b) (1 + position_or_len p ys) 0 < length (y ∷ ys)
    by true h = omega arith
    by false h = omega arith

own_name : (z : Zone) → is_zone z.name z ≡ true
own_name z = ap₂ (λ a b. a && b) (kind_itself z.name.kind) (eq-eqb z.name.index z.name.index refl)

place_some : (zs : List Zone) (i : ℕ) (z : Zone) → slice_get zs i ≡ Some z
    → zone_place zs z.name ≡ Some (position_or_len (is_zone z.name) zs)
place_some zs i z e =
    let l : position_or_len (is_zone z.name) zs < length zs = below_place (is_zone z.name) zs i z e (own_name z) in
    let t : nat_lt (position_or_len (is_zone z.name) zs) (length zs) ≡ true = lt-ltb _ _ l in
    ap (λ b. cond b (Some (position_or_len (is_zone z.name) zs)) None) t

are_named : (zs : List Zone) → Rising zs → AreNamed zs
are_named zs rising i z e =
    let m : ℕ = position_or_len (is_zone z.name) zs in
    let place : zone_place zs z.name ≡ Some m = place_some zs i z e in
    let at = there zs z.name m place in
    let same : m ≡ i = elim (cases_lt m i) [
      | inl l ↦ absurd (not_self at.0.name z.name (sym at.2) (rising_get zs m i at.0 z rising l at.1 e))
      | inr g ↦ elim (cases_eq m i) [
        | inl k ↦ k
        | inr ne ↦ absurd (not_self z.name at.0.name at.2 (rising_get zs i m z at.0 rising (omega arith) e at.1))
      ]
    ] in
    place ∙ ap Some same

pub layouts_are_named : LayoutsAreNamed
layouts_are_named p = are_named (zones_of p) (rising_zones p)

pub layouts_keep_records : LayoutsKeepRecords
layouts_keep_records p q mem off lies bytes =
    move_keeps_records (zones_of p) (zones_of q) mem off lies (layouts_are_named q) bytes
    (layouts_come_in_order p q off)
