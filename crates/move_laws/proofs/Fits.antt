-- The saved logs of the records that fit a layout fit their zones
use Rattle.std.proofs.Common.{◌≡◌, ℕ, zero, suc, ◌≤◌, ◌==◌, Bool, true, false, cond, ◌&&◌, List, [], ◌∷◌, length, map}
use Rattle.std.proofs.Common.{slice_get, refl, sym, ap, ap₂, ◌∙◌, subst, Option, Some, None, true≢false, eqb-true}
use Rattle.std.proofs.Common.{eq-eqb, leb-true}
use Rattle.std.specs.Prelude.{filter}
use Rattle.std.specs.List.{AllByRecursion, list_all}
use Rattle.std.specs.Option.{option_and_then, option_map}
use Rattle.std.proofs.lemmas.Bool.{and_parts}
use Rattle.list_laws.proofs.Elements.{AllByRecursion-append}
use Rattle.zone_spec.specs.declared.Zone.{Zone}
use Rattle.zone_spec.specs.declared.ZoneName.{ZoneName}
use Rattle.zone_spec.specs.declared.Kind.{Kind}
use Rattle.zone_spec.specs.declared.Kind.TheVariants.{Dump, Console, Ftrace, Pmsg}
use Rattle.zone_spec.specs.declared.Name.{Name}
use Rattle.zone_spec.specs.declared.Name.TheVariants.{Dump as DumpName, Console as ConsoleName, Pmsg as PmsgName}
use Rattle.zone_spec.specs.declared.Name.TheVariants.{Ftrace as FtraceName}
use Rattle.zone_spec.specs.declared.State.{State}
use Rattle.zone_spec.specs.declared.State.TheVariants.{Unsigned, Empty, Invalid, Found}
use Rattle.zone_spec.specs.declared.TimeLine.{TimeLine}
use Rattle.zone_spec.specs.TimeLines.{read_line}
use Rattle.zone_spec.specs.Reading.{ZoneReading}
use Rattle.zone_spec.specs.Records.{Saved, is_of, found_in, found}
use Rattle.zone_spec.specs.Notices.{is_in}
use Rattle.zone_spec.specs.Layouts.{is_zone}
use Rattle.machine_spec.specs.Moved.{zone_named, has_room, takes, record_name, is_fit, kept_if, found_of}
use Rattle.move_laws.specs.Moves.{IsLogFor}
use Rattle.move_laws.specs.Listed.{AreNamed, IsOfBytes, FittingLogsFit}

-- ---- tests

all_at : {X : Type 0} (p : X → Bool) (xs : List X) (i : ℕ) (x : X) → list_all p xs ≡ true → slice_get xs i ≡ Some x
    → p x ≡ true
all_at p [] i x e h = let n : None ≡ Some x = h in cc
all_at p (y ∷ ys) zero x e h = let s : y ≡ x = cc in ap p (sym s) ∙ (and_parts (p y) (list_all p ys) e).0
all_at p (y ∷ ys) (suc i) x e h = all_at p ys i x (and_parts (p y) (list_all p ys) e).1 h

-- what passes a test is among those that do
filter_at : {X : Type 0} (p q : X → Bool) (xs : List X) (i : ℕ) (x : X) → list_all p (filter q xs) ≡ true
    → slice_get xs i ≡ Some x → q x ≡ true → p x ≡ true
filter_at p q [] i x e h k = let n : None ≡ Some x = h in cc
filter_at p q (y ∷ ys) zero x e h k =
    let s : y ≡ x = cc in
    let t : q y ≡ true = ap q s ∙ k in
    let f : list_all p (y ∷ filter q ys) ≡ true =
    ap (λ b. list_all p (cond b (y ∷ filter q ys) (filter q ys))) (sym t) ∙ e in
    ap p (sym s) ∙ (and_parts (p y) (list_all p (filter q ys)) f).0
filter_at p q (y ∷ ys) (suc i) x e h k = filter_at p q ys i x (by (q y) e) h k
  where
    by : (b : Bool) → list_all p (cond b (y ∷ filter q ys) (filter q ys)) ≡ true → list_all p (filter q ys) ≡ true
    by true f = (and_parts (p y) (list_all p (filter q ys)) f).1
    by false f = f

pub kind_itself : (k : Kind) → is_of k k ≡ true
kind_itself Dump = refl
kind_itself Console = refl
kind_itself Ftrace = refl
kind_itself Pmsg = refl

pub same_kind : (a b : Kind) → is_of a b ≡ true → a ≡ b
same_kind Dump Dump e = refl
same_kind Console Console e = refl
same_kind Ftrace Ftrace e = refl
same_kind Pmsg Pmsg e = refl
same_kind Dump Console e = absurd (true≢false (sym e))
same_kind Dump Ftrace e = absurd (true≢false (sym e))
same_kind Dump Pmsg e = absurd (true≢false (sym e))
same_kind Console Dump e = absurd (true≢false (sym e))
same_kind Console Ftrace e = absurd (true≢false (sym e))
same_kind Console Pmsg e = absurd (true≢false (sym e))
same_kind Ftrace Dump e = absurd (true≢false (sym e))
same_kind Ftrace Console e = absurd (true≢false (sym e))
same_kind Ftrace Pmsg e = absurd (true≢false (sym e))
same_kind Pmsg Dump e = absurd (true≢false (sym e))
same_kind Pmsg Console e = absurd (true≢false (sym e))
same_kind Pmsg Ftrace e = absurd (true≢false (sym e))

-- a zone that has a name is named so
pub same_name : (name : ZoneName) (z : Zone) → is_zone name z ≡ true → name ≡ z.name
same_name name z e =
    let h = and_parts (is_of name.kind z.name.kind) (z.name.index == name.index) e in
    ap₂ (λ k i. record { kind = k; index = i }) (same_kind name.kind z.name.kind h.0)
    (sym (eqb-true z.name.index name.index h.1))

-- ---- a zone belongs to its record

own_kind : (zone : Zone) (log : List ℕ) (kind : Kind) (name : Name) → zone.name.kind ≡ kind
    → record_name zone.name log kind ≡ Some name → is_in name zone ≡ true
own_kind zone log Console name k e =
    let s : ConsoleName ≡ name = cc in subst (λ n. is_in n zone ≡ true) s (ap (is_of Console) k)
own_kind zone log Pmsg name k e =
    let s : PmsgName ≡ name = cc in subst (λ n. is_in n zone ≡ true) s (ap (is_of Pmsg) k)
own_kind zone log Ftrace name k e =
    let s : FtraceName ≡ name = cc in subst (λ n. is_in n zone ≡ true) s (ap (is_of Ftrace) k)
own_kind zone log Dump name k e = by (read_line log) e
  where
    by : (line : Option TimeLine)
        → option_map (λ (line : TimeLine). DumpName zone.name.index line.packed) line ≡ Some name
        → is_in name zone ≡ true
    by None f = let n : None ≡ Some name = f in cc
    by (Some line) f =
        let s : DumpName zone.name.index line.packed ≡ name = cc in
        subst (λ n. is_in n zone ≡ true) s
        (ap₂ (λ a b. a && b) (ap (is_of Dump) k) (eq-eqb zone.name.index zone.name.index refl))

-- a kept log has room in the layout's zone of its name
module _ (layout : List Zone) (all : List Saved) where
  pub room_is : (j : ℕ) (zone : Zone) (r : ZoneReading) (o : Option Name) → slice_get all j ≡ Some (zone, Some r)
      → record_name zone.name r.log zone.name.kind ≡ o → is_fit layout all o ≡ true → r.state ≡ Found
      → has_room (length r.log) (zone_named layout zone.name) ≡ true
  room_is j zone r None at e f s = absurd (true≢false (sym f))
  room_is j zone r (Some name) at e f s =
      let mine : is_in name zone ≡ true = own_kind zone r.log zone.name.kind name refl e in
      let taken : takes layout (zone, Some r) ≡ true =
      filter_at (takes layout) (λ (s : Saved). is_in name s.0) all j (zone, Some r) f at mine in
      let room : (has_room (length r.log) (zone_named layout zone.name) && true) ≡ true =
      ap (λ t. list_all (λ (r : ZoneReading). has_room (length r.log) (zone_named layout zone.name)) (found_in r t))
      (sym s) ∙ taken in
      (and_parts (has_room (length r.log) (zone_named layout zone.name)) true room).0

module _ (layout : List Zone) (all : List Saved) (named : AreNamed layout) (i : ℕ) (z : Zone)
    (hz : slice_get layout i ≡ Some z) where
  -- the layout's zone of this name has room
  room_there : (len : ℕ) (name : ZoneName) → is_zone name z ≡ true → has_room len (zone_named layout name) ≡ true
      → len ≤ z.cap
  room_there len name own room =
      let there : zone_named layout name ≡ Some z =
      ap (zone_named layout) (same_name name z own)
      ∙ ap (option_and_then (λ (i : ℕ). slice_get layout i)) (named i z hz) ∙ hz in
      leb-true len z.cap (ap (has_room len) (sym there) ∙ room)

  module _ (j : ℕ) (zone : Zone) (r : ZoneReading) (at : slice_get all j ≡ Some (zone, Some r))
      (bytes : AllByRecursion IsOfBytes (found (Some r))) (own : is_zone zone.name z ≡ true) where
    kept_fits : (b : Bool) (s : State)
        → is_fit layout all (record_name zone.name r.log zone.name.kind) ≡ b → r.state ≡ s
        → AllByRecursion (IsLogFor z) (found (cond b (Some r) None))
    kept_fits false s e h = tt
    kept_fits true Found e h =
        let all_bytes : AllByRecursion IsOfBytes (found_in r Found) =
        subst (λ t. AllByRecursion IsOfBytes (found_in r t)) h bytes in
        subst (λ t. AllByRecursion (IsLogFor z) (found_in r t)) (sym h)
        ((room_there (length r.log) zone.name own (room_is layout all j zone r _ at refl e h), all_bytes.0.1), tt)
    kept_fits true Unsigned e h = subst (λ t. AllByRecursion (IsLogFor z) (found_in r t)) (sym h) tt
    kept_fits true Empty e h = subst (λ t. AllByRecursion (IsLogFor z) (found_in r t)) (sym h) tt
    kept_fits true Invalid e h = subst (λ t. AllByRecursion (IsLogFor z) (found_in r t)) (sym h) tt

  saved_fits : (j : ℕ) (zone : Zone) (o : Option ZoneReading) → slice_get all j ≡ Some (zone, o)
      → AllByRecursion IsOfBytes (found o) → (b : Bool) → is_zone zone.name z ≡ b
      → AllByRecursion (IsLogFor z) (cond b (found (kept_if layout all zone.name o)) [])
  saved_fits j zone o at bytes false e = tt
  saved_fits j zone None at bytes true e = tt
  saved_fits j zone (Some r) at bytes true e = kept_fits j zone r at bytes e _ r.state refl refl

  all_fit : (zs : List Saved)
      → ((j : ℕ) (s : Saved) → slice_get zs j ≡ Some s → AllByRecursion (IsLogFor z)
      (cond (is_zone s.0.name z) (found (kept_if layout all s.0.name s.1)) []))
      → AllByRecursion (IsLogFor z)
      (found_of (map (λ (zone : Saved). (zone.0, kept_if layout all zone.0.name zone.1)) zs) z)
  all_fit [] h = tt
  all_fit (s ∷ zs) h = AllByRecursion-append (IsLogFor z) _ _ (h 0 s refl) (all_fit zs (λ j t e. h (suc j) t e))

pub fitting_logs_fit : FittingLogsFit
fitting_logs_fit layout zones named bytes i z hz =
    all_fit layout zones named i z hz zones (λ j s e. saved_fits layout zones named i z hz j s.0 s.1 e
    (bytes j s e) (is_zone s.0.name z) refl)
