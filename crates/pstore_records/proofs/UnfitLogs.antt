-- The logs of records that do not fit, forgotten zone by zone
use Rattle.std.proofs.Common.{◌≡◌, ℕ, zero, suc, ◌+◌, ◌<◌, ◌≤◌, Bool, true, false, ◌&&◌, cond, List, [], ◌∷◌, ◌++◌, map}
use Rattle.std.proofs.Common.{take, drop, length, set, get_or, refl, sym, ap, ap₂, ◌∙◌, arith, Option, Some, None}
use Rattle.std.proofs.Common.{append-nil, length-set, append_assoc, add-one, drop-cons}
use Rattle.std.specs.Prelude.{slice_get}
use Rattle.std.specs.Option.{option_map}
use Rattle.std.proofs.lemmas.Option.{slice_get-get_or}
use Rattle.std.specs.List.{zip, list_all}
use Rattle.std.proofs.lemmas.List.{take_all, take_more, length-map, length-take, map-append}
use Rattle.std.proofs.Math.ListN.{drop_of_length-le}
use Rattle.zone_spec.specs.declared.Zone.{Zone}
use Rattle.zone_spec.specs.declared.ZoneName.{ZoneName}
use Rattle.zone_spec.specs.declared.Kind.{Kind}
use Rattle.zone_spec.specs.declared.Kind.TheVariants.{Dump, Console, Ftrace, Pmsg}
use Rattle.zone_spec.specs.declared.Name.TheVariants.{Dump as DumpName}
use Rattle.zone_spec.specs.declared.TimeLine.{TimeLine}
use Rattle.zone_spec.specs.Reading.{ZoneReading}
use Rattle.zone_spec.specs.TimeLines.{read_line}
use Rattle.zone_spec.specs.Records.{Saved, is_of}
use Rattle.machine_spec.specs.Moved.{takes, fits, is_fit, record_name, kept_if, fitting}
use Rattle.prz_read.specs.Saving.{SavedLogs, saved}
use Rattle.pstore_records.specs.Tables.{numbers_rise, zones_counted}
use Rattle.pstore_records.specs.Moves.{stays}
use Rattle.pstore_records.proofs.RecordFit.{own-zone}
use Rattle.pstore_records.proofs.Steps.{item-at}

-- ---- a dump zone whose number no other has goes by itself

stays-line : (layout : List Zone) (a b : List Saved) (n : ℕ) (line : Option TimeLine)
    → ((packed : Bool) → fits layout a (DumpName n packed) ≡ fits layout b (DumpName n packed))
    → is_fit layout a (option_map (λ (l : TimeLine). DumpName n l.packed) line)
    ≡ is_fit layout b (option_map (λ (l : TimeLine). DumpName n l.packed) line)
stays-line layout a b n None same = refl
stays-line layout a b n (Some line) same = same line.packed

own-record : (layout : List Zone) (a b : List Saved) (zone : ZoneName) (log : List ℕ) (k : Kind) → is_of Dump k ≡ true
    → ((packed : Bool) → fits layout a (DumpName zone.index packed) ≡ fits layout b (DumpName zone.index packed))
    → is_fit layout a (record_name zone log k) ≡ is_fit layout b (record_name zone log k)
own-record layout a b zone log Dump is same = stays-line layout a b zone.index (read_line log) same
own-record layout a b zone log Console is same = let n : false ≡ true = is in cc
own-record layout a b zone log Ftrace is same = let n : false ≡ true = is in cc
own-record layout a b zone log Pmsg is same = let n : false ≡ true = is in cc

own-stays : (layout : List Zone) (zones : List Saved) (i : ℕ) (s : Saved) (o : Option ZoneReading)
    → is_of Dump s.0.name.kind ≡ true → numbers_rise 0 zones ≡ true → slice_get zones i ≡ Some s
    → stays layout (s ∷ []) s o ≡ stays layout zones s o
own-stays layout zones i s None is rises at = refl
own-stays layout zones i s (Some r) is rises at =
    own-record layout (s ∷ []) zones s.0.name r.log s.0.name.kind is
    (λ packed. ap (list_all (takes layout)) (own-zone packed zones i s rises at is))

-- by whether the numbers rise and the zone is a dump's
pub counted-stays : (layout : List Zone) (zones : List Saved) (i : ℕ) (s : Saved) (rises dump alone : Bool)
    → alone ≡ (rises && dump) → rises ≡ numbers_rise 0 zones → dump ≡ is_of Dump s.0.name.kind
    → slice_get zones i ≡ Some s
    → stays layout (zones_counted alone s zones) s s.1 ≡ stays layout zones s s.1
counted-stays layout zones i s rises dump false a r d at = refl
counted-stays layout zones i s true true true a r d at = own-stays layout zones i s s.1 (sym d) (sym r) at
counted-stays layout zones i s true false true a r d at = cc
counted-stays layout zones i s false dump true a r d at = cc

-- what is found of each item, one item on
pub mapped-more : {X Y : Type 0} (f : X → Y) (xs : List X) (i : ℕ) (old new : List Y) (own : Y) → i < length xs
    → ((x : X) → slice_get xs i ≡ Some x → own ≡ f x) → old ≡ map f (take i xs) → new ≡ old ++ own ∷ []
    → new ≡ map f (take (i + 1) xs)
mapped-more {Y = Y} f xs i old new own lt gives was pushed =
    let at = item-at xs i lt in
    pushed ∙ ap₂ (λ (ys : List Y) (y : Y). ys ++ y ∷ []) was (gives at.item at.here)
    ∙ sym (ap (map f) at.more ∙ map-append f (take i xs) (at.item ∷ []))

-- ---- forgotten one after the other

-- a saved zone whose log is kept if its record fits
abbrev pub kept : List Zone → List Saved → Saved → Saved
kept layout zones zone = (zone.0, kept_if layout zones zone.0.name zone.1)

pub record ForgetsTo (layout : List Zone) (old new : SavedLogs) (i : ℕ) : Type 0 where
  pub zones : new.zones ≡ old.zones
  pub count : length new.readings ≡ length old.readings
  pub done : saved new ≡ map (kept layout (saved old)) (take i (saved old)) ++ drop i (saved old)

pub forgets_none : (layout : List Zone) (logs : SavedLogs) → ForgetsTo layout logs logs 0
forgets_none layout logs = record { zones = refl; count = refl; done = refl }

zip-set : {X Y : Type 0} (xs : List X) (ys : List Y) (i : ℕ) (x : X) (y : Y) → slice_get xs i ≡ Some x
    → zip xs (set ys i y) ≡ set (zip xs ys) i (x, y)
zip-set [] ys i x y e = let n : None ≡ Some x = e in cc
zip-set (u ∷ us) [] i x y e = refl
zip-set (u ∷ us) (v ∷ vs) zero x y e = let same : u ≡ x = cc in ap (λ w. (w, y) ∷ zip us vs) same
zip-set (u ∷ us) (v ∷ vs) (suc i) x y e = ap (λ ws. (u, v) ∷ ws) (zip-set us vs i x y e)

zip-first : {X Y : Type 0} (xs : List X) (ys : List Y) (i : ℕ) (s : X × Y) → slice_get (zip xs ys) i ≡ Some s
    → slice_get xs i ≡ Some s.0
zip-first [] ys i s e = let n : None ≡ Some s = e in cc
zip-first (u ∷ us) [] i s e = let n : None ≡ Some s = e in cc
zip-first {X = X} {Y = Y} (u ∷ us) (v ∷ vs) zero s e = let same : (u, v) ≡ s = cc in ap (λ (p : X × Y). Some p.0) same
zip-first (u ∷ us) (v ∷ vs) (suc i) s e = zip-first us vs i s e

set-behind : {X : Type 0} (xs : List X) (y x : X) (ys : List X) (i : ℕ) → length xs ≡ i
    → set (xs ++ y ∷ ys) i x ≡ xs ++ x ∷ ys
set-behind [] y x ys zero e = refl
set-behind [] y x ys (suc i) e = absurd (omega (arith, e))
set-behind (z ∷ zs) y x ys zero e = absurd (omega (arith, e))
set-behind (z ∷ zs) y x ys (suc i) e = ap (λ ws. z ∷ ws) (set-behind zs y x ys i (omega (arith, e)))

-- the list with one item more passed over
module _ {X : Type 0} (f : X → X) (xs : List X) (i : ℕ) (s : X) (at : slice_get xs i ≡ Some s) (below : i < length xs)
  where
    left : drop i xs ≡ s ∷ drop (i + 1) xs
    left =
        let same : get_or xs i s ≡ s = (let g : Some (get_or xs i s) ≡ Some s = sym (slice_get-get_or xs i s below) ∙ at
        in cc) in
        rw (add-one, drop-cons xs i s below) (ap (λ (x : X). x ∷ drop (suc i) xs) same)

    pub passed : map f (take (i + 1) xs) ++ drop (i + 1) xs ≡ map f (take i xs) ++ (f s ∷ drop (i + 1) xs)
    passed =
        let same : get_or xs i s ≡ s = (let g : Some (get_or xs i s) ≡ Some s = sym (slice_get-get_or xs i s below) ∙ at
        in cc) in
        ap (λ (ys : List X). map f ys ++ drop (i + 1) xs)
        (take_more xs i s below ∙ ap (λ (x : X). take i xs ++ x ∷ []) same)
        ∙ ap (λ (ys : List X). ys ++ drop (i + 1) xs) (map-append f (take i xs) (s ∷ []))
        ∙ append_assoc (map f (take i xs)) (f s ∷ []) (drop (i + 1) xs)

    pub standing : map f (take i xs) ++ drop i xs ≡ map f (take i xs) ++ (s ∷ drop (i + 1) xs)
    standing = ap (λ (ys : List X). map f (take i xs) ++ ys) left

    pub front_len : length (map f (take i xs)) ≡ i
    front_len = simp (length-map, length-take) (omega (arith, below))

-- a zone that stays is kept as it is, and one that does not is forgotten
kept_stays : (layout : List Zone) (zones : List Saved) (z : Zone) (o : Option ZoneReading)
    → stays layout zones (z, o) o ≡ true → kept layout zones (z, o) ≡ (z, o)
kept_stays layout zones z None e = refl
kept_stays layout zones z (Some r) e = ap (λ (b : Bool). (z, cond b (Some r) None)) e

kept_not : (layout : List Zone) (zones : List Saved) (z : Zone) (o : Option ZoneReading)
    → stays layout zones (z, o) o ≡ false → kept layout zones (z, o) ≡ (z, None)
kept_not layout zones z None e = let n : true ≡ false = e in cc
kept_not layout zones z (Some r) e = ap (λ (b : Bool). (z, cond b (Some r) None)) e

module _ (layout : List Zone) (old new : SavedLogs) (i : ℕ) (s : Saved) (so_far : ForgetsTo layout old new i)
    (at : slice_get (saved old) i ≡ Some s) (below : i < length (saved old)) where
  pub forgets_stay : stays layout (saved old) s s.1 ≡ true → ForgetsTo layout old new (i + 1)
  forgets_stay e = record {
    zones = so_far.zones;
    count = so_far.count;
    done = so_far.done ∙ standing (kept layout (saved old)) (saved old) i s at below
        ∙ ap (λ (x : Saved). map (kept layout (saved old)) (take i (saved old)) ++ x ∷ drop (i + 1) (saved old))
        (sym (kept_stays layout (saved old) s.0 s.1 e))
        ∙ sym (passed (kept layout (saved old)) (saved old) i s at below);
  }

  pub forgets_next : (w : SavedLogs) → stays layout (saved old) s s.1 ≡ false
      → w ≡ record new { readings = set new.readings i None } → ForgetsTo layout old w (i + 1)
  forgets_next w e is =
      let f = kept layout (saved old) in
      let zone : slice_get new.zones i ≡ Some s.0 =
      ap (λ (zs : List Zone). slice_get zs i) so_far.zones ∙ zip-first old.zones old.readings i s at in
      record {
        zones = ap (λ (l : SavedLogs). l.zones) is ∙ so_far.zones;
        count = ap (λ (l : SavedLogs). length l.readings) is ∙ length-set new.readings i None ∙ so_far.count;
        done = ap saved is ∙ zip-set new.zones new.readings i s.0 None zone
            ∙ ap (λ (xs : List Saved). set xs i (s.0, None)) (so_far.done ∙ standing f (saved old) i s at below)
            ∙ set-behind (map f (take i (saved old))) s (s.0, None) (drop (i + 1) (saved old)) i
            (front_len f (saved old) i s at below)
            ∙ ap (λ (x : Saved). map f (take i (saved old)) ++ x ∷ drop (i + 1) (saved old))
            (sym (kept_not layout (saved old) s.0 s.1 e))
            ∙ sym (passed f (saved old) i s at below);
      }

pub forgets_all : (layout : List Zone) (old new : SavedLogs) (i : ℕ) → ForgetsTo layout old new i
    → length (saved old) ≤ i → saved new ≡ fitting layout (saved old)
forgets_all layout old new i so_far past =
    so_far.done ∙ ap₂ (λ (xs ys : List Saved). map (kept layout (saved old)) xs ++ ys)
    (take_all i (saved old) past) (drop_of_length-le (saved old) past)
    ∙ append-nil (map (kept layout (saved old)) (saved old))

-- what was found of the item at a place
mapped-at : {X Y : Type 0} (f : X → Y) (xs : List X) (i : ℕ) (x : X) → slice_get xs i ≡ Some x
    → slice_get (map f xs) i ≡ Some (f x)
mapped-at f [] i x e = let n : None ≡ Some x = e in cc
mapped-at {X = X} f (y ∷ ys) zero x e = let same : y ≡ x = cc in ap (λ (z : X). Some (f z)) same
mapped-at f (y ∷ ys) (suc i) x e = mapped-at f ys i x e

pub read-mapped : {X Y : Type 0} (f : X → Y) (xs : List X) (ys : List Y) (i : ℕ) (x : X) (y : Y) → ys ≡ map f xs
    → y ≡ get_or ys i y → i < length xs → slice_get xs i ≡ Some x → f x ≡ y
read-mapped {Y = Y} f xs ys i x y all here below at =
    let there : slice_get ys i ≡ Some (get_or ys i y) =
    slice_get-get_or ys i y (omega (arith, ap length all, length-map xs f, below)) in
    let both : Some (f x) ≡ Some y = sym (mapped-at f xs i x at) ∙ ap (λ (zs : List Y). slice_get zs i) (sym all)
    ∙ there
    ∙ ap Some (sym here) in
    cc
