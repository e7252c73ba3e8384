-- A record fits as its zones do, one after another. For `fits`, `source_in` and `stays`.
use Rattle.std.proofs.Common.{◌≡◌, ℕ, Bool, true, false, ◌&&◌, List, [], ◌∷◌, ◌++◌, ◌+◌, take, drop, sym, ap, ◌∙◌, Some}
use Rattle.std.specs.Prelude.{filter, slice_get}
use Rattle.std.specs.List.{list_all}
use Rattle.std.proofs.lemmas.List.{take-append-drop}
use Rattle.std.proofs.lemmas.List.Elements.{filter-append}
use Rattle.std.proofs.lemmas.List.Folds.{list_all-append}
use Rattle.zone_spec.specs.declared.Zone.{Zone}
use Rattle.zone_spec.specs.declared.Kind.TheVariants.{Dump}
use Rattle.zone_spec.specs.declared.Name.{Name}
use Rattle.zone_spec.specs.declared.Name.TheVariants.{Dump as DumpName}
use Rattle.zone_spec.specs.Records.{Saved, is_of}
use Rattle.zone_spec.specs.Notices.{is_in}
use Rattle.machine_spec.specs.Moved.{takes, fits}
use Rattle.pstore_records.specs.Tables.{numbers_rise}
use Rattle.pstore_records.proofs.OwnDumpZone.{in_dump, only-zone, taken-in, equals}

pub fits-append : (layout : List Zone) (name : Name) (xs ys : List Saved)
    → fits layout (xs ++ ys) name ≡ (fits layout xs name && fits layout ys name)
fits-append layout name xs ys =
    ap (list_all (takes layout)) (filter-append (λ (zone : Saved). is_in name zone.0) xs ys)
    ∙ list_all-append (takes layout) (filter (λ (zone : Saved). is_in name zone.0) xs)
    (filter (λ (zone : Saved). is_in name zone.0) ys)

-- a dump zone whose number no other has
pub own-zone : (packed : Bool) (zones : List Saved) (i : ℕ) (s : Saved) → numbers_rise 0 zones ≡ true
    → slice_get zones i ≡ Some s → is_of Dump s.0.name.kind ≡ true
    → in_dump s.0.name.index packed (s ∷ []) ≡ in_dump s.0.name.index packed zones
own-zone packed zones i s e at is =
    let own : is_in (DumpName s.0.name.index packed) s.0 ≡ true = cc (is, equals s.0.name.index) in
    taken-in s.0.name.index packed s [] own ∙ sym (only-zone packed 0 zones i s e at is)

-- one of the zones passed over does not fit
pub fits-all : (layout : List Zone) (name : Name) (zones : List Saved) (i : ℕ)
    → fits layout (take (i + 1) zones) name ≡ false → fits layout zones name ≡ false
fits-all layout name zones i e =
    joined-all (λ (zs : List Saved). fits layout zs name) zones (i + 1)
    ∙ ap (λ (b : Bool). b && fits layout (drop (i + 1) zones) name) e
  where
    joined-all : (f : List Saved → Bool) (zs : List Saved) (n : ℕ)
        → fits layout zs name ≡ (fits layout (take n zs) name && fits layout (drop n zs) name)
    joined-all f zs n = ap (λ (ys : List Saved). fits layout ys name) (sym (take-append-drop n zs))
        ∙ fits-append layout name (take n zs) (drop n zs)
