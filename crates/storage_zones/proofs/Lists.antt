-- The records one kind after another, and that of the ftrace zones
use Rattle.std.proofs.Common.{◌≡◌, ◌∙◌, ℕ, List, [], ◌∷◌, ◌++◌, Bool, true, false, map, refl, sym, ap}
use Rattle.std.specs.Prelude.{flat_map, None}
use Rattle.std.proofs.lemmas.List.{map-append}
use Rattle.std.proofs.lemmas.List.Folds.{flat_map-map}
use Rattle.psz_spec.specs.declared.Kind.TheVariants.{Pmsg, Console, Dump}
use Rattle.psz_spec.specs.declared.Zone.{Zone}
use Rattle.psz_spec.specs.declared.Machine.{Machine}
use Rattle.psz_spec.specs.Records.{Listed, records_of, traces_of, ftrace_listed, listed_in}
use Rattle.zone_spec.specs.declared.Name.TheVariants.{Ftrace}
use Rattle.zone_spec.specs.RecordsHeld.{RecordHeld}
use Rattle.ftrace_zone.specs.EntryBytes.{entry_bytes}
use Rattle.storage_spec.specs.Records.{held_of}
use Rattle.storage_zones.specs.Steps.{AreMerged, merge_more}
use Rattle.storage_zones.specs.declared.traces.Traces.{Traces}

abbrev held : List Listed → List RecordHeld
held rs = map held_of rs

pub joined : (machine : Machine) (image : List ℕ) (zones : List Zone) (a b c d : List RecordHeld)
    → a ≡ [] ++ held (records_of machine image Dump zones)
    → b ≡ a ++ held (ftrace_listed (traces_of machine image zones))
    → c ≡ b ++ held (records_of machine image Pmsg zones)
    → d ≡ c ++ held (records_of machine image Console zones) → d ≡ held (listed_in machine zones image)
unfolding listed_in
joined machine image zones a b c d e f g h =
    let ds = records_of machine image Dump zones in
    let fs = ftrace_listed (traces_of machine image zones) in
    let ps = records_of machine image Pmsg zones in
    let cs = records_of machine image Console zones in
    let two : b ≡ held (ds ++ fs) = f ∙ ap (λ (rs : List RecordHeld). rs ++ held fs) e ∙ sym (map-append held_of ds fs) in
    let three : c ≡ held (ds ++ fs ++ ps) =
    g ∙ ap (λ (rs : List RecordHeld). rs ++ held ps) two ∙ sym (map-append held_of (ds ++ fs) ps) in
    h ∙ ap (λ (rs : List RecordHeld). rs ++ held cs) three ∙ sym (map-append held_of (ds ++ fs ++ ps) cs)

-- the record of merged logs
abbrev traced_record : List ℕ → RecordHeld
traced_record bytes = record { name = Ftrace; time = None; content = bytes; notice = [] }

pub traced : (logs : List (List ℕ)) (t : Traces) (bytes : List ℕ) → AreMerged logs t → t.is_any ≡ true
    → bytes ≡ flat_map entry_bytes t.all → traced_record bytes ∷ [] ≡ held (ftrace_listed logs)
traced [] t bytes are any is = let n : ◌≡◌ {A = Bool} true false = sym any ∙ are.any in cc
traced (log ∷ logs) t bytes are any is =
    ap (λ (bs : List ℕ). traced_record bs ∷ [])
    (is ∙ sym (flat_map-map (λ (e : List ℕ). e) entry_bytes t.all)
    ∙ ap (flat_map (λ (e : List ℕ). e)) are.merged)

pub untraced : (logs : List (List ℕ)) (t : Traces) → AreMerged logs t → t.is_any ≡ false
    → [] ≡ held (ftrace_listed logs)
untraced [] t are any = refl
untraced (log ∷ logs) t are any = let n : ◌≡◌ {A = Bool} true false = sym are.any ∙ any in cc
