-- A boot of a moved image lists the records of the logs that were told
use Rattle.std.proofs.Common.{◌≡◌, ℕ, suc, ◌==◌, Bool, true, false, cond, not, List, [], ◌∷◌, ◌++◌, length, map}
use Rattle.std.proofs.Common.{slice_get, refl, sym, ap, ap₂, ◌∙◌, arith, Some}
use Rattle.std.specs.Prelude.{find, flat_map, unwrap_or, zip}
use Rattle.std.proofs.lemmas.List.Concat.{flat_map-append}
use Rattle.list_laws.proofs.Tests.{eqb_zero_from_lt}
use Rattle.list_laws.proofs.Gets.{slice_get_there}
use Rattle.zone_spec.specs.declared.Zone.{Zone}
use Rattle.zone_spec.specs.declared.ZoneName.{ZoneName}
use Rattle.zone_spec.specs.declared.Kind.{Kind}
use Rattle.zone_spec.specs.declared.Kind.TheVariants.{Dump, Console, Ftrace, Pmsg}
use Rattle.zone_spec.specs.declared.Name.TheVariants.{Console as ConsoleName, Pmsg as PmsgName}
use Rattle.zone_spec.specs.declared.State.TheVariants.{Empty, Found}
use Rattle.zone_spec.specs.TimeLines.{read_line}
use Rattle.zone_spec.specs.Reading.{ZoneReading, zone_reading}
use Rattle.zone_spec.specs.Records.{Saved, Listed, is_of, found_in, found, logs_of, dump_of, dumps_of, plain, ftrace_of}
use Rattle.zone_spec.specs.Records.{listed_of}
use Rattle.machine_spec.specs.Zones.{zone_bytes}
use Rattle.machine_spec.specs.Boot.{booted}
use Rattle.machine_spec.specs.Erasures.{saved_logs}
use Rattle.machine_spec.specs.Moved.{found_of, fitting, moved}
use Rattle.machine_laws.proofs.Lists.{get-below}
use Rattle.move_laws.specs.Moves.{ReadsLog}
use Rattle.move_laws.specs.Listed.{named, named_of, IsOneLog, MovedImageLists, MoveListsWhatFits}
use Rattle.move_laws.proofs.MovedState.{moved-reads}
use Rattle.move_laws.proofs.ListedLogs.{fitting_lists_what_fits}
use Rattle.move_laws.proofs.Fits.{fitting_logs_fit}
use Rattle.move_laws.proofs.Places.{fitting_takes_in_order}

-- ---- the records are those of the named logs

abbrev Named : Type 0
Named = ZoneName × List ℕ

abbrev named_in : Kind → List Saved → List Named
named_in kind zones = flat_map (λ (zone : Saved). named_of kind zone.0.name (found zone.1)) zones

abbrev logs_in : List Named → List (List ℕ)
logs_in ps = flat_map (λ (p : Named). p.1 ∷ []) ps

abbrev dumps_in : List Named → List Listed
dumps_in ps = flat_map (λ (p : Named). dump_of p.0.index p.1 (read_line p.1)) ps

logs_one : (name : ZoneName) (b : Bool) (rs : List ZoneReading) → cond b (map (λ (r : ZoneReading). r.log) rs) []
    ≡ logs_in (cond b (map (named name) rs) [])
logs_one name true [] = refl
logs_one name true (r ∷ rs) = ap (λ xs. r.log ∷ xs) (logs_one name true rs)
logs_one name false rs = refl

dumps_one : (name : ZoneName) (b : Bool) (rs : List ZoneReading)
    → cond b (flat_map (λ (r : ZoneReading). dump_of name.index r.log (read_line r.log)) rs) []
    ≡ dumps_in (cond b (map (named name) rs) [])
dumps_one name true [] = refl
dumps_one name true (r ∷ rs) = ap (λ xs. dump_of name.index r.log (read_line r.log) ++ xs) (dumps_one name true rs)
dumps_one name false rs = refl

logs_named : (kind : Kind) (zones : List Saved) → logs_of kind zones ≡ logs_in (named_in kind zones)
logs_named kind [] = refl
logs_named kind (zone ∷ zones) =
    ap₂ (λ xs ys. xs ++ ys) (logs_one zone.0.name (is_of kind zone.0.name.kind) (found zone.1)) (logs_named kind zones)
    ∙ sym (flat_map-append (λ (p : Named). p.1 ∷ []) (named_of kind zone.0.name (found zone.1)) (named_in kind zones))

dumps_named : (zones : List Saved) → dumps_of zones ≡ dumps_in (named_in Dump zones)
dumps_named [] = refl
dumps_named (zone ∷ zones) =
    ap₂ (λ xs ys. xs ++ ys) (dumps_one zone.0.name (is_of Dump zone.0.name.kind) (found zone.1)) (dumps_named zones)
    ∙ sym (flat_map-append (λ (p : Named). dump_of p.0.index p.1 (read_line p.1))
    (named_of Dump zone.0.name (found zone.1)) (named_in Dump zones))

abbrev listed_named : (Kind → List Named) → List Listed
listed_named of = dumps_in (of Dump) ++ plain ConsoleName (logs_in (of Console)) ++ plain PmsgName (logs_in (of Pmsg))
    ++ ftrace_of (logs_in (of Ftrace))

listed_is : (zones : List Saved) → listed_of zones ≡ listed_named (λ kind. named_in kind zones)
listed_is zones =
    ap₂ (λ xs ys. xs ++ ys)
    (ap₂ (λ xs ys. xs ++ ys)
    (ap₂ (λ xs ys. xs ++ ys) (dumps_named zones) (ap (plain ConsoleName) (logs_named Console zones)))
    (ap (plain PmsgName) (logs_named Pmsg zones)))
    (ap ftrace_of (logs_named Ftrace zones))

listed_same : (f g : Kind → List Named) → ((kind : Kind) → f kind ≡ g kind) → listed_named f ≡ listed_named g
listed_same f g same =
    ap₂ (λ xs ys. xs ++ ys)
    (ap₂ (λ xs ys. xs ++ ys)
    (ap₂ (λ xs ys. xs ++ ys) (ap dumps_in (same Dump)) (ap (λ ps. plain ConsoleName (logs_in ps)) (same Console)))
    (ap (λ ps. plain PmsgName (logs_in ps)) (same Pmsg)))
    (ap (λ ps. ftrace_of (logs_in ps)) (same Ftrace))

-- ---- zone by zone

each_same : {X : Type 0} (f g : Zone → List X) (zs : List Zone)
    → ((i : ℕ) (z : Zone) → slice_get zs i ≡ Some z → f z ≡ g z) → flat_map f zs ≡ flat_map g zs
each_same f g [] h = refl
each_same f g (z ∷ zs) h = ap₂ (λ xs ys. xs ++ ys) (h 0 z refl) (each_same f g zs (λ i y e. h (suc i) y e))

saved_named : (kind : Kind) (read : Zone → ZoneReading) (zs : List Zone)
    → named_in kind (zip zs (map (λ z. Some (read z)) zs))
    ≡ flat_map (λ (z : Zone). named_of kind z.name (found_in (read z) (read z).state)) zs
saved_named kind read [] = refl
saved_named kind read (z ∷ zs) =
    ap (λ xs. named_of kind z.name (found_in (read z) (read z).state) ++ xs) (saved_named kind read zs)

abbrev first_of : List ZoneReading → List ℕ
first_of rs = unwrap_or (find (λ (log : List ℕ). not (length log == 0)) (map (λ (r : ZoneReading). r.log) rs)) []

one_first : (r : ZoneReading) (b : Bool) → (length r.log == 0) ≡ b → b ≡ false → first_of (r ∷ []) ≡ r.log
one_first r true e h = let n : ◌≡◌ {A = ℕ} 0 1 = cc in absurd (omega (arith, n))
one_first r false e h = rw e refl

-- what a zone with one log reads is that log
one_log : (name : ZoneName) (rs : List ZoneReading) (read : ZoneReading) → IsOneLog rs
    → read.log ≡ first_of rs → read.state ≡ cond (length (first_of rs) == 0) Empty Found
    → map (named name) (found_in read read.state) ≡ map (named name) rs
one_log name [] read one log state = ap (λ s. map (named name) (found_in read s)) state
one_log name (r ∷ []) read one log state =
    let first : first_of (r ∷ []) ≡ r.log = one_first r _ refl (eqb_zero_from_lt (length r.log) one) in
    let there : read.state ≡ Found = state ∙ ap (λ (xs : List ℕ). cond (length xs == 0) Empty Found) first
    ∙ ap (λ b. cond b Empty Found) (eqb_zero_from_lt (length r.log) one) in
    ap (λ s. map (named name) (found_in read s)) there ∙ ap (λ (xs : List ℕ). (name, xs) ∷ []) (log ∙ first)
one_log name (r ∷ s ∷ rs) read one log state = absurd one

pub moved_image_lists : MovedImageLists
moved_image_lists layout mem zones lies fit takes =
    let off = moved layout mem zones in
    let reads = moved-reads layout mem zones lies fit in
    let read : Zone → ZoneReading = (λ z. zone_reading z (zone_bytes z off.image)) in
    let same : (kind : Kind) → named_in kind (saved_logs layout (booted layout off)) ≡ named_in kind zones =
    (λ kind. saved_named kind read layout
    ∙ each_same (λ z. named_of kind z.name (found_in (read z) (read z).state))
    (λ z. named_of kind z.name (found_of zones z)) layout (λ i z e.
    let there = slice_get_there off.zones i (omega (arith, get-below layout i z e, reads.0)) in
    let is : ReadsLog zones z (zone_bytes z off.image) = reads.1 i z there.0 e there.1 in
    ap (λ us. cond (is_of kind z.name.kind) us [])
    (one_log z.name (found_of zones z) (read z) (takes.one i z e) is.log is.state))
    ∙ takes.order kind) in
    listed_is (saved_logs layout (booted layout off))
    ∙ listed_same (λ kind. named_in kind (saved_logs layout (booted layout off))) (λ kind. named_in kind zones) same
    ∙ sym (listed_is zones)

pub move_lists_what_fits : MoveListsWhatFits
move_lists_what_fits layout mem zones lies are bytes order =
    moved_image_lists layout mem (fitting layout zones) lies (fitting_logs_fit layout zones are bytes)
    (fitting_takes_in_order layout zones are bytes order)
    ∙ fitting_lists_what_fits layout zones
