-- Readings, records and lines of a copy with each zone's front and the logs of its parts. For `few_bytes_are_a_report`.
use Rattle.std.proofs.Common.{◌≡◌, ◌∙◌, ℕ, List, [], ◌∷◌, ◌++◌, map, take, refl, sym, ap, ap₂, arith, Bool, true, false}
use Rattle.std.specs.Prelude.{Option, Some, ◌||◌, ◌&&◌, ◌==◌, not, filter, flat_map, if◌then◌else◌}
use Rattle.std.specs.List.{AllByRecursion, list_any}
use Rattle.std.proofs.lemmas.List.{map-append}
use Rattle.psz_spec.specs.declared.Kind.TheVariants.{Pmsg, Console, Ftrace, Dump}
use Rattle.psz_spec.specs.declared.Zone.{Zone}
use Rattle.psz_spec.specs.declared.Words.{Words}
use Rattle.psz_spec.specs.declared.DumpHeader.{DumpHeader}
use Rattle.psz_spec.specs.declared.KernelFault.{KernelFault}
use Rattle.psz_spec.specs.declared.Machine.{Machine}
use Rattle.psz_spec.specs.declared.State.{State}
use Rattle.psz_spec.specs.Headers.{words_of, dump_header, order_of}
use Rattle.psz_spec.specs.Layouts.{zones_of}
use Rattle.psz_spec.specs.States.{zone_bytes, data_of, state_of}
use Rattle.psz_spec.specs.Parts.{read_order, of_kind}
use Rattle.psz_spec.specs.Records.{is_of, is_found, gives, Listed}
use Rattle.psz_spec.specs.Failures.{kernel_fault}
use Rattle.psz_read.specs.Laws.{ReadsTheSame}
use Rattle.psz_read.proofs.Fronts.{SameFront, front_same, state_same, fault_same}
use Rattle.psz_read.proofs.Agreeing.{listed_same}
use Rattle.zone_spec.specs.Reading.{ZoneReading}
use Rattle.storage_spec.specs.declared.Storage.{Storage}
use Rattle.storage_spec.specs.Zones.{reading_in, readings_in, state_in, words_in}
use Rattle.storage_spec.specs.Records.{held_in, held_of}
use Rattle.storage_spec.specs.Told.{storage_lines, has_dump, has_panic, is_panic, fault_in, fault_line, fault_lines}
use Rattle.storage_spec.specs.Told.{found_line, tied_line, oopses_line}
use Rattle.storage_zones.specs.Laws.{ReadTheSame}

-- ---- one zone

fronts : (machine : Machine) (z : Zone) (a b : List ℕ) → ReadsTheSame machine z a b
    → SameFront machine (zone_bytes z a) (zone_bytes z b)
fronts machine z a b same =
    let here : SameFront machine (take 52 (zone_bytes z a)) (zone_bytes z a) =
    front_same machine 52 (zone_bytes z a) (omega arith) in
    let there : SameFront machine (take 52 (zone_bytes z b)) (zone_bytes z b) =
    front_same machine 52 (zone_bytes z b) (omega arith) in
    record {
      words = sym here.words ∙ ap (words_of machine) same.front ∙ there.words;
      header = sym here.header ∙ ap (λ (bytes : List ℕ). dump_header machine (data_of bytes)) same.front ∙ there.header;
    }

abbrev reading_with : State → Words → Option ZoneReading
reading_with state words =
    Some (record { state = state_in state; words = words_in words; log = []; corrected = 0; bad = 0 })

reading_same : (machine : Machine) (z : Zone) (a b : List ℕ) → SameFront machine (zone_bytes z a) (zone_bytes z b)
    → reading_in machine a z ≡ reading_in machine b z
reading_same machine z a b s =
    ap₂ (λ (t : State) (w : Words). reading_with t w) (state_same machine z (zone_bytes z a) (zone_bytes z b) s) s.words

gives_same : (machine : Machine) (z : Zone) (a b : List ℕ) → SameFront machine (zone_bytes z a) (zone_bytes z b)
    → gives machine a Dump z ≡ gives machine b Dump z
gives_same machine z a b s =
    ap (λ (t : State). is_of Dump z.kind && is_found t) (state_same machine z (zone_bytes z a) (zone_bytes z b) s)

panic_same : (machine : Machine) (z : Zone) (a b : List ℕ) → SameFront machine (zone_bytes z a) (zone_bytes z b)
    → is_panic machine a z ≡ is_panic machine b z
panic_same machine z a b s =
    ap₂ (λ (t : Bool) (h : DumpHeader). t && (h.reason == 1)) (gives_same machine z a b s) s.header

line_same : (machine : Machine) (z : Zone) (a b : List ℕ) → SameFront machine (zone_bytes z a) (zone_bytes z b)
    → fault_in machine a z ≡ fault_in machine b z
line_same machine z a b s =
    ap (λ (f : Option KernelFault). fault_line z f) (fault_same machine z (zone_bytes z a) (zone_bytes z b) s)

-- ---- all zones

any_same : (f g : Zone → Bool) (zones : List Zone) → AllByRecursion (λ (z : Zone). f z ≡ g z) zones
    → list_any f zones ≡ list_any g zones
any_same f g [] all = refl
any_same f g (z ∷ zones) all = ap₂ (λ (s t : Bool). s || t) all.0 (any_same f g zones all.1)

flat_same : (f g : Zone → List ℕ) (zones : List Zone) → AllByRecursion (λ (z : Zone). f z ≡ g z) zones
    → flat_map f zones ≡ flat_map g zones
flat_same f g [] all = refl
flat_same f g (z ∷ zones) all = ap₂ (λ (xs ys : List ℕ). xs ++ ys) all.0 (flat_same f g zones all.1)

map_if : {A : Type 0} (f g : Zone → A) (t : Bool) (z : Zone) (zs : List Zone) → f z ≡ g z → map f zs ≡ map g zs
    → map f (if t then z ∷ zs else zs) ≡ map g (if t then z ∷ zs else zs)
map_if {A} f g true z zs e h = ap₂ (λ (x : A) (xs : List A). x ∷ xs) e h
map_if f g false z zs e h = h

map_same : {A : Type 0} (f g : Zone → A) (test : Zone → Bool) (zones : List Zone)
    → AllByRecursion (λ (z : Zone). f z ≡ g z) zones → map f (filter test zones) ≡ map g (filter test zones)
map_same f g test [] all = refl
map_same f g test (z ∷ zones) all =
    map_if f g (test z) z (filter test zones) all.0 (map_same f g test zones all.1)

each : (machine : Machine) (a b : List ℕ) (P : Zone → Type 0)
    → ((z : Zone) → SameFront machine (zone_bytes z a) (zone_bytes z b) → P z) → (zones : List Zone)
    → AllByRecursion (λ (z : Zone). ReadsTheSame machine z a b) zones → AllByRecursion P zones
each machine a b P f [] all = tt
each machine a b P f (z ∷ zones) all = (f z (fronts machine z a b all.0), each machine a b P f zones all.1)

-- ---- a storage

abbrev kind_map : Machine → List ℕ → List Zone → List (Option ZoneReading)
kind_map machine image zones = map (reading_in machine image) zones

in_order : (machine : Machine) (image : List ℕ) (zones : List Zone)
    → kind_map machine image (read_order zones)
    ≡ kind_map machine image (of_kind Dump zones) ++ kind_map machine image (of_kind Ftrace zones)
    ++ kind_map machine image (of_kind Pmsg zones) ++ kind_map machine image (of_kind Console zones)
unfolding read_order
in_order machine image zones =
    let d = of_kind Dump zones in
    let f = of_kind Ftrace zones in
    let p = of_kind Pmsg zones in
    let c = of_kind Console zones in
    map-append (reading_in machine image) (d ++ f ++ p) c
    ∙ ap (λ (xs : List (Option ZoneReading)). xs ++ kind_map machine image c)
    (map-append (reading_in machine image) (d ++ f) p
    ∙ ap (λ (xs : List (Option ZoneReading)). xs ++ kind_map machine image p)
    (map-append (reading_in machine image) d f))

pub same_readings : (s : Storage) (a b : List ℕ) → ReadTheSame s a b
    → readings_in s.machine s.sizes a ≡ readings_in s.machine s.sizes b
unfolding readings_in
same_readings s a b same =
    let m = s.machine in
    let zones : List Zone = zones_of s.sizes in
    let all : AllByRecursion (λ (z : Zone). reading_in m a z ≡ reading_in m b z) zones =
    each m a b (λ (z : Zone). reading_in m a z ≡ reading_in m b z) (λ z s. reading_same m z a b s) zones same in
    let of = λ (test : Zone → Bool). map_same (reading_in m a) (reading_in m b) test zones all in
    in_order m a zones
    ∙ ap₂ (λ (xs ys : List (Option ZoneReading)). xs ++ ys)
    (ap₂ (λ (xs ys : List (Option ZoneReading)). xs ++ ys)
    (ap₂ (λ (xs ys : List (Option ZoneReading)). xs ++ ys) (of (λ (z : Zone). is_of Dump z.kind))
    (of (λ (z : Zone). is_of Ftrace z.kind)))
    (of (λ (z : Zone). is_of Pmsg z.kind)))
    (of (λ (z : Zone). is_of Console z.kind))
    ∙ sym (in_order m b zones)

pub same_records : (s : Storage) (a b : List ℕ) → ReadTheSame s a b
    → held_in s.machine s.sizes a ≡ held_in s.machine s.sizes b
unfolding held_in
same_records s a b same =
    ap (λ (rs : List Listed). map held_of rs) (listed_same s.machine (zones_of s.sizes) a b same)

abbrev lines_from : List ℕ → Storage → Bool → Bool → List ℕ → List ℕ
lines_from name s dump panic faults =
    found_line name s.sizes (order_of s.machine) ++ tied_line s.tied ++ oopses_line (dump && not panic) ++ faults

pub same_lines : (s : Storage) (name a b : List ℕ) → ReadTheSame s a b
    → storage_lines name s a ≡ storage_lines name s b
unfolding storage_lines
same_lines s name a b same =
    let m = s.machine in
    let zones : List Zone = zones_of s.sizes in
    let dump : has_dump m a zones ≡ has_dump m b zones =
    any_same (λ (z : Zone). gives m a Dump z) (λ (z : Zone). gives m b Dump z) zones
    (each m a b (λ (z : Zone). gives m a Dump z ≡ gives m b Dump z) (λ z s. gives_same m z a b s) zones same) in
    let panic : has_panic m a zones ≡ has_panic m b zones =
    any_same (is_panic m a) (is_panic m b) zones
    (each m a b (λ (z : Zone). is_panic m a z ≡ is_panic m b z) (λ z s. panic_same m z a b s) zones same) in
    let faults : fault_lines m a zones ≡ fault_lines m b zones =
    flat_same (fault_in m a) (fault_in m b) zones
    (each m a b (λ (z : Zone). fault_in m a z ≡ fault_in m b z) (λ z s. line_same m z a b s) zones same) in
    ap₂ (λ (d p : Bool). lines_from name s d p (fault_lines m a zones)) dump panic
    ∙ ap (λ (f : List ℕ). lines_from name s (has_dump m b zones) (has_panic m b zones) f) faults
