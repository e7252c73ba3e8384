-- A record is listed just where one is found by its name
use Rattle.std.proofs.Common.{◌≡◌, ◌==◌, Bool, true, false, cond, not, ◌&&◌, ℕ, List, [], ◌∷◌, ◌++◌, map, filter}
use Rattle.std.proofs.Common.{flat_map, refl, sym, ap, ap₂, ◌∙◌, Option, Some, None, is_some, ◌||◌}
use Rattle.std.specs.List.{list_any}
use Rattle.std.specs.Option.{option_map_or}
use Rattle.std.proofs.lemmas.List.Folds.{list_any-append}
use Rattle.std.proofs.Math.Bool.{or-false, and-false}
use Rattle.list_laws.proofs.Elements.{list_any_same}
use Rattle.zone_spec.specs.declared.Kind.{Kind}
use Rattle.zone_spec.specs.declared.Kind.TheVariants.{Dump as DumpKind, Console, Ftrace, Pmsg}
use Rattle.zone_spec.specs.declared.Name.{Name}
use Rattle.zone_spec.specs.declared.Name.TheVariants.{Dump as DumpName, Console as ConsoleName, Pmsg as PmsgName}
use Rattle.zone_spec.specs.declared.Name.TheVariants.{Ftrace as FtraceName}
use Rattle.zone_spec.specs.declared.TimeLine.{TimeLine}
use Rattle.zone_spec.specs.Reading.{ZoneReading}
use Rattle.zone_spec.specs.TimeLines.{read_line}
use Rattle.zone_spec.specs.Names.{is_name}
use Rattle.zone_spec.specs.Records.{Saved, Listed, is_of, found, logs_of, dump_of, dumps_of, plain, ftrace_of}
use Rattle.zone_spec.specs.Records.{listed_of, first_listed, record_of}
use Rattle.zone_spec.specs.Notices.{is_in}
use Rattle.zone_spec.specs.Listing.{makes_record, is_listed}
use Rattle.machine_laws.specs.Listed.{ListedIsFound}

-- ---- whether some item passes

any_first : (p : Listed → Bool) (rs : List Listed) → is_some (first_listed (filter p rs)) ≡ list_any p rs
any_first p [] = refl
any_first p (r ∷ rs) = by (p r) (any_first p rs)
  where
    by : (b : Bool) → is_some (first_listed (filter p rs)) ≡ list_any p rs
        → is_some (first_listed (cond b (r ∷ filter p rs) (filter p rs))) ≡ (b || list_any p rs)
    by true e = refl
    by false e = e

any_flat : {X Y : Type 0} (p : Y → Bool) (f : X → List Y) (xs : List X)
    → list_any p (flat_map f xs) ≡ list_any (λ (x : X). list_any p (f x)) xs
any_flat p f [] = refl
any_flat p f (x ∷ xs) = list_any-append p (f x) (flat_map f xs)
    ∙ ap (λ (b : Bool). list_any p (f x) || b) (any_flat p f xs)

any_map : {X Y : Type 0} (p : Y → Bool) (f : X → Y) (xs : List X)
    → list_any p (map f xs) ≡ list_any (λ (x : X). p (f x)) xs
any_map p f [] = refl
any_map p f (x ∷ xs) = ap (λ (b : Bool). p (f x) || b) (any_map p f xs)

any_none : {X : Type 0} (xs : List X) → list_any (λ (x : X). false) xs ≡ false
any_none [] = refl
any_none (x ∷ xs) = any_none xs

-- a test of all items goes before the list
any_and : {X : Type 0} (a : Bool) (p : X → Bool) (xs : List X)
    → list_any (λ (x : X). a && p x) xs ≡ (a && list_any p xs)
any_and true p xs = refl
any_and false p xs = any_none xs

-- ---- records of other kinds

-- whether a record has the name
abbrev has : Name → Listed → Bool
has name r = is_name r.name name

plain_any : (name own : Name) (logs : List (List ℕ))
    → list_any (has name) (plain own logs) ≡ list_any (λ (log : List ℕ). is_name own name) logs
plain_any name own logs = any_map (has name) (λ log. record { name = own; content = log; time = None }) logs

other_plain : (name own : Name) (logs : List (List ℕ)) → is_name own name ≡ false
    → list_any (has name) (plain own logs) ≡ false
other_plain name own logs e = plain_any name own logs
    ∙ list_any_same (λ (log : List ℕ). is_name own name) (λ (log : List ℕ). false) logs (λ log. e) ∙ any_none logs

ftrace_any : (name : Name) (logs : List (List ℕ)) → list_any (has name) (ftrace_of logs)
    ≡ list_any (λ (log : List ℕ). is_name FtraceName name) logs
ftrace_any name [] = refl
ftrace_any name (log ∷ logs) = more (is_name FtraceName name) logs
  where
    more : (b : Bool) (logs : List (List ℕ)) → (b || false) ≡ (b || list_any (λ (log : List ℕ). b) logs)
    more true logs = refl
    more false logs = sym (any_none logs)

other_ftrace : (name : Name) (logs : List (List ℕ)) → is_name FtraceName name ≡ false
    → list_any (has name) (ftrace_of logs) ≡ false
other_ftrace name logs e = ftrace_any name logs
    ∙ list_any_same (λ (log : List ℕ). is_name FtraceName name) (λ (log : List ℕ). false) logs (λ log. e)
    ∙ any_none logs

-- the logs of a kind, by the zones
logs_any : (kind : Kind) (zones : List Saved) → list_any (λ (log : List ℕ). true) (logs_of kind zones)
    ≡ list_any (λ (zone : Saved). is_of kind zone.0.name.kind && list_any (λ (r : ZoneReading). true)
    (found zone.1)) zones
logs_any kind zones =
    any_flat (λ (log : List ℕ). true) logs zones
    ∙ list_any_same (λ (zone : Saved). list_any (λ (log : List ℕ). true) (logs zone))
    (λ (zone : Saved). is_of kind zone.0.name.kind && list_any (λ (r : ZoneReading). true) (found zone.1)) zones each
  where
    logs : Saved → List (List ℕ)
    logs zone = cond (is_of kind zone.0.name.kind) (map (λ (r : ZoneReading). r.log) (found zone.1)) []

    each : (zone : Saved) → list_any (λ (log : List ℕ). true) (logs zone)
        ≡ (is_of kind zone.0.name.kind && list_any (λ (r : ZoneReading). true) (found zone.1))
    each zone = by (is_of kind zone.0.name.kind)
      where
        by : (b : Bool) → list_any (λ (log : List ℕ). true)
            (cond b (map (λ (r : ZoneReading). r.log) (found zone.1)) [])
            ≡ (b && list_any (λ (r : ZoneReading). true) (found zone.1))
        by true = any_map (λ (log : List ℕ). true) (λ (r : ZoneReading). r.log) (found zone.1)
        by false = refl

-- ---- dumps

-- the records of a zone in the listing of dumps
abbrev entries : Saved → List Listed
entries zone = cond (is_of DumpKind zone.0.name.kind)
    (flat_map (λ (r : ZoneReading). dump_of zone.0.name.index r.log (read_line r.log)) (found zone.1)) []

dump_any : (name : Name) (index : ℕ) (log : List ℕ) (o : Option TimeLine) (b : Bool)
    → ((line : TimeLine) → o ≡ Some line → is_name (DumpName index line.packed) name ≡ b) → (o ≡ None → b ≡ false)
    → list_any (has name) (dump_of index log o) ≡ b
dump_any name index log None b some none = sym (none refl)
dump_any name index log (Some line) b some none = ap (λ (a : Bool). a || false) (some line refl) ∙ or-false b

-- one dump zone's, by its number and its log
entry_any : (index i : ℕ) (packed : Bool) (r : ZoneReading)
    → list_any (has (DumpName i packed)) (dump_of index r.log (read_line r.log))
    ≡ ((index == i) && makes_record (DumpName i packed) r)
entry_any index i packed r = by (read_line r.log)
  where
    by : (o : Option TimeLine) → list_any (has (DumpName i packed)) (dump_of index r.log o)
        ≡ ((index == i)
        && option_map_or (λ (line : TimeLine). cond line.packed packed (not packed)) o false)
    by None = sym (and-false (index == i))
    by (Some line) = or-false ((index == i) && cond line.packed packed (not packed))

dumps_any : (i : ℕ) (packed : Bool) (zones : List Saved) → list_any (has (DumpName i packed)) (dumps_of zones)
    ≡ is_listed zones (DumpName i packed)
dumps_any i packed zones =
    any_flat (has (DumpName i packed)) entries zones
    ∙ list_any_same (λ (zone : Saved). list_any (has (DumpName i packed)) (entries zone))
    (λ (zone : Saved). is_in (DumpName i packed) zone.0 && list_any (makes_record (DumpName i packed)) (found zone.1))
    zones each
  where
    each : (zone : Saved) → list_any (has (DumpName i packed)) (entries zone)
        ≡ (is_in (DumpName i packed) zone.0 && list_any (makes_record (DumpName i packed)) (found zone.1))
    each zone = by (is_of DumpKind zone.0.name.kind)
      where
        index : ℕ
        index = zone.0.name.index

        by : (b : Bool) → list_any (has (DumpName i packed)) (cond b
            (flat_map (λ (r : ZoneReading). dump_of index r.log (read_line r.log)) (found zone.1)) [])
            ≡ ((b && (index == i)) && list_any (makes_record (DumpName i packed)) (found zone.1))
        by true =
            any_flat (has (DumpName i packed)) (λ (r : ZoneReading). dump_of index r.log (read_line r.log))
            (found zone.1)
            ∙ list_any_same (λ (r : ZoneReading). list_any (has (DumpName i packed))
            (dump_of index r.log (read_line r.log)))
            (λ (r : ZoneReading). (index == i) && makes_record (DumpName i packed) r) (found zone.1)
            (entry_any index i packed)
            ∙ any_and (index == i) (makes_record (DumpName i packed)) (found zone.1)
        by false = refl

-- no dump has a name of another kind
other_dumps : (name : Name) (zones : List Saved)
    → ((index : ℕ) (packed : Bool) → is_name (DumpName index packed) name ≡ false)
    → list_any (has name) (dumps_of zones) ≡ false
other_dumps name zones other =
    any_flat (has name) entries zones
    ∙ list_any_same (λ (zone : Saved). list_any (has name) (entries zone)) (λ (zone : Saved). false) zones each
    ∙ any_none zones
  where
    each : (zone : Saved) → list_any (has name) (entries zone) ≡ false
    each zone = by (is_of DumpKind zone.0.name.kind)
      where
        one : (r : ZoneReading) → list_any (has name) (dump_of zone.0.name.index r.log (read_line r.log)) ≡ false
        one r = dump_any name zone.0.name.index r.log (read_line r.log) false
            (λ line e. other zone.0.name.index line.packed) (λ e. refl)

        by : (b : Bool) → list_any (has name) (cond b
            (flat_map (λ (r : ZoneReading). dump_of zone.0.name.index r.log (read_line r.log)) (found zone.1)) [])
            ≡ false
        by true =
            any_flat (has name) (λ (r : ZoneReading). dump_of zone.0.name.index r.log (read_line r.log)) (found zone.1)
            ∙ list_any_same (λ (r : ZoneReading). list_any (has name)
            (dump_of zone.0.name.index r.log (read_line r.log)))
            (λ (r : ZoneReading). false) (found zone.1) one
            ∙ any_none (found zone.1)
        by false = refl

-- ---- all records

-- the listing has four parts
parts_any : (name : Name) (zones : List Saved) (d c p f : Bool) → list_any (has name) (dumps_of zones) ≡ d
    → list_any (has name) (plain ConsoleName (logs_of Console zones)) ≡ c
    → list_any (has name) (plain PmsgName (logs_of Pmsg zones)) ≡ p
    → list_any (has name) (ftrace_of (logs_of Ftrace zones)) ≡ f
    → list_any (has name) (listed_of zones) ≡ (((d || c) || p) || f)
parts_any name zones d c p f hd hc hp hf =
    let dumps = dumps_of zones in
    let consoles = plain ConsoleName (logs_of Console zones) in
    let messages = plain PmsgName (logs_of Pmsg zones) in
    list_any-append (has name) (dumps ++ consoles ++ messages) (ftrace_of (logs_of Ftrace zones))
    ∙ ap₂ (λ (a b : Bool). a || b)
    (list_any-append (has name) (dumps ++ consoles) messages
    ∙ ap₂ (λ (a b : Bool). a || b) (list_any-append (has name) dumps consoles
    ∙ ap₂ (λ (a b : Bool). a || b) hd hc) hp) hf

or_nones : (b : Bool) → (((b || false) || false) || false) ≡ b
or_nones true = refl
or_nones false = refl

any_listed : (zones : List Saved) (name : Name) → list_any (has name) (listed_of zones) ≡ is_listed zones name
any_listed zones (DumpName i packed) =
    parts_any (DumpName i packed) zones (is_listed zones (DumpName i packed)) false false false
    (dumps_any i packed zones)
    (other_plain (DumpName i packed) ConsoleName (logs_of Console zones) refl)
    (other_plain (DumpName i packed) PmsgName (logs_of Pmsg zones) refl)
    (other_ftrace (DumpName i packed) (logs_of Ftrace zones) refl)
    ∙ or_nones (is_listed zones (DumpName i packed))
any_listed zones ConsoleName =
    parts_any ConsoleName zones false (is_listed zones ConsoleName) false false
    (other_dumps ConsoleName zones (λ index packed. refl))
    (plain_any ConsoleName ConsoleName (logs_of Console zones) ∙ logs_any Console zones)
    (other_plain ConsoleName PmsgName (logs_of Pmsg zones) refl)
    (other_ftrace ConsoleName (logs_of Ftrace zones) refl)
    ∙ or-false (is_listed zones ConsoleName || false) ∙ or-false (is_listed zones ConsoleName)
any_listed zones PmsgName =
    parts_any PmsgName zones false false (is_listed zones PmsgName) false
    (other_dumps PmsgName zones (λ index packed. refl))
    (other_plain PmsgName ConsoleName (logs_of Console zones) refl)
    (plain_any PmsgName PmsgName (logs_of Pmsg zones) ∙ logs_any Pmsg zones)
    (other_ftrace PmsgName (logs_of Ftrace zones) refl)
    ∙ or-false (is_listed zones PmsgName)
any_listed zones FtraceName =
    parts_any FtraceName zones false false false (is_listed zones FtraceName)
    (other_dumps FtraceName zones (λ index packed. refl))
    (other_plain FtraceName ConsoleName (logs_of Console zones) refl)
    (other_plain FtraceName PmsgName (logs_of Pmsg zones) refl)
    (ftrace_any FtraceName (logs_of Ftrace zones) ∙ logs_any Ftrace zones)

pub listed_is_found : ListedIsFound
listed_is_found zones name = any_first (has name) (listed_of zones) ∙ any_listed zones name

-- a name of a record that is found is listed
pub found_is_listed : (zones : List Saved) (name : Name) (r : Listed) → record_of zones name ≡ Some r
    → is_listed zones name ≡ true
found_is_listed zones name r e = sym (listed_is_found zones name) ∙ ap (λ (o : Option Listed). is_some o) e
