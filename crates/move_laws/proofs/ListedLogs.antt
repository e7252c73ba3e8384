-- The saved logs of the records that fit list just those records
use Rattle.std.proofs.Common.{◌≡◌, ℕ, Bool, true, false, cond, List, [], ◌∷◌, ◌++◌, map, refl, sym, ap, ap₂, ◌∙◌}
use Rattle.std.proofs.Common.{Option, Some, None, append-nil}
use Rattle.std.specs.Prelude.{filter, flat_map}
use Rattle.std.proofs.lemmas.List.Elements.{filter-append}
use Rattle.zone_spec.specs.declared.Zone.{Zone}
use Rattle.zone_spec.specs.declared.ZoneName.{ZoneName}
use Rattle.zone_spec.specs.declared.Kind.{Kind}
use Rattle.zone_spec.specs.declared.Kind.TheVariants.{Dump, Console, Ftrace, Pmsg}
use Rattle.zone_spec.specs.declared.Name.{Name}
use Rattle.zone_spec.specs.declared.Name.TheVariants.{Dump as DumpName, Console as ConsoleName, Pmsg as PmsgName}
use Rattle.zone_spec.specs.declared.Name.TheVariants.{Ftrace as FtraceName}
use Rattle.zone_spec.specs.declared.State.{State}
use Rattle.zone_spec.specs.declared.State.TheVariants.{Unsigned, Empty, Invalid, Found}
use Rattle.zone_spec.specs.declared.TimeLine.{TimeLine}
use Rattle.std.specs.Option.{option_map}
use Rattle.zone_spec.specs.TimeLines.{read_line}
use Rattle.zone_spec.specs.Reading.{ZoneReading}
use Rattle.zone_spec.specs.Records.{Saved, Listed, is_of, found_in, found, logs_of, dump_of, dumps_of, plain, ftrace_of}
use Rattle.zone_spec.specs.Records.{listed_of}
use Rattle.machine_spec.specs.Moved.{fits, record_name, is_fit, kept_if}
use Rattle.move_laws.specs.Listed.{FittingListsWhatFits}

found_if : (b : Bool) (r : ZoneReading) → found (cond b (Some r) None) ≡ cond b (found_in r r.state) []
found_if true r = refl
found_if false r = refl

cond_none : {X : Type 0} (b : Bool) → cond {A = List X} b [] [] ≡ []
cond_none true = refl
cond_none false = refl

cond_join : {X : Type 0} (b : Bool) (xs ys : List X) → cond b xs [] ++ cond b ys [] ≡ cond b (xs ++ ys) []
cond_join true xs ys = refl
cond_join false xs ys = refl

cond_map : {X Y : Type 0} (f : X → Y) (b : Bool) (xs : List X) → map f (cond b xs []) ≡ cond b (map f xs) []
cond_map f true xs = refl
cond_map f false xs = refl

module _ (layout : List Zone) (all : List Saved) where
  abbrev is_kept : Listed → Bool
  is_kept r = fits layout all r.name

  abbrev fitted : List Saved → List Saved
  fitted zones = map (λ (zone : Saved). (zone.0, kept_if layout all zone.0.name zone.1)) zones

  -- ---- dumps

  abbrev dump_in : ℕ → ZoneReading → List Listed
  dump_in index r = dump_of index r.log (read_line r.log)

  abbrev dump_name : ℕ → Option TimeLine → Option Name
  dump_name index line = option_map (λ (line : TimeLine). DumpName index line.packed) line

  dump_test : (index : ℕ) (log : List ℕ) (line : Option TimeLine)
      → filter is_kept (dump_of index log line)
      ≡ cond (is_fit layout all (dump_name index line)) (dump_of index log line) []
  dump_test index log None = refl
  dump_test index log (Some line) = refl

  dump_state : (index : ℕ) (r : ZoneReading) (s : State) (b : Bool)
      → filter is_kept (dump_in index r) ≡ cond b (dump_in index r) []
      → flat_map (dump_in index) (cond b (found_in r s) []) ≡ filter is_kept (flat_map (dump_in index) (found_in r s))
  dump_state index r Found true e = sym (ap (filter is_kept) (append-nil (dump_in index r)) ∙ e
      ∙ sym (append-nil (dump_in index r)))
  dump_state index r Found false e = sym (ap (filter is_kept) (append-nil (dump_in index r)) ∙ e)
  dump_state index r Unsigned b e = ap (flat_map (dump_in index)) (cond_none {X = ZoneReading} b)
  dump_state index r Empty b e = ap (flat_map (dump_in index)) (cond_none {X = ZoneReading} b)
  dump_state index r Invalid b e = ap (flat_map (dump_in index)) (cond_none {X = ZoneReading} b)

  dump_kind : (name : ZoneName) (r : ZoneReading) (kind : Kind)
      → cond (is_of Dump kind) (flat_map (dump_in name.index)
      (found (cond (is_fit layout all (record_name name r.log kind)) (Some r) None))) []
      ≡ filter is_kept (cond (is_of Dump kind) (flat_map (dump_in name.index) (found_in r r.state)) [])
  dump_kind name r Dump =
      let b : Bool = is_fit layout all (dump_name name.index (read_line r.log)) in
      ap (flat_map (dump_in name.index)) (found_if b r)
      ∙ dump_state name.index r r.state b (dump_test name.index r.log (read_line r.log))
  dump_kind name r Console = refl
  dump_kind name r Ftrace = refl
  dump_kind name r Pmsg = refl

  dump_zone : (name : ZoneName) (o : Option ZoneReading)
      → cond (is_of Dump name.kind) (flat_map (dump_in name.index) (found (kept_if layout all name o))) []
      ≡ filter is_kept (cond (is_of Dump name.kind) (flat_map (dump_in name.index) (found o)) [])
  dump_zone name None = cond_none {X = Listed} (is_of Dump name.kind)
      ∙ ap (filter is_kept) (sym (cond_none {X = Listed} (is_of Dump name.kind)))
  dump_zone name (Some r) = dump_kind name r name.kind

  dumps_fit : (zones : List Saved) → dumps_of (fitted zones) ≡ filter is_kept (dumps_of zones)
  dumps_fit [] = refl
  dumps_fit (zone ∷ zones) =
      ap₂ (λ xs ys. xs ++ ys) (dump_zone zone.0.name zone.1) (dumps_fit zones)
      ∙ sym (filter-append is_kept (cond (is_of Dump zone.0.name.kind)
      (flat_map (dump_in zone.0.name.index) (found zone.1)) []) (dumps_of zones))

  -- ---- the logs of a kind with one record

  module _ (kind : Kind) (name : Name)
      (own : (zone : ZoneName) (log : List ℕ) (k : Kind) → is_of kind k ≡ true
      → record_name zone log k ≡ Some name) where
    log_kind : (zone : ZoneName) (r : ZoneReading) (k : Kind) (b : Bool) → is_of kind k ≡ b
        → cond b (map (λ (r : ZoneReading). r.log)
        (found (cond (is_fit layout all (record_name zone r.log k)) (Some r) None))) []
        ≡ cond (fits layout all name) (cond b (map (λ (r : ZoneReading). r.log) (found_in r r.state)) []) []
    log_kind zone r k false e = sym (cond_none {X = List ℕ} (fits layout all name))
    log_kind zone r k true e =
        ap (λ n. map (λ (r : ZoneReading). r.log) (found (cond (is_fit layout all n) (Some r) None)))
        (own zone r.log k e)
        ∙ ap (map (λ (r : ZoneReading). r.log)) (found_if (fits layout all name) r)
        ∙ cond_map (λ (r : ZoneReading). r.log) (fits layout all name) (found_in r r.state)

    log_zone : (zone : ZoneName) (o : Option ZoneReading)
        → cond (is_of kind zone.kind) (map (λ (r : ZoneReading). r.log) (found (kept_if layout all zone o))) []
        ≡ cond (fits layout all name)
        (cond (is_of kind zone.kind) (map (λ (r : ZoneReading). r.log) (found o)) []) []
    log_zone zone None = cond_none {X = List ℕ} (is_of kind zone.kind)
        ∙ sym (ap (λ (xs : List (List ℕ)). cond (fits layout all name) xs [])
        (cond_none {X = List ℕ} (is_of kind zone.kind))
        ∙ cond_none {X = List ℕ} (fits layout all name))
    log_zone zone (Some r) = log_kind zone r zone.kind (is_of kind zone.kind) refl

    logs_fit : (zones : List Saved) → logs_of kind (fitted zones) ≡ cond (fits layout all name) (logs_of kind zones) []
    logs_fit [] = sym (cond_none {X = List ℕ} (fits layout all name))
    logs_fit (zone ∷ zones) =
        ap₂ (λ xs ys. xs ++ ys) (log_zone zone.0.name zone.1) (logs_fit zones)
        ∙ cond_join (fits layout all name) (cond (is_of kind zone.0.name.kind)
        (map (λ (r : ZoneReading). r.log) (found zone.1)) []) (logs_of kind zones)

  plain_test : (name : Name) (b : Bool) (logs : List (List ℕ)) → fits layout all name ≡ b
      → filter is_kept (plain name logs) ≡ plain name (cond b logs [])
  plain_test name true [] e = refl
  plain_test name false [] e = refl
  plain_test name true (log ∷ logs) e = rw e
      (ap (λ rs. record { name = name; content = log; time = None } ∷ rs) (plain_test name true logs e))
  plain_test name false (log ∷ logs) e = rw e (plain_test name false logs e)

  ftrace_test : (b : Bool) (logs : List (List ℕ)) → fits layout all FtraceName ≡ b
      → filter is_kept (ftrace_of logs) ≡ ftrace_of (cond b logs [])
  ftrace_test true [] e = refl
  ftrace_test false [] e = refl
  ftrace_test true (log ∷ logs) e = rw e refl
  ftrace_test false (log ∷ logs) e = rw e refl

  own_console : (zone : ZoneName) (log : List ℕ) (k : Kind) → is_of Console k ≡ true
      → record_name zone log k ≡ Some ConsoleName
  own_console zone log Console e = refl
  own_console zone log Dump e = let n : false ≡ true = e in cc
  own_console zone log Ftrace e = let n : false ≡ true = e in cc
  own_console zone log Pmsg e = let n : false ≡ true = e in cc

  own_pmsg : (zone : ZoneName) (log : List ℕ) (k : Kind) → is_of Pmsg k ≡ true
      → record_name zone log k ≡ Some PmsgName
  own_pmsg zone log Pmsg e = refl
  own_pmsg zone log Dump e = let n : false ≡ true = e in cc
  own_pmsg zone log Ftrace e = let n : false ≡ true = e in cc
  own_pmsg zone log Console e = let n : false ≡ true = e in cc

  own_ftrace : (zone : ZoneName) (log : List ℕ) (k : Kind) → is_of Ftrace k ≡ true
      → record_name zone log k ≡ Some FtraceName
  own_ftrace zone log Ftrace e = refl
  own_ftrace zone log Dump e = let n : false ≡ true = e in cc
  own_ftrace zone log Console e = let n : false ≡ true = e in cc
  own_ftrace zone log Pmsg e = let n : false ≡ true = e in cc

  four : {X : Type 0} (p : X → Bool) (a b c d : List X)
      → filter p (a ++ b ++ c ++ d) ≡ filter p a ++ filter p b ++ filter p c ++ filter p d
  four p a b c d =
      filter-append p (a ++ b ++ c) d
      ∙ ap (λ xs. xs ++ filter p d) (filter-append p (a ++ b) c ∙ ap (λ xs. xs ++ filter p c) (filter-append p a b))

  listed_fit : (zones : List Saved) → listed_of (fitted zones) ≡ filter is_kept (listed_of zones)
  listed_fit zones =
      ap₂ (λ xs ys. xs ++ ys)
      (ap₂ (λ xs ys. xs ++ ys)
      (ap₂ (λ xs ys. xs ++ ys) (dumps_fit zones)
      (ap (plain ConsoleName) (logs_fit Console ConsoleName own_console zones)
      ∙ sym (plain_test ConsoleName (fits layout all ConsoleName) (logs_of Console zones) refl)))
      (ap (plain PmsgName) (logs_fit Pmsg PmsgName own_pmsg zones)
      ∙ sym (plain_test PmsgName (fits layout all PmsgName) (logs_of Pmsg zones) refl)))
      (ap ftrace_of (logs_fit Ftrace FtraceName own_ftrace zones)
      ∙ sym (ftrace_test (fits layout all FtraceName) (logs_of Ftrace zones) refl))
      ∙ sym (four is_kept (dumps_of zones) (plain ConsoleName (logs_of Console zones))
      (plain PmsgName (logs_of Pmsg zones)) (ftrace_of (logs_of Ftrace zones)))

pub fitting_lists_what_fits : FittingListsWhatFits
fitting_lists_what_fits layout zones = listed_fit layout zones zones
