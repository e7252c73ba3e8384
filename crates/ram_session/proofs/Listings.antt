-- The texts of records, from their entries and contents
use Rattle.std.proofs.Common.{◌≡◌, ℕ, List, [], ◌∷◌, ◌++◌, length, map, refl, sym, ap, ap₂, ◌∙◌, Option, Some, None}
use Rattle.std.specs.Prelude.{flat_map, codes, decimal}
use Rattle.std.specs.Option.{option_map}
use Rattle.std.proofs.lemmas.List.{length-map}
use Rattle.zone_spec.specs.declared.Name.{Name}
use Rattle.zone_spec.specs.Names.{name_text}
use Rattle.zone_spec.specs.Notices.{content}
use Rattle.zone_spec.specs.Records.{Saved, Listed, listed_of, record_of}
use Rattle.pstore_records.specs.declared.table.Entry.{Entry}
use Rattle.pstore_records.specs.Tables.{entry_of}
use Rattle.ram_session.proofs.RecordNames.{record-name}
use Rattle.script_spec.specs.Texts.{newline, record_text, time_text, listing, extract_text}
use Rattle.ram_session.specs.Entries.{entry_text}

pub lines-are : (zones : List Saved) (rs : List Listed)
    → flat_map entry_text (map (entry_of zones) rs) ≡ flat_map
    (λ r. record_text zones r ++ time_text r.time ++ newline) rs
lines-are zones [] = refl
lines-are zones (r ∷ rs) = ap (λ (more : List ℕ). (record_text zones r ++ time_text r.time ++ newline) ++ more)
    (lines-are zones rs)

pub listing-is : (zones : List Saved) (n : ℕ) (entries : List Entry) (t t1 t2 t3 : List ℕ) → t ≡ []
    → t1 ≡ t ++ codes "records " ++ decimal n → t2 ≡ t1 ++ newline → t3 ≡ t2 ++ flat_map entry_text entries
    → entries ≡ map (entry_of zones) (listed_of zones) → n ≡ length entries → t3 ≡ listing zones
listing-is zones n entries t t1 t2 t3 e e1 e2 e3 made count =
    let so_far : t2 ≡ codes "records " ++ decimal n ++ newline =
    e2 ∙ ap (λ (xs : List ℕ). xs ++ newline) (e1 ∙ ap (λ (xs : List ℕ). xs ++ codes "records " ++ decimal n) e) in
    let lines : flat_map entry_text entries ≡ flat_map (λ r. record_text zones r ++ time_text r.time ++ newline)
    (listed_of zones) = ap (flat_map entry_text) made ∙ lines-are zones (listed_of zones) in
    let all : n ≡ length (listed_of zones) = count ∙ ap length made ∙ length-map (listed_of zones) (entry_of zones) in
    e3 ∙ ap₂ (λ (xs ys : List ℕ). xs ++ ys) so_far lines
    ∙ ap (λ (k : ℕ). codes "records " ++ decimal k ++ newline ++ flat_map
    (λ r. record_text zones r ++ time_text r.time ++ newline) (listed_of zones)) all

pub extract-is : (zones : List Saved) (name : Name) (bytes text : List ℕ)
    → option_map (content zones) (record_of zones name) ≡ Some bytes
    → text ≡ (name_text name ++ codes " " ++ decimal (length bytes)) ++ newline ++ bytes ++ newline
    → option_map (extract_text zones) (record_of zones name) ≡ Some text
extract-is zones name bytes text e whole = of-record (record_of zones name) (record-name zones name) e
  where
    of-record : (o : Option Listed) → ((r : Listed) → o ≡ Some r → r.name ≡ name)
        → option_map (content zones) o ≡ Some bytes → option_map (extract_text zones) o ≡ Some text
    of-record None name_is e = cc
    of-record (Some r) name_is e =
        let same : content zones r ≡ bytes = cc in
        ap (λ (xs : List ℕ). Some xs) (ap₂ (λ (nm : Name) (xs : List ℕ).
        (name_text nm ++ codes " " ++ decimal (length xs)) ++ newline ++ xs ++ newline) (name_is r refl) same
        ∙ sym whole)
