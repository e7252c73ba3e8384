-- The listed record that a text names, by the one name that has the text
use Rattle.std.proofs.Common.{◌≡◌, ℕ, suc, ◌^◌, ◌<◌, Bool, true, false, ◌&&◌, if◌then◌else◌, List, [], ◌∷◌, ◌++◌, codes}
use Rattle.std.proofs.Common.{length, Option, Some, None, refl, sym, ap, subst, ◌∙◌, arith}
use Rattle.std.specs.Prelude.{bytes_eq, decimal, filter, flat_map, nat_lt}
use Rattle.std.specs.List.{AllByRecursion, list_all, zip}
use Rattle.std.specs.Option.{option_map}
use Rattle.std.specs.Str.{IsAscii, IsUtf8}
use Rattle.std.proofs.lemmas.Bool.{true≢false}
use Rattle.std.proofs.lemmas.Fmt.{IsAscii-decimal}
use Rattle.std.proofs.lemmas.Slice.Eq.{bytes_eq-Decides}
use Rattle.std.proofs.lemmas.Str.{IsAscii-append, IsUtf8-from_ascii}
use Rattle.std.proofs.lemmas.Str.Ascii.{IsAscii-nil, IsAscii-cons}
use borrow.Author.Tests.{ltb-true}
use Rattle.zone_spec.specs.declared.Kind.TheVariants.{Dump as DumpKind, Console as ConsoleKind, Ftrace as FtraceKind}
use Rattle.zone_spec.specs.declared.Kind.TheVariants.{Pmsg as PmsgKind}
use Rattle.zone_spec.specs.declared.Zone.{Zone}
use Rattle.zone_spec.specs.declared.Name.{Name}
use Rattle.zone_spec.specs.declared.Name.TheVariants.{Dump, Console, Pmsg, Ftrace}
use Rattle.zone_spec.specs.declared.TimeLine.{TimeLine}
use Rattle.zone_spec.specs.Names.{name_text, IsName, IsNameOf, is_name}
use Rattle.zone_spec.specs.Notices.{content}
use Rattle.zone_spec.specs.Reading.{ZoneReading}
use Rattle.zone_spec.specs.Records.{Saved, Listed, is_of, found, logs_of, dump_of, dumps_of, plain, ftrace_of}
use Rattle.zone_spec.specs.Records.{listed_of, first_listed, record_of}
use Rattle.zone_spec.specs.TimeLines.{read_line}
use Rattle.prz_read.specs.Saving.{SavedLogs, AreNumbered, saved}
use Rattle.pstore_records.specs.Candidates.{IsCandidate}
use Rattle.ram_session.proofs.RecordNames.{same-name, record-name}
use Rattle.script_spec.specs.Scripts.{named}
use Rattle.ram_session.proofs.RecordLines.{itself, name_of}

all-append : {A : Type 0} (P : A → Type 0) (xs ys : List A) → AllByRecursion P xs → AllByRecursion P ys
    → AllByRecursion P (xs ++ ys)
all-append P [] ys h k = k
all-append P (x ∷ xs) ys h k = (h.0, all-append P xs ys h.1 k)

-- ---- the names of listed records have numbers of 32 bits

abbrev IsSmall : Listed → Type 0
IsSmall r = IsName r.name

abbrev HasNumber : Saved → Type 0
HasNumber zone = zone.0.name.index < 2 ^ 32

dump-small : (index : ℕ) (log : List ℕ) (line : Option TimeLine) → index < 2 ^ 32
    → AllByRecursion IsSmall (dump_of index log line)
dump-small index log None h = tt
dump-small index log (Some line) h = (h, tt)

readings-small : (index : ℕ) (rs : List ZoneReading) → index < 2 ^ 32
    → AllByRecursion IsSmall (flat_map (λ (r : ZoneReading). dump_of index r.log (read_line r.log)) rs)
readings-small index [] h = tt
readings-small index (r ∷ rs) h =
    all-append IsSmall (dump_of index r.log (read_line r.log))
    (flat_map (λ (q : ZoneReading). dump_of index q.log (read_line q.log)) rs)
    (dump-small index r.log (read_line r.log) h) (readings-small index rs h)

where-dump : (b : Bool) (rs : List Listed) → AllByRecursion IsSmall rs → AllByRecursion IsSmall (if b then rs else [])
where-dump true rs h = h
where-dump false rs h = tt

dumps-small : (zones : List Saved) → AllByRecursion HasNumber zones → AllByRecursion IsSmall (dumps_of zones)
dumps-small [] h = tt
dumps-small (zone ∷ zones) h =
    let own = flat_map (λ (r : ZoneReading). dump_of zone.0.name.index r.log (read_line r.log)) (found zone.1) in
    all-append IsSmall (if is_of DumpKind zone.0.name.kind then own else []) (dumps_of zones)
    (where-dump (is_of DumpKind zone.0.name.kind) own (readings-small zone.0.name.index (found zone.1) h.0))
    (dumps-small zones h.1)

plain-small : (name : Name) → IsName name → (logs : List (List ℕ)) → AllByRecursion IsSmall (plain name logs)
plain-small name h [] = tt
plain-small name h (log ∷ logs) = (h, plain-small name h logs)

ftrace-small : (logs : List (List ℕ)) → AllByRecursion IsSmall (ftrace_of logs)
ftrace-small [] = tt
ftrace-small (log ∷ logs) = (tt, tt)

listed-small : (zones : List Saved) → AllByRecursion HasNumber zones → AllByRecursion IsSmall (listed_of zones)
listed-small zones h =
    let dumps = dumps_of zones in
    let consoles = plain Console (logs_of ConsoleKind zones) in
    let pmsgs = plain Pmsg (logs_of PmsgKind zones) in
    all-append IsSmall ((dumps ++ consoles) ++ pmsgs) (ftrace_of (logs_of FtraceKind zones))
    (all-append IsSmall (dumps ++ consoles) pmsgs
    (all-append IsSmall dumps consoles (dumps-small zones h) (plain-small Console tt (logs_of ConsoleKind zones)))
    (plain-small Pmsg tt (logs_of PmsgKind zones))) (ftrace-small (logs_of FtraceKind zones))

zip-numbered : (zones : List Zone) (readings : List (Option ZoneReading)) → AreNumbered zones
    → AllByRecursion HasNumber (zip zones readings)
zip-numbered [] readings h = tt
zip-numbered (z ∷ zones) [] h = tt
zip-numbered (z ∷ zones) (r ∷ readings) h =
    (h 0 z refl, zip-numbered zones readings (λ k y e. h (suc k) y e))

pub all-small : (logs : SavedLogs) → AreNumbered logs.zones → AllByRecursion IsSmall (listed_of (saved logs))
all-small logs h = listed-small (saved logs) (zip-numbered logs.zones logs.readings h)

-- ---- the records whose names have a text

text-is-name : (text : List ℕ) (n m : Name) → IsNameOf text (Some n) → IsCandidate text (Some n) → IsName m
    → bytes_eq (name_text m) text ≡ is_name m n
text-is-name text n m is only small = by (bytes_eq (name_text m) text) (is_name m n) refl refl
  where
    by : (b c : Bool) → bytes_eq (name_text m) text ≡ b → is_name m n ≡ c → b ≡ c
    by true true has same = refl
    by true false has same =
        let one : Some n ≡ Some m = only m small ((bytes_eq-Decides (name_text m) text).0 has) in
        let e : m ≡ n = cc in
        absurd (true≢false (sym (itself n) ∙ ap (λ (k : Name). is_name k n) (sym e) ∙ same))
    by false true has same =
        let e : m ≡ n = same-name m n same in
        absurd (true≢false (sym ((bytes_eq-Decides (name_text m) text).1 (ap name_text e ∙ is.1)) ∙ has))
    by false false has same = refl

filters-same : (text : List ℕ) (n : Name) (rs : List Listed) → IsNameOf text (Some n) → IsCandidate text (Some n)
    → AllByRecursion IsSmall rs → filter (λ (r : Listed). bytes_eq (name_text r.name) text) rs
    ≡ filter (λ (r : Listed). is_name r.name n) rs
filters-same text n [] is only small = refl
filters-same text n (r ∷ rs) is only small =
    rw (text-is-name text n r.name is only small.0)
    (ap (λ (qs : List Listed). if is_name r.name n then r ∷ qs else qs) (filters-same text n rs is only small.1))

filters-none : (text : List ℕ) (rs : List Listed) → IsNameOf text None → AllByRecursion IsSmall rs
    → filter (λ (r : Listed). bytes_eq (name_text r.name) text) rs ≡ []
filters-none text [] none small = refl
filters-none text (r ∷ rs) none small =
    by (bytes_eq (name_text r.name) text) refl (filters-none text rs none small.1)
  where
    by : (b : Bool) → bytes_eq (name_text r.name) text ≡ b
        → filter (λ (q : Listed). bytes_eq (name_text q.name) text) rs ≡ []
        → (if b then r ∷ filter (λ (q : Listed). bytes_eq (name_text q.name) text) rs
        else filter (λ (q : Listed). bytes_eq (name_text q.name) text) rs) ≡ []
    by true has rest = absurd (none r.name small.0 ((bytes_eq-Decides (name_text r.name) text).0 has))
    by false has rest = rest

-- ---- what a text names

pub nothing-named : (zones : List Saved) (text : List ℕ) → AllByRecursion IsSmall (listed_of zones)
    → IsNameOf text None → None ≡ option_map name_of (named zones text)
nothing-named zones text small none =
    sym (ap (λ (rs : List Listed). option_map name_of (first_listed rs))
    (filters-none text (listed_of zones) none small))

is-record : (zones : List Saved) (text : List ℕ) (n : Name) → AllByRecursion IsSmall (listed_of zones)
    → IsNameOf text (Some n) → IsCandidate text (Some n) → named zones text ≡ record_of zones n
is-record zones text n small is only = ap first_listed (filters-same text n (listed_of zones) is only small)

pub not-listed : (zones : List Saved) (text : List ℕ) (n : Name) → AllByRecursion IsSmall (listed_of zones)
    → IsNameOf text (Some n) → IsCandidate text (Some n)
    → None ≡ option_map (λ (r : Listed). length (content zones r)) (record_of zones n)
    → None ≡ option_map name_of (named zones text)
not-listed zones text n small is only none =
    sym (ap (option_map name_of) (is-record zones text n small is only ∙ gone (record_of zones n) none))
  where
    gone : (o : Option Listed) → None ≡ option_map (λ (r : Listed). length (content zones r)) o → o ≡ None
    gone None e = refl
    gone (Some r) e = absurd (cc)

pub is-listed : (zones : List Saved) (text : List ℕ) (n : Name) (len : ℕ)
    → AllByRecursion IsSmall (listed_of zones) → IsNameOf text (Some n) → IsCandidate text (Some n)
    → Some len ≡ option_map (λ (r : Listed). length (content zones r)) (record_of zones n)
    → Some n ≡ option_map name_of (named zones text)
is-listed zones text n len small is only some =
    there (record_of zones n) (record-name zones n) some
    ∙ sym (ap (option_map name_of) (is-record zones text n small is only))
  where
    there : (o : Option Listed) → ((r : Listed) → o ≡ Some r → r.name ≡ n)
        → Some len ≡ option_map (λ (r : Listed). length (content zones r)) o → Some n ≡ option_map name_of o
    there None name_is e = absurd (cc)
    there (Some r) name_is e = ap (λ (m : Name). Some m) (sym (name_is r refl))

-- ---- a text that is no UTF-8 names nothing

literal : (bs : List ℕ) → list_all (λ b. nat_lt b 128) bs ≡ true → IsAscii bs
literal [] e = IsAscii-nil
literal (b ∷ bs) e =
    let parts = both (nat_lt b 128) (list_all (λ c. nat_lt c 128) bs) e in
    IsAscii-cons b bs (ltb-true b 128 parts.0) (literal bs parts.1)
  where
    both : (a b : Bool) → (a && b) ≡ true → (a ≡ true) × (b ≡ true)
    both true b e = (refl, e)
    both false b e = cc

name-ascii : (name : Name) → IsName name → IsAscii (name_text name)
name-ascii (Dump index packed) small =
    IsAscii-append (codes "dmesg-ramoops-" ++ decimal index) (if packed then codes ".enc.z" else [])
    (IsAscii-append (codes "dmesg-ramoops-") (decimal index) (literal (codes "dmesg-ramoops-") refl)
    (IsAscii-decimal index (omega (arith, small)))) (by packed)
  where
    by : (flag : Bool) → IsAscii (if flag then codes ".enc.z" else [])
    by true = literal (codes ".enc.z") refl
    by false = IsAscii-nil
name-ascii Console small = literal (codes "console-ramoops-0") refl
name-ascii Pmsg small = literal (codes "pmsg-ramoops-0") refl
name-ascii Ftrace small = literal (codes "ftrace-ramoops-0") refl

pub no-text : (text : List ℕ) → ((IsUtf8 text) → ⊥) → (name : Name) → IsName name → name_text name ≡ text → ⊥
no-text text broken name small e =
    broken (subst IsUtf8 e (IsUtf8-from_ascii (name_text name) (name-ascii name small)))
