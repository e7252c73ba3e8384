-- Lines that speak of one record
use Rattle.std.proofs.Common.{◌≡◌, ℕ, Bool, true, false, cond, List, [], ◌∷◌, Option, Some, None, Ok, refl, sym, ap}
use Rattle.std.proofs.Common.{◌∙◌}
use Rattle.std.specs.Prelude.{bytes_eq, filter, is_some, IsSome}
use Rattle.std.specs.Option.{option_map}
use Rattle.std.proofs.lemmas.Bool.{true≢false}
use Rattle.std.proofs.lemmas.Bool.Decides.{Decides-eqb}
use Rattle.zone_spec.specs.declared.Zone.{Zone}
use Rattle.zone_spec.specs.declared.Name.{Name}
use Rattle.zone_spec.specs.declared.Name.TheVariants.{Dump, Console, Pmsg, Ftrace}
use Rattle.zone_spec.specs.Names.{name_text, is_name}
use Rattle.zone_spec.specs.Notices.{content}
use Rattle.zone_spec.specs.Records.{Saved, Listed, listed_of, first_listed, record_of}
use Rattle.machine_spec.specs.States.{LiveState, Off as OffOf, Live as LiveOf}
use Rattle.machine_spec.specs.Erasures.{saved_logs}
use Rattle.prz_read.specs.Saving.{SavedLogs, saved}
use Rattle.ramoops.specs.LiveSeen.{LiveSeen}
use Rattle.grammar_spec.specs.declared.line.Line.TheVariants.{Extract}
use Rattle.ram_session.proofs.RecordNames.{same-name}
use Rattle.script_spec.specs.Texts.{extract_text}
use Rattle.script_spec.specs.Scripts.{store_line, named, extracts_of}
use Rattle.script_spec.specs.declared.Cause.TheVariants.{NoRecord}
use Rattle.ram_session.specs.Sessions.{Live, LineDone, LineRefused, IsWanted, LineTakes}
use Rattle.ram_session.proofs.StateLines.{live_takes, is_wanted}

-- ---- the record whose name has a text

abbrev pub name_of : Listed → Name
name_of r = r.name

-- the records whose names have a text
abbrev texted : List ℕ → List Listed → List Listed
texted text rs = filter (λ (r : Listed). bytes_eq (name_text r.name) text) rs

-- the records of a name
abbrev called : Name → List Listed → List Listed
called n rs = filter (λ (r : Listed). is_name r.name n) rs

-- it has the text
head_text : (text : List ℕ) (n : Name) (b : Bool) (r : Listed) (rs : List Listed)
    → bytes_eq (name_text r.name) text ≡ b → (option_map name_of (first_listed rs) ≡ Some n
    → bytes_eq (name_text n) text ≡ true)
    → option_map name_of (first_listed (cond b (r ∷ rs) rs)) ≡ Some n → bytes_eq (name_text n) text ≡ true
head_text text n true r rs has rest h = let same : r.name ≡ n = cc in
    ap (λ (m : Name). bytes_eq (name_text m) text) (sym same) ∙ has
head_text text n false r rs has rest h = rest h

first_text : (text : List ℕ) (n : Name) (rs : List Listed)
    → option_map name_of (first_listed (texted text rs)) ≡ Some n → bytes_eq (name_text n) text ≡ true
first_text text n [] h = absurd (cc)
first_text text n (r ∷ rs) h = head_text text n (bytes_eq (name_text r.name) text) r (texted text rs) refl
    (first_text text n rs) h

pub itself : (n : Name) → is_name n n ≡ true
itself (Dump i true) = rw ((Decides-eqb i i).1 refl) refl
itself (Dump i false) = rw ((Decides-eqb i i).1 refl) refl
itself Console = refl
itself Pmsg = refl
itself Ftrace = refl

-- a name with another text is another
apart : (text : List ℕ) (m n : Name) (b : Bool) → is_name m n ≡ b → bytes_eq (name_text n) text ≡ true
    → bytes_eq (name_text m) text ≡ false → is_name m n ≡ false
apart text m n true e has other = absurd (true≢false (sym has
    ∙ ap (λ (k : Name). bytes_eq (name_text k) text) (sym (same-name m n e)) ∙ other))
apart text m n false e has other = e

head_record : (b c : Bool) (n : Name) (r : Listed) (xs ys : List Listed) → (b ≡ true → r.name ≡ n → c ≡ true)
    → (b ≡ false → c ≡ false) → (option_map name_of (first_listed xs) ≡ Some n → first_listed xs ≡ first_listed ys)
    → option_map name_of (first_listed (cond b (r ∷ xs) xs)) ≡ Some n
    → first_listed (cond b (r ∷ xs) xs) ≡ first_listed (cond c (r ∷ ys) ys)
head_record true c n r xs ys taken left rest h = let same : r.name ≡ n = cc in rw (taken refl same) refl
head_record false c n r xs ys taken left rest h = rw (left refl) (rest h)

first_record : (text : List ℕ) (n : Name) (rs : List Listed) → bytes_eq (name_text n) text ≡ true
    → option_map name_of (first_listed (texted text rs)) ≡ Some n
    → first_listed (texted text rs) ≡ first_listed (called n rs)
first_record text n [] has h = refl
first_record text n (r ∷ rs) has h =
    head_record (bytes_eq (name_text r.name) text) (is_name r.name n) n r (texted text rs) (called n rs)
    (λ b same. ap (λ (m : Name). is_name m n) same ∙ itself n)
    (λ b. apart text r.name n (is_name r.name n) refl has b) (first_record text n rs has) h

-- the first record whose name has a text is the record of that name
pub record_is : (zones : List Saved) (text : List ℕ) (n : Name) → Some n ≡ option_map name_of (named zones text)
    → named zones text ≡ record_of zones n
record_is zones text n e = first_record text n (listed_of zones) (first_text text n (listed_of zones) (sym e)) (sym e)

nothing : (o : Option Listed) → None ≡ option_map name_of o → o ≡ None
nothing None e = refl
nothing (Some r) e = absurd (cc)

-- no record has it
pub none_is : (zones : List Saved) (text : List ℕ) → None ≡ option_map name_of (named zones text)
    → named zones text ≡ None
none_is zones text e = nothing (named zones text) e

something : (o : Option Listed) (n : Name) → Some n ≡ option_map name_of o → (r : Listed) × (o ≡ Some r)
something None n e = absurd (cc)
something (Some r) n e = (r, refl)

-- some record has it
pub some_is : (zones : List Saved) (text : List ℕ) (n : Name) → Some n ≡ option_map name_of (named zones text)
    → IsSome (named zones text)
some_is zones text n e = ap is_some (something (named zones text) n e).1

pub given_none : (zones : List Saved) (text : List ℕ) (n : Name) → Some n ≡ option_map name_of (named zones text)
    → record_of zones n ≡ None → named zones text ≡ None
given_none zones text n e none = record_is zones text n e ∙ none

pub given_content : (zones : List Saved) (text : List ℕ) (n : Name) (bytes : List ℕ)
    → Some n ≡ option_map name_of (named zones text) → option_map (content zones) (record_of zones n) ≡ Some bytes
    → option_map (content zones) (named zones text) ≡ Some bytes
given_content zones text n bytes e given = ap (option_map (content zones)) (record_is zones text n e) ∙ given

-- ---- the content of a record

extract_line : (layout : List Zone) (s : LiveState) (text : List ℕ)
    → store_line layout (LiveOf s) (Extract text) ≡ extracts_of layout s (named (saved_logs layout s) text)
unfolding store_line
extract_line layout s text = refl

put : (layout : List Zone) (s : LiveState) (o : Option Listed) (text : List ℕ)
    → option_map (extract_text (saved_logs layout s)) o ≡ Some text
    → extracts_of layout s o ≡ Ok (record { session = LiveOf s; text = text })
put layout s None text e = absurd (cc)
put layout s (Some r) text e = let same : extract_text (saved_logs layout s) r ≡ text = cc in rw same refl

extracted : (layout : List Zone) (s : LiveState) (o : Option Listed) (r : Listed) → o ≡ Some r
    → IsWanted (extracts_of layout s o)
extracted layout s o r e = rw e (is_wanted (extracts_of layout s (Some r))
    (record { session = LiveOf s; text = extract_text (saved_logs layout s) r }) refl)

pub extract_takes : (live : LiveSeen) (logs : SavedLogs) (name : List ℕ) (n : Name)
    → Some n ≡ option_map name_of (named (saved logs) name) → LineTakes (Live live logs) (Extract name)
extract_takes live logs name n is = live_takes live logs (Extract name) tt (λ layout s same.
    let r = something (named (saved_logs layout s) name) n (rw same at is) in
    rw (extract_line layout s name) (extracted layout s (named (saved_logs layout s) name) r.0 r.1))

pub extract_done : (live : LiveSeen) (logs : SavedLogs) (name : List ℕ) (n : Name) (text : List ℕ)
    → Some n ≡ option_map name_of (named (saved logs) name)
    → option_map (extract_text (saved logs)) (record_of (saved logs) n) ≡ Some text
    → LineDone (Live live logs) (Extract name) (Live live logs) text
extract_done live logs name n text is given layout mem (OffOf s) lies stands state = absurd stands
extract_done live logs name n text is given layout mem (LiveOf s) lies stands state =
    let told : option_map (extract_text (saved logs)) (named (saved logs) name) ≡ Some text =
    ap (option_map (extract_text (saved logs))) (record_is (saved logs) name n is) ∙ given in
    let here : option_map (extract_text (saved_logs layout s)) (named (saved_logs layout s) name) ≡ Some text =
    rw stands.1 at told in
    record {
      next = LiveOf s;
      done = extract_line layout s name
          ∙ put layout s (named (saved_logs layout s) name) text here;
      stands = stands;
    }

pub extract_refused : (live : LiveSeen) (logs : SavedLogs) (name : List ℕ) → named (saved logs) name ≡ None
    → LineRefused (Live live logs) (Extract name) NoRecord
extract_refused live logs name none layout mem (OffOf s) lies stands state = absurd stands
extract_refused live logs name none layout mem (LiveOf s) lies stands state =
    let here : named (saved_logs layout s) name ≡ None = rw stands.1 at none in
    extract_line layout s name ∙ ap (extracts_of layout s) here
