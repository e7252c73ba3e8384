-- What is read has its fields inside the table
use Rattle.std.proofs.Common.{◌≡◌, ℕ, zero, suc, ◌+◌, ◌<◌, ◌≤◌, ◌^◌, ◌==◌, Bool, true, false, List, [], ◌∷◌, length}
use Rattle.std.proofs.Common.{Option, Some, None, Result, Ok, Err, refl, arith, drop}
use Rattle.std.specs.Prelude.{⊤, codes, bytes_eq, IfSome, IfOk, if◌then◌else◌}
use Rattle.std.specs.List.{slice_split}
use Rattle.std.proofs.lemmas.List.Elements.{All-nil}
use Rattle.hex.specs.Hex.{decode_of}
use Rattle.hex.specs.declared.FromHexError.{FromHexError}
use Rattle.hex.proofs.HexLemmas.{decode_of-ok}
use Rattle.zone_spec.specs.declared.ZoneName.{ZoneName}
use Rattle.zone_spec.specs.declared.Time.{Time}
use Rattle.zone_spec.specs.declared.Kind.{Kind}
use Rattle.zone_spec.specs.declared.Kind.TheVariants.{Dump as DumpZone, Ftrace}
use Rattle.grammar_spec.specs.declared.line.Line.{Line}
use Rattle.grammar_spec.specs.declared.line.Line.TheVariants.{Blank, Write, Dump, BeginWrite, BeginErase, BeginDump}
use Rattle.grammar_spec.specs.declared.line.Line.TheVariants.{Finish, BootPart, Extract, Erase, CutAfter, KMsg, Reserve}
use Rattle.grammar_spec.specs.Fields.{Text, ◌>>=◌, begins_with, number, number_below, mask, zone_at, ring, zone}
use Rattle.grammar_spec.specs.Fields.{payload, message, is_message, some_bytes, decoded, flag, reason, name, is_name}
use Rattle.grammar_spec.specs.Fields.{secs, micros, nanos}
use Rattle.grammar_spec.specs.Groups.{one, two, three, four, five, ring_hex, time_flag_hex, one_zone, one_number}
use Rattle.grammar_spec.specs.Groups.{one_name, one_message, one_some_bytes}
use Rattle.grammar_spec.specs.Rows.{step_line, flip_line, kdump_line, crash_line, store_line, line1, line2, line3}
use Rattle.grammar_spec.specs.Rows.{begin_row, begin_line, plain_row, row, lone_word, line_of_fields}
use Rattle.grammar_spec.specs.Lines.{is_blank, fields_of, line_of, with_line, lines_from, script_of}
use Rattle.grammar_spec.specs.Printed.{HasFields, AllHaveFields, IsZone, IsRing, IsTime, IsPayload}
use Rattle.script.proofs.Back.{payload_of}
use Rattle.script.proofs.Numbers.{number_below-some}

-- ---- a fact for the value, if there is one

bind_if : {A B : Type 0} (o : Option A) (f : A → Option B) (P : A → Type 0) (Q : B → Type 0) → IfSome o P
    → ((x : A) → P x → IfSome (f x) Q) → IfSome (o >>= f) Q
bind_if (Some x) f P Q h k = k x h
bind_if None f P Q h k = tt

if_if : {A : Type 0} (b : Bool) (x y : Option A) (Q : A → Type 0) → IfSome x Q → IfSome y Q
    → IfSome (if b then x else y) Q
if_if true x y Q h k = h
if_if false x y Q h k = k

any_if : {A : Type 0} (o : Option A) → IfSome o (λ x. ⊤)
any_if (Some x) = tt
any_if None = tt

from_if : {A : Type 0} (o : Option A) (P : A → Type 0) → ((x : A) → o ≡ Some x → P x) → IfSome o P
from_if (Some x) P h = h x refl
from_if None P h = tt

-- ---- fields

number_if : (limit : ℕ) (text : Text) → IfSome (number_below limit text) (λ n. n < limit)
number_if limit text = from_if (number_below limit text) (λ n. n < limit) (λ n e. (number_below-some limit text n e).0)

mask_if : (text : Text) → IfSome (mask text) (λ m. (0 < m) × (m < 256))
mask_if text = bind_if (number_below 256 text) (λ n. if n == 0 then None else Some n) (λ n. n < 256)
    (λ m. (0 < m) × (m < 256)) (number_if 256 text) above
  where
    above : (n : ℕ) → n < 256 → IfSome (if n == 0 then None else Some n) (λ m. (0 < m) × (m < 256))
    above zero h = tt
    above (suc n) h = grind (arith, h)

zone_at_if : (kind : Kind) (text : Text) (P : ZoneName → Type 0)
    → ((i : ℕ) → i < 2 ^ 32 → P (record { kind = kind; index = i })) → IfSome (zone_at kind text) P
unfolding zone_at
zone_at_if kind text P h = bind_if (number text) _ (λ n. n < 2 ^ 32) P (number_if (2 ^ 32) text) h

ring_if : (text : Text) → IfSome (ring text) IsRing
unfolding ring
ring_if text =
    if_if (bytes_eq text (codes "console")) _ _ IsRing (refl, λ e. cc e)
    (if_if (bytes_eq text (codes "pmsg")) _ _ IsRing (refl, λ e. cc e)
    (if_if (begins_with (codes "ftrace-") text) _ _ IsRing
    (zone_at_if Ftrace (drop 7 text) IsRing (λ i h. (h, λ e. cc e))) tt))

ring_zone : (o : Option ZoneName) → IfSome o IsRing → IfSome o IsZone
ring_zone (Some z) h = h.0
ring_zone None h = tt

zone_if : (text : Text) → IfSome (zone text) IsZone
unfolding zone
zone_if text = if_if (begins_with (codes "dump-") text) _ _ IsZone
    (zone_at_if DumpZone (drop 5 text) IsZone (λ i h. h)) (ring_zone (ring text) (ring_if text))

decoded_if : (text : Text) (r : Result (List ℕ) FromHexError) → decode_of text ≡ r → IfSome (decoded r) IsPayload
decoded_if text (Ok bytes) e = payload_of bytes (decode_of-ok text bytes e).3
decoded_if text (Err f) e = tt

payload_if : (text : Text) → IfSome (payload text) IsPayload
unfolding payload
payload_if text = if_if (bytes_eq text (codes "-")) _ _ IsPayload (All-nil (λ b. b < 256))
    (if_if (length text == 0) _ _ IsPayload tt (decoded_if text (decode_of text) refl))

message_if : (text : Text) → IfSome (message text) (λ b. IsPayload b × (is_message b ≡ true))
unfolding message
message_if text = bind_if (payload text) _ IsPayload _ (payload_if text) (λ b h. kept b h (is_message b) refl)
  where
    kept : (b : List ℕ) → IsPayload b → (t : Bool) → is_message b ≡ t
        → IfSome (if t then Some b else None) (λ c. IsPayload c × (is_message c ≡ true))
    kept b h true e = (h, e)
    kept b h false e = tt

some_bytes_if : (text : Text) → IfSome (some_bytes text) (λ b. IsPayload b × (0 < length b))
unfolding some_bytes
some_bytes_if text =
    bind_if (payload text) _ IsPayload _ (payload_if text) (λ b h. kept b h (length b == 0) refl)
  where
    kept : (b : List ℕ) → IsPayload b → (t : Bool) → (length b == 0) ≡ t
        → IfSome (if t then None else Some b) (λ c. IsPayload c × (0 < length c))
    kept b h true e = tt
    kept b h false e = (h, grind (arith, e))

reason_if : (text : Text) → IfSome (reason text) (λ r. (1 ≤ r) × (r ≤ 4))
unfolding reason
reason_if text =
    let P : ℕ → Type 0 = λ r. (1 ≤ r) × (r ≤ 4) in
    if_if (bytes_eq text (codes "Panic")) _ _ P (omega arith, omega arith)
    (if_if (bytes_eq text (codes "Oops")) _ _ P (omega arith, omega arith)
    (if_if (bytes_eq text (codes "Emergency")) _ _ P (omega arith, omega arith)
    (if_if (bytes_eq text (codes "Shutdown")) _ _ P (omega arith, omega arith) tt)))

name_if : (text : Text) → IfSome (name text) (λ n. is_name n ≡ true)
unfolding name
name_if text = kept (is_name text) refl
  where
    kept : (b : Bool) → is_name text ≡ b → IfSome (if b then Some text else None) (λ n. is_name n ≡ true)
    kept true e = e
    kept false e = tt

-- ---- rows

ring_hex_if : (fields : List Text) → IfSome (ring_hex fields) (λ x. IsRing x.0 × IsPayload x.1)
unfolding ring_hex
ring_hex_if fields =
    let Q : ZoneName × List ℕ → Type 0 = λ x. IsRing x.0 × IsPayload x.1 in
    bind_if (two fields) _ (λ f. ⊤) Q (any_if (two fields)) (λ f u.
    bind_if (ring f.0) _ IsRing Q (ring_if f.0) (λ z hz.
    bind_if (payload f.1) _ IsPayload Q (payload_if f.1) (λ b hb. (hz, hb))))

time_flag_hex_if : (fields : List Text) → IfSome (time_flag_hex fields) (λ x. IsTime x.0 × IsPayload x.2)
unfolding time_flag_hex
time_flag_hex_if fields =
    let Q : Time × Bool × List ℕ → Type 0 = λ x. IsTime x.0 × IsPayload x.2 in
    bind_if (four fields) _ (λ f. ⊤) Q (any_if (four fields)) (λ f u.
    bind_if (secs f.0) _ (λ n. n < 2 ^ 63) Q (number_if (2 ^ 63) f.0) (λ s hs.
    bind_if (micros f.1) _ (λ n. n < 1000000) Q (number_if 1000000 f.1) (λ m hm.
    bind_if (flag f.2) _ (λ x. ⊤) Q (any_if (flag f.2)) (λ p hp.
    bind_if (payload f.3) _ IsPayload Q (payload_if f.3) (λ b hb. ((hs, hm), hb))))))

step_if : (fields : List Text) → IfSome (step_line fields) HasFields
unfolding step_line HasFields
step_if fields =
    bind_if (two fields) _ (λ f. ⊤) HasFields (any_if (two fields)) (λ f u.
    bind_if (zone f.0) _ IsZone HasFields (zone_if f.0) (λ z hz.
    bind_if (number f.1) _ (λ n. n < 2 ^ 32) HasFields (number_if (2 ^ 32) f.1) (λ k hk. (hz, hk))))

flip_if : (fields : List Text) → IfSome (flip_line fields) HasFields
unfolding flip_line HasFields
flip_if fields =
    bind_if (two fields) _ (λ f. ⊤) HasFields (any_if (two fields)) (λ f u.
    bind_if (number f.0) _ (λ n. n < 2 ^ 32) HasFields (number_if (2 ^ 32) f.0) (λ p hp.
    bind_if (mask f.1) _ (λ m. (0 < m) × (m < 256)) HasFields (mask_if f.1) (λ m hm. (hp, hm.0, hm.1))))

kdump_if : (fields : List Text) → IfSome (kdump_line fields) HasFields
unfolding kdump_line HasFields
kdump_if fields =
    bind_if (five fields) _ (λ f. ⊤) HasFields (any_if (five fields)) (λ f u.
    bind_if (secs f.0) _ (λ n. n < 2 ^ 63) HasFields (number_if (2 ^ 63) f.0) (λ s hs.
    bind_if (nanos f.1) _ (λ n. n < 1000000000) HasFields (number_if 1000000000 f.1) (λ n hn.
    bind_if (flag f.2) _ (λ x. ⊤) HasFields (any_if (flag f.2)) (λ p hp.
    bind_if (reason f.3) _ (λ r. (1 ≤ r) × (r ≤ 4)) HasFields (reason_if f.3) (λ r hr.
    bind_if (payload f.4) _ IsPayload HasFields (payload_if f.4) (λ b hb. (hs, hn, hr.0, hr.1, hb)))))))

crash_if : (fields : List Text) → IfSome (crash_line fields) HasFields
unfolding crash_line HasFields
crash_if fields =
    bind_if (three fields) _ (λ f. ⊤) HasFields (any_if (three fields)) (λ f u.
    bind_if (reason f.0) _ (λ r. (1 ≤ r) × (r ≤ 4)) HasFields (reason_if f.0) (λ r hr.
    bind_if (secs f.1) _ (λ n. n < 2 ^ 63) HasFields (number_if (2 ^ 63) f.1) (λ s hs.
    bind_if (micros f.2) _ (λ n. n < 1000000) HasFields (number_if 1000000 f.2) (λ m hm. (hr.0, hr.1, (hs, hm))))))

store_if : (fields : List Text) → IfSome (store_line fields) HasFields
unfolding store_line HasFields
store_if fields =
    bind_if (two fields) _ (λ f. ⊤) HasFields (any_if (two fields)) (λ f u.
    bind_if (number f.0) _ (λ n. n < 2 ^ 32) HasFields (number_if (2 ^ 32) f.0) (λ t ht.
    bind_if (number f.1) _ (λ n. n < 2 ^ 32) HasFields (number_if (2 ^ 32) f.1) (λ k hk. (ht, hk))))

one_zone_if : (fields : List Text) → IfSome (one_zone fields) IsZone
unfolding one_zone
one_zone_if fields = bind_if (one fields) _ (λ f. ⊤) IsZone (any_if (one fields)) (λ f u. zone_if f)

one_number_if : (fields : List Text) → IfSome (one_number fields) (λ n. n < 2 ^ 32)
unfolding one_number
one_number_if fields = bind_if (one fields) _ (λ f. ⊤) (λ n. n < 2 ^ 32) (any_if (one fields))
    (λ f u. number_if (2 ^ 32) f)

one_name_if : (fields : List Text) → IfSome (one_name fields) (λ n. is_name n ≡ true)
unfolding one_name
one_name_if fields = bind_if (one fields) _ (λ f. ⊤) (λ n. is_name n ≡ true) (any_if (one fields)) (λ f u. name_if f)

one_message_if : (fields : List Text) → IfSome (one_message fields) (λ b. IsPayload b × (is_message b ≡ true))
unfolding one_message
one_message_if fields = bind_if (one fields) _ (λ f. ⊤) _ (any_if (one fields)) (λ f u. message_if f)

one_some_bytes_if : (fields : List Text) → IfSome (one_some_bytes fields) (λ b. IsPayload b × (0 < length b))
unfolding one_some_bytes
one_some_bytes_if fields = bind_if (one fields) _ (λ f. ⊤) _ (any_if (one fields)) (λ f u. some_bytes_if f)

line1_if : {A : Type 0} (line : A → Line) (o : Option A) (P : A → Type 0) → IfSome o P
    → ((x : A) → P x → HasFields (line x)) → IfSome (line1 line o) HasFields
line1_if line (Some x) P h k = k x h
line1_if line None P h k = tt

line2_if : {A B : Type 0} (line : A → B → Line) (o : Option (A × B)) (P : A × B → Type 0) → IfSome o P
    → ((a : A) (b : B) → P (a, b) → HasFields (line a b)) → IfSome (line2 line o) HasFields
line2_if line (Some (a, b)) P h k = k a b h
line2_if line None P h k = tt

line3_if : {A B C : Type 0} (line : A → B → C → Line) (o : Option (A × B × C)) (P : A × B × C → Type 0) → IfSome o P
    → ((a : A) (b : B) (c : C) → P (a, b, c) → HasFields (line a b c)) → IfSome (line3 line o) HasFields
line3_if line (Some (a, b, c)) P h k = k a b c h
line3_if line None P h k = tt

begin_row_if : (word : Text) (fields : List Text) → IfSome (begin_row word fields) HasFields
unfolding begin_row HasFields
begin_row_if word fields =
    if_if (bytes_eq word (codes "write")) _ _ HasFields (line2_if BeginWrite (ring_hex fields) _ (ring_hex_if fields)
    (λ z b h. h))
    (if_if (bytes_eq word (codes "erase")) _ _ HasFields
    (line1_if BeginErase (one_zone fields) _ (one_zone_if fields) (λ z h. h))
    (if_if (bytes_eq word (codes "dump")) _ _ HasFields (line3_if BeginDump (time_flag_hex fields) _
    (time_flag_hex_if fields) (λ t p b h. h)) tt))

begin_if : (fields : List Text) → IfSome (begin_line fields) HasFields
unfolding begin_line
begin_if [] = tt
begin_if (w ∷ []) = tt
begin_if (w ∷ f ∷ fields) = begin_row_if w (f ∷ fields)

plain_row_if : (word : Text) (fields : List Text) → IfSome (plain_row word fields) HasFields
unfolding plain_row HasFields
plain_row_if word fields =
    if_if (bytes_eq word (codes "step")) _ _ HasFields (step_if fields)
    (if_if (bytes_eq word (codes "finish")) _ _ HasFields
    (line1_if Finish (one_zone fields) _ (one_zone_if fields) (λ z h. h))
    (if_if (bytes_eq word (codes "flip")) _ _ HasFields (flip_if fields)
    (if_if (bytes_eq word (codes "boot")) _ _ HasFields (line1_if BootPart (one_number fields) _
    (one_number_if fields) (λ k h. h))
    (if_if (bytes_eq word (codes "cut")) _ _ HasFields (line1_if CutAfter (one_number fields) _ (one_number_if fields)
    (λ k h. h))
    (if_if (bytes_eq word (codes "crash")) _ _ HasFields (crash_if fields)
    (if_if (bytes_eq word (codes "store")) _ _ HasFields (store_if fields) tt))))))

row_if : (word : Text) (fields : List Text) → IfSome (row word fields) HasFields
unfolding row HasFields
row_if word fields =
    if_if (bytes_eq word (codes "write")) _ _ HasFields (line2_if Write (ring_hex fields) _ (ring_hex_if fields)
    (λ z b h. h))
    (if_if (bytes_eq word (codes "dump")) _ _ HasFields (line3_if Dump (time_flag_hex fields) _
    (time_flag_hex_if fields) (λ t p b h. h))
    (if_if (bytes_eq word (codes "begin")) _ _ HasFields (begin_if fields)
    (if_if (bytes_eq word (codes "extract")) _ _ HasFields
    (line1_if Extract (one_name fields) _ (one_name_if fields) (λ n h. h))
    (if_if (bytes_eq word (codes "erase")) _ _ HasFields
    (line1_if Erase (one_name fields) _ (one_name_if fields) (λ n h. h))
    (if_if (bytes_eq word (codes "kdump")) _ _ HasFields (kdump_if fields)
    (if_if (bytes_eq word (codes "kmsg")) _ _ HasFields
    (line1_if KMsg (one_message fields) _ (one_message_if fields) (λ b h. h))
    (if_if (bytes_eq word (codes "reserve")) _ _ HasFields
    (line1_if Reserve (one_some_bytes fields) _ (one_some_bytes_if fields) (λ b h. h)) (plain_row_if word fields))))))))

lone_if : (word : Text) → IfSome (lone_word word) HasFields
unfolding lone_word HasFields
lone_if word =
    if_if (bytes_eq word (codes "stop")) _ _ HasFields tt
    (if_if (bytes_eq word (codes "boot")) _ _ HasFields tt
    (if_if (bytes_eq word (codes "list")) _ _ HasFields tt tt))

fields_if : (fields : List Text) → IfSome (line_of_fields fields) HasFields
fields_if [] = tt
fields_if (w ∷ []) = lone_if w
fields_if (w ∷ f ∷ fields) = row_if w (f ∷ fields)

blank_fields : HasFields Blank
unfolding HasFields
blank_fields = tt

line_if : (text : Text) → IfSome (line_of text) HasFields
unfolding line_of
line_if text = if_if (is_blank text) _ _ HasFields blank_fields (fields_if (fields_of text))

-- ---- scripts

with_line_if : (o : Option Line) (n : ℕ) (r : Result (List Line) ℕ) → IfSome o HasFields → IfOk r AllHaveFields
    → IfOk (with_line o n r) AllHaveFields
with_line_if None n r h k = tt
with_line_if (Some line) n (Ok lines) h k = (h, k)
with_line_if (Some line) n (Err m) h k = tt

lines_if : (n : ℕ) (texts : List Text) → IfOk (lines_from n texts) AllHaveFields
unfolding lines_from
lines_if n [] = tt
lines_if n (rest ∷ []) = last (length rest == 0)
  where
    last : (b : Bool) → IfOk (if b then Ok [] else Err n) AllHaveFields
    last true = tt
    last false = tt
lines_if n (text ∷ next ∷ texts) = with_line_if (line_of text) n (lines_from (n + 1) (next ∷ texts)) (line_if text)
    (lines_if (n + 1) (next ∷ texts))

pub read_fields : (script : Text) (lines : List Line) → script_of script ≡ Ok lines → AllHaveFields lines
unfolding script_of
read_fields script lines e = let h = lines_if 1 (slice_split (λ b. b == 0x0a) script) in rw e at h
