-- What is printed is read as the lines that it was printed from
use Rattle.std.proofs.Common.{◌≡◌, ℕ, ◌+◌, ◌==◌, Bool, false, List, [], ◌∷◌, ◌++◌, Some, Result, Ok, refl, sym, ap, ◌∙◌}
use Rattle.std.proofs.Common.{arith, append_assoc}
use Rattle.std.specs.Prelude.{All, decimal, codes, if◌then◌else◌}
use Rattle.std.specs.List.{AllByRecursion, join_with_byte}
use Rattle.std.specs.Result.{result_unwrap_or}
use Rattle.std.proofs.lemmas.List.Elements.{All-nil}
use Rattle.std.proofs.lemmas.List.Splits.{slice_split_at}
use Rattle.zone_spec.specs.declared.ZoneName.{ZoneName}
use Rattle.grammar_spec.specs.declared.line.Line.{Line}
use Rattle.grammar_spec.specs.declared.line.Line.TheVariants.{Blank, Write, Dump, BeginWrite, BeginErase, BeginDump}
use Rattle.grammar_spec.specs.declared.line.Line.TheVariants.{Step, Finish, Stop, Flip, Boot, BootPart}
use Rattle.grammar_spec.specs.declared.line.Line.TheVariants.{List as ListLine, Extract, Erase, KDump, CutAfter, KMsg}
use Rattle.grammar_spec.specs.declared.line.Line.TheVariants.{Crash, Reserve, StoreNext}
use Rattle.grammar_spec.specs.Fields.{Text, ◌>>=◌, number, mask, ring, zone, payload, message, some_bytes, flag, reason}
use Rattle.grammar_spec.specs.Fields.{name, secs, micros, nanos}
use Rattle.grammar_spec.specs.Groups.{ring_hex, time_flag_hex, one_zone, one_number, one_name, one_message}
use Rattle.grammar_spec.specs.Groups.{one_some_bytes}
use Rattle.grammar_spec.specs.Rows.{step_line, flip_line, kdump_line, crash_line, store_line, line1, line2, line3}
use Rattle.grammar_spec.specs.Rows.{begin_row, begin_line, plain_row, row, lone_word, line_of_fields}
use Rattle.grammar_spec.specs.Lines.{is_blank, fields_of, line_of, with_line, lines_from, script_of}
use Rattle.grammar_spec.specs.Printed.{HasFields, AllHaveFields, zone_text, payload_text, flag_text, reason_text}
use Rattle.grammar_spec.specs.Printed.{printed_fields, line_text, script_text, PrintedIsRead}
use Rattle.script.proofs.Back.{number_back, mask_back, ring_back, zone_back, payload_back, message_back}
use Rattle.script.proofs.Back.{some_bytes_back, flag_back, reason_back, name_back, solid_zone, solid_payload}
use Rattle.script.proofs.Back.{solid_flag, solid_reason}
use Rattle.script.proofs.Counts.{lines_of_more}
use Rattle.script.proofs.Cuts.{some_part}
use Rattle.script.proofs.Loop.{parts}
use Rattle.script.proofs.Solid.{IsSolid, solid_literal, solid_decimal, solid_name, cut_joined, joined_line}

-- ---- rows of fields that read

ring_hex_back : (r h : Text) (z : ZoneName) (bytes : List ℕ) → ring r ≡ Some z → payload h ≡ Some bytes
    → ring_hex (r ∷ h ∷ []) ≡ Some (z, bytes)
unfolding ring_hex
ring_hex_back r h z bytes e f = rw (e, f) refl

time_flag_hex_back : (s m f h : Text) (sn mn : ℕ) (packed : Bool) (bytes : List ℕ) → secs s ≡ Some sn
    → micros m ≡ Some mn → flag f ≡ Some packed
    → payload h ≡ Some bytes → time_flag_hex (s ∷ m ∷ f ∷ h ∷ [])
    ≡ Some (record { secs = sn; micros = mn }, packed, bytes)
unfolding time_flag_hex
time_flag_hex_back s m f h sn mn packed bytes a b c d = rw (a, b, c, d) refl

kdump_back : (s n f r h : Text) (sn nn rn : ℕ) (packed : Bool) (bytes : List ℕ) → secs s ≡ Some sn → nanos n ≡ Some nn
    → flag f ≡ Some packed
    → reason r ≡ Some rn → payload h ≡ Some bytes → kdump_line (s ∷ n ∷ f ∷ r ∷ h ∷ [])
    ≡ Some (KDump sn nn packed rn bytes)
unfolding kdump_line
kdump_back s n f r h sn nn rn packed bytes a b c d e = rw (a, b, c, d, e) refl

step_back : (t k : Text) (z : ZoneName) (n : ℕ) → zone t ≡ Some z → number k ≡ Some n
    → step_line (t ∷ k ∷ []) ≡ Some (Step z n)
unfolding step_line
step_back t k z n e f = rw (e, f) refl

flip_back : (p m : Text) (pn mn : ℕ) → number p ≡ Some pn → mask m ≡ Some mn
    → flip_line (p ∷ m ∷ []) ≡ Some (Flip pn mn)
unfolding flip_line
flip_back p m pn mn e f = rw e (ap (λ o. o >>= (λ m. Some (Flip pn m))) f)

crash_back : (r s m : Text) (rn sn mn : ℕ) → reason r ≡ Some rn → secs s ≡ Some sn → micros m ≡ Some mn
    → crash_line (r ∷ s ∷ m ∷ []) ≡ Some (Crash rn (record { secs = sn; micros = mn }))
unfolding crash_line
crash_back r s m rn sn mn a b c = rw (a, b, c) refl

store_back : (t k : Text) (tn kn : ℕ) → number t ≡ Some tn → number k ≡ Some kn
    → store_line (t ∷ k ∷ []) ≡ Some (StoreNext tn kn)
unfolding store_line
store_back t k tn kn e f = rw e (ap (λ o. o >>= (λ n. Some (StoreNext tn n))) f)

one_message_back : (t : Text) (b : List ℕ) → message t ≡ Some b → one_message (t ∷ []) ≡ Some b
unfolding one_message
one_message_back t b e = e

one_some_bytes_back : (t : Text) (b : List ℕ) → some_bytes t ≡ Some b → one_some_bytes (t ∷ []) ≡ Some b
unfolding one_some_bytes
one_some_bytes_back t b e = e

one_zone_back : (t : Text) (z : ZoneName) → zone t ≡ Some z → one_zone (t ∷ []) ≡ Some z
unfolding one_zone
one_zone_back t z e = e

one_number_back : (t : Text) (n : ℕ) → number t ≡ Some n → one_number (t ∷ []) ≡ Some n
unfolding one_number
one_number_back t n e = e

one_name_back : (t : Text) (n : Text) → name t ≡ Some n → one_name (t ∷ []) ≡ Some n
unfolding one_name
one_name_back t n e = e

-- ---- lines

solid_fields : (line : Line) → HasFields line → AllByRecursion IsSolid (printed_fields line)
unfolding HasFields
solid_fields Blank h = tt
solid_fields (Write z bytes) h = (
  solid_literal _ refl,
  (solid_zone z.kind z.index h.0.0, (solid_payload bytes h.1, tt)),
)
solid_fields (Dump t packed bytes) h =
    let s = h.0.0 in let m = h.0.1 in (
      solid_literal _ refl,
      (
        solid_decimal t.secs (omega (arith, s)),
        (solid_decimal t.micros (omega (arith, m)), (solid_flag packed, (solid_payload bytes h.1, tt))),
      ),
    )
solid_fields (BeginWrite z bytes) h = (
  solid_literal _ refl,
  (solid_literal _ refl, (solid_zone z.kind z.index h.0.0, (solid_payload bytes h.1, tt))),
)
solid_fields (BeginErase z) h = (solid_literal _ refl, (solid_literal _ refl, (solid_zone z.kind z.index h, tt)))
solid_fields (BeginDump t packed bytes) h =
    let s = h.0.0 in let m = h.0.1 in (
      solid_literal _ refl,
      (
        solid_literal _ refl,
        (
          solid_decimal t.secs (omega (arith, s)),
          (solid_decimal t.micros (omega (arith, m)), (solid_flag packed, (solid_payload bytes h.1, tt))),
        ),
      ),
    )
solid_fields (Step z k) h = let n = h.1 in (
  solid_literal _ refl,
  (solid_zone z.kind z.index h.0, (solid_decimal k (omega (arith, n)), tt)),
)
solid_fields (Finish z) h = (solid_literal _ refl, (solid_zone z.kind z.index h, tt))
solid_fields Stop h = (solid_literal _ refl, tt)
solid_fields (Flip place m) h = let n = h.0 in let k = h.2 in
    (solid_literal _ refl, (solid_decimal place (omega (arith, n)), (solid_decimal m (omega (arith, k)), tt)))
solid_fields Boot h = (solid_literal _ refl, tt)
solid_fields (BootPart k) h = (solid_literal _ refl, (solid_decimal k (omega (arith, h)), tt))
solid_fields ListLine h = (solid_literal _ refl, tt)
solid_fields (Extract n) h = (solid_literal _ refl, (solid_name n h, tt))
solid_fields (Erase n) h = (solid_literal _ refl, (solid_name n h, tt))
solid_fields (KDump s n packed r bytes) h =
    let a = h.0 in let b = h.1 in (
      solid_literal _ refl,
      (
        solid_decimal s (omega (arith, a)),
        (
          solid_decimal n (omega (arith, b)),
          (
            solid_flag packed,
            (solid_reason r h.2 h.3, (solid_payload bytes h.4, tt)),
          ),
        ),
      ),
    )
solid_fields (CutAfter k) h = (solid_literal _ refl, (solid_decimal k (omega (arith, h)), tt))
solid_fields (KMsg bytes) h = (solid_literal _ refl, (solid_payload bytes h.0, tt))
solid_fields (Crash r t) h =
    let s = h.2.0 in let m = h.2.1 in (
      solid_literal _ refl,
      (
        solid_reason r h.0 h.1,
        (solid_decimal t.secs (omega (arith, s)), (solid_decimal t.micros (omega (arith, m)), tt)),
      ),
    )
solid_fields (Reserve bytes) h = (solid_literal _ refl, (solid_payload bytes h.0, tt))
solid_fields (StoreNext t k) h = let n = h.0 in let m = h.1 in
    (solid_literal _ refl, (solid_decimal t (omega (arith, n)), (solid_decimal k (omega (arith, m)), tt)))

no_newline : (fields : List Text) → AllByRecursion IsSolid fields
    → All (λ b. (b == 0x0a) ≡ false) (join_with_byte 0x20 fields)
no_newline [] h = All-nil (λ b. (b == 0x0a) ≡ false)
no_newline (f ∷ fs) h = joined_line f fs h.0 h.1

not_blank : (c : ℕ) (text : Text) → (c == 0x23) ≡ false → is_blank (c ∷ text) ≡ false
not_blank c text h = grind (arith, h)

joined_not_blank : (c : ℕ) (word : Text) (fields : List Text) → (c == 0x23) ≡ false
    → is_blank (join_with_byte 0x20 ((c ∷ word) ∷ fields)) ≡ false
joined_not_blank c word [] h = not_blank c word h
joined_not_blank c word (f ∷ fs) h = not_blank c (word ++ 0x20 ∷ join_with_byte 0x20 (f ∷ fs)) h

-- solid fields that read as a line, joined by spaces
line_of_joined : (c : ℕ) (word : Text) (fields : List Text) (line : Line) → (c == 0x23) ≡ false
    → AllByRecursion IsSolid ((c ∷ word) ∷ fields)
    → line_of_fields ((c ∷ word) ∷ fields) ≡ Some line → line_of (join_with_byte 0x20 ((c ∷ word) ∷ fields)) ≡ Some line
unfolding line_of
line_of_joined c word fields line h solid e =
    let text = join_with_byte 0x20 ((c ∷ word) ∷ fields) in
    ap (λ b. if b then Some Blank else line_of_fields (fields_of text)) (joined_not_blank c word fields h)
    ∙ ap line_of_fields (cut_joined (c ∷ word) fields solid.0 solid.1) ∙ e

blank_back : line_of [] ≡ Some Blank
unfolding line_of
blank_back = refl

-- each line that is printed is read
line_back : (line : Line) → HasFields line → line_of (line_text line) ≡ Some line
unfolding HasFields line_text row begin_row begin_line plain_row lone_word
line_back Blank h = blank_back
line_back (Write z bytes) h =
    line_of_joined 119 (codes "rite") (zone_text z ∷ payload_text bytes ∷ []) (Write z bytes) refl
    (solid_fields (Write z bytes) h)
    (ap (line2 Write) (ring_hex_back (zone_text z) (payload_text bytes) z bytes (ring_back z.kind z.index h.0.0 h.0.1)
    (payload_back bytes h.1)))
line_back (Dump t packed bytes) h =
    line_of_joined 100 (codes "ump") (decimal t.secs ∷ decimal t.micros ∷ flag_text packed ∷ payload_text bytes ∷ [])
    (Dump t packed bytes) refl (solid_fields (Dump t packed bytes) h)
    (ap (line3 Dump) (time_flag_hex_back (decimal t.secs) (decimal t.micros) (flag_text packed) (payload_text bytes)
    t.secs t.micros packed bytes
    (number_back _ t.secs h.0.0 (omega arith)) (number_back _ t.micros h.0.1 (omega arith)) (flag_back packed)
    (payload_back bytes h.1)))
line_back (BeginWrite z bytes) h =
    line_of_joined 98 (codes "egin") (codes "write" ∷ zone_text z ∷ payload_text bytes ∷ []) (BeginWrite z bytes) refl
    (solid_fields (BeginWrite z bytes) h)
    (ap (line2 BeginWrite) (ring_hex_back (zone_text z) (payload_text bytes) z bytes
    (ring_back z.kind z.index h.0.0 h.0.1) (payload_back bytes h.1)))
line_back (BeginErase z) h =
    line_of_joined 98 (codes "egin") (codes "erase" ∷ zone_text z ∷ []) (BeginErase z) refl
    (solid_fields (BeginErase z) h)
    (ap (line1 BeginErase) (one_zone_back (zone_text z) z (zone_back z.kind z.index h)))
line_back (BeginDump t packed bytes) h =
    line_of_joined 98 (codes "egin") (codes "dump" ∷ decimal t.secs ∷ decimal t.micros ∷ flag_text packed
    ∷ payload_text bytes ∷ []) (BeginDump t packed bytes) refl (solid_fields (BeginDump t packed bytes) h)
    (ap (line3 BeginDump) (time_flag_hex_back (decimal t.secs) (decimal t.micros) (flag_text packed)
    (payload_text bytes) t.secs t.micros packed bytes
    (number_back _ t.secs h.0.0 (omega arith)) (number_back _ t.micros h.0.1 (omega arith)) (flag_back packed)
    (payload_back bytes h.1)))
line_back (Step z k) h =
    line_of_joined 115 (codes "tep") (zone_text z ∷ decimal k ∷ []) (Step z k) refl (solid_fields (Step z k) h)
    (step_back (zone_text z) (decimal k) z k (zone_back z.kind z.index h.0) (number_back _ k h.1 (omega arith)))
line_back (Finish z) h =
    line_of_joined 102 (codes "inish") (zone_text z ∷ []) (Finish z) refl (solid_fields (Finish z) h)
    (ap (line1 Finish) (one_zone_back (zone_text z) z (zone_back z.kind z.index h)))
line_back Stop h = line_of_joined 115 (codes "top") [] Stop refl (solid_fields Stop h) refl
line_back (Flip place m) h =
    line_of_joined 102 (codes "lip") (decimal place ∷ decimal m ∷ []) (Flip place m) refl
    (solid_fields (Flip place m) h)
    (flip_back (decimal place) (decimal m) place m (number_back _ place h.0 (omega arith)) (mask_back m h.1 h.2))
line_back Boot h = line_of_joined 98 (codes "oot") [] Boot refl (solid_fields Boot h) refl
line_back (BootPart k) h =
    line_of_joined 98 (codes "oot") (decimal k ∷ []) (BootPart k) refl (solid_fields (BootPart k) h)
    (ap (line1 BootPart) (one_number_back (decimal k) k (number_back _ k h (omega arith))))
line_back ListLine h = line_of_joined 108 (codes "ist") [] ListLine refl (solid_fields ListLine h) refl
line_back (Extract n) h =
    line_of_joined 101 (codes "xtract") (n ∷ []) (Extract n) refl (solid_fields (Extract n) h)
    (ap (line1 Extract) (one_name_back n n (name_back n h)))
line_back (Erase n) h =
    line_of_joined 101 (codes "rase") (n ∷ []) (Erase n) refl (solid_fields (Erase n) h)
    (ap (line1 Erase) (one_name_back n n (name_back n h)))
line_back (KDump s n packed r bytes) h =
    line_of_joined 107 (codes "dump") (decimal s ∷ decimal n ∷ flag_text packed ∷ reason_text r ∷ payload_text bytes
    ∷ []) (KDump s n packed r bytes) refl (solid_fields (KDump s n packed r bytes) h)
    (kdump_back (decimal s) (decimal n) (flag_text packed) (reason_text r) (payload_text bytes) s n r packed bytes
    (number_back _ s h.0 (omega arith)) (number_back _ n h.1 (omega arith)) (flag_back packed) (reason_back r h.2 h.3)
    (payload_back bytes h.4))
line_back (CutAfter k) h =
    line_of_joined 99 (codes "ut") (decimal k ∷ []) (CutAfter k) refl (solid_fields (CutAfter k) h)
    (ap (line1 CutAfter) (one_number_back (decimal k) k (number_back _ k h (omega arith))))
line_back (KMsg bytes) h =
    line_of_joined 107 (codes "msg") (payload_text bytes ∷ []) (KMsg bytes) refl (solid_fields (KMsg bytes) h)
    (ap (line1 KMsg) (one_message_back (payload_text bytes) bytes (message_back bytes h.0 h.1)))
line_back (Crash r t) h =
    line_of_joined 99 (codes "rash") (reason_text r ∷ decimal t.secs ∷ decimal t.micros ∷ []) (Crash r t) refl
    (solid_fields (Crash r t) h)
    (crash_back (reason_text r) (decimal t.secs) (decimal t.micros) r t.secs t.micros (reason_back r h.0 h.1)
    (number_back _ t.secs h.2.0 (omega arith)) (number_back _ t.micros h.2.1 (omega arith)))
line_back (Reserve bytes) h =
    line_of_joined 114 (codes "eserve") (payload_text bytes ∷ []) (Reserve bytes) refl
    (solid_fields (Reserve bytes) h)
    (ap (line1 Reserve) (one_some_bytes_back (payload_text bytes) bytes (some_bytes_back bytes h.0 h.1)))
line_back (StoreNext t k) h =
    line_of_joined 115 (codes "tore") (decimal t ∷ decimal k ∷ []) (StoreNext t k) refl
    (solid_fields (StoreNext t k) h)
    (store_back (decimal t) (decimal k) t k (number_back _ t h.0 (omega arith)) (number_back _ k h.1 (omega arith)))

-- ---- scripts

line_without_newline : (line : Line) → HasFields line → All (λ b. (b == 0x0a) ≡ false) (line_text line)
unfolding line_text
line_without_newline line h = no_newline (printed_fields line) (solid_fields line h)

lines_back : (n : ℕ) (lines : List Line) → AllHaveFields lines → lines_from n (parts (script_text lines)) ≡ Ok lines
unfolding lines_from
lines_back n [] h = refl
lines_back n (line ∷ lines) h =
    let text = line_text line in
    let rest = script_text lines in
    let split : parts (text ++ 0x0a ∷ [] ++ rest) ≡ text ∷ parts rest =
    ap parts (append_assoc text (0x0a ∷ []) rest) ∙ slice_split_at (λ b. b == 0x0a) text 0x0a rest
    (line_without_newline line h.0) refl in
    ap (lines_from n) split ∙ lines_of_more n text (parts rest) (some_part (λ b. b == 0x0a) rest)
    ∙ ap (λ o. with_line o n (lines_from (n + 1) (parts rest))) (line_back line h.0)
    ∙ ap (with_line (Some line) n) (lines_back (n + 1) lines h.1)

pub script_back : (lines : List Line) → AllHaveFields lines → script_of (script_text lines) ≡ Ok lines
unfolding script_of
script_back lines h = lines_back 1 lines h

pub printed_read : PrintedIsRead
printed_read lines h = (
  script_back lines h,
  λ others e. ap (λ (r : Result (List Line) ℕ). result_unwrap_or r others)
      (sym e ∙ script_back lines h),
)
