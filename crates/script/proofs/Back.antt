-- Each field that is printed is read back
use Rattle.std.proofs.Common.{◌≡◌, ℕ, zero, suc, ◌+◌, ◌*◌, ◌<◌, ◌≤◌, ◌^◌, ◌==◌, Bool, true, false, List, [], ◌∷◌}
use Rattle.std.proofs.Common.{length, Some, None, refl, sym, ap, ◌∙◌, arith, inl, inr}
use Rattle.std.specs.Prelude.{decimal, codes, bytes_eq, if◌then◌else◌, ◌≢◌}
use Rattle.std.proofs.lemmas.Bool.{cases_lt, cases_Bool}
use Rattle.std.proofs.lemmas.List.{get_or_past}
use Rattle.std.proofs.lemmas.List.Elements.{All-from_get_or}
use Rattle.std.proofs.lemmas.Slice.Eq.{bytes_eq-Decides}
use Rattle.hex.specs.Hex.{encode_lower, decode_of, IsBytes, lower_digits}
use Rattle.hex.proofs.HexLemmas.{decode_of-encode_lower, length-encode_with}
use Rattle.zone_spec.specs.declared.ZoneName.{ZoneName}
use Rattle.zone_spec.specs.declared.Kind.{Kind}
use Rattle.zone_spec.specs.declared.Kind.TheVariants.{Dump, Console, Ftrace, Pmsg}
use Rattle.grammar_spec.specs.Fields.{Text, ◌>>=◌, number_below, mask, zone_at, ring, zone, payload, message}
use Rattle.grammar_spec.specs.Fields.{is_message, some_bytes, decoded, flag, reason, name, is_name}
use Rattle.grammar_spec.specs.Printed.{IsZoneOf, zone_text_of, payload_text, flag_text, reason_text, IsPayload}
use Rattle.script.proofs.Numbers.{number_below-decimal}
use Rattle.script.proofs.Solid.{IsSolid, solid_literal, solid_append, solid_decimal, solid_hex}

pub number_back : (limit n : ℕ) → n < limit → limit ≤ 2 ^ 63 → number_below limit (decimal n) ≡ Some n
number_back limit n below top = number_below-decimal limit n (decimal n) below (omega (arith, below, top)) refl

pub mask_back : (n : ℕ) → 0 < n → n < 256 → mask (decimal n) ≡ Some n
mask_back n low high =
    let zero_not : (n == 0) ≡ false = grind (arith, low) in
    ap (λ o. o >>= (λ n. if n == 0 then None else Some n)) (number_back 256 n high (omega arith))
    ∙ ap (λ b. if b then None else Some n) zero_not

zone_at_back : (kind : Kind) (i : ℕ) → i < 2 ^ 32 → zone_at kind (decimal i) ≡ Some (record { kind = kind; index = i })
unfolding zone_at
zone_at_back kind i h = ap (λ o. o >>= (λ n. Some (record { kind = kind; index = n })))
    (number_back (2 ^ 32) i h (omega arith))

abbrev named : Kind → ℕ → ZoneName
named k i = record { kind = k; index = i }

pub ring_back : (kind : Kind) (i : ℕ) → IsZoneOf kind i → kind ≢ Dump → ring (zone_text_of kind i) ≡ Some (named kind i)
unfolding ring
ring_back Console i h k = ap (λ n. Some (named Console n)) (sym h)
ring_back Pmsg i h k = ap (λ n. Some (named Pmsg n)) (sym h)
ring_back Ftrace i h k = zone_at_back Ftrace i h
ring_back Dump i h k = absurd (k refl)

pub zone_back : (kind : Kind) (i : ℕ) → IsZoneOf kind i → zone (zone_text_of kind i) ≡ Some (named kind i)
unfolding zone
zone_back Console i h = ring_back Console i h (λ e. cc e)
zone_back Pmsg i h = ring_back Pmsg i h (λ e. cc e)
zone_back Ftrace i h = ring_back Ftrace i h (λ e. cc e)
zone_back Dump i h = zone_at_back Dump i h

-- bytes that are in range by `All` are by index, and the other way round
bytes_of : (bytes : List ℕ) → IsPayload bytes → IsBytes bytes
bytes_of bytes h i = elim (cases_lt i (length bytes)) [
  | inl below ↦ h i 0 below
  | inr above ↦ rw (get_or_past bytes i 0 above) (omega arith)
]

pub payload_of : (bytes : List ℕ) → IsBytes bytes → IsPayload bytes
payload_of bytes h = All-from_get_or (λ b. b < 256) bytes 0 (λ i below. h i)

one_byte : (text : Text) → text ≡ codes "-" → length text ≡ 1
one_byte text e = ap length e

not_dash : (text : Text) (n : ℕ) → length text ≡ 2 * n → bytes_eq text (codes "-") ≡ false
not_dash text n len =
    elim (cases_Bool (bytes_eq text (codes "-"))) [
      | inl yes' ↦ let one = one_byte text ((bytes_eq-Decides text (codes "-")).0 yes') in
          absurd (omega (arith, len, one))
      | inr no' ↦ no'
    ]

not_empty : (text : Text) (n : ℕ) → length text ≡ 2 * (1 + n) → (length text == 0) ≡ false
not_empty text n len = grind (arith, len)

pub payload_back : (bytes : List ℕ) → IsPayload bytes → payload (payload_text bytes) ≡ Some bytes
unfolding payload
payload_back [] h = refl
payload_back (b ∷ bytes) h =
    let text = encode_lower (b ∷ bytes) in
    let len = length-encode_with lower_digits (b ∷ bytes) in
    ap (λ x. if x then Some [] else (if length text == 0 then None else decoded (decode_of text))) (not_dash text _ len)
    ∙ ap (λ x. if x then None else decoded (decode_of text)) (not_empty text (length bytes) (omega (arith, len)))
    ∙ ap decoded (decode_of-encode_lower (b ∷ bytes) (bytes_of (b ∷ bytes) h))

pub message_back : (bytes : List ℕ) → IsPayload bytes → is_message bytes ≡ true
    → message (payload_text bytes) ≡ Some bytes
unfolding message
message_back bytes h m =
    ap (λ o. o >>= (λ b. if is_message b then Some b else None)) (payload_back bytes h)
    ∙ ap (λ x. if x then Some bytes else None) m

some_not_empty : (bytes : List ℕ) → 0 < length bytes → (length bytes == 0) ≡ false
some_not_empty bytes h = grind (arith, h)

pub some_bytes_back : (bytes : List ℕ) → IsPayload bytes → 0 < length bytes
    → some_bytes (payload_text bytes) ≡ Some bytes
unfolding some_bytes
some_bytes_back bytes h m =
    ap (λ o. o >>= (λ b. if length b == 0 then None else Some b)) (payload_back bytes h)
    ∙ ap (λ x. if x then None else Some bytes) (some_not_empty bytes m)

pub flag_back : (packed : Bool) → flag (flag_text packed) ≡ Some packed
unfolding flag
flag_back true = refl
flag_back false = refl

pub reason_back : (n : ℕ) → 1 ≤ n → n ≤ 4 → reason (reason_text n) ≡ Some n
unfolding reason
reason_back zero low high = absurd (omega arith)
reason_back (suc zero) low high = refl
reason_back (suc (suc zero)) low high = refl
reason_back (suc (suc (suc zero))) low high = refl
reason_back (suc (suc (suc (suc zero)))) low high = refl
reason_back (suc (suc (suc (suc (suc n))))) low high = absurd (omega arith)

pub name_back : (text : Text) → is_name text ≡ true → name text ≡ Some text
unfolding name
name_back text h = ap (λ b. if b then Some text else None) h

-- ---- and is solid

pub solid_zone : (kind : Kind) (i : ℕ) → IsZoneOf kind i → IsSolid (zone_text_of kind i)
solid_zone Console i h = solid_literal _ refl
solid_zone Pmsg i h = solid_literal _ refl
solid_zone Ftrace i h = solid_append (codes "ftrace-") (decimal i) (solid_literal _ refl)
    (solid_decimal i (omega (arith, h)))
solid_zone Dump i h = solid_append (codes "dump-") (decimal i) (solid_literal _ refl)
    (solid_decimal i (omega (arith, h)))

pub solid_payload : (bytes : List ℕ) → IsPayload bytes → IsSolid (payload_text bytes)
solid_payload [] h = solid_literal _ refl
solid_payload (b ∷ bytes) h = solid_hex (b ∷ bytes) (bytes_of (b ∷ bytes) h)

pub solid_flag : (packed : Bool) → IsSolid (flag_text packed)
solid_flag true = solid_literal _ refl
solid_flag false = solid_literal _ refl

pub solid_reason : (n : ℕ) → 1 ≤ n → n ≤ 4 → IsSolid (reason_text n)
solid_reason zero low high = absurd (omega arith)
solid_reason (suc zero) low high = solid_literal _ refl
solid_reason (suc (suc zero)) low high = solid_literal _ refl
solid_reason (suc (suc (suc zero))) low high = solid_literal _ refl
solid_reason (suc (suc (suc (suc zero)))) low high = solid_literal _ refl
solid_reason (suc (suc (suc (suc (suc n))))) low high = absurd (omega arith)
