-- What a kernel prints and dumps are bytes
use Rattle.std.proofs.Common.{◌≡◌, ℕ, zero, suc, ◌-◌, ◌/◌, ◌%◌, ◌<◌, ◌==◌, Bool, true, false, cond, nat_lt, nat_le}
use Rattle.std.proofs.Common.{List, [], ◌∷◌, ◌++◌, length, take, refl, arith}
use Rattle.std.specs.Prelude.{All, codes, decimal}
use Rattle.std.specs.List.{list_all}
use Rattle.std.specs.Fmt.{digit_glyph, digits_onto, digits}
use Rattle.std.proofs.lemmas.Bool.{ltb-true}
use Rattle.std.proofs.lemmas.List.Elements.{All-nil, All-cons, All-head, All-tail, All-append, All-take, All-weaker}
use Rattle.std.proofs.lemmas.List.Sums.{AllPass-from_list_all}
use Rattle.kmsg_spec.specs.declared.Reason.{Reason}
use Rattle.kmsg_spec.specs.declared.Reason.TheVariants.{Panic, Oops, Emergency, Shutdown}
use Rattle.kmsg_spec.specs.Reasons.{reason_number, reason_word}
use Rattle.kmsg_spec.specs.Bodies.{newline, ended, bytes_of, last_lines, heading, body}
use Rattle.grammar_spec.specs.Printed.{IsPayload}

-- ---- last lines

all_by : (P : List ℕ → Type 0) (b : Bool) (lines last : List (List ℕ)) → All P lines → All P last
    → All P (cond b lines last)
all_by P true lines last h k = h
all_by P false lines last h k = k

pub all_last : (P : List ℕ → Type 0) (room : ℕ) (lines : List (List ℕ)) → All P lines → All P (last_lines room lines)
unfolding last_lines
all_last P room [] h = h
all_last P room (line ∷ lines) h =
    all_by P (nat_le (length (bytes_of (line ∷ lines))) room) (line ∷ lines) (last_lines room lines) h
    (all_last P room lines (All-tail P line lines h))

-- ---- bytes

below_test : (b : ℕ) → nat_lt b 256 ≡ true → b < 256
below_test b h = ltb-true b 256 h

literal_bytes : (text : List ℕ) → list_all (λ b. nat_lt b 256) text ≡ true → IsPayload text
literal_bytes text h = All-weaker (λ b. nat_lt b 256 ≡ true) (λ b. b < 256) below_test text
    (AllPass-from_list_all _ text h)

line_bytes : (line : List ℕ) → IsPayload line → IsPayload (ended line)
line_bytes line h = All-append (λ b. b < 256) line (newline ∷ []) h (literal_bytes (newline ∷ []) refl)

lines_bytes : (lines : List (List ℕ)) → All IsPayload lines → IsPayload (bytes_of lines)
lines_bytes [] h = All-nil (λ b. b < 256)
lines_bytes (line ∷ lines) h =
    All-append (λ b. b < 256) (ended line) (bytes_of lines) (line_bytes line (All-head IsPayload line lines h))
    (lines_bytes lines (All-tail IsPayload line lines h))

glyph_byte : (d : ℕ) → d < 10 → digit_glyph false d < 256
glyph_byte d h = grind (arith, h)

last_digit : (n : ℕ) → n % 10 < 10
last_digit n = omega arith

bytes_by : (b : Bool) (xs ys : List ℕ) → IsPayload xs → IsPayload ys → IsPayload (cond b xs ys)
bytes_by true xs ys h k = h
bytes_by false xs ys h k = k

digits_bytes : (k n : ℕ) (more : List ℕ) → IsPayload more → IsPayload (digits_onto k 10 false n more)
digits_bytes zero n more h = h
digits_bytes (suc k) n more h =
    let digit = digit_glyph false (n % 10) in
    let next = All-cons (λ b. b < 256) digit more (glyph_byte (n % 10) (last_digit n)) h in
    bytes_by (n / 10 == 0) (digit ∷ more) (digits_onto k 10 false (n / 10) (digit ∷ more)) next
    (digits_bytes k (n / 10) (digit ∷ more) next)

decimal_bytes : (n : ℕ) → IsPayload (decimal n)
unfolding digits
decimal_bytes n = digits_bytes 64 n [] (All-nil (λ b. b < 256))

reason_bytes : (why : Reason) → IsPayload (reason_word (reason_number why))
reason_bytes Panic = literal_bytes (reason_word 1) refl
reason_bytes Oops = literal_bytes (reason_word 2) refl
reason_bytes Emergency = literal_bytes (reason_word 3) refl
reason_bytes Shutdown = literal_bytes (reason_word 4) refl

heading_bytes : (why : Reason) (count : ℕ) → IsPayload (heading why count)
heading_bytes why count =
    let P : ℕ → Type 0 = λ b. b < 256 in
    let named = All-append P (reason_word (reason_number why)) (codes "#") (reason_bytes why) (literal_bytes (codes "#") refl) in
    let numbered = All-append P (reason_word (reason_number why) ++ codes "#") (decimal count) named (decimal_bytes count) in
    let parted = All-append P (reason_word (reason_number why) ++ codes "#" ++ decimal count) (codes " Part1") numbered
    (literal_bytes (codes " Part1") refl) in
    All-append P (reason_word (reason_number why) ++ codes "#" ++ decimal count ++ codes " Part1") (newline ∷ []) parted
    (literal_bytes (newline ∷ []) refl)

pub body_bytes : (why : Reason) (count room : ℕ) (lines : List (List ℕ)) → All IsPayload lines
    → IsPayload (body why count room lines)
body_bytes why count room lines h = by (nat_le (length head) room)
  where
    head : List ℕ
    head = heading why count

    last : List (List ℕ)
    last = last_lines (room - length head) lines

    by : (b : Bool) → IsPayload (cond b (head ++ bytes_of last) (take room head))
    by true = All-append (λ b. b < 256) head (bytes_of last) (heading_bytes why count)
        (lines_bytes last (all_last IsPayload (room - length head) lines h))
    by false = All-take (λ b. b < 256) room head (heading_bytes why count)
