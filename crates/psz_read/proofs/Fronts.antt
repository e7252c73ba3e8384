-- State, part, fault and cursor of a zone depend on the words of its header and on a dump's header, and these on its
-- first 52 bytes. For `front_is_enough`.
use Rattle.std.proofs.Common.{◌≡◌, ℕ, ◌+◌, ◌-◌, ◌≤◌, refl, sym, ap, ◌∙◌, arith, List, [], ◌∷◌, take, drop}
use Rattle.std.proofs.Common.{get_or-take}
use Rattle.std.specs.Prelude.{Option, Some, None, slice_index, nat_lt, ◌==◌, not, ◌&&◌, if◌then◌else◌}
use Rattle.zone_spec.specs.declared.params.ByteOrder.{ByteOrder}
use Rattle.zone_spec.specs.declared.params.ByteOrder.TheVariants.{Little, Big}
use Rattle.zone_spec.specs.WordBytes.{word_of}
use Rattle.std.proofs.lemmas.List.{drop-take}
use Rattle.psz_spec.specs.declared.Kind.{Kind}
use Rattle.psz_spec.specs.declared.Kind.TheVariants.{Pmsg, Console, Ftrace, Dump}
use Rattle.psz_spec.specs.declared.Zone.{Zone}
use Rattle.psz_spec.specs.declared.Words.{Words}
use Rattle.psz_spec.specs.declared.Machine.{Machine}
use Rattle.psz_spec.specs.declared.Machine.TheVariants.{Aligned, X86, BigEndian}
use Rattle.psz_spec.specs.declared.DumpHeader.{DumpHeader}
use Rattle.psz_spec.specs.declared.Part.{Part}
use Rattle.psz_spec.specs.declared.Cursor.{Cursor}
use Rattle.psz_spec.specs.declared.KernelFault.{KernelFault}
use Rattle.psz_spec.specs.declared.KernelFault.TheVariants.{EmptyPacked}
use Rattle.psz_spec.specs.declared.State.{State}
use Rattle.psz_spec.specs.declared.State.TheVariants.{Unsigned, Overtop, NoDump, Erased, Broken, Found}
use Rattle.psz_spec.specs.Headers.{order_of, word, words_of, sig_of, cap_of, dump_magic, header_len, dump_header}
use Rattle.psz_spec.specs.States.{data_of, ring_state, signed_state, state_of}
use Rattle.psz_spec.specs.Failures.{found_fault, broken_fault, fault_by, kernel_fault}
use Rattle.psz_spec.specs.Parts.{ring_log, dump_log, part_with, part_if, part_of}
use Rattle.psz_spec.specs.Cursor.{has_header, with_header, with_bytes}

-- ---- words

four : (order : ByteOrder) (a b c d e f g h : ℕ) → a ≡ e → b ≡ f → c ≡ g → d ≡ h
    → word_of order (a ∷ b ∷ c ∷ d ∷ []) ≡ word_of order (e ∷ f ∷ g ∷ h ∷ [])
four order a b c d e f g h p q r s =
    ap (word_of order) (let e : a ∷ b ∷ c ∷ d ∷ [] ≡ e ∷ f ∷ g ∷ h ∷ [] = cc in e)

pub word_front : (order : ByteOrder) (n : ℕ) (bytes : List ℕ) (at : ℕ) → at + 4 ≤ n
    → word order (take n bytes) at ≡ word order bytes at
unfolding word
word_front order n bytes at h =
    four order (slice_index (take n bytes) at) (slice_index (take n bytes) (at + 1))
    (slice_index (take n bytes) (at + 2)) (slice_index (take n bytes) (at + 3)) (slice_index bytes at) (slice_index bytes (at + 1))
    (slice_index bytes (at + 2)) (slice_index bytes (at + 3)) (get_or-take n bytes at 0 (omega (arith, h)))
    (get_or-take n bytes (at + 1) 0 (omega (arith, h))) (get_or-take n bytes (at + 2) 0 (omega (arith, h)))
    (get_or-take n bytes (at + 3) 0 (omega (arith, h)))

abbrev words_with : ℕ → ℕ → ℕ → Words
words_with sig len start = record { sig = sig; len = len; start = start }

words_front : (machine : Machine) (n : ℕ) (bytes : List ℕ) → 52 ≤ n
    → words_of machine (take n bytes) ≡ words_of machine bytes
words_front machine n bytes h =
    let order : ByteOrder = order_of machine in
    ap (λ (w : ℕ). words_with w (word order (take n bytes) 4) (word order (take n bytes) 8))
    (word_front order n bytes 0 (omega (arith, h)))
    ∙ ap (λ (w : ℕ). words_with (word order bytes 0) w (word order (take n bytes) 8))
    (word_front order n bytes 4 (omega (arith, h)))
    ∙ ap (λ (w : ℕ). words_with (word order bytes 0) (word order bytes 4) w)
    (word_front order n bytes 8 (omega (arith, h)))

kept_front : (machine : Machine) (m : ℕ) (kept : List ℕ) → 40 ≤ m
    → dump_header machine (take m kept) ≡ dump_header machine kept
unfolding dump_header
kept_front Aligned m kept h =
    let a : word Little (take m kept) 0 ≡ word Little kept 0 = word_front Little m kept 0 (omega (arith, h)) in
    let b : word Little (take m kept) 12 ≡ word Little kept 12 = word_front Little m kept 12 (omega (arith, h)) in
    let c : word Little (take m kept) 8 ≡ word Little kept 8 = word_front Little m kept 8 (omega (arith, h)) in
    let d : word Little (take m kept) 16 ≡ word Little kept 16 = word_front Little m kept 16 (omega (arith, h)) in
    let e : slice_index (take m kept) 24 ≡ slice_index kept 24 = get_or-take m kept 24 0 (omega (arith, h)) in
    let f : word Little (take m kept) 28 ≡ word Little kept 28 = word_front Little m kept 28 (omega (arith, h)) in
    let g : word Little (take m kept) 32 ≡ word Little kept 32 = word_front Little m kept 32 (omega (arith, h)) in
    rw (a, b, c, d, e, f, g) refl
kept_front X86 m kept h =
    let a : word Little (take m kept) 0 ≡ word Little kept 0 = word_front Little m kept 0 (omega (arith, h)) in
    let b : word Little (take m kept) 8 ≡ word Little kept 8 = word_front Little m kept 8 (omega (arith, h)) in
    let c : word Little (take m kept) 4 ≡ word Little kept 4 = word_front Little m kept 4 (omega (arith, h)) in
    let d : word Little (take m kept) 12 ≡ word Little kept 12 = word_front Little m kept 12 (omega (arith, h)) in
    let e : slice_index (take m kept) 16 ≡ slice_index kept 16 = get_or-take m kept 16 0 (omega (arith, h)) in
    let f : word Little (take m kept) 20 ≡ word Little kept 20 = word_front Little m kept 20 (omega (arith, h)) in
    let g : word Little (take m kept) 24 ≡ word Little kept 24 = word_front Little m kept 24 (omega (arith, h)) in
    rw (a, b, c, d, e, f, g) refl
kept_front BigEndian m kept h =
    let a : word Big (take m kept) 0 ≡ word Big kept 0 = word_front Big m kept 0 (omega (arith, h)) in
    let b : word Big (take m kept) 8 ≡ word Big kept 8 = word_front Big m kept 8 (omega (arith, h)) in
    let c : word Big (take m kept) 12 ≡ word Big kept 12 = word_front Big m kept 12 (omega (arith, h)) in
    let d : word Big (take m kept) 16 ≡ word Big kept 16 = word_front Big m kept 16 (omega (arith, h)) in
    let e : word Big (take m kept) 20 ≡ word Big kept 20 = word_front Big m kept 20 (omega (arith, h)) in
    let f : slice_index (take m kept) 24 ≡ slice_index kept 24 = get_or-take m kept 24 0 (omega (arith, h)) in
    let g : word Big (take m kept) 28 ≡ word Big kept 28 = word_front Big m kept 28 (omega (arith, h)) in
    let i : word Big (take m kept) 32 ≡ word Big kept 32 = word_front Big m kept 32 (omega (arith, h)) in
    rw (a, b, c, d, e, f, g, i) refl

pub header_front : (machine : Machine) (n : ℕ) (bytes : List ℕ) → 52 ≤ n
    → dump_header machine (data_of (take n bytes)) ≡ dump_header machine (data_of bytes)
header_front machine n bytes h =
    ap (λ (k : ℕ). dump_header machine (drop 12 (take k bytes)))
    (let e : n ≡ 12 + (n - 12) = omega (arith, h) in e)
    ∙ ap (dump_header machine) (drop-take 12 (n - 12) bytes)
    ∙ kept_front machine (n - 12) (drop 12 bytes) (omega (arith, h))

-- ---- what is decided by words and header

abbrev dump_by : Machine → Zone → Words → DumpHeader → State
dump_by machine z words header =
    if nat_lt (cap_of z) words.len then Overtop
    else (if not (header.magic == dump_magic) then NoDump
    else (if words.len == 0 then Erased
    else (if nat_lt words.len (header_len machine) then Broken
    else Found)))

abbrev signed_by : Machine → Zone → Kind → Words → DumpHeader → State
signed_by machine z Dump words header = dump_by machine z words header
signed_by machine z Pmsg words header = ring_state z words
signed_by machine z Console words header = ring_state z words
signed_by machine z Ftrace words header = ring_state z words

signed_is : (machine : Machine) (z : Zone) (kind : Kind) (bytes : List ℕ)
    → signed_state machine z kind bytes
    ≡ signed_by machine z kind (words_of machine bytes) (dump_header machine (data_of bytes))
signed_is machine z Dump bytes = refl
signed_is machine z Pmsg bytes = refl
signed_is machine z Console bytes = refl
signed_is machine z Ftrace bytes = refl

abbrev state_by : Machine → Zone → Words → DumpHeader → State
state_by machine z words header =
    if not (words.sig == sig_of z.kind) then Unsigned else signed_by machine z z.kind words header

state_is : (machine : Machine) (z : Zone) (bytes : List ℕ)
    → state_of machine z bytes ≡ state_by machine z (words_of machine bytes) (dump_header machine (data_of bytes))
unfolding state_of
state_is machine z bytes =
    ap (λ (s : State). if not ((words_of machine bytes).sig == sig_of z.kind) then Unsigned else s)
    (signed_is machine z z.kind bytes)

-- two lists of bytes with the same words and header
pub record SameFront (machine : Machine) (a b : List ℕ) : Type 0 where
  pub words : words_of machine a ≡ words_of machine b
  pub header : dump_header machine (data_of a) ≡ dump_header machine (data_of b)

pub front_same : (machine : Machine) (n : ℕ) (bytes : List ℕ) → 52 ≤ n → SameFront machine (take n bytes) bytes
front_same machine n bytes h = record {
  words = words_front machine n bytes h;
  header = header_front machine n bytes h;
}

pub state_same : (machine : Machine) (z : Zone) (a b : List ℕ) → SameFront machine a b
    → state_of machine z a ≡ state_of machine z b
state_same machine z a b s = state_is machine z a
    ∙ ap (λ (w : Words). state_by machine z w (dump_header machine (data_of a))) s.words
    ∙ ap (λ (h : DumpHeader). state_by machine z (words_of machine b) h) s.header ∙ sym (state_is machine z b)

abbrev with_by : Machine → Zone → Kind → Words → DumpHeader → Part
with_by machine z Dump words header =
    record { zone = z; log = dump_log machine z words; header = Some header }
with_by machine z Pmsg words header = record { zone = z; log = ring_log z words; header = None }
with_by machine z Console words header = record { zone = z; log = ring_log z words; header = None }
with_by machine z Ftrace words header = record { zone = z; log = ring_log z words; header = None }

with_is : (machine : Machine) (z : Zone) (kind : Kind) (bytes : List ℕ)
    → part_with machine z kind bytes
    ≡ with_by machine z kind (words_of machine bytes) (dump_header machine (data_of bytes))
with_is machine z Dump bytes = refl
with_is machine z Pmsg bytes = refl
with_is machine z Console bytes = refl
with_is machine z Ftrace bytes = refl

with_same : (machine : Machine) (z : Zone) (kind : Kind) (a b : List ℕ) → SameFront machine a b
    → part_with machine z kind a ≡ part_with machine z kind b
with_same machine z kind a b s = with_is machine z kind a
    ∙ ap (λ (w : Words). with_by machine z kind w (dump_header machine (data_of a))) s.words
    ∙ ap (λ (h : DumpHeader). with_by machine z kind (words_of machine b) h) s.header ∙ sym (with_is machine z kind b)

pub part_same : (machine : Machine) (z : Zone) (a b : List ℕ) → SameFront machine a b
    → part_of machine z a ≡ part_of machine z b
unfolding part_of
part_same machine z a b s =
    ap (λ (t : State). part_if t (part_with machine z z.kind a)) (state_same machine z a b s)
    ∙ ap (λ (p : Part). part_if (state_of machine z b) p) (with_same machine z z.kind a b s)

abbrev found_by : Machine → Kind → Words → DumpHeader → Option KernelFault
found_by machine Dump words header =
    if header.packed && (words.len == header_len machine) then Some EmptyPacked else None
found_by machine Pmsg words header = None
found_by machine Console words header = None
found_by machine Ftrace words header = None

found_is : (machine : Machine) (kind : Kind) (bytes : List ℕ)
    → found_fault machine kind bytes
    ≡ found_by machine kind (words_of machine bytes) (dump_header machine (data_of bytes))
found_is machine Dump bytes = refl
found_is machine Pmsg bytes = refl
found_is machine Console bytes = refl
found_is machine Ftrace bytes = refl

found_same : (machine : Machine) (kind : Kind) (a b : List ℕ) → SameFront machine a b
    → found_fault machine kind a ≡ found_fault machine kind b
found_same machine kind a b s = found_is machine kind a
    ∙ ap (λ (w : Words). found_by machine kind w (dump_header machine (data_of a))) s.words
    ∙ ap (λ (h : DumpHeader). found_by machine kind (words_of machine b) h) s.header ∙ sym (found_is machine kind b)

abbrev fault_with : Kind → State → Option KernelFault → Option KernelFault
fault_with kind Broken found = Some (broken_fault kind)
fault_with kind Found found = found
fault_with kind other found = None

by_state : (machine : Machine) (kind : Kind) (state : State) (bytes : List ℕ)
    → fault_by machine kind state bytes ≡ fault_with kind state (found_fault machine kind bytes)
by_state machine kind Unsigned bytes = refl
by_state machine kind Overtop bytes = refl
by_state machine kind NoDump bytes = refl
by_state machine kind Erased bytes = refl
by_state machine kind Broken bytes = refl
by_state machine kind Found bytes = refl

fault_is : (machine : Machine) (z : Zone) (bytes : List ℕ)
    → kernel_fault machine z bytes ≡ fault_with z.kind (state_of machine z bytes) (found_fault machine z.kind bytes)
unfolding kernel_fault
fault_is machine z bytes = by_state machine z.kind (state_of machine z bytes) bytes

pub fault_same : (machine : Machine) (z : Zone) (a b : List ℕ) → SameFront machine a b
    → kernel_fault machine z a ≡ kernel_fault machine z b
fault_same machine z a b s = fault_is machine z a
    ∙ ap (λ (t : State). fault_with z.kind t (found_fault machine z.kind a)) (state_same machine z a b s)
    ∙ ap (λ (f : Option KernelFault). fault_with z.kind (state_of machine z b) f) (found_same machine z.kind a b s)
    ∙ sym (fault_is machine z b)

pub cursor_same : (machine : Machine) (z : Zone) (a b : List ℕ) (c : Cursor) → SameFront machine a b
    → with_bytes machine z a c ≡ with_bytes machine z b c
unfolding with_bytes
cursor_same machine z a b c s =
    ap (λ (t : State). if has_header t then with_header z.index (dump_header machine (data_of a)) c else c)
    (state_same machine z a b s)
    ∙ ap (λ (h : DumpHeader). if has_header (state_of machine z b) then with_header z.index h c else c) s.header
