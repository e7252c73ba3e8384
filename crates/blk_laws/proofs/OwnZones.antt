-- Each call writes within its own zone, and other zones stay
use Rattle.std.proofs.Common.{◌≡◌, ℕ, ◌+◌, ◌-◌, ◌<◌, ◌≤◌, ◌==◌, inl, inr, Bool, true, false, if◌then◌else◌, nat_lt}
use Rattle.std.proofs.Common.{List, [], ◌∷◌, ◌++◌, length, take, drop, replicate, refl, sym, ◌∙◌, arith, length-append}
use Rattle.std.proofs.Common.{length-take, length-drop, get_or-take, get_or-drop}
use Rattle.std.proofs.lemmas.List.{length-replicate}
use Rattle.std.proofs.lemmas.Grind.{same_number_lists}
use Rattle.zone_spec.specs.Told.{last_items}
use Rattle.blk_spec.specs.declared.BlkZone.{BlkZone}
use Rattle.blk_spec.specs.declared.BlkWords.{BlkWords}
use Rattle.blk_spec.specs.declared.BlkTime.{BlkTime}
use Rattle.kmsg_spec.specs.declared.Reason.{Reason}
use Rattle.kmsg_spec.specs.Reasons.{reason_number}
use Rattle.blk_spec.specs.Layout.{capacity}
use Rattle.blk_spec.specs.Writes.{Write, after_write, after_writes, first_bytes}
use Rattle.blk_spec.specs.Rings.{header_bytes, header_write, run_writes, first_run, first_words, run_words, is_short}
use Rattle.blk_spec.specs.Rings.{last_words, kept_writes, append_writes}
use Rattle.blk_spec.specs.Dumps.{dump_header, body_kept, dump_writes}
use Rattle.blk_spec.specs.Reading.{zone_bytes}
use Rattle.blk_laws.specs.Apart.{AreWithin, AreApart}
use Rattle.blk_laws.proofs.Zones.{length-write}
use Rattle.blk_laws.proofs.Rings.{below-write, behind-write}

-- ---- what writes within a zone leave

pub within-append : (z : BlkZone) (vs ws : List Write) → AreWithin z vs → AreWithin z ws → AreWithin z (vs ++ ws)
unfolding AreWithin
within-append z [] ws a b = b
within-append z (v ∷ vs) ws a b = (a.0, a.1, within-append z vs ws a.2 b)

pub within-first : (z : BlkZone) (k : ℕ) (ws : List Write) → AreWithin z ws → AreWithin z (first_bytes k ws)
unfolding AreWithin first_bytes
within-first z k [] a = tt
within-first z k (w ∷ ws) a = (
  a.0,
  omega (arith, a.1, length-take k w.bytes),
  within-first z (k - length w.bytes) ws a.2,
)

pub length-after : (z : BlkZone) (ws : List Write) (store : List ℕ) → AreWithin z ws → z.at + z.size ≤ length store
    → length (after_writes ws store) ≡ length store
unfolding AreWithin after_writes
length-after z [] store a h = refl
length-after z (w ∷ ws) store a h =
    let same : length (after_write store w) ≡ length store = length-write store w (omega (arith, a.1)) in
    length-after z ws (after_write store w) a.2 (omega arith) ∙ same

stays-one : (z other : BlkZone) (w : Write) (store : List ℕ) → AreApart z other → z.at ≤ w.at
    → w.at + length w.bytes ≤ z.at + z.size → z.at + z.size ≤ length store
    → zone_bytes (after_write store w) other ≡ zone_bytes store other
stays-one z other w store apart low high h =
    let fits : w.at + length w.bytes ≤ length store = omega arith in
    let same : length (after_write store w) ≡ length store = length-write store w fits in
    same_number_lists (zone_bytes (after_write store w) other) (zone_bytes store other)
    (omega (
      arith,
      length-take other.size (drop other.at (after_write store w)),
      length-drop other.at (after_write store w),
      length-take other.size (drop other.at store),
      length-drop other.at store,
    ))
    (λ i l.
    let inside : i < other.size = omega (arith, length-take other.size (drop other.at (after_write store w))) in
    get_or-take other.size (drop other.at (after_write store w)) i 0 inside
    ∙ get_or-drop other.at (after_write store w) i 0
    ∙ (elim apart [
      | inl a ↦ behind-write store w.bytes w.at fits (other.at + i) (omega arith)
      | inr b ↦ below-write store w.bytes w.at fits (other.at + i) (omega arith)
    ])
    ∙ sym (get_or-take other.size (drop other.at store) i 0 inside ∙ get_or-drop other.at store i 0))

pub stays : (z other : BlkZone) (ws : List Write) (store : List ℕ) → AreApart z other → AreWithin z ws
    → z.at + z.size ≤ length store
    → zone_bytes (after_writes ws store) other ≡ zone_bytes store other
unfolding AreWithin after_writes
stays z other [] store apart a h = refl
stays z other (w ∷ ws) store apart a h =
    stays z other ws (after_write store w) apart a.2 (omega (arith, length-write store w (omega (arith, a.1))))
    ∙ stays-one z other w store apart a.0 a.1 h

pub stays-cut : (z other : BlkZone) (ws : List Write) (store : List ℕ) (k : ℕ) → z.at + z.size ≤ length store
    → AreApart z other → AreWithin z ws
    → zone_bytes (after_writes (first_bytes k ws) store) other ≡ zone_bytes store other
stays-cut z other ws store k h apart a = stays z other (first_bytes k ws) store apart (within-first z k ws a) h

-- ---- the calls

pub header-within : (z : BlkZone) (words : BlkWords) → 12 ≤ z.size → AreWithin z (header_write z words ∷ [])
unfolding AreWithin
header-within z words h = (omega arith, omega arith, tt)

run-within : (z : BlkZone) (place : ℕ) (bytes : List ℕ) (words : BlkWords) → 12 ≤ z.size
    → place + length bytes ≤ capacity z → AreWithin z (run_writes z place bytes words)
unfolding AreWithin
run-within z place bytes words h k = (omega arith, omega arith, (omega arith, omega arith, tt))

if-within : (z : BlkZone) (b : Bool) (ws : List Write) → AreWithin z ws → AreWithin z (if b then ws else [])
unfolding AreWithin
if-within z true ws a = a
if-within z false ws a = tt

kept-within : (z : BlkZone) (words : BlkWords) (bytes : List ℕ) → 12 ≤ z.size → words.start ≤ capacity z
    → length bytes ≤ capacity z → AreWithin z (kept_writes z words bytes)
unfolding kept_writes
kept-within z words bytes h k l =
    let m : ℕ = first_run z words (length bytes) in
    let first = run-within z words.start (take m bytes) (first_words z words (length bytes)) h
    (omega (arith, length-take m bytes)) in
    let second = run-within z 0 (drop m bytes) (run_words z words (length bytes)) h
    (omega (arith, length-drop m bytes)) in
    within-append z _ _ (within-append z _ _ first (if-within z (nat_lt m (length bytes)) _ second))
    (if-within z (is_short z words (length bytes)) _ (header-within z (last_words z words (length bytes)) h))

pub append-within : (z : BlkZone) (words : BlkWords) (payload : List ℕ) → 12 ≤ z.size → words.start ≤ capacity z
    → AreWithin z (append_writes z words payload)
unfolding append_writes AreWithin
append-within z words payload h k = by-payload (length payload == 0)
  where
    by-payload : (b : Bool) → AreWithin z (if b then [] else kept_writes z words (last_items (capacity z) payload))
    by-payload true = tt
    by-payload false = kept-within z words (last_items (capacity z) payload) h k
        (omega (arith, length-drop (length payload - capacity z) payload))

length-dump_header : (time : BlkTime) (packed : Bool) (counter reason : ℕ)
    → length (dump_header time packed counter reason) ≡ 40
length-dump_header time packed counter reason = refl

pub dump-within : (z : BlkZone) (time : BlkTime) (packed : Bool) (counter : ℕ) (reason : Reason) (body : List ℕ)
    → 52 ≤ z.size → AreWithin z (dump_writes z time packed counter reason body)
unfolding dump_writes AreWithin
dump-within z time packed counter reason body h =
    let kept : List ℕ = body_kept z body in
    let front : List ℕ = header_bytes z.sig (record { size = 40 + length kept; start = 0 }) in
    let header : List ℕ = dump_header time packed counter (reason_number reason) in
    let zeros : List ℕ = replicate (z.size - (52 + length kept)) 0 in
    let short : length kept ≤ z.size - 52 = omega (arith, length-take (capacity z - 40) body) in
    let long : length (front ++ header ++ kept ++ zeros) ≡ z.size =
    omega (
      arith,
      length-append (front ++ header ++ kept) zeros,
      length-append (front ++ header) kept,
      length-append front header,
      length-dump_header time packed counter (reason_number reason),
      length-replicate {A = ℕ} (z.size - (52 + length kept)) 0,
    ) in
    (omega arith, omega arith, tt)
