-- Every finished call keeps its zone in ring form for what was told, at every parity
use Rattle.std.proofs.Common.{◌≡◌, ℕ, ◌+◌, ◌-◌, ◌%◌, ◌<◌, ◌≤◌, List, [], ◌∷◌, ◌++◌, length, take, refl, sym, ap, ◌∙◌}
use Rattle.std.proofs.Common.{subst, arith, length-take, length-append, length-drop, w32, append-nil}
use Rattle.std.proofs.Math.Nat.{mod-eq_of_lt}
use Rattle.zone_spec.specs.declared.Zone.{Zone}
use Rattle.zone_spec.specs.declared.params.ByteOrder.{ByteOrder}
use Rattle.zone_spec.specs.declared.Words.{Words}
use Rattle.zone_spec.specs.declared.Kind.{Kind}
use Rattle.zone_spec.specs.declared.Kind.TheVariants.{Dump as DumpKind, Console, Ftrace, Pmsg}
use Rattle.zone_spec.specs.Zones.{IsValidZone}
use Rattle.zone_spec.specs.Parts.{AreBytes, Header, standing_words, IsImage}
use Rattle.zone_spec.specs.Told.{Call, Append, Erase, Dump, last_items, told_after}
use Rattle.zone_spec.specs.Stores.{put, after_stores}
use Rattle.zone_spec.specs.Stages.{ParityOf, stage_stores}
use Rattle.zone_spec.specs.Calls.{append_stages, erase_stages, call_stages, call_stores, image_after, CanBegin}
use Rattle.zone_spec.specs.Ring.{IsRingForm, ReadsAsStands, IsOpen, IsOpenUnlessDump}
use Rattle.ring_laws.proofs.Images.{length-put, put-below, put-inside}
use Rattle.ring_laws.proofs.AppendLaw.{appended, all_stages, stage_image, all_stages-append, word_of-stored}
use Rattle.ring_laws.proofs.AppendLaw.{word_of-same, length-all_stages}
use Rattle.ring_laws.proofs.RingLaw.{appended-start, image_after-all, last_items-short, last_items-append}
use Rattle.ring_laws.proofs.PartsLaw.{put-bytes, parity-own, parity-bytes, stage_parity-data}
use Rattle.ring_laws.proofs.EveryParity.{append_keeps, AppendLeaves, append_leaves, word-bytes, standing_words-same}
use Rattle.ring_laws.proofs.EveryParity.{part-bytes}
use Rattle.ring_laws.proofs.PartWords.{has_parity}
use Rattle.zone_spec.specs.WordBytes.{word_bytes}

-- the image after an erasure's words
abbrev pub erased : ByteOrder → List ℕ → List ℕ
erased order image = put (put image 4 (word_bytes order 0)) 8 (word_bytes order 0)

pub all_stages-erase : (z : Zone) (image : List ℕ) → all_stages z erase_stages image
    ≡ stage_image z (ParityOf Header) (erased z.byte_order image)
unfolding all_stages stage_stores after_stores
all_stages-erase z image = refl

pub length-erased : (order : ByteOrder) (image : List ℕ) → length (erased order image) ≡ length image
length-erased order image = length-put _ 8 (word_bytes order 0) ∙ length-put image 4 (word_bytes order 0)

erased-start : (z : Zone) (image : List ℕ) → 12 ≤ length image → (standing_words z (erased z.byte_order image)).start ≡ 0
erased-start z image room = word_of-stored z.byte_order (erased z.byte_order image) 4 0 (omega arith) (omega arith) (λ i k.
    put-below _ 8 (4 + i) (word_bytes z.byte_order 0) (omega arith) ∙ put-inside image 4 i (word_bytes z.byte_order 0) (omega arith) k)

erased-size : (z : Zone) (image : List ℕ) → 12 ≤ length image → (standing_words z (erased z.byte_order image)).size ≡ 0
erased-size z image room = word_of-stored z.byte_order (erased z.byte_order image) 8 0 (omega arith) (omega arith) (λ i k.
    put-inside _ 8 i (word_bytes z.byte_order 0) (omega (arith, length-put image 4 (word_bytes z.byte_order 0))) k)

erased-sig : (z : Zone) (image : List ℕ) → (standing_words z (erased z.byte_order image)).sig ≡ (standing_words z image).sig
erased-sig z image = word_of-same z.byte_order (erased z.byte_order image) image 0 (omega arith) (λ i k.
    put-below _ 8 (0 + i) (word_bytes z.byte_order 0) (omega arith)
    ∙ put-below image 4 (0 + i) (word_bytes z.byte_order 0) (omega arith))

open_none : (kind : Kind) (w : Words) (cap : ℕ) → w.start ≡ 0 → w.size ≡ 0 → 0 < cap → IsOpenUnlessDump kind w cap
open_none DumpKind w cap e f h = tt
open_none Console w cap e f h = (omega (arith, e), λ _. e ∙ sym f)
open_none Ftrace w cap e f h = (omega (arith, e), λ _. e ∙ sym f)
open_none Pmsg w cap e f h = (omega (arith, e), λ _. e ∙ sym f)

-- a signed zone with both words zero is in ring form for nothing
pub ring_none : (z : Zone) (image : List ℕ) → 0 < z.cap → (standing_words z image).sig ≡ z.sig
    → (standing_words z image).start ≡ 0 → (standing_words z image).size ≡ 0 → ReadsAsStands z image Header
    → IsRingForm z image []
ring_none z image room s a b head = record {
  ring = (omega (arith, a, b), omega (arith, b));
  signed = s;
  told_length = b;
  bytes = rw (a, b) refl;
  is_open = open_none z.name.kind (standing_words z image) z.cap a b room;
  header = head;
  blocks = λ k h. absurd (omega (arith, b));
}

module _ (z : Zone) (valid : IsValidZone z) where
  erase_words : (image : List ℕ) → length image ≡ z.size → AreBytes image
      → let y = all_stages z erase_stages image in ((standing_words z y).start ≡ 0) × ((standing_words z y).size ≡ 0)
      × ((standing_words z y).sig ≡ (standing_words z image).sig) × ReadsAsStands z y Header × AreBytes y
  erase_words image len bytes =
      let e : List ℕ = erased z.byte_order image in
      let e_bytes : AreBytes e = put-bytes (put image 4 (word_bytes z.byte_order 0)) 8 _
      (put-bytes image 4 _ bytes (word-bytes z.byte_order 0)) (word-bytes z.byte_order 0) in
      let e_len : length e ≡ z.size = length-erased z.byte_order image ∙ len in
      let y : List ℕ = stage_image z (ParityOf Header) e in
      let same : standing_words z y ≡ standing_words z e = standing_words-same z y e (stage_parity-data z e Header) in
      let room : 12 ≤ length image = omega (arith, valid.at_least) in
      rw all_stages-erase (
        ap (λ w. w.start) same ∙ erased-start z image room,
        ap (λ w. w.size) same ∙ erased-size z image room,
        ap (λ w. w.sig) same ∙ erased-sig z image,
        parity-own z valid (has_parity z.parity) e Header tt e_len e_bytes,
        parity-bytes z valid (has_parity z.parity) e Header e_bytes,
      )

  -- an erasure leaves a ring of nothing
  pub erase_law : (image : List ℕ) → length image ≡ z.size → AreBytes image → (standing_words z image).sig ≡ z.sig
      → IsRingForm z (all_stages z erase_stages image) []
  erase_law image len bytes sig =
      let w = erase_words image len bytes in
      ring_none z _ (omega (arith, valid.room)) (w.2 ∙ sig) w.0 w.1 w.3

  append_any : (image told q : List ℕ) → length image ≡ z.size → AreBytes image → AreBytes q → length q ≤ z.cap
      → IsRingForm z image told → IsOpen (standing_words z image) z.cap
      → IsRingForm z (all_stages z (append_stages z (standing_words z image).start (standing_words z image).size q) image)
      (last_items z.cap (told ++ q))
  unfolding all_stages
  append_any image told [] len bytes new short ring openss =
      rw append-nil (let l : length told ≤ z.cap = omega (arith, ring.ring.1, ring.told_length) in
      rw (last_items-short z.cap told l) ring)
  append_any image told (b ∷ bs) len bytes new short ring opens =
      append_keeps z image told b bs valid (has_parity z.parity) len bytes new short ring opens.0 opens.1

  -- an append to a ring whose words are known
  append_at : (image told q : List ℕ) (s n : ℕ) → length image ≡ z.size → AreBytes image → AreBytes q → length q ≤ z.cap
      → IsRingForm z image told
      → (standing_words z image).start ≡ s → (standing_words z image).size ≡ n → s < z.cap → (n < z.cap → s ≡ n)
      → IsRingForm z (all_stages z (append_stages z s n q) image) (last_items z.cap (told ++ q))
  append_at image told q s n len bytes new short ring es en below is_open =
      subst (λ k. IsRingForm z (all_stages z (append_stages z k n q) image) (last_items z.cap (told ++ q))) es
      (subst (λ k. IsRingForm z (all_stages z (append_stages z (standing_words z image).start k q) image)
      (last_items z.cap (told ++ q))) en
      (append_any image told q len bytes new short ring (
        omega (arith, es),
        (λ h. es ∙ is_open (omega (arith, en)) ∙ sym en),
      )))

  -- an erasure, a line and a body's front
  dump_law : (image : List ℕ) (b : ℕ) (bs front : List ℕ) → length image ≡ z.size → AreBytes image → AreBytes (b ∷ bs)
      → AreBytes front → (standing_words z image).sig ≡ z.sig
      → length (b ∷ bs) < z.cap → length (b ∷ bs) + length front ≤ z.cap
      → IsRingForm z (all_stages z (erase_stages ++ append_stages z 0 0 (b ∷ bs) ++ append_stages z (length (b ∷ bs))
      (length (b ∷ bs)) front) image) ((b ∷ bs) ++ front)
  dump_law image b bs front len bytes line_bytes front_bytes sig short fits =
      let line : List ℕ = b ∷ bs in
      let h : ℕ = length line in
      let first : List ℕ = all_stages z erase_stages image in
      let second : List ℕ = all_stages z (append_stages z 0 0 line) first in
      let first_len : length first ≡ z.size = length-all_stages z erase_stages image ∙ len in
      let second_len : length second ≡ z.size = length-all_stages z (append_stages z 0 0 line) first ∙ first_len in
      let w = erase_words image len bytes in
      let ring1 : IsRingForm z first [] = erase_law image len bytes sig in
      let ring2 : IsRingForm z second line = subst (IsRingForm z second) (last_items-short z.cap line (omega arith))
      (append_at first [] line 0 0 first_len w.4 line_bytes (omega arith) ring1 w.0 w.1 (omega arith) (λ _. refl))
      in
      let leaves : AppendLeaves z 0 0 line first second =
      append_leaves z valid (has_parity z.parity) 0 0 b bs first (omega arith) (omega arith)
      first_len w.4 line_bytes in
      let second_start : (standing_words z second).start ≡ h =
      ap (λ v. v.start) (standing_words-same z second (appended z 0 0 line first) leaves.data_same)
      ∙ appended-start z 0 0 line first (omega (arith, valid.cap)) (omega arith) (omega arith)
      (omega (arith, valid.cap, valid.at_most))
      ∙ (let l : 0 + h < z.cap = omega arith in let m : (0 + h) % z.cap ≡ 0 + h = mod-eq_of_lt l in omega arith) in
      let ring3 : IsRingForm z (all_stages z (append_stages z h h front) second) (last_items z.cap (line ++ front)) =
      append_at second line front h h second_len leaves.bytes front_bytes (omega arith)
      ring2 second_start ring2.told_length short (λ _. refl) in
      let whole : all_stages z (erase_stages ++ append_stages z 0 0 line ++ append_stages z h h front) image
      ≡ all_stages z (append_stages z h h front) second =
      all_stages-append z (erase_stages ++ append_stages z 0 0 line) (append_stages z h h front) image
      ∙ ap (all_stages z (append_stages z h h front)) (all_stages-append z erase_stages (append_stages z 0 0 line)
      image) in
      subst (λ x. IsRingForm z x (line ++ front)) (sym whole)
      (subst (IsRingForm z (all_stages z (append_stages z h h front) second))
      (last_items-short z.cap (line ++ front) (omega (arith, length-append line front))) ring3)

  -- ---- any call
  pub call_law : (call : Call) (image told : List ℕ) → IsImage z image → IsRingForm z image told → CanBegin z image call
      → IsRingForm z (image_after z call image (length (call_stores z call image))) (told_after z.cap call told)
  call_law (Append payload) image told im ring can =
      let stages : call_stages z (standing_words z image) (Append payload)
      ≡ append_stages z (standing_words z image).start (standing_words z image).size (last_items z.cap payload) =
      append-nil _ in
      subst (λ x. IsRingForm z x (last_items z.cap (told ++ payload)))
      (sym (image_after-all z (Append payload) image ∙ ap (λ gs. all_stages z gs image) stages))
      (subst (λ xs. IsRingForm z (all_stages z (append_stages z (standing_words z image).start
      (standing_words z image).size (last_items z.cap payload)) image) xs) (last_items-append z.cap told payload)
      (append_any image told (last_items z.cap payload) im.0 im.1
      (part-bytes (length payload - z.cap) payload can.1).1
      (omega (arith, length-drop (length payload - z.cap) payload)) ring can.0))
  call_law Erase image told im ring can = rw image_after-all (erase_law image im.0 im.1 ring.signed)
  call_law (Dump [] body) image told im ring can = absurd (omega (arith, can.0))
  call_law (Dump (b ∷ bs) body) image told im ring can =
      let h : ℕ = length (b ∷ bs) in
      let front : List ℕ = take (z.cap - h) body in
      let stages : call_stages z (standing_words z image) (Dump (b ∷ bs) body)
      ≡ erase_stages ++ append_stages z 0 0 (b ∷ bs) ++ append_stages z h h front =
      ap (λ gs. erase_stages ++ append_stages z 0 0 (b ∷ bs) ++ gs) (append-nil (append_stages z h h front)) in
      subst (λ x. IsRingForm z x (told_after z.cap (Dump (b ∷ bs) body) told))
      (sym (image_after-all z (Dump (b ∷ bs) body) image ∙ ap (λ gs. all_stages z gs image) stages))
      (dump_law image b bs front im.0 im.1 can.2 (part-bytes (z.cap - h) body can.3).0 ring.signed can.1
      (omega (arith, can.1, length-take (z.cap - h) body)))
