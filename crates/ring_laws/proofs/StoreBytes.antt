-- The stores of calls and boots are of bytes, and keep an image one of bytes
use Rattle.std.proofs.Common.{ℕ, zero, suc, ◌+◌, ◌-◌, ◌%◌, ◌<◌, List, [], ◌∷◌, ◌++◌, length, take, drop, map, min, Bool}
use Rattle.std.proofs.Common.{true, false, cond, ◌==◌, ◌∙◌}
use Rattle.std.specs.List.{AllByRecursion}
use Rattle.list_laws.proofs.Elements.{AllByRecursion-append}
use Rattle.zone_spec.specs.declared.Zone.{Zone}
use Rattle.zone_spec.specs.declared.Words.{Words}
use Rattle.zone_spec.specs.Zones.{IsValidZone}
use Rattle.zone_spec.specs.Parts.{AreBytes, Header, Block, standing_words, part_bytes, part_at, part_len}
use Rattle.zone_spec.specs.Parts.{part_parity_at, IsImage}
use Rattle.zone_spec.specs.Told.{Call, Append, Erase, Dump, last_items}
use Rattle.zone_spec.specs.Stores.{Store, put, after_stores, byte_stores}
use Rattle.zone_spec.specs.Stages.{Stage, SigWord, StartWord, SizeWord, Run, ParityOf, stage_stores, stores_in_turn}
use Rattle.zone_spec.specs.Stages.{blocks_met}
use Rattle.zone_spec.specs.Calls.{run_stages, append_stages, erase_stages, call_stages, call_stores, image_after}
use Rattle.zone_spec.specs.Calls.{CanBegin}
use Rattle.ring_laws.proofs.Images.{length-after_stores}
use Rattle.ring_laws.proofs.PartsLaw.{slice_range-bytes, put-bytes, part_short}
use Rattle.ring_laws.proofs.EveryParity.{word-bytes, part-bytes}
use Rattle.ring_laws.proofs.PartWords.{has_parity, bytes-each}

abbrev pub IsStore : Store → Type 0
IsStore s = AreBytes s.bytes

pub all-take : {A : Type 0} (P : A → Type 0) (n : ℕ) (xs : List A) → AllByRecursion P xs → AllByRecursion P (take n xs)
all-take P zero xs h = tt
all-take P (suc n) [] h = tt
all-take P (suc n) (x ∷ xs) h = (h.0, all-take P n xs h.1)

pub all-map : {A B : Type 0} (P : B → Type 0) (f : A → B) (xs : List A) → ((x : A) → P (f x))
    → AllByRecursion P (map f xs)
all-map P f [] h = tt
all-map P f (x ∷ xs) h = (h x, all-map P f xs h)

pub after-bytes : (image : List ℕ) (ss : List Store) → AreBytes image → AllByRecursion IsStore ss
    → AreBytes (after_stores image ss)
unfolding after_stores
after-bytes image [] h k = h
after-bytes image (s ∷ ss) h k = after-bytes (put image s.place s.bytes) ss (put-bytes image s.place s.bytes h k.0) k.1

pub one-byte : (c : ℕ) → c < 256 → AreBytes (c ∷ [])
one-byte c h = bytes-each (c ∷ []) (h, tt)

pub byte_stores-all : (place : ℕ) (bs : List ℕ) → AreBytes bs → AllByRecursion IsStore (byte_stores place bs)
unfolding byte_stores
byte_stores-all place [] h = tt
byte_stores-all place (b ∷ bs) h = (one-byte b (h 0), byte_stores-all (place + 1) bs (λ i. h (suc i)))

-- what a call appends is of bytes
abbrev pub HasCallBytes : Call → Type 0
HasCallBytes (Append payload) = AreBytes payload
HasCallBytes Erase = Unit {0}
HasCallBytes (Dump line body) = AreBytes line × AreBytes body

-- a run of bytes is of bytes
abbrev pub HasBytes : Stage → Type 0
HasBytes (Run place bytes) = AreBytes bytes
HasBytes (ParityOf part) = Unit {0}
HasBytes (SigWord n) = Unit {0}
HasBytes (StartWord n) = Unit {0}
HasBytes (SizeWord n) = Unit {0}

module _ (z : Zone) (valid : IsValidZone z) where
  pub stage_stores-all : (g : Stage) (image : List ℕ) → AreBytes image → HasBytes g
      → AllByRecursion IsStore (stage_stores z g image)
  unfolding stage_stores part_bytes
  stage_stores-all (SigWord n) image h k = (word-bytes z.byte_order n, tt)
  stage_stores-all (StartWord n) image h k = (word-bytes z.byte_order n, tt)
  stage_stores-all (SizeWord n) image h k = (word-bytes z.byte_order n, tt)
  stage_stores-all (Run place bytes) image h k = byte_stores-all (12 + place) bytes k
  stage_stores-all (ParityOf part) image h k =
      byte_stores-all (part_parity_at z part) _
      (has_parity z.parity (part_bytes z image part) (slice_range-bytes image (part_at z part)
      (part_at z part + part_len z part) h) (part_short z valid (has_parity z.parity) image part)).1

  pub stores_in_turn-all : (gs : List Stage) (image : List ℕ) → AreBytes image → AllByRecursion HasBytes gs
      → AllByRecursion IsStore (stores_in_turn z gs image)
  unfolding stores_in_turn
  stores_in_turn-all [] image h k = tt
  stores_in_turn-all (g ∷ gs) image h k =
      let first = stage_stores-all g image h k.0 in
      AllByRecursion-append IsStore (stage_stores z g image) _ first
      (stores_in_turn-all gs (after_stores image (stage_stores z g image))
      (after-bytes image (stage_stores z g image) h first) k.1)

  run-all : (place : ℕ) (bs : List ℕ) → AreBytes bs → AllByRecursion HasBytes (run_stages z place bs)
  run-all place [] h = tt
  run-all place (b ∷ bs) h = (
    h,
    all-map HasBytes (λ k. ParityOf (Block k)) (blocks_met z place (length (b ∷ bs)))
        (λ x. tt),
  )

  size-all : (full : Bool) (n : ℕ) → AllByRecursion HasBytes (cond full [] (SizeWord n ∷ []))
  size-all true n = tt
  size-all false n = (tt, tt)

  append-all : (start size : ℕ) (bs : List ℕ) → AreBytes bs → AllByRecursion HasBytes (append_stages z start size bs)
  append-all start size [] h = tt
  append-all start size (b ∷ bs) h =
      let q : List ℕ = b ∷ bs in
      let parts = part-bytes (z.cap - start) q h in
      let sizes : List Stage = cond (size == z.cap) [] (SizeWord (min z.cap (size + length q)) ∷ []) in
      let first : List Stage = run_stages z start (take (z.cap - start) q) in
      let second : List Stage = run_stages z 0 (drop (z.cap - start) q) in
      let last : List Stage = ParityOf Header ∷ [] in
      let starts : List Stage = StartWord ((start + length q) % z.cap) ∷ [] in
      AllByRecursion-append HasBytes (sizes ++ starts ++ first ++ second) last
      (AllByRecursion-append HasBytes (sizes ++ starts ++ first) second
      (AllByRecursion-append HasBytes (sizes ++ starts) first (AllByRecursion-append HasBytes sizes starts
      (size-all (size == z.cap) (min z.cap (size + length q))) (tt, tt))
      (run-all start (take (z.cap - start) q) parts.0))
      (run-all 0 (drop (z.cap - start) q) parts.1))
      (tt, tt)

  pub call_stages-all : (w : Words) (call : Call) → HasCallBytes call → AllByRecursion HasBytes (call_stages z w call)
  call_stages-all w (Append payload) h = AllByRecursion-append HasBytes _ []
      (append-all w.start w.size (last_items z.cap payload) (part-bytes (length payload - z.cap) payload h).1) tt
  call_stages-all w Erase h = (tt, (tt, (tt, tt)))
  call_stages-all w (Dump line body) bytes =
      let h : ℕ = length line in
      let first : List Stage = append_stages z 0 0 line in
      let second : List Stage = append_stages z h h (take (z.cap - h) body) in
      AllByRecursion-append HasBytes erase_stages (first ++ (second ++ [])) (tt, (tt, (tt, tt)))
      (AllByRecursion-append HasBytes first (second ++ []) (append-all 0 0 line bytes.0)
      (AllByRecursion-append HasBytes second [] (append-all h h (take (z.cap - h) body)
      (part-bytes (z.cap - h) body bytes.1).0) tt))

  begun-bytes : (image : List ℕ) (call : Call) → CanBegin z image call → HasCallBytes call
  begun-bytes image (Append payload) can = can.1
  begun-bytes image Erase can = tt
  begun-bytes image (Dump line body) can = (can.2, can.3)

  pub call-all : (image : List ℕ) (call : Call) → CanBegin z image call
      → AllByRecursion HasBytes (call_stages z (standing_words z image) call)
  call-all image call can = call_stages-all (standing_words z image) call (begun-bytes image call can)

  -- the image after any stores of a call
  pub call_image : (image : List ℕ) (call : Call) (k : ℕ) → IsImage z image → CanBegin z image call
      → IsImage z (image_after z call image k)
  unfolding call_stores
  call_image image call k im can = (
    length-after_stores image (take k (call_stores z call image)) ∙ im.0,
    after-bytes image _ im.1 (all-take IsStore k _ (stores_in_turn-all (call_stages z (standing_words z image) call)
        image im.1 (call-all image call can))),
  )
