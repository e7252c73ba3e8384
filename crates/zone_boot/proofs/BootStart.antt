-- Where a boot begins
use Rattle.std.proofs.Common.{◌≡◌, ℕ, ◌+◌, ◌-◌, ◌/◌, ◌≤◌, Bool, if◌then◌else◌, List, [], ◌++◌, length, drop, flat_map}
use Rattle.std.proofs.Common.{slice_range, refl, sym, ap, ap₂, ◌∙◌, arith, length-take, length-drop}
use Rattle.std.specs.List.{range_with_len}
use Rattle.list_laws.proofs.Slices.{append-slice_range_thirds}
use Rattle.zone_spec.specs.declared.Zone.{Zone}
use Rattle.zone_spec.specs.declared.Words.{Words}
use Rattle.zone_spec.specs.declared.State.{State}
use Rattle.zone_spec.specs.declared.State.TheVariants.{Unsigned, Empty, Invalid, Found}
use Rattle.zone_spec.specs.Zones.{IsValidZone}
use Rattle.zone_spec.specs.Parts.{AreBytes, Header, Block, words_in}
use Rattle.zone_spec.specs.PartReadings.{part_reading, words_read}
use Rattle.zone_spec.specs.Reading.{ZoneReading, zone_reading, state_of}
use Rattle.zone_spec.specs.Stores.{Store, after_stores}
use Rattle.zone_spec.specs.Stages.{Stage, stores_in_turn}
use Rattle.zone_spec.specs.Calls.{erase_stages}
use Rattle.zone_spec.specs.Boot.{part_fixes, boot_fixes, boot_erasure, boot_stores, blocks_read, keeps}
use Rattle.zone_spec.specs.Boot.{signing}
use Rattle.ring_laws.proofs.PartsLaw.{slice_range-bytes}
use Rattle.ring_laws.proofs.BootLaw.{length-reading}
use Rattle.ring_laws.proofs.States.{reading_words, reading_state}
use Rattle.zone_boot.specs.declared.deciding.Erasure.{Erasure}
use Rattle.zone_boot.specs.declared.boots.Phase.TheVariants.{Header as HeaderPhase, Blocks}
use Rattle.zone_boot.specs.Left.{part_left, blocks_left, then_stages, stages_of, left_at}
use Rattle.zone_boot.proofs.Blocks.{header-length}
use Rattle.zone_boot.proofs.LaterStores.{left-whole, blocks-whole, blocks-none}
use Rattle.zone_spec.specs.WordBytes.{word_bytes}
use Rattle.zone_spec.specs.declared.params.ByteOrder.{ByteOrder}
use Rattle.word_laws.proofs.WordBytes.{word_bytes-word_of}

-- ---- all stores, by the state
module _ (z : Zone) (x : List ℕ) where
  fixes-found : (s : State) (n : ℕ) → (zone_reading z x).state ≡ s
      → (s ≡ Found → n ≡ ((zone_reading z x).words.size + z.block - 1) / z.block) → ((s ≡ Found → ⊥) → n ≡ 0)
      → flat_map (λ k. part_fixes z x (Block k)) (range_with_len 0 n)
      ≡ flat_map (λ k. part_fixes z x (Block k)) (blocks_read z (zone_reading z x) s)
  fixes-found Found n e f g = ap (λ (m : ℕ). flat_map (λ k. part_fixes z x (Block k)) (range_with_len 0 m)) (f refl)
  fixes-found Unsigned n e f g = ap (λ (m : ℕ). flat_map (λ k. part_fixes z x (Block k)) (range_with_len 0 m))
      (g (λ h. (let n : ◌≡◌ {A = ℕ} 0 1 = cc in omega (arith, n))))
  fixes-found Empty n e f g = ap (λ (m : ℕ). flat_map (λ k. part_fixes z x (Block k)) (range_with_len 0 m))
      (g (λ h. (let n : ◌≡◌ {A = ℕ} 0 1 = cc in omega (arith, n))))
  fixes-found Invalid n e f g = ap (λ (m : ℕ). flat_map (λ k. part_fixes z x (Block k)) (range_with_len 0 m))
      (g (λ h. (let n : ◌≡◌ {A = ℕ} 0 1 = cc in omega (arith, n))))

  pub starts : (w : Words) (s : State) (n : ℕ) (e : Erasure) → w ≡ words_read z x → s ≡ state_of z w
      → (s ≡ Found → n ≡ (w.size + z.block - 1) / z.block) → ((s ≡ Found → ⊥) → n ≡ 0)
      → stages_of z e ≡ (if keeps z (zone_reading z x) then [] else signing z (zone_reading z x).state ++ erase_stages)
      → boot_stores z x ≡ left_at z x 0 0 n e HeaderPhase
  unfolding boot_stores boot_fixes boot_erasure then_stages
  starts w s n e ew es found none stages =
      let r : ZoneReading = zone_reading z x in
      let state : r.state ≡ s = reading_state z x ∙ ap (state_of z) (sym ew) ∙ sym es in
      let words : w ≡ r.words = ew ∙ sym (reading_words z x) in
      let fixes : boot_fixes z x ≡ part_left z x Header 0 ++ blocks_left z x 0 (range_with_len 0 n) =
      sym (ap₂ (λ (u v : List Store). u ++ v) (left-whole z x Header) (blocks-whole z x (range_with_len 0 n)
      ∙ fixes-found r.state n refl
      (λ f. found (sym state ∙ f) ∙ ap (λ (v : Words). (v.size + z.block - 1) / z.block) words)
      (λ f. none (λ h. f (state ∙ h))))) in
      ap (λ (gs : List Stage). boot_fixes z x ++ stores_in_turn z gs (after_stores x (boot_fixes z x))) (sym stages)
      ∙ ap (λ (l : List Store). l ++ stores_in_turn z (stages_of z e) (after_stores x l)) fixes

  -- the stages of an erasure, by what was found
  pub stages-by : (s : State) (k : Bool) (e : Erasure) → s ≡ (zone_reading z x).state → k ≡ keeps z (zone_reading z x)
      → stages_of z e ≡ (if k then [] else signing z s ++ erase_stages) → stages_of z e
      ≡ (if keeps z (zone_reading z x) then [] else signing z (zone_reading z x).state ++ erase_stages)
  stages-by s k e es ek is = is ∙ ap₂ (λ (b : Bool) (t : State). if b then [] else signing z t ++ erase_stages) ek es

  -- without corrections the erasure is all
  pub starts-clean : (e : Erasure) → boot_fixes z x ≡ []
      → stages_of z e ≡ (if keeps z (zone_reading z x) then [] else signing z (zone_reading z x).state ++ erase_stages)
      → boot_stores z x ≡ left_at z x 0 0 0 e Blocks
  unfolding boot_stores boot_erasure then_stages
  starts-clean e none stages =
      ap (λ (gs : List Stage). boot_fixes z x ++ stores_in_turn z gs (after_stores x (boot_fixes z x))) (sym stages)
      ∙ ap (λ (l : List Store). l ++ stores_in_turn z (stages_of z e) (after_stores x l))
      (none ∙ sym (blocks-none z x 0 0 0 (omega arith)))

-- a zone that is signed is erased without a signature
pub erased-other : (z : Zone) (s : State) → (s ≡ Unsigned → ⊥) → erase_stages ≡ signing z s ++ erase_stages
erased-other z Unsigned h = absurd (h refl)
erased-other z Empty h = refl
erased-other z Invalid h = refl
erased-other z Found h = refl

-- ---- the header's bytes

header-bytes : (order : ByteOrder) (bs : List ℕ) → length bs ≡ 12 → AreBytes bs
    → word_bytes order (words_in order bs).sig ++ word_bytes order (words_in order bs).start ++ word_bytes order (words_in order bs).size
    ≡ bs
header-bytes order bs h k =
    let long : (a : ℕ) → a + 4 ≤ 12 → length (slice_range bs a (a + 4)) ≡ 4 =
    λ a l. omega (arith, length-take ((a + 4) - a) (drop a bs), length-drop a bs) in
    let e0 : word_bytes order (words_in order bs).sig ≡ slice_range bs 0 4 =
    word_bytes-word_of order (slice_range bs 0 4) (long 0 (omega arith)) (slice_range-bytes bs 0 4 k) in
    let e1 : word_bytes order (words_in order bs).start ≡ slice_range bs 4 8 =
    word_bytes-word_of order (slice_range bs 4 8) (long 4 (omega arith)) (slice_range-bytes bs 4 8 k) in
    let e2 : word_bytes order (words_in order bs).size ≡ slice_range bs 8 12 =
    word_bytes-word_of order (slice_range bs 8 12) (long 8 (omega arith)) (slice_range-bytes bs 8 12 k) in
    ap₂ (λ (a b : List ℕ). a ++ b) (ap₂ (λ (a b : List ℕ). a ++ b) e0 e1) e2 ∙ append-slice_range_thirds bs h

-- the words of a header, as bytes, are those that it reads
pub header-reads : (z : Zone) (x : List ℕ) (w : Words) (out : List ℕ) → IsValidZone z → length x ≡ z.size → AreBytes x
    → w ≡ words_read z x → out ≡ word_bytes z.byte_order w.sig ++ word_bytes z.byte_order w.start ++ word_bytes z.byte_order w.size
    → (out ≡ (part_reading z x Header).bytes) × (length out ≡ 12)
header-reads z x w out valid size bytes ew e =
    let r = length-reading z x Header bytes in
    let twelve : length (part_reading z x Header).bytes ≡ 12 = r.0 ∙ header-length z x valid size in
    let is : out ≡ (part_reading z x Header).bytes =
    e ∙ ap (λ (v : Words). word_bytes z.byte_order v.sig ++ word_bytes z.byte_order v.start ++ word_bytes z.byte_order v.size) ew
    ∙ header-bytes z.byte_order (part_reading z x Header).bytes twelve r.1 in
    (is, ap length is ∙ twelve)
