-- What a zone reads whose erasure by a boot was cut
use Rattle.std.proofs.Common.{◌≡◌, ◌≢◌, ℕ, zero, suc, ◌-◌, ◌*◌, ◌/◌, ◌%◌, ◌<◌, ◌≤◌, Bool, true, false, cond, ◌&&◌, ◌==◌}
use Rattle.std.proofs.Common.{List, [], ◌∷◌, ◌++◌, length, take, map, flat_map, get_or, refl, sym, ap, ap₂, ◌∙◌, subst}
use Rattle.std.proofs.Common.{arith, Option, Some, None, w32, append-nil, eqb-true}
use Rattle.std.specs.Prelude.{Contains}
use Rattle.std.specs.List.{AllByRecursion, range_with_len, position}
use Rattle.std.proofs.lemmas.List.Quantifiers.{position-Some}
use Rattle.std.proofs.lemmas.Bool.{and_parts}
use Rattle.list_laws.proofs.Elements.{take-append_past}
use Rattle.zone_spec.specs.declared.Zone.{Zone}
use Rattle.zone_spec.specs.declared.Words.{Words}
use Rattle.zone_spec.specs.declared.Pair.{Pair}
use Rattle.zone_spec.specs.declared.HeaderSeen.TheVariants.{Pair as SeenPair, Foreign}
use Rattle.zone_spec.specs.declared.State.{State}
use Rattle.zone_spec.specs.declared.State.TheVariants.{Unsigned, Empty, Invalid, Found}
use Rattle.zone_spec.specs.Zones.{IsValidZone}
use Rattle.zone_spec.specs.Parts.{Part, Header, Block, part_word, standing_words, IsImage}
use Rattle.zone_spec.specs.PartReadings.{part_reading, words_read}
use Rattle.zone_spec.specs.Reading.{ZoneReading, byte_read, log_places, state_of, zone_reading}
use Rattle.zone_spec.specs.Stores.{put, after_stores}
use Rattle.zone_spec.specs.Stages.{Stage, stage_stores, stores_in_turn}
use Rattle.zone_spec.specs.Calls.{erase_stages}
use Rattle.zone_spec.specs.Boot.{boot_fixes, boot_erasure, boot_stores, signing}
use Rattle.zone_spec.specs.Pairs.{pairs_from, seen_at, header_seen, pair_of}
use Rattle.zone_spec.specs.Cut.{cut_parts, cut_stages, cut_pairs}
use Rattle.zone_spec.specs.Windows.{words_after}
use Rattle.machine_spec.specs.BootPart.{boot_cut}
use Rattle.damage_laws.specs.CutErasures.{BootCutZoneReads, BootCutReads, after_boot_stores}
use Rattle.zone_spec.specs.Damage.{BlocksWithinBounds}
use Rattle.ring_laws.proofs.Images.{length-put, after_stores-append}
use Rattle.ring_laws.proofs.PartsLaw.{block_some, SamePart, put-bytes}
use Rattle.ring_laws.proofs.EveryParity.{block_has, word-bytes}
use Rattle.ring_laws.proofs.ReadingLaw.{state_of-ring}
use Rattle.ring_laws.proofs.States.{Says, state_says, reading_is, reading_state, reading_words, log_same, range_same}
use Rattle.ring_laws.proofs.BootLaw.{booted_bytes, booted_image, booted_mended, read_stands}
use Rattle.ring_laws.proofs.BootRing.{boot_image}
use Rattle.damage_laws.proofs.Within.{part_reads, same_word, log_by}
use Rattle.damage_laws.proofs.Erasures.{erases as erasure_is, corrected_words, erasure_words, erasure_parts}
use Rattle.damage_laws.proofs.UntouchedBlocks.{LeavesBlock, stages_leave, prefix_leaves}
use Rattle.damage_laws.proofs.TouchedBlocks.{parity_length}
use Rattle.damage_laws.proofs.CutHeader.{IsSmall, IsUnsigning, IsHeader, words_track, pairs_have, sig_kept, sig_put}
use Rattle.damage_laws.proofs.CutHeader.{is_header, header_reads}
use Rattle.zone_spec.specs.WordBytes.{word_bytes}

-- the words that a seen pair says
seen_pair : (z : Zone) (v : Words) (ps : List Pair) (j : ℕ) (d : Pair) → header_seen z v ps ≡ SeenPair j
    → (v.sig ≡ z.sig) × (v.start ≡ (get_or ps j d).start) × (v.size ≡ (get_or ps j d).size)
seen_pair z v ps j d e = by (v.sig == z.sig) refl e
  where
    test : Pair → Bool
    test p = (v.start == p.start) && (v.size == p.size)

    at : (o : Option ℕ) → position test ps ≡ o → seen_at o ≡ SeenPair j
        → (v.start ≡ (get_or ps j d).start) × (v.size ≡ (get_or ps j d).size)
    at None f e = (let n : Foreign ≡ SeenPair j = e in cc)
    at (Some i) f e =
        let same : i ≡ j = cc in
        let r = position-Some test ps i d f in
        let t = and_parts (v.start == (get_or ps i d).start) (v.size == (get_or ps i d).size) r.1 in
        subst (λ n. (v.start ≡ (get_or ps n d).start) × (v.size ≡ (get_or ps n d).size)) same
        (eqb-true v.start (get_or ps i d).start t.0, eqb-true v.size (get_or ps i d).size t.1)

    by : (b : Bool) → (v.sig == z.sig) ≡ b → cond b (seen_at (position test ps)) Foreign ≡ SeenPair j
        → (v.sig ≡ z.sig) × (v.start ≡ (get_or ps j d).start) × (v.size ≡ (get_or ps j d).size)
    by true f e = (let p = at (position test ps) refl e in (eqb-true v.sig z.sig f, p.0, p.1))
    by false f e = (let n : Foreign ≡ SeenPair j = e in cc)

-- the log of a zone whose header reads a ring
ring_log : (z : Zone) (x : List ℕ) → (words_read z x).sig ≡ z.sig → (words_read z x).start ≤ (words_read z x).size
    → (words_read z x).size ≤ z.cap
    → (zone_reading z x).log ≡ map (λ p. byte_read z x p) (log_places (words_read z x).start (words_read z x).size)
ring_log z x a b c =
    let w : Words = words_read z x in
    ap (λ (r : ZoneReading). r.log) (reading_is z x) ∙ (log_by z x w (state_of z w) w.size (state_of-ring z w a b c)
    refl b).0

module _ (z : Zone) (valid : IsValidZone z) (now : List ℕ) (im : IsImage z now) (k : ℕ)
    (after : length (boot_fixes z now) < k) (before : k < length (boot_stores z now)) where
  abbrev x : List ℕ
  x = after_stores now (boot_fixes z now)

  abbrev made : ℕ
  made = k - length (boot_fixes z now)

  abbrev reading : ZoneReading
  reading = zone_reading z now

  x_image : IsImage z x
  unfolding booted_bytes
  x_image = booted_image z valid now im

  x_words : standing_words z x ≡ words_read z now
  x_words = corrected_words z now valid im

  x_header : IsHeader z.byte_order z.parity (part_word z x Header)
  unfolding booted_bytes
  x_header = is_header z (booted_bytes z valid now im) valid (booted_image z valid now im)
      (read_stands z valid now im Header tt)

  x_reads : (part : Part) → (part_reading z x part).bytes ≡ (part_reading z now part).bytes
  unfolding booted_bytes
  x_reads part = (booted_mended z valid now im part).reading

  -- the boot erases the zone
  erases : boot_erasure z now ≡ signing z reading.state ++ erase_stages
  erases = erasure_is z now k (after, before)

  parts_are : cut_parts z (boot_cut z now k) ≡ boot_erasure z now ∷ []
  parts_are = erasure_parts z now k valid im (after, before)

  -- the image at the stop
  stop_is : after_boot_stores z now k ≡ after_stores x (take made (stores_in_turn z (boot_erasure z now) x))
  unfolding boot_stores
  stop_is =
      ap (after_stores now) (take-append_past k (boot_fixes z now) (stores_in_turn z (boot_erasure z now) x)
      (omega (arith, after)))
      ∙ after_stores-append now (boot_fixes z now) (take made (stores_in_turn z (boot_erasure z now) x))

  says : Says z (words_read z now) reading.state
  says = subst (Says z (words_read z now)) (sym (reading_state z now)) (state_says z (words_read z now))

  signed-small : (s : State) → AllByRecursion IsSmall (signing z s ++ erase_stages)
  signed-small Unsigned = (valid.word, (omega arith, (omega arith, (tt, tt))))
  signed-small Empty = (omega arith, (omega arith, (tt, tt)))
  signed-small Invalid = (omega arith, (omega arith, (tt, tt)))
  signed-small Found = (omega arith, (omega arith, (tt, tt)))

  erase_sig : (y : List ℕ) (m : ℕ) → IsImage z y → (standing_words z y).sig ≡ z.sig
      → (standing_words z (after_stores y (take m (stores_in_turn z erase_stages y)))).sig ≡ z.sig
  erase_sig y m hy e =
      let t = words_track z erase_stages y m (omega (arith, hy.0, valid.at_least))
      (omega arith, (omega arith, (tt, tt))) in
      ap (λ w. w.sig) t.3 ∙ sig_kept (standing_words z y) t.0 t.1
      (subst (AllByRecursion IsUnsigning) t.2 (tt, (tt, (tt, tt)))) ∙ e

  sig_by : (s : State) → Says z (words_read z now) s → (m : ℕ) → 0 < m
      → (standing_words z (after_stores x (take m (stores_in_turn z (signing z s ++ erase_stages) x)))).sig ≡ z.sig
  unfolding stores_in_turn stage_stores after_stores
  sig_by Unsigned h zero l = absurd (omega arith)
  sig_by Unsigned h (suc m) l =
      erase_sig (put x 0 (word_bytes z.byte_order z.sig)) m (
        length-put x 0 (word_bytes z.byte_order z.sig)
            ∙ x_image.0,
        put-bytes x 0 (word_bytes z.byte_order z.sig) x_image.1 (word-bytes z.byte_order z.sig),
      )
      (ap (λ w. w.sig) (sig_put z x z.sig (omega (arith, x_image.0, valid.at_least)) valid.word))
  sig_by Empty h m l = erase_sig x m x_image (ap (λ w. w.sig) x_words ∙ h.0)
  sig_by Invalid h m l = erase_sig x m x_image (ap (λ w. w.sig) x_words ∙ h)
  sig_by Found h m l = erase_sig x m x_image (ap (λ w. w.sig) x_words ∙ h.0)

  abbrev stop : List ℕ
  stop = after_boot_stores z now k

  pairs_are : cut_pairs z (boot_cut z now k) ≡ pairs_from (pair_of (words_read z now))
      (signing z reading.state ++ erase_stages)
  pairs_are =
      ap (λ w. pairs_from (pair_of w) (cut_stages z (boot_cut z now k))) (erasure_words z now k valid im)
      ∙ ap (λ parts. pairs_from (pair_of (words_read z now)) (flat_map (λ part. part) parts)) parts_are
      ∙ ap (pairs_from (pair_of (words_read z now))) (append-nil (boot_erasure z now) ∙ erases)

  stood : ((standing_words z stop).sig ≡ z.sig) × Contains (cut_pairs z (boot_cut z now k))
      (pair_of (standing_words z stop))
  stood =
      let gs : List Stage = signing z reading.state ++ erase_stages in
      let at : stop ≡ after_stores x (take made (stores_in_turn z gs x)) =
      stop_is ∙ ap (λ es. after_stores x (take made (stores_in_turn z es x))) erases in
      let t = words_track z gs x made (omega (arith, x_image.0, valid.at_least)) (signed-small reading.state) in
      let is : standing_words z stop ≡ words_after (words_read z now) t.0 =
      ap (standing_words z) at ∙ t.3 ∙ ap (λ w. words_after w t.0) x_words in (
        ap (λ y. (standing_words z y).sig) at ∙ sig_by reading.state says made (omega (arith, after)),
        subst (λ ps. Contains ps (pair_of (standing_words z stop))) (sym pairs_are)
            (subst (λ v. Contains (pairs_from (pair_of (words_read z now)) gs) (pair_of v)) (sym is)
            (subst (λ hs. Contains (pairs_from (pair_of (words_read z now)) hs)
            (pair_of (words_after (words_read z now) t.0))) (sym t.2) (pairs_have (words_read z now) t.0 t.1))),
      )

  -- blocks are left
  block_left : (b : ℕ) → b < z.blocks → SamePart z stop x (Block b)
  block_left b l =
      subst (λ y. SamePart z y x (Block b)) (sym (stop_is
      ∙ ap (λ es. after_stores x (take made (stores_in_turn z es x))) erases))
      (prefix_leaves z b (omega (arith, valid.room)) (parity_length z.parity) made
      (stores_in_turn z (signing z reading.state ++ erase_stages) x) x
      (stages_leave z b (omega (arith, valid.room)) (parity_length z.parity) (signing z reading.state ++ erase_stages)
      x (by reading.state)))
    where
      ne : z.blocks ≢ b
      ne e = omega (arith, e, l)

      by : (s : State) → AllByRecursion (LeavesBlock z b) (signing z s ++ erase_stages)
      by Unsigned = (tt, (tt, (tt, (ne, tt))))
      by Empty = (tt, (tt, (ne, tt)))
      by Invalid = (tt, (tt, (ne, tt)))
      by Found = (tt, (tt, (ne, tt)))

  module _ (later : List ℕ) (hl : IsImage z later) where
    stop_image : IsImage z stop
    stop_image = boot_image z valid now im k

    reads_as_now : BlocksWithinBounds z stop later (words_read z now).size → (words_read z now).size ≤ z.cap → (p : ℕ)
        → p < (words_read z now).size → byte_read z later p ≡ byte_read z now p
    reads_as_now within room p l =
        let q : ℕ = p / z.block in
        let m : z.block * q ≤ p = omega (arith, block_some z valid) in
        ap (λ xs. get_or xs (p % z.block) 0)
        (part_reads z stop later (Block q) valid stop_image hl (within q (omega arith))
        ∙ same_word z x stop (Block q) (stop_image.0 ∙ sym x_image.0)
        (block_left q (block_has z valid q (omega arith))).word
        ∙ x_reads (Block q))

    log_as : reading.state ≡ Found → BlocksWithinBounds z stop later (words_read z now).size
        → (header_seen z (words_read z later) (cut_pairs z (boot_cut z now k)) ≡ SeenPair 0
        → (zone_reading z later).log ≡ reading.log)
        × (header_seen z (words_read z later) (cut_pairs z (boot_cut z now k)) ≡ SeenPair 1
        → (zone_reading z later).log ≡ map (λ place. byte_read z now place)
        (range_with_len 0 (words_read z now).size))
        × (header_seen z (words_read z later) (cut_pairs z (boot_cut z now k)) ≡ SeenPair 2
        → (zone_reading z later).log ≡ [])
    unfolding pairs_from
    log_as found within =
        let w : Words = words_read z now in
        let v : Words = words_read z later in
        let d : Pair = record { start = 0; size = 0 } in
        let own = subst (Says z w) found says in
        let pairs : cut_pairs z (boot_cut z now k) ≡ record { start = w.start; size = w.size }
        ∷ record { start = 0; size = w.size } ∷ record { start = 0; size = 0 } ∷ [] =
        pairs_are ∙ ap (λ s. pairs_from (pair_of w) (signing z s ++ erase_stages)) found in
        let words : (j : ℕ) → header_seen z v (cut_pairs z (boot_cut z now k)) ≡ SeenPair j
        → (v.sig ≡ z.sig) × (v.start ≡ (get_or (record { start = w.start; size = w.size }
        ∷ record { start = 0; size = w.size } ∷ record { start = 0; size = 0 } ∷ []) j d).start)
        × (v.size ≡ (get_or (record { start = w.start; size = w.size } ∷ record { start = 0; size = w.size }
        ∷ record { start = 0; size = 0 } ∷ []) j d).size) =
        (λ j e. seen_pair z v (record { start = w.start; size = w.size } ∷ record { start = 0; size = w.size }
        ∷ record { start = 0; size = 0 } ∷ []) j d (ap (header_seen z v) (sym pairs) ∙ e)) in (
          (λ e.
              let a = words 0 e in
              ring_log z later a.0 (omega (arith, a.1, a.2, own.2)) (omega (arith, a.2, own.1))
              ∙ ap₂ (λ s n. map (λ p. byte_read z later p) (log_places s n)) a.1 a.2
              ∙ log_same _ _ w.start w.size own.2 (λ p l. reads_as_now within own.1 p l)
              ∙ sym (ring_log z now own.0 own.2 own.1)),
          (λ e.
              let a = words 1 e in
              ring_log z later a.0 (omega (arith, a.1, a.2)) (omega (arith, a.2, own.1))
              ∙ ap₂ (λ s n. map (λ p. byte_read z later p) (log_places s n)) a.1 a.2
              ∙ ap (map (λ p. byte_read z later p)) (append-nil (range_with_len 0 (w.size - 0))
              ∙ ap (range_with_len 0) (let m : w.size - 0 ≡ w.size = omega arith in m))
              ∙ range_same _ _ w.size 0 (λ p l m. reads_as_now within own.1 p (omega arith))),
          (λ e.
              let a = words 2 e in
              ring_log z later a.0 (omega (arith, a.1, a.2)) (omega (arith, a.2))
              ∙ ap₂ (λ s n. map (λ p. byte_read z later p) (log_places s n)) a.1 a.2),
        )

    cut_reads : BootCutReads z now stop later (boot_cut z now k)
    cut_reads = record {
      before = erasure_words z now k valid im ∙ sym (reading_words z now);
      header = λ damage. header_reads z (boot_cut z now k) stop later valid stop_image hl x_header
          (subst (AllByRecursion (λ gs. AllByRecursion IsSmall gs)) (sym parts_are)
          (subst (AllByRecursion IsSmall) (sym erases) (signed-small reading.state), tt)) stood damage;
      log = λ found within. log_as found within;
    }

pub boot_cut_zone_reads : BootCutZoneReads
boot_cut_zone_reads z now later k valid im hl within = cut_reads z valid now im k within.0 within.1 later hl
