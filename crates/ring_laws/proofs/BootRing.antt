-- A boot leaves each zone in ring form for what it kept, at every parity
use Rattle.std.proofs.Common.{◌≡◌, ℕ, ◌+◌, ◌*◌, ◌/◌, ◌%◌, ◌<◌, ◌≤◌, Bool, true, false, cond, not, ◌&&◌, ◌==◌, List, []}
use Rattle.std.proofs.Common.{◌∷◌, ◌++◌, take, map, get_or, refl, sym, ap, ◌∙◌, subst, arith, inl, inr, w32, eq-eqb}
use Rattle.std.proofs.Common.{true≢false, ◌||◌}
use Rattle.std.specs.List.{AllByRecursion}
use Rattle.std.proofs.lemmas.Bool.Decides.{nat_tests}
use Rattle.std.proofs.lemmas.Bool.{cases_eq}
use Rattle.std.proofs.lemmas.List.{length-map}
use Rattle.list_laws.proofs.Elements.{AllByRecursion-append}
use Rattle.zone_spec.specs.declared.Zone.{Zone}
use Rattle.zone_spec.specs.declared.Words.{Words}
use Rattle.zone_spec.specs.declared.Kind.{Kind}
use Rattle.zone_spec.specs.declared.Kind.TheVariants.{Dump, Console, Ftrace, Pmsg}
use Rattle.zone_spec.specs.declared.State.{State}
use Rattle.zone_spec.specs.declared.State.TheVariants.{Unsigned, Empty, Invalid, Found}
use Rattle.zone_spec.specs.Zones.{IsValidZone}
use Rattle.zone_spec.specs.Parts.{Part, Header, Block, part_bytes, words_in, standing_words, IsImage}
use Rattle.zone_spec.specs.PartReadings.{part_reading, words_read}
use Rattle.zone_spec.specs.Reading.{IsRing, log_places, log_read, byte_read, state_of, reading_in, zone_reading}
use Rattle.zone_spec.specs.Reading.{ZoneReading}
use Rattle.zone_spec.specs.Stores.{put, after_stores}
use Rattle.zone_spec.specs.Stages.{Stage, SigWord, stage_stores, stores_in_turn}
use Rattle.zone_spec.specs.Calls.{erase_stages}
use Rattle.zone_spec.specs.Ring.{IsRingForm, ReadsAsStands, IsOpenUnlessDump}
use Rattle.zone_spec.specs.Boot.{is_kept, keeps, boot_fixes, signing, boot_erasure, boot_stores, told_by_boot}
use Rattle.ring_laws.proofs.Images.{length-put, put-inside, length-after_stores, after_stores-append}
use Rattle.ring_laws.proofs.RingBytes.{length-log_places}
use Rattle.ring_laws.proofs.AppendLaw.{all_stages, after_stores-stores_in_turn, word_of-stored}
use Rattle.ring_laws.proofs.PartsLaw.{block_some, put-bytes}
use Rattle.ring_laws.proofs.EveryParity.{word-bytes}
use Rattle.ring_laws.proofs.CallLaw.{erase_law, ring_none}
use Rattle.ring_laws.proofs.StoreBytes.{IsStore, HasBytes, all-take, after-bytes, stores_in_turn-all}
use Rattle.ring_laws.proofs.ReadingLaw.{byte_read-stands}
use Rattle.ring_laws.proofs.States.{Says, state_says, state_in_reading, reading_is, log_same}
use Rattle.ring_laws.proofs.BootLaw.{IsRead, booted_bytes, booted_image, booted_mended, stands_as_read, read_stands}
use Rattle.ring_laws.proofs.BootLaw.{boot_fixes-all, fixes-stores}
use Rattle.zone_spec.specs.WordBytes.{word_bytes}

never : (b : Bool) → (b && false) ≡ true → ⊥
never true e = true≢false (sym e)
never false e = true≢false (sym e)

ftrace_open : (s n cap : ℕ) → s ≤ n → n ≤ cap → ((s == n || n == cap) && not (s == cap)) ≡ true
    → (s < cap) × (n < cap → s ≡ n)
ftrace_open s n cap h k e = elim (cases_eq s cap) [
  | inl a ↦ (let f : (s == cap) ≡ true = eq-eqb s cap a in
      let g : ((s == n || n == cap) && false) ≡ true = (rw f at e) in absurd (never _ g))
  | inr b ↦ (
    omega arith,
    λ l. elim (cases_eq s n) [
      | inl c ↦ c
      | inr d ↦ (let f : (s == n) ≡ false = grind (arith, nat_tests) in
          let g : (n == cap) ≡ false = grind (arith, nat_tests) in
          let m : (false && not (s == cap)) ≡ true = (rw (f, g) at e) in absurd (true≢false (sym m)))
    ],
  )
]

-- a zone that is kept is one that can be appended to
kept_open : (z : Zone) (r : ZoneReading) (kind : Kind) → r.words.start ≤ r.words.size → r.words.size ≤ z.cap
    → is_kept z r kind ≡ true → IsOpenUnlessDump kind r.words z.cap
kept_open z r Dump h k e = tt
kept_open z r Console h k e = absurd (true≢false (sym e))
kept_open z r Pmsg h k e = absurd (true≢false (sym e))
kept_open z r Ftrace h k e = ftrace_open r.words.start r.words.size z.cap h k e

no_stage : (z : Zone) (image : List ℕ) → all_stages z [] image ≡ image
unfolding all_stages
no_stage z image = refl

sig_stage : (z : Zone) (image : List ℕ) → all_stages z (SigWord z.sig ∷ erase_stages) image
    ≡ all_stages z erase_stages (put image 0 (word_bytes z.byte_order z.sig))
unfolding all_stages stage_stores after_stores
sig_stage z image = refl

-- the stages of a boot's erasure, and what it takes the zone to have been told, by its reading
erasure_by : Zone → ZoneReading → List Stage
erasure_by z r = cond (keeps z r) [] (signing z r.state ++ erase_stages)

told_by : Zone → ZoneReading → List ℕ
told_by z r = cond (keeps z r) r.log []

module _ (z : Zone) (valid : IsValidZone z) (image : List ℕ) (im : IsImage z image) where
  x : List ℕ
  x = booted_bytes z valid image im

  x_image : IsImage z x
  unfolding x
  x_image = booted_image z valid image im

  -- the words that then stand are those that were read
  x_words : standing_words z x ≡ words_read z image
  unfolding x part_bytes
  x_words = ap (words_in z.byte_order) (stands_as_read z valid image im Header tt)

  x_header : ReadsAsStands z x Header
  unfolding x
  x_header = read_stands z valid image im Header tt

  x_reads : (part : Part) → (part_reading z x part).bytes ≡ (part_reading z image part).bytes
  unfolding x
  x_reads part = (booted_mended z valid image im part).reading

  signed_stage : (standing_words z (put x 0 (word_bytes z.byte_order z.sig))).sig ≡ z.sig
  signed_stage = word_of-stored z.byte_order (put x 0 (word_bytes z.byte_order z.sig)) 0 z.sig (omega arith) valid.word
      (λ i k. put-inside x 0 i (word_bytes z.byte_order z.sig) (omega (arith, valid.at_least, x_image.0)) k)

  sig_known : (standing_words z x).sig ≡ z.sig → IsRingForm z (all_stages z erase_stages x) []
  sig_known e = erase_law z valid x x_image.0 x_image.1 e

  -- by the state that was read
  boot_by : (s : State) → Says z (words_read z image) s
      → ((part : Part) → IsRead z (reading_in z image (words_read z image) s) s part → ReadsAsStands z x part)
      → IsRingForm z (all_stages z (erasure_by z (reading_in z image (words_read z image) s)) x)
      (told_by z (reading_in z image (words_read z image) s))
  unfolding erasure_by told_by
  boot_by Unsigned says parts =
      subst (λ y. IsRingForm z y []) (sym (sig_stage z x))
      (erase_law z valid (put x 0 (word_bytes z.byte_order z.sig)) (length-put x 0 (word_bytes z.byte_order z.sig) ∙ x_image.0)
      (put-bytes x 0 _ x_image.1 (word-bytes z.byte_order z.sig)) signed_stage)
  boot_by Empty says parts =
      subst (λ y. IsRingForm z y []) (sym (no_stage z x))
      (ring_none z x (omega (arith, valid.room)) (ap (λ w. w.sig) x_words ∙ says.0)
      (ap (λ w. w.start) x_words ∙ says.2) (ap (λ w. w.size) x_words ∙ says.1) x_header)
  boot_by Invalid says parts = sig_known (ap (λ w. w.sig) x_words ∙ says)
  boot_by Found says parts = by (is_kept z r z.name.kind) refl
    where
      w : Words
      w = words_read z image

      r : ZoneReading
      r = reading_in z image (words_read z image) Found

      by : (b : Bool) → is_kept z r z.name.kind ≡ b → IsRingForm z (all_stages z (cond b [] erase_stages) x)
          (cond b (log_read z image w) [])
      by false e = sig_known (ap (λ w. w.sig) x_words ∙ says.0)
      by true e = subst (λ y. IsRingForm z y (log_read z image w)) (sym (no_stage z x)) (record {
        ring = subst (λ v. IsRing v z.cap) (sym x_words) (says.2, says.1);
        signed = ap (λ w. w.sig) x_words ∙ says.0;
        told_length = ap (λ w. w.size) x_words ∙ sym (length-map (log_places w.start w.size)
            (λ place. byte_read z image place) ∙ length-log_places w.start w.size says.2);
        bytes = ap (λ v. map (λ p. get_or x (12 + p) 0) (log_places v.start v.size)) x_words
            ∙ log_same _ _ w.start w.size says.2 (λ p h.
            sym (byte_read-stands z x p (block_some z valid) (omega (arith, says.1))
            (parts (Block (p / z.block)) (let m : z.block * (p / z.block)
            ≤ p = omega (arith, block_some z valid) in omega arith)))
            ∙ ap (λ xs. get_or xs (p % z.block) 0) (x_reads (Block (p / z.block))));
        is_open = subst (λ v. IsOpenUnlessDump z.name.kind v z.cap) (sym x_words)
            (kept_open z r z.name.kind says.2 says.1 e);
        header = x_header;
        blocks = λ b h. parts (Block b) (let n : (standing_words z x).size ≡ w.size = ap (λ w. w.size) x_words in
            omega (arith, n));
      })

  after_boot : after_stores image (boot_stores z image) ≡ all_stages z (erasure_by z (zone_reading z image)) x
  unfolding boot_stores boot_erasure x booted_bytes erasure_by
  after_boot =
      after_stores-append image (boot_fixes z image) (stores_in_turn z (boot_erasure z image)
      (after_stores image (boot_fixes z image)))
      ∙ after_stores-stores_in_turn z (boot_erasure z image) (after_stores image (boot_fixes z image))

  -- each zone is in ring form for what the boot kept
  pub boot_keeps : IsRingForm z (after_stores image (boot_stores z image)) (told_by_boot z image)
  unfolding told_by x
  boot_keeps =
      subst (λ y. IsRingForm z y (told_by z (zone_reading z image))) (sym after_boot)
      (subst (λ r. IsRingForm z (all_stages z (erasure_by z r) x) (told_by z r)) (sym (reading_is z image))
      (boot_by (state_of z (words_read z image)) (state_says z (words_read z image))
      (λ part h. read_stands z valid image im part (moved part h))))
    where
      moved : (part : Part) → IsRead z (reading_in z image (words_read z image) (state_of z (words_read z image)))
          (state_of z (words_read z image)) part → IsRead z (zone_reading z image) (zone_reading z image).state part
      moved part h =
          subst (λ r. IsRead z r r.state part) (sym (reading_is z image))
          (subst (λ s. IsRead z (reading_in z image (words_read z image) (state_of z (words_read z image))) s part)
          (sym (state_in_reading z image (words_read z image) (state_of z (words_read z image)))) h)

  erasure-all : (r : ZoneReading) → AllByRecursion HasBytes (erasure_by z r)
  unfolding erasure_by
  erasure-all r = by (keeps z r) r.state
    where
      by : (b : Bool) (s : State) → AllByRecursion HasBytes (cond b [] (signing z s ++ erase_stages))
      by true s = tt
      by false Unsigned = (tt, (tt, (tt, (tt, tt))))
      by false Empty = (tt, (tt, (tt, tt)))
      by false Invalid = (tt, (tt, (tt, tt)))
      by false Found = (tt, (tt, (tt, tt)))

  pub boot_stores-all : AllByRecursion IsStore (boot_stores z image)
  unfolding boot_stores boot_erasure x booted_bytes erasure_by
  boot_stores-all =
      AllByRecursion-append IsStore (boot_fixes z image) _ (fixes-stores z valid image im (boot_fixes z image)
      (boot_fixes-all z valid image im))
      (stores_in_turn-all z valid (boot_erasure z image) (after_stores image (boot_fixes z image)) x_image.1
      (erasure-all (zone_reading z image)))

  -- the image after any of its stores
  pub boot_image : (k : ℕ) → IsImage z (after_stores image (take k (boot_stores z image)))
  boot_image k = (
    length-after_stores image (take k (boot_stores z image)) ∙ im.0,
    after-bytes image (take k (boot_stores z image)) im.1 (all-take IsStore k (boot_stores z image) boot_stores-all),
  )

  pub boot_image_all : IsImage z (after_stores image (boot_stores z image))
  boot_image_all = (
    length-after_stores image (boot_stores z image)
        ∙ im.0,
    after-bytes image (boot_stores z image) im.1 boot_stores-all,
  )
