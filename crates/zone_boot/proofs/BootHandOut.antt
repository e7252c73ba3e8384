-- What is handed out, against the stores of the boot
use Rattle.std.proofs.Common.{◌≡◌, ℕ, ◌+◌, ◌<◌, ◌≤◌, List, [], ◌∷◌, ◌++◌, length, take, drop, refl, sym, ap, ◌∙◌, subst}
use Rattle.std.proofs.Common.{arith, append_assoc, take_all, length-append}
use Rattle.std.specs.List.{AllByRecursion}
use Rattle.std.proofs.lemmas.List.Sums.{sum_by-cons}
use Rattle.std.proofs.Math.Seq.{drop-append_seam, take-append_seam}
use Rattle.code_spec.specs.Code.{parity_of}
use Rattle.zone_spec.specs.declared.Zone.{Zone}
use Rattle.code_laws.proofs.Laws.{parity_made}
use Rattle.ring_laws.proofs.PartsLaw.{slice_range-bytes}
use Rattle.ring_laws.proofs.PartWords.{bytes-all}
use Rattle.zone_spec.specs.Parts.{AreBytes, Header, part_bytes, part_parity_at}
use Rattle.zone_spec.specs.Stores.{Store, after_stores, byte_stores, word_store}
use Rattle.zone_spec.specs.Zones.{IsValidZone}
use Rattle.zone_spec.specs.Stages.{SigWord, StartWord, SizeWord, ParityOf, stage_count, stores_in_turn, stage_stores}
use Rattle.zone_spec.specs.Calls.{erase_stages}
use Rattle.ring_laws.proofs.EveryParity.{word-bytes}
use Rattle.ring_laws.proofs.StoreBytes.{IsStore, stage_stores-all}
use Rattle.zone_boot.proofs.StoreCounts.{erasure-count}
use Rattle.zone_spec.specs.Boot.{boot_stores}
use Rattle.ring_laws.proofs.Images.{after_stores-append}
use Rattle.zone_boot.specs.declared.boots.Boot.{Boot}
use Rattle.zone_boot.specs.declared.boots.Phase.{Phase}
use Rattle.zone_boot.specs.declared.boots.Phase.TheVariants.{Header as HeaderPhase, Blocks, Signature, Start, Size}
use Rattle.zone_boot.specs.declared.boots.Phase.TheVariants.{Parity, Finished}
use Rattle.zone_boot.specs.declared.deciding.Erasure.{Erasure}
use Rattle.zone_boot.specs.declared.handing.BootStore.{BootStore}
use Rattle.zone_boot.specs.declared.handing.Given.TheVariants.{Nothing}
use Rattle.zone_boot.specs.Handed.{handed, handed_len, IsPlain}
use Rattle.zone_boot.specs.Left.{left_at, then_stages}
use Rattle.zone_boot.specs.Booting.{left_of, IsKept, IsBooting, Gives}

no-length : (ss : List Store) → length ss ≡ 0 → ss ≡ []
no-length [] h = refl
no-length (s ∷ ss) h = absurd (omega (arith, h))

no-front : (ss ts : List Store) → ss ++ ts ≡ [] → ss ≡ []
no-front ss ts h = no-length ss (omega (arith, ap length h, length-append ss ts))

-- ---- in each phase of an erasure
module _ (z : Zone) (x : List ℕ) (b w n : ℕ) (e : Erasure) where
  pub left-signature : left_at z x b w n e Signature
      ≡ word_store z.byte_order 0 z.sig ++ left_at z (after_stores x (word_store z.byte_order 0 z.sig)) b w n e Start
  unfolding then_stages stores_in_turn stage_stores after_stores
  left-signature = refl

  pub left-start : left_at z x b w n e Start
      ≡ word_store z.byte_order 4 0 ++ left_at z (after_stores x (word_store z.byte_order 4 0)) b w n e Size
  unfolding then_stages stores_in_turn stage_stores after_stores
  left-start = refl

  pub left-size : left_at z x b w n e Size
      ≡ word_store z.byte_order 8 0 ++ left_at z (after_stores x (word_store z.byte_order 8 0)) b w n e Parity
  unfolding then_stages stores_in_turn stage_stores after_stores
  left-size = refl

  pub left-parity : (given : List Store)
      → given ≡ byte_stores (part_parity_at z Header) (parity_of z.parity (part_bytes z x Header))
      → left_at z x b w n e Parity ≡ given ++ left_at z (after_stores x given) b w n e Finished
  unfolding then_stages stores_in_turn stage_stores after_stores
  left-parity given h = ap (λ (l : List Store). l ++ []) (sym h)

  pub parity-none : (given : List Store)
      → given ≡ byte_stores (part_parity_at z Header) (parity_of z.parity (part_bytes z x Header)) → given ≡ []
      → left_at z x b w n e Parity ≡ []
  unfolding then_stages stores_in_turn stage_stores after_stores
  parity-none given h none = ap (λ (l : List Store). l ++ []) (sym h ∙ none)

  pub left-finished : (p : Phase) → (p ≡ HeaderPhase → ⊥) → (p ≡ Blocks → ⊥) → (p ≡ Signature → ⊥)
      → (p ≡ Start → ⊥) → (p ≡ Size → ⊥) → (p ≡ Parity → ⊥) → left_at z x b w n e p ≡ []
  unfolding then_stages stores_in_turn after_stores
  left-finished HeaderPhase h1 h2 h3 h4 h5 h6 = absurd (h1 refl)
  left-finished Blocks h1 h2 h3 h4 h5 h6 = absurd (h2 refl)
  left-finished Signature h1 h2 h3 h4 h5 h6 = absurd (h3 refl)
  left-finished Start h1 h2 h3 h4 h5 h6 = absurd (h4 refl)
  left-finished Size h1 h2 h3 h4 h5 h6 = absurd (h5 refl)
  left-finished Parity h1 h2 h3 h4 h5 h6 = absurd (h6 refl)
  left-finished Finished h1 h2 h3 h4 h5 h6 = refl

  -- an old phase
  pub left-in : (p q : Phase) → p ≡ q → left_at z x b w n e p ≡ left_at z x b w n e q
  left-in p q h = ap (λ (r : Phase). left_at z x b w n e r) h

-- the header's parity has as many bytes as the zone's parts
pub parity-long : (z : Zone) (x : List ℕ) → AreBytes x → length (parity_of z.parity (part_bytes z x Header)) ≡ z.parity
unfolding part_bytes
parity-long z x h = (parity_made z.parity (part_bytes z x Header)
    (refl, bytes-all _ (slice_range-bytes x 0 (0 + 12) h))).0.0

-- ---- handing out, in each phase of an erasure
module _ (z : Zone) (valid : IsValidZone z) (x : List ℕ) (h : AreBytes x) (b w n : ℕ) (e : Erasure) where
  abbrev next-counts : Phase → Phase → List Store → Type 0
  next-counts p q given = (m : ℕ) → length (left_at z x b w n e p)
      ≡ length given + length (left_at z (after_stores x (take m given)) b w n e q)

  pub counts-signature : next-counts Signature Start (word_store z.byte_order 0 z.sig)
  counts-signature = erasure-count z valid x b w n e Signature Start h (word_store z.byte_order 0 z.sig) (word-bytes z.byte_order z.sig, tt) refl
      (λ y. refl) (sum_by-cons (stage_count z) (SigWord z.sig) erase_stages)

  pub counts-start : next-counts Start Size (word_store z.byte_order 4 0)
  counts-start = erasure-count z valid x b w n e Start Size h (word_store z.byte_order 4 0) (word-bytes z.byte_order 0, tt) refl (λ y. refl)
      (sum_by-cons (stage_count z) (StartWord 0) (SizeWord 0 ∷ ParityOf Header ∷ []))

  pub counts-size : next-counts Size Parity (word_store z.byte_order 8 0)
  counts-size = erasure-count z valid x b w n e Size Parity h (word_store z.byte_order 8 0) (word-bytes z.byte_order 0, tt) refl (λ y. refl)
      (sum_by-cons (stage_count z) (SizeWord 0) (ParityOf Header ∷ []))

  pub counts-parity : (given : List Store)
      → given ≡ byte_stores (part_parity_at z Header) (parity_of z.parity (part_bytes z x Header))
      → length given ≡ z.parity → next-counts Parity Finished given
  unfolding stage_stores
  counts-parity given is long = erasure-count z valid x b w n e Parity Finished h given
      (subst (λ (l : List Store). AllByRecursion IsStore l) (sym is) (stage_stores-all z valid (ParityOf Header) x h tt))
      refl (λ y. refl) (let s = sum_by-cons (stage_count z) (ParityOf Header) [] in omega (arith, s, long))

-- ---- handing out
module _ (old : Boot) (x : List ℕ) (new : Boot) (out : BootStore) where
  pub gives : (given : List Store) → handed out ≡ given
      → left_of old x ≡ given ++ left_of new (after_stores x given)
      → ((m : ℕ) → length (left_of old x) ≡ length given + length (left_of new (after_stores x (take m given))))
      → new.zone ≡ old.zone
      → new.made ≡ old.made + length given → IsKept new → out.place + handed_len out ≤ old.zone.size → IsPlain out
      → Gives old x new out
  gives given h left counts zone made kept inside plain = record {
    left = subst (λ (l : List Store). left_of old x ≡ l ++ left_of new (after_stores x l)) (sym h) left;
    counts = subst (λ (l : List Store). (m : ℕ) → length (left_of old x)
        ≡ length l + length (left_of new (after_stores x (take m l)))) (sym h) counts;
    zone = zone;
    made = made ∙ ap (λ (l : List Store). old.made + length l) (sym h);
    kept = kept;
    inside = inside;
    plain = plain;
  }

  -- nothing is handed out
  pub gives-nothing : handed out ≡ [] → left_of old x ≡ left_of new x → new.zone ≡ old.zone → new.made ≡ old.made
      → IsKept new → out.place + handed_len out ≤ old.zone.size → IsPlain out → Gives old x new out
  unfolding after_stores
  gives-nothing h left zone made kept inside plain = gives [] h left
      (λ m. let f : x ≡ after_stores x (take m []) = ap (λ (l : List Store). after_stores x l)
      (sym (take_all m [] (omega arith))) in
      let e : length (left_of new x) ≡ length (left_of new (after_stores x (take m []))) =
      ap (λ (y : List ℕ). length (left_of new y)) f in
      omega (arith, ap length left, e)) zone (omega (arith, made)) kept inside plain

  -- nothing was handed out
  pub gives-none : Gives old x new out → handed out ≡ [] → left_of old x ≡ left_of new x
  unfolding after_stores
  gives-none g h = g.left ∙ ap (λ (l : List Store). l ++ left_of new (after_stores x l)) h

  pub gives-made : Gives old x new out → handed out ≡ [] → new.made ≡ old.made
  gives-made g h = omega (arith, g.made, ap length h)

  -- after a boot with the same stores left
  pub gives-after : (first : Boot) → left_of first x ≡ left_of old x → old.zone ≡ first.zone → old.made ≡ first.made
      → Gives old x new out → Gives first x new out
  gives-after first left zone made g = record {
    left = left ∙ g.left;
    counts = λ m. ap length left ∙ g.counts m;
    zone = g.zone ∙ zone;
    made = g.made ∙ ap (λ (n : ℕ). n + length (handed out)) made;
    kept = g.kept;
    inside = subst (λ (z : Zone). out.place + handed_len out ≤ z.size) zone g.inside;
    plain = g.plain;
  }

  module _ (g : Gives old x new out) (before : List ℕ) (b : IsBooting old before x) where
    pub gives-stands : IsBooting new before (after_stores x (handed out))
    gives-stands = record {
      done = b.done ++ handed out;
      whole = ap (λ (z : Zone). boot_stores z before) g.zone ∙ b.whole ∙ ap (λ (l : List Store). b.done ++ l) g.left
          ∙ sym (append_assoc b.done (handed out) (left_of new (after_stores x (handed out))));
      image = ap (λ (y : List ℕ). after_stores y (handed out)) b.image
          ∙ sym (after_stores-append before b.done (handed out));
      count = (let m = g.made in let c = b.count in omega (arith, m, c, length-append b.done (handed out)));
    }

    all-left : drop old.made (boot_stores old.zone before) ≡ left_of old x
    all-left = ap (λ (n : ℕ). drop n (boot_stores old.zone before)) b.count ∙ ap (drop (length b.done)) b.whole
        ∙ drop-append_seam b.done (left_of old x)

    pub gives-handed : handed out ≡ take (length (handed out)) (drop old.made (boot_stores old.zone before))
    gives-handed = sym (ap (take (length (handed out))) (all-left ∙ g.left)
        ∙ take-append_seam (handed out) (left_of new (after_stores x (handed out))))

    whole-length : length (boot_stores old.zone before) ≡ old.made + length (left_of old x)
    whole-length = (let c = b.count in omega (arith, ap length b.whole, length-append b.done (left_of old x), c))

    pub gives-some : (handed out ≡ [] → left_of old x ≡ []) → old.made < length (boot_stores old.zone before)
        → 0 < length (handed out)
    gives-some some less = by (handed out) refl
      where
        by : (ss : List Store) → handed out ≡ ss → 0 < length ss
        by [] h = absurd (omega (arith, less, whole-length, ap length (some h)))
        by (s ∷ ss) h = omega arith

    pub gives-finished : (handed out ≡ [] → left_of old x ≡ [])
        → (out.given ≡ Nothing → old.made ≡ length (boot_stores old.zone before))
        × (old.made ≡ length (boot_stores old.zone before) → out.given ≡ Nothing)
    gives-finished some = (
      (λ h. omega (arith, whole-length, ap length (some (g.plain.0 h)))),
      (λ h. g.plain.1 (no-front (handed out) (left_of new (after_stores x (handed out)))
          (sym g.left ∙ no-length (left_of old x) (omega (arith, h, whole-length))))),
    )
