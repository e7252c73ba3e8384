-- A boot that is made up to a limit, step by step
use Rattle.std.proofs.Common.{◌≡◌, ℕ, ◌+◌, ◌-◌, ◌<◌, ◌≤◌, List, [], ◌∷◌, ◌++◌, length, get_or, if◌then◌else◌, take}
use Rattle.std.proofs.Common.{drop, inl, inr, refl, sym, ap, ap₂, ◌∙◌, subst, arith, take_all, length-take, append-nil}
use Rattle.std.proofs.Common.{take-add, take-take}
use Rattle.std.proofs.lemmas.Bool.{cases_lt}
use Rattle.std.proofs.lemmas.List.{get_or_default}
use Rattle.list_laws.proofs.Elements.{take-append}
use Rattle.zone_spec.specs.declared.Zone.{Zone}
use Rattle.zone_spec.specs.Parts.{Block}
use Rattle.zone_spec.specs.PartReadings.{part_reading}
use Rattle.zone_spec.specs.Stores.{Store, after_stores}
use Rattle.zone_spec.specs.Boot.{boot_erasure, boot_stores, keeps, signing}
use Rattle.zone_spec.specs.Stages.{Stage, stores_in_turn}
use Rattle.zone_spec.specs.Calls.{erase_stages}
use Rattle.zone_spec.specs.Reading.{ZoneReading, zone_reading}
use Rattle.ring_laws.proofs.Images.{length-after_stores}
use Rattle.prz_region.specs.CutRegion.{CutRegion, span, stored}
use Rattle.prz_region.proofs.Cuts.{stored-again, span-stored, spans-length}
use Rattle.zone_boot.specs.declared.boots.Boot.{Boot}
use Rattle.zone_boot.specs.declared.deciding.Erasure.{Erasure}
use Rattle.zone_boot.specs.declared.handing.BootStore.{BootStore}
use Rattle.zone_boot.specs.declared.boots.Phase.{Phase}
use Rattle.zone_boot.specs.declared.boots.Phase.TheVariants.{Finished}
use Rattle.zone_boot.specs.Left.{left_at, then_stages}
use Rattle.zone_boot.specs.Handed.{handed}
use Rattle.zone_boot.specs.Booting.{left_of, IsBooting, Gives, KeepsReadings}
use Rattle.zone_boot.proofs.BootHandOut.{gives-stands, gives-handed}
use Rattle.prz_read.specs.Sources.{HasBlock, IsFixing, rank}
use Rattle.prz_read.specs.Steps.{IsSettling}

-- the stores made so far, and those of the next ones that are within the limit
takes : (all given : List Store) (limit made left : ℕ) → left ≡ limit - made → made ≤ length all
    → (made ≤ limit → given ≡ take (length given) (drop made all))
    → take limit (take made all) ++ take left given ≡ take limit (take (made + length given) all)
takes all given limit made left el most is = elim (cases_lt limit made) [
  | inl past ↦ ap (λ (n : ℕ). take limit (take made all) ++ take n given) (let z : left ≡ 0 = omega (arith, el, past) in z)
      ∙ append-nil (take limit (take made all)) ∙ take-take limit made all (omega (arith, past))
      ∙ sym (take-take limit (made + length given) all (omega (arith, past)))
  | inr within ↦ (let n : length (take made all) ≡ made = omega (arith, length-take made all, most) in
      ap₂ (λ (l : List Store) (m : ℕ). l ++ take m given) (take_all limit (take made all) (omega (arith, n, within)))
      (let z : left ≡ limit - length (take made all) = omega (arith, el, n) in z)
      ∙ ap (λ (l : List Store). l ++ take (limit - length (take made all)) given)
      (sym (take_all limit (take made all) (omega (arith, n, within))))
      ∙ sym (take-append limit (take made all) given)
      ∙ ap (λ (l : List Store). take limit (take made all ++ l)) (is within)
      ∙ ap (λ (l : List Store). take limit l) (sym (take-add made (length given) all)))
]

pub span-is : (c : CutRegion) (i : ℕ) (xs : List (List ℕ)) (r : List ℕ) → xs ≡ c.spans → r ≡ get_or xs i r
    → i < length c.spans → r ≡ span c i
span-is c i xs r e at lt = at ∙ ap (λ (l : List (List ℕ)). get_or l i r) e ∙ get_or_default c.spans i r [] lt

none-left : (b : Boot) (y : List ℕ) → b.phase ≡ Finished → left_of b y ≡ []
unfolding then_stages stores_in_turn after_stores
none-left b y h = ap (λ (p : Phase). left_at b.zone y b.block b.within b.count b.erasure p) h

-- the stages of the erasure, by the reading
pub erasure-by : (z : Zone) (x : List ℕ) (r : ZoneReading) (gs : List Stage) → r ≡ zone_reading z x
    → gs ≡ (if keeps z r then [] else signing z r.state ++ erase_stages) → gs ≡ boot_erasure z x
unfolding boot_erasure
erasure-by z x r gs e is = is ∙ ap (λ (q : ZoneReading). if keeps z q then [] else signing z q.state ++ erase_stages) e

-- a block of an image that reads as another one
pub block-moved : (z v : Zone) (x y : List ℕ) (b start : ℕ) (log tail : List ℕ) → v ≡ z
    → (part_reading z y (Block b)).bytes ≡ (part_reading z x (Block b)).bytes → HasBlock z x b start log tail
    → HasBlock v y b start log tail
block-moved z v x y b start log tail e r h = subst (λ (u : Zone). HasBlock u y b start log tail) (sym e)
    (record { turned = h.turned; few = h.few; bytes = h.bytes ∙ sym r })

module _ (z : Zone) (before : List ℕ) (first : CutRegion) (i limit n : ℕ) (e : Erasure) (lt : i < length first.spans)
    (old : Boot) (now : CutRegion) (was : IsSettling z before first i limit n e old now) where
  pub settling-spans : length now.spans ≡ length first.spans
  settling-spans = ap (λ (c : CutRegion). length c.spans) was.spans ∙ spans-length first i _

  pub settling-span : span now i
      ≡ after_stores (span first i) (take limit (take old.made (boot_stores z before)))
  settling-span = ap (λ (c : CutRegion). span c i) was.spans ∙ span-stored first i _ lt

  pub settling-length : length (span now i) ≡ length (span first i)
  settling-length = ap length settling-span ∙ length-after_stores (span first i) _

  -- a span that is lent
  pub settling-lent : (xs : List (List ℕ)) (r : List ℕ) → xs ≡ now.spans → r ≡ get_or xs i r → r ≡ span now i
  settling-lent xs r e at = span-is now i xs r e at (omega (arith, settling-spans, lt))

  -- at the end all are handed out
  pub settling-done : old.phase ≡ Finished → old.made ≡ length (boot_stores z before)
  settling-done h = (let t = was.total in omega (arith, t, ap length (none-left old (span now i) h)))

  pub settling-all : old.phase ≡ Finished → now ≡ stored first i (take limit (boot_stores z before))
  settling-all h =
      let all : List Store = boot_stores z before in
      was.spans ∙ ap (λ (k : ℕ). stored first i (take limit (take k all))) (settling-done h)
      ∙ ap (λ (l : List Store). stored first i (take limit l)) (take_all (length all) all (omega arith))

  -- each turn leaves less
  pub settling-smaller : (new : Boot) (out : BootStore) (after : CutRegion) (left : ℕ) → Gives old (span now i) new out
      → rank new ≤ rank old → (handed out ≡ [] → rank new < rank old) → after ≡ stored now i (take left (handed out))
      → length (left_of new (span after i)) + rank new < length (left_of old (span now i)) + rank old
  settling-smaller new out after left g most some is =
      let y : span after i ≡ after_stores (span now i) (take left (handed out)) =
      ap (λ (c : CutRegion). span c i) is
      ∙ span-stored now i (take left (handed out)) (omega (arith, settling-spans, lt)) in
      by (handed out) refl (omega (arith, g.counts left, ap (λ (v : List ℕ). length (left_of new v)) y))
    where
      by : (ss : List Store) → handed out ≡ ss
          → length (left_of old (span now i)) ≡ length (handed out) + length (left_of new (span after i))
          → length (left_of new (span after i)) + rank new < length (left_of old (span now i)) + rank old
      by [] h e = (let l = some h in omega (arith, e, l))
      by (s ∷ ss) h e = omega (arith, e, ap length h, most)

  pub settling-step : (new : Boot) (out : BootStore) (after : CutRegion) (left : ℕ) → Gives old (span now i) new out
      → new.erasure ≡ old.erasure → new.count ≡ old.count → (IsFixing new.phase → IsFixing old.phase)
      → (IsFixing new.phase → KeepsReadings old.zone (span now i) (handed out)) → left ≡ limit - old.made
      → after ≡ stored now i (take left (handed out)) → IsSettling z before first i limit n e new after
  settling-step new out after left g er bl fx kp el is =
      let x : List ℕ = span now i in
      let given : List Store = handed out in
      let y : span after i ≡ after_stores x (take left given) =
      ap (λ (c : CutRegion). span c i) is ∙ span-stored now i (take left given) (omega (arith, settling-spans, lt)) in
      let all : List Store = boot_stores z before in
      let t = was.total in
      let m = g.made in
      let here : boot_stores old.zone before ≡ all = ap (λ (v : Zone). boot_stores v before) was.zone in
      record {
        zone = g.zone ∙ was.zone;
        kept = g.kept;
        erasure = er ∙ was.erasure;
        blocks = bl ∙ was.blocks;
        spans = is ∙ ap (λ (c : CutRegion). stored c i (take left given)) was.spans ∙ stored-again first i _ _ lt
            ∙ ap (λ (l : List Store). stored first i l)
            (takes all given limit old.made left el (omega (arith, t))
            (λ h. gives-handed old x new out g before (was.booting h)
            ∙ ap (λ (l : List Store). take (length given) (drop old.made l)) here)
            ∙ ap (λ (k : ℕ). take limit (take k all)) (sym m));
        booting = λ h. subst (λ (v : List ℕ). IsBooting new before v)
            (sym (y ∙ ap (λ (l : List Store). after_stores x l) (take_all left given (omega (arith, h, m, el)))))
            (gives-stands old x new out g before (was.booting (omega (arith, h, m))));
        total = omega (arith, m, t, g.counts left, ap (λ (v : List ℕ). length (left_of new v)) y);
        reads = λ f p. ap (λ (v : List ℕ). (part_reading z v p).bytes) y
            ∙ subst (λ (v : Zone). (part_reading v (after_stores x (take left given)) p).bytes
            ≡ (part_reading v x p).bytes) was.zone (kp f left p) ∙ was.reads (fx f) p;
      }
