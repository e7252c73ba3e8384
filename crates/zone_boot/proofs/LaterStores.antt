-- The stores that a boot leaves for later
use Rattle.std.proofs.Common.{◌≡◌, ℕ, suc, ◌+◌, ◌-◌, ◌<◌, ◌≤◌, List, [], ◌∷◌, ◌++◌, length, take, drop, min, inl, inr}
use Rattle.std.proofs.Common.{flat_map, refl, sym, ap, ap₂, ◌∙◌, subst, arith, append_assoc, take_all}
use Rattle.std.specs.List.{range_with_len}
use Rattle.std.proofs.lemmas.Bool.{cases_lt}
use Rattle.zone_spec.specs.declared.Zone.{Zone}
use Rattle.zone_spec.specs.Zones.{IsValidZone}
use Rattle.zone_spec.specs.Parts.{Part, Header, Block, part_at, part_bytes, IsImage}
use Rattle.zone_spec.specs.PartReadings.{part_reading}
use Rattle.zone_spec.specs.Stores.{Store, after_stores}
use Rattle.zone_spec.specs.Stages.{Stage, stores_in_turn}
use Rattle.zone_spec.specs.Boot.{fix_stores, part_fixes}
use Rattle.ring_laws.proofs.Images.{after_stores-append}
use Rattle.zone_boot.specs.Handed.{IsRun}
use Rattle.zone_boot.specs.declared.boots.Phase.{Phase}
use Rattle.zone_boot.specs.declared.boots.Phase.TheVariants.{Header as HeaderPhase, Blocks}
use Rattle.zone_boot.specs.declared.deciding.Erasure.{Erasure}
use Rattle.zone_boot.specs.Left.{part_left, blocks_left, then_stages, fixes_left, stages_left, stages_of, left_at}
use Rattle.zone_boot.proofs.PartFixes.{fix-end}
use Rattle.zone_boot.proofs.PartRuns.{run-image, run-left, others-fixes, others-left}
use Rattle.zone_boot.proofs.StoreCounts.{fixes-count}

pub after-none : (x : List ℕ) → after_stores x [] ≡ x
unfolding after_stores
after-none x = refl

pub not-empty : (ss : List Store) → (ss ≡ [] → ⊥) → 0 < length ss
not-empty [] h = absurd (h refl)
not-empty (s ∷ ss) h = omega arith

-- corrections that were given, and those that come
pub then-given : (z : Zone) (x : List ℕ) (given fixes more : List Store) (gs : List Stage) → fixes ≡ given ++ more
    → then_stages z x fixes gs ≡ given ++ then_stages z (after_stores x given) more gs
unfolding then_stages
then-given z x given fixes more gs e =
    ap (λ (l : List Store). l ++ stores_in_turn z gs (after_stores x l)) e
    ∙ ap (λ (y : List ℕ). (given ++ more) ++ stores_in_turn z gs y) (after_stores-append x given more)
    ∙ append_assoc given more (stores_in_turn z gs (after_stores (after_stores x given) more))

module _ (z : Zone) (x : List ℕ) where
  pub left-whole : (p : Part) → part_left z x p 0 ≡ part_fixes z x p
  unfolding part_left
  left-whole p = ap (λ (n : ℕ). fix_stores n (part_bytes z x p) (part_reading z x p).bytes)
      (let e : part_at z p + 0 ≡ part_at z p = omega arith in e)

  pub blocks-whole : (bs : List ℕ) → blocks_left z x 0 bs ≡ flat_map (λ k. part_fixes z x (Block k)) bs
  unfolding blocks_left
  blocks-whole [] = refl
  blocks-whole (b ∷ bs) = ap (λ (l : List Store). l ++ flat_map (λ k. part_fixes z x (Block k)) bs)
      (left-whole (Block b))

  pub left-end : (p : Part) (n : ℕ) → length (part_bytes z x p) ≤ n → part_left z x p n ≡ []
  unfolding part_left
  left-end p n h = fix-end (part_at z p + n) (part_bytes z x p) (part_reading z x p).bytes n h

  -- the first block and the others
  pub blocks-first : (w b count : ℕ) → b < count → blocks_left z x w (range_with_len b (count - b))
      ≡ part_left z x (Block b) w ++ flat_map (λ k. part_fixes z x (Block k)) (range_with_len (b + 1) (count - (b + 1)))
  unfolding blocks_left
  blocks-first w b count h =
      ap (λ (n : ℕ). blocks_left z x w (range_with_len b n))
      (let e : count - b ≡ suc (count - (b + 1)) = omega arith in e)

  pub blocks-none : (w b count : ℕ) → count ≤ b → blocks_left z x w (range_with_len b (count - b)) ≡ []
  unfolding blocks_left
  blocks-none w b count h = ap (λ (n : ℕ). blocks_left z x w (range_with_len b n))
      (let e : count - b ≡ 0 = omega arith in e)

module _ (z : Zone) (valid : IsValidZone z) (x : List ℕ) (im : IsImage z x) (given : List Store) where
  header-apart : (b : ℕ) → 0 ≤ b → Block b ≡ Header → ⊥
  header-apart b h f = (let n : ◌≡◌ {A = ℕ} 0 1 = cc in omega (arith, n))

  -- a run of the header
  pub header-more : (w e count : ℕ) → w ≤ length (part_bytes z x Header)
      → part_left z x Header w ≡ given ++ part_left z x Header e
      → IsRun (part_at z Header + w) (part_at z Header + e) given → (m : ℕ)
      → part_left z (after_stores x (take m given)) Header e
      ++ blocks_left z (after_stores x (take m given)) 0 (range_with_len 0 count)
      ≡ part_left z x Header e ++ blocks_left z x 0 (range_with_len 0 count)
  header-more w e count h s run m = ap₂ (λ (u v : List Store). u ++ v)
      (run-left z valid x im Header w e given h s run m)
      (others-left z valid x im Header w e given h s run m 0 count 0 header-apart)

  -- a run of a block
  pub block-more : (w e b count : ℕ) → b < count → w ≤ length (part_bytes z x (Block b))
      → part_left z x (Block b) w ≡ given ++ part_left z x (Block b) e
      → IsRun (part_at z (Block b) + w) (part_at z (Block b) + e) given → (m : ℕ)
      → blocks_left z (after_stores x (take m given)) e (range_with_len b (count - b))
      ≡ blocks_left z x e (range_with_len b (count - b))
  block-more w e b count less h s run m =
      blocks-first z (after_stores x (take m given)) e b count less
      ∙ ap₂ (λ (u v : List Store). u ++ v) (run-left z valid x im (Block b) w e given h s run m)
      (others-fixes z valid x im (Block b) w e given h s run m (count - (b + 1)) (b + 1)
      (λ k l f. (let n : k ≡ b = number f in omega (arith, n, l))))
      ∙ sym (blocks-first z x e b count less)
    where
      number : {k : ℕ} → Block k ≡ Block b → k ≡ b
      number {k} f = cc

  pub block-run : (w e b count : ℕ) → b < count → part_left z x (Block b) w ≡ given ++ part_left z x (Block b) e
      → blocks_left z x w (range_with_len b (count - b)) ≡ given ++ blocks_left z x e (range_with_len b (count - b))
  block-run w e b count less s =
      let rest : List Store = flat_map (λ k. part_fixes z x (Block k)) (range_with_len (b + 1) (count - (b + 1))) in
      blocks-first z x w b count less
      ∙ ap (λ (l : List Store). l ++ rest) s ∙ append_assoc given (part_left z x (Block b) e) rest
      ∙ ap (λ (l : List Store). given ++ l) (sym (blocks-first z x e b count less))

-- all corrections are made, and the erasure begins
pub entered : (z : Zone) (x : List ℕ) (b w n : ℕ) (e : Erasure) (p q : Phase) → p ≡ Blocks → n ≤ b
    → fixes_left z x b w n q ≡ [] → stages_left z e q ≡ stages_of z e
    → left_at z x b w n e q ≡ left_at z x b w n e p
entered z x b w n e p q h done none stages =
    ap₂ (λ (fs : List Store) (gs : List Stage). then_stages z x fs gs) none stages
    ∙ sym (ap (λ (r : Phase). left_at z x b w n e r) h
    ∙ ap (λ (fs : List Store). then_stages z x fs (stages_of z e)) (blocks-none z x w b n done))

-- ---- a part that is corrected
module _ (z : Zone) (x : List ℕ) (p : Part) where
  -- as the bytes that stand and those that are read say it
  pub part-run : (at from end : ℕ) (s r : List ℕ) (given : List Store) → at ≡ part_at z p → s ≡ part_bytes z x p
      → r ≡ (part_reading z x p).bytes
      → fix_stores (at + from) (drop from s) (drop from r)
      ≡ given ++ fix_stores (at + end) (drop end s) (drop end r)
      → part_left z x p from ≡ given ++ part_left z x p end
  unfolding part_left
  part-run at from end s r given ea es er h =
      let same : (n : ℕ) → fix_stores (at + n) (drop n s) (drop n r) ≡ part_left z x p n =
      (λ n. ap (λ (a : ℕ). fix_stores (a + n) (drop n s) (drop n r)) ea
      ∙ ap₂ (λ (u v : List ℕ). fix_stores (part_at z p + n) (drop n u) (drop n v)) es er) in
      sym (same from) ∙ h ∙ ap (λ (l : List Store). given ++ l) (same end)

  -- from behind its end there are none
  pub left-min : (w n : ℕ) → n ≡ min w (length (part_bytes z x p)) → part_left z x p w ≡ part_left z x p n
  left-min w n e = elim (cases_lt w (length (part_bytes z x p))) [
    | inl less ↦ ap (λ (m : ℕ). part_left z x p m) (let f : w ≡ n = omega (arith, e, less) in f)
    | inr past ↦ left-end z x p w past ∙ sym (left-end z x p n (omega (arith, e, past)))
  ]

-- ---- a boot that corrects
module _ (z : Zone) (x : List ℕ) (b w count : ℕ) (e : Erasure) where
  in-phase : (y : List ℕ) (c v : ℕ) (p q : Phase) → p ≡ q → left_at z y c v count e p ≡ left_at z y c v count e q
  in-phase y c v p q h = ap (λ (r : Phase). left_at z y c v count e r) h

  -- a block is passed that has none left
  pub passed-left : (p : Phase) → p ≡ Blocks → b < count → part_left z x (Block b) w ≡ []
      → left_at z x b w count e p ≡ left_at z x (b + 1) 0 count e p
  passed-left p h less none =
      in-phase x b w p Blocks h
      ∙ ap (λ (l : List Store). then_stages z x l (stages_of z e)) (blocks-first z x w b count less
      ∙ ap (λ (l : List Store). l ++ flat_map (λ k. part_fixes z x (Block k)) (range_with_len (b + 1)
      (count - (b + 1)))) none ∙ sym (blocks-whole z x (range_with_len (b + 1) (count - (b + 1)))))
      ∙ sym (in-phase x (b + 1) 0 p Blocks h)

  -- the header is passed
  pub header-left : (p : Phase) → p ≡ HeaderPhase → part_left z x Header w ≡ []
      → left_at z x 0 0 count e Blocks ≡ left_at z x b w count e p
  header-left p h none = sym (in-phase x b w p HeaderPhase h
      ∙ ap (λ (l : List Store). then_stages z x (l ++ blocks_left z x 0 (range_with_len 0 count)) (stages_of z e)) none
      ∙ ap (λ (n : ℕ). then_stages z x (blocks_left z x 0 (range_with_len 0 n)) (stages_of z e))
      (let f : count ≡ count - 0 = omega arith in f))

  module _ (valid : IsValidZone z) (im : IsImage z x) (given : List Store) (end : ℕ) where
    at-all : (f : List Store → List Store) (r : List Store) → f (take (length given) given) ≡ r → f given ≡ r
    at-all f r h = subst (λ (g : List Store). f g ≡ r) (take_all (length given) given (omega arith)) h

    module _ (p : Phase) (h : p ≡ Blocks) (less : b < count) (within : w ≤ length (part_bytes z x (Block b)))
        (s : part_left z x (Block b) w ≡ given ++ part_left z x (Block b) end)
        (run : IsRun (part_at z (Block b) + w) (part_at z (Block b) + end) given) where
      pub block-given : left_at z x b w count e p ≡ given ++ left_at z (after_stores x given) b end count e p
      block-given =
          in-phase x b w p Blocks h
          ∙ then-given z x given (blocks_left z x w (range_with_len b (count - b)))
          (blocks_left z x end (range_with_len b (count - b))) (stages_of z e)
          (block-run z valid x im given w end b count less s)
          ∙ ap (λ (l : List Store). given ++ then_stages z (after_stores x given) l (stages_of z e))
          (sym (at-all (λ g. blocks_left z (after_stores x g) end (range_with_len b (count - b)))
          (blocks_left z x end (range_with_len b (count - b)))
          (block-more z valid x im given w end b count less within s run (length given))))
          ∙ ap (λ (l : List Store). given ++ l) (sym (in-phase (after_stores x given) b end p Blocks h))

      pub block-counts : (m : ℕ) → length (left_at z x b w count e p)
          ≡ length given + length (left_at z (after_stores x (take m given)) b end count e p)
      block-counts m =
          let y : List ℕ = after_stores x (take m given) in
          ap length (in-phase x b w p Blocks h)
          ∙ fixes-count z valid x y b w end count e Blocks im.1
          (run-image z valid x im (Block b) w end given within s run m).1 given
          (blocks_left z x end (range_with_len b (count - b)))
          (block-run z valid x im given w end b count less s)
          (block-more z valid x im given w end b count less within s run m)
          ∙ ap (λ (l : List Store). length given + length l) (sym (in-phase y b end p Blocks h))

    module _ (p : Phase) (h : p ≡ HeaderPhase) (within : w ≤ length (part_bytes z x Header))
        (s : part_left z x Header w ≡ given ++ part_left z x Header end)
        (run : IsRun (part_at z Header + w) (part_at z Header + end) given) where
      abbrev more : List ℕ → List Store
      more y = part_left z y Header end ++ blocks_left z y 0 (range_with_len 0 count)

      header-run : part_left z x Header w ++ blocks_left z x 0 (range_with_len 0 count) ≡ given ++ more x
      header-run = ap (λ (l : List Store). l ++ blocks_left z x 0 (range_with_len 0 count)) s
          ∙ append_assoc given (part_left z x Header end) (blocks_left z x 0 (range_with_len 0 count))

      pub header-given : left_at z x b w count e p ≡ given ++ left_at z (after_stores x given) b end count e p
      header-given =
          in-phase x b w p HeaderPhase h
          ∙ then-given z x given (part_left z x Header w ++ blocks_left z x 0 (range_with_len 0 count)) (more x)
          (stages_of z e) header-run
          ∙ ap (λ (l : List Store). given ++ then_stages z (after_stores x given) l (stages_of z e))
          (sym (at-all (λ g. more (after_stores x g)) (more x)
          (header-more z valid x im given w end count within s run (length given))))
          ∙ ap (λ (l : List Store). given ++ l) (sym (in-phase (after_stores x given) b end p HeaderPhase h))

      pub header-counts : (m : ℕ) → length (left_at z x b w count e p)
          ≡ length given + length (left_at z (after_stores x (take m given)) b end count e p)
      header-counts m =
          let y : List ℕ = after_stores x (take m given) in
          ap length (in-phase x b w p HeaderPhase h)
          ∙ fixes-count z valid x y b w end count e HeaderPhase im.1
          (run-image z valid x im Header w end given within s run m).1 given (more x) header-run
          (header-more z valid x im given w end count within s run m)
          ∙ ap (λ (l : List Store). length given + length l) (sym (in-phase y b end p HeaderPhase h))
