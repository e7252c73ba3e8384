-- How many stores are left, whatever the zone's bytes are
use Rattle.std.proofs.Common.{◌≡◌, ℕ, suc, ◌+◌, ◌==◌, Bool, true, false, if◌then◌else◌, List, [], ◌∷◌, ◌++◌, length}
use Rattle.std.proofs.Common.{take, drop, flat_map, sym, ap, ◌∙◌, arith, length-append, get_or-drop}
use Rattle.std.specs.Prelude.{sum_by}
use Rattle.std.specs.List.{AllByRecursion, range_with_len}
use Rattle.list_laws.proofs.Elements.{AllByRecursion-append}
use Rattle.zone_spec.specs.declared.Zone.{Zone}
use Rattle.zone_spec.specs.Zones.{IsValidZone}
use Rattle.zone_spec.specs.Parts.{AreBytes, Part, Header, Block}
use Rattle.zone_spec.specs.PartReadings.{part_reading}
use Rattle.zone_spec.specs.Stores.{Store, after_stores}
use Rattle.zone_spec.specs.Stages.{Stage, stage_count, stores_in_turn}
use Rattle.zone_spec.specs.Calls.{erase_stages}
use Rattle.zone_spec.specs.Boot.{fix_stores, part_fixes, boot_fixes, boot_erasure, boot_stores}
use Rattle.ring_laws.proofs.BootLaw.{length-reading}
use Rattle.ring_laws.proofs.StoreBytes.{IsStore, HasBytes, after-bytes, all-take, one-byte}
use Rattle.ring_laws.proofs.StoreCounts.{length-stores}
use Rattle.zone_boot.specs.declared.deciding.Erasure.{Erasure}
use Rattle.zone_boot.specs.declared.deciding.Erasure.TheVariants.{Kept, Erased, Signed}
use Rattle.zone_boot.specs.declared.boots.Phase.{Phase}
use Rattle.zone_boot.specs.declared.boots.Phase.TheVariants.{Header as HeaderPhase, Blocks, Signature, Start, Size}
use Rattle.zone_boot.specs.declared.boots.Phase.TheVariants.{Parity, Finished}
use Rattle.zone_boot.specs.Left.{part_left, blocks_left, fixes_left, stages_of, stages_left, then_stages, left_at}

-- ---- corrections are bytes
fix-all : (p : ℕ) (xs ys : List ℕ) → AreBytes ys → AllByRecursion IsStore (fix_stores p xs ys)
unfolding fix_stores
fix-all p [] ys h = tt
fix-all p (x ∷ xs) [] h = tt
fix-all p (x ∷ xs) (y ∷ ys) h =
    AllByRecursion-append IsStore (if x == y then [] else record { place = p; bytes = y ∷ [] } ∷ [])
    (fix_stores (p + 1) xs ys)
    (one (x == y)) (fix-all (p + 1) xs ys (λ i. h (suc i)))
  where
    one : (t : Bool) → AllByRecursion IsStore (if t then [] else record { place = p; bytes = y ∷ [] } ∷ [])
    one true = tt
    one false = (one-byte y (h 0), tt)

module _ (z : Zone) (x : List ℕ) (h : AreBytes x) where
  part-all : (p : Part) (w : ℕ) → AllByRecursion IsStore (part_left z x p w)
  unfolding part_left
  part-all p w = fix-all _ _ (drop w (part_reading z x p).bytes)
      (λ i. rw (get_or-drop w (part_reading z x p).bytes i 0) ((length-reading z x p h).1 (w + i)))

  others-all : (bs : List ℕ) → AllByRecursion IsStore (flat_map (λ k. part_fixes z x (Block k)) bs)
  others-all [] = tt
  others-all (b ∷ bs) = AllByRecursion-append IsStore (part_fixes z x (Block b)) _
      (fix-all _ _ _ (length-reading z x (Block b) h).1) (others-all bs)

  blocks-all : (w : ℕ) (bs : List ℕ) → AllByRecursion IsStore (blocks_left z x w bs)
  unfolding blocks_left
  blocks-all w [] = tt
  blocks-all w (b ∷ bs) = AllByRecursion-append IsStore (part_left z x (Block b) w) _ (part-all (Block b) w)
      (others-all bs)

  fixes-all : (b w n : ℕ) (p : Phase) → AllByRecursion IsStore (fixes_left z x b w n p)
  fixes-all b w n HeaderPhase = AllByRecursion-append IsStore (part_left z x Header w) _ (part-all Header w)
      (blocks-all 0 (range_with_len 0 n))
  fixes-all b w n Blocks = blocks-all w _
  fixes-all b w n Signature = tt
  fixes-all b w n Start = tt
  fixes-all b w n Size = tt
  fixes-all b w n Parity = tt
  fixes-all b w n Finished = tt

-- ---- the stages of an erasure
three : AllByRecursion HasBytes erase_stages
three = (tt, (tt, (tt, tt)))

module _ (z : Zone) where
  pub stages-of-have : (e : Erasure) → AllByRecursion HasBytes (stages_of z e)
  stages-of-have Kept = tt
  stages-of-have Erased = three
  stages-of-have Signed = (tt, three)

  stages-have : (e : Erasure) (p : Phase) → AllByRecursion HasBytes (stages_left z e p)
  stages-have e HeaderPhase = stages-of-have e
  stages-have e Blocks = stages-of-have e
  stages-have e Signature = (tt, three)
  stages-have e Start = three
  stages-have e Size = (tt, (tt, tt))
  stages-have e Parity = (tt, tt)
  stages-have e Finished = tt

module _ (z : Zone) (valid : IsValidZone z) where
  then-long : (x : List ℕ) (fixes : List Store) (gs : List Stage) → AreBytes x → AllByRecursion IsStore fixes
      → AllByRecursion HasBytes gs
      → length (then_stages z x fixes gs) ≡ length fixes + sum_by (stage_count z) gs
  unfolding then_stages
  then-long x fixes gs h k g =
      length-append fixes (stores_in_turn z gs (after_stores x fixes))
      ∙ ap (λ (n : ℕ). length fixes + n) (length-stores z valid gs (after_stores x fixes) (after-bytes x fixes h k) g)

  pub left-long : (x : List ℕ) (b w n : ℕ) (e : Erasure) (p : Phase) → AreBytes x
      → length (left_at z x b w n e p) ≡ length (fixes_left z x b w n p) + sum_by (stage_count z) (stages_left z e p)
  left-long x b w n e p h = then-long x (fixes_left z x b w n p) (stages_left z e p) h (fixes-all z x h b w n p)
      (stages-have z e p)

  -- corrections that were given, some of them made, and as many to come
  pub fixes-count : (x y : List ℕ) (b w v n : ℕ) (e : Erasure) (p : Phase) → AreBytes x → AreBytes y
      → (given more : List Store) → fixes_left z x b w n p ≡ given ++ more → fixes_left z y b v n p ≡ more
      → length (left_at z x b w n e p) ≡ length given + length (left_at z y b v n e p)
  fixes-count x y b w v n e p h k given more is next =
      omega (
        arith,
        left-long x b w n e p h,
        left-long y b v n e p k,
        ap length is,
        length-append given more,
        ap length next,
      )

  -- the same in an erasure
  pub erasure-count : (x : List ℕ) (b w n : ℕ) (e : Erasure) (p q : Phase) → AreBytes x → (given : List Store)
      → AllByRecursion IsStore given → fixes_left z x b w n p ≡ []
      → ((y : List ℕ) → fixes_left z y b w n q ≡ [])
      → sum_by (stage_count z) (stages_left z e p) ≡ length given + sum_by (stage_count z) (stages_left z e q)
      → (m : ℕ) → length (left_at z x b w n e p)
      ≡ length given + length (left_at z (after_stores x (take m given)) b w n e q)
  erasure-count x b w n e p q h given k none none-next sums m =
      let y : List ℕ = after_stores x (take m given) in
      omega (
        arith,
        left-long x b w n e p h,
        left-long y b w n e q (after-bytes x (take m given) h (all-take IsStore m given k)),
        ap length none,
        ap length (none-next y),
        sums,
      )

-- corrections and erasure are all stores of a boot
pub boot-long : (z : Zone) (x : List ℕ) (e : Erasure) → IsValidZone z → AreBytes x → stages_of z e ≡ boot_erasure z x
    → length (boot_stores z x) ≡ length (boot_fixes z x) + sum_by (stage_count z) (stages_of z e)
unfolding boot_stores boot_fixes then_stages
boot-long z x e valid h is =
    ap (λ (gs : List Stage). length (boot_fixes z x ++ stores_in_turn z gs (after_stores x (boot_fixes z x)))) (sym is)
    ∙ then-long z valid x (boot_fixes z x) (stages_of z e) h
    (AllByRecursion-append IsStore (part_fixes z x Header) _ (fix-all _ _ _ (length-reading z x Header h).1)
    (others-all z x h _))
    (stages-of-have z e)
