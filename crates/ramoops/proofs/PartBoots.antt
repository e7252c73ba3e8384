-- A boot of the machine that is cut is one of the states for which it stands
use Rattle.std.proofs.Common.{◌≡◌, ℕ, zero, suc, ◌+◌, ◌-◌, ◌<◌, ◌≤◌, min, nat_lt, nat_le, Bool, true, false, cond, ◌&&◌}
use Rattle.std.proofs.Common.{◌||◌, List, [], ◌∷◌, ◌++◌, length, take, map, flat_map, slice_get, refl, sym, ap, ◌∙◌}
use Rattle.std.proofs.Common.{subst, arith, Some, None, length-append, true≢false, leb-true}
use Rattle.std.specs.Prelude.{sum_by}
use Rattle.std.specs.List.{concat}
use Rattle.std.proofs.lemmas.List.{length-map, take_all}
use Rattle.std.proofs.lemmas.Bool.Decides.{nat_tests}
use Rattle.std.proofs.lemmas.List.Concat.{concat_is}
use Rattle.std.proofs.lemmas.List.Folds.{flat_map-map}
use Rattle.std.proofs.lemmas.Option.{slice_get-get_or, slice_get_within}
use Rattle.circular_buffer.proofs.Places.{slice_get-some}
use Rattle.circular_buffer.specs.Buffer.{Buffer, buffer}
use Rattle.zone_spec.specs.declared.Zone.{Zone}
use Rattle.zone_spec.specs.declared.Words.{Words}
use Rattle.zone_spec.specs.declared.Pair.{Pair}
use Rattle.zone_spec.specs.declared.State.{State}
use Rattle.zone_spec.specs.declared.State.TheVariants.{Unsigned, Empty, Invalid, Found}
use Rattle.zone_spec.specs.declared.CallKind.TheVariants.{Erase}
use Rattle.zone_spec.specs.Zones.{IsValidZone}
use Rattle.zone_spec.specs.Parts.{AreBytes, IsImage}
use Rattle.zone_spec.specs.Layouts.{IsLayout}
use Rattle.zone_spec.specs.Reading.{state_of, zone_reading}
use Rattle.zone_spec.specs.Stores.{after_stores}
use Rattle.zone_spec.specs.Stages.{stage_count, stores_in_turn}
use Rattle.zone_spec.specs.Calls.{erase_stages}
use Rattle.zone_spec.specs.Pairs.{pairs_from, pair_of}
use Rattle.zone_spec.specs.Boot.{boot_stores, boot_fixes, boot_erasure, signing, told_by_boot}
use Rattle.zone_spec.specs.Cut.{cut_stages, cut_pairs}
use Rattle.machine_spec.specs.Zones.{zone_bytes}
use Rattle.machine_spec.specs.States.{OffZone, OffState}
use Rattle.machine_spec.specs.Off.{fresh}
use Rattle.machine_spec.specs.BootPart.{moved, image_boot_stores, boot_count, IsWithinErasure, boot_cut, zone_finished}
use Rattle.machine_spec.specs.BootPart.{zone_cut, zone_parted, left_at, boot_parted}
use Rattle.machine_spec.specs.Sound.{IsMemory}
use Rattle.machine_laws.proofs.Lists.{length-parted, get-map, zone_within}
use Rattle.machine_laws.proofs.Zones.{zone_image}
use Rattle.machine_laws.proofs.Sessions.{image_is_zones_and_rest}
use Rattle.machine_laws.proofs.CutBoot.{cut_boot_makes_stores, cut_boot_leaves_rest, cut_boot_reads, cut_boot_holds}
use Rattle.machine_laws.proofs.CutBoot.{cut_boot_keeps_stops, new_zone, count_within}
use Rattle.damage_laws.proofs.BootCut.{boot_cut_zone_reads}
use Rattle.damage_laws.proofs.CutNumbers.{boot_cut_report_is_exact}
use Rattle.ring_laws.proofs.Images.{length-after_stores}
use Rattle.prz_region.specs.CutRegion.{CutRegion, span, cut_at}
use Rattle.ramoops.specs.declared.booting.Passed.{Passed}
use Rattle.ramoops.specs.declared.booting.BootProgress.{BootProgress}
use Rattle.ramoops.specs.declared.zones.HeldZone.{HeldZone}
use Rattle.ramoops.specs.declared.known.KnownZone.{KnownZone}
use Rattle.ramoops.specs.SeenCut.{cut_of_erasure}
use Rattle.ramoops.specs.OffSeen.{OffSeen, shown_cut, known_all, StandsForKnown, StandsOff}
use Rattle.ramoops_layout.specs.Laid.{params_of, zones_of}
use Rattle.ramoops.specs.declared.off.OpenOff.{OpenOff}
use Rattle.ramoops.specs.declared.booting.Prepared.{Prepared}
use Rattle.ramoops.specs.Booting.{held_after, PreparesTo, IsOpen}
use Rattle.ramoops.specs.Resting.{IsResting}
use Rattle.ramoops.specs.Parting.{stores_before, left_for, Passes, PartsTo}
use Rattle.ramoops.specs.Parted.{parted, AreInOrder, IsParted}
use Rattle.ramoops.specs.Booted.{PartsZone, BootedInPart}
use Rattle.ramoops.proofs.KnownZones.{all_len, all_listed}
use Rattle.ramoops.proofs.Lists.{same_items}
use Rattle.ramoops.proofs.Boots.{cut_fits, span_is, span_got}
use Rattle.ramoops.proofs.CutBoot.{before_next, before_none}

-- no erasure begins behind the last store
pub in_order : (z : Zone) (bytes : List ℕ) → length (boot_fixes z bytes) ≤ length (boot_stores z bytes)
unfolding boot_stores
in_order z bytes = (let a = length-append (boot_fixes z bytes)
    (stores_in_turn z (boot_erasure z bytes) (after_stores bytes (boot_fixes z bytes))) in omega (arith, a))

-- ---- the erasure of a zone, as a cut
erasure_pairs : (w : Words) (z : Zone) (s : State) → pairs_from (pair_of w) ((signing z s ++ erase_stages) ++ [])
    ≡ record { start = w.start; size = w.size } ∷ record { start = 0; size = w.size }
    ∷ record { start = 0; size = 0 } ∷ []
unfolding pairs_from
erasure_pairs w z Unsigned = refl
erasure_pairs w z Empty = refl
erasure_pairs w z Invalid = refl
erasure_pairs w z Found = refl

pub erasure_shows : (z : Zone) (bytes : List ℕ) (count : ℕ) → IsValidZone z → IsImage z bytes
    → IsWithinErasure z bytes count
    → cut_of_erasure (zone_reading z bytes).words (count - length (boot_fixes z bytes))
    (length (boot_stores z bytes) - length (boot_fixes z bytes)) ≡ shown_cut z (boot_cut z bytes count)
unfolding shown_cut
erasure_shows z bytes count valid im within =
    let w : Words = (zone_reading z bytes).words in
    let made : ℕ = count - length (boot_fixes z bytes) in
    let exact = boot_cut_report_is_exact z bytes count (zone_reading z bytes) valid im within in
    let before = (boot_cut_zone_reads z bytes bytes count valid im im within).before in
    let pairs : cut_pairs z (boot_cut z bytes count) ≡ record { start = w.start; size = w.size }
    ∷ record { start = 0; size = w.size } ∷ record { start = 0; size = 0 } ∷ [] =
    ap (λ (v : Words). pairs_from (pair_of v) ((signing z (state_of z v) ++ erase_stages) ++ [])) before
    ∙ erasure_pairs w z (state_of z w) in
    ap (λ (n : ℕ). record {
      kind = Erase;
      made = made;
      total = n;
      pairs = record { start = w.start; size = w.size } ∷ record { start = 0; size = w.size }
          ∷ record { start = 0; size = 0 } ∷ [];
      runs = [];
    }) (sym exact.0.total)
    ∙ ap (λ (ps : List Pair). record {
      kind = Erase;
      made = made;
      total = sum_by (stage_count z) (cut_stages z (boot_cut z bytes count));
      pairs = ps;
      runs = [];
    }) (sym pairs)
    ∙ ap (λ (rs : List (ℕ × ℕ)). record {
      kind = Erase;
      made = made;
      total = sum_by (stage_count z) (cut_stages z (boot_cut z bytes count));
      pairs =
          cut_pairs z (boot_cut z bytes count);
      runs = rs;
    }) (sym exact.1)

-- ---- a zone after a cut boot
module _ (z : Zone) (bytes : List ℕ) (valid : IsValidZone z) (im : IsImage z bytes) where
  parted_in : (whole : Bool) (left : ℕ) (words : Words) (known : KnownZone) (zone : OffZone) (b c : Bool)
      → words ≡ (zone_reading z bytes).words → (whole ≡ true → length (boot_stores z bytes) ≤ left)
      → StandsForKnown z known zone
      → (whole || (nat_lt 0 left && nat_le (length (boot_stores z bytes)) left)) ≡ b
      → nat_lt (length (boot_fixes z bytes)) left ≡ c
      → StandsForKnown z (cond b (record { told = Some (buffer (told_by_boot z bytes) z.cap); cut = None })
      (cond c (record {
        told = known.told;
        cut = Some (cut_of_erasure words (left - length (boot_fixes z bytes))
            (length (boot_stores z bytes) - length (boot_fixes z bytes)));
      }) known))
      (cond b (zone_finished z bytes) (cond c (zone_cut z bytes left zone) zone))
  parted_in whole left words known zone true c ew all stands eb ec = record { told = refl; cut = refl }
  parted_in whole left words known zone false true ew all stands eb ec =
      let within : IsWithinErasure z bytes left = (
        grind (arith, nat_tests),
        other whole (nat_lt 0 left) (nat_le (length (boot_stores z bytes)) left) eb refl refl,
      ) in
      record {
        told = stands.told;
        cut = ap (λ (w : Words). Some (cut_of_erasure w (left - length (boot_fixes z bytes))
            (length (boot_stores z bytes) - length (boot_fixes z bytes)))) ew
            ∙ ap Some (erasure_shows z bytes left valid im within);
      }
    where
      other : (t x y : Bool) → (t || (x && y)) ≡ false → nat_lt 0 left ≡ x
          → nat_le (length (boot_stores z bytes)) left ≡ y → left < length (boot_stores z bytes)
      other true x y e ex ey = absurd (true≢false e)
      other false true true e ex ey = absurd (true≢false e)
      other false true false e ex ey = grind (arith, nat_tests)
      other false false y e ex ey = absurd (let a : nat_lt (length (boot_fixes z bytes)) left ≡ true = ec in
          grind (arith, nat_tests))
  parted_in whole left words known zone false false ew all stands eb ec = stands

  pub zone_passes : (whole : Bool) (left : ℕ) (p : Passed) (h : HeldZone) (known : KnownZone) (zone : OffZone)
      → Passes z bytes left p → h ≡ held_after z bytes → (whole ≡ true → length (boot_stores z bytes) ≤ left)
      → StandsForKnown z known zone
      → StandsForKnown z (parted p whole h.told known) (zone_parted z bytes whole left zone)
  zone_passes whole left p h known zone passes held all stands =
      let parts : (told : Buffer ℕ) (l a e : ℕ) → KnownZone =
      λ told l a e. cond (whole || (nat_lt 0 l && nat_le a l)) (record { told = Some told; cut = None })
      (cond (nat_lt e l) (record { told = known.told; cut = Some (cut_of_erasure p.words (l - e) (a - e)) }) known) in
      let is : parted p whole h.told known ≡ parts (buffer (told_by_boot z bytes) z.cap) left
      (length (boot_stores z bytes)) (length (boot_fixes z bytes)) =
      ap (λ (g : HeldZone). parts g.told p.left p.settled.all p.settled.erase_at) held
      ∙ ap (λ (l : ℕ). parts (buffer (told_by_boot z bytes) z.cap) l p.settled.all p.settled.erase_at) passes.left_is
      ∙ ap (λ (a : ℕ). parts (buffer (told_by_boot z bytes) z.cap) left a p.settled.erase_at) passes.all
      ∙ ap (λ (e : ℕ). parts (buffer (told_by_boot z bytes) z.cap) left (length (boot_stores z bytes)) e)
      passes.erase_at in
      subst (λ (k : KnownZone). StandsForKnown z k (zone_parted z bytes whole left zone)) (sym is)
      (parted_in whole left p.words known zone _ _ passes.words all stands refl refl)

-- ---- the boot stores of an image, counted zone by zone
count_next : (image : List ℕ) (layout : List Zone) (i : ℕ) (z : Zone) → slice_get layout i ≡ Some z
    → boot_count (take (i + 1) layout) image ≡ boot_count (take i layout) image + length
    (boot_stores z (zone_bytes z image))
count_next image [] i z e = let n : ◌≡◌ {A = ℕ} 0 1 = cc in absurd (omega (arith, n))
count_next image (y ∷ ys) zero z e =
    let same : y ≡ z = cc in
    let own : boot_count (take 1 (y ∷ ys)) image ≡ length (boot_stores y (zone_bytes y image)) =
    (let a = length-append (map (λ s. moved y.at s) (boot_stores y (zone_bytes y image))) [] in
    let b = length-map (boot_stores y (zone_bytes y image)) (λ s. moved y.at s) in omega (arith, a, b)) in
    let last = ap (λ (x : Zone). length (boot_stores x (zone_bytes x image))) same in
    omega (arith, own, last)
count_next image (y ∷ ys) (suc i) z e =
    let m : suc i + 1 ≡ suc (i + 1) = omega arith in
    let n = count_next image ys i z e in
    let a = length-append (map (λ s. moved y.at s) (boot_stores y (zone_bytes y image)))
    (image_boot_stores (take (i + 1) ys) image) in
    let b = length-append (map (λ s. moved y.at s) (boot_stores y (zone_bytes y image)))
    (image_boot_stores (take i ys) image) in
    ap (λ (k : ℕ). boot_count (take k (y ∷ ys)) image) m ∙ omega (arith, n, a, b)

module _ (layout : List Zone) (mem : ℕ) (image : List ℕ) (lies : IsLayout layout mem) (size : length image ≡ mem)
    (bytes : AreBytes image) where
  before_is : (i : ℕ) → i ≤ length layout → stores_before layout (cut_at layout image) i
      ≡ boot_count (take i layout) image
  before_is zero below = before_none layout (cut_at layout image)
  before_is (suc i) below =
      let z = slice_get-some layout i (omega (arith, below)) in
      let m : suc i ≡ i + 1 = omega arith in
      ap (stores_before layout (cut_at layout image)) m ∙ before_next layout (cut_at layout image) i z.0 z.1
      ∙ ap (λ (n : ℕ). n + length (boot_stores z.0 (span (cut_at layout image) i))) (before_is i (omega (arith, below)))
      ∙ ap (λ (b : List ℕ). boot_count (take i layout) image + length (boot_stores z.0 b))
      (span_is layout mem image lies size bytes i z.0 z.1)
      ∙ sym (count_next image layout i z.0 z.1) ∙ ap (λ (k : ℕ). boot_count (take k layout) image) (sym m)

  whole_is : stores_before layout (cut_at layout image) (length layout) ≡ boot_count layout image
  whole_is = before_is (length layout) (omega arith) ∙ ap (λ (zs : List Zone). boot_count zs image)
      (take_all (length layout) layout (omega arith))

  own_is : (i : ℕ) (z : Zone) → slice_get layout i ≡ Some z → IsImage z (zone_bytes z image)
  own_is i z ez = zone_image z (lies.valid i z ez).0 image
      (let a = (lies.valid i z ez).1 in let b = zone_within layout i z ez in let c = lies.within in
      omega (arith, a, b, c, size)) bytes

  module _ (new : CutRegion) (limit : ℕ) (progress : BootProgress) (passed : List Passed)
      (parts : PartsTo layout (cut_at layout image) new limit (length layout) progress passed) where
    abbrev after_image : List ℕ
    after_image = (boot_parted layout limit (fresh layout image)).image

    left_is : (i : ℕ) (z : Zone) → slice_get layout i ≡ Some z
        → left_for layout (cut_at layout image) limit i ≡ left_at layout image limit i
    left_is i z ez = ap (λ (n : ℕ). limit - n) (before_is i
        (let a = slice_get_within layout i z ez in omega (arith, a)))

    -- each span is its zone's bytes in the state's image
    stored : (i : ℕ) (z : Zone) → slice_get layout i ≡ Some z → span new i ≡ zone_bytes z after_image
    stored i z ez =
        parts.made i z (slice_get_within layout i z ez) ez
        ∙ ap (λ (b : List ℕ). after_stores b (take (left_for layout (cut_at layout image) limit i) (boot_stores z b)))
        (span_is layout mem image lies size bytes i z ez)
        ∙ ap (λ (n : ℕ). after_stores (zone_bytes z image) (take n (boot_stores z (zone_bytes z image))))
        (left_is i z ez)
        ∙ sym (cut_boot_makes_stores layout mem (fresh layout image) limit i z lies (size, bytes) ez)

    pub parted_image : concat new.spans ++ new.rest ≡ after_image
    parted_image =
        ap (λ (xs : List (List ℕ)). concat xs ++ new.rest)
        (same_items new.spans (map (λ (z : Zone). zone_bytes z after_image) layout)
        (parts.count ∙ (cut_fits layout mem image lies size bytes).count
        ∙ sym (length-map layout (λ (z : Zone). zone_bytes z after_image))) by)
        ∙ ap (λ (xs : List ℕ). xs ++ new.rest) (concat_is (map (λ (z : Zone). zone_bytes z after_image) layout)
        ∙ flat_map-map (λ (x : List ℕ). x) (λ (z : Zone). zone_bytes z after_image) layout)
        ∙ ap (λ (r : List ℕ). flat_map (λ (z : Zone). zone_bytes z after_image) layout ++ r)
        (parts.rest ∙ sym (cut_boot_leaves_rest layout mem (fresh layout image) limit lies (size, bytes)))
        ∙ image_is_zones_and_rest layout mem after_image lies
        (length-after_stores image (take limit (image_boot_stores layout image)) ∙ size)
      where
        by : (i : ℕ) (x y : List ℕ) → slice_get new.spans i ≡ Some x
            → slice_get (map (λ (z : Zone). zone_bytes z after_image) layout) i ≡ Some y → x ≡ y
        by i x y ex ey =
            let z = slice_get-some layout i (let a = slice_get_within new.spans i x ex in let b = parts.count in
            let c = (cut_fits layout mem image lies size bytes).count in omega (arith, a, b, c)) in
            let got : x ≡ span new i = (let g : Some x ≡ Some (span new i) = sym ex
            ∙ slice_get-get_or new.spans i [] (slice_get_within new.spans i x ex) in cc) in
            got ∙ stored i z.0 z.1 ∙ get-map (λ (w : Zone). zone_bytes w after_image) layout i z.0 y z.1 ey

    pub parted_size : length (concat new.spans ++ new.rest) ≡ mem
    parted_size = ap length parted_image ∙ length-after_stores image (take limit (image_boot_stores layout image))
        ∙ size

    pub order : AreInOrder passed
    order i p e =
        let z = slice_get-some layout i (let a = slice_get_within passed i p e in let b = parts.passed_len in
        omega (arith, a, b)) in
        let q = parts.passes i z.0 p (slice_get_within layout i z.0 z.1) z.1 e in
        let a = q.all in let b = q.erase_at in let c = in_order z.0 (span (cut_at layout image) i) in
        omega (arith, a, b, c)

    pub made_is : limit - progress.left ≡ min limit (boot_count layout image)
    made_is = (let a = parts.left_is in let b = whole_is in omega (arith, a, b))

    module _ (held : List HeldZone) (known new_known : List KnownZone) (held_len : length held ≡ length layout)
        (kept : length known ≡ length layout)
        (held_is : (i : ℕ) (z : Zone) (b : List ℕ) (h : HeldZone) → slice_get layout i ≡ Some z
        → slice_get (cut_at layout image).spans i ≡ Some b → slice_get held i ≡ Some h → h ≡ held_after z b)
        (is : IsParted passed progress.is_whole held known new_known) where
      pub parted_stands : (s : OffState) → image ≡ s.image → length s.zones ≡ length layout
          → ((i : ℕ) (z : Zone) (k : KnownZone) (zone : OffZone) → slice_get layout i ≡ Some z
          → slice_get known i ≡ Some k → slice_get s.zones i ≡ Some zone → StandsForKnown z k zone)
          → StandsOff layout mem (record {
            layout = layout;
            mem = mem;
            image = concat new.spans ++ new.rest;
            zones = new_known;
          }) (boot_parted layout limit s)
      parted_stands s same count stands = record {
        same_layout = refl;
        same_mem = refl;
        image = parted_image ∙ ap (λ (im : List ℕ). after_stores im (take limit (image_boot_stores layout im))) same;
        kept = is.len ∙ kept;
        count = length-parted s.image (nat_le (boot_count layout s.image) limit) layout limit s.zones count;
        zones = by;
      }
        where
          by : (i : ℕ) (z : Zone) (k : KnownZone) (zone : OffZone) → slice_get layout i ≡ Some z
              → slice_get new_known i ≡ Some k → slice_get (boot_parted layout limit s).zones i ≡ Some zone
              → StandsForKnown z k zone
          by i z k zone ez ek eo =
              let below = slice_get_within layout i z ez in
              let old = slice_get-some known i (omega (arith, below, kept)) in
              let h = slice_get-some held i (omega (arith, below, held_len)) in
              let p = slice_get-some passed i (let a = parts.passed_len in omega (arith, below, a)) in
              let before = slice_get-some s.zones i (omega (arith, below, count)) in
              let k_is : parted p.0 progress.is_whole h.0.told old.0 ≡ k =
              (let g : Some (parted p.0 progress.is_whole h.0.told old.0)
              ≡ Some k = sym (is.each i p.0 h.0 old.0 p.1 h.1 old.1) ∙ ek in cc) in
              let o_is : zone_parted z (zone_bytes z image) progress.is_whole
              (left_for layout (cut_at layout image) limit i) before.0 ≡ zone =
              ap (λ (n : ℕ). zone_parted z (zone_bytes z image) progress.is_whole n before.0) (left_is i z ez)
              ∙ ap (λ (b : Bool). zone_parted z (zone_bytes z image) b (left_at layout image limit i) before.0)
              (parts.whole ∙ ap (λ (n : ℕ). nat_le n limit) whole_is)
              ∙ ap (λ (im : List ℕ). zone_parted z (zone_bytes z im) (nat_le (boot_count layout im) limit)
              (left_at layout im limit i) before.0) same
              ∙ new_zone layout s limit i z before.0 zone ez before.1 eo in
              let q : Passes z (zone_bytes z image) (left_for layout (cut_at layout image) limit i) p.0 =
              subst (λ (b : List ℕ). Passes z b (left_for layout (cut_at layout image) limit i) p.0)
              (span_is layout mem image lies size bytes i z ez) (parts.passes i z p.0 below ez p.1) in
              let all : progress.is_whole ≡ true → length (boot_stores z (zone_bytes z image))
              ≤ left_for layout (cut_at layout image) limit i =
              (λ w. (let a : nat_le (boot_count layout image) limit ≡ true = ap (λ (n : ℕ). nat_le n limit)
              (sym whole_is) ∙ sym parts.whole ∙ w in
              let most : boot_count layout image ≤ limit = leb-true (boot_count layout image) limit a in
              let c = count_within image layout i z ez in let d = before_is i (omega (arith, below)) in
              omega (arith, most, c, d))) in
              subst (λ (x : KnownZone). StandsForKnown z x zone) k_is
              (subst (λ (x : OffZone). StandsForKnown z (parted p.0 progress.is_whole h.0.told old.0) x) o_is
              (zone_passes z (zone_bytes z image) (lies.valid i z ez).0 (own_is i z ez) progress.is_whole
              (left_for layout (cut_at layout image) limit i) p.0 h.0 old.0 before.0 q
              (held_is i z (zone_bytes z image) h.0 ez (span_got layout mem image lies size bytes i z ez) h.1) all
              (stands i z old.0 before.0 ez old.1 before.1)))

-- what is left of each zone
pub all_parted : (layout : List Zone) (mem : ℕ) (s : OffState) (limit i : ℕ) (z : Zone) → IsLayout layout mem
    → IsMemory mem s.image → slice_get layout i ≡ Some z → PartsZone layout mem s limit i z
all_parted layout mem s limit i z lies memory ez = record {
  stores = cut_boot_makes_stores layout mem s limit i z lies memory ez;
  reads = cut_boot_reads layout mem s limit i z lies memory ez;
  holds = λ old new eo en. cut_boot_holds layout mem s limit i z old new lies memory ez eo en;
  stops = λ sound old new eo en. (cut_boot_keeps_stops layout mem s limit lies sound).1 i z old new ez eo en;
}

-- ---- by an image that is open
module _ (v : OffSeen) (o : OpenOff) (is : IsOpen v o) where
  abbrev L : List Zone
  L = zones_of o.layout

  abbrev M : ℕ
  M = (params_of o.layout).mem

  abbrev K : List KnownZone
  K = known_all (length L) o.zones.items

  module _ (new : CutRegion) (limit : ℕ) (progress : BootProgress) (passed : List Passed)
      (parts : PartsTo L o.spans new limit (length L) progress passed) where
    own_parts : PartsTo L (cut_at L v.image) new limit (length L) progress passed
    own_parts = subst (λ (c : CutRegion). PartsTo L c new limit (length L) progress passed) is.spans parts

    pub part_size : length (concat new.spans ++ new.rest) ≡ M
    part_size = parted_size L M v.image is.lies is.size is.bytes new limit progress passed own_parts

    pub part_order : AreInOrder passed
    part_order = order L M v.image is.lies is.size is.bytes new limit progress passed own_parts

    module _ (p : Prepared) (prepared : PreparesTo L o.spans.spans K (length L) p)
        (listed : List KnownZone) (passes : IsParted passed progress.is_whole p.held.items
        (known_all (length p.held.items) o.zones.items) listed) where
      abbrev known : List KnownZone
      known = known_all (length L) listed

      listed_passes : IsParted passed progress.is_whole p.held.items K listed
      listed_passes = subst (λ (n : ℕ). IsParted passed progress.is_whole p.held.items
          (known_all n o.zones.items) listed) prepared.held_len passes

      -- each zone is listed
      pub part_listed : length listed ≡ length L
      part_listed = listed_passes.len ∙ all_len (length L) o.zones.items is.known

      own_passes : IsParted passed progress.is_whole p.held.items K known
      own_passes = subst (λ (ks : List KnownZone). IsParted passed progress.is_whole p.held.items K ks)
          (sym (all_listed (length L) listed part_listed)) listed_passes

      parted_own : (s : OffState) → StandsOff L M (record {
        layout = L;
        mem = M;
        image = v.image;
        zones = K;
      }) s
          → BootedInPart L M s limit (record {
            layout = L;
            mem = M;
            image = concat new.spans ++ new.rest;
            zones = known;
          }) (limit - progress.left)
      parted_own s stands =
          record {
            off = parted_stands L M v.image is.lies is.size is.bytes new limit progress passed own_parts p.held.items
                K known prepared.held_len (all_len (length L) o.zones.items is.known)
                (λ i z b h ez eb eh. (subst (λ (c : CutRegion). PreparesTo L c.spans K (length L) p)
                is.spans prepared).held i z b h (slice_get_within L i z ez) ez eb eh)
                own_passes s stands.image stands.count stands.zones;
            count = made_is L M v.image is.lies is.size is.bytes new limit progress passed own_parts
                ∙ ap (λ (im : List ℕ). min limit (boot_count L im)) stands.image;
            sound = λ sound. (cut_boot_keeps_stops L M s limit is.lies sound).0;
            zones = λ i z ez. all_parted L M s limit i z is.lies
                (subst (IsMemory M) stands.image (is.size, is.bytes)) ez;
          }

      pub part_is : (layout : List Zone) (mem : ℕ) (s : OffState) → StandsOff layout mem v s
          → BootedInPart layout mem s limit (record {
            layout = L;
            mem = M;
            image = concat new.spans ++ new.rest;
            zones = known;
          }) (limit - progress.left)
      part_is layout mem s stands =
          let before : OffSeen = record { layout = L; mem = M; image = v.image; zones = K } in
          let after : OffSeen = record { layout = L; mem = M; image = concat new.spans ++ new.rest; zones = known } in
          let st : StandsOff layout mem before s = subst (λ (x : OffSeen). StandsOff layout mem x s) is.seen stands in
          subst (λ (l : List Zone). BootedInPart l mem s limit after (limit - progress.left)) st.same_layout
          (subst (λ (m : ℕ). BootedInPart L m s limit after (limit - progress.left)) st.same_mem
          (parted_own s (subst (λ (l : List Zone). StandsOff l M before s) (sym st.same_layout)
          (subst (λ (m : ℕ). StandsOff layout m before s) (sym st.same_mem) st))))

      -- and it stands for a sound state again
      pub part_rests : IsResting (record {
        layout = L;
        mem = M;
        image = concat new.spans ++ new.rest;
        zones = known;
      })
      part_rests =
          let rest : IsResting (record { layout = L; mem = M; image = v.image; zones = K }) =
          subst IsResting is.seen is.resting in
          let parted = parted_own rest.state rest.stands in
          record {
            lies = is.lies;
            state = boot_parted L limit rest.state;
            stands = parted.off;
            sound = parted.sound rest.sound;
          }
