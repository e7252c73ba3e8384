-- A boot that is cut leaves what is held of a zone, or its end becomes the zone's stop
use Rattle.std.proofs.Common.{◌≡◌, ℕ, zero, suc, ◌+◌, ◌-◌, ◌<◌, ◌≤◌, ◌⊎◌, Bool, true, false, cond, ◌&&◌, nat_lt, nat_le}
use Rattle.std.proofs.Common.{List, [], ◌∷◌, ◌++◌, length, take, map, slice_get, get_or, refl, sym, ap, ap₂, ◌∙◌, subst}
use Rattle.std.proofs.Common.{arith, inl, inr, Option, Some, None, length-append, ext_get_or, take_all, append-nil, min}
use Rattle.std.proofs.Common.{leb-true, ltb-false, true≢false, get_or-drop, length-drop, drop, le-leb, ◌||◌}
use Rattle.std.specs.List.{AllByRecursion}
use Rattle.std.proofs.lemmas.Bool.{cases_lt, or_left}
use Rattle.std.proofs.lemmas.List.Sums.{sum_by-cons}
use Rattle.std.proofs.lemmas.List.{length-map, take-map, take-append-le}
use Rattle.zone_spec.specs.declared.Zone.{Zone}
use Rattle.zone_spec.specs.declared.State.{State}
use Rattle.zone_spec.specs.declared.State.TheVariants.{Unsigned, Empty, Invalid, Found}
use Rattle.zone_spec.specs.Zones.{IsValidZone}
use Rattle.code_spec.specs.Code.{IsWord, nearest, parity_of, IsNear}
use Rattle.zone_spec.specs.Parts.{Part, Header, Block, part_at, part_len, part_parity_at, part_bytes, part_word}
use Rattle.zone_spec.specs.Parts.{IsImage, IsPartOf}
use Rattle.zone_spec.specs.Reading.{zone_reading}
use Rattle.zone_spec.specs.Stores.{Store, put, after_stores, byte_stores}
use Rattle.zone_spec.specs.Stages.{Stage, SigWord, StartWord, SizeWord, Run, ParityOf, stage_stores, stores_in_turn}
use Rattle.zone_spec.specs.Calls.{erase_stages}
use Rattle.zone_spec.specs.Boot.{boot_fixes, boot_erasure, boot_stores, signing, keeps, told_by_boot}
use Rattle.zone_spec.specs.Damage.{IsWithinBounds, IsNotDamagedFurther}
use Rattle.code_laws.proofs.Nearest.{nearest-IsNear}
use Rattle.ring_laws.proofs.Images.{length-put, put-below, put-above, put-inside, length-after_stores}
use Rattle.ring_laws.proofs.Images.{after_stores-append}
use Rattle.ring_laws.proofs.PartsLaw.{part_fits}
use Rattle.ring_laws.proofs.StoreBytes.{all-take}
use Rattle.ring_laws.proofs.Fixes.{Fixes, IsMended, some_fixed, fixed_toward}
use Rattle.ring_laws.proofs.BootLaw.{boot_fixes-all, fixed_mended}
use Rattle.ring_laws.proofs.HeaderWords.{header_length}
use Rattle.damage_laws.proofs.TouchedBlocks.{parity_length}
use Rattle.ring_laws.proofs.PartWords.{part_word-IsWord, length-part_word}
use Rattle.damage_laws.proofs.Within.{near_is}
use Rattle.damage_laws.proofs.CutHeader.{header_toward}
use Rattle.machine_laws.proofs.Lists.{parted-at}
use Rattle.ring_laws.specs.Laws.{ReadsTold}
use Rattle.ring_laws.proofs.Laws.{finished_zone_reads_told}
use Rattle.damage_laws.proofs.Corrections.{corrections_keep_reading}
use Rattle.machine_laws.specs.CutBoots.{CutBootMakesStores, CutBootLeavesRest, CutBootHolds, CutBootReads}
use Rattle.machine_laws.specs.CutBoots.{CutBootKeepsStops}
use Rattle.machine_spec.specs.States.{OffState, OffZone}
use Rattle.std.proofs.lemmas.Bool.Decides.{nat_tests}
use Rattle.machine_laws.proofs.OffStates.{memory_fits, memory_bytes, off_bytes}
use Rattle.machine_laws.proofs.PartedStates.{parted-state}
use Rattle.zone_spec.specs.Layouts.{zones_end}
use Rattle.machine_spec.specs.Zones.{zone_bytes}
use Rattle.damage_laws.specs.CutErasures.{ReadsAlike, after_boot_stores}
use Rattle.std.proofs.Math.Nat.{min-eq_left, min-eq_right, min-le_right}
use Rattle.list_laws.proofs.Slices.{length-slice_range, get_or-slice_range}
use Rattle.list_laws.proofs.Elements.{AllByRecursion-append, take-append}
use Rattle.machine_spec.specs.BootPart.{boot_cut, moved, image_boot_stores, boot_count, left_at, boot_parted}
use Rattle.machine_spec.specs.BootPart.{zone_parted, zone_finished, zone_cut}

-- ---- stores inside and outside a zone
InZone : ℕ → Store → Type 0
InZone size s = s.place + length s.bytes ≤ size

Outside : Zone → Store → Type 0
Outside z s = (s.place + length s.bytes ≤ z.at) ⊎ (z.at + z.size ≤ s.place)

zone_byte : (z : Zone) (x : List ℕ) (i : ℕ) → i < z.size → get_or (zone_bytes z x) i 0 ≡ get_or x (z.at + i) 0
zone_byte z x i h = get_or-slice_range x z.at (z.at + z.size) i (omega arith)

zone_length : (z : Zone) (x : List ℕ) → z.at + z.size ≤ length x → length (zone_bytes z x) ≡ z.size
zone_length z x h = length-slice_range x z.at z.size h

put_outside : (z : Zone) (x : List ℕ) (s : Store) → z.at + z.size ≤ length x → Outside z s
    → zone_bytes z (put x s.place s.bytes) ≡ zone_bytes z x
unfolding Outside
put_outside z x s fits out =
    let n = zone_length z x fits in
    let m = zone_length z (put x s.place s.bytes) (omega (arith, length-put x s.place s.bytes)) in
    ext_get_or 0 (zone_bytes z (put x s.place s.bytes)) (zone_bytes z x) (m ∙ sym n)
    (λ i h. zone_byte z (put x s.place s.bytes) i (omega (arith, m))
    ∙ (elim out [
      | inl a ↦ put-above x s.place (z.at + i) s.bytes (omega arith)
      | inr b ↦ put-below x s.place (z.at + i) s.bytes (omega (arith, m))
    ])
    ∙ sym (zone_byte z x i (omega (arith, m))))

put_inside : (z : Zone) (x : List ℕ) (p : ℕ) (bs : List ℕ) → z.at + z.size ≤ length x → p + length bs ≤ z.size
    → zone_bytes z (put x (z.at + p) bs) ≡ put (zone_bytes z x) p bs
put_inside z x p bs fits inside =
    let n = zone_length z x fits in
    let m = zone_length z (put x (z.at + p) bs) (omega (arith, length-put x (z.at + p) bs)) in
    ext_get_or 0 (zone_bytes z (put x (z.at + p) bs)) (put (zone_bytes z x) p bs)
    (m ∙ sym n ∙ sym (length-put (zone_bytes z x) p bs))
    (λ i h. zone_byte z (put x (z.at + p) bs) i (omega (arith, m))
    ∙ elim (cases_lt i p) [
      | inl a ↦ put-below x (z.at + p) (z.at + i) bs (omega arith) ∙ sym (zone_byte z x i (omega (arith, m)))
          ∙ sym (put-below (zone_bytes z x) p i bs a)
      | inr b ↦ elim (cases_lt i (p + length bs)) [
        | inl c ↦ ap (λ k. get_or (put x (z.at + p) bs) k 0)
            (let e : z.at + i ≡ (z.at + p) + (i - p) = omega arith in e)
            ∙ put-inside x (z.at + p) (i - p) bs (omega arith) (omega arith)
            ∙ sym (put-inside (zone_bytes z x) p (i - p) bs (omega (arith, n)) (omega arith))
            ∙ ap (λ k. get_or (put (zone_bytes z x) p bs) k 0) (let e : p + (i - p) ≡ i = omega arith in e)
        | inr d ↦ put-above x (z.at + p) (z.at + i) bs (omega arith) ∙ sym (zone_byte z x i (omega (arith, m)))
            ∙ sym (put-above (zone_bytes z x) p i bs d)
      ]
    ])

after_outside : (z : Zone) (ss : List Store) (x : List ℕ) → z.at + z.size ≤ length x → AllByRecursion (Outside z) ss
    → zone_bytes z (after_stores x ss) ≡ zone_bytes z x
unfolding after_stores
after_outside z [] x fits h = refl
after_outside z (s ∷ ss) x fits h = after_outside z ss (put x s.place s.bytes)
    (omega (arith, length-put x s.place s.bytes)) h.1 ∙ put_outside z x s fits h.0

after_inside : (z : Zone) (ss : List Store) (x : List ℕ) → z.at + z.size ≤ length x
    → AllByRecursion (InZone z.size) ss → zone_bytes z (after_stores x (map (λ s. moved z.at s) ss))
    ≡ after_stores (zone_bytes z x) ss
unfolding after_stores InZone
after_inside z [] x fits h = refl
after_inside z (s ∷ ss) x fits h =
    after_inside z ss (put x (z.at + s.place) s.bytes) (omega (arith, length-put x (z.at + s.place) s.bytes)) h.1
    ∙ ap (λ y. after_stores y ss) (put_inside z x s.place s.bytes fits h.0)

-- ---- where the zones lie
abbrev Located : List Zone → ℕ → Type 0
Located zs base = (i : ℕ) (z : Zone) → slice_get zs i ≡ Some z → z.at ≡ base + zones_end (take i zs)

abbrev Inside : List Zone → List ℕ → Type 0
Inside zs image = (i : ℕ) (z : Zone) → slice_get zs i ≡ Some z
    → AllByRecursion (InZone z.size) (boot_stores z (zone_bytes z image))

located_tail : (y : Zone) (ys : List Zone) (base : ℕ) → Located (y ∷ ys) base → Located ys (base + y.size)
located_tail y ys base h i z e = h (suc i) z e ∙ omega (arith, sum_by-cons (λ (v : Zone). v.size) y (take i ys))

moved_outside : (z y : Zone) (ss : List Store) → AllByRecursion (InZone y.size) ss
    → (y.at + y.size ≤ z.at) ⊎ (z.at + z.size ≤ y.at) → AllByRecursion (Outside z) (map (λ s. moved y.at s) ss)
unfolding InZone Outside
moved_outside z y [] h side = tt
moved_outside z y (s ∷ ss) h side = (
  elim side [ inl a ↦ inl (omega (arith, h.0)) | inr b ↦ inr (omega arith) ],
  moved_outside z y ss h.1 side,
)

-- the stores of zones behind z
behind_outside : (z : Zone) (image : List ℕ) (zs : List Zone) (base : ℕ) → z.at + z.size ≤ base → Located zs base
    → Inside zs image → AllByRecursion (Outside z) (image_boot_stores zs image)
behind_outside z image [] base h loc ins = tt
behind_outside z image (y ∷ ys) base h loc ins =
    let at : y.at ≡ base + zones_end [] = loc 0 y refl in
    AllByRecursion-append (Outside z) (map (λ s. moved y.at s) (boot_stores y (zone_bytes y image)))
    (image_boot_stores ys image)
    (moved_outside z y (boot_stores y (zone_bytes y image)) (ins 0 y refl) (inr (omega (arith, at))))
    (behind_outside z image ys (base + y.size) (omega arith) (located_tail y ys base loc) (λ i v e. ins (suc i) v e))

-- a zone's bytes after some of the stores of a boot are its own after so many of its own
zone_after : (image : List ℕ) (zs : List Zone) (base k : ℕ) (x : List ℕ) (i : ℕ) (z : Zone) → slice_get zs i ≡ Some z
    → Located zs base → Inside zs image → z.at + z.size ≤ length x
    → zone_bytes z (after_stores x (take k (image_boot_stores zs image)))
    ≡ after_stores (zone_bytes z x) (take (k - boot_count (take i zs) image) (boot_stores z (zone_bytes z image)))
zone_after image [] base k x i z e loc ins fits = (let b : Some z ≡ None = sym e in cc)
zone_after image (y ∷ ys) base k x zero z e loc ins fits =
    let s : y ≡ z = cc in
    subst (λ v. zone_bytes z (after_stores x (take k (image_boot_stores (v ∷ ys) image)))
    ≡ after_stores (zone_bytes z x) (take (k - 0) (boot_stores z (zone_bytes z image)))) (sym s)
    (let own : List Store = boot_stores z (zone_bytes z image) in
    let a : List Store = map (λ s. moved z.at s) own in
    let c : List Store = image_boot_stores ys image in
    let at : z.at ≡ base + zones_end [] = subst (λ (v : Zone). v.at ≡ base + zones_end []) s (loc 0 y refl) in
    let size : y.size ≡ z.size = ap (λ (v : Zone). v.size) s in
    let k_is : k ≡ k - 0 = omega arith in
    ap (λ ss. zone_bytes z (after_stores x ss)) (take-append k a c)
    ∙ ap (zone_bytes z) (after_stores-append x (take k a) (take (k - length a) c))
    ∙ after_outside z (take (k - length a) c) (after_stores x (take k a))
    (omega (arith, length-after_stores x (take k a)))
    (all-take (Outside z) (k - length a) c (behind_outside z image ys (base + y.size) (omega (arith, at, size))
    (located_tail y ys base loc) (λ j v f. ins (suc j) v f)))
    ∙ ap (λ ss. zone_bytes z (after_stores x ss)) (take-map (λ s. moved z.at s) k own)
    ∙ after_inside z (take k own) x fits (all-take (InZone z.size) k own (ins 0 z (ap Some s)))
    ∙ ap (λ n. after_stores (zone_bytes z x) (take n own)) k_is)
zone_after image (y ∷ ys) base k x (suc i) z e loc ins fits =
    let own : List Store = boot_stores y (zone_bytes y image) in
    let a : List Store = map (λ s. moved y.at s) own in
    let c : List Store = image_boot_stores ys image in
    let at : y.at ≡ base + zones_end [] = loc 0 y refl in
    let far : z.at ≡ (base + y.size) + zones_end (take i ys) = located_tail y ys base loc i z e in
    let x1 : List ℕ = after_stores x (take k a) in
    let same : zone_bytes z x1 ≡ zone_bytes z x = after_outside z (take k a) x fits
    (all-take (Outside z) k a (moved_outside z y own (ins 0 y refl) (inl (omega (arith, at, far))))) in
    let less : (k - length a) - boot_count (take i ys) image ≡ k - boot_count (y ∷ take i ys) image =
    omega (arith, length-append a (image_boot_stores (take i ys) image)) in
    ap (λ ss. zone_bytes z (after_stores x ss)) (take-append k a c)
    ∙ ap (zone_bytes z) (after_stores-append x (take k a) (take (k - length a) c))
    ∙ zone_after image ys (base + y.size) (k - length a) x1 i z e (located_tail y ys base loc)
    (λ j v f. ins (suc j) v f) (omega (arith, length-after_stores x (take k a)))
    ∙ ap₂ (λ b n. after_stores b (take n (boot_stores z (zone_bytes z image)))) same less

-- ---- a boot's stores lie in the zone

bytes_in : (size place : ℕ) (bs : List ℕ) → place + length bs ≤ size
    → AllByRecursion (InZone size) (byte_stores place bs)
unfolding byte_stores InZone
bytes_in size place [] h = tt
bytes_in size place (b ∷ bs) h = (omega arith, bytes_in size (place + 1) bs (omega arith))

abbrev IsErasure : Stage → Type 0
IsErasure (SigWord n) = Unit {0}
IsErasure (StartWord n) = Unit {0}
IsErasure (SizeWord n) = Unit {0}
IsErasure (Run place bytes) = ⊥
IsErasure (ParityOf Header) = Unit {0}
IsErasure (ParityOf (Block b)) = ⊥

module _ (z : Zone) (valid : IsValidZone z) where
  stage_in : (g : Stage) (x : List ℕ) → IsErasure g → AllByRecursion (InZone z.size) (stage_stores z g x)
  unfolding stage_stores InZone
  stage_in (SigWord n) x h = (omega (arith, valid.at_least), tt)
  stage_in (StartWord n) x h = (omega (arith, valid.at_least), tt)
  stage_in (SizeWord n) x h = (omega (arith, valid.at_least), tt)
  stage_in (Run place bytes) x h = absurd h
  stage_in (ParityOf Header) x h = bytes_in z.size (part_parity_at z Header)
      (parity_of z.parity (part_bytes z x Header)) (omega
      (arith, part_fits z Header valid tt, parity_length z.parity (part_bytes z x Header)))
  stage_in (ParityOf (Block b)) x h = absurd h

  turn_in : (gs : List Stage) (x : List ℕ) → AllByRecursion IsErasure gs
      → AllByRecursion (InZone z.size) (stores_in_turn z gs x)
  unfolding stores_in_turn
  turn_in [] x h = tt
  turn_in (g ∷ gs) x h = AllByRecursion-append (InZone z.size) (stage_stores z g x) _ (stage_in g x h.0)
      (turn_in gs (after_stores x (stage_stores z g x)) h.1)

  erasure_in : (b : Bool) (s : State) → AllByRecursion IsErasure (cond b [] (signing z s ++ erase_stages))
  erasure_in true s = tt
  erasure_in false Unsigned = (tt, (tt, (tt, (tt, tt))))
  erasure_in false Empty = (tt, (tt, (tt, tt)))
  erasure_in false Invalid = (tt, (tt, (tt, tt)))
  erasure_in false Found = (tt, (tt, (tt, tt)))

  fixes_in : (image : List ℕ) (ss : List Store) → AllByRecursion (Fixes z image (IsPartOf z)) ss
      → AllByRecursion (InZone z.size) ss
  unfolding InZone
  fixes_in image [] h = tt
  fixes_in image (s ∷ ss) h = (omega (arith, ap length h.0.3, ends h.0.0 h.0.2, h.0.4.high), fixes_in image ss h.1)
    where
      ends : (p : Part) → IsPartOf z p → part_at z p + part_len z p ≤ z.size
      ends Header own = omega (arith, valid.at_least)
      ends (Block b) own = omega (arith, valid.cap)

  stores_in : (now : List ℕ) → IsImage z now → AllByRecursion (InZone z.size) (boot_stores z now)
  unfolding boot_stores boot_erasure
  stores_in now im =
      AllByRecursion-append (InZone z.size) (boot_fixes z now) _
      (fixes_in now (boot_fixes z now) (boot_fixes-all z valid now im))
      (turn_in (boot_erasure z now) (after_stores now (boot_fixes z now))
      (erasure_in (keeps z (zone_reading z now)) (zone_reading z now).state))

  -- ---- a zone that is left
  within_left : (stop now y : List ℕ) (part : Part) → IsImage z stop → IsImage z now → IsMended z now y part
      → IsWithinBounds z stop now part → IsWithinBounds z stop y part
  within_left stop now y part hs hn mended (inl sound) =
      let c : List ℕ = sound.0 in
      let near : IsNear z.parity (part_word z stop part) c =
      nearest-IsNear z.parity (part_word z stop part) c (part_word-IsWord z stop part hs.1) sound.1 in
      let here : nearest z.parity (part_word z now part) ≡ Some c =
      near_is z now part c valid hn.1 (record {
        codeword = near.codeword;
        within = sound.2;
        word = subst (λ n. IsWord n c) (sym (length-part_word z now stop part (hn.0 ∙ sym hs.0))) near.word;
      }) in
      inl (c, sound.1, omega (arith, mended.stands.closer c here, sound.2))
  within_left stop now y part hs hn mended (inr same) = by (nearest z.parity (part_word z now part)) refl
    where
      by : (o : Option (List ℕ)) → nearest z.parity (part_word z now part) ≡ o → IsWithinBounds z stop y part
      by None e = inr (mended.stands.none e ∙ same)
      by (Some c) e =
          let near : IsNear z.parity (part_word z now part) c =
          nearest-IsNear z.parity (part_word z now part) c (part_word-IsWord z now part hn.1) e in
          inl (c, ap (nearest z.parity) (sym same) ∙ e, omega (arith, mended.stands.closer c e, near.within))

  damage_left : (stop now : List ℕ) (k : ℕ) → IsImage z stop → IsImage z now → IsNotDamagedFurther z stop now
      → IsNotDamagedFurther z stop (after_stores now (take k (boot_fixes z now)))
  damage_left stop now k hs hn h i l =
      let y : List ℕ = after_stores now (take k (boot_fixes z now)) in
      let t = fixed_toward z (IsPartOf z) now y Header valid (length-after_stores now (take k (boot_fixes z now)))
      (λ j. some_fixed z now (IsPartOf z) (take k (boot_fixes z now)) now j
      (all-take (Fixes z now (IsPartOf z)) k (boot_fixes z now) (boot_fixes-all z valid now hn)) (inl refl)) i
      (omega (arith, (header_length z now valid hn).1)) in
      elim t [
        | inl e ↦ elim (h i l) [ inl a ↦ inl (e ∙ a) | inr b ↦ inr (b.0, b.1, e ∙ b.2) ]
        | inr b ↦ inr (b.0, sym (header_toward z stop now valid hs hn h).stands.same ∙ b.1, b.2)
      ]

pub count_within : (image : List ℕ) (zs : List Zone) (i : ℕ) (z : Zone) → slice_get zs i ≡ Some z
    → boot_count (take i zs) image + length (boot_stores z (zone_bytes z image)) ≤ boot_count zs image
count_within image [] i z e = (let b : Some z ≡ None = sym e in cc)
count_within image (y ∷ ys) zero z e =
    let s : y ≡ z = cc in
    omega (
      arith,
      length-append (map (λ s. moved y.at s) (boot_stores y (zone_bytes y image)))
          (image_boot_stores ys image),
      length-map (boot_stores y (zone_bytes y image)) (λ s. moved y.at s),
      ap (λ (v : Zone). length (boot_stores v (zone_bytes v image))) s,
    )
count_within image (y ∷ ys) (suc i) z e =
    omega (
      arith,
      count_within image ys i z e,
      length-append
          (map (λ s. moved y.at s) (boot_stores y (zone_bytes y image))) (image_boot_stores ys image),
      length-append (map (λ s. moved y.at s) (boot_stores y (zone_bytes y image)))
          (image_boot_stores (take i ys) image),
    )

-- by how far the boot came in the zone
left_or_stopped : (z : Zone) (old : OffZone) (now later : List ℕ) (all : Bool) (n : ℕ) → IsValidZone z
    → IsImage z old.stop → IsImage z now → later ≡ after_stores now (take n (boot_stores z now))
    → (all ≡ true → length (boot_stores z now) ≤ n)
    → ((zone_parted z now all n old ≡ old) × ((part : Part) → IsPartOf z part → IsWithinBounds z old.stop now part
    → IsWithinBounds z old.stop later part) × (IsNotDamagedFurther z old.stop now
    → IsNotDamagedFurther z old.stop later))
    ⊎ ((zone_parted z now all n old).stop ≡ later)
unfolding boot_stores
left_or_stopped z old now later all n valid hs hn is whole =
    by (all || (nat_lt 0 n && nat_le (length (boot_stores z now)) n)) refl (nat_lt (length (boot_fixes z now)) n) refl
  where
    rest : List Store
    rest = stores_in_turn z (boot_erasure z now) (after_stores now (boot_fixes z now))

    long : (a c : Bool) → a ≡ all → c ≡ nat_le (length (boot_stores z now)) n → (d : Bool) → (a || (d && c)) ≡ true
        → length (boot_stores z now) ≤ n
    long true c e f d g = whole (sym e)
    long false true e f true g = leb-true (length (boot_stores z now)) n (sym f)
    long false true e f false g = absurd (true≢false (sym g))
    long false false e f true g = absurd (true≢false (sym g))
    long false false e f false g = absurd (true≢false (sym g))

    by : (b : Bool) → (all || (nat_lt 0 n && nat_le (length (boot_stores z now)) n)) ≡ b → (c : Bool)
        → nat_lt (length (boot_fixes z now)) n ≡ c
        → ((cond b (zone_finished z now) (cond c (zone_cut z now n old) old) ≡ old)
        × ((part : Part) → IsPartOf z part → IsWithinBounds z old.stop now part
        → IsWithinBounds z old.stop later part) × (IsNotDamagedFurther z old.stop now
        → IsNotDamagedFurther z old.stop later))
        ⊎ ((cond b (zone_finished z now) (cond c (zone_cut z now n old) old)).stop ≡ later)
    by true e c f = inr (sym (is ∙ ap (after_stores now)
        (take_all n (boot_stores z now) (long all (nat_le (length (boot_stores z now)) n) refl refl (nat_lt 0 n) e))))
    by false e true f = inr (sym is)
    by false e false f =
        let most : n ≤ length (boot_fixes z now) = ltb-false (length (boot_fixes z now)) n f in
        let at : later ≡ after_stores now (take n (boot_fixes z now)) =
        is ∙ ap (after_stores now) (take-append-le n (boot_fixes z now) rest most) in
        inl (
          refl,
          (λ part own h. subst (λ y. IsWithinBounds z old.stop y part) (sym at)
              (within_left z valid old.stop now (after_stores now (take n (boot_fixes z now))) part hs hn
              (fixed_mended z valid now hn n part) h)),
          (λ h. subst (IsNotDamagedFurther z old.stop) (sym at) (damage_left z valid old.stop now n hs hn h)),
        )

pub cut_boot_makes_stores : CutBootMakesStores
cut_boot_makes_stores layout mem off k i z lies memory hz =
    zone_after off.image layout 0 k off.image i z hz (λ j y e. (lies.valid j y e).1 ∙ omega arith)
    (λ j y e. stores_in y (lies.valid j y e).0 (zone_bytes y off.image)
    (memory_bytes layout mem lies off.image memory j y e))
    (memory_fits layout mem lies off.image memory i z hz)

-- ---- behind the last zone

Below : ℕ → Store → Type 0
Below e s = s.place + length s.bytes ≤ e

after_below : (e : ℕ) (ss : List Store) (x : List ℕ) (i : ℕ) → e ≤ i → AllByRecursion (Below e) ss
    → get_or (after_stores x ss) i 0 ≡ get_or x i 0
unfolding after_stores Below
after_below e [] x i h k = refl
after_below e (s ∷ ss) x i h k = after_below e ss (put x s.place s.bytes) i h k.1
    ∙ put-above x s.place i s.bytes (omega (arith, k.0))

moved_below : (y : Zone) (e : ℕ) (ss : List Store) → y.at + y.size ≤ e → AllByRecursion (InZone y.size) ss
    → AllByRecursion (Below e) (map (λ s. moved y.at s) ss)
unfolding InZone Below
moved_below y e [] h k = tt
moved_below y e (s ∷ ss) h k = (omega (arith, k.0), moved_below y e ss h k.1)

stores_below : (image : List ℕ) (zs : List Zone) (base : ℕ) → Located zs base → Inside zs image
    → AllByRecursion (Below (base + zones_end zs)) (image_boot_stores zs image)
stores_below image [] base loc ins = tt
stores_below image (y ∷ ys) base loc ins =
    let at : y.at ≡ base + zones_end [] = loc 0 y refl in
    let total : (base + y.size) + zones_end ys ≡ base + zones_end (y ∷ ys) =
    omega (arith, sum_by-cons (λ (v : Zone). v.size) y ys) in
    AllByRecursion-append (Below (base + zones_end (y ∷ ys)))
    (map (λ s. moved y.at s) (boot_stores y (zone_bytes y image)))
    (image_boot_stores ys image)
    (moved_below y (base + zones_end (y ∷ ys)) (boot_stores y (zone_bytes y image)) (omega (arith, at, total))
    (ins 0 y refl))
    (subst (λ e. AllByRecursion (Below e) (image_boot_stores ys image)) total
    (stores_below image ys (base + y.size) (located_tail y ys base loc) (λ i v e. ins (suc i) v e)))

pub cut_boot_leaves_rest : CutBootLeavesRest
cut_boot_leaves_rest layout mem off k lies memory =
    let image : List ℕ = off.image in
    let ss : List Store = take k (image_boot_stores layout image) in
    let e : ℕ = zones_end layout in
    let whole : AllByRecursion (Below (0 + e)) (image_boot_stores layout image) =
    stores_below image layout 0 (λ j y h. (lies.valid j y h).1 ∙ omega arith)
    (λ j y h. stores_in y (lies.valid j y h).0 (zone_bytes y image) (memory_bytes layout mem lies image memory j y h))
    in
    let n : 0 + e ≡ e = omega arith in
    let below : AllByRecursion (Below e) ss = all-take (Below e) k (image_boot_stores layout image)
    (subst (λ m. AllByRecursion (Below m) (image_boot_stores layout image)) n whole) in
    ext_get_or 0 (drop e (after_stores image ss)) (drop e image)
    (omega (arith, length-drop e (after_stores image ss), length-drop e image, length-after_stores image ss))
    (λ i h. get_or-drop e (after_stores image ss) i 0 ∙ after_below e ss image (e + i) (omega arith) below
    ∙ sym (get_or-drop e image i 0))

-- the stores made before the erasure, or where there is none, are the corrections made
mended_of : (z : Zone) (now : List ℕ) (n : ℕ) → (n ≤ length (boot_fixes z now)) ⊎ (boot_erasure z now ≡ [])
    → after_boot_stores z now (min n (length (boot_fixes z now))) ≡ after_boot_stores z now n
unfolding boot_stores stores_in_turn
mended_of z now n (inl h) = ap (after_boot_stores z now) (min-eq_left h)
mended_of z now n (inr none) = elim (cases_lt n (length (boot_fixes z now))) [
  | inl a ↦ ap (after_boot_stores z now) (min-eq_left (omega (arith, a)))
  | inr b ↦
      let all : boot_stores z now ≡ boot_fixes z now =
      ap (λ gs. boot_fixes z now ++ stores_in_turn z gs (after_stores now (boot_fixes z now))) none
      ∙ append-nil (boot_fixes z now) in
      let m : min n (length (boot_fixes z now)) ≡ length (boot_fixes z now) = min-eq_right b in
      ap (after_stores now) (
      ap₂ take m all ∙ take_all (length (boot_fixes z now)) (boot_fixes z now) (omega arith)
      ∙ sym (ap (take n) all ∙ take_all n (boot_fixes z now) b))
]

pub cut_boot_reads : CutBootReads
cut_boot_reads layout mem off k i z lies memory hz =
    let now : List ℕ = zone_bytes z off.image in
    let n : ℕ = left_at layout off.image k i in
    let is : after_stores now (take n (boot_stores z now)) ≡ zone_bytes z (boot_parted layout k off).image =
    sym (cut_boot_makes_stores layout mem off k i z lies memory hz) in
    let valid : IsValidZone z = (lies.valid i z hz).0 in
    let im : IsImage z now = memory_bytes layout mem lies off.image memory i z hz in
    record {
      not_begun = λ h. subst (λ x. ReadsAlike z now x (min n (length (boot_fixes z now)))) (mended_of z now n h ∙ is)
          (corrections_keep_reading z now (min n (length (boot_fixes z now))) valid im
          (min-le_right n (length (boot_fixes z now))));
      finished = λ h. subst (λ x. ReadsTold z x (told_by_boot z now))
          (sym (ap (after_stores now) (take_all n (boot_stores z now) h)) ∙ is)
          (finished_zone_reads_told z now valid im);
    }

-- a zone of the state that a cut boot leaves
pub new_zone : (layout : List Zone) (off : OffState) (k i : ℕ) (z : Zone) (old new : OffZone)
    → slice_get layout i ≡ Some z → slice_get off.zones i ≡ Some old
    → slice_get (boot_parted layout k off).zones i ≡ Some new
    → zone_parted z (zone_bytes z off.image) (nat_le (boot_count layout off.image) k) (left_at layout off.image k i)
    old ≡ new
new_zone layout off k i z old new hz ho hv =
    let image : List ℕ = off.image in
    let r = parted-at image (nat_le (boot_count layout image) k) layout k off.zones i z new hz hv in
    let same : r.0 ≡ old = (let e : Some r.0 ≡ Some old = sym r.1 ∙ ho in cc) in
    ap (zone_parted z (zone_bytes z image) (nat_le (boot_count layout image) k) (left_at layout image k i)) (sym same)
    ∙ r.2

-- the tests of zone_parted
done_is : (z : Zone) (now : List ℕ) (all : Bool) (n : ℕ) (old : OffZone)
    → (all ≡ true) ⊎ ((0 < n) × (length (boot_stores z now) ≤ n)) → zone_parted z now all n old ≡ zone_finished z now
done_is z now all n old h = ap (λ b. cond b (zone_finished z now)
    (cond (nat_lt (length (boot_fixes z now)) n) (zone_cut z now n old) old)) (elim h [
      | inl e ↦ or_left all (nat_lt 0 n && nat_le (length (boot_stores z now)) n) e
      | inr p ↦ right all (nat_lt 0 n) (nat_le (length (boot_stores z now)) n) (grind (arith, nat_tests, p.0))
          (grind (arith, nat_tests, p.1))
    ])
  where
    right : (a b c : Bool) → b ≡ true → c ≡ true → (a || (b && c)) ≡ true
    right true b c e f = refl
    right false true c e f = f
    right false false c e f = absurd (true≢false (sym e))

not_done : (a b c : Bool) → a ≡ false → (b ≡ false) ⊎ (c ≡ false) → (a || (b && c)) ≡ false
not_done true b c e h = absurd (true≢false e)
not_done false true c e (inl h) = absurd (true≢false h)
not_done false true c e (inr h) = h
not_done false false c e h = refl

rest_is : (z : Zone) (now : List ℕ) (all : Bool) (n : ℕ) (old : OffZone) (c : Bool) → all ≡ false
    → (n ≡ 0) ⊎ (n < length (boot_stores z now)) → nat_lt (length (boot_fixes z now)) n ≡ c
    → zone_parted z now all n old ≡ cond c (zone_cut z now n old) old
rest_is z now all n old c e h f =
    ap₂ (λ b d. cond b (zone_finished z now) (cond d (zone_cut z now n old) old))
    (not_done all (nat_lt 0 n) (nat_le (length (boot_stores z now)) n) e (elim h [
      | inl m ↦ inl (grind (arith, nat_tests, m))
      | inr m ↦ inr (grind (arith, nat_tests, m))
    ])) f

pub cut_boot_holds : CutBootHolds
cut_boot_holds layout mem off k i z old new lies memory hz ho hv =
    let image : List ℕ = off.image in
    let now : List ℕ = zone_bytes z image in
    let n : ℕ = left_at layout image k i in
    let all : Bool = nat_le (boot_count layout image) k in
    let is : zone_parted z now all n old ≡ new = new_zone layout off k i z old new hz ho hv in
    let made : zone_bytes z (boot_parted layout k off).image ≡ after_stores now (take n (boot_stores z now)) =
    cut_boot_makes_stores layout mem off k i z lies memory hz in
    let within : boot_count layout image ≤ k → length (boot_stores z now) ≤ n =
    (λ h. omega (arith, h, count_within image layout i z hz)) in
    record {
      finished = λ h.
          let e : zone_finished z now ≡ new = sym (done_is z now all n old
          (elim h [ inl a ↦ inl (le-leb (boot_count layout image) k a) | inr p ↦ inr p ])) ∙ is in
          let most : length (boot_stores z now) ≤ n = elim h [ inl a ↦ within a | inr p ↦ p.1 ] in
          sym e ∙ ap (λ bytes. record { stop = bytes; told = Some (told_by_boot z now); cut = None })
          (sym (made ∙ ap (after_stores now) (take_all n (boot_stores z now) most)));
      erasing = λ h.
          let some : all ≡ false = elim (cases_lt k (boot_count layout image))
          [ inl a ↦ grind (arith, nat_tests, a) | inr b ↦ absurd (omega (arith, within b, h.1)) ] in
          let e : zone_cut z now n old ≡ new = sym (rest_is z now all n old true some (inr h.1)
          (grind (arith, nat_tests, h.0))) ∙ is in
          sym e ∙ ap (λ bytes. record { stop = bytes; told = old.told; cut = Some (boot_cut z now n) }) (sym made);
      not_begun = λ some few left. sym (sym (rest_is z now all n old false (grind (arith, nat_tests, some)) left
          (grind (arith, nat_tests, few))) ∙ is);
    }

pub cut_boot_keeps_stops : CutBootKeepsStops
cut_boot_keeps_stops layout mem off k lies state = (
  parted-state layout mem lies k off state,
  λ i z old new hz ho hv.
      let image : List ℕ = off.image in
      let now : List ℕ = zone_bytes z image in
      let valid : IsValidZone z = (lies.valid i z hz).0 in
      let later : List ℕ = zone_bytes z (boot_parted layout k off).image in
      let is : later ≡ after_stores now (take (left_at layout image k i) (boot_stores z now)) =
      cut_boot_makes_stores layout mem off k i z lies state.image hz in
      let new_is : zone_parted z now (nat_le (boot_count layout image) k) (left_at layout image k i) old ≡ new =
      new_zone layout off k i z old new hz ho hv in
      let sides = left_or_stopped z old now later (nat_le (boot_count layout image) k) (left_at layout image k i)
      valid (state.zones.1 i z old hz ho).size (off_bytes layout mem lies off state i z hz) is
      (λ e. (let m : boot_count layout image ≤ k = leb-true (boot_count layout image) k e in
      omega (arith, m, count_within image layout i z hz))) in
      elim sides [
        | inl a ↦ inl (sym new_is ∙ a.0, a.1, a.2)
        | inr b ↦ inr (ap (λ (v : OffZone). v.stop) (sym new_is) ∙ b)
      ],
)
