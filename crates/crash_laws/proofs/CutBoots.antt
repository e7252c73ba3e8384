-- A boot that is cut makes no store in a zone that it would keep as it stands
use Rattle.std.proofs.Common.{◌≡◌, ℕ, zero, suc, ◌+◌, ◌-◌, ◌*◌, ◌/◌, ◌<◌, Bool, true, false, cond, ◌&&◌, ◌||◌, nat_lt}
use Rattle.std.proofs.Common.{nat_le, List, [], ◌∷◌, ◌++◌, length, take, flat_map, slice_get, get_or, Some, None, refl}
use Rattle.std.proofs.Common.{sym, ap, ap₂, ◌∙◌, subst, arith, inl, inr, eq-eqb, true≢false}
use Rattle.std.specs.List.{range_with_len}
use Rattle.std.proofs.lemmas.Option.{slice_get-get_or, slice_get_within}
use Rattle.zone_spec.specs.declared.Zone.{Zone}
use Rattle.zone_spec.specs.declared.Kind.TheVariants.{Dump as DumpKind}
use Rattle.zone_spec.specs.declared.State.{State}
use Rattle.zone_spec.specs.declared.State.TheVariants.{Found}
use Rattle.zone_spec.specs.declared.Words.{Words}
use Rattle.zone_spec.specs.Zones.{IsValidZone}
use Rattle.zone_spec.specs.Parts.{Part, Header, Block, part_at, part_bytes, standing_words}
use Rattle.zone_spec.specs.Stores.{Store, after_stores}
use Rattle.zone_spec.specs.Stages.{Stage, stores_in_turn}
use Rattle.zone_spec.specs.Calls.{erase_stages}
use Rattle.zone_spec.specs.Reading.{zone_reading, blocks_below}
use Rattle.zone_spec.specs.Ring.{IsRingForm, ReadsAsStands}
use Rattle.zone_spec.specs.Boot.{fix_stores, part_fixes, blocks_read, boot_fixes, boot_erasure, boot_stores, signing}
use Rattle.zone_spec.specs.Boot.{keeps}
use Rattle.machine_spec.specs.States.{OffZone}
use Rattle.zone_spec.specs.Records.{is_of}
use Rattle.zone_spec.specs.TimeLines.{has_line}
use Rattle.zone_spec.specs.Layouts.{IsLayout}
use Rattle.machine_spec.specs.States.{OffState, Off}
use Rattle.machine_spec.specs.Zones.{zone_bytes}
use Rattle.machine_spec.specs.Sound.{IsState}
use Rattle.machine_spec.specs.BootPart.{zone_parted, zone_finished, zone_cut, boot_parted, boot_count, left_at}
use Rattle.machine_laws.proofs.Lists.{length-parted}
use Rattle.machine_laws.proofs.CutBoot.{cut_boot_makes_stores, new_zone}
use Rattle.crash_laws.specs.Standing.{IsToldOff}
use Rattle.crash_laws.proofs.Stops.{dump_kind, kept_is, ring_told, reads_told, found_told, told_kept}
use Rattle.std.proofs.lemmas.Bool.Decides.{nat_tests}
use Rattle.ring_laws.proofs.ReadingLaw.{part_reading-stands}

-- ---- no corrections

fix_same : (place : ℕ) (bytes : List ℕ) → fix_stores place bytes bytes ≡ []
unfolding fix_stores
fix_same place [] = refl
fix_same place (b ∷ bs) =
    ap₂ (λ (xs ys : List Store). xs ++ ys)
    (ap (λ (t : Bool). cond t [] (record { place = place; bytes = b ∷ [] } ∷ [])) (eq-eqb b b refl))
    (fix_same (place + 1) bs)

part_none : (z : Zone) (now : List ℕ) (part : Part) → ReadsAsStands z now part → part_fixes z now part ≡ []
part_none z now part stands =
    ap (λ (xs : List ℕ). fix_stores (part_at z part) (part_bytes z now part) xs)
    (part_reading-stands z now part stands) ∙ fix_same (part_at z part) (part_bytes z now part)

flat_range : (f : ℕ → List Store) (a n : ℕ) → ((b : ℕ) → b < a + n → f b ≡ [])
    → flat_map f (range_with_len a n) ≡ []
flat_range f a zero none = refl
flat_range f a (suc n) none =
    ap₂ (λ (xs ys : List Store). xs ++ ys) (none a (omega arith))
    (flat_range f (a + 1) n (λ b l. none b (omega (arith, l))))

-- a block of the first n bytes begins below n
begins_below : (z : Zone) (b n : ℕ) → IsValidZone z → b < 0 + ((n + z.block - 1) / z.block) → z.block * b < n
begins_below z b n valid lt = elim valid.block [
  | inl e ↦
      (let l : b < 0 + ((n + 32 - 1) / 32) = subst (λ (k : ℕ). b < 0 + ((n + k - 1) / k)) e lt in
      subst (λ (k : ℕ). k * b < n) (sym e) (omega (arith, l)))
  | inr rest ↦ elim rest [
    | inl e ↦
        (let l : b < 0 + ((n + 64 - 1) / 64) = subst (λ (k : ℕ). b < 0 + ((n + k - 1) / k)) e lt in
        subst (λ (k : ℕ). k * b < n) (sym e) (omega (arith, l)))
    | inr e ↦
        (let l : b < 0 + ((n + 128 - 1) / 128) = subst (λ (k : ℕ). b < 0 + ((n + k - 1) / k)) e lt in
        subst (λ (k : ℕ). k * b < n) (sym e) (omega (arith, l)))
  ]
]

fixes_none : (z : Zone) (now told : List ℕ) → IsValidZone z → IsRingForm z now told
    → (zone_reading z now).state ≡ Found → (zone_reading z now).words ≡ standing_words z now → boot_fixes z now ≡ []
unfolding boot_fixes
fixes_none z now told valid ring state words =
    let reading = zone_reading z now in
    ap₂ (λ (xs ys : List Store). xs ++ ys) (part_none z now Header ring.header)
    (ap (λ (s : State). flat_map (λ (b : ℕ). part_fixes z now (Block b)) (blocks_read z reading s)) state
    ∙ ap (λ (w : Words). flat_map (λ (b : ℕ). part_fixes z now (Block b)) (blocks_below z w.size)) words
    ∙ flat_range (λ (b : ℕ). part_fixes z now (Block b)) 0
    (((standing_words z now).size + z.block - 1) / z.block)
    (λ b l. part_none z now (Block b)
    (ring.blocks b (begins_below z b (standing_words z now).size valid l))))

erasure_none : (z : Zone) (now : List ℕ) → keeps z (zone_reading z now) ≡ true → boot_erasure z now ≡ []
unfolding boot_erasure
erasure_none z now kept =
    ap (λ (b : Bool). cond b [] (signing z (zone_reading z now).state ++ erase_stages)) kept

pub stores_none : (z : Zone) (now told : List ℕ) → IsValidZone z → IsRingForm z now told
    → (zone_reading z now).state ≡ Found → (zone_reading z now).words ≡ standing_words z now
    → keeps z (zone_reading z now) ≡ true → (boot_stores z now ≡ []) × (boot_fixes z now ≡ [])
unfolding boot_stores stores_in_turn
stores_none z now told valid ring state words kept =
    let fixes = fixes_none z now told valid ring state words in
    let after = after_stores now (boot_fixes z now) in
    let none : stores_in_turn z (boot_erasure z now) after ≡ [] =
    ap (λ (gs : List Stage). stores_in_turn z gs after) (erasure_none z now kept) in
    (ap₂ (λ (xs ys : List Store). xs ++ ys) fixes none, fixes)

-- ---- a zone without stores

after_none : (now : List ℕ) (n : ℕ) (stores : List Store) → stores ≡ [] → after_stores now (take n stores) ≡ now
unfolding after_stores
after_none now n stores e = ap (λ (ss : List Store). after_stores now (take n ss)) e ∙ by n
  where
    by : (m : ℕ) → after_stores now (take m []) ≡ now
    by zero = refl
    by (suc m) = refl

all_none : (now : List ℕ) (stores : List Store) → stores ≡ [] → after_stores now stores ≡ now
unfolding after_stores
all_none now stores e = ap (λ (ss : List Store). after_stores now ss) e

module _ (P : OffZone → Type 0) (a b c : OffZone) (p : P a) (q : P b) where
  by_tests : (s t u : Bool) → s ≡ true → t ≡ true → P (cond (s && t) a (cond u c b))
  by_tests true true u e f = p
  by_tests true false u e f = absurd (true≢false (sym f))
  by_tests false t u e f = absurd (true≢false (sym e))

  by_count : (all : Bool) (n : ℕ) → P (cond (all || (nat_lt 0 n && nat_le 0 n)) a (cond (nat_lt 0 n) c b))
  by_count true n = p
  by_count false zero = q
  by_count false (suc n) = by_tests (nat_lt 0 (suc n)) (nat_le 0 (suc n)) (nat_lt 0 (suc n)) (grind (arith, nat_tests))
      (grind (arith, nat_tests))

  by_lists : (all : Bool) (n : ℕ) (stores fixes : List Store) → stores ≡ [] → fixes ≡ []
      → P (cond (all || (nat_lt 0 n && nat_le (length stores) n)) a (cond (nat_lt (length fixes) n) c b))
  by_lists all n stores fixes e f =
      subst (λ (ss : List Store). P (cond (all || (nat_lt 0 n && nat_le (length ss) n)) a
      (cond (nat_lt (length fixes) n) c b))) (sym e)
      (subst (λ (fs : List Store). P (cond (all || (nat_lt 0 n && nat_le 0 n)) a (cond (nat_lt (length fs) n) c b)))
      (sym f) (by_count all n))

-- what a zone that is off was told, with no cut, and these bytes at its stop
abbrev Stopped : List ℕ → List ℕ → OffZone → Type 0
Stopped told now w = (w.told ≡ Some told) × (w.cut ≡ None) × (w.stop ≡ now)

module _ (layout : List Zone) (mem : ℕ) (lies : IsLayout layout mem) (z : Zone) (place : ℕ)
    (hz : slice_get layout place ≡ Some z) (told : List ℕ) where
  pub part_keeps : (off : OffState) (limit : ℕ) → IsState layout mem (Off off) → is_of DumpKind z.name.kind ≡ true
      → has_line told ≡ true → IsToldOff z place told off → IsToldOff z place told (boot_parted layout limit off)
  part_keeps off limit state kind line k =
      let now = zone_bytes z off.image in
      let after = boot_parted layout limit off in
      let all = nat_le (boot_count layout off.image) limit in
      let left = left_at layout off.image limit place in
      let reads = reads_told layout mem lies z place hz told off state k in
      let found = found_told layout mem lies z place hz told off state line k in
      let kept = kept_is z (zone_reading z now) told found (dump_kind z.name.kind kind) reads.log line in
      let none = stores_none z now told (lies.valid place z hz).0
      (ring_told layout mem lies z place hz told off state k) found reads.words kept in
      let bytes : zone_bytes z after.image ≡ now =
      cut_boot_makes_stores layout mem off limit place z lies state.image hz ∙ after_none now left (boot_stores z now)
      none.0 in
      let long : length after.zones ≡ length layout =
      length-parted off.image all layout limit off.zones state.zones.0 in
      let within : place < length layout = slice_get_within layout place z hz in
      let new : OffZone = get_or after.zones place k.zone in
      let at : slice_get after.zones place ≡ Some new =
      slice_get-get_or after.zones place k.zone (omega (arith, long, within)) in
      let is : zone_parted z now all left k.zone ≡ new = new_zone layout off limit place z k.zone new hz k.at at in
      let finished : Stopped told now (zone_finished z now) = (
        ap (λ (xs : List ℕ). Some xs) (told_kept layout mem lies z place hz told off state kind line k),
        refl,
        all_none now (boot_stores z now) none.0,
      ) in
      let stayed : Stopped told now k.zone = (k.told_is, k.whole, sym k.undamaged) in
      let parted : Stopped told now (zone_parted z now all left k.zone) =
      by_lists (Stopped told now) (zone_finished z now) k.zone (zone_cut z now left k.zone) finished stayed all left
      (boot_stores z now) (boot_fixes z now) none.0 none.1 in
      let w : Stopped told now new = subst (Stopped told now) is parted in
      record {
        zone = new;
        at = at;
        told_is = w.0;
        whole = w.1;
        undamaged = bytes ∙ sym w.2;
      }
