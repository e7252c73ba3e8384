-- Where each byte of a log comes from, and zones that add nothing
use Rattle.std.proofs.Common.{◌≡◌, ℕ, ◌+◌, ◌*◌, ◌/◌, ◌%◌, ◌<◌, ◌≤◌, ◌⊎◌, inl, inr, true, false, cond, Bool, ◌==◌, List}
use Rattle.std.proofs.Common.{[], ◌∷◌, ◌++◌, length, map, flat_map, get_or, slice_get, slice_index, refl, sym, ap, ap₂}
use Rattle.std.proofs.Common.{◌∙◌, subst, arith, get_or-take, Option, Some, None}
use Rattle.std.specs.Prelude.{Contains, MatchOption}
use Rattle.std.proofs.lemmas.Bool.{cases_lt}
use Rattle.std.proofs.lemmas.Bool.Decides.{nat_tests}
use Rattle.list_laws.proofs.Gets.{slice_get-map_some}
use Rattle.list_laws.proofs.Slices.{length-slice_range}
use Rattle.zone_spec.specs.declared.Zone.{Zone}
use Rattle.zone_spec.specs.declared.Words.{Words}
use Rattle.zone_spec.specs.declared.Kind.{Kind}
use Rattle.zone_spec.specs.declared.Kind.TheVariants.{Dump, Console, Ftrace, Pmsg}
use Rattle.zone_spec.specs.declared.State.TheVariants.{Unsigned, Found}
use Rattle.zone_spec.specs.Zones.{IsValidZone}
use Rattle.code_spec.specs.Code.{nearest}
use Rattle.zone_spec.specs.Parts.{Block, part_len, part_bytes, part_word}
use Rattle.zone_spec.specs.PartReadings.{part_reading, reading_by, words_read}
use Rattle.zone_spec.specs.Reading.{ZoneReading, byte_read, log_places, blocks_below, state_of, reading_in}
use Rattle.zone_spec.specs.Reading.{zone_reading}
use Rattle.zone_spec.specs.TimeLines.{read_line}
use Rattle.zone_spec.specs.declared.Name.TheVariants.{Console as ConsoleName, Pmsg as PmsgName}
use Rattle.zone_spec.specs.Records.{Saved, Listed, is_of, found, found_in, logs_of, dumps_of, dump_of, ftrace_of, plain}
use Rattle.machine_laws.specs.Logs.{LogBytesCome, UnsignedAddsNothing, NotFoundAddsNothing}
use Rattle.ring_laws.proofs.PartsLaw.{block_some}
use Rattle.ring_laws.proofs.PartWords.{reading_near, reading_none}
use Rattle.ring_laws.proofs.States.{Says, state_says, reading_is, reading_state, count_below}
use Rattle.ring_laws.proofs.Fixes.{part_byte}
use Rattle.damage_laws.proofs.Within.{place_below}
use Rattle.damage_laws.proofs.CutPlaces.{range_in}

block_length : (z : Zone) (now : List ℕ) (b : ℕ) → IsValidZone z → length now ≡ z.size
    → length (part_bytes z now (Block b)) ≡ part_len z (Block b) ⊎ (z.cap ≤ z.block * b)
unfolding part_bytes
block_length z now b valid len = elim (cases_lt (z.block * b) z.cap) [
  | inl l ↦ inl (length-slice_range now (12 + z.block * b) (part_len z (Block b)) (omega (arith, valid.cap)))
  | inr g ↦ inr g
]

pub log_bytes_come : LogBytesCome
unfolding part_reading
log_bytes_come z now valid len i place found_state at = by (nearest z.parity (part_word z now (Block q))) refl
  where
    w : Words
    w = words_read z now

    q : ℕ
    q = place / z.block

    state : state_of z w ≡ Found
    state = sym (reading_state z now) ∙ found_state

    says : Says z w Found
    says = subst (Says z w) state (state_says z w)

    log : slice_get (zone_reading z now).log i ≡ Some (byte_read z now place)
    log = ap (λ (r : ZoneReading). slice_get r.log i) (reading_is z now ∙ ap (reading_in z now w) state)
        ∙ slice_get-map_some (λ place. byte_read z now place) (log_places w.start w.size) i place at

    below : place < w.size
    below = place_below w.start w.size i place says.2 at

    whole : z.block * q + place % z.block ≡ place
    whole = (let s : 0 < z.block = block_some z valid in omega arith)

    small : place % z.block < z.block
    small = (let s : 0 < z.block = block_some z valid in omega arith)

    next : z.block * (q + 1) ≡ z.block * q + z.block
    next = grind arith

    inside : place % z.block < part_len z (Block q)
    inside = omega (arith, whole, small, next, below, says.1)

    total : place % z.block < length (part_bytes z now (Block q))
    total = elim (block_length z now q valid len) [
      | inl e ↦ omega (arith, e, inside)
      | inr g ↦
          absurd (omega (arith, whole, below, says.1))
    ]

    by : (o : Option (List ℕ)) → nearest z.parity (part_word z now (Block q)) ≡ o
        → MatchOption o ((slice_get (zone_reading z now).log i ≡ Some (slice_index now (12 + place)))
        × ((part_reading z now (Block q)).bad ≡ 1) × Contains (blocks_below z w.size) q)
        (λ c. slice_get (zone_reading z now).log i ≡ Some (slice_index c (place % z.block)))
    by None e = (
      log ∙ ap Some (ap (λ xs. get_or xs (place % z.block) 0) (reading_none z now (Block q) e)
          ∙ part_byte z now (Block q) (place % z.block) inside
          ∙ ap (λ n. get_or now n 0) (let m : (12 + z.block * q) + place % z.block
          ≡ 12 + place = omega (arith, whole) in m)),
      ap (λ o. (reading_by (part_bytes z now (Block q)) (part_word z now (Block q)) o).bad) e,
      range_in z valid 0 _ q (omega arith) (let m = count_below z.block w.size q (block_some z valid)
          (omega (arith, whole, below)) in omega (arith, m)),
    )
    by (Some c) e = log ∙ ap Some (ap (λ xs. get_or xs (place % z.block) 0) (reading_near z now (Block q) c e)
        ∙ get_or-take (length (part_bytes z now (Block q))) c (place % z.block) 0 total)

pub unsigned_adds_nothing : UnsignedAddsNothing
unsigned_adds_nothing z now ne =
    let f : ((words_read z now).sig == z.sig) ≡ false = grind (arith, nat_tests) in
    let state : state_of z (words_read z now) ≡ Unsigned = (rw f refl) in
    let is : zone_reading z now ≡ reading_in z now (words_read z now) Unsigned =
    reading_is z now ∙ ap (reading_in z now (words_read z now)) state in (
      ap (λ (r : ZoneReading). r.state) is,
      ap (λ (r : ZoneReading). r.log) is,
      ap (λ (r : ZoneReading). found_in r r.state) is,
    )

flat-without : {A B : Type 0} (f : A → List B) (before behind : List A) (x : A) → f x ≡ []
    → flat_map f (before ++ (x ∷ behind)) ≡ flat_map f (before ++ behind)
flat-without f [] behind x e = ap (λ ys. ys ++ flat_map f behind) e
flat-without f (b ∷ before) behind x e = ap (λ ys. f b ++ ys) (flat-without f before behind x e)

logs_of-without : (kind : Kind) (before behind : List Saved) (zone : Saved) → found zone.1 ≡ []
    → logs_of kind (before ++ (zone ∷ behind)) ≡ logs_of kind (before ++ behind)
logs_of-without kind before behind zone e =
    flat-without (λ (s : Saved). cond (is_of kind s.0.name.kind) (map (λ (r : ZoneReading). r.log) (found s.1)) [])
    before behind zone (by (is_of kind zone.0.name.kind))
  where
    by : (b : Bool) → cond b (map (λ (r : ZoneReading). r.log) (found zone.1)) [] ≡ []
    by true = ap (map (λ (r : ZoneReading). r.log)) e
    by false = refl

pub not_found_adds_nothing : NotFoundAddsNothing
not_found_adds_nothing before behind zone e =
    let dumps : dumps_of (before ++ (zone ∷ behind)) ≡ dumps_of (before ++ behind) =
    flat-without (λ (s : Saved). cond (is_of Dump s.0.name.kind)
    (flat_map (λ (r : ZoneReading). dump_of s.0.name.index r.log (read_line r.log)) (found s.1)) [])
    before behind zone (by (is_of Dump zone.0.name.kind)) in
    ap₂ (λ (x y : List Listed). x ++ y)
    (ap₂ (λ (x y : List Listed). x ++ y)
    (ap₂ (λ (x y : List Listed). x ++ y) dumps (ap (plain ConsoleName) (logs_of-without Console before behind zone e)))
    (ap (plain PmsgName) (logs_of-without Pmsg before behind zone e)))
    (ap ftrace_of (logs_of-without Ftrace before behind zone e))
  where
    by : (b : Bool) → cond b (flat_map (λ (r : ZoneReading). dump_of zone.0.name.index r.log (read_line r.log))
        (found zone.1)) [] ≡ []
    by true = ap (flat_map (λ (r : ZoneReading). dump_of zone.0.name.index r.log (read_line r.log))) e
    by false = refl
