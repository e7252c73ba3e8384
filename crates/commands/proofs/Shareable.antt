-- After a boot and a stop of any image the zone ftrace-0 can be shared where it has no parity
use Rattle.std.proofs.Common.{◌≡◌, ℕ, zero, suc, ◌+◌, ◌-◌, ◌*◌, ◌<◌, Bool, true, false, ◌||◌, ◌==◌, cond, if◌then◌else◌}
use Rattle.std.proofs.Common.{◌/◌, nat_lt, List, [], ◌∷◌, ◌++◌, map, length, take, drop, get_or, refl, sym, ap, ap₂}
use Rattle.std.proofs.Common.{◌∙◌, subst, arith, append-nil, Option, Some, None, Ok, Err}
use Rattle.std.proofs.KnownBytes.{Appends-nil}
use Rattle.std.specs.Prelude.{slice_get}
use Rattle.std.specs.List.{AllByRecursion, range_with_len, position_or_len}
use Rattle.std.proofs.lemmas.Bool.{lt-ltb, and_parts, ltb-false, ne_eqb}
use Rattle.std.proofs.lemmas.List.Quantifiers.{position-Some}
use Rattle.zone_spec.specs.declared.Kind.{Kind}
use Rattle.zone_spec.specs.declared.Kind.TheVariants.{Dump, Console, Ftrace, Pmsg}
use Rattle.zone_spec.specs.declared.Zone.{Zone}
use Rattle.zone_spec.specs.declared.Words.{Words}
use Rattle.zone_spec.specs.declared.params.Params.{Params}
use Rattle.zone_spec.specs.declared.params.Row.{Row}
use Rattle.ramoops.proofs.Lists.{get-of-map}
use Rattle.zone_spec.specs.Layout.{rounded, even, dump_memory, dump_count, rows, zone_at, zones_from, layout_of, ecc_of}
use Rattle.zone_spec.specs.Layout.{ordered}
use Rattle.zone_spec.specs.declared.params.Order.{Order}
use Rattle.zone_spec.specs.declared.params.Order.TheVariants.{FtracePmsg, PmsgFtrace}
use Rattle.zone_spec.specs.Layouts.{IsLayout, is_zone, zone_place}
use Rattle.zone_spec.specs.Parts.{AreBytes, standing_words}
use Rattle.zone_spec.specs.Ring.{IsRingForm, IsOpen, IsOpenUnlessDump}
use Rattle.zone_spec.specs.Records.{is_of}
use Rattle.ramoops_layout.proofs.WholeLayout.{no_fault, all_count, length_zones}
use Rattle.ramoops_layout.proofs.Faultless.{faultless}
use Rattle.ramoops_layout.proofs.PowersOfTwo.{rounded_pos}
use Rattle.ramoops_layout.proofs.RowPlaces.{rows_place, place_in_rows}
use Rattle.machine_spec.specs.Zones.{zone_bytes}
use Rattle.machine_spec.specs.States.{LiveState, Off as OffOf, Live as LiveOf}
use Rattle.machine_spec.specs.Off.{fresh}
use Rattle.machine_spec.specs.Boot.{booted, booted_zone}
use Rattle.machine_spec.specs.Stop.{stopped, live_image}
use Rattle.machine_spec.specs.Operations.{Boot, Stop as StopStore}
use Rattle.machine_spec.specs.Sound.{IsState, IsLiveZone}
use Rattle.machine_laws.proofs.Operations.{fresh_is_sound, operations_keep_states_sound}
use Rattle.crash_laws.proofs.Stops.{zone_in}
use Rattle.shared_spec.specs.Machine.{CanShare}
use Rattle.shared_spec.specs.Histories.{History, CanOpen, shared_zone, image_left}
use Rattle.command_spec.specs.Commands.{after_boot, wanted_shared_lines, wanted_ran, stops}
use Rattle.script_spec.specs.declared.Cause.{Cause}
use Rattle.command_spec.specs.Ends.{stop_of}
use Rattle.command_spec.specs.declared.Stop.TheVariants.{Refused as RefusedStop}
use Rattle.script_spec.specs.declared.LineStop.{LineStop}
use Rattle.script_spec.specs.declared.LineStop.TheVariants.{Refused}
use Rattle.grammar_spec.specs.declared.line.Line.{Line}
use Rattle.shared_ring.specs.Seen.{SharedSeen, IsLeftBy}
use Rattle.shared_session.specs.Left.{just_opened, IsOpened, PlaysAll, StopsAt, Plays}
use Rattle.commands.specs.Scripts.{AllLeft, LinesLeave}
use Rattle.script_spec.specs.SharedScripts.{shared_name, zone_at as zone_named, zone_to_share, lacks_plain_ftrace}
use Rattle.script_spec.specs.SharedScripts.{shared_ran, shared_text}

-- ---- the zone is there

or_parts : (a b : Bool) → (a || b) ≡ false → (a ≡ false) × (b ≡ false)
or_parts true b e = cc
or_parts false b e = (refl, e)

-- each zone has the parity of its kind
abbrev HasParity : Params → Zone → Type 0
HasParity p z = z.parity ≡ ecc_of p z.name.kind

both : (p : Params) (xs ys : List Zone) → AllByRecursion (HasParity p) xs → AllByRecursion (HasParity p) ys
    → AllByRecursion (HasParity p) (xs ++ ys)
both p [] ys h k = k
both p (x ∷ xs) ys h k = (h.0, both p xs ys h.1 k)

row_parity : (p : Params) (row : Row) (at from n : ℕ)
    → AllByRecursion (HasParity p) (map (λ i. zone_at p row.kind row.size i (at + i * row.size))
    (range_with_len from n))
row_parity p row at from zero = tt
row_parity p row at from (suc n) = (refl, row_parity p row at (from + 1) n)

rows_parity : (p : Params) (at : ℕ) (rows : List Row) → AllByRecursion (HasParity p) (zones_from p at rows)
unfolding zones_from
rows_parity p at [] = tt
rows_parity p at (row ∷ rows) =
    both p (map (λ i. zone_at p row.kind row.size i (at + i * row.size)) (range_with_len 0 row.count))
    (zones_from p (at + row.count * row.size) rows) (row_parity p row at 0 row.count)
    (rows_parity p (at + row.count * row.size) rows)

parity_at : (p : Params) (zones : List Zone) (i : ℕ) (z : Zone) → AllByRecursion (HasParity p) zones
    → slice_get zones i ≡ Some z → HasParity p z
parity_at p [] i z h e = absurd (cc)
parity_at p (x ∷ xs) zero z h e = let same : x ≡ z = cc in subst (HasParity p) same h.0
parity_at p (x ∷ xs) (suc i) z h e = parity_at p xs i z h.1 e

is_ftrace : (kind : Kind) → is_of Ftrace kind ≡ true → kind ≡ Ftrace
is_ftrace Ftrace e = refl
is_ftrace Dump e = cc
is_ftrace Console e = cc
is_ftrace Pmsg e = cc

got : (zones : List Zone) (i : ℕ) → i < length zones → (z : Zone) × (slice_get zones i ≡ Some z)
got [] i h = absurd (omega (arith, h))
got (x ∷ xs) zero h = (x, refl)
got (x ∷ xs) (suc i) h = got xs i (omega (arith, h))

got_is : (zones : List Zone) (i : ℕ) (z : Zone) → slice_get zones i ≡ Some z → get_or zones i z ≡ z
got_is [] i z e = cc
got_is (x ∷ xs) zero z e = cc
got_is (x ∷ xs) (suc i) z e = got_is xs i z e

-- there are fewer zones in front of it than in all
in_front : (order : Order) (d c f m sd sc sf sm : ℕ) → 0 < f
    → let rs : List Row = record { kind = Dump; count = d; size = sd } ∷ record { kind = Console; count = c; size = sc }
    ∷ ordered order (record { kind = Ftrace; count = f; size = sf }) (record { kind = Pmsg; count = m; size = sm }) in
    rows_place shared_name rs < all_count rs
unfolding rows_place
in_front FtracePmsg d c f m sd sc sf sm h = rw (lt-ltb 0 f h) (omega (arith, h))
in_front PmsgFtrace d c f m sd sc sf sm h = rw (lt-ltb 0 f h) (omega (arith, h))

-- the zone ftrace-0 of a layout, without parity
record IsPlainFtrace (zones : List Zone) (place : ℕ) (z : Zone) : Type 0 where
  named : zone_place zones shared_name ≡ Some place
  there : slice_get zones place ≡ Some z
  kind : z.name.kind ≡ Ftrace
  parity : z.parity ≡ 0

module _ (p : Params) (zones : List Zone) (laid : layout_of p ≡ Ok zones) (plain : lacks_plain_ftrace p ≡ false) where
  asked : ((p.ftrace == 0) ≡ false) × (nat_lt 0 p.ecc_ftrace ≡ false)
  asked = or_parts (p.ftrace == 0) (nat_lt 0 p.ecc_ftrace) plain

  some_rows : (n : ℕ) → (n == 0) ≡ false → 0 < n
  some_rows n e = grind (arith, e)

  ftrace_row : 0 < rounded p.ftrace
  ftrace_row = rounded_pos p.ftrace (some_rows p.ftrace asked.0)

  cpus : 0 < p.cpus
  cpus = (faultless p (no_fault p zones laid).of_parameters).cpus_least

  -- where it is, if it is there
  found : (place : ℕ) → position_or_len (is_zone shared_name) zones ≡ place → place < length zones
      → (z : Zone) × IsPlainFtrace zones place z
  found place e less =
      let g = got zones place less in
      let z = g.0 in
      let within : nat_lt (position_or_len (is_zone shared_name) zones) (length zones) ≡ true =
      lt-ltb _ _ (omega (arith, e, less)) in
      let named : zone_place zones shared_name ≡ Some place =
      ap (λ (b : Bool). cond b (Some (position_or_len (is_zone shared_name) zones)) None) within ∙ ap Some e in
      let holds : is_zone shared_name z ≡ true =
      ap (is_zone shared_name) (sym (got_is zones place z g.1))
      ∙ (position-Some (is_zone shared_name) zones place z named).1 in
      let kind = is_ftrace z.name.kind (and_parts (is_of Ftrace z.name.kind) (z.name.index == 0) holds).0 in
      let none : p.ecc_ftrace ≡ 0 = omega (arith, ltb-false 0 p.ecc_ftrace asked.1) in
      let parities : AllByRecursion (HasParity p) zones =
      subst (AllByRecursion (HasParity p)) (no_fault p zones laid).same (rows_parity p 0 (rows p)) in (
        z,
        record {
          named = named;
          there = g.1;
          kind = kind;
          parity = parity_at p zones place z parities g.1 ∙ ap (ecc_of p) kind ∙ none;
        },
      )

  is_there : (place : ℕ) × (z : Zone) × IsPlainFtrace zones place z
  is_there =
      let same = (no_fault p zones laid).same in
      let f : 0 < (if rounded p.ftrace == 0 then 0 else p.cpus) =
      rw (ne_eqb (rounded p.ftrace) 0 (omega (arith, ftrace_row))) cpus in
      let less = in_front p.order (dump_count p) (if rounded p.console == 0 then 0 else 1)
      (if rounded p.ftrace == 0 then 0 else p.cpus) (if rounded p.pmsg == 0 then 0 else 1)
      (even (dump_memory p / dump_count p)) (rounded p.console) (even (rounded p.ftrace / p.cpus)) (rounded p.pmsg) f in
      let at : position_or_len (is_zone shared_name) zones ≡ rows_place shared_name (rows p) =
      ap (position_or_len (is_zone shared_name)) (sym same) ∙ place_in_rows p shared_name 0 (rows p) in
      let all : length zones ≡ all_count (rows p) = ap (length {A = Zone}) (sym same) ∙ length_zones p 0 (rows p) in
      let here = found (rows_place shared_name (rows p)) at (omega (arith, less, all)) in
      (rows_place shared_name (rows p), here.0, here.1)

-- ---- the zone stands in the image

open_unless : (kind : Kind) (w : Words) (cap : ℕ) → kind ≡ Ftrace → IsOpenUnlessDump kind w cap → IsOpen w cap
open_unless Ftrace w cap e h = h
open_unless Dump w cap e h = cc
open_unless Console w cap e h = cc
open_unless Pmsg w cap e h = cc

module _ (p : Params) (zones : List Zone) (mem : ℕ) (image : List ℕ) (laid : layout_of p ≡ Ok zones)
    (plain : lacks_plain_ftrace p ≡ false) (lies : IsLayout zones mem) (size : length image ≡ mem)
    (bytes : AreBytes image) where
  abbrev live : LiveState
  live = after_boot zones image

  state : IsState zones mem (LiveOf (booted zones (fresh zones image)))
  state = operations_keep_states_sound zones mem (OffOf (fresh zones image)) Boot lies
      (fresh_is_sound zones mem image lies size bytes) tt

  can_share : (place : ℕ) (z : Zone) → IsPlainFtrace zones place z
      → CanShare z (zone_bytes z (stopped zones live).image)
  can_share place z is =
      let v = booted_zone image z in
      let hv : slice_get live.zones place ≡ Some v = get-of-map (booted_zone image) zones place z is.there in
      let sound : IsLiveZone z v = state.zones.1 place z v is.there hv in
      let ring : IsRingForm z v.image v.told = sound.stands in
      let n : (z.at + z.size) - z.at ≡ z.size = omega arith in
      let stands : zone_bytes z (live_image live) ≡ v.image =
      ap₂ (λ n d. take n (drop d (live_image live))) n (lies.valid place z is.there).1
      ∙ zone_in zones live.zones live.rest place z v (λ j y w q r. (state.zones.1 j y w q r).size.0) is.there hv in
      subst (CanShare z) (sym stands) (record {
        valid = (lies.valid place z is.there).0;
        parity = is.parity;
        sized = sound.size.0;
        signed = ring.signed;
        ring = ring.ring;
        is_open = open_unless z.name.kind (standing_words z v.image) z.cap is.kind ring.is_open;
      })

  pub can_open : CanOpen zones shared_name (stopped zones live).image
  can_open =
      let t = is_there p zones laid plain in
      record {
        place = t.0;
        zone = t.1;
        named = t.2.named;
        there = t.2.there;
        can = can_share t.0 t.1 t.2;
      }

  stopped-state : IsState zones mem (OffOf (stopped zones live))
  stopped-state = operations_keep_states_sound zones mem (LiveOf live) StopStore lies state tt

  pub is_booted : (last : List ℕ) → last ≡ (stopped zones live).image → mem ≡ p.mem
      → (length last ≡ p.mem) × CanOpen zones shared_name last
  is_booted last is same = (
    ap length is ∙ stopped-state.image.0 ∙ same,
    subst (CanOpen zones shared_name) (sym is) can_open,
  )

-- the image keeps its size
pub is_booted_size : (p : Params) (zones : List Zone) (mem : ℕ) (image : List ℕ) → IsLayout zones mem
    → length image ≡ mem → AreBytes image → (last : List ℕ) → last ≡ (stopped zones (after_boot zones image)).image
    → mem ≡ p.mem → length last ≡ p.mem
is_booted_size p zones mem image lies size bytes last is same =
    let state : IsState zones mem (OffOf (stopped zones (after_boot zones image))) =
    operations_keep_states_sound zones mem (LiveOf (after_boot zones image)) StopStore lies
    (operations_keep_states_sound zones mem (OffOf (fresh zones image)) Boot lies
    (fresh_is_sound zones mem image lies size bytes) tt) tt in
    ap length is ∙ state.image.0 ∙ same

-- in the same zones of another layout
pub opens_in : (zones others : List Zone) (image : List ℕ) → others ≡ zones → CanOpen zones shared_name image
    → CanOpen others shared_name image
opens_in zones others image same can = subst (λ (zs : List Zone). CanOpen zs shared_name image) (sym same) can

pub opened_by : (zones : List Zone) (image : List ℕ) (can : CanOpen zones shared_name image) (v : SharedSeen)
    → IsLeftBy (just_opened can.zone image) v → IsOpened v
opened_by zones image can v l = record { zone = can.zone; image = image; left = l }

zone_is : (zones : List Zone) (image : List ℕ) (can : CanOpen zones shared_name image)
    → zone_to_share zones ≡ Some can.zone
zone_is zones image can = ap (zone_named zones) can.named ∙ can.there

pub zone_in_both : (zones others : List Zone) (image : List ℕ) → others ≡ zones
    → (can : CanOpen others shared_name image) → zone_to_share zones ≡ Some can.zone
zone_in_both zones others image same can =
    subst (λ (zs : List Zone). zone_to_share zs ≡ Some can.zone) same (zone_is others image can)

-- ---- the lines

module _ (zones : List Zone) (image last : List ℕ) (lines : List Line)
    (is : last ≡ (stopped zones (after_boot zones image)).image) (z : Zone) (at : zone_to_share zones ≡ Some z) where
  ran_wanted : wanted_shared_lines zones image (Ok lines)
      ≡ wanted_ran (shared_ran z last lines) (shared_ran z last lines).refused
  ran_wanted = rw (at, ← is) refl

  pub share_done : (v : SharedSeen) (text out : List ℕ) (given : Option (List ℕ)) → PlaysAll z last lines v
      → ((h : History) → IsLeftBy h v → text ≡ shared_text h.zone (shared_zone h))
      → ((h : History) → IsLeftBy h v → out ≡ image_left h)
      → AllLeft (wanted_shared_lines zones image (Ok lines)) given given text out
  share_done v text out given p shown closed =
      let r = shared_ran z last lines in
      let w : wanted_shared_lines zones image (Ok lines)
      ≡ record { texts = text ∷ []; end = Ok tt; writes = Some out } =
      ran_wanted ∙ ap (wanted_ran r) p.none
      ∙ ap₂ (λ (t o : List ℕ). record { texts = t ∷ []; end = Ok tt; writes = Some o })
      (sym (shown r.history p.left)) (sym (closed r.history p.left)) in
      rw w (record {
        end = refl;
        before = [];
        put = Appends-nil given;
        texts = append-nil text;
        writes = refl;
      })

  refused_as : (v : SharedSeen) (n : ℕ) (cause : Cause) → StopsAt z last lines v n cause
      → wanted_shared_lines zones image (Ok lines) ≡ stops (RefusedStop n cause)
  refused_as v n cause s =
      let r = shared_ran z last lines in
      ran_wanted ∙ ap (wanted_ran r) s.refused ∙ ap (λ k. stops (RefusedStop k cause)) s.count

  pub share_stopped : (stop : LineStop) (v : SharedSeen) (given : Option (List ℕ)) (h : ℕ)
      → Plays z last lines v (Err stop)
      → LinesLeave (wanted_shared_lines zones image (Ok lines)) given given h h (Err (stop_of stop))
  share_stopped (Refused n cause) v given h p = rw (refused_as v n cause p) (refl, Appends-nil given)
  share_stopped stop v given h p = absurd p
