-- What a stop, a boot and the erasure of another record leave of a zone
use Rattle.std.proofs.Common.{◌≡◌, ℕ, zero, suc, ◌+◌, ◌-◌, ◌==◌, Bool, true, false, cond, List, [], ◌∷◌, ◌++◌, length}
use Rattle.std.proofs.Common.{take, drop, map, zip, flat_map, slice_get, slice_set, Contains, ◌||◌, nat_lt, nat_le}
use Rattle.std.proofs.Common.{Option, Some, refl, sym, ap, ◌∙◌, subst, arith, append_assoc, true≢false, is_some}
use Rattle.std.proofs.lemmas.Bool.Decides.{nat_tests}
use Rattle.std.proofs.lemmas.List.Elements.{Contains-append_left}
use Rattle.std.proofs.lemmas.List.Sums.{sum_by-cons}
use Rattle.std.specs.Option.{option_map}
use Rattle.zone_spec.specs.declared.Zone.{Zone}
use Rattle.zone_spec.specs.declared.Kind.{Kind}
use Rattle.zone_spec.specs.declared.Kind.TheVariants.{Dump as DumpKind, Console, Ftrace, Pmsg}
use Rattle.zone_spec.specs.declared.Name.{Name}
use Rattle.zone_spec.specs.declared.Name.TheVariants.{Dump as DumpName, Console as ConsoleName, Pmsg as PmsgName}
use Rattle.zone_spec.specs.declared.State.{State}
use Rattle.zone_spec.specs.declared.State.TheVariants.{Empty, Found}
use Rattle.zone_spec.specs.declared.TimeLine.{TimeLine}
use Rattle.zone_spec.specs.Reading.{ZoneReading, zone_reading}
use Rattle.zone_spec.specs.TimeLines.{read_line, has_line}
use Rattle.zone_spec.specs.Boot.{told_by_boot, keeps, keeps_in, is_kept}
use Rattle.zone_spec.specs.Ring.{IsRingForm}
use Rattle.zone_spec.specs.Records.{Saved, Listed, is_of, found, found_in, logs_of, dump_of, dumps_of, plain, ftrace_of}
use Rattle.zone_spec.specs.Records.{listed_of, record_of}
use Rattle.zone_spec.specs.Notices.{is_in}
use Rattle.zone_spec.specs.Layouts.{IsLayout, zones_end}
use Rattle.machine_spec.specs.States.{Flight, LiveZone, LiveState, OffState, Off, Live}
use Rattle.machine_spec.specs.Zones.{zone_bytes}
use Rattle.machine_spec.specs.Stop.{cut_of, zone_stopped, stopped, live_image}
use Rattle.machine_spec.specs.Boot.{booted_zone, booted}
use Rattle.machine_spec.specs.Erasures.{saved_logs, erase_zone, erased}
use Rattle.machine_spec.specs.Sound.{IsOffZone, IsState}
use Rattle.ring_laws.specs.Laws.{ReadsTold}
use Rattle.ring_laws.proofs.Laws.{ring_form_reads_told}
use Rattle.crash_laws.specs.Standing.{IsToldLive, IsToldOff}
use Rattle.crash_laws.proofs.Items.{map_item, zip_item, in_flat, front_of, behind_of, set_before, set_behind}
use Rattle.crash_laws.specs.Lines.{is_outside}
use Rattle.crash_laws.proofs.Entries.{IsFirst, first_of_name, zone_entries}
use Rattle.zone_spec.specs.declared.Time.{Time}
use Rattle.machine_spec.specs.Off.{flipped}
use Rattle.std.proofs.lemmas.Bool.{ltb-true, leb-true}

-- ---- a zone's bytes among those of all

pub zone_in : (layout : List Zone) (zones : List LiveZone) (rest : List ℕ) (i : ℕ) (z : Zone) (v : LiveZone)
    → ((j : ℕ) (y : Zone) (w : LiveZone) → slice_get layout j ≡ Some y → slice_get zones j ≡ Some w
    → length w.image ≡ y.size) → slice_get layout i ≡ Some z → slice_get zones i ≡ Some v
    → take z.size (drop (zones_end (take i layout)) (flat_map (λ (zone : LiveZone). zone.image) zones ++ rest))
    ≡ v.image
zone_in [] zones rest i z v each hz hv = absurd (cc)
zone_in (y ∷ ys) [] rest i z v each hz hv = absurd (cc)
zone_in (y ∷ ys) (w ∷ ws) rest zero z v each hz hv =
    let a : y ≡ z = cc in
    let b : w ≡ v = cc in
    let more = flat_map (λ (zone : LiveZone). zone.image) ws in
    let size : z.size ≡ length w.image = ap (λ (u : Zone). u.size) (sym a) ∙ sym (each 0 y w refl refl) in
    ap (λ (xs : List ℕ). take z.size xs) (append_assoc w.image more rest)
    ∙ front_of w.image (more ++ rest) z.size size ∙ ap (λ (u : LiveZone). u.image) b
zone_in (y ∷ ys) (w ∷ ws) rest (suc i) z v each hz hv =
    let more = flat_map (λ (zone : LiveZone). zone.image) ws in
    let here : length w.image ≡ y.size = each 0 y w refl refl in
    let from : zones_end (take (suc i) (y ∷ ys)) ≡ length w.image + zones_end (take i ys) =
    omega (arith, here, sum_by-cons (λ (u : Zone). u.size) y (take i ys)) in
    ap (λ (xs : List ℕ). take z.size (drop (zones_end (take (suc i) (y ∷ ys))) xs)) (append_assoc w.image more rest)
    ∙ ap (λ (xs : List ℕ). take z.size xs) (behind_of w.image (more ++ rest)
    (zones_end (take (suc i) (y ∷ ys))) (zones_end (take i ys)) from)
    ∙ zone_in ys ws rest i z v (λ j u x p q. each (suc j) u x p q) hz hv

-- a byte outside a zone is none of its bytes
outside_bytes : (z : Zone) (image : List ℕ) (i b : ℕ) → is_outside i z ≡ true
    → zone_bytes z (slice_set image i b) ≡ zone_bytes z image
outside_bytes z image i b h = by (nat_lt i z.at) refl h
  where
    by : (t : Bool) → nat_lt i z.at ≡ t → (t || nat_le (z.at + z.size) i) ≡ true
        → zone_bytes z (slice_set image i b) ≡ zone_bytes z image
    by true e h = ap (λ (xs : List ℕ). take ((z.at + z.size) - z.at) xs)
        (set_before image z.at i b (ltb-true i z.at e))
    by false e h =
        let past = leb-true (z.at + z.size) i h in
        set_behind image z.at ((z.at + z.size) - z.at) i b (omega (arith, past))

-- ---- kinds and names

pub dump_kind : (k : Kind) → is_of DumpKind k ≡ true → k ≡ DumpKind
dump_kind DumpKind e = refl
dump_kind Console e = absurd (true≢false (sym e))
dump_kind Ftrace e = absurd (true≢false (sym e))
dump_kind Pmsg e = absurd (true≢false (sym e))

line_some : (told : List ℕ) → has_line told ≡ true → (length told == 0) ≡ false
unfolding read_line
line_some [] e = absurd (true≢false (sym e))
line_some (b ∷ bs) e = grind (arith, nat_tests)

-- ---- a reading of the told list

pub kept_is : (z : Zone) (r : ZoneReading) (told : List ℕ) → r.state ≡ Found → z.name.kind ≡ DumpKind → r.log ≡ told
    → has_line told ≡ true → keeps z r ≡ true
kept_is z r told state kind log line =
    ap (keeps_in z r) state ∙ ap (is_kept z r) kind ∙ ap (λ (xs : List ℕ). has_line xs) log ∙ line

kept : (z : Zone) (r : ZoneReading) (told : List ℕ) → r.state ≡ Found → z.name.kind ≡ DumpKind → r.log ≡ told
    → has_line told ≡ true → cond (keeps z r) r.log [] ≡ told
kept z r told state kind log line =
    ap (λ (b : Bool). cond b r.log []) (kept_is z r told state kind log line) ∙ log

-- a dump's record, where its reading was found
dump_entry : (z : Zone) (r : ZoneReading) (told : List ℕ) (line : TimeLine) → is_of DumpKind z.name.kind ≡ true
    → r.state ≡ Found → r.log ≡ told → read_line told ≡ Some line
    → cond (is_of DumpKind z.name.kind)
    (flat_map (λ (q : ZoneReading). dump_of z.name.index q.log (read_line q.log)) (found (Some r))) []
    ≡ record { name = DumpName z.name.index line.packed; content = drop line.len told; time = Some line.time } ∷ []
dump_entry z r told line kind state log is =
    ap (λ (b : Bool). cond b
    (flat_map (λ (q : ZoneReading). dump_of z.name.index q.log (read_line q.log)) (found (Some r))) []) kind
    ∙ ap (λ (s : State). flat_map (λ (q : ZoneReading). dump_of z.name.index q.log (read_line q.log)) (found_in r s))
    state ∙ ap (λ (xs : List ℕ). dump_of z.name.index xs (read_line xs) ++ []) log
    ∙ ap (λ (o : Option TimeLine). dump_of z.name.index told o ++ []) is

one_entry : (r : Listed) → Contains (r ∷ []) r
one_entry r = (0, omega arith, refl)

-- the dump zones' records come first
among_dumps : (zones : List Saved) (r : Listed) → Contains (dumps_of zones) r → Contains (listed_of zones) r
among_dumps zones r h =
    let consoles = plain ConsoleName (logs_of Console zones) in
    let messages = plain PmsgName (logs_of Pmsg zones) in
    Contains-append_left (dumps_of zones ++ consoles ++ messages) (ftrace_of (logs_of Ftrace zones)) r
    (Contains-append_left (dumps_of zones ++ consoles) messages r
    (Contains-append_left (dumps_of zones) consoles r h))

-- ---- records of others

spared : (name : Name) (z : Zone) (v : LiveZone) → is_in name z ≡ false → erase_zone name z v ≡ v
spared name z v e = rw e refl

module _ (layout : List Zone) (mem : ℕ) (lies : IsLayout layout mem) (z : Zone) (place : ℕ)
    (hz : slice_get layout place ≡ Some z) (told : List ℕ) where
  pub erased_keeps : (live : LiveState) (name : Name) → is_in name z ≡ false → IsToldLive place told live
      → IsToldLive place told (erased layout live name)
  erased_keeps live name other k = record {
    zone = k.zone;
    at = zip_map layout live.zones place z k.zone hz k.at
        ∙ ap (λ (v : LiveZone). Some v) (spared name z k.zone other);
    told_is = k.told_is;
    idle = k.idle;
  }
    where
      zip_map : (zs : List Zone) (vs : List LiveZone) (i : ℕ) (y : Zone) (v : LiveZone) → slice_get zs i ≡ Some y
          → slice_get vs i ≡ Some v
          → slice_get (map (λ (pair : Zone × LiveZone). erase_zone name pair.0 pair.1) (zip zs vs)) i
          ≡ Some (erase_zone name y v)
      zip_map zs vs i y v p q =
          map_item (λ (pair : Zone × LiveZone). erase_zone name pair.0 pair.1) (zip zs vs) i (y, v)
          (zip_item zs vs i y v p q)

  -- ---- a stop

  stop_bytes : (live : LiveState) (v : LiveZone) → IsState layout mem (Live live) → slice_get live.zones place ≡ Some v
      → zone_bytes z (live_image live) ≡ v.image
  stop_bytes live v state hv =
      let size : (z.at + z.size) - z.at ≡ z.size = omega arith in
      let at : z.at ≡ zones_end (take place layout) = (lies.valid place z hz).1 in
      ap (λ (n : ℕ). take n (drop z.at (live_image live))) size
      ∙ ap (λ (n : ℕ). take z.size (drop n (live_image live))) at
      ∙ zone_in layout live.zones live.rest place z v (λ j y w p q. (state.zones.1 j y w p q).size.0) hz hv

  pub stop_keeps : (live : LiveState) → IsState layout mem (Live live) → IsToldLive place told live
      → IsToldOff z place told (stopped layout live)
  stop_keeps live state k = record {
    zone = zone_stopped (z, k.zone);
    at = map_item zone_stopped (zip layout live.zones) place (z, k.zone)
        (zip_item layout live.zones place z k.zone hz k.at);
    told_is = ap (λ (xs : List ℕ). Some xs) k.told_is;
    whole = ap (λ (o : Option Flight). option_map (cut_of z) o) k.idle;
    undamaged = stop_bytes live k.zone state k.at;
  }

  -- ---- a flip

  pub flip_keeps : (off : OffState) (i mask : ℕ) → is_outside i z ≡ true → IsToldOff z place told off
      → IsToldOff z place told (flipped off i mask)
  flip_keeps off i mask outside k = record {
    zone = k.zone;
    at = k.at;
    told_is = k.told_is;
    whole = k.whole;
    undamaged = outside_bytes z off.image i _ outside ∙ k.undamaged;
  }

  -- ---- a boot

  pub ring_told : (off : OffState) → IsState layout mem (Off off) → IsToldOff z place told off
      → IsRingForm z (zone_bytes z off.image) told
  ring_told off state k =
      let zone : IsOffZone z k.zone = state.zones.1 place z k.zone hz k.at in
      subst (λ (xs : List ℕ). IsRingForm z xs told) (sym k.undamaged) (zone.idle told k.told_is k.whole)

  pub reads_told : (off : OffState) → IsState layout mem (Off off) → IsToldOff z place told off
      → ReadsTold z (zone_bytes z off.image) told
  reads_told off state k =
      ring_form_reads_told z (zone_bytes z off.image) told (lies.valid place z hz).0 (ring_told off state k)

  pub found_told : (off : OffState) → IsState layout mem (Off off) → has_line told ≡ true → IsToldOff z place told off
      → (zone_reading z (zone_bytes z off.image)).state ≡ Found
  found_told off state line k =
      (reads_told off state k).state ∙ ap (λ (b : Bool). cond b Empty Found) (line_some told line)

  pub told_kept : (off : OffState) → IsState layout mem (Off off) → is_of DumpKind z.name.kind ≡ true
      → has_line told ≡ true → IsToldOff z place told off → told_by_boot z (zone_bytes z off.image) ≡ told
  told_kept off state kind line k =
      kept z (zone_reading z (zone_bytes z off.image)) told (found_told off state line k)
      (dump_kind z.name.kind kind) (reads_told off state k).log line

  pub boot_keeps : (off : OffState) → IsState layout mem (Off off) → is_of DumpKind z.name.kind ≡ true
      → has_line told ≡ true → IsToldOff z place told off → IsToldLive place told (booted layout off)
  boot_keeps off state kind line k = record {
    zone = booted_zone off.image z;
    at = map_item (booted_zone off.image) layout place z hz;
    told_is = told_kept off state kind line k;
    idle = refl;
  }

  -- the records that its zone has in the listing of a boot
  booted_entries : (off : OffState) (line : TimeLine) → IsState layout mem (Off off)
      → is_of DumpKind z.name.kind ≡ true → read_line told ≡ Some line → IsToldOff z place told off
      → zone_entries (z, Some (zone_reading z (zone_bytes z off.image)))
      ≡ record { name = DumpName z.name.index line.packed; content = drop line.len told; time = Some line.time } ∷ []
  booted_entries off line state kind is k =
      dump_entry z (zone_reading z (zone_bytes z off.image)) told line kind
      (found_told off state (ap (λ (o : Option TimeLine). is_some o) is) k) (reads_told off state k).log is

  booted_log : (off : OffState) → slice_get (saved_logs layout (booted layout off)) place
      ≡ Some (z, Some (zone_reading z (zone_bytes z off.image)))
  booted_log off =
      zip_item layout (booted layout off).logs place z (Some (zone_reading z (zone_bytes z off.image))) hz
      (map_item (λ y. Some (zone_reading y (zone_bytes y off.image))) layout place z hz)

  pub boot_lists : (off : OffState) (line : TimeLine) → IsState layout mem (Off off)
      → is_of DumpKind z.name.kind ≡ true → read_line told ≡ Some line → IsToldOff z place told off
      → Contains (listed_of (saved_logs layout (booted layout off)))
      (record { name = DumpName z.name.index line.packed; content = drop line.len told; time = Some line.time })
  boot_lists off line state kind is k =
      let entry : Listed = record
      { name = DumpName z.name.index line.packed; content = drop line.len told; time = Some line.time } in
      let zones = saved_logs layout (booted layout off) in
      among_dumps zones entry (in_flat zone_entries zones place
      (z, Some (zone_reading z (zone_bytes z off.image))) entry (booted_log off)
      (subst (λ (rs : List Listed). Contains rs entry) (sym (booted_entries off line state kind is k))
      (one_entry entry)))

  pub boot_names : (off : OffState) (time : Time) (len : ℕ) → IsState layout mem (Off off)
      → is_of DumpKind z.name.kind ≡ true → read_line told ≡ Some (record { time = time; packed = false; len = len })
      → IsFirst layout place z.name.index → IsToldOff z place told off
      → record_of (saved_logs layout (booted layout off)) (DumpName z.name.index false)
      ≡ Some (record { name = DumpName z.name.index false; content = drop len told; time = Some time })
  boot_names off time len state kind is first k =
      first_of_name layout (booted layout off).logs place z.name.index
      (z, Some (zone_reading z (zone_bytes z off.image)))
      (record { name = DumpName z.name.index false; content = drop len told; time = Some time }) first
      (booted_log off)
      (booted_entries off (record { time = time; packed = false; len = len }) state kind is k) refl
