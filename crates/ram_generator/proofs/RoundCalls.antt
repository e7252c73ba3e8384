-- The calls of a round, a boot, and the rounds of these. The functions of `rounds.rt` cite them.
use Rattle.std.proofs.Common.{◌≡◌, ℕ, List, [], length, fold, count_by, refl, sym, ap, ◌∙◌, subst}
use Rattle.std.specs.List.{range_with_len}
use Rattle.zone_spec.specs.declared.Zone.{Zone}
use Rattle.zone_spec.specs.declared.ZoneName.{ZoneName}
use Rattle.zone_spec.specs.Layouts.{IsLayout}
use Rattle.zone_spec.specs.Parts.{AreBytes}
use Rattle.machine_spec.specs.States.{OffState, Off, Live}
use Rattle.machine_spec.specs.Off.{fresh}
use Rattle.machine_spec.specs.Boot.{booted}
use Rattle.machine_spec.specs.Report.{ZoneReport}
use Rattle.machine_spec.specs.Sound.{IsState}
use Rattle.machine_spec.specs.LiveCalls.{Ask}
use Rattle.machine_spec.specs.Operations.{Boot}
use Rattle.machine_laws.proofs.Operations.{fresh_is_sound, operations_keep_states_sound}
use Rattle.ramoops.specs.LiveSeen.{LiveSeen}
use Rattle.ramoops.specs.OffSeen.{OffSeen, StandsOff}
use Rattle.ramoops.specs.Booted.{Booted}
use Rattle.script_spec.specs.Generated.{Generated, CutAppend, draw_over, rings, drawn_turn, drawn_cut, drawn_damage}
use Rattle.script_spec.specs.Generated.{with_call, with_cut, with_stop, with_flip, with_boot, is_told, is_other}
use Rattle.script_spec.specs.Generated.{resting, turn, drawn_calls, drawn_boot, round}
use Rattle.ram_generator.specs.declared.counts.Counts.{Counts}
use Rattle.ram_generator.specs.Counting.{counted, flips_added, verdicts_added}
use Rattle.ram_generator.specs.Damage.{IsDamaged}
use Rattle.ram_generator.specs.Sessions.{Runs, RunsTo, Goes, IsUp}

-- ---- the calls of a round

turn_is : (layout : List Zone) (q : ℕ) (g : Generated) (i x y : ℕ) (asks : List Ask) → (asks, y) ≡ drawn_turn layout q x
    → (fold (with_call layout) g asks, y) ≡ turn layout q g i x
unfolding turn
turn_is layout q g i x y asks e = rw (sym e) refl

pub turn_goes : (layout : List Zone) (q i x y : ℕ) (v w : LiveSeen) (c d : Counts) (asks : List Ask)
    → (asks, y) ≡ drawn_turn layout q x
    → ((zones : List Zone) (mem : ℕ) (g : Generated) → IsLayout zones mem → Runs zones mem v c g
    → Runs zones mem w d (fold (with_call zones) g asks)) → Goes (λ zones g. turn zones q g i) layout v c x w d y
turn_goes layout q i x y v w c d asks e made mem g lies r =
    subst (RunsTo layout mem w d y) (turn_is layout q g i x y asks e)
    (record { runs = made layout mem g lies r; number = refl })

pub calls_drawn : (layout : List Zone) (g : Generated) (q x y w : ℕ) (cuts : List CutAppend) (names : List ZoneName)
    → names ≡ rings layout → y ≡ (draw_over (turn layout q) g (range_with_len 0 24) x).1 → (cuts, w) ≡ drawn_cut names y
    → (fold (with_cut layout) (draw_over (turn layout q) g (range_with_len 0 24) x).0 cuts, w)
    ≡ drawn_calls layout g q x
unfolding drawn_calls
calls_drawn layout g q x y w cuts names en ey ec =
    let e : (cuts, w) ≡ drawn_cut (rings layout) (draw_over (turn layout q) g (range_with_len 0 24) x).1 =
    rw (en, ey) at ec in
    rw (sym e) refl

-- ---- a boot

-- what a boot leaves is sound, whatever stood before it
up_sound : (layout : List Zone) (mem : ℕ) (s : OffState) → IsLayout layout mem → length s.image ≡ mem
    → AreBytes s.image → IsState layout mem (Live (booted layout s))
up_sound layout mem s lies size bytes = operations_keep_states_sound layout mem (Off (fresh layout s.image)) Boot lies
    (fresh_is_sound layout mem s.image lies size bytes) tt

pub is_up : (layout : List Zone) (mem : ℕ) (s : OffState) (off : OffSeen) (v : LiveSeen) (saved : _)
    (told : List ZoneReport) → AreBytes off.image → IsLayout layout mem → StandsOff layout mem off s
    → length s.image ≡ mem → Booted layout mem s v saved told → IsUp layout mem s v told
is_up layout mem s off v saved told bytes lies stands size b = record {
  stands = b.live;
  sound = up_sound layout mem s lies size (rw stands.image at bytes);
  reports = b.reports;
}

pub boot_drawn : (layout : List Zone) (g : Generated) (x w : ℕ) (rest : List Zone) (flips : List (ℕ × ℕ))
    → rest ≡ resting layout g.session → (flips, w) ≡ draw_over drawn_damage [] rest x
    → (with_boot layout (fold (with_flip layout) (with_stop layout g) flips), w) ≡ drawn_boot layout g x
unfolding drawn_boot
boot_drawn layout g x w rest flips er e =
    let h : (flips, w) ≡ draw_over drawn_damage [] (resting layout g.session) x = rw er at e in
    rw (sym h) refl

pub booted_is : (layout : List Zone) (mem : ℕ) (v : OffSeen) (live : LiveSeen) (c new : Counts) (g : Generated)
    (now : OffState) (flips : List (ℕ × ℕ)) (told : List ZoneReport) → g ≡ counted (Off now) c
    → (d : IsDamaged layout mem g flips v) → IsUp layout mem d.next live told
    → new ≡ verdicts_added (flips_added c (length flips)) (count_by (λ (r : ZoneReport). is_told r.verdict) told)
    (count_by (λ (r : ZoneReport). is_other r.verdict) told)
    → Runs layout mem live new (with_boot layout (fold (with_flip layout) g flips))
booted_is layout mem v live c new g now flips told e d up same = record {
  now = booted layout d.next;
  is = ap (with_boot layout) d.made ∙ rw (same, e, up.reports) refl;
  stands = up.stands;
  sound = up.sound;
}

-- ---- a round

pub round_is : (layout : List Zone) (g : Generated) (q x y : ℕ) → y ≡ (drawn_calls layout g q x).1
    → drawn_boot layout (drawn_calls layout g q x).0 y ≡ round layout g q x
unfolding round
round_is layout g q x y e = rw e refl
