-- What refuses a candidate before its zones are looked at
use Rattle.std.proofs.Common.{◌≡◌, ◌+◌, ◌^◌, ◌≤◌, Bool, true, false, ◌||◌, ◌&&◌, ◌==◌, if◌then◌else◌, nat_lt, List, []}
use Rattle.std.proofs.Common.{◌∷◌, ◌++◌, take, drop, Option, Some, refl, ap, arith}
use Rattle.std.specs.Prelude.{is_ok}
use Rattle.std.proofs.lemmas.Bool.{or_parts, ltb-false}
use Rattle.zone_spec.specs.declared.Zone.{Zone}
use Rattle.zone_spec.specs.declared.params.LayoutFault.{LayoutFault}
use Rattle.zone_spec.specs.declared.params.LayoutFault.TheVariants.{TooLarge, CpusBad, NoRoom}
use Rattle.zone_spec.specs.Layout.{rounded, dump_memory, lacks_room, zones_of, layout_of, parameter_faults, zone_faults}
use Rattle.zone_spec.specs.Layout.{first_fault, ok_unless}
use Rattle.zone_spec.specs.Numbers.{most_memory}
use Rattle.layout_spec.specs.declared.Candidate.{Candidate}
use Rattle.layout_spec.specs.Laid.{params_of, has_layout}
use Rattle.layout_search.specs.Rows.{IsRoomy}

chosen : (b : Bool) (f : LayoutFault) (o : Option LayoutFault) (zones : List Zone)
    → is_ok (ok_unless o zones) ≡ false → is_ok (ok_unless (if b then Some f else o) zones) ≡ false
chosen true f o zones h = refl
chosen false f o zones h = h

-- a fault that holds refuses the parameters, whatever stands before it
refuses : (before : List (Bool × LayoutFault)) (b : Bool) (f : LayoutFault) (behind : List (Bool × LayoutFault))
    (zones : List Zone) → b ≡ true
    → is_ok (ok_unless (first_fault (before ++ (b, f) ∷ behind)) zones) ≡ false
refuses [] b f behind zones h = ap (λ (b : Bool). is_ok (ok_unless (if b then Some f else first_fault behind) zones)) h
refuses (row ∷ before) b f behind zones h =
    chosen row.0 row.1 (first_fault (before ++ (b, f) ∷ behind)) zones (refuses before b f behind zones h)

pub too_large : (c : Candidate) → nat_lt most_memory c.mem ≡ true → has_layout c ≡ false
unfolding layout_of
too_large c h = refuses (take 2 (parameter_faults (params_of c))) (nat_lt most_memory c.mem) TooLarge
    (drop 3 (parameter_faults (params_of c)) ++ zone_faults (zones_of (params_of c)))
    (zones_of (params_of c)) h

pub cpus_bad : (c : Candidate) → ((c.cpus == 0) || nat_lt 64 c.cpus) ≡ true → has_layout c ≡ false
unfolding layout_of
cpus_bad c h = refuses (take 5 (parameter_faults (params_of c))) ((c.cpus == 0) || nat_lt 64 c.cpus) CpusBad
    (drop 6 (parameter_faults (params_of c)) ++ zone_faults (zones_of (params_of c)))
    (zones_of (params_of c)) h

pub no_room : (c : Candidate) → lacks_room (params_of c) ≡ true → has_layout c ≡ false
unfolding layout_of
no_room c h = refuses (take 6 (parameter_faults (params_of c))) (lacks_room (params_of c)) NoRoom
    (zone_faults (zones_of (params_of c))) (zones_of (params_of c)) h

pub roomy : (c : Candidate) → c.mem ≤ 2 ^ 24 → lacks_room (params_of c) ≡ false → IsRoomy c
roomy c m h =
    let fits : rounded c.console + rounded c.ftrace + rounded c.pmsg ≤ c.mem =
    ltb-false _ _ (or_parts (nat_lt c.mem (rounded c.console + rounded c.ftrace + rounded c.pmsg))
    (nat_lt 0 (dump_memory (params_of c))
    && nat_lt (dump_memory (params_of c)) (rounded c.dump)) h).0 in record {
      mem = m;
      console = omega arith;
      ftrace = omega arith;
      pmsg = omega arith;
    }
