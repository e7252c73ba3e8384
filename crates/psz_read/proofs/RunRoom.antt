-- Where sizes have no fault, all runs lie inside 128 MiB, and zones have 12 bytes at least. For the runs and their
-- number.
use Rattle.std.proofs.Common.{◌≡◌, ℕ, zero, suc, ◌+◌, ◌-◌, ◌*◌, ◌/◌, ◌%◌, ◌^◌, ◌<◌, ◌≤◌, refl, sym, ap, ◌∙◌, arith}
use Rattle.std.proofs.Common.{Bool, true, false, List, ◌++◌, length, length-append, div-mul-le_self, div-le_self}
use Rattle.std.proofs.Common.{mul-le-mul_right, mul_comm, subst}
use Rattle.std.specs.Prelude.{Option, Some, None, nat_lt, ◌==◌, not, ◌&&◌, ◌||◌, if◌then◌else◌}
use Rattle.std.proofs.lemmas.Bool.Decides.{nat_tests}
use Rattle.psz_spec.specs.declared.Sizes.{Sizes}
use Rattle.psz_spec.specs.declared.SizeFault.{SizeFault}
use Rattle.psz_spec.specs.declared.SizeFault.TheVariants.{TotalSmall, NoSize, TotalUneven, SizeUneven, NoRoom}
use Rattle.psz_spec.specs.declared.SizeFault.TheVariants.{FtraceSmall, NoDumpZone}
use Rattle.psz_spec.specs.Layouts.{zones_of, used, size_fault, ftrace_each, ftrace_count, dump_at, dump_count}
use Rattle.psz_spec.specs.Layouts.{has_no_size, is_uneven, is_uneven_one, is_ftrace_small, has_no_dump_zone}
use Rattle.psz_read.specs.declared.zones.Run.{Run}
use Rattle.psz_read.specs.Runs.{run_zones, fits, one_or_none, pmsg_run, console_run, ftrace_run, dump_run}
use Rattle.psz_read.proofs.RunZones.{zones_as_runs, all_runs, count_of_run}

-- the tests that did not find a fault
abbrev chain : Bool → Bool → Bool → Bool → Bool → Bool → Bool → Option SizeFault
chain a b c d e f g =
    if a then Some TotalSmall
    else (if b then Some NoSize
    else (if c then Some TotalUneven
    else (if d then Some SizeUneven
    else (if e then Some NoRoom
    else (if f then Some FtraceSmall
    else (if g then Some NoDumpZone
    else None))))))

record Passed (d e f : Bool) : Type 0 where
  even : d ≡ false
  room : e ≡ false
  large : f ≡ false

passed : (a b c d e f g : Bool) → chain a b c d e f g ≡ None → Passed d e f
passed true b c d e f g h = cc
passed false true c d e f g h = cc
passed false false true d e f g h = cc
passed false false false true e f g h = cc
passed false false false false true f g h = cc
passed false false false false false true g h = cc
passed false false false false false false true h = cc
passed false false false false false false false h = record { even = refl; room = refl; large = refl }

pub record HasRoom (s : Sizes) : Type 0 where
  pub most : used s ≤ 134_217_728
  pub rings : s.pmsg + s.console + s.ftrace ≤ used s
  pub pmsg : 12 * one_or_none s.pmsg ≤ s.pmsg
  pub console : 12 * one_or_none s.console ≤ s.console
  pub traces : ftrace_count s * ftrace_each s ≤ s.ftrace
  pub many_traces : 12 * ftrace_count s ≤ s.ftrace
  pub dumps : dump_count s * s.dump ≤ used s - (s.pmsg + s.console + s.ftrace)
  pub many_dumps : 12 * dump_count s ≤ used s - (s.pmsg + s.console + s.ftrace)

even_parts : (a b c d : Bool) → (a || b || c || d) ≡ false → (a ≡ false) × (b ≡ false) × (c ≡ false)
even_parts false false false d h = (refl, refl, refl)
even_parts true b c d h = cc
even_parts false true c d h = cc
even_parts false false true d h = cc

even_size : (n : ℕ) → is_uneven n ≡ false → n % 512 ≡ 0
even_size n h = grind (arith, nat_tests)

one_small : (n : ℕ) → n % 512 ≡ 0 → 12 * one_or_none n ≤ n
one_small n h = by (n == 0) refl
  where
    by : (b : Bool) → (n == 0) ≡ b → 12 * (if b then 0 else 1) ≤ n
    by true e = omega arith
    by false e = let some : 0 < n = grind (arith, nat_tests) in omega (arith, h, some)

-- as many as fit
fit_times : (b : Bool) (n each : ℕ) → (if b then 0 else n / each) * each ≤ n
fit_times true n each = omega arith
fit_times false n each = div-mul-le_self n each

-- no more than the room, where each has 12 bytes
fit_many : (b : Bool) (n each : ℕ) → 12 ≤ each → 12 * (if b then 0 else n / each) ≤ n
fit_many b n each h =
    let q : ℕ = (if b then 0 else n / each) in
    let e : 12 * q ≤ each * q = mul-le-mul_right q h in
    let f : q * each ≤ n = fit_times b n each in
    omega (arith, e, f, mul_comm each q)

traces_small : (f each : ℕ) → nat_lt 0 f && nat_lt each 12 ≡ false → 0 < f → 12 ≤ each
traces_small f each h some = grind (arith, nat_tests)

many_traces : (t : Bool) (f each : ℕ) → (0 < f → 12 ≤ each) → 12 * (if t then 0 else f / each) ≤ f
many_traces true f each h = omega arith
many_traces false zero each h = let e : 0 / each ≤ 0 = div-le_self 0 each in omega (arith, e)
many_traces false (suc f) each h = fit_many false (suc f) each (h (omega arith))

many_dumps : (t : Bool) (n each : ℕ) → (each == 0) ≡ t → each % 512 ≡ 0 → 12 * (if t then 0 else n / each) ≤ n
many_dumps true n each e h = omega arith
many_dumps false n each e h =
    fit_many false n each (let some : 0 < each = grind (arith, nat_tests) in omega (arith, h, some))

used_most : (total : ℕ) → (if nat_lt 134_217_728 total then 134_217_728 else total) ≤ 134_217_728
used_most total = grind (arith, nat_tests)

not_above : (m n : ℕ) → nat_lt m n ≡ false → n ≤ m
not_above m n h = grind (arith, nat_tests)

pub has_room : (s : Sizes) → size_fault s ≡ None → HasRoom s
unfolding size_fault
has_room s h =
    let p : Passed (is_uneven_one s) (nat_lt (used s) (s.pmsg + s.console + s.ftrace)) (is_ftrace_small s) =
    passed (nat_lt s.total 4096) (has_no_size s) (not (used s % 4096 == 0)) (is_uneven_one s)
    (nat_lt (used s) (s.pmsg + s.console + s.ftrace)) (is_ftrace_small s) (has_no_dump_zone s) h in
    let even : (is_uneven s.dump ≡ false) × (is_uneven s.pmsg ≡ false) × (is_uneven s.console ≡ false) =
    even_parts (is_uneven s.dump) (is_uneven s.pmsg) (is_uneven s.console) (is_uneven s.ftrace) p.even in
    record {
      most = used_most s.total;
      rings = not_above (used s) (s.pmsg + s.console + s.ftrace) p.room;
      pmsg = one_small s.pmsg (even_size s.pmsg even.1);
      console = one_small s.console (even_size s.console even.2);
      traces = fit_times (ftrace_each s == 0) s.ftrace (ftrace_each s);
      many_traces = many_traces (ftrace_each s == 0) s.ftrace (ftrace_each s)
          (traces_small s.ftrace (ftrace_each s) p.large);
      dumps = fit_times (s.dump == 0) (used s - (s.pmsg + s.console + s.ftrace)) s.dump;
      many_dumps = many_dumps (s.dump == 0) (used s - (s.pmsg + s.console + s.ftrace)) s.dump refl
          (even_size s.dump even.0);
    }

one_times : (n : ℕ) → one_or_none n * n ≤ n
one_times n = by (n == 0)
  where
    by : (b : Bool) → (if b then 0 else 1) * n ≤ n
    by true = omega arith
    by false = omega arith

pub record AllFit (s : Sizes) : Type 0 where
  pub pmsg : fits (pmsg_run s)
  pub console : fits (console_run s)
  pub ftrace : fits (ftrace_run s)
  pub dump : fits (dump_run s)
  pub few_dumps : dump_count s ≤ 134_217_728

pub all_fit : (s : Sizes) → size_fault s ≡ None → AllFit s
all_fit s h =
    let r : HasRoom s = has_room s h in
    let p : one_or_none s.pmsg * s.pmsg ≤ s.pmsg = one_times s.pmsg in
    let q : one_or_none s.console * s.console ≤ s.console = one_times s.console in
    record {
      pmsg = omega (arith, r.most, r.rings, p);
      console = omega (arith, r.most, r.rings, q);
      ftrace = omega (arith, r.most, r.rings, r.traces);
      dump = omega (arith, r.most, r.rings, r.traces, r.dumps);
      few_dumps = omega (arith, r.most, r.many_dumps);
    }

pub few_zones : (s : Sizes) → size_fault s ≡ None
    → 12 * (one_or_none s.pmsg + one_or_none s.console + ftrace_count s + dump_count s) ≤ 134_217_728
few_zones s h = let r : HasRoom s = has_room s h in
    omega (arith, r.most, r.rings, r.pmsg, r.console, r.many_traces, r.many_dumps)

pub count_all : (s : Sizes)
    → one_or_none s.pmsg + one_or_none s.console + ftrace_count s + dump_count s ≡ length (zones_of s)
count_all s =
    let a : length (run_zones (pmsg_run s)) ≡ one_or_none s.pmsg = count_of_run (pmsg_run s) in
    let b : length (run_zones (console_run s)) ≡ one_or_none s.console = count_of_run (console_run s) in
    let c : length (run_zones (ftrace_run s)) ≡ ftrace_count s = count_of_run (ftrace_run s) in
    let d : length (run_zones (dump_run s)) ≡ dump_count s = count_of_run (dump_run s) in
    let e : length (zones_of s) ≡ length (all_runs s) = ap length (zones_as_runs s) in
    omega (
      arith,
      a,
      b,
      c,
      d,
      e,
      length-append (run_zones (pmsg_run s))
          (run_zones (console_run s) ++ (run_zones (ftrace_run s) ++ run_zones (dump_run s))),
      length-append (run_zones (console_run s)) (run_zones (ftrace_run s) ++ run_zones (dump_run s)),
      length-append (run_zones (ftrace_run s)) (run_zones (dump_run s)),
    )

-- ---- by the runs that the code has

pub fits_pmsg : (s : Sizes) (r : Run) → size_fault s ≡ None → r ≡ pmsg_run s → fits r
fits_pmsg s r h e = let P : Run → Type 0 = λ x. fits x in subst P (sym e) ((all_fit s h).pmsg)

pub fits_console : (s : Sizes) (r : Run) → size_fault s ≡ None → r ≡ console_run s → fits r
fits_console s r h e = let P : Run → Type 0 = λ x. fits x in subst P (sym e) ((all_fit s h).console)

pub fits_ftrace : (s : Sizes) (r : Run) → size_fault s ≡ None → r ≡ ftrace_run s → fits r
fits_ftrace s r h e = let P : Run → Type 0 = λ x. fits x in subst P (sym e) ((all_fit s h).ftrace)

pub fits_dump : (s : Sizes) (r : Run) → size_fault s ≡ None → r ≡ dump_run s → fits r
fits_dump s r h e = let P : Run → Type 0 = λ x. fits x in subst P (sym e) ((all_fit s h).dump)

pub sum_all : (s : Sizes) (a b c d : Run) → a ≡ pmsg_run s → b ≡ console_run s → c ≡ ftrace_run s → d ≡ dump_run s
    → a.count + b.count + c.count + d.count ≡ length (zones_of s)
sum_all s a b c d e f g h = rw (e, f, g, h) (count_all s)

pub sum_few : (s : Sizes) (a b c d : Run) → size_fault s ≡ None → a ≡ pmsg_run s → b ≡ console_run s
    → c ≡ ftrace_run s → d ≡ dump_run s → 12 * (a.count + b.count + c.count + d.count) ≤ 134_217_728
sum_few s a b c d n e f g h = rw (e, f, g, h) (few_zones s n)

pub taken_fits : (s : Sizes) (m n : ℕ) → m ≡ ftrace_count s → n ≡ ftrace_each s → m * n ≤ s.ftrace
taken_fits s m n e f = rw (e, f) (fit_times (ftrace_each s == 0) s.ftrace (ftrace_each s))
