-- The zones of a storage are four runs, one behind the other; where each zone of a run lies, and that all have room.
-- For `zone_at`, `read_at` and `zone_count`.
use Rattle.std.proofs.Common.{◌≡◌, ℕ, zero, suc, ◌+◌, ◌-◌, ◌*◌, ◌/◌, ◌%◌, ◌^◌, ◌<◌, ◌≤◌, refl, sym, ap, ◌∙◌, arith}
use Rattle.std.proofs.Common.{List, [], ◌∷◌, ◌++◌, length, Bool, true, false, append-nil, append_assoc, length-append}
use Rattle.std.proofs.Common.{div-mul-le_self, mul-le-mul_right, mul_comm}
use Rattle.std.specs.Prelude.{Option, Some, None, slice_get, filter, nat_lt, ◌==◌, not, ◌&&◌, ◌||◌, if◌then◌else◌}
use Rattle.std.proofs.lemmas.Option.{slice_get_past}
use Rattle.std.proofs.lemmas.List.Elements.{filter-append}
use Rattle.std.proofs.lemmas.Bool.Decides.{nat_tests}
use Rattle.psz_spec.specs.declared.Kind.{Kind}
use Rattle.psz_spec.specs.declared.Kind.TheVariants.{Pmsg, Console, Ftrace, Dump}
use Rattle.psz_spec.specs.declared.Sizes.{Sizes}
use Rattle.psz_spec.specs.declared.Zone.{Zone}
use Rattle.psz_spec.specs.declared.SizeFault.{SizeFault}
use Rattle.psz_spec.specs.declared.SizeFault.TheVariants.{TotalSmall, NoSize, TotalUneven, SizeUneven, NoRoom}
use Rattle.psz_spec.specs.declared.SizeFault.TheVariants.{FtraceSmall, NoDumpZone}
use Rattle.psz_spec.specs.Layouts.{zones_from, zones_of, zone_or_none, used, size_fault, ftrace_each, ftrace_count}
use Rattle.psz_spec.specs.Layouts.{dump_at, dump_count}
use Rattle.psz_spec.specs.Layouts.{has_no_size, is_uneven, is_uneven_one, is_ftrace_small, has_no_dump_zone}
use Rattle.psz_spec.specs.Records.{is_of}
use Rattle.psz_spec.specs.Parts.{read_order}
use Rattle.psz_read.specs.declared.zones.Run.{Run}
use Rattle.psz_read.specs.Runs.{run_zones, run_zone, fits, one_or_none, pmsg_run, console_run, ftrace_run, dump_run}

-- ---- lists

pub get_left : (a b : List Zone) (i : ℕ) → i < length a → slice_get (a ++ b) i ≡ slice_get a i
get_left [] b i h = absurd (omega (arith, h))
get_left (x ∷ a) b zero h = refl
get_left (x ∷ a) b (suc i) h = get_left a b i (omega (arith, h))

pub get_right : (a b : List Zone) (i : ℕ) → length a ≤ i → slice_get (a ++ b) i ≡ slice_get b (i - length a)
get_right [] b i h = ap (λ (n : ℕ). slice_get b n) (let e : i ≡ i - 0 = omega arith in e)
get_right (x ∷ a) b zero h = absurd (omega (arith, h))
get_right (x ∷ a) b (suc i) h = get_right a b i (omega (arith, h))
    ∙ ap (λ (n : ℕ). slice_get b n) (let e : i - length a ≡ suc i - length (x ∷ a) = omega arith in e)

-- ---- one run

pub run_length : (kind : Kind) (size n index at : ℕ) → length (zones_from kind size n index at) ≡ n
unfolding zones_from
run_length kind size zero index at = refl
run_length kind size (suc n) index at =
    let e : length (zones_from kind size n (index + 1) (at + size)) ≡ n =
    run_length kind size n (index + 1) (at + size) in
    omega (arith, e)

abbrev some_zone : Kind → ℕ → ℕ → ℕ → Option Zone
some_zone kind size index at = Some (record { kind = kind; index = index; at = at; size = size })

pub run_get : (kind : Kind) (size n index at i : ℕ) → i < n
    → slice_get (zones_from kind size n index at) i ≡ some_zone kind size (index + i) (at + i * size)
unfolding zones_from
run_get kind size zero index at i h = absurd (omega (arith, h))
run_get kind size (suc n) index at zero h =
    ap (λ (m : ℕ). some_zone kind size m at) (let e : index ≡ index + 0 = omega arith in e)
    ∙ ap (λ (m : ℕ). some_zone kind size (index + 0) m) (let e : at ≡ at + 0 * size = omega arith in e)
run_get kind size (suc n) index at (suc i) h =
    run_get kind size n (index + 1) (at + size) i (omega (arith, h))
    ∙ ap (λ (m : ℕ). some_zone kind size m (at + size + i * size)) (let e : index + 1 + i ≡ index + suc i = omega
    arith in e)
    ∙ ap (λ (m : ℕ). some_zone kind size (index + suc i) m)
    (let e : at + size + i * size ≡ at + suc i * size = omega arith in e)

pub run_inside : (run : Run) (i : ℕ) → i < run.count → slice_get (run_zones run) i ≡ Some (run_zone run i)
run_inside run i h = run_get run.kind run.size run.count 0 run.at i h
    ∙ ap (λ (m : ℕ). some_zone run.kind run.size m (run.at + i * run.size)) (let e : 0 + i ≡ i = omega arith in e)

pub run_past : (run : Run) (i : ℕ) → run.count ≤ i → slice_get (run_zones run) i ≡ None
run_past run i h = slice_get_past (run_zones run) i
    (let e : length (run_zones run) ≡ run.count = run_length run.kind run.size run.count 0 run.at in omega (
      arith,
      e,
      h,
    ))

pub run_place : (run : Run) (i : ℕ) → i < run.count → run.at + i * run.size ≤ run.at + run.count * run.size
run_place run i h =
    let e : i * run.size ≤ run.count * run.size =
    mul-le-mul_right run.size (let l : i ≤ run.count = omega (arith, h) in l) in
    omega (arith, e)

-- ---- four runs

pub count_of_run : (run : Run) → length (run_zones run) ≡ run.count
count_of_run run = run_length run.kind run.size run.count 0 run.at

pub pick_first : (run : Run) (b : List Zone) (i : ℕ) → i < run.count
    → slice_get (run_zones run) i ≡ slice_get (run_zones run ++ b) i
pick_first run b i h = sym (get_left (run_zones run) b i
    (let e : length (run_zones run) ≡ run.count = count_of_run run in omega (arith, e, h)))

pub pick_rest : (run : Run) (b : List Zone) (i : ℕ) → run.count ≤ i
    → slice_get b (i - run.count) ≡ slice_get (run_zones run ++ b) i
pick_rest run b i h =
    let e : length (run_zones run) ≡ run.count = count_of_run run in
    ap (λ (n : ℕ). slice_get b (i - n)) (sym e) ∙ sym (get_right (run_zones run) b i (omega (arith, e, h)))

one_by : (b : Bool) (kind : Kind) (size at : ℕ)
    → (if b then [] else zones_from kind size 1 0 at) ≡ zones_from kind size (if b then 0 else 1) 0 at
unfolding zones_from
one_by true kind size at = refl
one_by false kind size at = refl

one_as_run : (kind : Kind) (size at : ℕ) → zone_or_none kind size at ≡ zones_from kind size (one_or_none size) 0 at
one_as_run kind size at = one_by (size == 0) kind size at

joined : (a b c d e f : List Zone) → a ≡ e → b ≡ f → ((a ++ b) ++ c) ++ d ≡ e ++ (f ++ (c ++ d))
joined a b c d e f p q = rw (p, q) (simp append_assoc)

abbrev pub all_runs : Sizes → List Zone
all_runs s =
    run_zones (pmsg_run s) ++ (run_zones (console_run s) ++ (run_zones (ftrace_run s) ++ run_zones (dump_run s)))

pub zones_as_runs : (s : Sizes) → zones_of s ≡ all_runs s
unfolding zones_of
zones_as_runs s =
    joined (zone_or_none Pmsg s.pmsg 0) (zone_or_none Console s.console s.pmsg) (run_zones (ftrace_run s))
    (run_zones (dump_run s)) (run_zones (pmsg_run s)) (run_zones (console_run s)) (one_as_run Pmsg s.pmsg 0)
    (one_as_run Console s.console s.pmsg)

-- ---- the order of reading

all_pass : (p : Zone → Bool) (kind : Kind) (size n index at : ℕ)
    → ((i a : ℕ) → p (record { kind = kind; index = i; at = a; size = size }) ≡ true)
    → filter p (zones_from kind size n index at) ≡ zones_from kind size n index at
unfolding zones_from
all_pass p kind size zero index at h = refl
all_pass p kind size (suc n) index at h = rw (h index at) (ap
    (λ (zs : List Zone). (record { kind = kind; index = index; at = at; size = size }) ∷ zs)
    (all_pass p kind size n (index + 1) (at + size) h))

none_pass : (p : Zone → Bool) (kind : Kind) (size n index at : ℕ)
    → ((i a : ℕ) → p (record { kind = kind; index = i; at = a; size = size }) ≡ false)
    → filter p (zones_from kind size n index at) ≡ []
unfolding zones_from
none_pass p kind size zero index at h = refl
none_pass p kind size (suc n) index at h =
    rw (h index at) (none_pass p kind size n (index + 1) (at + size) h)

of_runs : (p : Zone → Bool) (a b c d : List Zone)
    → filter p (a ++ (b ++ (c ++ d))) ≡ filter p a ++ (filter p b ++ (filter p c ++ filter p d))
of_runs p a b c d = filter-append p a (b ++ (c ++ d))
    ∙ ap (λ (zs : List Zone). filter p a ++ zs) (filter-append p b (c ++ d)
    ∙ ap (λ (zs : List Zone). filter p b ++ zs) (filter-append p c d))

abbrev is_kind : Kind → Zone → Bool
is_kind kind z = is_of kind z.kind

dumps_of : (s : Sizes) → filter (is_kind Dump) (all_runs s) ≡ run_zones (dump_run s)
dumps_of s =
    of_runs (is_kind Dump) (run_zones (pmsg_run s)) (run_zones (console_run s)) (run_zones (ftrace_run s))
    (run_zones (dump_run s))
    ∙ rw (
      none_pass (is_kind Dump) Pmsg s.pmsg (one_or_none s.pmsg) 0 0 (λ i a. refl),
      none_pass (is_kind Dump) Console s.console (one_or_none s.console) 0 s.pmsg (λ i a. refl),
      none_pass (is_kind Dump) Ftrace (ftrace_each s) (ftrace_count s) 0 (s.pmsg + s.console) (λ i a. refl),
      all_pass (is_kind Dump) Dump s.dump (dump_count s) 0 (dump_at s) (λ i a. refl),
    ) refl

traces_of : (s : Sizes) → filter (is_kind Ftrace) (all_runs s) ≡ run_zones (ftrace_run s)
traces_of s =
    of_runs (is_kind Ftrace) (run_zones (pmsg_run s)) (run_zones (console_run s)) (run_zones (ftrace_run s))
    (run_zones (dump_run s))
    ∙ rw (
      none_pass (is_kind Ftrace) Pmsg s.pmsg (one_or_none s.pmsg) 0 0 (λ i a. refl),
      none_pass (is_kind Ftrace) Console s.console (one_or_none s.console) 0 s.pmsg (λ i a. refl),
      all_pass (is_kind Ftrace) Ftrace (ftrace_each s) (ftrace_count s) 0 (s.pmsg + s.console) (λ i a. refl),
      none_pass (is_kind Ftrace) Dump s.dump (dump_count s) 0 (dump_at s) (λ i a. refl),
    ) (append-nil (run_zones (ftrace_run s)))

pmsg_of : (s : Sizes) → filter (is_kind Pmsg) (all_runs s) ≡ run_zones (pmsg_run s)
pmsg_of s =
    of_runs (is_kind Pmsg) (run_zones (pmsg_run s)) (run_zones (console_run s)) (run_zones (ftrace_run s))
    (run_zones (dump_run s))
    ∙ rw (
      all_pass (is_kind Pmsg) Pmsg s.pmsg (one_or_none s.pmsg) 0 0 (λ i a. refl),
      none_pass (is_kind Pmsg) Console s.console (one_or_none s.console) 0 s.pmsg (λ i a. refl),
      none_pass (is_kind Pmsg) Ftrace (ftrace_each s) (ftrace_count s) 0 (s.pmsg + s.console) (λ i a. refl),
      none_pass (is_kind Pmsg) Dump s.dump (dump_count s) 0 (dump_at s) (λ i a. refl),
    ) (append-nil (run_zones (pmsg_run s)))

consoles_of : (s : Sizes) → filter (is_kind Console) (all_runs s) ≡ run_zones (console_run s)
consoles_of s =
    of_runs (is_kind Console) (run_zones (pmsg_run s)) (run_zones (console_run s)) (run_zones (ftrace_run s))
    (run_zones (dump_run s))
    ∙ rw (
      none_pass (is_kind Console) Pmsg s.pmsg (one_or_none s.pmsg) 0 0 (λ i a. refl),
      all_pass (is_kind Console) Console s.console (one_or_none s.console) 0 s.pmsg (λ i a. refl),
      none_pass (is_kind Console) Ftrace (ftrace_each s) (ftrace_count s) 0 (s.pmsg + s.console) (λ i a. refl),
      none_pass (is_kind Console) Dump s.dump (dump_count s) 0 (dump_at s) (λ i a. refl),
    ) (append-nil (run_zones (console_run s)))

abbrev pub read_runs : Sizes → List Zone
read_runs s =
    run_zones (dump_run s) ++ (run_zones (ftrace_run s) ++ (run_zones (pmsg_run s) ++ run_zones (console_run s)))

in_order : (zones d f p c : List Zone) → filter (is_kind Dump) zones ≡ d → filter (is_kind Ftrace) zones ≡ f
    → filter (is_kind Pmsg) zones ≡ p → filter (is_kind Console) zones ≡ c
    → read_order zones ≡ d ++ (f ++ (p ++ c))
unfolding read_order
in_order zones d f p c e g h k = rw (e, g, h, k) (simp append_assoc)

pub order_as_runs : (s : Sizes) → read_order (zones_of s) ≡ read_runs s
order_as_runs s =
    ap read_order (zones_as_runs s)
    ∙ in_order (all_runs s) (run_zones (dump_run s)) (run_zones (ftrace_run s)) (run_zones (pmsg_run s))
    (run_zones (console_run s)) (dumps_of s) (traces_of s) (pmsg_of s) (consoles_of s)

pub dump_zones_as_run : (s : Sizes) → filter (λ (z : Zone). is_of Dump z.kind) (zones_of s) ≡ run_zones (dump_run s)
dump_zones_as_run s = ap (λ (zs : List Zone). filter (is_kind Dump) zs) (zones_as_runs s) ∙ dumps_of s

-- how many dump zones there are
pub dump_zones_count : (s : Sizes) → length (filter (λ (z : Zone). is_of Dump z.kind) (zones_of s)) ≡ dump_count s
dump_zones_count s = ap length (dump_zones_as_run s) ∙ count_of_run (dump_run s)

pub zones_from_runs : (s : Sizes) (a b c d : Run) → a ≡ pmsg_run s → b ≡ console_run s → c ≡ ftrace_run s
    → d ≡ dump_run s → run_zones a ++ (run_zones b ++ (run_zones c ++ run_zones d)) ≡ zones_of s
zones_from_runs s a b c d e f g h = rw (e, f, g, h) (sym (zones_as_runs s))

pub order_from_runs : (s : Sizes) (a b c d : Run) → a ≡ pmsg_run s → b ≡ console_run s → c ≡ ftrace_run s
    → d ≡ dump_run s → run_zones d ++ (run_zones c ++ (run_zones a ++ run_zones b)) ≡ read_order (zones_of s)
order_from_runs s a b c d e f g h = rw (e, f, g, h) (sym (order_as_runs s))

-- no zone is lost
pub order_length : (s : Sizes) → length (read_order (zones_of s)) ≡ length (zones_of s)
order_length s =
    let a : List Zone = run_zones (pmsg_run s) in
    let b : List Zone = run_zones (console_run s) in
    let c : List Zone = run_zones (ftrace_run s) in
    let d : List Zone = run_zones (dump_run s) in
    let e : length (read_order (zones_of s)) ≡ length (d ++ (c ++ (a ++ b))) = ap length (order_as_runs s) in
    let f : length (zones_of s) ≡ length (a ++ (b ++ (c ++ d))) = ap length (zones_as_runs s) in
    omega (
      arith,
      e,
      f,
      length-append d (c ++ (a ++ b)),
      length-append c (a ++ b),
      length-append a b,
      length-append a (b ++ (c ++ d)),
      length-append b (c ++ d),
      length-append c d,
    )
