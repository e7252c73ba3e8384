-- What holds of parameters without a fault, and of the rows of their zones
use Rattle.std.proofs.Common.{◌≡◌, ℕ, zero, suc, ◌+◌, ◌-◌, ◌*◌, ◌/◌, ◌^◌, ◌<◌, ◌≤◌, ◌==◌, Bool, true, false, not, ◌&&◌}
use Rattle.std.proofs.Common.{◌||◌, ◌⊎◌, if◌then◌else◌, nat_lt, nat_le, List, [], ◌∷◌, map, Option, Some, None, refl}
use Rattle.std.proofs.Common.{sym, ap, ◌∙◌, arith, inl, inr}
use Rattle.std.specs.List.{All, AllByRecursion, list_any, range_with_len}
use Rattle.std.proofs.Math.Nat.{div-le_self, mul-div-le, mul-le-mul_left}
use Rattle.std.proofs.lemmas.Bool.{and_right, eqb-true, eqb-false, ltb-false, leb-true, lt-ltb}
use Rattle.std.proofs.lemmas.List.Folds.{list_any-append}
use Rattle.std.proofs.lemmas.List.Elements.{All-from_recursion}
use Rattle.zone_spec.specs.declared.Kind.{Kind}
use Rattle.zone_spec.specs.declared.Kind.TheVariants.{Dump, Console, Ftrace, Pmsg}
use Rattle.zone_spec.specs.declared.Zone.{Zone}
use Rattle.zone_spec.specs.declared.params.Order.{Order}
use Rattle.zone_spec.specs.declared.params.Order.TheVariants.{FtracePmsg, PmsgFtrace}
use Rattle.zone_spec.specs.declared.params.Params.{Params}
use Rattle.zone_spec.specs.declared.params.Row.{Row}
use Rattle.zone_spec.specs.declared.params.LayoutFault.{LayoutFault}
use Rattle.zone_spec.specs.Layout.{rounded, even, dump_memory, dump_count, one_row, rows, ecc_of, zone_at, zones_from}
use Rattle.zone_spec.specs.Layout.{parameter_faults, first_fault, ftrace_row, ordered}
use Rattle.ramoops_layout.specs.Rows.{taken, all_taken}

clear : (b : Bool) (f : LayoutFault) (r : Option LayoutFault) → (if b then Some f else r) ≡ None
    → (b ≡ false) × (r ≡ None)
clear true f r h = cc
clear false f r h = (refl, h)

pub each_clear : (faults : List (Bool × LayoutFault)) → first_fault faults ≡ None
    → AllByRecursion (λ (row : Bool × LayoutFault). row.0 ≡ false) faults
each_clear [] h = tt
each_clear (row ∷ rows) h = let both = clear row.0 row.1 (first_fault rows) h in (both.0, each_clear rows both.1)

pub or_clear : (a b : Bool) → (a || b) ≡ false → (a ≡ false) × (b ≡ false)
or_clear true b h = cc
or_clear false b h = (refl, h)

none_pass : (test : ℕ → Bool) (xs : List ℕ) → list_any test xs ≡ false → AllByRecursion (λ x. test x ≡ false) xs
none_pass test [] h = tt
none_pass test (x ∷ xs) h = let both = or_clear (test x) (list_any test xs) h in (both.0, none_pass test xs both.1)

pub record IsFaultless (p : Params) : Type 0 where
  pub memory : p.mem ≤ 2 ^ 24
  pub ecc : p.ecc ≤ 127
  pub ecc_dump : p.ecc_dump ≤ 127
  pub ecc_console : p.ecc_console ≤ 127
  pub ecc_ftrace : p.ecc_ftrace ≤ 127
  pub ecc_pmsg : p.ecc_pmsg ≤ 127
  pub block : (p.block ≡ 32) ⊎ (p.block ≡ 64) ⊎ (p.block ≡ 128)
  pub cpus_least : 0 < p.cpus
  pub cpus_most : p.cpus ≤ 64
  pub room : rounded p.console + rounded p.ftrace + rounded p.pmsg ≤ p.mem

block_cases : (k : ℕ) → not (list_any (λ b. k == b) (32 ∷ 64 ∷ 128 ∷ [])) ≡ false → (k ≡ 32) ⊎ (k ≡ 64) ⊎ (k ≡ 128)
block_cases k h = by (k == 32) (k == 64) (k == 128) refl refl refl h
  where
    by : (a b c : Bool) → (k == 32) ≡ a → (k == 64) ≡ b → (k == 128) ≡ c → not (a || (b || (c || false))) ≡ false
        → (k ≡ 32) ⊎ (k ≡ 64) ⊎ (k ≡ 128)
    by true b c u v w h = inl (eqb-true k 32 u)
    by false true c u v w h = inr (inl (eqb-true k 64 v))
    by false false true u v w h = inr (inr (eqb-true k 128 w))
    by false false false u v w h = cc

pub faultless : (p : Params) → first_fault (parameter_faults p) ≡ None → IsFaultless p
faultless p h =
    let each = each_clear (parameter_faults p) h in
    let eccs = none_pass (nat_lt 127) (p.ecc ∷ p.ecc_dump ∷ p.ecc_console ∷ p.ecc_ftrace ∷ p.ecc_pmsg ∷ [])
    each.1.1.1.0 in
    let cpus = or_clear (p.cpus == 0) (nat_lt 64 p.cpus) each.1.1.1.1.1.0 in
    let room = or_clear (nat_lt p.mem (rounded p.console + rounded p.ftrace + rounded p.pmsg))
    (nat_lt 0 (dump_memory p) && nat_lt (dump_memory p) (rounded p.dump)) each.1.1.1.1.1.1.0 in
    record {
      memory = ltb-false _ _ each.1.1.0;
      ecc = ltb-false _ _ eccs.0;
      ecc_dump = ltb-false _ _ eccs.1.0;
      ecc_console = ltb-false _ _ eccs.1.1.0;
      ecc_ftrace = ltb-false _ _ eccs.1.1.1.0;
      ecc_pmsg = ltb-false _ _ eccs.1.1.1.1.0;
      block = block_cases p.block each.1.1.1.1.0;
      cpus_least = omega (arith, eqb-false p.cpus 0 cpus.0);
      cpus_most = ltb-false _ _ cpus.1;
      room = ltb-false _ _ room.0;
    }

pub parity_within : (p : Params) (kind : Kind) → IsFaultless p → ecc_of p kind ≤ 127
parity_within p Dump f = f.ecc_dump
parity_within p Console f = f.ecc_console
parity_within p Ftrace f = f.ecc_ftrace
parity_within p Pmsg f = f.ecc_pmsg

pub block_positive : (p : Params) → IsFaultless p → 0 < p.block
block_positive p f = elim f.block [ inl h ↦ omega arith | inr t ↦ elim t [ inl h ↦ omega arith | inr h ↦ omega arith ] ]

pub block_at_most : (p : Params) → IsFaultless p → p.block ≤ 128
block_at_most p f = elim f.block [ inl h ↦ omega arith | inr t ↦ elim t [ inl h ↦ omega arith | inr h ↦ omega arith ] ]

pub even_le : (n : ℕ) → even n ≤ n
even_le n = omega arith

pub shared : (m k : ℕ) → k * even (m / k) ≤ m
shared m k = omega (arith, mul-div-le m k, mul-le-mul_left k (even_le (m / k)))

-- a row lies within so much memory
pub record Within (row : Row) (most : ℕ) : Type 0 where
  pub all : taken row ≤ most
  pub each : row.size ≤ most
  pub count : row.count ≤ most + 64

pub one_within : (kind : Kind) (size : ℕ) → Within (one_row kind size) size
one_within kind size = record { all = by (size == 0); each = omega arith; count = count_by_size (size == 0) }
  where
    by : (b : Bool) → (if b then 0 else 1) * size ≤ size
    by true = omega arith
    by false = omega arith

    count_by_size : (b : Bool) → (if b then 0 else 1) ≤ size + 64
    count_by_size true = omega arith
    count_by_size false = omega arith

dump_within : (p : Params) → Within (record {
  kind = Dump;
  count = dump_count p;
  size = even (dump_memory p / dump_count p);
}) (dump_memory p)
dump_within p = record {
  all = shared (dump_memory p) (dump_count p);
  each = omega (arith, even_le (dump_memory p / dump_count p), div-le_self (dump_memory p) (dump_count p));
  count = by (rounded p.dump == 0) (div-le_self (dump_memory p) (rounded p.dump));
}
  where
    by : (b : Bool) → dump_memory p / rounded p.dump ≤ dump_memory p
        → (if b then 0 else dump_memory p / rounded p.dump) ≤ dump_memory p + 64
    by true h = omega arith
    by false h = omega arith

pub ftrace_within : (p : Params) → p.cpus ≤ 64 → Within (ftrace_row p) (rounded p.ftrace)
ftrace_within p cpus = record {
  all = by (rounded p.ftrace == 0) (shared (rounded p.ftrace) p.cpus);
  each = omega (arith, even_le (rounded p.ftrace / p.cpus), div-le_self (rounded p.ftrace) p.cpus);
  count = most (rounded p.ftrace == 0);
}
  where
    by : (b : Bool) → p.cpus * even (rounded p.ftrace / p.cpus) ≤ rounded p.ftrace
        → (if b then 0 else p.cpus) * even (rounded p.ftrace / p.cpus) ≤ rounded p.ftrace
    by true h = omega arith
    by false h = h

    most : (b : Bool) → (if b then 0 else p.cpus) ≤ rounded p.ftrace + 64
    most true = omega arith
    most false = omega arith

-- each row within the memory
abbrev pub AreWithin : ℕ → List Row → Type 0
AreWithin most rows = AllByRecursion (λ row. Within row most) rows

wider : (row : Row) (m n : ℕ) → m ≤ n → Within row m → Within row n
wider row m n h w = record { all = omega (arith, w.all); each = omega (arith, w.each); count = omega (arith, w.count) }

-- what holds of both of two rows holds in either order
pub all_ordered : (P : Row → Type 0) (order : Order) (a b : Row) → P a → P b → AllByRecursion P (ordered order a b)
all_ordered P FtracePmsg a b h k = (h, (k, tt))
all_ordered P PmsgFtrace a b h k = (k, (h, tt))

taken_ordered : (order : Order) (a b : Row) → all_taken (ordered order a b) ≡ taken a + taken b
taken_ordered FtracePmsg a b = omega arith
taken_ordered PmsgFtrace a b = omega arith

pub rows_within : (p : Params) → IsFaultless p → AreWithin p.mem (rows p)
rows_within p f =
    let room = f.room in (
      wider _ (dump_memory p) p.mem (omega arith) (dump_within p),
      (
        wider _ (rounded p.console) p.mem (omega arith) (one_within Console (rounded p.console)),
        all_ordered (λ row. Within row p.mem) p.order (ftrace_row p) (one_row Pmsg (rounded p.pmsg))
            (wider _ (rounded p.ftrace) p.mem (omega arith) (ftrace_within p f.cpus_most))
            (wider _ (rounded p.pmsg) p.mem (omega arith) (one_within Pmsg (rounded p.pmsg))),
      ),
    )

pub rows_total : (p : Params) → IsFaultless p → all_taken (rows p) ≤ p.mem
rows_total p f = totals (dump_within p).all (one_within Console (rounded p.console)).all
    (ftrace_within p f.cpus_most).all (one_within Pmsg (rounded p.pmsg)).all f.room
    (taken_ordered p.order (ftrace_row p) (one_row Pmsg (rounded p.pmsg)))
  where
    totals : {a b c d e : ℕ} → a ≤ dump_memory p → b ≤ rounded p.console → c ≤ rounded p.ftrace → d ≤ rounded p.pmsg
        → rounded p.console + rounded p.ftrace + rounded p.pmsg ≤ p.mem → e ≡ c + d
        → a + (b + e) ≤ p.mem
    totals u v w x room same = omega arith

pub mem_small : (p : Params) → IsFaultless p → p.mem ≤ 2 ^ 24
mem_small p f = f.memory

-- ---- tests over the zones

any_row : (test : Zone → Bool) (b : Bool) (make : ℕ → Zone) (from n : ℕ) → ((i : ℕ) → test (make i) ≡ b)
    → list_any test (map make (range_with_len from n)) ≡ (nat_lt 0 n && b)
any_row test b make from zero h = refl
any_row test b make from (suc n) h = rw (h from) (some b (any_row test b make (from + 1) n h))
  where
    some : (b : Bool) → list_any test (map make (range_with_len (from + 1) n)) ≡ (nat_lt 0 n && b)
        → (b || list_any test (map make (range_with_len (from + 1) n))) ≡ (nat_lt 0 (suc n) && b)
    some true e = sym (ap (λ t. t && true) (lt-ltb 0 (suc n) (omega arith)))
    some false e = e ∙ and_right (nat_lt 0 n) false refl ∙ sym (and_right (nat_lt 0 (suc n)) false refl)

-- a test of the zones that place and number don't change is one of the first zone of each row
pub any_in_rows : (test : Zone → Bool) (p : Params) (at : ℕ) (rows : List Row)
    → ((row : Row) (i place : ℕ) → test (zone_at p row.kind row.size i place) ≡ test (zone_at p row.kind row.size 0 0))
    → list_any test (zones_from p at rows) ≡ list_any (λ (row : Row). nat_lt 0 row.count && test
    (zone_at p row.kind row.size 0 0)) rows
unfolding zones_from
any_in_rows test p at [] h = refl
any_in_rows test p at (row ∷ rows) h =
    list_any-append test (map (λ i. zone_at p row.kind row.size i (at + i * row.size)) (range_with_len 0 row.count))
    (zones_from p (at + row.count * row.size) rows)
    ∙ cc (
      any_row test (test (zone_at p row.kind row.size 0 0)) (λ i. zone_at p row.kind row.size i (at + i * row.size))
          0 row.count (λ i. h row i (at + i * row.size)),
      any_in_rows test p (at + row.count * row.size) rows h,
    )

-- parity that leaves no room leaves too little
pub tight_test : (room parity : ℕ) → (nat_le room parity || nat_lt (room - parity) 64) ≡ nat_lt (room - parity) 64
tight_test room parity = by (nat_le room parity) refl
  where
    by : (b : Bool) → nat_le room parity ≡ b → (b || nat_lt (room - parity) 64) ≡ nat_lt (room - parity) 64
    by true h = sym (lt-ltb (room - parity) 64 (omega (arith, leb-true room parity h)))
    by false h = refl

-- what follows from lying within the memory holds of each row
pub each_row : (p : Params) (P : Row → Type 0) → IsFaultless p → ((row : Row) → Within row p.mem → P row)
    → AllByRecursion P (rows p)
each_row p P f give = each (rows p) (rows_within p f)
  where
    each : (rows : List Row) → AreWithin p.mem rows → AllByRecursion P rows
    each [] h = tt
    each (row ∷ rows) h = (give row h.0, each rows h.1)

-- the rows' sizes, in turn and by index
pub each_small : (p : Params) → IsFaultless p → AllByRecursion (λ (row : Row). row.size ≤ 2 ^ 24) (rows p)
each_small p f = each_row p (λ (row : Row). row.size ≤ 2 ^ 24) f (λ row w. omega (arith, w.each, mem_small p f))

pub sizes_small : (p : Params) → IsFaultless p → All (λ (row : Row). row.size ≤ 2 ^ 24) (rows p)
sizes_small p f = All-from_recursion (λ (row : Row). row.size ≤ 2 ^ 24) (rows p) (each_small p f)

-- the faults of the zones, by their rows
pub small_rows : (p : Params) → list_any (λ (row : Row). nat_lt 0 row.count && nat_lt row.size 256) (rows p)
    ≡ list_any (λ (z : Zone). nat_lt z.size 256) (zones_from p 0 (rows p))
small_rows p = sym (any_in_rows (λ (z : Zone). nat_lt z.size 256) p 0 (rows p) (λ row i place. refl))

pub any_same : {X : Type 0} (f g : X → Bool) (xs : List X) → ((x : X) → f x ≡ g x) → list_any f xs ≡ list_any g xs
any_same f g [] h = refl
any_same f g (x ∷ xs) h = cc (h x, any_same f g xs h)

pub tight_rows : (p : Params) → list_any (λ (row : Row). nat_lt 0 row.count && nat_lt
    (zone_at p row.kind row.size 0 0).cap 64) (rows p)
    ≡ list_any (λ (z : Zone). nat_le (z.size - 12) ((z.blocks + 1) * z.parity) || nat_lt z.cap 64)
    (zones_from p 0 (rows p))
tight_rows p =
    any_same (λ (row : Row). nat_lt 0 row.count && nat_lt (zone_at p row.kind row.size 0 0).cap 64)
    (λ (row : Row). nat_lt 0 row.count && (nat_le ((zone_at p row.kind row.size 0 0).size - 12)
    (((zone_at p row.kind row.size 0 0).blocks + 1) * (zone_at p row.kind row.size 0 0).parity)
    || nat_lt (zone_at p row.kind row.size 0 0).cap 64)) (rows p)
    (λ row. ap (λ t. nat_lt 0 row.count && t) (sym (tight_test (row.size - 12)
    (((zone_at p row.kind row.size 0 0).blocks + 1) * (zone_at p row.kind row.size 0 0).parity))))
    ∙ sym (any_in_rows (λ (z : Zone). nat_le (z.size - 12) ((z.blocks + 1) * z.parity) || nat_lt z.cap 64) p 0
    (rows p) (λ row i place. refl))
