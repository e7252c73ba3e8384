-- The numbers that a boot reports of a cut
use Rattle.std.proofs.Common.{◌≡◌, ◌≢◌, ℕ, zero, suc, ◌+◌, ◌<◌, ◌≤◌, ◌⊎◌, Bool, true, false, cond, ◌==◌, List, [], ◌∷◌}
use Rattle.std.proofs.Common.{◌++◌, length, filter, flat_map, get_or, refl, sym, ap, ◌∙◌, subst, arith, inl, inr}
use Rattle.std.proofs.Common.{length-append, append-nil, true≢false, eq-eqb, eqb-true}
use Rattle.std.specs.Prelude.{Contains, sum_by}
use Rattle.std.proofs.lemmas.Bool.{cases_eq, or_right}
use Rattle.std.proofs.lemmas.Bool.Decides.{nat_tests}
use Rattle.std.specs.List.{AllByRecursion, range_with_len, list_any}
use Rattle.zone_spec.specs.declared.Zone.{Zone}
use Rattle.zone_spec.specs.declared.State.{State}
use Rattle.zone_spec.specs.declared.State.TheVariants.{Unsigned, Empty, Invalid, Found}
use Rattle.zone_spec.specs.Zones.{IsValidZone}
use Rattle.zone_spec.specs.Parts.{standing_words}
use Rattle.zone_spec.specs.Reading.{zone_reading}
use Rattle.zone_spec.specs.Stores.{after_stores}
use Rattle.zone_spec.specs.Stages.{Stage, stores_in_turn, stage_count}
use Rattle.zone_spec.specs.Calls.{erase_stages, call_stages, call_stores}
use Rattle.zone_spec.specs.Boot.{boot_fixes, boot_erasure, boot_stores, signing, keeps}
use Rattle.zone_spec.specs.Touched.{touched_by, before_runs, runs_of}
use Rattle.zone_spec.specs.Cut.{Cut, cut_stages, cut_pairs, is_touched}
use Rattle.machine_spec.specs.States.{Flight}
use Rattle.machine_spec.specs.Stop.{cut_of}
use Rattle.machine_spec.specs.BootPart.{boot_cut}
use Rattle.machine_spec.specs.Sound.{IsInFlight}
use Rattle.damage_laws.specs.Exact.{RunsAreTouched, RisesFrom}
use Rattle.damage_laws.specs.CutCalls.{CutReportIsExact}
use Rattle.damage_laws.specs.CutErasures.{BootCutReportIsExact}
use Rattle.ring_laws.proofs.StoreCounts.{length-stores}
use Rattle.ring_laws.proofs.StoreBytes.{HasBytes, call-all}
use Rattle.ring_laws.proofs.BootLaw.{booted_bytes, booted_image}
use Rattle.ring_laws.proofs.HeaderWords.{header_words}
use Rattle.damage_laws.proofs.TouchedBlocks.{touches, any_range, call-leaves}
use Rattle.damage_laws.proofs.Erasures.{erasure_parts}
use Rattle.damage_laws.proofs.FirstPair.{seen_is_exact}

-- ---- runs

Covers : List (ℕ × ℕ) → ℕ → Type 0
Covers [] b = ⊥
Covers (r ∷ rs) b = ((r.0 ≤ b) × (b ≤ r.1)) ⊎ Covers rs b

Ordered : List (ℕ × ℕ) → Type 0
Ordered rs = AllByRecursion (λ (r : ℕ × ℕ). r.0 ≤ r.1) rs

Among : ℕ → List ℕ → Type 0
Among b xs = list_any (λ c. c == b) xs ≡ true

before_ordered : (c : ℕ) (rs : List (ℕ × ℕ)) → Ordered rs → Ordered (before_runs c rs)
unfolding Ordered
before_ordered c [] h = (omega arith, tt)
before_ordered c (r ∷ rs) h = by (c + 1 == r.0) refl
  where
    by : (t : Bool) → (c + 1 == r.0) ≡ t → AllByRecursion (λ (r : ℕ × ℕ). r.0 ≤ r.1)
        (cond t ((c, r.1) ∷ rs) ((c, c) ∷ r ∷ rs))
    by true e = (let f : c + 1 ≡ r.0 = eqb-true (c + 1) r.0 e in omega (arith, h.0), h.1)
    by false e = (omega arith, (h.0, h.1))

before_covers : (c : ℕ) (rs : List (ℕ × ℕ)) (b : ℕ) → Ordered rs → Covers (before_runs c rs) b → (b ≡ c) ⊎ Covers rs b
unfolding Ordered Covers
before_covers c [] b h (inl k) = inl (omega (arith, k.0, k.1))
before_covers c [] b h (inr k) = absurd k
before_covers c (r ∷ rs) b h k = by (c + 1 == r.0) refl k
  where
    by : (t : Bool) → (c + 1 == r.0) ≡ t → Covers (cond t ((c, r.1) ∷ rs) ((c, c) ∷ r ∷ rs)) b
        → (b ≡ c) ⊎ Covers (r ∷ rs) b
    by true e (inl m) = (let f : c + 1 ≡ r.0 = eqb-true (c + 1) r.0 e in
        elim (cases_eq b c) [ inl a ↦ inl a | inr n ↦ inr (inl (omega (arith, m.0), m.1)) ])
    by true e (inr m) = inr (inr m)
    by false e (inl m) = inl (omega (arith, m.0, m.1))
    by false e (inr m) = inr m

covers_before : (c : ℕ) (rs : List (ℕ × ℕ)) (b : ℕ) → Ordered rs → (b ≡ c) ⊎ Covers rs b → Covers (before_runs c rs) b
unfolding Ordered Covers
covers_before c [] b h (inl e) = inl (omega arith, omega arith)
covers_before c [] b h (inr k) = absurd k
covers_before c (r ∷ rs) b h k = by (c + 1 == r.0) refl k
  where
    by : (t : Bool) → (c + 1 == r.0) ≡ t → (b ≡ c) ⊎ Covers (r ∷ rs) b
        → Covers (cond t ((c, r.1) ∷ rs) ((c, c) ∷ r ∷ rs)) b
    by true e (inl m) = (let f : c + 1 ≡ r.0 = eqb-true (c + 1) r.0 e in inl (omega arith, omega (arith, h.0)))
    by true e (inr (inl m)) = (let f : c + 1 ≡ r.0 = eqb-true (c + 1) r.0 e in inl (omega (arith, m.0), m.1))
    by true e (inr (inr m)) = inr m
    by false e (inl m) = inl (omega arith, omega arith)
    by false e (inr m) = inr m

runs_ordered : (bs : List ℕ) → Ordered (runs_of bs)
unfolding Ordered runs_of
runs_ordered [] = tt
runs_ordered (b ∷ bs) = before_ordered b (runs_of bs) (runs_ordered bs)

runs_cover : (bs : List ℕ) (b : ℕ) → Among b bs → Covers (runs_of bs) b
unfolding Among runs_of
runs_cover [] b e = absurd (true≢false (sym e))
runs_cover (c ∷ bs) b e = covers_before c (runs_of bs) b (runs_ordered bs) (elim (cases_eq c b) [
  | inl s ↦ inl (sym s)
  | inr n ↦ inr (runs_cover bs b (let f : (c == b) ≡ false = grind (arith, nat_tests) in rw f at e))
])

cover_runs : (bs : List ℕ) (b : ℕ) → Covers (runs_of bs) b → Among b bs
unfolding Among runs_of Covers
cover_runs [] b h = absurd h
cover_runs (c ∷ bs) b h = elim (before_covers c (runs_of bs) b (runs_ordered bs) h) [
  | inl e ↦ rw (eq-eqb c b (sym e)) refl
  | inr k ↦ or_right (c == b) (list_any (λ c. c == b) bs) (cover_runs bs b k)
]

covers_in : (rs : List (ℕ × ℕ)) (b : ℕ) → Covers rs b → (lo hi : ℕ) × Contains rs (lo, hi) × (lo ≤ b) × (b ≤ hi)
unfolding Covers
covers_in [] b h = absurd h
covers_in (r ∷ rs) b (inl k) = (r.0, r.1, (zero, omega arith, refl), k.0, k.1)
covers_in (r ∷ rs) b (inr k) = let m = covers_in rs b k in
    (m.0, m.1, (suc m.2.0, omega (arith, m.2.1), m.2.2), m.3, m.4)

in_covers : (rs : List (ℕ × ℕ)) (b lo hi : ℕ) → (k : ℕ) → k < length rs → get_or rs k (lo, hi) ≡ (lo, hi) → lo ≤ b
    → b ≤ hi → Covers rs b
unfolding Covers
in_covers [] b lo hi k l e h m = absurd (omega arith)
in_covers (r ∷ rs) b lo hi zero l e h m = inl (
  (let a : r.0 ≡ lo = ap (λ (p : ℕ × ℕ). p.0) e in omega arith),
  (let a : r.1 ≡ hi = ap (λ (p : ℕ × ℕ). p.1) e in omega arith),
)
in_covers (r ∷ rs) b lo hi (suc k) l e h m = inr (in_covers rs b lo hi k (omega arith) e h m)

filter_has : (test : ℕ → Bool) (xs : List ℕ) (b : ℕ) → test b ≡ true → Among b xs → Among b (filter test xs)
unfolding Among
filter_has test [] b t e = e
filter_has test (x ∷ xs) b t e = elim (cases_eq x b) [
  | inl s ↦ (let f : test x ≡ true = ap test s ∙ t in rw f (rw (eq-eqb x b s) refl))
  | inr n ↦ (let f : (x == b) ≡ false = grind (arith, nat_tests) in by (test x) f (filter_has test xs b t (rw f at e)))
]
  where
    by : (u : Bool) → (x == b) ≡ false → list_any (λ c. c == b) (filter test xs) ≡ true
        → list_any (λ c. c == b) (cond u (x ∷ filter test xs) (filter test xs)) ≡ true
    by true f k = rw f k
    by false f k = k

has_filter : (test : ℕ → Bool) (xs : List ℕ) (b : ℕ) → Among b (filter test xs) → test b ≡ true
unfolding Among
has_filter test [] b e = absurd (true≢false (sym e))
has_filter test (x ∷ xs) b e = by (test x) refl e (has_filter test xs b)
  where
    by : (u : Bool) → test x ≡ u → list_any (λ c. c == b) (cond u (x ∷ filter test xs) (filter test xs)) ≡ true
        → (list_any (λ c. c == b) (filter test xs) ≡ true → test b ≡ true) → test b ≡ true
    by true t k next = elim (cases_eq x b) [
      | inl s ↦ ap test (sym s) ∙ t
      | inr n ↦ (let f : (x == b) ≡ false = grind (arith, nat_tests) in next (rw f at k))
    ]
    by false t k next = next k

pub runs_touched : (z : Zone) (cut : Cut) → ((b : ℕ) → is_touched z cut b ≡ true → b < z.blocks)
    → RunsAreTouched z cut (runs_of (filter (λ b. is_touched z cut b) (range_with_len 0 z.blocks)))
unfolding Among
runs_touched z cut within b = (
  (λ e. covers_in _ b (runs_cover _ b (filter_has (λ b. is_touched z cut b) (range_with_len 0 z.blocks) b e
      (any_range z.blocks 0 b (omega arith) (omega (arith, within b e)))))),
  (λ h. has_filter (λ b. is_touched z cut b) (range_with_len 0 z.blocks) b
      (cover_runs _ b (in_covers _ b h.0 h.1 h.2.0 h.2.1 h.2.2 h.3 h.4))),
)

rises_lower : (a b : ℕ) (rs : List (ℕ × ℕ)) → a ≤ b → RisesFrom b rs → RisesFrom a rs
rises_lower a b [] l h = tt
rises_lower a b (r ∷ rs) l h = (omega (arith, h.0), h.1, h.2)

rises_before : (a : ℕ) (rs : List (ℕ × ℕ)) → RisesFrom (a + 1) rs → RisesFrom a (before_runs a rs)
rises_before a [] h = (omega arith, omega arith, tt)
rises_before a (r ∷ rs) h = by (a + 1 == r.0) refl
  where
    by : (t : Bool) → (a + 1 == r.0) ≡ t → RisesFrom a (cond t ((a, r.1) ∷ rs) ((a, a) ∷ r ∷ rs))
    by true e = (omega arith, omega (arith, h.0, h.1), h.2)
    by false e = (let n : a + 1 ≢ r.0 = grind (arith, nat_tests) in
        (omega arith, omega arith, (omega (arith, h.0, n), h.1, h.2)))

-- the runs of some numbers of a range rise from its first
pub runs_rise : (test : ℕ → Bool) (n a : ℕ) → RisesFrom a (runs_of (filter test (range_with_len a n)))
unfolding runs_of
runs_rise test zero a = tt
runs_rise test (suc n) a = by (test a) (runs_rise test n (a + 1))
  where
    by : (t : Bool) → RisesFrom (a + 1) (runs_of (filter test (range_with_len (a + 1) n)))
        → RisesFrom a (runs_of (cond t (a ∷ filter test (range_with_len (a + 1) n))
        (filter test (range_with_len (a + 1) n))))
    by true h = rises_before a _ h
    by false h = rises_lower a (a + 1) _ (omega arith) h

-- ---- the number of stores

pub length-call : (z : Zone) (f : Flight) (stop told : List ℕ) → IsValidZone z → IsInFlight z stop told f
    → length (call_stores z f.call f.image) ≡ sum_by (stage_count z) (call_stages z (standing_words z f.image) f.call)
unfolding call_stores
length-call z f stop told valid flies = length-stores z valid (call_stages z (standing_words z f.image) f.call)
    f.image flies.size.1 (call-all z valid f.image f.call flies.can)

pub cut_touched : (z : Zone) (f : Flight) (stop told : List ℕ) → IsValidZone z → IsInFlight z stop told f
    → RunsAreTouched z (cut_of z f) (runs_of (filter (λ b. is_touched z (cut_of z f) b) (range_with_len 0 z.blocks)))
cut_touched z f stop told valid flies =
    runs_touched z (cut_of z f) (subst (λ w. (b : ℕ) → touches z (call_stages z w f.call) b ≡ true → b < z.blocks)
    (sym (header_words z f.image valid flies.size)) (call-leaves z valid f.image f.call
    (omega (arith, flies.ring.ring.0, flies.ring.ring.1)) flies.can).within)

pub cut_report_is_exact : CutReportIsExact
cut_report_is_exact z f stop told reading valid flies =
    record {
      kind = refl;
      made = refl;
      total =
          ap (λ w. sum_by (stage_count z) (call_stages z w f.call)) (header_words z f.image valid flies.size)
          ∙ sym (length-call z f stop told valid flies);
      header = seen_is_exact z reading.words (cut_pairs z (cut_of z f));
      touched = cut_touched z f stop told valid flies;
      apart = runs_rise (λ b. is_touched z (cut_of z f) b) z.blocks 0;
    }

-- ---- a boot's own erasure

erasure_facts : (z : Zone) (b : Bool) (s : State) → AllByRecursion HasBytes (cond b [] (signing z s ++ erase_stages))
    × (touched_by z (cond b [] (signing z s ++ erase_stages) ++ []) ≡ [])
unfolding touched_by
erasure_facts z true s = (tt, refl)
erasure_facts z false Unsigned = ((tt, (tt, (tt, (tt, tt)))), refl)
erasure_facts z false Empty = ((tt, (tt, (tt, tt))), refl)
erasure_facts z false Invalid = ((tt, (tt, (tt, tt))), refl)
erasure_facts z false Found = ((tt, (tt, (tt, tt))), refl)

filter_none : (xs : List ℕ) → filter (λ b. list_any (λ c. c == b) []) xs ≡ []
filter_none [] = refl
filter_none (x ∷ xs) = filter_none xs

pub boot_cut_report_is_exact : BootCutReportIsExact
unfolding boot_stores boot_erasure booted_bytes runs_of
boot_cut_report_is_exact z now k reading valid im within =
    let facts = erasure_facts z (keeps z (zone_reading z now)) (zone_reading z now).state in
    let stages : List Stage = boot_erasure z now in
    let total : length (stores_in_turn z stages (after_stores now (boot_fixes z now)))
    ≡ sum_by (stage_count z) stages = length-stores z valid stages (after_stores now (boot_fixes z now))
    (booted_image z valid now im).1 facts.0 in
    let own : cut_stages z (boot_cut z now k) ≡ stages ++ [] =
    ap (flat_map (λ part. part)) (erasure_parts z now k valid im within) in
    let untouched : touched_by z (cut_stages z (boot_cut z now k)) ≡ [] = ap (touched_by z) own ∙ facts.1 in (
      record {
        kind = refl;
        made = refl;
        total = omega (
          arith,
          total,
          ap (sum_by (stage_count z)) (own ∙ append-nil stages),
          length-append (boot_fixes z now) (stores_in_turn z stages (after_stores now (boot_fixes z now))),
        );
        header = seen_is_exact z reading.words (cut_pairs z (boot_cut z now k));
        touched = runs_touched z (boot_cut z now k) (λ b e. absurd
            (true≢false (sym e ∙ ap (λ ts. list_any (λ c. c == b) ts) untouched)));
        apart = runs_rise (λ b. is_touched z (boot_cut z now k) b) z.blocks 0;
      },
      ap (λ ts. runs_of (filter (λ b. list_any (λ c. c == b) ts) (range_with_len 0 z.blocks))) untouched
          ∙ ap runs_of (filter_none (range_with_len 0 z.blocks)),
    )
