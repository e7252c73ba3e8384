-- Steps drawn one behind another: those that are left lead to the same end. The loops of the crate cite them.
use Rattle.std.proofs.Common.{◌≡◌, ℕ, zero, suc, ◌+◌, ◌-◌, ◌<◌, ◌≤◌, List, [], ◌∷◌, length, drop, refl, sym, ◌∙◌, subst}
use Rattle.std.proofs.Common.{arith}
use Rattle.std.specs.List.{range_with_len}
use Rattle.zone_spec.specs.declared.Zone.{Zone}
use Rattle.zone_spec.specs.Layouts.{IsLayout}
use Rattle.ramoops.specs.LiveSeen.{LiveSeen}
use Rattle.script_spec.specs.Generated.{Generated, Drawn, draw_over}
use Rattle.ram_generator.specs.declared.counts.Counts.{Counts}
use Rattle.ram_generator.specs.Counting.{AreBelow, Grows}
use Rattle.ram_generator.specs.Sessions.{Runs, RunsTo, Goes, GoesOver}

over_next : {S A : Type 0} (step : S → A → Drawn S) (s t : S) (a : A) (xs : List A) (x y : ℕ) → (t, y) ≡ step s a x
    → draw_over step s (a ∷ xs) x ≡ draw_over step t xs y
unfolding draw_over
over_next step s t a xs x y e = rw (sym e) refl

over_none : {S A : Type 0} (step : S → A → Drawn S) (s : S) (x : ℕ) → draw_over step s [] x ≡ (s, x)
unfolding draw_over
over_none step s x = refl

pub over_same : {S A : Type 0} (step : S → A → Drawn S) (s : S) (xs ys : List A) (x : ℕ) → xs ≡ ys
    → draw_over step s xs x ≡ draw_over step s ys x
over_same step s xs ys x e = rw e refl

-- one step more
pub over_more : {S A : Type 0} (step : S → A → Drawn S) (s t : S) (a : A) (xs rest : List A) (x y : ℕ) (end : S × ℕ)
    → xs ≡ a ∷ rest → (t, y) ≡ step s a x → draw_over step s xs x ≡ end → draw_over step t rest y ≡ end
over_more step s t a xs rest x y end some e h =
    let g : draw_over step s (a ∷ rest) x ≡ end = rw some at h in
    sym (over_next step s t a rest x y e) ∙ g

-- no step is left
pub over_all : {S A : Type 0} (step : S → A → Drawn S) (s : S) (xs : List A) (x : ℕ) (end : S × ℕ) → xs ≡ []
    → draw_over step s xs x ≡ end → (s, x) ≡ end
over_all step s xs x end none h =
    let g : draw_over step s [] x ≡ end = rw none at h in
    sym (over_none step s x) ∙ g

-- ---- the items that are left

pub range_start : (n : ℕ) → range_with_len 0 (n - 0) ≡ range_with_len 0 n
range_start n = let k : n - 0 ≡ n = omega arith in rw k refl

pub range_next : (i n : ℕ) → i < n → range_with_len i (n - i) ≡ i ∷ range_with_len (i + 1) (n - (i + 1))
range_next i n lt = let k : n - i ≡ suc (n - (i + 1)) = omega (arith, lt) in rw k refl

pub range_end : (i n a : ℕ) → i ≡ n → range_with_len a (n - i) ≡ []
range_end i n a same = let k : n - i ≡ 0 = omega (arith, same) in rw k refl

pub places_start : (at n : ℕ) → range_with_len (at + 0) (n - 0) ≡ range_with_len at n
places_start at n = let k : n - 0 ≡ n = omega arith in let a : at + 0 ≡ at = omega arith in rw (k, a) refl

pub places_next : (at i n : ℕ) → i < n
    → range_with_len (at + i) (n - i) ≡ (at + i) ∷ range_with_len (at + (i + 1)) (n - (i + 1))
places_next at i n lt =
    let k : n - i ≡ suc (n - (i + 1)) = omega (arith, lt) in
    let a : at + (i + 1) ≡ at + i + 1 = omega arith in
    rw (k, a) refl

pub drop_all : {A : Type 0} (xs : List A) (i : ℕ) → length xs ≤ i → drop i xs ≡ []
drop_all [] zero le = refl
drop_all [] (suc i) le = refl
drop_all (x ∷ xs) zero le = absurd (omega (arith, le))
drop_all (x ∷ xs) (suc i) le = drop_all xs i (omega (arith, le))

-- ---- a session

-- machine, counts and number stand for a session from which the steps that are left lead to this end
pub record IsUnderWay (step : Generated → ℕ → Drawn Generated) (i n : ℕ) (layout : List Zone) (mem : ℕ) (v : LiveSeen)
    (c : Counts) (x : ℕ) (end : Generated × ℕ) : Type 0 where
  pub now : Generated
  pub runs : Runs layout mem v c now
  pub left : draw_over step now (range_with_len i (n - i)) x ≡ end

abbrev pub UnderWay : (Generated → ℕ → Drawn Generated) → ℕ → ℕ → List Zone → LiveSeen → Counts → ℕ → LiveSeen → Counts
    → ℕ → Type 0
UnderWay step i n layout v c x w d y = (mem : ℕ) (g : Generated) → IsLayout layout mem → Runs layout mem v c g
    → IsUnderWay step i n layout mem w d y (draw_over step g (range_with_len 0 n) x)

pub way_start : (step : Generated → ℕ → Drawn Generated) (n : ℕ) (layout : List Zone) (v : LiveSeen) (c : Counts)
    (x : ℕ) → UnderWay step 0 n layout v c x v c x
way_start step n layout v c x mem g lies r = record {
  now = g;
  runs = r;
  left = over_same step g (range_with_len 0 (n - 0)) (range_with_len 0 n) x (range_start n);
}

pub way_more : (step : Generated → ℕ → Drawn Generated) (i n : ℕ) (layout : List Zone) (v w u : LiveSeen)
    (c d e : Counts) (x y z : ℕ) → i < n → Goes (λ zones g. step g i) layout w d y u e z
    → UnderWay step i n layout v c x w d y → UnderWay step (i + 1) n layout v c x u e z
way_more step i n layout v w u c d e x y z lt one so_far mem g lies r =
    let a = so_far mem g lies r in
    let o = one mem a.now lies a.runs in
    let same : ((step a.now i y).0, z) ≡ step a.now i y = rw o.number refl in
    record {
      now = (step a.now i y).0;
      runs = o.runs;
      left = over_more step a.now (step a.now i y).0 i (range_with_len i (n - i))
          (range_with_len (i + 1) (n - (i + 1))) y z (draw_over step g (range_with_len 0 n) x) (range_next i n lt)
          same a.left;
    }

pub way_end : (step : Generated → ℕ → Drawn Generated) (i n : ℕ) (layout : List Zone) (v w : LiveSeen) (c d : Counts)
    (x y : ℕ) → i ≡ n → UnderWay step i n layout v c x w d y → GoesOver step (range_with_len 0 n) layout v c x w d y
way_end step i n layout v w c d x y same so_far mem g lies r =
    let a = so_far mem g lies r in
    subst (RunsTo layout mem w d y) (over_all step a.now (range_with_len i (n - i)) y
    (draw_over step g (range_with_len 0 n) x) (range_end i n i same) a.left) (record { runs = a.runs; number = refl })

-- ---- counts grow

pub grown_both : (a b c : Counts) (m n k : ℕ) → Grows a b m → Grows b c n → m + n ≤ k → Grows a c k
grown_both a b c m n k g h le = record {
  calls = omega (arith, g.calls, h.calls, le);
  stores = omega (arith, g.stores, h.stores, le);
  flips = omega (arith, g.flips, h.flips, le);
  as_told = omega (arith, g.as_told, h.as_told, le);
  differs = omega (arith, g.differs, h.differs, le);
}

pub below_grown : (a b : Counts) (m n k : ℕ) → AreBelow a m → Grows a b n → m + n ≤ k → AreBelow b k
below_grown a b m n k g h le = record {
  calls = omega (arith, g.calls, h.calls, le);
  stores = omega (arith, g.stores, h.stores, le);
  flips = omega (arith, g.flips, h.flips, le);
  as_told = omega (arith, g.as_told, h.as_told, le);
  differs = omega (arith, g.differs, h.differs, le);
}
