-- What a search answers
use Rattle.std.proofs.Common.{◌≡◌, ◌≢◌, ℕ, ◌<◌, ◌≤◌, ◌+◌, ◌^◌, Bool, true, false, List, length, Result, Ok, Err, Option}
use Rattle.std.proofs.Common.{Some, None, refl, sym, ap, ◌∙◌, arith, true≢false, subst, eqb-true, ◌||◌, ◌==◌, [], ◌∷◌}
use Rattle.std.specs.Prelude.{option_map, MatchOption, IfSome, nat_le, not, is_ok, is_some, if◌then◌else◌}
use Rattle.std.proofs.lemmas.Bool.{leb-true, leb-false, false_from_ne_true}
use Rattle.std.proofs.lemmas.List.Sums.{count_by-le-length}
use Rattle.zone_spec.specs.declared.Zone.{Zone}
use Rattle.zone_spec.specs.declared.params.LayoutFault.{LayoutFault}
use Rattle.zone_spec.specs.Layout.{layout_of}
use Rattle.ramoops_layout.proofs.WholeLayout.{layout_short}
use Rattle.layout_spec.specs.declared.Candidate.{Candidate}
use Rattle.layout_spec.specs.declared.Known.{Known}
use Rattle.layout_spec.specs.declared.Tally.{Tally}
use Rattle.layout_spec.specs.Laid.{zones_of, params_of, has_layout}
use Rattle.layout_spec.specs.Marks.{marks, fits}
use Rattle.layout_spec.specs.Family.{is_of_family, is_one_of}
use Rattle.layout_spec.specs.Order.{faults, tally_of, key, key_by, is_before}
use Rattle.layout_spec.specs.Taken.{is_taken}
use Rattle.layout_search.specs.Tried.{IsKept, IsSound, IsSettled, IsBestSoFar, HasFew, HasMore, is_ahead, with_few}
use Rattle.layout_search.specs.Answers.{IsAnswer, IsRival, IsNext, IsAlone, IsEmpty, AreFaulty, MayGiveUp, is_narrow}
use Rattle.layout_search.specs.Answers.{IsBestUsual, IsOnly, usual}
use Rattle.layout_search.specs.declared.progress.Best.{Best}
use Rattle.layout_search.specs.declared.progress.Progress.{Progress}
use Rattle.layout_search.specs.declared.progress.Aim.{Aim}
use Rattle.layout_search.specs.declared.progress.Effort.{Effort}
use Rattle.layout_search.specs.declared.progress.Effort.TheVariants.{All}
use Rattle.layout_search.proofs.Keys.{front_decides, less_before, not_before_self}
use Rattle.layout_search.proofs.LaidOut.{found_zones}
use Rattle.layout_search.proofs.BestSoFar.{family_layout}
use Rattle.layout_search.proofs.Usual.{usual_family, one_of_one}

pub tally_faults : (image : List ℕ) (d : Candidate) → (tally_of image d).faults ≡ faults image (zones_of d)
unfolding tally_of
tally_faults image d = refl

pub more_faults : (t u : Tally) (c d : Candidate) → u.faults < t.faults → is_before (key_by t c) (key_by u d) ≡ false
unfolding key_by
more_faults t u c d h = front_decides t.faults u.faults _ _ h

fewer_faults : (t u : Tally) (c d : Candidate) → t.faults < u.faults → is_before (key_by t c) (key_by u d) ≡ true
unfolding key_by
fewer_faults t u c d h = less_before t.faults u.faults _ _ h

-- with fewer faults than the best a layout is before it
fewer_ahead : (known : Known) (image : List ℕ) (besides : Option Candidate) (d : Candidate) (limit : ℕ)
    (best : Option Best) → HasMore limit best
    → IsSound known image besides best → faults image (zones_of d) ≤ limit → is_ahead (key image d) best ≡ true
fewer_ahead known image besides d limit None more sound few = refl
fewer_ahead known image besides d limit (Some b) more sound few =
    ap (λ k. is_before (key image d) k) sound.key_is ∙ fewer_faults (tally_of image d) (tally_of image b.candidate) d
    b.candidate (omega (arith, few, more, ap (λ (t : Tally). t.faults) sound.tally_is, tally_faults image d))

-- if the best has more faults than the limit, and nothing with fewer is before it, there is nothing with fewer
pub all_faulty : (known : Known) (image : List ℕ) (limit : ℕ) (best : Option Best) → HasMore limit best
    → IsSound known image None best
    → ((d : Candidate) → is_of_family known image d ≡ true → faults image (zones_of d) ≤ limit
    → is_ahead (key image d) best ≡ false)
    → AreFaulty known image limit
all_faulty known image limit best more sound first d family = step (nat_le (faults image (zones_of d)) limit) refl
  where
    step : (b : Bool) → nat_le (faults image (zones_of d)) limit ≡ b → limit < faults image (zones_of d)
    step true e = absurd (true≢false (sym (fewer_ahead known image None d limit best more sound (leb-true _ _ e))
        ∙ first d family (leb-true _ _ e)))
    step false e = leb-false _ _ e

-- the same of a search that has settled all
pub none_left : (known : Known) (image : List ℕ) (aim : Aim) (s : Progress) → aim.besides ≡ None
    → HasMore aim.limit s.best → IsSound known image None s.best → ((c : Candidate) → IsSettled known image aim c s)
    → AreFaulty known image aim.limit
none_left known image aim s all more sound settled = all_faulty known image aim.limit s.best more sound
    (λ d family few. (settled d).settled family few
    (λ e. let n : ◌≡◌ {A = Option Candidate} None (Some d) = sym all ∙ e in cc))

zones_short : (d : Candidate) → has_layout d ≡ true → length (zones_of d) < 2 ^ 32
zones_short d has = step (layout_of (params_of d)) refl has
  where
    step : (r : Result (List Zone) LayoutFault) → layout_of (params_of d) ≡ r → is_ok r ≡ true
        → length (zones_of d) < 2 ^ 32
    step (Ok zones) e h =
        let same : length zones ≡ length (zones_of d) = ap (length {A = Zone}) (found_zones d zones e) in
        omega (arith, same, layout_short (params_of d) zones e)
    step (Err fault) e h = absurd (true≢false (sym h))

-- no layout has more faults than this
pub few_faults : (known : Known) (image : List ℕ) (d : Candidate) → marks image < 2 ^ 62
    → is_of_family known image d ≡ true → faults image (zones_of d) ≤ 2 ^ 62 + 2 ^ 32
few_faults known image d few family = omega (
  arith,
  few,
  zones_short d (family_layout known image d family),
  count_by-le-length (λ z. not (fits image z)) (zones_of d),
)

-- a search that has tried all, and found none with so many faults at most, has tried all
pub all_first : (known : Known) (image : List ℕ) (s : Progress) (done : Bool) → marks image < 2 ^ 62
    → (done ≡ true → 0 < s.work → (d : Candidate) → is_of_family known image d ≡ true
    → is_ahead (key image d) s.best ≡ false)
    → (done ≡ false → 0 < s.work → AreFaulty known image (2 ^ 62 + 2 ^ 32)) → 0 < s.work
    → (d : Candidate) → is_of_family known image d ≡ true → is_ahead (key image d) s.best ≡ false
all_first known image s true few first more work d family = first refl work d family
all_first known image s false few first more work d family =
    absurd (omega (arith, more refl work d family, few_faults known image d few family))

-- if it has found none then, there is none
pub nothing : (known : Known) (image : List ℕ) (best : Option Best) → best ≡ None
    → ((d : Candidate) → is_of_family known image d ≡ true → is_ahead (key image d) best ≡ false)
    → IsEmpty known image
nothing known image None none first d =
    false_from_ne_true (is_of_family known image d) (λ family. true≢false (first d family))
nothing known image (Some b) none first d =
    let n : ◌≡◌ {A = Option Best} (Some b) None = none in absurd cc

-- it is one of the family otherwise
pub some_by : (known : Known) (image : List ℕ) (best : Option Best) → IsSound known image None best
    → (best ≡ None → IsEmpty known image) → MatchOption best (IsEmpty known image) (IsKept known image None)
some_by known image None sound empty = empty refl
some_by known image (Some b) sound empty = sound

-- what bounds the search of all others
pub gives_up : (known : Known) (image : List ℕ) (b : Best) (effort : Effort) (old new : ℕ) → IsKept known image None b
    → ((d : Candidate) → is_of_family known image d ≡ true → is_ahead (key image d) (Some b) ≡ false)
    → (is_narrow known ≡ true → effort ≡ All) → (b.tally.faults ≤ 1 → effort ≡ All) → (effort ≡ All → new ≡ old)
    → 0 < old → new ≡ 0 → MayGiveUp known image
gives_up known image b effort old new kept first narrow few all some ended = record {
  wide = false_from_ne_true (is_narrow known) (λ e. absurd (omega (arith, all (narrow e), some, ended)));
  faulty = all_faulty known image 1 (Some b) (more (nat_le b.tally.faults 1) refl) kept (λ d family few. first d family);
}
  where
    more : (x : Bool) → nat_le b.tally.faults 1 ≡ x → 1 < b.tally.faults
    more true e = absurd (omega (arith, all (few (leb-true _ _ e)), some, ended))
    more false e = leb-false _ _ e

-- what bounds the search of the first
pub gives_up_first : (known : Known) (image : List ℕ) (effort : Effort) (old new : ℕ) → AreFaulty known image 1
    → (is_narrow known ≡ true → effort ≡ All) → (effort ≡ All → new ≡ old) → 0 < old → new ≡ 0
    → MayGiveUp known image
gives_up_first known image effort old new faulty narrow all some ended = record {
  wide = false_from_ne_true (is_narrow known) (λ e. absurd (omega (arith, all (narrow e), some, ended)));
  faulty = faulty;
}

-- with few faults the best is before all that were not looked for
pub done : (known : Known) (image : List ℕ) (aim : Aim) (s : Progress) → IsSound known image None s.best
    → aim.besides ≡ None → HasFew aim.limit s.best → ((c : Candidate) → IsSettled known image aim c s)
    → (d : Candidate) → is_of_family known image d ≡ true → is_ahead (key image d) s.best ≡ false
done known image aim s sound all few settled d family = step (nat_le (faults image (zones_of d)) aim.limit) refl
  where
    behind : (best : Option Best) → IsSound known image None best → HasFew aim.limit best
        → aim.limit < faults image (zones_of d) → is_ahead (key image d) best ≡ false
    behind None kept never more = absurd never
    behind (Some b) kept few more =
        ap (λ k. is_before (key image d) k) kept.key_is ∙ more_faults (tally_of image d) (tally_of image b.candidate) d
        b.candidate (omega (arith, few, more, ap (λ (t : Tally). t.faults) kept.tally_is, tally_faults image d))

    besides : aim.besides ≢ Some d
    besides e = let n : ◌≡◌ {A = Option Candidate} None (Some d) = sym all ∙ e in cc

    step : (b : Bool) → nat_le (faults image (zones_of d)) aim.limit ≡ b → is_ahead (key image d) s.best ≡ false
    step true e = (settled d).settled family (leb-true _ _ e) besides
    step false e = behind s.best sound few (leb-false _ _ e)

-- no layout is before the only one
only_first : (known : Known) (image : List ℕ) (b : Best) → IsKept known image None b
    → ((d : Candidate) → is_of_family known image d ≡ true → b.candidate ≢ d → ⊥)
    → (d : Candidate) → is_of_family known image d ≡ true → is_before (key image d) b.key ≡ false
only_first known image b kept only d family = false_from_ne_true (is_before (key image d) b.key)
    (λ before. only d family (λ (same : b.candidate ≡ d). true≢false (sym before
    ∙ (ap (λ k. is_before (key image d) k) (kept.key_is ∙ ap (key image) same) ∙ not_before_self (key image d)))))

pub of_not : (o : Bool) → not o ≡ true → o ≡ false
of_not true e = absurd (true≢false (sym e))
of_not false e = refl

pub not_only : (o : Bool) (P : Type 0) → (o ≡ true → P → ⊥) → P → not o ≡ true
not_only true P h p = absurd (h refl p)
not_only false P h p = refl

-- the answer of a search that gave up, whose best was then compared with the usual layouts
pub partly : (known : Known) (image : List ℕ) (old b : Best) (o : Bool) (s : Progress)
    → IsKept known image None b → MayGiveUp known image → s.best ≡ Some old → IsBestSoFar known image s
    → ((k : List ℕ) → is_before k old.key ≡ false → is_before k b.key ≡ false)
    → (length image ≤ 2 ^ 20 → IsBestUsual known image b.candidate)
    → (o ≡ true → IsOnly known image b.candidate → ⊥)
    → (o ≡ false → (d : Candidate) → is_of_family known image d ≡ true → b.candidate ≢ d → ⊥)
    → IsAnswer known image (record {
      candidate = b.candidate;
      tally = b.tally;
      taken = is_taken b.tally;
      rival = None;
      whole = not o;
      limit = s.limit;
      reached = s.reached;
    })
partly known image old b o s kept given_up same so_far first usual other only = record {
  of_family = kept.of_family;
  tally_is = kept.tally_is;
  taken_is = ap is_taken kept.tally_is;
  part = λ e. given_up;
  only = not_only o (IsOnly known image b.candidate) other;
  best_usual = λ e small. usual small;
  so_far = λ e d family walked few. sym (ap (λ k. is_before (key image d) k) kept.key_is)
      ∙ first (key image d)
      (sym (ap (λ (o : Option Best). is_ahead (key image d) o) same) ∙ so_far d family walked few);
  first = λ e d family. sym (ap (λ k. is_before (key image d) k) kept.key_is)
      ∙ only_first known image b kept (only (of_not o e)) d family;
  rival_is = tt;
  next = λ e d family differs few. only (of_not o e) d family differs;
}

-- ---- the rival

-- of the best, only one with few faults is left
pub few_sound : (known : Known) (image : List ℕ) (besides : Option Candidate) (limit : ℕ) (best : Option Best)
    → IsSound known image besides best → IsSound known image besides (with_few limit best)
few_sound known image besides limit None sound = sound
few_sound known image besides limit (Some b) sound = step (nat_le b.tally.faults limit)
  where
    step : (x : Bool) → IsSound known image besides (if x then Some b else None)
    step true = sound
    step false = tt

pub few_left : (limit : ℕ) (best : Option Best) → IfSome (with_few limit best) (λ (b : Best). b.tally.faults ≤ limit)
few_left limit None = tt
few_left limit (Some b) = step (nat_le b.tally.faults limit) refl
  where
    step : (x : Bool) → nat_le b.tally.faults limit ≡ x
        → IfSome (if x then Some b else None) (λ (b : Best). b.tally.faults ≤ limit)
    step true e = leb-true _ _ e
    step false e = tt

-- no layout with few faults comes after one with more
pub few_first : (known : Known) (image : List ℕ) (besides : Option Candidate) (d : Candidate) (limit : ℕ)
    (best : Option Best) → IsSound known image besides best → faults image (zones_of d) ≤ limit
    → is_ahead (key image d) best ≡ false → is_ahead (key image d) (with_few limit best) ≡ false
few_first known image besides d limit None sound few h = h
few_first known image besides d limit (Some b) sound few h = step (nat_le b.tally.faults limit) refl
  where
    step : (x : Bool) → nat_le b.tally.faults limit ≡ x
        → is_ahead (key image d) (if x then Some b else None) ≡ false
    step true e = h
    step false e =
        absurd (true≢false (sym (fewer_ahead known image besides d limit (Some b) (leb-false _ _ e) sound few) ∙ h))

rival_by : (known : Known) (image : List ℕ) (b : Best) (best : Option Best) → IsKept known image None b
    → IsSound known image (Some b.candidate) best → IfSome best (λ (r : Best). r.tally.faults ≤ b.tally.faults)
    → IfSome (option_map (λ (r : Best). r.candidate) best) (IsRival known image b.candidate)
rival_by known image b None kept sound few = tt
rival_by known image b (Some r) kept sound few = record {
  of_family = sound.of_family;
  differs = λ e. sound.other (ap Some e);
  few = omega (
    arith,
    few,
    ap (λ (t : Tally). t.faults) kept.tally_is,
    ap (λ (t : Tally). t.faults) sound.tally_is,
    tally_faults image b.candidate,
    tally_faults image r.candidate,
  );
}

-- the next one, or that there is none
next_is : (known : Known) (image : List ℕ) (b : Best) (best : Option Best) → IsKept known image None b
    → IsSound known image (Some b.candidate) best
    → ((d : Candidate) → is_of_family known image d ≡ true → b.candidate ≢ d
    → faults image (zones_of d) ≤ b.tally.faults → is_ahead (key image d) best ≡ false)
    → MatchOption (option_map (λ (r : Best). r.candidate) best) (IsAlone known image b.candidate)
    (IsNext known image b.candidate)
next_is known image b None kept sound all = λ d family differs few. true≢false (all d family differs
    (omega (arith, few, ap (λ (t : Tally). t.faults) kept.tally_is, tally_faults image b.candidate)))
next_is known image b (Some r) kept sound all = λ d family differs few.
    sym (ap (λ k. is_before (key image d) k) sound.key_is) ∙ all d family differs
    (omega (arith, few, ap (λ (t : Tally). t.faults) kept.tally_is, tally_faults image b.candidate))

-- the whole answer
pub wholly : (known : Known) (image : List ℕ) (b : Best) (best : Option Best) (whole : Bool) (s : Progress)
    → IsKept known image None b
    → ((d : Candidate) → is_of_family known image d ≡ true → is_before (key image d) b.key ≡ false)
    → IsSound known image (Some b.candidate) best
    → IfSome best (λ (r : Best). r.tally.faults ≤ b.tally.faults)
    → (whole ≡ true → (d : Candidate) → is_of_family known image d ≡ true → b.candidate ≢ d
    → faults image (zones_of d) ≤ b.tally.faults → is_ahead (key image d) best ≡ false)
    → (whole ≡ false → MayGiveUp known image) → (IsOnly known image b.candidate → whole ≡ true)
    → IsAnswer known image (record {
      candidate = b.candidate;
      tally = b.tally;
      taken = is_taken b.tally;
      rival = option_map (λ (r : Best). r.candidate) best;
      whole = whole;
      limit = s.limit;
      reached = s.reached;
    })
wholly known image b best whole s kept first sound few all part only = record {
  of_family = kept.of_family;
  tally_is = kept.tally_is;
  taken_is = ap is_taken kept.tally_is;
  part = part;
  only = only;
  best_usual = λ e small p two d family. sym (ap (λ k. is_before (key image d) k) kept.key_is)
      ∙ first d (usual_family known image d p two family);
  so_far = λ e d family walked few. sym (ap (λ k. is_before (key image d) k) kept.key_is) ∙ first d family;
  first = λ e d family. sym (ap (λ k. is_before (key image d) k) kept.key_is) ∙ first d family;
  rival_is = rival_by known image b best kept sound few;
  next = λ e. next_is known image b best kept sound (all e);
}

-- the usual layouts with more faults are behind the best that was there, and the others were tried
pub usual_first : (known u : Known) (image : List ℕ) (best r : Best) (aim : Aim) (s : Progress)
    → IsKept known image None best → aim.limit ≡ best.tally.faults → aim.besides ≡ None
    → ((c : Candidate) → IsSettled u image aim c s)
    → ((k : List ℕ) → is_before k best.key ≡ false → is_before k r.key ≡ false)
    → ((k : List ℕ) → is_ahead k s.best ≡ false → is_before k r.key ≡ false)
    → (d : Candidate) → is_of_family u image d ≡ true → is_before (key image d) r.key ≡ false
usual_first known u image best r aim s kept limit none settled old new d family =
    step (nat_le (faults image (zones_of d)) aim.limit) refl
  where
    besides : aim.besides ≢ Some d
    besides e = let n : ◌≡◌ {A = Option Candidate} None (Some d) = sym none ∙ e in cc

    step : (b : Bool) → nat_le (faults image (zones_of d)) aim.limit ≡ b → is_before (key image d) r.key ≡ false
    step true e = new (key image d) ((settled d).settled family (leb-true _ _ e) besides)
    step false e = old (key image d) (ap (λ k. is_before (key image d) k) kept.key_is
        ∙ more_faults (tally_of image d) (tally_of image best.candidate) d best.candidate (omega (
          arith,
          leb-false _ _ e,
          limit,
          ap (λ (t : Tally). t.faults) kept.tally_is,
          tally_faults image d,
        )))

-- a layout beside this one was found, so it is not the only one
pub some_other : (known : Known) (image : List ℕ) (c : Candidate) (best : Option Best)
    → IsSound known image (Some c) best → is_some best ≡ true → IsOnly known image c → ⊥
some_other known image c None sound e only = true≢false (sym e)
some_other known image c (Some b) sound e only = sound.other (ap Some (only b.candidate sound.of_family))

none_of : (best : Option Best) → is_some best ≡ false → best ≡ None
none_of None e = refl
none_of (Some b) e = absurd (true≢false e)

-- none was found though all were tried, so there is no other
pub no_other : (known : Known) (image : List ℕ) (c : Candidate) (aim : Aim) (s : Progress) → aim.besides ≡ Some c
    → aim.limit ≡ 2 ^ 62 + 2 ^ 32 → marks image < 2 ^ 62 → (s.best ≡ None → 0 < s.work)
    → (0 < s.work → (d : Candidate) → IsSettled known image aim d s) → is_some s.best ≡ false
    → (d : Candidate) → is_of_family known image d ≡ true → c ≢ d → ⊥
no_other known image c aim s besides limit few work settled e d family differs =
    let none : s.best ≡ None = none_of s.best e in
    let ahead : is_ahead (key image d) s.best ≡ false = (settled (work none) d).settled family
    (omega (arith, limit, few_faults known image d few family))
    (λ same. let n : ◌≡◌ {A = Option Candidate} (Some c) (Some d) = sym besides ∙ same in differs cc) in
    true≢false (sym (ap (λ (o : Option Best). is_ahead (key image d) o) none) ∙ ahead)

-- both parities were tried, the second one beside what the first left
pub both_usual : (known : Known) (image : List ℕ) (bare b : Best) → IsKept known image None b
    → ((k : List ℕ) → is_before k bare.key ≡ false → is_before k b.key ≡ false)
    → ((d : Candidate) → is_of_family (usual known 0) image d ≡ true → is_before (key image d) bare.key ≡ false)
    → ((d : Candidate) → is_of_family (usual known 16) image d ≡ true → is_before (key image d) b.key ≡ false)
    → IsBestUsual known image b.candidate
both_usual known image bare b kept later first next parity two d family =
    sym (ap (λ k. is_before (key image d) k) kept.key_is) ∙ step (parity == 0) refl two
  where
    step : (x : Bool) → (parity == 0) ≡ x → (x || is_one_of parity (16 ∷ [])) ≡ true
        → is_before (key image d) b.key ≡ false
    step true e w = later (key image d) (first d
        (subst (λ (p : ℕ). is_of_family (usual known p) image d ≡ true) (eqb-true parity 0 e) family))
    step false e w = next d
        (subst (λ (p : ℕ). is_of_family (usual known p) image d ≡ true) (one_of_one parity 16 w) family)
