-- What a search with a narrower aim settles
use Rattle.std.proofs.Common.{◌≡◌, ◌≢◌, ℕ, ◌<◌, ◌≤◌, Bool, true, false, List, [], ◌∷◌, length, get_or, Option, Some, None}
use Rattle.std.proofs.Common.{refl, sym, ap, ◌∙◌, arith, ◌⊎◌, inl, inr}
use Rattle.std.specs.Prelude.{nat_le}
use Rattle.std.proofs.lemmas.Bool.{leb-true, leb-false}
use Rattle.layout_spec.specs.declared.Candidate.{Candidate}
use Rattle.layout_spec.specs.declared.Known.{Known}
use Rattle.layout_spec.specs.declared.Tally.{Tally}
use Rattle.layout_spec.specs.Family.{is_of_family, is_one_of, tags_for}
use Rattle.layout_spec.specs.Laid.{zones_of}
use Rattle.layout_spec.specs.Order.{faults, tally_of, key, is_before}
use Rattle.layout_search.specs.Levels.{having, values}
use Rattle.layout_search.specs.Walked.{OverBefore, count_of}
use Rattle.layout_search.specs.Tried.{IsAim, IsSound, Advances, TagsSettled, SettledOver, SettledBefore, HasFew, is_ahead}
use Rattle.layout_search.specs.Narrowed.{IsNarrowed}
use Rattle.layout_search.specs.declared.levels.Level.{Level}
use Rattle.layout_search.specs.declared.levels.Reached.{Reached}
use Rattle.layout_search.specs.declared.progress.Best.{Best}
use Rattle.layout_search.specs.declared.progress.Progress.{Progress}
use Rattle.layout_search.specs.declared.progress.Aim.{Aim}
use Rattle.layout_search.proofs.BestSoFar.{over_map}
use Rattle.layout_search.proofs.SearchAnswers.{more_faults, tally_faults}

pub near_aim : (image : List ℕ) (aim near : Aim) (best : Option Best) → IsNarrowed aim best near → IsAim image aim
    → IsAim image near
near_aim image aim near best narrow is = record {
  marks_are = narrow.marks_are ∙ is.marks_are;
  few = omega (arith, narrow.marks_are, is.few);
  limit = omega (arith, narrow.below, is.limit);
}

-- a layout with more faults than the narrower limit is not ahead of the best
beyond : (known : Known) (image : List ℕ) (aim near : Aim) (besides : Option Candidate) (best : Option Best) (d : Candidate)
    → IsSound known image besides best → (near.limit ≡ aim.limit) ⊎ HasFew near.limit best
    → faults image (zones_of d) ≤ aim.limit → near.limit < faults image (zones_of d)
    → is_ahead (key image d) best ≡ false
beyond known image aim near besides best d sound (inl same) few more = absurd (omega (arith, same, few, more))
beyond known image aim near besides None d sound (inr never) few more = absurd never
beyond known image aim near besides (Some b) d sound (inr at_most) few more =
    ap (λ k. is_before (key image d) k) sound.key_is
    ∙ more_faults (tally_of image d) (tally_of image b.candidate) d b.candidate (omega (
      arith,
      at_most,
      more,
      ap (λ (t : Tally). t.faults) sound.tally_is,
      tally_faults image d,
    ))

wider : (known : Known) (image : List ℕ) (aim near : Aim) (a b : Progress) → IsNarrowed aim a.best near
    → IsSound known image aim.besides a.best → Advances a b → (c : Candidate) → TagsSettled known image near b c
    → TagsSettled known image aim b c
wider known image aim near a b narrow sound later c h = record {
  all = λ t m. record {
    settled = λ family few other.
        step t m family few other (nat_le (faults image (zones_of (record c { tag = t }))) near.limit) refl;
  };
}
  where
    step : (t : ℕ) → is_one_of t (tags_for known image c) ≡ true → is_of_family known image (record c { tag = t }) ≡ true
        → faults image (zones_of (record c { tag = t })) ≤ aim.limit → aim.besides ≢ Some (record c { tag = t })
        → (x : Bool) → nat_le (faults image (zones_of (record c { tag = t }))) near.limit ≡ x
        → is_ahead (key image (record c { tag = t })) b.best ≡ false
    step t m family few other true e =
        (h.all t m).settled family (leb-true _ _ e) (λ same. other (sym narrow.besides_is ∙ same))
    step t m family few other false e = later.best (key image (record c { tag = t }))
        (beyond known image aim near aim.besides a.best (record c { tag = t }) sound narrow.enough few (leb-false _ _ e))

before_map : (known : Known) (len : ℕ) (P Q : Candidate → Type 0) → ((d : Candidate) → P d → Q d)
    → (levels : List Level) (c : Candidate) (r : Reached) → OverBefore known len levels P c r
    → OverBefore known len levels Q c r
unfolding OverBefore
before_map known len P Q f [] c r h = tt
before_map known len P Q f (level ∷ levels) c r h = (
  (λ n m. over_map known len P Q f levels (having level c n) (h.0 n m)),
  before_map known len P Q f levels (having level c (get_or (values level known len c) (count_of level r) 0)) r h.1,
)

pub settled_wider : (known : Known) (image : List ℕ) (aim near : Aim) (levels : List Level) (c : Candidate)
    (a b : Progress) → IsNarrowed aim a.best near → IsSound known image aim.besides a.best → Advances a b
    → SettledOver known image near levels c b → SettledOver known image aim levels c b
settled_wider known image aim near levels c a b narrow sound later h = over_map known (length image)
    (TagsSettled known image near b) (TagsSettled known image aim b) (wider known image aim near a b narrow sound later)
    levels c h

pub before_wider : (known : Known) (image : List ℕ) (aim near : Aim) (levels : List Level) (c : Candidate)
    (a b : Progress) (r : Reached) → IsNarrowed aim a.best near → IsSound known image aim.besides a.best → Advances a b
    → SettledBefore known image near levels c b r → SettledBefore known image aim levels c b r
before_wider known image aim near levels c a b r narrow sound later h = before_map known (length image)
    (TagsSettled known image near b) (TagsSettled known image aim b) (wider known image aim near a b narrow sound later)
    levels c r h
