-- The runs of blocks cover them
use Rattle.std.proofs.Common.{◌≡◌, ℕ, suc, ◌+◌, ◌-◌, ◌<◌, Bool, true, false, cond, List, [], ◌∷◌, ◌++◌, length, refl}
use Rattle.std.proofs.Common.{sym, ap, ◌∙◌, subst, arith}
use Rattle.std.specs.Prelude.{replicate}
use Rattle.std.proofs.lemmas.Bool.Decides.{nat_tests}
use Rattle.zone_spec.specs.declared.PartState.{PartState}
use Rattle.zone_spec.specs.declared.PartState.TheVariants.{Read, Bad}
use Rattle.report_html.specs.Pictures.{Run, is_alike, with_block, runs}
use Rattle.report_html.specs.Covers.{IsUnlikeNext, Cover, states_of}

alike-same : (s t : PartState) → is_alike s t ≡ true → s ≡ t
alike-same (Read m) (Read n) e = ap Read (let same : m ≡ n = grind (arith, nat_tests, e) in same)
alike-same (Read m) Bad e = cc
alike-same Bad (Read n) e = cc
alike-same Bad Bad e = refl

pub record Covered (from to : ℕ) (states : List PartState) (rs : List Run) : Type 0 where
  pub cover : Cover from to rs
  pub states_are : states_of rs ≡ states

-- what a run does not read as hangs on its state alone
unlike : (r q : Run) (rs : List Run) → q.state ≡ r.state → IsUnlikeNext r rs → IsUnlikeNext q rs
unlike r q [] e h = tt
unlike r q (next ∷ rs) e h = ap (λ (s : PartState). is_alike s next.state) e ∙ h

-- a run that begins one block earlier
longer : (from to : ℕ) (s : PartState) → from + 1 < to
    → replicate (to - from) s ≡ s ∷ replicate (to - (from + 1)) s
longer from to s h = ap (λ (n : ℕ). replicate n s) (let e : to - from ≡ suc (to - (from + 1)) = omega (arith, h) in e)

with-block : (b to : ℕ) (s : PartState) (states : List PartState) (rs : List Run) → Covered (b + 1) to states rs
    → Covered b to (s ∷ states) (with_block b s rs)
unfolding with_block
with-block b to s states [] c = record {
  cover = (refl, omega arith, tt, c.cover);
  states_are = ap (λ (n : ℕ). replicate n s ++ []) (let e : b + 1 - b ≡ 1 = omega arith in e)
      ∙ ap (λ (ss : List PartState). s ∷ ss) c.states_are;
}
with-block b to s states (r ∷ rs) c = by (is_alike s r.state) refl
  where
    by : (t : Bool) → is_alike s r.state ≡ t
        → Covered b to (s ∷ states)
        (cond t (record { from = b; to = r.to; state = s } ∷ rs) (record { from = b; to = b + 1; state = s } ∷ r ∷ rs))
    by true e = record {
      cover = (
        refl,
        omega (arith, c.cover.1),
        unlike r (record { from = b; to = r.to; state = s }) rs (alike-same s r.state e) c.cover.2,
        c.cover.3,
      );
      states_are = ap (λ (ss : List PartState). ss ++ states_of rs) (longer b r.to s c.cover.1)
          ∙ ap (λ (q : PartState). s ∷ replicate (r.to - (b + 1)) q ++ states_of rs) (alike-same s r.state e)
          ∙ ap (λ (n : ℕ). s ∷ replicate (r.to - n) r.state ++ states_of rs) (sym c.cover.0)
          ∙ ap (λ (ss : List PartState). s ∷ ss) c.states_are;
    }
    by false e = record {
      cover = (refl, omega arith, e, c.cover);
      states_are = ap (λ (n : ℕ). replicate n s ++ states_of (r ∷ rs)) (let e : b + 1 - b ≡ 1 = omega arith in e)
          ∙ ap (λ (ss : List PartState). s ∷ ss) c.states_are;
    }

pub covered : (b : ℕ) (states : List PartState) → Covered b (b + length states) states (runs b states)
unfolding runs
covered b [] = record { cover = omega arith; states_are = refl }
covered b (s ∷ states) =
    with-block b (b + length (s ∷ states)) s states (runs (b + 1) states)
    (subst (λ (n : ℕ). Covered (b + 1) n states (runs (b + 1) states))
    (let e : b + 1 + length states ≡ b + length (s ∷ states) = omega arith in e) (covered (b + 1) states))

pub whole : (states : List PartState) → Covered 0 (length states) states (runs 0 states)
whole states = subst (λ (n : ℕ). Covered 0 n states (runs 0 states))
    (let e : 0 + length states ≡ length states = omega arith in e) (covered 0 states)

pub cover : (states : List PartState) → Cover 0 (length states) (runs 0 states)
cover states = (whole states).cover

pub states : (states : List PartState) → states_of (runs 0 states) ≡ states
states xs = (whole xs).states_are
