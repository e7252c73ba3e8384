-- A whole append, made in a span
use Rattle.std.proofs.Common.{◌≡◌, ℕ, ◌<◌, ◌≤◌, List, length, take, drop, sym, ap, ◌∙◌, subst, arith}
use Rattle.std.proofs.lemmas.List.{take_all}
use Rattle.zone_spec.specs.Stores.{Store, after_stores}
use Rattle.zone_spec.specs.Calls.{call_stores}
use Rattle.prz_region.specs.CutRegion.{CutRegion, span, stored}
use Rattle.prz_region.proofs.Cuts.{span-stored}
use Rattle.store_steps.specs.Flying.{Flying, flying}
use Rattle.store_steps.specs.Machine.{IsKept, StandsFor}
use Rattle.store_steps.specs.Whole.{whole_handed, TakesWhole}
use Rattle.store_steps.specs.declared.plain.Whole.{Whole}
use Rattle.store_steps.specs.declared.steps.Steps.{Steps}
use Rattle.prz_write.specs.declared.progress.Progress.{Progress}
use Rattle.prz_write.specs.Calls.{call_seen, line_seen, payload_seen}
use Rattle.prz_write.specs.Seen.{seen, IsHeld}
use Rattle.prz_write.proofs.CallSteps.{seen_by}

-- the call with other steps
abbrev pub at_steps : Progress → Steps → Progress
at_steps p s = record { steps = s; call = p.call }

pub same_steps : (p : Progress) (s : Steps) → s ≡ p.steps → at_steps p s ≡ p
same_steps p s e = ap (at_steps p) e

module _ (p : Progress) (s : Steps) (line payload : List ℕ) (w : Whole) (count : ℕ) (held : IsHeld p)
    (lent : line ≡ line_seen p.call) (bytes : payload ≡ payload_seen p.call) (kind : s.kind ≡ p.steps.kind)
    (taken : TakesWhole (flying p.steps line payload) (flying s line payload) w payload count) where
  was : flying p.steps line payload ≡ seen p
  was = seen_by p line payload held.kind lent bytes

  is : flying s line payload ≡ seen (at_steps p s)
  is = seen_by (at_steps p s) line payload (kind ∙ held.kind) lent bytes

  pub held_whole : IsHeld (at_steps p s)
  held_whole = record {
    kept = subst IsKept is taken.kept;
    kind = kind ∙ held.kind;
    line = held.line;
  }

  module _ (old new : CutRegion) (i : ℕ) (has : i < length old.spans)
      (made : new ≡ stored old i (whole_handed w payload)) where
    there : span new i ≡ after_stores (span old i) (whole_handed w payload)
    there = ap (λ (c : CutRegion). span c i) made ∙ span-stored old i (whole_handed w payload) has

    lent_to : (before : List ℕ) → StandsFor (seen p) (span old i) before
        → StandsFor (flying p.steps line payload) (span old i) before
    lent_to before stands = subst (λ (f : Flying). StandsFor f (span old i) before) (sym was) stands

    pub stands_whole : (before : List ℕ) → StandsFor (seen p) (span old i) before
        → StandsFor (seen (at_steps p s)) (span new i) before
    stands_whole before stands =
        subst (λ (x : List ℕ). StandsFor (seen (at_steps p s)) x before) (sym there)
        (subst (λ (f : Flying). StandsFor f (after_stores (span old i) (whole_handed w payload)) before) is
        (taken.stands (span old i) before (lent_to before stands)))

    pub stores_whole : (before : List ℕ) → StandsFor (seen p) (span old i) before
        → new ≡ stored old i (take count (drop p.steps.made (call_stores p.steps.zone (call_seen p.call) before)))
    stores_whole before stands =
        let all : List Store = call_stores p.steps.zone (call_seen p.call) before in
        let same : whole_handed w payload ≡ all = taken.stores (span old i) before (lent_to before stands)
        ∙ ap (λ (f : Flying). call_stores p.steps.zone f.call before) was in
        let few : length all ≤ count = omega (arith, ap length same, taken.count, taken.few) in
        made ∙ ap (λ (ss : List Store). stored old i ss)
        (same ∙ sym (take_all count all few)
        ∙ ap (λ (n : ℕ). take count (drop n all)) (sym taken.fresh))
