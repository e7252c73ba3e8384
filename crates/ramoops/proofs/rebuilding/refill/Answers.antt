-- A forgotten log and one whose zone the layout lacks refill nothing; any other refills the zone
-- of its name. For `refill`.
use Rattle.std.proofs.Common.{◌≡◌, ℕ, List, [], ◌∷◌, Option, Some, Bor, ap, sym, ◌∙◌, subst}
use Rattle.std.specs.Option.{option_map, option_copied}
use Rattle.std.specs.Prelude.{slice_get, option_to_list}
use Rattle.zone_spec.specs.declared.ZoneName.{ZoneName}
use Rattle.zone_spec.specs.Records.{Saved}
use Rattle.ramoops_layout.specs.Laid.{NamesDiffer}
use Rattle.ramoops.proofs.FilledStates.{refills_none, refills_nowhere, refills_next}
use Rattle.ramoops.proofs.rebuilding.refill.Goals as goal

-- the zone's name
named : (all : List Saved) (i : ℕ) (s : Saved) (name : ZoneName) → slice_get all i ≡ Some s
    → option_map (λ (x : Saved). x.0.name) (slice_get all i) ≡ Some name → s.0.name ≡ name
named all i s name at e =
    let g : Some s.0.name ≡ Some name = sym (ap (option_map (λ (x : Saved). x.0.name)) at) ∙ e in cc

pub returns-in-None : goal.returns-in-None
returns-in-None c s at = refills_none c.args.live.now s
    (subst NamesDiffer c.zones-zones.ensures.value c.zones-zones.ensures.names)
    (ap (λ (o : Option (Bor (List ℕ))). option_to_list (option_copied o)) (sym c.in-None.is) ∙ c.log_at.ensures s at)

pub returns-in-None-place : goal.returns-in-None-place
returns-in-None-place c s at = refills_nowhere c.args.live.now s c.name.result
    (subst NamesDiffer c.zones-zones.ensures.value c.zones-zones.ensures.names)
    (named _ c.args.i s c.name.result at c.name.ensures) (sym c.place.ensures.place ∙ c.in-None-place.is)

pub returns : goal.returns
returns c s at = refills_next c.args.live.now c.add_log.new.self s c.in_ok-bytes.bytes c.name.result
    c.in-Some-place.place (subst NamesDiffer c.zones-zones.ensures.value c.zones-zones.ensures.names)
    (ap (λ (l : List ℕ). l ∷ []) c.in_ok-bytes.ensures
    ∙ ap (λ (o : Option (Bor (List ℕ))). option_to_list (option_copied o)) (sym c.in-Some.is) ∙ c.log_at.ensures s at)
    (named _ c.args.i s c.name.result at c.name.ensures) (sym c.place.ensures.place ∙ c.in-Some-place.is)
    c.in-Some-place.ensures.within.0 c.add_log.ensures
