-- The flight is that of the steps that were begun
use Rattle.std.proofs.Common.{List, ℕ, sym, ap, subst, ◌∙◌}
use Rattle.store_steps.specs.declared.steps.Steps.{Steps}
use Rattle.store_steps.specs.Flying.{flying}
use Rattle.store_steps.specs.Machine.{IsKept, StandsFor}
use Rattle.oopsbox_c.specs.Places.{zone_in, IsPlace}
use Rattle.oopsbox_c.proofs.Begun.{written}
use Rattle.oopsbox_c.proofs.flights.begin.Goals as goal

pub returns-in-Some : goal.returns-in-Some
returns-in-Some c =
    let image : List ℕ = c.args.image.now in
    let line : List ℕ = c.args.line.now in
    let payload : List ℕ = c.args.payload.now in
    let s : Steps = c.in-Some.steps in
    let begun = c.in-Some.ensures.begun in
    let asked = c.is_asked.ensures.0 c.if-not-is_asked.false in
    let of = c.flight_of.ensures in record {
      asked = asked;
      stands = written s (zone_in c.args.place.now) c.args.kind image line payload (begun.1 ∙ c.zone_in.ensures)
          begun.2 begun.4.words (sym c.signature.ensures ∙ c.if-signature-place.false) begun.0;
      flight = record {
        place = subst IsPlace (sym of.zone) asked.is_place;
        kind = of.kind;
        leg = of.leg;
        phase = of.phase;
        line_len = of.line;
        payload_len = of.payload;
        short = asked.short;
        kept = subst (λ s. IsKept (flying s line payload)) (sym of.steps) begun.0;
      };
      zone = of.zone;
      kind_is = ap (λ (x : Steps). x.kind) of.steps ∙ begun.2;
      made = ap (λ (x : Steps). x.made) of.steps ∙ begun.3;
      stands_for = subst (λ s. StandsFor (flying s line payload) image image) (sym of.steps) begun.4;
    }
