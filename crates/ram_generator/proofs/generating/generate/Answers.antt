-- The machine goes the eight rounds of the session of n, so its image and its counts are those of
-- the definition. For `generate`.
use Rattle.std.proofs.Common.{◌≡◌, ℕ, List, length, replicate, sym, ap, ◌∙◌, subst}
use Rattle.std.proofs.lemmas.List.{length-replicate}
use Rattle.zone_spec.specs.declared.Zone.{Zone}
use Rattle.zone_spec.specs.Layouts.{IsLayout}
use Rattle.machine_spec.specs.Off.{fresh}
use Rattle.ramoops.specs.OffSeen.{StandsOff}
use Rattle.ramoops_layout.specs.Laid.{params_of, zones_of}
use Rattle.script_spec.specs.Generated.{generated}
use Rattle.ram_generator.specs.Sessions.{Runs}
use Rattle.ram_generator.proofs.WholeSession.{all_runs, image_left, text_left}
use Rattle.ram_generator.proofs.generating.generate.Goals as goal

-- the zones and the bytes of the layout
abbrev zones : goal.After-drop-plan-3 → List Zone
zones c = zones_of c.args.layout

abbrev mem : goal.After-drop-plan-3 → ℕ
mem c = (params_of c.args.layout).mem

lies : (c : goal.After-drop-plan-3) → IsLayout (zones c) (mem c)
lies c = rw c.zones.ensures.value at c.zones.ensures.laid_out

runs : (c : goal.After-drop-plan-3) → Runs (zones c) (mem c) c.in_ok-live-2.live c.rounds.new.counts
    (generated (zones c) (mem c) c.args.n)
runs c =
    let image : c.in_ok-image.image ≡ replicate (mem c) 0 =
    c.in_ok-image.ensures ∙ ap (λ (n : ℕ). replicate n 0) c.mem.ensures in
    let off : StandsOff (zones c) (mem c) c.in_ok-off.off (fresh (zones c) (replicate (mem c) 0)) =
    subst (λ (bytes : List ℕ). StandsOff (zones c) (mem c) c.in_ok-off.off (fresh (zones c) bytes))
    image c.in_ok-off.ensures.stands in
    let up = c.in_ok-live.ensures (zones c) (mem c) (fresh (zones c) (replicate (mem c) 0)) (lies c) off
    (length-replicate (mem c) 0) in
    let ran = rw (c.in_ok-plan.ensures.zones, c.zones.ensures.value, c.none-counts.ensures, c.new-draws.ensures)
    at c.in_ok-live-2.ensures in
    all_runs (zones c) (mem c) c.args.n c.rounds.new.draws c.in_ok-live.live c.in_ok-live-2.live c.rounds.new.counts _ (lies c) up ran

pub returns-clause-image : goal.returns-clause-image
returns-clause-image c = image_left (zones c) (mem c) c.in_ok-live-2.live c.into_image.result c.rounds.new.counts
    (generated (zones c) (mem c) c.args.n) (runs c) (λ s stands. c.into_image.ensures (zones c) (mem c) s stands)

pub returns-clause-summary : goal.returns-clause-summary
returns-clause-summary c = text_left (zones c) (mem c) c.args.n c.in_ok-live-2.live c.rounds.new.counts
    (generated (zones c) (mem c) c.args.n) c.in_ok-text.text.items (runs c)
    (λ session. c.in_ok-text.ensures (zones c) session (ap (length {A = Zone}) (sym c.zones-zones.ensures.value)))
