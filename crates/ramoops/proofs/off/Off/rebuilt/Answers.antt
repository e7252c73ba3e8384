-- A blank store after a boot, the appends and a stop is the moved state, and the laws of the move speak of it
use Rattle.std.proofs.Common.{◌≡◌, ℕ, List, replicate, ap, ◌∙◌, subst}
use Rattle.zone_spec.specs.declared.Zone.{Zone}
use Rattle.zone_spec.specs.Layouts.{IsLayout}
use Rattle.zone_spec.specs.Records.{Saved}
use Rattle.ramoops_layout.specs.Laid.{params_of, zones_of}
use Rattle.machine_spec.specs.Off.{fresh}
use Rattle.machine_spec.specs.Boot.{booted}
use Rattle.prz_read.specs.Saving.{saved}
use Rattle.machine_spec.specs.Moved.{refilled}
use Rattle.ramoops.specs.OffSeen.{StandsOff}
use Rattle.ramoops.proofs.off.Off.rebuilt.Goals as goal

pub returns-clause-stands : goal.returns-clause-stands
returns-clause-stands c =
    let layout : List Zone = zones_of c.args.layout in
    let mem : ℕ = (params_of c.args.layout).mem in
    let image : c.in_ok-image.image ≡ replicate mem 0 =
    c.in_ok-image.ensures ∙ ap (λ (n : ℕ). replicate n 0) c.mem.ensures in
    let off : StandsOff layout mem c.in_ok-off.off (fresh layout (replicate mem 0)) =
    subst (λ (bytes : List ℕ). StandsOff layout mem c.in_ok-off.off (fresh layout bytes)) image
    c.in_ok-off.ensures.stands in
    let live = (c.in-Ok.ensures.booted layout mem (fresh layout (replicate mem 0)) off).live in
    c.stop.ensures layout mem (refilled layout (saved c.args.logs.now) (booted layout (fresh layout (replicate mem 0))))
    (c.in_ok-refill_all.ensures layout mem (booted layout (fresh layout (replicate mem 0))) live)

pub returns-clause-reads : goal.returns-clause-reads
returns-clause-reads c fit =
    let layout : List Zone = zones_of c.args.layout in
    let mem : ℕ = (params_of c.args.layout).mem in
    let zones : List Saved = saved c.args.logs.now in
    let lies : IsLayout layout mem =
    subst (λ (l : List Zone). IsLayout l mem) c.zones-zones.ensures.value c.zones-zones.ensures.laid_out in
    record {
      sound = c.moved_image_is_sound.ensures layout mem zones lies fit;
      told = c.moved_zones_are_told.ensures layout mem zones lies fit;
      clean = c.moved_image_reads.ensures layout mem zones lies fit;
      damaged = λ off same bytes. c.moved_zones_read.ensures layout mem zones off lies fit same bytes;
      lists = c.moved_image_lists.ensures layout mem zones lies fit;
    }
