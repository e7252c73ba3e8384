-- The bytes that `booted_image` gives are the image after one boot of a machine of which nothing
-- is known, and have its size.
use Rattle.std.proofs.Common.{refl}
use Rattle.ramoops_layout.specs.Laid.{params_of, zones_of}
use Rattle.machine_spec.specs.Off.{fresh}
use Rattle.machine_spec.specs.Boot.{booted}
use Rattle.commands.proofs.Shareable.{is_booted, is_booted_size}
use Rattle.commands.proofs.sharing.booted_image.Goals as goal

pub returns-in-Ok : goal.returns-in-Ok
returns-in-Ok c =
    let layout = zones_of c.args.layout in
    let mem = (params_of c.args.layout).mem in
    let f = c.in_ok-off.ensures in
    let b = c.in-Ok.ensures.booted layout mem (fresh layout c.args.image.items) f.stands in
    let is = c.into_image.ensures layout mem (booted layout (fresh layout c.args.image.items)) b.live in
    record {
      is = is;
      size = (is_booted_size (params_of c.args.layout) layout mem c.args.image.items f.lies f.size f.bytes _ is refl);
      can = λ plain. (is_booted (params_of c.args.layout) layout mem c.args.image.items c.args.layout.laid plain f.lies
          f.size f.bytes _ is refl).1;
    }
