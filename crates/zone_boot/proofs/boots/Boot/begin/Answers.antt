-- A boot begun has all stores of a boot left, with header and state as they read. For `Boot::begin`.
use Rattle.zone_boot.proofs.boots.Boot.begin.Goals as goal

pub returns-clause-stands : goal.returns-clause-stands
returns-clause-stands c =
    c.of_reading.ensures.stands c.args.image.now c.read_header-header.ensures.words c.keeps_in_place.ensures
