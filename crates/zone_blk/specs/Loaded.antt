-- What holds of every loaded store
use Rattle.std.specs.Prelude.{◌≡◌, ℕ, ◌<◌, List, None}
use Rattle.std.specs.List.{All}
use Rattle.blk_spec.specs.declared.BlkLayout.{BlkLayout}
use Rattle.blk_spec.specs.States.{RingState}
use Rattle.blk_spec.specs.declared.BlkRing.TheVariants.{Console, Pmsg}
use Rattle.blk_spec.specs.Layout.{IsLayout, ring_zone}
use Rattle.blk_spec.specs.Reading.{BlkDump}
use Rattle.zone_blk.specs.Fits.{IsWithin}
use Rattle.zone_blk.specs.Loading.{IsIn}

-- its layout is one, its rings' words lie within their zones, of which one without a byte has no saved log, and its
-- dumps and its cursor are among the dump zones
pub record IsLoaded (l : BlkLayout) (console_ring pmsg_ring : RingState) (listed : List BlkDump) (at : ℕ) : Type 0 where
  pub layout : IsLayout l
  pub console : IsWithin (ring_zone l Console) console_ring.words
  pub pmsg : IsWithin (ring_zone l Pmsg) pmsg_ring.words
  pub no_console : l.console ≡ 0 → console_ring.saved ≡ None
  pub no_pmsg : l.pmsg ≡ 0 → pmsg_ring.saved ≡ None
  pub dumps : All (IsIn l) listed
  pub cursor : 0 < l.dumps → at < l.dumps
