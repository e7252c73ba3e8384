-- All was tested
use Rattle.oopsbox_c.proofs.boots.next.Goals as goal

pub returns : goal.returns
returns c = (
  record {
    boot = c.is_boot.ensures.0 c.if-not-is_boot.false;
    len = c.if-image-boot.false;
  },
  c.boot_on.ensures,
)
