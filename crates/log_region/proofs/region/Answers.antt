-- The region is the header and what is kept of the log, made whole by zeros. By `Zeros`.
use Rattle.std.proofs.Common.{◌≡◌, length}
use Rattle.log_region.proofs.Zeros.{made}
use Rattle.log_region.proofs.region.Goals as goal

pub returns : goal.returns
returns c =
    let len : c.in_ok-region.region.len ≡ length c.in_ok-region.region.items = search in
    made c.args.log.now c.kept-kept.result.now c.in_ok-region.region.items c.resize.new.self.items
    c.zone_size-size.result c.kept-kept.ensures.few c.kept-kept.ensures.last c.zone_size-size.ensures
    c.in_ok-region.ensures c.in_ok-region.region.len len c.in_ok-resize.ensures.items
