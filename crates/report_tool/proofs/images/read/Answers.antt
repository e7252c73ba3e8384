-- The bytes that are read are as many as the plan has
use Rattle.std.proofs.Common.{◌∙◌, sym, ap, length}
use Rattle.report_tool.proofs.images.read.Goals as goal

pub read_by-requires : goal.read_by-requires
read_by-requires g c =
    ap length c.from_vec.ensures ∙ sym c.in_ok-bytes.bytes.ok.0 ∙ c.in_ok-bytes.ensures.ok.0
