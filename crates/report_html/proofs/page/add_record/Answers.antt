-- What people read of a record are bytes
use Rattle.std.proofs.Common.{subst}
use Rattle.zone_spec.specs.Parts.{AreBytes}
use Rattle.report_html.proofs.page.add_record.Goals as goal

pub returns-clause-bytes : goal.returns-clause-bytes
returns-clause-bytes c = subst AreBytes c.readable-text.ensures c.add_content.ensures.bytes
