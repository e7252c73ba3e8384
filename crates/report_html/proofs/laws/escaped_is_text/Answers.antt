-- No markup of a page comes from escaped bytes, and each of them is visible. By `Texts`.
use Rattle.report_html.proofs.Texts.{is-text}
use Rattle.report_html.proofs.laws.escaped_is_text.Goals as goal

pub returns : goal.returns
returns c = is-text
