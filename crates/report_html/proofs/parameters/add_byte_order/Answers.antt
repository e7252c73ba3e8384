-- The text is that of the order of bytes. For `add_byte_order`.
use Rattle.report_html.proofs.parameters.add_byte_order.Goals as goal

pub returns : goal.returns
returns c = rw c.text.ensures at c.add_text.ensures
