-- The bytes of a slice are bytes
use Rattle.report_html.proofs.page.add_content.Goals as goal

pub returns-clause-bytes : goal.returns-clause-bytes
returns-clause-bytes c = λ i. (c.type_inv.content i).fits
