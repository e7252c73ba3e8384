-- Digits of the base parse as their number, and a sign is none. For `parsed`.
use Rattle.std.proofs.Common.{◌∙◌, arith}
use Rattle.std.proofs.lemmas.Str.Pattern.{starts_char}
use Rattle.ramoops_layout.proofs.Texts.{not_decided}
use Rattle.kernel_line.proofs.Digits.{parsed_digits}
use Rattle.kernel_line.proofs.region.parsed.Goals as goal

pub returns : goal.returns
returns c = c.ok.ensures.value ∙ parsed_digits c.args.base c.args.digits.now c.from_str_radix.result
    (not_decided _ c.starts_with.result c.if-starts_with.false
    (starts_char 43 c.args.digits.now c.starts_with.result c.starts_with.ensures.cases (omega arith) (omega arith)))
    c.from_str_radix.ensures.value
