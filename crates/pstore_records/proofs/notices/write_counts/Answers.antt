-- The pieces written in turn are the notice's text. For `write_counts`.
use Rattle.std.proofs.Common.{◌+◌, ◌<◌, ◌++◌, List, ℕ, ap, ◌∙◌, arith}
use Rattle.std.specs.Prelude.{codes}
use Rattle.pstore_records.proofs.Texts.{written}
use Rattle.pstore_records.proofs.notices.write_counts.Goals as goal

pub returns : goal.returns
returns c =
    let some : 0 < c.args.corrected + c.args.bad = omega (arith, c.else-corrected-eq0.either) in
    written c.args.corrected c.args.bad c.push_str-2.new.self.bytes c.push_str-3.new.self.bytes
    c.push_str-4.new.self.bytes c.push_str-5.new.self.bytes c.push_str-6.new.self.bytes
    c.format.result.now c.format-2.result.now some c.format.ensures.text c.format-2.ensures.text
    (c.push_str-2.ensures.bytes ∙ ap (λ (xs : List ℕ). xs ++ codes "\nECC: ") c.clear.ensures)
    c.push_str-3.ensures.bytes c.push_str-4.ensures.bytes c.push_str-5.ensures.bytes c.push_str-6.ensures.bytes
