-- `0x` reads hexadecimal digits, `0` octal ones, and any other front decimal ones. For `number`.
use Rattle.std.proofs.Common.{◌∙◌, sym}
use Rattle.ramoops_layout.proofs.Texts.{number_hex, number_octal, number_decimal, short_zero, no_zero}
use Rattle.ramoops_layout.proofs.numbers.number.Goals as goal
use Rattle.ramoops_layout.proofs.numbers.number.Goals.{in_default-behind-via-in-Some-behind+else-not-is_empty}
use Rattle.ramoops_layout.proofs.numbers.number.Goals.{in_default-behind-via-in_default-behind}

pub returns-in-Some : goal.returns-in-Some
returns-in-Some c = c.digits.ensures ∙ number_hex c.args.text.now c.behind.result c.behind-2.result
    c.in-Some.hexadecimal c.behind.ensures c.behind-2.ensures (sym c.or.ensures ∙ c.in-Some.is)

pub returns-in-Some-behind : goal.returns-in-Some-behind
returns-in-Some-behind c = c.digits-in-Some-behind.ensures
    ∙ number_octal c.args.text.now c.behind.result c.behind-2.result c.behind-3.result c.in-Some-behind.octal
    c.behind.ensures c.behind-2.ensures (sym c.or.ensures ∙ c.in_default.is) c.behind-3.ensures c.in-Some-behind.is
    (sym c.is_empty.ensures ∙ c.if-not-is_empty.true)

pub returns-in_default-behind : goal.returns-in_default-behind
returns-in_default-behind c = c.digits-in_default-behind.ensures
    ∙ number_decimal c.args.text.now c.behind.result c.behind-2.result c.behind.ensures c.behind-2.ensures
    (sym c.or.ensures ∙ c.in_default.is)
    (elim c.in_default-behind.branch [
      | in_default-behind-via-in-Some-behind+else-not-is_empty w ↦
          short_zero c.args.text.now c.behind-3.result w.in-Some-behind.octal c.behind-3.ensures w.in-Some-behind.is
          (sym w.is_empty.ensures ∙ w.if-not-is_empty.false)
      | in_default-behind-via-in_default-behind w ↦ no_zero c.args.text.now c.behind-3.result c.behind-3.ensures
          w.in_default-behind.is
    ])
