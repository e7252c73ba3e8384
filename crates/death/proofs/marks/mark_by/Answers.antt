-- No words begin with this byte. For `mark_by`.
use Rattle.std.proofs.Common.{◌<◌, drop, get_or, ap, sym, ◌∙◌, arith, false}
use Rattle.std.proofs.lemmas.List.{drop_more}
use Rattle.std.specs.Option.{option_map}
use Rattle.death_spec.specs.Marks.{front_of, front_in, rows}
use Rattle.death.proofs.marks.mark_by.Goals as goal

pub returns-then-not-firsts-from : goal.returns-then-not-firsts-from
unfolding front_of
returns-then-not-firsts-from c =
    let is_byte : get_or c.args.text.now 0 0 < 256 = omega (arith, c.type_inv.text 0) in
    sym (ap (λ text. option_map (λ front. front.0) (front_in rows text))
    (drop_more c.args.text.now 0 0 c.if-text-gt0.true)
    ∙ ap (option_map (λ front. front.0))
    (c.requires (get_or c.args.text.now 0 0) (drop 1 c.args.text.now) is_byte
    (ap (λ b. get_or c.args.firsts.now b false) (sym c.from.ensures) ∙ c.if-not-firsts-from.true)))
