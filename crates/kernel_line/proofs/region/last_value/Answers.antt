-- The last value is that of the rest, or else what was seen. For `last_value`.
use Rattle.std.proofs.Common.{ap, ◌∙◌}
use Rattle.std.specs.Option.{option_copied, option_or}
use Rattle.kernel_line.specs.Region.{value_behind}
use Rattle.kernel_line.proofs.Behind.{none_seen, one_seen, all_seen, copied_or}
use Rattle.kernel_line.proofs.region.last_value.Goals as goal

pub loop-word-init : goal.loop-word-init
loop-word-init c = none_seen c.args.front.now c.args.words.now

pub loop-word-preserved : goal.loop-word-preserved
loop-word-preserved c =
    one_seen c.args.front.now c.args.words.now c.loop-word.word-index c.word-item.result
    (option_copied c.loop-word.last) (option_copied c.or-last.result) c.loop-word-test.true c.word-item.is
    (ap option_copied c.or-last.ensures
    ∙ copied_or c.value_behind.result c.loop-word.last
    ∙ ap (λ v. option_or v (option_copied c.loop-word.last)) c.value_behind.ensures
    ∙ ap (λ w. option_or (value_behind c.args.front.now w) (option_copied c.loop-word.last)) c.as_slice.ensures)
    c.loop-word.invariant

pub returns : goal.returns
returns c = all_seen c.args.front.now c.args.words.now c.loop-word.word-index (option_copied c.loop-word.last)
    c.loop-word-test.false c.loop-word.invariant
