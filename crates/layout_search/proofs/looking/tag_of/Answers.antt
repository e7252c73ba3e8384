-- A zone has a tag exactly when it is an ftrace zone, its header can be read, and the number there
-- is a tag. For `tag_of`.
use Rattle.std.proofs.Common.{◌≡◌, ◌∙◌, ◌&&◌, true, false, sym, ap, refl}
use Rattle.std.specs.Prelude.{Bool, bit_xor}
use Rattle.zone_spec.specs.declared.Words.{Words}
use Rattle.layout_spec.specs.Marks.{is_readable}
use Rattle.layout_spec.specs.Family.{is_tagged, is_tag, is_ftrace, tag_read}
use Rattle.layout_search.proofs.looking.tag_of.Goals as goal

and_false : (b : Bool) → (b && false) ≡ false
and_false true = refl
and_false false = refl

pub returns-then-not-is_ftrace : goal.returns-then-not-is_ftrace
unfolding is_tagged
returns-then-not-is_ftrace c =
    ap (λ b. b && is_readable c.args.image.now c.args.zone.now && is_tag (tag_read c.args.image.now c.args.zone.now))
    (sym c.is_ftrace.ensures ∙ c.if-not-is_ftrace.true)

pub returns-in_default : goal.returns-in_default
unfolding is_tagged
returns-in_default c =
    ap (λ b. is_ftrace c.args.zone.now.name.kind && b && is_tag (tag_read c.args.image.now c.args.zone.now))
    c.in_default.ensures ∙ ap (λ b. b && is_tag (tag_read c.args.image.now c.args.zone.now))
    (and_false (is_ftrace c.args.zone.now.name.kind))

pub returns-then-is_tag : goal.returns-then-is_tag
unfolding is_tagged
returns-then-is_tag c =
    let same = ap (λ (w : Words). bit_xor 0x43474244 w.sig) c.in-Some.ensures.words in (
      ap (λ b. b && is_readable c.args.image.now c.args.zone.now
          && is_tag (tag_read c.args.image.now c.args.zone.now)) (sym c.is_ftrace.ensures ∙ c.if-not-is_ftrace.false)
          ∙ ap (λ b. b && is_tag (tag_read c.args.image.now c.args.zone.now)) c.in-Some.ensures.readable
          ∙ ap is_tag (sym same) ∙ sym c.is_tag.ensures ∙ c.if-is_tag.true,
      same,
    )

pub returns-else-is_tag : goal.returns-else-is_tag
unfolding is_tagged
returns-else-is_tag c =
    let same = ap (λ (w : Words). bit_xor 0x43474244 w.sig) c.in-Some.ensures.words in
    ap (λ b. (is_ftrace c.args.zone.now.name.kind && is_readable c.args.image.now c.args.zone.now) && b)
    (ap is_tag (sym same) ∙ sym c.is_tag.ensures ∙ c.if-is_tag.false)
    ∙ and_false (is_ftrace c.args.zone.now.name.kind && is_readable c.args.image.now c.args.zone.now)
