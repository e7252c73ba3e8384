-- A line by which a boot begins ends the one before it, any other belongs to it; the last boot ends with the text. For
-- `boots`.
use Rattle.std.proofs.Common.{◌≡◌, ◌+◌, ◌++◌, ◌∷◌, [], length, sym, ap, subst, ◌∙◌, arith}
use Rattle.text_log_spec.specs.Boots.{begins, Joined}
use Rattle.text_log_spec.specs.Words.{head_of}
use Rattle.text_log.proofs.Firsts.{cut_found, on_found, last_here, none_here, from_start, joined_more, joined_none}
use Rattle.text_log.proofs.Firsts.{later}
use Rattle.text_log.proofs.boots.Goals as goal
use Rattle.text_log.proofs.boots.Goals.{then-from-text+in_ok-push-2, else-from-text}

pub lines-init : goal.lines-init
lines-init c = record {
  inside = omega arith;
  are = rw c.new-boots.ensures.items (from_start c.args.text.now);
  joined = rw c.new-boots.ensures.items joined_none;
}

pub lines-preserved-then-is_cut : goal.lines-preserved-then-is_cut
lines-preserved-then-is_cut c =
    let pushed = c.in_ok-push.ensures.items ∙ ap (λ b. c.lines.boots.items ++ b ∷ []) c.boot.ensures in
    record {
      inside = omega arith;
      are = cut_found c.args.text.now c.lines.is_booting c.is_booting_behind-is_booting.result c.lines.at c.lines.from
          (c.lines.at + (length c.line_at-line.result.now + 1)) c.lines.boots.items c.push.new.self.items
          c.head_of-head.result c.lines-test.true c.lines.invariant.are
          (c.head_of-head.ensures ∙ ap head_of c.line_at-line.ensures.line) c.is_booting_behind-is_booting.ensures
          (omega (arith, c.line_at-line.ensures.len)) (sym c.is_cut-is_cut.ensures ∙ c.if-is_cut.true) pushed;
      joined = subst (λ bs. Joined 0 bs c.lines.at) (sym pushed)
          (joined_more 0 c.lines.boots.items c.lines.from c.lines.at c.lines.invariant.joined
          (later (begins c.lines.is_booting c.head_of-head.result) c.lines.from c.lines.at
          (sym c.is_cut-is_cut.ensures ∙ c.if-is_cut.true)));
    }

pub lines-preserved : goal.lines-preserved
lines-preserved c = record {
  inside = c.lines.invariant.inside;
  are = on_found c.args.text.now c.lines.is_booting c.is_booting_behind-is_booting.result c.lines.at c.lines.from
      (c.lines.at + (length c.line_at-line.result.now + 1)) c.lines.boots.items c.head_of-head.result c.lines-test.true
      c.lines.invariant.are (c.head_of-head.ensures ∙ ap head_of c.line_at-line.ensures.line)
      c.is_booting_behind-is_booting.ensures (omega (arith, c.line_at-line.ensures.len))
      (sym c.is_cut-is_cut.ensures ∙ c.if-is_cut.false);
  joined = c.lines.invariant.joined;
}

pub returns-clause-boots : goal.returns-clause-boots
returns-clause-boots c = elim c.if-from-text.branch [
  | then-from-text+in_ok-push-2 w ↦ last_here c.args.text.now c.lines.is_booting c.lines.at c.lines.from
      c.lines.boots.items c.if-from-text.boots.items (omega arith) c.lines.invariant.are (omega arith)
      (ap (λ v. v.items) w.boots-is ∙ w.in_ok-push-2.ensures.items
      ∙ ap (λ b. c.lines.boots.items ++ b ∷ []) w.boot-then-from-text.ensures)
  | else-from-text w ↦ ap (λ v. v.items) w.boots-is ∙ none_here c.args.text.now c.lines.is_booting c.lines.at
      c.lines.from c.lines.boots.items (omega arith) c.lines.invariant.are (omega arith)
]

pub returns-clause-joined : goal.returns-clause-joined
returns-clause-joined c = elim c.if-from-text.branch [
  | then-from-text+in_ok-push-2 w ↦ subst (λ bs. Joined 0 bs (length c.args.text.now))
      (sym (ap (λ v. v.items) w.boots-is ∙ w.in_ok-push-2.ensures.items
      ∙ ap (λ b. c.lines.boots.items ++ b ∷ []) w.boot-then-from-text.ensures))
      (joined_more 0 c.lines.boots.items c.lines.from (length c.args.text.now) c.lines.invariant.joined (omega arith))
  | else-from-text w ↦ subst (λ bs. Joined 0 bs (length c.args.text.now)) (sym (ap (λ v. v.items) w.boots-is))
      (subst (λ end. Joined 0 c.lines.boots.items end)
      (let e : c.lines.from ≡ length c.args.text.now = omega arith in e)
      c.lines.invariant.joined)
]
