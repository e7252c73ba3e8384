-- One page more of the piece. For the loop of `add_marked`.
use Rattle.std.proofs.Common.{true, false, sym, rules, append-nil}
use Rattle.memory_spec.specs.Pages.{is_marked}
use Rattle.memory_regions.proofs.PageMarks.{one_more}
use Rattle.memory_regions.proofs.pages.add_marked.Goals as goal
use Rattle.memory_regions.proofs.pages.add_marked.Goals.{then-is_mark+in_ok-push, else-is_mark}

pub loop-page-preserved : goal.loop-page-preserved
loop-page-preserved c = elim c.if-is_mark.branch [
  | then-is_mark+in_ok-push w ↦
      one_more (is_marked c.args.piece.now) c.args.first c.loop-page.page true c.args.pages.now.items
      c.loop-page.pages.items c.if-is_mark.pages.items c.loop-page.invariant (search rules) (rw w.pages-is w.in_ok-push.ensures.items)
  | else-is_mark w ↦
      one_more (is_marked c.args.piece.now) c.args.first c.loop-page.page false c.args.pages.now.items
      c.loop-page.pages.items c.if-is_mark.pages.items c.loop-page.invariant (search rules) (rw w.pages-is (sym (append-nil c.loop-page.pages.items)))
]
