-- An empty append makes no write and keeps the words; any other makes the definition's writes and
-- answers the words after them. For `append_ring`.
use Rattle.std.proofs.Common.{◌∙◌, ◌≡◌, sym, ap, subst, List, ℕ, length}
use Rattle.zone_spec.specs.Told.{last_items}
use Rattle.blk_spec.specs.Layout.{capacity}
use Rattle.blk_spec.specs.Rings.{kept_writes, last_words}
use Rattle.blk_spec.specs.Writes.{Write}
use Rattle.blk_spec.specs.Answers.{Device, device, Makes}
use Rattle.zone_blk.proofs.Sequences.{makes-no-write, ends-same}
use Rattle.zone_blk.proofs.Turns.{empty-append, empty-words-after, some-append, some-words-after, words-ok}
use Rattle.zone_blk.proofs.appending.append_ring.Goals as goal

pub returns-then-is_empty-clause-ends : goal.returns-then-is_empty-clause-ends
returns-then-is_empty-clause-ends g c =
    let a : Device = device (g.M.Load.holds c.args.store.now) (g.M.Load.writes c.args.store.now)
    (g.M.Load.read_faults c.args.store.now) in
    subst (λ (ws : List Write). Makes ws ws c.args.cut.now c.args.cut.now a a)
    (sym (empty-append c.args.zone c.args.words c.args.payload.now (sym c.is_empty.ensures ∙ c.if-is_empty.true)))
    (makes-no-write a c.args.cut.now)

pub returns-then-is_empty-clause-words : goal.returns-then-is_empty-clause-words
returns-then-is_empty-clause-words g c = empty-words-after c.args.zone c.args.words c.args.payload.now
    (sym c.is_empty.ensures ∙ c.if-is_empty.true)

pub returns-clause-ends : goal.returns-clause-ends
returns-clause-ends g c =
    let kept : c.split_at.result.1.now ≡ last_items (capacity c.args.zone) c.args.payload.now = cc in
    ends-same c.write_turn.result _ _ _ _ _ _ (ap (kept_writes c.args.zone c.args.words) kept
    ∙ some-append c.args.zone c.args.words c.args.payload.now (sym c.is_empty.ensures ∙ c.if-is_empty.false))
    c.write_turn.ensures.ends

pub returns-clause-words : goal.returns-clause-words
returns-clause-words g c =
    let kept : c.split_at.result.1.now ≡ last_items (capacity c.args.zone) c.args.payload.now = cc in
    words-ok c.write_turn.result _ _ (ap (λ (bs : List ℕ). last_words c.args.zone c.args.words (length bs)) kept
    ∙ some-words-after c.args.zone c.args.words c.args.payload.now (sym c.is_empty.ensures ∙ c.if-is_empty.false))
    c.write_turn.ensures.words
