-- A text names a listed record where it is a name's text and that name is listed
use Rattle.std.proofs.Common.{Bool, if◌then◌else◌, Some, None, sym, ap, subst, ◌∙◌}
use Rattle.blk_spec.specs.States.{names_of}
use Rattle.zone_blk.specs.Answering.{IsLoadedState}
use Rattle.zone_blk.proofs.OneNameText.{all-names, found, found-none}
use Rattle.zone_blk.proofs.blk.Blk.find.Goals as goal

pub returns-in_err-name : goal.returns-in_err-name
returns-in_err-name c =
    let loaded : IsLoadedState c.args.self.now = subst IsLoadedState c.self.view_is c.self.invariant in
    c.from_residual.ensures ∙ sym (found-none c.args.text.now (names_of c.args.self.now) c.in_err-name.ensures
    (all-names c.args.self.now loaded))

pub returns-then-lists : goal.returns-then-lists
returns-then-lists c =
    let n = c.in_ok-name.name in
    ap (λ (b : Bool). if b then Some n else None) c.if-lists.ensures.listed
    ∙ sym (found c.args.text.now n (names_of c.args.self.now) c.in_ok-name.ensures.0 c.in_ok-name.ensures.1
    (all-names c.args.self.now c.if-lists.ensures.loaded))

pub returns-else-lists : goal.returns-else-lists
returns-else-lists c =
    let n = c.in_ok-name.name in
    ap (λ (b : Bool). if b then Some n else None) c.if-lists.ensures.listed
    ∙ sym (found c.args.text.now n (names_of c.args.self.now) c.in_ok-name.ensures.0 c.in_ok-name.ensures.1
    (all-names c.args.self.now c.if-lists.ensures.loaded))
