-- There is room for the fixes, and the answer tells whether there is a nearest codeword.
use Rattle.std.proofs.Common.{◌≡◌, ◌/◌, ◌≤◌, ◌∙◌, ap, sym, true, length, ◌++◌, arith}
use Rattle.code_spec.specs.Code.{nearest}
use Rattle.oopsbox_c.specs.Codes.{is_block, end_of}
use Rattle.oopsbox_c.specs.Ends.{status_of}
use Rattle.oopsbox_c.proofs.DecodeAnswer.{end_is, answered, few_fixes}
use Rattle.oopsbox_c.proofs.codes.oopsbox_rs_decode.Goals as goal

pub store_places-requires : goal.store_places-requires
store_places-requires c =
    let few = few_fixes (length c.args.parity.now) (c.args.message.now ++ c.args.parity.now) in
    let fixes = ap length (c.as_slice.ensures.value ∙ c.decode-answer.ensures.fixes) in
    let room = c.if-places-parity.false in
    omega (arith, few, fixes, room)

pub returns-clause-answer : goal.returns-clause-answer
returns-clause-answer c =
    let m = length c.args.message.now in
    let p = length c.args.parity.now in
    let word = c.args.message.now ++ c.args.parity.now in
    let block : is_block m p ≡ true = sym c.if-not-is_block.ensures in
    let room : p / 2 ≤ length c.args.places.now = (let r = c.if-places-parity.false in omega (arith, r)) in
    c.status-2.ensures ∙ ap status_of (c.end_of.ensures ∙ ap end_of c.decode-answer.ensures.answer
    ∙ end_is word (nearest p word) ∙ sym (answered m p (length c.args.places.now) (nearest p word) block room))
