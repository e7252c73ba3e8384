-- A clean, a fixed and a bad word each give the near codeword's ring, or none. For `ring_within`.
use Rattle.std.proofs.Common.{ℕ, ◌+◌, ◌≤◌, List, length, ◌++◌, refl, arith}
use Rattle.code_spec.specs.Code.{nearest}
use Rattle.salvage.proofs.HeaderSums.{near_bad, near_clean, near_fixed, fixed_few}
use Rattle.salvage.proofs.header.ring_within.Goals as goal

pub returns-in-Clean : goal.returns-in-Clean
returns-in-Clean c =
    near_clean c.args.zone.now c.args.at c.args.amends (c.args.bytes.now ++ c.args.parity.now) _
    c.ring_with.result c.decode_within.new.msg (length c.args.bytes.now) c.requires.len
    c.in-Clean.ensures.answer c.in-Clean.ensures.data c.ring_with.ensures

pub returns-in-Fixed : goal.returns-in-Fixed
returns-in-Fixed c =
    near_fixed c.args.zone.now c.args.at c.args.amends (c.args.bytes.now ++ c.args.parity.now) _
    c.ring_with-in-Fixed.result c.decode_within.new.msg (length c.args.bytes.now) c.in-Fixed.count
    (c.args.amends + c.in-Fixed.count) c.requires.len
    c.in-Fixed.ensures.answer c.in-Fixed.ensures.data refl c.ring_with-in-Fixed.ensures

pub returns-in-Bad : goal.returns-in-Bad
returns-in-Bad c =
    near_bad c.args.zone.now c.args.at c.args.amends (c.args.bytes.now ++ c.args.parity.now) _
    c.in-Bad.ensures.answer

pub overflow_add-amends : goal.overflow_add-amends
overflow_add-amends c =
    let W : List ℕ = c.args.bytes.now ++ c.args.parity.now in
    let few : c.in-Fixed.count ≤ c.args.most =
    fixed_few c.args.most c.in-Fixed.count W (nearest (length c.args.parity.now) W) c.in-Fixed.ensures.answer in
    omega (arith, few, c.requires.most, c.requires.few, c.requires.amends)
