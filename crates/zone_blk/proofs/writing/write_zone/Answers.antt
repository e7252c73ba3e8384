-- A zone in its pieces: header, front, body and zeros, each made or failed
use Rattle.std.proofs.Common.{◌≡◌, ◌+◌, ◌-◌, ◌∷◌, [], Err, ap, refl, arith, length, List, ℕ}
use Rattle.blk_spec.specs.Writes.{in_pieces}
use Rattle.blk_spec.specs.Dumps.{zeros_by}
use Rattle.zone_blk.proofs.Sequences.{pieces-fail, pieces-then, ends-same}
use Rattle.zone_blk.proofs.writing.write_zone.Goals as goal

pub returns-in-Err-clause-ends : goal.returns-in-Err-clause-ends
returns-in-Err-clause-ends g c = pieces-fail c.args.zone.at c.args.header.now _ _ _ _ _ c.in-Err.ensures.ends

pub returns-in-Err-write-clause-ends : goal.returns-in-Err-write-clause-ends
returns-in-Err-write-clause-ends g c =
    let at = c.args.zone.at in let h = c.args.header.now in let f = c.args.front.now in
    pieces-then {T = Unit} (Err c.in-Err-write.field-0) at (at + length h) h _ _ _ _ _ _ _ refl c.in-Ok.ensures.ends
    (pieces-fail (at + length h) f _ _ _ _ _ c.in-Err-write.ensures.ends)

pub returns-in-Err-write-2-clause-ends : goal.returns-in-Err-write-2-clause-ends
returns-in-Err-write-2-clause-ends g c =
    let at = c.args.zone.at in let h = c.args.header.now in let f = c.args.front.now in let b = c.args.body.now in
    pieces-then {T = Unit} (Err c.in-Err-write-2.field-0) at (at + length h) h _ _ _ _ _ _ _ refl c.in-Ok.ensures.ends
    (pieces-then {T = Unit} (Err c.in-Err-write-2.field-0) (at + length h) (at + length h + length f) f _ _ _ _ _ _ _
    refl c.in-Ok-write.ensures.ends
    (pieces-fail (at + length h + length f) b _ _ _ _ _ c.in-Err-write-2.ensures.ends))

pub returns-in-Ok-write-2-clause-ends : goal.returns-in-Ok-write-2-clause-ends
returns-in-Ok-write-2-clause-ends g c =
    let at = c.args.zone.at in let h = c.args.header.now in let f = c.args.front.now in let b = c.args.body.now in
    let rest : (at + c.args.zone.size) - (at + length h + length f + length b)
    ≡ c.args.zone.size - (length h + length f + length b) = omega arith in
    ends-same c.write_zeros.result _ _ _ _ _ _
    (ap (λ n. in_pieces at (h ∷ f ∷ b ∷ zeros_by 65536 n)) rest)
    (pieces-then c.write_zeros.result at (at + length h) h _ _ _ _ _ _ _ refl c.in-Ok.ensures.ends
    (pieces-then c.write_zeros.result (at + length h) (at + length h + length f) f _ _ _ _ _ _ _ refl
    c.in-Ok-write.ensures.ends
    (pieces-then c.write_zeros.result (at + length h + length f) (at + length h + length f + length b) b
    _ _ _ _ _ _ _ refl c.in-Ok-write-2.ensures.ends c.write_zeros.ensures.ends)))
