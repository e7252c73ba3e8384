-- Blank lines, `reserve`, `store` and lines of other scripts each go as defined. For `do_line`.
use Rattle.shared_session.proofs.Done.{blank_done, some_bytes, reserve_done, store_done, other_line}
use Rattle.shared_session.proofs.lines.do_line.Goals as goal

pub returns-in-Blank-clause-done : goal.returns-in-Blank-clause-done
returns-in-Blank-clause-done c = λ h l. blank_done h c.args.line c.args.shared.now c.in-Blank.is l

pub reserve-requires-clause-some : goal.reserve-requires-clause-some
reserve-requires-clause-some c = some_bytes c.args.line c.in-Reserve.payload c.in-Reserve.is c.requires.fields

pub returns-in-Reserve-clause-done : goal.returns-in-Reserve-clause-done
returns-in-Reserve-clause-done c = λ h l. reserve_done h c.args.line c.in-Reserve.payload _ _ c.in-Reserve.is
    (c.reserve.ensures.done h l)

pub returns-in-StoreNext-clause-done : goal.returns-in-StoreNext-clause-done
returns-in-StoreNext-clause-done c = λ h l. store_done h c.args.line c.in-StoreNext.ticket c.in-StoreNext.count _ _
    c.in-StoreNext.is
    (rw c.from.ensures at c.store_next.ensures.done h l)

pub returns-clause-done : goal.returns-clause-done
returns-clause-done c = λ h l. other_line h c.args.line c.in_default.not-Blank c.in_default.not-Reserve
    c.in_default.not-StoreNext
