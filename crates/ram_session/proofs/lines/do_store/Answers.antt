-- A listing takes memory, and is refused for nothing else. For `do_store`.
use Rattle.std.proofs.lemmas.Result.{err_from_is_err_and}
use Rattle.ram_session.proofs.StateLines.{list_takes}
use Rattle.ram_session.proofs.lines.do_store.Goals as goal

pub returns-in_err-list-in-List : goal.returns-in_err-list-in-List
returns-in_err-list-in-List c =
    let p = err_from_is_err_and c.from_residual.result c.from_residual.ensures.1 in
    rw (c.in-List.is, p.1, p.2) (list_takes c.args.live.now c.args.logs.now)
