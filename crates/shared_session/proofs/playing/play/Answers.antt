-- The lines that are left of a script at each turn of its loop
use Rattle.std.proofs.Common.{[], ◌∷◌, length-append, refl, rules, arith}
use Rattle.std.proofs.lemmas.Iterator.Adapters.{YieldsList-from_vec}
use Rattle.std.proofs.lemmas.Iterator.Consumers.{YieldsList-end}
use Rattle.script.proofs.Taken.{line_taken}
use Rattle.shared_session.proofs.ScriptLines.{plays_none, plays_next, plays_stop, plays_all, few_reserved, field_at}
use Rattle.shared_session.proofs.playing.play.Goals as goal

pub loop-line-init : goal.loop-line-init
loop-line-init c = record { counted = refl; played = plays_none c.args.shared.now c.args.lines }

pub overflow_add-number : goal.overflow_add-number
overflow_add-number c =
    let turn = line_taken c.args.lines c.into_iter-line-iterator.result (search rules) (search rules)
    c.loop-line.yielded c.loop-line.line-iterator c.loop-line.yielded_by c.next.result c.next.new.self
    c.in-Some.line c.in-Some.is c.next.ensures.steps c.loop-line.number c.loop-line.invariant.counted in
    omega (arith, turn.0, c.requires.few)

pub do_line-requires-clause-few : goal.do_line-requires-clause-few
do_line-requires-clause-few c =
    let turn = line_taken c.args.lines c.into_iter-line-iterator.result (search rules) (search rules)
    c.loop-line.yielded c.loop-line.line-iterator c.loop-line.yielded_by c.next.result c.next.new.self
    c.in-Some.line c.in-Some.is c.next.ensures.steps c.loop-line.number c.loop-line.invariant.counted in
    few_reserved c.args.shared.now c.loop-line.shared c.args.lines c.loop-line.number c.requires.opened
    (omega (arith, turn.0, c.requires.few)) c.loop-line.invariant.played

pub returns-in-Err : goal.returns-in-Err
returns-in-Err c z image left =
    let turn = line_taken c.args.lines c.into_iter-line-iterator.result (search rules) (search rules)
    c.loop-line.yielded c.loop-line.line-iterator c.loop-line.yielded_by c.next.result c.next.new.self
    c.in-Some.line c.in-Some.is c.next.ensures.steps c.loop-line.number c.loop-line.invariant.counted in
    plays_stop c.args.shared.now c.args.lines c.loop-line.number c.in-Some.line c.loop-line.shared
    c.do_line.new.shared c.in-Err.cause turn.0 turn.1 c.loop-line.invariant.played c.in-Err.ensures.done
    c.in-Err.ensures.unchanged z image left

pub loop-line-preserved : goal.loop-line-preserved
loop-line-preserved c =
    let turn = line_taken c.args.lines c.into_iter-line-iterator.result (search rules) (search rules)
    c.loop-line.yielded c.loop-line.line-iterator c.loop-line.yielded_by c.next.result c.next.new.self
    c.in-Some.line c.in-Some.is c.next.ensures.steps c.loop-line.number c.loop-line.invariant.counted in
    record {
      counted = omega (arith, c.loop-line.invariant.counted, length-append c.loop-line.yielded (c.in-Some.line ∷ []));
      played = plays_next c.args.shared.now c.args.lines c.loop-line.number c.in-Some.line c.loop-line.shared
          c.do_line.new.shared turn.0 turn.1 c.loop-line.invariant.played c.in-Ok.ensures.done;
    }

pub returns : goal.returns
returns c z image left =
    let end = YieldsList-end (YieldsList-from_vec {s = c.into_iter-line-iterator.result} c.args.lines (search rules)
    (search rules)) c.loop-line.yielded c.loop-line.line-iterator c.loop-line.yielded_by c.next.result c.next.new.self
    c.in-None.is c.next.ensures.steps in
    plays_all c.args.shared.now c.args.lines c.loop-line.number c.loop-line.shared
    (omega (arith, end.1, c.loop-line.invariant.counted)) c.loop-line.invariant.played z image left

pub do_line-requires-clause-fields : goal.do_line-requires-clause-fields
do_line-requires-clause-fields c =
    let turn = line_taken c.args.lines c.into_iter-line-iterator.result (search rules) (search rules)
    c.loop-line.yielded c.loop-line.line-iterator c.loop-line.yielded_by c.next.result c.next.new.self
    c.in-Some.line c.in-Some.is c.next.ensures.steps c.loop-line.number c.loop-line.invariant.counted in
    field_at c.args.lines c.loop-line.number c.in-Some.line turn.0 turn.1 c.requires.fields
