-- The lines that are left of a script at each turn of its loop
use Rattle.std.proofs.Common.{[], ◌∷◌, length-append, refl, ◌∙◌, rules, arith}
use Rattle.std.proofs.lemmas.Iterator.Adapters.{YieldsList-from_vec}
use Rattle.std.proofs.lemmas.Iterator.Consumers.{YieldsList-end}
use Rattle.script.proofs.Taken.{line_taken}
use Rattle.script_laws.proofs.SoundStates.{states_sound}
use Rattle.ram_session.proofs.ScriptLines.{plays_none, plays_next, plays_stop, plays_all}
use Rattle.ram_session.specs.declared.machine.Machine.TheVariants.{Off}
use Rattle.ram_session.proofs.playing.play.Goals as goal

pub loop-line-init : goal.loop-line-init
loop-line-init g c = record {
  counted = refl;
  few = omega arith;
  same = refl;
  later = omega arith;
  played = plays_none c.args.off c.args.lines (g.O.Sink.given c.args.out.now);
}

pub overflow_add-number : goal.overflow_add-number
overflow_add-number g c =
    let turn = line_taken c.args.lines c.into_iter-line-iterator.result (search rules) (search rules)
    c.loop-line.yielded c.loop-line.line-iterator c.loop-line.yielded_by c.next.result c.next.new.self
    c.in-Some.line c.in-Some.is c.next.ensures.steps c.loop-line.number c.loop-line.invariant.counted in
    omega (arith, turn.0, c.requires.few)

pub play_line-requires-clause-few : goal.play_line-requires-clause-few
play_line-requires-clause-few g c =
    let turn = line_taken c.args.lines c.into_iter-line-iterator.result (search rules) (search rules)
    c.loop-line.yielded c.loop-line.line-iterator c.loop-line.yielded_by c.next.result c.next.new.self
    c.in-Some.line c.in-Some.is c.next.ensures.steps c.loop-line.number c.loop-line.invariant.counted in
    omega (arith, turn.0, c.requires.few, c.loop-line.invariant.few)

pub returns-in-Err-play_line-clause-later : goal.returns-in-Err-play_line-clause-later
returns-in-Err-play_line-clause-later g c = omega (arith, c.loop-line.invariant.later, c.play_line.ensures.later)

pub returns-in-Err-play_line-clause-played : goal.returns-in-Err-play_line-clause-played
returns-in-Err-play_line-clause-played g c layout mem image fresh =
    let turn = line_taken c.args.lines c.into_iter-line-iterator.result (search rules) (search rules)
    c.loop-line.yielded c.loop-line.line-iterator c.loop-line.yielded_by c.next.result c.next.new.self
    c.in-Some.line c.in-Some.is c.next.ensures.steps c.loop-line.number c.loop-line.invariant.counted in
    plays_stop states_sound (Off c.args.off) c.args.lines c.requires.fields c.loop-line.number c.in-Some.line
    turn.0 turn.1 c.loop-line.machine (g.O.Sink.given c.args.out.now)
    (g.O.Sink.given c.loop-line.out) c.loop-line.invariant.played
    c.in-Err-play_line.stop (g.O.Sink.given c.play_line.new.out) (g.O.Sink.faults c.loop-line.out)
    (g.O.Sink.faults c.args.out.now) (g.O.Sink.faults c.play_line.new.out) c.loop-line.invariant.later
    c.in-Err-play_line.ensures.played c.args.off refl layout mem image fresh

pub loop-line-preserved : goal.loop-line-preserved
loop-line-preserved g c =
    let turn = line_taken c.args.lines c.into_iter-line-iterator.result (search rules) (search rules)
    c.loop-line.yielded c.loop-line.line-iterator c.loop-line.yielded_by c.next.result c.next.new.self
    c.in-Some.line c.in-Some.is c.next.ensures.steps c.loop-line.number c.loop-line.invariant.counted in
    record {
      counted = omega (arith, c.loop-line.invariant.counted, length-append c.loop-line.yielded (c.in-Some.line ∷ []));
      few = omega (arith, c.loop-line.invariant.few, c.in-Ok-play_line.ensures.count);
      same = c.in-Ok-play_line.ensures.counts ∙ c.loop-line.invariant.same;
      later = omega (arith, c.loop-line.invariant.later, c.play_line.ensures.later);
      played = plays_next states_sound (Off c.args.off) c.args.lines c.requires.fields c.loop-line.number
          c.in-Some.line turn.0 turn.1 c.loop-line.machine (g.O.Sink.given c.args.out.now)
          (g.O.Sink.given c.loop-line.out) c.loop-line.invariant.played
          c.in-Ok-play_line.next (g.O.Sink.given c.play_line.new.out) c.in-Ok-play_line.ensures.played;
    }

pub returns-in-Err-clause-later : goal.returns-in-Err-clause-later
returns-in-Err-clause-later g c = c.loop-line.invariant.later

pub returns-in-Err-clause-counts : goal.returns-in-Err-clause-counts
returns-in-Err-clause-counts g c = λ other. c.loop-line.invariant.same

pub returns-in-Err-clause-played : goal.returns-in-Err-clause-played
returns-in-Err-clause-played g c layout mem image fresh =
    let turn = line_taken c.args.lines c.into_iter-line-iterator.result (search rules) (search rules)
    c.loop-line.yielded c.loop-line.line-iterator c.loop-line.yielded_by c.next.result c.next.new.self
    c.in-Some.line c.in-Some.is c.next.ensures.steps c.loop-line.number c.loop-line.invariant.counted in
    plays_stop states_sound (Off c.args.off) c.args.lines c.requires.fields c.loop-line.number c.in-Some.line
    turn.0 turn.1 c.loop-line.machine (g.O.Sink.given c.args.out.now)
    (g.O.Sink.given c.loop-line.out) c.loop-line.invariant.played
    c.in-Err.stop (g.O.Sink.given c.loop-line.out) (g.O.Sink.faults c.loop-line.out)
    (g.O.Sink.faults c.args.out.now) (g.O.Sink.faults c.loop-line.out) c.loop-line.invariant.later
    (c.in-Err.ensures.played (g.O.Sink.given c.loop-line.out) (g.O.Sink.faults c.loop-line.out)) c.args.off refl
    layout mem image fresh

pub loop-line-preserved-then-is_call : goal.loop-line-preserved-then-is_call
loop-line-preserved-then-is_call g c =
    let turn = line_taken c.args.lines c.into_iter-line-iterator.result (search rules) (search rules)
    c.loop-line.yielded c.loop-line.line-iterator c.loop-line.yielded_by c.next.result c.next.new.self
    c.in-Some.line c.in-Some.is c.next.ensures.steps c.loop-line.number c.loop-line.invariant.counted in
    record {
      counted = omega (arith, c.loop-line.invariant.counted, length-append c.loop-line.yielded (c.in-Some.line ∷ []));
      few = omega (arith, c.loop-line.invariant.few, c.play_call.ensures.count);
      same = c.loop-line.invariant.same;
      later = c.loop-line.invariant.later;
      played = plays_next states_sound (Off c.args.off) c.args.lines c.requires.fields c.loop-line.number
          c.in-Some.line turn.0 turn.1 c.loop-line.machine (g.O.Sink.given c.args.out.now)
          (g.O.Sink.given c.loop-line.out) c.loop-line.invariant.played
          c.play_call.new.machine (g.O.Sink.given c.loop-line.out)
          (c.in-Ok.ensures.played (g.O.Sink.given c.loop-line.out) 0);
    }

pub returns-in-Err-play_line-clause-counts : goal.returns-in-Err-play_line-clause-counts
returns-in-Err-play_line-clause-counts g c = λ other.
    c.in-Err-play_line.ensures.counts other ∙ c.loop-line.invariant.same

pub returns-clause-counts : goal.returns-clause-counts
returns-clause-counts g c = c.loop-line.invariant.same

pub returns-clause-later : goal.returns-clause-later
returns-clause-later g c = c.loop-line.invariant.later

pub returns-clause-played : goal.returns-clause-played
returns-clause-played g c =
    let end = YieldsList-end (YieldsList-from_vec {s = c.into_iter-line-iterator.result} c.args.lines (search rules)
    (search rules)) c.loop-line.yielded c.loop-line.line-iterator c.loop-line.yielded_by c.next.result c.next.new.self
    c.in-None.is c.next.ensures.steps in
    plays_all c.args.off c.args.lines c.loop-line.number c.loop-line.machine
    (g.O.Sink.given c.args.out.now) (g.O.Sink.given c.loop-line.out)
    (omega (arith, end.1, c.loop-line.invariant.counted)) c.loop-line.invariant.played
