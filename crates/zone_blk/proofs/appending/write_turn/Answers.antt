-- The runs of an append and its further header, each made or failed
use Rattle.blk_spec.specs.Answers.{device}
use Rattle.zone_blk.proofs.Turns.{IsTurn, run-fails, rest-fails, further-fails, all-made}
use Rattle.zone_blk.proofs.appending.write_turn.Given as given
use Rattle.zone_blk.proofs.appending.write_turn.Goals as goal
use Rattle.zone_blk.proofs.appending.write_turn.Goals.{After-split_at}

turned : (g : given.Over) (c : After-split_at g) → IsTurn c.args.zone c.args.words c.args.bytes.now
    c.split_at.result.0.now c.split_at.result.1.now c.turn_of-turn.result
turned g c = record {
  front_is = c.split_at.ensures.front;
  back_is = c.split_at.ensures.back;
  first = c.turn_of-turn.ensures.first;
  first_words = c.turn_of-turn.ensures.first_words;
  run_words = c.turn_of-turn.ensures.run_words;
  short = c.turn_of-turn.ensures.short;
  last = c.turn_of-turn.ensures.last;
}

pub returns-in-Err-clause-ends : goal.returns-in-Err-clause-ends
returns-in-Err-clause-ends g c =
    run-fails c.args.zone c.args.words c.args.bytes.now c.split_at.result.0.now c.split_at.result.1.now
    c.turn_of-turn.result (turned g (goal.at.returns-in-Err-clause-ends g c).After-split_at)
    c.args.cut.now c.write_run.new.cut c.write_run.new.cut c.write_run.new.cut
    _ _ (device (g.M.Load.holds c.write_run.new.store) (g.M.Load.writes c.write_run.new.store)
    (g.M.Load.read_faults c.write_run.new.store))
    (device (g.M.Load.holds c.write_run.new.store) (g.M.Load.writes c.write_run.new.store)
    (g.M.Load.read_faults c.write_run.new.store))
    c.in-Err.ensures.ends

pub returns-in-Err-write_rest-clause-ends : goal.returns-in-Err-write_rest-clause-ends
returns-in-Err-write_rest-clause-ends g c =
    rest-fails c.args.zone c.args.words c.args.bytes.now c.split_at.result.0.now c.split_at.result.1.now
    c.turn_of-turn.result (turned g (goal.at.returns-in-Err-write_rest-clause-ends g c).After-split_at)
    c.args.cut.now c.write_run.new.cut c.write_rest.new.cut c.write_rest.new.cut
    _ _ _ (device (g.M.Load.holds c.write_rest.new.store) (g.M.Load.writes c.write_rest.new.store)
    (g.M.Load.read_faults c.write_rest.new.store))
    c.in-Ok.ensures.ends c.in-Err-write_rest.ensures.ends

pub returns-in-Ok-write_further-clause-ends : goal.returns-in-Ok-write_further-clause-ends
returns-in-Ok-write_further-clause-ends g c =
    all-made c.args.zone c.args.words c.args.bytes.now c.split_at.result.0.now c.split_at.result.1.now
    c.turn_of-turn.result (turned g (goal.at.returns-in-Ok-write_further-clause-ends g c).After-split_at)
    c.args.cut.now c.write_run.new.cut c.write_rest.new.cut c.write_further.new.cut
    _ _ _ _
    c.in-Ok.ensures.ends c.in-Ok-write_rest.ensures.ends c.in-Ok-write_further.ensures.ends

pub returns-in-Err-write_further-clause-ends : goal.returns-in-Err-write_further-clause-ends
returns-in-Err-write_further-clause-ends g c =
    further-fails c.args.zone c.args.words c.args.bytes.now c.split_at.result.0.now c.split_at.result.1.now
    c.turn_of-turn.result (turned g (goal.at.returns-in-Err-write_further-clause-ends g c).After-split_at)
    c.args.cut.now c.write_run.new.cut c.write_rest.new.cut c.write_further.new.cut
    _ _ _ _
    c.in-Ok.ensures.ends c.in-Ok-write_rest.ensures.ends c.in-Err-write_further.ensures.ends
