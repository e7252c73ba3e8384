-- How each stage of a script on the block store ends it
use Rattle.std.proofs.Common.{refl, arith, Err, inl}
use Rattle.image_file.proofs.Sizes.{size_load}
use Rattle.command_line.proofs.Script.{load_caused, script_caused}
use Rattle.command_line.proofs.BlkScript.{size_stopped, script_stopped, play_ended, played_caused, played_asks}
use Rattle.command_line.proofs.BlkScript.{unless_line}
use Rattle.blk_spec.specs.Answers.{Device, device}
use Rattle.command_spec.specs.Ends.{end_of}
use Rattle.script_spec.specs.declared.LineStop.TheVariants.{StoreFault, SinkFault}
use Rattle.commands.proofs.WorkEnds.{count_same, count_since, none_asked}
use Rattle.commands.proofs.Due.{no_text, ended_put}
use Rattle.commands.proofs.Unread.{lines_unread}
use Rattle.commands.proofs.blk_script.run_blk_script.Goals as goal

pub returns-clause-work : goal.returns-clause-work
returns-clause-work g c = rw c.end_of.ensures (record {
  later = record {
    source = omega arith;
    store = omega (arith, c.play.ensures.later.0);
    sink = omega (arith, c.play.ensures.later.1);
  };
  caused = played_caused c.play.result _ _ _ _ _ _ _ _ c.check_size.ensures.later (omega arith) c.play.ensures.caused;
  counts = record {
    source = count_same _ (end_of c.play.result) _ _ c.in-Ok-read_lines.ensures.counts;
    store = count_since _ (end_of c.play.result) _ _ _ c.in-Ok.ensures.counts
        (unless_line StoreFault c.play.result _ _ c.play.ensures.kept_store);
    sink = unless_line SinkFault c.play.result _ _ c.play.ensures.kept_sink;
  };
  kept = λ w. absurd w;
  asks = played_asks c.play.result _ _ _ _ _ _ c.play.ensures.caused;
  ended = play_ended c.args.layout _ _ c.in-Ok-read_lines.lines c.play.result (g.M.Load.holds c.check_size.new.image)
      _ _ _ _ c.in-Ok.ensures.ok c.in-Ok-read_lines.ensures.read c.check_size.ensures.same c.play.ensures.caused
      (rw c.as_slice.ensures at c.play.ensures.played);
})

pub returns-in-Err-clause-work : goal.returns-in-Err-clause-work
returns-in-Err-clause-work g c = record {
  later = record { source = omega arith; store = omega arith; sink = omega arith };
  caused = load_caused c.in-Err.stop c.args.layout.total (g.M.Load.holds c.args.image.now) _ _ _ _ _ _
      (size_load _ _ _ _ _ c.in-Err.ensures.err);
  counts = record {
    source = λ other. refl;
    store = c.in-Err.ensures.counts;
    sink = λ other. refl;
  };
  kept = λ w. absurd w;
  asks = none_asked (Err c.in-Err.stop) _ _ c.in-Err.ensures.unwritten;
  ended = size_stopped c.args.layout _ _ c.in-Err.stop _ _ (record { left = refl; source = refl })
      (record { given = refl; holds = c.in-Err.ensures.same }) c.in-Err.ensures.err;
}

pub returns-in-Err-read_lines-clause-work : goal.returns-in-Err-read_lines-clause-work
returns-in-Err-read_lines-clause-work g c = record {
  later = record { source = omega arith; store = omega arith; sink = omega arith };
  caused = script_caused c.in-Err-read_lines.stop (g.S.Source.left c.args.script.now) _ _ _ _ _ _ _
      c.in-Err-read_lines.ensures.read;
  counts = record {
    source = c.in-Err-read_lines.ensures.counts;
    store = λ other. c.in-Ok.ensures.counts;
    sink = λ other. refl;
  };
  kept = λ w. absurd w;
  asks = none_asked (Err c.in-Err-read_lines.stop) _ _ c.in-Ok.ensures.unwritten;
  ended = script_stopped c.args.layout _ _ c.in-Ok.ensures.ok c.in-Err-read_lines.stop _ _
      (record { given = refl; holds = c.in-Ok.ensures.same }) c.in-Err-read_lines.ensures.read;
}

pub returns-clause-put : goal.returns-clause-put
returns-clause-put g c = ended_put c.end_of.result _ _ c.play.ensures.put

pub returns-in-Err-clause-put : goal.returns-in-Err-clause-put
returns-in-Err-clause-put g c = no_text _

pub returns-in-Err-read_lines-clause-put : goal.returns-in-Err-read_lines-clause-put
returns-in-Err-read_lines-clause-put g c = no_text _

pub returns-clause-unread : goal.returns-clause-unread
returns-clause-unread g c =
    let before : Device = device (g.M.Load.holds c.args.image.now) (g.M.Load.writes c.args.image.now)
    (g.M.Load.read_faults c.args.image.now) in
    let mid : Device = device (g.M.Load.holds c.check_size.new.image) (g.M.Load.writes c.check_size.new.image)
    (g.M.Load.read_faults c.check_size.new.image) in
    let now : Device = device (g.M.Load.holds c.play.new.store) (g.M.Load.writes c.play.new.store)
    (g.M.Load.read_faults c.play.new.store) in
    lines_unread c.args.layout c.in-Ok-read_lines.lines (g.S.Source.left c.args.script.now) _ before mid now
    c.in-Ok.ensures.ok c.in-Ok-read_lines.ensures.read (c.in-Ok.ensures.same, c.in-Ok.ensures.unwritten)
    c.in-Ok.ensures.read_counts (rw c.as_slice.ensures at c.play.ensures.unread)

pub returns-in-Err-clause-unread : goal.returns-in-Err-clause-unread
returns-in-Err-clause-unread g c = λ bytes script told here. inl (inl
    (c.in-Err.ensures.same, c.in-Err.ensures.unwritten))

pub returns-in-Err-read_lines-clause-unread : goal.returns-in-Err-read_lines-clause-unread
returns-in-Err-read_lines-clause-unread g c = λ bytes script told here. inl (inl
    (c.in-Ok.ensures.same, c.in-Ok.ensures.unwritten))
