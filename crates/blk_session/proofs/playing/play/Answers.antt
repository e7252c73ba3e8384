-- A line refused, or with its text unprinted, ends the script as defined; a done one goes on, and
-- after the last all is done. For `play`.
use Rattle.std.proofs.Common.{◌∙◌, ◌+◌, arith, inl, refl}
use Rattle.blk_spec.specs.Answers.{device}
use Rattle.blk_session.specs.Playing.{Seen, seen}
use Rattle.blk_session.proofs.ScriptLines.{plays_none, plays_next, plays_stop, plays_unwritten, plays_unread}
use Rattle.blk_session.proofs.ScriptLines.{plays_all, asked_all}
use Rattle.blk_session.proofs.LineTexts.{text_none, next_text, stopped_text}
use Rattle.blk_session.proofs.playing.play.Goals as goal

pub returns-in-Err-clause-played : goal.returns-in-Err-clause-played
returns-in-Err-clause-played g c =
    let a : Seen = seen (device (g.S.Load.holds c.args.store.now) (g.S.Load.writes c.args.store.now)
    (g.S.Load.read_faults c.args.store.now))
    (g.S.Load.faults c.args.store.now) (g.O.Sink.given c.args.out.now) (g.O.Sink.faults c.args.out.now) in
    let b : Seen = seen (device (g.S.Load.holds c.loop-i.store) (g.S.Load.writes c.loop-i.store)
    (g.S.Load.read_faults c.loop-i.store))
    (g.S.Load.faults c.loop-i.store) (g.O.Sink.given c.loop-i.out) (g.O.Sink.faults c.loop-i.out) in
    let d : Seen = seen (device (g.S.Load.holds c.play_line.new.store) (g.S.Load.writes c.play_line.new.store)
    (g.S.Load.read_faults c.play_line.new.store))
    (g.S.Load.faults c.play_line.new.store) (g.O.Sink.given c.play_line.new.out) (g.O.Sink.faults c.play_line.new.out)
    in
    plays_stop c.args.layout c.args.lines.now c.loop-i.i c.index-lines-i.result c.loop-i-test.true c.index-lines-i.is
    c.loop-i.blk a b c.loop-i.invariant.played c.in-Err.stop d c.in-Err.ensures.played

pub returns-in-Err-clause-unwritten : goal.returns-in-Err-clause-unwritten
returns-in-Err-clause-unwritten g c =
    let a : Seen = seen (device (g.S.Load.holds c.args.store.now) (g.S.Load.writes c.args.store.now)
    (g.S.Load.read_faults c.args.store.now))
    (g.S.Load.faults c.args.store.now) (g.O.Sink.given c.args.out.now) (g.O.Sink.faults c.args.out.now) in
    let b : Seen = seen (device (g.S.Load.holds c.loop-i.store) (g.S.Load.writes c.loop-i.store)
    (g.S.Load.read_faults c.loop-i.store))
    (g.S.Load.faults c.loop-i.store) (g.O.Sink.given c.loop-i.out) (g.O.Sink.faults c.loop-i.out) in
    let d : Seen = seen (device (g.S.Load.holds c.play_line.new.store) (g.S.Load.writes c.play_line.new.store)
    (g.S.Load.read_faults c.play_line.new.store))
    (g.S.Load.faults c.play_line.new.store) (g.O.Sink.given c.play_line.new.out) (g.O.Sink.faults c.play_line.new.out)
    in
    plays_unwritten c.args.layout c.args.lines.now c.loop-i.i c.index-lines-i.result c.loop-i-test.true
    c.index-lines-i.is c.loop-i.blk a b c.loop-i.invariant.played c.in-Err.stop d c.in-Err.ensures.played

pub returns-in-Err-clause-unread : goal.returns-in-Err-clause-unread
returns-in-Err-clause-unread g c =
    let a : Seen = seen (device (g.S.Load.holds c.args.store.now) (g.S.Load.writes c.args.store.now)
    (g.S.Load.read_faults c.args.store.now))
    (g.S.Load.faults c.args.store.now) (g.O.Sink.given c.args.out.now) (g.O.Sink.faults c.args.out.now) in
    let b : Seen = seen (device (g.S.Load.holds c.loop-i.store) (g.S.Load.writes c.loop-i.store)
    (g.S.Load.read_faults c.loop-i.store))
    (g.S.Load.faults c.loop-i.store) (g.O.Sink.given c.loop-i.out) (g.O.Sink.faults c.loop-i.out) in
    let d : Seen = seen (device (g.S.Load.holds c.play_line.new.store) (g.S.Load.writes c.play_line.new.store)
    (g.S.Load.read_faults c.play_line.new.store))
    (g.S.Load.faults c.play_line.new.store) (g.O.Sink.given c.play_line.new.out) (g.O.Sink.faults c.play_line.new.out)
    in
    plays_unread c.args.layout c.args.lines.now c.loop-i.i c.index-lines-i.result c.loop-i-test.true
    c.index-lines-i.is c.loop-i.blk a b c.loop-i.invariant.played c.loop-i.invariant.unread c.in-Err.stop d
    c.in-Err.ensures.played

pub returns-in-Err-clause-kept_store : goal.returns-in-Err-clause-kept_store
returns-in-Err-clause-kept_store g c = λ other. c.in-Err.ensures.kept_store other ∙ c.loop-i.invariant.kept_store

pub returns-in-Err-clause-kept_sink : goal.returns-in-Err-clause-kept_sink
returns-in-Err-clause-kept_sink g c = λ other. c.in-Err.ensures.kept_sink other ∙ c.loop-i.invariant.kept_sink

pub returns-in-Err-clause-put : goal.returns-in-Err-clause-put
returns-in-Err-clause-put g c =
    let a : Seen = seen (device (g.S.Load.holds c.args.store.now) (g.S.Load.writes c.args.store.now)
    (g.S.Load.read_faults c.args.store.now))
    (g.S.Load.faults c.args.store.now) (g.O.Sink.given c.args.out.now) (g.O.Sink.faults c.args.out.now) in
    let b : Seen = seen (device (g.S.Load.holds c.loop-i.store) (g.S.Load.writes c.loop-i.store)
    (g.S.Load.read_faults c.loop-i.store))
    (g.S.Load.faults c.loop-i.store) (g.O.Sink.given c.loop-i.out) (g.O.Sink.faults c.loop-i.out) in
    let d : Seen = seen (device (g.S.Load.holds c.play_line.new.store) (g.S.Load.writes c.play_line.new.store)
    (g.S.Load.read_faults c.play_line.new.store))
    (g.S.Load.faults c.play_line.new.store) (g.O.Sink.given c.play_line.new.out) (g.O.Sink.faults c.play_line.new.out)
    in
    stopped_text c.args.layout c.loop-i.blk c.index-lines-i.result a b c.loop-i.invariant.put c.in-Err.stop
    (c.loop-i.i + 1) d c.in-Err.ensures.played

pub loop-i-init : goal.loop-i-init
loop-i-init g c =
    let a : Seen = seen (device (g.S.Load.holds c.args.store.now) (g.S.Load.writes c.args.store.now)
    (g.S.Load.read_faults c.args.store.now))
    (g.S.Load.faults c.args.store.now) (g.O.Sink.given c.args.out.now) (g.O.Sink.faults c.args.out.now) in
    record {
      loaded = tt;
      room = c.requires.room;
      later = record { store = omega arith; sink = omega arith };
      kept_store = refl;
      kept_sink = refl;
      unread = refl;
      put = text_none (g.O.Sink.given c.args.out.now);
      played = plays_none c.args.layout c.args.lines.now a;
    }

pub loop-i-preserved : goal.loop-i-preserved
loop-i-preserved g c =
    let a : Seen = seen (device (g.S.Load.holds c.args.store.now) (g.S.Load.writes c.args.store.now)
    (g.S.Load.read_faults c.args.store.now))
    (g.S.Load.faults c.args.store.now) (g.O.Sink.given c.args.out.now) (g.O.Sink.faults c.args.out.now) in
    let b : Seen = seen (device (g.S.Load.holds c.loop-i.store) (g.S.Load.writes c.loop-i.store)
    (g.S.Load.read_faults c.loop-i.store))
    (g.S.Load.faults c.loop-i.store) (g.O.Sink.given c.loop-i.out) (g.O.Sink.faults c.loop-i.out) in
    let d : Seen = seen (device (g.S.Load.holds c.play_line.new.store) (g.S.Load.writes c.play_line.new.store)
    (g.S.Load.read_faults c.play_line.new.store))
    (g.S.Load.faults c.play_line.new.store) (g.O.Sink.given c.play_line.new.out) (g.O.Sink.faults c.play_line.new.out)
    in
    record {
      loaded = c.in-Ok.ensures.loaded;
      room = c.in-Ok.ensures.room c.args.layout.total c.loop-i.invariant.room;
      later = record {
        store = omega (arith, c.loop-i.invariant.later.store, c.play_line.ensures.later.store);
        sink = omega (arith, c.loop-i.invariant.later.sink, c.play_line.ensures.later.sink);
      };
      kept_store = c.in-Ok.ensures.kept_store ∙ c.loop-i.invariant.kept_store;
      kept_sink = c.in-Ok.ensures.kept_sink ∙ c.loop-i.invariant.kept_sink;
      unread = c.in-Ok.ensures.played.done.unread ∙ c.loop-i.invariant.unread;
      put = next_text c.args.layout c.loop-i.blk c.index-lines-i.result a b c.loop-i.invariant.put c.in-Ok.next d
          c.in-Ok.ensures.played;
      played = plays_next c.args.layout c.args.lines.now c.loop-i.i c.index-lines-i.result c.loop-i-test.true
          c.index-lines-i.is c.loop-i.blk a b c.loop-i.invariant.played c.in-Ok.next d c.in-Ok.ensures.played;
    }

pub returns-clause-played : goal.returns-clause-played
returns-clause-played g c =
    let a : Seen = seen (device (g.S.Load.holds c.args.store.now) (g.S.Load.writes c.args.store.now)
    (g.S.Load.read_faults c.args.store.now))
    (g.S.Load.faults c.args.store.now) (g.O.Sink.given c.args.out.now) (g.O.Sink.faults c.args.out.now) in
    let b : Seen = seen (device (g.S.Load.holds c.loop-i.store) (g.S.Load.writes c.loop-i.store)
    (g.S.Load.read_faults c.loop-i.store))
    (g.S.Load.faults c.loop-i.store) (g.O.Sink.given c.loop-i.out) (g.O.Sink.faults c.loop-i.out) in
    plays_all c.args.layout c.args.lines.now c.loop-i.i c.loop-i.blk a b (omega (arith, c.loop-i-test.false))
    c.loop-i.invariant.played

pub returns-clause-asked : goal.returns-clause-asked
returns-clause-asked g c =
    let a : Seen = seen (device (g.S.Load.holds c.args.store.now) (g.S.Load.writes c.args.store.now)
    (g.S.Load.read_faults c.args.store.now))
    (g.S.Load.faults c.args.store.now) (g.O.Sink.given c.args.out.now) (g.O.Sink.faults c.args.out.now) in
    let b : Seen = seen (device (g.S.Load.holds c.loop-i.store) (g.S.Load.writes c.loop-i.store)
    (g.S.Load.read_faults c.loop-i.store))
    (g.S.Load.faults c.loop-i.store) (g.O.Sink.given c.loop-i.out) (g.O.Sink.faults c.loop-i.out) in
    asked_all c.args.layout c.args.lines.now c.loop-i.i c.loop-i.blk a b (omega (arith, c.loop-i-test.false))
    c.loop-i.invariant.played

pub returns-clause-unwritten : goal.returns-clause-unwritten
returns-clause-unwritten g c = λ bytes told none. (c.loop-i.invariant.played bytes told).unwritten none

pub returns-clause-unread : goal.returns-clause-unread
returns-clause-unread g c = λ bytes told. inl c.loop-i.invariant.unread
