-- The first lines are done and their texts are printed, with no fault, and the store has its size.
-- For the loop of `play`.
use Rattle.std.proofs.Common.{◌≡◌}
use Rattle.std.specs.Prelude.{IfSome}
use Rattle.blk_spec.specs.Answers.{HasRoom, device}
use Rattle.script_spec.specs.Playing.{PutsText}
use Rattle.blk_session.specs.Playing.{seen, Later}
use Rattle.blk_session.proofs.ScriptLines.{PlaysSoFar}
use Rattle.blk_session.proofs.playing.play.Given as goal

-- what is loaded has the layout, the store has its room, no fault was met, no reading failed, some text was put, and
-- the first lines were done
abbrev pub invariant-loop-i : goal.invariant-loop-i
invariant-loop-i g l =
    let a = seen (device (g.S.Load.holds l.initial.store) (g.S.Load.writes l.initial.store)
    (g.S.Load.read_faults l.initial.store))
    (g.S.Load.faults l.initial.store) (g.O.Sink.given l.initial.out) (g.O.Sink.faults l.initial.out) in
    let b = seen (device (g.S.Load.holds l.store) (g.S.Load.writes l.store) (g.S.Load.read_faults l.store))
    (g.S.Load.faults l.store) (g.O.Sink.given l.out) (g.O.Sink.faults l.out) in
    record {
      loaded : IfSome l.blk (λ b. b.layout ≡ l.layout);
      room : HasRoom l.layout.total (g.S.Load.holds l.store);
      later : Later a b;
      kept_store : b.store_faults ≡ a.store_faults;
      kept_sink : b.sink_faults ≡ a.sink_faults;
      unread : b.store.read_faults ≡ a.store.read_faults;
      put : PutsText a.given b.given;
      played : PlaysSoFar l.layout l.lines l.i l.blk a b;
    }
