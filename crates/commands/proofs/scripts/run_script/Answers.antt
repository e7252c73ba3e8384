-- How each stage of a script on an image ends it
use Rattle.std.proofs.Common.{refl, ◌∙◌, arith, Ok, Err, inl, inr}
use Rattle.command_spec.specs.Commands.{OfRam}
use Rattle.command_spec.specs.declared.Stop.TheVariants.{ImageFault, SinkFault}
use Rattle.command_line.proofs.Script.{load_stopped, script_stopped, load_caused, script_caused}
use Rattle.commands.specs.Scripts.{session_plan, session_wants}
use Rattle.commands.proofs.ScriptEnds.{scripted, work_done, work_stopped, lines_caused, lines_stopped, text_unput}
use Rattle.commands.proofs.ScriptEnds.{image_saved, image_unsaved, lines_put, left_put, texts_put}
use Rattle.commands.proofs.ImageFaults.{fails_first, fails_never}
use Rattle.commands.proofs.Due.{plan_same}
use Rattle.commands.proofs.Taking.{lines_take, command_takes, takes_silent}
use Rattle.commands.proofs.scripts.run_script.Goals as goal

pub returns-in-Err : goal.returns-in-Err
returns-in-Err g c = record {
  work = work_stopped c.args.session _ _ c.in-Err.stop
      (record { source = omega arith; store = omega arith; sink = omega arith })
      (load_caused c.in-Err.stop c.mem.result (g.M.Load.holds c.args.image.now) _ _ _ _ _ _ c.in-Err.ensures.err)
      (record { source = λ other. refl; store = c.in-Err.ensures.counts; sink = λ other. refl })
      c.in-Err.ensures.same c.in-Err.ensures.unwritten
      (load_stopped (session_plan c.args.session) (session_wants c.args.session) (scripted c.args.session) _ _
      c.in-Err.stop _ _
      (record { left = refl; source = refl }) (record { given = refl; holds = c.in-Err.ensures.same })
      (rw c.mem.ensures at c.in-Err.ensures.err));
  asked = fails_first _ _ (Err c.in-Err.stop)
      (record { script = record { left = refl; source = refl }; given = refl; writes = c.in-Err.ensures.unwritten });
  unread = inl (c.in-Err.ensures.same, c.in-Err.ensures.unwritten);
  put = plan_same (Ok (OfRam (session_plan c.args.session))) (Err c.in-Err.stop) _;
  takes = takes_silent (Ok (OfRam (session_plan c.args.session))) _ _ (Err c.in-Err.stop) refl;
}

pub returns-in-Err-read_lines : goal.returns-in-Err-read_lines
returns-in-Err-read_lines g c = record {
  work = work_stopped c.args.session _ _ c.in-Err-read_lines.stop
      (record { source = omega arith; store = omega arith; sink = omega arith })
      (script_caused c.in-Err-read_lines.stop (g.S.Source.left c.args.script.now) _ _ _ _ _ _ _
      c.in-Err-read_lines.ensures.read)
      (record {
        source = c.in-Err-read_lines.ensures.counts;
        store = λ other. c.in-Ok.ensures.counts;
        sink = λ other. refl;
      })
      c.in-Ok.ensures.same c.in-Ok.ensures.unwritten
      (script_stopped (session_plan c.args.session) (session_wants c.args.session) (scripted c.args.session) _ _
      c.in-Ok.bytes.items
      (record { read = rw c.mem.ensures at c.in-Ok.ensures.ok.1 }) c.in-Err-read_lines.stop _ _
      (record { given = refl; holds = c.in-Ok.ensures.same }) c.in-Err-read_lines.ensures.read);
  asked = fails_never _ _ (Err c.in-Err-read_lines.stop) _ _ 0 0
      (script_caused c.in-Err-read_lines.stop (g.S.Source.left c.args.script.now) _ _ _ 1 0 0 0
      c.in-Err-read_lines.ensures.read);
  unread = inl (c.in-Ok.ensures.same, c.in-Ok.ensures.unwritten);
  put = plan_same (Ok (OfRam (session_plan c.args.session))) (Err c.in-Err-read_lines.stop) _;
  takes = takes_silent (Ok (OfRam (session_plan c.args.session))) _ _ (Err c.in-Err-read_lines.stop) refl;
}

pub returns-in-Err-do_lines : goal.returns-in-Err-do_lines
returns-in-Err-do_lines g c = record {
  work = work_stopped c.args.session _ _ c.in-Err-do_lines.stop
      (record { source = omega arith; store = omega arith; sink = omega arith })
      (lines_caused c.in-Err-do_lines.stop
      (session_wants c.args.session c.in-Ok.bytes.items (Ok c.in-Ok-read_lines.lines)) _ _ _ _ _ _ _ _
      c.in-Err-do_lines.ensures.left)
      (record {
        source = λ other. c.in-Ok-read_lines.ensures.counts;
        store = λ other. c.in-Ok.ensures.counts;
        sink = c.in-Err-do_lines.ensures.counts;
      })
      c.in-Ok.ensures.same c.in-Ok.ensures.unwritten
      (lines_stopped c.args.session _ _ c.in-Ok.bytes.items
      (record { read = rw c.mem.ensures at c.in-Ok.ensures.ok.1 }) c.in-Ok-read_lines.lines
      c.in-Ok-read_lines.ensures.read c.in-Err-do_lines.stop _ _ c.in-Ok.ensures.same
      c.in-Err-do_lines.ensures.left);
  asked = fails_never _ _ (Err c.in-Err-do_lines.stop) 0 0 _ _
      (lines_caused c.in-Err-do_lines.stop
      (session_wants c.args.session c.in-Ok.bytes.items (Ok c.in-Ok-read_lines.lines)) _ _ 0 0 1 0 _ _
      c.in-Err-do_lines.ensures.left);
  unread = inl (c.in-Ok.ensures.same, c.in-Ok.ensures.unwritten);
  put = lines_put c.args.session c.in-Err-do_lines.stop
      (session_wants c.args.session c.in-Ok.bytes.items (Ok c.in-Ok-read_lines.lines)) _ _ _ _
      c.in-Err-do_lines.ensures.left
      c.in-Err-do_lines.ensures.silent;
  takes = lines_take c.args.session _ _ c.in-Ok.bytes.items
      (record { read = rw c.mem.ensures at c.in-Ok.ensures.ok.1 }) c.in-Ok-read_lines.lines
      c.in-Ok-read_lines.ensures.read c.in-Err-do_lines.stop c.in-Err-do_lines.ensures.takes;
}

pub returns-in-Err-put_text : goal.returns-in-Err-put_text
returns-in-Err-put_text g c = record {
  work = work_stopped c.args.session _ _ _
      (record { source = omega arith; store = omega arith; sink = omega arith })
      (omega (arith, c.in-Err-put_text.ensures.cause.failed))
      (record {
        source = λ other. c.in-Ok-read_lines.ensures.counts;
        store = λ other. c.in-Ok.ensures.counts;
        sink = λ other. absurd (other refl);
      })
      c.in-Ok.ensures.same c.in-Ok.ensures.unwritten
      (text_unput c.args.session _ _ c.in-Ok.bytes.items
      (record { read = rw c.mem.ensures at c.in-Ok.ensures.ok.1 }) c.in-Ok-read_lines.lines
      c.in-Ok-read_lines.ensures.read _ c.in-Ok-do_lines.left.0.items c.in-Ok-do_lines.left.1
      c.in-Ok-do_lines.ensures.left c.in-Ok.ensures.same
      (rw c.deref.ensures.value at c.in-Err-put_text.ensures.bytes));
  asked = tt;
  unread = inl (c.in-Ok.ensures.same, c.in-Ok.ensures.unwritten);
  put = (left_put c.args.session _ _ (texts_put _ _ _ c.in-Ok-do_lines.ensures.left _
      c.in-Err-put_text.ensures.bytes.bytes)).1;
  takes = command_takes (session_plan c.args.session).command (session_plan c.args.session) _ _ (Err SinkFault) tt;
}

pub returns-in-Ok-save : goal.returns-in-Ok-save
returns-in-Ok-save g c = record {
  work = work_done c.args.session _ _ (Ok tt)
      (record { source = omega arith; store = omega arith; sink = omega arith }) tt
      (record {
        source = c.in-Ok-read_lines.ensures.counts;
        store = c.in-Ok-save.ensures.cause.done ∙ c.in-Ok.ensures.counts;
        sink = c.in-Ok-put_text.ensures.cause.done ∙ c.in-Ok-do_lines.ensures.counts;
      })
      tt tt
      (image_saved c.args.session _ _ c.in-Ok.bytes.items
      (record { read = rw c.mem.ensures at c.in-Ok.ensures.ok.1 }) c.in-Ok-read_lines.lines
      c.in-Ok-read_lines.ensures.read _ c.in-Ok-do_lines.left.0.items c.in-Ok-do_lines.left.1
      c.in-Ok-do_lines.ensures.left
      (rw c.deref.ensures.value at c.in-Ok-put_text.ensures.bytes)
      (rw (c.as_slice.ensures, c.in-Ok.ensures.same) at c.in-Ok-save.ensures.bytes));
  asked = tt;
  unread = inr (c.in-Ok-save.ensures.unread ∙ c.in-Ok.ensures.read_counts);
  put = (left_put c.args.session _ _ (texts_put _ _ _ c.in-Ok-do_lines.ensures.left _
      c.in-Ok-put_text.ensures.bytes)).0;
  takes = command_takes (session_plan c.args.session).command (session_plan c.args.session) _ _ (Ok tt) tt;
}

pub returns : goal.returns
returns g c = record {
  work = work_done c.args.session _ _ _
      (record { source = omega arith; store = omega arith; sink = omega arith })
      (omega (arith, c.in-Err-save.ensures.cause.failed))
      (record {
        source = λ other. c.in-Ok-read_lines.ensures.counts;
        store = λ other. absurd (other refl);
        sink = λ other. c.in-Ok-put_text.ensures.cause.done ∙ c.in-Ok-do_lines.ensures.counts;
      })
      tt tt
      (image_unsaved c.args.session _ _ c.in-Ok.bytes.items
      (record { read = rw c.mem.ensures at c.in-Ok.ensures.ok.1 }) c.in-Ok-read_lines.lines
      c.in-Ok-read_lines.ensures.read _ c.in-Ok-do_lines.left.0.items c.in-Ok-do_lines.left.1
      c.in-Ok-do_lines.ensures.left
      (rw c.deref.ensures.value at c.in-Ok-put_text.ensures.bytes)
      (rw (c.as_slice.ensures, c.in-Ok.ensures.same) at c.in-Err-save.ensures.bytes));
  asked = inr (rw c.in-Ok.ensures.unwritten at c.in-Err-save.ensures.asked);
  unread = inr (c.in-Err-save.ensures.unread ∙ c.in-Ok.ensures.read_counts);
  put = (left_put c.args.session _ _ (texts_put _ _ _ c.in-Ok-do_lines.ensures.left _
      c.in-Ok-put_text.ensures.bytes)).2;
  takes = command_takes (session_plan c.args.session).command (session_plan c.args.session) _ _ (Err ImageFault) tt;
}
