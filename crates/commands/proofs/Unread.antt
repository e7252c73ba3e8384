-- What stands in the image where a read of it failed, from the work of each plan
use Rattle.std.proofs.Common.{◌≡◌, ◌⊎◌, ◌≤◌, ℕ, List, length, take, Option, Some, IfSome, Result, Ok, Err, ap, ◌∙◌}
use Rattle.std.proofs.Common.{inl, inr}
use Rattle.blk_spec.specs.declared.BlkLayout.{BlkLayout}
use Rattle.blk_spec.specs.Answers.{Device, IsUnwritten, further}
use Rattle.grammar_spec.specs.declared.line.Line.{Line}
use Rattle.command_spec.specs.Commands.{Plan, OfRam, OfBlk, OfMove}
use Rattle.command_spec.specs.BlkAnswers.{blk_lines}
use Rattle.command_spec.specs.declared.Stop.{Stop}
use Rattle.command_line.specs.Stages.{ReadLines}
use Rattle.command_line.proofs.ReadParts.{script_read, room_of}
use Rattle.command_line.proofs.BlkScript.{lines_read}
use Rattle.blk_session.specs.Asked.{lines_ask}
use Rattle.blk_session.specs.Playing.{StopsLoading}
use Rattle.commands.specs.Unread.{UnwrittenOrRead, StopsAtLoad, PlanUnread}

-- the plan that was read
pub plan_unread : (r : Result Plan Stop) (plan : Plan) (left : Option (List ℕ)) (before now : Device) → r ≡ Ok plan
    → PlanUnread (Ok plan) left before now → PlanUnread r left before now
plan_unread r plan left before now is h = rw is h

-- no write was asked for, or no read failed, whatever the plan is
pub any_unread : (r : Result Plan Stop) (left : Option (List ℕ)) (before now : Device) → UnwrittenOrRead before now
    → PlanUnread r left before now
any_unread (Ok (OfBlk layout)) left before now h = λ bytes script told here. inl h
any_unread (Ok (OfRam plan)) left before now h = h
any_unread (Ok (OfMove plan)) left before now h = h
any_unread (Err s) left before now h = h

loads_as : (layout : BlkLayout) (bytes : List ℕ) (r r' : Result (List Line) Stop) (before now : Device) → r ≡ r'
    → StopsAtLoad layout bytes r' before now → StopsAtLoad layout bytes r before now
loads_as layout bytes r r' before now same h = rw same h

-- lines on the block store, once its size was told
module _ (layout : BlkLayout) (lines : List Line) (left left' : Option (List ℕ)) (before mid now : Device)
    (room : IfSome before.holds (λ bs. layout.total ≤ length bs)) (read : ReadLines lines left left') where
  pub lines_unread : IsUnwritten before mid → mid.read_faults ≡ before.read_faults
      → ((bytes : List ℕ) → mid.holds ≡ Some bytes
      → (now.read_faults ≡ mid.read_faults) ⊎ StopsLoading layout bytes lines mid now)
      → PlanUnread (Ok (OfBlk layout)) left before now
  lines_unread same told played bytes script is here =
      elim (played bytes (same.0 ∙ is)) [
        | inl none ↦ inl (inr (none ∙ told))
        | inr loads ↦ inr (loads_as layout bytes (blk_lines layout bytes script) (Ok lines) before now
            (lines_read layout bytes script (Ok lines) (room_of layout.total before.holds bytes room is)
            (script_read left left' lines script read here))
            (record {
              count = loads.count;
              next = loads.next;
              holds = loads.holds;
              asked = loads.asked
                  ∙ ap (further (lines_ask layout bytes (take loads.count lines))) same.1;
            }))
      ]
