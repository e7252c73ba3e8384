-- What run says of its words
use Rattle.std.specs.Prelude.{ℕ, List}
use Rattle.grammar_spec.specs.Fields.{Text}
use Rattle.command_spec.specs.Commands.{plan_of}
use Rattle.command_spec.specs.Answers.{Outside, NoOtherFault}
use Rattle.command_spec.specs.PlanAnswers.{Untouched, PlanWrites, ToolAnswers}
use Rattle.command_spec.specs.Complete.{Completes}
use Rattle.commands.specs.Headline.{RunReads}
use Rattle.commands.specs.Due.{LastLine}
use Rattle.commands.specs.Asked.{ImageFails}
use Rattle.commands.specs.Taking.{PlanTook}

-- from one moment of the outside to another, with this status
pub record Runs (words : List Text) (a b : Outside) (status : ℕ) : Type 0 where
  -- the image is untouched on every status but 0, unless the store failed
  pub untouched : Untouched (plan_of words) a b status
  -- when it is asked to be written: never by a command that only reads
  pub writes : PlanWrites (plan_of words) a b status
  -- a script or a move whose image fails behind its text has asked for a write
  pub image_fails : ImageFails (plan_of words) a b status
  -- a script on the ram store is out of memory before its first text, or at a line that takes memory
  pub takes : PlanTook (plan_of words) a b status
  -- a fault that decides nothing is none
  pub faults : NoOtherFault a b status
  -- the status, the text and the image that are wanted, or why not
  pub answers : ToolAnswers (plan_of words) a b status
  -- the last line, whatever the outside tells
  pub last : LastLine (plan_of words) a b status
  -- if nothing is refused and nothing failed, all is done, or memory is out
  pub complete : Completes words a b status
  -- what each boot of a script reads, and the text that it puts; what a boot lists after a move
  pub reads : RunReads (plan_of words) a b status
