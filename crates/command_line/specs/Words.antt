-- What the words' values are seen as
use Rattle.std.specs.Prelude.{◌≡◌, ⊤, false, List, map, string_bytes, Result, Err, IsOk}
use Rattle.std.specs.declared.string.String.{String}
use Rattle.std.specs.declared.alloc.Global.{Global}
use Rattle.blk_spec.specs.Layout.{IsLayout}
use Rattle.ramoops_layout.specs.declared.types.Layout.{Layout}
use Rattle.ramoops_layout.specs.Laid.{params_of, zones_of}
use Rattle.grammar_spec.specs.Fields.{Text}
use Rattle.command_spec.specs.Commands.{RamCommand, Run, ListRecords, Extract, Erase, ShowLayout, Blank, Make}
use Rattle.command_spec.specs.Commands.{SharedRun, Salvage, Rescue, Command, OnRam, BlkRun, Move, Asked, RamPlan, Laid}
use Rattle.command_spec.specs.Commands.{MovePlan, Plan, OfRam, OfBlk, OfMove}
use Rattle.script_spec.specs.SharedScripts.{lacks_plain_ftrace}
use Rattle.command_spec.specs.declared.Stop.{Stop}
use Rattle.command_spec.specs.declared.Stop.TheVariants.{Memory, ScriptFault, ImageFault, SinkFault}
use Rattle.command_line.specs.declared.words.RamCommand.{RamCommand as ReadRamCommand}
use Rattle.command_line.specs.declared.words.RamCommand.TheVariants.{Run as RunRead, ListRecords as ListRead}
use Rattle.command_line.specs.declared.words.RamCommand.TheVariants.{Extract as ExtractRead, Erase as EraseRead}
use Rattle.command_line.specs.declared.words.RamCommand.TheVariants.{ShowLayout as LayoutRead, Blank as BlankRead}
use Rattle.command_line.specs.declared.words.RamCommand.TheVariants.{Make as MakeRead, Salvage as SalvageRead}
use Rattle.command_line.specs.declared.words.RamCommand.TheVariants.{Rescue as RescueRead}
use Rattle.command_line.specs.declared.asked.Command.{Command as ReadCommand}
use Rattle.command_line.specs.declared.asked.Command.TheVariants.{OnRam as OnRamRead, BlkRun as BlkRunRead}
use Rattle.command_line.specs.declared.asked.Command.TheVariants.{Move as MoveRead, SharedRun as SharedRunRead}
use Rattle.command_line.specs.declared.asked.Asked.{Asked as ReadAsked}
use Rattle.command_line.specs.declared.words.Plan.{Plan as ReadPlan}
use Rattle.command_line.specs.declared.words.Plan.TheVariants.{Ram, Blk, Move as MovePlanRead, Share}

abbrev pub texts : List (String Global) → List Text
texts words = map string_bytes words

abbrev pub ram_command_seen : ReadRamCommand → RamCommand
ram_command_seen RunRead = Run
ram_command_seen ListRead = ListRecords
ram_command_seen (ExtractRead name) = Extract name.now
ram_command_seen (EraseRead name) = Erase name.now
ram_command_seen LayoutRead = ShowLayout
ram_command_seen BlankRead = Blank
ram_command_seen (MakeRead n) = Make n
ram_command_seen SalvageRead = Salvage
ram_command_seen (RescueRead at name) = Rescue at name

abbrev pub command_seen : ReadCommand → Command
command_seen (OnRamRead command) = OnRam (ram_command_seen command)
command_seen BlkRunRead = BlkRun
command_seen (MoveRead to) = Move (texts to.now)
command_seen SharedRunRead = OnRam SharedRun

abbrev pub asked_seen : ReadAsked → Asked
asked_seen a = record { command = command_seen a.command; before = a.before; params = texts a.params.now }

-- the plan of a command on an image of this layout
abbrev pub plan_for : RamCommand → Layout → RamPlan
plan_for command layout = record { command = command; params = params_of layout; zones = zones_of layout }

-- the parameters of a layout, with its zones
abbrev pub laid_for : Layout → Laid
laid_for layout = record { params = params_of layout; zones = zones_of layout }

abbrev pub move_for : Layout → Layout → MovePlan
move_for from to = record { from = laid_for from; to = laid_for to }

abbrev pub plan_seen : ReadPlan → Plan
plan_seen (Ram command layout) = OfRam (plan_for (ram_command_seen command) layout)
plan_seen (Blk layout) = OfBlk layout
plan_seen (MovePlanRead from to) = OfMove (move_for from to)
plan_seen (Share booted shared) = OfRam (plan_for SharedRun booted)

-- a zone that is shared is there without parity, and both layouts are of the same parameters
pub record CanShareIn (booted shared : Layout) : Type 0 where
  pub params : params_of shared ≡ params_of booted
  pub zones : zones_of shared ≡ zones_of booted
  pub plain : lacks_plain_ftrace (params_of booted) ≡ false

-- a block store's layout is one
abbrev pub IsLaid : ReadPlan → Type 0
IsLaid (Ram command layout) = ⊤
IsLaid (Share booted shared) = CanShareIn booted shared
IsLaid (Blk layout) = IsLayout layout
IsLaid (MovePlanRead from to) = ⊤

-- why no plan was read: the fault of the words, or want of memory where they have none
abbrev pub PlanStop : Stop → Result Plan Stop → Type 0
PlanStop Memory plan = IsOk plan
PlanStop stop plan = plan ≡ Err stop

-- neither the source, the store nor the sink failed
abbrev pub IsNoFault : Stop → Type 0
IsNoFault ScriptFault = ⊥
IsNoFault ImageFault = ⊥
IsNoFault SinkFault = ⊥
IsNoFault stop = ⊤
