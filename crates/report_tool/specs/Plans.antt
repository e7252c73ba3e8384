-- The plan by which images are read, and why there is none
use Rattle.std.specs.Prelude.{◌≡◌, Bool, true, false, List, [], None, Ok, Err}
use Rattle.std.specs.declared.string.String.{String}
use Rattle.std.specs.declared.alloc.Global.{Global}
use Rattle.std.specs.Result.{IsOk}
use Rattle.zone_spec.specs.declared.params.Params.{Params}
use Rattle.zone_spec.specs.declared.params.LayoutFault.{LayoutFault}
use Rattle.zone_spec.specs.Layout.{layout_of}
use Rattle.report_tool.specs.Layouts.{read_by, is_open_by, is_rounded_by}
use Rattle.report_tool.specs.declared.plan.Plan.{Plan}
use Rattle.report_tool.specs.declared.plan.PlanFault.{PlanFault}
use Rattle.report_tool.specs.declared.plan.PlanFault.TheVariants.{Memory, Word, Layout}

-- a plan of these parameters, without a map of functions and a form of ftrace entries, and with ten last lines, which
-- nobody gave
pub record IsLaid (p : Params) (plan : Plan) : Type 0 where
  pub params_same : plan.params ≡ p
  pub mem_is : plan.mem ≡ p.mem
  pub zones_are : layout_of p ≡ Ok plan.zones.items
  pub symbols_none : plan.symbols ≡ []
  pub entries_none : plan.entries ≡ None
  pub lines_ten : plan.lines ≡ 10
  pub not_given : plan.is_given ≡ false
  pub not_open : plan.is_open ≡ false
  pub not_rounded : plan.is_rounded ≡ false

-- a plan of its parameters, which words or a tree give. Its order of zones is open if no word gives it
pub record IsGiven (words : List (String Global)) (plan : Plan) : Type 0 where
  pub given : plan.is_given ≡ true
  pub open_by : plan.is_open ≡ is_open_by words
  pub rounded_by : plan.is_rounded ≡ is_rounded_by words plan.mem
  pub laid : IsLaid plan.params (record plan { is_given = false; is_open = false; is_rounded = false })

-- a plan of these words
pub record IsPlan (words : List (String Global)) (is_as_given : Bool) (plan : Plan) : Type 0 where
  pub read : read_by is_as_given words ≡ Ok plan.params
  pub laid : IsGiven words plan

-- the words read as parameters whose layout has this fault, or has none
pub record HasLayoutFault (words : List (String Global)) (is_as_given : Bool) (fault : LayoutFault) : Type 0 where
  pub params : Params
  pub read : read_by is_as_given words ≡ Ok params
  pub faulty : layout_of params ≡ Err fault

pub record HasLayout (words : List (String Global)) (is_as_given : Bool) : Type 0 where
  pub params : Params
  pub read : read_by is_as_given words ≡ Ok params
  pub faultless : IsOk (layout_of params)

-- why there is no plan: memory is wanted only where the words have a layout
abbrev pub IsPlanFault : List (String Global) → Bool → PlanFault → Type 0
IsPlanFault words is_as_given Memory = HasLayout words is_as_given
IsPlanFault words is_as_given (Word fault) = read_by is_as_given words ≡ Err fault
IsPlanFault words is_as_given (Layout fault) = HasLayoutFault words is_as_given fault
