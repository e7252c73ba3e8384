-- The parameters that a device tree gives (fs/pstore/ram.c, ramoops_parse_dt)
use Rattle.std.specs.Prelude.{◌≡◌, ℕ, ◌%◌, ◌==◌, nat_lt, Bool, ◌&&◌, if◌then◌else◌, List, [], ◌∷◌, codes, find, is_none}
use Rattle.std.specs.Prelude.{Option, Some, None, Result, Ok, Err, IsOk}
use Rattle.std.specs.Str.{bytes_eq}
use Rattle.std.specs.declared.string.String.{String}
use Rattle.std.specs.declared.alloc.Global.{Global}
use Rattle.zone_spec.specs.declared.params.Order.TheVariants.{FtracePmsg}
use Rattle.zone_spec.specs.declared.params.Params.{Params}
use Rattle.zone_spec.specs.declared.params.LayoutFault.{LayoutFault}
use Rattle.zone_spec.specs.Layout.{layout_of}
use Rattle.grammar_spec.specs.declared.faults.ParamFault.{ParamFault}
use Rattle.grammar_spec.specs.Words.{texts}
use Rattle.grammar_spec.specs.ZoneWords.{given, read_by}
use Rattle.dtb_spec.specs.declared.Numbers.{Numbers}
use Rattle.dtb_spec.specs.declared.Fault.{Fault}
use Rattle.dtb_spec.specs.Headers.{header_of}
use Rattle.dtb_spec.specs.Ramoops.{Ramoops, nodes_of}
use Rattle.report_tool.specs.declared.plan.Plan.{Plan}
use Rattle.report_tool.specs.declared.tree.TreeFault.{TreeFault}
use Rattle.report_tool.specs.declared.tree.TreeFault.TheVariants.{Memory, Tree, NoNode, Several, Word, NoCpus, Layout}
use Rattle.report_tool.specs.Plans.{IsGiven}
use Rattle.zone_spec.specs.declared.params.ByteOrder.TheVariants.{Little}

-- the numbers of the node of this path, or of the only one
abbrev pub numbers_found : Option Ramoops → Result Numbers TreeFault
numbers_found None = Err NoNode
numbers_found (Some node) = Ok node.numbers

abbrev pub only_numbers : List Ramoops → Result Numbers TreeFault
only_numbers [] = Err NoNode
only_numbers (node ∷ []) = Ok node.numbers
only_numbers (first ∷ second ∷ nodes) = Err Several

abbrev pub numbers_meant : Option (List ℕ) → List Ramoops → Result Numbers TreeFault
numbers_meant None nodes = only_numbers nodes
numbers_meant (Some path) nodes = numbers_found (find (λ node. bytes_eq node.path path) nodes)

-- why a tree has no nodes to choose from; no memory is taken before its header is read
abbrev pub HasNoNodes : List ℕ → TreeFault → Type 0
HasNoNodes tree Memory = IsOk (header_of tree)
HasNoNodes tree (Tree fault) = nodes_of tree ≡ Err fault
HasNoNodes tree other = ⊥

-- the address of the node of this path, or of the only one
abbrev pub address_of : Result Numbers TreeFault → Result ℕ TreeFault
address_of (Err fault) = Err fault
address_of (Ok n) = Ok n.address

abbrev pub address_in : Option (List ℕ) → Result (List Ramoops) Fault → Result ℕ TreeFault
address_in path (Err fault) = Err (Tree fault)
address_in path (Ok nodes) = address_of (numbers_meant path nodes)

abbrev pub IsNoAddress : List ℕ → Option (List ℕ) → TreeFault → Type 0
IsNoAddress tree path Memory = IsOk (header_of tree)
IsNoAddress tree path other = address_in path (nodes_of tree) ≡ Err other

-- what a node says: all of its region, parity in bytes
abbrev pub params_said : Numbers → Params
params_said n = record {
  mem = n.size;
  dump = n.record_size;
  console = n.console_size;
  ftrace = n.ftrace_size;
  pmsg = n.pmsg_size;
  ecc = n.ecc_size;
  cpus = 1;
  ftrace_sig = 0;
  block = 128;
  ecc_dump = n.ecc_size;
  ecc_console = n.ecc_size;
  ecc_ftrace = n.ecc_size;
  ecc_pmsg = n.ecc_size;
  order = FtracePmsg;
  byte_order = Little;
}

-- whether there is an ftrace zone for each processor (RAMOOPS_FLAG_FTRACE_PER_CPU), whose number no tree tells
abbrev pub wants_cpus : Numbers → Bool
wants_cpus n = (n.flags % 2 == 1) && nat_lt 0 n.ftrace_size

-- the parameters, unless a word is faulty, or the number of processors is wanted and not given
abbrev pub unless_lacking : Bool → Result Params ParamFault → Result Params TreeFault
unless_lacking lacks (Ok params) = if lacks then Err NoCpus else Ok params
unless_lacking lacks (Err fault) = Err (Word fault)

-- a word counts more than the node
abbrev pub params_over : List (String Global) → Result Numbers TreeFault → Result Params TreeFault
params_over words (Err fault) = Err fault
params_over words (Ok n) = unless_lacking (wants_cpus n && is_none (given (texts words) (codes "cpus")))
    (read_by (λ size. size) (params_said n) words)

abbrev pub params_in : Option (List ℕ) → List (String Global) → Result (List Ramoops) Fault → Result Params TreeFault
params_in path words (Err fault) = Err (Tree fault)
params_in path words (Ok nodes) = params_over words (numbers_meant path nodes)

-- a plan of a tree, the path of its node and words
pub record IsTreePlan (tree : List ℕ) (path : Option (List ℕ)) (words : List (String Global)) (plan : Plan)
    : Type 0 where
  pub read : params_in path words (nodes_of tree) ≡ Ok plan.params
  pub laid : IsGiven words plan

-- they are read as parameters that have no layout, for this fault
pub record HasTreeLayoutFault (read : Result Params TreeFault) (fault : LayoutFault) : Type 0 where
  pub params : Params
  pub params_are : read ≡ Ok params
  pub faulty : layout_of params ≡ Err fault

-- why there is no plan
abbrev pub IsTreeFault : List ℕ → Option (List ℕ) → List (String Global) → TreeFault → Type 0
IsTreeFault tree path words Memory = IsOk (header_of tree)
IsTreeFault tree path words (Layout fault) = HasTreeLayoutFault (params_in path words (nodes_of tree)) fault
IsTreeFault tree path words other = params_in path words (nodes_of tree) ≡ Err other
