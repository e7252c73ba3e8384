-- What is settled of a candidate before its parity and its tag
use Rattle.std.specs.Prelude.{◌≡◌, ℕ, ◌≤◌, true, [], ◌∷◌, Option, Some, None, option_map}
use Rattle.layout_spec.specs.declared.Candidate.{Candidate}
use Rattle.layout_spec.specs.declared.Known.{Known}
use Rattle.layout_spec.specs.Family.{order_number, is_told_once, known_or, memories, sizes, parities, processors}
use Rattle.layout_search.specs.Rows.{IsRoomy}
use Rattle.layout_search.specs.declared.levels.Level.{Level}
use Rattle.layout_search.specs.declared.levels.Level.TheVariants.{Order, Cpus, Parity}
use Rattle.layout_search.specs.declared.lists.Lists.{Lists}

-- its sizes are told once, and lie within the file and within 16 MiB
pub record IsPlaced (known : Known) (len : ℕ) (c : Candidate) : Type 0 where
  pub told : is_told_once known len c ≡ true
  pub within : c.mem ≤ len
  pub roomy : IsRoomy c

-- so is its number of processors
pub record IsReady (known : Known) (len : ℕ) (c : Candidate) : Type 0 where
  pub placed : IsPlaced known len c
  pub some : 1 ≤ c.cpus
  pub few : c.cpus ≤ 64

-- what is known of a candidate before this word is tried, or the tag
abbrev pub IsPassed : Option Level → Known → ℕ → Candidate → Type 0
IsPassed None known len c = IsReady known len c
IsPassed (Some Parity) known len c = IsReady known len c
IsPassed (Some Cpus) known len c = IsPlaced known len c
IsPassed (Some Order) known len c = IsPlaced known len c
IsPassed (Some other) known len c = Unit {0}

-- the lists of what each word can be
pub record AreLists (known : Known) (len : ℕ) (l : Lists) : Type 0 where
  pub mems_are : l.mems.items ≡ known_or known.mem (memories len)
  pub dumps_are : l.dumps.items ≡ known_or known.dump (sizes len)
  pub consoles_are : l.consoles.items ≡ known_or known.console (sizes len)
  pub ftraces_are : l.ftraces.items ≡ known_or known.ftrace (sizes len)
  pub pmsgs_are : l.pmsgs.items ≡ known_or known.pmsg (sizes len)
  pub orders_are : l.orders.items ≡ known_or (option_map order_number known.order) (0 ∷ 1 ∷ [])
  pub only_order_is : l.only_order.items ≡ known_or (option_map order_number known.order) (0 ∷ [])
  pub parities_are : l.parities.items ≡ known_or known.parity parities
  pub cpus_are : l.cpus.items ≡ known_or known.cpus processors
