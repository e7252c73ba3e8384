-- The words of a layout, in the order in which they are tried
use Rattle.std.specs.Prelude.{◌≡◌, ℕ, Bool, true, ◌&&◌, ◌==◌, if◌then◌else◌, List, [], ◌∷◌, Option, Some, None}
use Rattle.layout_spec.specs.declared.Candidate.{Candidate}
use Rattle.layout_spec.specs.declared.Known.{Known}
use Rattle.zone_spec.specs.declared.params.Order.{Order as ZoneOrder}
use Rattle.zone_spec.specs.declared.params.Order.TheVariants.{FtracePmsg, PmsgFtrace}
use Rattle.layout_spec.specs.Family.{is_one_of, is_shape, known_or, memories, sizes, parities, cpus_for, order_number}
use Rattle.layout_spec.specs.Family.{orders_for}
use Rattle.layout_search.specs.declared.levels.Level.{Level}
use Rattle.layout_search.specs.declared.levels.Level.TheVariants.{Mem, Dump, Console, Ftrace, Pmsg, Order, Cpus, Parity}

-- the words that are tried after this one
abbrev pub after : Level → List Level
after Mem = Dump ∷ Console ∷ Ftrace ∷ Pmsg ∷ Order ∷ Cpus ∷ Parity ∷ []
after Dump = Console ∷ Ftrace ∷ Pmsg ∷ Order ∷ Cpus ∷ Parity ∷ []
after Console = Ftrace ∷ Pmsg ∷ Order ∷ Cpus ∷ Parity ∷ []
after Ftrace = Pmsg ∷ Order ∷ Cpus ∷ Parity ∷ []
after Pmsg = Order ∷ Cpus ∷ Parity ∷ []
after Order = Cpus ∷ Parity ∷ []
after Cpus = Parity ∷ []
after Parity = []

abbrev pub levels_from : Option Level → List Level
levels_from None = []
levels_from (Some level) = level ∷ after level

abbrev pub next : Level → Option Level
next Mem = Some Dump
next Dump = Some Console
next Console = Some Ftrace
next Ftrace = Some Pmsg
next Pmsg = Some Order
next Order = Some Cpus
next Cpus = Some Parity
next Parity = None

-- what a candidate's word can be
abbrev pub values : Level → Known → ℕ → Candidate → List ℕ
values Mem known len c = known_or known.mem (memories len)
values Dump known len c = known_or known.dump (sizes len)
values Console known len c = known_or known.console (sizes len)
values Ftrace known len c = known_or known.ftrace (sizes len)
values Pmsg known len c = known_or known.pmsg (sizes len)
values Order known len c = orders_for known c
values Cpus known len c = cpus_for known c.ftrace
values Parity known len c = known_or known.parity parities

-- the order of a number
abbrev pub order_of : ℕ → ZoneOrder
order_of n = if n == 0 then FtracePmsg else PmsgFtrace

-- the candidate with this word
abbrev pub having : Level → Candidate → ℕ → Candidate
having Mem c n = record c { mem = n }
having Dump c n = record c { dump = n }
having Console c n = record c { console = n }
having Ftrace c n = record c { ftrace = n }
having Pmsg c n = record c { pmsg = n }
having Order c n = record c { order = order_of n }
having Cpus c n = record c { cpus = n }
having Parity c n = record c { parity = n }

-- this holds of the candidate with each value of these words
unfoldable pub Over : Known → ℕ → List Level → (Candidate → Type 0) → Candidate → Type 0
Over known len [] P c = P c
Over known len (level ∷ levels) P c =
    (n : ℕ) → is_one_of n (values level known len c) ≡ true → Over known len levels P (having level c n)

-- each word but the tag is of the family
abbrev pub is_listed : Known → ℕ → Candidate → Bool
is_listed known len c =
    is_shape known len c && is_one_of (order_number c.order) (orders_for known c) && is_one_of c.cpus (cpus_for known c.ftrace)
    && is_one_of c.parity (known_or known.parity parities)

abbrev pub IsListed : Known → ℕ → Candidate → Type 0
IsListed known len c = is_listed known len c ≡ true
