-- How far the walk came
use Rattle.std.specs.Prelude.{◌≡◌, ℕ, Bool, true, false, ◌&&◌, ◌||◌, ◌==◌, List, [], ◌∷◌, take, get_or, Some}
use Rattle.layout_spec.specs.declared.Candidate.{Candidate}
use Rattle.layout_spec.specs.declared.Known.{Known}
use Rattle.layout_spec.specs.Family.{is_one_of, order_number}
use Rattle.layout_search.specs.Levels.{Over, having, levels_from, values}
use Rattle.layout_search.specs.declared.levels.Level.{Level}
use Rattle.layout_search.specs.declared.levels.Level.TheVariants.{Mem, Dump, Console, Ftrace, Pmsg, Order, Cpus, Parity}
use Rattle.layout_search.specs.declared.levels.Reached.{Reached}

-- the words in the order of the walk
abbrev pub all_levels : List Level
all_levels = levels_from (Some Mem)

abbrev pub word : Level → Candidate → ℕ
word Mem c = c.mem
word Dump c = c.dump
word Console c = c.console
word Ftrace c = c.ftrace
word Pmsg c = c.pmsg
word Order c = order_number c.order
word Cpus c = c.cpus
word Parity c = c.parity

-- how many values of a word were tried
abbrev pub count_of : Level → Reached → ℕ
count_of Mem r = r.mem
count_of Dump r = r.dump
count_of Console r = r.console
count_of Ftrace r = r.ftrace
count_of Pmsg r = r.pmsg
count_of Order r = r.order
count_of Cpus r = r.cpus
count_of Parity r = r.parity

abbrev pub counted : Level → Reached → ℕ → Reached
counted Mem r n = record r { mem = n }
counted Dump r n = record r { dump = n }
counted Console r n = record r { console = n }
counted Ftrace r n = record r { ftrace = n }
counted Pmsg r n = record r { pmsg = n }
counted Order r n = record r { order = n }
counted Cpus r n = record r { cpus = n }
counted Parity r n = record r { parity = n }

abbrev pub nowhere : Reached
nowhere = record { mem = 0; dump = 0; console = 0; ftrace = 0; pmsg = 0; order = 0; cpus = 0; parity = 0 }

-- a layout that the walk came by: its first word is among the values that were tried, or it is the next value, and the
-- same holds of the words after it
unfoldable pub is_walked : Known → ℕ → List Level → Reached → Candidate → Bool
is_walked known len [] r c = false
is_walked known len (level ∷ levels) r c =
    is_one_of (word level c) (take (count_of level r) (values level known len c))
    || ((word level c == get_or (values level known len c) (count_of level r) 0) && is_walked known len levels r c)

-- this holds of the candidate with each value of these words that the walk came by
unfoldable pub OverBefore : Known → ℕ → List Level → (Candidate → Type 0) → Candidate → Reached → Type 0
OverBefore known len [] P c r = Unit {0}
OverBefore known len (level ∷ levels) P c r =
    ((n : ℕ) → is_one_of n (take (count_of level r) (values level known len c)) ≡ true
    → Over known len levels P (having level c n))
    × OverBefore known len levels P (having level c (get_or (values level known len c) (count_of level r) 0)) r
