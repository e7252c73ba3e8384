-- What is asked of the machine, as the definitions have it
use Rattle.machine_spec.specs.LiveCalls.{Ask, Append, Erase, Dump}
use Rattle.machine_spec.specs.Sound.{IsTime}
use Rattle.ramoops.specs.declared.ask.Ask.{Ask as RustAsk}
use Rattle.ramoops.specs.declared.ask.Ask.TheVariants.{Append as RustAppend, Erase as RustErase, Dump as RustDump}

abbrev pub ask_seen : RustAsk → Ask
ask_seen (RustAppend zone payload) = Append zone payload
ask_seen (RustErase zone) = Erase zone
ask_seen (RustDump time packed body) = Dump time packed body

-- a dump's time can be written
abbrev pub CanBeAsked : RustAsk → Type 0
CanBeAsked (RustAppend zone payload) = Unit {0}
CanBeAsked (RustErase zone) = Unit {0}
CanBeAsked (RustDump time packed body) = IsTime time
