-- The name of an order of zones and of an order of bytes, as words and reports say it
use Rattle.std.specs.Prelude.{ℕ, Bool, true, false, List, codes}
use Rattle.zone_spec.specs.declared.params.Order.{Order}
use Rattle.zone_spec.specs.declared.params.Order.TheVariants.{FtracePmsg, PmsgFtrace}
use Rattle.zone_spec.specs.declared.params.ByteOrder.{ByteOrder}
use Rattle.zone_spec.specs.declared.params.ByteOrder.TheVariants.{Little, Big}

abbrev pub order_text : Order → List ℕ
order_text FtracePmsg = codes "console,ftrace,pmsg"
order_text PmsgFtrace = codes "console,pmsg,ftrace"

abbrev pub byte_order_text : ByteOrder → List ℕ
byte_order_text Little = codes "little"
byte_order_text Big = codes "big"

-- whether two orders are one
abbrev pub is_same_order : ByteOrder → ByteOrder → Bool
is_same_order Little Little = true
is_same_order Big Big = true
is_same_order one other = false
