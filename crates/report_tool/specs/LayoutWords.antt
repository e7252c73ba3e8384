-- The words that give a layout which was found in an image of so many bytes
use Rattle.std.specs.Prelude.{ℕ, false, ◌==◌, if◌then◌else◌, List, [], ◌++◌, codes, decimal}
use Rattle.std.specs.Fmt.{digits}
use Rattle.zone_spec.specs.Orders.{order_text, byte_order_text}
use Rattle.zone_spec.specs.declared.params.ByteOrder.{ByteOrder}
use Rattle.zone_spec.specs.declared.params.ByteOrder.TheVariants.{Little, Big}
use Rattle.zone_spec.specs.declared.params.Order.{Order}
use Rattle.zone_spec.specs.declared.params.Order.TheVariants.{FtracePmsg, PmsgFtrace}
use Rattle.layout_spec.specs.declared.Candidate.{Candidate}

abbrev pub memory_words : Candidate → ℕ → List ℕ
memory_words c size = if c.mem == size then [] else codes "mem_size=" ++ decimal c.mem ++ codes " "

abbrev pub size_words : Candidate → List ℕ
size_words c =
    codes "record_size=" ++ decimal c.dump ++ codes " console_size=" ++ decimal c.console ++ codes " ftrace_size="
    ++ decimal c.ftrace ++ codes " pmsg_size=" ++ decimal c.pmsg ++ codes " ecc=" ++ decimal c.parity

unfoldable pub hexadecimal : ℕ → List ℕ
hexadecimal n = digits 16 false n

abbrev pub tagged_words : Candidate → List ℕ
tagged_words c = codes " cpus=" ++ decimal c.cpus ++ codes " ftrace_sig=0x" ++ hexadecimal c.tag

abbrev pub ftrace_words : Candidate → List ℕ
ftrace_words c = if c.ftrace == 0 then [] else tagged_words c

-- without this word ftrace is before pmsg
abbrev pub order_words : Order → List ℕ
order_words FtracePmsg = []
order_words PmsgFtrace = codes " order=" ++ order_text PmsgFtrace

-- and without this one the lowest byte of a word is first
abbrev pub byte_order_words : ByteOrder → List ℕ
byte_order_words Little = []
byte_order_words Big = codes " byte_order=" ++ byte_order_text Big

unfoldable pub layout_words : Candidate → ℕ → List ℕ
layout_words c size =
    memory_words c size ++ size_words c ++ ftrace_words c ++ order_words c.order ++ byte_order_words c.byte_order
