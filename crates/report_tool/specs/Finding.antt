-- What words say of a layout that is looked for
use Rattle.std.specs.Prelude.{List, codes, None, option_map}
use Rattle.std.specs.declared.string.String.{String}
use Rattle.std.specs.declared.alloc.Global.{Global}
use Rattle.grammar_spec.specs.Words.{texts}
use Rattle.grammar_spec.specs.ZoneWords.{given, parity_given, order_at, byte_order_at}
use Rattle.layout_spec.specs.declared.Known.{Known}

-- the memory is looked for, and of the rest what no word gives
abbrev pub known_by : List (String Global) → Known
known_by words = record {
  mem = None;
  dump = given (texts words) (codes "record_size");
  console = given (texts words) (codes "console_size");
  ftrace = given (texts words) (codes "ftrace_size");
  pmsg = given (texts words) (codes "pmsg_size");
  parity = parity_given (texts words) (codes "ecc");
  cpus = given (texts words) (codes "cpus");
  tag = given (texts words) (codes "ftrace_sig");
  order = option_map order_at (given (texts words) (codes "order"));
  byte_order = option_map byte_order_at (given (texts words) (codes "byte_order"));
}
