-- Parameters as words `key=value` (fs/pstore/ram.c, module_param)
use Rattle.std.specs.Prelude.{ℕ, ◌==◌, if◌then◌else◌, nat_lt, List, [], ◌∷◌, codes, unwrap_or, Option, Result}
use Rattle.std.specs.Option.{option_map}
use Rattle.std.specs.declared.string.String.{String}
use Rattle.std.specs.declared.alloc.Global.{Global}
use Rattle.zone_spec.specs.declared.params.Order.{Order}
use Rattle.zone_spec.specs.declared.params.Order.TheVariants.{FtracePmsg, PmsgFtrace}
use Rattle.zone_spec.specs.declared.params.Params.{Params}
use Rattle.zone_spec.specs.Numbers.{most_memory}
use Rattle.zone_spec.specs.Layout.{rounded}
use Rattle.zone_spec.specs.Orders.{order_text, byte_order_text}
use Rattle.zone_spec.specs.declared.params.ByteOrder.{ByteOrder}
use Rattle.grammar_spec.specs.declared.faults.ParamFault.{ParamFault}
use Rattle.grammar_spec.specs.Words.{KeyTable, ok_unless, texts, first_fault as first_fault_by, given as given_by}
use Rattle.zone_spec.specs.declared.params.ByteOrder.TheVariants.{Little, Big}

-- the keys, with the prefix of a kernel's command line
abbrev pub keys : KeyTable
keys = record {
  prefix = codes "ramoops.";
  names = codes "mem_size" ∷ codes "record_size" ∷ codes "console_size" ∷ codes "ftrace_size" ∷ codes "pmsg_size"
      ∷ codes "ecc" ∷ codes "cpus"
      ∷ codes "ftrace_sig" ∷ codes "block_size" ∷ codes "ecc_dump" ∷ codes "ecc_console" ∷ codes "ecc_ftrace"
      ∷ codes "ecc_pmsg" ∷ codes "order" ∷ codes "byte_order" ∷ [];
  first = record { key = codes "order"; texts = order_text FtracePmsg ∷ order_text PmsgFtrace ∷ [] };
  second = record { key = codes "byte_order"; texts = byte_order_text Little ∷ byte_order_text Big ∷ [] };
}

-- the first faulty word among these, behind those
abbrev pub first_fault : List (List ℕ) → List (List ℕ) → Option ParamFault
first_fault earlier words = first_fault_by keys earlier words

-- the number that the words give a key; of `order` and `byte_order`, its place among the orders
abbrev pub given : List (List ℕ) → List ℕ → Option ℕ
given words key = given_by keys words key

-- the parity bytes that an `ecc` asks for: 1 is 16 (fs/pstore/ram.c, ramoops_register_dummy)
abbrev pub parity_of : ℕ → ℕ
parity_of ecc = if ecc == 1 then 16 else ecc

-- the bytes of memory that a `mem_size` asks for: rounded down to a power of two. What is above the most memory stays,
-- and has no layout
abbrev pub memory_of : ℕ → ℕ
memory_of size = if nat_lt most_memory size then size else rounded size

-- the orders at this place among the texts
abbrev pub order_at : ℕ → Order
order_at place = if place == 0 then FtracePmsg else PmsgFtrace

abbrev pub byte_order_at : ℕ → ByteOrder
byte_order_at place = if place == 0 then Little else Big

-- what the module takes where no word is given
abbrev pub defaults : Params
defaults = record {
  mem = 0;
  dump = 4096;
  console = 4096;
  ftrace = 4096;
  pmsg = 4096;
  ecc = 0;
  cpus = 1;
  ftrace_sig = 0;
  block = 128;
  ecc_dump = 0;
  ecc_console = 0;
  ecc_ftrace = 0;
  ecc_pmsg = 0;
  order = FtracePmsg;
  byte_order = Little;
}

-- the bytes of parity that the words give a key
abbrev pub parity_given : List (List ℕ) → List ℕ → Option ℕ
parity_given words key = option_map parity_of (given words key)

-- parameters with what the words give, the memory by this reading of `mem_size`
abbrev pub with_sizes : (ℕ → ℕ) → List (List ℕ) → Params → Params
with_sizes memory words absent = record absent {
  mem = unwrap_or (option_map memory (given words (codes "mem_size"))) absent.mem;
  dump = unwrap_or (given words (codes "record_size")) absent.dump;
  console = unwrap_or (given words (codes "console_size")) absent.console;
  ftrace = unwrap_or (given words (codes "ftrace_size")) absent.ftrace;
  pmsg = unwrap_or (given words (codes "pmsg_size")) absent.pmsg;
  cpus = unwrap_or (given words (codes "cpus")) absent.cpus;
  ftrace_sig = unwrap_or (given words (codes "ftrace_sig")) absent.ftrace_sig;
  block = unwrap_or (given words (codes "block_size")) absent.block;
}

-- a kind without an ecc of its own has that of the word `ecc`
abbrev pub with_parities : List (List ℕ) → Params → Params
with_parities words absent =
    let ecc = parity_given words (codes "ecc") in
    record absent {
      ecc = unwrap_or ecc absent.ecc;
      ecc_dump = unwrap_or (parity_given words (codes "ecc_dump")) (unwrap_or ecc absent.ecc_dump);
      ecc_console = unwrap_or (parity_given words (codes "ecc_console")) (unwrap_or ecc absent.ecc_console);
      ecc_ftrace = unwrap_or (parity_given words (codes "ecc_ftrace")) (unwrap_or ecc absent.ecc_ftrace);
      ecc_pmsg = unwrap_or (parity_given words (codes "ecc_pmsg")) (unwrap_or ecc absent.ecc_pmsg);
    }

abbrev pub with_order : List (List ℕ) → Params → Params
with_order words absent = record absent {
  order = unwrap_or (option_map order_at (given words (codes "order"))) absent.order;
  byte_order = unwrap_or (option_map byte_order_at (given words (codes "byte_order"))) absent.byte_order;
}

-- the parameters of the words; what no word gives is as in `absent`
abbrev pub params_by : (ℕ → ℕ) → Params → List (List ℕ) → Params
params_by memory absent words = with_order words (with_parities words (with_sizes memory words absent))

-- the parameters of these words, or the first fault
abbrev pub read_by : (ℕ → ℕ) → Params → List (String Global) → Result Params ParamFault
read_by memory absent words = ok_unless (first_fault [] (texts words)) (params_by memory absent (texts words))

-- as the project reads the module's words, and as the kernel does
abbrev pub params_of : List (List ℕ) → Params
params_of words = params_by memory_of defaults words

abbrev pub read_of : List (String Global) → Result Params ParamFault
read_of words = read_by memory_of defaults words

abbrev pub read_as_given : List (String Global) → Result Params ParamFault
read_as_given words = read_by (λ size. size) defaults words
