-- Where the kernel fails at a damaged zone (fs/pstore/zone.c, psz_kmsg_read and psz_record_read). A reader tells of such
-- a zone, and lists all others: `listed_in` leaves it out, and `EmptyPacked` in
use Rattle.std.specs.Prelude.{ℕ, ◌==◌, ◌&&◌, if◌then◌else◌, List, Option, Some, None}
use Rattle.psz_spec.specs.declared.Kind.{Kind}
use Rattle.psz_spec.specs.declared.Kind.TheVariants.{Pmsg, Console, Ftrace, Dump}
use Rattle.psz_spec.specs.declared.Zone.{Zone}
use Rattle.psz_spec.specs.declared.Machine.{Machine}
use Rattle.psz_spec.specs.declared.State.{State}
use Rattle.psz_spec.specs.declared.State.TheVariants.{Broken, Found}
use Rattle.psz_spec.specs.declared.KernelFault.{KernelFault}
use Rattle.psz_spec.specs.declared.KernelFault.TheVariants.{StartBeyond, ShortDump, EmptyPacked}
use Rattle.psz_spec.specs.Headers.{words_of, header_len, dump_header}
use Rattle.psz_spec.specs.States.{data_of, state_of}

abbrev pub broken_fault : Kind → KernelFault
broken_fault Dump = ShortDump
broken_fault Pmsg = StartBeyond
broken_fault Console = StartBeyond
broken_fault Ftrace = StartBeyond

-- a packed dump whose length is that of its header
abbrev pub found_fault : Machine → Kind → List ℕ → Option KernelFault
found_fault machine Dump bytes =
    if (dump_header machine (data_of bytes)).packed && ((words_of machine bytes).len == header_len machine)
    then Some EmptyPacked else None
found_fault machine Pmsg bytes = None
found_fault machine Console bytes = None
found_fault machine Ftrace bytes = None

abbrev pub fault_by : Machine → Kind → State → List ℕ → Option KernelFault
fault_by machine kind Broken bytes = Some (broken_fault kind)
fault_by machine kind Found bytes = found_fault machine kind bytes
fault_by machine kind other bytes = None

-- how the kernel fails at a zone, or None where it does not
unfoldable pub kernel_fault : Machine → Zone → List ℕ → Option KernelFault
kernel_fault machine z bytes = fault_by machine z.kind (state_of machine z bytes) bytes
