-- The rows on marks, machines and parameters compute
use Rattle.std.proofs.Common.{refl}
use Rattle.psz_spec.specs.Headers.{word, dump_header}
use Rattle.psz_spec.specs.Marks.{mark_at, order_at, order_from, marks_from, gcd_in, gcd, step_after, step_of, rings_of, shown_sizes}
use Rattle.psz_spec.specs.Marks.{machine_shown}
use Rattle.psz_spec.specs.Parameters.{kib_size}
use Rattle.psz_examples.specs.Headers.{wide_front, x86_front}
use Rattle.psz_examples.specs.Marks.{marked_storage, MarksRow, TooLongRow, JustFitsRow, StepRow, AllShownRow}
use Rattle.psz_examples.specs.Marks.{OneDumpRow, OneSmallRow, OneLongRow, FirstMissingRow, NoDumpRow, WideMachineRow}
use Rattle.psz_examples.specs.Marks.{big_marked_storage, both_orders, BigMarksRow, LittleOrderRow, BigOrderRow}
use Rattle.psz_examples.specs.Marks.{FirstOrderRow, OtherNoMarkRow, MixedMagicRow, NoMarkRow, RestBeforeRow}
use Rattle.psz_examples.specs.Marks.{odd_storage, OddDumpRow}
use Rattle.psz_examples.specs.Marks.{X86MachineRow, NoMachineRow, KibRow, FiveKibRow, TenKibRow, OddKibRow, NoKibRow}

pub marks : MarksRow
unfolding word mark_at marks_from marked_storage
marks = refl

pub too_long : TooLongRow
unfolding word mark_at
too_long = refl

pub just_fits : JustFitsRow
unfolding word mark_at
just_fits = refl

pub step : StepRow
unfolding gcd_in gcd step_after step_of
step = refl

pub all_shown : AllShownRow
unfolding gcd_in gcd step_after step_of rings_of shown_sizes
all_shown = refl

pub one_dump : OneDumpRow
unfolding gcd_in gcd step_after step_of rings_of shown_sizes
one_dump = refl

pub one_small : OneSmallRow
unfolding gcd_in gcd step_after step_of rings_of shown_sizes
one_small = refl

pub one_long : OneLongRow
unfolding gcd_in gcd step_after step_of rings_of shown_sizes
one_long = refl

pub first_missing : FirstMissingRow
unfolding gcd_in gcd step_after step_of rings_of shown_sizes
first_missing = refl

pub rest_before : RestBeforeRow
unfolding gcd_in gcd step_after step_of rings_of shown_sizes
rest_before = refl

pub odd_dump : OddDumpRow
unfolding word mark_at marks_from odd_storage
odd_dump = refl

pub no_dump : NoDumpRow
unfolding gcd_in gcd step_after step_of rings_of shown_sizes
no_dump = refl

pub wide_machine : WideMachineRow
unfolding word dump_header machine_shown wide_front
wide_machine = refl

pub x86_machine : X86MachineRow
unfolding word dump_header machine_shown x86_front
x86_machine = refl

pub no_machine : NoMachineRow
unfolding word dump_header machine_shown
no_machine = refl

pub kib : KibRow
unfolding kib_size
kib = refl

pub five_kib : FiveKibRow
unfolding kib_size
five_kib = refl

pub ten_kib : TenKibRow
unfolding kib_size
ten_kib = refl

pub odd_kib : OddKibRow
unfolding kib_size
odd_kib = refl

pub no_kib : NoKibRow
unfolding kib_size
no_kib = refl

pub big_marks : BigMarksRow
unfolding word mark_at marks_from big_marked_storage
big_marks = refl

pub little_order : LittleOrderRow
unfolding word mark_at order_at order_from marked_storage
little_order = refl

pub big_order : BigOrderRow
unfolding word mark_at order_at order_from big_marked_storage
big_order = refl

pub first_order : FirstOrderRow
unfolding word mark_at order_at order_from both_orders
first_order = refl

pub other_no_mark : OtherNoMarkRow
unfolding word mark_at marks_from both_orders
other_no_mark = refl

pub mixed_magic : MixedMagicRow
unfolding word mark_at
mixed_magic = refl

pub no_mark : NoMarkRow
unfolding word mark_at order_at order_from
no_mark = refl
