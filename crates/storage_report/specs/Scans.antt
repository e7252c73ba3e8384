-- What the headers of an image show, one place after another, 512 bytes apart
use Rattle.std.specs.Prelude.{ℕ, List, Bool, true, false, Option, Some, None}
use Rattle.zone_spec.specs.declared.params.ByteOrder.{ByteOrder}
use Rattle.zone_spec.specs.declared.params.ByteOrder.TheVariants.{Little, Big}
use Rattle.psz_spec.specs.declared.Kind.TheVariants.{Dump}
use Rattle.psz_spec.specs.declared.Mark.{Mark}
use Rattle.psz_spec.specs.declared.Machine.{Machine}
use Rattle.psz_spec.specs.declared.Machine.TheVariants.{Aligned, BigEndian}
use Rattle.psz_spec.specs.States.{data_of}
use Rattle.psz_spec.specs.Records.{is_of}
use Rattle.psz_spec.specs.Marks.{mark_at, order_at, machine_shown, machine_or}

-- the order of the first header, or that of the one at this place
abbrev pub order_more : Option ByteOrder → ℕ → ℕ → List ℕ → Option ByteOrder
order_more (Some order) total at block = Some order
order_more None total at block = order_at total at block

-- the header at a place, in the order of the first
abbrev pub mark_more : Option ByteOrder → ℕ → ℕ → List ℕ → Option Mark
mark_more None total at block = None
mark_more (Some order) total at block = mark_at order total at block

abbrev pub shown_if : Bool → List ℕ → Option Machine
shown_if true block = machine_shown (data_of block)
shown_if false block = None

abbrev pub shown_by : Option Mark → List ℕ → Option Machine
shown_by None block = None
shown_by (Some mark) block = shown_if (is_of Dump mark.kind) block

-- the machine that the first dump that shows one shows
abbrev pub machine_more : Option Machine → Option Mark → List ℕ → Option Machine
machine_more (Some machine) mark block = Some machine
machine_more None mark block = shown_by mark block

-- the machine by the first order, and by the first dump that shows one
abbrev pub machine_by : Option ByteOrder → Option Machine → Machine
machine_by None machine = machine_or machine Aligned
machine_by (Some Little) machine = machine_or machine Aligned
machine_by (Some Big) machine = BigEndian

-- whether no later header changes it
abbrev pub is_decided : Option ByteOrder → Option Machine → Bool
is_decided None machine = false
is_decided (Some Big) machine = true
is_decided (Some Little) None = false
is_decided (Some Little) (Some machine) = true
