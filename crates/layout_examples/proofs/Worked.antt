-- The rows compute
use Rattle.std.proofs.Common.{refl}
use Rattle.layout_spec.specs.Marks.{is_mark, is_mark_in}
use Rattle.memory_spec.specs.Pages.{marked}
use Rattle.memory_spec.specs.Rings.{ends}
use Rattle.layout_examples.specs.Layouts.{ShownRow, TagRow}
use Rattle.layout_examples.specs.Memories.{CutHeaderRow, WholeHeaderRow, EndsRow, StartAboveRow, DamagedMarkRow}
use Rattle.layout_examples.specs.Memories.{OddPlaceRow, ReachedRow, FirstRow}

pub shown : ShownRow
shown = (refl, refl, refl, refl)

pub tag : TagRow
tag = (refl, refl, refl, refl)

pub cut_header : CutHeaderRow
unfolding is_mark is_mark_in marked
cut_header = refl

pub whole_header : WholeHeaderRow
unfolding is_mark is_mark_in marked
whole_header = refl

pub ends_found : EndsRow
unfolding is_mark is_mark_in ends
ends_found = refl

pub start_above : StartAboveRow
unfolding is_mark is_mark_in ends
start_above = refl

pub damaged_mark : DamagedMarkRow
unfolding is_mark is_mark_in ends
damaged_mark = refl

pub odd_place : OddPlaceRow
unfolding is_mark is_mark_in ends
odd_place = refl

pub reached : ReachedRow
reached = (refl, refl, refl, refl, refl, refl, refl, refl)

pub first : FirstRow
first = (refl, refl)
