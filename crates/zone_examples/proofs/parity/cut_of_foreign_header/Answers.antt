-- The row `cut_of_foreign_header`: the cut that a boot of another zone's header leaves after the
-- signature. Computed with `TwoParityBytes`.
use Rattle.std.proofs.Common.{◌≡◌, ◌-◌, List, [], ◌∷◌, length, sum_by, refl, ap, ◌∙◌}
use Rattle.zone_spec.specs.Parts.{Header, part_word}
use Rattle.zone_spec.specs.Stores.{Store, after_stores}
use Rattle.zone_spec.specs.Stages.{stage_count}
use Rattle.zone_spec.specs.Cut.{Cut, ByBoot, cut_stages, cut_pairs}
use Rattle.machine_spec.specs.BootPart.{boot_cut}
use Rattle.zone_examples.specs.Zones.{console_of_two}
use Rattle.zone_examples.specs.Damage.{foreign_header}
use Rattle.zone_examples.proofs.Unfoldings.{computing}
use Rattle.zone_examples.proofs.TwoParityBytes.{foreign, foreign-is, foreign_fixes-are}
use Rattle.zone_examples.proofs.parity.cut_of_foreign_header.Goals as goal

-- a boot's cut by its corrections
cut_by : List Store → Cut
cut_by fixes = record {
  by = ByBoot;
  header = part_word console_of_two (after_stores foreign fixes) Header;
  made = 2 - length fixes;
}

cut-is : boot_cut console_of_two foreign_header 2 ≡ cut_by (record { place = 3; bytes = 0x40 ∷ [] } ∷ [])
unfolding cut_by
cut-is = ap (λ image. boot_cut console_of_two image 2) foreign-is ∙ ap cut_by foreign_fixes-are

pub returns : goal.returns
unfolding computing cut_by
returns c = (
  ap (λ cut. cut.header) cut-is ∙ refl,
  ap (λ cut. cut.made) cut-is ∙ refl,
  ap (λ cut. sum_by (stage_count console_of_two) (cut_stages console_of_two cut)) cut-is ∙ refl,
  ap (cut_pairs console_of_two) cut-is ∙ refl,
)
