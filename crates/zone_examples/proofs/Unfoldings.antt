-- Words whose unfolding unfolds what a row computes with
use Rattle.std.specs.Fmt.{digits}
use Rattle.std.specs.Prelude.{ℕ}
use Rattle.code_spec.specs.Field.{gf_add, gf_mul, gf_pow}
use Rattle.code_spec.specs.Code.{value_of, nearest, is_codeword, parity_of, the_word, all_words, distance}
use Rattle.zone_spec.specs.Layout.{power_within, rounded, zones_from, layout_of}
use Rattle.zone_spec.specs.Parts.{part_word, part_bytes}
use Rattle.zone_spec.specs.PartReadings.{part_reading}
use Rattle.zone_spec.specs.Reading.{zone_reading}
use Rattle.zone_spec.specs.TimeLines.{read_line}
use Rattle.zone_spec.specs.Stores.{byte_stores, after_stores, put}
use Rattle.zone_spec.specs.Stages.{stores_in_turn, stage_stores}
use Rattle.zone_spec.specs.Calls.{call_stores}
use Rattle.zone_spec.specs.Boot.{fix_stores, boot_fixes, boot_erasure, boot_stores}
use Rattle.zone_spec.specs.Pairs.{pairs_from}
use Rattle.zone_spec.specs.Touched.{touched_by, runs_of}
use Rattle.zone_spec.specs.Windows.{words_after, windows_from, window_at}
use Rattle.machine_spec.specs.BootPart.{zones_parted}
use Rattle.machine_spec.specs.Operations.{session_after, causes}
use Rattle.zone_examples.specs.Shown.{answers}

-- all but parity, and the search for a codeword
unfoldable pub computing : ℕ
unfolding digits power_within rounded zones_from layout_of zone_reading part_reading part_word part_bytes nearest
    is_codeword distance call_stores stores_in_turn stage_stores byte_stores after_stores put boot_fixes boot_erasure
    boot_stores fix_stores read_line pairs_from touched_by runs_of words_after windows_from window_at zones_parted
    session_after causes answers value_of gf_add gf_mul gf_pow
computing = 0

-- these too: for zones without parity
unfoldable pub computing_all : ℕ
unfolding computing parity_of the_word all_words
computing_all = 0
