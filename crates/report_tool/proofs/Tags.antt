-- The tag of a version, by its parts
use Rattle.std.proofs.Common.{◌≡◌, ℕ, List, Some, None, ap, ◌∙◌}
use Rattle.grammar_spec.specs.Numbers.{number_of}
use Rattle.report_tool.specs.Version.{code_of, split_at, minor_code, release_code, release_of, tag_of}

pub no_point : (version release : List ℕ) → release ≡ release_of version
    → None ≡ split_at 46 release → None ≡ tag_of version
unfolding tag_of
no_point version release e h = ap release_code (h ∙ ap (split_at 46) e)

pub with_patch : (version release major rest minor patch : List ℕ) → release ≡ release_of version
    → Some (major, rest) ≡ split_at 46 release → Some (minor, patch) ≡ split_at 46 rest
    → code_of (number_of major) (number_of minor) (number_of patch) ≡ tag_of version
unfolding tag_of
with_patch version release major rest minor patch e h g =
    ap (minor_code major rest) g ∙ ap release_code (h ∙ ap (split_at 46) e)

pub without_patch : (version release major rest : List ℕ) → release ≡ release_of version
    → Some (major, rest) ≡ split_at 46 release → None ≡ split_at 46 rest
    → minor_code major rest None ≡ tag_of version
unfolding tag_of
without_patch version release major rest e h g =
    ap (minor_code major rest) g ∙ ap release_code (h ∙ ap (split_at 46) e)
