-- Both lists are made zone by zone. For `none_hides_another`.
use Rattle.std.specs.Prelude.{◌∷◌, [], if◌then◌else◌}
use Rattle.std.proofs.lemmas.List.Concat.{flat_map-append}
use Rattle.psz_spec.specs.declared.Zone.{Zone}
use Rattle.psz_spec.specs.declared.Kind.TheVariants.{Ftrace}
use Rattle.psz_spec.specs.States.{zone_bytes, log_of}
use Rattle.psz_spec.specs.Records.{gives, made_by}
use Rattle.psz_read.proofs.laws.none_hides_another.Goals as goal

pub returns-clause-each : goal.returns-clause-each
returns-clause-each c = λ machine image kind xs ys.
    flat_map-append
    (λ (z : Zone). if gives machine image kind z then made_by machine z kind (zone_bytes z image) else []) xs ys

pub returns-clause-traces : goal.returns-clause-traces
returns-clause-traces c = λ machine image xs ys.
    flat_map-append
    (λ (z : Zone). if gives machine image Ftrace z then log_of machine (zone_bytes z image) ∷ [] else []) xs ys
