-- The names are those of the dumps, then the console's and pmsg's if there is one. For `names`.
use Rattle.std.proofs.Common.{◌∙◌, ◌++◌, ap, map, List}
use Rattle.blk_spec.specs.declared.BlkName.{BlkName}
use Rattle.blk_spec.specs.declared.BlkName.TheVariants.{Console, Pmsg}
use Rattle.blk_spec.specs.Names.{dump_name}
use Rattle.blk_spec.specs.States.{names_of, name_if}
use Rattle.zone_blk.proofs.blk.Blk.names.Goals as goal

pub returns : goal.returns
unfolding names_of
returns c =
    let dumps = c.in_ok-names.ensures ∙ ap (map dump_name) c.deref.ensures.value in
    rw (← c.self.view_is)
    (c.from_vec.ensures ∙ c.in_ok-add_name-2.ensures
    ∙ ap (λ (names : List BlkName). names ++ name_if Pmsg c.self.inside.pmsg.saved)
    (c.in_ok-add_name.ensures ∙ ap (λ (names : List BlkName). names
    ++ name_if Console c.self.inside.console.saved) dumps))
