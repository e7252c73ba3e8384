-- The words are asked by their texts. For `are_of_storage`.
use Rattle.std.proofs.Common.{◌∙◌, sym}
use Rattle.std.specs.Prelude.{string_bytes}
use Rattle.std.proofs.lemmas.List.Folds.{list_all-map}
use Rattle.storage_words.specs.Words.{is_of_storage}
use Rattle.report_entry.proofs.storages.are_of_storage.Goals as goal

pub returns : goal.returns
returns c = c.give_sizes.ensures ∙ sym (list_all-map is_of_storage string_bytes c.args.words.now)
