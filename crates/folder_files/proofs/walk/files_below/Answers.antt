-- One level less, and none. For `files_below`.
use Rattle.std.proofs.Common.{◌∙◌, ◌≡◌, [], ◌∷◌, refl, arith}
use Rattle.folder_files.specs.Files.{levels}
use Rattle.folder_files.proofs.Steps.{one_less, none_left}
use Rattle.folder_files.proofs.walk.files_below.Goals as goal

pub levels-preserved : goal.levels-preserved
levels-preserved g c = (
  one_less (g.F.Folders.tree c.args.tree.now) (g.F.Folders.tree c.levels.tree) (levels c.args.all) c.levels.left
      (c.args.folder.now ∷ []) c.levels.found _ c.levels.invariant.1 c.levels-test.true
      c.in_ok-found.ensures.added c.levels.invariant.0,
  c.in_ok-found.ensures.same ∙ c.levels.invariant.1,
)

pub returns-clause-found : goal.returns-clause-found
returns-clause-found g c =
    none_left (g.F.Folders.tree c.args.tree.now) (levels c.args.all) c.levels.left (c.args.folder.now ∷ [])
    c.levels.found (omega (arith, c.levels-test.false)) c.levels.invariant.0
