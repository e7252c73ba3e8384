-- The loop of `numbers_at`: no node that was passed over has the path.
use Rattle.std.proofs.Common.{◌≡◌, drop, find, map}
use Rattle.std.specs.Str.{bytes_eq}
use Rattle.dtb.specs.ReaderAnswers.{shown}
use Rattle.report_tool.specs.Trees.{numbers_found}
use Rattle.report_tool.proofs.tree.numbers_at.Given as goal

-- no node that was passed over has the path
abbrev pub invariant-loop-node : goal.invariant-loop-node
invariant-loop-node l = numbers_found (find (λ node. bytes_eq node.path l.path) (map shown l.nodes))
    ≡ numbers_found (find (λ node. bytes_eq node.path l.path) (map shown (drop l.node-index l.nodes)))
