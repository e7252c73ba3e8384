-- The bytes so far are the front of the first word. For the loop of `word_end`.
use Rattle.std.proofs.Common.{◌≡◌, ◌≤◌, ◌-◌, false, length, take, drop}
use Rattle.kernel_line.specs.Line.{words_from}
use Rattle.kernel_line.proofs.Lines.{fronted}
use Rattle.kernel_line.proofs.words.word_end.Given as goal

-- the bytes so far are the front of the first word
abbrev pub invariant-bytes : goal.invariant-bytes
invariant-bytes l = (l.end ≤ length l.line)
    × (fronted (take l.end l.line) (words_from l.is_within (drop l.end l.line)) ≡ words_from false l.line)

abbrev pub decreases-bytes : goal.decreases-bytes
decreases-bytes l = length l.line - l.end
