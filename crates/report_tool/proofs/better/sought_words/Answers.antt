-- The words are those of the image's front. For `sought_words`.
use Rattle.std.proofs.Common.{List, ℕ, subst, string_bytes}
use Rattle.report_tool.specs.Better.{AreOtherWords}
use Rattle.report_tool.proofs.better.sought_words.Goals as goal

pub returns-clause-words : goal.returns-clause-words
returns-clause-words g c = record {
  front = c.in_ok-front.front.items;
  is_front = c.in_ok-front.ensures.ok.1;
  words_are = subst (λ (bs : List ℕ). AreOtherWords c.args.plan.now c.args.report.now bs (string_bytes c.in_ok-words.words)) c.deref.ensures.value
      c.in_ok-words.ensures;
}
