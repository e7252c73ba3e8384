-- A text's place among a choice's is that among the texts that they are seen as. For `place`.
use Rattle.std.proofs.Common.{◌∙◌, bytes_eq, sym}
use Rattle.ramoops_layout.proofs.WordLaws.{place_seen}
use Rattle.ramoops_layout.proofs.words.Choice.place.Goals as goal

pub returns-in-Some : goal.returns-in-Some
returns-in-Some c = sym c.in-Some.is ∙ c.place_of.ensures.place
    ∙ place_seen (λ own. bytes_eq own c.args.text.now) c.args.self.now.texts.now

pub returns-in-None : goal.returns-in-None
returns-in-None c = sym c.in-None.is ∙ c.place_of.ensures.place
    ∙ place_seen (λ own. bytes_eq own c.args.text.now) c.args.self.now.texts.now
