-- A faulty word gives its fault, and else the parameters are read, with the memory as given. For `read_words_over`.
use Rattle.std.proofs.Common.{◌≡◌, ◌∙◌, ℕ, Option, Some, None, ap, sym, Ok, codes, unwrap_or, refl}
use Rattle.std.specs.Option.{option_map}
use Rattle.grammar_spec.specs.Words.{ok_unless, texts}
use Rattle.grammar_spec.specs.ZoneWords.{given, params_by}
use Rattle.ramoops_layout.proofs.params.read_words_over.Goals as goal

mapped : (found : Option ℕ) → option_map (λ size. size) found ≡ found
mapped None = refl
mapped (Some size) = refl

pub returns-in-Some : goal.returns-in-Some
returns-in-Some c =
    ap (λ fault. ok_unless fault (params_by (λ size. size) c.args.absent.now (texts c.args.words.now)))
    (sym c.in-Some.is ∙ c.first_fault.ensures)

pub returns-in-None : goal.returns-in-None
returns-in-None c = ap Ok (c.params.ensures (λ size. size) (c.number.ensures
    ∙ ap (λ found. unwrap_or found c.args.absent.now.mem) (sym (mapped (given (texts c.args.words.now) (codes "mem_size"))))))
    ∙ ap (λ fault. ok_unless fault (params_by (λ size. size) c.args.absent.now (texts c.args.words.now)))
    (sym c.in-None.is ∙ c.first_fault.ensures)
