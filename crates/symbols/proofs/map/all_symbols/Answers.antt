-- One byte more adds the function of the line that begins there, if one does; past the end there
-- is none. For `all_symbols`.
use Rattle.std.proofs.Common.{◌≡◌, ℕ, ◌+◌, ◌==◌, ◌++◌, List, length, drop, get_or, ap, sym, ◌∙◌, arith}
use Rattle.std.proofs.lemmas.List.{append_assoc, append-nil}
use Rattle.symbol_spec.specs.declared.Symbol.{Symbol}
use Rattle.symbol_spec.specs.Maps.{symbol_if, symbols_from}
use Rattle.symbols.proofs.Steps.{symbols_more, symbols_end}
use Rattle.symbols.proofs.map.all_symbols.Goals as goal

pub bytes-preserved : goal.bytes-preserved
bytes-preserved c =
    let text : List ℕ = c.args.text.now in
    let at : ℕ = c.bytes.at in
    let rest : List Symbol = symbols_from (get_or text at 0 == 10) (at + 1) (drop (at + 1) text) in
    record {
      within = omega (arith, c.bytes-test.true);
      inside = c.in_ok-add_symbol.ensures.inside c.bytes.invariant.inside;
      so_far = c.bytes.invariant.so_far
          ∙ ap (λ more. c.bytes.all.items ++ more) (symbols_more c.bytes.begins at text c.bytes-test.true)
          ∙ sym (append_assoc c.bytes.all.items (symbol_if c.bytes.begins at (drop at text)) rest)
          ∙ ap (λ xs. c.bytes.all.items ++ symbol_if c.bytes.begins at xs ++ rest) (sym c.tail.ensures)
          ∙ ap (λ all. all ++ rest) (sym c.in_ok-add_symbol.ensures.value);
    }

pub returns-clause-value : goal.returns-clause-value
returns-clause-value c =
    sym (c.bytes.invariant.so_far
    ∙ ap (λ more. c.bytes.all.items ++ more) (symbols_end c.bytes.begins c.bytes.at c.args.text.now c.bytes-test.false)
    ∙ append-nil c.bytes.all.items)
