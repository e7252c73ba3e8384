-- Words anywhere in a text, and the name before an offset, one byte after the other
use Rattle.std.proofs.Common.{◌≡◌, ℕ, ◌+◌, ◌≤◌, ◌<◌, ◌||◌, ◌==◌, nat_eq, Bool, true, false, cond, List, length, drop}
use Rattle.std.proofs.Common.{get_or, sym, ap, ◌∙◌, arith}
use Rattle.std.specs.Prelude.{Option, Some, None}
use Rattle.std.specs.List.{starts_with}
use Rattle.std.proofs.lemmas.List.{drop_all, drop_more}
use Rattle.death_spec.specs.declared.Mark.TheVariants.{Offset}
use Rattle.death_spec.specs.Marks.{begins, is_blank}
use Rattle.death_spec.specs.Causes.{stand_in}
use Rattle.death_spec.specs.Reports.{named_from}

-- at a byte: here, or behind it
stand_step : (words text : List ℕ) (at : ℕ) → at < length text
    → stand_in words (drop at text) ≡ (starts_with nat_eq (drop at text) words || stand_in words (drop (at + 1) text))
unfolding stand_in
stand_step words text at inside =
    ap (stand_in words) (drop_more text at 0 inside)
    ∙ ap (λ rest. starts_with nat_eq rest words || stand_in words (drop (at + 1) text))
    (sym (drop_more text at 0 inside))

pub stand_yes : (words text : List ℕ) (at : ℕ) → at < length text → starts_with nat_eq (drop at text) words ≡ true
    → stand_in words (drop at text) ≡ true
stand_yes words text at inside e =
    stand_step words text at inside ∙ ap (λ t. t || stand_in words (drop (at + 1) text)) e

pub stand_no : (words text : List ℕ) (at : ℕ) → at < length text → starts_with nat_eq (drop at text) words ≡ false
    → stand_in words (drop at text) ≡ stand_in words (drop (at + 1) text)
stand_no words text at inside e =
    stand_step words text at inside ∙ ap (λ t. t || stand_in words (drop (at + 1) text)) e

pub stand_none : (words text : List ℕ) (at : ℕ) → length text ≤ at → stand_in words (drop at text) ≡ false
unfolding stand_in
stand_none words text at past = ap (stand_in words) (drop_all at text past)

-- where a name begins, by the byte at a place
abbrev pub start_by : List ℕ → ℕ → ℕ → ℕ
start_by text at start = cond (is_blank (get_or text at 0) || get_or text at 0 == 40) (at + 1) start

pub start_within : (t : Bool) (at start now : ℕ) → start ≤ at → now ≡ cond t (at + 1) start → now ≤ at + 1
start_within true at start now before is = omega (arith, is)
start_within false at start now before is = omega (arith, before, is)

-- at a byte: an offset begins, or it is looked for behind it
named_step : (text : List ℕ) (at start : ℕ) → at < length text
    → named_from at start (drop at text)
    ≡ cond (begins Offset (drop at text)) (Some start)
    (named_from (at + 1) (start_by text at start) (drop (at + 1) text))
unfolding named_from
named_step text at start inside =
    ap (named_from at start) (drop_more text at 0 inside)
    ∙ ap (λ rest. cond (begins Offset rest) (Some start)
    (named_from (at + 1) (start_by text at start) (drop (at + 1) text)))
    (sym (drop_more text at 0 inside))

pub named_yes : (text : List ℕ) (at start : ℕ) → at < length text → begins Offset (drop at text) ≡ true
    → named_from at start (drop at text) ≡ Some start
named_yes text at start inside e =
    named_step text at start inside
    ∙ ap (λ t. cond t (Some start) (named_from (at + 1) (start_by text at start) (drop (at + 1) text))) e

pub named_no : (text : List ℕ) (at start : ℕ) → at < length text → begins Offset (drop at text) ≡ false
    → named_from at start (drop at text) ≡ named_from (at + 1) (start_by text at start) (drop (at + 1) text)
named_no text at start inside e =
    named_step text at start inside
    ∙ ap (λ t. cond t (Some start) (named_from (at + 1) (start_by text at start) (drop (at + 1) text))) e

pub named_none : (text : List ℕ) (at start : ℕ) → length text ≤ at → named_from at start (drop at text) ≡ None
unfolding named_from
named_none text at start past = ap (named_from at start) (drop_all at text past)
