-- The console's log, record by record. For the loop of `console_in`.
use Rattle.std.proofs.Common.{◌≡◌, ℕ, ◌+◌, ◌<◌, ◌≤◌, true, false, List, [], ◌∷◌, length, drop, get_or, refl, sym, ap, ◌∙◌}
use Rattle.std.proofs.lemmas.List.{at_drop_more, at_drop_all}
use Rattle.zone_spec.specs.declared.Name.{Name}
use Rattle.zone_spec.specs.declared.Name.TheVariants.{Dump, Console, Pmsg, Ftrace}
use Rattle.zone_spec.specs.RecordsHeld.{RecordHeld}
use Rattle.report_spec.specs.Newest.{is_console}
use Rattle.report_spec.specs.Said.{console_or, console_in}

found : (name : Name) (content rest : List ℕ) → is_console name ≡ true → console_or name content rest ≡ content
found (Dump index packed) content rest e = cc
found Console content rest e = refl
found Pmsg content rest e = cc
found Ftrace content rest e = cc

passed : (name : Name) (content rest : List ℕ) → is_console name ≡ false → console_or name content rest ≡ rest
passed (Dump index packed) content rest e = refl
passed Console content rest e = cc
passed Pmsg content rest e = refl
passed Ftrace content rest e = refl

here : (rs : List RecordHeld) (i : ℕ) (r : RecordHeld) → i < length rs → r ≡ get_or rs i r
    → console_in (drop i rs) ≡ console_or r.name r.content (console_in (drop (i + 1) rs))
unfolding console_in
here rs i r lt is =
    at_drop_more console_in rs i r lt ∙ ap (λ (q : RecordHeld). console_in (q ∷ drop (i + 1) rs)) (sym is)

pub log_found : (rs : List RecordHeld) (i : ℕ) (r : RecordHeld) → i < length rs → r ≡ get_or rs i r
    → console_in rs ≡ console_in (drop i rs) → is_console r.name ≡ true → r.content ≡ console_in rs
log_found rs i r lt is inv e =
    sym (inv ∙ here rs i r lt is ∙ found r.name r.content (console_in (drop (i + 1) rs)) e)

pub log_passed : (rs : List RecordHeld) (i : ℕ) (r : RecordHeld) → i < length rs → r ≡ get_or rs i r
    → console_in rs ≡ console_in (drop i rs) → is_console r.name ≡ false
    → console_in rs ≡ console_in (drop (i + 1) rs)
log_passed rs i r lt is inv e =
    inv ∙ here rs i r lt is ∙ passed r.name r.content (console_in (drop (i + 1) rs)) e

pub no_log : (rs : List RecordHeld) (i : ℕ) → length rs ≤ i → console_in rs ≡ console_in (drop i rs)
    → [] ≡ console_in rs
unfolding console_in
no_log rs i past inv = sym (inv ∙ at_drop_all console_in rs i past)
