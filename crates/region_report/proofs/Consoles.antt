-- The console's record
use Rattle.std.proofs.Common.{◌≡◌, ℕ, ◌+◌, ◌<◌, ◌≤◌, Bool, true, false, List, ◌∷◌, length, drop, get_or, ap, sym, ◌∙◌}
use Rattle.std.specs.Prelude.{Some, None, if◌then◌else◌}
use Rattle.std.proofs.lemmas.List.{drop_more}
use Rattle.std.proofs.Math.ListN.{drop_of_length-le}
use Rattle.report_spec.specs.Packed.{RecordShown}
use Rattle.report_spec.specs.Newest.{is_console}
use Rattle.report_spec.specs.Newest.{console_of}

at-here : (records : List RecordShown) (i : ℕ) (x : RecordShown) → i < length records → x ≡ get_or records i x
    → drop i records ≡ x ∷ drop (i + 1) records
at-here records i x h e = drop_more records i x h ∙ ap (λ (y : RecordShown). y ∷ drop (i + 1) records) (sym e)

pub console-here : (records : List RecordShown) (i : ℕ) (x : RecordShown) → i < length records → x ≡ get_or records i x
    → console_of (drop i records) ≡ console_of records → is_console x.name ≡ true → Some x ≡ console_of records
console-here records i x h e was is =
    sym (ap (λ (rs : List RecordShown). console_of rs) (at-here records i x h e)
    ∙ ap (λ (t : Bool). if t then Some x else console_of (drop (i + 1) records)) is) ∙ was

pub console-behind : (records : List RecordShown) (i : ℕ) (x : RecordShown) → i < length records
    → x ≡ get_or records i x → console_of (drop i records) ≡ console_of records → is_console x.name ≡ false
    → console_of (drop (i + 1) records) ≡ console_of records
console-behind records i x h e was is =
    sym (ap (λ (rs : List RecordShown). console_of rs) (at-here records i x h e)
    ∙ ap (λ (t : Bool). if t then Some x else console_of (drop (i + 1) records)) is) ∙ was

pub no-console : (records : List RecordShown) (i : ℕ) → length records ≤ i
    → console_of (drop i records) ≡ console_of records → None ≡ console_of records
no-console records i past was =
    ap (λ (rs : List RecordShown). console_of rs) (sym (drop_of_length-le records past)) ∙ was
