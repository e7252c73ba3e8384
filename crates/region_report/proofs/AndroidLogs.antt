-- The record with entries of Android's log
use Rattle.std.proofs.Common.{◌≡◌, ℕ, ◌+◌, ◌<◌, ◌≤◌, Bool, true, false, List, ◌∷◌, length, drop, get_or, ap, sym, ◌∙◌}
use Rattle.std.specs.Prelude.{Some, None, if◌then◌else◌}
use Rattle.std.proofs.lemmas.List.{drop_more}
use Rattle.std.proofs.Math.ListN.{drop_of_length-le}
use Rattle.report_spec.specs.Packed.{RecordShown}
use Rattle.report_spec.specs.Newest.{has_entries}
use Rattle.report_spec.specs.Newest.{android_log_of}

at-here : (records : List RecordShown) (i : ℕ) (x : RecordShown) → i < length records → x ≡ get_or records i x
    → drop i records ≡ x ∷ drop (i + 1) records
at-here records i x h e = drop_more records i x h ∙ ap (λ (y : RecordShown). y ∷ drop (i + 1) records) (sym e)

pub log-here : (records : List RecordShown) (i : ℕ) (x : RecordShown) → i < length records → x ≡ get_or records i x
    → android_log_of (drop i records) ≡ android_log_of records → has_entries x.entries ≡ true → Some x ≡ android_log_of records
log-here records i x h e was is =
    sym (ap (λ (rs : List RecordShown). android_log_of rs) (at-here records i x h e)
    ∙ ap (λ (t : Bool). if t then Some x else android_log_of (drop (i + 1) records)) is) ∙ was

pub log-behind : (records : List RecordShown) (i : ℕ) (x : RecordShown) → i < length records
    → x ≡ get_or records i x → android_log_of (drop i records) ≡ android_log_of records → has_entries x.entries ≡ false
    → android_log_of (drop (i + 1) records) ≡ android_log_of records
log-behind records i x h e was is =
    sym (ap (λ (rs : List RecordShown). android_log_of rs) (at-here records i x h e)
    ∙ ap (λ (t : Bool). if t then Some x else android_log_of (drop (i + 1) records)) is) ∙ was

pub no-log : (records : List RecordShown) (i : ℕ) → length records ≤ i
    → android_log_of (drop i records) ≡ android_log_of records → None ≡ android_log_of records
no-log records i past was =
    ap (λ (rs : List RecordShown). android_log_of rs) (sym (drop_of_length-le records past)) ∙ was
