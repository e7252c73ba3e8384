-- An image that may be a text log: what a look at it tells, and how its report ends. For `held_log` and
-- `unknown_report`.
use Rattle.std.proofs.Common.{◌≡◌, ◌∙◌, ℕ, Bool, true, false, List, Option, Some, None, take, refl, sym, subst}
use Rattle.std.proofs.Common.{inl, inr, drop, length, ◌-◌, arith, ap, nat_lt}
use Rattle.std.proofs.lemmas.List.{take_all, length-drop}
use Rattle.std.specs.Prelude.{Result, Ok, Err, MatchResult, IfSome, IsTrue, ◌↔◌}
use Rattle.text_log_spec.specs.Boots.{IsTextLog}
use Rattle.layout_spec.specs.declared.Known.{Known}
use Rattle.region_report.specs.Reports.{ReportHeld}
use Rattle.report_run.specs.declared.boots.HeldLog.{HeldLog}
use Rattle.report_run.specs.declared.plans.Asked.{Asked}
use Rattle.report_run.specs.declared.plans.Logs.{Logs}
use Rattle.report_run.specs.declared.plans.Logs.TheVariants.{Never, Texts, All}
use Rattle.report_run.specs.declared.failures.Failure.{Failure}
use Rattle.report_run.specs.Failures.{IsUnread}
use Rattle.report_run.specs.Messages.{Seen}
use Rattle.report_run.specs.Boots.{IsTextHeld, IsLogShown, IsLogUnshown}
use Rattle.report_run.specs.Storages.{IsUnloggedReport, IsNoUnloggedReport}
use Rattle.report_run.specs.Logs.{front_len, most_log, text_in, log_text, IsLogOf, IsNoLog, IsSeenLog, IsHeldLog}
use Rattle.report_run.specs.Logs.{IsUnlooked}
use Rattle.report_run.specs.Reports.{IsUnknownReport, IsNoUnknownReport}

-- ---- the look

pub text_seen : (is : Bool) (holds : Option (List ℕ)) (text : List ℕ)
    → IfSome holds (λ image. text ≡ take front_len image) → IsTrue is ↔ IsTextLog text → IsSeenLog is Texts holds
text_seen true None text same is_text = tt
text_seen false None text same is_text = tt
text_seen true (Some image) text same is_text = subst IsTextLog same (is_text.0 refl)
text_seen false (Some image) text same is_text =
    λ is. (let n : ◌≡◌ {A = Bool} false true = is_text.1 (subst IsTextLog (sym same) is) in absurd (cc))

-- the last bytes are all that the window asks for
pub tail : (image : List ℕ) → take most_log (drop (length image - most_log) image) ≡ drop (length image - most_log) image
tail image =
    take_all most_log (drop (length image - most_log) image)
    (omega (arith, length-drop (length image - most_log) image))

pub log_held : (holds same : Option (List ℕ)) (size at base : ℕ) (bytes text : List ℕ) (l : HeldLog) → same ≡ holds
    → at ≡ size - most_log → text ≡ text_in (nat_lt most_log size) bytes → base ≡ size - length text
    → IfSome holds (λ image. size ≡ length image)
    → IfSome same (λ image. bytes ≡ take most_log (drop at image))
    → IsTextHeld text base l → IfSome holds (λ image. IsLogOf image l)
log_held None same size at base bytes text l e at_is text_is base_is sized read is = tt
log_held (Some image) same size at base bytes text l e at_is text_is base_is sized read is =
    let here : bytes ≡ take most_log (drop at image) =
    subst (λ (o : Option (List ℕ)). IfSome o (λ image. bytes ≡ take most_log (drop at image))) e read in
    let of_size : bytes ≡ take most_log (drop (length image - most_log) image) =
    subst (λ (n : ℕ). bytes ≡ take most_log (drop n image)) (at_is ∙ ap (λ n. n - most_log) sized) here in
    let whole : text ≡ log_text image =
    text_is ∙ ap (λ n. text_in (nat_lt most_log n) bytes) sized
    ∙ ap (text_in (nat_lt most_log (length image))) (of_size ∙ tail image) in
    let place : base ≡ length image - length (log_text image) =
    base_is ∙ ap (λ n. n - length text) sized ∙ ap (λ t. length image - length t) whole in
    subst (λ (t : List ℕ). IsTextHeld t (length image - length (log_text image)) l) whole
    (subst (λ (n : ℕ). IsTextHeld text n l) place is)

-- a log that is taken is looked for
pub unheld : (logs : Logs) (is : Bool) (holds : Option (List ℕ)) (read0 read1 read2 : ℕ) (why : Failure)
    → IsSeenLog is logs holds → is ≡ true → read1 ≡ read0 → IsUnread read1 read2 why → IsUnlooked logs read0 read2 why
unheld Never is holds read0 read1 read2 why seen taken same h =
    absurd (subst (λ (b : Bool). IsSeenLog b Never holds) taken seen)
unheld Texts is holds read0 read1 read2 why seen taken same h = subst (λ (n : ℕ). IsUnread n read2 why) same h
unheld All is holds read0 read1 read2 why seen taken same h = subst (λ (n : ℕ). IsUnread n read2 why) same h

-- ---- the report

module _ (asked : Asked) (known : Known) (path : List ℕ) (holds given now : Option (List ℕ)) (read0 read2 put0 put1 : ℕ)
  where
    pub unseen : (a : Seen) (why : Failure) → IsUnlooked asked.logs read0 read2 why
        → IsNoUnknownReport asked known path holds read0 read2 given given put0 put0 a a why
    unseen a why h = inl (record { cause = h; unput = refl; no_put_fault = refl; silent = refl })

    pub by_log : (log : HeldLog) (a : Seen) (r : Result ReportHeld Failure) → IsHeldLog asked.logs holds log
        → read2 ≡ read0
        → MatchResult r (IsLogShown asked path log given now) (IsLogUnshown asked path log given now put0 put1)
        → MatchResult r (IsUnknownReport asked known path holds given now a a)
        (IsNoUnknownReport asked known path holds read0 read2 given now put0 put1 a a)
    by_log log a (Ok report) is unread h =
        inl (record { reported = record { log = log; held = is; reported = h }; silent = refl })
    by_log log a (Err why) is unread h =
        inr (inl (record {
          no_read_fault = unread;
          cause = record { log = log; held = is; cause = h };
          silent = refl;
        }))

    pub by_others : (same : Option (List ℕ)) (read1 : ℕ) (a b : Seen) (r : Result ReportHeld Failure)
        → IsNoLog asked.logs holds → same ≡ holds → read1 ≡ read0
        → MatchResult r (IsUnloggedReport asked known path same given now a b)
        (IsNoUnloggedReport asked known path same read1 read2 given now put0 put1 a b)
        → MatchResult r (IsUnknownReport asked known path holds given now a b)
        (IsNoUnknownReport asked known path holds read0 read2 given now put0 put1 a b)
    by_others same read1 a b (Ok report) unlogged e kept h =
        inr (record {
          no_log = unlogged;
          reported = subst (λ (o : Option (List ℕ)). IsUnloggedReport asked known path o given now a b report) e h;
        })
    by_others same read1 a b (Err why) unlogged e kept h =
        inr (inr (record {
          no_log = unlogged;
          cause = subst (λ (n : ℕ). IsNoUnloggedReport asked known path holds n read2 given now put0 put1 a b why) kept
              (subst (λ (o : Option (List ℕ)).
              IsNoUnloggedReport asked known path o read1 read2 given now put0 put1 a b why) e h);
        }))
