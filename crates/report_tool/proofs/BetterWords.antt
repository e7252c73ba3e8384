-- The words of a layout that explains an image better: what the search finds, and why they are not known
use Rattle.std.proofs.Common.{◌≡◌, ◌≤◌, ◌∙◌, ℕ, Bool, true, false, List, length, take, Option, Some, refl, sym, ap}
use Rattle.std.proofs.Common.{subst, string_bytes, Result, Ok, Err, IfOk}
use Rattle.std.specs.declared.string.String.{String}
use Rattle.std.specs.declared.alloc.Global.{Global}
use Rattle.std.proofs.lemmas.Bool.{leb-true}
use Rattle.outside.specs.Outside.{Rose}
use Rattle.command_spec.specs.declared.Stop.{Stop}
use Rattle.command_spec.specs.declared.Stop.TheVariants.{Memory, Usage, Param, Layout, NoSharedZone, Short, ScriptFault}
use Rattle.command_spec.specs.declared.Stop.TheVariants.{ImageFault, SinkFault, TooLong, BadLine, Refused}
use Rattle.layout_spec.specs.declared.Candidate.{Candidate}
use Rattle.layout_spec.specs.declared.Known.{Known}
use Rattle.layout_spec.specs.Family.{is_of_family}
use Rattle.layout_spec.specs.Laid.{params_of}
use Rattle.layout_search.specs.declared.searching.Found.{Found}
use Rattle.layout_search.specs.Answers.{IsSearched}
use Rattle.layout_search.proofs.BestSoFar.{parts_in}
use Rattle.region_report.specs.Reports.{ReportHeld, IsReport}
use Rattle.report_tool.specs.declared.plan.Plan.{Plan}
use Rattle.report_tool.specs.declared.showing.Format.{Format}
use Rattle.report_tool.specs.Better.{explains_more, words_if, AreWordsOf, IsWordsStop}
use Rattle.report_tool.specs.LayoutWords.{layout_words}
use Rattle.report_tool.specs.Plans.{IsLaid}
use Rattle.report_tool.specs.Images.{IsNotReported}

-- a layout of the family lies within the image
within : (known : Known) (image : List ℕ) (c : Candidate) → is_of_family known image c ≡ true → c.mem ≤ length image
within known image c h = leb-true c.mem (length image) (parts_in known image c h).within

pub found_within : (known : Known) (image : List ℕ) (o : Option Found) (f : Found) → o ≡ Some f
    → IsSearched known image o → f.candidate.mem ≤ length image
found_within known image o f e h =
    within known image f.candidate (subst (λ (x : Option Found). IsSearched known image x) e h).of_family

-- the words of a layout by its report
pub judged : {E : Type 0} (plan : Plan) (report : ReportHeld) (c : Candidate) (image : List ℕ) (other : Plan)
    (told : ReportHeld) (is_better : Bool) → IsLaid (params_of c) other
    → IsReport other.zones.items other.symbols other.entries (take other.mem image) told
    → is_better ≡ explains_more plan report other told → (r : Result (String Global) E)
    → IfOk r (λ words. string_bytes words ≡ words_if is_better (layout_words c (length image)))
    → IfOk r (λ words. AreWordsOf plan report c image (string_bytes words))
judged plan report c image other told is_better laid is same (Ok words) h = record {
  other = other;
  laid = laid;
  told = told;
  is_report = is;
  words_are = h ∙ ap (λ (b : Bool). words_if b (layout_words c (length image))) same;
}
judged plan report c image other told is_better laid is same (Err e) h = h

-- a search that stops ends the report
pub stopped : (format : Format) (path : List ℕ) (plan : Plan) (holds given : Option (List ℕ)) (doubted : Bool)
    (stop : Stop) (read0 read1 read2 put : ℕ) → read1 ≡ read0 → IsWordsStop doubted stop read1 read2
    → IsNotReported format path plan stop holds read0 read2 given given put put
stopped format path plan holds given false stop read0 read1 read2 put e h =
    subst (λ (s : Stop). IsNotReported format path plan s holds read0 read2 given given put put) (sym h)
    (record { cause = tt; sink = refl })
stopped format path plan holds given true Memory read0 read1 read2 put e h = record { cause = tt; sink = refl }
stopped format path plan holds given true ImageFault read0 read1 read2 put e h =
    record { cause = subst (λ (n : ℕ). Rose n read2) e h; sink = refl }
stopped format path plan holds given true Usage read0 read1 read2 put e h = absurd h
stopped format path plan holds given true (Param fault before) read0 read1 read2 put e h = absurd h
stopped format path plan holds given true (Layout fault) read0 read1 read2 put e h = absurd h
stopped format path plan holds given true NoSharedZone read0 read1 read2 put e h = absurd h
stopped format path plan holds given true (Short has needed) read0 read1 read2 put e h = absurd h
stopped format path plan holds given true ScriptFault read0 read1 read2 put e h = absurd h
stopped format path plan holds given true SinkFault read0 read1 read2 put e h = absurd h
stopped format path plan holds given true TooLong read0 read1 read2 put e h = absurd h
stopped format path plan holds given true (BadLine line) read0 read1 read2 put e h = absurd h
stopped format path plan holds given true (Refused line cause) read0 read1 read2 put e h = absurd h
