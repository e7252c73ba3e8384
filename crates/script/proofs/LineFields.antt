-- A line's word and its fields, each behind a space, are its fields joined
use Rattle.std.proofs.Common.{◌≡◌, List, [], ◌∷◌, ◌++◌, refl, ap}
use Rattle.std.specs.Prelude.{codes, decimal}
use Rattle.std.specs.List.{join_with_byte}
use Rattle.std.proofs.lemmas.List.{append-nil}
use Rattle.grammar_spec.specs.declared.line.Line.{Line}
use Rattle.grammar_spec.specs.declared.line.Line.TheVariants.{Blank, Write, Dump, BeginWrite, BeginErase, BeginDump}
use Rattle.grammar_spec.specs.declared.line.Line.TheVariants.{Step, Finish, Stop, Flip, Boot, BootPart}
use Rattle.grammar_spec.specs.declared.line.Line.TheVariants.{List as ListLine, Extract, Erase, KDump, CutAfter, KMsg}
use Rattle.grammar_spec.specs.declared.line.Line.TheVariants.{Crash, Reserve, StoreNext}
use Rattle.grammar_spec.specs.Fields.{Text}
use Rattle.grammar_spec.specs.Printed.{line_text, zone_text, payload_text, flag_text, reason_text}
use Rattle.script.specs.Writing.{word_text, tail_text, spaced}

joined : (word : Text) (fields : List Text) → word ++ spaced fields ≡ join_with_byte 0x20 (word ∷ fields)
joined word [] = append-nil word
joined word (f ∷ fs) = ap (λ t. word ++ 0x20 ∷ t) (joined f fs)

pub word_and_tail : (line : Line) → word_text line ++ tail_text line ≡ line_text line
unfolding line_text
word_and_tail Blank = refl
word_and_tail (Write z bytes) = joined (codes "write") (zone_text z ∷ payload_text bytes ∷ [])
word_and_tail (Dump t packed bytes) = joined (codes "dump")
    (decimal t.secs ∷ decimal t.micros ∷ flag_text packed ∷ payload_text bytes ∷ [])
word_and_tail (BeginWrite z bytes) = joined (codes "begin write") (zone_text z ∷ payload_text bytes ∷ [])
word_and_tail (BeginErase z) = joined (codes "begin erase") (zone_text z ∷ [])
word_and_tail (BeginDump t packed bytes) = joined (codes "begin dump")
    (decimal t.secs ∷ decimal t.micros ∷ flag_text packed ∷ payload_text bytes ∷ [])
word_and_tail (Step z k) = joined (codes "step") (zone_text z ∷ decimal k ∷ [])
word_and_tail (Finish z) = joined (codes "finish") (zone_text z ∷ [])
word_and_tail Stop = refl
word_and_tail (Flip place m) = joined (codes "flip") (decimal place ∷ decimal m ∷ [])
word_and_tail Boot = refl
word_and_tail (BootPart k) = joined (codes "boot") (decimal k ∷ [])
word_and_tail ListLine = refl
word_and_tail (Extract name) = joined (codes "extract") (name ∷ [])
word_and_tail (Erase name) = joined (codes "erase") (name ∷ [])
word_and_tail (KDump secs nanos packed reason bytes) =
    joined (codes "kdump") (decimal secs ∷ decimal nanos ∷ flag_text packed ∷ reason_text reason ∷ payload_text bytes
    ∷ [])
word_and_tail (CutAfter k) = joined (codes "cut") (decimal k ∷ [])
word_and_tail (KMsg bytes) = joined (codes "kmsg") (payload_text bytes ∷ [])
word_and_tail (Crash reason t) = joined (codes "crash") (reason_text reason ∷ decimal t.secs ∷ decimal t.micros ∷ [])
word_and_tail (Reserve bytes) = joined (codes "reserve") (payload_text bytes ∷ [])
word_and_tail (StoreNext ticket k) = joined (codes "store") (decimal ticket ∷ decimal k ∷ [])
