-- Lists of so many fields
use Rattle.std.proofs.Common.{◌≡◌, ℕ, ◌<◌, List, [], ◌∷◌, length, Option, Some, None, refl, ap, ◌∙◌, arith}
use Rattle.std.proofs.Common.{false, ◌+◌}
use Rattle.std.specs.Prelude.{if◌then◌else◌}
use Rattle.grammar_spec.specs.declared.line.Line.TheVariants.{Blank}
use Rattle.grammar_spec.specs.Fields.{Text}
use Rattle.grammar_spec.specs.Groups.{one, two, three, four, five}
use Rattle.grammar_spec.specs.Rows.{begin_line, begin_row, row, line_of_fields}
use Rattle.grammar_spec.specs.Lines.{is_blank, fields_of, line_of, lines_from, with_line}

-- a field before others is no lone field
pub one_of_more : (a : Text) (fs : List Text) → 0 < length fs → one (a ∷ fs) ≡ None
one_of_more a [] h = absurd (omega arith)
one_of_more a (b ∷ fs) h = refl

abbrev onto_one : Text → Option (Text × Text) → Option (Text × Text × Text)
onto_one a (Some (b, c)) = Some (a, b, c)
onto_one a None = None

three_onto : (a : Text) (fs : List Text) → three (a ∷ fs) ≡ onto_one a (two fs)
three_onto a [] = refl
three_onto a (b ∷ []) = refl
three_onto a (b ∷ c ∷ []) = refl
three_onto a (b ∷ c ∷ d ∷ fs) = refl

-- a field before two
pub three_of_two : (fs gs : List Text) (a b c : Text) → fs ≡ a ∷ gs → two gs ≡ Some (b, c)
    → three fs ≡ Some (a, b, c)
three_of_two fs gs a b c h k = ap three h ∙ three_onto a gs ∙ ap (onto_one a) k

abbrev onto_two : Text → Text → Option (Text × Text) → Option (Text × Text × Text × Text)
onto_two a b (Some (c, d)) = Some (a, b, c, d)
onto_two a b None = None

four_onto : (a b : Text) (fs : List Text) → four (a ∷ b ∷ fs) ≡ onto_two a b (two fs)
four_onto a b [] = refl
four_onto a b (c ∷ []) = refl
four_onto a b (c ∷ d ∷ []) = refl
four_onto a b (c ∷ d ∷ e ∷ fs) = refl

abbrev onto_four : Text → Option (Text × Text × Text × Text) → Option (Text × Text × Text × Text × Text)
onto_four a (Some (b, c, d, e)) = Some (a, b, c, d, e)
onto_four a None = None

five_onto : (a : Text) (fs : List Text) → five (a ∷ fs) ≡ onto_four a (four fs)
five_onto a [] = refl
five_onto a (b ∷ []) = refl
five_onto a (b ∷ c ∷ []) = refl
five_onto a (b ∷ c ∷ d ∷ []) = refl
five_onto a (b ∷ c ∷ d ∷ e ∷ []) = refl
five_onto a (b ∷ c ∷ d ∷ e ∷ f ∷ fs) = refl

-- two fields before two
pub four_of_two : (fs gs hs : List Text) (a b c d : Text) → fs ≡ a ∷ gs → gs ≡ b ∷ hs → two hs ≡ Some (c, d)
    → four fs ≡ Some (a, b, c, d)
four_of_two fs gs hs a b c d e f h = ap four (e ∙ ap (λ t. a ∷ t) f) ∙ four_onto a b hs ∙ ap (onto_two a b) h

-- a field before four
pub five_of_four : (fs gs : List Text) (a b c d e : Text) → fs ≡ a ∷ gs → four gs ≡ Some (b, c, d, e)
    → five fs ≡ Some (a, b, c, d, e)
five_of_four fs gs a b c d e h k = ap five h ∙ five_onto a gs ∙ ap (onto_four a) k

-- a word before others
pub begin_of_more : (w : Text) (fs : List Text) → 0 < length fs → begin_line (w ∷ fs) ≡ begin_row w fs
unfolding begin_line
begin_of_more w [] h = absurd (omega arith)
begin_of_more w (f ∷ fs) h = refl

pub begin_of_one : (w : Text) → begin_line (w ∷ []) ≡ None
unfolding begin_line
begin_of_one w = refl

fields_of_more : (w : Text) (fs : List Text) → 0 < length fs → line_of_fields (w ∷ fs) ≡ row w fs
fields_of_more w [] h = absurd (omega arith)
fields_of_more w (f ∷ fs) h = refl

-- a line that is not blank is that of its fields
pub line_of_more : (text w : Text) (fs : List Text) → is_blank text ≡ false → fields_of text ≡ w ∷ fs → 0 < length fs
    → line_of text ≡ row w fs
unfolding line_of
line_of_more text w fs blank split more =
    ap (λ b. if b then Some Blank else line_of_fields (fields_of text)) blank ∙ ap line_of_fields split
    ∙ fields_of_more w fs more

-- the first of several texts is a line
pub lines_of_more : (n : ℕ) (text : Text) (ts : List Text) → 0 < length ts
    → lines_from n (text ∷ ts) ≡ with_line (line_of text) n (lines_from (n + 1) ts)
unfolding lines_from
lines_of_more n text [] h = absurd (omega arith)
lines_of_more n text (t ∷ ts) h = refl
