-- The words by which a kernel's lines are told apart, and runs of bytes
use Rattle.std.specs.Prelude.{ℕ, ◌+◌, Bool, not, ◌&&◌, ◌||◌, ◌==◌, nat_eq, nat_le, if◌then◌else◌, List, [], ◌∷◌, length}
use Rattle.std.specs.Prelude.{map, Option, Some, None, false}
use Rattle.std.specs.List.{starts_with, prefix_len}
use Rattle.std.specs.Option.{option_map, option_map_or}
use Rattle.death_spec.specs.declared.Mark.{Mark}
use Rattle.death_spec.specs.declared.Mark.TheVariants.{Panic, Fault, SoftLockup, HardLockup, StackOverflow}
use Rattle.death_spec.specs.declared.Mark.TheVariants.{SystemError, Oops, Warning, HungTask, Stall, End, Processor}
use Rattle.death_spec.specs.declared.Mark.TheVariants.{Place, Link, Kernel, Blocked, Offset, Unsure, Stack, Address}
use Rattle.death_spec.specs.declared.Mark.TheVariants.{Bare, Numbered, Own, Cut, Message, Locked}
use Rattle.death_spec.specs.declared.Mark.TheVariants.{OnTask, Caution, Warned, Listed}
use Rattle.death_spec.specs.declared.words.TheConstants.{WORDS}
use Rattle.death_spec.specs.declared.Class.{Class}
use Rattle.death_spec.specs.declared.Class.TheVariants.{Line, Blank, Word, Name, Symbol, Digit, Number}
use Rattle.death_spec.specs.declared.Class.TheVariants.{Colonless, Bracketed, Parameter}

-- marks are told apart by their place in the list of marks
abbrev pub number_of : Mark → ℕ
number_of Panic = 0
number_of Fault = 1
number_of SoftLockup = 2
number_of HardLockup = 3
number_of StackOverflow = 4
number_of SystemError = 5
number_of Oops = 6
number_of Warning = 7
number_of HungTask = 8
number_of Stall = 9
number_of End = 10
number_of Processor = 11
number_of Place = 12
number_of Link = 13
number_of Kernel = 14
number_of Blocked = 15
number_of Offset = 16
number_of Unsure = 17
number_of Stack = 18
number_of Address = 19
number_of Bare = 20
number_of Numbered = 21
number_of Own = 22
number_of Cut = 23
number_of Message = 24
number_of Locked = 25
number_of OnTask = 26
number_of Caution = 27
number_of Warned = 28
number_of Listed = 29

abbrev pub is_same : Mark → Mark → Bool
is_same a b = number_of a == number_of b

-- the rows of `WORDS`
abbrev pub rows : List (Mark × List ℕ)
rows = map (λ (row : Mark × record { now : List ℕ }). (row.0, row.1.now)) WORDS.now

-- the mark of the first row whose words the text begins with, and how many bytes these have
unfoldable pub front_in : List (Mark × List ℕ) → List ℕ → Option (Mark × ℕ)
front_in [] text = None
front_in (row ∷ rows) text =
    if starts_with nat_eq text row.1 then Some (row.0, length row.1) else front_in rows text

unfoldable pub front_of : List ℕ → Option (Mark × ℕ)
front_of text = front_in rows text

abbrev pub front_len : List ℕ → ℕ
front_len text = option_map_or (λ front. front.1) (front_of text) 0

abbrev pub mark_of : List ℕ → Option Mark
mark_of text = option_map (λ front. front.0) (front_of text)

abbrev pub is_mark : Mark → Option Mark → Bool
is_mark mark None = false
is_mark mark (Some found) = is_same found mark

-- whether the text begins with words of a mark
abbrev pub begins : Mark → List ℕ → Bool
begins mark text = is_mark mark (mark_of text)

-- the first place at which words of a mark stand, or the length
unfoldable pub place_of : Mark → List ℕ → ℕ
place_of mark [] = 0
place_of mark (b ∷ bs) = if begins mark (b ∷ bs) then 0 else 1 + place_of mark bs

abbrev pub is_blank : ℕ → Bool
is_blank b = b == 32 || b == 9

abbrev pub is_digit : ℕ → Bool
is_digit b = nat_le 48 b && nat_le b 57

-- no blank, plus sign or parenthesis
abbrev pub is_of_name : ℕ → Bool
is_of_name b = not (is_blank b || b == 43 || b == 40 || b == 41)

abbrev pub is_in : Class → ℕ → Bool
is_in Line b = not (b == 10)
is_in Blank b = is_blank b
is_in Word b = not (is_blank b)
is_in Name b = is_of_name b
is_in Symbol b = is_of_name b && not (b == 46)
is_in Digit b = is_digit b
is_in Number b = is_digit b || b == 46
is_in Colonless b = not (is_blank b || b == 58)
is_in Bracketed b = not (b == 93)
is_in Parameter b = nat_le 32 b && nat_le b 63

-- how many bytes at the front are of a class
abbrev pub run : Class → List ℕ → ℕ
run class text = prefix_len (is_in class) text
