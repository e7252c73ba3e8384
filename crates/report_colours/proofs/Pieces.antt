-- What a sink is given piece by piece. For `put_line` and `put_coloured`.
use Rattle.std.proofs.Common.{◌≡◌, ℕ, ◌+◌, ◌≤◌, ◌<◌, Bool, true, false, ◌||◌, List, [], ◌∷◌, ◌++◌, length, take, drop}
use Rattle.std.proofs.Common.{map, Option, Some, None, Result, Ok, Err, MatchResult, refl, sym, ap, ◌∙◌, append_assoc}
use Rattle.std.proofs.Common.{append-nil, arith, length-append, All, Bor, nat_lt}
use Rattle.std.proofs.KnownBytes.{Appends-trans, Appends-nil}
use Rattle.std.proofs.lemmas.Bool.{le-ltb, ltb-true, ltb-false}
use Rattle.std.proofs.Math.Seq.{take-append-add}
use Rattle.std.proofs.lemmas.List.{take-append-le, take_all, length-map}
use Rattle.std.proofs.lemmas.List.Elements.{All-cons, All-nil}
use Rattle.std.proofs.lemmas.List.Splits.{slice_split_first, slice_split_none, length-slice_split}
use Rattle.std.specs.Option.{option_copied}
use Rattle.std.specs.List.{slice_split, position_or_len, before_first, after_first, join_with_byte, list_any}
use Rattle.std.specs.Io.KnownBytes.{Appends}
use Rattle.outside.specs.Outside.{AppendsFront}
use Rattle.outside.specs.declared.outside.Failed.{Failed}
use Rattle.ramoops_layout.proofs.Texts.{any_before_end}
use Rattle.report_colours.specs.Colours.{in_colour, no_colour, colour_of, coloured_line, coloured, is_newline}

-- a front of a piece is a front of what begins with it
pub front_of_more : (a b : Option (List ℕ)) (xs ys : List ℕ) → AppendsFront a b xs → AppendsFront a b (xs ++ ys)
front_of_more a b xs ys h = record {
  count = h.count;
  within = omega (arith, h.within, length-append xs ys);
  bytes = rw (take-append-le h.count xs ys h.within) h.bytes;
}

-- a front of a later piece, behind the whole earlier one
pub front_behind : (a b c : Option (List ℕ)) (xs ys : List ℕ) → Appends a b xs → AppendsFront b c ys
    → AppendsFront a c (xs ++ ys)
front_behind a b c xs ys h k = record {
  count = length xs + k.count;
  within = omega (arith, k.within, length-append xs ys);
  bytes = rw (take-append-add xs ys k.count) (Appends-trans a b c xs (take k.count ys) h k.bytes);
}

none_passes : (q : ℕ → Bool) (xs : List ℕ) → list_any q xs ≡ false → All (λ x. q x ≡ false) xs
none_passes q [] e = All-nil (λ y. q y ≡ false)
none_passes q (x ∷ xs) e =
    let both = neither (q x) (list_any q xs) e in All-cons (λ y. q y ≡ false) x xs both.0 (none_passes q xs both.1)
  where
    neither : (a b : Bool) → (a || b) ≡ false → (a ≡ false) × (b ≡ false)
    neither true b e = cc
    neither false b e = (refl, e)

joined : (line : List ℕ) (lines : List (List ℕ)) → 0 < length lines
    → join_with_byte 10 (line ∷ lines) ≡ line ++ 10 ∷ join_with_byte 10 lines
joined line [] h = absurd (omega (arith, h))
joined line (next ∷ lines) h = refl

-- a text's first line, and the rest
pub first_coloured : (text : List ℕ) (end : ℕ) → end ≡ position_or_len is_newline text → end < length text
    → coloured text ≡ coloured_line (take end text) ++ 10 ∷ coloured (drop (end + 1) text)
unfolding coloured
first_coloured text end is_end inside =
    rw is_end
    (ap (λ ls. join_with_byte 10 (map coloured_line ls)) (slice_split_first is_newline text 0 (rw (← is_end) inside))
    ∙ joined (coloured_line (before_first is_newline text))
    (map coloured_line (slice_split is_newline (after_first is_newline text)))
    (omega (
      arith,
      length-map (slice_split is_newline (after_first is_newline text)) coloured_line,
      length-slice_split is_newline (after_first is_newline text),
    )))

-- the last line
pub last_coloured : (text : List ℕ) (end : ℕ) → end ≡ position_or_len is_newline text → end ≡ length text
    → coloured text ≡ coloured_line (take end text)
unfolding coloured
last_coloured text end is_end last =
    ap (λ ls. join_with_byte 10 (map coloured_line ls)) (slice_split_none is_newline text
    (none_passes is_newline text (any_before_end is_newline text
    ∙ le-ltb (position_or_len is_newline text) (length text) (omega (arith, is_end, last)))))
    ∙ ap coloured_line (sym (take_all end text (omega (arith, last))))

-- what was given of a text, of which a rest is left
pub record IsGiven (a b : Option (List ℕ)) (text rest : List ℕ) : Type 0 where
  pub done : List ℕ
  pub bytes : Appends a b done
  pub whole : done ++ coloured rest ≡ coloured text

pub none_given : (a : Option (List ℕ)) (text : List ℕ) → IsGiven a a text text
none_given a text = record { done = []; bytes = Appends-nil a; whole = refl }

-- the line that ends here was given
pub line_given : (a b c d : Option (List ℕ)) (text rest : List ℕ) (end : ℕ) → end ≡ position_or_len is_newline rest
    → end < length rest → IsGiven a b text rest → Appends b c (coloured_line (take end rest)) → Appends c d (10 ∷ [])
    → IsGiven a d text (drop (end + 1) rest)
line_given a b c d text rest end is_end inside so_far h k = record {
  done = so_far.done ++ (coloured_line (take end rest) ++ 10 ∷ []);
  bytes = Appends-trans a b d so_far.done (coloured_line (take end rest) ++ 10 ∷ []) so_far.bytes
      (Appends-trans b c d (coloured_line (take end rest)) (10 ∷ []) h k);
  whole = append_assoc so_far.done (coloured_line (take end rest) ++ 10 ∷ []) (coloured (drop (end + 1) rest))
      ∙ ap (λ t. so_far.done ++ t) (append_assoc (coloured_line (take end rest)) (10 ∷ [])
      (coloured (drop (end + 1) rest)) ∙ sym (first_coloured rest end is_end inside))
      ∙ so_far.whole;
}

-- the last line was given
pub all_given : (a b c : Option (List ℕ)) (text rest : List ℕ) (end : ℕ) → end ≡ position_or_len is_newline rest
    → end ≡ length rest → IsGiven a b text rest → Appends b c (coloured_line (take end rest))
    → Appends a c (coloured text)
all_given a b c text rest end is_end last so_far h =
    rw (sym (ap (λ t. so_far.done ++ t) (sym (last_coloured rest end is_end last)) ∙ so_far.whole))
    (Appends-trans a b c so_far.done (coloured_line (take end rest)) so_far.bytes h)

-- a line was given in part
pub line_broken : (a b c : Option (List ℕ)) (text rest : List ℕ) (end : ℕ) → end ≡ position_or_len is_newline rest
    → end ≤ length rest → IsGiven a b text rest → AppendsFront b c (coloured_line (take end rest))
    → AppendsFront a c (coloured text)
line_broken a b c text rest end is_end within so_far h =
    rw (← so_far.whole) (front_behind a b c so_far.done (coloured rest) so_far.bytes (more (nat_lt end (length rest)) refl))
  where
    more : (t : Bool) → nat_lt end (length rest) ≡ t → AppendsFront b c (coloured rest)
    more true e = rw (first_coloured rest end is_end (ltb-true _ _ e))
        (front_of_more b c (coloured_line (take end rest)) (10 ∷ coloured (drop (end + 1) rest)) h)
    more false e = rw (last_coloured rest end is_end (omega (arith, within, ltb-false _ _ e))) h

-- its newline was not given
pub newline_broken : (a b c d : Option (List ℕ)) (text rest : List ℕ) (end : ℕ)
    → end ≡ position_or_len is_newline rest → end < length rest → IsGiven a b text rest
    → Appends b c (coloured_line (take end rest)) → AppendsFront c d (10 ∷ []) → AppendsFront a d (coloured text)
newline_broken a b c d text rest end is_end inside so_far h k =
    rw (← so_far.whole) (front_behind a b d so_far.done (coloured rest) so_far.bytes
    (rw (first_coloured rest end is_end inside)
    (front_behind b c d (coloured_line (take end rest)) (10 ∷ coloured (drop (end + 1) rest)) h
    (front_of_more c d (10 ∷ []) (coloured (drop (end + 1) rest)) k))))

-- a line in its colour
pub line_in : (line : List ℕ) (o : Option (Bor (List ℕ))) (colour : Bor (List ℕ)) → option_copied o ≡ colour_of line
    → o ≡ Some colour → coloured_line line ≡ (colour.now ++ line) ++ no_colour
line_in line o colour e is =
    ap (λ c. in_colour c line) (sym e ∙ ap option_copied is)

pub line_out : (line : List ℕ) (o : Option (Bor (List ℕ))) → option_copied o ≡ colour_of line → o ≡ None
    → coloured_line line ≡ line
line_out line o e is = ap (λ c. in_colour c line) (sym e ∙ ap option_copied is)

-- the last piece
pub last_put : (a b c : Option (List ℕ)) (xs ys : List ℕ) (r : Result Unit Failed) → Appends a b xs
    → MatchResult r (λ _. Appends b c ys) (λ _. AppendsFront b c ys)
    → MatchResult r (λ _. Appends a c (xs ++ ys)) (λ _. AppendsFront a c (xs ++ ys))
last_put a b c xs ys (Ok x) h k = Appends-trans a b c xs ys h k
last_put a b c xs ys (Err e) h k = front_behind a b c xs ys h k
