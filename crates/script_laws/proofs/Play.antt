-- A script's lines, done one by one
use Rattle.std.proofs.Common.{◌≡◌, ℕ, zero, suc, ◌+◌, ◌<◌, ◌≤◌, List, [], ◌∷◌, ◌++◌, length, take, get_or, Option, Some}
use Rattle.std.proofs.Common.{None, Result, Ok, Err, refl, sym, ap, ◌∙◌, arith, append_assoc, append-nil, length-append}
use Rattle.std.proofs.lemmas.List.Sums.{fold_more}
use Rattle.std.proofs.lemmas.List.Folds.{fold_stuck}
use Rattle.std.proofs.lemmas.Option.{slice_get_read}
use Rattle.std.proofs.lemmas.Grind.{common_steps}
use Rattle.std.proofs.Math.Seq.{take-append-add}
use Rattle.std.specs.List.{fold}
use Rattle.std.specs.Io.KnownBytes.{Appends}
use Rattle.std.proofs.KnownBytes.{Appends-nil, Appends-trans}
use Rattle.outside.specs.Outside.{AppendsFront}
use Rattle.zone_spec.specs.declared.Zone.{Zone}
use Rattle.machine_spec.specs.States.{Session}
use Rattle.grammar_spec.specs.Fields.{Text}
use Rattle.grammar_spec.specs.declared.line.Line.{Line}
use Rattle.script_spec.specs.Scripts.{Kernel, Done, Ran, ran, ran_on, next_line, started, line_done}
use Rattle.script_spec.specs.Texts.{front, whole}
use Rattle.script_spec.specs.declared.Cause.{Cause}
use Rattle.script_spec.specs.Playing.{PutSome, Played, PlayedTo, PlayedBefore, TakesMemory, StopsTaking}

-- text, and then the front of more
pub front_on : (a b c : Option (List ℕ)) (xs ys : List ℕ) → Appends a b xs → AppendsFront b c ys
    → AppendsFront a c (xs ++ ys)
front_on a b c xs ys h k = record {
  count = length xs + k.count;
  within = omega (arith, length-append xs ys, k.within);
  bytes = rw (take-append-add xs ys k.count) (Appends-trans a b c xs (take k.count ys) h k.bytes);
}

-- ---- texts only grow

pub record Extends (short long : List Text) : Type 0 where
  pub more : List Text
  pub is : long ≡ short ++ more

pub extends_self : (texts : List Text) → Extends texts texts
extends_self texts = record { more = []; is = sym (append-nil texts) }

pub extends_on : (a b c : List Text) → Extends a b → Extends b c → Extends a c
extends_on a b c h k = record {
  more = h.more ++ k.more;
  is = k.is ∙ ap (λ t. t ++ k.more) h.is
      ∙ append_assoc a h.more k.more;
}

line_extends : (r : Ran) (c : Option Cause) (next : Result Done Cause) → Extends r.texts (ran_on r c next).texts
line_extends r (Some c) next = extends_self r.texts
line_extends r None (Ok d) = record { more = d.text ∷ []; is = refl }
line_extends r None (Err c) = extends_self r.texts

fold_extends : (layout : List Zone) (lines : List Line) (r : Ran)
    → Extends r.texts (fold (next_line layout) r lines).texts
fold_extends layout [] r = extends_self r.texts
fold_extends layout (line ∷ lines) r =
    extends_on r.texts (next_line layout r line).texts (fold (next_line layout) (next_line layout r line) lines).texts
    (line_extends r r.refused (line_done layout r.session r.kernel line))
    (fold_extends layout lines (next_line layout r line))

take_extends : (layout : List Zone) (lines : List Line) (k : ℕ) (r : Ran)
    → Extends (fold (next_line layout) r (take k lines)).texts (fold (next_line layout) r lines).texts
take_extends layout lines zero r = fold_extends layout lines r
take_extends layout [] (suc k) r = extends_self r.texts
take_extends layout (line ∷ lines) (suc k) r = take_extends layout lines k (next_line layout r line)

-- the texts of the first k lines, end to end, are some first of all texts
pub front_of : (short long : List Text) → Extends short long → front long (length short) ≡ whole short
front_of short long h = rw h.is (grind (arith, common_steps))

prefix_front : (layout : List Zone) (image : List ℕ) (lines : List Line) (k : ℕ)
    → front (ran layout image lines).texts (length (ran layout image (take k lines)).texts)
    ≡ whole (ran layout image (take k lines)).texts
prefix_front layout image lines k = front_of (ran layout image (take k lines)).texts (ran layout image lines).texts
    (take_extends layout lines k (started layout image))

-- ---- one line more

on_done : (r : Ran) (c : Option Cause) (next : Result Done Cause) (d : Done) → c ≡ None → next ≡ Ok d
    → ran_on r c next ≡ record {
      session = d.session;
      kernel = d.kernel;
      texts = r.texts ++ d.text ∷ [];
      refused = None;
    }
on_done r c next d e h = rw (e, h) refl

on_refused : (r : Ran) (c : Option Cause) (next : Result Done Cause) (cause : Cause) → c ≡ None → next ≡ Err cause
    → ran_on r c next ≡ record r { refused = Some cause }
on_refused r c next cause e h = rw (e, h) refl

-- a line that is refused ends the script
refused_at : (layout : List Zone) (image : List ℕ) (lines : List Line) (i : ℕ) (line : Line) (cause : Cause)
    → i < length lines → line ≡ get_or lines i line → (ran layout image (take i lines)).refused ≡ None
    → line_done layout (ran layout image (take i lines)).session
    (ran layout image (take i lines)).kernel line ≡ Err cause
    → ran layout image lines ≡ record (ran layout image (take i lines)) { refused = Some cause }
refused_at layout image lines i line cause h is e g =
    let r = ran layout image (take i lines) in
    let now : next_line layout r (get_or lines i line) ≡ record r { refused = Some cause } =
    rw (← is) (on_refused r r.refused (line_done layout r.session r.kernel line) cause e g) in
    sym (fold_stuck (next_line layout) (record r { refused = Some cause }) (λ x. refl) (started layout image)
    lines i line h now)

-- a line that is done is the next of the script
done_at : (layout : List Zone) (image : List ℕ) (lines : List Line) (i : ℕ) (line : Line) (d : Done)
    → i < length lines → line ≡ get_or lines i line → (ran layout image (take i lines)).refused ≡ None
    → line_done layout (ran layout image (take i lines)).session
    (ran layout image (take i lines)).kernel line ≡ Ok d
    → ran layout image (take (i + 1) lines) ≡ record {
      session = d.session;
      kernel = d.kernel;
      texts = (ran layout image (take i lines)).texts ++ d.text ∷ [];
      refused = None;
    }
done_at layout image lines i line d h is e g =
    let r = ran layout image (take i lines) in
    let now : next_line layout r (get_or lines i line) ≡ record {
      session = d.session;
      kernel = d.kernel;
      texts = r.texts ++ d.text ∷ [];
      refused = None;
    } = rw (← is) (on_done r r.refused (line_done layout r.session r.kernel line) d e g) in
    fold_more (next_line layout) (started layout image) lines i line h ∙ now

pub whole_more : (texts : List Text) (text : Text) → whole (texts ++ text ∷ []) ≡ whole texts ++ text
whole_more texts text = grind (arith, common_steps)

-- nothing is done yet
pub played_none : (layout : List Zone) (image : List ℕ) (lines : List Line) (given : Option (List ℕ))
    → PlayedTo layout image lines 0 (started layout image).session (started layout image).kernel given given
played_none layout image lines given = record {
  count = refl;
  kernel_is = refl;
  so_far = record { state = refl; none = refl; texts = Appends-nil given };
}

-- one line more was done, and its text put
pub played_on : (layout : List Zone) (image : List ℕ) (lines : List Line) (i : ℕ) (line : Line)
    (session next : Session) (kernel kernel' : Kernel) (text bytes : List ℕ) (a b c : Option (List ℕ))
    → i < length lines → line ≡ get_or lines i line → PlayedTo layout image lines i session kernel a b
    → line_done layout session kernel line ≡ Ok (record { session = next; kernel = kernel'; text = text })
    → bytes ≡ text → Appends b c bytes → PlayedTo layout image lines (i + 1) next kernel' a c
played_on layout image lines i line session next kernel kernel' text bytes a b c h is p g same put =
    let r = ran layout image (take i lines) in
    let e = done_at layout image lines i line (record { session = next; kernel = kernel'; text = text }) h is
    p.so_far.none (rw (p.so_far.state, p.kernel_is) g) in
    record {
      kernel_is = rw e refl;
      count = rw e (omega (arith, length-append r.texts (text ∷ []), p.count));
      so_far = record {
        state = rw e refl;
        none = rw e refl;
        texts = rw (e, whole_more r.texts text) (Appends-trans a b c (whole r.texts) text p.so_far.texts (rw same at put));
      };
    }

take_all_lines : (lines : List Line) (i : ℕ) → length lines ≤ i → take i lines ≡ lines
take_all_lines lines i h = grind (arith, common_steps)

-- all lines were done
pub played_all : (layout : List Zone) (image : List ℕ) (lines : List Line) (i : ℕ) (session : Session)
    (kernel : Kernel) (a b : Option (List ℕ)) → length lines ≤ i → PlayedTo layout image lines i session kernel a b
    → Played layout image lines session a b
played_all layout image lines i session kernel a b h p = rw (take_all_lines lines i h) at p.so_far

-- the texts of some first lines are no more than all
no_more : (short long : List Text) → Extends short long → length short ≤ length long
no_more short long h = rw h.is (omega (arith, length-append short h.more))

-- a line that takes memory found none, and is not refused
pub stopped_taking : (layout : List Zone) (image : List ℕ) (lines : List Line) (i : ℕ) (line : Line)
    (d : Done) (session : Session) (kernel : Kernel) (a b : Option (List ℕ)) → i < length lines → line ≡ get_or lines i line
    → PlayedTo layout image lines i session kernel a b → line_done layout session kernel line ≡ Ok d
    → TakesMemory line → StopsTaking layout image lines a b
stopped_taking layout image lines i line d session kernel a b h is p g takes =
    let r = ran layout image (take i lines) in
    let e = done_at layout image lines i line d h is p.so_far.none (rw (p.so_far.state, p.kernel_is) g) in
    let one : length (ran layout image (take (i + 1) lines)).texts ≡ i + 1 =
    rw e (omega (arith, length-append r.texts (d.text ∷ []), p.count)) in
    record {
      count = i;
      line = line;
      next = slice_get_read lines (length lines) i line refl h is;
      wanted = omega (
        arith,
        one,
        no_more (ran layout image (take (i + 1) lines)).texts (ran layout image lines).texts
            (take_extends layout lines (i + 1) (started layout image)),
      );
      takes = takes;
      bytes = rw (← p.count, prefix_front layout image lines i) p.so_far.texts;
    }

-- a line was refused
pub stopped_refused : (layout : List Zone) (image : List ℕ) (lines : List Line) (i : ℕ) (line : Line) (cause : Cause)
    (session : Session) (kernel : Kernel) (a b : Option (List ℕ)) → i < length lines → line ≡ get_or lines i line
    → PlayedTo layout image lines i session kernel a b → line_done layout session kernel line ≡ Err cause
    → PlayedBefore layout image lines (i + 1) cause a b
stopped_refused layout image lines i line cause session kernel a b h is p g =
    let e = refused_at layout image lines i line cause h is p.so_far.none (rw (p.so_far.state, p.kernel_is) g) in
    record { number = rw (e, p.count) refl; refused = rw e refl; texts = rw e p.so_far.texts }

-- a text was put in part
pub stopped_put : (layout : List Zone) (image : List ℕ) (lines : List Line) (i : ℕ) (line : Line)
    (session next : Session) (kernel kernel' : Kernel) (text bytes : List ℕ) (a b c : Option (List ℕ))
    → i < length lines → line ≡ get_or lines i line → PlayedTo layout image lines i session kernel a b
    → line_done layout session kernel line ≡ Ok (record { session = next; kernel = kernel'; text = text })
    → bytes ≡ text → AppendsFront b c bytes → PutSome (ran layout image lines).texts a c
stopped_put layout image lines i line session next kernel kernel' text bytes a b c h is p g same put =
    let r = ran layout image (take i lines) in
    let e = done_at layout image lines i line (record { session = next; kernel = kernel'; text = text }) h is
    p.so_far.none (rw (p.so_far.state, p.kernel_is) g) in
    let all : whole (ran layout image (take (i + 1) lines)).texts ≡ whole r.texts ++ text =
    rw e (whole_more r.texts text) in
    record {
      count = length (ran layout image (take (i + 1) lines)).texts;
      bytes = rw (prefix_front layout image lines (i + 1), all)
          (front_on a b c (whole r.texts) text p.so_far.texts (rw same at put));
    }

-- ---- the text of a line among all texts

-- a script that is not refused was not refused at any line before
refused_stays : (r : Ran) (next : Result Done Cause) (c : Option Cause) → r.refused ≡ c
    → (ran_on r c next).refused ≡ None → r.refused ≡ None
refused_stays r next (Some cause) e h = h
refused_stays r next None e h = e

still_done : (layout : List Zone) (lines : List Line) (r : Ran) → (fold (next_line layout) r lines).refused ≡ None
    → r.refused ≡ None
still_done layout [] r h = h
still_done layout (line ∷ lines) r h =
    refused_stays r (line_done layout r.session r.kernel line) r.refused refl
    (still_done layout lines (next_line layout r line) h)

take_done : (layout : List Zone) (lines : List Line) (k : ℕ) (r : Ran)
    → (fold (next_line layout) r lines).refused ≡ None → (fold (next_line layout) r (take k lines)).refused ≡ None
take_done layout lines zero r h = still_done layout lines r h
take_done layout [] (suc k) r h = h
take_done layout (line ∷ lines) (suc k) r h = take_done layout lines k (next_line layout r line) h

-- each line that was done has a text
one_text : (r : Ran) (c : Option Cause) (next : Result Done Cause) → r.refused ≡ c → (ran_on r c next).refused ≡ None
    → length (ran_on r c next).texts ≡ length r.texts + 1
one_text r (Some cause) next e h = let clash : Some cause ≡ None = sym e ∙ h in absurd (cc)
one_text r None (Ok d) e h = omega (arith, length-append r.texts (d.text ∷ []))
one_text r None (Err cause) e h = absurd (cc)

texts_counted : (layout : List Zone) (lines : List Line) (k : ℕ) (r : Ran) → k ≤ length lines
    → (fold (next_line layout) r (take k lines)).refused ≡ None
    → length (fold (next_line layout) r (take k lines)).texts ≡ length r.texts + k
texts_counted layout lines zero r le h = omega arith
texts_counted layout [] (suc k) r le h = absurd (omega (arith, le))
texts_counted layout (line ∷ lines) (suc k) r le h =
    let next = next_line layout r line in
    let one = one_text r r.refused (line_done layout r.session r.kernel line) refl
    (still_done layout (take k lines) next h) in
    let more = texts_counted layout lines k next (omega (arith, le)) h in omega (arith, one, more)

-- all texts end to end, with that of the k-th line among them
pub record TextAt (all : List Text) (k : ℕ) (text : Text) : Type 0 where
  pub more : Text
  pub is : whole all ≡ front all k ++ text ++ more

text_among : (before all more : List Text) (k : ℕ) (text : Text) → length before ≡ k
    → all ≡ (before ++ text ∷ []) ++ more → TextAt all k text
text_among before all more k text n e = record {
  more = whole more;
  is = rw (e, ← n) (grind (arith, common_steps));
}

-- where no line was refused, the text of each stands in its place
pub text_at : (layout : List Zone) (image : List ℕ) (lines : List Line) (k : ℕ) (line : Line) (d : Done)
    → k < length lines → line ≡ get_or lines k line → (ran layout image lines).refused ≡ None
    → line_done layout (ran layout image (take k lines)).session
    (ran layout image (take k lines)).kernel line ≡ Ok d
    → TextAt (ran layout image lines).texts k d.text
text_at layout image lines k line d h is none g =
    let first = started layout image in
    let quiet = take_done layout lines k first none in
    let e = done_at layout image lines k line d h is quiet g in
    let count = texts_counted layout lines k first (omega (arith, h)) quiet in
    let x = take_extends layout lines (k + 1) first in
    text_among (ran layout image (take k lines)).texts (ran layout image lines).texts x.more k d.text
    (count ∙ omega arith) (x.is ∙ ap (λ (r : Ran). r.texts ++ x.more) e)
