-- The lines of a script that were done
use Rattle.std.proofs.Common.{◌≡◌, ℕ, zero, suc, ◌+◌, List, [], ◌∷◌, ◌++◌, length, take, Option, Some, None, Result, Ok}
use Rattle.std.proofs.Common.{Err, refl, sym, ap, ap₂, ◌∙◌, arith, append-nil, length-append}
use Rattle.std.specs.List.{fold}
use Rattle.zone_spec.specs.declared.Zone.{Zone}
use Rattle.grammar_spec.specs.Fields.{Text}
use Rattle.grammar_spec.specs.declared.line.Line.{Line}
use Rattle.script_spec.specs.Scripts.{Done, Ran, ran, ran_on, next_line, started, line_done}
use Rattle.script_spec.specs.declared.Cause.{Cause}
use Rattle.script_laws.proofs.Play.{Extends, extends_self, extends_on}
use Rattle.commands.specs.Headline.{done_lines}

-- after a refused line nothing changes
stuck : (layout : List Zone) (lines : List Line) (r : Ran) (c : Cause) → r.refused ≡ Some c
    → fold (next_line layout) r lines ≡ r
stuck layout [] r c e = refl
stuck layout (line ∷ lines) r c e =
    let same : next_line layout r line ≡ r =
    ap (λ (o : Option Cause). ran_on r o (line_done layout r.session r.kernel line)) e in
    ap (λ (x : Ran). fold (next_line layout) x lines) same ∙ stuck layout lines r c e

-- texts only grow
line_grows : (r : Ran) (c : Option Cause) (next : Result Done Cause) → Extends r.texts (ran_on r c next).texts
line_grows r (Some c) next = extends_self r.texts
line_grows r None (Ok d) = record { more = d.text ∷ []; is = refl }
line_grows r None (Err c) = extends_self r.texts

grows : (layout : List Zone) (lines : List Line) (r : Ran) → Extends r.texts (fold (next_line layout) r lines).texts
grows layout [] r = extends_self r.texts
grows layout (line ∷ lines) r =
    extends_on r.texts (next_line layout r line).texts (fold (next_line layout) (next_line layout r line) lines).texts
    (line_grows r r.refused (line_done layout r.session r.kernel line))
    (grows layout lines (next_line layout r line))

-- as many lines as texts came were done: none of them was refused, and their texts are all
pub record AreDone (r all : Ran) : Type 0 where
  pub none : r.refused ≡ None
  pub texts : r.texts ≡ all.texts

no_more : (xs more : List Text) → length (xs ++ more) ≡ length xs → xs ≡ xs ++ more
no_more xs [] e = sym (append-nil xs)
no_more xs (m ∷ ms) e = absurd (omega (arith, e, length-append xs (m ∷ ms)))

done_from : (layout : List Zone) (lines : List Line) (r : Ran) (n : ℕ) → r.refused ≡ None
    → length (fold (next_line layout) r lines).texts ≡ length r.texts + n
    → AreDone (fold (next_line layout) r (take n lines)) (fold (next_line layout) r lines)
done_from layout [] r n none e = rw (take-nil n) (record { none = none; texts = refl })
  where
    take-nil : (n : ℕ) → take {A = Line} n [] ≡ []
    take-nil zero = refl
    take-nil (suc n) = refl
done_from layout (line ∷ lines) r zero none e =
    let x = grows layout (line ∷ lines) r in
    record {
      none = none;
      texts = no_more r.texts x.more (ap length (sym x.is) ∙ e ∙ omega arith) ∙ sym x.is;
    }
done_from layout (line ∷ lines) r (suc n) none e =
    by (line_done layout r.session r.kernel line) refl (done_from layout lines (next_line layout r line) n)
  where
    by : (d : Result Done Cause) → line_done layout r.session r.kernel line ≡ d
        → ((next_line layout r line).refused ≡ None
        → length (fold (next_line layout) (next_line layout r line) lines).texts
        ≡ length (next_line layout r line).texts + n
        → AreDone (fold (next_line layout) (next_line layout r line) (take n lines))
        (fold (next_line layout) (next_line layout r line) lines))
        → AreDone (fold (next_line layout) r (take (suc n) (line ∷ lines))) (fold (next_line layout) r (line ∷ lines))
    by (Ok d) h more =
        let next : Ran = record {
          session = d.session;
          kernel = d.kernel;
          texts = r.texts ++ d.text ∷ [];
          refused = None;
        } in
        let same : next_line layout r line ≡ next =
        ap₂ (λ (o : Option Cause) (x : Result Done Cause). ran_on r o x) none h in
        more (ap (λ (x : Ran). x.refused) same)
        (e ∙ omega (arith, ap (λ (x : Ran). length x.texts) same, length-append r.texts (d.text ∷ [])))
    by (Err cause) h more =
        let same : next_line layout r line ≡ record r { refused = Some cause } =
        ap₂ (λ (o : Option Cause) (x : Result Done Cause). ran_on r o x) none h in
        let stays = stuck layout lines (next_line layout r line) cause (ap (λ (x : Ran). x.refused) same) in
        absurd (omega (
          arith,
          e,
          ap (λ (x : Ran). length x.texts) stays,
          ap (λ (x : Ran). length x.texts) same,
        ))

pub done_are : (layout : List Zone) (image : List ℕ) (lines : List Line)
    → AreDone (ran layout image (done_lines layout image lines)) (ran layout image lines)
done_are layout image lines =
    done_from layout lines (started layout image) (length (ran layout image lines).texts) refl (omega arith)

-- a front of a front of some lines is a front of the lines
pub front_take : (m n : ℕ) (lines : List Line) → (j : ℕ) × (take m (take n lines) ≡ take j lines)
front_take zero n lines = (zero, refl)
front_take (suc m) zero lines = (zero, refl)
front_take (suc m) (suc n) [] = (zero, refl)
front_take (suc m) (suc n) (line ∷ lines) =
    let r = front_take m n lines in (suc r.0, ap (λ (ls : List Line). line ∷ ls) r.1)
