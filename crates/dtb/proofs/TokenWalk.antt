-- Where the walk over the tokens leads
use Rattle.std.proofs.Common.{◌≡◌, ℕ, zero, suc, ◌+◌, ◌<◌, ◌≤◌, ◌==◌, ◌&&◌, ◌++◌, Bool, true, false, List, [], ◌∷◌}
use Rattle.std.proofs.Common.{length, refl, ap, sym, ◌∙◌, arith, Result, Ok, Err}
use Rattle.std.specs.Prelude.{filter}
use Rattle.std.proofs.Math.Bool.{and-false}
use Rattle.std.proofs.lemmas.Bool.{lt-ltb, le-ltb}
use Rattle.std.proofs.lemmas.List.Elements.{filter-append}
use Rattle.dtb_spec.specs.Tokens.{token_at}
use Rattle.dtb_spec.specs.Trees.{Point, point, Next, On, Whole, begun, follow, step, walk, lines_of}
use Rattle.dtb_spec.specs.declared.Token.{Token}
use Rattle.dtb_spec.specs.declared.Fault.{Fault}
use Rattle.dtb_spec.specs.declared.Fault.TheVariants.{EndMissing}
use Rattle.dtb.specs.declared.DtbError.{DtbError}
use Rattle.dtb.specs.declared.DtbError.TheVariants.{Memory, Broken}
use Rattle.dtb.specs.declared.trees.Walk.{Walk}
use Rattle.dtb.specs.Walks.{point_of, lines_in, is_found, Holds, LeadsOn, LeadsOut, HasLines, Follows, GivesLines}

-- the nodes are those that the walk from here on finds, where so many tokens more may be read
pub record Ahead (structure strings : List ℕ) (w : Walk) : Type 0 where
  pub lines : List (List ℕ)
  pub holds : Holds structure strings w lines
  pub fuel : ℕ
  pub enough : length structure < w.at + fuel
  pub same : lines_of structure strings ≡ walk structure strings fuel (point_of w lines)

pub ahead_start : (structure strings : List ℕ) (w : Walk) → point_of w [] ≡ point 0 [] false false []
    → lines_in w.found ≡ [] → Ahead structure strings w
ahead_start structure strings w e g = record {
  lines = [];
  holds = record { found = g };
  fuel = length structure + 1;
  enough = (let at : w.at ≡ 0 = ap (λ p. p.at) e in omega arith);
  same = ap (walk structure strings (length structure + 1)) (sym e);
}

-- a fault, whether of the token or of what it says
pub walk_fault : (structure strings : List ℕ) (n : ℕ) (p : Point) (fault : Fault) → step structure strings p ≡ Err fault
    → walk structure strings (suc n) p ≡ Err fault
unfolding walk
walk_fault structure strings n p fault e = rw e refl

pub walk_on : (structure strings : List ℕ) (n : ℕ) (p q : Point) → step structure strings p ≡ Ok (On q)
    → walk structure strings (suc n) p ≡ walk structure strings n q
unfolding walk
walk_on structure strings n p q e = rw e refl

pub walk_out : (structure strings : List ℕ) (n : ℕ) (p : Point) (lines : List (List ℕ))
    → step structure strings p ≡ Ok (Whole lines)
    → walk structure strings (suc n) p ≡ Ok lines
unfolding walk
walk_out structure strings n p lines e = rw e refl

-- ---- one node more

pub not_root : (n : ℕ) (rooted : Bool) → rooted ≡ false → ((n == 0) && rooted) ≡ false
not_root n rooted e = ap (λ b. (n == 0) && b) e ∙ and-false (n == 0)

pub begun_on : (structure strings : List ℕ) (w new : Walk) (next : ℕ) (lines : List (List ℕ))
    → Holds structure strings w lines → ((length w.line.items == 0) && w.rooted) ≡ false → length w.line.items ≤ 63
    → new.line.items ≡ w.line.items ++ w.at ∷ []
    → lines_in new.found ≡ lines_in w.found ++ filter (is_found structure strings) (new.line.items ∷ [])
    → new.at ≡ next → new.may_have ≡ true → new.rooted ≡ true
    → LeadsOn structure strings (begun (point_of w lines) next) new
begun_on structure strings w new next lines h e few line found at may rooted = record {
  lines = lines ++ new.line.items ∷ [];
  holds = record {
    found = found ∙ ap (λ xs. xs ++ filter (is_found structure strings) (new.line.items ∷ [])) h.found
        ∙ sym (filter-append (is_found structure strings) lines (new.line.items ∷ []));
  };
  there = rw (e, le-ltb 63 (length w.line.items) few, at, line, may, rooted) refl;
}

-- ---- the walk

token_past : (structure strings : List ℕ) (at : ℕ) → length structure < at
    → token_at structure strings at ≡ Err EndMissing
unfolding token_at
token_past structure strings at h = rw (lt-ltb (length structure) (at + 4) (omega arith)) refl

walk_stop : (structure strings : List ℕ) (n : ℕ) (p : Point) (fault : Fault) → length structure < p.at + n
    → token_at structure strings p.at ≡ Err fault → walk structure strings n p ≡ Err fault
unfolding walk
walk_stop structure strings zero p fault h e =
    let past = token_past structure strings p.at (omega arith) in
    let is : EndMissing ≡ fault = cc in ap Err is
walk_stop structure strings (suc n) p fault h e = rw e refl

pub ahead_fault : (structure strings : List ℕ) (w : Walk) (fault : Fault) → Ahead structure strings w
    → token_at structure strings w.at ≡ Err fault → lines_of structure strings ≡ Err fault
ahead_fault structure strings w fault a e =
    a.same ∙ walk_stop structure strings a.fuel (point_of w a.lines) fault a.enough e

-- some tokens may be read yet
pub some : (structure : List ℕ) (at n : ℕ) → at < length structure → length structure < at + n → (m : ℕ) × (n ≡ suc m)
some structure at zero h g = absurd (omega arith)
some structure at (suc m) h g = (m, refl)

step_is : (structure strings : List ℕ) (p : Point) (token : Token) (next : ℕ) (read : Result Next Fault)
    → token_at structure strings p.at ≡ Ok (token, next) → follow p token next ≡ read → step structure strings p ≡ read
step_is structure strings p token next read e g = rw e g

pub follow_stop : (structure strings : List ℕ) (w new : Walk) (token : Token) (next : ℕ) (error : DtbError)
    → (a : Ahead structure strings w) → w.at < length structure → token_at structure strings w.at ≡ Ok (token, next)
    → Follows structure strings (follow (point_of w a.lines) token next) new (Err error)
    → GivesLines structure strings (Err error)
follow_stop structure strings w new token next Memory a h e f = tt
follow_stop structure strings w new token next (Broken fault) a h e f =
    let m = some structure w.at a.fuel h a.enough in
    a.same ∙ ap (λ n. walk structure strings n (point_of w a.lines)) m.1
    ∙ walk_fault structure strings m.0 (point_of w a.lines) fault
    (step_is structure strings (point_of w a.lines) token next (Err fault) e f)

pub follow_last : (structure strings : List ℕ) (read : Result Next Fault) (new : Walk) (last : Bool) → last ≡ true
    → Follows structure strings read new (Ok last) → LeadsOut structure strings read new
follow_last structure strings read new true e f = f
follow_last structure strings read new false e f = absurd (cc)

pub follow_more : (structure strings : List ℕ) (read : Result Next Fault) (new : Walk) (last : Bool) → last ≡ false
    → Follows structure strings read new (Ok last) → LeadsOn structure strings read new
follow_more structure strings read new true e f = absurd (cc)
follow_more structure strings read new false e f = f

pub ahead_out : (structure strings : List ℕ) (w new : Walk) (token : Token) (next : ℕ)
    → (a : Ahead structure strings w) → w.at < length structure → token_at structure strings w.at ≡ Ok (token, next)
    → LeadsOut structure strings (follow (point_of w a.lines) token next) new → HasLines structure strings new.found
ahead_out structure strings w new token next a h e out =
    let m = some structure w.at a.fuel h a.enough in
    record {
      lines = out.lines;
      read = a.same ∙ ap (λ n. walk structure strings n (point_of w a.lines)) m.1
          ∙ walk_out structure strings m.0 (point_of w a.lines) out.lines
          (step_is structure strings (point_of w a.lines) token next (Ok (Whole out.lines)) e out.there);
      kept = out.holds.found;
    }

pub ahead_on : (structure strings : List ℕ) (w new : Walk) (token : Token) (next : ℕ)
    → (a : Ahead structure strings w) → w.at < length structure → token_at structure strings w.at ≡ Ok (token, next)
    → w.at < new.at
    → LeadsOn structure strings (follow (point_of w a.lines) token next) new → Ahead structure strings new
ahead_on structure strings w new token next a h e further on =
    let m = some structure w.at a.fuel h a.enough in
    record {
      lines = on.lines;
      holds = on.holds;
      fuel = m.0;
      enough = (let is : a.fuel ≡ suc m.0 = m.1 in let enough = a.enough in omega arith);
      same = a.same ∙ ap (λ n. walk structure strings n (point_of w a.lines)) m.1
          ∙ walk_on structure strings m.0 (point_of w a.lines) (point_of new on.lines)
          (step_is structure strings (point_of w a.lines) token next (Ok (On (point_of new on.lines))) e on.there);
    }
