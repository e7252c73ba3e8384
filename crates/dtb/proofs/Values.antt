-- A search of a property
use Rattle.std.proofs.Common.{◌≡◌, ℕ, zero, suc, ◌+◌, ◌<◌, List, [], length, refl, ap, sym, ◌∙◌, arith, Some, None}
use Rattle.std.proofs.Common.{true, false, Ok, Err}
use Rattle.std.specs.Str.{bytes_eq}
use Rattle.dtb_spec.specs.Cells.{span_of}
use Rattle.dtb_spec.specs.Tokens.{token_at}
use Rattle.dtb_spec.specs.Properties.{properties_from, value_among, with_token}
use Rattle.dtb_spec.specs.declared.Property.{Property}
use Rattle.dtb_spec.specs.declared.Token.{Token}
use Rattle.dtb_spec.specs.declared.Token.TheVariants.{Prop, Nop}
use Rattle.dtb_spec.specs.declared.Fault.{Fault}

-- the value sought from a place on is the one sought from another on, where so many tokens more may be read
pub record Sought (structure strings key : List ℕ) (from at : ℕ) : Type 0 where
  pub fuel : ℕ
  pub enough : length structure < at + fuel
  pub same : value_among strings key (properties_from structure strings (length structure + 1) from)
      ≡ value_among strings key (properties_from structure strings fuel at)

pub sought_start : (structure strings key : List ℕ) (from : ℕ) → Sought structure strings key from from
sought_start structure strings key from = record { fuel = length structure + 1; enough = omega arith; same = refl }

-- what one token more says, if it is not after the end
read_one : (structure strings key : List ℕ) (from at fuel : ℕ) (t : Token × ℕ) → at < length structure
    → length structure < at + fuel → token_at structure strings at ≡ Ok t
    → (n : ℕ) × (fuel ≡ suc n) ×
    (properties_from structure strings fuel at ≡ with_token t.0 (properties_from structure strings n t.1))
unfolding properties_from
read_one structure strings key from at zero t h enough e = absurd (omega arith)
read_one structure strings key from at (suc n) t h enough e = (n, refl, rw e refl)

pub sought_hit : (structure strings key : List ℕ) (from at next : ℕ) (p : Property) → at < length structure
    → token_at structure strings at ≡ Ok (Prop p, next) → bytes_eq (span_of strings p.name) key ≡ true
    → Sought structure strings key from at
    → Some p.value ≡ value_among strings key (properties_from structure strings (length structure + 1) from)
sought_hit structure strings key from at next p h e g s =
    let r = read_one structure strings key from at s.fuel (Prop p, next) h s.enough e in
    sym (s.same ∙ ap (value_among strings key) r.2 ∙ rw g refl)

pub sought_other : (structure strings key : List ℕ) (from at next : ℕ) (p : Property) → at < length structure
    → token_at structure strings at ≡ Ok (Prop p, next) → bytes_eq (span_of strings p.name) key ≡ false → at < next
    → Sought structure strings key from at → Sought structure strings key from next
sought_other structure strings key from at next p h e g l s =
    let r = read_one structure strings key from at s.fuel (Prop p, next) h s.enough e in
    record {
      fuel = r.0;
      enough = (let is : s.fuel ≡ suc r.0 = r.1 in let enough = s.enough in omega arith);
      same = s.same ∙ ap (value_among strings key) r.2 ∙ rw g refl;
    }

pub sought_nop : (structure strings key : List ℕ) (from at next : ℕ) → at < length structure
    → token_at structure strings at ≡ Ok (Nop, next) → at < next
    → Sought structure strings key from at → Sought structure strings key from next
sought_nop structure strings key from at next h e l s =
    let r = read_one structure strings key from at s.fuel (Nop, next) h s.enough e in
    record {
      fuel = r.0;
      enough = (let is : s.fuel ≡ suc r.0 = r.1 in let enough = s.enough in omega arith);
      same = s.same ∙ ap (value_among strings key) r.2;
    }

-- nothing follows a token that begins or ends a node, or a fault
pub sought_end : (structure strings key : List ℕ) (from at next : ℕ) (token : Token) → at < length structure
    → token_at structure strings at ≡ Ok (token, next) → ((rest : List Property) → with_token token rest ≡ [])
    → Sought structure strings key from at
    → None ≡ value_among strings key (properties_from structure strings (length structure + 1) from)
sought_end structure strings key from at next token h e ends s =
    let r = read_one structure strings key from at s.fuel (token, next) h s.enough e in
    sym (s.same ∙ ap (value_among strings key) (r.2 ∙ ends (properties_from structure strings r.0 next)))

no_more : (structure strings : List ℕ) (at fuel : ℕ) (fault : Fault) → token_at structure strings at ≡ Err fault
    → properties_from structure strings fuel at ≡ []
unfolding properties_from
no_more structure strings at zero fault e = refl
no_more structure strings at (suc n) fault e = rw e refl

pub sought_fault : (structure strings key : List ℕ) (from at : ℕ) (fault : Fault)
    → token_at structure strings at ≡ Err fault → Sought structure strings key from at
    → None ≡ value_among strings key (properties_from structure strings (length structure + 1) from)
sought_fault structure strings key from at fault e s =
    sym (s.same ∙ ap (value_among strings key) (no_more structure strings at s.fuel fault e))
