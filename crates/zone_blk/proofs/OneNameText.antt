-- The listed record that a text names: no two names have one text
use Rattle.std.proofs.Common.{◌≡◌, ◌≢◌, ℕ, zero, suc, ◌*◌, ◌^◌, ◌<◌, ◌≤◌, Bool, true, false, not, ◌==◌, if◌then◌else◌}
use Rattle.std.proofs.Common.{List, [], ◌∷◌, ◌++◌, codes, map, get_or, Option, Some, None, refl, sym, ap, ap₂, subst}
use Rattle.std.proofs.Common.{◌∙◌, arith, append_assoc, eq-eqb, ◌||◌}
use Rattle.std.specs.Prelude.{decimal, bytes_eq, nat_lt}
use Rattle.std.specs.List.{All, find, list_any, list_all}
use Rattle.std.specs.Str.{IsAscii, IsUtf8}
use Rattle.std.proofs.lemmas.Bool.{true≢false, and_parts}
use Rattle.std.proofs.lemmas.Bool.Decides.{Decides-eqb}
use Rattle.std.proofs.lemmas.Fmt.{decimal_injective, IsAscii-decimal}
use Rattle.std.proofs.lemmas.List.{append-nil, append_cancel_left, append_cancel_right}
use Rattle.std.proofs.lemmas.List.Elements.{All-append, All-map}
use Rattle.std.proofs.lemmas.Slice.Eq.{bytes_eq-Decides}
use Rattle.std.proofs.lemmas.Str.{IsAscii-append, IsUtf8-from_ascii}
use Rattle.std.proofs.lemmas.Str.Ascii.{IsAscii-nil, IsAscii-cons}
use borrow.Author.Tests.{ltb-true}
use Rattle.blk_spec.specs.declared.BlkName.{BlkName}
use Rattle.blk_spec.specs.declared.BlkName.TheVariants.{Dump, Console, Pmsg}
use Rattle.blk_spec.specs.Names.{name_text, IsName, IsNameOf, is_name, dump_name}
use Rattle.blk_spec.specs.States.{BlkState, names_of, name_if}
use Rattle.zone_blk.specs.Answering.{IsLoadedState}
use Rattle.zone_blk.specs.Decimals.{dump_ending}
use Rattle.zone_blk.proofs.Texts.{ending, front, plain-not-packed}

-- ---- names and their texts

same-ending : (i j : ℕ) (p q : Bool) → i < 2 ^ 32 → j < 2 ^ 32 → dump_ending i p ≡ dump_ending j q
    → ◌≡◌ {A = BlkName} (Dump i p) (Dump j q)
same-ending i j true true small other e =
    ap (λ n. Dump n true) (decimal_injective i j (omega arith) (omega arith)
    (append_cancel_right (decimal i) (decimal j) ending e))
same-ending i j false false small other e =
    ap (λ n. Dump n false) (decimal_injective i j (omega arith) (omega arith)
    (sym (append-nil (decimal i)) ∙ e ∙ append-nil (decimal j)))
same-ending i j true false small other e =
    absurd (plain-not-packed j (decimal i) other (sym (append-nil (decimal j)) ∙ sym e))
same-ending i j false true small other e =
    absurd (plain-not-packed i (decimal j) small (sym (append-nil (decimal i)) ∙ e))

apart : (m n : BlkName) (a b : ℕ) → name_text m ≡ name_text n → get_or (name_text m) 0 0 ≡ a
    → get_or (name_text n) 0 0 ≡ b → a ≢ b → m ≡ n
apart m n a b e first second differ =
    absurd (differ (sym first ∙ ap (λ (xs : List ℕ). get_or xs 0 0) e ∙ second))

pub same-text : (m n : BlkName) → IsName m → IsName n → name_text m ≡ name_text n → m ≡ n
same-text (Dump i p) (Dump j q) small other e =
    same-ending i j p q small other (append_cancel_left front (dump_ending i p) (dump_ending j q)
    (sym (append_assoc front (decimal i) (if p then ending else [])) ∙ e
    ∙ append_assoc front (decimal j) (if q then ending else [])))
same-text (Dump i p) Console small other e = apart (Dump i p) Console 100 99 e refl refl (λ h. omega (arith, h))
same-text (Dump i p) Pmsg small other e = apart (Dump i p) Pmsg 100 112 e refl refl (λ h. omega (arith, h))
same-text Console (Dump j q) small other e = apart Console (Dump j q) 99 100 e refl refl (λ h. omega (arith, h))
same-text Console Console small other e = refl
same-text Console Pmsg small other e = apart Console Pmsg 99 112 e refl refl (λ h. omega (arith, h))
same-text Pmsg (Dump j q) small other e = apart Pmsg (Dump j q) 112 100 e refl refl (λ h. omega (arith, h))
same-text Pmsg Console small other e = apart Pmsg Console 112 99 e refl refl (λ h. omega (arith, h))
same-text Pmsg Pmsg small other e = refl

-- ---- the same name

flag-same : (packed : Bool) → (if packed then packed else not packed) ≡ true
flag-same true = refl
flag-same false = refl

pub is-itself : (name : BlkName) → is_name name name ≡ true
is-itself (Dump index packed) = rw (eq-eqb index index refl, flag-same packed) refl
is-itself Console = refl
is-itself Pmsg = refl

same-flag : (p q : Bool) → (if p then q else not q) ≡ true → p ≡ q
same-flag true true e = refl
same-flag true false e = cc
same-flag false true e = cc
same-flag false false e = refl

pub same-name : (m n : BlkName) → is_name m n ≡ true → m ≡ n
same-name (Dump i p) (Dump j q) e =
    let parts = and_parts (i == j) (if p then q else not q) e in
    ap₂ (λ (k : ℕ) (r : Bool). Dump k r) ((Decides-eqb i j).0 parts.0) (same-flag p q parts.1)
same-name (Dump i p) Console e = cc
same-name (Dump i p) Pmsg e = cc
same-name Console (Dump j q) e = cc
same-name Console Console e = refl
same-name Console Pmsg e = cc
same-name Pmsg (Dump j q) e = cc
same-name Pmsg Console e = cc
same-name Pmsg Pmsg e = refl

-- ---- a name among others, by its text

text-is-name : (text : List ℕ) (n m : BlkName) → IsName n → IsName m → name_text n ≡ text
    → bytes_eq (name_text m) text ≡ is_name n m
text-is-name text n m small other e = by (bytes_eq (name_text m) text) (is_name n m) refl refl
  where
    by : (b c : Bool) → bytes_eq (name_text m) text ≡ b → is_name n m ≡ c → b ≡ c
    by true true has is = refl
    by true false has is =
        let same = same-text n m small other (e ∙ sym ((bytes_eq-Decides (name_text m) text).0 has)) in
        absurd (true≢false (sym (is-itself n) ∙ ap (is_name n) same ∙ is))
    by false true has is =
        let same = same-name n m is in
        absurd (true≢false (sym ((bytes_eq-Decides (name_text m) text).1 (ap name_text (sym same) ∙ e)) ∙ has))
    by false false has is = refl

first_of : {A : Type 0} (P : A → Type 0) (x : A) (xs : List A) → All P (x ∷ xs) → P x
first_of P x xs all = all 0 x (omega arith)

rest_of : {A : Type 0} (P : A → Type 0) (x : A) (xs : List A) → All P (x ∷ xs) → All P xs
rest_of P x xs all = λ k d below. all (suc k) d (omega arith)

pub found : (text : List ℕ) (n : BlkName) (names : List BlkName) → IsName n → name_text n ≡ text
    → All IsName names → find (λ m. bytes_eq (name_text m) text) names
    ≡ (if list_any (is_name n) names then Some n else None)
found text n [] small e all = refl
found text n (m ∷ names) small e all =
    by (bytes_eq (name_text m) text) (is_name n m) refl
    (text-is-name text n m small (first_of IsName m names all) e)
    (found text n names small e (rest_of IsName m names all))
  where
    by : (b c : Bool) → is_name n m ≡ c → b ≡ c → find (λ k. bytes_eq (name_text k) text) names
        ≡ (if list_any (is_name n) names then Some n else None)
        → (if b then Some m else find (λ k. bytes_eq (name_text k) text) names)
        ≡ (if c || list_any (is_name n) names then Some n else None)
    by true true is same rest = ap (λ k. Some k) (sym (same-name n m is))
    by true false is same rest = cc
    by false true is same rest = cc
    by false false is same rest = rest

pub found-none : (text : List ℕ) (names : List BlkName) → IsNameOf text None → All IsName names
    → find (λ m. bytes_eq (name_text m) text) names ≡ None
found-none text [] none all = refl
found-none text (m ∷ names) none all =
    by (bytes_eq (name_text m) text) refl (found-none text names none (rest_of IsName m names all))
  where
    by : (b : Bool) → bytes_eq (name_text m) text ≡ b → find (λ k. bytes_eq (name_text k) text) names ≡ None
        → (if b then Some m else find (λ k. bytes_eq (name_text k) text) names) ≡ None
    by true has rest = absurd (none m (first_of IsName m names all) ((bytes_eq-Decides (name_text m) text).0 has))
    by false has rest = rest

-- ---- a text that is no UTF-8 names nothing

literal : (bs : List ℕ) → list_all (λ b. nat_lt b 128) bs ≡ true → IsAscii bs
literal [] e = IsAscii-nil
literal (b ∷ bs) e =
    let parts = and_parts (nat_lt b 128) (list_all (λ c. nat_lt c 128) bs) e in
    IsAscii-cons b bs (ltb-true b 128 parts.0) (literal bs parts.1)

name-ascii : (name : BlkName) → IsName name → IsAscii (name_text name)
name-ascii (Dump index packed) small =
    IsAscii-append (front ++ decimal index) (if packed then ending else [])
    (IsAscii-append front (decimal index) (literal front refl) (IsAscii-decimal index (omega arith))) (by packed)
  where
    by : (flag : Bool) → IsAscii (if flag then ending else [])
    by true = literal ending refl
    by false = IsAscii-nil
name-ascii Console small = literal (codes "console-pstore_blk-0") refl
name-ascii Pmsg small = literal (codes "pmsg-pstore_blk-0") refl

pub no-text : (text : List ℕ) → ¬ (IsUtf8 text) → IsNameOf text None
no-text text broken = λ name small e.
    broken (subst IsUtf8 e (IsUtf8-from_ascii (name_text name) (name-ascii name small)))

-- ---- the names of a loaded store

few-dumps : (dumps kmsg : ℕ) → (kmsg ≡ 0 → dumps ≡ 0) → dumps * kmsg ≤ 2 ^ 24 → dumps < 2 ^ 32
few-dumps dumps zero none room = omega (arith, none refl)
few-dumps dumps (suc k) none room = grind arith

pub all-names : (b : BlkState) → IsLoadedState b → All IsName (names_of b)
unfolding names_of
all-names b loaded =
    let l = loaded.layout in
    let few : b.layout.dumps < 2 ^ 32 = few-dumps b.layout.dumps b.layout.kmsg l.dumps
    (omega (arith, l.room, l.small)) in
    All-append IsName (map dump_name b.dumps ++ name_if Console b.console.saved) (name_if Pmsg b.pmsg.saved)
    (All-append IsName (map dump_name b.dumps) (name_if Console b.console.saved)
    (All-map IsName dump_name b.dumps (λ k d below. omega (arith, loaded.dumps k d below, few)))
    (ring Console (λ _. tt) b.console.saved)) (ring Pmsg (λ _. tt) b.pmsg.saved)
  where
    ring : (name : BlkName) → (Unit {0} → IsName name) → (saved : Option (List ℕ)) → All IsName (name_if name saved)
    ring name is None = λ k d below. absurd (omega (arith, below))
    ring name is (Some log) = λ k d below. one k d below
      where
        one : (k : ℕ) (d : BlkName) → k < 1 → IsName (get_or (name ∷ []) k d)
        one zero d below = is tt
        one (suc k) d below = absurd (omega (arith, below))
