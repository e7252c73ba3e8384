-- Marks of a block's pairs. For `mark_pair`, `mark_below`, `marks_of` and `may_be_two`.
use Rattle.std.proofs.Common.{◌≡◌, ◌≢◌, ℕ, ◌<◌, ◌⊎◌, inl, inr, List, Bool, true, false, length, get_or, set, sym, ap}
use Rattle.std.proofs.Common.{◌∙◌, ◌++◌, take, take_all, drop, arith, get_or-set_same, get_or-set_other}
use Rattle.std.proofs.lemmas.Bool.{cases_eq}
use Rattle.std.proofs.lemmas.List.{drop_all, append-nil}
use Rattle.code_spec.specs.Field.{gf_add, gf_mul, gf_pow}
use Rattle.code_laws.proofs.Ring.{ring, equal_from_add, mul_one, mul_zero, pow_below}
use Rattle.salvage.specs.Sieves.{third, pair_sum}

pub still_marked : (marks : List Bool) (i j : ℕ) → i < length marks → get_or marks j false ≡ true
    → get_or (set marks i true) j false ≡ true
still_marked marks i j l h = by (cases_eq j i)
  where
    by : (j ≡ i) ⊎ (j ≢ i) → get_or (set marks i true) j false ≡ true
    by (inl e) = ap (λ (k : ℕ). get_or (set marks i true) k false) e ∙ get_or-set_same marks i true false l
    by (inr n) = get_or-set_other marks i j true false n ∙ h

-- as many marks written over a vector's are all that it then has
pub written : (m : ℕ) (new old : List Bool) → m ≡ length old → length new ≡ length old
    → take m (new ++ drop (length new) old) ≡ new
written m new old l e =
    ap (λ (xs : List Bool). take m (new ++ xs)) (drop_all (length new) old (omega (arith, e)))
    ∙ ap (take m) (append-nil new) ∙ take_all m new (omega (arith, l, e))

-- the ratio of the third sum of two errors to the first one is what the ratio of the second one makes it
pub ratio : (x y scale : ℕ) (s : ℕ → ℕ) → gf_mul (s 0) scale ≡ 1 → pair_sum x y s ≡ 0
    → gf_mul scale (s 2) ≡ third x y (gf_mul scale (s 1))
unfolding pair_sum third
ratio x y g s one z =
    equal_from_add (gf_mul g (s 2)) (third x y (gf_mul g (s 1)))
    (ap (λ (t : ℕ). gf_add (gf_mul g (s 2)) (gf_add (gf_mul (gf_pow 2 x) (gf_mul g (s 1)))
    (gf_mul (gf_pow 2 y) (gf_add (gf_mul g (s 1)) t)))) (sym (mul_one (gf_pow 2 x) (pow_below 2 x))
    ∙ ap (gf_mul (gf_pow 2 x)) (sym one))
    ∙ alg g (gf_pow 2 x) (gf_pow 2 y) (s 0) (s 1) (s 2) ∙ ap (gf_mul g) z ∙ mul_zero g)
  where
    alg : (g a b u v w : ℕ) → gf_add (gf_mul g w) (gf_add (gf_mul a (gf_mul g v)) (gf_mul b (gf_add (gf_mul g v)
        (gf_mul a (gf_mul u g))))) ≡ gf_mul g (gf_add (gf_add w (gf_mul a v)) (gf_mul b (gf_add v (gf_mul a u))))
    alg g a b u v w = simp ring
