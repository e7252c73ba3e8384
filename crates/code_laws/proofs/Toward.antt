-- A word that went from another towards what the other stands for has the same nearest codeword
use Rattle.std.proofs.Common.{◌≡◌, ℕ, suc, ◌<◌, ◌≤◌, ◌⊎◌, inl, inr, List, [], ◌∷◌, length, get_or, refl, sym, ap, ◌∙◌}
use Rattle.std.proofs.Common.{subst, arith, Option, Some, None, ext_get_or, ◌==◌, if◌then◌else◌, eq-eqb}
use Rattle.code_spec.specs.Code.{IsWord, distance, nearest}
pub use Rattle.code_laws.specs.Toward.{IsToward, StandsFor}
use Rattle.code_laws.specs.Statements.{TowardTheNearest}
use Rattle.code_laws.proofs.Nearest.{IsNear, nearest-IsNear}
use Rattle.code_laws.proofs.Laws.{nearest_law}

differs : ℕ → ℕ → ℕ
differs a b = if a == b then 0 else 1

differs_self : (a : ℕ) → differs a a ≡ 0
unfolding differs
differs_self a = rw (eq-eqb a a refl) refl

step : (v w c : ℕ) → (v ≡ w) ⊎ (v ≡ c) → differs v c ≤ differs w c
unfolding differs
step v w c (inl e) = rw e (omega arith)
step v w c (inr e) = rw e (omega (arith, differs_self c))

pub distance_toward : (w v c : List ℕ) → length v ≡ length w → length c ≡ length w
    → ((i : ℕ) → i < length w → (get_or v i 0 ≡ get_or w i 0) ⊎ (get_or v i 0 ≡ get_or c i 0))
    → distance v c ≤ distance w c
unfolding distance differs
distance_toward [] [] c l m h = omega arith
distance_toward [] (v ∷ vs) c l m h = absurd (omega arith)
distance_toward (w ∷ ws) [] c l m h = absurd (omega arith)
distance_toward (w ∷ ws) (v ∷ vs) [] l m h = absurd (omega arith)
distance_toward (w ∷ ws) (v ∷ vs) (c ∷ cs) l m h =
    omega (
      arith,
      step v w c (h 0 (omega arith)),
      distance_toward ws vs cs (omega arith) (omega arith)
          (λ i k. h (suc i) (omega arith)),
    )

pub toward : (r : ℕ) (w v : List ℕ) → length w ≤ 255 → IsWord (length w) w → IsWord (length w) v → IsToward r w v
    → StandsFor r w v
toward r w v l hw hv h = by (nearest r w) refl
  where
    by : (o : Option (List ℕ)) → nearest r w ≡ o → StandsFor r w v
    by None e =
        let same : v ≡ w = ext_get_or 0 v w hv.0 (λ i k. elim (h i (omega (arith, hv.0))) [
          | inl a ↦ a
          | inr b ↦ (let n : None ≡ Some b.0 = sym e ∙ b.1 in cc)
        ]) in
        record {
          same = ap (nearest r) same;
          none = λ n. same;
          closer = λ c n. (let m : None ≡ Some c = sym e ∙ n in cc);
        }
    by (Some c) e =
        let near : IsNear r w c = nearest-IsNear r w c hw e in
        let close : distance v c ≤ distance w c = distance_toward w v c hv.0 near.word.0 (λ i k. elim (h i k) [
          | inl a ↦ inl a
          | inr b ↦ (let m : b.0 ≡ c = (let n : Some b.0 ≡ Some c = sym b.1 ∙ e in cc) in
              inr (b.2 ∙ ap (λ x. get_or x i 0) m))
        ]) in
        let is : nearest r v ≡ Some c = (nearest_law r v c (omega (arith, hv.0))
        (subst (λ n. IsWord n v) (sym hv.0) hv)).1
        (subst (λ n. IsWord n c) (sym hv.0) near.word, near.codeword, omega (arith, close, near.within)) in
        record {
          same = is ∙ sym e;
          none = λ n. (let m : None ≡ Some c = sym n ∙ e in cc);
          closer = λ d n. (let m : c ≡ d = (let k : Some c ≡ Some d = sym e ∙ n in cc) in
              subst (λ x. distance v x ≤ distance w x) m close);
        }

pub toward_is : TowardTheNearest
toward_is r w v l hw hv h = toward r w v l hw hv h
