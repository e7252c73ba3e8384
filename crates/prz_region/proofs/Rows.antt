-- Full rows, cut and glued.
use Rattle.prz_region.proofs.Names.{◌≡◌, ◌∙◌, Bool, false, ⊎_elim, ℕ, ◌+◌, ◌-◌, ◌≤◌, arith, List, ◌++◌, length, take}
use Rattle.prz_region.proofs.Names.{drop_l, get_or-append, get_or-append_right, get_or-take, get_or-drop, Filled}
use Rattle.core.proofs.str.Laws.{order}

pub filled-append : (fs gs : List Bool) (n k : ℕ) → length fs ≡ n → Filled fs 0 n → Filled gs 0 k
    → Filled (fs ++ gs) 0 (n + k)
filled-append fs gs n k long full more j low high = ⊎_elim
    (λ h. get_or-append fs gs false j (omega arith) ∙ full j low h)
    (λ h. get_or-append_right fs gs j false (omega arith) ∙ more (j - length fs) (omega arith) (omega arith))
    (order j n)

pub filled-take : (fs : List Bool) (n k : ℕ) → k ≤ n → Filled fs 0 n → Filled (take k fs) 0 k
filled-take fs n k le full j low high = get_or-take k fs j false high ∙ full j low (omega arith)

pub filled-drop : (fs : List Bool) (n k : ℕ) → k ≤ n → Filled fs 0 n → Filled (drop_l k fs) 0 (n - k)
filled-drop fs n k le full j low high = get_or-drop k fs j false ∙ full (k + j) (omega arith) (omega arith)
