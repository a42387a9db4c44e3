-- The walk, one name at a time.
use Rattle.std.proofs.Common.{◌≡◌, ℕ, ◌+◌, ◌-◌, ◌<◌, ◌≤◌, zero, suc, List, [], ◌∷◌, ◌++◌, Bool, false, refl, ap, ◌∙◌, arith}
use Rattle.ls_env.specs.declared.walk.Seen.{Seen}
use Rattle.ls_env.specs.Reaching.{falses, walk, follow}

pub falses_push : (n : ℕ) → falses n ++ false ∷ [] ≡ falses (n + 1)
falses_push zero = refl
falses_push (suc n) = let e : suc (n + 1) ≡ suc n + 1 = omega arith in ap (λ (bs : List Bool). false ∷ bs) (falses_push n) ∙ ap falses e

pub walk_next : (graph : List (List ℕ)) (n at : ℕ) (s : Seen) → at < n
    → walk graph (n - at) at s ≡ walk graph (n - (at + 1)) (at + 1) (follow graph at s)
walk_next graph n at s h = let e : n - at ≡ suc (n - (at + 1)) = omega arith in ap (λ (k : ℕ). walk graph k at s) e

pub walk_end : (graph : List (List ℕ)) (n at : ℕ) (s : Seen) → n ≤ at → walk graph (n - at) at s ≡ s
walk_end graph n at s h = let e : n - at ≡ 0 = omega arith in ap (λ (k : ℕ). walk graph k at s) e
