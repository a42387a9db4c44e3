-- Names in parts, each part held together by a way to its root and one from it: a name reaches itself where an edge stays in its part.
use Rattle.std.proofs.Common.{◌≡◌, ℕ, ◌<◌, ◌≤◌, ◌↔◌, zero, suc, inl, inr, List, [], ◌∷◌, ◌++◌, length, refl, sym, subst, arith}
use Rattle.std.specs.Prelude.{◌⊎◌}
use Rattle.ls_env.specs.Reaching.{In, body, IsPath, Reaches, InRange}

pub record Climbs (graph : List (List ℕ)) (part far : ℕ → ℕ) (a b : ℕ) : Type 0 where
  pub edge : In b (body graph a)
  pub same : part b ≡ part a
  pub nearer : far b < far a

pub record Descends (graph : List (List ℕ)) (part near : ℕ → ℕ) (a b : ℕ) : Type 0 where
  pub edge : In a (body graph b)
  pub same : part b ≡ part a
  pub nearer : near b < near a
  pub within : b < length graph

pub record Parted (graph : List (List ℕ)) (part root up down far near : ℕ → ℕ) : Type 0 where
  pub falls : (a b : ℕ) → In b (body graph a) → part b ≤ part a
  pub rises : (a : ℕ) → a < length graph → (a ≡ root (part a)) ⊎ Climbs graph part far a (up a)
  pub leads : (a : ℕ) → a < length graph → (a ≡ root (part a)) ⊎ Descends graph part near a (down a)

abbrev Touches : List (List ℕ) → ℕ → ℕ → Type 0
Touches graph a b = (a ≡ b) ⊎ Reaches graph a b

path_join : (graph : List (List ℕ)) (a b c : ℕ) (xs ys : List ℕ) → IsPath graph a xs b → IsPath graph b ys c
    → IsPath graph a (xs ++ b ∷ ys) c
path_join graph a b c [] ys p q = (p, q)
path_join graph a b c (x ∷ xs) ys p q = (p.0, path_join graph x b c xs ys p.1 q)

join : (graph : List (List ℕ)) (a b c : ℕ) → Reaches graph a b → Reaches graph b c → Reaches graph a c
join graph a b c p q = (p.0 ++ b ∷ q.0, path_join graph a b c p.0 q.0 p.1 q.1)

then_touches : (graph : List (List ℕ)) (a b c : ℕ) → Reaches graph a b → Touches graph b c → Reaches graph a c
then_touches graph a b c p (inl e) = subst (Reaches graph a) e p
then_touches graph a b c p (inr q) = join graph a b c p q

touches_then : (graph : List (List ℕ)) (a b c : ℕ) → Touches graph a b → Reaches graph b c → Reaches graph a c
touches_then graph a b c (inl e) q = subst (λ (x : ℕ). Reaches graph x c) (sym e) q
touches_then graph a b c (inr p) q = join graph a b c p q

to_root : (graph : List (List ℕ)) (part root up down far near : ℕ → ℕ) → InRange graph
    → Parted graph part root up down far near
    → (k a : ℕ) → far a < k → a < length graph → Touches graph a (root (part a))
to_root graph part root up down far near range h zero a lt within = absurd (omega arith)
to_root graph part root up down far near range h (suc k) a lt within = elim (h.rises a within) [
  | inl e ↦ inl e
  | inr c ↦
      let rest = to_root graph part root up down far near range h k (up a) (omega (arith, c.nearer)) (range a (up a) c.edge) in
      let there : Touches graph (up a) (root (part a)) = subst (λ (p : ℕ). Touches graph (up a) (root p)) c.same rest in
      inr (then_touches graph a (up a) (root (part a)) ([], c.edge) there)
]

from_root : (graph : List (List ℕ)) (part root up down far near : ℕ → ℕ) → Parted graph part root up down far near
    → (k a : ℕ) → near a < k → a < length graph → Touches graph (root (part a)) a
from_root graph part root up down far near h zero a lt within = absurd (omega arith)
from_root graph part root up down far near h (suc k) a lt within = elim (h.leads a within) [
  | inl e ↦ inl (sym e)
  | inr c ↦
      let rest = from_root graph part root up down far near h k (down a) (omega (arith, c.nearer)) c.within in
      let there : Touches graph (root (part a)) (down a) = subst (λ (p : ℕ). Touches graph (root p) (down a)) c.same rest in
      inr (touches_then graph (root (part a)) (down a) a there ([], c.edge))
]

path_falls : (graph : List (List ℕ)) (part root up down far near : ℕ → ℕ) → Parted graph part root up down far near
    → (a b : ℕ) (xs : List ℕ) → IsPath graph a xs b → part b ≤ part a
path_falls graph part root up down far near h a b [] p = h.falls a b p
path_falls graph part root up down far near h a b (x ∷ xs) p =
    let first = h.falls a x p.0 in let rest = path_falls graph part root up down far near h x b xs p.1 in omega arith

leaves : (graph : List (List ℕ)) (part root up down far near : ℕ → ℕ) → Parted graph part root up down far near
    → (a : ℕ) (xs : List ℕ) → IsPath graph a xs a → (x : ℕ) × (In x (body graph a) × (part x ≡ part a))
leaves graph part root up down far near h a [] p = (a, (p, refl))
leaves graph part root up down far near h a (x ∷ xs) p =
    let down_once = h.falls a x p.0 in let back = path_falls graph part root up down far near h x a xs p.1 in
    let same : part x ≡ part a = omega arith in (x, (p.0, same))

pub stays_in_part : (graph : List (List ℕ)) (part root up down far near : ℕ → ℕ) → InRange graph
    → Parted graph part root up down far near
    → (a : ℕ) → a < length graph → Reaches graph a a ↔ ((x : ℕ) × (In x (body graph a) × (part x ≡ part a)))
stays_in_part graph part root up down far near range h a within = (
  (λ r. leaves graph part root up down far near h a r.0 r.1),
  (λ e.
      let x = e.0 in
      let up_way : Touches graph x (root (part a)) = subst (λ (p : ℕ). Touches graph x (root p)) e.1.1 (to_root graph part root up down far near range h (suc (far x)) x (omega arith) (range a x e.1.0)) in
      let down_way = from_root graph part root up down far near h (suc (near a)) a (omega arith) within in
      then_touches graph a (root (part a)) a (then_touches graph a x (root (part a)) ([], e.1.0) up_way) down_way),
)
