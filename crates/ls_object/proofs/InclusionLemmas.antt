-- Chains of inclusion in a list of structure types.
use Rattle.std.proofs.Common.{◌≡◌, [], ◌∷◌, ◌++◌, Option, Some, None, inl, inr, refl, sym, subst, ap, append-nil, append_assoc, arith}
use Rattle.std.specs.List.{Contains}
use Rattle.std.proofs.lemmas.List.Elements.{Contains-append_left, Contains-append_cases, Contains-push_cases}
use Rattle.ls_object.specs.declared.symbol.Symbol.{Symbol}
use Rattle.ls_object.specs.Universe.{Structures, IsStructureOf}
use Rattle.ls_object.specs.Inclusion.{Under, itself, through, MayFollow, AreIncludedBefore, IsInclusionOrder}

-- one more structure type, at the end
AreIncludedBefore-push : (before more : Structures) (pair : Symbol × Option Symbol) → AreIncludedBefore before more → MayFollow (before ++ more) pair → AreIncludedBefore before (more ++ pair ∷ [])
AreIncludedBefore-push before [] pair h may = (subst (λ t. MayFollow t pair) (append-nil before) may, tt)
AreIncludedBefore-push before (p ∷ more) pair h may =
    (h.0, AreIncludedBefore-push (before ++ p ∷ []) more pair h.1 (subst (λ t. MayFollow t pair) (sym (append_assoc before (p ∷ []) more)) may))

-- the order holds of a list with one more behind it
pub IsInclusionOrder-push : (structures : Structures) (pair : Symbol × Option Symbol) → IsInclusionOrder structures → MayFollow structures pair → IsInclusionOrder (structures ++ pair ∷ [])
IsInclusionOrder-push structures pair h may = AreIncludedBefore-push [] structures pair h may

-- without the last
front : (before more : Structures) (pair : Symbol × Option Symbol) → AreIncludedBefore before (more ++ pair ∷ []) → AreIncludedBefore before more × MayFollow (before ++ more) pair
front before [] pair h = (tt, subst (λ t. MayFollow t pair) (sym (append-nil before)) h.0)
front before (p ∷ more) pair h =
    let rest = front (before ++ p ∷ []) more pair h.1 in
    ((h.0, rest.0), subst (λ t. MayFollow t pair) (append_assoc before (p ∷ []) more) rest.1)

-- the order holds of the list without its last, behind which that may stand
pub IsInclusionOrder-front : (structures : Structures) (pair : Symbol × Option Symbol) → IsInclusionOrder (structures ++ pair ∷ []) → IsInclusionOrder structures × MayFollow structures pair
IsInclusionOrder-front structures pair h = front [] structures pair h

-- what is listed is listed in a longer list
IsStructureOf-more : (structures more : Structures) (x : Symbol) → IsStructureOf structures x → IsStructureOf (structures ++ more) x
IsStructureOf-more structures more x (include, h) = (include, Contains-append_left structures more (x, include) h)

-- the only element of a list of one
only : (p q : Symbol × Option Symbol) → Contains (p ∷ []) q → p ≡ q
only p q h = elim (Contains-push_cases [] p q h) as (λ _. p ≡ q) [ inl none ↦ absurd (omega (arith, none.1)) | inr e ↦ e ]

-- an included name is listed before
listed : (before more : Structures) (x z : Symbol) → AreIncludedBefore before more → Contains more (x, Some z) → IsStructureOf (before ++ more) z
listed before [] x z h (k, within, e) = absurd (omega arith)
listed before (p ∷ more) x z h c =
    elim (Contains-append_cases (p ∷ []) more (x, Some z) c) as (λ _. IsStructureOf (before ++ (p ∷ more)) z) [
      | inl first ↦ IsStructureOf-more before (p ∷ more) z (h.0.1 z (ap (λ q. q.1) (only p (x, Some z) first)))
      | inr later ↦ subst (λ t. IsStructureOf t z) (append_assoc before (p ∷ []) more) (listed (before ++ p ∷ []) more x z h.1 later)
    ]

-- more structure types keep each chain
pub Under-more : (structures more : Structures) (x y : Symbol) → Under structures x y → Under (structures ++ more) x y
Under-more structures more x y (itself) = itself
Under-more structures more x y (through {z = z} c u) = through (Contains-append_left structures more (x, Some z) c) (Under-more structures more z y u)

-- a chain that begins at another name than the last doesn't reach that
pub Under-front : (structures : Structures) (pair : Symbol × Option Symbol) (x y : Symbol) → IsInclusionOrder structures → MayFollow structures pair → (pair.0 ≡ x → ⊥) → Under (structures ++ pair ∷ []) x y → Under structures x y
Under-front structures pair x y order may other (itself) = itself
Under-front structures pair x y order may other (through {z = z} c u) =
    elim (Contains-push_cases structures pair (x, Some z) c) as (λ _. Under structures x y) [
      | inl earlier ↦ through earlier (Under-front structures pair z y order may (λ e. may.0 (subst (IsStructureOf structures) (sym e) (listed [] structures x z order earlier))) u)
      | inr e ↦ absurd (other (ap (λ q. q.0) e))
    ]

-- a chain from the last goes by the name that it includes
pub Under-last : (structures : Structures) (x z y : Symbol) → IsInclusionOrder structures → MayFollow structures (x, Some z) → (x ≡ y → ⊥) → Under (structures ++ (x, Some z) ∷ []) x y → Under structures z y
Under-last structures x z y order may other (itself) = absurd (other refl)
Under-last structures x z y order may other (through {z = w} c u) =
    elim (Contains-push_cases structures (x, Some z) (x, Some w) c) as (λ _. Under structures z y) [
      | inl earlier ↦ absurd (may.0 (Some w, earlier))
      | inr e ↦
          let same : z ≡ w = cc (ap (λ q. q.1) e) in
          Under-front structures (x, Some z) z y order may (λ d. may.0 (subst (IsStructureOf structures) (sym d) (may.1 z refl))) (subst (λ t. Under (structures ++ (x, Some z) ∷ []) t y) (sym same) u)
    ]

-- where the last includes none, no chain leads from it to another name
pub Under-root : (structures : Structures) (x y : Symbol) → MayFollow structures (x, None) → Under (structures ++ (x, None) ∷ []) x y → x ≡ y
Under-root structures x y may (itself) = refl
Under-root structures x y may (through {z = w} c u) =
    elim (Contains-push_cases structures (x, None) (x, Some w) c) as (λ _. x ≡ y) [
      | inl earlier ↦ absurd (may.0 (Some w, earlier))
      | inr e ↦ absurd (cc (ap (λ q. q.1) e))
    ]

-- without structure types a name is under itself alone
pub Under-none : (x y : Symbol) → Under [] x y → x ≡ y
Under-none x y (itself) = refl
Under-none x y (through c u) = absurd (omega (arith, c.1))
