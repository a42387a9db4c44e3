-- Which name is under which as a truth value, for structure types in the order of their inclusion.
use Rattle.std.proofs.Common.{◌≡◌, [], ◌∷◌, ◌++◌, Option, Some, None, ◌⊎◌, inl, inr, true, false, true≢false, ◌||◌, refl, sym, subst, ap, ◌∙◌, if◌then◌else◌}
use Rattle.std.specs.Prelude.{reverse}
use Rattle.std.specs.Bool.{Decides}
use Rattle.std.proofs.lemmas.Bool.{cases_Bool}
use Rattle.std.proofs.lemmas.Bool.Decides.{Decides-at, Decides-like, Decides-or}
use Rattle.std.proofs.lemmas.List.{reverse-append, reverse-reverse}
use Rattle.std.proofs.lemmas.List.Elements.{Contains-push}
use Rattle.ls_object.specs.declared.symbol.Symbol.{Symbol}
use Rattle.ls_object.specs.Symbols.{same_symbol}
use Rattle.ls_object.specs.Universe.{Structures}
use Rattle.ls_object.specs.Inclusion.{Under, itself, through, MayFollow, IsInclusionOrder, leads, under_in}
use Rattle.ls_object.proofs.SymbolLemmas.{Decides-symbol}
use Rattle.ls_object.proofs.InclusionLemmas.{IsInclusionOrder-front, Under-front, Under-more, Under-last, Under-root, Under-none}

-- a last structure type of another name is passed by
leads-passed : (earlier : Structures) (p : Symbol × Option Symbol) (x y : Symbol) → same_symbol p.0 x ≡ false
    → leads (p ∷ earlier) x y ≡ leads earlier x y
leads-passed earlier (name, None) x y other = ap (λ b. if b then same_symbol x y else leads earlier x y) other
leads-passed earlier (name, Some z) x y other =
    ap (λ b. if b then same_symbol x y || leads earlier z y else leads earlier x y) other

-- from a structure type that includes none the way goes no further
leads-root : (earlier : Structures) (p : Symbol × Option Symbol) (x y : Symbol) → p.1 ≡ None
    → same_symbol p.0 x ≡ true → leads (p ∷ earlier) x y ≡ same_symbol x y
leads-root earlier (name, None) x y none here = ap (λ b. if b then same_symbol x y else leads earlier x y) here
leads-root earlier (name, Some z) x y none here = absurd (cc)

-- from one that includes another the way goes on from that
leads-through : (earlier : Structures) (p : Symbol × Option Symbol) (x z y : Symbol) → p.1 ≡ Some z
    → same_symbol p.0 x ≡ true → leads (p ∷ earlier) x y ≡ (same_symbol x y || leads earlier z y)
leads-through earlier (name, None) x z y some here = absurd (cc)
leads-through earlier (name, Some w) x z y some here =
    let same : w ≡ z = cc in
    ap (λ b. if b then same_symbol x y || leads earlier w y else leads earlier x y) here
    ∙ ap (λ t. same_symbol x y || leads earlier t y) same

-- of one list, what the truth value says, for all names
abbrev AreDecided : Structures → Type 0
AreDecided newest = (x y : Symbol) → Decides (leads newest x y) (Under (reverse newest) x y)

-- no chain from the first name but through the last structure type, which has another name
Decides-passed : (earlier : Structures) (p : Symbol × Option Symbol) → IsInclusionOrder (reverse earlier)
    → MayFollow (reverse earlier) p → AreDecided earlier → (x y : Symbol) → same_symbol p.0 x ≡ false
    → Decides (leads (p ∷ earlier) x y) (Under (reverse earlier ++ p ∷ []) x y)
Decides-passed earlier p order may before x y other =
    let apart = λ (e : p.0 ≡ x). true≢false (sym ((Decides-symbol p.0 x).1 e) ∙ other) in
    Decides-at (leads (p ∷ earlier) x y) (leads earlier x y) (leads-passed earlier p x y other)
    (Decides-like (leads earlier x y) (Under-more (reverse earlier) (p ∷ []) x y)
    (Under-front (reverse earlier) p x y order may apart) (before x y))

-- from the name of the last structure type, which includes none
Decides-root : (earlier : Structures) (x : Symbol) → MayFollow (reverse earlier) (x, None) → (y : Symbol)
    → Decides (leads ((x, None) ∷ earlier) x y) (Under (reverse earlier ++ (x, None) ∷ []) x y)
Decides-root earlier x may y =
    Decides-at (leads ((x, None) ∷ earlier) x y) (same_symbol x y)
    (leads-root earlier (x, None) x y refl ((Decides-symbol x x).1 refl))
    (Decides-like (same_symbol x y) (λ e. subst (Under (reverse earlier ++ (x, None) ∷ []) x) e itself)
    (Under-root (reverse earlier) x y may) (Decides-symbol x y))

-- a chain from the last structure type, which includes another
on_from : (earlier : Structures) (x z y : Symbol) → (x ≡ y) ⊎ Under (reverse earlier) z y
    → Under (reverse earlier ++ (x, Some z) ∷ []) x y
on_from earlier x z y (inl e) = subst (Under (reverse earlier ++ (x, Some z) ∷ []) x) e itself
on_from earlier x z y (inr u) =
    through (Contains-push (reverse earlier) (x, Some z)) (Under-more (reverse earlier) ((x, Some z) ∷ []) z y u)

-- and what such a chain comes from
on_to : (earlier : Structures) (x z y : Symbol) → IsInclusionOrder (reverse earlier)
    → MayFollow (reverse earlier) (x, Some z) → Under (reverse earlier ++ (x, Some z) ∷ []) x y
    → (x ≡ y) ⊎ Under (reverse earlier) z y
on_to earlier x z y order may u = elim (cases_Bool (same_symbol x y)) as (λ _. (x ≡ y) ⊎ Under (reverse earlier) z y) [
  | inl same ↦ inl ((Decides-symbol x y).0 same)
  | inr other ↦
      inr (Under-last (reverse earlier) x z y order may (λ e. true≢false (sym ((Decides-symbol x y).1 e) ∙ other)) u)
]

-- from the name of the last structure type, which includes another
Decides-through : (earlier : Structures) (x z : Symbol) → IsInclusionOrder (reverse earlier)
    → MayFollow (reverse earlier) (x, Some z) → AreDecided earlier → (y : Symbol)
    → Decides (leads ((x, Some z) ∷ earlier) x y) (Under (reverse earlier ++ (x, Some z) ∷ []) x y)
Decides-through earlier x z order may before y =
    Decides-at (leads ((x, Some z) ∷ earlier) x y) (same_symbol x y || leads earlier z y)
    (leads-through earlier (x, Some z) x z y refl ((Decides-symbol x x).1 refl))
    (Decides-like (same_symbol x y || leads earlier z y) (on_from earlier x z y) (on_to earlier x z y order may)
    (Decides-or (same_symbol x y) (leads earlier z y) (Decides-symbol x y) (before z y)))

-- from the name of the last structure type
Decides-named : (earlier : Structures) (p : Symbol × Option Symbol) → IsInclusionOrder (reverse earlier)
    → MayFollow (reverse earlier) p → AreDecided earlier → (y : Symbol)
    → Decides (leads (p ∷ earlier) p.0 y) (Under (reverse earlier ++ p ∷ []) p.0 y)
Decides-named earlier (x, None) order may before y = Decides-root earlier x may y
Decides-named earlier (x, Some z) order may before y = Decides-through earlier x z order may before y

-- with one more structure type behind the others
Decides-more : (earlier : Structures) (p : Symbol × Option Symbol) → IsInclusionOrder (reverse earlier)
    → MayFollow (reverse earlier) p → AreDecided earlier → (x y : Symbol)
    → Decides (leads (p ∷ earlier) x y) (Under (reverse earlier ++ p ∷ []) x y)
Decides-more earlier p order may before x y =
    elim (cases_Bool (same_symbol p.0 x)) as (λ _. Decides (leads (p ∷ earlier) x y) (Under (reverse earlier ++ p ∷ []) x y)) [
      | inl here ↦
          subst (λ n. Decides (leads (p ∷ earlier) n y) (Under (reverse earlier ++ p ∷ []) n y))
          ((Decides-symbol p.0 x).0 here) (Decides-named earlier p order may before y)
      | inr other ↦ Decides-passed earlier p order may before x y other
    ]

-- the last structure type first
Decides-leads : (newest : Structures) → IsInclusionOrder (reverse newest) → AreDecided newest
Decides-leads [] order x y =
    Decides-like (same_symbol x y) (λ e. subst (Under [] x) e itself) (Under-none x y) (Decides-symbol x y)
Decides-leads (p ∷ earlier) order x y =
    let e : reverse (p ∷ earlier) ≡ reverse earlier ++ p ∷ [] = reverse-append (p ∷ []) earlier in
    let parts = IsInclusionOrder-front (reverse earlier) p (subst IsInclusionOrder e order) in
    subst (λ t. Decides (leads (p ∷ earlier) x y) (Under t x y)) (sym e)
    (Decides-more earlier p parts.0 parts.1 (Decides-leads earlier parts.0) x y)

-- the truth value says which name is under which
pub Decides-under_in : (structures : Structures) (x y : Symbol) → IsInclusionOrder structures
    → Decides (under_in structures x y) (Under structures x y)
Decides-under_in structures x y order =
    let e = reverse-reverse structures in
    subst (λ t. Decides (under_in structures x y) (Under t x y)) e
    (Decides-leads (reverse structures) (subst IsInclusionOrder (sym e) order) x y)
