-- When two texts, and two symbols, are one.
use Rattle.std.proofs.Common.{◌≡◌, ℕ, List, refl, ap, ◌∙◌}
use Rattle.std.specs.Prelude.{nat_eq}
use Rattle.std.specs.Bool.{Decides}
use Rattle.std.specs.Cmp.Lexicographic.{pointwise}
use Rattle.std.proofs.lemmas.Bool.Decides.{Decides-and, Decides-eqb}
use Rattle.std.proofs.lemmas.Slice.Eq.{slice_eq-Decides}
use Rattle.ls_object.specs.declared.symbol.Symbol.{Symbol}
use Rattle.ls_object.specs.Symbols.{same_symbol}

-- texts are equal where their characters are
pub Decides-text : (a b : List ℕ) → Decides (pointwise nat_eq a b) (a ≡ b)
Decides-text a b = slice_eq-Decides {E = nat_eq} Decides-eqb a b (pointwise nat_eq a b) refl

-- the symbol of a package and a name
abbrev symbol_with : List ℕ → List ℕ → Symbol
symbol_with home name = record { «package» = home; name = name }

-- symbols are equal where their packages and names are
pub same_parts : (s t : Symbol) → s.package ≡ t.package → s.name ≡ t.name → s ≡ t
same_parts s t e f = ap (λ p. symbol_with p s.name) e ∙ ap (λ n. symbol_with t.package n) f

-- the test of symbols tells whether they are equal
pub Decides-symbol : (s t : Symbol) → Decides (same_symbol s t) (s ≡ t)
Decides-symbol s t =
    let both = Decides-and _ _ (Decides-text s.package t.package) (Decides-text s.name t.name) in
    (λ e. let h = both.0 e in same_parts s t h.0 h.1, λ e. both.1 (ap (λ u. u.package) e, ap (λ u. u.name) e))
