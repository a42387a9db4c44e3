-- The names of the generated types: no two are the same, none is built in, and none begins like a built-in name.
use Rattle.std.proofs.Common.{◌≡◌, refl, ap, ℕ, ◌≤◌, List, [], ◌∷◌, Bool, true, false, None, arith}
use Rattle.std.proofs.lemmas.Fmt.{decimal_injective}
use Rattle.ls_object.specs.declared.symbol.Symbol.{Symbol}
use Rattle.ls_object.specs.Symbols.{common_lisp_symbol, same_symbol}
use Rattle.ls_object.proofs.SymbolLemmas.{Decides-symbol}
use Rattle.ls_tables.specs.Builtins.{BUILTIN_NAMES, builtin_of}
use Rattle.ls_gen.specs.Shapes.{type_name}

-- the symbol of a number's type
abbrev pub type_symbol : ℕ → Symbol
type_symbol i = common_lisp_symbol (type_name i)

-- no generated name is built in
pub not_built_in : (i : ℕ) → builtin_of (type_symbol i) ≡ None
unfolding BUILTIN_NAMES
not_built_in i = refl

-- a generated name is itself
pub same_name : (i : ℕ) → same_symbol (type_symbol i) (type_symbol i) ≡ true
same_name i = (Decides-symbol (type_symbol i) (type_symbol i)).1 refl

-- what stands behind the first character of a symbol's name
abbrev behind_first : List ℕ → List ℕ
behind_first [] = []
behind_first (c ∷ cs) = cs

-- one generated name is that of one number
one_number : (i j : ℕ) → i ≤ 4096 → j ≤ 4096 → type_symbol i ≡ type_symbol j → i ≡ j
one_number i j low high e =
    decimal_injective i j (omega arith) (omega arith) (ap (λ (s : Symbol). behind_first s.name) e)

-- the test fails where what it decides is not so
pub fails : (b : Bool) → (b ≡ true → ⊥) → b ≡ false
fails true h = absurd (h refl)
fails false h = refl

-- the names of two numbers differ
pub other_name : (i j : ℕ) → i ≤ 4096 → j ≤ 4096 → (i ≡ j → ⊥) → same_symbol (type_symbol i) (type_symbol j) ≡ false
other_name i j low high apart =
    fails (same_symbol (type_symbol i) (type_symbol j))
    (λ e. apart (one_number i j low high ((Decides-symbol (type_symbol i) (type_symbol j)).0 e)))
