-- The symbols that stand for all symbols.
use Rattle.std.proofs.lemmas.Bool.{cases_Bool}
use Rattle.std.proofs.Common.{ℕ, zero, suc, ◌≡◌, ◌<◌, ◌≤◌, ◌+◌, ap, refl, sym, subst, ◌∙◌, ◌⊎◌, inl, inr, Bool, true, false, ◌&&◌, if◌then◌else◌, List, [], ◌∷◌, ◌++◌, map, length, replicate, max, arith, length-append, append_assoc}
use Rattle.std.specs.Char.{IsScalar}
use Rattle.std.specs.List.{AllByRecursion}
use Rattle.std.specs.Str.{chars, IsUtf8}
use Rattle.std.proofs.lemmas.List.{map-append, length-replicate}
use Rattle.std.proofs.lemmas.Str.{scalars-chars, length-le-encodes}
use Rattle.std.proofs.Math.Utf8.{scalar, scalars}
use Rattle.ls_object.specs.declared.object.Object.{Object}
use Rattle.ls_object.specs.declared.symbol.Symbol.{Symbol}
use Rattle.ls_object.specs.Symbols.{same_symbol}
use Rattle.ls_object.specs.Universe.{LispObject, node, symbol, Structures, IsObject, IsName}
use Rattle.ls_object.specs.Meaning.{lisp_object}
use Rattle.ls_spec.specs.declared.spec.SymClass.{SymClass}
use Rattle.ls_spec.specs.declared.spec.SymClass.TheVariants.{Any, Keyword}
use Rattle.ls_spec.specs.declared.spec.Point.TheVariants as point
use Rattle.ls_spec.specs.declared.spec.Spec.{Spec}
use Rattle.ls_spec.specs.Specifier.{Specifier, all_objects, no_objects, and_of, or_of, not_of, eql_to, symbols_of}
use Rattle.ls_spec.specs.Fits.{IsAtom}
use Rattle.ls_spec.specs.Meaning.{specifier}
use Rattle.ls_spec.specs.Membership.{Belongs}
use Rattle.ls_spec.specs.Regions.{AreRepresentatives, IsPlainOf}
use Rattle.ls_spec.specs.Truth.{holds, nothing_learnt, is_of_symbol_class}
use Rattle.ls_spec.proofs.ListLemmas.{AllByRecursion-append, AllByRecursion-weaker}
use Rattle.ls_spec.proofs.AlikeLemmas.{AllByRecursion-front, AllByRecursion-back}
use Rattle.ls_object.proofs.SymbolLemmas.{Decides-symbol}
use Rattle.ls_points.specs.Classes.{IsSymbol, IsFitAtom, is_symbol_point, count_atoms}
use Rattle.ls_points.specs.steps.Symbols.{named_symbol, named_symbols, longest, keyword_past, symbol_past, AreShort}
use Rattle.ls_points.specs.steps.Some.{SomeOf}
use Rattle.ls_points.proofs.AnsweredLemmas.{all_of, few_named, each_answered, as_many_answered}
use Rattle.ls_points.proofs.FlatLemmas.{SomeOf-front, SomeOf-back, object_of, AreAlike, AreAlike-itself, represented}

-- ---- names

both_true : (a b : Bool) → (a && b) ≡ true → (a ≡ true) × (b ≡ true)
both_true true b h = (refl, h)
both_true false b h = cc

AllByRecursion-scalars : (cs : List ℕ) → scalars cs ≡ true → AllByRecursion IsScalar cs
AllByRecursion-scalars [] h = tt
AllByRecursion-scalars (c ∷ cs) h = let both = both_true (scalar c) (scalars cs) h in (both.0, AllByRecursion-scalars cs both.1)

-- the characters of a text are Unicode scalar values
pub AllByRecursion-chars : (bs cs : List ℕ) → IsUtf8 bs → chars bs ≡ cs → AllByRecursion IsScalar cs
AllByRecursion-chars bs cs u e = subst (AllByRecursion IsScalar) e (AllByRecursion-scalars (chars bs) (scalars-chars bs u))

-- a longer name makes the longest no shorter
AreShort-weaker : (m n : ℕ) (symbols : List Symbol) → m ≤ n → AreShort m symbols → AreShort n symbols
AreShort-weaker m n symbols l h = AllByRecursion-weaker (λ s. length s.name < m + 1) (λ s. length s.name < n + 1) (λ s k. omega arith) symbols h

-- no name is longer than the longest
pub longest_short : (symbols : List Symbol) → AreShort (longest symbols) symbols
longest_short [] = tt
longest_short (s ∷ ss) =
    let e = length-le-encodes s.name in
    (omega (arith, e), AreShort-weaker (longest ss) (longest (s ∷ ss)) ss (omega arith) (longest_short ss))

-- the longest of two lists
pub longest-append : (xs ys : List Symbol) → longest (xs ++ ys) ≡ max (longest xs) (longest ys)
longest-append [] ys = omega arith
longest-append (x ∷ xs) ys = let e = longest-append xs ys in omega arith

-- the letters of a made name are characters
scalar_letters : (n : ℕ) → AllByRecursion IsScalar (replicate n 65)
scalar_letters zero = tt
scalar_letters (suc n) = (refl, scalar_letters n)

-- so the made symbols are names
IsName-keyword_past : (n : ℕ) → IsName (keyword_past n)
IsName-keyword_past n = ((refl, (refl, (refl, (refl, (refl, (refl, (refl, tt))))))), scalar_letters (n + 1))

IsName-symbol_past : (n : ℕ) → IsName (symbol_past n)
IsName-symbol_past n = ((refl, (refl, (refl, (refl, (refl, (refl, (refl, (refl, (refl, (refl, (refl, tt))))))))))), scalar_letters (n + 1))

-- ---- the law

-- the symbol is none of these
abbrev IsNoneOf : Symbol → List Symbol → Type 0
IsNoneOf s symbols = AllByRecursion (λ t. same_symbol s t ≡ false) symbols

-- two symbols in the same classes, neither of them named, are in the same atoms
alike_in : (s t : Symbol) (a : Specifier) → ((k : SymClass) → is_of_symbol_class k s ≡ is_of_symbol_class k t) → IsAtom a → IsNoneOf s (named_symbol a) → IsNoneOf t (named_symbol a)
    → holds nothing_learnt a (node [] (symbol s)) ≡ holds nothing_learnt a (node [] (symbol t))
alike_in s t (eql_to (point.Sym u)) same is m n = m.0 ∙ sym n.0
alike_in s t (eql_to (point.Number r)) same is m n = refl
alike_in s t (eql_to (point.Char c)) same is m n = refl
alike_in s t (symbols_of k) same is m n = same k
alike_in s t all_objects same is m n = absurd is
alike_in s t no_objects same is m n = absurd is
alike_in s t (and_of ss) same is m n = absurd is
alike_in s t (or_of ss) same is m n = absurd is
alike_in s t (not_of x) same is m n = absurd is
alike_in s t _ same is m n = refl

alike : (s t : Symbol) (atoms : List Spec) → ((k : SymClass) → is_of_symbol_class k s ≡ is_of_symbol_class k t) → AllByRecursion (λ a. IsFitAtom (specifier a)) atoms → IsNoneOf s (named_symbols atoms) → IsNoneOf t (named_symbols atoms)
    → AreAlike symbol atoms s t
alike s t [] same fit m n = tt
alike s t (a ∷ more) same fit m n = (
  alike_in s t (specifier a) same fit.0.0 (AllByRecursion-front (λ u. same_symbol s u ≡ false) (named_symbol (specifier a)) (named_symbols more) m) (AllByRecursion-front (λ u. same_symbol t u ≡ false) (named_symbol (specifier a)) (named_symbols more) n),
  alike s t more same fit.1 (AllByRecursion-back (λ u. same_symbol s u ≡ false) (named_symbol (specifier a)) (named_symbols more) m) (AllByRecursion-back (λ u. same_symbol t u ≡ false) (named_symbol (specifier a)) (named_symbols more) n),
)

-- a symbol with a longer name is none of these
longer_none : (n : ℕ) (s : Symbol) (symbols : List Symbol) → length s.name ≡ n + 1 → AreShort n symbols → IsNoneOf s symbols
longer_none n s [] e h = tt
longer_none n s (t ∷ ts) e h = (
  elim (cases_Bool (same_symbol s t)) [
    | inl same ↦ (let f = ap (λ u. length u.name) ((Decides-symbol s t).0 same) in let l = h.0 in absurd (omega arith))
    | inr apart ↦ apart
  ],
  longer_none n s ts e h.1,
)

-- a symbol is one of these or none
named_or_none : (s : Symbol) (atoms : List Spec) (symbols : List Symbol) → SomeOf (λ u. AreAlike symbol atoms u s) symbols ⊎ IsNoneOf s symbols
named_or_none s atoms [] = inr tt
named_or_none s atoms (t ∷ ts) = elim (cases_Bool (same_symbol s t)) [
  | inl same ↦ inl (inl (subst (λ u. AreAlike symbol atoms u s) ((Decides-symbol s t).0 same) (AreAlike-itself symbol atoms s)))
  | inr apart ↦ elim (named_or_none s atoms ts) [ inl some ↦ inl (inr some) | inr none ↦ inr (apart, none) ]
]

-- an atom names at most one symbol
one_named : (s : Specifier) → length (named_symbol s) ≤ (if is_symbol_point s then 1 else 0)
one_named (eql_to (point.Sym s)) = omega arith
one_named (eql_to (point.Number r)) = omega arith
one_named (eql_to (point.Char c)) = omega arith
one_named _ = omega arith

-- the named symbols, and a keyword and another symbol with a longer name
abbrev pub stand_ins : List Symbol → ℕ → List Symbol
stand_ins named n = named ++ (keyword_past n ∷ symbol_past n ∷ [])

same_as_keyword : (s : Symbol) (n : ℕ) → is_of_symbol_class Keyword s ≡ true → (k : SymClass) → is_of_symbol_class k (keyword_past n) ≡ is_of_symbol_class k s
same_as_keyword s n e Any = refl
same_as_keyword s n e Keyword = sym e

same_as_symbol : (s : Symbol) (n : ℕ) → is_of_symbol_class Keyword s ≡ false → (k : SymClass) → is_of_symbol_class k (symbol_past n) ≡ is_of_symbol_class k s
same_as_symbol s n e Any = refl
same_as_symbol s n e Keyword = sym e

module _ (atoms : List Spec) (n : ℕ) (fit : AllByRecursion (λ a. IsFitAtom (specifier a)) atoms) (short : AreShort n (named_symbols atoms)) (answered : List Object) (is : map lisp_object answered ≡ map (λ s. node [] (symbol s)) (stand_ins (named_symbols atoms) n)) where
  covered : (s : Symbol) → SomeOf (λ u. AreAlike symbol atoms u s) (stand_ins (named_symbols atoms) n)
  covered s = elim (named_or_none s atoms (named_symbols atoms)) [
    | inl some ↦ SomeOf-front _ (named_symbols atoms) _ some
    | inr none ↦ SomeOf-back _ (named_symbols atoms) _ (elim (cases_Bool (is_of_symbol_class Keyword s)) [
      | inl e ↦ inl (alike (keyword_past n) s atoms (same_as_keyword s n e) fit (longer_none n (keyword_past n) (named_symbols atoms) (length-replicate (n + 1) 65) short) none)
      | inr e ↦ inr (inl (alike (symbol_past n) s atoms (same_as_symbol s n e) fit (longer_none n (symbol_past n) (named_symbols atoms) (length-replicate (n + 1) 65) short) none))
    ])
  ]

  pub symbol_law : (structures : Structures) → AreRepresentatives structures IsSymbol (λ a o. Belongs structures (specifier a) o) atoms answered
  symbol_law structures (node marks (symbol s)) object class = represented symbol (λ s. tt) structures atoms answered (stand_ins (named_symbols atoms) n) marks s is (covered s)
  symbol_law structures (node marks _) object class = absurd class

  -- each answered object is one of the universe
  pub symbol_objects : AllByRecursion IsName (named_symbols atoms) → (structures : Structures) → AllByRecursion (λ r. IsObject structures (lisp_object r)) answered
  symbol_objects names structures = each_answered (object_of symbol) (IsObject structures) answered (stand_ins (named_symbols atoms) n) is
      (AllByRecursion-weaker IsName (λ s. IsObject structures (node [] (symbol s))) (λ s h. (tt, h)) (stand_ins (named_symbols atoms) n)
      (AllByRecursion-append IsName (named_symbols atoms) _ names (IsName-keyword_past n, (IsName-symbol_past n, tt))))

  -- each is a plain symbol
  pub symbol_plains : AllByRecursion (λ r. IsPlainOf IsSymbol (lisp_object r)) answered
  symbol_plains = each_answered (object_of symbol) (IsPlainOf IsSymbol) answered (stand_ins (named_symbols atoms) n) is
      (all_of (λ s. IsPlainOf IsSymbol (node [] (symbol s))) (λ s. (refl, tt)) (stand_ins (named_symbols atoms) n))

  -- there are few of them
  pub symbol_count : length answered ≤ 4 + count_atoms is_symbol_point (map specifier atoms)
  symbol_count =
      let e = as_many_answered (object_of symbol) answered (stand_ins (named_symbols atoms) n) is in
      let f = few_named named_symbol is_symbol_point one_named atoms in
      let g = length-append (named_symbols atoms) (keyword_past n ∷ symbol_past n ∷ []) in
      omega arith

-- appending the named symbols, and two more
pub joined : (named : List Symbol) (s t : Symbol) (o p q r : List LispObject) → o ≡ [] → p ≡ o ++ map (λ s. node [] (symbol s)) named → q ≡ p ++ node [] (symbol s) ∷ [] → r ≡ q ++ node [] (symbol t) ∷ []
    → r ≡ map (λ s. node [] (symbol s)) (named ++ (s ∷ t ∷ []))
joined named s t o p q r e f g h = rw (h, g, f, e) (simp (map-append, append_assoc) refl)
