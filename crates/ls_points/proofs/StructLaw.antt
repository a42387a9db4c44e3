-- The structures that stand for all structures of a file.
use Rattle.std.proofs.lemmas.Bool.{cases_Bool}
use Rattle.std.proofs.Common.{zero, ◌≡◌, ◌≤◌, ◌+◌, ap, refl, sym, subst, ◌∙◌, ◌⊎◌, inl, inr, ◌↔◌, Bool, true, false, if◌then◌else◌, List, [], ◌∷◌, ◌++◌, map, length, Option, Some, None, MatchOption, arith, length-append, append_assoc, append-nil}
use Rattle.std.specs.List.{AllByRecursion, Contains}
use Rattle.std.specs.Option.{option_to_list, ForSome}
use Rattle.std.proofs.lemmas.List.{map-append}
use Rattle.std.proofs.lemmas.List.Elements.{Contains-append_left, Contains-append_right, Contains-append_cases, Contains-push_cases, Contains-push}
use Rattle.ls_object.specs.declared.object.Object.{Object}
use Rattle.ls_object.specs.declared.symbol.Symbol.{Symbol}
use Rattle.ls_object.specs.Inclusion.{Under, itself, through, AreIncludedBefore, IsInclusionOrder}
use Rattle.ls_object.specs.Meaning.{lisp_object}
use Rattle.ls_object.specs.Symbols.{same_symbol}
use Rattle.ls_object.specs.Universe.{LispObject, node, structure, Structures, IsStructureOf, IsName, IsObject}
use Rattle.ls_spec.specs.declared.spec.Point.TheVariants as point
use Rattle.ls_spec.specs.declared.spec.Spec.{Spec}
use Rattle.ls_spec.specs.Fits.{IsAtom, HasKnownNames}
use Rattle.ls_spec.specs.Meaning.{specifier}
use Rattle.ls_spec.specs.Membership.{Belongs}
use Rattle.ls_spec.specs.Regions.{AreInSameAtoms, AreRepresentatives, IsPlainOf}
use Rattle.ls_spec.specs.Specifier.{Specifier, all_objects, no_objects, and_of, or_of, not_of, eql_to, structure_under, any_structure}
use Rattle.ls_spec.proofs.ListLemmas.{AllByRecursion-append, AllByRecursion-weaker, AllByRecursion-contains}
use Rattle.ls_object.proofs.SymbolLemmas.{Decides-symbol}
use Rattle.ls_points.specs.Classes.{IsStructure, IsFitAtomOf, is_structure_atom, count_atoms}
use Rattle.ls_points.specs.steps.Inheriting.{named_structure, named_structures, IsOneOf, IsUnnamedRoot, IsRootNamed, AreRootsNamed}
use Rattle.ls_points.specs.steps.Some.{SomeOf}
use Rattle.ls_points.proofs.AnsweredLemmas.{at_most_one, few_named, find_answered, each_answered, as_many_answered}
use Rattle.ls_points.proofs.FlatLemmas.{SomeOf-front, SomeOf-back, SomeOf-weaker}

-- ---- one entry a name

listed_more : (structures more : Structures) (x : Symbol) → IsStructureOf structures x → IsStructureOf (structures ++ more) x
listed_more structures more x (include, h) = (include, Contains-append_left structures more (x, include) h)

only : (p q : Symbol × Option Symbol) → Contains (p ∷ []) q → q ≡ p
only p q h = elim (Contains-push_cases [] p q h) [ inl none ↦ absurd (omega (arith, none.1)) | inr e ↦ sym e ]

-- what stands later has another name than what stands before
later_is_new : (before more : Structures) (x : Symbol) (a : Option Symbol) → AreIncludedBefore before more → Contains more (x, a) → IsStructureOf before x → ⊥
later_is_new before [] x a h (k, l, e) earlier = omega arith
later_is_new before (p ∷ more) x a h c earlier = elim (Contains-append_cases (p ∷ []) more (x, a) c) [
  | inl here ↦ h.0.0 (subst (IsStructureOf before) (ap (λ q. q.0) (only p (x, a) here)) earlier)
  | inr there ↦ later_is_new (before ++ p ∷ []) more x a h.1 there (listed_more before (p ∷ []) x earlier)
]

-- a name has one entry
one_entry : (before more : Structures) (x : Symbol) (a b : Option Symbol) → AreIncludedBefore before more → Contains more (x, a) → Contains more (x, b) → a ≡ b
one_entry before [] x a b h (k, l, e) d = absurd (omega arith)
one_entry before (p ∷ more) x a b h c d = elim (Contains-append_cases (p ∷ []) more (x, a) c) [
  | inl first ↦ elim (Contains-append_cases (p ∷ []) more (x, b) d) [
    | inl second ↦ ap (λ q. q.1) (only p (x, a) first) ∙ sym (ap (λ q. q.1) (only p (x, b) second))
    | inr second ↦ absurd (later_is_new (before ++ p ∷ []) more x b h.1 second (subst (λ q. IsStructureOf (before ++ p ∷ []) q) (sym (ap (λ q. q.0) (only p (x, a) first))) (p.1, Contains-push before p)))
  ]
  | inr first ↦ elim (Contains-append_cases (p ∷ []) more (x, b) d) [
    | inl second ↦ absurd (later_is_new (before ++ p ∷ []) more x a h.1 first (subst (λ q. IsStructureOf (before ++ p ∷ []) q) (sym (ap (λ q. q.0) (only p (x, b) second))) (p.1, Contains-push before p)))
    | inr second ↦ one_entry (before ++ p ∷ []) more x a b h.1 first second
  ]
]

-- ---- the nearest named type

module _ (all : Structures) (names : List Symbol) (order : IsInclusionOrder all) where
  -- the two are under the same of the names
  abbrev AreUnderSame : Symbol → Symbol → Type 0
  AreUnderSame x y = (w : Symbol) → IsOneOf w names → Under all x w ↔ Under all y w

  abbrev IsUnderNone : Symbol → Type 0
  IsUnderNone x = (w : Symbol) → IsOneOf w names → Under all x w → ⊥

  -- some name stands for x, or x is under none and there is a root that isn't named
  abbrev StandsFor : Symbol → Type 0
  StandsFor x = SomeOf (λ y. AreUnderSame y x) names ⊎ (((r : Symbol) × IsUnnamedRoot all names r) × IsUnderNone x)

  decided : (x : Symbol) (list : List Symbol) → IsOneOf x list ⊎ (IsOneOf x list → ⊥)
  decided x [] = inr (λ h. h)
  decided x (y ∷ ys) = elim (cases_Bool (same_symbol y x)) [
    | inl same ↦ inl (inl ((Decides-symbol y x).0 same))
    | inr apart ↦ elim (decided x ys) [
      | inl there ↦ inl (inr there)
      | inr none ↦ inr (λ h. elim h [ inl e ↦ absurd (not_both (same_symbol y x) ((Decides-symbol y x).1 e) apart) | inr there ↦ none there ])
    ]
  ]
    where
      not_both : (b : Bool) → b ≡ true → b ≡ false → ⊥
      not_both true e f = absurd (cc)
      not_both false e f = absurd (cc)

  -- a chain from a root leads to it alone
  root_alone : (x w : Symbol) → Contains all (x, None) → Under all x w → x ≡ w
  root_alone x w c (itself) = refl
  root_alone x w c (through {z = z} d u) = absurd (let e : None ≡ Some z = one_entry [] all x None (Some z) order c d in cc)

  -- a chain from a type that includes another leads to it or through the other
  by_included : (x z w : Symbol) → Contains all (x, Some z) → (x ≡ w → ⊥) → Under all x w → Under all z w
  by_included x z w c apart (itself) = absurd (apart refl)
  by_included x z w c apart (through {z = y} d u) = subst (λ t. Under all t w) (let e : Some z ≡ Some y = one_entry [] all x (Some z) (Some y) order c d in let f : y ≡ z = cc in f) u

  same_as_itself : (x : Symbol) (list : List Symbol) → IsOneOf x list → SomeOf (λ y. AreUnderSame y x) list
  same_as_itself x list h = SomeOf-weaker (λ y. y ≡ x) (λ y. AreUnderSame y x) (λ y e w o. (λ u. subst (λ t. Under all t w) e u, λ u. subst (λ t. Under all t w) (sym e) u)) list h

  unnamed : (x : Symbol) (include : Option Symbol) → Contains all (x, include) → (IsOneOf x names → ⊥) → ForSome include StandsFor → StandsFor x
  unnamed x None c new stands = inr ((x, (c, new)), λ w o u. new (subst (λ t. IsOneOf t names) (sym (root_alone x w c u)) o))
  unnamed x (Some z) c new stands = elim (stands z refl) [
    | inl some ↦ inl (SomeOf-weaker (λ y. AreUnderSame y z) (λ y. AreUnderSame y x) (λ y same w o. (λ u. through c ((same w o).0 u), λ u. (same w o).1 (by_included x z w c (λ e. new (subst (λ t. IsOneOf t names) (sym e) o)) u))) names some)
    | inr none ↦ inr (none.0, λ w o u. none.1 w o (by_included x z w c (λ e. new (subst (λ t. IsOneOf t names) (sym e) o)) u))
  ]

  each_stands : (before more : Structures) → AreIncludedBefore before more → before ++ more ≡ all → ((x : Symbol) → IsStructureOf before x → StandsFor x) → (x : Symbol) → IsStructureOf all x → StandsFor x
  each_stands before [] h e earlier x s = earlier x (subst (λ t. IsStructureOf t x) (sym e ∙ append-nil before) s)
  each_stands before (p ∷ more) h e earlier x s =
      let here : StandsFor p.0 = elim (decided p.0 names) [
        | inl named ↦ inl (same_as_itself p.0 names named)
        | inr new ↦ unnamed p.0 p.1 (subst (λ t. Contains t p) e (Contains-append_right before (p ∷ more) p (zero, omega arith, refl))) new (λ z f. earlier z (h.0.1 z f))
      ] in
      each_stands (before ++ p ∷ []) more h.1 (append_assoc before (p ∷ []) more ∙ e) (λ y t. elim (Contains-push_cases before p (y, t.0) t.1) [ inl old ↦ earlier y (t.0, old) | inr f ↦ subst StandsFor (ap (λ q. q.0) f) here ]) x s

  pub all_stand : (x : Symbol) → IsStructureOf all x → StandsFor x
  all_stand x s = each_stands [] all order refl (λ y t. absurd (omega (arith, t.1.1))) x s

-- ---- atoms

-- structures of two types that are under the same of the names are in the same atoms
in_same_atom : (structures : Structures) (y x : Symbol) (s : Specifier) → IsAtom s → ((w : Symbol) → IsOneOf w (named_structure s) → Under structures y w ↔ Under structures x w)
    → Belongs structures s (node [] (structure y)) ↔ Belongs structures s (node [] (structure x))
in_same_atom structures y x (structure_under w) is h = h w (inl refl)
in_same_atom structures y x (eql_to (point.Number r)) is h = ((λ b. b), (λ b. b))
in_same_atom structures y x (eql_to (point.Char c)) is h = ((λ b. b), (λ b. b))
in_same_atom structures y x (eql_to (point.Sym s)) is h = ((λ b. b), (λ b. b))
in_same_atom structures y x all_objects is h = absurd is
in_same_atom structures y x no_objects is h = absurd is
in_same_atom structures y x (and_of ss) is h = absurd is
in_same_atom structures y x (or_of ss) is h = absurd is
in_same_atom structures y x (not_of s) is h = absurd is
in_same_atom structures y x _ is h = ((λ b. b), (λ b. b))

in_same_atoms : (structures over : Structures) (y x : Symbol) (atoms : List Spec) → AllByRecursion (λ a. IsFitAtomOf over (specifier a)) atoms → ((w : Symbol) → IsOneOf w (named_structures atoms) → Under structures y w ↔ Under structures x w)
    → AreInSameAtoms (λ a o. Belongs structures (specifier a) o) atoms (node [] (structure y)) (node [] (structure x))
in_same_atoms structures over y x [] fit h = tt
in_same_atoms structures over y x (a ∷ more) fit h = (
  in_same_atom structures y x (specifier a) fit.0.0 (λ w o. h w (SomeOf-front (λ t. t ≡ w) (named_structure (specifier a)) (named_structures more) o)),
  in_same_atoms structures over y x more fit.1 (λ w o. h w (SomeOf-back (λ t. t ≡ w) (named_structure (specifier a)) (named_structures more) o)),
)

-- the names of atoms that fit are those of structure types
known_named : (structures : Structures) (s : Specifier) → HasKnownNames structures s → AllByRecursion (IsStructureOf structures) (named_structure s)
known_named structures (structure_under w) h = (h, tt)
known_named structures _ h = tt

known_names : (structures : Structures) (atoms : List Spec) → AllByRecursion (λ a. IsFitAtomOf structures (specifier a)) atoms → AllByRecursion (IsStructureOf structures) (named_structures atoms)
known_names structures [] fit = tt
known_names structures (a ∷ more) fit = AllByRecursion-append (IsStructureOf structures) (named_structure (specifier a)) (named_structures more) (known_named structures (specifier a) fit.0.1.0) (known_names structures more fit.1)

-- an atom has at most one structure name
one_named : (s : Specifier) → length (named_structure s) ≤ (if is_structure_atom s then 1 else 0)
one_named (structure_under w) = omega arith
one_named any_structure = omega arith
one_named _ = omega arith

-- two facts at once
both_of : (P Q : Symbol → Type 0) (xs : List Symbol) → AllByRecursion P xs → AllByRecursion Q xs → AllByRecursion (λ x. P x × Q x) xs
both_of P Q [] h k = tt
both_of P Q (x ∷ xs) h k = ((h.0, k.0), both_of P Q xs h.1 k.1)

module _ (structures : Structures) (atoms : List Spec) (root : Option Symbol) (fit : AllByRecursion (λ a. IsFitAtomOf structures (specifier a)) atoms) (order : IsInclusionOrder structures)
    (root_is : MatchOption root (AreRootsNamed structures (named_structures atoms)) (IsUnnamedRoot structures (named_structures atoms)))
    (answered : List Object) (is : map lisp_object answered ≡ map (λ s. node [] (structure s)) (named_structures atoms ++ option_to_list root)) where
  abbrev names : List Symbol
  names = named_structures atoms

  root_stands : (x : Symbol) (r : Option Symbol) → MatchOption r (AreRootsNamed structures names) (IsUnnamedRoot structures names) → ((s : Symbol) × IsUnnamedRoot structures names s) → IsUnderNone structures names order x
      → SomeOf (λ y. AreUnderSame structures names order y x) (option_to_list r)
  root_stands x None named (s, root) none =
      absurd (root.1 (AllByRecursion-contains (IsRootNamed names) structures (s, None) named root.0 refl))
  root_stands x (Some t) first other none =
      inl (λ w o. (λ u. absurd (first.1 (subst (λ v. IsOneOf v names) (sym (root_alone structures names order t w first.0 u)) o)), λ u. absurd (none w o u)))

  covered : (x : Symbol) → IsStructureOf structures x → SomeOf (λ y. AreUnderSame structures names order y x) (names ++ option_to_list root)
  covered x s = elim (all_stand structures names order x s) [
    | inl some ↦ SomeOf-front (λ y. AreUnderSame structures names order y x) names (option_to_list root) some
    | inr none ↦ SomeOf-back (λ y. AreUnderSame structures names order y x) names (option_to_list root) (root_stands x root root_is none.0 none.1)
  ]

  pub struct_law : (over : Structures) → over ≡ structures → AreRepresentatives over (IsStructure structures) (λ a o. Belongs over (specifier a) o) atoms answered
  struct_law over e (node marks (structure x)) object class =
      find_answered (λ s. node [] (structure s)) (λ o. AreInSameAtoms (λ a p. Belongs over (specifier a) p) atoms o (node [] (structure x))) answered (names ++ option_to_list root) is
      (SomeOf-weaker (λ y. AreUnderSame structures names order y x) (λ y. AreInSameAtoms (λ a p. Belongs over (specifier a) p) atoms (node [] (structure y)) (node [] (structure x)))
      (λ y same. subst (λ t. AreInSameAtoms (λ a p. Belongs t (specifier a) p) atoms (node [] (structure y)) (node [] (structure x))) (sym e) (in_same_atoms structures structures y x atoms fit same)) (names ++ option_to_list root) (covered x class))
  struct_law over e (node marks _) object class = absurd class

  root_known : (r : Option Symbol) → MatchOption r (AreRootsNamed structures names) (IsUnnamedRoot structures names) → AllByRecursion (IsStructureOf structures) (option_to_list r)
  root_known None h = tt
  root_known (Some s) h = ((None, h.0), tt)

  root_name : (r : Option Symbol) → ForSome r IsName → AllByRecursion IsName (option_to_list r)
  root_name None h = tt
  root_name (Some s) h = (h s refl, tt)

  all_known : AllByRecursion (IsStructureOf structures) (names ++ option_to_list root)
  all_known = AllByRecursion-append (IsStructureOf structures) names (option_to_list root) (known_names structures atoms fit) (root_known root root_is)

  -- each answered object is one of the universe
  pub struct_objects : AllByRecursion IsName names → ForSome root IsName → (over : Structures) → over ≡ structures → AllByRecursion (λ r. IsObject over (lisp_object r)) answered
  struct_objects named found over e =
      subst (λ t. AllByRecursion (λ r. IsObject t (lisp_object r)) answered) (sym e)
      (each_answered (λ s. node [] (structure s)) (IsObject structures) answered (names ++ option_to_list root) is
      (AllByRecursion-weaker (λ x. IsName x × IsStructureOf structures x) (λ x. IsObject structures (node [] (structure x))) (λ x h. (tt, h)) (names ++ option_to_list root)
      (both_of IsName (IsStructureOf structures) (names ++ option_to_list root) (AllByRecursion-append IsName names (option_to_list root) named (root_name root found)) all_known)))

  -- each is a plain structure of one of the types
  pub struct_plains : AllByRecursion (λ r. IsPlainOf (IsStructure structures) (lisp_object r)) answered
  struct_plains = each_answered (λ s. node [] (structure s)) (IsPlainOf (IsStructure structures)) answered (names ++ option_to_list root) is
      (AllByRecursion-weaker (IsStructureOf structures) (λ x. IsPlainOf (IsStructure structures) (node [] (structure x))) (λ x h. (refl, h)) (names ++ option_to_list root) all_known)

  -- there are few of them
  pub struct_count : length answered ≤ 4 + count_atoms is_structure_atom (map specifier atoms)
  struct_count =
      let e = as_many_answered (λ s. node [] (structure s)) answered (names ++ option_to_list root) is in
      let f = few_named named_structure is_structure_atom one_named atoms in
      let g = length-append names (option_to_list root) in
      let h = at_most_one root in
      omega arith

-- appending the named, and one more where there is one
pub joined : (named more : List Symbol) (o p q : List LispObject) → o ≡ [] → p ≡ o ++ map (λ s. node [] (structure s)) named → q ≡ p ++ map (λ s. node [] (structure s)) more → q ≡ map (λ s. node [] (structure s)) (named ++ more)
joined named more o p q e f g = rw (g, f, e) (simp (map-append, append_assoc) refl)
