-- For every array some answered array is in exactly the same atoms, and there are few of them.
use Rattle.std.proofs.Common.{ℕ, zero, suc, ◌≡◌, ◌∙◌, refl, sym, ap, subst, ◌+◌, ◌*◌, ◌<◌, ◌≤◌, ◌↔◌, inl, inr, Bool, true, false, ◌&&◌, List, [], ◌∷◌, ◌++◌, map, length, Option, Some, None, Decides, IsTrue, arith, length-append}
use Rattle.std.specs.List.{AllByRecursion, Contains}
use Rattle.std.proofs.lemmas.Bool.Decides.{Decides-and, Decides-eqb}
use Rattle.ls_object.specs.declared.object.Object.{Object}
use Rattle.ls_object.specs.declared.symbol.Symbol.{Symbol}
use Rattle.ls_object.specs.declared.table.TheConstants.{TABLE_LEN}
use Rattle.ls_object.specs.Universe.{LispObject, node, LispShape, array, Structures, IsObject, plain}
use Rattle.ls_object.specs.Meaning.{lisp_object, lisp_shape}
use Rattle.ls_object.proofs.MeaningLemmas.{lisp_object_is}
use Rattle.ls_tables.specs.Sets.{is_in}
use Rattle.ls_spec.specs.declared.spec.DimPattern.{DimPattern}
use Rattle.ls_spec.specs.declared.spec.DimPattern.TheVariants.{Any, Places}
use Rattle.ls_spec.specs.Fits.{IsSmallPlace, AreSmallDimensions}
use Rattle.ls_spec.specs.Limits.{dimension_limit}
use Rattle.ls_spec.specs.Regions.{AreInSameAtoms, AreRepresentatives, IsPlainOf}
use Rattle.ls_spec.specs.Membership.{IsSimpleIf, MatchesPlace, MatchesPlaces, MatchesDimensions}
use Rattle.ls_spec.specs.Truth.{is_simple_if, matches_place, matches_places, matches_dimensions}
use Rattle.ls_lists.specs.Candidates.{Pattern, shapes}
use Rattle.ls_arrays.specs.declared.atom.ArrayAtom.{ArrayAtom}
use Rattle.ls_arrays.specs.Arrays.{IsArray, IsFit, IsArrayIn, IsIn, is_named, codes_that, patterns, array_limit}
use Rattle.ls_arrays.specs.steps.Alike.{is_array_in}
use Rattle.ls_arrays.specs.steps.Representatives.{SomeOf, places_in, places_of, AreBelow, IsNameBelow, dimension_stand_ins, code_stand_ins, array_at, with_dims, with_code, with_codes}
use Rattle.ls_arrays.proofs.ListLemmas.{some_front, some_back, some_map, some_flat, length_map, length_flat}
use Rattle.ls_arrays.proofs.DimensionLaw.{MatchAlike, dims_law}
use Rattle.ls_arrays.proofs.CountLaw.{all_patterns, length_dimensions}
use Rattle.ls_arrays.proofs.CodeLaw.{AreInSameSets, code_law, length_codes, are_codes}

-- ---- the truth value decides membership

-- the shape of an object
abbrev pub shape_of : LispObject → LispShape
shape_of (node marks shape) = shape

-- a test that is always true
Decides-always : Decides true (Unit {0})
Decides-always = (λ _. tt, λ _. refl)

-- a test that is never true
Decides-never : Decides false ⊥
Decides-never = (λ e. cc, λ h. absurd h)

-- whether a dimension is as asked at its place
Decides-place : (p : Option ℕ) (n : ℕ) → Decides (matches_place p n) (MatchesPlace p n)
Decides-place None n = Decides-always
Decides-place (Some m) n = Decides-eqb n m

-- the same place by place
Decides-places : (ps : List (Option ℕ)) (ns : List ℕ) → Decides (matches_places ps ns) (MatchesPlaces ps ns)
Decides-places [] [] = Decides-always
Decides-places [] (n ∷ ns) = Decides-never
Decides-places (p ∷ ps) (n ∷ ns) = Decides-and _ _ (Decides-place p n) (Decides-places ps ns)
Decides-places (p ∷ ps) [] = Decides-never

-- and of a pattern
Decides-dimensions : (d : DimPattern) (ns : List ℕ) → Decides (matches_dimensions d ns) (MatchesDimensions d ns)
Decides-dimensions Any ns = Decides-always
Decides-dimensions (Places ps) ns = Decides-places ps ns

-- whether the array is simple, if that is asked
Decides-simple : (asked simple : Bool) → Decides (is_simple_if asked simple) (IsSimpleIf asked simple)
Decides-simple true simple = (λ e. e, λ e. e)
Decides-simple false simple = Decides-always

-- three tests, of which the last two are joined first
Decides-three : {P Q R : Type 0} (x y z : Bool) → Decides x P → Decides y Q → Decides z R → Decides (x && (y && z)) (P × Q × R)
Decides-three x y z p q r =
    let both = Decides-and x (y && z) p (Decides-and y z q r) in
    (λ e. let h = both.0 e in (h.0, h.1.0, h.1.1), λ h. both.1 (h.0, (h.1, h.2)))

-- whether the code is in the set
Decides-code : (b : Bool) → Decides b (IsTrue b)
Decides-code b = (λ e. e, λ h. h)

-- so whether an object of the shape is an array in the atom
pub Decides-in : (a : ArrayAtom) (marks : List Symbol) (shape : LispShape) → Decides (is_array_in a shape) (IsArrayIn a (node marks shape))
Decides-in a marks (array c simple ns) = Decides-three _ _ _ (Decides-code (is_in a.codes.bits c)) (Decides-simple a.simple simple) (Decides-dimensions a.dims ns)
Decides-in a marks _ = Decides-never

-- the plain form of an array has the same shape
plain_in : (a : ArrayAtom) (o : LispObject) (b : Bool) → b ≡ is_array_in a (shape_of o) → IsArray o → Decides b (IsArrayIn a (plain o))
plain_in a (node marks (array c simple ns)) b e class = subst (λ t. Decides t (IsArrayIn a (node [] (array c simple ns)))) (sym e) (Decides-in a [] (array c simple ns))
plain_in a (node marks _) b e class = absurd class

-- the same of an object of the program
pub Decides-plain : (a : ArrayAtom) (o : Object) (b : Bool) → b ≡ is_array_in a (lisp_shape o.shape) → IsArray (lisp_object o) → Decides b (IsArrayIn a (plain (lisp_object o)))
Decides-plain a o b e class = plain_in a (lisp_object o) b (e ∙ ap (λ p. is_array_in a (shape_of p)) (sym (lisp_object_is o))) class

-- ---- the law

-- the dimensions match the same patterns of the atoms
abbrev HaveDimsAlike : List ArrayAtom → List ℕ → List ℕ → Type 0
HaveDimsAlike atoms xs ys = AllByRecursion (λ a. matches_dimensions a.dims xs ≡ matches_dimensions a.dims ys) atoms

-- the same of one atom
dims_step : (d : DimPattern) (pss : List Pattern) (xs ys : List ℕ) → MatchAlike (places_in d pss) xs ys → (matches_dimensions d xs ≡ matches_dimensions d ys) × MatchAlike pss xs ys
dims_step Any pss xs ys h = (refl, h)
dims_step (Places ps) pss xs ys h = (h.0, h.1)

-- from patterns to atoms
dims_alike : (atoms : List ArrayAtom) (xs ys : List ℕ) → MatchAlike (places_of atoms) xs ys → HaveDimsAlike atoms xs ys
dims_alike [] xs ys h = tt
dims_alike (a ∷ atoms) xs ys h = let k = dims_step a.dims (places_of atoms) xs ys h in (k.0, dims_alike atoms xs ys k.1)

-- truth values that are equal
alike : {P Q : Type 0} (x y : Bool) → Decides x P → Decides y Q → x ≡ y → P ↔ Q
alike x y p q e = (λ h. q.0 (sym e ∙ p.1 h), λ h. p.0 (e ∙ q.1 h))

-- arrays whose codes are in the same sets and whose dimensions match the same patterns are in the same atoms
in_same_atoms : (structures : Structures) (atoms : List ArrayAtom) (c k : ℕ) (s : Bool) (xs ys : List ℕ) → AreInSameSets atoms k c → HaveDimsAlike atoms xs ys
    → AreInSameAtoms (IsIn structures) atoms (array_at k s xs) (array_at c s ys)
in_same_atoms structures [] c k s xs ys h m = tt
in_same_atoms structures (a ∷ atoms) c k s xs ys h m =
    let e : is_array_in a (array k s xs) ≡ is_array_in a (array c s ys) = (let f = h.0 in let g = m.0 in cc (f, g)) in
    (alike _ _ (Decides-in a [] (array k s xs)) (Decides-in a [] (array c s ys)) e, in_same_atoms structures atoms c k s xs ys h.1 m.1)

-- an array that is simple or not is among those of its code
of_simple : (P : LispObject → Type 0) (dims : List (List ℕ)) (c : ℕ) (s : Bool) → SomeOf P (with_dims dims c s) → SomeOf P (with_code dims c)
of_simple P dims c false h = some_front P (with_dims dims c false) _ h
of_simple P dims c true h = some_back P (with_dims dims c false) _ h

-- for an array of any code and dimensions some array is in the same atoms
some_alike : (structures : Structures) (fresh : ℕ) (atoms : List ArrayAtom) → AreBelow fresh (places_of atoms) → (c : ℕ) (s : Bool) (ys : List ℕ) → c < TABLE_LEN
    → SomeOf (λ r. AreInSameAtoms (IsIn structures) atoms r (array_at c s ys)) (with_codes (dimension_stand_ins fresh (places_of atoms)) (code_stand_ins atoms))
some_alike structures fresh atoms below c s ys l =
    some_flat (λ k. AreInSameSets atoms k c) _ (with_code (dimension_stand_ins fresh (places_of atoms)))
    (λ k same. of_simple _ (dimension_stand_ins fresh (places_of atoms)) k s
    (some_map (λ xs. MatchAlike (places_of atoms) xs ys) _ (array_at k s)
    (λ xs h. in_same_atoms structures atoms c k s xs ys same (dims_alike atoms xs ys h))
    (dimension_stand_ins fresh (places_of atoms)) (dims_law fresh (places_of atoms) below ys)))
    (code_stand_ins atoms) (code_law atoms c l)

-- atoms within the limits name dimensions below the limit
names_below : (ps : Pattern) → AllByRecursion IsSmallPlace ps → AllByRecursion (IsNameBelow dimension_limit) ps
names_below [] h = tt
names_below (None ∷ ps) h = (tt, names_below ps h.1)
names_below (Some n ∷ ps) h = (h.0, names_below ps h.1)

-- so what a pattern names is below it
below_step : (d : DimPattern) (pss : List Pattern) → AreSmallDimensions d → AreBelow dimension_limit pss → AreBelow dimension_limit (places_in d pss)
below_step Any pss fit h = h
below_step (Places ps) pss fit h = (names_below ps fit.1, h)

-- so all that the atoms name is below it
all_below_limit : (atoms : List ArrayAtom) → AllByRecursion IsFit atoms → AreBelow dimension_limit (places_of atoms)
all_below_limit [] fit = tt
all_below_limit (a ∷ atoms) fit = below_step a.dims (places_of atoms) fit.0 (all_below_limit atoms fit.1)

-- ---- from arrays to the objects that are answered

-- what a list contains is in a longer one
contains_more : {X : Type 0} (x y : X) (xs : List X) → Contains xs x → Contains (y ∷ xs) x
contains_more x y xs (k, l, e) = (suc k, omega arith, e)

-- an answered object is as one of the arrays
find_answered : (P : LispObject → Type 0) (answered : List Object) (os : List LispObject) → map lisp_object answered ≡ os → SomeOf P os → (r : Object) × Contains answered r × P (lisp_object r)
find_answered P answered [] e h = absurd h
find_answered P [] (u ∷ us) e h = cc
find_answered P (r ∷ rs) (u ∷ us) e (inl h) = (r, (zero, omega arith, refl), subst P (let f : u ≡ lisp_object r = cc in f) h)
find_answered P (r ∷ rs) (u ∷ us) e (inr h) =
    let f : map lisp_object rs ≡ us = cc in
    let (q, there, is) = find_answered P rs us f h in
    (q, contains_more q r rs there, is)

-- what holds of each array holds of each answered object
each_answered : (P : LispObject → Type 0) (answered : List Object) (os : List LispObject) → map lisp_object answered ≡ os → AllByRecursion P os → AllByRecursion (λ r. P (lisp_object r)) answered
each_answered P [] os e h = tt
each_answered P (r ∷ rs) [] e h = cc
each_answered P (r ∷ rs) (u ∷ us) e h =
    let f : lisp_object r ≡ u = cc in
    let g : map lisp_object rs ≡ us = cc in
    (subst P (sym f) h.0, each_answered P rs us g h.1)

-- what holds of the elements of two lists
all_both : {X : Type 0} (P : X → Type 0) (xs ys : List X) → AllByRecursion P xs → AllByRecursion P ys → AllByRecursion P (xs ++ ys)
all_both P [] ys h k = k
all_both P (x ∷ xs) ys h k = (h.0, all_both P xs ys h.1 k)

-- what holds of the arrays of a code
all_dims : (P : LispObject → Type 0) (dims : List (List ℕ)) (c : ℕ) (s : Bool) → ((ns : List ℕ) → P (array_at c s ns)) → AllByRecursion P (with_dims dims c s)
all_dims P [] c s h = tt
all_dims P (ns ∷ dims) c s h = (h ns, all_dims P dims c s h)

-- what holds of the arrays of each code holds of all
all_arrays : (P : LispObject → Type 0) (dims : List (List ℕ)) (codes : List ℕ) → AllByRecursion (λ c. (s : Bool) (ns : List ℕ) → P (array_at c s ns)) codes → AllByRecursion P (with_codes dims codes)
all_arrays P dims [] h = tt
all_arrays P dims (c ∷ codes) h =
    all_both P (with_code dims c) (with_codes dims codes) (all_both P (with_dims dims c false) (with_dims dims c true) (all_dims P dims c false (h.0 false)) (all_dims P dims c true (h.0 true))) (all_arrays P dims codes h.1)

-- what is weaker holds too
each_weaker : (P Q : ℕ → Type 0) (xs : List ℕ) → ((x : ℕ) → P x → Q x) → AllByRecursion P xs → AllByRecursion Q xs
each_weaker P Q [] f h = tt
each_weaker P Q (x ∷ xs) f h = (f x h.0, each_weaker P Q xs f h.1)

-- ---- how many

-- a lesser count of equal parts
at_most : (a b k : ℕ) → a ≤ b → a * k ≤ b * k
at_most a b k l = grind arith

-- arrays of a code, simple or not
both_counts : (xs ys : List LispObject) (n : ℕ) → length xs ≡ n → length ys ≡ n → length (xs ++ ys) ≡ 2 * n
both_counts xs ys n e f = let g = length-append xs ys in omega arith

-- the product of both
bound : (k m c n : ℕ) → k ≡ m * (2 * n) → m * (2 * n) ≤ c * (2 * n) → k ≤ 2 * c * n
bound k m c n e f = grind arith

-- so there are few arrays
within_limit : (fresh : ℕ) (atoms : List ArrayAtom) → length (with_codes (dimension_stand_ins fresh (places_of atoms)) (code_stand_ins atoms)) ≤ 2 * (length (codes_that (is_named atoms)) + 1) * (1 + shapes (places_of atoms))
within_limit fresh atoms =
    let dims = dimension_stand_ins fresh (places_of atoms) in
    let n = 1 + shapes (places_of atoms) in
    let few : length dims ≡ n = length_dimensions fresh (places_of atoms) in
    let one : (c : ℕ) → length (with_code dims c) ≡ 2 * n = λ c. both_counts (with_dims dims c false) (with_dims dims c true) n (length_map (array_at c false) dims ∙ few) (length_map (array_at c true) dims ∙ few) in
    let e : length (with_codes dims (code_stand_ins atoms)) ≡ length (code_stand_ins atoms) * (2 * n) = length_flat (with_code dims) (2 * n) one (code_stand_ins atoms) in
    let f = at_most (length (code_stand_ins atoms)) (length (codes_that (is_named atoms)) + 1) (2 * n) (length_codes atoms) in
    bound _ _ (length (codes_that (is_named atoms)) + 1) n e f

module _ (atoms : List ArrayAtom) (fit : AllByRecursion IsFit atoms) (answered : List Object)
    (is : map lisp_object answered ≡ with_codes (dimension_stand_ins dimension_limit (places_of atoms)) (code_stand_ins atoms)) where
  -- for every array some answered object is in the same atoms as its plain form
  pub array_law : (structures : Structures) → AreRepresentatives structures IsArray (IsIn structures) atoms answered
  array_law structures (node marks (array c s ns)) object class =
      find_answered (λ r. AreInSameAtoms (IsIn structures) atoms r (array_at c s ns)) answered _ is (some_alike structures dimension_limit atoms (all_below_limit atoms fit) c s ns object.1)
  array_law structures (node marks _) object class = absurd class

  -- each answered object is one of the universe
  pub array_objects : (structures : Structures) → AllByRecursion (λ r. IsObject structures (lisp_object r)) answered
  array_objects structures = each_answered (IsObject structures) answered _ is
      (all_arrays (IsObject structures) (dimension_stand_ins dimension_limit (places_of atoms)) (code_stand_ins atoms) (each_weaker _ _ (code_stand_ins atoms) (λ c l s ns. (tt, l)) (are_codes atoms)))

  -- each is a plain array
  pub array_plains : AllByRecursion (λ r. IsPlainOf IsArray (lisp_object r)) answered
  array_plains = each_answered (IsPlainOf IsArray) answered _ is
      (all_arrays (IsPlainOf IsArray) (dimension_stand_ins dimension_limit (places_of atoms)) (code_stand_ins atoms) (each_weaker _ _ (code_stand_ins atoms) (λ c l s ns. (refl, tt)) (are_codes atoms)))

  -- there are few of them
  pub array_count : length answered ≤ array_limit atoms
  array_count =
      let e : length answered ≡ length (with_codes (dimension_stand_ins dimension_limit (places_of atoms)) (code_stand_ins atoms)) = sym (length_map lisp_object answered) ∙ ap length is in
      let f = within_limit dimension_limit atoms in
      let g : shapes (places_of atoms) ≡ shapes (patterns atoms) = ap shapes (all_patterns atoms) in
      let h : length answered ≤ 2 * (length (codes_that (is_named atoms)) + 1) * (1 + shapes (places_of atoms)) = subst (λ k. k ≤ 2 * (length (codes_that (is_named atoms)) + 1) * (1 + shapes (places_of atoms))) (sym e) f in
      subst (λ k. length answered ≤ 2 * (length (codes_that (is_named atoms)) + 1) * (1 + k)) g h
