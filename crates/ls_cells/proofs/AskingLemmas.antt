-- At an array the truth value of an atom is whether the array is as it asks.
use Rattle.std.proofs.Common.{ℕ, ◌≡◌, ◌∙◌, refl, sym, ap, subst, ◌<◌, ◌+◌, Bool, true, false, ◌&&◌, ◌==◌, Some, List, [], ◌∷◌, ◌++◌, length, map, take, get_or, All, arith}
use Rattle.std.specs.List.{AllByRecursion}
use Rattle.std.proofs.lemmas.List.{map-append, length-map, get_or-map, take_more}
use Rattle.ls_object.specs.declared.symbol.Symbol.{Symbol}
use Rattle.ls_object.specs.declared.table.TheConstants.{TABLE_LEN}
use Rattle.ls_object.specs.Universe.{LispObject, node, array, Structures, IsObject}
use Rattle.ls_tables.specs.Sets.{is_in}
use Rattle.ls_spec.specs.declared.spec.DimPattern.{DimPattern}
use Rattle.ls_spec.specs.declared.spec.DimPattern.TheVariants as dimensions
use Rattle.ls_spec.specs.declared.spec.Point.{Point}
use Rattle.ls_spec.specs.declared.spec.Point.TheVariants as point
use Rattle.ls_spec.specs.Specifier.{Specifier, all_objects, no_objects, and_of, or_of, not_of, eql_to, range_of, chars_of, symbols_of, kind_of, structure_under, any_structure, array_any, array_of, string_of, cons_of, satisfies}
use Rattle.ls_spec.specs.declared.spec.Spec.{Spec}
use Rattle.ls_spec.specs.Meaning.{specifier}
use Rattle.ls_spec.specs.Fits.{IsAtom, AreSmallDimensions}
use Rattle.ls_spec.specs.Membership.{Belongs, UpgradesTo}
use Rattle.ls_spec.specs.Truth.{Learnt, IsLearnt, holds, is_point, is_array_with, is_simple_if, is_string_code, matches_dimensions}
use Rattle.ls_spec.proofs.TruthLemmas.{one_code}
use Rattle.ls_intern.specs.declared.node.Node.{Node}
use Rattle.ls_intern.specs.declared.node.Node.TheVariants as tree
use Rattle.ls_intern.specs.Places.{at, specifiers_at, node_specifier}
use Rattle.ls_points.specs.Classes.{IsFitAtomOf}
use Rattle.ls_points.specs.Members.{IsFitIn}
use Rattle.ls_arrays.specs.declared.atom.ArrayAtom.{ArrayAtom}
use Rattle.ls_arrays.specs.Arrays.{IsArray, IsFit}
use Rattle.ls_cells.specs.Cells.{signs_at, bare}
use Rattle.ls_cells.specs.steps.Asking.{HasCodesThat, HasShape, IsNotAsked, IsAskedBy, AreAskedBy, is_asked, asked_signs, AreSigns}

-- an array is as the atom asks exactly where its code passes the test, and its shape is as asked
one_array : (test : ℕ → Bool) (simple : Bool) (dims : DimPattern) (a : ArrayAtom) (marks : List Symbol) (c : ℕ) (s : Bool) (ns : List ℕ)
    → HasCodesThat test a → HasShape simple dims a → c < TABLE_LEN
    → is_array_with test simple (matches_dimensions dims) (array c s ns) ≡ is_asked (node marks (array c s ns)) a
one_array test simple dims a marks c s ns h (e, f) l =
    let g = h c l in
    ap (λ b. b && (is_simple_if simple s && matches_dimensions dims ns)) (sym g)
    ∙ ap (λ b. is_in a.codes.bits c && (is_simple_if b s && matches_dimensions dims ns)) (sym e)
    ∙ ap (λ d. is_in a.codes.bits c && (is_simple_if a.simple s && matches_dimensions d ns)) (sym f)

-- no array is as an atom of other objects asks
no_array : (a : ArrayAtom) (marks : List Symbol) (c : ℕ) (s : Bool) (ns : List ℕ) → IsNotAsked a → c < TABLE_LEN → false ≡ is_asked (node marks (array c s ns)) a
no_array a marks c s ns h l = one_array (λ k. false) false dimensions.Any a marks c s ns h.0 h.1 l

-- EQL names no array
no_point : (p : Point) (c : ℕ) (s : Bool) (ns : List ℕ) → is_point p (array c s ns) ≡ false
no_point (point.Number r) c s ns = refl
no_point (point.Char k) c s ns = refl
no_point (point.Sym t) c s ns = refl

-- the truth value of an atom at an array, marks left out
asked_is : (structures : Structures) (learnt : Learnt) (s : Specifier) (a : ArrayAtom) (o : LispObject) → IsAtom s → IsAskedBy structures s a → IsLearnt structures learnt s
    → IsObject structures o → IsArray o → holds learnt s (bare o) ≡ is_asked o a
asked_is structures learnt all_objects a o atom h known object is = absurd atom
asked_is structures learnt no_objects a o atom h known object is = absurd atom
asked_is structures learnt (and_of ss) a o atom h known object is = absurd atom
asked_is structures learnt (or_of ss) a o atom h known object is = absurd atom
asked_is structures learnt (not_of s) a o atom h known object is = absurd atom
asked_is structures learnt (array_any simple dims) a (node marks (array c s ns)) atom h known object is =
    one_array (λ k. true) simple dims a marks c s ns h.0 h.1 object.1
asked_is structures learnt (array_of e simple dims) a (node marks (array c s ns)) atom h known object is =
    let same = one_code structures (Belongs structures e) (learnt.code_of e) h.0.0 known h.0.1 in
    ap (λ (k : ℕ). (c == k) && (is_simple_if simple s && matches_dimensions dims ns)) same
    ∙ one_array (λ k. k == h.0.0) simple dims a marks c s ns h.0.2 h.1 object.1
asked_is structures learnt (string_of simple dim) a (node marks (array c s ns)) atom h known object is =
    one_array is_string_code simple (dimensions.Places (dim ∷ [])) a marks c s ns h.0 h.1 object.1
asked_is structures learnt (eql_to p) a (node marks (array c s ns)) atom h known object is = no_point p c s ns ∙ no_array a marks c s ns h object.1
asked_is structures learnt (range_of k lo hi) a (node marks (array c s ns)) atom h known object is = no_array a marks c s ns h object.1
asked_is structures learnt (chars_of k) a (node marks (array c s ns)) atom h known object is = no_array a marks c s ns h object.1
asked_is structures learnt (symbols_of k) a (node marks (array c s ns)) atom h known object is = no_array a marks c s ns h object.1
asked_is structures learnt (kind_of k) a (node marks (array c s ns)) atom h known object is = no_array a marks c s ns h object.1
asked_is structures learnt (structure_under y) a (node marks (array c s ns)) atom h known object is = no_array a marks c s ns h object.1
asked_is structures learnt any_structure a (node marks (array c s ns)) atom h known object is = no_array a marks c s ns h object.1
asked_is structures learnt (satisfies p) a (node marks (array c s ns)) atom h known object is = no_array a marks c s ns h object.1
asked_is structures learnt (cons_of x y) a (node marks (array c s ns)) atom h known object is = no_array a marks c s ns h object.1
asked_is structures learnt s a (node marks _) atom h known object is = absurd is

-- the truth values of a list of atoms at an array
signs_are : (structures : Structures) (learnt : Learnt) (own : Structures) (atoms : List Spec) (asked : List ArrayAtom) (o : LispObject)
    → AllByRecursion (IsFitIn own) atoms → AreAskedBy structures (map specifier atoms) asked
    → AllByRecursion (IsLearnt structures learnt) (map specifier atoms) → IsObject structures o → IsArray o → signs_at learnt (map specifier atoms) (bare o) ≡ asked_signs asked o
signs_are structures learnt own [] [] o fit h known object is = refl
signs_are structures learnt own (s ∷ atoms) (a ∷ asked) o fit h known object is =
    let e = asked_is structures learnt (specifier s) a o fit.0.0 h.0 known.0 object is in
    let f = signs_are structures learnt own atoms asked o fit.1 h.1 known.1 object is in
    cc
signs_are structures learnt own [] (a ∷ asked) o fit h known object is = absurd h
signs_are structures learnt own (s ∷ atoms) [] o fit h known object is = absurd h

-- so they are the truth values at all arrays
pub are_signs : (structures : Structures) (learnt : Learnt) (own : Structures) (atoms : List Spec) (asked : List ArrayAtom)
    → AllByRecursion (IsFitIn own) atoms → AreAskedBy structures (map specifier atoms) asked
    → AllByRecursion (IsLearnt structures learnt) (map specifier atoms) → AreSigns structures learnt (map specifier atoms) asked
are_signs structures learnt own atoms asked fit h known o object is = signs_are structures learnt own atoms asked o fit h known object is

-- what an atom within the limits asks is within them
fit_one : (own structures : Structures) (s : Specifier) (a : ArrayAtom) → IsFitAtomOf own s → IsAskedBy structures s a → AreSmallDimensions a.dims
fit_one own structures (array_any simple dims) a fit h = subst AreSmallDimensions (sym h.1.1) fit.1.1.0
fit_one own structures (array_of e simple dims) a fit h = subst AreSmallDimensions (sym h.1.1) fit.1.1.0.1
fit_one own structures (string_of simple dim) a fit h = subst AreSmallDimensions (sym h.1.1) (omega arith, (fit.1.1.0, tt))
fit_one own structures all_objects a fit h = absurd fit.0
fit_one own structures no_objects a fit h = absurd fit.0
fit_one own structures (and_of ss) a fit h = absurd fit.0
fit_one own structures (or_of ss) a fit h = absurd fit.0
fit_one own structures (not_of s) a fit h = absurd fit.0
fit_one own structures (eql_to p) a fit h = subst AreSmallDimensions (sym h.1.1) tt
fit_one own structures (range_of k lo hi) a fit h = subst AreSmallDimensions (sym h.1.1) tt
fit_one own structures (chars_of k) a fit h = subst AreSmallDimensions (sym h.1.1) tt
fit_one own structures (symbols_of k) a fit h = subst AreSmallDimensions (sym h.1.1) tt
fit_one own structures (kind_of k) a fit h = subst AreSmallDimensions (sym h.1.1) tt
fit_one own structures (structure_under y) a fit h = subst AreSmallDimensions (sym h.1.1) tt
fit_one own structures any_structure a fit h = subst AreSmallDimensions (sym h.1.1) tt
fit_one own structures (cons_of x y) a fit h = subst AreSmallDimensions (sym h.1.1) tt
fit_one own structures (satisfies p) a fit h = subst AreSmallDimensions (sym h.1.1) tt

-- so arrays may be asked about them
pub asked_fit : (own structures : Structures) (atoms : List Spec) (asked : List ArrayAtom) → AllByRecursion (IsFitIn own) atoms → AreAskedBy structures (map specifier atoms) asked
    → AllByRecursion IsFit asked
asked_fit own structures [] [] fit h = tt
asked_fit own structures (s ∷ atoms) (a ∷ asked) fit h = (fit_one own structures (specifier s) a fit.0 h.0, asked_fit own structures atoms asked fit.1 h.1)
asked_fit own structures [] (a ∷ asked) fit h = absurd h
asked_fit own structures (s ∷ atoms) [] fit h = absurd h

-- as many as the atoms
pub asked_count : (structures : Structures) (specs : List Specifier) (asked : List ArrayAtom) → AreAskedBy structures specs asked → length asked ≡ length specs
asked_count structures [] [] h = refl
asked_count structures (s ∷ specs) (a ∷ asked) h = let e = asked_count structures specs asked h.1 in omega arith
asked_count structures [] (a ∷ asked) h = absurd h
asked_count structures (s ∷ specs) [] h = absurd h

-- ---- for the code

-- what an array atom with an element type asks
pub element_asked : (structures : Structures) (known : List Specifier) (n : Node) (s : Specifier) (element : ℕ) (simple : Bool) (dims : DimPattern) (a : ArrayAtom) (c : ℕ)
    → node_specifier known n ≡ s → n ≡ tree.ArrayOf (Some element) simple dims → UpgradesTo structures (at known element) c → ((k : ℕ) → is_in a.codes.bits k ≡ (k == c))
    → a.simple ≡ simple → a.dims ≡ dims → IsAskedBy structures s a
element_asked structures known n s element simple dims a c says is up codes e f =
    subst (λ (t : Specifier). IsAskedBy structures t a) (sym (ap (node_specifier known) is) ∙ says) ((c, up, λ k l. codes k), (e, f))

-- one atom more
push_asked : (structures : Structures) (specs : List Specifier) (asked : List ArrayAtom) (s : Specifier) (a : ArrayAtom) → AreAskedBy structures specs asked → IsAskedBy structures s a
    → AreAskedBy structures (specs ++ s ∷ []) (asked ++ a ∷ [])
push_asked structures [] [] s a h k = (k, tt)
push_asked structures (t ∷ specs) (b ∷ asked) s a h k = (h.0, push_asked structures specs asked s a h.1 k)
push_asked structures [] (b ∷ asked) s a h k = absurd h
push_asked structures (t ∷ specs) [] s a h k = absurd h

-- one atom more of a list that is gone through
pub asked_more : (structures : Structures) (known : List Specifier) (atoms : List ℕ) (i d : ℕ) (asked : List ArrayAtom) (a : ArrayAtom) → i < length atoms
    → AreAskedBy structures (specifiers_at known (take i atoms)) asked → IsAskedBy structures (at known (get_or atoms i d)) a
    → AreAskedBy structures (specifiers_at known (take (i + 1) atoms)) (asked ++ a ∷ [])
asked_more structures known atoms i d asked a l h k =
    let e : specifiers_at known (take (i + 1) atoms) ≡ specifiers_at known (take i atoms) ++ at known (get_or atoms i d) ∷ [] =
    ap (map (at known)) (take_more atoms i d l) ∙ map-append (at known) (take i atoms) (get_or atoms i d ∷ []) in
    subst (λ (ss : List Specifier). AreAskedBy structures ss (asked ++ a ∷ [])) (sym e) (push_asked structures (specifiers_at known (take i atoms)) asked (at known (get_or atoms i d)) a h k)

-- what holds of all specifiers of a list holds of the one at a place
pub all_at : (P : Specifier → Type 0) (known : List Specifier) (ids : List ℕ) (i d : ℕ) → All P (specifiers_at known ids) → i < length ids → P (at known (get_or ids i d))
all_at P known ids i d h l = subst P (get_or-map (at known) ids i d no_objects l) (h i no_objects (omega (arith, length-map ids (at known))))
