-- Formulas have the values of their specifiers.
use Rattle.std.proofs.Common.{ℕ, zero, suc, ◌≡◌, ◌≢◌, ◌∙◌, ◌<◌, ◌≤◌, ◌+◌, sym, ap, refl, subst, arith, Bool, false, not, ◌&&◌, ◌||◌, List, [], ◌∷◌, ◌++◌, map, length, take, get_or}
use Rattle.std.specs.Prelude.{Some, None, slice_get}
use Rattle.std.specs.List.{AllByRecursion, Contains, list_all, list_any}
use Rattle.std.proofs.lemmas.List.{take_more, map_push}
use Rattle.ls_object.specs.Universe.{LispObject}
use Rattle.ls_spec.specs.Specifier.{Specifier, all_objects, no_objects, and_of, or_of, not_of}
use Rattle.ls_spec.specs.Meaning.{specifiers_of}
use Rattle.ls_spec.specs.Atoms.{leaves, leaves_of_all}
use Rattle.ls_spec.specs.Truth.{Learnt, holds, all_hold, some_holds}
use Rattle.ls_intern.specs.declared.node.Node.{Node}
use Rattle.ls_intern.specs.Places.{at, specifiers_at, node_specifier, AllBelow, Distinct}
use Rattle.ls_sides.specs.Nodes.{node_branches}
use Rattle.ls_sides.proofs.NodeLemmas.{atom_leaves}
use Rattle.ls_cells.specs.declared.formula.Formula.{Formula, All, Nothing, And, Or, Not, Atom}
use Rattle.ls_cells.specs.Formulas.{holds_at}
use Rattle.ls_cells.specs.Cells.{signs_at}
use Rattle.ls_cells.specs.Values.{AreAmong, IsFormulaOf, AreFormulasOf}
use Rattle.ls_cells.proofs.FormulaLemmas.{holds_All, holds_Nothing, holds_And, holds_Or, holds_Not, holds_Atom}

-- what is said of two lists behind one another is said of each
pub all_split : {X : Type 0} (P : X → Type 0) (xs ys : List X) → AllByRecursion P (xs ++ ys) → AllByRecursion P xs × AllByRecursion P ys
all_split P [] ys h = (tt, h)
all_split P (x ∷ xs) ys h = let k = all_split P xs ys h.1 in ((h.0, k.0), k.1)

-- one formula more
pub formulas_last : (atoms ss : List Specifier) (s : Specifier) (fs : List Formula) (f : Formula) → AreFormulasOf atoms ss fs → IsFormulaOf atoms s f → AreFormulasOf atoms (ss ++ s ∷ []) (fs ++ f ∷ [])
formulas_last atoms [] s [] f h k = (k, tt)
formulas_last atoms [] s (g ∷ fs) f h k = absurd h
formulas_last atoms (t ∷ ss) s [] f h k = absurd h
formulas_last atoms (t ∷ ss) s (g ∷ fs) f h k = (h.0, formulas_last atoms ss s fs f h.1 k)

pub formulas_more : (known atoms : List Specifier) (ids : List ℕ) (i : ℕ) (fs gs : List Formula) (f : Formula) → i < length ids → AreFormulasOf atoms (specifiers_at known (take i ids)) fs
    → IsFormulaOf atoms (at known (get_or ids i 0)) f → gs ≡ fs ++ f ∷ [] → AreFormulasOf atoms (specifiers_at known (take (i + 1) ids)) gs
formulas_more known atoms ids i fs gs f l h k e =
    let these : specifiers_at known (take (i + 1) ids) ≡ specifiers_at known (take i ids) ++ at known (get_or ids i 0) ∷ [] = ap (specifiers_at known) (take_more ids i 0 l) ∙ map_push (at known) (take i ids) (get_or ids i 0) in
    subst (λ ss. AreFormulasOf atoms ss gs) (sym these) (subst (AreFormulasOf atoms (specifiers_at known (take i ids) ++ at known (get_or ids i 0) ∷ [])) (sym e) (formulas_last atoms (specifiers_at known (take i ids)) (at known (get_or ids i 0)) fs f h k))

-- numbers below a bound are below a greater one
pub below_more : (n m : ℕ) (ids : List ℕ) → n ≤ m → AllBelow n ids → AllBelow m ids
below_more n m [] l h = tt
below_more n m (id ∷ ids) l h = (omega (arith, h.0), below_more n m ids l h.1)

-- each part holds, and some part does
all_is : (atoms ss : List Specifier) (fs : List Formula) (learnt : Learnt) (o : LispObject) → AreFormulasOf atoms ss fs → AreAmong atoms (leaves_of_all (specifiers_of ss))
    → list_all (λ f. holds_at f (signs_at learnt atoms o)) fs ≡ all_hold learnt (specifiers_of ss) o
all_is atoms [] [] learnt o h k = refl
all_is atoms [] (f ∷ fs) learnt o h k = absurd h
all_is atoms (s ∷ ss) [] learnt o h k = absurd h
all_is atoms (s ∷ ss) (f ∷ fs) learnt o h k =
    let parts = all_split (Contains atoms) (leaves s) (leaves_of_all (specifiers_of ss)) k in
    ap (λ b. b && list_all (λ g. holds_at g (signs_at learnt atoms o)) fs) (h.0 learnt o parts.0) ∙ ap (λ b. holds learnt s o && b) (all_is atoms ss fs learnt o h.1 parts.1)

some_is : (atoms ss : List Specifier) (fs : List Formula) (learnt : Learnt) (o : LispObject) → AreFormulasOf atoms ss fs → AreAmong atoms (leaves_of_all (specifiers_of ss))
    → list_any (λ f. holds_at f (signs_at learnt atoms o)) fs ≡ some_holds learnt (specifiers_of ss) o
some_is atoms [] [] learnt o h k = refl
some_is atoms [] (f ∷ fs) learnt o h k = absurd h
some_is atoms (s ∷ ss) [] learnt o h k = absurd h
some_is atoms (s ∷ ss) (f ∷ fs) learnt o h k =
    let parts = all_split (Contains atoms) (leaves s) (leaves_of_all (specifiers_of ss)) k in
    ap (λ b. b || list_any (λ g. holds_at g (signs_at learnt atoms o)) fs) (h.0 learnt o parts.0) ∙ ap (λ b. holds learnt s o || b) (some_is atoms ss fs learnt o h.1 parts.1)

-- T, NIL, AND, OR and NOT
pub all_formula : (atoms : List Specifier) (s : Specifier) → all_objects ≡ s → IsFormulaOf atoms s All
all_formula atoms s e = subst (λ t. IsFormulaOf atoms t All) e (λ learnt o k. holds_All (signs_at learnt atoms o))

pub none_formula : (atoms : List Specifier) (s : Specifier) → no_objects ≡ s → IsFormulaOf atoms s Nothing
none_formula atoms s e = subst (λ t. IsFormulaOf atoms t Nothing) e (λ learnt o k. holds_Nothing (signs_at learnt atoms o))

pub and_formula : (atoms ss : List Specifier) (fs : List Formula) (s : Specifier) → AreFormulasOf atoms ss fs → and_of (specifiers_of ss) ≡ s → IsFormulaOf atoms s (And fs)
and_formula atoms ss fs s h e = subst (λ t. IsFormulaOf atoms t (And fs)) e (λ learnt o k. holds_And (signs_at learnt atoms o) fs ∙ all_is atoms ss fs learnt o h k)

pub or_formula : (atoms ss : List Specifier) (fs : List Formula) (s : Specifier) → AreFormulasOf atoms ss fs → or_of (specifiers_of ss) ≡ s → IsFormulaOf atoms s (Or fs)
or_formula atoms ss fs s h e = subst (λ t. IsFormulaOf atoms t (Or fs)) e (λ learnt o k. holds_Or (signs_at learnt atoms o) fs ∙ some_is atoms ss fs learnt o h k)

pub not_formula : (atoms : List Specifier) (part s : Specifier) (f g : Formula) → IsFormulaOf atoms part f → g ≡ f → not_of part ≡ s → IsFormulaOf atoms s (Not g)
not_formula atoms part s f g h d e =
    subst (λ t. IsFormulaOf atoms t (Not g)) e (λ learnt o k. holds_Not (signs_at learnt atoms o) g ∙ ap not (ap (λ x. holds_at x (signs_at learnt atoms o)) d ∙ h learnt o k))

-- the value at a place of a list is that of what stands there
value_there : {X : Type 0} (p : X → Bool) (xs : List X) (i : ℕ) (x : X) → slice_get xs i ≡ Some x → get_or (map p xs) i false ≡ p x
value_there p [] i x e = absurd (cc)
value_there p (y ∷ xs) zero x e = let d : y ≡ x = cc in ap p d
value_there p (y ∷ xs) (suc i) x e = value_there p xs i x e

-- what stands at a number among the numbers stands among the specifiers
there_at : (known : List Specifier) (ids : List ℕ) (i id : ℕ) → slice_get ids i ≡ Some id → slice_get (specifiers_at known ids) i ≡ Some (at known id)
there_at known [] i id e = absurd (cc)
there_at known (j ∷ ids) zero id e = let d : j ≡ id = cc in ap (λ n. Some (at known n)) d
there_at known (j ∷ ids) (suc i) id e = there_at known ids i id e

-- an atom that is found
pub atom_found : (known : List Specifier) (ids : List ℕ) (i id : ℕ) → slice_get ids i ≡ Some id → IsFormulaOf (specifiers_at known ids) (at known id) (Atom i)
atom_found known ids i id e learnt o k =
    holds_Atom (signs_at learnt (specifiers_at known ids) o) i ∙ value_there (λ s. holds learnt s o) (specifiers_at known ids) i (at known id) (there_at known ids i id e)

-- past the end of a list stands NIL
within : (known : List Specifier) (j : ℕ) → at known j ≢ no_objects → j < length known
within [] j h = absurd (h refl)
within (s ∷ known) zero h = omega arith
within (s ∷ known) (suc j) h = let k = within known j h in omega arith

-- a number whose specifier is among those of the numbers is one of them
number_among : (known : List Specifier) → Distinct known → (ids : List ℕ) (id : ℕ) → id < length known → at known id ≢ no_objects → Contains (specifiers_at known ids) (at known id) → Contains ids id
number_among known d [] id l h c = absurd (omega (arith, c.1))
number_among known d (j ∷ ids) id l h (zero, m, e) =
    let same = d j id (within known j (λ n. h (sym e ∙ n))) l e in
    (0, omega arith, same)
number_among known d (j ∷ ids) id l h (suc i, m, e) =
    let more = number_among known d ids id l h (i, omega arith, e) in
    (suc more.0, omega (arith, more.1), more.2)

-- an atom is not NIL
atom_not_none : (known : List Specifier) (x : Node) → node_branches x ≡ None → node_specifier known x ≢ no_objects
atom_not_none known x b e =
    let f = sym (atom_leaves known x b) ∙ ap leaves e in
    let g : node_specifier known x ∷ [] ≡ [] = f in absurd (cc)

-- an atom that is not found is not among those
pub atom_missing : (known : List Specifier) → Distinct known → (ids : List ℕ) (id : ℕ) (x : Node) → id < length known → node_specifier known x ≡ at known id → node_branches x ≡ None
    → ¬ Contains ids id → IsFormulaOf (specifiers_at known ids) (at known id) Nothing
atom_missing known d ids id x l e b n learnt o k =
    let one = subst (AreAmong (specifiers_at known ids)) (ap leaves (sym e) ∙ atom_leaves known x b ∙ ap (λ s. s ∷ []) e) k in
    absurd (n (number_among known d ids id l (λ z. atom_not_none known x b (e ∙ z)) one.0))
