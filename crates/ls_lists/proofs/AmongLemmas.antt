-- Which lists are among others.
use Rattle.std.proofs.Common.{◌≡◌, refl, List, [], ◌∷◌, ◌++◌, true, IsTrue, ◌||◌, Decides, arith}
use Rattle.std.specs.Cmp.Lexicographic.{pointwise}
use Rattle.std.proofs.lemmas.List.Folds.{list_any-append}
use Rattle.std.proofs.lemmas.Slice.Eq.{slice_eq-Decides}
use Rattle.ls_spec.specs.Specifier.{Specifier}
use Rattle.ls_spec.specs.Distinct.{same}
use Rattle.ls_spec.proofs.DistinctLemmas.{Decides-same}
use Rattle.ls_lists.specs.Walks.{among, is_done}

abbrev Lists : Type 0
Lists = List (List Specifier)

-- two lists of specifiers are the same exactly where they are equal
pub Decides-same_list : (xs ys : List Specifier) → Decides (pointwise same xs ys) (xs ≡ ys)
Decides-same_list xs ys = slice_eq-Decides {E = same} Decides-same xs ys (pointwise same xs ys) refl

pub same_list_is : (xs ys : List Specifier) → IsTrue (pointwise same xs ys) → xs ≡ ys
same_list_is xs ys h = (Decides-same_list xs ys).0 h

pub same_list_itself : (xs : List Specifier) → IsTrue (pointwise same xs xs)
same_list_itself xs = (Decides-same_list xs xs).1 refl

pub among_itself : (list : List Specifier) (more : Lists) → among list (list ∷ more) ≡ true
unfolding among
among_itself list more = let h = same_list_itself list in grind arith

pub among_append : (list : List Specifier) (xs ys : Lists) → among list (xs ++ ys) ≡ (among list xs || among list ys)
unfolding among
among_append list xs ys = list_any-append (pointwise same list) xs ys

pub among_one : (list other : List Specifier) → IsTrue (among list (other ∷ [])) → list ≡ other
unfolding among
among_one list other h = same_list_is list other (grind arith)

pub among_more : (list : List Specifier) (xs ys : Lists) → IsTrue (among list xs) → IsTrue (among list (xs ++ ys))
among_more list xs ys h = let e = among_append list xs ys in grind arith

pub done_more : (list : List Specifier) (xs ys : Lists) → IsTrue (is_done list xs) → IsTrue (is_done list (xs ++ ys))
done_more list xs ys h = let e = among_append list xs ys in grind arith
