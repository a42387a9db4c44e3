-- Names that repeat in lists behind one another.
use Rattle.std.proofs.Common.{◌≡◌, List, [], ◌∷◌, ◌++◌, Bool, true, false, not, refl, ap, sym, ◌∙◌, append_assoc, append-nil}
use Rattle.std.specs.Prelude.{◌&&◌}
use Rattle.std.specs.List.{list_any}
use Rattle.ls_object.specs.declared.symbol.Symbol.{Symbol}
use Rattle.ls_object.specs.Symbols.{same_symbol}
use Rattle.ls_deftype.specs.LambdaLists.{none_repeats, are_distinct}

and_assoc : (a b c : Bool) → (a && (b && c)) ≡ ((a && b) && c)
and_assoc true b c = refl
and_assoc false b c = refl

-- the names of a list behind another repeat none of either
repeats_append : (e xs ys : List Symbol) → none_repeats e (xs ++ ys) ≡ (none_repeats e xs && none_repeats (e ++ xs) ys)
repeats_append e [] ys = ap (λ z. none_repeats z ys) (sym (append-nil e))
repeats_append e (x ∷ xs) ys =
    let new = not (list_any (same_symbol x) e) in
    ap (λ b. new && b) (repeats_append (e ++ x ∷ []) xs ys)
    ∙ ap (λ z. new && (none_repeats (e ++ x ∷ []) xs && none_repeats z ys)) (append_assoc e (x ∷ []) xs)
    ∙ and_assoc new (none_repeats (e ++ x ∷ []) xs) (none_repeats (e ++ x ∷ xs) ys)

three : (r o z : List Symbol) → are_distinct (r ++ (o ++ z)) ≡ (none_repeats [] r && (none_repeats r o && none_repeats (r ++ o) z))
three r o z = repeats_append [] r (o ++ z) ∙ ap (λ b. none_repeats [] r && b) (repeats_append r o z)

pub all_distinct : (r o z : List Symbol) → none_repeats [] r ≡ true → none_repeats r o ≡ true → none_repeats (r ++ o) z ≡ true → are_distinct (r ++ (o ++ z)) ≡ true
all_distinct r o z a b c = three r o z ∙ ap (λ x. x && (none_repeats r o && none_repeats (r ++ o) z)) a ∙ ap (λ x. x && none_repeats (r ++ o) z) b ∙ c

pub first_repeats : (r o z : List Symbol) → none_repeats [] r ≡ false → are_distinct (r ++ (o ++ z)) ≡ false
first_repeats r o z a = three r o z ∙ ap (λ x. x && (none_repeats r o && none_repeats (r ++ o) z)) a

and_false : (a b : Bool) → b ≡ false → (a && b) ≡ false
and_false true b e = e
and_false false b e = refl

pub second_repeats : (r o z : List Symbol) → none_repeats r o ≡ false → are_distinct (r ++ (o ++ z)) ≡ false
second_repeats r o z b = three r o z ∙ and_false (none_repeats [] r) (none_repeats r o && none_repeats (r ++ o) z) (ap (λ x. x && none_repeats (r ++ o) z) b)

pub third_repeats : (r o z : List Symbol) → none_repeats (r ++ o) z ≡ false → are_distinct (r ++ (o ++ z)) ≡ false
third_repeats r o z c = three r o z ∙ and_false (none_repeats [] r) (none_repeats r o && none_repeats (r ++ o) z) (and_false (none_repeats r o) (none_repeats (r ++ o) z) c)

pub names_joined : (r o z : List Symbol) → (r ++ o) ++ z ≡ r ++ (o ++ z)
names_joined r o z = append_assoc r o z
