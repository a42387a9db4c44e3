-- The truth values that an object gives to conses of which it is the car, or the cdr.
use Rattle.std.proofs.Common.{ℕ, zero, suc, ◌≡◌, ◌∙◌, ◌+◌, ◌<◌, ◌≤◌, sym, ap, refl, subst, arith, Bool, List, [], ◌∷◌, ◌++◌, append-nil, length, take, get_or}
use Rattle.std.specs.Prelude.{Some, slice_get, IfSome, nat_le, nat_lt, ◌&&◌}
use Rattle.std.specs.List.{AllByRecursion, flat_map}
use Rattle.std.proofs.lemmas.Option.{slice_get_within, slice_get-get_or}
use Rattle.std.proofs.lemmas.List.{length-map, map_push, take_more, take_all}
use Rattle.ls_object.specs.Universe.{LispObject, IsPlain}
use Rattle.ls_spec.specs.Specifier.{Specifier}
use Rattle.ls_spec.specs.Atoms.{leaves}
use Rattle.ls_spec.specs.Truth.{Learnt, holds}
use Rattle.ls_intern.specs.Places.{at as specifier_at, specifiers_at}
use Rattle.ls_cells.specs.declared.rows.Row.{Row}
use Rattle.ls_cells.specs.declared.side.Side.{Side}
use Rattle.ls_cells.specs.Signs.{at, tabulate}
use Rattle.ls_cells.specs.Rows.{origin_object, signs_of}
use Rattle.ls_cells.specs.Formulas.{row_at}
use Rattle.ls_cells.specs.Cells.{signs_at}
use Rattle.ls_cells.specs.Values.{AreAmong}
use Rattle.ls_cells.specs.steps.Halves.{part_of, part_holds, parts_at, ArePartsAmong, IsPartColumn, ArePartColumns, IsHalf, AreHalves}
use Rattle.ls_cells.proofs.ColumnLemmas.{in_none}
use Rattle.ls_cells.proofs.TabulateLemmas.{at-tabulate}
use Rattle.ls_cells.proofs.TurnLemmas.{length-row_at}

-- the column of no part
pub column_of_none : (those : List Specifier) (rows : List Row) (parts : List Specifier) (n : ℕ) (c : List Bool) → parts ≡ [] → n ≡ length rows → c ≡ tabulate n (λ i. nat_le 0 i && nat_lt i 0) → IsPartColumn those rows parts c
column_of_none those rows parts n c e m f learnt o j among there =
    let within : j < n = omega (arith, m, slice_get_within (signs_of rows) j (signs_at learnt those o) there, length-map rows (λ r. r.signs)) in
    ap (λ bs. at bs j) f ∙ at-tabulate n (λ i. nat_le 0 i && nat_lt i 0) j within ∙ in_none j ∙ sym (ap (λ ps. part_holds learnt ps o) e)

-- the column of a part
pub column_of_part : (those : List Specifier) (rows : List Row) (parts : List Specifier) (s : Specifier) (c : List Bool) → parts ≡ s ∷ []
    → ((learnt : Learnt) (o : LispObject) (j : ℕ) → AreAmong those (leaves s) → slice_get (signs_of rows) j ≡ Some (signs_at learnt those o) → at c j ≡ holds learnt s o)
    → IsPartColumn those rows parts c
column_of_part those rows parts s c e h learnt o j among there =
    h learnt o j (subst (AreAmong those) (ap (flat_map leaves) e ∙ append-nil (leaves s)) among) there ∙ sym (ap (λ ps. part_holds learnt ps o) e)

-- one column more
pub columns_last : (on : Side) (those : List Specifier) (rows : List Row) (atoms : List Specifier) (s : Specifier) (columns : List (List Bool)) (c : List Bool) → ArePartColumns on those rows atoms columns → IsPartColumn those rows (part_of on s) c
    → ArePartColumns on those rows (atoms ++ s ∷ []) (columns ++ c ∷ [])
columns_last on those rows [] s [] c h k = (k, tt)
columns_last on those rows [] s (d ∷ columns) c h k = absurd h
columns_last on those rows (t ∷ atoms) s [] c h k = absurd h
columns_last on those rows (t ∷ atoms) s (d ∷ columns) c h k = (h.0, columns_last on those rows atoms s columns c h.1 k)

pub columns_more : (on : Side) (known those : List Specifier) (rows : List Row) (ids : List ℕ) (i : ℕ) (columns new : List (List Bool)) (c : List Bool) → i < length ids → ArePartColumns on those rows (specifiers_at known (take i ids)) columns
    → IsPartColumn those rows (part_of on (specifier_at known (get_or ids i 0))) c → new ≡ columns ++ c ∷ [] → ArePartColumns on those rows (specifiers_at known (take (i + 1) ids)) new
columns_more on known those rows ids i columns new c l h k e =
    let s = specifier_at known (get_or ids i 0) in
    let these : specifiers_at known (take (i + 1) ids) ≡ specifiers_at known (take i ids) ++ s ∷ [] = ap (specifiers_at known) (take_more ids i 0 l) ∙ map_push (specifier_at known) (take i ids) (get_or ids i 0) in
    subst (λ ss. ArePartColumns on those rows ss new) (sym these) (subst (ArePartColumns on those rows (specifiers_at known (take i ids) ++ s ∷ [])) (sym e) (columns_last on those rows (specifiers_at known (take i ids)) s columns c h k))

columns_as_many : (on : Side) (those : List Specifier) (rows : List Row) (atoms : List Specifier) (columns : List (List Bool)) → ArePartColumns on those rows atoms columns → length columns ≡ length atoms
columns_as_many on those rows [] [] h = refl
columns_as_many on those rows [] (d ∷ columns) h = absurd h
columns_as_many on those rows (t ∷ atoms) [] h = absurd h
columns_as_many on those rows (t ∷ atoms) (d ∷ columns) h = ap suc (columns_as_many on those rows atoms columns h.1)

-- a row of the columns has what the row's object gives to each atom
values_are : (on : Side) (those : List Specifier) (rows : List Row) (atoms : List Specifier) (columns : List (List Bool)) (j : ℕ) (learnt : Learnt) (o : LispObject) → ArePartColumns on those rows atoms columns → ArePartsAmong on those atoms
    → slice_get (signs_of rows) j ≡ Some (signs_at learnt those o) → row_at columns j ≡ parts_at learnt on atoms o
unfolding row_at
values_are on those rows [] [] j learnt o h k there = refl
values_are on those rows [] (d ∷ columns) j learnt o h k there = absurd h
values_are on those rows (t ∷ atoms) [] j learnt o h k there = absurd h
values_are on those rows (t ∷ atoms) (d ∷ columns) j learnt o h k there =
    let first = h.0 learnt o j k.0 there in
    let rest = values_are on those rows atoms columns j learnt o h.1 k.1 there in
    cc

signs_there : (rows : List Row) (i : ℕ) (row : Row) → slice_get rows i ≡ Some row → slice_get (signs_of rows) i ≡ Some row.signs
signs_there [] i row e = absurd (cc)
signs_there (r ∷ rows) zero row e = let d : r ≡ row = cc in ap (λ x. Some x.signs) d
signs_there (r ∷ rows) (suc i) row e = signs_there rows i row e

-- a half that was made of the row at a place
pub half_is : (on : Side) (those atoms : List Specifier) (rows : List Row) (columns : List (List Bool)) (i : ℕ) (row half : Row) → ArePartColumns on those rows atoms columns → slice_get rows i ≡ Some row
    → IfSome (slice_get rows i) (λ r. origin_object half.origin.value ≡ origin_object r.origin.value) → IsPlain (origin_object half.origin.value) → half.signs ≡ row_at columns i → IsHalf on those atoms row half
half_is on those atoms rows columns i row half h e f p s = record {
  object = subst (λ r. IfSome r (λ x. origin_object half.origin.value ≡ origin_object x.origin.value)) e f;
  plain = p;
  long = ap length s ∙ length-row_at columns i ∙ columns_as_many on those rows atoms columns h;
  signs = λ learnt o k d. s ∙ values_are on those rows atoms columns i learnt o h k (signs_there rows i row e ∙ ap Some d);
}

-- one half more
pub halves_last : (on : Side) (those atoms : List Specifier) (rows : List Row) (row : Row) (halves : List Row) (half : Row) → AreHalves on those atoms rows halves → IsHalf on those atoms row half → AreHalves on those atoms (rows ++ row ∷ []) (halves ++ half ∷ [])
halves_last on those atoms [] row [] half h k = (k, tt)
halves_last on those atoms [] row (x ∷ halves) half h k = absurd h
halves_last on those atoms (r ∷ rows) row [] half h k = absurd h
halves_last on those atoms (r ∷ rows) row (x ∷ halves) half h k = (h.0, halves_last on those atoms rows row halves half h.1 k)

pub halves_more : (on : Side) (those atoms : List Specifier) (rows : List Row) (columns : List (List Bool)) (i : ℕ) (halves new : List Row) (half : Row) → i < length rows → ArePartColumns on those rows atoms columns → AreHalves on those atoms (take i rows) halves
    → IfSome (slice_get rows i) (λ r. origin_object half.origin.value ≡ origin_object r.origin.value) → IsPlain (origin_object half.origin.value) → half.signs ≡ row_at columns i → new ≡ halves ++ half ∷ []
    → AreHalves on those atoms (take (i + 1) rows) new
halves_more on those atoms rows columns i halves new half l h k f p s e =
    let row = get_or rows i half in
    let one = half_is on those atoms rows columns i row half h (slice_get-get_or rows i half l) f p s in
    subst (λ rs. AreHalves on those atoms rs new) (sym (take_more rows i half l)) (subst (AreHalves on those atoms (take i rows ++ row ∷ [])) (sym e) (halves_last on those atoms (take i rows) row halves half k one))

pub halves_all : (on : Side) (those atoms : List Specifier) (rows halves : List Row) (i : ℕ) → length rows ≤ i → AreHalves on those atoms (take i rows) halves → AreHalves on those atoms rows halves
halves_all on those atoms rows halves i l h = subst (λ rs. AreHalves on those atoms rs halves) (take_all i rows l) h

-- as many, without marks, and as long as there are atoms
pub halves_count : (on : Side) (those atoms : List Specifier) (rows halves : List Row) → AreHalves on those atoms rows halves → length halves ≡ length rows
halves_count on those atoms [] [] h = refl
halves_count on those atoms [] (x ∷ halves) h = absurd h
halves_count on those atoms (r ∷ rows) [] h = absurd h
halves_count on those atoms (r ∷ rows) (x ∷ halves) h = ap suc (halves_count on those atoms rows halves h.1)

pub halves_plain : (on : Side) (those atoms : List Specifier) (rows halves : List Row) → AreHalves on those atoms rows halves → AllByRecursion (λ half. IsPlain (origin_object half.origin.value)) halves
halves_plain on those atoms [] [] h = tt
halves_plain on those atoms [] (x ∷ halves) h = absurd h
halves_plain on those atoms (r ∷ rows) [] h = absurd h
halves_plain on those atoms (r ∷ rows) (x ∷ halves) h = (h.0.plain, halves_plain on those atoms rows halves h.1)

pub halves_long : (on : Side) (those atoms : List Specifier) (rows halves : List Row) (n : ℕ) → length atoms ≡ n → AreHalves on those atoms rows halves → AllByRecursion (λ half. length half.signs ≡ n) halves
halves_long on those atoms [] [] n e h = tt
halves_long on those atoms [] (x ∷ halves) n e h = absurd h
halves_long on those atoms (r ∷ rows) [] n e h = absurd h
halves_long on those atoms (r ∷ rows) (x ∷ halves) n e h = (h.0.long ∙ e, halves_long on those atoms rows halves n e h.1)
