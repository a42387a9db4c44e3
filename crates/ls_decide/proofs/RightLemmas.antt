-- What two columns over the rows of a list show of two types.
use Rattle.std.proofs.Common.{◌≡◌, ℕ, zero, suc, ◌<◌, refl, ap, sym, subst, ◌∙◌, Bool, true, false, List, [], ◌∷◌, length, Option, Some, None, arith}
use Rattle.std.specs.Prelude.{slice_get, option_map, is_some, not, IfSome, MatchOption}
use Rattle.std.specs.Bool.{Decides}
use Rattle.std.specs.List.{Contains}
use Rattle.std.proofs.lemmas.Option.{slice_get_read, slice_get-map, get_or_from_slice_get}
use Rattle.ls_object.specs.Universe.{LispObject, Structures}
use Rattle.ls_spec.specs.Specifier.{Specifier}
use Rattle.ls_spec.specs.Inclusion.{IsIncluded}
use Rattle.ls_spec.specs.Truth.{Learnt, holds, IsLearnt}
use Rattle.ls_spec.proofs.TruthLemmas.{holds-Decides}
use Rattle.ls_cells.specs.declared.rows.Row.{Row}
use Rattle.ls_cells.specs.Cells.{signs_at, HasObject, AreRowsOf}
use Rattle.ls_cells.specs.Rows.{signs_of, origin_object}
use Rattle.ls_cells.specs.Signs.{at}
use Rattle.ls_decide.specs.steps.Comparing.{IsColumn, IsOutside, IsPlaceOutside}

place_of : {X : Type 0} (xs : List X) (x : X) → Contains xs x → (j : ℕ) × (slice_get xs j ≡ Some x)
place_of xs x c = (c.0, slice_get_read xs (length xs) c.0 x refl c.1 (sym c.2))

item_at : {X : Type 0} (xs : List X) (i : ℕ) → i < length xs → (x : X) × (slice_get xs i ≡ Some x)
item_at [] i h = absurd (omega (arith, h))
item_at (x ∷ xs) zero h = (x, refl)
item_at (x ∷ xs) (suc i) h = item_at xs i (omega (arith, h))

apart : (x : Bool) → x ≡ true → x ≡ false → ⊥
apart x p q = cc

module _ (structures : Structures) (learnt : Learnt) (atoms : List Specifier) (rows : List Row) (are : AreRowsOf structures learnt atoms rows)
    (a b : Specifier) (of_a : IsLearnt structures learnt a) (of_b : IsLearnt structures learnt b) (inside allowed : List Bool)
    (inside_is : IsColumn learnt atoms rows inside a) (allowed_is : IsColumn learnt atoms rows allowed b) where
  -- where no row is in the first type and outside the second, every object of the first belongs to the second
  none_outside : ((i : ℕ) → at inside i ≡ true → at allowed i ≡ true) → IsIncluded structures a b
  none_outside h o object belongs =
      let place = place_of (signs_of rows) (signs_at learnt atoms o) (are.all o object) in
      let first = inside_is o place.0 place.1 ∙ (holds-Decides structures learnt a o of_a).1 belongs in
      (holds-Decides structures learnt b o of_b).0 (sym (allowed_is o place.0 place.1) ∙ h place.0 first)

  -- a row that is in the first type and outside the second is that of such an object
  some_outside : (i : ℕ) → i < length rows → at inside i ≡ true → at allowed i ≡ false → IsPlaceOutside structures a b rows (Some i)
  some_outside i within is_in is_out =
      let found = item_at rows i within in
      let row = found.0 in
      let has : HasObject structures learnt atoms row = subst (HasObject structures learnt atoms) (get_or_from_slice_get rows i row row found.1) (are.each i row within) in
      let p = has.object in
      let signs : slice_get (signs_of rows) i ≡ Some (signs_at learnt atoms p) =
      slice_get-map (λ r. r.signs) rows i ∙ ap (option_map (λ (r : Row). r.signs)) found.1 ∙ ap Some has.signs in
      let in_a : holds learnt a p ≡ true = sym (inside_is p i signs) ∙ is_in in
      let out_b : holds learnt b p ≡ false = sym (allowed_is p i signs) ∙ is_out in
      subst (λ (r : Option Row). IfSome r (λ row. IsOutside structures a b (origin_object row.origin.value))) (sym found.1)
      (record {
        marked = p;
        is_object = has.is_object;
        plain_form = has.plain_form;
        inside = (holds-Decides structures learnt a p of_a).0 in_a;
        outside = λ h. apart (holds learnt b p) ((holds-Decides structures learnt b p of_b).1 h) out_b;
      })

  -- so the place of one tells
  pub place_right : (place : Option ℕ) → MatchOption place ((i : ℕ) → at inside i ≡ true → at allowed i ≡ true) (λ i. (i < length inside) × (at inside i ≡ true) × (at allowed i ≡ false))
      → length inside ≡ length rows → IsPlaceOutside structures a b rows place
  place_right None h e = none_outside h
  place_right (Some i) h e = some_outside i (subst (λ n. i < n) e h.0) h.1 h.2

pub place_within : (inside allowed : List Bool) (n : ℕ) (place : Option ℕ) → MatchOption place ((i : ℕ) → at inside i ≡ true → at allowed i ≡ true) (λ i. (i < length inside) × (at inside i ≡ true) × (at allowed i ≡ false))
    → length inside ≡ n → IfSome place (λ i. i < n)
place_within inside allowed n None h e = tt
place_within inside allowed n (Some i) h e = subst (λ m. i < m) e h.0

-- the object that such a row makes
pub object_outside : (structures : Structures) (a b : Specifier) (rows : List Row) (i : ℕ) (o : LispObject) → i < length rows → IsPlaceOutside structures a b rows (Some i)
    → IfSome (slice_get rows i) (λ row. o ≡ origin_object row.origin.value) → IsOutside structures a b o
object_outside structures a b rows i o within outside made =
    let found = item_at rows i within in
    let is = subst (λ (r : Option Row). IfSome r (λ row. o ≡ origin_object row.origin.value)) found.1 made in
    subst (IsOutside structures a b) (sym is) (subst (λ (r : Option Row). IfSome r (λ row. IsOutside structures a b (origin_object row.origin.value))) found.1 outside)

-- where there is such a row, the first type is not included in the second
not_included : (structures : Structures) (a b : Specifier) (rows : List Row) (i : ℕ) → i < length rows → IsPlaceOutside structures a b rows (Some i) → IsIncluded structures a b → ⊥
not_included structures a b rows i within place included =
    let found = item_at rows i within in
    let out = subst (λ (r : Option Row). IfSome r (λ row. IsOutside structures a b (origin_object row.origin.value))) found.1 place in
    out.outside (included out.marked out.is_object out.inside)

-- so whether there is none tells whether it is
pub place_decides : (structures : Structures) (a b : Specifier) (rows : List Row) (place : Option ℕ) (none : Bool) → is_some place ≡ not none → IfSome place (λ i. i < length rows)
    → IsPlaceOutside structures a b rows place → Decides none (IsIncluded structures a b)
place_decides structures a b rows None true e within right = (λ _. right, λ _. refl)
place_decides structures a b rows None false e within right = absurd (cc)
place_decides structures a b rows (Some i) true e within right = absurd (cc)
place_decides structures a b rows (Some i) false e within right = (λ f. absurd (cc), λ h. absurd (not_included structures a b rows i within right h))
