-- Data of symbols, numbers and lists stay as they are where arguments are put in, and have no comma.
use Rattle.std.proofs.Common.{◌≡◌, refl, ap, sym, ◌∙◌, ℕ, List, [], ◌∷◌, ◌++◌, map, true, false}
use Rattle.std.specs.Prelude.{◌&&◌}
use Rattle.std.specs.List.{AllByRecursion, flat_map, list_all}
use Rattle.ls_object.specs.Symbols.{common_lisp_symbol}
use Rattle.ls_reader.specs.declared.datum.Datum.{Datum}
use Rattle.ls_reader.specs.declared.datum.Form.{Form, out-Form, roll-Form, roll-out-Form}
use Rattle.ls_reader.specs.declared.datum.Form.TheOpen.{Form-F}
use Rattle.ls_deftype.specs.Marks.{Rules, Part, part, part_step, first_place}
use Rattle.ls_deftype.specs.Marks as marks
use Rattle.ls_deftype.specs.Arguments.{Use, datum, listed}
use Rattle.ls_deftype.specs.Substitution.{Filled, fill_step, filled}
use Rattle.ls_deftype.specs.Substitution as substitution
use Rattle.ls_gen.proofs.FoldLemmas.{fold_by_form}
use Rattle.ls_gen.proofs.BodyLemmas.{IsHereditary, IsWhole, holds_of_body}

-- a datum of that form is made again of its span and its form
made_again : (d : Datum) (f : Form-F Form Datum) → out-Form d.form ≡ f → datum d.span f ≡ d
made_again d f is = ap (λ g. record { span = d.span; form = g }) (ap roll-Form (sym is) ∙ roll-out-Form d.form)

-- ---- substitution

module _ (u : Use) where
  -- the datum is what stands in its place, alone and in a list
  pub record Stays (d : Datum) : Type 0 where
    pub one : (filled u d).one ≡ d
    pub all : (filled u d).all ≡ d ∷ []

  -- the elements of a list that stay are those of the list that is made
  elements_stay : (ds : List Datum) → AllByRecursion Stays ds → flat_map (λ p. p.all) (map (filled u) ds) ≡ ds
  elements_stay [] h = refl
  elements_stay (d ∷ ds) h = λ k. h.0.all k ++ elements_stay ds h.1 k

  -- staying is hereditary
  stays : IsHereditary Stays
  stays = record {
    of_name = λ name d core is.
        let same = made_again d (Form-F.Symbol (common_lisp_symbol name)) is in
        let by = fold_by_form (fill_step u) substitution.datum_step d (Form-F.Symbol (common_lisp_symbol name)) is in
        record { one = ap (λ p. p.one) by ∙ same; all = ap (λ p. p.all) by ∙ ap (λ x. x ∷ []) same };
    of_number = λ l d is.
        let same = made_again d (Form-F.Number l) is in
        let by = fold_by_form (fill_step u) substitution.datum_step d (Form-F.Number l) is in
        record { one = ap (λ p. p.one) by ∙ same; all = ap (λ p. p.all) by ∙ ap (λ x. x ∷ []) same };
    of_list = λ x xs d is each.
        let same = made_again d (Form-F.List (x ∷ xs)) is in
        let items = elements_stay (x ∷ xs) each in
        let by = fold_by_form (fill_step u) substitution.datum_step d (Form-F.List (x ∷ xs)) is in
        record {
          one = ap (λ p. p.one) by ∙ ap (λ ds. listed d.span ds) items ∙ same;
          all = ap (λ p. p.all) by ∙ ap (λ ds. listed d.span ds ∷ []) items ∙ ap (λ y. y ∷ []) same;
        };
  }

  -- the body of a generated type is what is put in its place
  pub body_stays : (i : ℕ) (d : Datum) → IsWhole i d → (filled u d).one ≡ d
  body_stays i d h = (holds_of_body Stays stays i d h).one

-- ---- commas

module _ (r : Rules) where
  -- no comma stands in it where none may
  pub IsClean : Datum → Type 0
  IsClean d = (part r d).fits (first_place false) ≡ true

  -- a list has no comma where none of its items has
  all_clean : (ds : List Datum) → AllByRecursion IsClean ds
      → list_all (λ p. p.fits (first_place false)) (map (part r) ds) ≡ true
  unfolding IsClean
  all_clean [] h = refl
  all_clean (d ∷ ds) h = λ k. h.0 k && all_clean ds h.1 k

  -- having none is hereditary
  clean : IsHereditary IsClean
  unfolding IsClean
  clean = record {
    of_name = λ name d core is.
        ap (λ p. p.fits (first_place false))
        (fold_by_form (part_step r) marks.datum_step d (Form-F.Symbol (common_lisp_symbol name)) is);
    of_number = λ l d is. ap (λ p. p.fits (first_place false))
        (fold_by_form (part_step r) marks.datum_step d (Form-F.Number l) is);
    of_list = λ x xs d is each.
        ap (λ p. p.fits (first_place false)) (fold_by_form (part_step r) marks.datum_step d (Form-F.List (x ∷ xs)) is)
        ∙ all_clean (x ∷ xs) each;
  }

  -- none stands in the body of a generated type
  pub body_clean : (i : ℕ) (d : Datum) → IsWhole i d → (part r d).fits (first_place false) ≡ true
  unfolding IsClean
  body_clean i d h = holds_of_body IsClean clean i d h
