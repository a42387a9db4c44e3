-- The top-level forms of a form, one level at a time.
use Rattle.std.proofs.Common.{◌≡◌, ℕ, zero, suc, ◌+◌, ◌<◌, ◌≤◌, List, [], ◌∷◌, ◌++◌, length, get_or, map, drop, refl, ap, sym, ◌∙◌, append_assoc, append-nil, add-one, drop-cons, take, arith}
use Rattle.std.specs.List.{flat_map}
use Rattle.std.proofs.lemmas.List.{flat_map_more, map_more}
use Rattle.ls_reader.specs.declared.datum.Datum.{Datum}
use Rattle.ls_reader.specs.declared.datum.Form.{Form, out-Form, roll-out-Form, para-Form}
use Rattle.ls_reader.specs.declared.datum.Form.TheOpen.{Form-F}
use Rattle.ls_reader.specs.declared.datum.Form.TheFolds.{para-roll-Datum, para-roll-Form, map-Form}
use Rattle.ls_env.specs.declared.operator.Operator.{Operator}
use Rattle.ls_env.specs.declared.operator.Operator.TheVariants as operator
use Rattle.ls_env.specs.declared.query.Query.{Query}
use Rattle.ls_env.specs.steps.Gathered.{inside_of, tops}
use Rattle.ls_env.specs.TopLevel.{inside_form, with_inside, top_of, entered, operator_of_list, inside_list, top_in, asked, query_with, queries_of}

-- the top-level forms inside a form
abbrev inside : Form-F Form Datum → List Datum
inside (Form-F.List items) = top_in (entered (operator_of_list items) items)
inside _ = []

-- a datum with the top-level forms that it gives beside it
abbrev with_top : Datum → Datum × List Datum
with_top d = (d, top_of d)

-- what stands beside the items is what they give as top-level forms
tops_beside : (items : List Datum) → flat_map (λ item. item.1) (map with_top items) ≡ top_in items
tops_beside [] = refl
tops_beside (d ∷ items) = ap (λ ds. top_of d ++ ds) (tops_beside items)

-- the items without what stands beside them
firsts : (items : List Datum) → map (λ item. item.0) (map with_top items) ≡ items
firsts [] = refl
firsts (d ∷ items) = ap (λ ds. d ∷ ds) (firsts items)

-- what stands beside the items from a place on
drop_beside : (n : ℕ) (items : List Datum)
    → flat_map (λ item. item.1) (drop n (map with_top items)) ≡ top_in (drop n items)
drop_beside zero items = tops_beside items
drop_beside (suc n) [] = refl
drop_beside (suc n) (d ∷ items) = drop_beside n items

-- what stands beside the items that are entered
entered_beside : (o : Operator) (items : List Datum)
    → flat_map (λ item. item.1) (entered o (map with_top items)) ≡ top_in (entered o items)
entered_beside operator.Progn items = drop_beside 1 items
entered_beside operator.EvalWhen items = drop_beside 2 items
entered_beside operator.Subtypep items = refl
entered_beside operator.Typep items = refl
entered_beside _ items = refl

-- the top-level forms inside a list, by its items
list_inside : (items : List Datum) → inside_list (map with_top items) ≡ top_in (entered (operator_of_list items) items)
list_inside items =
    ap (λ ds. flat_map (λ item. item.1) (entered (operator_of_list ds) (map with_top items))) (firsts items)
    ∙ entered_beside (operator_of_list items) items

-- a level with the top-level forms of each part beside it
abbrev level_beside : Form-F Form Datum → Form-F (Form × List Datum) (Datum × List Datum)
level_beside = map-Form Form Datum (Form × List Datum) (Datum × List Datum)
    (λ y. (y, para-Form (List Datum) (List Datum) inside_form with_inside y)) with_top

-- the step of the fold gives the top-level forms inside a form
form_inside : (f : Form-F Form Datum) → inside_form (level_beside f) ≡ inside f
unfolding top_of
form_inside (Form-F.List items) = list_inside items
form_inside _ = refl

-- the fold over a form gives the top-level forms inside it
para_inside : (f : Form) → para-Form (List Datum) (List Datum) inside_form with_inside f ≡ inside (out-Form f)
unfolding top_of
para_inside f =
    ap (para-Form (List Datum) (List Datum) inside_form with_inside) (sym (roll-out-Form f))
    ∙ para-roll-Form (List Datum) (List Datum) inside_form with_inside (out-Form f)
    ∙ form_inside (out-Form f)

-- the code's word for the top-level forms inside a form says the same
inside_is : (f : Form-F Form Datum) → inside f ≡ inside_of f
inside_is (Form-F.List items) = refl
inside_is _ = refl

-- the top-level forms that a form gives are itself and those inside it
top_out : (d : Datum) → top_of d ≡ d ∷ inside (out-Form d.form)
unfolding top_of
top_out d =
    para-roll-Datum (List Datum) (List Datum) inside_form with_inside (record { span = d.span; form = d.form })
    ∙ ap (λ ds. d ∷ ds) (para_inside d.form)

-- a form and the top-level forms inside it, by what the form is
pub tops_is : (d : Datum) → top_of d ≡ tops d
tops_is d = top_out d ∙ ap (λ ds. d ∷ ds) (inside_is (out-Form d.form))

-- the top-level forms that the forms from a place on give, those of the first one in front
tops_drop : (ds : List Datum) (i : ℕ) (d : Datum) → i < length ds
    → top_in (drop i ds) ≡ top_of (get_or ds i d) ++ top_in (drop (i + 1) ds)
tops_drop ds i d h =
    let front : drop i ds ≡ get_or ds i d ∷ drop (i + 1) ds = rw add-one (drop-cons ds i d h) in ap top_in front

-- what was gathered before a form, with its own forms behind
pub tops_next : (ds : List Datum) (i : ℕ) (d : Datum) (old new whole : List Datum) → i < length ds → d ≡ get_or ds i d
    → new ≡ old ++ tops d
    → old ++ top_in (drop i ds) ≡ whole → new ++ top_in (drop (i + 1) ds) ≡ whole
tops_next ds i d old new whole h is made all =
    let rest = top_in (drop (i + 1) ds) in
    ap (λ xs. xs ++ rest) (made ∙ ap (λ xs. old ++ xs) (sym (tops_is d)))
    ∙ append_assoc old (top_of d) rest
    ∙ ap (λ e. old ++ (top_of e ++ rest)) is
    ∙ ap (λ xs. old ++ xs) (sym (tops_drop ds i d h))
    ∙ all

-- past the end nothing is left
drop_past : (ds : List Datum) (i : ℕ) → length ds ≤ i → drop i ds ≡ []
drop_past [] zero h = refl
drop_past [] (suc i) h = refl
drop_past (d ∷ ds) zero h = absurd (omega arith)
drop_past (d ∷ ds) (suc i) h = drop_past ds i (omega arith)

-- past the last form nothing is left to gather
pub tops_end : (ds : List Datum) (i : ℕ) (out whole : List Datum) → length ds ≤ i → out ++ top_in (drop i ds) ≡ whole
    → out ≡ whole
tops_end ds i out whole h all = sym (append-nil out) ∙ sym (ap (λ es. out ++ top_in es) (drop_past ds i h)) ∙ all

-- ---- the queries among them

-- no form asks nothing
pub queries_none : (qs : List Query) → qs ≡ [] → qs ≡ queries_of []
unfolding queries_of
queries_none qs e = e

-- the queries among lent forms, with what one form more asks
pub queries_more : {P : Type 0} (at : P → Datum) (ps : List P) (i : ℕ) (p : P) (old new : List Query)
    → i < length ps → p ≡ get_or ps i p → old ≡ queries_of (map at (take i ps))
    → new ≡ old ++ query_with (at p) (asked (at p))
    → new ≡ queries_of (map at (take (i + 1) ps))
unfolding queries_of
queries_more at ps i p old new h is before made =
    made
    ∙ ap (λ qs. qs ++ query_with (at p) (asked (at p))) before
    ∙ flat_map_more (λ d. query_with d (asked d)) [] (map at (take i ps)) (at p)
    ∙ ap (λ e. queries_of (map at (take i ps) ++ at e ∷ [])) is
    ∙ ap queries_of (sym (map_more at ps i p h))
