-- What stands in the place of a datum of a body, and its size.
use Rattle.std.proofs.Common.{◌≡◌, ℕ, ◌+◌, ◌<◌, List, [], ◌∷◌, ◌++◌, length, get_or, drop, Option, Some, None, refl, ap, sym, ◌∙◌, arith, add-one, drop-cons}
use Rattle.ls_object.specs.Symbols.{nil_symbol}
use Rattle.ls_reader.specs.declared.datum.Span.{Span}
use Rattle.ls_reader.specs.declared.datum.Datum.{Datum}
use Rattle.ls_reader.specs.declared.datum.Form.{Form, out-Form, roll-Form, roll-out-Form, fold-Form}
use Rattle.ls_reader.specs.declared.datum.Form.TheOpen.{Form-F}
use Rattle.ls_reader.specs.declared.datum.Form.TheFolds.{fold-roll-Form, fold-roll-Datum}
use Rattle.ls_reader.specs.Sizes.{size, size_all, form_size}
use Rattle.ls_reader.specs.Sizes as sizes
use Rattle.ls_deftype.specs.Symbols.{symbol_in, symbol_of}
use Rattle.ls_deftype.specs.Arguments.{Use, datum, listed}
use Rattle.ls_deftype.specs.Substitution.{Filled, dotted, fill_step, datum_step, filled}
use Rattle.ls_deftype.specs.steps.Filling.{each, elements, behind_dot}
use Rattle.ls_deftype.proofs.SizeLemmas.{sizes_append}

size_datum : (d : Datum) → size d ≡ form_size d.form
size_datum d = fold-roll-Datum ℕ ℕ sizes.form_step sizes.datum_step (record { span = d.span; form = d.form })

-- the size of a list of data, which is 1 where there are none
pub size_listed : (at : Span) (ds : List Datum) → size (listed at ds) ≡ size_all ds + 1
size_listed at [] = size_datum (listed at []) ∙ fold-roll-Form ℕ ℕ sizes.form_step sizes.datum_step (Form-F.Symbol nil_symbol)
size_listed at (d ∷ ds) = size_datum (listed at (d ∷ ds)) ∙ fold-roll-Form ℕ ℕ sizes.form_step sizes.datum_step (Form-F.List (d ∷ ds))

pub size_vector : (at : Span) (ds : List Datum) → size (datum at (Form-F.Vector ds)) ≡ size_all ds + 1
size_vector at ds = size_datum (datum at (Form-F.Vector ds)) ∙ fold-roll-Form ℕ ℕ sizes.form_step sizes.datum_step (Form-F.Vector ds)

-- the size of data with another behind a dot
pub size_dotted_with : (at : Span) (ds : List Datum) (last : Filled) (o : Option (List Datum)) → size (dotted at ds last o) ≡ size_all ds + behind_dot last o + 1
size_dotted_with at ds last (Some more) = omega (arith, size_listed at (ds ++ more), sizes_append ds more)
size_dotted_with at ds last None =
    size_datum (datum at (Form-F.Dotted ds last.one)) ∙ fold-roll-Form ℕ ℕ sizes.form_step sizes.datum_step (Form-F.Dotted ds last.one)

-- the data in the places of the rest of a list
pub each_drop : (u : Use) (ds : List Datum) (i : ℕ) (d : Datum) → i < length ds → d ≡ get_or ds i d → each u (drop i ds) ≡ (filled u d).one ∷ each u (drop (i + 1) ds)
each_drop u ds i d h is =
    let front : each u (drop i ds) ≡ (filled u (get_or ds i d)).one ∷ each u (drop (i + 1) ds) = rw (add-one, drop-cons ds i d h) refl in
    front ∙ ap (λ y. (filled u y).one ∷ each u (drop (i + 1) ds)) (sym is)

pub elements_drop : (u : Use) (ds : List Datum) (i : ℕ) (d : Datum) → i < length ds → d ≡ get_or ds i d → elements u (drop i ds) ≡ (filled u d).all ++ elements u (drop (i + 1) ds)
elements_drop u ds i d h is =
    let front : elements u (drop i ds) ≡ (filled u (get_or ds i d)).all ++ elements u (drop (i + 1) ds) = rw (add-one, drop-cons ds i d h) refl in
    front ∙ ap (λ y. (filled u y).all ++ elements u (drop (i + 1) ds)) (sym is)

-- the symbol of a datum in a body is the datum's symbol
symbol_step : (u : Use) (f : Form-F Form Datum) (at : Span) → (fold-Form (Span → Filled) Filled (fill_step u) datum_step (roll-Form f) at).symbol ≡ symbol_in f
symbol_step u (Form-F.Symbol s) at = ap (λ (g : Span → Filled). (g at).symbol) (fold-roll-Form (Span → Filled) Filled (fill_step u) datum_step (Form-F.Symbol s))
symbol_step u f at = ap (λ (g : Span → Filled). (g at).symbol) (fold-roll-Form (Span → Filled) Filled (fill_step u) datum_step f)

pub symbol_filled : (u : Use) (d : Datum) → (filled u d).symbol ≡ symbol_of d
symbol_filled u d =
    ap (λ p. p.symbol) (fold-roll-Datum (Span → Filled) Filled (fill_step u) datum_step (record { span = d.span; form = d.form })) ∙
    ap (λ f. (fold-Form (Span → Filled) Filled (fill_step u) datum_step f d.span).symbol) (sym (roll-out-Form d.form))
    ∙ symbol_step u (out-Form d.form) d.span
