-- What is made of quoted data, one cons at a time.
use Rattle.std.proofs.Common.{◌≡◌, ℕ, ◌+◌, ◌-◌, ◌<◌, ◌≤◌, max, List, length, get_or, drop, map, Some, Ok, Err, refl, ap, sym, subst, ◌∙◌, arith, add-one, drop-cons}
use Rattle.std.proofs.lemmas.List.{length-map}
use Rattle.ls_object.specs.declared.object.Object.{Object}
use Rattle.ls_object.specs.Universe.{LispObject, pair}
use Rattle.ls_object.specs.Meaning.{lisp_object}
use Rattle.ls_object.specs.declared.table.TheConstants.{T_PLACE}
use Rattle.ls_reader.specs.declared.datum.Span.{Span}
use Rattle.ls_reader.specs.declared.datum.Datum.{Datum}
use Rattle.ls_reader.specs.declared.datum.Form.{Form, roll-Form, fold-Form}
use Rattle.ls_reader.specs.declared.datum.Form.TheOpen.{Form-F}
use Rattle.ls_reader.specs.declared.datum.Form.TheFolds.{map-Form, fold-roll-Form, fold-roll-Datum}
use Rattle.ls_reader.specs.declared.datum.Form.TheViews as view
use Rattle.ls_grammar.specs.declared.literal.Made.{Made}
use Rattle.ls_grammar.specs.declared.literal.Made.TheVariants as made
use Rattle.ls_grammar.specs.declared.literal.ObjectRefusal.{ObjectRefusal}
use Rattle.ls_grammar.specs.declared.literal.ObjectRefusal.TheVariants as refusal
use Rattle.ls_grammar.specs.Literals.{Value, unmarked, nil, vector_value, cons_value, chain, form_step, datum_step, value, refusal_in, IsReasonIn}
use Rattle.ls_grammar.specs.steps.Making.{IsMade}

-- ---- conses

both_ok : (v w : Value) (a b : LispObject) → v ≡ Ok a → w ≡ Ok b → cons_value v w ≡ Ok (unmarked (pair a b))
both_ok v w a b e f = λ i. cons_value (e i) (f i)

-- the cons of two objects, one of which is as deep as may be
pub pair_deep : (v w : Value) (car cdr : Object) (m n : ℕ) → 256 ≤ max m n
    → IsMade v (made.Object car m) → IsMade w (made.Object cdr n) → IsMade (cons_value v w) made.TooDeep
pair_deep v w car cdr m n many h k =
    let a = lisp_object car in
    let b = lisp_object cdr in
    (unmarked (pair a b), both_ok v w a b h.0 k.0, omega (arith, h.2.same, k.2.same, many))

ok_of : (v : Value) (m : Made) → IsMade v m → (o : LispObject) × (v ≡ Ok o)
ok_of v (made.Object o n) h = (lisp_object o, h.0)
ok_of v made.TooDeep h = (h.0, h.1)

-- a cons is too deep where its car is
pub car_deep : (v w : Value) (m : Made) → IsMade v made.TooDeep → IsMade w m → IsMade (cons_value v w) made.TooDeep
car_deep v w m h k =
    let b = ok_of w m k in
    (unmarked (pair h.0 b.0), both_ok v w h.0 b.0 h.1 b.1, omega (arith, h.2))

-- a cons is too deep where its cdr is
pub cdr_deep : (v w : Value) (m : Made) → IsMade v m → IsMade w made.TooDeep → IsMade (cons_value v w) made.TooDeep
cdr_deep v w m h k =
    let a = ok_of v m h in
    (unmarked (pair a.0 k.0), both_ok v w a.0 k.0 a.1 k.1, omega (arith, k.2))

-- what is wrong with a cdr is wrong with a cons, behind an object
cdr_wrong : (a : LispObject) (w : Value) (x : ObjectRefusal) → refusal_in w ≡ Some x → refusal_in (cons_value (Ok a) w) ≡ Some x
cdr_wrong a (Ok b) x e = cc
cdr_wrong a (Err f) x e = e

cdr_reason : (a : LispObject) (w : Value) (x : ObjectRefusal) → IsReasonIn w x → IsReasonIn (cons_value (Ok a) w) x
cdr_reason a w refusal.Memory h = tt
cdr_reason a w (refusal.NoLiteral at) h = cdr_wrong a w (refusal.NoLiteral at) h
cdr_reason a w (refusal.NumberTooWide at) h = cdr_wrong a w (refusal.NumberTooWide at) h
cdr_reason a w (refusal.TooDeep at) h = cdr_wrong a w (refusal.TooDeep at) h

-- the reason of a cdr is that of the cons, behind an object
pub cdr_stops : (v w : Value) (m : Made) (x : ObjectRefusal) → IsMade v m → IsReasonIn w x → IsReasonIn (cons_value v w) x
cdr_stops v w m x h k = let a = ok_of v m h in subst (λ u. IsReasonIn (cons_value u w) x) (sym a.1) (cdr_reason a.0 w x k)

-- ---- data with data inside

value_is : (d : Datum) → value d ≡ fold-Form (Span → Value) Value form_step datum_step d.form d.span
value_is d = fold-roll-Datum (Span → Value) Value form_step datum_step (record { span = d.span; form = d.form })

-- the value of a datum, by its form
value_of : (d : Datum) (f : Form-F Form Datum) → d.form ≡ roll-Form f
    → value d ≡ form_step (map-Form Form Datum (Span → Value) Value (fold-Form (Span → Value) Value form_step datum_step) value f) d.span
value_of d f e =
    value_is d
    ∙ ap (λ g. fold-Form (Span → Value) Value form_step datum_step g d.span) e
    ∙ ap (λ (g : Span → Value). g d.span) (fold-roll-Form (Span → Value) Value form_step datum_step f)

-- a list is the chain of its data, ended by NIL
pub value_list : (d : Datum) (ds : List Datum) → d.form ≡ view.List ds → value d ≡ chain (map value ds) (Ok nil)
value_list d ds e = value_of d (Form-F.List ds) (e ∙ sym (view.rolls-List ds))

-- a dotted list is the chain of its data, ended by the last one
pub value_dotted : (d : Datum) (ds : List Datum) (last : Datum) → d.form ≡ view.Dotted ds last → value d ≡ chain (map value ds) (value last)
value_dotted d ds last e = value_of d (Form-F.Dotted ds last) (e ∙ sym (view.rolls-Dotted ds last))

-- the elements of a vector are only counted
pub value_vector : (d : Datum) (ds : List Datum) → d.form ≡ view.Vector ds → value d ≡ vector_value d.span T_PLACE (length ds)
value_vector d ds e =
    value_of d (Form-F.Vector ds) (e ∙ sym (view.rolls-Vector ds))
    ∙ ap (vector_value d.span T_PLACE) (length-map ds value)

-- ---- chains

-- the chain of the data from an index on
chain_drop : (ds : List Datum) (i : ℕ) (d : Datum) (w : Value) → i < length ds → d ≡ get_or ds i d
    → chain (map value (drop i ds)) w ≡ cons_value (value d) (chain (map value (drop (i + 1) ds)) w)
chain_drop ds i d w h is =
    let front : chain (map value (drop i ds)) w ≡ cons_value (value (get_or ds i d)) (chain (map value (drop (i + 1) ds)) w) = rw (add-one, drop-cons ds i d h) refl in
    front ∙ ap (λ e. cons_value (value e) (chain (map value (drop (i + 1) ds)) w)) (sym is)

-- one step towards the front
pub chain_before : (ds : List Datum) (i : ℕ) (d : Datum) (w : Value) → 0 < i → i ≤ length ds → d ≡ get_or ds (i - 1) d
    → chain (map value (drop (i - 1) ds)) w ≡ cons_value (value d) (chain (map value (drop i ds)) w)
chain_before ds i d w some h is =
    let back : i - 1 + 1 ≡ i = omega (arith, some) in
    chain_drop ds (i - 1) d w (omega (arith, some, h)) is
    ∙ ap (λ k. cons_value (value d) (chain (map value (drop k ds)) w)) back
