-- What stands in the place of a list, a vector, and data with another behind a dot, and the room that it takes.
use Rattle.std.proofs.Common.{◌≡◌, ℕ, ◌+◌, Bool, true, false, List, ◌++◌, Option, Some, None, refl, ap, sym, ◌∙◌, arith}
use Rattle.std.specs.Prelude.{if◌then◌else◌}
use Rattle.ls_reader.specs.declared.datum.Span.{Span}
use Rattle.ls_reader.specs.declared.datum.Datum.{Datum, roll-Datum}
use Rattle.ls_reader.specs.declared.datum.Form.{Form, roll-Form, fold-Form}
use Rattle.ls_reader.specs.declared.datum.Form as form
use Rattle.ls_reader.specs.declared.datum.Form.TheOpen.{Form-F}
use Rattle.ls_reader.specs.declared.datum.Form.TheVariants.{rolls-List, rolls-Vector, rolls-Dotted}
use Rattle.ls_reader.specs.declared.datum.Form.TheFolds.{fold-roll-Form, fold-roll-Datum}
use Rattle.ls_reader.specs.Sizes.{size, size_all}
use Rattle.ls_deftype.specs.declared.room.Stop.{Stop}
use Rattle.ls_deftype.specs.Arguments.{Use, datum, listed, rest_args}
use Rattle.ls_deftype.specs.Substitution.{Filled, dotted, fill_step, datum_step, filled}
use Rattle.ls_deftype.specs.steps.Room.{Fails}
use Rattle.ls_deftype.specs.steps.Filling.{each, elements, behind_dot}
use Rattle.ls_deftype.proofs.SizeLemmas.{fails_more}
use Rattle.ls_deftype.proofs.FillLemmas.{size_listed, size_vector, size_dotted_with}

-- ---- forms with lists

-- one level of a datum with this form
opened : (u : Use) (d : Datum) (f : Form-F Form Datum) (whole : Form) → d.form ≡ whole → roll-Form f ≡ whole
    → (filled u d).one ≡ (fold-Form (Span → Filled) Filled (fill_step u) datum_step (roll-Form f) d.span).one
opened u d f whole is rolls =
    ap (λ (p : Filled). p.one) (fold-roll-Datum (Span → Filled) Filled (fill_step u) datum_step (record { span = d.span; form = d.form }))
    ∙ ap (λ x. (fold-Form (Span → Filled) Filled (fill_step u) datum_step x d.span).one) (is ∙ sym rolls)

filled_list : (u : Use) (d : Datum) (parts : List Datum) → d.form ≡ form.List parts → (filled u d).one ≡ listed d.span (elements u parts)
filled_list u d parts is =
    opened u d (Form-F.List parts) (form.List parts) is (rolls-List parts)
    ∙ ap (λ (g : Span → Filled). (g d.span).one) (fold-roll-Form (Span → Filled) Filled (fill_step u) datum_step (Form-F.List parts))

filled_vector : (u : Use) (d : Datum) (parts : List Datum) → d.form ≡ form.Vector parts → (filled u d).one ≡ datum d.span (Form-F.Vector (each u parts))
filled_vector u d parts is =
    opened u d (Form-F.Vector parts) (form.Vector parts) is (rolls-Vector parts)
    ∙ ap (λ (g : Span → Filled). (g d.span).one) (fold-roll-Form (Span → Filled) Filled (fill_step u) datum_step (Form-F.Vector parts))

filled_dotted : (u : Use) (d : Datum) (parts : List Datum) (last : Datum) → d.form ≡ form.Dotted parts last
    → (filled u d).one ≡ dotted d.span (each u parts) (filled u last) (filled u last).spliced
filled_dotted u d parts last is =
    opened u d (Form-F.Dotted parts last) (form.Dotted parts last) is (rolls-Dotted parts last)
    ∙ ap (λ (g : Span → Filled). (g d.span).one) (fold-roll-Form (Span → Filled) Filled (fill_step u) datum_step (Form-F.Dotted parts last))

-- ---- a list

list_size : (u : Use) (d : Datum) (parts : List Datum) → d.form ≡ form.List parts → size (filled u d).one ≡ size_all (elements u parts) + 1
list_size u d parts is = ap size (filled_list u d parts is) ∙ size_listed d.span (elements u parts)

pub list_made : (u : Use) (d : Datum) (parts lent items : List Datum) (x : Datum) (old mid new : ℕ) → d.form ≡ form.List parts → lent ≡ parts → mid + 1 ≡ old
    → items ≡ elements u lent → new + size_all (elements u lent) ≡ mid → x ≡ listed d.span items → (x ≡ (filled u d).one) × (new + size (filled u d).one ≡ old)
list_made u d parts lent items x old mid new is same took are room made =
    let n = list_size u d parts is in
    let m = ap (λ ds. size_all (elements u ds)) same in
    (made ∙ ap (listed d.span) (are ∙ ap (elements u) same) ∙ sym (filled_list u d parts is), omega (arith, n, m, took, room))

pub list_fails : (u : Use) (d : Datum) (parts lent : List Datum) (e : Stop) (old mid : ℕ) → d.form ≡ form.List parts → lent ≡ parts → mid + 1 ≡ old
    → Fails (size_all (elements u lent)) mid e → Fails (size (filled u d).one) old e
list_fails u d parts lent e old mid is same took h =
    let n = list_size u d parts is in
    let m = ap (λ ds. size_all (elements u ds)) same in
    fails_more e (size_all (elements u lent)) (size (filled u d).one) old mid (omega (arith, n, m, took)) h

-- ---- a vector

vector_size : (u : Use) (d : Datum) (parts : List Datum) → d.form ≡ form.Vector parts → size (filled u d).one ≡ size_all (each u parts) + 1
vector_size u d parts is = ap size (filled_vector u d parts is) ∙ size_vector d.span (each u parts)

pub vector_made : (u : Use) (d : Datum) (parts lent items : List Datum) (old mid new : ℕ) → d.form ≡ form.Vector parts → lent ≡ parts → mid + 1 ≡ old
    → items ≡ each u lent → new + size_all (each u lent) ≡ mid
    → (roll-Datum (record { span = d.span; form = form.Vector items }) ≡ (filled u d).one) × (new + size (filled u d).one ≡ old)
vector_made u d parts lent items old mid new is same took are room =
    let n = vector_size u d parts is in
    let m = ap (λ ds. size_all (each u ds)) same in (
      ap (λ f. roll-Datum (record { span = d.span; form = f })) (sym (rolls-Vector items))
          ∙ ap (λ ds. datum d.span (Form-F.Vector ds)) (are ∙ ap (each u) same) ∙ sym (filled_vector u d parts is),
      omega (arith, n, m, took, room),
    )

pub vector_fails : (u : Use) (d : Datum) (parts lent : List Datum) (e : Stop) (old mid : ℕ) → d.form ≡ form.Vector parts → lent ≡ parts → mid + 1 ≡ old
    → Fails (size_all (each u lent)) mid e → Fails (size (filled u d).one) old e
vector_fails u d parts lent e old mid is same took h =
    let n = vector_size u d parts is in
    let m = ap (λ ds. size_all (each u ds)) same in
    fails_more e (size_all (each u lent)) (size (filled u d).one) old mid (omega (arith, n, m, took)) h

-- ---- data with another behind a dot

-- what is spliced behind the dot of a datum, if anything
record Behind (u : Use) (d : Datum) (parts : List Datum) (last : Datum) (o : Option (List Datum)) : Type 0 where
  is : (filled u d).one ≡ dotted d.span (each u parts) (filled u last) o
  sizes : size (filled u d).one ≡ size_all (each u parts) + behind_dot (filled u last) o + 1

behind : (u : Use) (d : Datum) (parts : List Datum) (last : Datum) (o : Option (List Datum)) → d.form ≡ form.Dotted parts last → (filled u last).spliced ≡ o → Behind u d parts last o
behind u d parts last o is same =
    let e = filled_dotted u d parts last is ∙ ap (dotted d.span (each u parts) (filled u last)) same in
    record { is = e; sizes = ap size e ∙ size_dotted_with d.span (each u parts) (filled u last) o }

pub front_fails : (u : Use) (d : Datum) (parts lent : List Datum) (last : Datum) (e : Stop) (old mid : ℕ) → d.form ≡ form.Dotted parts last → lent ≡ parts → mid + 1 ≡ old
    → Fails (size_all (each u lent)) mid e → Fails (size (filled u d).one) old e
front_fails u d parts lent last e old mid is same took h =
    let n = (behind u d parts last (filled u last).spliced is refl).sizes in
    let m = ap (λ ds. size_all (each u ds)) same in
    fails_more e (size_all (each u lent)) (size (filled u d).one) old mid (omega (arith, n, m, took)) h

-- whether the rest parameter stands behind the dot
told : (u : Use) (got last : Datum) (b c : Bool) → got ≡ last → (filled u got).spliced ≡ (if b then Some (rest_args u) else None) → b ≡ c
    → (filled u last).spliced ≡ (if c then Some (rest_args u) else None)
told u got last b c same tells e = ap (λ x. (filled u x).spliced) (sym same) ∙ tells ∙ ap (λ x. if x then Some (rest_args u) else None) e

pub rest_made : (u : Use) (d : Datum) (parts lent items : List Datum) (last got x : Datum) (b : Bool) (old mid front new : ℕ) → d.form ≡ form.Dotted parts last → lent ≡ parts → got ≡ last
    → (filled u got).spliced ≡ (if b then Some (rest_args u) else None) → b ≡ true → mid + 1 ≡ old → items ≡ each u lent → front + size_all (each u lent) ≡ mid
    → x ≡ listed d.span (items ++ rest_args u) → new + size_all (rest_args u) ≡ front → (x ≡ (filled u d).one) × (new + size (filled u d).one ≡ old)
rest_made u d parts lent items last got x b old mid front new is same one tells so took are room made rest =
    let w = behind u d parts last (Some (rest_args u)) is (told u got last b true one tells so) in
    let n : size (filled u d).one ≡ size_all (each u parts) + size_all (rest_args u) + 1 = w.sizes in
    let m = ap (λ ds. size_all (each u ds)) same in
    (made ∙ ap (λ ds. listed d.span (ds ++ rest_args u)) (are ∙ ap (each u) same) ∙ sym w.is, omega (arith, n, m, took, room, rest))

pub rest_fails : (u : Use) (d : Datum) (parts lent : List Datum) (last got : Datum) (b : Bool) (e : Stop) (old mid front : ℕ) → d.form ≡ form.Dotted parts last → lent ≡ parts → got ≡ last
    → (filled u got).spliced ≡ (if b then Some (rest_args u) else None) → b ≡ true → mid + 1 ≡ old → front + size_all (each u lent) ≡ mid
    → Fails (size_all (rest_args u)) front e → Fails (size (filled u d).one) old e
rest_fails u d parts lent last got b e old mid front is same one tells so took room h =
    let w = behind u d parts last (Some (rest_args u)) is (told u got last b true one tells so) in
    let n : size (filled u d).one ≡ size_all (each u parts) + size_all (rest_args u) + 1 = w.sizes in
    let m = ap (λ ds. size_all (each u ds)) same in
    fails_more e (size_all (rest_args u)) (size (filled u d).one) old front (omega (arith, n, m, took, room)) h

pub tail_made : (u : Use) (d : Datum) (parts lent items : List Datum) (last got other x : Datum) (b : Bool) (old mid front new : ℕ) → d.form ≡ form.Dotted parts last → lent ≡ parts → got ≡ last → other ≡ last
    → (filled u got).spliced ≡ (if b then Some (rest_args u) else None) → b ≡ false → mid + 1 ≡ old → items ≡ each u lent → front + size_all (each u lent) ≡ mid
    → x ≡ (filled u other).one → new + size (filled u other).one ≡ front
    → (roll-Datum (record { span = d.span; form = form.Dotted items x }) ≡ (filled u d).one) × (new + size (filled u d).one ≡ old)
tail_made u d parts lent items last got other x b old mid front new is same one two tells so took are room made rest =
    let w = behind u d parts last None is (told u got last b false one tells so) in
    let n : size (filled u d).one ≡ size_all (each u parts) + size (filled u last).one + 1 = w.sizes in
    let m = ap (λ ds. size_all (each u ds)) same in
    let k = ap (λ y. size (filled u y).one) two in (
      ap (λ f. roll-Datum (record { span = d.span; form = f })) (sym (rolls-Dotted items x))
          ∙ ap (λ ds. datum d.span (Form-F.Dotted ds x)) (are ∙ ap (each u) same)
          ∙ ap (λ y. datum d.span (Form-F.Dotted (each u parts) y)) (made ∙ ap (λ y. (filled u y).one) two)
          ∙ sym w.is,
      omega (arith, n, m, k, took, room, rest),
    )

pub tail_fails : (u : Use) (d : Datum) (parts lent : List Datum) (last got other : Datum) (b : Bool) (e : Stop) (old mid front : ℕ) → d.form ≡ form.Dotted parts last → lent ≡ parts → got ≡ last → other ≡ last
    → (filled u got).spliced ≡ (if b then Some (rest_args u) else None) → b ≡ false → mid + 1 ≡ old → front + size_all (each u lent) ≡ mid
    → Fails (size (filled u other).one) front e → Fails (size (filled u d).one) old e
tail_fails u d parts lent last got other b e old mid front is same one two tells so took room h =
    let w = behind u d parts last None is (told u got last b false one tells so) in
    let n : size (filled u d).one ≡ size_all (each u parts) + size (filled u last).one + 1 = w.sizes in
    let m = ap (λ ds. size_all (each u ds)) same in
    let k = ap (λ y. size (filled u y).one) two in
    fails_more e (size (filled u other).one) (size (filled u d).one) old front (omega (arith, n, m, k, took, room)) h
