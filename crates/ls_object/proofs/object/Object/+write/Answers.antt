use Rattle.std.proofs.Common.{ℕ, List, ◌≡◌, ◌++◌, codes, sym, subst, ap, ◌∙◌, append_assoc, rules}
use Rattle.ls_object.specs.declared.object.Object.{Object}
use Rattle.ls_object.specs.declared.object.Shape.TheViews.{Pair, the_lemmas}
use Rattle.ls_object.specs.ObjectText.{object_text, rest_text}
use Rattle.ls_object.specs.Meaning.{lisp_object}
use Rattle.ls_object.specs.Writing.{AddsFrontOf}
use Rattle.ls_object.proofs.MeaningLemmas.{lisp_object-Pair}
use Rattle.ls_object.proofs.WritingLemmas.{on_err, adds_none, three_second, adds_rest, ok_rest, err_rest}
use Rattle.ls_object.proofs.object.Object.+write.Goals as goal

-- the text of a cons in the rest of a list
rest_pair : (o car cdr : Object) → o.shape ≡ Pair car cdr → rest_text (lisp_object o) ≡ codes " " ++ object_text (lisp_object car) ++ rest_text (lisp_object cdr)
rest_pair o car cdr e = ap rest_text (lisp_object-Pair o car cdr e)

-- what is written with one more car
grown_more : (old out mid new written a b : List ℕ) → out ≡ old ++ written → mid ≡ out ++ a → new ≡ mid ++ b → new ≡ old ++ (written ++ a ++ b)
grown_more old out mid new written a b e f g = g ∙ ap (λ t. t ++ b) (f ∙ ap (λ t. t ++ a) e ∙ append_assoc old written a) ∙ append_assoc old (written ++ a) b

-- what is written and what is left are the whole, with one more car too
whole_more : (old out mid new whole rest a b left : List ℕ) → out ++ rest ≡ old ++ whole → rest ≡ a ++ b ++ left → mid ≡ out ++ a → new ≡ mid ++ b → new ++ left ≡ old ++ whole
whole_more old out mid new whole rest a b left w r f g =
    ap (λ t. t ++ left) (g ∙ ap (λ t. t ++ b) f ∙ append_assoc out a b) ∙ append_assoc out (a ++ b) left ∙ ap (λ t. out ++ t) (sym r) ∙ w

-- a failed write of the next car
fails_at_car : (old out mid new whole rest written a b left : List ℕ) → out ≡ old ++ written → out ++ rest ≡ old ++ whole → rest ≡ a ++ b ++ left → mid ≡ out ++ a → AddsFrontOf b mid new → AddsFrontOf whole old new
fails_at_car old out mid new whole rest written a b left e w r f h =
    adds_rest old out new whole rest written e w (subst (λ t. AddsFrontOf t out new) (sym r) (three_second a b left out mid new f h))

pub write_rest-returns-in_err-push_ascii-clause-err : goal.write_rest-returns-in_err-push_ascii-clause-err
write_rest-returns-in_err-push_ascii-clause-err t c =
    let i = c.loop-rest.invariant in
    let rest = rest_text (lisp_object c.loop-rest.rest.now) in
    on_err c.from_residual.result _
    (adds_rest c.args.out.now c.loop-rest.out c.push_ascii.new.self (rest_text (lisp_object c.args.self.now)) rest i.grown.0 i.grown.1 i.whole (adds_none rest c.loop-rest.out c.push_ascii.new.self c.in_err-push_ascii.ensures.err))

pub write_rest-returns-in_err-write-clause-err : goal.write_rest-returns-in_err-write-clause-err
write_rest-returns-in_err-write-clause-err t c =
    let i = c.loop-rest.invariant in
    let o = c.loop-rest.rest.now in
    let car = object_text (lisp_object c.get.result.now) in
    let parts = subst (λ x. rest_text (lisp_object o) ≡ codes " " ++ object_text (lisp_object x) ++ rest_text (lisp_object c.in-Pair.cdr)) (sym c.get.ensures) (rest_pair o c.in-Pair.car c.in-Pair.cdr c.in-Pair.is) in
    on_err c.from_residual-in_err-write.result _
    (fails_at_car c.args.out.now c.loop-rest.out c.push_ascii.new.self c.write.new.out (rest_text (lisp_object c.args.self.now)) (rest_text (lisp_object o)) i.grown.0 (codes " ") car (rest_text (lisp_object c.in-Pair.cdr)) i.grown.1 i.whole parts c.in_ok-push_ascii.ensures.ok c.in_err-write.ensures.err)

pub write_rest-returns : goal.write_rest-returns
write_rest-returns t c =
    let i = c.loop-rest.invariant in
    let rest = rest_text (lisp_object c.loop-rest.rest.now) in
    let whole = rest_text (lisp_object c.args.self.now) in
    record {
      ok = ok_rest c.write_end.result c.args.out.now c.loop-rest.out c.write_end.new.out whole rest i.whole c.write_end.ensures.ok;
      err = err_rest c.write_end.result c.args.out.now c.loop-rest.out c.write_end.new.out whole rest i.grown.0 i.grown.1 i.whole c.write_end.ensures.err;
    }

pub write_rest-loop-rest-preserved : goal.write_rest-loop-rest-preserved
write_rest-loop-rest-preserved t c =
    let i = c.loop-rest.invariant in
    let o = c.loop-rest.rest.now in
    let old = c.args.out.now in
    let out = c.loop-rest.out in
    let mid = c.push_ascii.new.self in
    let new = c.write.new.out in
    let car = object_text (lisp_object c.get.result.now) in
    let parts = subst (λ x. rest_text (lisp_object o) ≡ codes " " ++ object_text (lisp_object x) ++ rest_text (lisp_object c.in-Pair.cdr)) (sym c.get.ensures) (rest_pair o c.in-Pair.car c.in-Pair.cdr c.in-Pair.is) in
    let left = subst (λ x. rest_text (lisp_object o) ≡ codes " " ++ car ++ rest_text (lisp_object x)) (sym c.get-rest.ensures) parts in
    record {
      smaller = search (rules, the_lemmas);
      whole = whole_more old out mid new (rest_text (lisp_object c.args.self.now)) (rest_text (lisp_object o)) (codes " ") car (rest_text (lisp_object c.get-rest.result.now)) i.whole left c.in_ok-push_ascii.ensures.ok c.in_ok-write.ensures.ok;
      grown = (i.grown.0 ++ codes " " ++ car, grown_more old out mid new i.grown.0 (codes " ") car i.grown.1 c.in_ok-push_ascii.ensures.ok c.in_ok-write.ensures.ok);
    }
