-- A right report decides each query of its forms.
use Rattle.std.proofs.Common.{◌≡◌, ℕ, suc, zero, List, [], ◌∷◌, Bool, true, false, Option, inl, inr, refl, ap, sym, ◌∙◌, subst, ◌<◌, ◌≤◌, arith}
use Rattle.std.specs.Prelude.{slice_get, Some, None, encode_utf8_all}
use Rattle.std.specs.List.{AllZip}
use Rattle.std.proofs.lemmas.Slice.Zip.{AllZip-long}
use Rattle.ls_io.specs.Moves.{Took}
use Rattle.ls_object.specs.Universe.{LispObject, Structures}
use Rattle.ls_object.specs.Meaning.{lisp_object}
use Rattle.ls_reader.specs.declared.datum.Datum.{Datum}
use Rattle.ls_spec.specs.Membership.{Belongs}
use Rattle.ls_spec.specs.Approximation.{low, high, HasNoPredicate}
use Rattle.ls_spec.proofs.ApproximationLemmas.{low_within, within_high}
use Rattle.ls_spec.proofs.PlainLemmas.{sure-no_predicate, bounded-no_predicate}
use Rattle.ls_spec.specs.Specifier.{Specifier}
use Rattle.ls_env.specs.Environments.{Environment, environment, structures_of}
use Rattle.ls_grammar.specs.declared.refusal.Refusal.{Refusal}
use Rattle.ls_grammar.specs.Denoting.{Denotes}
use Rattle.ls_grammar.specs.Visiting.{refusal_of, earlier}
use Rattle.ls_grammar.proofs.MeaningLemmas.{denotes_one}
use Rattle.ls_grammar.specs.declared.literal.ObjectRefusal.{ObjectRefusal}
use Rattle.ls_grammar.specs.Literals.{IsLiteral, refusal_in, literal_refusal}
use Rattle.ls_lists.specs.Costs.{pair_cost, type_cost}
use Rattle.ls_decide.specs.declared.answer.Belongs as code
use Rattle.ls_decide.specs.declared.answer.Belongs.TheVariants as belongs
use Rattle.ls_decide.specs.declared.answer.Answer.{Answer}
use Rattle.ls_decide.specs.declared.answer.Answer.TheVariants.{Yes, No, Unsure, TooLarge}
use Rattle.ls_decide.specs.Answers.{IsRight, IsRightMembership}
use Rattle.subtypep_app.specs.declared.line.Line.{Line}
use Rattle.subtypep_app.specs.declared.line.Line.TheVariants.{Answered, Placed, Refused, NoObject}
use Rattle.subtypep_app.specs.Queries.{Question, inclusion, membership, refused, question_of, refusal_of_question, object_refusal_of, behind_object}
use Rattle.subtypep_app.specs.Report.{IsReport, IsRightLine, IsLineOf}
use Rattle.subtypep_app.specs.Deciding.{IsDecided, IsPlaced, IsLineFor, AllDecided}

-- where two lists are alike item by item, there is an item of the second at each place of the first
zip_get : {A B : Type 0} (R : A → B → Type 0) (xs : List A) (ys : List B) (i : ℕ) (x : A) → AllZip R xs ys → slice_get xs i ≡ Some x
    → (y : B) × (slice_get ys i ≡ Some y) × R x y
zip_get R [] [] i x p e = absurd (cc)
zip_get R [] (b ∷ ys) i x p e = absurd p
zip_get R (a ∷ xs) [] i x p e = absurd p
zip_get R (a ∷ xs) (b ∷ ys) zero x p e = (let same : a ≡ x = cc in (b, refl, subst (λ z. R z b) same p.0))
zip_get R (a ∷ xs) (b ∷ ys) (suc i) x p e = zip_get R xs ys i x p.1 e

not_both : (cost budget : ℕ) → cost ≤ budget → budget < cost → ⊥
not_both cost budget within over = omega (arith, within, over)

-- a right answer decides
IsDecided-from_right : (structures : Structures) (a b : Specifier) (budget : ℕ) (answer : Answer) → IsRight structures a b budget answer
    → IsDecided structures a b budget (Answered answer)
IsDecided-from_right structures a b budget TooLarge right = record {
  too_large = (λ _. right, λ _. refl);
  yes = λ within. absurd (not_both (pair_cost a b) budget within right);
  no = λ within _. absurd (not_both (pair_cost a b) budget within right);
  sure = λ within _ _ _. absurd (not_both (pair_cost a b) budget within right);
}
IsDecided-from_right structures a b budget Yes right = record {
  too_large = (λ e. absurd (cc), λ over. absurd (not_both (pair_cost a b) budget right.0 over));
  yes = λ _. (λ _. right.1, λ _. refl);
  no = λ _ not_included. absurd (not_included right.1);
  sure = λ _ _ _ not_included. absurd (not_included right.1);
}
IsDecided-from_right structures a b budget (No o) right = record {
  too_large = (λ e. absurd (cc), λ over. absurd (not_both (pair_cost a b) budget right.0 over));
  yes = λ _. (
    λ e. absurd (cc),
    λ included. absurd (right.1.outside (within_high structures b (lisp_object o) (included (lisp_object o) right.1.is_object (low_within structures a (lisp_object o) right.1.inside)))),
  );
  no = λ _ _. inl (o, refl, right.1);
  sure = λ _ _ _ _. (o, refl, right.1);
}
IsDecided-from_right structures a b budget (Unsure o) right = record {
  too_large = (λ e. absurd (cc), λ over. absurd (not_both (pair_cost a b) budget right.0 over));
  yes = λ _. (λ e. absurd (cc), λ included. absurd (right.1.outside (included right.1.marked right.1.is_object right.1.inside)));
  no = λ _ _. inr (o, refl, right.1);
  sure = λ _ free_a free_b _. absurd (sure-no_predicate structures a b (lisp_object o) free_a free_b right.1);
}

-- a datum writes out one object, and has no refusal then
literal_one : (d : Datum) (o p : LispObject) → IsLiteral d o → IsLiteral d p → o ≡ p
literal_one d o p h k = (let same = sym h ∙ k in cc)

literal_unrefused : (d : Datum) (o : LispObject) → IsLiteral d o → literal_refusal d ≡ None
literal_unrefused d o h = ap refusal_in h

-- a right answer on an object places it
IsPlaced-from_right : (structures : Structures) (o : LispObject) (s : Specifier) (budget : ℕ) (answer : code.Belongs)
    → IsRightMembership structures o s budget answer → IsPlaced structures o s budget (Placed answer)
IsPlaced-from_right structures o s budget belongs.TooLarge right = record {
  too_large = (λ _. right, λ _. refl);
  inside = λ within. absurd (not_both (type_cost s) budget within right);
  outside = λ within. absurd (not_both (type_cost s) budget within right);
  depends = λ within. absurd (not_both (type_cost s) budget within right);
  belongs_so = λ within free. absurd (not_both (type_cost s) budget within right);
  differs = λ within free. absurd (not_both (type_cost s) budget within right);
}
IsPlaced-from_right structures o s budget belongs.Inside right = record {
  too_large = (λ e. absurd (cc), λ over. absurd (not_both (type_cost s) budget right.0 over));
  inside = λ _. (λ _. right.1, λ _. refl);
  outside = λ _. (λ e. absurd (cc), λ out. absurd (out (within_high structures s o (low_within structures s o right.1))));
  depends = λ _. (λ e. absurd (cc), λ both. absurd (both.0 right.1));
  belongs_so = λ _ _. (λ _. low_within structures s o right.1, λ _. refl);
  differs = λ _ _. (λ e. absurd (cc), λ out. absurd (out (low_within structures s o right.1)));
}
IsPlaced-from_right structures o s budget belongs.Outside right = record {
  too_large = (λ e. absurd (cc), λ over. absurd (not_both (type_cost s) budget right.0 over));
  inside = λ _. (λ e. absurd (cc), λ h. absurd (right.1 (within_high structures s o (low_within structures s o h))));
  outside = λ _. (λ _. right.1, λ _. refl);
  depends = λ _. (λ e. absurd (cc), λ both. absurd (right.1 both.1));
  belongs_so = λ _ _. (λ e. absurd (cc), λ h. absurd (right.1 (within_high structures s o h)));
  differs = λ _ _. (λ _ h. right.1 (within_high structures s o h), λ _. refl);
}
IsPlaced-from_right structures o s budget belongs.Depends right = record {
  too_large = (λ e. absurd (cc), λ over. absurd (not_both (type_cost s) budget right.0 over));
  inside = λ _. (λ e. absurd (cc), λ h. absurd (right.1 h));
  outside = λ _. (λ e. absurd (cc), λ out. absurd (out right.2));
  depends = λ _. (λ _. (right.1, right.2), λ _. refl);
  belongs_so = λ _ free. absurd (right.1 (same_bounds free right.2));
  differs = λ _ free. absurd (right.1 (same_bounds free right.2));
}
  where
    same_bounds : HasNoPredicate s → Belongs structures (high s) o → Belongs structures (low s) o
    same_bounds free h =
        subst (λ t. Belongs structures t o) (bounded-no_predicate true s free ∙ sym (bounded-no_predicate false s free)) h

no_refusal : (r s : Option Refusal) (x : Refusal) → r ≡ None → s ≡ None → earlier r s ≡ Some x → ⊥
no_refusal r s x e f g = (let none : earlier r s ≡ None = ap (λ o. earlier o s) e ∙ f in cc)

nothing_behind : (q : Option ObjectRefusal) (r : Option Refusal) (x : Refusal) → q ≡ None → r ≡ None → behind_object q r ≡ Some x → ⊥
nothing_behind q r x e f g = (let none : behind_object q r ≡ None = ap (λ o. behind_object o r) e ∙ f in cc)

only_object : (q : Option ObjectRefusal) (r : Option Refusal) (x : ObjectRefusal) (y : Refusal) → q ≡ Some x → behind_object q r ≡ Some y → ⊥
only_object None r x y e f = absurd (cc)
only_object (Some q) r x y e f = absurd (cc)

-- a query is refused for its object, or else for a type in it
one_refusal : (env : Environment) (question : Question) (x : ObjectRefusal) (y : Refusal) → object_refusal_of question ≡ Some x
    → refusal_of_question env question ≡ Some y → ⊥
one_refusal env (refused z) x y e f = absurd (cc)
one_refusal env (inclusion a b) x y e f = absurd (cc)
one_refusal env (membership d a) x y e f = only_object (literal_refusal d) (refusal_of env a) x y e f

-- a right line is for its question
IsLineFor-from_right : (budget : ℕ) (env : Environment) (question : Question) (line : Line) → IsRightLine budget env question line
    → IsLineFor budget env question line
IsLineFor-from_right budget env question (Refused y) right = record {
  decided = λ a b s t is first second. absurd (no_refusal (refusal_of env a) (refusal_of env b) y first.unrefused second.unrefused (sym (ap (refusal_of_question env) is) ∙ right));
  placed = λ d a o s is object type. absurd (nothing_behind (literal_refusal d) (refusal_of env a) y (literal_unrefused d o object) type.unrefused (sym (ap (refusal_of_question env) is) ∙ right));
  refused = λ x is. (let same : Some y ≡ Some x = sym right ∙ is in cc);
  no_object = λ x is. absurd (one_refusal env question x y is right);
}
IsLineFor-from_right budget env question (NoObject y) right = record {
  decided = λ a b s t is first second. (let none : object_refusal_of question ≡ None = ap object_refusal_of is in absurd (cc));
  placed = λ d a o s is object type. (let none : object_refusal_of question ≡ None = ap object_refusal_of is ∙ literal_unrefused d o object in absurd (cc));
  refused = λ x is. absurd (one_refusal env question y x right is);
  no_object = λ x is. (let same : Some y ≡ Some x = sym right ∙ is in cc);
}
IsLineFor-from_right budget env (inclusion a b) (Answered answer) right = record {
  decided = λ c d s t is first second.
      (let same : inclusion a b ≡ inclusion c d = is in
      let one : a ≡ c = cc in
      let other : b ≡ d = cc in
      let s_is : right.0 ≡ s = denotes_one env c right.0 s (subst (λ e. Denotes env e right.0) one right.2.denotes) first.denotes in
      let t_is : right.1 ≡ t = denotes_one env d right.1 t (subst (λ e. Denotes env e right.1) other right.3.denotes) second.denotes in
      let first_is = subst (λ u. IsRight (structures_of env) u right.1 budget answer) s_is right.4 in
      IsDecided-from_right (structures_of env) s t budget answer (subst (λ u. IsRight (structures_of env) s u budget answer) t_is first_is));
  placed = λ d c o s is object type. absurd (cc);
  refused = λ x is. absurd (no_refusal (refusal_of env a) (refusal_of env b) x right.2.unrefused right.3.unrefused is);
  no_object = λ x is. absurd (cc);
}
IsLineFor-from_right budget env (membership d a) (Placed answer) right = record {
  decided = λ c b s t is first second. absurd (cc);
  placed = λ c b o s is object type.
      (let same : membership d a ≡ membership c b = is in
      let one : d ≡ c = cc in
      let other : a ≡ b = cc in
      let o_is : right.0 ≡ o = literal_one c right.0 o (subst (λ e. IsLiteral e right.0) one right.2) object in
      let s_is : right.1 ≡ s = denotes_one env b right.1 s (subst (λ e. Denotes env e right.1) other right.3.denotes) type.denotes in
      let object_is = subst (λ x. IsRightMembership (structures_of env) x right.1 budget answer) o_is right.4 in
      IsPlaced-from_right (structures_of env) o s budget answer (subst (λ u. IsRightMembership (structures_of env) o u budget answer) s_is object_is));
  refused = λ x is. absurd (nothing_behind (literal_refusal d) (refusal_of env a) x (literal_unrefused d right.0 right.2) right.3.unrefused is);
  no_object = λ x is. (let none : literal_refusal d ≡ None = literal_unrefused d right.0 right.2 in absurd (cc));
}
IsLineFor-from_right budget env (inclusion a b) (Placed answer) right = absurd right
IsLineFor-from_right budget env (refused x) (Placed answer) right = absurd right
IsLineFor-from_right budget env (membership d a) (Answered answer) right = absurd right
IsLineFor-from_right budget env (refused x) (Answered answer) right = absurd right

-- a right report whose UTF-8 the sink took decides each query
pub AllDecided-from_report : (budget : ℕ) (fs : List Datum) (found : Bool) (report : List ℕ) (before now : Option (List ℕ))
    → IsReport budget fs found report → Took before now (encode_utf8_all report) → AllDecided budget fs before now
AllDecided-from_report budget fs found report before now r took = record {
  lines = r.lines;
  taken = subst (λ text. Took before now (encode_utf8_all text)) r.text took;
  count = AllZip-long (IsLineOf budget (environment fs)) (environment fs).queries r.lines r.right;
  each = λ i query here.
      (let there = zip_get (IsLineOf budget (environment fs)) (environment fs).queries r.lines i query r.right here in
      (there.0, there.1, IsLineFor-from_right budget (environment fs) (question_of query) there.0 there.2));
}
