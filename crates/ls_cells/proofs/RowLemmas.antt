-- The look-up of a row by its truth values, and the object of a row.
use Rattle.std.proofs.Common.{ℕ, zero, suc, ◌≡◌, ◌∙◌, ◌<◌, sym, ap, subst, arith, Bool, true, false, not, List, [], ◌∷◌, length, get_or}
use Rattle.std.specs.Prelude.{Option, Some, None, MatchOption, MatchBool, Contains, slice_get}
use Rattle.std.specs.Option.{is_some}
use Rattle.std.specs.List.{list_any, position}
use Rattle.std.specs.Bool.{beq, Decides}
use Rattle.std.specs.Cmp.{booleans_Decides}
use Rattle.std.specs.Cmp.Lexicographic.{pointwise, pointwise_decides}
use Rattle.std.proofs.lemmas.Bool.{not-false}
use Rattle.std.proofs.lemmas.List.Quantifiers.{position-Some}
use Rattle.std.proofs.lemmas.Map.Made.{is_member-Decides}
use Rattle.ls_object.specs.Universe.{LispObject, node, pair, plain, IsPlain}

-- the keys' test says whether a list is among them
pub among : (keys : List (List Bool)) (q : List Bool) → Decides (list_any (pointwise beq q) keys) (Contains keys q)
among = is_member-Decides (pointwise_decides booleans_Decides)

-- the place that a look-up tells has the list that was asked for
pub found_is : (r : Option ℕ) (keys : List (List Bool)) (q : List Bool) → r ≡ position (pointwise beq q) keys → is_some r ≡ list_any (pointwise beq q) keys
    → MatchOption r (¬ Contains keys q) (λ i. slice_get keys i ≡ Some q)
found_is None keys q e s = λ h. let t = (among keys q).1 h in let u = s ∙ t in cc
found_is (Some i) keys q e s =
    let p = position-Some (pointwise beq q) keys i q (sym e) in
    there keys i p.0 (sym ((pointwise_decides booleans_Decides q (get_or keys i q)).0 p.1))
  where
    there : (keys : List (List Bool)) (i : ℕ) → i < length keys → get_or keys i q ≡ q → slice_get keys i ≡ Some q
    there [] i l e = absurd (omega arith)
    there (k ∷ keys) zero l e = ap Some e
    there (k ∷ keys) (suc i) l e = there keys i (omega arith) e

-- a key that was added was not there before, and one that was not added was
pub fresh_is : (keys rows : List (List Bool)) (p q : List Bool) (b r : Bool) → keys ≡ rows → p ≡ q → b ≡ not (list_any (pointwise beq p) keys) → b ≡ r
    → MatchBool r (¬ Contains rows q) (Contains rows q)
fresh_is keys rows p q b r k d e f = by_answer r (sym f ∙ e ∙ ap (λ x. not (list_any (pointwise beq x) keys)) d)
  where
    by_answer : (b : Bool) → b ≡ not (list_any (pointwise beq q) keys) → MatchBool b (¬ Contains rows q) (Contains rows q)
    by_answer true t = λ h. let u = (among keys q).1 (subst (λ ks. Contains ks q) (sym k) h) in let v = t ∙ ap not u in cc
    by_answer false t = subst (λ ks. Contains ks q) k ((among keys q).0 (not-false _ (sym t)))

-- a cons of two objects without marks, and with none of its own
pub plain_cons : (x y : LispObject) → IsPlain x → IsPlain y → IsPlain (node [] (pair x y))
plain_cons x y p q = ap (λ car. node [] (pair car (plain y))) p ∙ ap (λ cdr. node [] (pair x cdr)) q
