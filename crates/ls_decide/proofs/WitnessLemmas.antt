-- An object that is in one type and outside another, by the bounds of both.
use Rattle.std.proofs.Common.{sym, subst, true, false}
use Rattle.ls_object.specs.Universe.{LispObject, node, LispShape, number, character, symbol, pair, array, structure, opaque, Structures, IsObject, IsShape, IsPlain, plain, plain_shape}
use Rattle.ls_spec.specs.Specifier.{Specifier}
use Rattle.ls_spec.specs.Approximation.{low, high, HasNoPredicate}
use Rattle.ls_spec.specs.Membership.{Belongs}
use Rattle.ls_spec.specs.Inclusion.{IsIncluded, IsWitness, IsUnsureWitness}
use Rattle.ls_spec.proofs.PlainLemmas.{Belongs-plain, plain-Belongs, bounded-no_predicate}
use Rattle.ls_decide.specs.steps.Comparing.{IsOutside}
use Rattle.ls_decide.proofs.BoundedLemmas.{bounded-no_predicates}

mutual
  -- an object without its marks is an object of the list too
  object_plain : (structures : Structures) (o : LispObject) → IsObject structures o → IsObject structures (plain o)
  object_plain structures (node marks shape) h = (tt, shape_plain structures shape h.1)

  shape_plain : (structures : Structures) (shape : LispShape) → IsShape structures shape → IsShape structures (plain_shape shape)
  shape_plain structures (pair x y) h = (object_plain structures x h.0, object_plain structures y h.1)
  shape_plain structures (number n d) h = h
  shape_plain structures (character c) h = h
  shape_plain structures (symbol s) h = h
  shape_plain structures (array c simple dims) h = h
  shape_plain structures (structure s) h = h
  shape_plain structures (opaque k) h = h

module _ (structures : Structures) (a b : Specifier) (o : LispObject) (is_plain : IsPlain o) where
  -- marks change nothing where no predicate stands, so one between the bounds is a witness
  pub bounds_witness : IsOutside structures (low a) (high b) o → IsWitness structures a b o
  bounds_witness out = record {
    is_object = subst (IsObject structures) out.plain_form (object_plain structures out.marked out.is_object);
    is_plain = is_plain;
    inside = subst (Belongs structures (low a)) out.plain_form (Belongs-plain structures (low a) out.marked (bounded-no_predicates false a) out.inside);
    outside = λ h. out.outside (plain-Belongs structures (high b) out.marked (bounded-no_predicates true b) (subst (Belongs structures (high b)) (sym out.plain_form) h));
  }

  -- and so is any where none stands in the types themselves
  pub sure_witness : HasNoPredicate a → HasNoPredicate b → IsOutside structures a b o → IsWitness structures a b o
  sure_witness free_a free_b out =
      bounds_witness
      (subst (λ (s : Specifier). IsOutside structures s (high b) o) (sym (bounded-no_predicate false a free_a))
      (subst (λ (s : Specifier). IsOutside structures a s o) (sym (bounded-no_predicate true b free_b)) out))

  -- where there is none between the bounds, the predicates decide
  pub unsure_witness : IsIncluded structures (low a) (high b) → IsOutside structures a b o → IsUnsureWitness structures a b o
  unsure_witness included out = record {
    no_witness = λ w is. is.outside (included w is.is_object is.inside);
    is_plain = is_plain;
    marked = out.marked;
    is_object = out.is_object;
    plain_form = out.plain_form;
    inside = out.inside;
    outside = out.outside;
  }
