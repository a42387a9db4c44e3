use Rattle.std.proofs.Common.{◌≡◌, ◌++◌, ◌≤◌, List, ℕ}
use Rattle.ls_object.specs.ObjectText.{rest_text}
use Rattle.ls_object.specs.Meaning.{lisp_object}
use Rattle.ls_object.specs.declared.object.Object.{size-Object}
use Rattle.ls_object.proofs.object.Object.+write.Given as goal

abbrev pub decreases-write : goal.decreases-write
decreases-write l = goal.size-write l

abbrev pub decreases-write_rest : goal.decreases-write_rest
decreases-write_rest l = goal.size-write_rest l

abbrev pub invariant-write_rest-loop-rest : goal.invariant-write_rest-loop-rest
invariant-write_rest-loop-rest l = record {
  smaller : size-Object l.rest ≤ size-Object l.fn.self;
  whole : l.out ++ rest_text (lisp_object l.rest) ≡ l.fn.out ++ rest_text (lisp_object l.fn.self);
  grown : (written : List ℕ) × (l.out ≡ l.fn.out ++ written);
}
