use Rattle.std.proofs.Common.{◌≡◌, map, fold, drop}
use Rattle.ls_spec.specs.Meaning.{specifier, specifiers}
use Rattle.ls_spec.specs.Atoms.{leaves_of_all}
use Rattle.ls_spec.specs.Distinct.{with_new}
use Rattle.ls_spec.specs.steps.Finding.{AreKeysOf}
use Rattle.ls_spec.proofs.atom_list.+atoms.Given as goal

abbrev pub invariant-add_all-loop-spec : goal.invariant-add_all-loop-spec
invariant-add_all-loop-spec l = record {
  keys : AreKeysOf l.seen.keys (map specifier l.found);
  found : fold with_new (map specifier l.found) (leaves_of_all (specifiers (drop l.spec-index l.specs))) ≡ fold with_new (map specifier l.initial.found) (leaves_of_all (specifiers l.specs));
}
