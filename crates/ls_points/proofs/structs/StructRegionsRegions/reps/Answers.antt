use Rattle.std.proofs.Common.{ap, ◌∙◌, map, subst, MatchOption}
use Rattle.std.specs.List.{AllByRecursion}
use Rattle.std.specs.Option.{option_to_list}
use Rattle.ls_object.specs.Inclusion.{IsInclusionOrder}
use Rattle.ls_object.specs.Meaning.{lisp_object}
use Rattle.ls_object.specs.Universe.{IsName}
use Rattle.ls_points.specs.steps.Inheriting.{named_structures, AddsKeys, AreRootsNamed, IsUnnamedRoot}
use Rattle.ls_points.proofs.StructLaw.{struct_law, struct_objects, struct_plains, struct_count, joined}
use Rattle.ls_points.proofs.structs.StructRegionsRegions.reps.Goals as goal

pub returns : goal.returns
returns c =
    let atoms = c.args.atoms.now in
    let structures = c.args.self.now in
    let order = subst IsInclusionOrder c.self.view_is c.as_slice-3.ensures.order in
    let root = c.in_ok-root.root in
    let answered = c.push_found.new.out in
    let adds = subst (λ old. AddsKeys (named_structures atoms) old c.add_keys.new.keys.keys) c.new-keys.ensures.empty
    (subst (λ list. AddsKeys (named_structures list) c.new-keys.result.keys c.add_keys.new.keys.keys) c.as_slice.ensures c.in_ok-add_keys.ensures) in
    let root_is = subst (λ pairs. MatchOption root (AreRootsNamed pairs (named_structures atoms)) (IsUnnamedRoot pairs (named_structures atoms))) (c.as_slice-3.ensures.pairs ∙ c.self.view_is) (c.in_ok-root.ensures.root (named_structures atoms) adds) in
    let named = rw c.as_slice-2.ensures at c.in_ok-push_named.ensures.objects in
    let names = subst (λ list. AllByRecursion IsName (named_structures list)) c.as_slice-2.ensures c.in_ok-push_named.ensures.names in
    let is = joined (named_structures atoms) (option_to_list root) (map lisp_object c.new-out.result) (map lisp_object c.push_named.new.out) (map lisp_object answered) (ap (map lisp_object) c.new-out.ensures) named c.in_ok-push_found.ensures in
    record {
      plain = struct_plains structures atoms root c.requires order root_is answered is;
      objects = λ over e. struct_objects structures atoms root c.requires order root_is answered is names c.in_ok-root.ensures.name over e;
      law = λ over e. struct_law structures atoms root c.requires order root_is answered is over e;
      count = struct_count structures atoms root c.requires order root_is answered is;
    }
