use Rattle.std.proofs.Common.{◌≡◌, ◌∙◌, ap, map}
use Rattle.ls_object.specs.declared.table.Code.{Code}
use Rattle.ls_object.specs.Meaning.{lisp_object}
use Rattle.ls_spec.specs.Limits.{dimension_limit}
use Rattle.ls_arrays.specs.steps.Representatives.{places_of, dimension_stand_ins, code_stand_ins, with_codes}
use Rattle.ls_arrays.proofs.ArrayLaw.{array_law, array_objects, array_plains, array_count}
use Rattle.ls_arrays.proofs.regions.ArrayRegionsRegions.reps.Goals as goal

pub returns : goal.returns
returns c =
    let atoms = c.args.atoms.now in
    let out = c.in_ok-out.out in
    let index = λ (k : Code). k.index in
    let codes : map index c.as_slice-3.result.now ≡ code_stand_ins c.args.atoms.now = ap (map index) c.as_slice-3.ensures ∙ c.in_ok-codes.ensures ∙ ap code_stand_ins c.as_slice.ensures in
    let dims : c.as_slice-4.result.now ≡ dimension_stand_ins dimension_limit (places_of c.args.atoms.now) =
    c.as_slice-4.ensures ∙ c.in_ok-dims.ensures ∙ ap (λ xs. dimension_stand_ins dimension_limit (places_of xs)) c.as_slice-2.ensures in
    let is : map lisp_object c.in_ok-out.out ≡ with_codes (dimension_stand_ins dimension_limit (places_of c.args.atoms.now)) (code_stand_ins c.args.atoms.now) =
    c.in_ok-out.ensures ∙ ap (with_codes c.as_slice-4.result.now) codes ∙ ap (λ ds. with_codes ds (code_stand_ins c.args.atoms.now)) dims in
    record {
      plain = array_plains atoms c.requires out is;
      objects = λ structures over. array_objects atoms c.requires out is structures;
      law = λ structures over. array_law atoms c.requires out is structures;
      count = array_count atoms c.requires out is;
    }
