use Rattle.std.proofs.Common.{◌++◌, codes, ap, ◌∙◌, append_assoc}
use Rattle.ls_object.specs.ObjectText.{name_text}
use Rattle.ls_object.proofs.WritingLemmas.{adds_first, on_err, on_err_after}
use Rattle.ls_object.proofs.write.symbols.write_qualified.Goals as goal

pub returns-in_err-write_name-clause-err : goal.returns-in_err-write_name-clause-err
returns-in_err-write_name-clause-err c =
    let package_text = name_text c.args.package_name.now in
    let old = c.args.out.now in
    let new = c.write_name.new.out in
    on_err c.from_residual.result _ (adds_first (package_text ++ codes "::") (name_text c.args.name.now) old new (adds_first package_text (codes "::") old new c.in_err-write_name.ensures.err))

pub returns-clause-err : goal.returns-clause-err
returns-clause-err c =
    let package_text = name_text c.args.package_name.now in
    let old = c.args.out.now in
    on_err_after c.write_name-2.result (package_text ++ codes "::") (name_text c.args.name.now) old c.push_ascii.new.self c.write_name-2.new.out (c.in_ok-push_ascii.ensures.ok ∙ ap (λ t. t ++ codes "::") c.in_ok-write_name.ensures.ok ∙ append_assoc old package_text (codes "::")) c.write_name-2.ensures.err
