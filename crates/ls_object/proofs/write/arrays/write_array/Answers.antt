use Rattle.std.proofs.Common.{◌++◌, codes, List, ℕ}
use Rattle.ls_object.specs.ObjectText.{code_text, dimensions_text, simple_text}
use Rattle.ls_object.proofs.WritingLemmas.{on_err, adds_first, three_second}
use Rattle.ls_object.proofs.write.arrays.write_array.Goals as goal

-- what stands before the dimensions
abbrev head : ℕ → List ℕ
head code = codes "#<ARRAY " ++ code_text code ++ codes " "

pub returns-in_err-write_array_head-clause-err : goal.returns-in_err-write_array_head-clause-err
returns-in_err-write_array_head-clause-err c =
    let code = c.args.elem.now.index in
    let dims = dimensions_text c.args.dims.now in
    let simple = simple_text c.args.simple in
    let old = c.args.out.now in
    let new = c.write_array_head.new.out in
    on_err c.from_residual.result _
    (adds_first (head code ++ dims ++ simple) (codes ">") old new (adds_first (head code ++ dims) simple old new (adds_first (head code) dims old new c.in_err-write_array_head.ensures.err)))

pub returns-in_err-write_dimensions-clause-err : goal.returns-in_err-write_dimensions-clause-err
returns-in_err-write_dimensions-clause-err c =
    let code = c.args.elem.now.index in
    let dims = dimensions_text c.args.dims.now in
    let simple = simple_text c.args.simple in
    let old = c.args.out.now in
    let new = c.write_dimensions.new.out in
    on_err c.from_residual-in_err-write_dimensions.result _
    (adds_first (head code ++ dims ++ simple) (codes ">") old new (three_second (head code) dims simple old c.write_array_head.new.out new c.in_ok-write_array_head.ensures.ok c.in_err-write_dimensions.ensures.err))
