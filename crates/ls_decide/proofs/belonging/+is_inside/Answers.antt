use Rattle.std.proofs.Common.{◌<◌, length, get_or, true, false, sym, subst, ap, ◌∙◌, arith}
use Rattle.ls_object.specs.Meaning.{lisp_object}
use Rattle.ls_spec.specs.Meaning.{specifiers_of}
use Rattle.ls_intern.specs.declared.node.Node.TheVariants as node
use Rattle.ls_intern.specs.Places.{at, specifiers_at, AllBelow, PartsBelow}
use Rattle.ls_intern.proofs.PlaceLemmas.{all_below_more}
use Rattle.ls_intern.proofs.TreeLemmas.{above_least, below_above, below_at}
use Rattle.ls_cells.specs.Codes.{HaveCodes}
use Rattle.ls_cells.specs.Kept.{structures_in, specifiers_in, codes_in}
use Rattle.ls_decide.specs.steps.Belonging.{Tells}
use Rattle.ls_decide.proofs.BelongingLemmas.{node_said, node_coded, coded_at, leaf_node, structure_told, array_told, all_more, all_ends, all_none, some_more, some_ends, some_none}
use Rattle.ls_decide.proofs.belonging.+is_inside.Goals as goal

pub is_inside-all_inside-requires : goal.is_inside-all_inside-requires
is_inside-all_inside-requires t c =
    let known = specifiers_in c.args.store.now in
    let says = node_said c.table-table.result.now known c.args.id c.node.result.now (node.And c.in-And.parts) c.table-table.ensures.specifiers c.node.ensures.says c.in-And.is in
    let before : AllBelow c.args.id c.as_slice.result.now = subst (AllBelow c.args.id) (sym c.as_slice.ensures) (subst (PartsBelow c.args.id) c.in-And.is c.node.ensures.before) in
    let bound = above_least c.args.id c.as_slice.result.now before in
    let coded = node_coded (codes_in c.args.store.now) known c.args.id (node.And c.in-And.parts) says c.requires.codes in (
      omega (arith, c.decreases, bound),
      (
        c.requires.structures,
        (
          all_below_more c.args.id (length known) c.as_slice.result.now (omega (arith, c.requires.id)) before,
          subst (λ ids. HaveCodes (codes_in c.args.store.now) (specifiers_of (specifiers_at known ids))) (sym c.as_slice.ensures) coded,
        ),
      ),
    )

pub is_inside-some_inside-requires : goal.is_inside-some_inside-requires
is_inside-some_inside-requires t c =
    let known = specifiers_in c.args.store.now in
    let says = node_said c.table-table.result.now known c.args.id c.node.result.now (node.Or c.in-Or.parts) c.table-table.ensures.specifiers c.node.ensures.says c.in-Or.is in
    let before : AllBelow c.args.id c.as_slice-in-Or.result.now = subst (AllBelow c.args.id) (sym c.as_slice-in-Or.ensures) (subst (PartsBelow c.args.id) c.in-Or.is c.node.ensures.before) in
    let bound = above_least c.args.id c.as_slice-in-Or.result.now before in
    let coded = node_coded (codes_in c.args.store.now) known c.args.id (node.Or c.in-Or.parts) says c.requires.codes in (
      omega (arith, c.decreases, bound),
      (
        c.requires.structures,
        (
          all_below_more c.args.id (length known) c.as_slice-in-Or.result.now (omega (arith, c.requires.id)) before,
          subst (λ ids. HaveCodes (codes_in c.args.store.now) (specifiers_of (specifiers_at known ids))) (sym c.as_slice-in-Or.ensures) coded,
        ),
      ),
    )

pub is_inside-returns-in-StructIs : goal.is_inside-returns-in-StructIs
is_inside-returns-in-StructIs t c =
    let known = specifiers_in c.args.store.now in
    let says = node_said c.table-table.result.now known c.args.id c.node.result.now (node.StructIs c.in-StructIs.name) c.table-table.ensures.specifiers c.node.ensures.says c.in-StructIs.is in
    structure_told (structures_in c.args.store.now) c.args.parents.now c.args.upper c.in-StructIs.name (at known c.args.id) c.args.object.now c.is_structure_under.result
    c.requires.structures c.table-table.ensures.order says c.is_structure_under.ensures

pub is_inside-returns-in-Some : goal.is_inside-returns-in-Some
is_inside-returns-in-Some t c =
    let known = specifiers_in c.args.store.now in
    let is = c.in-ArrayOf.is ∙ ap (λ e. node.ArrayOf e c.in-ArrayOf.simple c.in-ArrayOf.dims) c.in-Some.is in
    let says = node_said c.table-table.result.now known c.args.id c.node.result.now _ c.table-table.ensures.specifiers c.node.ensures.says is in
    array_told (structures_in c.args.store.now) c.args.upper (at known c.in-Some.element) c.in-ArrayOf.simple c.in-ArrayOf.dims (at known c.args.id) c.args.object.now c.code_of.result.index c.is_array_of.result
    says c.code_of.ensures c.is_array_of.ensures

pub is_inside-returns-in-None : goal.is_inside-returns-in-None
is_inside-returns-in-None t c =
    leaf_node (structures_in c.args.store.now) c.args.upper c.table-table.result.now (specifiers_in c.args.store.now) c.args.id c.node.result.now _ c.args.object.now c.is_in_leaf.result
    c.table-table.ensures.specifiers c.node.ensures.says (c.in-ArrayOf.is ∙ ap (λ e. node.ArrayOf e c.in-ArrayOf.simple c.in-ArrayOf.dims) c.in-None.is) tt tt c.is_in_leaf.ensures

pub is_inside-returns-in-Range : goal.is_inside-returns-in-Range
is_inside-returns-in-Range t c =
    leaf_node (structures_in c.args.store.now) c.args.upper c.table-table.result.now (specifiers_in c.args.store.now) c.args.id c.node.result.now _ c.args.object.now c.is_in_leaf-in-Range.result
    c.table-table.ensures.specifiers c.node.ensures.says c.in-Range.is tt tt c.is_in_leaf-in-Range.ensures

pub all_inside-is_inside-requires : goal.all_inside-is_inside-requires
all_inside-is_inside-requires t c =
    let known = specifiers_in c.args.store.now in
    let i = c.loop-part.part-index in
    let l : i < length c.args.parts.now = c.loop-part-test.true in
    (omega (arith, c.decreases, below_above c.args.parts.now i 0 l), (c.requires.structures, (below_at (length known) c.args.parts.now i 0 c.requires.parts l, coded_at (codes_in c.args.store.now) known c.args.parts.now i c.requires.codes l)))

pub some_inside-is_inside-requires : goal.some_inside-is_inside-requires
some_inside-is_inside-requires t c =
    let known = specifiers_in c.args.store.now in
    let i = c.loop-part.part-index in
    let l : i < length c.args.parts.now = c.loop-part-test.true in
    (omega (arith, c.decreases, below_above c.args.parts.now i 0 l), (c.requires.structures, (below_at (length known) c.args.parts.now i 0 c.requires.parts l, coded_at (codes_in c.args.store.now) known c.args.parts.now i c.requires.codes l)))

pub all_inside-returns-then-not-branch : goal.all_inside-returns-then-not-branch
all_inside-returns-then-not-branch t c =
    let known = specifiers_in c.args.store.now in
    let i = c.loop-part.part-index in
    let o = lisp_object c.args.object.now in
    let part = subst (Tells (structures_in c.args.store.now) c.args.upper (at known (get_or c.args.parts.now i 0)) o) c.if-not-branch.true c.in_ok-is_inside.ensures in
    c.loop-part.invariant false (all_ends (structures_in c.args.store.now) c.args.upper known o c.args.parts.now i c.loop-part-test.true part)

pub all_inside-loop-part-preserved : goal.all_inside-loop-part-preserved
all_inside-loop-part-preserved t c =
    let known = specifiers_in c.args.store.now in
    let i = c.loop-part.part-index in
    let o = lisp_object c.args.object.now in
    let part = subst (Tells (structures_in c.args.store.now) c.args.upper (at known (get_or c.args.parts.now i 0)) o) c.if-not-branch.false c.in_ok-is_inside.ensures in
    λ told rest. c.loop-part.invariant told (all_more (structures_in c.args.store.now) c.args.upper known o c.args.parts.now i c.loop-part-test.true part told rest)

pub all_inside-returns : goal.all_inside-returns
all_inside-returns t c =
    c.loop-part.invariant true (all_none (structures_in c.args.store.now) c.args.upper (specifiers_in c.args.store.now) (lisp_object c.args.object.now) c.args.parts.now c.loop-part.part-index c.loop-part-test.false)

pub some_inside-returns-then-branch : goal.some_inside-returns-then-branch
some_inside-returns-then-branch t c =
    let known = specifiers_in c.args.store.now in
    let i = c.loop-part.part-index in
    let o = lisp_object c.args.object.now in
    let part = subst (Tells (structures_in c.args.store.now) c.args.upper (at known (get_or c.args.parts.now i 0)) o) c.if-branch.true c.in_ok-is_inside.ensures in
    c.loop-part.invariant true (some_ends (structures_in c.args.store.now) c.args.upper known o c.args.parts.now i c.loop-part-test.true part)

pub some_inside-loop-part-preserved : goal.some_inside-loop-part-preserved
some_inside-loop-part-preserved t c =
    let known = specifiers_in c.args.store.now in
    let i = c.loop-part.part-index in
    let o = lisp_object c.args.object.now in
    let part = subst (Tells (structures_in c.args.store.now) c.args.upper (at known (get_or c.args.parts.now i 0)) o) c.if-branch.false c.in_ok-is_inside.ensures in
    λ told rest. c.loop-part.invariant told (some_more (structures_in c.args.store.now) c.args.upper known o c.args.parts.now i c.loop-part-test.true part told rest)

pub some_inside-returns : goal.some_inside-returns
some_inside-returns t c =
    c.loop-part.invariant false (some_none (structures_in c.args.store.now) c.args.upper (specifiers_in c.args.store.now) (lisp_object c.args.object.now) c.args.parts.now c.loop-part.part-index c.loop-part-test.false)
