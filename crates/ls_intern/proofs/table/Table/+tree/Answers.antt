use Rattle.std.proofs.Common.{◌≡◌, ◌<◌, length, ap, sym, subst, ◌∙◌, arith}
use Rattle.ls_spec.specs.Specifier.{array_of}
use Rattle.ls_spec.specs.Meaning.{specifier}
use Rattle.ls_spec.proofs.BuiltinLemmas.{specifier-ArrayOf}
use Rattle.ls_intern.specs.declared.node.Node.TheVariants as node
use Rattle.ls_intern.specs.Places.{at, node_specifier, AllBelow, PartsBelow}
use Rattle.ls_intern.proofs.PlaceLemmas.{all_below_more}
use Rattle.ls_intern.proofs.TreeLemmas.{above_least, below_above, below_at}
use Rattle.ls_intern.proofs.table.Table.+tree.Goals as goal

pub tree-trees-requires : goal.tree-trees-requires
tree-trees-requires t c =
    let below : AllBelow c.args.id c.as_slice.result.now = subst (AllBelow c.args.id) (sym c.as_slice.ensures) (subst (PartsBelow c.args.id) c.in-And.is c.node.ensures.before) in
    let bound = above_least c.args.id c.as_slice.result.now below in
    (omega (arith, c.decreases), all_below_more c.args.id (length c.args.self.now) c.as_slice.result.now (omega arith) below)

pub tree-trees-requires-in-Or : goal.tree-trees-requires-in-Or
tree-trees-requires-in-Or t c =
    let below : AllBelow c.args.id c.as_slice-in-Or.result.now = subst (AllBelow c.args.id) (sym c.as_slice-in-Or.ensures) (subst (PartsBelow c.args.id) c.in-Or.is c.node.ensures.before) in
    let bound = above_least c.args.id c.as_slice-in-Or.result.now below in
    (omega (arith, c.decreases), all_below_more c.args.id (length c.args.self.now) c.as_slice-in-Or.result.now (omega arith) below)

pub trees-tree-requires : goal.trees-tree-requires
trees-tree-requires t c =
    let within : c.loop-id.id-index < length c.args.ids.now = omega arith in
    let bound = below_above c.args.ids.now c.loop-id.id-index 0 within in
    (omega (arith, c.decreases), below_at (length c.args.self.now) c.args.ids.now c.loop-id.id-index 0 c.requires within)

pub tree-returns-in_ok-copy-in-Some : goal.tree-returns-in_ok-copy-in-Some
tree-returns-in_ok-copy-in-Some t c =
    specifier-ArrayOf c.in_ok-new-in-Some.field-0 c.in-ArrayOf.simple c.in_ok-copy-in-Some.field-0
    ∙ ap (λ s. array_of s c.in-ArrayOf.simple c.in_ok-copy-in-Some.field-0) (ap specifier c.in_ok-new-in-Some.ensures ∙ c.in_ok-tree-in-Some.ensures)
    ∙ ap (λ d. array_of (at c.args.self.now c.in-Some.elem) c.in-ArrayOf.simple d) c.in_ok-copy-in-Some.ensures
    ∙ subst (λ n. node_specifier c.args.self.now n ≡ at c.args.self.now c.args.id) (c.in-ArrayOf.is ∙ ap (λ e. node.ArrayOf e c.in-ArrayOf.simple c.in-ArrayOf.dims) c.in-Some.is) c.node.ensures.says
