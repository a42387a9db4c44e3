use Rattle.std.proofs.Common.{◌∙◌, ◌-◌, ap, sym, length, get_or, Some, arith}
use Rattle.ls_deftype.specs.steps.Filling.{use_of}
use Rattle.ls_deftype.proofs.ArgumentLemmas.{value_required, value_rest, value_given, value_default}
use Rattle.ls_deftype.proofs.arguments.Use.value_at.Goals as goal

pub returns-then-at-required : goal.returns-then-at-required
returns-then-at-required c = value_required (use_of c.args.self.now) c.args.at c.index-args-at.result c.requires.enough (omega (arith, c.len-required.ensures)) c.index-args-at.is

pub returns-then-at-required-2 : goal.returns-then-at-required-2
returns-then-at-required-2 c =
    let n = c.len-required.ensures in
    let o = ap length c.as_slice-optional.ensures in
    value_rest (use_of c.args.self.now) c.args.at c.requires.enough c.requires.within (omega (arith, n)) (omega (arith, n, o))

pub returns-then-at-args : goal.returns-then-at-args
returns-then-at-args c =
    let n = c.len-required.ensures in
    let o = ap length c.as_slice-optional.ensures in
    value_given (use_of c.args.self.now) c.args.at c.index-args-at-then-at-args.result c.requires.enough (omega (arith, n)) (omega (arith, n, o)) c.if-at-args.true c.index-args-at-then-at-args.is

pub returns-else-at-args : goal.returns-else-at-args
returns-else-at-args c =
    let n = c.len-required.ensures in
    let o = ap length c.as_slice-optional.ensures in
    let p = c.index-optional-at.result in
    let template = c.args.self.now.template.now in
    let at = c.index-optional-at.is ∙ ap (λ ps. get_or ps (c.args.at - c.len-required.result) p) c.as_slice-optional.ensures ∙ ap (λ k. get_or template.optional (c.args.at - k) p) n in
    ap (λ q. Some q.value) (sym c.index-optional-at.is)
    ∙ value_default (use_of c.args.self.now) c.args.at p c.requires.enough (omega (arith, n)) (omega (arith, n, o)) c.if-at-args.false at
