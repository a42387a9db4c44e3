use Rattle.std.proofs.Common.{◌≡◌, sym, ap, ◌∙◌, ◌++◌, arith}
use Rattle.std.specs.List.{flat_map, range_with_len}
use Rattle.ls_gen.specs.Generated.{lines_of, generated_text}
use Rattle.ls_gen.proofs.AppendLemmas.{flat_map-range_more}
use Rattle.ls_gen.proofs.text.text_of.Goals as goal

pub loop-i-preserved : goal.loop-i-preserved
loop-i-preserved c =
    c.in_ok-push_lines.ensures ∙ ap (λ t. t ++ lines_of c.args.count c.loop-i.i) c.loop-i.invariant
    ∙ sym (flat_map-range_more (lines_of c.args.count) c.loop-i.i)

pub returns : goal.returns
unfolding generated_text
returns c =
    let all : c.loop-i.i ≡ c.args.count = omega (arith, c.loop-i-test.false, c.loop-i.auto.i-end) in
    c.loop-i.invariant ∙ ap (λ i. flat_map (lines_of c.args.count) (range_with_len 0 i)) all
