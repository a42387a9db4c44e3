use Rattle.std.proofs.Common.{◌≡◌, List, length, drop, map, Ok, arith, subst, sym}
use Rattle.ls_object.specs.Universe.{symbol}
use Rattle.ls_object.specs.Symbols.{common_lisp_symbol}
use Rattle.ls_object.specs.declared.table.TheConstants.{T_PLACE}
use Rattle.ls_reader.specs.declared.datum.Datum.{Datum}
use Rattle.ls_grammar.specs.Literals.{nil, unmarked, vector_value, chain, value}
use Rattle.ls_grammar.specs.steps.Making.{Makes, IsMade}
use Rattle.ls_grammar.proofs.MakingLemmas.{chain_before, value_list, value_dotted, value_vector}
use Rattle.ls_grammar.proofs.literal.+literal.Goals as goal

pub chain-loop-i-preserved : goal.chain-loop-i-preserved
chain-loop-i-preserved t c = λ v h.
    let ds = c.args.items.now in
    let d = c.index-items-i.result in
    let rest = c.loop-i.invariant v h in
    subst (λ w. Makes w c.cons-made.result) (sym (chain_before ds c.loop-i.i d v c.loop-i-test.true c.loop-i.auto.i c.index-items-i.is))
    (c.cons-made.ensures (value d) (chain (map value (drop c.loop-i.i ds)) v) c.make.ensures rest)

pub chain-returns : goal.chain-returns
chain-returns t c = λ v h.
    let none : c.loop-i.i ≡ 0 = omega (arith, c.loop-i-test.false) in
    subst (λ k. Makes (chain (map value (drop k c.args.items.now)) v) c.loop-i.made) none (c.loop-i.invariant v h)

pub headed-returns : goal.headed-returns
headed-returns t c =
    let name : c.in_ok-name.name ≡ c.args.name.now = c.in_ok-name.ensures in
    let head = subst (λ s. IsMade (Ok (unmarked (symbol s))) c.symbol-head.result) c.in_ok-of_common_lisp.ensures c.symbol-head.ensures in
    let head = subst (λ cs. IsMade (Ok (unmarked (symbol (common_lisp_symbol cs)))) c.symbol-head.result) name head in
    c.cons.ensures _ _ head (c.cons-rest.ensures (value c.args.of.now) (Ok nil) c.make.ensures c.nil.ensures)

pub make-returns-in-List : goal.make-returns-in-List
make-returns-in-List t c =
    let made = c.chain.ensures (Ok nil) c.nil.ensures in
    let chained = subst (λ ds. Makes (chain (map value ds) (Ok nil)) c.chain.result) c.as_slice.ensures made in
    subst (λ v. Makes v c.chain.result) (sym (value_list c.args.datum.now c.in-List.items c.in-List.is)) chained

pub make-returns-in-Dotted : goal.make-returns-in-Dotted
make-returns-in-Dotted t c =
    let made = c.chain-in-Dotted.ensures (value c.get.result.now) c.make.ensures in
    let chained = subst (λ ds. Makes (chain (map value ds) (value c.get.result.now)) c.chain-in-Dotted.result) c.as_slice-in-Dotted.ensures made in
    let whole = subst (λ d. Makes (chain (map value c.in-Dotted.items) (value d)) c.chain-in-Dotted.result) c.get.ensures chained in
    subst (λ v. Makes v c.chain-in-Dotted.result) (sym (value_dotted c.args.datum.now c.in-Dotted.items c.in-Dotted.last c.in-Dotted.is)) whole

pub make-returns-in-Vector : goal.make-returns-in-Vector
make-returns-in-Vector t c =
    let made = subst (λ (ds : List Datum). Makes (vector_value c.args.datum.now.span T_PLACE (length ds)) c.vector-in-Vector.result) c.as_slice-in-Vector.ensures c.vector-in-Vector.ensures in
    subst (λ v. Makes v c.vector-in-Vector.result) (sym (value_vector c.args.datum.now c.in-Vector.items c.in-Vector.is)) made
