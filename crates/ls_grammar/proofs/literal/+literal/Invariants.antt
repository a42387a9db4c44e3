use Rattle.std.proofs.Common.{drop, map}
use Rattle.ls_grammar.specs.Literals.{Value, chain, value}
use Rattle.ls_grammar.specs.steps.Making.{Makes}
use Rattle.ls_grammar.proofs.literal.+literal.Given as goal

abbrev pub invariant-chain-loop-i : goal.invariant-chain-loop-i
invariant-chain-loop-i l = (v : Value) → Makes v l.fn.last → Makes (chain (map value (drop l.i l.items)) v) l.made
