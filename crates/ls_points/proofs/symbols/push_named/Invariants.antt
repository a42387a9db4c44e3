use Rattle.std.proofs.Common.{◌≡◌, ◌++◌, [], map, take}
use Rattle.std.specs.List.{AllByRecursion}
use Rattle.ls_object.specs.Universe.{node, symbol, IsName}
use Rattle.ls_object.specs.Meaning.{lisp_object}
use Rattle.ls_points.specs.steps.Symbols.{named_symbols}
use Rattle.ls_points.proofs.symbols.push_named.Given as goal

abbrev pub invariant-loop-atom : goal.invariant-loop-atom
invariant-loop-atom l = record {
  objects : map lisp_object l.out ≡ map lisp_object l.initial.out ++ map (λ s. node [] (symbol s)) (named_symbols (take l.atom-index l.atoms));
  names : AllByRecursion IsName (named_symbols (take l.atom-index l.atoms));
}
