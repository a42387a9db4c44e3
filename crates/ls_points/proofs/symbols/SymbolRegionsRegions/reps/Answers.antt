use Rattle.std.proofs.Common.{◌≡◌, ◌∙◌, ◌++◌, [], ◌∷◌, map, ap, subst}
use Rattle.std.specs.List.{AllByRecursion}
use Rattle.ls_object.specs.Universe.{node, symbol, IsName}
use Rattle.ls_object.specs.Meaning.{lisp_object}
use Rattle.ls_points.specs.steps.Symbols.{named_symbols, longest, keyword_past, symbol_past}
use Rattle.ls_points.proofs.SymbolLaw.{longest_short, symbol_law, symbol_objects, symbol_plains, symbol_count, joined}
use Rattle.ls_points.proofs.symbols.SymbolRegionsRegions.reps.Goals as goal

pub returns : goal.returns
returns c =
    let atoms = c.args.atoms.now in
    let n = longest (named_symbols atoms) in
    let e : c.longest_name-longest.result ≡ longest (named_symbols c.args.atoms.now) = rw c.as_slice-2.ensures at c.longest_name-longest.ensures in
    let named = rw c.as_slice.ensures at c.in_ok-push_named.ensures.objects in
    let first = subst (λ s. map lisp_object c.push_symbol.new.out ≡ map lisp_object c.push_named.new.out ++ node [] (symbol s) ∷ []) (c.in_ok-keyword_past.ensures ∙ ap keyword_past e) c.in_ok-push_symbol.ensures in
    let second = subst (λ s. map lisp_object c.push_symbol-2.new.out ≡ map lisp_object c.push_symbol.new.out ++ node [] (symbol s) ∷ []) (c.in_ok-symbol_past.ensures ∙ ap symbol_past e) c.in_ok-push_symbol-2.ensures in
    let is = joined (named_symbols atoms) (keyword_past n) (symbol_past n) (map lisp_object c.new-out.result) (map lisp_object c.push_named.new.out) (map lisp_object c.push_symbol.new.out) (map lisp_object c.push_symbol-2.new.out) (ap (map lisp_object) c.new-out.ensures) named first second in
    let short = longest_short (named_symbols atoms) in
    let names : AllByRecursion IsName (named_symbols atoms) = rw c.as_slice.ensures at c.in_ok-push_named.ensures.names in
    record {
      plain = symbol_plains atoms n c.requires short c.push_symbol-2.new.out is;
      objects = λ structures over. symbol_objects atoms n c.requires short c.push_symbol-2.new.out is names structures;
      law = λ structures over. symbol_law atoms n c.requires short c.push_symbol-2.new.out is structures;
      count = symbol_count atoms n c.requires short c.push_symbol-2.new.out is;
    }
