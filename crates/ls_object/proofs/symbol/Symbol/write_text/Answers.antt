use Rattle.std.proofs.Common.{◌≡◌, ◌++◌, false, codes, refl, sym, subst, ◌∙◌, OnOk}
use Rattle.ls_object.specs.declared.symbol.Symbol.{Symbol}
use Rattle.ls_object.specs.ObjectText.{symbol_text, qualified_text, is_text}
use Rattle.ls_object.proofs.symbol.Symbol.write_text.Goals as goal

-- the text of a symbol of a package with no short form
qualified : (s : Symbol) → is_text s.package (codes "COMMON-LISP") ≡ false → is_text s.package (codes "KEYWORD") ≡ false → symbol_text s ≡ qualified_text s.package s.name
qualified s e f = rw (e, f) refl

pub returns-clause-ok : goal.returns-clause-ok
returns-clause-ok c =
    let e = qualified c.args.self.now (sym c.is_ascii_text.ensures ∙ c.if-is_ascii_text.false) (sym c.is_ascii_text-2.ensures ∙ c.if-is_ascii_text-2.false) in
    subst (λ t. OnOk c.write_qualified.result (c.write_qualified.new.out ≡ c.args.out.now ++ t)) (sym e) c.write_qualified.ensures.ok
