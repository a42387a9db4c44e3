use Rattle.std.proofs.Common.{◌≡◌, ℕ, List, [], ◌∷◌, ◌++◌, sym, subst, ap, ◌∙◌, append-nil, append_assoc}
use Rattle.std.specs.List.{flat_map}
use Rattle.std.specs.Str.{chars}
use Rattle.std.proofs.lemmas.List.{flat_map_more, nil_from_length}
use Rattle.std.proofs.lemmas.Grind.{flat_map-append}
use Rattle.std.proofs.lemmas.Str.{chars_past_char, chars-nil, IsUtf8-past_char}
use Rattle.ls_object.specs.ObjectText.{escaped}
use Rattle.ls_object.specs.Writing.{AddsFrontOf}
use Rattle.ls_object.proofs.WritingLemmas.{adds_first, adds_after, on_err}
use Rattle.ls_object.proofs.write.symbols.write_escaped.Goals as goal

-- a failed write of one character is a failed write of the whole
adds_char : (old out new seen left whole : List ℕ) (c : ℕ) → out ≡ old ++ flat_map escaped seen → whole ≡ seen ++ c ∷ left → AddsFrontOf (escaped c) out new → AddsFrontOf (flat_map escaped whole) old new
adds_char old out new seen left whole c e w h =
    subst (λ t. AddsFrontOf t old new) (sym (ap (flat_map escaped) w ∙ flat_map-append escaped seen (c ∷ left)))
    (adds_after (flat_map escaped seen) (escaped c ++ flat_map escaped left) old out new e (adds_first (escaped c) (flat_map escaped left) out new h))

pub loop-c-preserved : goal.loop-c-preserved
loop-c-preserved c =
    let rest = c.loop-c.c-iterator.rest.now in
    let later = c.next.new.self.rest.now in
    let i = c.loop-c.invariant in
    let step = c.in-Some.ensures.steps.0 in
    record {
      written = c.in_ok-write_escaped_char.ensures.ok ∙ ap (λ t. t ++ escaped c.in-Some.c) i.written ∙ flat_map_more escaped c.args.out.now c.loop-c.yielded c.in-Some.c;
      left = i.left ∙ ap (λ t. c.loop-c.yielded ++ t) (chars_past_char rest later c.in-Some.c i.utf8 step) ∙ sym (append_assoc c.loop-c.yielded (c.in-Some.c ∷ []) (chars later));
      utf8 = IsUtf8-past_char rest later c.in-Some.c i.utf8 step;
    }

pub returns-in_err-write_escaped_char-clause-err : goal.returns-in_err-write_escaped_char-clause-err
returns-in_err-write_escaped_char-clause-err c =
    let rest = c.loop-c.c-iterator.rest.now in
    let later = c.next.new.self.rest.now in
    let i = c.loop-c.invariant in
    let whole = i.left ∙ ap (λ t. c.loop-c.yielded ++ t) (chars_past_char rest later c.in-Some.c i.utf8 c.in-Some.ensures.steps.0) in
    on_err c.from_residual.result _ (adds_char c.args.out.now c.loop-c.out _ c.loop-c.yielded (chars later) (chars c.args.name.now) c.in-Some.c i.written whole c.in_err-write_escaped_char.ensures.err)

pub returns-clause-ok : goal.returns-clause-ok
returns-clause-ok c =
    let i = c.loop-c.invariant in
    let whole = i.left ∙ ap (λ t. c.loop-c.yielded ++ t) (ap chars (nil_from_length c.loop-c.c-iterator.rest.now c.in-None.ensures.steps.0.0) ∙ chars-nil) ∙ append-nil c.loop-c.yielded in
    i.written ∙ ap (λ t. c.args.out.now ++ flat_map escaped t) (sym whole)
