use Rattle.std.proofs.Common.{◌≡◌, ◌<◌, ℕ, List, ◌∷◌, ◌++◌, length, take, drop, get_or, suc, sym, subst, ap, ◌∙◌, arith}
use Rattle.std.specs.List.{flat_map}
use Rattle.std.proofs.Math.Seq.{drop-cons}
use Rattle.std.proofs.lemmas.List.{take-append-drop}
use Rattle.std.proofs.lemmas.Grind.{flat_map-append}
use Rattle.ls_object.specs.Writing.{after_space, AddsFrontOf}
use Rattle.ls_object.proofs.WritingLemmas.{on_err, adds_first, adds_after}
use Rattle.ls_object.proofs.write.arrays.write_each_after_space.Goals as goal

-- the numbers are those before one, it, and those behind it
split : (ns : List ℕ) (i : ℕ) → i < length ns → ns ≡ take i ns ++ get_or ns i 0 ∷ drop (suc i) ns
split ns i h = sym (take-append-drop i ns) ∙ ap (λ t. take i ns ++ t) (drop-cons ns i 0 h)

-- a failed write of one number is a failed write of the whole
adds_number : (old out new ns : List ℕ) (i : ℕ) → i < length ns → out ≡ old ++ flat_map after_space (take i ns) → AddsFrontOf (after_space (get_or ns i 0)) out new → AddsFrontOf (flat_map after_space ns) old new
adds_number old out new ns i within e h =
    let n = get_or ns i 0 in
    let later = flat_map after_space (drop (suc i) ns) in
    subst (λ t. AddsFrontOf t old new) (sym (ap (flat_map after_space) (split ns i within) ∙ flat_map-append after_space (take i ns) (n ∷ drop (suc i) ns)))
    (adds_after (flat_map after_space (take i ns)) (after_space n ++ later) old out new e (adds_first (after_space n) later out new h))

pub returns-in_err-write_after_space-clause-err : goal.returns-in_err-write_after_space-clause-err
returns-in_err-write_after_space-clause-err c =
    on_err c.from_residual.result _
    (adds_number c.args.out.now c.loop-n.out c.write_after_space.new.out c.args.numbers.now c.loop-n.n-index (omega arith) c.loop-n.invariant c.in_err-write_after_space.ensures.err)
