use Rattle.std.proofs.Common.{ℕ, zero, suc, ◌≡◌, ◌-◌, ◌/◌, ◌%◌, List, [], ◌∷◌, refl}
use native.Mathlib.Numerals.{unary_clauses}
use Rattle.ls_object.specs.ObjectText.{hexadecimal, hexadecimal_digit}
use Rattle.ls_object.specs.Writing.{AddsFrontOf}
use Rattle.ls_object.proofs.WritingLemmas.{on_err, adds_first}
use Rattle.ls_object.proofs.write.characters.+write_hexadecimal.Goals as goal

-- a failed write of all digits but the last is a failed write of the whole
adds_digits : (count n : ℕ) (old new : List ℕ) → (count ≡ 0 → ⊥) → AddsFrontOf (hexadecimal (count - 1) (n / 16)) old new → AddsFrontOf (hexadecimal count n) old new
adds_digits zero n old new positive h = absurd (positive refl)
adds_digits (suc count) n old new positive h = adds_first (hexadecimal count (n / 16)) (hexadecimal_digit (n % 16) ∷ []) old new (simp unary_clauses at h)

pub returns-in_err-write_hexadecimal-clause-err : goal.returns-in_err-write_hexadecimal-clause-err
returns-in_err-write_hexadecimal-clause-err t c =
    on_err c.from_residual.result _
    (adds_digits c.args.count c.args.n c.args.out.now c.write_hexadecimal.new.out c.if-count-eq0.false c.in_err-write_hexadecimal.ensures.err)
