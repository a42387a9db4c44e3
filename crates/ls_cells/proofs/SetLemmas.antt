-- A value that is made to be another by negating it where it differs.
use Rattle.std.proofs.Common.{ℕ, ◌≡◌, ◌∙◌, refl, ap, sym, Bool, true, false, not, List, set}
use Rattle.std.specs.Bool.{beq}
use Rattle.std.proofs.lemmas.List.{set-get_or}
use Rattle.ls_cells.specs.Signs.{at}

-- where it differs
pub set_flipped : (bs : List Bool) (i : ℕ) (x v : Bool) → x ≡ at bs i → not (beq x v) ≡ true → set bs i (not (at bs i)) ≡ set bs i v
set_flipped bs i x v e t = ap (set bs i) (ap not (sym e) ∙ other x v t)
  where
    other : (x v : Bool) → not (beq x v) ≡ true → not x ≡ v
    other true true t = absurd cc
    other true false t = refl
    other false true t = refl
    other false false t = absurd cc

-- and where it is that
pub set_kept : (bs : List Bool) (i : ℕ) (x v : Bool) → x ≡ at bs i → not (beq x v) ≡ false → bs ≡ set bs i v
set_kept bs i x v e t = sym (ap (set bs i) (sym (same x v t) ∙ e) ∙ set-get_or bs i false)
  where
    same : (x v : Bool) → not (beq x v) ≡ false → x ≡ v
    same true true t = refl
    same true false t = absurd cc
    same false true t = absurd cc
    same false false t = refl
