-- The characters of texts.
use Rattle.std.proofs.Common.{◌≡◌, ℕ, ◌&&◌, Bool, true, false, List, [], ◌∷◌, refl, subst}
use Rattle.std.specs.Char.{IsScalar}
use Rattle.std.specs.List.{AllByRecursion}
use Rattle.std.specs.Str.{chars, IsUtf8}
use Rattle.std.proofs.lemmas.Str.{scalars-chars}
use Rattle.std.proofs.Math.Utf8.{scalar, scalars}

both_true : (a b : Bool) → (a && b) ≡ true → (a ≡ true) × (b ≡ true)
both_true true b h = (refl, h)
both_true false b h = cc

all_scalars : (cs : List ℕ) → scalars cs ≡ true → AllByRecursion IsScalar cs
all_scalars [] h = tt
all_scalars (c ∷ cs) h = let both = both_true (scalar c) (scalars cs) h in (both.0, all_scalars cs both.1)

-- the characters of a text are Unicode scalar values
pub scalar_chars : (bs cs : List ℕ) → IsUtf8 bs → chars bs ≡ cs → AllByRecursion IsScalar cs
scalar_chars bs cs u e = subst (AllByRecursion IsScalar) e (all_scalars (chars bs) (scalars-chars bs u))
