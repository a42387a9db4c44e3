-- A specifier as plain data, for the values that contracts see.
use Rattle.std.specs.Prelude.{◌≡◌}
use Rattle.std.specs.Coded.{Coded, coded_ℕ, coded_list}
use Rattle.ls_spec.specs.Specifier.{Specifier}
use Rattle.ls_spec.specs.Keys.{key}
use Rattle.ls_spec.proofs.KeyLemmas.{key_told}
use Rattle.std.proofs.Common.{append-nil, ◌∙◌, sym, []}

pub same_specifier : (s t : Specifier) → (coded_list coded_ℕ).code (key s) ≡ (coded_list coded_ℕ).code (key t) → s ≡ t
same_specifier s t e = (key_told s t [] [] (append-nil (key s) ∙ (coded_list coded_ℕ).inj (key s) (key t) e ∙ sym (append-nil (key t)))).0

-- by its key
abbrev pub coded_specifier : Coded Specifier
coded_specifier = record { code = λ s. (coded_list coded_ℕ).code (key s); inj = same_specifier }
