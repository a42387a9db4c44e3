-- Dimensions along a list of data.
use Rattle.std.proofs.Common.{ℕ, Option, List, ◌++◌, Result, Ok, Err}
use Rattle.ls_grammar.specs.declared.refusal.Refusal.{Refusal}

-- with what was read before in front
abbrev pub behind : List (Option ℕ) → Result (List (Option ℕ)) Refusal → Result (List (Option ℕ)) Refusal
behind before (Ok ps) = Ok (before ++ ps)
behind before (Err x) = Err x
