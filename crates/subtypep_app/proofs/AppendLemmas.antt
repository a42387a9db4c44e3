-- A text to which two parts were appended.
use Rattle.std.proofs.Common.{ℕ, ◌≡◌, ◌∙◌, ap, List, ◌++◌, append_assoc}

pub appended_twice : (old middle new first second : List ℕ) → middle ≡ old ++ first → new ≡ middle ++ second → new ≡ old ++ (first ++ second)
appended_twice old middle new first second e f = f ∙ ap (λ t. t ++ second) e ∙ append_assoc old first second
