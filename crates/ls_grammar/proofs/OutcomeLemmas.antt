-- The outcome of a datum, one level at a time.
use Rattle.std.proofs.Common.{◌≡◌, ℕ, ◌+◌, ◌-◌, ◌<◌, ◌≤◌, zero, suc, Bool, true, false, List, [], ◌∷◌, ◌++◌, length, get_or, drop, map, Ok, Err, refl, ap, sym, ◌∙◌, arith, add-one, drop-cons, append_assoc}
use Rattle.std.proofs.lemmas.List.{map-append}
use Rattle.std.proofs.lemmas.Bool.Decides.{nat_tests}
use Rattle.std.specs.Prelude.{nat_lt, if◌then◌else◌}
use Rattle.ls_reader.specs.declared.datum.Span.{Span}
use Rattle.ls_reader.specs.declared.datum.Datum.{Datum}
use Rattle.ls_reader.specs.Sizes.{size}
use Rattle.ls_spec.specs.declared.spec.Spec.{Spec}
use Rattle.ls_spec.specs.Specifier.{Specifier}
use Rattle.ls_spec.specs.Meaning.{specifier}
use Rattle.ls_deftype.specs.Templates.{Definition}
use Rattle.ls_deftype.specs.Arguments.{takes}
use Rattle.ls_deftype.specs.Substitution.{substituted}
use Rattle.ls_env.specs.Environments.{Environment}
use Rattle.ls_grammar.specs.declared.refusal.RefusalKind.TheVariants as kind
use Rattle.ls_grammar.specs.Numbers.{refusal}
use Rattle.ls_grammar.specs.Levels.{Level, refused, known, object, members, all_of, some_of, none_of, pair_of, array_over, expanded}
use Rattle.ls_grammar.specs.Saying.{use_of, level, weight_of}
use Rattle.ls_grammar.specs.steps.Running.{Outcome, outcome, enter, next, made, behind, run_all, run_level, run_entered}

-- without a level left
pub outcome_none : (env : Environment) (left : ℕ) (d : Datum) (room : ℕ) → left ≡ 0 → outcome env left d room ≡ Err (refusal kind.TooDeep d.span)
unfolding outcome
outcome_none env zero d room e = refl
outcome_none env (suc left) d room e = absurd (omega arith)

-- with levels left, a datum is a visit of the weight of its level
outcome_some : (env : Environment) (left : ℕ) (d : Datum) (room : ℕ) → (left ≡ 0 → ⊥)
    → outcome env left d room ≡ enter d.span (weight_of (level env d)) (run_level (outcome env (left - 1)) (level env d)) room
unfolding outcome
outcome_some env zero d room e = absurd (e refl)
outcome_some env (suc left) d room e =
    let h : left ≡ suc left - 1 = omega arith in
    ap (λ (k : ℕ). enter d.span (weight_of (level env d)) (run_level (outcome env k) (level env d)) room) h

-- a visit without room
enter_none : {X : Type 0} (at : Span) (weight : ℕ) (K : ℕ → Outcome X) → 0 < weight → enter at weight K 0 ≡ Err (refusal kind.TooManyNodes at)
enter_none at weight K h =
    let over : nat_lt 0 weight ≡ true = grind (arith, nat_tests, h) in
    ap (λ (b : Bool). if b then Err (refusal kind.TooManyNodes at) else K (0 - weight)) over

-- a visit of weight 1 with room
enter_one : {X : Type 0} (at : Span) (room : ℕ) (K : ℕ → Outcome X) → 1 ≤ room → enter at 1 K room ≡ K (room - 1)
enter_one at room K h =
    let within : nat_lt room 1 ≡ false = grind (arith, nat_tests, h) in
    ap (λ (b : Bool). if b then Err (refusal kind.TooManyNodes at) else K (room - 1)) within

-- of a visit with more weight, 1 is taken first
enter_more : {X : Type 0} (at : Span) (more room : ℕ) (K : ℕ → Outcome X) → 1 ≤ room → enter at (more + 1) K room ≡ enter at more K (room - 1)
enter_more at more room K h =
    let test : nat_lt room (more + 1) ≡ nat_lt (room - 1) more = grind (arith, nat_tests, h) in
    let rest : room - (more + 1) ≡ room - 1 - more = omega arith in
    ap (λ (b : Bool). if b then Err (refusal kind.TooManyNodes at) else K (room - (more + 1))) test
    ∙ ap (λ (k : ℕ). if nat_lt (room - 1) more then Err (refusal kind.TooManyNodes at) else K k) rest

-- a visit with room, with 1 taken first
enter_level : (f : Datum → ℕ → Outcome Specifier) (at : Span) (l : Level) (room : ℕ) → 1 ≤ room → enter at (weight_of l) (run_level f l) room ≡ run_entered f at l (room - 1)
enter_level f at (refused x) room h = enter_one at room (run_level f (refused x)) h
enter_level f at (known s) room h = enter_one at room (run_level f (known s)) h
enter_level f at (object d) room h = enter_one at room (run_level f (object d)) h
enter_level f at (members ds) room h = enter_one at room (run_level f (members ds)) h
enter_level f at (all_of ds) room h = enter_one at room (run_level f (all_of ds)) h
enter_level f at (some_of ds) room h = enter_one at room (run_level f (some_of ds)) h
enter_level f at (none_of d) room h = enter_one at room (run_level f (none_of d)) h
enter_level f at (pair_of car cdr) room h = enter_one at room (run_level f (pair_of car cdr)) h
enter_level f at (array_over d simple dims) room h = enter_one at room (run_level f (array_over d simple dims)) h
enter_level f at (expanded d) room h = enter_more at (size d) room (f d) h

-- each level takes some room
weighs : (l : Level) → 0 < weight_of l
weighs (refused x) = omega arith
weighs (known s) = omega arith
weighs (object d) = omega arith
weighs (members ds) = omega arith
weighs (all_of ds) = omega arith
weighs (some_of ds) = omega arith
weighs (none_of d) = omega arith
weighs (pair_of car cdr) = omega arith
weighs (array_over d simple dims) = omega arith
weighs (expanded d) = omega arith

-- a datum without room
pub outcome_full : (env : Environment) (left : ℕ) (d : Datum) (room : ℕ) → (left ≡ 0 → ⊥) → room ≡ 0 → outcome env left d room ≡ Err (refusal kind.TooManyNodes d.span)
outcome_full env left d room deep none =
    ap (outcome env left d) none
    ∙ outcome_some env left d 0 deep
    ∙ enter_none d.span (weight_of (level env d)) (run_level (outcome env (left - 1)) (level env d)) (weighs (level env d))

-- a datum with room, by its level
pub outcome_entered : (env : Environment) (left : ℕ) (d : Datum) (room : ℕ) (l : Level) → (left ≡ 0 → ⊥) → 1 ≤ room → l ≡ level env d
    → outcome env left d room ≡ run_entered (outcome env (left - 1)) d.span l (room - 1)
outcome_entered env left d room l deep some is =
    outcome_some env left d room deep
    ∙ enter_level (outcome env (left - 1)) d.span (level env d) room some
    ∙ ap (λ (m : Level). run_entered (outcome env (left - 1)) d.span m (room - 1)) (sym is)

-- ---- a use of a DEFTYPE

-- the level of a use, by the test of its count of arguments
use_by_count : (f : Datum → ℕ → Outcome Specifier) (at place : Span) (t : Definition) (args : List Datum) (room : ℕ) (b : Bool) → takes t (length args) ≡ b
    → run_entered f at (use_of t place args) room ≡ run_entered f at (if b then expanded (substituted t place args) else refused (refusal kind.ArgumentCount place)) room
use_by_count f at place t args room b e =
    ap (λ (c : Bool). run_entered f at (if c then expanded (substituted t place args) else refused (refusal kind.ArgumentCount place)) room) e

-- a wrong count of arguments
pub use_miscounted : (f : Datum → ℕ → Outcome Specifier) (at place : Span) (t : Definition) (args : List Datum) (room : ℕ) → takes t (length args) ≡ false
    → run_entered f at (use_of t place args) room ≡ Err (refusal kind.ArgumentCount place)
use_miscounted f at place t args room e = use_by_count f at place t args room false e

-- an expansion with more data than the room
pub use_over : (f : Datum → ℕ → Outcome Specifier) (at place : Span) (t : Definition) (args : List Datum) (room : ℕ) → takes t (length args) ≡ true → room < size (substituted t place args)
    → run_entered f at (use_of t place args) room ≡ Err (refusal kind.TooManyNodes at)
use_over f at place t args room e h =
    let expansion = substituted t place args in
    let over : nat_lt room (size expansion) ≡ true = grind (arith, nat_tests, h) in
    use_by_count f at place t args room true e
    ∙ ap (λ (b : Bool). if b then Err (refusal kind.TooManyNodes at) else f expansion (room - size expansion)) over

-- ---- along a list

-- what was made before and one more, in front of the rest
behind_next : (before : List Specifier) (x : Specifier) (r : Outcome (List Specifier)) → behind before (next (made (λ (ss : List Specifier). x ∷ ss)) r) ≡ behind (before ++ x ∷ []) r
behind_next before x (Ok y) = ap (λ (ss : List Specifier). Ok (ss, y.1)) (sym (append_assoc before (x ∷ []) y.0))
behind_next before x (Err e) = refl

-- the outcome of a list from an index on, where its first datum has this specifier
run_drop : (f : Datum → ℕ → Outcome Specifier) (ds : List Datum) (i : ℕ) (d : Datum) (room left : ℕ) (x : Specifier) → i < length ds → d ≡ get_or ds i d → f d room ≡ Ok (x, left)
    → run_all f (drop i ds) room ≡ next (made (λ (ss : List Specifier). x ∷ ss)) (run_all f (drop (i + 1) ds) left)
run_drop f ds i d room left x h is step =
    let front : drop i ds ≡ get_or ds i d ∷ drop (i + 1) ds = rw add-one (drop-cons ds i d h) in
    let rest = drop (i + 1) ds in
    let after : Specifier → ℕ → Outcome (List Specifier) = λ s k. next (made (λ (ss : List Specifier). s ∷ ss)) (run_all f rest k) in
    ap (λ es. run_all f es room) front ∙ ap (λ e. next after (f e room)) (sym is) ∙ ap (next after) step

-- the outcome of a list, with one more specifier made
pub run_push : (f : Datum → ℕ → Outcome Specifier) (ds : List Datum) (i : ℕ) (d : Datum) (room left : ℕ) (old new : List Spec) (s : Spec) (whole : Outcome (List Specifier))
    → i < length ds → d ≡ get_or ds i d → f d room ≡ Ok (specifier s, left) → new ≡ old ++ s ∷ []
    → whole ≡ behind (map specifier old) (run_all f (drop i ds) room) → whole ≡ behind (map specifier new) (run_all f (drop (i + 1) ds) left)
run_push f ds i d room left old new s whole h is step pushed so_far =
    let rest = run_all f (drop (i + 1) ds) left in
    let all : map specifier new ≡ map specifier old ++ specifier s ∷ [] = ap (map specifier) pushed ∙ map-append specifier old (s ∷ []) in
    so_far
    ∙ ap (behind (map specifier old)) (run_drop f ds i d room left (specifier s) h is step)
    ∙ behind_next (map specifier old) (specifier s) rest
    ∙ ap (λ (before : List Specifier). behind before rest) (sym all)
