-- Resolving with a room that falls, step by step, as the code goes.
use Rattle.std.specs.Prelude.{ℕ, zero, suc, ◌-◌, nat_lt, if◌then◌else◌, List, [], ◌∷◌, ◌++◌, Option, Some, None, Result, Ok, Err}
use Rattle.ls_reader.specs.declared.datum.Span.{Span}
use Rattle.ls_reader.specs.declared.datum.Datum.{Datum}
use Rattle.ls_reader.specs.Sizes.{size}
use Rattle.ls_spec.specs.Specifier.{Specifier, all_objects, not_of, array_of, cons_of}
use Rattle.ls_env.specs.Environments.{Environment}
use Rattle.ls_grammar.specs.declared.refusal.RefusalKind.TheVariants as kind
use Rattle.ls_grammar.specs.declared.refusal.Refusal.{Refusal}
use Rattle.ls_grammar.specs.Numbers.{refusal}
use Rattle.ls_grammar.specs.Levels.{Level, refused, known, object, members, all_of, some_of, none_of, pair_of, array_over, expanded}
use Rattle.ls_grammar.specs.Saying.{level, weight_of}
use Rattle.ls_grammar.specs.Denoting.{eql_of, conjunction, disjunction}

-- what was made, with the room that is left
abbrev pub Outcome : Type 0 → Type 0
Outcome X = Result (X × ℕ) Refusal

-- one step after another
abbrev pub next : {X Y : Type 0} → (X → ℕ → Outcome Y) → Outcome X → Outcome Y
next f (Ok x) = f x.0 x.1
next f (Err e) = Err e

-- a visit of some weight, and what is done after it
abbrev pub enter : {X : Type 0} → Span → ℕ → (ℕ → Outcome X) → ℕ → Outcome X
enter at weight f room = if nat_lt room weight then Err (refusal kind.TooManyNodes at) else f (room - weight)

abbrev pub made : {X Y : Type 0} → (X → Y) → X → ℕ → Outcome Y
made f x room = Ok (f x, room)

abbrev pub with_room : {X : Type 0} → Result X Refusal → ℕ → Outcome X
with_room (Ok x) room = Ok (x, room)
with_room (Err e) room = Err e

abbrev pub run_all : (Datum → ℕ → Outcome Specifier) → List Datum → ℕ → Outcome (List Specifier)
run_all f [] room = Ok ([], room)
run_all f (d ∷ ds) room = next (λ s left. next (made (λ (ss : List Specifier). s ∷ ss)) (run_all f ds left)) (f d room)

-- with what was made before in front
abbrev pub behind : List Specifier → Outcome (List Specifier) → Outcome (List Specifier)
behind before r = next (made (λ (ss : List Specifier). before ++ ss)) r

-- an object of MEMBER or EQL
abbrev pub run_object : Datum → ℕ → Outcome Specifier
run_object d room = enter d.span 1 (with_room (eql_of d)) room

-- a part of a CONS, where f runs its datum
abbrev pub run_part : (Datum → ℕ → Outcome Specifier) → Option Datum → ℕ → Outcome Specifier
run_part f None room = Ok (all_objects, room)
run_part f (Some d) room = f d room

-- a CONS: the car, and then the cdr
abbrev pub run_pair : (Datum → ℕ → Outcome Specifier) → Option Datum → Option Datum → ℕ → Outcome Specifier
run_pair f car cdr room = next (λ a left. next (made (cons_of a)) (run_part f cdr left)) (run_part f car room)

-- a level, where f runs the data below it
abbrev pub run_level : (Datum → ℕ → Outcome Specifier) → Level → ℕ → Outcome Specifier
run_level f (refused x) room = Err x
run_level f (known s) room = Ok (s, room)
run_level f (object d) room = run_object d room
run_level f (members ds) room = next (made disjunction) (run_all run_object ds room)
run_level f (all_of ds) room = next (made conjunction) (run_all f ds room)
run_level f (some_of ds) room = next (made disjunction) (run_all f ds room)
run_level f (none_of d) room = next (made not_of) (f d room)
run_level f (pair_of car cdr) room = run_pair f car cdr room
run_level f (array_over d simple dims) room = next (made (λ e. array_of e simple dims)) (f d room)
run_level f (expanded d) room = f d room

-- what is done at a level when the room of its visit is taken: a use takes that of its expansion
abbrev pub run_entered : (Datum → ℕ → Outcome Specifier) → Span → Level → ℕ → Outcome Specifier
run_entered f at (expanded d) room = enter at (size d) (f d) room
run_entered f at l room = run_level f l room

-- a datum, with so many levels left
unfoldable pub outcome : Environment → ℕ → Datum → ℕ → Outcome Specifier
outcome env zero d room = Err (refusal kind.TooDeep d.span)
outcome env (suc left) d room =
    enter d.span (weight_of (level env d)) (run_level (outcome env left) (level env d)) room
