-- What is visited in a datum, in order, and the first thing that is wrong.
use Rattle.std.specs.Prelude.{ℕ, zero, suc, ◌≡◌, ◌+◌, ◌-◌, ◌⊎◌, nat_lt, if◌then◌else◌, List, [], ◌∷◌, ◌++◌, Option, Some, None}
use Rattle.std.specs.Prelude.{Result, Ok, Err}
use Rattle.std.specs.List.{flat_map}
use Rattle.ls_reader.specs.declared.datum.Span.{Span}
use Rattle.ls_reader.specs.declared.datum.Datum.{Datum}
use Rattle.ls_spec.specs.declared.spec.Spec.{Spec}
use Rattle.ls_spec.specs.Specifier.{Specifier}
use Rattle.ls_spec.specs.Meaning.{specifier}
use Rattle.ls_env.specs.Environments.{Environment}
use Rattle.ls_grammar.specs.declared.refusal.RefusalKind.TheVariants as kind
use Rattle.ls_grammar.specs.declared.refusal.Refusal.{Refusal}
use Rattle.ls_grammar.specs.declared.refusal.Stop.{Stop}
use Rattle.ls_grammar.specs.declared.refusal.Stop.TheVariants as stop
use Rattle.ls_grammar.specs.Numbers.{refusal}
use Rattle.ls_grammar.specs.Levels.{Level, refused, known, object, members, all_of, some_of, none_of, pair_of, array_over, expanded}
use Rattle.ls_grammar.specs.Saying.{level, weight_of}
use Rattle.ls_grammar.specs.Denoting.{eql_of, Denotes}

-- ---- the limits

-- how deep a specifier may be nested
abbrev pub deepest : ℕ
deepest = 256

-- how many specifiers and objects of MEMBER and EQL there may be in a specifier
abbrev pub largest : ℕ
largest = 262144

-- ---- visits

-- a visit of a specifier, or of an object of MEMBER or EQL
pub record Visit : Type 0 where
  pub place : Span
  pub depth : ℕ
  -- the room that it takes
  pub weight : ℕ
  -- the first thing that is wrong with the datum by itself
  pub line : Option Refusal

abbrev pub line_of : Level → Option Refusal
line_of (refused x) = Some x
line_of _ = None

abbrev pub error_of : Result Specifier Refusal → Option Refusal
error_of (Ok s) = None
error_of (Err x) = Some x

abbrev pub object_visit : ℕ → Datum → Visit
object_visit depth d = record { place = d.span; depth = depth; weight = 1; line = error_of (eql_of d) }

-- what is visited of a part of a CONS
abbrev pub part_visits : (Datum → List Visit) → Option Datum → List Visit
part_visits visits_of None = []
part_visits visits_of (Some d) = visits_of d

-- what is visited below one level: the objects of MEMBER and EQL at its own depth, and the parts of specifiers and
-- the expansions of uses by `visits_of`
abbrev pub below : (Datum → List Visit) → ℕ → Level → List Visit
below visits_of depth (refused x) = []
below visits_of depth (known s) = []
below visits_of depth (object d) = object_visit depth d ∷ []
below visits_of depth (members ds) = flat_map (λ d. object_visit depth d ∷ []) ds
below visits_of depth (all_of ds) = flat_map visits_of ds
below visits_of depth (some_of ds) = flat_map visits_of ds
below visits_of depth (none_of d) = visits_of d
below visits_of depth (pair_of car cdr) = part_visits visits_of car ++ part_visits visits_of cdr
below visits_of depth (array_over d simple dims) = visits_of d
below visits_of depth (expanded d) = visits_of d

-- The visits of a datum at a depth, first its own, then those of its arguments from left to right. `left` levels are
-- left; a datum past the last of them is not looked at.
unfoldable pub visits : Environment → ℕ → ℕ → Datum → List Visit
visits env zero depth d = record { place = d.span; depth = depth; weight = 1; line = None } ∷ []
visits env (suc left) depth d =
    record { place = d.span; depth = depth; weight = weight_of (level env d); line = line_of (level env d) }
    ∷ below (visits env left (depth + 1)) depth (level env d)

-- the first thing that is wrong at a visit, with so much room left
abbrev pub refused_at : Visit → ℕ → Option Refusal
refused_at v room =
    if nat_lt deepest v.depth then Some (refusal kind.TooDeep v.place)
    else (if nat_lt room v.weight then Some (refusal kind.TooManyNodes v.place) else v.line)

-- the earlier of two refusals
abbrev pub earlier : Option Refusal → Option Refusal → Option Refusal
earlier None r = r
earlier (Some x) r = Some x

-- the first thing that is wrong along the visits; each takes its weight from the room
abbrev pub first : List Visit → ℕ → Option Refusal
first [] room = None
first (v ∷ vs) room = earlier (refused_at v room) (first vs (room - v.weight))

-- the first thing that is wrong with a datum as a specifier
abbrev pub refusal_of : Environment → Datum → Option Refusal
refusal_of env d = first (visits env deepest 1 d) largest

-- the datum resolves to the specifier: it denotes it, and nothing is wrong
pub record Resolves (env : Environment) (d : Datum) (s : Specifier) : Type 0 where
  pub unrefused : refusal_of env d ≡ None
  pub denotes : Denotes env d s

-- The datum resolves to a specifier, or it has a refusal: nothing falls between.
abbrev pub ResolvesOrIsRefused : Environment → Datum → Type 0
ResolvesOrIsRefused env d =
    ((s : Specifier) × Resolves env d s) ⊎ ((x : Refusal) × (refusal_of env d ≡ Some x))

-- ---- answers

-- the reason is the first thing that is wrong, or want of memory
abbrev pub IsReason : Environment → Datum → Stop → Type 0
IsReason env d stop.Memory = Unit {0}
IsReason env d (stop.Refused x) = refusal_of env d ≡ Some x

-- the answer is this specifier, or want of memory
abbrev pub AnswersWith : Specifier → Result Spec Stop → Type 0
AnswersWith s (Ok t) = specifier t ≡ s
AnswersWith s (Err stop.Memory) = Unit {0}
AnswersWith s (Err (stop.Refused x)) = ⊥

-- the answer is this refusal, or want of memory
abbrev pub RefusesWith : Refusal → Result Spec Stop → Type 0
RefusesWith x (Ok t) = ⊥
RefusesWith x (Err stop.Memory) = Unit {0}
RefusesWith x (Err (stop.Refused y)) = y ≡ x
