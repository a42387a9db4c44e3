-- What the code's answers stand for.
use Rattle.std.specs.Prelude.{ℕ, ◌≡◌, IsTrue, Option, Some, None, Result, Ok, Err}
use Rattle.ls_reader.specs.declared.datum.Span.{Span}
use Rattle.ls_reader.specs.declared.datum.Datum.{Datum}
use Rattle.ls_grammar.specs.declared.refusal.RefusalKind.{RefusalKind}
use Rattle.ls_grammar.specs.Numbers.{refusal}
use Rattle.ls_tables.specs.Builtins.{stands_alone}
use Rattle.ls_spec.specs.declared.spec.DimPattern.{DimPattern}
use Rattle.ls_spec.specs.declared.spec.DimPattern.TheVariants as dimensions
use Rattle.ls_spec.specs.Specifier.{structure_under, satisfies}
use Rattle.ls_spec.specs.Meaning.{specifier}
use Rattle.ls_spec.specs.Builtins.{expansion}
use Rattle.ls_grammar.specs.declared.refusal.Refusal.{Refusal}
use Rattle.ls_grammar.specs.declared.refusal.Stop.{Stop}
use Rattle.ls_grammar.specs.declared.refusal.Stop.TheVariants as stop
use Rattle.ls_grammar.specs.declared.array.Dims as code_dims
use Rattle.ls_grammar.specs.declared.array.Dims.TheVariants as dims
use Rattle.ls_grammar.specs.declared.level.Level as code
use Rattle.ls_grammar.specs.declared.level.Part as code_part
use Rattle.ls_grammar.specs.declared.level.Part.TheVariants as part
use Rattle.ls_grammar.specs.declared.level.Level.TheVariants as variant
use Rattle.ls_grammar.specs.Levels.{Level, refused, known, object, members, all_of, some_of, none_of, pair_of}
use Rattle.ls_deftype.specs.Templates.{definition_of}
use Rattle.ls_grammar.specs.Saying.{use_of}
use Rattle.ls_grammar.specs.Dimensions.{dimensions_of, one_place}
use Rattle.ls_grammar.specs.ArrayLevels.{arrays, vectors_over}
use Rattle.ls_grammar.specs.steps.Running.{Outcome}

-- the datum of a part of a CONS, or of an element type
abbrev pub lent : code_part.Part → Option Datum
lent part.Any = None
lent (part.Of d) = Some d.now

-- what is asked of the dimensions, or what is wrong with the argument
abbrev pub wanted : code_dims.Dims → Result DimPattern Refusal
wanted dims.Any = Ok dimensions.Any
wanted (dims.One p) = Ok (one_place p)
wanted (dims.Of d) = dimensions_of d.now

-- the level that one of the code stands for
abbrev pub shown : code.Level → Level
shown (variant.Refused x) = refused x
shown (variant.Known s) = known (specifier s)
shown (variant.Named b) = known (expansion b)
shown (variant.Structure s) = known (structure_under s.now)
shown (variant.Predicate p) = known (satisfies p.now)
shown (variant.Object d) = object d.now
shown (variant.Members ds) = members ds.now
shown (variant.AllOf ds) = all_of ds.now
shown (variant.SomeOf ds) = some_of ds.now
shown (variant.NoneOf d) = none_of d.now
shown (variant.ConsOf car cdr) = pair_of (lent car) (lent cdr)
shown (variant.ArrayOf e simple d) = arrays (lent e) simple (wanted d)
shown (variant.VectorsOver b simple n) = known (vectors_over b simple n)
shown (variant.Use t at args) = use_of (definition_of t.now) at args.now

-- a name that is shown, also as an element type, has a meaning as an atom
abbrev pub IsExpandable : code.Level → Type 0
IsExpandable (variant.Named b) = IsTrue (stands_alone b)
IsExpandable (variant.VectorsOver b simple n) = IsTrue (stands_alone b)
IsExpandable _ = Unit {0}

-- why a step stopped is why the outcome is none, unless memory was wanting
abbrev pub StopsAs : {Y : Type 0} → Result Y Refusal → Stop → Type 0
StopsAs r stop.Memory = Unit {0}
StopsAs r (stop.Refused x) = r ≡ Err x

-- what a step answered, as what it stands for, and the room that it left are the outcome, unless memory was wanting
abbrev pub Steps : {X Y : Type 0} → (X → Y) → Result X Stop → ℕ → Outcome Y → Type 0
Steps view (Ok x) room r = r ≡ Ok (view x, room)
Steps view (Err e) room r = StopsAs r e

-- the same of a step that takes no room
abbrev pub Gives : {X Y : Type 0} → (X → Y) → Result X Stop → Result Y Refusal → Type 0
Gives view (Ok x) r = r ≡ Ok (view x)
Gives view (Err e) r = StopsAs r e

abbrev pub stopped : RefusalKind → Span → Stop
stopped k at = stop.Refused (refusal k at)

-- what was answered, as it is
abbrev pub kept : {X : Type 0} → X → X
kept x = x
