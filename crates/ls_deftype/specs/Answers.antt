-- What the calls answer.
use Rattle.std.specs.Prelude.{ℕ, ◌≡◌, ◌<◌, ◌≤◌, true, false, List, length, Result, Err}
use Rattle.ls_reader.specs.declared.datum.Span.{Span}
use Rattle.ls_reader.specs.declared.datum.Datum.{Datum}
use Rattle.ls_reader.specs.Sizes.{size}
use Rattle.ls_deftype.specs.declared.fault.TemplateFault.{TemplateFault}
use Rattle.ls_deftype.specs.declared.fault.TemplateFault.TheVariants as fault
use Rattle.ls_deftype.specs.declared.fault.SubstituteFault.{SubstituteFault}
use Rattle.ls_deftype.specs.declared.fault.SubstituteFault.TheVariants as refusal
use Rattle.ls_deftype.specs.Templates.{Definition, template_of}
use Rattle.ls_deftype.specs.Arguments.{takes}
use Rattle.ls_deftype.specs.Substitution.{substituted}

-- the fault is this one, or want of memory
abbrev pub IsFault : Result Definition TemplateFault → TemplateFault → Type 0
IsFault r fault.CodeBody = r ≡ Err fault.CodeBody
IsFault r fault.BadLambdaList = r ≡ Err fault.BadLambdaList
IsFault r fault.Memory = Unit {0}

-- the fault is what is wrong with the form, or want of memory
abbrev pub IsFaultOf : Datum → TemplateFault → Type 0
IsFaultOf d e = IsFault (template_of d) e

-- the template takes the arguments, and the datum is the template with them put in, within the room
pub record IsExpansion (t : Definition) (at : Span) (args : List Datum) (room : ℕ) (d : Datum) : Type 0 where
  pub taken : takes t (length args) ≡ true
  pub is : d ≡ substituted t at args
  pub within : size d ≤ room

-- why there is no expansion: a wrong count of arguments, or a size past the room, or want of memory
abbrev pub IsRefusalOf : Definition → Span → List Datum → ℕ → SubstituteFault → Type 0
IsRefusalOf t at args room refusal.ArgumentCount = takes t (length args) ≡ false
IsRefusalOf t at args room refusal.TooManyNodes =
    (takes t (length args) ≡ true) × (room < size (substituted t at args))
IsRefusalOf t at args room refusal.Memory = Unit {0}
