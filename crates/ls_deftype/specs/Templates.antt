-- What a DEFTYPE form says: a template (DEFTYPE).
use Rattle.std.specs.Prelude.{List, ◌∷◌, Option, Some, None, Result, Ok, Err, if◌then◌else◌}
use Rattle.ls_object.specs.declared.symbol.Symbol.{Symbol}
use Rattle.ls_reader.specs.declared.datum.Datum.{Datum}
use Rattle.ls_reader.specs.declared.datum.Form.{Form, out-Form}
use Rattle.ls_reader.specs.declared.datum.Form.TheOpen.{Form-F}
use Rattle.ls_deftype.specs.declared.lambda.OptionalParam.{OptionalParam}
use Rattle.ls_deftype.specs.declared.lambda.Parameters.{Parameters}
use Rattle.ls_deftype.specs.declared.fault.TemplateFault.{TemplateFault}
use Rattle.ls_deftype.specs.declared.fault.TemplateFault.TheVariants as fault
use Rattle.ls_deftype.specs.declared.template.Template.{Template}
use Rattle.ls_deftype.specs.Bodies.{Body, sole_body}
use Rattle.ls_deftype.specs.LambdaLists.{all_names, parameters_of}
use Rattle.ls_deftype.specs.Marks.{is_sound}

-- the parameters, in their order, and the body into which arguments are put
pub record Definition : Type 0 where
  pub required : List Symbol
  pub optional : List OptionalParam
  pub rest : Option Symbol
  pub body : Datum

-- what a template of the code says
abbrev pub definition_of : Template → Definition
definition_of t = record { required = t.required; optional = t.optional; rest = t.rest; body = t.body }

abbrev pub defined : Body → Parameters → Definition
defined b p = record { required = p.required; optional = p.optional; rest = p.rest; body = b.datum }

-- thirdly, the commas of the body
abbrev pub with_parameters : Body → Option Parameters → Result Definition TemplateFault
with_parameters b None = Err fault.BadLambdaList
with_parameters b (Some p) =
    if is_sound
    (record { backquoted = b.backquoted; names = all_names p.required p.optional p.rest; rest = p.rest })
    b.datum
    then Ok (defined b p) else Err fault.CodeBody

-- secondly, the lambda list
abbrev pub with_body : Datum → Option Body → Result Definition TemplateFault
with_body lambda None = Err fault.CodeBody
with_body lambda (Some b) = with_parameters b (parameters_of lambda)

-- first, the one body form; the items are `deftype`, a name, a lambda list and forms
abbrev pub template_in : List Datum → Result Definition TemplateFault
template_in (head ∷ name ∷ lambda ∷ forms) = with_body lambda (sole_body forms)
template_in _ = Err fault.CodeBody

abbrev pub template_form : Form-F Form Datum → Result Definition TemplateFault
template_form (Form-F.List items) = template_in items
template_form _ = Err fault.CodeBody

-- what a DEFTYPE form says, or the first thing that is wrong with it
abbrev pub template_of : Datum → Result Definition TemplateFault
template_of d = template_form (out-Form d.form)
