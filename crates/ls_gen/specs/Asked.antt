-- What a query of the generated text asks.
use Rattle.std.specs.Prelude.{◌≡◌, [], ◌∷◌, Some, None}
use Rattle.ls_reader.specs.declared.datum.Datum.{Datum}
use Rattle.ls_reader.specs.declared.datum.Form.{out-Form}
use Rattle.ls_reader.specs.declared.datum.Form.TheOpen.{Form-F}
use Rattle.ls_env.specs.declared.query.Query.{Query}
use Rattle.ls_env.specs.declared.query.QueryKind.TheVariants as query_kind
use Rattle.ls_env.specs.Arguments.{value_of}
use Rattle.ls_env.specs.Environments.{Environment}
use Rattle.ls_grammar.specs.Visiting.{refusal_of}

-- The query is a SUBTYPEP of two quoted types, each of which resolves.
pub record Compares (env : Environment) (query : Query) : Type 0 where
  pub kind : query.kind ≡ query_kind.Subtypep
  pub operator : Datum
  pub first_argument : Datum
  pub second_argument : Datum
  pub form : out-Form query.form.form ≡ Form-F.List (operator ∷ first_argument ∷ second_argument ∷ [])
  -- the types that the arguments quote
  pub first : Datum
  pub first_is : value_of first_argument ≡ Some first
  pub second : Datum
  pub second_is : value_of second_argument ≡ Some second
  -- nothing is wrong with either
  pub first_unrefused : refusal_of env first ≡ None
  pub second_unrefused : refusal_of env second ≡ None
