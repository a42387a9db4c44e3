-- The object that a datum writes out: what evaluates to itself (3.1.2.1.3), or quoted data (QUOTE, 2.4). None of them
-- has marks.
use Rattle.std.specs.Prelude.{ℕ, ◌≡◌, ◌+◌, ◌^◌, ◌⊎◌, max, nat_le, nat_lt, if◌then◌else◌, true, codes, List, [], ◌∷◌, length, Option, Some, None, Result, Ok, Err}
use Rattle.ls_object.specs.declared.kind.Kind.{Kind}
use Rattle.ls_object.specs.declared.kind.Kind.TheVariants.{SingleFloat, DoubleFloat}
use Rattle.ls_object.specs.declared.object.Object.{Object}
use Rattle.ls_object.specs.declared.rat.Rat.{Rat}
use Rattle.ls_object.specs.declared.table.TheConstants.{BIT_PLACE, CHARACTER_PLACE, T_PLACE}
use Rattle.ls_object.specs.Universe.{LispObject, node, LispShape, number, character, symbol, pair, array, opaque}
use Rattle.ls_object.specs.Symbols.{common_lisp_symbol, nil_symbol}
use Rattle.ls_object.specs.Meaning.{lisp_object}
use Rattle.ls_reader.specs.declared.datum.Span.{Span}
use Rattle.ls_reader.specs.declared.datum.FloatFormat.{FloatFormat}
use Rattle.ls_reader.specs.declared.datum.FloatFormat.TheVariants as format
use Rattle.ls_reader.specs.declared.datum.Datum.{Datum, fold-Datum}
use Rattle.ls_reader.specs.declared.datum.Form.{Form, out-Form}
use Rattle.ls_reader.specs.declared.datum.Form.TheOpen.{Form-F, Datum-F}
use Rattle.ls_env.specs.Arguments.{value_of_form}
use Rattle.ls_grammar.specs.declared.literal.ObjectRefusal.{ObjectRefusal}
use Rattle.ls_grammar.specs.declared.literal.ObjectRefusal.TheVariants as refusal
use Rattle.ls_grammar.specs.Numbers.{written}

-- what is wrong with a datum as an object, and where
pub data Fault : Type 0 where
  -- nothing that is quoted or evaluates to itself, or no object within quoted data
  no_literal : Span → Fault
  -- a number past the limits, or too many elements
  too_wide : Span → Fault
  -- conses nested too deeply
  too_deep : Span → Fault

-- the object, or the first thing that is wrong
abbrev pub Value : Type 0
Value = Result LispObject Fault

-- ---- objects

abbrev pub unmarked : LispShape → LispObject
unmarked shape = node [] shape

-- the empty list
abbrev pub nil : LispObject
nil = unmarked (symbol nil_symbol)

abbrev pub number_value : Span → Option Rat → Value
number_value at None = Err (too_wide at)
number_value at (Some r) = Ok (unmarked (number r.num r.den))

abbrev pub float_kind : FloatFormat → Kind
float_kind format.Single = SingleFloat
float_kind format.Double = DoubleFloat

-- a simple vector with an element code and so many elements, fewer than 2^62
abbrev pub vector_value : Span → ℕ → ℕ → Value
vector_value at code n = if nat_lt n (2 ^ 62) then Ok (unmarked (array code true (n ∷ []))) else Err (too_wide at)

-- ---- conses

abbrev pub cons_value : Value → Value → Value
cons_value (Err x) cdr = Err x
cons_value (Ok car) (Err x) = Err x
cons_value (Ok car) (Ok cdr) = Ok (unmarked (pair car cdr))

-- the conses with these cars, of which the last has this cdr
abbrev pub chain : List Value → Value → Value
chain [] last = last
chain (v ∷ vs) last = cons_value v (chain vs last)

-- the list of a symbol of the package COMMON-LISP and one more object
abbrev pub headed : List ℕ → Value → Value
headed name v = chain (Ok (unmarked (symbol (common_lisp_symbol name))) ∷ v ∷ []) (Ok nil)

-- ---- quoted data

-- one level, with the value of each datum inside in its place; the elements of a vector are only counted
abbrev pub form_step : Form-F (Span → Value) Value → Span → Value
form_step (Form-F.Symbol s) at = Ok (unmarked (symbol s))
form_step (Form-F.Number n) at = number_value at (written n)
form_step (Form-F.Float f) at = Ok (unmarked (opaque (float_kind f)))
form_step (Form-F.Char c) at = Ok (unmarked (character c))
form_step (Form-F.Str text) at = vector_value at CHARACTER_PLACE (length text)
form_step (Form-F.List items) at = chain items (Ok nil)
form_step (Form-F.Dotted items last) at = chain items last
form_step (Form-F.Vector items) at = vector_value at T_PLACE (length items)
form_step (Form-F.Bits n) at = vector_value at BIT_PLACE n
form_step (Form-F.Quote of) at = headed (codes "QUOTE") of
form_step (Form-F.FunctionOf of) at = headed (codes "FUNCTION") of
form_step (Form-F.Back of) at = Err (no_literal at)
form_step (Form-F.Comma of) at = Err (no_literal at)
form_step (Form-F.Splice of) at = Err (no_literal at)
form_step Form-F.Odd at = Err (no_literal at)

abbrev pub datum_step : Datum-F (Span → Value) Value → Value
datum_step d = d.form d.span

-- the object that a datum is where it is quoted
abbrev pub value : Datum → Value
value = fold-Datum (Span → Value) Value form_step datum_step

-- ---- depth

-- a cons is one deeper than its deeper part, any other object 0 deep
abbrev mutual
  pub depth : LispObject → ℕ
  depth (node marks shape) = shape_depth shape

  pub shape_depth : LispShape → ℕ
  shape_depth (pair car cdr) = 1 + max (depth car) (depth cdr)
  shape_depth _ = 0

-- an object at a place may be 256 deep
abbrev pub within_depth : Span → Value → Value
within_depth at (Err x) = Err x
within_depth at (Ok o) = if nat_le (depth o) 256 then Ok o else Err (too_deep at)

-- ---- literals

abbrev pub quoted_form : Datum → Form-F Form Datum → Option Datum
quoted_form d (Form-F.Number n) = Some d
quoted_form d (Form-F.Float f) = Some d
quoted_form d (Form-F.Char c) = Some d
quoted_form d (Form-F.Str text) = Some d
quoted_form d (Form-F.Vector items) = Some d
quoted_form d (Form-F.Bits n) = Some d
quoted_form d f = value_of_form d f

-- what is quoted by a datum; what evaluates to itself is as if it were quoted
abbrev pub quoted : Datum → Option Datum
quoted d = quoted_form d (out-Form d.form)

abbrev pub literal_of : Span → Option Datum → Value
literal_of at None = Err (no_literal at)
literal_of at (Some d) = within_depth at (value d)

abbrev pub literal : Datum → Value
literal d = literal_of d.span (quoted d)

-- the datum writes the object out
abbrev pub IsLiteral : Datum → LispObject → Type 0
IsLiteral d o = literal d ≡ Ok o

abbrev pub refusal_as : Fault → ObjectRefusal
refusal_as (no_literal at) = refusal.NoLiteral at
refusal_as (too_wide at) = refusal.NumberTooWide at
refusal_as (too_deep at) = refusal.TooDeep at

abbrev pub refusal_in : Value → Option ObjectRefusal
refusal_in (Ok o) = None
refusal_in (Err x) = Some (refusal_as x)

-- the first thing that is wrong with a datum as an object that is written out
abbrev pub literal_refusal : Datum → Option ObjectRefusal
literal_refusal d = refusal_in (literal d)

-- The datum writes an object out, or it has a refusal: nothing falls between.
abbrev pub IsLiteralOrIsRefused : Datum → Type 0
IsLiteralOrIsRefused d = ((o : LispObject) × IsLiteral d o) ⊎ ((x : ObjectRefusal) × (literal_refusal d ≡ Some x))

-- ---- answers

-- the reason is what is wrong in a value, or want of memory
abbrev pub IsReasonIn : Value → ObjectRefusal → Type 0
IsReasonIn v refusal.Memory = Unit {0}
IsReasonIn v x = refusal_in v ≡ Some x

-- the reason is the first thing that is wrong, or want of memory
abbrev pub IsLiteralReason : Datum → ObjectRefusal → Type 0
IsLiteralReason d x = IsReasonIn (literal d) x

-- the answer is this object, or want of memory
abbrev pub AnswersObject : LispObject → Result Object ObjectRefusal → Type 0
AnswersObject o (Ok p) = lisp_object p ≡ o
AnswersObject o (Err x) = x ≡ refusal.Memory

-- the answer is this refusal, or want of memory
abbrev pub RefusesObject : ObjectRefusal → Result Object ObjectRefusal → Type 0
RefusesObject x (Ok p) = ⊥
RefusesObject x (Err y) = (y ≡ x) ⊎ (y ≡ refusal.Memory)
