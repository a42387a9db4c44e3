-- Which specifier a datum denotes, whatever its depth and its size (4.2.3).
use Rattle.std.specs.Prelude.{ℕ, zero, suc, ◌≡◌, List, [], ◌∷◌, Option, Some, None, Result, Ok, Err}
use Rattle.ls_object.specs.declared.rat.Rat.{Rat}
use Rattle.ls_reader.specs.declared.datum.Span.{Span}
use Rattle.ls_reader.specs.declared.datum.Datum.{Datum}
use Rattle.ls_reader.specs.declared.datum.Form.{Form, out-Form}
use Rattle.ls_reader.specs.declared.datum.Form.TheOpen.{Form-F}
use Rattle.ls_spec.specs.declared.spec.Point.TheVariants as point
use Rattle.ls_spec.specs.Specifier.{Specifier, all_objects, and_of, or_of, not_of, eql_to, array_of, cons_of}
use Rattle.ls_spec.specs.Meaning.{specifiers_of}
use Rattle.ls_env.specs.Environments.{Environment}
use Rattle.ls_grammar.specs.declared.refusal.RefusalKind.TheVariants as kind
use Rattle.ls_grammar.specs.declared.refusal.Refusal.{Refusal}
use Rattle.ls_grammar.specs.Numbers.{refusal, too_wide, written}
use Rattle.ls_grammar.specs.Levels.{Level, refused, known, object, members, all_of, some_of, none_of, pair_of, array_over, expanded}
use Rattle.ls_grammar.specs.Saying.{level}

-- ---- the objects of MEMBER and EQL

abbrev pub number_point : Span → Option Rat → Result Specifier Refusal
number_point at None = Err (too_wide at)
number_point at (Some r) = Ok (eql_to (point.Number r))

abbrev pub object_form : Span → Form-F Form Datum → Result Specifier Refusal
object_form at (Form-F.Symbol s) = Ok (eql_to (point.Sym s))
object_form at (Form-F.Char c) = Ok (eql_to (point.Char c))
object_form at (Form-F.Number n) = number_point at (written n)
object_form at _ = Err (refusal kind.MemberObject at)

-- the specifier of an object of MEMBER or EQL, which is a symbol, a character or a rational number
abbrev pub eql_of : Datum → Result Specifier Refusal
eql_of d = object_form d.span (out-Form d.form)

abbrev pub IsEql : Datum → Specifier → Type 0
IsEql d s = eql_of d ≡ Ok s

-- ---- specifiers

abbrev pub conjunction : List Specifier → Specifier
conjunction ss = and_of (specifiers_of ss)

abbrev pub disjunction : List Specifier → Specifier
disjunction ss = or_of (specifiers_of ss)

-- each datum denotes the specifier at its place
abbrev pub Each : (Datum → Specifier → Type 0) → List Datum → List Specifier → Type 0
Each P [] [] = Unit {0}
Each P (d ∷ ds) (s ∷ ss) = P d s × Each P ds ss
Each P _ _ = ⊥

-- a part of a CONS denotes the specifier; without a datum that is T
abbrev pub SaysPart : (Datum → Specifier → Type 0) → Option Datum → Specifier → Type 0
SaysPart P None s = s ≡ all_objects
SaysPart P (Some d) s = P d s

-- what one level says, where P tells what the data below it denote
abbrev pub Says : (Datum → Specifier → Type 0) → Level → Specifier → Type 0
Says P (refused x) s = ⊥
Says P (known t) s = s ≡ t
Says P (object d) s = IsEql d s
Says P (members ds) s = (ss : List Specifier) × (s ≡ disjunction ss) × Each IsEql ds ss
Says P (all_of ds) s = (ss : List Specifier) × (s ≡ conjunction ss) × Each P ds ss
Says P (some_of ds) s = (ss : List Specifier) × (s ≡ disjunction ss) × Each P ds ss
Says P (none_of d) s = (t : Specifier) × (s ≡ not_of t) × P d t
Says P (pair_of car cdr) s = (a : Specifier) × (b : Specifier) × (s ≡ cons_of a b) × SaysPart P car a × SaysPart P cdr b
Says P (array_over d simple dims) s = (e : Specifier) × (s ≡ array_of e simple dims) × P d e
Says P (expanded d) s = P d s

abbrev pub DenotesIn : Environment → ℕ → Datum → Specifier → Type 0
DenotesIn env zero d s = ⊥
DenotesIn env (suc n) d s = Says (DenotesIn env n) (level env d) s

-- The least relation that holds of d and s wherever the level of d says s by it: by finitely many levels.
abbrev pub Denotes : Environment → Datum → Specifier → Type 0
Denotes env d s = (n : ℕ) × DenotesIn env n d s
