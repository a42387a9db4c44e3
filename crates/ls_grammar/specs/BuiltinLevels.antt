-- What each built-in name says as an atom, and as the head of a list with arguments (4.2.3, figures 4-2 to 4-4).
use Rattle.std.specs.Prelude.{true, false, List}
use Rattle.ls_reader.specs.declared.datum.Span.{Span}
use Rattle.ls_reader.specs.declared.datum.Datum.{Datum}
use Rattle.ls_tables.specs.declared.name.Builtin.{Builtin}
use Rattle.ls_tables.specs.declared.name.Builtin.TheVariants as name
use Rattle.ls_spec.specs.declared.spec.RangeKind.TheVariants.{Integer, Rational}
use Rattle.ls_spec.specs.Specifier.{string_of}
use Rattle.ls_spec.specs.Builtins.{expansion}
use Rattle.ls_grammar.specs.declared.refusal.RefusalKind.TheVariants as kind
use Rattle.ls_grammar.specs.Numbers.{refusal}
use Rattle.ls_grammar.specs.Levels.{Level, refused, known, members, all_of, some_of, bad_argument, range_level, mod_level, signed_level, unsigned_level, starred_level, not_level, eql_level, satisfies_level, cons_level}
use Rattle.ls_grammar.specs.ArrayLevels.{array_level, vector_level, length_level, vectors_over}

-- as an atom: the names of figures 4-2 and 4-3 are specifiers by themselves, those of figure 4-4 are not
abbrev pub built_atom : Span → Builtin → Level
built_atom at name.T = known (expansion name.T)
built_atom at name.Nil = known (expansion name.Nil)
built_atom at name.Atom = known (expansion name.Atom)
built_atom at name.List = known (expansion name.List)
built_atom at name.Null = known (expansion name.Null)
built_atom at name.Boolean = known (expansion name.Boolean)
built_atom at name.Symbol = known (expansion name.Symbol)
built_atom at name.Keyword = known (expansion name.Keyword)
built_atom at name.Character = known (expansion name.Character)
built_atom at name.BaseChar = known (expansion name.BaseChar)
built_atom at name.StandardChar = known (expansion name.StandardChar)
built_atom at name.ExtendedChar = known (expansion name.ExtendedChar)
built_atom at name.Bit = known (expansion name.Bit)
built_atom at name.Fixnum = known (expansion name.Fixnum)
built_atom at name.Bignum = known (expansion name.Bignum)
built_atom at name.Ratio = known (expansion name.Ratio)
built_atom at name.Number = known (expansion name.Number)
built_atom at name.Sequence = known (expansion name.Sequence)
built_atom at name.StructureObject = known (expansion name.StructureObject)
built_atom at name.HashTable = known (expansion name.HashTable)
built_atom at name.Readtable = known (expansion name.Readtable)
built_atom at name.Package = known (expansion name.Package)
built_atom at name.Pathname = known (expansion name.Pathname)
built_atom at name.LogicalPathname = known (expansion name.LogicalPathname)
built_atom at name.Stream = known (expansion name.Stream)
built_atom at name.RandomState = known (expansion name.RandomState)
built_atom at name.Condition = known (expansion name.Condition)
built_atom at name.Restart = known (expansion name.Restart)
built_atom at name.CompiledFunction = known (expansion name.CompiledFunction)
built_atom at name.Integer = known (expansion name.Integer)
built_atom at name.Rational = known (expansion name.Rational)
built_atom at name.SignedByte = known (expansion name.SignedByte)
built_atom at name.UnsignedByte = known (expansion name.UnsignedByte)
built_atom at name.Cons = known (expansion name.Cons)
built_atom at name.Array = known (expansion name.Array)
built_atom at name.SimpleArray = known (expansion name.SimpleArray)
built_atom at name.Vector = known (expansion name.Vector)
built_atom at name.SimpleVector = known (expansion name.SimpleVector)
built_atom at name.BitVector = known (expansion name.BitVector)
built_atom at name.SimpleBitVector = known (expansion name.SimpleBitVector)
built_atom at name.BaseString = known (expansion name.BaseString)
built_atom at name.SimpleBaseString = known (expansion name.SimpleBaseString)
built_atom at name.String = known (expansion name.String)
built_atom at name.SimpleString = known (expansion name.SimpleString)
built_atom at name.Float = known (expansion name.Float)
built_atom at name.ShortFloat = known (expansion name.ShortFloat)
built_atom at name.SingleFloat = known (expansion name.SingleFloat)
built_atom at name.LongFloat = known (expansion name.LongFloat)
built_atom at name.DoubleFloat = known (expansion name.DoubleFloat)
built_atom at name.Real = known (expansion name.Real)
built_atom at name.Complex = known (expansion name.Complex)
built_atom at name.Function = known (expansion name.Function)
built_atom at name.And = bad_argument at
built_atom at name.Or = bad_argument at
built_atom at name.Not = bad_argument at
built_atom at name.Member = bad_argument at
built_atom at name.Eql = bad_argument at
built_atom at name.Satisfies = bad_argument at
built_atom at name.Mod = bad_argument at
built_atom at name.Values = refused (refusal kind.FunctionList at)
built_atom at name.Star = refused (refusal kind.StarNotAllowed at)

-- as the head of a list with these arguments: the names of figure 4-2 take none
abbrev pub built_list : Span → List Datum → Builtin → Level
built_list at args name.T = bad_argument at
built_list at args name.Nil = bad_argument at
built_list at args name.Atom = bad_argument at
built_list at args name.List = bad_argument at
built_list at args name.Null = bad_argument at
built_list at args name.Boolean = bad_argument at
built_list at args name.Symbol = bad_argument at
built_list at args name.Keyword = bad_argument at
built_list at args name.Character = bad_argument at
built_list at args name.BaseChar = bad_argument at
built_list at args name.StandardChar = bad_argument at
built_list at args name.ExtendedChar = bad_argument at
built_list at args name.Bit = bad_argument at
built_list at args name.Fixnum = bad_argument at
built_list at args name.Bignum = bad_argument at
built_list at args name.Ratio = bad_argument at
built_list at args name.Number = bad_argument at
built_list at args name.Sequence = bad_argument at
built_list at args name.StructureObject = bad_argument at
built_list at args name.HashTable = bad_argument at
built_list at args name.Readtable = bad_argument at
built_list at args name.Package = bad_argument at
built_list at args name.Pathname = bad_argument at
built_list at args name.LogicalPathname = bad_argument at
built_list at args name.Stream = bad_argument at
built_list at args name.RandomState = bad_argument at
built_list at args name.Condition = bad_argument at
built_list at args name.Restart = bad_argument at
built_list at args name.CompiledFunction = bad_argument at
built_list at args name.Integer = range_level Integer at args
built_list at args name.Rational = range_level Rational at args
built_list at args name.SignedByte = signed_level at args
built_list at args name.UnsignedByte = unsigned_level at args
built_list at args name.Cons = cons_level at args
built_list at args name.Array = array_level false at args
built_list at args name.SimpleArray = array_level true at args
built_list at args name.Vector = vector_level at args
built_list at args name.SimpleVector = length_level (vectors_over name.T true) at args
built_list at args name.BitVector = length_level (vectors_over name.Bit false) at args
built_list at args name.SimpleBitVector = length_level (vectors_over name.Bit true) at args
built_list at args name.BaseString = length_level (vectors_over name.BaseChar false) at args
built_list at args name.SimpleBaseString = length_level (vectors_over name.BaseChar true) at args
built_list at args name.String = length_level (string_of false) at args
built_list at args name.SimpleString = length_level (string_of true) at args
built_list at args name.Float = starred_level kind.FloatRange 2 name.Float at args
built_list at args name.ShortFloat = starred_level kind.FloatRange 2 name.ShortFloat at args
built_list at args name.SingleFloat = starred_level kind.FloatRange 2 name.SingleFloat at args
built_list at args name.LongFloat = starred_level kind.FloatRange 2 name.LongFloat at args
built_list at args name.DoubleFloat = starred_level kind.FloatRange 2 name.DoubleFloat at args
built_list at args name.Real = starred_level kind.FloatRange 2 name.Real at args
built_list at args name.Complex = starred_level kind.ComplexPart 1 name.Complex at args
built_list at args name.Function = refused (refusal kind.FunctionList at)
built_list at args name.And = all_of args
built_list at args name.Or = some_of args
built_list at args name.Not = not_level at args
built_list at args name.Member = members args
built_list at args name.Eql = eql_level at args
built_list at args name.Satisfies = satisfies_level at args
built_list at args name.Mod = mod_level at args
built_list at args name.Values = refused (refusal kind.FunctionList at)
built_list at args name.Star = bad_argument at
