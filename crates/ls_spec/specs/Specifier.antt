-- Specifiers as plain data (4.2.3).
use Rattle.std.specs.Prelude.{ℕ, Bool, Option}
use Rattle.ls_object.specs.declared.kind.Kind.{Kind}
use Rattle.ls_object.specs.declared.symbol.Symbol.{Symbol}
use Rattle.ls_spec.specs.declared.spec.Point.{Point}
use Rattle.ls_spec.specs.declared.spec.RangeKind.{RangeKind}
use Rattle.ls_spec.specs.declared.spec.Bound.{Bound}
use Rattle.ls_spec.specs.declared.spec.CharClass.{CharClass}
use Rattle.ls_spec.specs.declared.spec.SymClass.{SymClass}
use Rattle.ls_spec.specs.declared.spec.DimPattern.{DimPattern}

mutual
  pub data Specifier : Type 0 where
    all_objects : Specifier
    no_objects : Specifier
    and_of : Specifiers → Specifier
    or_of : Specifiers → Specifier
    not_of : Specifier → Specifier
    eql_to : Point → Specifier
    range_of : RangeKind → Bound → Bound → Specifier
    chars_of : CharClass → Specifier
    symbols_of : SymClass → Specifier
    kind_of : Kind → Specifier
    structure_under : Symbol → Specifier
    any_structure : Specifier
    -- arrays with any element type, and with the given one
    array_any : Bool → DimPattern → Specifier
    array_of : Specifier → Bool → DimPattern → Specifier
    string_of : Bool → Option ℕ → Specifier
    cons_of : Specifier → Specifier → Specifier
    satisfies : Symbol → Specifier

  pub data Specifiers : Type 0 where
    no_more : Specifiers
    also : Specifier → Specifiers → Specifiers
