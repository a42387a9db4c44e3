-- The specifier that a `Spec` stands for.
use Rattle.std.specs.Prelude.{List, [], ◌∷◌, map, Bool, Option, Some, None}
use Rattle.ls_spec.specs.declared.spec.DimPattern.{DimPattern}
use Rattle.ls_spec.specs.declared.spec.Spec.{Spec, fold-Spec}
use Rattle.ls_spec.specs.declared.spec.Spec.TheOpen.{Spec-F}
use Rattle.ls_spec.specs.Specifier.{Specifier, all_objects, no_objects, and_of, or_of, not_of, eql_to, range_of, chars_of, symbols_of, kind_of, structure_under, any_structure, array_any, array_of, string_of, cons_of, satisfies, Specifiers, no_more, also}

abbrev pub specifiers_of : List Specifier → Specifiers
specifiers_of [] = no_more
specifiers_of (s ∷ ss) = also s (specifiers_of ss)

abbrev pub array_with : Option Specifier → Bool → DimPattern → Specifier
array_with None simple dims = array_any simple dims
array_with (Some e) simple dims = array_of e simple dims

-- one level, with each part already seen as what it stands for
abbrev pub specifier_step : Spec-F Specifier → Specifier
specifier_step Spec-F.All = all_objects
specifier_step Spec-F.Nothing = no_objects
specifier_step (Spec-F.And ss) = and_of (specifiers_of ss)
specifier_step (Spec-F.Or ss) = or_of (specifiers_of ss)
specifier_step (Spec-F.Not s) = not_of s
specifier_step (Spec-F.Eql p) = eql_to p
specifier_step (Spec-F.Range k lo hi) = range_of k lo hi
specifier_step (Spec-F.Chars k) = chars_of k
specifier_step (Spec-F.Symbols k) = symbols_of k
specifier_step (Spec-F.Kind k) = kind_of k
specifier_step (Spec-F.StructIs name) = structure_under name
specifier_step Spec-F.StructAny = any_structure
specifier_step (Spec-F.ArrayOf elem simple dims) = array_with elem simple dims
specifier_step (Spec-F.StringOf simple dim) = string_of simple dim
specifier_step (Spec-F.ConsOf car cdr) = cons_of car cdr
specifier_step (Spec-F.Satisfies p) = satisfies p

abbrev pub specifier : Spec → Specifier
specifier = fold-Spec Specifier specifier_step

abbrev pub specifiers : List Spec → Specifiers
specifiers ss = specifiers_of (map specifier ss)
