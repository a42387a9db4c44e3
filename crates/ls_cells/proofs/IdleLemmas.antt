-- Where no atom can hold at an object of a class by its variant, none does.
use Rattle.std.proofs.Common.{ℕ, zero, suc, ◌≡◌, ◌∙◌, refl, sym, ap, Bool, true, false, true≢false, not, ◌&&◌, ◌%◌, nat_lt, nat_le, List, [], ◌∷◌, map, length, Contains, MatchBool}
use Rattle.std.specs.List.{AllByRecursion}
use Rattle.std.proofs.Common.{arith}
use Rattle.std.proofs.lemmas.List.{length-map}
use Rattle.std.proofs.lemmas.Nat.Gcd.{IsGcd-from_mod, IsGcd-from_zero}
use Rattle.ls_object.specs.declared.kind.Kind.TheVariants.{OtherStructure}
use Rattle.ls_object.specs.declared.symbol.Symbol.{Symbol}
use Rattle.ls_object.specs.Universe.{LispObject, node, LispShape, number, character, symbol, array, structure, opaque, Structures, IsObject, IsPlain, plain}
use Rattle.ls_spec.specs.declared.spec.Spec.{Spec}
use Rattle.ls_spec.specs.declared.spec.Point.TheVariants as point
use Rattle.ls_spec.specs.Specifier.{Specifier, all_objects, no_objects, and_of, or_of, not_of, eql_to, range_of, chars_of, symbols_of, kind_of, structure_under, any_structure, array_any, array_of, string_of, satisfies}
use Rattle.ls_spec.specs.Meaning.{specifier}
use Rattle.ls_spec.specs.Truth.{Learnt, holds}
use Rattle.ls_points.specs.Classes.{IsStructure}
use Rattle.ls_cells.specs.declared.idle.Class.{Class}
use Rattle.ls_cells.specs.declared.idle.Class.TheVariants.{Numbers, Characters, Symbols, Opaques, Structs, Arrays}
use Rattle.ls_cells.specs.declared.rows.Row.{Row}
use Rattle.ls_cells.specs.Signs.{tabulate, at}
use Rattle.ls_cells.specs.Rows.{signs_of, origin_object}
use Rattle.ls_cells.specs.Cells.{signs_at, bare, IsNoCons, AddsRows}
use Rattle.ls_cells.specs.steps.Idle.{IsOf, may_hold, is_idle, some_shape}
use Rattle.ls_cells.proofs.AddLemmas.{with_row, adds_row}
use Rattle.ls_cells.proofs.ColumnLemmas.{in_none}
use Rattle.ls_cells.proofs.TabulateLemmas.{is_tabulate}

-- at a number, a character, a symbol, an opaque object, a structure and an array
at_number : (learnt : Learnt) (s : Specifier) (o : LispShape) → IsOf Numbers (node [] o) → may_hold Numbers s ≡ false → holds learnt s (node [] o) ≡ false
at_number learnt all_objects o h e = absurd (true≢false e)
at_number learnt no_objects o h e = refl
at_number learnt (and_of ss) o h e = absurd (true≢false e)
at_number learnt (or_of ss) o h e = absurd (true≢false e)
at_number learnt (not_of s) o h e = absurd (true≢false e)
at_number learnt (satisfies p) o h e = refl
at_number learnt (eql_to (point.Number r)) o h e = absurd (true≢false e)
at_number learnt (range_of k lo hi) o h e = absurd (true≢false e)
at_number learnt (eql_to (point.Char c)) (number n d) h e = refl
at_number learnt (eql_to (point.Sym s)) (number n d) h e = refl
at_number learnt _ (number n d) h e = refl
at_number learnt _ _ h e = absurd h

at_character : (learnt : Learnt) (s : Specifier) (o : LispShape) → IsOf Characters (node [] o) → may_hold Characters s ≡ false → holds learnt s (node [] o) ≡ false
at_character learnt all_objects o h e = absurd (true≢false e)
at_character learnt no_objects o h e = refl
at_character learnt (and_of ss) o h e = absurd (true≢false e)
at_character learnt (or_of ss) o h e = absurd (true≢false e)
at_character learnt (not_of s) o h e = absurd (true≢false e)
at_character learnt (satisfies p) o h e = refl
at_character learnt (eql_to (point.Char c)) o h e = absurd (true≢false e)
at_character learnt (chars_of k) o h e = absurd (true≢false e)
at_character learnt (eql_to (point.Number r)) (character c) h e = refl
at_character learnt (eql_to (point.Sym s)) (character c) h e = refl
at_character learnt _ (character c) h e = refl
at_character learnt _ _ h e = absurd h

at_symbol : (learnt : Learnt) (s : Specifier) (o : LispShape) → IsOf Symbols (node [] o) → may_hold Symbols s ≡ false → holds learnt s (node [] o) ≡ false
at_symbol learnt all_objects o h e = absurd (true≢false e)
at_symbol learnt no_objects o h e = refl
at_symbol learnt (and_of ss) o h e = absurd (true≢false e)
at_symbol learnt (or_of ss) o h e = absurd (true≢false e)
at_symbol learnt (not_of s) o h e = absurd (true≢false e)
at_symbol learnt (satisfies p) o h e = refl
at_symbol learnt (eql_to (point.Sym s)) o h e = absurd (true≢false e)
at_symbol learnt (symbols_of k) o h e = absurd (true≢false e)
at_symbol learnt (eql_to (point.Number r)) (symbol t) h e = refl
at_symbol learnt (eql_to (point.Char c)) (symbol t) h e = refl
at_symbol learnt _ (symbol t) h e = refl
at_symbol learnt _ _ h e = absurd h

at_opaque : (learnt : Learnt) (s : Specifier) (o : LispShape) → IsOf Opaques (node [] o) → may_hold Opaques s ≡ false → holds learnt s (node [] o) ≡ false
at_opaque learnt all_objects o h e = absurd (true≢false e)
at_opaque learnt no_objects o h e = refl
at_opaque learnt (and_of ss) o h e = absurd (true≢false e)
at_opaque learnt (or_of ss) o h e = absurd (true≢false e)
at_opaque learnt (not_of s) o h e = absurd (true≢false e)
at_opaque learnt (satisfies p) o h e = refl
at_opaque learnt (kind_of k) o h e = absurd (true≢false e)
at_opaque learnt any_structure o h e = absurd (true≢false e)
at_opaque learnt (eql_to (point.Number r)) (opaque j) h e = refl
at_opaque learnt (eql_to (point.Char c)) (opaque j) h e = refl
at_opaque learnt (eql_to (point.Sym s)) (opaque j) h e = refl
at_opaque learnt _ (opaque j) h e = refl
at_opaque learnt _ _ h e = absurd h

at_structure : (learnt : Learnt) (s : Specifier) (o : LispShape) → IsOf Structs (node [] o) → may_hold Structs s ≡ false → holds learnt s (node [] o) ≡ false
at_structure learnt all_objects o h e = absurd (true≢false e)
at_structure learnt no_objects o h e = refl
at_structure learnt (and_of ss) o h e = absurd (true≢false e)
at_structure learnt (or_of ss) o h e = absurd (true≢false e)
at_structure learnt (not_of s) o h e = absurd (true≢false e)
at_structure learnt (satisfies p) o h e = refl
at_structure learnt (structure_under y) o h e = absurd (true≢false e)
at_structure learnt any_structure o h e = absurd (true≢false e)
at_structure learnt (eql_to (point.Number r)) (structure x) h e = refl
at_structure learnt (eql_to (point.Char c)) (structure x) h e = refl
at_structure learnt (eql_to (point.Sym s)) (structure x) h e = refl
at_structure learnt _ (structure x) h e = refl
at_structure learnt _ _ h e = absurd h

at_array : (learnt : Learnt) (s : Specifier) (o : LispShape) → IsOf Arrays (node [] o) → may_hold Arrays s ≡ false → holds learnt s (node [] o) ≡ false
at_array learnt all_objects o h e = absurd (true≢false e)
at_array learnt no_objects o h e = refl
at_array learnt (and_of ss) o h e = absurd (true≢false e)
at_array learnt (or_of ss) o h e = absurd (true≢false e)
at_array learnt (not_of s) o h e = absurd (true≢false e)
at_array learnt (satisfies p) o h e = refl
at_array learnt (array_any simple dims) o h e = absurd (true≢false e)
at_array learnt (array_of x simple dims) o h e = absurd (true≢false e)
at_array learnt (string_of simple dim) o h e = absurd (true≢false e)
at_array learnt (eql_to (point.Number r)) (array k simple dims) h e = refl
at_array learnt (eql_to (point.Char c)) (array k simple dims) h e = refl
at_array learnt (eql_to (point.Sym s)) (array k simple dims) h e = refl
at_array learnt _ (array k simple dims) h e = refl
at_array learnt _ _ h e = absurd h

-- and at the opaque object that is made for structures
at_other : (learnt : Learnt) (s : Specifier) → may_hold Structs s ≡ false → holds learnt s (node [] (opaque OtherStructure)) ≡ false
at_other learnt all_objects e = absurd (true≢false e)
at_other learnt no_objects e = refl
at_other learnt (and_of ss) e = absurd (true≢false e)
at_other learnt (or_of ss) e = absurd (true≢false e)
at_other learnt (not_of s) e = absurd (true≢false e)
at_other learnt (satisfies p) e = refl
at_other learnt (structure_under y) e = absurd (true≢false e)
at_other learnt any_structure e = absurd (true≢false e)
at_other learnt (kind_of k) e = e
at_other learnt (eql_to (point.Number r)) e = refl
at_other learnt (eql_to (point.Char c)) e = refl
at_other learnt (eql_to (point.Sym s)) e = refl
at_other learnt _ e = refl

in_no_atom : (learnt : Learnt) (class : Class) (s : Specifier) (o : LispShape) → IsOf class (node [] o) → may_hold class s ≡ false → holds learnt s (node [] o) ≡ false
in_no_atom learnt Numbers s o h e = at_number learnt s o h e
in_no_atom learnt Characters s o h e = at_character learnt s o h e
in_no_atom learnt Symbols s o h e = at_symbol learnt s o h e
in_no_atom learnt Opaques s o h e = at_opaque learnt s o h e
in_no_atom learnt Structs s o h e = at_structure learnt s o h e
in_no_atom learnt Arrays s o h e = at_array learnt s o h e

made_in_no_atom : (learnt : Learnt) (class : Class) (s : Specifier) → may_hold class s ≡ false → holds learnt s (node [] (some_shape class)) ≡ false
made_in_no_atom learnt Numbers s e = at_number learnt s (some_shape Numbers) tt e
made_in_no_atom learnt Characters s e = at_character learnt s (some_shape Characters) tt e
made_in_no_atom learnt Symbols s e = at_symbol learnt s (some_shape Symbols) tt e
made_in_no_atom learnt Opaques s e = at_opaque learnt s (some_shape Opaques) tt e
made_in_no_atom learnt Structs s e = at_other learnt s e
made_in_no_atom learnt Arrays s e = at_array learnt s (some_shape Arrays) tt e

not_true : (b c : Bool) → (not b && c) ≡ true → (b ≡ false) × (c ≡ true)
not_true true c h = absurd (true≢false (sym h))
not_true false c h = (refl, h)

-- none of an idle list can hold
none_can : (class : Class) (atoms : List Spec) → is_idle class atoms ≡ true → AllByRecursion (λ a. may_hold class (specifier a) ≡ false) atoms
none_can class [] e = tt
none_can class (a ∷ atoms) e = let both = not_true (may_hold class (specifier a)) (is_idle class atoms) e in (both.0, none_can class atoms both.1)

-- truth values that are all false
all_false : (learnt : Learnt) (class : Class) (atoms : List Spec) (o : LispObject) → AllByRecursion (λ a. may_hold class (specifier a) ≡ false) atoms
    → ((s : Specifier) → may_hold class s ≡ false → holds learnt s o ≡ false) → (i : ℕ) → at (signs_at learnt (map specifier atoms) o) i ≡ false
all_false learnt class [] o h out i = refl
all_false learnt class (a ∷ atoms) o h out zero = out (specifier a) h.0
all_false learnt class (a ∷ atoms) o h out (suc i) = all_false learnt class atoms o h.1 out i

idle_signs : (learnt : Learnt) (class : Class) (atoms : List Spec) (o : LispObject) (n : ℕ) → n ≡ length atoms → is_idle class atoms ≡ true
    → ((s : Specifier) → may_hold class s ≡ false → holds learnt s o ≡ false)
    → tabulate n (λ i. nat_le 0 i && nat_lt i 0) ≡ signs_at learnt (map specifier atoms) o
idle_signs learnt class atoms o n count idle out =
    ap (λ (k : ℕ). tabulate k (λ i. nat_le 0 i && nat_lt i 0)) count
    ∙ sym (is_tabulate (signs_at learnt (map specifier atoms) o) (length atoms) (λ i. nat_le 0 i && nat_lt i 0)
    (length-map (map specifier atoms) (λ s. holds learnt s o) ∙ length-map atoms specifier)
    (λ i l. all_false learnt class atoms o (none_can class atoms idle) out i ∙ sym (in_none i)))

-- a class does not ask for marks
of_class : (class : Class) (marks : List Symbol) (shape : LispShape) → IsOf class (node marks shape) → IsOf class (node [] shape)
of_class Numbers marks (number n d) h = tt
of_class Characters marks (character c) h = tt
of_class Symbols marks (symbol s) h = tt
of_class Opaques marks (opaque k) h = tt
of_class Structs marks (structure x) h = tt
of_class Arrays marks (array c simple dims) h = tt
of_class _ marks _ h = absurd h

-- no class has conses
pub class_flat : (class : Class) (o : LispObject) → IsOf class o → IsNoCons o
class_flat Numbers (node marks (number n d)) h = tt
class_flat Characters (node marks (character c)) h = tt
class_flat Symbols (node marks (symbol s)) h = tt
class_flat Opaques (node marks (opaque k)) h = tt
class_flat Structs (node marks (structure x)) h = tt
class_flat Arrays (node marks (array c simple dims)) h = tt
class_flat _ (node marks _) h = absurd h

-- the truth values of an object of an idle class, marks left out
pub signs_of_idle : (learnt : Learnt) (class : Class) (atoms : List Spec) (o : LispObject) (n : ℕ) → n ≡ length atoms → is_idle class atoms ≡ true → IsOf class o
    → tabulate n (λ i. nat_le 0 i && nat_lt i 0) ≡ signs_at learnt (map specifier atoms) (bare o)
signs_of_idle learnt class atoms (node marks shape) n count idle h =
    idle_signs learnt class atoms (node [] shape) n count idle (λ s e. in_no_atom learnt class s shape (of_class class marks shape h) e)

-- what is made for a class is an object, without marks
made_object : (structures : Structures) (class : Class) → IsObject structures (node [] (some_shape class))
made_object structures Numbers = (tt, (omega arith, IsGcd-from_mod 1 1 1 (IsGcd-from_zero 1 (1 % 1) refl)))
made_object structures Characters = (tt, refl)
made_object structures Symbols = (tt, ((refl, (refl, (refl, (refl, (refl, (refl, (refl, (refl, (refl, (refl, (refl, tt))))))))))), (refl, (refl, (refl, tt)))))
made_object structures Opaques = (tt, tt)
made_object structures Structs = (tt, tt)
made_object structures Arrays = (tt, omega arith)

made_plain : (class : Class) → plain (node [] (some_shape class)) ≡ node [] (some_shape class)
made_plain Numbers = refl
made_plain Characters = refl
made_plain Symbols = refl
made_plain Opaques = refl
made_plain Structs = refl
made_plain Arrays = refl

pub made_unmarked : (class : Class) (x : LispObject) → x ≡ node [] (some_shape class) → IsPlain x
made_unmarked class x e = ap plain e ∙ made_plain class ∙ sym e

-- the row of an idle class
pub idle_row : (structures : Structures) (learnt : Learnt) (class : Class) (atoms : List Spec) (row : Row) (old new : List Row) (fresh : Bool) (n : ℕ)
    → MatchBool fresh (¬ Contains (signs_of old) row.signs) (Contains (signs_of old) row.signs) → new ≡ with_row fresh old row
    → is_idle class atoms ≡ true → origin_object row.origin.value ≡ node [] (some_shape class) → n ≡ length atoms → row.signs ≡ tabulate n (λ i. nat_le 0 i && nat_lt i 0)
    → AddsRows structures learnt (map specifier atoms) (IsOf class) old new
idle_row structures learnt class atoms row old new fresh n is e idle made count signs =
    adds_row structures learnt (map specifier atoms) (IsOf class) old new row fresh is e
    (record {
      object = node [] (some_shape class);
      is_object = made_object structures class;
      plain_form = made_plain class ∙ sym made;
      signs = signs ∙ idle_signs learnt class atoms (node [] (some_shape class)) n count idle (made_in_no_atom learnt class);
    })
    (λ o object h. signs ∙ signs_of_idle learnt class atoms o n count idle h)

-- what is added for a class is added for one within it
pub adds_inside : (structures : Structures) (learnt : Learnt) (atoms : List Specifier) (P Q : LispObject → Type 0) (old new : List Row) → ((o : LispObject) → Q o → P o)
    → AddsRows structures learnt atoms P old new → AddsRows structures learnt atoms Q old new
adds_inside structures learnt atoms P Q old new inside adds = record { kept = adds.kept; each = adds.each; all = λ o object q. adds.all o object (inside o q) }

-- a structure of one of the types is a structure
pub some_structure : (structures : Structures) (o : LispObject) → IsStructure structures o → IsOf Structs o
some_structure structures (node marks (structure x)) h = tt
some_structure structures (node marks _) h = absurd h
