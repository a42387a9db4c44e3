-- The lower and the upper approximation of a specifier, in which no predicate stands outside element types.
use Rattle.std.specs.Prelude.{Bool, true, false, not, ◌||◌, if◌then◌else◌}
use Rattle.ls_spec.specs.Specifier.{Specifier, all_objects, no_objects, and_of, or_of, not_of, eql_to, range_of, chars_of, symbols_of, kind_of, structure_under, any_structure, array_any, array_of, string_of, cons_of, satisfies, Specifiers, no_more, also}

-- Each predicate outside element types is made T where `upper` is true and NIL where it is false. NOT
-- turns this round. Element types stay.
abbrev mutual
  pub bounded : Bool → Specifier → Specifier
  bounded upper (and_of ss) = and_of (bounded_all upper ss)
  bounded upper (or_of ss) = or_of (bounded_all upper ss)
  bounded upper (not_of s) = not_of (bounded (not upper) s)
  bounded upper (cons_of a b) = cons_of (bounded upper a) (bounded upper b)
  bounded upper (satisfies p) = if upper then all_objects else no_objects
  bounded upper all_objects = all_objects
  bounded upper no_objects = no_objects
  bounded upper (eql_to p) = eql_to p
  bounded upper (range_of k lo hi) = range_of k lo hi
  bounded upper (chars_of k) = chars_of k
  bounded upper (symbols_of k) = symbols_of k
  bounded upper (kind_of k) = kind_of k
  bounded upper (structure_under name) = structure_under name
  bounded upper any_structure = any_structure
  bounded upper (array_any simple dims) = array_any simple dims
  bounded upper (array_of e simple dims) = array_of e simple dims
  bounded upper (string_of simple dim) = string_of simple dim

  pub bounded_all : Bool → Specifiers → Specifiers
  bounded_all upper no_more = no_more
  bounded_all upper (also s ss) = also (bounded upper s) (bounded_all upper ss)

-- each object of it belongs to the specifier, whatever its predicates mean
abbrev pub low : Specifier → Specifier
low s = bounded false s

-- each object that belongs to the specifier, under any meaning of them, is in it
abbrev pub high : Specifier → Specifier
high s = bounded true s

-- no predicate stands outside element types
abbrev mutual
  pub HasNoPredicate : Specifier → Type 0
  HasNoPredicate (and_of ss) = HaveNoPredicate ss
  HasNoPredicate (or_of ss) = HaveNoPredicate ss
  HasNoPredicate (not_of s) = HasNoPredicate s
  HasNoPredicate (cons_of a b) = HasNoPredicate a × HasNoPredicate b
  HasNoPredicate (satisfies p) = ⊥
  HasNoPredicate _ = Unit {0}

  pub HaveNoPredicate : Specifiers → Type 0
  HaveNoPredicate no_more = Unit {0}
  HaveNoPredicate (also s ss) = HasNoPredicate s × HaveNoPredicate ss

-- whether a predicate stands outside element types
abbrev mutual
  pub has_free_predicate : Specifier → Bool
  has_free_predicate (and_of ss) = some_has_free_predicate ss
  has_free_predicate (or_of ss) = some_has_free_predicate ss
  has_free_predicate (not_of s) = has_free_predicate s
  has_free_predicate (cons_of a b) = has_free_predicate a || has_free_predicate b
  has_free_predicate (satisfies p) = true
  has_free_predicate all_objects = false
  has_free_predicate no_objects = false
  has_free_predicate (eql_to p) = false
  has_free_predicate (range_of k lo hi) = false
  has_free_predicate (chars_of k) = false
  has_free_predicate (symbols_of k) = false
  has_free_predicate (kind_of k) = false
  has_free_predicate (structure_under name) = false
  has_free_predicate any_structure = false
  has_free_predicate (array_any simple dims) = false
  has_free_predicate (array_of e simple dims) = false
  has_free_predicate (string_of simple dim) = false

  pub some_has_free_predicate : Specifiers → Bool
  some_has_free_predicate no_more = false
  some_has_free_predicate (also s ss) = has_free_predicate s || some_has_free_predicate ss
