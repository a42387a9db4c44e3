-- What a node says of its specifier.
use Rattle.std.proofs.Common.{ℕ, ◌≡◌, ◌<◌, refl, sym, ◌∙◌, ap, subst, List, [], ◌∷◌, ◌++◌, append-nil, Option, Some, None}
use Rattle.std.specs.List.{flat_map}
use Rattle.ls_spec.specs.Specifier.{Specifier}
use Rattle.ls_spec.specs.declared.spec.DimPattern.TheVariants as dimensions
use Rattle.ls_spec.specs.Meaning.{specifiers_of}
use Rattle.ls_lists.specs.Candidates.{is_predicate, is_string, element_of, pattern_of, Pattern}
use Rattle.ls_lists.specs.Costs.{elements_in, elements_in_all}
use Rattle.ls_intern.specs.declared.node.Node.{Node}
use Rattle.ls_intern.specs.declared.node.Node.TheVariants as node
use Rattle.ls_intern.specs.Places.{at, specifiers_at, node_specifier, PartsBelow}
use Rattle.ls_sides.specs.Nodes.{node_branches, node_sides, node_element}
use Rattle.ls_sides.proofs.NodeLemmas.{none_some, some_same}
use Rattle.ls_decide.specs.steps.Nodes.{node_is_predicate, node_is_string, node_weight, node_pattern}
use Rattle.ls_decide.specs.steps.Weights.{weight}

-- the element specifiers in several specifiers, in order
pub elements_each : (list : List Specifier) → elements_in_all (specifiers_of list) ≡ flat_map elements_in list
elements_each [] = refl
elements_each (s ∷ list) = ap (λ l. elements_in s ++ l) (elements_each list)

-- those of what isn't an atom are those in its parts
pub branches_elements : (known : List Specifier) (x : Node) (ids : List ℕ) → node_branches x ≡ Some ids → elements_in (node_specifier known x) ≡ flat_map elements_in (specifiers_at known ids)
branches_elements known node.All ids e = ap (λ l. flat_map elements_in (specifiers_at known l)) (some_same [] ids e)
branches_elements known node.Nothing ids e = ap (λ l. flat_map elements_in (specifiers_at known l)) (some_same [] ids e)
branches_elements known (node.And parts) ids e = elements_each (specifiers_at known parts) ∙ ap (λ l. flat_map elements_in (specifiers_at known l)) (some_same parts ids e)
branches_elements known (node.Or parts) ids e = elements_each (specifiers_at known parts) ∙ ap (λ l. flat_map elements_in (specifiers_at known l)) (some_same parts ids e)
branches_elements known (node.Not part) ids e = sym (append-nil (elements_in (at known part))) ∙ ap (λ l. flat_map elements_in (specifiers_at known l)) (some_same (part ∷ []) ids e)
branches_elements known _ ids e = absurd (none_some e)

-- the element specifiers in a CONS
pub sides_elements : (known : List Specifier) (x : Node) (car cdr : ℕ) → node_sides x ≡ Some (car, cdr) → elements_in (node_specifier known x) ≡ elements_in (at known car) ++ elements_in (at known cdr)
sides_elements known (node.ConsOf a b) car cdr e =
    let same = some_same (a, b) (car, cdr) e in
    let f = ap (λ p. p.0) same in
    let g = ap (λ p. p.1) same in
    ap (λ i. elements_in (at known i) ++ elements_in (at known b)) f ∙ ap (λ i. elements_in (at known car) ++ elements_in (at known i)) g
sides_elements known _ car cdr e = absurd (none_some e)

-- the element specifier of an array
pub element_some : (known : List Specifier) (n : ℕ) (x : Node) (e : ℕ) → PartsBelow n x → node_element x ≡ Some e
    → (e < n) × ((element_of (node_specifier known x) ≡ at known e ∷ []) × (elements_in (node_specifier known x) ≡ elements_in (at known e) ++ at known e ∷ []))
element_some known n (node.ArrayOf (Some i) simple dims) e h f =
    let g : i ≡ e = cc in
    (subst (λ j. j < n) g h, (ap (λ j. at known j ∷ []) g, ap (λ j. elements_in (at known j) ++ at known j ∷ []) g))
element_some known n (node.ArrayOf None simple dims) e h f = absurd (none_some f)
element_some known n _ e h f = absurd (none_some f)

pub element_none : (known : List Specifier) (x : Node) → node_element x ≡ None → element_of (node_specifier known x) ≡ []
element_none known (node.ArrayOf None simple dims) e = refl
element_none known (node.ArrayOf (Some i) simple dims) e = absurd (cc)
element_none known _ e = refl

-- no element specifier is in what has neither branches nor sides nor an element
pub no_elements : (known : List Specifier) (x : Node) → node_branches x ≡ None → node_sides x ≡ None → node_element x ≡ None → elements_in (node_specifier known x) ≡ []
no_elements known node.All e f g = absurd (cc)
no_elements known node.Nothing e f g = absurd (cc)
no_elements known (node.And parts) e f g = absurd (cc)
no_elements known (node.Or parts) e f g = absurd (cc)
no_elements known (node.Not part) e f g = absurd (cc)
no_elements known (node.ConsOf a b) e f g = absurd (cc)
no_elements known (node.ArrayOf None simple dims) e f g = refl
no_elements known (node.ArrayOf (Some i) simple dims) e f g = absurd (cc)
no_elements known _ e f g = refl

-- the tests
pub predicate_is : (known : List Specifier) (x : Node) → node_is_predicate x ≡ is_predicate (node_specifier known x)
predicate_is known (node.ArrayOf None simple dims) = refl
predicate_is known (node.ArrayOf (Some i) simple dims) = refl
predicate_is known _ = refl

pub string_is : (known : List Specifier) (x : Node) → node_is_string x ≡ is_string (node_specifier known x)
string_is known (node.ArrayOf None simple dims) = refl
string_is known (node.ArrayOf (Some i) simple dims) = refl
string_is known _ = refl

pub weight_is : (known : List Specifier) (x : Node) → node_weight x ≡ weight (node_specifier known x)
weight_is known (node.ArrayOf None simple dims) = refl
weight_is known (node.ArrayOf (Some i) simple dims) = refl
weight_is known _ = refl

-- the pattern as a list
abbrev pub one_pattern : Option Pattern → List Pattern
one_pattern None = []
one_pattern (Some p) = p ∷ []

pub pattern_is : (known : List Specifier) (x : Node) → one_pattern (node_pattern x) ≡ pattern_of (node_specifier known x)
pattern_is known (node.ArrayOf None simple dimensions.Any) = refl
pattern_is known (node.ArrayOf None simple (dimensions.Places ps)) = refl
pattern_is known (node.ArrayOf (Some i) simple dimensions.Any) = refl
pattern_is known (node.ArrayOf (Some i) simple (dimensions.Places ps)) = refl
pattern_is known _ = refl
