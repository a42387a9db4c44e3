-- What a node says of the parts of its specifier.
use Rattle.std.proofs.Common.{ℕ, ◌≡◌, ◌<◌, refl, sym, ◌∙◌, ap, subst, List, [], ◌∷◌, ◌++◌, append-nil, Some, None}
use Rattle.std.specs.List.{flat_map}
use Rattle.ls_spec.specs.Specifier.{Specifier}
use Rattle.ls_spec.specs.Meaning.{specifiers_of}
use Rattle.ls_spec.specs.Atoms.{leaves, leaves_of_all}
use Rattle.ls_lists.specs.Sides.{car_of, cdr_of}
use Rattle.ls_intern.specs.declared.node.Node.{Node}
use Rattle.ls_intern.specs.declared.node.Node.TheVariants as node
use Rattle.ls_intern.specs.Places.{at, specifiers_at, node_specifier, AllBelow, PartsBelow}
use Rattle.ls_sides.specs.Nodes.{node_branches, node_sides}

pub none_some : {A : Type 0} {x : A} → None ≡ Some x → ⊥
none_some e = cc

pub some_same : {A : Type 0} (x y : A) → Some x ≡ Some y → x ≡ y
some_same x y e = cc

-- the parts of a node are below it
pub branches_below : (n : ℕ) (x : Node) (ids : List ℕ) → PartsBelow n x → node_branches x ≡ Some ids → AllBelow n ids
branches_below n node.All ids h e = subst (AllBelow n) (some_same [] ids e) tt
branches_below n node.Nothing ids h e = subst (AllBelow n) (some_same [] ids e) tt
branches_below n (node.And parts) ids h e = subst (AllBelow n) (some_same parts ids e) h
branches_below n (node.Or parts) ids h e = subst (AllBelow n) (some_same parts ids e) h
branches_below n (node.Not part) ids h e = subst (AllBelow n) (some_same (part ∷ []) ids e) (h, tt)
branches_below n _ ids h e = absurd (none_some e)

-- the leaves of several specifiers, in order
pub leaves_each : (list : List Specifier) → leaves_of_all (specifiers_of list) ≡ flat_map leaves list
leaves_each [] = refl
leaves_each (s ∷ list) = ap (λ l. leaves s ++ l) (leaves_each list)

-- the leaves of what isn't an atom are those of its parts
pub branches_leaves : (known : List Specifier) (x : Node) (ids : List ℕ) → node_branches x ≡ Some ids → leaves (node_specifier known x) ≡ flat_map leaves (specifiers_at known ids)
branches_leaves known node.All ids e = ap (λ l. flat_map leaves (specifiers_at known l)) (some_same [] ids e)
branches_leaves known node.Nothing ids e = ap (λ l. flat_map leaves (specifiers_at known l)) (some_same [] ids e)
branches_leaves known (node.And parts) ids e = leaves_each (specifiers_at known parts) ∙ ap (λ l. flat_map leaves (specifiers_at known l)) (some_same parts ids e)
branches_leaves known (node.Or parts) ids e = leaves_each (specifiers_at known parts) ∙ ap (λ l. flat_map leaves (specifiers_at known l)) (some_same parts ids e)
branches_leaves known (node.Not part) ids e = sym (append-nil (leaves (at known part))) ∙ ap (λ l. flat_map leaves (specifiers_at known l)) (some_same (part ∷ []) ids e)
branches_leaves known _ ids e = absurd (none_some e)

-- an atom is its one leaf
pub atom_leaves : (known : List Specifier) (x : Node) → node_branches x ≡ None → leaves (node_specifier known x) ≡ node_specifier known x ∷ []
atom_leaves known node.All e = absurd (cc)
atom_leaves known node.Nothing e = absurd (cc)
atom_leaves known (node.And parts) e = absurd (cc)
atom_leaves known (node.Or parts) e = absurd (cc)
atom_leaves known (node.Not part) e = absurd (cc)
atom_leaves known (node.ArrayOf None simple dims) e = refl
atom_leaves known (node.ArrayOf (Some elem) simple dims) e = refl
atom_leaves known _ e = refl

-- the car and the cdr of a CONS
pub sides_some : (known : List Specifier) (n : ℕ) (x : Node) (car cdr : ℕ) → PartsBelow n x → node_sides x ≡ Some (car, cdr)
    → ((car < n) × (cdr < n)) × ((car_of (node_specifier known x) ≡ at known car ∷ []) × (cdr_of (node_specifier known x) ≡ at known cdr ∷ []))
sides_some known n (node.ConsOf a b) car cdr h e =
    let same = some_same (a, b) (car, cdr) e in
    let f = ap (λ p. p.0) same in
    let g = ap (λ p. p.1) same in
    ((subst (λ i. i < n) f h.0, subst (λ i. i < n) g h.1), (ap (λ i. at known i ∷ []) f, ap (λ i. at known i ∷ []) g))
sides_some known n _ car cdr h e = absurd (none_some e)

pub sides_none : (known : List Specifier) (x : Node) → node_sides x ≡ None → (car_of (node_specifier known x) ≡ []) × (cdr_of (node_specifier known x) ≡ [])
sides_none known (node.ConsOf a b) e = absurd (cc)
sides_none known (node.ArrayOf None simple dims) e = (refl, refl)
sides_none known (node.ArrayOf (Some elem) simple dims) e = (refl, refl)
sides_none known _ e = (refl, refl)
