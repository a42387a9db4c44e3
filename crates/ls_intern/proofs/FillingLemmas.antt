-- The specifiers of a table's nodes, as the table is filled.
use Rattle.std.proofs.Common.{ℕ, zero, suc, ◌≡◌, ◌<◌, ◌+◌, refl, sym, ◌∙◌, ap, subst, List, [], ◌∷◌, ◌++◌, append_assoc, append-nil, length, get_or, length-append, arith}
use Rattle.ls_spec.specs.Specifier.{Specifier}
use Rattle.ls_intern.specs.declared.node.Node.{Node}
use Rattle.ls_intern.specs.Places.{at, node_specifier, PartsBelow}
use Rattle.ls_intern.specs.Filling.{filled, specifiers_of_nodes, Ordered}
use Rattle.ls_intern.proofs.PlaceLemmas.{at_behind, node_front}

-- a node behind the others
pub filled_append : (known : List Specifier) (xs : List Node) (n : Node) → filled known (xs ++ n ∷ []) ≡ filled known xs ++ node_specifier (filled known xs) n ∷ []
filled_append known [] n = refl
filled_append known (x ∷ xs) n = filled_append (known ++ node_specifier known x ∷ []) xs n

filled_extends : (known : List Specifier) (xs : List Node) → (more : List Specifier) × (filled known xs ≡ known ++ more)
filled_extends known [] = ([], sym (append-nil known))
filled_extends known (x ∷ xs) =
    let r = filled_extends (known ++ node_specifier known x ∷ []) xs in
    (node_specifier known x ∷ r.0, r.1 ∙ append_assoc known (node_specifier known x ∷ []) r.0)

filled_length : (known : List Specifier) (xs : List Node) → length (filled known xs) ≡ length known + length xs
filled_length known [] = omega arith
filled_length known (x ∷ xs) = let r = filled_length (known ++ node_specifier known x ∷ []) xs in omega (arith, length-append known (node_specifier known x ∷ []))

-- there are as many specifiers as nodes
pub specifiers_length : (xs : List Node) → length (specifiers_of_nodes xs) ≡ length xs
specifiers_length xs = let r = filled_length [] xs in omega arith

filled_at : (known : List Specifier) (xs : List Node) (j : ℕ) (d : Node) → Ordered (length known) xs → j < length xs → at (filled known xs) (length known + j) ≡ node_specifier (filled known xs) (get_or xs j d)
filled_at known [] j d o h = absurd (omega arith)
filled_at known (x ∷ xs) zero d o h =
    let r = filled_extends known (x ∷ xs) in
    let s = filled_extends (known ++ node_specifier known x ∷ []) xs in
    let e : filled known (x ∷ xs) ≡ known ++ node_specifier known x ∷ s.0 = s.1 ∙ append_assoc known (node_specifier known x ∷ []) s.0 in
    let i : length known + 0 ≡ length known = omega arith in
    ap (λ l. at l (length known + 0)) e ∙ ap (at (known ++ node_specifier known x ∷ s.0)) i ∙ at_behind known s.0 (node_specifier known x)
    ∙ sym (node_front known (node_specifier known x ∷ s.0) x o.0) ∙ ap (λ l. node_specifier l x) (sym e)
filled_at known (x ∷ xs) (suc j) d o h =
    let n : length (known ++ node_specifier known x ∷ []) ≡ suc (length known) = omega (arith, length-append known (node_specifier known x ∷ [])) in
    let i : length known + suc j ≡ length (known ++ node_specifier known x ∷ []) + j = omega (arith, n) in
    ap (at (filled known (x ∷ xs))) i ∙ filled_at (known ++ node_specifier known x ∷ []) xs j d (subst (λ k. Ordered k xs) (sym n) o.1) (omega arith)

-- the specifier at a place is that of its node
pub specifier_of_place : (xs : List Node) (j : ℕ) (d : Node) → Ordered 0 xs → j < length xs → at (specifiers_of_nodes xs) j ≡ node_specifier (specifiers_of_nodes xs) (get_or xs j d)
specifier_of_place xs j d o h = ap (at (specifiers_of_nodes xs)) (let e : j ≡ 0 + j = omega arith in e) ∙ filled_at [] xs j d o h

parts_at : (k : ℕ) (xs : List Node) (j : ℕ) (d : Node) → Ordered k xs → j < length xs → PartsBelow (k + j) (get_or xs j d)
parts_at k [] j d o h = absurd (omega arith)
parts_at k (x ∷ xs) zero d o h = subst (λ n. PartsBelow n x) (omega arith) o.0
parts_at k (x ∷ xs) (suc j) d o h = subst (λ n. PartsBelow n (get_or xs j d)) (omega arith) (parts_at (suc k) xs j d o.1 (omega arith))

-- the parts of the node at a place stand before it
pub parts_before : (xs : List Node) (j : ℕ) (d : Node) → Ordered 0 xs → j < length xs → PartsBelow j (get_or xs j d)
parts_before xs j d o h = subst (λ n. PartsBelow n (get_or xs j d)) (let i : 0 + j ≡ j = omega arith in i) (parts_at 0 xs j d o h)

-- a node of which the parts are there may go behind the others
pub ordered_more : (k : ℕ) (xs : List Node) (n : Node) → Ordered k xs → PartsBelow (k + length xs) n → Ordered k (xs ++ n ∷ [])
ordered_more k [] n o h = (subst (λ i. PartsBelow i n) (omega arith) h, tt)
ordered_more k (x ∷ xs) n o h = (o.0, ordered_more (suc k) xs n o.1 (subst (λ i. PartsBelow i n) (omega arith) h))
