-- Nodes with one key have one specifier, and the other way round.
use Rattle.std.proofs.Common.{ℕ, ◌≡◌, refl, sym, ◌∙◌, ap, List, [], ◌∷◌, append-nil, length, arith, Some, None}
use Rattle.ls_spec.specs.Specifier.{Specifier, array_any}
use Rattle.ls_spec.specs.Meaning.{specifiers_of}
use Rattle.ls_spec.specs.Keys.{key}
use Rattle.ls_spec.proofs.KeyLemmas.{key_told}
use Rattle.ls_intern.specs.declared.node.Node.{Node}
use Rattle.ls_intern.specs.declared.node.Node.TheVariants as node
use Rattle.ls_intern.specs.Places.{at, specifiers_at, node_specifier, AllBelow, PartsBelow, Distinct}
use Rattle.ls_intern.specs.NodeKeys.{node_key}

-- specifiers with one key are equal
pub same_from_key : (s t : Specifier) → key s ≡ key t → s ≡ t
same_from_key s t e = (key_told s t [] [] (append-nil (key s) ∙ e ∙ sym (append-nil (key t)))).0

-- the specifiers at distinct places tell the places
same_places : (known : List Specifier) → Distinct known → (xs ys : List ℕ) → AllBelow (length known) xs → AllBelow (length known) ys → specifiers_of (specifiers_at known xs) ≡ specifiers_of (specifiers_at known ys) → xs ≡ ys
same_places known d [] [] h k e = refl
same_places known d [] (y ∷ ys) h k e = cc
same_places known d (x ∷ xs) [] h k e = cc
same_places known d (x ∷ xs) (y ∷ ys) h k e =
    let i : at known x ≡ at known y = cc in
    let f : specifiers_of (specifiers_at known xs) ≡ specifiers_of (specifiers_at known ys) = cc in
    let j = d x y h.0 k.0 i in
    let m = same_places known d xs ys h.1 k.1 f in
    cc

-- nodes of one specifier have one key
pub key_from_specifier : (known : List Specifier) → Distinct known → (m n : Node) → PartsBelow (length known) m → PartsBelow (length known) n → node_specifier known m ≡ node_specifier known n → node_key m ≡ node_key n
key_from_specifier known d node.All node.All h k e = refl
key_from_specifier known d node.Nothing node.Nothing h k e = refl
key_from_specifier known d (node.And xs) (node.And ys) h k e = ap (λ ids. 2 ∷ ids) (same_places known d xs ys h k (cc))
key_from_specifier known d (node.Or xs) (node.Or ys) h k e = ap (λ ids. 3 ∷ ids) (same_places known d xs ys h k (cc))
key_from_specifier known d (node.Not x) (node.Not y) h k e = ap (λ id. 4 ∷ id ∷ []) (d x y h k (cc))
key_from_specifier known d (node.Eql p) (node.Eql q) h k e = ap key e
key_from_specifier known d (node.Range j lo hi) (node.Range l low high) h k e = ap key e
key_from_specifier known d (node.Chars j) (node.Chars l) h k e = ap key e
key_from_specifier known d (node.Symbols j) (node.Symbols l) h k e = ap key e
key_from_specifier known d (node.Kind j) (node.Kind l) h k e = ap key e
key_from_specifier known d (node.StructIs p) (node.StructIs q) h k e = ap key e
key_from_specifier known d node.StructAny node.StructAny h k e = refl
key_from_specifier known d (node.ArrayOf None a dims) (node.ArrayOf None b dimes) h k e = ap key e
key_from_specifier known d (node.ArrayOf (Some x) a dims) (node.ArrayOf (Some y) b dimes) h k e = let i = d x y h k (cc) in cc
key_from_specifier known d (node.StringOf a dim) (node.StringOf b dime) h k e = ap key e
key_from_specifier known d (node.ConsOf x u) (node.ConsOf y v) h k e =
    let i = d x y h.0 k.0 (cc) in
    let j = d u v h.1 k.1 (cc) in
    cc
key_from_specifier known d (node.Satisfies p) (node.Satisfies q) h k e = ap key e
key_from_specifier known d (node.ArrayOf None a dims) _ h k e = cc
key_from_specifier known d (node.ArrayOf (Some x) a dims) _ h k e = cc
key_from_specifier known d _ (node.ArrayOf None b dimes) h k e = cc
key_from_specifier known d _ (node.ArrayOf (Some y) b dimes) h k e = cc
key_from_specifier known d _ _ h k e = cc

heads : (a b : ℕ) (xs ys : List ℕ) → a ∷ xs ≡ b ∷ ys → a ≡ b
heads a b xs ys e = cc

-- the key of a node tells its specifier
pub specifier_from_key : (known : List Specifier) (m n : Node) → node_key m ≡ node_key n → node_specifier known m ≡ node_specifier known n
specifier_from_key known node.All node.All e = refl
specifier_from_key known node.Nothing node.Nothing e = refl
specifier_from_key known (node.And xs) (node.And ys) e = let i : xs ≡ ys = cc in cc
specifier_from_key known (node.Or xs) (node.Or ys) e = let i : xs ≡ ys = cc in cc
specifier_from_key known (node.Not x) (node.Not y) e = let i : x ≡ y = cc in cc
specifier_from_key known (node.Eql p) (node.Eql q) e = same_from_key _ _ e
specifier_from_key known (node.Range j lo hi) (node.Range l low high) e = same_from_key _ _ e
specifier_from_key known (node.Chars j) (node.Chars l) e = same_from_key _ _ e
specifier_from_key known (node.Symbols j) (node.Symbols l) e = same_from_key _ _ e
specifier_from_key known (node.Kind j) (node.Kind l) e = same_from_key _ _ e
specifier_from_key known (node.StructIs p) (node.StructIs q) e = same_from_key _ _ e
specifier_from_key known node.StructAny node.StructAny e = refl
specifier_from_key known (node.ArrayOf None a dims) (node.ArrayOf None b dimes) e = same_from_key _ _ e
specifier_from_key known (node.ArrayOf (Some x) a dims) (node.ArrayOf (Some y) b dimes) e =
    let i : x ≡ y = cc in
    let f : key (array_any a dims) ≡ key (array_any b dimes) = cc in
    let g : array_any a dims ≡ array_any b dimes = same_from_key _ _ f in
    cc
specifier_from_key known (node.StringOf a dim) (node.StringOf b dime) e = same_from_key _ _ e
specifier_from_key known (node.ConsOf x u) (node.ConsOf y v) e =
    let i : x ≡ y = cc in
    let j : u ≡ v = cc in
    cc
specifier_from_key known (node.Satisfies p) (node.Satisfies q) e = same_from_key _ _ e
specifier_from_key known (node.ArrayOf None a dims) _ e = absurd (omega (arith, heads _ _ _ _ e))
specifier_from_key known (node.ArrayOf (Some x) a dims) _ e = absurd (omega (arith, heads _ _ _ _ e))
specifier_from_key known _ (node.ArrayOf None b dimes) e = absurd (omega (arith, heads _ _ _ _ e))
specifier_from_key known _ (node.ArrayOf (Some y) b dimes) e = absurd (omega (arith, heads _ _ _ _ e))
specifier_from_key known _ _ e = absurd (omega (arith, heads _ _ _ _ e))
