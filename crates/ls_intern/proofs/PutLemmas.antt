-- A table after a node was put in, or was found.
use Rattle.std.proofs.Common.{ℕ, zero, suc, ◌≡◌, ◌<◌, ◌+◌, refl, sym, ◌∙◌, ap, subst, List, [], ◌∷◌, ◌++◌, map, length, get_or, slice_get, Some, arith, Bool, true, false, not, true≢false, Vec}
use Rattle.std.specs.Prelude.{nat_eq, if◌then◌else◌}
use Rattle.std.specs.List.{list_any}
use Rattle.std.specs.Cmp.Lexicographic.{pointwise}
use Rattle.std.proofs.lemmas.Option.{get_or_from_slice_get, slice_get_within}
use Rattle.std.proofs.lemmas.List.Folds.{list_any_at}
use Rattle.std.proofs.lemmas.List.{map_push, length-map}
use Rattle.ls_object.proofs.SymbolLemmas.{Decides-text}
use Rattle.ls_intern.specs.declared.node.Node.{Node}
use Rattle.ls_intern.specs.Places.{at, node_specifier, PartsBelow, Distinct, Extends}
use Rattle.ls_intern.specs.NodeKeys.{node_key}
use Rattle.ls_intern.specs.Filling.{specifiers_of_nodes, AreNodes}
use Rattle.ls_intern.proofs.PlaceLemmas.{extends_none, node_front, parts_below_more, distinct_more}
use Rattle.ls_intern.proofs.FillingLemmas.{filled_append, specifiers_length, specifier_of_place, parts_before, ordered_more}
use Rattle.ls_intern.proofs.KeyLemmas.{key_from_specifier, specifier_from_key}

-- lists that are equal under two maps, at one place
same_at : {A B : Type 0} (f : A → List ℕ) (g : B → List ℕ) (xs : List A) (ys : List B) (i : ℕ) (d : A) (e : B) → map f xs ≡ map g ys → i < length xs → f (get_or xs i d) ≡ g (get_or ys i e)
same_at f g [] ys i d e h l = absurd (omega arith)
same_at f g (x ∷ xs) [] i d e h l = cc
same_at f g (x ∷ xs) (y ∷ ys) zero d e h l = cc
same_at f g (x ∷ xs) (y ∷ ys) (suc i) d e h l = same_at f g xs ys i d e (cc) (omega arith)

-- what a table is after a node was put in or found
pub record IsPut (nodes news : List Node) (n : Node) (id : ℕ) : Type 0 where
  pub grows : Extends (specifiers_of_nodes nodes) (specifiers_of_nodes news)
  pub within : id < length (specifiers_of_nodes news)
  pub is : at (specifiers_of_nodes news) id ≡ node_specifier (specifiers_of_nodes nodes) n

-- whether a key was there, from what `insert_full` answers
was_there : (is_new there : Bool) → is_new ≡ not there → is_new ≡ false → there ≡ true
was_there is_new true e f = refl
was_there is_new false e f = cc

was_new : (is_new there : Bool) → is_new ≡ not there → is_new ≡ true → there ≡ false
was_new is_new true e f = cc
was_new is_new false e f = refl

module _ {Y : Type 0} where
  -- there are as many keys as nodes
  pub keys_length : (keys : List (Vec ℕ Y)) (nodes : List Node) → AreNodes keys nodes → length keys ≡ length nodes
  keys_length keys nodes ok = sym (length-map keys (λ k. k.items)) ∙ ap length ok.keyed ∙ length-map nodes node_key

  -- the place of an equal key is the place of the node's specifier
  found_at : (keys : List (Vec ℕ Y)) (nodes : List Node) (k stored : Vec ℕ Y) (n : Node) (id : ℕ) → AreNodes keys nodes → k.items ≡ node_key n → slice_get keys id ≡ Some stored → pointwise nat_eq k.items stored.items ≡ true
      → (id < length (specifiers_of_nodes nodes)) × (at (specifiers_of_nodes nodes) id ≡ node_specifier (specifiers_of_nodes nodes) n)
  found_at keys nodes k stored n id ok is e same =
      let l = slice_get_within keys id stored e in
      let m = keys_length keys nodes ok in
      let r = specifiers_length nodes in
      let s = get_or_from_slice_get keys id stored stored e in
      let t = same_at (λ x. x.items) node_key keys nodes id stored n ok.keyed l in
      let u = (Decides-text k.items stored.items).0 same in
      let v : node_key (get_or nodes id n) ≡ node_key n = sym t ∙ ap (λ x. x.items) s ∙ sym u ∙ is in
      (omega arith, specifier_of_place nodes id n ok.ordered (omega arith) ∙ specifier_from_key (specifiers_of_nodes nodes) (get_or nodes id n) n v)

  -- no specifier of the table is that of a node without an equal key
  is_new : (keys : List (Vec ℕ Y)) (nodes : List Node) (k : Vec ℕ Y) (n : Node) → AreNodes keys nodes → k.items ≡ node_key n → PartsBelow (length (specifiers_of_nodes nodes)) n → list_any (λ x. pointwise nat_eq k.items x.items) keys ≡ false
      → (j : ℕ) → j < length (specifiers_of_nodes nodes) → at (specifiers_of_nodes nodes) j ≡ node_specifier (specifiers_of_nodes nodes) n → ⊥
  is_new keys nodes k n ok is below none j h e =
      let m = keys_length keys nodes ok in
      let r = specifiers_length nodes in
      let p = specifier_of_place nodes j n ok.ordered (omega arith) in
      let b = parts_below_more j (length (specifiers_of_nodes nodes)) (get_or nodes j n) (omega arith) (parts_before nodes j n ok.ordered (omega arith)) in
      let q = key_from_specifier (specifiers_of_nodes nodes) ok.distinct n (get_or nodes j n) below b (sym e ∙ p) in
      let t = same_at (λ x. x.items) node_key keys nodes j k n ok.keyed (omega arith) in
      let u = (Decides-text k.items (get_or keys j k).items).1 (is ∙ q ∙ sym t) in
      true≢false (sym (list_any_at (λ x. pointwise nat_eq k.items x.items) keys j k (omega arith) u) ∙ none)

  -- a new node goes behind the others
  pub nodes_more : (keys : List (Vec ℕ Y)) (nodes : List Node) (k : Vec ℕ Y) (n : Node) → AreNodes keys nodes → k.items ≡ node_key n → PartsBelow (length (specifiers_of_nodes nodes)) n → list_any (λ x. pointwise nat_eq k.items x.items) keys ≡ false
      → AreNodes (keys ++ k ∷ []) (nodes ++ n ∷ [])
  nodes_more keys nodes k n ok is below none =
      let r = specifiers_length nodes in
      record {
        keyed = map_push (λ x. x.items) keys k ∙ ap (λ l. l ++ k.items ∷ []) ok.keyed ∙ ap (λ l. map node_key nodes ++ l ∷ []) is ∙ sym (map_push node_key nodes n);
        ordered = ordered_more 0 nodes n ok.ordered (subst (λ i. PartsBelow i n) (let i : length (specifiers_of_nodes nodes) ≡ 0 + length nodes = omega arith in i) below);
        distinct = subst Distinct (sym (filled_append [] nodes n)) (distinct_more (specifiers_of_nodes nodes) (node_specifier (specifiers_of_nodes nodes) n) ok.distinct (is_new keys nodes k n ok is below none));
      }

  -- the keys after `insert_full`
  abbrev keys_after : List (Vec ℕ Y) → Vec ℕ Y → List (Vec ℕ Y)
  keys_after keys k = if list_any (λ x. pointwise nat_eq k.items x.items) keys then keys else keys ++ k ∷ []

  -- where the key is found
  abbrev IsStored : List (Vec ℕ Y) → Vec ℕ Y → ℕ → Type 0
  IsStored keys k id = (stored : Vec ℕ Y) × (slice_get keys id ≡ Some stored) × (pointwise nat_eq k.items stored.items ≡ true)

  -- a node that was found: nothing changes
  pub put_found : (keys news : List (Vec ℕ Y)) (nodes after : List Node) (k : Vec ℕ Y) (n : Node) (id : ℕ) (is_new : Bool) → AreNodes keys nodes → k.items ≡ node_key n
      → news ≡ keys_after keys k → is_new ≡ not (list_any (λ x. pointwise nat_eq k.items x.items) keys) → IsStored news k id → is_new ≡ false → after ≡ nodes → IsPut nodes after n id
  put_found keys news nodes after k n id is_new ok is e added stored old same =
      let same_keys : news ≡ keys = e ∙ ap (λ b. if b then keys else keys ++ k ∷ []) (was_there is_new _ added old) in
      let f = found_at keys nodes k stored.0 n id ok is (subst (λ l. slice_get l id ≡ Some stored.0) same_keys stored.1) stored.2 in
      subst (λ l. IsPut nodes l n id) (sym same) (record { grows = extends_none (specifiers_of_nodes nodes); within = f.0; is = f.1 })

  -- a node that was put in: it stands behind the others
  pub put_new : (keys news : List (Vec ℕ Y)) (nodes after : List Node) (k : Vec ℕ Y) (n : Node) (id : ℕ) (is_new : Bool) → AreNodes keys nodes → k.items ≡ node_key n → PartsBelow (length (specifiers_of_nodes nodes)) n
      → news ≡ keys_after keys k → is_new ≡ not (list_any (λ x. pointwise nat_eq k.items x.items) keys) → IsStored news k id → is_new ≡ true → after ≡ nodes ++ n ∷ [] → IsPut nodes after n id × AreNodes news after
  put_new keys news nodes after k n id is_new ok is below e added stored new more =
      let none = was_new is_new _ added new in
      let more_keys : news ≡ keys ++ k ∷ [] = e ∙ ap (λ b. if b then keys else keys ++ k ∷ []) none in
      let grown = nodes_more keys nodes k n ok is below none in
      let s = node_specifier (specifiers_of_nodes nodes) n in
      let g : specifiers_of_nodes (nodes ++ n ∷ []) ≡ specifiers_of_nodes nodes ++ s ∷ [] = filled_append [] nodes n in
      let f = found_at (keys ++ k ∷ []) (nodes ++ n ∷ []) k stored.0 n id grown is (subst (λ l. slice_get l id ≡ Some stored.0) more_keys stored.1) stored.2 in
      let put : IsPut nodes (nodes ++ n ∷ []) n id = record { grows = record { more = s ∷ []; is = g }; within = f.0; is = f.1 ∙ ap (λ l. node_specifier l n) g ∙ node_front (specifiers_of_nodes nodes) (s ∷ []) n below } in
      (subst (λ l. IsPut nodes l n id) (sym more) put, subst (λ l. AreNodes l after) (sym more_keys) (subst (AreNodes (keys ++ k ∷ [])) (sym more) grown))
