-- Whether one object belongs to an approximation of a specifier, part by part.
use Rattle.std.proofs.Common.{ℕ, zero, suc, ◌≡◌, ◌<◌, ◌≤◌, ◌+◌, refl, sym, ◌∙◌, ap, subst, Bool, true, false, not, ◌==◌, List, [], ◌∷◌, length, drop, get_or, add-one, drop-cons, arith, Decides, inl}
use Rattle.std.specs.Prelude.{Result, IfOk}
use Rattle.std.proofs.lemmas.Bool.Decides.{Decides-and, Decides-or, Decides-at}
use Rattle.std.proofs.lemmas.Result.{IfOk-weaker}
use Rattle.ls_object.specs.declared.object.Object.{Object}
use Rattle.ls_object.specs.declared.symbol.Symbol.{Symbol}
use Rattle.ls_object.specs.declared.table.TheConstants.{TABLE_LEN}
use Rattle.ls_object.specs.Universe.{LispObject, node, LispShape, Structures}
use Rattle.ls_object.specs.Inclusion.{under_in, IsInclusionOrder}
use Rattle.ls_object.specs.Meaning.{lisp_object, lisp_shape}
use Rattle.ls_object.proofs.MeaningLemmas.{lisp_object_is}
use Rattle.ls_object.proofs.UnderLemmas.{Decides-under_in}
use Rattle.ls_spec.specs.declared.spec.DimPattern.{DimPattern}
use Rattle.ls_spec.specs.Specifier.{Specifier, and_of, or_of, not_of, structure_under, array_of, satisfies, Specifiers, no_more, also}
use Rattle.ls_spec.specs.Meaning.{specifiers_of}
use Rattle.ls_spec.specs.Membership.{Belongs, UpgradesTo}
use Rattle.ls_spec.specs.Approximation.{HasNoPredicate, HaveNoPredicate}
use Rattle.ls_spec.specs.SelfContained.{IsSelfContained}
use Rattle.ls_spec.specs.Truth.{Learnt, holds, all_hold, some_holds, nothing_learnt, is_structure_under, is_array_with, matches_dimensions}
use Rattle.ls_spec.proofs.TruthLemmas.{holds-Decides, Decides-self_contained}
use Rattle.ls_spec.proofs.PlainLemmas.{bounded-no_predicate}
use Rattle.ls_intern.specs.declared.node.Node.{Node}
use Rattle.ls_intern.specs.Places.{at, specifiers_at, node_specifier}
use Rattle.ls_cells.specs.Codes.{Codes, HasCodes, HaveCodes}
use Rattle.ls_decide.specs.steps.Belonging.{Tells}

-- ---- by the node of a table that was lent

-- what a node says
pub node_said : (lent known : List Specifier) (id : ℕ) (n m : Node) → lent ≡ known → node_specifier lent n ≡ at lent id → n ≡ m → node_specifier known m ≡ at known id
node_said lent known id n m e says is = subst (λ (k : List Specifier). node_specifier k m ≡ at k id) e (subst (λ (x : Node). node_specifier lent x ≡ at lent id) is says)

-- the codes of its element types
pub node_coded : (codes : Codes) (known : List Specifier) (id : ℕ) (m : Node) → node_specifier known m ≡ at known id → HasCodes codes (at known id) → HasCodes codes (node_specifier known m)
node_coded codes known id m says h = subst (HasCodes codes) (sym says) h

-- those of one of several parts
pub coded_at : (codes : Codes) (known : List Specifier) (ids : List ℕ) (i : ℕ) → HaveCodes codes (specifiers_of (specifiers_at known ids)) → i < length ids → HasCodes codes (at known (get_or ids i 0))
coded_at codes known [] i h l = absurd (omega (arith, l))
coded_at codes known (id ∷ ids) zero h l = h.0
coded_at codes known (id ∷ ids) (suc i) h l = coded_at codes known ids i h.1 (omega (arith, l))

-- ---- leaves

mutual
  -- without predicates the marks of the top node say nothing
  bare_holds : (s : Specifier) (marks : List Symbol) (shape : LispShape) → HasNoPredicate s → holds nothing_learnt s (node marks shape) ≡ holds nothing_learnt s (node [] shape)
  bare_holds (and_of ss) marks shape h = bare_all_hold ss marks shape h
  bare_holds (or_of ss) marks shape h = bare_some_holds ss marks shape h
  bare_holds (not_of s) marks shape h = ap not (bare_holds s marks shape h)
  bare_holds (satisfies p) marks shape h = absurd h
  bare_holds _ marks shape h = refl

  bare_all_hold : (ss : Specifiers) (marks : List Symbol) (shape : LispShape) → HaveNoPredicate ss → all_hold nothing_learnt ss (node marks shape) ≡ all_hold nothing_learnt ss (node [] shape)
  bare_all_hold no_more marks shape h = refl
  bare_all_hold (also s ss) marks shape h = let e = bare_holds s marks shape h.0 in let f = bare_all_hold ss marks shape h.1 in cc

  bare_some_holds : (ss : Specifiers) (marks : List Symbol) (shape : LispShape) → HaveNoPredicate ss → some_holds nothing_learnt ss (node marks shape) ≡ some_holds nothing_learnt ss (node [] shape)
  bare_some_holds no_more marks shape h = refl
  bare_some_holds (also s ss) marks shape h = let e = bare_holds s marks shape h.0 in let f = bare_some_holds ss marks shape h.1 in cc

-- an atom that names no structure type and no element type is tested by itself
leaf_told : {E : Type 0} (structures : Structures) (upper : Bool) (s t : Specifier) (o : Object) (r : Result Bool E) → s ≡ t → IsSelfContained s → HasNoPredicate s
    → IfOk r (λ b. b ≡ holds nothing_learnt t (node [] (lisp_shape o.shape))) → IfOk r (Tells structures upper t (lisp_object o))
leaf_told structures upper s t o r e alone free h =
    IfOk-weaker r (λ b. b ≡ holds nothing_learnt t (node [] (lisp_shape o.shape))) (Tells structures upper t (lisp_object o))
    (λ b k. subst (λ (x : Specifier). Tells structures upper x (lisp_object o) b) e
    (subst (λ (x : Specifier). Decides b (Belongs structures x (lisp_object o))) (sym (bounded-no_predicate upper s free))
    (Decides-self_contained s (lisp_object o) b
    (k ∙ ap (λ (x : Specifier). holds nothing_learnt x (node [] (lisp_shape o.shape))) (sym e) ∙ sym (bare_holds s o.marks (lisp_shape o.shape) free) ∙ ap (holds nothing_learnt s) (sym (lisp_object_is o)))
    alone structures))) h

-- the same by its node
pub leaf_node : {E : Type 0} (structures : Structures) (upper : Bool) (lent known : List Specifier) (id : ℕ) (n m : Node) (o : Object) (r : Result Bool E) → lent ≡ known → node_specifier lent n ≡ at lent id → n ≡ m
    → IsSelfContained (node_specifier known m) → HasNoPredicate (node_specifier known m)
    → IfOk r (λ b. b ≡ holds nothing_learnt (at lent id) (node [] (lisp_shape o.shape))) → IfOk r (Tells structures upper (at known id) (lisp_object o))
leaf_node structures upper lent known id n m o r e says is alone free h =
    leaf_told structures upper (node_specifier known m) (at known id) o r (node_said lent known id n m e says is) alone free
    (subst (λ (k : List Specifier). IfOk r (λ b. b ≡ holds nothing_learnt (at k id) (node [] (lisp_shape o.shape)))) e h)

-- ---- atoms that ask for more

-- by what holds of the object, where what was learnt of the specifier is right
told_by : (structures : Structures) (learnt : Learnt) (upper : Bool) (s t : Specifier) (o : Object) (told : Bool) → s ≡ t → HasNoPredicate s
    → Decides (holds learnt s (lisp_object o)) (Belongs structures s (lisp_object o)) → told ≡ holds learnt s (node o.marks (lisp_shape o.shape)) → Tells structures upper t (lisp_object o) told
told_by structures learnt upper s t o told e free d h =
    subst (λ (x : Specifier). Tells structures upper x (lisp_object o) told) e
    (subst (λ (x : Specifier). Decides told (Belongs structures x (lisp_object o))) (sym (bounded-no_predicate upper s free))
    (Decides-at told _ (h ∙ ap (holds learnt s) (sym (lisp_object_is o))) d))

-- a structure type
pub structure_told : (structures parents : Structures) (upper : Bool) (y : Symbol) (t : Specifier) (o : Object) (told : Bool) → parents ≡ structures → IsInclusionOrder structures → structure_under y ≡ t
    → told ≡ is_structure_under (under_in parents) y (lisp_shape o.shape) → Tells structures upper t (lisp_object o) told
structure_told structures parents upper y t o told same order e h =
    let learnt : Learnt = record { code_of = λ f. TABLE_LEN; under = under_in structures } in
    told_by structures learnt upper (structure_under y) t o told e tt (holds-Decides structures learnt (structure_under y) (lisp_object o) (λ x. Decides-under_in structures x y order))
    (h ∙ ap (λ (ps : Structures). is_structure_under (under_in ps) y (lisp_shape o.shape)) same)

-- arrays with an element type
pub array_told : (structures : Structures) (upper : Bool) (e : Specifier) (simple : Bool) (dims : DimPattern) (t : Specifier) (o : Object) (code : ℕ) (told : Bool) → array_of e simple dims ≡ t → UpgradesTo structures e code
    → told ≡ is_array_with (λ c. c == code) simple (matches_dimensions dims) (lisp_shape o.shape) → Tells structures upper t (lisp_object o) told
array_told structures upper e simple dims t o code told is upgrades h =
    let learnt : Learnt = record { code_of = λ f. code; under = λ x y. false } in
    told_by structures learnt upper (array_of e simple dims) t o told is tt (holds-Decides structures learnt (array_of e simple dims) (lisp_object o) upgrades) h

-- ---- AND and OR

module _ (structures : Structures) (upper : Bool) (known : List Specifier) (o : LispObject) where
  abbrev pub AllTold : List ℕ → Bool → Type 0
  AllTold ids told = Tells structures upper (and_of (specifiers_of (specifiers_at known ids))) o told

  abbrev pub SomeTold : List ℕ → Bool → Type 0
  SomeTold ids told = Tells structures upper (or_of (specifiers_of (specifiers_at known ids))) o told

  here : (ids : List ℕ) (i : ℕ) → i < length ids → drop i ids ≡ get_or ids i 0 ∷ drop (i + 1) ids
  here ids i l = rw (add-one, drop-cons ids i 0)

  -- a part to which the object belongs leaves an AND to the others, and one to which it doesn't tells of an AND
  pub all_more : (ids : List ℕ) (i : ℕ) → i < length ids → Tells structures upper (at known (get_or ids i 0)) o true → (told : Bool) → AllTold (drop (i + 1) ids) told → AllTold (drop i ids) told
  all_more ids i l part told rest = subst (λ (js : List ℕ). AllTold js told) (sym (here ids i l)) (Decides-and true told part rest)

  pub all_ends : (ids : List ℕ) (i : ℕ) → i < length ids → Tells structures upper (at known (get_or ids i 0)) o false → AllTold (drop i ids) false
  all_ends ids i l part = subst (λ (js : List ℕ). AllTold js false) (sym (here ids i l)) (λ e. absurd (cc), λ h. part.1 h.0)

  -- in an OR the other way round
  pub some_more : (ids : List ℕ) (i : ℕ) → i < length ids → Tells structures upper (at known (get_or ids i 0)) o false → (told : Bool) → SomeTold (drop (i + 1) ids) told → SomeTold (drop i ids) told
  some_more ids i l part told rest = subst (λ (js : List ℕ). SomeTold js told) (sym (here ids i l)) (Decides-or false told part rest)

  pub some_ends : (ids : List ℕ) (i : ℕ) → i < length ids → Tells structures upper (at known (get_or ids i 0)) o true → SomeTold (drop i ids) true
  some_ends ids i l part = subst (λ (js : List ℕ). SomeTold js true) (sym (here ids i l)) (λ e. inl (part.0 refl), λ h. refl)

  -- behind the last part
  pub all_none : (ids : List ℕ) (i : ℕ) → length ids ≤ i → AllTold (drop i ids) true
  all_none [] zero l = (λ _. tt, λ _. refl)
  all_none [] (suc i) l = (λ _. tt, λ _. refl)
  all_none (id ∷ ids) zero l = absurd (omega (arith, l))
  all_none (id ∷ ids) (suc i) l = all_none ids i (omega (arith, l))

  pub some_none : (ids : List ℕ) (i : ℕ) → length ids ≤ i → SomeTold (drop i ids) false
  some_none [] zero l = (λ e. cc, λ h. absurd h)
  some_none [] (suc i) l = (λ e. cc, λ h. absurd h)
  some_none (id ∷ ids) zero l = absurd (omega (arith, l))
  some_none (id ∷ ids) (suc i) l = some_none ids i (omega (arith, l))
