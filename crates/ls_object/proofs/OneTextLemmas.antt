-- Objects: no two plain ones have one text.
use Rattle.std.proofs.Common.{ℕ, ◌≡◌, ◌<◌, Bool, true, false, not, ◌==◌, ◌&&◌, if◌then◌else◌, List, [], ◌∷◌, ◌++◌, codes, ◌⊎◌, inl, inr, refl, sym, ap, ◌∙◌, append_assoc, append-nil, arith}
use Rattle.std.proofs.lemmas.Bool.{true≢false, cond-true, cond-false, ne_eqb, eqb-true, false_from_ne_true, cond_both, or_left, and_parts}
use Rattle.std.specs.List.{list_any}
use Rattle.ls_object.specs.declared.kind.Kind.{Kind}
use Rattle.ls_object.specs.declared.kind.Kind.TheVariants.{SingleFloat}
use Rattle.std.specs.Char.{IsScalar}
use Rattle.std.proofs.lemmas.List.{append_cancel_left}
use Rattle.ls_object.specs.declared.symbol.Symbol.{Symbol}
use Rattle.ls_object.specs.declared.table.TheConstants.{TABLE_LEN}
use Rattle.ls_object.specs.Symbols.{nil_symbol}
use Rattle.ls_object.specs.Universe.{LispObject, node, LispShape, number, character, symbol, pair, array, structure, opaque, Structures, IsObject, IsShape, IsPlain, plain, plain_shape}
use Rattle.ls_object.specs.ObjectText.{object_text, shape_text, rest_text, number_text, symbol_text, kind_text, is_nil, is_text, is_digit, is_bare_char, is_barred_start}
use Rattle.ls_object.proofs.ReadingLemmas.{or_true, is_end, same_head, same_tail}
use Rattle.ls_object.proofs.NameTextLemmas.{is_name_start}
use Rattle.ls_object.proofs.SymbolTextLemmas.{one_symbol, same_text, symbol_start, is_symbol_start}
use Rattle.ls_object.proofs.NumberTextLemmas.{same_number, number_start, number_some, is_number_start}
use Rattle.ls_object.proofs.CharacterTextLemmas.{same_character}
use Rattle.ls_object.proofs.ArrayTextLemmas.{same_array, same_kind}

-- the text begins with these characters
abbrev begins : List ℕ → List ℕ → Bool
begins [] t = true
begins (c ∷ cs) [] = false
begins (c ∷ cs) (d ∷ ds) = (c == d) && begins cs ds

-- which shape a text is of that goes on behind a #
abbrev class_behind : List ℕ → ℕ
class_behind t =
    if begins (codes "\\") t then 1 else (if begins (codes "<ARRAY ") t then 4 else (if begins (codes "<STRUCTURE ") t then 5 else 6))

-- which shape a text is of, by its first characters
abbrev class_of_text : List ℕ → ℕ
class_of_text [] = 2
class_of_text (c ∷ cs) =
    if c == 40 then 3 else (if c == 35 then class_behind cs else (if is_number_start c then 0 else 2))

-- which shape it is
abbrev class_of : LispShape → ℕ
class_of (number n d) = 0
class_of (character c) = 1
class_of (symbol s) = 2
class_of (pair car cdr) = 3
class_of (array code simple dims) = 4
class_of (structure s) = 5
class_of (opaque k) = 6

-- a character that passes a test is none that fails it
other_char : (p : ℕ → Bool) (c x : ℕ) → p c ≡ true → p x ≡ false → (c == x) ≡ false
other_char p c x h k = ne_eqb c x (λ e. true≢false (sym h ∙ ap p e ∙ k))

-- the class of a text whose first character is no bracket and no #
plain_class : (c : ℕ) (u : List ℕ) → (c == 40) ≡ false → (c == 35) ≡ false → class_of_text (c ∷ u) ≡ (if is_number_start c then 0 else 2)
plain_class c u e f = rw (e, f) refl

-- the class of a text whose first character begins a number
number_class : (t : List ℕ) → ((c : ℕ) (u : List ℕ) → t ≡ c ∷ u → is_number_start c ≡ true) → (t ≡ [] → ⊥) → class_of_text t ≡ 0
number_class [] h some = absurd (some refl)
number_class (c ∷ u) h some =
    let first = h c u refl in
    plain_class c u (other_char is_number_start c 40 first refl) (other_char is_number_start c 35 first refl) ∙ cond-true (is_number_start c) 0 2 first

-- a character that begins a number begins no bare name
number_is_barred : (c : ℕ) → is_number_start c ≡ true → is_barred_start c ≡ true
number_is_barred c e =
    elim (or_true (c == 45) (is_digit c) e) as (λ _. is_barred_start c ≡ true) [
      | inl sign ↦ ap is_barred_start (eqb-true c 45 sign)
      | inr digit ↦ or_left (is_digit c) (list_any (λ x. x == c) (codes "+-./")) digit
    ]

-- a character that begins a symbol begins no number
symbol_apart : (c : ℕ) → is_symbol_start c ≡ true → is_number_start c ≡ true → ⊥
symbol_apart c h e =
    elim (or_true (c == 58) (is_name_start c) h) as (λ _. ⊥) [
      | inl colon ↦ true≢false (sym e ∙ ap is_number_start (eqb-true c 58 colon))
      | inr name ↦ elim (or_true (c == 124) (is_bare_char c && not (is_barred_start c)) name) as (λ _. ⊥) [
        | inl bar ↦ true≢false (sym e ∙ ap is_number_start (eqb-true c 124 bar))
        | inr bare ↦ true≢false (sym (and_parts (is_bare_char c) (not (is_barred_start c)) bare).1 ∙ ap not (number_is_barred c e))
      ]
    ]

symbol_no_number : (c : ℕ) → is_symbol_start c ≡ true → is_number_start c ≡ false
symbol_no_number c h = false_from_ne_true (is_number_start c) (symbol_apart c h)

-- the class of a text whose first character begins a symbol
symbol_class : (t : List ℕ) → ((c : ℕ) (u : List ℕ) → t ≡ c ∷ u → is_symbol_start c ≡ true) → class_of_text t ≡ 2
symbol_class [] h = refl
symbol_class (c ∷ u) h =
    let first = h c u refl in
    plain_class c u (other_char is_symbol_start c 40 first refl) (other_char is_symbol_start c 35 first refl) ∙ cond-false (is_number_start c) 0 2 (symbol_no_number c first)

-- an object of a kind
opaque_class : (k : Kind) (t : List ℕ) → class_of_text (codes "#<" ++ kind_text k ++ codes ">" ++ t) ≡ 6
opaque_class SingleFloat t = refl
opaque_class _ t = refl

-- a text with more behind it has the class of its shape
text_class : (a : LispShape) (t : List ℕ) → class_of_text (shape_text a ++ t) ≡ class_of a
text_class (number n d) t = number_class (number_text n d ++ t) (number_start n d t) (number_some n d t)
text_class (character c) t = refl
text_class (symbol s) t = symbol_class (symbol_text s ++ t) (symbol_start s t)
text_class (pair car cdr) t = refl
text_class (array code simple dims) t = refl
text_class (structure s) t = refl
text_class (opaque k) t = opaque_class k t

-- the rest of a list is an end of the object before it
rest_is_end : (o : LispObject) (t : List ℕ) → is_end (rest_text o ++ t) ≡ true
rest_is_end (node marks (pair car cdr)) t = refl
rest_is_end (node marks (symbol s)) t = cond_both (is_nil s) (codes ")") (codes " . " ++ symbol_text s ++ codes ")") (λ u. is_end (u ++ t) ≡ true) (λ _. refl) (λ _. refl)
rest_is_end (node marks (number n d)) t = refl
rest_is_end (node marks (character c)) t = refl
rest_is_end (node marks (array code simple dims)) t = refl
rest_is_end (node marks (structure s)) t = refl
rest_is_end (node marks (opaque k)) t = refl

-- a shape that an object of the universe may have, apart from what its structures are
abbrev mutual
  IsSound : LispObject → Type 0
  IsSound (node marks shape) = (marks ≡ []) × IsSoundShape shape

  IsSoundShape : LispShape → Type 0
  IsSoundShape (character c) = IsScalar c
  IsSoundShape (pair car cdr) = IsSound car × IsSound cdr
  IsSoundShape (array code simple dims) = code < TABLE_LEN
  IsSoundShape _ = Unit {0}

-- two shapes with one text have one class
same_class : (a b : LispShape) (r s : List ℕ) → shape_text a ++ r ≡ shape_text b ++ s → class_of a ≡ class_of b
same_class a b r s e = sym (text_class a r) ∙ ap class_of_text e ∙ text_class b s

-- two atoms, up to the end of an object
same_atom : (a b : LispShape) (r s : List ℕ) → IsSoundShape a → IsSoundShape b → (class_of a ≡ 3 → ⊥) → is_end r ≡ true → is_end s ≡ true → shape_text a ++ r ≡ shape_text b ++ s → (a ≡ b) × (r ≡ s)
same_atom (number n d) (number m e) r s ha hb atom hr hs h = let both = same_number n m d e r s hr hs h in (cc (both.0, both.1), both.2)
same_atom (character c) (character d) r s ha hb atom hr hs h = let both = same_character c d r s ha hb hr hs h in (ap character both.0, both.1)
same_atom (symbol x) (symbol y) r s ha hb atom hr hs h =
    let both = one_symbol false x y r s hr hs (ap (λ t. t ++ r) (append-nil (symbol_text x)) ∙ h ∙ ap (λ t. t ++ s) (sym (append-nil (symbol_text y)))) in
    (ap symbol both.0, both.1)
same_atom (pair car cdr) b r s ha hb atom hr hs h = absurd (atom refl)
same_atom (array c a ns) (array d b ms) r s ha hb atom hr hs h =
    let all = same_array c d a b ns ms r s ha hb h in
    (cc (all.0, all.1, all.2), all.3)
same_atom (structure x) (structure y) r s ha hb atom hr hs h =
    let inner = append_cancel_left (codes "#<STRUCTURE ") (symbol_text x ++ codes ">" ++ r) (symbol_text y ++ codes ">" ++ s) h in
    let both = one_symbol true x y r s hr hs inner in
    (ap structure both.0, both.1)
same_atom (opaque k) (opaque j) r s ha hb atom hr hs h =
    let both = same_kind k j r s hr hs (same_tail 60 60 (kind_text k ++ codes ">" ++ r) (kind_text j ++ codes ">" ++ s) (same_tail 35 35 (60 ∷ (kind_text k ++ codes ">" ++ r)) (60 ∷ (kind_text j ++ codes ">" ++ s)) h)) in
    (ap opaque both.0, both.1)
same_atom a b r s ha hb atom hr hs h = let e = same_class a b r s h in absurd (omega (arith, e))

-- no object's text begins with a dot
dot_apart : (a : LispShape) (t u : List ℕ) → shape_text a ++ t ≡ 46 ∷ u → ⊥
dot_apart (symbol s) t u e = true≢false (sym (symbol_start s t 46 u e))
dot_apart a t u e = let class : class_of a ≡ 2 = sym (text_class a t) ∙ ap class_of_text e in absurd (omega (arith, class))

-- the end of a list: NIL is a closing bracket alone, any other atom stands behind a dot
abbrev IsEndedBy : LispShape → List ℕ → Type 0
IsEndedBy a t = ((a ≡ symbol nil_symbol) × (t ≡ codes ")")) ⊎ (t ≡ codes " . " ++ shape_text a ++ codes ")")

-- the symbol NIL by test
nil_by_test : (s : Symbol) → is_nil s ≡ true → s ≡ nil_symbol
nil_by_test s h =
    let parts = and_parts (is_text s.package (codes "COMMON-LISP")) (is_text s.name (codes "NIL")) h in
    let package_is = same_text s.package (codes "COMMON-LISP") parts.0 in
    let name_is = same_text s.name (codes "NIL") parts.1 in
    λ i. record { «package» = package_is i; name = name_is i }

rest_ends : (marks : List Symbol) (a : LispShape) → (class_of a ≡ 3 → ⊥) → IsEndedBy a (rest_text (node marks a))
rest_ends marks (symbol s) atom =
    cond_both (is_nil s) (codes ")") (codes " . " ++ symbol_text s ++ codes ")") (IsEndedBy (symbol s)) (λ e. inl (ap symbol (nil_by_test s e), refl)) (λ e. inr refl)
rest_ends marks (pair car cdr) atom = absurd (atom refl)
rest_ends marks _ atom = inr refl

-- two ends of lists
same_end : (a b : LispShape) (t u r s : List ℕ) → IsSoundShape a → IsSoundShape b → (class_of a ≡ 3 → ⊥) → IsEndedBy a t → IsEndedBy b u → t ++ r ≡ u ++ s → (a ≡ b) × (r ≡ s)
same_end a b t u r s ha hb atom x y e =
    elim x as (λ _. (a ≡ b) × (r ≡ s)) [
      | inl nil ↦ elim y as (λ _. (a ≡ b) × (r ≡ s)) [
        | inl other ↦ (nil.0 ∙ sym other.0, same_tail 41 41 r s (ap (λ v. v ++ r) (sym nil.1) ∙ e ∙ ap (λ v. v ++ s) other.1))
        | inr dotted ↦ absurd (omega (arith, same_head 41 32 r (codes ". " ++ shape_text b ++ codes ")" ++ s) (ap (λ v. v ++ r) (sym nil.1) ∙ e ∙ ap (λ v. v ++ s) dotted)))
      ]
      | inr behind ↦ elim y as (λ _. (a ≡ b) × (r ≡ s)) [
        | inl nil ↦ absurd (omega (arith, same_head 32 41 (codes ". " ++ shape_text a ++ codes ")" ++ r) s (ap (λ v. v ++ r) (sym behind) ∙ e ∙ ap (λ v. v ++ s) nil.1)))
        | inr dotted ↦
            let whole = ap (λ v. v ++ r) (sym behind) ∙ e ∙ ap (λ v. v ++ s) dotted in
            let inner = append_cancel_left (codes " . ") (shape_text a ++ codes ")" ++ r) (shape_text b ++ codes ")" ++ s) whole in
            let both = same_atom a b (41 ∷ r) (41 ∷ s) ha hb atom refl refl (sym (append_assoc (shape_text a) (codes ")") r) ∙ inner ∙ append_assoc (shape_text b) (codes ")") s) in
            (both.0, same_tail 41 41 r s both.1)
      ]
    ]

-- the end of a list isn't a space and an object
pair_apart : (b : LispShape) (t s : List ℕ) (car : LispObject) (v : List ℕ) → IsEndedBy b t → 32 ∷ (object_text car ++ v) ≡ t ++ s → ⊥
pair_apart b t s (node marks shape) v x e =
    elim x as (λ _. ⊥) [
      | inl nil ↦ absurd (omega (arith, same_head 32 41 (shape_text shape ++ v) s (e ∙ ap (λ w. w ++ s) nil.1)))
      | inr dotted ↦
          let behind = codes " " ++ shape_text b ++ codes ")" ++ s in
          dot_apart shape v behind (same_tail 32 32 (shape_text shape ++ v) (46 ∷ behind) (e ∙ ap (λ w. w ++ s) dotted))
    ]

mutual
  -- two objects without marks that have one text, up to the end of an object
  same_object : (o p : LispObject) (r s : List ℕ) → IsSound o → IsSound p → is_end r ≡ true → is_end s ≡ true → object_text o ++ r ≡ object_text p ++ s → (o ≡ p) × (r ≡ s)
  same_object (node m a) (node n b) r s ho hp hr hs e =
      let both = same_shape a b r s ho.1 hp.1 hr hs e in
      let marks = ho.0 ∙ sym hp.0 in
      (cc (marks, both.0), both.1)

  -- the same, by their shapes
  same_shape : (a b : LispShape) (r s : List ℕ) → IsSoundShape a → IsSoundShape b → is_end r ≡ true → is_end s ≡ true → shape_text a ++ r ≡ shape_text b ++ s → (a ≡ b) × (r ≡ s)
  same_shape (pair car cdr) (pair other last) r s ha hb hr hs e =
      let inner = same_tail 40 40 (object_text car ++ rest_text cdr ++ r) (object_text other ++ rest_text last ++ s) e in
      let cars = same_object car other (rest_text cdr ++ r) (rest_text last ++ s) ha.0 hb.0 (rest_is_end cdr r) (rest_is_end last s)
      (sym (append_assoc (object_text car) (rest_text cdr) r) ∙ inner ∙ append_assoc (object_text other) (rest_text last) s) in
      let cdrs = same_rest cdr last r s ha.1 hb.1 cars.1 in
      (cc (cars.0, cdrs.0), cdrs.1)
  same_shape (pair car cdr) b r s ha hb hr hs e = let k = same_class (pair car cdr) b r s e in absurd (omega (arith, k))
  same_shape a b r s ha hb hr hs e = same_atom a b r s ha hb (λ k. absurd (omega (arith, k))) hr hs e

  -- two rests of lists
  same_rest : (o p : LispObject) (r s : List ℕ) → IsSound o → IsSound p → rest_text o ++ r ≡ rest_text p ++ s → (o ≡ p) × (r ≡ s)
  same_rest (node m (pair car cdr)) (node n (pair other last)) r s ho hp e =
      let inner = same_tail 32 32 (object_text car ++ rest_text cdr ++ r) (object_text other ++ rest_text last ++ s) e in
      let cars = same_object car other (rest_text cdr ++ r) (rest_text last ++ s) ho.1.0 hp.1.0 (rest_is_end cdr r) (rest_is_end last s)
      (sym (append_assoc (object_text car) (rest_text cdr) r) ∙ inner ∙ append_assoc (object_text other) (rest_text last) s) in
      let cdrs = same_rest cdr last r s ho.1.1 hp.1.1 cars.1 in
      let marks = ho.0 ∙ sym hp.0 in
      (cc (marks, cars.0, cdrs.0), cdrs.1)
  same_rest (node m (pair car cdr)) (node n b) r s ho hp e =
      absurd (pair_apart b (rest_text (node n b)) s car (rest_text cdr ++ r) (rest_ends n b (λ k. absurd (omega (arith, k)))) (ap (λ w. 32 ∷ w) (sym (append_assoc (object_text car) (rest_text cdr) r)) ∙ e))
  same_rest (node m a) (node n (pair other last)) r s ho hp e =
      absurd (pair_apart a (rest_text (node m a)) r other (rest_text last ++ s) (rest_ends m a (λ k. absurd (omega (arith, k)))) (ap (λ w. 32 ∷ w) (sym (append_assoc (object_text other) (rest_text last) s)) ∙ sym e))
  same_rest (node m a) (node n b) r s ho hp e =
      let both = same_end a b (rest_text (node m a)) (rest_text (node n b)) r s ho.1 hp.1 (λ k. absurd (omega (arith, k))) (rest_ends m a (λ k. absurd (omega (arith, k)))) (rest_ends n b (λ k. absurd (omega (arith, k)))) e in
      let marks = ho.0 ∙ sym hp.0 in
      (cc (marks, both.0), both.1)

mutual
  -- a plain object of the universe
  IsSound-plain : (structures : Structures) (o : LispObject) → IsObject structures o → plain o ≡ o → IsSound o
  IsSound-plain structures (node marks shape) h e =
      let none : marks ≡ [] = cc e in
      let same : plain_shape shape ≡ shape = cc e in
      (none, IsSoundShape-plain structures shape h.1 same)

  IsSoundShape-plain : (structures : Structures) (a : LispShape) → IsShape structures a → plain_shape a ≡ a → IsSoundShape a
  IsSoundShape-plain structures (character c) h e = h
  IsSoundShape-plain structures (pair car cdr) h e =
      let first : plain car ≡ car = cc e in
      let second : plain cdr ≡ cdr = cc e in
      (IsSound-plain structures car h.0 first, IsSound-plain structures cdr h.1 second)
  IsSoundShape-plain structures (array code simple dims) h e = h
  IsSoundShape-plain structures _ h e = tt

-- no two plain objects have one text
pub one_text : (structures : Structures) (o p : LispObject) → IsObject structures o → IsObject structures p → IsPlain o → IsPlain p → object_text o ≡ object_text p → o ≡ p
one_text structures o p ho hp plain_o plain_p e =
    (same_object o p [] [] (IsSound-plain structures o ho plain_o) (IsSound-plain structures p hp plain_p) refl refl (append-nil (object_text o) ∙ e ∙ sym (append-nil (object_text p)))).0
