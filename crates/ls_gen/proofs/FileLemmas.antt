-- The generated forms together: they are the top-level forms, two of three are queries, and the others are definitions.
use Rattle.std.proofs.Common.{◌≡◌, ap, sym, ◌∙◌, subst, ℕ, ◌*◌, suc, zero, List, [], ◌∷◌, ◌++◌, Option, Some, None, length, codes, arith}
use Rattle.std.specs.List.{cons_option}
use Rattle.ls_reader.specs.declared.datum.Datum.{Datum}
use Rattle.ls_env.specs.declared.query.Query.{Query}
use Rattle.ls_env.specs.TopLevel.{top_in, queries_of}
use Rattle.ls_env.specs.Definitions.{Definition, definition_of, definitions}
use Rattle.ls_env.specs.Statuses.{template, by_template, by_definition}
use Rattle.ls_gen.specs.Generated.{partner}
use Rattle.ls_gen.specs.Shapes.{IsName, IsQuoted, IsListOf, IsDefinition, IsListQuery, IsPartnerQuery, AreFrom, type_name}
use Rattle.ls_gen.proofs.TypeNameLemmas.{type_symbol}
use Rattle.ls_gen.proofs.FormLemmas.{IsCall, deftype_alone, query_alone, deftype_asks, query_by, query_asks, query_defines, IsSomeType, deftype_defines}
use Rattle.ls_gen.proofs.ItemLemmas.{IsTriple, triple_of_shapes}
use Rattle.ls_gen.proofs.BodyLemmas.{IsWhole, body_parts}
use Rattle.ls_gen.proofs.TemplateLemmas.{IsTypeForm, type_form, template_over, type_template}

-- ---- the three forms of a number

-- a query about a number's type, with another type of that shape
abbrev pub IsQuery : ℕ → (Datum → Type 0) → Datum → Type 0
IsQuery i Other = IsTriple (IsName (codes "SUBTYPEP")) (IsQuoted (IsName (type_name i))) (IsQuoted Other)

-- the type `(cons integer list)`
abbrev pub IsIntegerList : Datum → Type 0
IsIntegerList = IsListOf (IsName (codes "CONS") ∷ IsName (codes "INTEGER") ∷ IsName (codes "LIST") ∷ [])

-- the definition and the two queries of a number
pub record AreOfNumber (n i : ℕ) (a b c : Datum) : Type 0 where
  pub defining : IsTypeForm i a
  pub asking_list : IsQuery i IsIntegerList b
  pub asking_partner : IsQuery i (IsName (type_name (partner n i))) c

-- three forms of these shapes are those of a number
pub are_of_number : (n i : ℕ) (a b c : Datum) → IsDefinition i a → IsListQuery i b → IsPartnerQuery i (partner n i) c
    → AreOfNumber n i a b c
are_of_number n i a b c g h k =
    record {
      defining = type_form i a g;
      asking_list = triple_of_shapes _ _ _ b h;
      asking_partner = triple_of_shapes _ _ _ c k;
    }

-- the definition is a call of DEFTYPE
type_call : (i : ℕ) (d : Datum) (h : IsTypeForm i d) → IsCall (codes "DEFTYPE") h.two d
type_call i d h = record { head = h.one; items = h.three ∷ h.four ∷ []; form = h.form; called = h.first }

-- a query is a call of SUBTYPEP
query_call : (i : ℕ) (Other : Datum → Type 0) (d : Datum) (h : IsQuery i Other d) → IsCall (codes "SUBTYPEP") h.two d
query_call i Other d h = record { head = h.one; items = h.three ∷ []; form = h.form; called = h.first }

module _ (n i : ℕ) (a b c : Datum) (fs : List Datum) (h : AreOfNumber n i a b c) where
  -- the first is a call of DEFTYPE
  first_call : IsCall (codes "DEFTYPE") h.defining.two a
  first_call = type_call i a h.defining

  -- the second is a call of SUBTYPEP
  second_call : IsCall (codes "SUBTYPEP") h.asking_list.two b
  second_call = query_call i IsIntegerList b h.asking_list

  -- and so is the third
  third_call : IsCall (codes "SUBTYPEP") h.asking_partner.two c
  third_call = query_call i (IsName (type_name (partner n i))) c h.asking_partner

  -- they stand alone
  three_tops : top_in fs ≡ fs → top_in (a ∷ b ∷ c ∷ fs) ≡ a ∷ b ∷ c ∷ fs
  three_tops rest =
      let x = deftype_alone a h.defining.two first_call in
      let y = query_alone b h.asking_list.two second_call in
      let z = query_alone c h.asking_partner.two third_call in
      λ k. x k ++ (y k ++ (z k ++ rest k))

  -- two of them are queries
  pub three_queries : queries_of (a ∷ b ∷ c ∷ fs) ≡ query_by b ∷ query_by c ∷ queries_of fs
  unfolding queries_of
  three_queries =
      let x = deftype_asks a h.defining.two first_call in
      let y = query_asks b h.asking_list.two second_call in
      let z = query_asks c h.asking_partner.two third_call in
      λ k. x k ++ (y k ++ (z k ++ queries_of fs))

  -- the other may be a definition
  three_definitions : definitions (a ∷ b ∷ c ∷ fs) ≡ cons_option (definition_of a) (definitions fs)
  three_definitions =
      let y = query_defines b h.asking_list.two second_call in
      let z = query_defines c h.asking_partner.two third_call in
      λ k. cons_option (definition_of a) (cons_option (y k) (cons_option (z k) (definitions fs)))

-- ---- all of them

-- each generated form is a top-level form, and there are no others
pub file_tops : (n left i : ℕ) (fs : List Datum) → AreFrom n left i fs → top_in fs ≡ fs
unfolding AreFrom
file_tops n zero i fs h = ap top_in h ∙ sym h
file_tops n (suc left) i (a ∷ b ∷ c ∷ fs) h =
    three_tops n i a b c fs (are_of_number n i a b c h.0 h.1 h.2) (file_tops n left (suc i) fs h.3)
file_tops n (suc left) i _ h = absurd h

-- two queries for each number
pub file_queries : (n left i : ℕ) (fs : List Datum) → AreFrom n left i fs → length (queries_of fs) ≡ 2 * left
unfolding AreFrom queries_of
file_queries n zero i fs h = ap (λ gs. length (queries_of gs)) h
file_queries n (suc left) i (a ∷ b ∷ c ∷ fs) h =
    let three = three_queries n i a b c fs (are_of_number n i a b c h.0 h.1 h.2) in
    let two : length (queries_of (a ∷ b ∷ c ∷ fs)) ≡ suc (suc (length (queries_of fs))) =
    ap (λ (qs : List Query). length qs) three in
    let rest = file_queries n left (suc i) fs h.3 in
    two ∙ omega (arith, rest)
file_queries n (suc left) i _ h = absurd h

-- the definition is that of a number's type
pub record IsTypeDefinition (i : ℕ) (d : Definition) : Type 0 where
  pub name : d.name ≡ type_symbol i
  pub body : Datum
  pub parts : IsWhole i body
  pub says : by_definition d d.kind ≡ template (template_over body)

-- the definitions are those of so many numbers' types, from one on
abbrev pub AreDefinitions : (left i : ℕ) → List Definition → Type 0
AreDefinitions zero i ds = ds ≡ []
AreDefinitions (suc left) i [] = ⊥
AreDefinitions (suc left) i (d ∷ ds) = IsTypeDefinition i d × AreDefinitions left (suc i) ds

-- one definition more in front
one_more : (left i : ℕ) (a : Datum) (h : IsTypeForm i a) (o : Option Definition) (ds : List Definition)
    → IsSomeType i a o
    → AreDefinitions left (suc i) ds
    → AreDefinitions (suc left) i (cons_option o ds)
one_more left i a h None ds is rest = absurd is
one_more left i a h (Some d) ds is rest = (
  record {
    name = is.name;
    body = h.fourth.0;
    parts = body_parts i h.fourth.0 h.fourth.2;
    says = is.by_form ∙ ap by_template (type_template i a h);
  },
  rest,
)

-- a definition for each number
pub file_definitions : (n left i : ℕ) (fs : List Datum) → AreFrom n left i fs → AreDefinitions left i (definitions fs)
unfolding AreFrom
file_definitions n zero i fs h = ap definitions h
file_definitions n (suc left) i (a ∷ b ∷ c ∷ fs) h =
    let three = are_of_number n i a b c h.0 h.1 h.2 in
    let type = three.defining in
    subst (AreDefinitions (suc left) i) (sym (three_definitions n i a b c fs three))
    (one_more left i a type (definition_of a) (definitions fs)
    (deftype_defines a type.two i (type_call i a type) type.second)
    (file_definitions n left (suc i) fs h.3))
file_definitions n (suc left) i _ h = absurd h
