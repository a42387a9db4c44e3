-- The queries of the generated text compare types that have no refusal.
use Rattle.std.proofs.Common.{◌≡◌, refl, ap, sym, ◌∙◌, subst, ℕ, ◌+◌, ◌*◌, ◌<◌, ◌≤◌, suc, zero, List, ◌∷◌, None, length, map, arith}
use Rattle.std.specs.Prelude.{slice_get}
use Rattle.std.specs.List.{AllByRecursion}
use Rattle.ls_reader.specs.declared.datum.Datum.{Datum}
use Rattle.ls_env.specs.declared.query.Query.{Query}
use Rattle.ls_env.specs.declared.status.NameStatus.TheVariants as status
use Rattle.ls_env.specs.TopLevel.{queries_of}
use Rattle.ls_env.specs.Definitions.{Definition, definitions}
use Rattle.ls_env.specs.Arguments.{value_of_form}
use Rattle.ls_env.specs.Environments.{Environment, environment, environment_of}
use Rattle.ls_env.specs.Naming.{status_of}
use Rattle.ls_env.specs.Statuses.{standings, statuses_in, templates_in, looked_up, or_unknown}
use Rattle.ls_env.specs.StructureTypes.{by_tree}
use Rattle.ls_grammar.specs.Visiting.{refusal_of}
use Rattle.ls_gen.specs.Generated.{partner}
use Rattle.ls_gen.specs.Shapes.{IsName, AreFrom, AreGenerated, type_name}
use Rattle.ls_gen.specs.Asked.{Compares}
use Rattle.ls_gen.proofs.TypeNameLemmas.{type_symbol}
use Rattle.ls_gen.proofs.FormLemmas.{query_by}
use Rattle.ls_gen.proofs.TemplateLemmas.{template_over}
use Rattle.ls_gen.proofs.FileLemmas.{IsQuery, IsIntegerList, are_of_number, three_queries, file_tops, file_queries, AreDefinitions, file_definitions}
use Rattle.ls_gen.proofs.StandingLemmas.{symbols, standing_over, HaveBodies, defined_names, defined_standings}
use Rattle.ls_gen.proofs.StatusLemmas.{looked_up_type, templates_over, status_of_type, bodies_length, HasTemplate, template_at}
use Rattle.ls_gen.proofs.VisitLemmas.{fits_unrefused}
use Rattle.ls_gen.proofs.LevelLemmas.{integer_list_fits, type_fits}

-- ---- what is said of each name

module _ (n : ℕ) (ds : List Definition) (h : AreDefinitions n 0 ds) (l : n ≤ 4096) (queries : List Query) where
  abbrev said : Environment
  said = environment_of queries ds

  -- the bodies of the types
  held : HaveBodies n 0 (standings ds (symbols n 0))
  held = defined_standings n ds h l

  -- the names are those of the numbers
  names_are : said.names ≡ symbols n 0
  names_are = defined_names n ds h l

  -- the statuses, by the bodies
  statuses_are : said.statuses ≡ statuses_in (symbols n 0) (map standing_over held.bodies)
  statuses_are = ap (λ names. statuses_in names (standings ds names)) names_are
      ∙ ap (statuses_in (symbols n 0)) held.says

  -- the templates, by the bodies
  templates_are : said.templates ≡ map template_over held.bodies
  templates_are =
      ap (λ names. templates_in (standings ds names)) names_are ∙ ap templates_in held.says ∙ templates_over held.bodies

  -- each name has the number of its template
  name_has : (j : ℕ) → j < n → status_of said (type_symbol j) ≡ status.Deftype j
  name_has j low =
      let count = bodies_length n 0 held.bodies held.are in
      let found = status_of_type n 0 n held.bodies held.are j (omega arith) in
      ap (by_tree said.tree (type_symbol j)) (
      (λ k. looked_up (names_are k) (statuses_are k) (type_symbol j))
      ∙ looked_up_type n j (statuses_in (symbols n 0) (map standing_over held.bodies)) l low
      ∙ ap or_unknown found
      )

  -- and the template is one over a body
  template_is : (j : ℕ) → j < n → HasTemplate j (slice_get said.templates j)
  template_is j low =
      let from_start : 0 + j ≡ j = omega arith in
      subst (λ m. HasTemplate m (slice_get said.templates j)) from_start
      (subst (λ ts. HasTemplate (0 + j) (slice_get ts j)) (sym templates_are)
      (template_at n 0 j held.bodies held.are low))

  -- so the name of each number's type has no refusal
  type_unrefused : (j : ℕ) (d : Datum) → j < n → IsName (type_name j) d → refusal_of said d ≡ None
  type_unrefused j d low is =
      let t = template_is j low in
      fits_unrefused said 5 24 d (type_fits said j j d t.over is (name_has j low) t.is t.parts) (omega arith)
      (omega arith)

-- `(cons integer list)` has none either
list_unrefused : (env : Environment) (d : Datum) → IsIntegerList d → refusal_of env d ≡ None
list_unrefused env d is = fits_unrefused env 2 3 d (integer_list_fits env d is) (omega arith) (omega arith)

-- ---- the queries

-- no name of a generated type has a refusal
abbrev Resolve : ℕ → Environment → Type 0
Resolve n env = (j : ℕ) (d : Datum) → j < n → IsName (type_name j) d → refusal_of env d ≡ None

-- a query compares a generated type with another type that has no refusal
compares : (n i : ℕ) (env : Environment) (Other : Datum → Type 0) (d : Datum) → i < n → Resolve n env
    → ((x : Datum) → Other x → refusal_of env x ≡ None)
    → IsQuery i Other d
    → Compares env (query_by d)
compares n i env Other d low resolve other h = record {
  kind = refl;
  operator = h.one;
  first_argument = h.two;
  second_argument = h.three;
  form = h.form;
  first = h.second.0;
  first_is = ap (value_of_form h.two) h.second.1;
  second = h.third.0;
  second_is = ap (value_of_form h.three) h.third.1;
  first_unrefused = resolve i h.second.0 low h.second.2;
  second_unrefused = other h.third.0 h.third.2;
}

-- the partner of a number is below the count
partner_below : (n i : ℕ) → i < n → partner n i < n
partner_below n i h = omega arith

-- each query of the forms compares two types without refusals
all_compare : (n left i : ℕ) (env : Environment) (fs : List Datum) → AreFrom n left i fs → i + left ≤ n → Resolve n env
    → AllByRecursion (Compares env) (queries_of fs)
unfolding AreFrom queries_of
all_compare n zero i env fs h l resolve = subst (λ gs. AllByRecursion (Compares env) (queries_of gs)) (sym h) tt
all_compare n (suc left) i env (a ∷ b ∷ c ∷ fs) h l resolve =
    let three = are_of_number n i a b c h.0 h.1 h.2 in
    subst (AllByRecursion (Compares env)) (sym (three_queries n i a b c fs three)) (
      compares n i env IsIntegerList b (omega arith) resolve (list_unrefused env) three.asking_list,
      (
        compares n i env (IsName (type_name (partner n i))) c (omega arith) resolve
            (λ x is. resolve (partner n i) x (partner_below n i (omega arith)) is) three.asking_partner,
        all_compare n left (suc i) env fs h.3 (omega arith) resolve,
      ),
    )
all_compare n (suc left) i env _ h l resolve = absurd h

-- ---- the environment of the file

-- the environment of the generated forms
environment_is : (n : ℕ) (fs : List Datum) → AreGenerated n fs
    → environment fs ≡ environment_of (queries_of fs) (definitions fs)
environment_is n fs h = ap (λ gs. environment_of (queries_of gs) (definitions gs)) (file_tops n n 0 fs h)

-- it has two queries for each number
pub queries_count : (n : ℕ) (fs : List Datum) → AreGenerated n fs → length (environment fs).queries ≡ 2 * n
queries_count n fs h = ap (λ (e : Environment). length e.queries) (environment_is n fs h) ∙ file_queries n n 0 fs h

-- each of them compares two types without refusals
pub queries_compare : (n : ℕ) (fs : List Datum) → n ≤ 4096 → AreGenerated n fs
    → AllByRecursion (Compares (environment fs)) (environment fs).queries
queries_compare n fs l h =
    subst (λ (e : Environment). AllByRecursion (Compares e) e.queries) (sym (environment_is n fs h))
    (all_compare n n 0 (environment_of (queries_of fs) (definitions fs)) fs h (omega arith)
    (type_unrefused n (definitions fs) (file_definitions n n 0 fs h) l (queries_of fs)))
