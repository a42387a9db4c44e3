-- What is said of the names of generated types: each is defined once, and by a template over its body.
use Rattle.std.proofs.Common.{◌≡◌, refl, ap, sym, ◌∙◌, subst, ℕ, ◌+◌, ◌<◌, ◌≤◌, suc, zero, inl, inr, List, [], ◌∷◌, ◌++◌, Bool, false, cond, map, append-nil, append_assoc, arith}
use Rattle.std.specs.Prelude.{fold, ◌||◌, if◌then◌else◌}
use Rattle.std.specs.List.{list_any}
use Rattle.std.proofs.lemmas.Bool.Decides.{eqb_tells}
use Rattle.std.proofs.lemmas.List.Folds.{list_any-append}
use Rattle.ls_object.specs.declared.symbol.Symbol.{Symbol}
use Rattle.ls_object.specs.Symbols.{same_symbol}
use Rattle.ls_reader.specs.declared.datum.Datum.{Datum}
use Rattle.ls_env.specs.Definitions.{Definition, of_name}
use Rattle.ls_env.specs.Statuses.{Standing, template, add_name, names_in, standing, standings}
use Rattle.ls_gen.proofs.TypeNameLemmas.{type_symbol, same_name, other_name}
use Rattle.ls_gen.proofs.BodyLemmas.{IsWhole}
use Rattle.ls_gen.proofs.TemplateLemmas.{template_over}
use Rattle.ls_gen.proofs.FileLemmas.{IsTypeDefinition, AreDefinitions}

-- the names of so many numbers' types, from one on
abbrev pub symbols : (left i : ℕ) → List Symbol
symbols zero i = []
symbols (suc left) i = type_symbol i ∷ symbols left (suc i)

-- ---- the defined names

-- a name that is not there is put behind the others
added : (names : List Symbol) (d : Definition) (i : ℕ) → d.name ≡ type_symbol i
    → list_any (same_symbol (type_symbol i)) names ≡ false
    → add_name names d ≡ names ++ type_symbol i ∷ []
added names d i named free =
    ap (λ s. if list_any (same_symbol s) names then names else names ++ s ∷ []) named
    ∙ ap (λ (b : Bool). if b then names else names ++ type_symbol i ∷ []) free

-- the name of a number is not among names that are free of it, nor is it that of another number
still_free : (names : List Symbol) (i j : ℕ) → list_any (same_symbol (type_symbol j)) names ≡ false
    → same_symbol (type_symbol j) (type_symbol i) ≡ false
    → list_any (same_symbol (type_symbol j)) (names ++ type_symbol i ∷ []) ≡ false
still_free names i j free other =
    list_any-append (same_symbol (type_symbol j)) names (type_symbol i ∷ [])
    ∙ ap (λ (b : Bool). b || (same_symbol (type_symbol j) (type_symbol i) || false)) free
    ∙ ap (λ (b : Bool). b || false) other

-- the names of the definitions are put behind names that are free of them
names_added : (left i : ℕ) (names : List Symbol) (ds : List Definition) → AreDefinitions left i ds → i + left ≤ 4096
    → ((j : ℕ) → i ≤ j → j ≤ 4096 → list_any (same_symbol (type_symbol j)) names ≡ false)
    → fold add_name names ds ≡ names ++ symbols left i
names_added zero i names ds h l free = ap (fold add_name names) h ∙ sym (append-nil names)
names_added (suc left) i names [] h l free = absurd h
names_added (suc left) i names (d ∷ ds) h l free =
    ap (λ xs. fold add_name xs ds) (added names d i h.0.name (free i (omega arith) (omega arith)))
    ∙ names_added left (suc i) (names ++ type_symbol i ∷ []) ds h.1 (omega arith)
    (λ j low high. still_free names i j (free j (omega arith) high)
    (other_name j i high (omega arith) (λ e. omega arith)))
    ∙ append_assoc names (type_symbol i ∷ []) (symbols left (suc i))

-- the defined names are those of the numbers
pub defined_names : (n : ℕ) (ds : List Definition) → AreDefinitions n 0 ds → n ≤ 4096 → names_in ds ≡ symbols n 0
defined_names n ds h l = names_added n 0 [] ds h (omega arith) (λ j low high. refl)

-- ---- the definition of each

-- a definition of another name is passed over
passed_over : (i j : ℕ) (d : Definition) (ds : List Definition) → d.name ≡ type_symbol i → i ≤ 4096 → j ≤ 4096
    → (j ≡ i → ⊥)
    → of_name (type_symbol j) (d ∷ ds) ≡ of_name (type_symbol j) ds
passed_over i j d ds named low high apart =
    ap (λ s. cond (same_symbol (type_symbol j) s) (d ∷ of_name (type_symbol j) ds) (of_name (type_symbol j) ds)) named
    ∙ ap (λ b. cond b (d ∷ of_name (type_symbol j) ds) (of_name (type_symbol j) ds)) (other_name j i high low apart)

-- one of its own is taken
taken : (i : ℕ) (d : Definition) (ds : List Definition) → d.name ≡ type_symbol i
    → of_name (type_symbol i) (d ∷ ds) ≡ d ∷ of_name (type_symbol i) ds
taken i d ds named =
    ap (λ s. cond (same_symbol (type_symbol i) s) (d ∷ of_name (type_symbol i) ds) (of_name (type_symbol i) ds)) named
    ∙ ap (λ b. cond b (d ∷ of_name (type_symbol i) ds) (of_name (type_symbol i) ds)) (same_name i)

-- a lesser number's type is not defined
none_of_lesser : (left i j : ℕ) (ds : List Definition) → AreDefinitions left i ds → i + left ≤ 4096 → j < i
    → of_name (type_symbol j) ds ≡ []
none_of_lesser zero i j ds h l less = ap (of_name (type_symbol j)) h
none_of_lesser (suc left) i j [] h l less = absurd h
none_of_lesser (suc left) i j (d ∷ ds) h l less =
    passed_over i j d ds h.0.name (omega arith) (omega arith) (λ e. omega arith)
    ∙ none_of_lesser left (suc i) j ds h.1 (omega arith) (omega arith)

-- the one definition of a number's type
pub record HasOne (j : ℕ) (ds : List Definition) : Type 0 where
  pub definition : Definition
  pub is : IsTypeDefinition j definition
  pub sole : of_name (type_symbol j) ds ≡ definition ∷ []

-- each number from one on has one
has_one : (left i j : ℕ) (ds : List Definition) → AreDefinitions left i ds → i + left ≤ 4096 → i ≤ j → j < i + left
    → HasOne j ds
has_one zero i j ds h l low high = absurd (omega arith)
has_one (suc left) i j [] h l low high = absurd h
has_one (suc left) i j (d ∷ ds) h l low high = elim (eqb_tells j i) [
  | inl p ↦ subst (λ m. HasOne m (d ∷ ds)) (sym p.1) (record {
    definition = d;
    is = h.0;
    sole = taken i d ds h.0.name ∙ ap (λ xs. d ∷ xs) (none_of_lesser left (suc i) i ds h.1 (omega arith) (omega arith));
  })
  | inr p ↦
      let rest = has_one left (suc i) j ds h.1 (omega arith) (omega (arith, p.1)) (omega arith) in
      record {
        definition = rest.definition;
        is = rest.is;
        sole = passed_over i j d ds h.0.name (omega arith) (omega arith) p.1 ∙ rest.sole;
      }
]

-- ---- what is said of each name

-- they are the bodies of so many numbers' types, from one on
abbrev pub AreBodies : (left i : ℕ) → List Datum → Type 0
AreBodies zero i xs = xs ≡ []
AreBodies (suc left) i [] = ⊥
AreBodies (suc left) i (x ∷ xs) = IsWhole i x × AreBodies left (suc i) xs

-- what is said of a name whose template has that body
abbrev pub standing_over : Datum → Standing
standing_over x = template (template_over x)

-- the names of those numbers' types stand for templates over bodies of them
pub record HaveBodies (left i : ℕ) (ss : List Standing) : Type 0 where
  pub bodies : List Datum
  pub are : AreBodies left i bodies
  pub says : ss ≡ map standing_over bodies

-- the names from one on, each of which has one definition, have bodies
standings_from : (ds : List Definition) (left i : ℕ) → ((j : ℕ) → i ≤ j → j < i + left → HasOne j ds)
    → HaveBodies left i (standings ds (symbols left i))
standings_from ds zero i h = record { bodies = []; are = refl; says = refl }
standings_from ds (suc left) i h =
    let first = h i (omega arith) (omega arith) in
    let rest = standings_from ds left (suc i) (λ j low high. h j (omega arith) (omega arith)) in
    let here : standing (of_name (type_symbol i) ds) ≡ standing_over first.is.body =
    ap standing first.sole ∙ first.is.says in
    record {
      bodies = first.is.body ∷ rest.bodies;
      are = (first.is.parts, rest.are);
      says = λ k. here k ∷ rest.says k;
    }

-- each defined name stands for the template over its body
pub defined_standings : (n : ℕ) (ds : List Definition) → AreDefinitions n 0 ds → n ≤ 4096
    → HaveBodies n 0 (standings ds (symbols n 0))
defined_standings n ds h l = standings_from ds n 0 (λ j low high. has_one n 0 j ds h (omega arith) low high)
