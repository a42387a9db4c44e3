-- The numbers in statuses are those of templates.
use Rattle.std.proofs.Common.{◌≡◌, ℕ, zero, suc, ◌+◌, ◌<◌, ◌≤◌, List, [], ◌∷◌, Bool, true, false, Option, Some, None, Result, Ok, Err, length, map, inl, inr, refl, sym, ap, ◌∙◌, subst, arith}
use Rattle.std.specs.Prelude.{if◌then◌else◌, slice_get, position, filter_map}
use Rattle.std.specs.List.{AllByRecursion, cons_option}
use Rattle.std.proofs.lemmas.List.{length-map}
use Rattle.std.proofs.lemmas.Option.{none-some, same_Some}
use Rattle.ls_object.specs.declared.symbol.Symbol.{Symbol}
use Rattle.ls_object.specs.Symbols.{same_symbol}
use Rattle.ls_deftype.specs.declared.fault.TemplateFault.{TemplateFault}
use Rattle.ls_deftype.specs.declared.fault.TemplateFault.TheVariants as fault
use Rattle.ls_deftype.specs.declared.template.Template.{Template}
use Rattle.ls_deftype.specs.Templates as deftype
use Rattle.ls_env.specs.declared.definition.DefiningKind.{DefiningKind}
use Rattle.ls_env.specs.declared.definition.DefiningKind.TheVariants as defining
use Rattle.ls_env.specs.declared.status.NameStatus.{NameStatus}
use Rattle.ls_env.specs.declared.status.NameStatus.TheVariants as status
use Rattle.ls_env.specs.declared.table.Table.{Table}
use Rattle.ls_env.specs.Definitions.{Definition}
use Rattle.ls_env.specs.Mentions.{mentions}
use Rattle.ls_env.specs.Reaching.{In, body, InRange, comes_back}
use Rattle.ls_env.specs.Statuses.{Standing, template, settled, by_template, by_definition, templates_in, numbered, or_unknown, status_at, looked_up, number_in, mentioned, graph_of, finished}
use Rattle.ls_env.specs.steps.Gathered.{standing_of, IsTableOf}
use Rattle.ls_env.specs.steps.Marking.{IsNumbered, AreNumbered}

-- ---- the statuses of a table

-- what is said gives no number by itself
abbrev IsPlain : Standing → Type 0
IsPlain (template t) = Unit {0}
IsPlain (settled (status.Deftype n)) = ⊥
IsPlain (settled s) = Unit {0}

-- what a DEFTYPE says gives no number by itself
plain_template : (r : Result deftype.Definition TemplateFault) → IsPlain (by_template r)
plain_template (Ok t) = tt
plain_template (Err fault.CodeBody) = tt
plain_template (Err fault.BadLambdaList) = tt
plain_template (Err fault.Memory) = tt

-- what a definition says gives no number by itself
plain_definition : (d : Definition) (k : DefiningKind) → IsPlain (by_definition d k)
plain_definition d defining.Type = plain_template (deftype.template_of d.form)
plain_definition d defining.Structure = tt
plain_definition d defining.Class = tt

-- nothing that is said of names gives a number by itself
all_plain : (os : List (Option Definition)) → AllByRecursion IsPlain (map standing_of os)
all_plain [] = tt
all_plain (None ∷ os) = (tt, all_plain os)
all_plain (Some d ∷ os) = (plain_definition d d.kind, all_plain os)

-- a status that has no number has none out of range
plain_number : (count : ℕ) (s : NameStatus) → IsPlain (settled s) → IsNumbered count s
plain_number count (status.Deftype n) h = absurd h
plain_number count _ h = tt

-- the numbers that are given out from n on are below the count
numbered_within : (count n : ℕ) (ss : List Standing) → AllByRecursion IsPlain ss → n + length (templates_in ss) ≤ count
    → AreNumbered count (numbered n ss)
numbered_within count n [] h l = tt
numbered_within count n (settled s ∷ ss) h l = (plain_number count s h.0, numbered_within count n ss h.1 l)
numbered_within count n (template t ∷ ss) h l =
    let one : length (templates_in (template t ∷ ss)) ≡ suc (length (templates_in ss)) = refl in
    (omega (arith, one), numbered_within count (n + 1) ss h.1 (omega (arith, one)))

-- the numbers in a table are those of its templates
pub table_numbered : (os : List (Option Definition)) (t : Table) → IsTableOf (map standing_of os) t
    → AreNumbered (length t.templates) t.statuses
table_numbered os t h =
    let count : length (templates_in (map standing_of os)) ≡ length t.templates =
    sym (ap (λ (ts : List deftype.Definition). length ts) h.templates)
    ∙ length-map t.templates deftype.definition_of in
    subst (AreNumbered (length t.templates)) (sym h.statuses)
    (numbered_within (length t.templates) 0 (map standing_of os) (all_plain os) (omega arith))

-- a status that is finished has no other number
finished_number : (count : ℕ) (graph : List (List ℕ)) (s : NameStatus) → IsNumbered count s
    → IsNumbered count (finished graph s)
finished_number count graph (status.Deftype n) h = by (comes_back graph n)
  where
    by : (b : Bool) → IsNumbered count (if b then status.Recursive else status.Deftype n)
    by true = tt
    by false = h
finished_number count graph _ h = tt

-- the statuses that are finished have no other numbers
finished_numbered : (count : ℕ) (graph : List (List ℕ)) (ss : List NameStatus) → AreNumbered count ss
    → AreNumbered count (map (finished graph) ss)
finished_numbered count graph [] h = tt
finished_numbered count graph (s ∷ ss) h = (finished_number count graph s h.0, finished_numbered count graph ss h.1)

-- the numbers in the statuses of names are those of templates
pub all_numbered : (count : ℕ) (graph : List (List ℕ)) (before ss : List NameStatus) → ss ≡ map (finished graph) before
    → AreNumbered count before
    → AreNumbered count ss
all_numbered count graph before ss is h = subst (AreNumbered count) (sym is) (finished_numbered count graph before h)

-- ---- the number of a name

-- the number in a status at a place is below the count
pub number_at : (count : ℕ) (ss : List NameStatus) → AreNumbered count ss → (k n : ℕ)
    → slice_get ss k ≡ Some (status.Deftype n) → n < count
number_at count [] h k n e = absurd (none-some (status.Deftype n) e)
number_at count (s ∷ ss) h zero n e = subst (IsNumbered count) (same_Some s (status.Deftype n) e) h.0
number_at count (s ∷ ss) h (suc k) n e = number_at count ss h.1 k n e

-- a status with a number is not Unknown
unknown_numbered : (n : ℕ) → status.Unknown ≡ status.Deftype n → ⊥
unknown_numbered n e = cc

-- a number that a look-up gives is one of the table
pub number_of : (names : List Symbol) (ss : List NameStatus) (count : ℕ)
    → ((k n : ℕ) → slice_get ss k ≡ Some (status.Deftype n) → n < count)
    → (s : Symbol) (n : ℕ) → looked_up names ss s ≡ status.Deftype n → n < count
number_of names ss count h s n = by_place (position (same_symbol s) names)
  where
    by_status : (at : ℕ) (o : Option NameStatus) → slice_get ss at ≡ o → or_unknown o ≡ status.Deftype n → n < count
    by_status at None is e = absurd (unknown_numbered n e)
    by_status at (Some x) is e = h at n (is ∙ ap Some e)

    by_place : (p : Option ℕ) → status_at ss p ≡ status.Deftype n → n < count
    by_place None e = absurd (unknown_numbered n e)
    by_place (Some at) e = by_status at (slice_get ss at) refl e

-- ---- what bodies mention

-- the numbers of mentioned names are below the count
mentioned_within : (names : List Symbol) (ss : List NameStatus) (count : ℕ) → AreNumbered count ss
    → (mentioned : List Symbol) (b : ℕ)
    → In b (filter_map (λ s. number_in (looked_up names ss s)) mentioned) → b < count
mentioned_within names ss count h [] b at = absurd at
mentioned_within names ss count h (s ∷ more) b at =
    by (looked_up names ss s) refl (mentioned_within names ss count h more b) at
  where
    by : (x : NameStatus) → looked_up names ss s ≡ x
        → (In b (filter_map (λ t. number_in (looked_up names ss t)) more) → b < count)
        → In b (cons_option (number_in x) (filter_map (λ t. number_in (looked_up names ss t)) more)) → b < count
    by (status.Deftype n) is rest (inl e) =
        subst (λ (m : ℕ). m < count) e (number_of names ss count (number_at count ss h) s n is)
    by (status.Deftype n) is rest (inr later) = rest later
    by _ is rest e = rest e

-- the numbers that bodies mention are below the count
graph_within : (names : List Symbol) (ss : List NameStatus) (count : ℕ) → AreNumbered count ss
    → (ts : List deftype.Definition) (a b : ℕ)
    → In b (body (graph_of names ss ts) a) → b < count
graph_within names ss count h [] a b at = absurd at
graph_within names ss count h (t ∷ ts) zero b at = mentioned_within names ss count h (mentions t.body) b at
graph_within names ss count h (t ∷ ts) (suc a) b at = graph_within names ss count h ts a b at

-- a graph has a body for each template
graph_length : (names : List Symbol) (ss : List NameStatus) (ts : List Template) (graph : List (List ℕ))
    → graph ≡ graph_of names ss (map deftype.definition_of ts) → length ts ≡ length graph
graph_length names ss ts graph is =
    sym (length-map ts deftype.definition_of)
    ∙ sym (length-map (map deftype.definition_of ts) (λ t. mentioned names ss t.body))
    ∙ sym (ap (λ (g : List (List ℕ)). length g) is)

-- the numbers in the table are within the graph
pub numbered_graph : (names : List Symbol) (ss : List NameStatus) (ts : List Template) (graph : List (List ℕ))
    → graph ≡ graph_of names ss (map deftype.definition_of ts) → AreNumbered (length ts) ss
    → AreNumbered (length graph) ss
numbered_graph names ss ts graph is h = subst (λ (n : ℕ). AreNumbered n ss) (graph_length names ss ts graph is) h

-- and so are the numbers that the bodies mention
pub graph_in_range : (names : List Symbol) (ss : List NameStatus) (ts : List Template) (graph : List (List ℕ))
    → graph ≡ graph_of names ss (map deftype.definition_of ts) → AreNumbered (length ts) ss → InRange graph
graph_in_range names ss ts graph is h a b at =
    graph_within names ss (length graph) (numbered_graph names ss ts graph is h) (map deftype.definition_of ts) a b
    (subst (λ (g : List (List ℕ)). In b (body g a)) is at)
