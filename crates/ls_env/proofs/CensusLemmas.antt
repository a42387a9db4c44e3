-- The defined names, and what defines each, with one definition more.
use Rattle.std.proofs.Common.{◌≡◌, ℕ, suc, ◌+◌, List, [], ◌∷◌, ◌++◌, Bool, true, false, not, cond, Option, Some, None, map, set, refl, sym, ap, ◌∙◌, subst, append-nil, arith}
use Rattle.std.specs.Prelude.{◌||◌, fold, if◌then◌else◌}
use Rattle.std.specs.List.{list_any, position_or_len, AllByRecursion, IsDistinct}
use Rattle.std.proofs.lemmas.List.{map-set, map_push}
use Rattle.std.proofs.lemmas.List.Sums.{fold-append}
use Rattle.std.proofs.lemmas.List.Folds.{list_any-append}
use Rattle.std.proofs.lemmas.List.Elements.{filter-append}
use Rattle.ls_object.specs.declared.symbol.Symbol.{Symbol}
use Rattle.ls_object.specs.Symbols.{same_symbol}
use Rattle.ls_object.proofs.SymbolLemmas.{Decides-symbol}
use Rattle.ls_env.specs.declared.census.Census.{Census}
use Rattle.ls_env.specs.declared.census.Defined.TheVariants as found
use Rattle.ls_env.specs.declared.definition.Defining as lent
use Rattle.ls_env.specs.Definitions.{Definition, of_name}
use Rattle.ls_env.specs.Statuses.{Standing, add_name, names_in, standing, standings}
use Rattle.ls_env.specs.steps.Gathered.{lent_definition, shown, sole, IsCensus, standing_of}

-- whether a definition of the name is among them
abbrev is_defined : Symbol → List Definition → Bool
is_defined s ds = list_any (λ d. same_symbol s d.name) ds

-- whether the name is among the names
abbrev is_named : Symbol → List Symbol → Bool
is_named s names = list_any (same_symbol s) names

-- one definition more
names_more : (ds : List Definition) (d : Definition) → names_in (ds ++ d ∷ []) ≡ add_name (names_in ds) d
names_more ds d = fold-append add_name [] ds (d ∷ [])

-- a symbol is the same as itself
same_self : (s : Symbol) → same_symbol s s ≡ true
same_self s = (Decides-symbol s s).1 refl

-- the test of symbols may be turned round
same_turned : (s t : Symbol) → same_symbol s t ≡ same_symbol t s
same_turned s t = by (same_symbol s t) (same_symbol t s) refl refl
  where
    by : (a b : Bool) → same_symbol s t ≡ a → same_symbol t s ≡ b → a ≡ b
    by true true e f = refl
    by false false e f = refl
    by true false e f = sym ((Decides-symbol t s).1 (sym ((Decides-symbol s t).0 e))) ∙ f
    by false true e f = sym e ∙ (Decides-symbol s t).1 (sym ((Decides-symbol t s).0 f))

-- true is not false
true_false : true ≡ false → ⊥
true_false e = cc

-- a name that is no other is no definition of it
none_filtered : (s : Symbol) (ds : List Definition) → is_defined s ds ≡ false → of_name s ds ≡ []
none_filtered s [] h = refl
none_filtered s (d ∷ ds) h = by (same_symbol s d.name) refl (none_filtered s ds)
  where
    by : (b : Bool) → same_symbol s d.name ≡ b → (is_defined s ds ≡ false → of_name s ds ≡ []) → of_name s (d ∷ ds) ≡ []
    by true e rest = absurd (true_false (sym (ap (λ (x : Bool). x || is_defined s ds) e) ∙ h))
    by false e rest =
        ap (λ (x : Bool). cond x (d ∷ of_name s ds) (of_name s ds)) e
        ∙ rest (sym (ap (λ (x : Bool). x || is_defined s ds) e) ∙ h)

-- of another name, one definition more changes nothing
other_name : (s : Symbol) (ds : List Definition) (d : Definition) → same_symbol s d.name ≡ false
    → of_name s (ds ++ d ∷ []) ≡ of_name s ds
other_name s ds d e =
    filter-append (λ x. same_symbol s x.name) ds (d ∷ [])
    ∙ ap (λ (b : Bool). of_name s ds ++ cond b (d ∷ []) []) e
    ∙ append-nil (of_name s ds)

-- of the same name, it stands behind the others
own_name : (ds : List Definition) (d : Definition) → of_name d.name (ds ++ d ∷ []) ≡ of_name d.name ds ++ d ∷ []
own_name ds d =
    filter-append (λ x. same_symbol d.name x.name) ds (d ∷ [])
    ∙ ap (λ (b : Bool). of_name d.name ds ++ cond b (d ∷ []) []) (same_self d.name)

-- names that are not that of one definition more are defined as before
others_stay : (names : List Symbol) (ds : List Definition) (d : Definition) → is_named d.name names ≡ false
    → map (λ s. sole (of_name s (ds ++ d ∷ []))) names ≡ map (λ s. sole (of_name s ds)) names
others_stay [] ds d h = refl
others_stay (s ∷ names) ds d h =
    let both = or_parts (same_symbol d.name s) (is_named d.name names) h in
    ap (λ (o : Option Definition). o ∷ map (λ t. sole (of_name t (ds ++ d ∷ []))) names)
    (ap sole (other_name s ds d (same_turned s d.name ∙ both.0)))
    ∙ ap (λ (os : List (Option Definition)). sole (of_name s ds) ∷ os) (others_stay names ds d both.1)
  where
    or_parts : (a b : Bool) → (a || b) ≡ false → (a ≡ false) × (b ≡ false)
    or_parts true b h = absurd (true_false h)
    or_parts false b h = (refl, h)

-- a name without a definition gets its first one
first_one : (ds : List Definition) (d : Definition) → is_defined d.name ds ≡ false
    → sole (of_name d.name (ds ++ d ∷ [])) ≡ Some d
first_one ds d h = ap sole (own_name ds d ∙ ap (λ (xs : List Definition). xs ++ d ∷ []) (none_filtered d.name ds h))

-- ---- a name that is there again

-- false on the right changes nothing
or_none : (a : Bool) → (a || false) ≡ a
or_none true = refl
or_none false = refl

-- three tests in a row, grouped the other way
or_grouped : (a b c : Bool) → ((a || b) || c) ≡ (a || (b || c))
or_grouped true b c = refl
or_grouped false b c = refl

-- the names with that of one definition more
add_named : (s : Symbol) (names : List Symbol) (d : Definition)
    → is_named s (add_name names d) ≡ (is_named s names || same_symbol s d.name)
add_named s names d = by (is_named d.name names) refl
  where
    among : (b : Bool) → same_symbol s d.name ≡ b → is_named d.name names ≡ true
        → is_named s names ≡ (is_named s names || same_symbol s d.name)
    among true f e =
        let there : is_named s names ≡ true = ap (λ (t : Symbol). is_named t names) ((Decides-symbol s d.name).0 f)
        ∙ e in
        there ∙ sym (ap (λ (x : Bool). x || same_symbol s d.name) there)
    among false f e = sym (ap (λ (x : Bool). is_named s names || x) f ∙ or_none (is_named s names))

    by : (b : Bool) → is_named d.name names ≡ b
        → is_named s (add_name names d) ≡ (is_named s names || same_symbol s d.name)
    by true e = ap (λ (x : Bool). is_named s (if x then names else names ++ d.name ∷ [])) e
        ∙ among (same_symbol s d.name) refl e
    by false e =
        ap (λ (x : Bool). is_named s (if x then names else names ++ d.name ∷ [])) e
        ∙ list_any-append (same_symbol s) names (d.name ∷ [])
        ∙ ap (λ (x : Bool). is_named s names || x) (or_none (same_symbol s d.name))

-- the names with those of definitions more
fold_named : (s : Symbol) (names : List Symbol) (ds : List Definition)
    → is_named s (fold add_name names ds) ≡ (is_named s names || is_defined s ds)
fold_named s names [] = sym (or_none (is_named s names))
fold_named s names (d ∷ ds) =
    fold_named s (add_name names d) ds
    ∙ ap (λ (x : Bool). x || is_defined s ds) (add_named s names d)
    ∙ or_grouped (is_named s names) (same_symbol s d.name) (is_defined s ds)

-- the names are those that have a definition
named_defined : (s : Symbol) (ds : List Definition) → is_named s (names_in ds) ≡ is_defined s ds
named_defined s ds = fold_named s [] ds

-- there is some definition
abbrev IsSome : List Definition → Type 0
IsSome [] = ⊥
IsSome (d ∷ ds) = Unit {0}

-- a name with a definition has some
some_filtered : (s : Symbol) (ds : List Definition) → is_defined s ds ≡ true → IsSome (of_name s ds)
some_filtered s [] h = absurd (true_false (sym h))
some_filtered s (d ∷ ds) h = by (same_symbol s d.name) refl (some_filtered s ds)
  where
    by : (b : Bool) → same_symbol s d.name ≡ b → (is_defined s ds ≡ true → IsSome (of_name s ds))
        → IsSome (of_name s (d ∷ ds))
    by true e rest = subst (λ (x : Bool). IsSome (cond x (d ∷ of_name s ds) (of_name s ds))) (sym e) tt
    by false e rest =
        subst (λ (x : Bool). IsSome (cond x (d ∷ of_name s ds) (of_name s ds))) (sym e)
        (rest (sym (ap (λ (x : Bool). x || is_defined s ds) e) ∙ h))

-- one more definition is not the only one where there is some
more_than_one : (ds : List Definition) (d : Definition) → IsSome ds → sole (ds ++ d ∷ []) ≡ None
more_than_one [] d h = absurd h
more_than_one (x ∷ []) d h = refl
more_than_one (x ∷ y ∷ ds) d h = refl

-- a name with a definition has no sole one once there is one more
no_sole : (ds : List Definition) (d : Definition) → is_defined d.name ds ≡ true
    → sole (of_name d.name (ds ++ d ∷ [])) ≡ None
no_sole ds d h = ap sole (own_name ds d) ∙ more_than_one (of_name d.name ds) d (some_filtered d.name ds h)

-- a name that is the same as none of the names is not among them
none_named : (s : Symbol) (names : List Symbol) → AllByRecursion (λ t. same_symbol s t ≡ false) names
    → is_named s names ≡ false
none_named s [] h = refl
none_named s (t ∷ names) h = ap (λ (x : Bool). x || is_named s names) h.0 ∙ none_named s names h.1

-- the one definition of a name among the definitions, and with one definition more
abbrev before : List Definition → Symbol → Option Definition
before ds s = sole (of_name s ds)

abbrev after : List Definition → Definition → Symbol → Option Definition
after ds d s = sole (of_name s (ds ++ d ∷ []))

-- a name that is there again has no sole definition, and the other names have the definitions that they had
twice_over : (names : List Symbol) (ds : List Definition) (d : Definition) → IsDistinct same_symbol names
    → is_named d.name names ≡ true → is_defined d.name ds ≡ true
    → set (map (before ds) names) (position_or_len (same_symbol d.name) names) None ≡ map (after ds d) names
unfolding IsDistinct
twice_over [] ds d apart h is = absurd (true_false (sym h))
twice_over (s ∷ names) ds d apart h is =
    by (same_symbol d.name s) refl (λ there. twice_over names ds d apart.1 there is)
  where
    by : (b : Bool) → same_symbol d.name s ≡ b
        → (is_named d.name names ≡ true
        → set (map (before ds) names) (position_or_len (same_symbol d.name) names) None ≡ map (after ds d) names)
        → set (map (before ds) (s ∷ names)) (position_or_len (same_symbol d.name) (s ∷ names)) None ≡ map (after ds d)
        (s ∷ names)
    by true e rest =
        let here : d.name ≡ s = (Decides-symbol d.name s).0 e in
        ap (λ (b : Bool). set (before ds s ∷ map (before ds) names)
        (cond (not b) (1 + position_or_len (same_symbol d.name) names) 0) None) e
        ∙ ap (λ (o : Option Definition). o ∷ map (before ds) names) (sym (ap (after ds d) (sym here) ∙ no_sole ds d is))
        ∙ ap (λ (os : List (Option Definition)). after ds d s ∷ os)
        (sym (others_stay names ds d (ap (λ (t : Symbol). is_named t names) here ∙ none_named s names apart.0)))
    by false e rest =
        let next : 1 + position_or_len (same_symbol d.name) names ≡ suc (position_or_len (same_symbol d.name) names) =
        omega arith in
        ap (λ (b : Bool). set (before ds s ∷ map (before ds) names)
        (cond (not b) (1 + position_or_len (same_symbol d.name) names) 0) None) e
        ∙ ap (λ (k : ℕ). set (before ds s ∷ map (before ds) names) k None) next
        ∙ ap (λ (os : List (Option Definition)). before ds s ∷ os)
        (rest (sym (ap (λ (x : Bool). x || is_named d.name names) e) ∙ h))
        ∙ ap (λ (o : Option Definition). o ∷ map (after ds d) names)
        (sym (ap sole (other_name s ds d (same_turned s d.name ∙ e))))

-- ---- the census with one definition more

-- the names with one more, unless it is there
abbrev with_name : List Symbol → Symbol → List Symbol
with_name names s = if list_any (same_symbol s) names then names else names ++ s ∷ []

-- the code's names with one definition more
keys_more : (ds : List Definition) (d : Definition) (s : Symbol) (old new : List Symbol) → s ≡ d.name
    → old ≡ names_in ds → new ≡ with_name old s
    → new ≡ names_in (ds ++ d ∷ [])
keys_more ds d s old new is names made =
    made ∙ ap (with_name old) is ∙ ap (λ (ks : List Symbol). with_name ks d.name) names ∙ sym (names_more ds d)

-- whether the name is there, by the names of the code
there_by : (ds : List Definition) (d : Definition) (s : Symbol) (old : List Symbol) (b : Bool) → s ≡ d.name
    → old ≡ names_in ds
    → list_any (same_symbol s) old ≡ b → is_named d.name (names_in ds) ≡ b
there_by ds d s old b is names e =
    sym (ap (λ (t : Symbol). list_any (same_symbol t) old) is ∙ ap (list_any (same_symbol d.name)) names) ∙ e

-- what is told of the one is told of the other
turned : (b x : Bool) → b ≡ not x → x ≡ not b
turned b true e = sym (ap not e)
turned b false e = sym (ap not e)

-- a new name has the definition
pub census_fresh : (ds : List Definition) (d : lent.Defining) (s : Symbol) (old new : Census) (fresh : Bool)
    → s ≡ d.name.now
    → fresh ≡ not (list_any (same_symbol s) old.names.keys) → fresh ≡ true → new.names.keys ≡ with_name old.names.keys s
    → new.defined ≡ old.defined ++ found.Once d ∷ [] → IsCensus ds old → IsCensus (ds ++ lent_definition d ∷ []) new
census_fresh ds d s old new fresh is test true_is keys pushed h =
    let e : Definition = lent_definition d in
    let named : is_named e.name (names_in ds) ≡ false =
    there_by ds e s old.names.keys false is h.names
    (turned fresh (list_any (same_symbol s) old.names.keys) test ∙ ap not true_is) in
    let now : names_in (ds ++ e ∷ []) ≡ names_in ds ++ e.name ∷ [] =
    names_more ds e ∙ ap (λ (b : Bool). if b then names_in ds else names_in ds ++ e.name ∷ []) named in
    record {
      names = keys_more ds e s old.names.keys new.names.keys is h.names keys;
      defined =
          ap (map shown) pushed
          ∙ map_push shown old.defined (found.Once d)
          ∙ ap (λ (os : List (Option Definition)). os ++ Some e ∷ [])
          (h.defined ∙ sym (others_stay (names_in ds) ds e named))
          ∙ ap (λ (o : Option Definition). map (after ds e) (names_in ds) ++ o ∷ [])
          (sym (first_one ds e (sym (named_defined e.name ds) ∙ named)))
          ∙ sym (map_push (after ds e) (names_in ds) e.name)
          ∙ ap (map (after ds e)) (sym now);
    }

-- a name that is there again has two definitions or more
pub census_again : (ds : List Definition) (d : lent.Defining) (s : Symbol) (old new : Census) (fresh : Bool) (at : ℕ)
    → s ≡ d.name.now
    → fresh ≡ not (list_any (same_symbol s) old.names.keys) → fresh ≡ false
    → new.names.keys ≡ with_name old.names.keys s
    → IsDistinct same_symbol new.names.keys → at ≡ position_or_len (same_symbol s) old.names.keys
    → new.defined ≡ set old.defined at found.Twice → IsCensus ds old → IsCensus (ds ++ lent_definition d ∷ []) new
census_again ds d s old new fresh at is test false_is keys apart place put h =
    let e : Definition = lent_definition d in
    let named : is_named e.name (names_in ds) ≡ true =
    there_by ds e s old.names.keys true is h.names
    (turned fresh (list_any (same_symbol s) old.names.keys) test ∙ ap not false_is) in
    let now : names_in (ds ++ e ∷ []) ≡ names_in ds =
    names_more ds e ∙ ap (λ (b : Bool). if b then names_in ds else names_in ds ++ e.name ∷ []) named in
    let names : new.names.keys ≡ names_in (ds ++ e ∷ []) =
    keys_more ds e s old.names.keys new.names.keys is h.names keys in
    record {
      names = names;
      defined =
          ap (map shown) put
          ∙ map-set shown old.defined at found.Twice
          ∙ ap (λ (os : List (Option Definition)). set os at None) h.defined
          ∙ ap (λ (k : ℕ). set (map (before ds) (names_in ds)) k None)
          (place ∙ ap (λ (t : Symbol). position_or_len (same_symbol t) old.names.keys) is
          ∙ ap (position_or_len (same_symbol e.name)) h.names)
          ∙ twice_over (names_in ds) ds e (subst (IsDistinct same_symbol) (names ∙ now) apart) named
          (sym (named_defined e.name ds) ∙ named)
          ∙ ap (map (after ds e)) (sym now);
    }

-- ---- what is said of the names

-- what is said of a name that has definitions, by its sole one
standing_sole : (ds : List Definition) → IsSome ds → standing_of (sole ds) ≡ standing ds
standing_sole [] h = absurd h
standing_sole (d ∷ []) h = refl
standing_sole (d ∷ e ∷ ds) h = refl

-- what is said of names that have definitions, by the sole one of each
all_standing : (names : List Symbol) (ds : List Definition)
    → ((s : Symbol) → is_named s names ≡ true → is_defined s ds ≡ true)
    → map standing_of (map (λ s. sole (of_name s ds)) names) ≡ standings ds names
all_standing [] ds h = refl
all_standing (s ∷ names) ds h =
    ap (λ (x : Standing). x ∷ map standing_of (map (λ t. sole (of_name t ds)) names))
    (standing_sole (of_name s ds) (some_filtered s ds (h s (ap (λ (x : Bool). x || is_named s names) (same_self s)))))
    ∙ ap (λ (xs : List Standing). standing (of_name s ds) ∷ xs)
    (all_standing names ds (λ t e. h t (or_right (same_symbol t s) (is_named t names) e)))
  where
    or_right : (a b : Bool) → b ≡ true → (a || b) ≡ true
    or_right true b e = refl
    or_right false b e = e

-- what is said of the names that the definitions define, by what defines each
pub standings_are : (ds : List Definition)
    → map standing_of (map (λ s. sole (of_name s ds)) (names_in ds)) ≡ standings ds (names_in ds)
standings_are ds = all_standing (names_in ds) ds (λ s e. sym (named_defined s ds) ∙ e)
