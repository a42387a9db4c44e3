-- What the parameters of a template stand for, by their places.
use Rattle.std.proofs.Common.{◌≡◌, ℕ, zero, suc, ◌+◌, ◌-◌, ◌<◌, ◌≤◌, List, [], ◌∷◌, ◌++◌, length, get_or, take, drop, map, Option, Some, None, refl, ap, sym, ◌∙◌, arith, length-append, length-drop}
use Rattle.std.specs.Prelude.{slice_get, option_to_list}
use Rattle.std.proofs.lemmas.List.{get_or-drop, length-map}
use Rattle.ls_object.specs.declared.symbol.Symbol.{Symbol}
use Rattle.ls_reader.specs.declared.datum.Datum.{Datum}
use Rattle.ls_deftype.specs.declared.lambda.OptionalParam.{OptionalParam}
use Rattle.ls_deftype.specs.Templates.{Definition}
use Rattle.ls_deftype.specs.Arguments.{Use, listed, rest_args, optional_values, names, value_at}

at_front : (xs ys : List Datum) (i : ℕ) → i < length xs → slice_get (xs ++ ys) i ≡ slice_get xs i
at_front [] ys i h = absurd (omega arith)
at_front (x ∷ xs) ys zero h = refl
at_front (x ∷ xs) ys (suc i) h = at_front xs ys i (omega arith)

at_back : (xs ys : List Datum) (i : ℕ) → slice_get (xs ++ ys) (length xs + i) ≡ slice_get ys i
at_back [] ys i = ap (slice_get ys) (omega arith)
at_back (x ∷ xs) ys i =
    let e : length (x ∷ xs) + i ≡ suc (length xs + i) = omega arith in
    ap (slice_get (x ∷ xs ++ ys)) e ∙ at_back xs ys i

-- an argument of a required parameter
pub required_at : (args others : List Datum) (count i : ℕ) (d : Datum) → count ≤ length args → i < count → d ≡ get_or args i d → slice_get (take count args ++ others) i ≡ Some d
required_at [] others zero i d le lt is = absurd (omega arith)
required_at [] others (suc count) i d le lt is = absurd (omega arith)
required_at (a ∷ args) others zero i d le lt is = absurd (omega arith)
required_at (a ∷ args) others (suc count) zero d le lt is = ap Some (sym is)
required_at (a ∷ args) others (suc count) (suc i) d le lt is = required_at args others count i d (omega arith) (omega arith) is

lengths_taken : (args : List Datum) (count : ℕ) → count ≤ length args → length (take count args) ≡ count
lengths_taken args zero le = refl
lengths_taken [] (suc count) le = absurd (omega arith)
lengths_taken (a ∷ args) (suc count) le = ap suc (lengths_taken args count (omega arith))

-- what stands behind the arguments of the required parameters
pub behind_required_at : (args others : List Datum) (count i : ℕ) → count ≤ length args → count ≤ i → slice_get (take count args ++ others) i ≡ slice_get others (i - count)
behind_required_at args others count i le h =
    let n = lengths_taken args count le in
    let e : i ≡ length (take count args) + (i - count) = omega (arith, n) in
    ap (slice_get (take count args ++ others)) e ∙ at_back (take count args) others (i - count)

-- an argument of an optional parameter
pub given_at : (args : List Datum) (ps : List OptionalParam) (others : List Datum) (k : ℕ) (d : Datum) → k < length ps → k < length args → d ≡ get_or args k d
    → slice_get (optional_values args ps ++ others) k ≡ Some d
given_at [] ps others k d lp la is = absurd (omega arith)
given_at (a ∷ args) [] others k d lp la is = absurd (omega arith)
given_at (a ∷ args) (p ∷ ps) others zero d lp la is = ap Some (sym is)
given_at (a ∷ args) (p ∷ ps) others (suc k) d lp la is = given_at args ps others k d (omega arith) (omega arith) is

-- the default of an optional parameter
pub default_at : (args : List Datum) (ps : List OptionalParam) (others : List Datum) (k : ℕ) (p : OptionalParam) → k < length ps → length args ≤ k → p ≡ get_or ps k p
    → slice_get (optional_values args ps ++ others) k ≡ Some p.value
default_at args [] others k p lp la is = absurd (omega arith)
default_at [] (q ∷ ps) others zero p lp la is = ap (λ x. Some x.value) (sym is)
default_at [] (q ∷ ps) others (suc k) p lp la is = default_at [] ps others k p (omega arith) (omega arith) is
default_at (a ∷ args) (q ∷ ps) others zero p lp la is = absurd (omega arith)
default_at (a ∷ args) (q ∷ ps) others (suc k) p lp la is = default_at args ps others k p (omega arith) (omega arith) is

optional_length : (args : List Datum) (ps : List OptionalParam) → length (optional_values args ps) ≡ length ps
optional_length args [] = refl
optional_length [] (p ∷ ps) = ap suc (optional_length [] ps)
optional_length (a ∷ args) (p ∷ ps) = ap suc (optional_length args ps)

-- what stands behind the optional parameters
pub behind_optional_at : (args : List Datum) (ps : List OptionalParam) (others : List Datum) (k : ℕ) → length ps ≤ k
    → slice_get (optional_values args ps ++ others) k ≡ slice_get others (k - length ps)
behind_optional_at args ps others k h =
    let n = optional_length args ps in
    let e : k ≡ length (optional_values args ps) + (k - length ps) = omega (arith, n) in
    ap (slice_get (optional_values args ps ++ others)) e ∙ at_back (optional_values args ps) others (k - length ps)

-- the list of the rest parameter
pub rest_at : (rest : Option Symbol) (d : Datum) (k : ℕ) → k < length (option_to_list rest) → slice_get (map (λ r. d) (option_to_list rest)) k ≡ Some d
rest_at None d k h = absurd (omega arith)
rest_at (Some r) d zero h = refl
rest_at (Some r) d (suc k) h = absurd (omega arith)

-- ---- the same of a use

-- how many parameters there are
count_of : (t : Definition) → length (names t) ≡ length t.required + (length t.optional + length (option_to_list t.rest))
count_of t =
    length-append t.required (map (λ p. p.name) t.optional ++ option_to_list t.rest)
    ∙ ap (λ n. length t.required + n) (length-append (map (λ p. p.name) t.optional) (option_to_list t.rest) ∙ ap (λ n. n + length (option_to_list t.rest)) (length-map t.optional (λ p. p.name)))

abbrev defaults_on : Use → List Datum
defaults_on u = map (λ r. listed u.place (rest_args u)) (option_to_list u.template.rest)

pub value_required : (u : Use) (i : ℕ) (d : Datum) → length u.template.required ≤ length u.args → i < length u.template.required → d ≡ get_or u.args i d → Some d ≡ value_at u (Some i)
value_required u i d enough lt is =
    sym (required_at u.args (optional_values (drop (length u.template.required) u.args) u.template.optional ++ defaults_on u) (length u.template.required) i d enough lt is)

pub value_rest : (u : Use) (i : ℕ) → length u.template.required ≤ length u.args → i < length (names u.template) → length u.template.required ≤ i → length u.template.optional ≤ i - length u.template.required
    → Some (listed u.place (rest_args u)) ≡ value_at u (Some i)
value_rest u i enough inside past last =
    let r = length u.template.required in
    let o = length u.template.optional in
    let n = count_of u.template in
    let more = optional_values (drop r u.args) u.template.optional ++ defaults_on u in
    sym (behind_required_at u.args more r i enough past
    ∙ behind_optional_at (drop r u.args) u.template.optional (defaults_on u) (i - r) last
    ∙ rest_at u.template.rest (listed u.place (rest_args u)) (i - r - o) (omega (arith, n)))

pub value_given : (u : Use) (i : ℕ) (d : Datum) → length u.template.required ≤ length u.args → length u.template.required ≤ i → i - length u.template.required < length u.template.optional → i < length u.args → d ≡ get_or u.args i d
    → Some d ≡ value_at u (Some i)
value_given u i d enough past within there is =
    let r = length u.template.required in
    let n = length-drop r u.args in
    let more = optional_values (drop r u.args) u.template.optional ++ defaults_on u in
    let e : r + (i - r) ≡ i = omega arith in
    let at : d ≡ get_or (drop r u.args) (i - r) d = is ∙ ap (λ k. get_or u.args k d) (sym e) ∙ sym (get_or-drop r u.args (i - r) d) in
    sym (behind_required_at u.args more r i enough past
    ∙ given_at (drop r u.args) u.template.optional (defaults_on u) (i - r) d within (omega (arith, n)) at)

pub value_default : (u : Use) (i : ℕ) (p : OptionalParam) → length u.template.required ≤ length u.args → length u.template.required ≤ i → i - length u.template.required < length u.template.optional → length u.args ≤ i → p ≡ get_or u.template.optional (i - length u.template.required) p
    → Some p.value ≡ value_at u (Some i)
value_default u i p enough past within there is =
    let r = length u.template.required in
    let n = length-drop r u.args in
    let more = optional_values (drop r u.args) u.template.optional ++ defaults_on u in
    sym (behind_required_at u.args more r i enough past
    ∙ default_at (drop r u.args) u.template.optional (defaults_on u) (i - r) p within (omega (arith, n)) is)
