-- Each generated type has the number of its template, since no template leads back to itself.
use Rattle.std.proofs.Common.{◌≡◌, refl, ap, sym, ◌∙◌, subst, ℕ, ◌+◌, ◌<◌, ◌≤◌, suc, zero, List, [], ◌∷◌, Bool, true, false, not, cond, Option, Some, None, length, map, arith}
use Rattle.std.specs.Prelude.{filter_map, position, slice_get, nat_lt, if◌then◌else◌}
use Rattle.std.specs.List.{AllByRecursion, position_or_len, cons_option}
use Rattle.std.proofs.lemmas.Bool.Decides.{nat_tests}
use Rattle.ls_object.specs.declared.symbol.Symbol.{Symbol}
use Rattle.ls_object.specs.Symbols.{same_symbol}
use Rattle.ls_reader.specs.declared.datum.Datum.{Datum}
use Rattle.ls_deftype.specs.Templates as deftype
use Rattle.ls_env.specs.declared.status.NameStatus.{NameStatus}
use Rattle.ls_env.specs.declared.status.NameStatus.TheVariants as status
use Rattle.ls_env.specs.Mentions.{mentions}
use Rattle.ls_env.specs.Reaching.{In, body, IsPath, comes_back}
use Rattle.ls_env.specs.Statuses.{templates_in, numbered, status_at, looked_up, number_in, graph_of, finished, statuses_in}
use Rattle.ls_env.proofs.ReachLemmas.{comes_back_reaches}
use Rattle.ls_gen.proofs.TypeNameLemmas.{type_symbol, same_name, other_name, fails}
use Rattle.ls_gen.proofs.BodyLemmas.{IsWhole}
use Rattle.ls_gen.proofs.MentionLemmas.{IsOther, body_mentions}
use Rattle.ls_gen.proofs.TemplateLemmas.{template_over}
use Rattle.ls_gen.proofs.StandingLemmas.{symbols, standing_over, AreBodies}

-- ---- places of names

-- there are as many names as numbers
symbols_length : (left i : ℕ) → length (symbols left i) ≡ left
symbols_length zero i = refl
symbols_length (suc left) i = ap suc (symbols_length left (suc i))

-- a number is below another
is_below : (k n : ℕ) → k < n → nat_lt k n ≡ true
is_below k n h = grind (arith, nat_tests)

-- none is below itself
not_below_itself : (n : ℕ) → nat_lt n n ≡ false
not_below_itself n = grind (arith, nat_tests)

-- where the name of a number stands, so many places on
stands_at : (left i k : ℕ) → i + left ≤ 4096 → k < left
    → position_or_len (same_symbol (type_symbol (i + k))) (symbols left i) ≡ k
stands_at zero i k l h = absurd (omega arith)
stands_at (suc left) i zero l h =
    let here : i + 0 ≡ i = omega arith in
    let same : same_symbol (type_symbol (i + 0)) (type_symbol i) ≡ true =
    ap (λ m. same_symbol (type_symbol m) (type_symbol i)) here ∙ same_name i in
    ap (λ b. cond (not b) (1 + position_or_len (same_symbol (type_symbol (i + 0))) (symbols left (suc i))) 0) same
stands_at (suc left) i (suc k) l h =
    let there : i + suc k ≡ suc i + k = omega arith in
    let other = other_name (i + suc k) i (omega arith) (omega arith) (λ e. omega arith) in
    let rest : position_or_len (same_symbol (type_symbol (i + suc k))) (symbols left (suc i)) ≡ k =
    ap (λ m. position_or_len (same_symbol (type_symbol m)) (symbols left (suc i))) there
    ∙ stands_at left (suc i) k (omega arith) (omega arith) in
    ap (λ b. cond (not b) (1 + position_or_len (same_symbol (type_symbol (i + suc k))) (symbols left (suc i))) 0) other
    ∙ omega (arith, rest)

-- another name is at no place
stands_nowhere : (left i : ℕ) (s : Symbol) → IsOther s → position_or_len (same_symbol s) (symbols left i) ≡ left
stands_nowhere zero i s h = refl
stands_nowhere (suc left) i s h =
    let rest = stands_nowhere left (suc i) s h in
    ap (λ b. cond (not b) (1 + position_or_len (same_symbol s) (symbols left (suc i))) 0) (h.apart i)
    ∙ omega (arith, rest)

-- by the place and the count of names
place_by : (p : Symbol → Bool) (names : List Symbol) (k n : ℕ) → position_or_len p names ≡ k → length names ≡ n
    → position p names ≡ cond (nat_lt k n) (Some k) None
place_by p names k n e f = λ j. cond (nat_lt (e j) (f j)) (Some (e j)) None

-- the name of a number is looked up at its place
pub looked_up_type : (n j : ℕ) (statuses : List NameStatus) → n ≤ 4096 → j < n
    → looked_up (symbols n 0) statuses (type_symbol j) ≡ status_at statuses (Some j)
looked_up_type n j statuses l h =
    let from_start : 0 + j ≡ j = omega arith in
    let place : position_or_len (same_symbol (type_symbol j)) (symbols n 0) ≡ j =
    ap (λ m. position_or_len (same_symbol (type_symbol m)) (symbols n 0)) (sym from_start)
    ∙ stands_at n 0 j (omega arith) h in
    ap (status_at statuses) (
    place_by (same_symbol (type_symbol j)) (symbols n 0) j n place (symbols_length n 0)
    ∙ ap (λ (b : Bool). cond b (Some j) None) (is_below j n h)
    )

-- another name is not found
looked_up_other : (n i : ℕ) (statuses : List NameStatus) (s : Symbol) → IsOther s
    → looked_up (symbols n i) statuses s ≡ status.Unknown
looked_up_other n i statuses s h =
    ap (status_at statuses) (
    place_by (same_symbol s) (symbols n i) n n (stands_nowhere n i s h) (symbols_length n i)
    ∙ ap (λ (b : Bool). cond b (Some n) None) (not_below_itself n)
    )

-- ---- no template leads back to itself

-- other names have no numbers
no_numbers : (n i : ℕ) (statuses : List NameStatus) (ss : List Symbol) → AllByRecursion IsOther ss
    → filter_map (λ s. number_in (looked_up (symbols n i) statuses s)) ss ≡ []
no_numbers n i statuses [] h = refl
no_numbers n i statuses (s ∷ ss) h =
    ap (λ x. cons_option (number_in x) (filter_map (λ t. number_in (looked_up (symbols n i) statuses t)) ss))
    (looked_up_other n i statuses s h.0)
    ∙ no_numbers n i statuses ss h.1

-- the list is empty
abbrev IsEmpty : List ℕ → Type 0
IsEmpty ns = ns ≡ []

-- the bodies mention no template
all_empty : (n i : ℕ) (statuses : List NameStatus) (left j : ℕ) (xs : List Datum) → AreBodies left j xs
    → AllByRecursion IsEmpty (graph_of (symbols n i) statuses (map template_over xs))
all_empty n i statuses zero j xs h =
    subst (λ ys. AllByRecursion IsEmpty (graph_of (symbols n i) statuses (map template_over ys))) (sym h) tt
all_empty n i statuses (suc left) j [] h = absurd h
all_empty n i statuses (suc left) j (x ∷ xs) h = (
  no_numbers n i statuses (mentions x) (body_mentions j x h.0),
  all_empty n i statuses left (suc j) xs h.1,
)

-- where no body mentions a template, none stands in any
nowhere : (graph : List (List ℕ)) → AllByRecursion IsEmpty graph → (a b : ℕ) → In b (body graph a) → ⊥
nowhere [] h a b is = is
nowhere (ns ∷ graph) h zero b is = subst (In b) h.0 is
nowhere (ns ∷ graph) h (suc a) b is = nowhere graph h.1 a b is

-- so there is no way
no_way : (graph : List (List ℕ)) → AllByRecursion IsEmpty graph → (a b : ℕ) (between : List ℕ)
    → IsPath graph a between b → ⊥
no_way graph h a b [] way = nowhere graph h a b way
no_way graph h a b (x ∷ xs) way = nowhere graph h a x way.0

-- and no template comes back
never_back : (graph : List (List ℕ)) → AllByRecursion IsEmpty graph → (a : ℕ) → comes_back graph a ≡ false
never_back graph h a =
    fails (comes_back graph a) (λ e.
    let reaches = (comes_back_reaches graph a (λ c b is. absurd (nowhere graph h c b is))).0 e in
    no_way graph h a a reaches.0 reaches.1)

-- ---- the statuses and the templates

-- the templates are those over the bodies
pub templates_over : (xs : List Datum) → templates_in (map standing_over xs) ≡ map template_over xs
templates_over [] = refl
templates_over (x ∷ xs) = ap (λ ts. template_over x ∷ ts) (templates_over xs)

-- where no template comes back, each name has the number of its place
numbers_stay : (graph : List (List ℕ)) → ((a : ℕ) → comes_back graph a ≡ false) → (xs : List Datum) (m k : ℕ)
    → k < length xs
    → slice_get (map (finished graph) (numbered m (map standing_over xs))) k ≡ Some (status.Deftype (m + k))
numbers_stay graph never [] m k h = absurd (omega arith)
numbers_stay graph never (x ∷ xs) m zero h =
    let here : m ≡ m + 0 = omega arith in
    ap (λ (b : Bool). Some (if b then status.Recursive else status.Deftype m)) (never m)
    ∙ ap (λ l. Some (status.Deftype l)) here
numbers_stay graph never (x ∷ xs) m (suc k) h =
    let there : m + 1 + k ≡ m + suc k = omega arith in
    numbers_stay graph never xs (m + 1) k (omega arith) ∙ ap (λ l. Some (status.Deftype l)) there

-- the name of a number has the number of its place
pub status_of_type : (n i left : ℕ) (xs : List Datum) → AreBodies left 0 xs → (k : ℕ) → k < length xs
    → slice_get (statuses_in (symbols n i) (map standing_over xs)) k ≡ Some (status.Deftype k)
status_of_type n i left xs h k l =
    let ss = map standing_over xs in
    let graph = graph_of (symbols n i) (numbered 0 ss) (templates_in ss) in
    let empty : AllByRecursion IsEmpty graph =
    subst (λ ts. AllByRecursion IsEmpty (graph_of (symbols n i) (numbered 0 ss) ts)) (sym (templates_over xs))
    (all_empty n i (numbered 0 ss) left 0 xs h) in
    let from_start : 0 + k ≡ k = omega arith in
    numbers_stay graph (never_back graph empty) xs 0 k l ∙ ap (λ m. Some (status.Deftype m)) from_start

-- there are as many bodies as numbers
pub bodies_length : (left i : ℕ) (xs : List Datum) → AreBodies left i xs → length xs ≡ left
bodies_length zero i xs h = ap (λ (ys : List Datum). length ys) h
bodies_length (suc left) i [] h = absurd h
bodies_length (suc left) i (x ∷ xs) h = ap suc (bodies_length left (suc i) xs h.1)

-- the template of a number, so many places on
pub record HasTemplate (j : ℕ) (found : Option deftype.Definition) : Type 0 where
  pub over : Datum
  pub parts : IsWhole j over
  pub is : found ≡ Some (template_over over)

-- the template so many places on is that of the number so far on
pub template_at : (left i k : ℕ) (xs : List Datum) → AreBodies left i xs → k < left
    → HasTemplate (i + k) (slice_get (map template_over xs) k)
template_at zero i k xs h l = absurd (omega arith)
template_at (suc left) i k [] h l = absurd h
template_at (suc left) i zero (x ∷ xs) h l =
    let here : i ≡ i + 0 = omega arith in
    record { over = x; parts = subst (λ m. IsWhole m x) here h.0; is = refl }
template_at (suc left) i (suc k) (x ∷ xs) h l =
    let there : suc i + k ≡ i + suc k = omega arith in
    subst (λ m. HasTemplate m (slice_get (map template_over xs) k)) there
    (template_at left (suc i) k xs h.1 (omega arith))
