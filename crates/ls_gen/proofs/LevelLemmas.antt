-- The types of the generated queries, level by level: built-in names, the body of a generated type, and its name.
use Rattle.std.proofs.Common.{◌≡◌, refl, ap, ◌∙◌, ℕ, List, [], ◌∷◌, Bool, false, Some, None, Ok, Err, codes, arith}
use Rattle.std.specs.Prelude.{◌==◌, if◌then◌else◌}
use Rattle.ls_object.specs.Symbols.{common_lisp_symbol}
use Rattle.ls_tables.specs.declared.name.Builtin.{Builtin}
use Rattle.ls_tables.specs.declared.name.Builtin.TheVariants as name
use Rattle.ls_tables.specs.Builtins.{BUILTIN_NAMES, builtin_of}
use Rattle.ls_reader.specs.declared.datum.Datum.{Datum}
use Rattle.ls_reader.specs.declared.datum.Form.{out-Form}
use Rattle.ls_reader.specs.declared.datum.Form.TheOpen.{Form-F}
use Rattle.ls_spec.specs.declared.spec.RangeKind.TheVariants.{Integer}
use Rattle.ls_spec.specs.declared.spec.Bound.TheVariants.{Incl}
use Rattle.ls_spec.specs.Specifier.{range_of, eql_to}
use Rattle.ls_spec.specs.declared.spec.Point.TheVariants as point
use Rattle.ls_env.specs.declared.status.NameStatus.TheVariants as status
use Rattle.ls_env.specs.Environments.{Environment}
use Rattle.ls_env.specs.Naming.{status_of}
use Rattle.std.specs.Prelude.{slice_get}
use Rattle.ls_grammar.specs.Numbers.{bound_of, bound_form, inclusive, bad_bound, is_star_form, is_star_name}
use Rattle.ls_grammar.specs.Levels.{pair_of, expanded, range, part_of}
use Rattle.ls_grammar.specs.BuiltinLevels.{built_atom, built_list}
use Rattle.ls_grammar.specs.Saying.{level, form_level, atom_level, atom_by, head_level, list_level, use_by}
use Rattle.ls_grammar.specs.Denoting.{object_form}
use Rattle.ls_gen.specs.Shapes.{IsName, IsNumber, type_name}
use Rattle.ls_gen.proofs.TypeNameLemmas.{type_symbol, not_built_in}
use Rattle.ls_gen.proofs.ItemLemmas.{triple_of_shapes}
use Rattle.ls_gen.proofs.BodyLemmas.{IsEql, IsTail, IsEither, IsRange, IsWhole}
use Rattle.ls_gen.proofs.SubstitutionLemmas.{body_stays}
use Rattle.ls_gen.proofs.MentionLemmas.{body_size}
use Rattle.ls_gen.proofs.TemplateLemmas.{template_over}
use Rattle.ls_gen.proofs.FileLemmas.{IsIntegerList}
use Rattle.ls_gen.proofs.VisitLemmas.{Fits, fits_known, fits_object, fits_pair, fits_either, fits_expanded, fits_higher}

-- ---- built-in names

-- the name is that built-in one
abbrev Means : List ℕ → Builtin → Type 0
Means text b = builtin_of (common_lisp_symbol text) ≡ Some b

-- each name that stands in a type is built in
cons_means : Means (codes "CONS") name.Cons
unfolding BUILTIN_NAMES
cons_means = refl

-- INTEGER is built in
integer_means : Means (codes "INTEGER") name.Integer
unfolding BUILTIN_NAMES
integer_means = refl

-- LIST is built in
list_means : Means (codes "LIST") name.List
unfolding BUILTIN_NAMES
list_means = refl

-- OR is built in
or_means : Means (codes "OR") name.Or
unfolding BUILTIN_NAMES
or_means = refl

-- NULL is built in
null_means : Means (codes "NULL") name.Null
unfolding BUILTIN_NAMES
null_means = refl

-- EQL is built in
eql_means : Means (codes "EQL") name.Eql
unfolding BUILTIN_NAMES
eql_means = refl

-- T is built in
t_means : Means (codes "T") name.T
unfolding BUILTIN_NAMES
t_means = refl

-- a datum that is a list is not the symbol `*`
list_part : (d : Datum) (items : List Datum) → out-Form d.form ≡ Form-F.List items → part_of d ≡ Some d
list_part d items is = ap (λ f. if is_star_form f then None else Some d) is

-- nor is one that is another built-in name
name_part : (text : List ℕ) (b : Builtin) (d : Datum) → IsName text d → Means text b → is_star_name (Some b) ≡ false
    → part_of d ≡ Some d
name_part text b d is means other =
    ap (λ f. if is_star_form f then None else Some d) is
    ∙ ap (λ x. if is_star_name x then None else Some d) means
    ∙ ap (λ (s : Bool). if s then None else Some d) other

module _ (env : Environment) where
  -- what a built-in name says as an atom
  atom_says : (text : List ℕ) (b : Builtin) (d : Datum) → IsName text d → Means text b
      → level env d ≡ built_atom d.span b
  atom_says text b d is means =
      ap (form_level env d.span) is ∙ ap (atom_level env d.span (common_lisp_symbol text)) means

  -- what it says as the head of a list
  list_says : (text : List ℕ) (b : Builtin) (d head : Datum) (args : List Datum)
      → out-Form d.form ≡ Form-F.List (head ∷ args)
      → IsName text head
      → Means text b
      → level env d ≡ built_list d.span args b
  list_says text b d head args is named means =
      ap (form_level env d.span) is
      ∙ ap (head_level env d.span args) named
      ∙ ap (list_level env d.span (common_lisp_symbol text) args) means

  -- INTEGER fits
  integer_fits : (d : Datum) → IsName (codes "INTEGER") d → Fits env 1 1 d
  integer_fits d is = fits_known env d _ (atom_says (codes "INTEGER") name.Integer d is integer_means)

  -- LIST fits
  list_fits : (d : Datum) → IsName (codes "LIST") d → Fits env 1 1 d
  list_fits d is = fits_known env d _ (atom_says (codes "LIST") name.List d is list_means)

  -- NULL fits
  null_fits : (d : Datum) → IsName (codes "NULL") d → Fits env 1 1 d
  null_fits d is = fits_known env d _ (atom_says (codes "NULL") name.Null d is null_means)

  -- T fits
  t_fits : (d : Datum) → IsName (codes "T") d → Fits env 1 1 d
  t_fits d is = fits_known env d _ (atom_says (codes "T") name.T d is t_means)

  -- what a CONS of two says
  cons_says : (d head a b : Datum) → out-Form d.form ≡ Form-F.List (head ∷ a ∷ b ∷ []) → IsName (codes "CONS") head
      → part_of a ≡ Some a
      → part_of b ≡ Some b
      → level env d ≡ pair_of (Some a) (Some b)
  cons_says d head a b is named first second =
      list_says (codes "CONS") name.Cons d head (a ∷ b ∷ []) is named cons_means ∙ (λ k. pair_of (first k) (second k))

  -- the type `(cons integer list)` fits
  pub integer_list_fits : (d : Datum) → IsIntegerList d → Fits env 2 3 d
  integer_list_fits d h =
      let p = triple_of_shapes (IsName (codes "CONS")) (IsName (codes "INTEGER")) (IsName (codes "LIST")) d h in
      fits_pair env d p.two p.three 1 1 1
      (cons_says d p.one p.two p.three p.form p.first
      (name_part (codes "INTEGER") name.Integer p.two p.second integer_means refl)
      (name_part (codes "LIST") name.List p.three p.third list_means refl))
      (integer_fits p.two p.second) (list_fits p.three p.third)

  -- ---- the body of a generated type

  -- a number is a bound that belongs
  number_bound : (n : ℕ) (d : Datum) (h : IsNumber n d) → bound_of Integer d ≡ Ok (Incl h.0.value)
  number_bound n d h =
      ap (bound_form Integer d.span) h.1
      ∙ ap (λ m. inclusive (if m == 1 then Ok h.0.value else Err (bad_bound d.span))) h.3

  -- `(integer 0 i)` fits
  range_fits : (i : ℕ) (d : Datum) → IsRange i d → Fits env 1 1 d
  range_fits i d h =
      let low = number_bound 0 h.two h.second in
      let high = number_bound i h.three h.third in
      fits_known env d (range_of Integer (Incl h.second.0.value) (Incl h.third.0.value))
      (list_says (codes "INTEGER") name.Integer d h.one (h.two ∷ h.three ∷ []) h.form h.first
      integer_means ∙ (λ k. range Integer (low k) (high k)))

  -- `(eql i)` fits
  eql_fits : (i : ℕ) (d : Datum) → IsEql i d → Fits env 1 2 d
  eql_fits i d h =
      fits_object env d h.two (eql_to (point.Number h.second.0.value))
      (list_says (codes "EQL") name.Eql d h.one (h.two ∷ []) h.form h.first eql_means)
      (ap (object_form h.two.span) h.second.1)

  -- `(cons (eql i) t)` fits
  tail_fits : (i : ℕ) (d : Datum) → IsTail i d → Fits env 2 4 d
  tail_fits i d h =
      fits_pair env d h.two h.three 1 2 1
      (cons_says d h.one h.two h.three h.form h.first (list_part h.two _ h.second.form)
      (name_part (codes "T") name.T h.three h.third t_means refl))
      (eql_fits i h.two h.second) (t_fits h.three h.third)

  -- `(or null (cons (eql i) t))` fits
  either_fits : (i : ℕ) (d : Datum) → IsEither i d → Fits env 3 6 d
  either_fits i d h =
      fits_either env d h.two h.three 2 1 4
      (list_says (codes "OR") name.Or d h.one (h.two ∷ h.three ∷ []) h.form h.first or_means)
      (fits_higher env 1 2 1 h.two (omega arith) (null_fits h.two h.second)) (tail_fits i h.three h.third)

  -- the body of a generated type fits
  pub whole_fits : (i : ℕ) (d : Datum) → IsWhole i d → Fits env 4 8 d
  whole_fits i d h =
      fits_pair env d h.two h.three 3 1 6
      (cons_says d h.one h.two h.three h.form h.first (list_part h.two _ h.second.form)
      (list_part h.three _ h.third.form))
      (fits_higher env 1 3 1 h.two (omega arith) (range_fits i h.two h.second)) (either_fits i h.three h.third)

  -- ---- its name

  -- a name with a template over a body stands for that body
  name_says : (j n : ℕ) (d x : Datum) → IsName (type_name j) d → status_of env (type_symbol j) ≡ status.Deftype n
      → slice_get env.templates n ≡ Some (template_over x)
      → IsWhole j x
      → level env d ≡ expanded x
  name_says j n d x is has at parts =
      ap (form_level env d.span) is
      ∙ ap (atom_level env d.span (type_symbol j)) (not_built_in j)
      ∙ ap (λ s. atom_by env (type_symbol j) s d.span) has
      ∙ ap (λ t. use_by t d.span []) at
      ∙ ap expanded (body_stays (record { template = template_over x; place = d.span; args = [] }) j x parts)

  -- the name of a generated type fits
  pub type_fits : (j n : ℕ) (d x : Datum) → IsName (type_name j) d → status_of env (type_symbol j) ≡ status.Deftype n
      → slice_get env.templates n ≡ Some (template_over x)
      → IsWhole j x
      → Fits env 5 24 d
  type_fits j n d x is has at parts =
      fits_expanded env d x 4 15 8 (name_says j n d x is has at parts) (body_size j x parts) (whole_fits j x parts)
