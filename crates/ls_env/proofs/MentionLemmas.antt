-- What data mention, one form at a time.
use Rattle.std.proofs.Common.{◌≡◌, ℕ, Bool, false, List, [], ◌∷◌, ◌++◌, map, Option, refl, ap, sym, ◌∙◌, append_assoc}
use Rattle.std.specs.Prelude.{filter_map, if◌then◌else◌}
use Rattle.std.proofs.lemmas.List.Elements.{filter_map-append}
use Rattle.ls_object.specs.declared.symbol.Symbol.{Symbol}
use Rattle.ls_reader.specs.declared.datum.Datum.{Datum}
use Rattle.ls_reader.specs.declared.datum.Form.{Form, out-Form, roll-Form, roll-out-Form, fold-Form}
use Rattle.ls_reader.specs.declared.datum.Form as form
use Rattle.ls_reader.specs.declared.datum.Form.TheOpen.{Form-F}
use Rattle.ls_reader.specs.declared.datum.Form.TheVariants.{rolls-List, rolls-Vector, rolls-Dotted}
use Rattle.ls_reader.specs.declared.datum.Form.TheFolds.{fold-roll-Form, fold-roll-Datum}
use Rattle.ls_env.specs.declared.status.NameStatus.{NameStatus}
use Rattle.ls_env.specs.Definitions.{symbol_in, symbol_of}
use Rattle.ls_env.specs.Mentions.{Part, of_objects, mentioned_in_all, mentioned_in_list, part_step, datum_step, part, mentions}
use Rattle.ls_env.specs.Statuses.{number_in, looked_up, mentioned}
use Rattle.ls_env.specs.steps.Mentioned.{is_of_objects, mentioned_by_all}

-- one level of a datum
abbrev level : Form → Part
level = fold-Form Part Part part_step datum_step

opened : (d : Datum) → part d ≡ level d.form
opened d = fold-roll-Datum Part Part part_step datum_step (record { span = d.span; form = d.form })

opened_as : (d : Datum) (f : Form-F Form Datum) (whole : Form) → d.form ≡ whole → roll-Form f ≡ whole
    → part d ≡ level (roll-Form f)
opened_as d f whole is rolls = opened d ∙ ap level (is ∙ sym rolls)

mentions_list : (d : Datum) (ds : List Datum) → d.form ≡ form.List ds → mentions d ≡ mentioned_in_list (map part ds)
mentions_list d ds is =
    ap (λ (p : Part). p.mentioned) (
    opened_as d (Form-F.List ds) (form.List ds) is (rolls-List ds)
    ∙ fold-roll-Form Part Part part_step datum_step (Form-F.List ds)
    )

mentions_vector : (d : Datum) (ds : List Datum) → d.form ≡ form.Vector ds → mentions d ≡ mentioned_in_all (map part ds)
mentions_vector d ds is =
    ap (λ (p : Part). p.mentioned) (
    opened_as d (Form-F.Vector ds) (form.Vector ds) is (rolls-Vector ds)
    ∙ fold-roll-Form Part Part part_step datum_step (Form-F.Vector ds)
    )

mentions_dotted : (d : Datum) (ds : List Datum) (last : Datum) → d.form ≡ form.Dotted ds last
    → mentions d ≡ mentioned_in_all (map part ds) ++ mentions last
mentions_dotted d ds last is =
    ap (λ (p : Part). p.mentioned) (
    opened_as d (Form-F.Dotted ds last) (form.Dotted ds last) is (rolls-Dotted ds last)
    ∙ fold-roll-Form Part Part part_step datum_step (Form-F.Dotted ds last)
    )

-- the symbol of a part of a body is that of the datum
symbol_level : (f : Form-F Form Datum) → (level (roll-Form f)).symbol ≡ symbol_in f
symbol_level (Form-F.Symbol s) = ap (λ (p : Part). p.symbol) (fold-roll-Form Part Part part_step datum_step (Form-F.Symbol s))
symbol_level f = ap (λ (p : Part). p.symbol) (fold-roll-Form Part Part part_step datum_step f)

symbol_part : (d : Datum) → (part d).symbol ≡ symbol_of d
symbol_part d =
    ap (λ (p : Part). p.symbol) (opened d ∙ ap level (sym (roll-out-Form d.form))) ∙ symbol_level (out-Form d.form)

module _ (names : List Symbol) (statuses : List NameStatus) where
  abbrev number : Symbol → Option ℕ
  number s = number_in (looked_up names statuses s)

  all_told : (ds : List Datum) → mentioned_by_all names statuses ds ≡ filter_map number (mentioned_in_all (map part ds))
  all_told [] = refl
  all_told (d ∷ ds) =
      ap (λ ns. mentioned names statuses d ++ ns) (all_told ds)
      ∙ sym (filter_map-append number (mentions d) (mentioned_in_all (map part ds)))

  list_told : (ds : List Datum) → is_of_objects ds ≡ false
      → mentioned_by_all names statuses ds ≡ filter_map number (mentioned_in_list (map part ds))
  list_told [] h = refl
  list_told (d ∷ ds) h =
      all_told (d ∷ ds)
      ∙ sym (ap (λ (b : Bool). filter_map number (if b then [] else mentioned_in_all (map part (d ∷ ds)))) (ap of_objects (symbol_part d) ∙ h))

  -- a list without MEMBER, EQL or SATISFIES in front mentions what its parts do
  pub list_tells : (d : Datum) (ds lent seen : List Datum) → d.form ≡ form.List ds → lent ≡ ds → seen ≡ ds
      → is_of_objects seen ≡ false
      → mentioned_by_all names statuses lent ≡ mentioned names statuses d
  list_tells d ds lent seen is all same h =
      ap (mentioned_by_all names statuses) all
      ∙ list_told ds (sym (ap is_of_objects same) ∙ h)
      ∙ sym (ap (filter_map number) (mentions_list d ds is))

  -- a vector mentions what its parts do
  pub vector_tells : (d : Datum) (ds lent : List Datum) → d.form ≡ form.Vector ds → lent ≡ ds
      → mentioned_by_all names statuses lent ≡ mentioned names statuses d
  vector_tells d ds lent is all =
      ap (mentioned_by_all names statuses) all ∙ all_told ds ∙ sym (ap (filter_map number) (mentions_vector d ds is))

  -- a dotted list mentions what its parts do, and then what stands behind the dot does
  pub dotted_tells : (d : Datum) (ds lent : List Datum) (last end : Datum) (old mid : List ℕ)
      → d.form ≡ form.Dotted ds last → lent ≡ ds → end ≡ last
      → mid ≡ old ++ mentioned_by_all names statuses lent
      → mid ++ mentioned names statuses end ≡ old ++ mentioned names statuses d
  dotted_tells d ds lent last end old mid is all same so_far =
      ap (λ e. mid ++ mentioned names statuses e) same
      ∙ ap (λ ns. ns ++ mentioned names statuses last) (so_far ∙ ap (λ es. old ++ mentioned_by_all names statuses es) all ∙ ap (λ ns. old ++ ns) (all_told ds))
      ∙ append_assoc old (filter_map number (mentioned_in_all (map part ds))) (mentioned names statuses last)
      ∙ ap (λ ns. old ++ ns) (
      sym (filter_map-append number (mentioned_in_all (map part ds)) (mentions last))
      ∙ sym (ap (filter_map number) (mentions_dotted d ds last is))
      )
