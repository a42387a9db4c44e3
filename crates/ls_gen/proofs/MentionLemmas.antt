-- The body of a generated type mentions no generated type, and has fifteen data.
use Rattle.std.proofs.Common.{◌≡◌, ap, sym, subst, ℕ, ◌+◌, List, [], ◌∷◌, ◌++◌, map, Bool, true, false, codes, decimal, arith}
use Rattle.std.specs.Prelude.{if◌then◌else◌, ◌&&◌}
use Rattle.std.specs.List.{AllByRecursion}
use Rattle.ls_object.specs.declared.symbol.Symbol.{Symbol}
use Rattle.ls_object.specs.ObjectText.{is_text}
use Rattle.ls_object.specs.Symbols.{common_lisp_symbol, same_symbol}
use Rattle.ls_reader.specs.declared.datum.Datum.{Datum}
use Rattle.ls_reader.specs.declared.datum.Form.{out-Form}
use Rattle.ls_reader.specs.declared.datum.Form.TheOpen.{Form-F}
use Rattle.ls_reader.specs.Sizes.{size, size_all}
use Rattle.ls_reader.specs.Sizes as sizes
use Rattle.ls_env.specs.Mentions.{Part, of_objects, mentioned_in_all, part_step, datum_step, part, mentions}
use Rattle.ls_gen.specs.Shapes.{IsName, IsNumber}
use Rattle.ls_gen.proofs.FoldLemmas.{fold_by_form}
use Rattle.ls_gen.proofs.ItemLemmas.{IsPair, IsTriple}
use Rattle.ls_gen.proofs.TypeNameLemmas.{type_symbol}
use Rattle.ls_gen.proofs.BodyLemmas.{IsCore, IsHereditary, IsEql, IsTail, IsEither, IsRange, IsWhole, holds_of_body}

-- ---- mentions

-- the symbol names no generated type
pub record IsOther (s : Symbol) : Type 0 where
  pub apart : (j : ℕ) → same_symbol s (type_symbol j) ≡ false

-- a name that begins otherwise names none
core_other : (name : List ℕ) → IsCore name → IsOther (common_lisp_symbol name)
core_other [] h = absurd h
core_other (c ∷ cs) h = record { apart = λ j. ap (λ b. b && is_text cs (decimal j)) h }

-- no generated type is mentioned in it
abbrev MentionsOthers : Datum → Type 0
MentionsOthers d = AllByRecursion IsOther (mentions d)

-- what two lists have, both together have
others_append : (ss ts : List Symbol) → AllByRecursion IsOther ss → AllByRecursion IsOther ts
    → AllByRecursion IsOther (ss ++ ts)
others_append [] ts h k = k
others_append (s ∷ ss) ts h k = (h.0, others_append ss ts h.1 k)

-- the parts of a list mention none where each of them does not
all_others : (ds : List Datum) → AllByRecursion MentionsOthers ds
    → AllByRecursion IsOther (mentioned_in_all (map part ds))
all_others [] h = tt
all_others (d ∷ ds) h = others_append (mentions d) (mentioned_in_all (map part ds)) h.0 (all_others ds h.1)

-- whether the parts of a list are passed over or not
either_way : (b : Bool) (ss : List Symbol) → AllByRecursion IsOther ss → AllByRecursion IsOther (if b then [] else ss)
either_way true ss h = tt
either_way false ss h = h

-- mentioning no generated type is hereditary
others : IsHereditary MentionsOthers
others = record {
  of_name = λ name d core is.
      subst (λ (p : Part). AllByRecursion IsOther p.mentioned)
      (sym (fold_by_form part_step datum_step d (Form-F.Symbol (common_lisp_symbol name)) is))
      (core_other name core, tt);
  of_number = λ l d is.
      subst (λ (p : Part). AllByRecursion IsOther p.mentioned)
      (sym (fold_by_form part_step datum_step d (Form-F.Number l) is)) tt;
  of_list = λ x xs d is each.
      subst (λ (p : Part). AllByRecursion IsOther p.mentioned)
      (sym (fold_by_form part_step datum_step d (Form-F.List (x ∷ xs)) is))
      (either_way (of_objects (part x).symbol) (mentioned_in_all (map part (x ∷ xs))) (all_others (x ∷ xs) each));
}

-- the body of a generated type mentions none
pub body_mentions : (i : ℕ) (d : Datum) → IsWhole i d → AllByRecursion IsOther (mentions d)
body_mentions i d h = holds_of_body MentionsOthers others i d h

-- ---- sizes

-- a name is one datum
name_size : (name : List ℕ) (d : Datum) → IsName name d → size d ≡ 1
name_size name d is = fold_by_form sizes.form_step sizes.datum_step d (Form-F.Symbol (common_lisp_symbol name)) is

-- a number is one datum
number_size : (n : ℕ) (d : Datum) → IsNumber n d → size d ≡ 1
number_size n d is = fold_by_form sizes.form_step sizes.datum_step d (Form-F.Number _) is.1

-- a list has one more than its items
list_size : (ds : List Datum) (d : Datum) → out-Form d.form ≡ Form-F.List ds → size d ≡ size_all ds + 1
list_size ds d is = fold_by_form sizes.form_step sizes.datum_step d (Form-F.List ds) is

-- so has a list of two
pair_size : (A B : Datum → Type 0) (m n : ℕ) (d : Datum) (h : IsPair A B d) → size h.one ≡ m → size h.two ≡ n
    → size d ≡ m + n + 1
pair_size A B m n d h e f = omega (arith, list_size (h.one ∷ h.two ∷ []) d h.form, e, f)

-- and a list of three
triple_size : (A B C : Datum → Type 0) (l m n : ℕ) (d : Datum) (h : IsTriple A B C d) → size h.one ≡ l
    → size h.two ≡ m
    → size h.three ≡ n
    → size d ≡ l + m + n + 1
triple_size A B C l m n d h e f g = omega (arith, list_size (h.one ∷ h.two ∷ h.three ∷ []) d h.form, e, f, g)

-- `(eql i)` has three data
eql_size : (i : ℕ) (d : Datum) → IsEql i d → size d ≡ 3
eql_size i d h = pair_size _ _ 1 1 d h (name_size (codes "EQL") h.one h.first) (number_size i h.two h.second)

-- `(cons (eql i) t)` has six
tail_size : (i : ℕ) (d : Datum) → IsTail i d → size d ≡ 6
tail_size i d h =
    triple_size _ _ _ 1 3 1 d h (name_size (codes "CONS") h.one h.first) (eql_size i h.two h.second)
    (name_size (codes "T") h.three h.third)

-- `(or null (cons (eql i) t))` has nine
either_size : (i : ℕ) (d : Datum) → IsEither i d → size d ≡ 9
either_size i d h =
    triple_size _ _ _ 1 1 6 d h (name_size (codes "OR") h.one h.first) (name_size (codes "NULL") h.two h.second)
    (tail_size i h.three h.third)

-- `(integer 0 i)` has four
range_size : (i : ℕ) (d : Datum) → IsRange i d → size d ≡ 4
range_size i d h =
    triple_size _ _ _ 1 1 1 d h (name_size (codes "INTEGER") h.one h.first) (number_size 0 h.two h.second)
    (number_size i h.three h.third)

-- the body of a generated type has fifteen data
pub body_size : (i : ℕ) (d : Datum) → IsWhole i d → size d ≡ 15
body_size i d h =
    triple_size _ _ _ 1 4 9 d h (name_size (codes "CONS") h.one h.first) (range_size i h.two h.second)
    (either_size i h.three h.third)
