-- The generated text is read as the generated forms.
use Rattle.std.proofs.Common.{ℕ, zero, suc, ◌≡◌, ◌+◌, ◌*◌, ◌<◌, ◌≤◌, List, [], ◌∷◌, refl, sym, subst, ◌∙◌, arith}
use Rattle.std.specs.List.{flat_map, range_with_len}
use Rattle.std.proofs.lemmas.List.{append-nil}
use Rattle.std.proofs.lemmas.Nat.{mod_below}
use Rattle.ls_reader.specs.declared.datum.Datum.{Datum}
use Rattle.ls_reader.specs.Characters.{is_blank}
use Rattle.ls_reader.specs.Forms.{FormsIn}
use Rattle.ls_reader.specs.Lexemes.{Ends}
use Rattle.ls_reader.specs.Places.{start}
use Rattle.ls_reader.specs.Trees.{tree_pieces, yields}
use Rattle.ls_gen.specs.Generated.{partner, lines_of, generated_text}
use Rattle.ls_gen.specs.Shapes.{AreOf, IsDefinition, IsListQuery, IsPartnerQuery, AreFrom, AreGenerated}
use Rattle.ls_gen.proofs.LineLemmas.{definition_read, list_read, partner_read}
use Rattle.ls_gen.proofs.LineTexts.{lines_parts}
use Rattle.ls_gen.proofs.ReadLemmas.{AreRead, Found, nothing, trees_data}

-- the shapes of the forms of so many numbers, from i on
abbrev shapes_from : (n left i : ℕ) → List (Datum → Type 0)
shapes_from n zero i = []
shapes_from n (suc left) i =
    IsDefinition i ∷ IsListQuery i ∷ IsPartnerQuery i (partner n i) ∷ shapes_from n left (i + 1)

-- the text of so many numbers, from i on
abbrev text_from : (n left i : ℕ) → List ℕ
text_from n left i = flat_map (lines_of n) (range_with_len i left)

-- no blank comes first in it
text_no_blank : (n left i : ℕ) → Ends is_blank (text_from n left i)
text_no_blank n zero i = tt
text_no_blank n (suc left) i = refl

-- data of the shapes are the forms
are_from : (n left i : ℕ) (fs : List Datum) → AreOf (shapes_from n left i) fs → AreFrom n left i fs
unfolding AreFrom
are_from n zero i [] h = refl
are_from n zero i (a ∷ fs) h = absurd h
are_from n (suc left) i [] h = absurd h
are_from n (suc left) i (a ∷ []) h = absurd h.1
are_from n (suc left) i (a ∷ b ∷ []) h = absurd h.1.1
are_from n (suc left) i (a ∷ b ∷ c ∷ fs) h =
    let next : i + 1 ≡ suc i = omega arith in
    (h.0, h.1.0, h.1.1.0, subst (λ j. AreFrom n left j fs) next (are_from n left (i + 1) fs h.1.1.1))

-- the partner of a number is below the count
pub partner_below : (n i : ℕ) → i < n → partner n i < n
partner_below n i h = mod_below (7 * i + 3) n (omega (arith, h))

-- the text of so many numbers is read as their forms
text_read : (n left i : ℕ) → n ≤ 4096 → i + left ≤ n → AreRead 0 (text_from n left i) [] (shapes_from n left i)
text_read n zero i few within = nothing 0 []
text_read n (suc left) i few within =
    let more = text_from n left (i + 1) in
    let here : i ≤ 4096 = omega (arith, few, within) in
    let there : partner n i ≤ 4096 = omega (arith, few, within, partner_below n i (omega (arith, within))) in
    subst (λ cs. AreRead 0 cs [] (shapes_from n (suc left) i)) (sym (lines_parts n i more))
    (definition_read i _ [] _ here refl
    (list_read i _ [] _ here refl
    (partner_read n i more [] _ here there (text_no_blank n left (i + 1))
    (text_read n left (i + 1) few (omega (arith, within))))))

-- what is found in a whole text is its forms
found_forms : (cs : List ℕ) (shapes : List (Datum → Type 0)) → Found 0 start cs [] shapes
    → (fs : List Datum) × FormsIn cs fs × AreOf shapes fs
found_forms cs shapes f =
    let forms = flat_map yields f.whole in (
      forms,
      record {
        lexemes = f.lexemes;
        lexed = f.lexed;
        whole = f.whole;
        begun = record {
          are = f.are ∙ sym (append-nil (flat_map tree_pieces f.whole));
          whole_fit = f.fit;
          begun_fit = tt;
        };
        are = refl;
      },
      trees_data shapes f.whole f.shaped,
    )

-- the generated text is the generated forms
pub generated_forms : (n : ℕ) → n ≤ 4096 → (fs : List Datum) × FormsIn (generated_text n) fs × AreGenerated n fs
unfolding generated_text
generated_forms n few =
    let found = found_forms (text_from n n 0) (shapes_from n n 0) (text_read n n 0 few (omega arith) start) in
    (found.0, found.1, are_from n n 0 found.0 found.2)
