use Rattle.std.proofs.Common.{◌≡◌, [], map, fold, ap, subst, ◌∙◌, arith, MatchOption, ℕ}
use Rattle.std.specs.Char.{IsScalar}
use Rattle.std.specs.List.{AllByRecursion}
use Rattle.std.specs.Option.{option_to_list}
use Rattle.ls_object.specs.Universe.{node, character}
use Rattle.ls_object.specs.Meaning.{lisp_object}
use Rattle.ls_spec.specs.declared.spec.CharClass.TheVariants.{Any, Base, Standard}
use Rattle.ls_points.specs.steps.Characters.{with_characters, IsUnnamed, AreNamedBetween}
use Rattle.ls_points.proofs.CharLaw.{char_law, char_objects, char_plains, char_count, joined, stand_ins}
use Rattle.ls_points.proofs.chars.CharRegionsRegions.reps.Goals as goal

pub returns : goal.returns
returns c =
    let atoms = c.args.atoms.now in
    let named = fold with_characters [] atoms in
    let keys : c.add_named.new.named.keys ≡ fold with_characters [] c.args.atoms.now = grind arith in
    let standard = c.first_unnamed-standard.result in
    let base = c.first_unnamed-base.result in
    let other = c.first_unnamed-other.result in
    let appended = joined (λ (x : ℕ). node [] (character x)) c.as_slice-2.result.now (option_to_list standard) (option_to_list base) (option_to_list other) (map lisp_object c.new-out.result) (map lisp_object c.push_chars.new.out) (map lisp_object c.push_found.new.out) (map lisp_object c.push_found-2.new.out) (map lisp_object c.push_found-3.new.out)
    (ap (map lisp_object) c.new-out.ensures) c.in_ok-push_chars.ensures.objects c.in_ok-push_found.ensures c.in_ok-push_found-2.ensures c.in_ok-push_found-3.ensures in
    let is = subst (λ ks. map lisp_object c.push_found-3.new.out ≡ map (λ (x : ℕ). node [] (character x)) (stand_ins ks standard base other)) (c.as_slice-2.ensures.keys ∙ keys) appended in
    let standard_is = subst (λ ks. MatchOption standard (AreNamedBetween ks Standard 0 128) (IsUnnamed ks Standard)) keys c.first_unnamed-standard.ensures in
    let base_is = subst (λ ks. MatchOption base (AreNamedBetween ks Base 0 128) (IsUnnamed ks Base)) keys c.first_unnamed-base.ensures in
    let other_is = subst (λ ks. MatchOption other (AreNamedBetween ks Any 128 0x110000) (IsUnnamed ks Any)) keys c.first_unnamed-other.ensures in
    let scalars = subst (AllByRecursion IsScalar) (c.as_slice-2.ensures.keys ∙ keys) c.in_ok-push_chars.ensures.scalars in
    record {
      plain = char_plains atoms standard base other c.requires standard_is base_is other_is c.push_found-3.new.out is;
      objects = λ structures over. char_objects atoms standard base other c.requires standard_is base_is other_is c.push_found-3.new.out is scalars structures;
      law = λ structures over. char_law atoms standard base other c.requires standard_is base_is other_is c.push_found-3.new.out is structures;
      count = char_count atoms standard base other c.requires standard_is base_is other_is c.push_found-3.new.out is;
    }
