use Rattle.std.proofs.Common.{ap, ◌∙◌, ◌≡◌, ◌++◌, ◌∷◌, []}
use Rattle.std.specs.Prelude.{nat_eq}
use Rattle.std.specs.Cmp.Lexicographic.{pointwise}
use Rattle.indexmap.proofs.CallerLemmas.{insert_entry-new}
use Rattle.ls_memo.specs.Kept.{kept_for, with_lists}
use Rattle.ls_memo.proofs.KeptLemmas.{kept_from_lookup, with_lists_push}
use Rattle.ls_memo.proofs.kept.Memo.put.Given.{Over}
use Rattle.ls_memo.proofs.kept.Memo.put.Goals.{After-drop-key-inside-2}
use Rattle.ls_memo.proofs.kept.Memo.put.Goals as goal

-- the copied numbers are those of the key
copied : (g : Over) (c : After-drop-key-inside-2 g) → c.in_ok-list.list.items ≡ c.args.key
copied g c = c.in_ok-list.ensures.items ∙ c.as_slice.ensures

-- the entry stands behind the others
last : (g : Over) (c : After-drop-key-inside-2 g) → c.insert.new.self.entries ≡ c.self.inside.kept.entries ++ (c.in_ok-list.list, c.args.value) ∷ []
last g c =
    c.in_ok-insert.ensures.entries
    ∙ insert_entry-new (λ k l. pointwise nat_eq k.items l.items) c.self.inside.kept c.in_ok-list.list c.args.value
    (kept_from_lookup (λ k. k.items) c.in_ok-list.list.items c.self.inside.kept.entries ∙ ap (kept_for c.in_ok-list.list.items) c.self.view_is ∙ ap (λ l. kept_for l c.args.self.now) (copied g c) ∙ c.requires.absent)

pub returns-clause-ok : goal.returns-clause-ok
returns-clause-ok g c =
    ap (with_lists (λ k. k.items)) (last g c)
    ∙ with_lists_push (λ k. k.items) c.self.inside.kept.entries c.in_ok-list.list c.args.value
    ∙ ap (λ l. with_lists (λ k. k.items) c.self.inside.kept.entries ++ (l, c.args.value) ∷ []) (copied g c)
    ∙ ap (λ entries. entries ++ (c.args.key, c.args.value) ∷ []) c.self.view_is
