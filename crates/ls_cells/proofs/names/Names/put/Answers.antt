use Rattle.std.proofs.Common.{ap, ◌∙◌, ◌++◌, ◌∷◌, []}
use Rattle.std.specs.Prelude.{nat_eq}
use Rattle.std.specs.Cmp.Lexicographic.{pointwise}
use Rattle.indexmap.proofs.CallerLemmas.{insert_entry-new}
use Rattle.ls_memo.specs.Kept.{kept_for, with_lists}
use Rattle.ls_memo.proofs.KeptLemmas.{kept_from_lookup, with_lists_push}
use Rattle.ls_cells.proofs.names.Names.put.Goals as goal

pub returns-clause-ok : goal.returns-clause-ok
returns-clause-ok c =
    ap (with_lists (λ k. k.items))
    (c.in_ok-insert.ensures.entries
    ∙ insert_entry-new (λ k l. pointwise nat_eq k.items l.items) c.self.inside.kept c.args.key c.args.number
    (kept_from_lookup (λ k. k.items) c.args.key.items c.self.inside.kept.entries ∙ ap (kept_for c.args.key.items) c.self.view_is ∙ c.requires.absent))
    ∙ with_lists_push (λ k. k.items) c.self.inside.kept.entries c.args.key c.args.number
    ∙ ap (λ entries. entries ++ (c.args.key.items, c.args.number) ∷ []) c.self.view_is
