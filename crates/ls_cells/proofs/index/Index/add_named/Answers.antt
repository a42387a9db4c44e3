use Rattle.std.proofs.Common.{◌∙◌, inl, inr, refl, ap, ◌++◌, ◌∷◌, []}
use Rattle.ls_cells.proofs.IndexLemmas.{absent_is}
use Rattle.ls_cells.proofs.index.Index.add_named.Goals as goal

pub put-requires : goal.put-requires
put-requires c = record { absent = absent_is c.get.result c.args.self.now.names c.as_slice.result.now c.in_ok-key.key.items c.get.ensures c.in-None.is c.as_slice.ensures.value }

pub returns-in_ok-push-in-Some : goal.returns-in_ok-push-in-Some
returns-in_ok-push-in-Some c = inl (refl, c.in_ok-push-in-Some.ensures.ok)

pub returns-in_ok-put-in-None : goal.returns-in_ok-put-in-None
returns-in_ok-put-in-None c =
    inr (
      c.requires,
      absent_is c.get.result c.args.self.now.names c.as_slice.result.now _ c.get.ensures c.in-None.is (c.as_slice.ensures.value ∙ c.in_ok-key.ensures),
      c.in_ok-put-in-None.ensures.ok ∙ ap (λ k. c.args.self.now.names ++ (k, c.args.i) ∷ []) c.in_ok-key.ensures,
      refl,
    )
