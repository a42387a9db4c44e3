use Rattle.std.proofs.Common.{◌≡◌, ℕ, List, ◌++◌, OnOk, sym, ◌∙◌, subst}
use Rattle.ls_env.proofs.MentionLemmas.{list_tells, vector_tells, dotted_tells}
use Rattle.ls_env.proofs.mention.Finder.+mention.Goals as goal

pub push_from-returns-else-is_of_objects : goal.push_from-returns-else-is_of_objects
push_from-returns-else-is_of_objects t c =
    let told = list_tells c.args.self.now.names.now.keys c.args.self.now.statuses.now c.args.datum.now c.in-List.items
    c.as_slice-else-is_of_objects.result.now c.as_slice.result.now c.in-List.is c.as_slice-else-is_of_objects.ensures c.as_slice.ensures
    (sym c.is_of_objects.ensures ∙ c.if-is_of_objects.false) in
    subst (λ (ns : List ℕ). OnOk c.push_all.result (c.push_all.new.out ≡ c.args.out.now ++ ns)) told c.push_all.ensures

pub push_from-returns-in-Vector : goal.push_from-returns-in-Vector
push_from-returns-in-Vector t c =
    let told = vector_tells c.args.self.now.names.now.keys c.args.self.now.statuses.now c.args.datum.now c.in-Vector.items
    c.as_slice-in-Vector.result.now c.in-Vector.is c.as_slice-in-Vector.ensures in
    subst (λ (ns : List ℕ). OnOk c.push_all-in-Vector.result (c.push_all-in-Vector.new.out ≡ c.args.out.now ++ ns)) told c.push_all-in-Vector.ensures

pub push_from-returns-in_ok-push_all-in-Dotted : goal.push_from-returns-in_ok-push_all-in-Dotted
push_from-returns-in_ok-push_all-in-Dotted t c =
    let names = c.args.self.now.names.now.keys in
    let statuses = c.args.self.now.statuses.now in
    let told = dotted_tells names statuses c.args.datum.now c.in-Dotted.items c.as_slice-in-Dotted.result.now c.in-Dotted.last c.get.result.now
    c.args.out.now c.push_all-in-Dotted.new.out c.in-Dotted.is c.as_slice-in-Dotted.ensures c.get.ensures c.in_ok-push_all-in-Dotted.ensures in
    subst (λ (ns : List ℕ). OnOk c.push_from.result (c.push_from.new.out ≡ ns)) told c.push_from.ensures
