use Rattle.std.proofs.Common.{◌≡◌, ◌+◌, ◌∙◌, true, false, [], None, length, sym, arith}
use Rattle.ls_reader.specs.steps.Delimited.{is_pair, comment}
use Rattle.ls_reader.proofs.CommentLemmas.{closes_on, opens_on, pair_within}
use Rattle.ls_reader.proofs.comment.after_comment.Goals as goal

pub chars-preserved-then-is_pair : goal.chars-preserved-then-is_pair
chars-preserved-then-is_pair c =
    let l = c.chars in
    let pair : is_pair 124 35 l.last c.c-item.result ≡ true = sym c.is_pair.ensures ∙ c.if-is_pair.true in
    let n = length c.args.text.now + 2 in
    record {
      so_far = closes_on l.innermost c.in-Some.start l.around c.pop.new.self l.at l.last c.c-item.result l.rest.now (comment 0 [] 2 None c.args.text.now) c.in-len1-up.len_at_least c.c-item.is
          c.in-Some.ensures pair l.invariant.so_far;
      within = omega (arith, pair_within 124 35 l.at n l.last c.c-item.result l.rest.now pair c.in-len1-up.len_at_least l.invariant.within);
    }

pub chars-preserved-then-is_pair-2 : goal.chars-preserved-then-is_pair-2
chars-preserved-then-is_pair-2 c =
    let l = c.chars in
    let none : is_pair 124 35 l.last c.c-item.result ≡ false = sym c.is_pair.ensures ∙ c.if-is_pair.false in
    let pair : is_pair 35 124 l.last c.c-item.result ≡ true = sym c.is_pair-else-is_pair.ensures ∙ c.if-is_pair-2.true in
    let n = length c.args.text.now + 2 in
    record {
      so_far = opens_on l.innermost l.around c.push.new.self l.at l.last c.c-item.result l.rest.now (comment 0 [] 2 None c.args.text.now) c.in-len1-up.len_at_least c.c-item.is
          c.in_ok-push.ensures.ok none pair l.invariant.so_far;
      within = omega (arith, pair_within 35 124 l.at n l.last c.c-item.result l.rest.now pair c.in-len1-up.len_at_least l.invariant.within);
    }
