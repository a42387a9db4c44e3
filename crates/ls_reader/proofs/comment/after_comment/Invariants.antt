use Rattle.std.proofs.Common.{◌≡◌, ◌+◌, ◌≤◌, [], None, length}
use Rattle.ls_reader.specs.steps.Delimited.{comment}
use Rattle.ls_reader.proofs.CommentLemmas.{pending}
use Rattle.ls_reader.proofs.comment.after_comment.Given as goal

abbrev pub invariant-chars : goal.invariant-chars
invariant-chars l = record {
  so_far : comment l.innermost l.around l.at l.last l.rest ≡ comment 0 [] 2 None l.text;
  within : l.at + pending l.last + length l.rest ≤ length l.text + 2;
}

abbrev pub decreases-chars : goal.decreases-chars
decreases-chars l = length l.rest
