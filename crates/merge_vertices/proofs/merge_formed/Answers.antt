-- `merge_vertices::merge_formed` meets its contract. Assumes nothing.
use Rattle.merge_vertices.proofs.Merging.{kept-missing, kept-live}
use Rattle.layout.proofs.Answers.{taken, untaken, refused-by}
use Rattle.layout.specs.Answers.{Answer, result_of, vertex_missing}
use mathlib.Core.Path.{◌≡◌, ap, ◌∙◌}
use Rattle.merge_vertices.proofs.merge_formed.Goals as goal

pub returns-in_err-ok_or : goal.returns-in_err-ok_or
returns-in_err-ok_or c =
    let answer : c.from_residual.result ≡ vertex_missing c.args.v.0 = search (refused-by, c.in_err-ok_or.was) in
    ap (λ (a : Answer). result_of a c.args.t.now) answer ∙ search (kept-missing, untaken _ _ _ c.ok_or.ensures.value _ c.in_err-ok_or.was)

pub returns : goal.returns
returns c = search (kept-live, taken _ _ _ c.ok_or.ensures.value _ c.in_ok-ok_or.was)
