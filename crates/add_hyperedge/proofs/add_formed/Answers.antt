-- `add_hyperedge::add_formed` meets its contract. Assumes nothing.
use Rattle.std.specs.Prelude.{Err}
use Rattle.edits.proofs.Refusals.{fine-some, fine-short}
use Rattle.edits.proofs.AddHyperedge.{add-hyperedge-refused, add-hyperedge-fine}
use Rattle.layout.specs.Answers.{Answer, result_of}
use Rattle.layout.proofs.Answers.{passed_on}
use mathlib.Core.Path.{◌≡◌, ap, ◌∙◌}
use borrow.Author.Rules.{rules}
use Rattle.add_hyperedge.proofs.add_formed.Goals as goal

pub add_judged-requires : goal.add_judged-requires
add_judged-requires c = record {
  formed = search rules;
  members_nonzero = (search (fine-some, c.in_ok-judge_members.was), search (fine-short, c.in_ok-judge_members.was));
}

pub returns-in_err-judge_members : goal.returns-in_err-judge_members
returns-in_err-judge_members c =
    let answer : c.from_residual.result ≡ Err c.in_err-judge_members.field-0.0 = passed_on _ _ c.from_residual.ensures.1 in
    ap (λ (a : Answer). result_of a c.args.t.now) answer ∙ search (add-hyperedge-refused, c.in_err-judge_members.was)

pub returns : goal.returns
returns c = search (add-hyperedge-fine, c.in_ok-judge_members.was)
