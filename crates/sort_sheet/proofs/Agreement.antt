-- Any two results that keep `sort_text`'s promise on the same input agree. Assumes nothing.
use Rattle.layout.proofs.Answers.{agree}
use Rattle.agreement.specs.Agreement.{Agrees}
use Rattle.sort_sheet.proofs.sort_text.Kinds as sort-text
use Rattle.sort_sheet.proofs.sort_text.Reads as sort-text-reads

pub sort-text-agrees : Agrees 2 sort-text.ps sort-text.r sort-text-reads.Post (λ _ x. x.1.0.now)
sort-text-agrees κs args a b x y p q = agree _ p q
