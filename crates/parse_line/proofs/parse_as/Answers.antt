-- `parse_line::parse_as` meets its contract. Assumes nothing.
use Rattle.parse_line.proofs.Lines.{scanned-length, parsed-help, parsed-asked}
use borrow.Author.Rules.{rules}
use Rattle.parse_line.proofs.parse_as.Goals as goal

pub returns-then-k-eq-HELP : goal.returns-then-k-eq-HELP
returns-then-k-eq-HELP c = search parsed-help

pub judged-command-requires : goal.judged-command-requires
judged-command-requires c = (search rules, search scanned-length)

pub returns : goal.returns
returns c = search parsed-asked
