-- `parse_line::parse` meets its contract. Assumes nothing.
use Rattle.commands.proofs.Names.{opens-found}
use Rattle.parse_line.proofs.Lines.{parsing-at, parsing-none}
use borrow.Author.Rules.{rules}
use Rattle.parse_line.proofs.parse.Goals as goal

pub parse_as-requires : goal.parse_as-requires
parse_as-requires c = record { opens = search opens-found; numbers_len = search rules }

pub returns-in-Some : goal.returns-in-Some
returns-in-Some c = search parsing-at

pub returns-in-None : goal.returns-in-None
returns-in-None c = search parsing-none
