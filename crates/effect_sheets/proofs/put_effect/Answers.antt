-- `effect_sheets::put_effect` meets its contract. Assumes nothing.
use Rattle.effect_sheets.proofs.Effects.{gone-put, found_within, found-put}
use borrow.Author.Rules.{rules}
use Rattle.effect_sheets.proofs.put_effect.Goals as goal

pub members_formed-members-requires : goal.members_formed-members-requires
members_formed-members-requires c = record { formed = search rules; j_bound = search found_within }

pub returns-in-None : goal.returns-in-None
returns-in-None c = search gone-put

pub returns-in-Some : goal.returns-in-Some
returns-in-Some c = search found-put
