-- `desk_review::desk_review` meets its contract. Assumes nothing.
use Rattle.desk_fits.proofs.Fits.{formed-by-desk, long-by-desk, on-misfit, on-desk}
use Rattle.desk_review.proofs.desk_review.Goals as goal

pub returns-then-not-desk_fits : goal.returns-then-not-desk_fits
returns-then-not-desk_fits c = search on-misfit

pub review_formed-requires : goal.review_formed-requires
review_formed-requires c = record { formed = search formed-by-desk; s_len = search long-by-desk }

pub returns : goal.returns
returns c = search on-desk
