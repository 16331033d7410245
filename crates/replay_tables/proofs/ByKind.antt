-- Laws of a record by its kind. Assumes nothing.
use Rattle.std.proofs.Common.{◌≡◌, ℕ, List, refl, sym, ap, ◌∙◌}
use Rattle.std.specs.Prelude.{Option, None}
use Rattle.replay.specs.Records.{lost}
use Rattle.replay.specs.Replayed.{LeftBy, left_by, end_at, record_at}
use Rattle.replay.proofs.Replayed.{last-kind, no_kind}
use Rattle.replay_tables.specs.declared.Kind.{Kind}
use Rattle.replay_tables.specs.declared.Kind.TheVariants.{End}
use Rattle.replay_tables.specs.Firsts.{byte_of, is_kind}

pub of-known : (s : List ℕ) (kind k : Kind) (p : ℕ) (t tally : List ℕ) (l : LeftBy) → kind ≡ k → l ≡ record_at s (byte_of k) p t tally
    → l ≡ record_at s (byte_of kind) p t tally
of-known s kind k p t tally l e h = h ∙ ap (λ (x : Kind). record_at s (byte_of x) p t tally) (sym e)

pub ended : (s : List ℕ) (kind : Kind) (p : ℕ) (t tally : List ℕ) (r : ℕ) → kind ≡ End → r ≡ end_at s p tally
    → left_by r t tally ≡ record_at s (byte_of kind) p t tally
ended s kind p t tally r k e = of-known s kind End p t tally _ k (last-kind s 255 p t tally r refl e)

module _ (s : List ℕ) (byte p : ℕ) (t tally : List ℕ) (r : Option Kind) (i : is_kind byte r) where
  pub record-unknown : r ≡ None → left_by lost t tally ≡ record_at s byte p t tally
  record-unknown e =
      let h : is_kind byte None = rw e at i in
      no_kind s byte p t tally h.0 h.1 h.2 h.3 h.4 h.5 h.6 h.7 h.8
