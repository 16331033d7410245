-- What became of a transfer, and of each one, as it is written on the page. Assumes nothing.
use Rattle.std.specs.Prelude.{Option, Some, None}
use mathlib.Core.Path.{◌≡◌, refl, sym, ◌∙◌}
use mathlib.Core.Bool.{Bool, true, false}
use mathlib.Core.List.{List, [], ◌∷◌}
use Prim.Native.Nat.{ℕ, ◌+◌, ◌≤◌, ◌<◌}
use lib.ListN.{drop}
use Rattle.lists.specs.Lists.{same_list, flat}
use Rattle.layout.specs.Content.{live_hyperedges, position}
use Rattle.layout.specs.Layout.{limit, hyperedge_count, members_at, hyperedge_at, read_hyperedges, read}
use Rattle.layout.proofs.Position.{found-live, missing-dead}
use Rattle.layout.proofs.Read.{hyperedge-found}
use Rattle.edits.proofs.UpdateHyperedge.{members-found}
use Rattle.lookups.proofs.Places.{records-more, records-none}
use Rattle.wording.specs.Texts.{text}
use Rattle.wording.specs.Pages.{Page, page, write}
use Rattle.wording.specs.Forms.{filled, joined}
use Rattle.wording.proofs.Writing.{then, nothing_written, left-more}
use Rattle.effect_sheets.specs.Effects.{relisted, emptied, effect, effects}

-- ---- the members, where they changed: r is what `same_members` found

module _ (verb : List ℕ) (x : ℕ) (old members : List ℕ) (r : Bool) (e : r ≡ same_list old members) (b : List ℕ) (at : ℕ) where
  pub as_before : r ≡ true → page b at ≡ write (relisted verb x old members) (page b at)
  unfolding relisted
  as_before h = rw (← e, h) (nothing_written b at)

  pub list_put : r ≡ false → (c d : List ℕ) (q s : ℕ) → page c q ≡ write (filled verb (x ∷ []) []) (page b at) → page d s ≡ write (joined members) (page c q)
      → page d s ≡ write (relisted verb x old members) (page b at)
  unfolding relisted
  list_put h c d q s f g = rw (← e, h) (then (page b at) c d (filled verb (x ∷ []) []) (joined members) q s f g)

-- ---- a transfer: x is the number of record j before, f what `find_hyperedge` found of it after

module _ (verb ws ws' : List ℕ) (j x : ℕ) (ex : x ≡ (hyperedge_at limit ws j).number) (f : Option ℕ) (ef : f ≡ position x (live_hyperedges (read limit ws'))) where
  pub gone-put : (p : Page) (c : List ℕ) (q : ℕ) → f ≡ None → page c q ≡ write (filled (text "; transfer A withdrawn (emptied)") (x ∷ []) []) p
      → page c q ≡ write (effect verb (read limit ws') (hyperedge_at limit ws j)) p
  unfolding effect emptied
  gone-put p c q h w = rw (← ex, missing-dead x (live_hyperedges (read limit ws')) (sym ef ∙ h)) w

  module _ (k : ℕ) (h : f ≡ Some k) where
    pub found_within : k < hyperedge_count ws'
    found_within = (hyperedge-found limit ws' x k (sym ef ∙ h)).0

    -- old and members are what `members_formed` gave of both records
    pub found-put : (p : Page) (c : List ℕ) (q : ℕ) (old members : List ℕ) → old ≡ members_at limit ws j → members ≡ members_at limit ws' k
        → page c q ≡ write (relisted verb x old members) p → page c q ≡ write (effect verb (read limit ws') (hyperedge_at limit ws j)) p
    unfolding effect
    found-put p c q old members eo em w =
        rw (← ex, found-live x (live_hyperedges (read limit ws')) k (sym ef ∙ h), members-found limit ws' x k (sym ef ∙ h), ← eo, ← em) w

-- ---- the loop: what is left, written on the page as it is, gives the page of all; m is what `hyperedge_count` found before

pub effects-first : (verb ws ws' : List ℕ) (p : Page)
    → write (flat (effect verb (read limit ws')) (read_hyperedges limit ws)) p ≡ write (effects verb (read limit ws) (read limit ws')) p
unfolding effects
effects-first verb ws ws' p = refl

module _ (verb ws ws' : List ℕ) (whole : Page) (m j : ℕ) (em : m ≡ hyperedge_count ws) (b : List ℕ) (r : ℕ)
    (inv : write (flat (effect verb (read limit ws')) (drop j (read_hyperedges limit ws))) (page b r) ≡ whole) where
  pub effects-more : j < m → (c : List ℕ) (q : ℕ) → page c q ≡ write (effect verb (read limit ws') (hyperedge_at limit ws j)) (page b r)
      → write (flat (effect verb (read limit ws')) (drop (j + 1) (read_hyperedges limit ws))) (page c q) ≡ whole
  unfolding flat
  effects-more h c q w =
      left-more whole b c (effect verb (read limit ws') (hyperedge_at limit ws j)) (flat (effect verb (read limit ws')) (drop (j + 1) (read_hyperedges limit ws))) r q
      (rw (records-more limit ws em h) at inv) w

  pub effects-end : m ≤ j → page b r ≡ whole
  unfolding flat write
  effects-end h = rw (records-none limit ws em h) at inv
