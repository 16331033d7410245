-- The lines of a review and of releases, by the states before. Assumes nothing.
use Rattle.std.specs.Prelude.{Option, Some, None}
use mathlib.Core.Path.{◌≡◌, sym, ap, ◌∙◌}
use mathlib.Core.Bool.{Bool, true, false, cond}
use mathlib.Core.List.{List, [], ◌∷◌}
use Prim.Native.Nat.{ℕ}
use lib.Dec.{eqb}
use borrow.Author.Tests.{eq-eqb, ne_eqb}
use Rattle.lists.specs.Lists.{word_at}
use Rattle.layout.specs.Answers.{Answer}
use Rattle.layout.specs.Content.{Table, live_vertices, position}
use Rattle.layout.specs.Answers.{detail}
use Rattle.wording.specs.Texts.{text}
use Rattle.wording.specs.Pages.{Page, page, write}
use Rattle.wording.specs.Forms.{filled}
use Rattle.desk.specs.States.{waiting, reviewed, released, state_in, in_state}
use Rattle.desk_fits.proofs.Looked.{in-state-found}
use Rattle.effect_sheets.proofs.Parts.{in_words}
use Rattle.state_sheets.specs.Signed.{review_form, review_said, release_said}

-- ---- a review: x is the state before

module _ (x v : ℕ) (p : Page) (c : List ℕ) (q : ℕ) where
  pub waiting-put : x ≡ waiting → page c q ≡ write (filled (text "tube A reviewed\n") (v ∷ []) []) p → page c q ≡ write (review_said x v) p
  unfolding review_said review_form
  waiting-put h e = rw (eq-eqb x waiting h) e

  module _ (n : x ≡ waiting → ⊥) where
    pub reviewed-put : x ≡ reviewed → page c q ≡ write (filled (text "tube A is reviewed already\n") (v ∷ []) []) p → page c q ≡ write (review_said x v) p
    unfolding review_said review_form
    reviewed-put h e = rw (ne_eqb x waiting n, eq-eqb x reviewed h) e

    pub released-put : (x ≡ reviewed → ⊥) → page c q ≡ write (filled (text "tube A is released already\n") (v ∷ []) []) p → page c q ≡ write (review_said x v) p
    unfolding review_said review_form
    released-put h e = rw (ne_eqb x waiting n, ne_eqb x reviewed h) e

-- x is what `Reply::from` says of the state
pub review-put : (plain : Bool) (state : Answer) (x v : ℕ) (p : Page) (c : List ℕ) (q : ℕ) → plain ≡ false → x ≡ detail state
    → page c q ≡ write (review_said x v) p → page c q ≡ write (cond plain [] (review_said (detail state) v)) p
review-put plain state x v p c q h e f = in_words plain [] (review_said (detail state) v) p c q h (rw (← e) f)

-- ---- whether a vertex is released: f is what `find_vertex` found

module _ (t : Table) (ss : List ℕ) (v : ℕ) (f : Option ℕ) (e : f ≡ position v (live_vertices t)) where
  pub none-released : f ≡ None → false ≡ in_state t ss released v
  unfolding in_state state_in
  none-released h = rw (← e, h)

  -- x is what `word_at` found
  pub here-released : (i x : ℕ) → f ≡ Some i → x ≡ word_at ss i → eqb x released ≡ in_state t ss released v
  here-released i x h ex = ap (λ (y : ℕ). eqb y released) ex ∙ sym (in-state-found t ss v i (sym e ∙ h) released)

-- ---- a release: r is what `is_released` found

module _ (t : Table) (ss : List ℕ) (v : ℕ) (r : Bool) (e : r ≡ in_state t ss released v) (p : Page) (c : List ℕ) (q : ℕ) where
  pub again-put : r ≡ true → page c q ≡ write (filled (text "tube A is released already\n") (v ∷ []) []) p → page c q ≡ write (release_said t ss v) p
  unfolding release_said
  again-put h w = rw (← e, h) w

  pub release-put : r ≡ false → page c q ≡ write (filled (text "tube A released\n") (v ∷ []) []) p → page c q ≡ write (release_said t ss v) p
  unfolding release_said
  release-put h w = rw (← e, h) w
