-- The stores of `put_members` give the words of the table in which one hyperedge has a new list. Assumes nothing.
use Rattle.std.specs.Prelude.{Option, Some, None, Ok, Err}
use mathlib.Core.Path.{◌≡◌, sym, ap, ◌∙◌}
use mathlib.Core.Bool.{Bool, true, false}
use mathlib.Core.List.{List, [], ◌∷◌, map}
use Prim.Native.Nat.{ℕ, zero, suc, ◌+◌, ◌≤◌, ◌<◌, suc-le-suc}
use native.Mathlib.Nat.{zero-add, zero-lt-suc}
use native.Mathlib.Omega.{arith}
use lib.ListN.{length, get_or, set}
use lib.Seq.{set-get_or}
use borrow.Author.Tests.{eq-eqb, ne_eqb}
use Rattle.lists.specs.Lists.{same_list}
use Rattle.lists.specs.Inner.{over_at}
use Rattle.lists.proofs.Cases.{on_same}
use Rattle.lists.proofs.Tab.{map-tab, length-tab, getD-tab}
use Rattle.lists.proofs.Ascend.{ascending-apart}
use Rattle.lists.proofs.Flat.{length-pad}
use Rattle.layout.specs.declared.Refusal.{Refusal}
use Rattle.layout.specs.declared.Refusal.TheVariants.{SameMembers}
use Rattle.layout.specs.Content.{Hyperedge, hyperedge_number, live_hyperedges, position, position_from, hyperedge_of, no_hyperedge}
use Rattle.layout.specs.Layout.{hyperedge_limit, record_size, hyperedge_word, hyperedge_count, members_at, hyperedge_at, read_hyperedges, read, hyperedge_words, words, limit}
use Rattle.layout.specs.Inner.{Formed, hyperedge_column}
use Rattle.layout.specs.Answers.{Result, result_of, hyperedge_missing}
use Rattle.layout.proofs.Read.{hyperedge-found}
use Rattle.layout.proofs.Answers.{on-missing, on-found}
use Rattle.edits.specs.Stages.{Judgement}
use Rattle.edits.specs.Edits.{with_members, update_hyperedge}
use Rattle.edits.specs.Records.{member_words, put_hyperedge}
use Rattle.edits.specs.Results.{members_of, on_changed, update_result}
use Rattle.edits.specs.Stages.{JudgedBy, update_live_result, update_judged_result}
use Rattle.lists.proofs.OverAt.{over-at-before, over-at-keep}
use Rattle.edits.proofs.Unchanged.{record-within}
use Rattle.edits.proofs.Refusals.{on-refused, on_fine}
use Rattle.edits.proofs.Put.{put-words}

module _ (L : ℕ) (ws : List ℕ) (j x : ℕ) (ms : List ℕ) (f : Formed L ws) (pos : 0 < length ms) (le : length ms ≤ L)
    (hj : j < hyperedge_count ws) (ex : get_or ws (hyperedge_word L j) 0 ≡ x) where
  changed : Hyperedge
  changed = hyperedge_of (get_or ws (hyperedge_word L j) 0) (get_or ws (hyperedge_word L j + 1) 0) ms

  -- only the record of number x
  alone : (i : ℕ) → i < hyperedge_count ws → (i ≡ j → ⊥) → get_or ws (hyperedge_word L i) 0 ≡ x → ⊥
  alone i h ne q =
      let n : ℕ = hyperedge_count ws in
      let number : ℕ → ℕ = λ (i : ℕ). get_or ws (hyperedge_word L i) 0 in
      let l : length (hyperedge_column L ws) ≡ n = length-tab number n in
      ascending-apart (hyperedge_column L ws) f.hyperedges-ascend i j (rw l h) (rw l hj) ne
      (getD-tab number n i 0 h ∙ q ∙ sym ex ∙ sym (getD-tab number n j 0 hj))

  there : (i : ℕ) → i < hyperedge_count ws → (i ≡ j → ⊥) → with_members x ms (hyperedge_at L ws i) ≡ hyperedge_at L ws i
  unfolding with_members
  there i h ne = rw (ne_eqb (get_or ws (hyperedge_word L i) 0) x (alone i h ne))

  here : (i : ℕ) → i ≡ j → with_members x ms (hyperedge_at L ws i) ≡ changed
  unfolding with_members changed
  here i q = rw (q, eq-eqb (get_or ws (hyperedge_word L j) 0) x ex)

  whole : over_at (hyperedge_word L j + 2) (member_words L ms) ws ≡ put_hyperedge L j changed (get_or ws 1 0) (hyperedge_count ws) ws
  unfolding changed
  whole =
      let r : hyperedge_word L j + record_size L ≤ length ws = record-within L ws f.shape j (omega (arith, f.shape.hyperedges-le)) in
      let k : hyperedge_word L j + length (hyperedge_words L changed) ≤ length ws = omega (arith, length-pad L ms le) in
      let B : List ℕ = over_at (hyperedge_word L j) (hyperedge_words L changed) ws in
      let same : (p : ℕ) → p < hyperedge_word L j → get_or B p 0 ≡ get_or ws p 0 = over-at-before (hyperedge_word L j) (hyperedge_words L changed) ws k in
      over-at-keep ws (hyperedge_word L j) (member_words L ms) (omega arith)
      ∙ sym (ap (λ (l : List ℕ). set l 3 (get_or ws 3 0)) (ap (set B 1) (sym (same 1 (omega arith))) ∙ set-get_or B 1 0)
      ∙ ap (set B 3) (sym (same 3 (omega arith))) ∙ set-get_or B 3 0)

  pub put-members-words : over_at (hyperedge_word L j + 2) (member_words L ms) ws ≡ words L (update_hyperedge x ms (read L ws))
  unfolding update_hyperedge changed
  put-members-words =
      whole
      ∙ put-words L ws j changed (get_or ws 1 0) (hyperedge_count ws) f pos le hj f.shape.hyperedges-le (omega arith) (λ i h ne. h)
      (λ i. with_members x ms (hyperedge_at L ws i)) (λ i h q. here i q) there
      ∙ rw (map-tab (with_members x ms) (hyperedge_at L ws) (hyperedge_count ws))

-- ---- the members of the hyperedge that a search found

from-members : (k x : ℕ) (es : List Hyperedge) (i : ℕ) → position_from k x (map hyperedge_number es) ≡ Some i
    → (j : ℕ) × (i ≡ k + j) × (j < length es) × (members_of x es ≡ (get_or es j no_hyperedge).members)
unfolding position_from members_of
from-members k x [] i e = absurd (let z : ◌≡◌ {A = ℕ} 0 1 = cc in omega arith)
from-members k x (v ∷ es) i e = on_same x v.number
    (λ q. let f : Some k ≡ Some i = rw (eq-eqb x v.number q) at e in let g : k ≡ i = cc in (zero, omega arith, zero-lt-suc (length es), rw (eq-eqb v.number x (sym q))))
    (λ q.
    let r = from-members (suc k) x es i (rw (ne_eqb x v.number q) at e) in
    (suc r.0, omega (arith, r.1), suc-le-suc r.2, rw (ne_eqb v.number x (λ w. q (sym w))) r.3))

pub members-found : (L : ℕ) (ws : List ℕ) (x j : ℕ) → position x (live_hyperedges (read L ws)) ≡ Some j → members_of x (read_hyperedges L ws) ≡ members_at L ws j
unfolding position
members-found L ws x j e =
    let r = from-members zero x (read_hyperedges L ws) j e in
    let s : r.0 ≡ j = sym (r.1 ∙ zero-add r.0) in
    let l : j < hyperedge_count ws = rw length-tab at (rw s at r.2) in
    (rw s at r.3) ∙ ap (λ (v : Hyperedge). v.members) (getD-tab (hyperedge_at L ws) (hyperedge_count ws) j no_hyperedge l)

-- ---- for `search`: the hyperedge of number x is at place j

module _ (x : ℕ) (ms ws : List ℕ) (j : ℕ) (p : position x (live_hyperedges (read limit ws)) ≡ Some j) where
  pub update-within : j < hyperedge_count ws
  update-within = (hyperedge-found limit ws x j p).0

  pub update-small : Formed limit ws → j < hyperedge_limit
  update-small f = omega (arith, update-within, f.shape.hyperedges-le)

  -- old is what `members_formed` gave, r what `same_members` found
  module _ (old : List ℕ) (r : Bool) (eo : old ≡ members_at limit ws j) (er : r ≡ same_list ms old) where
    compared : same_list ms (members_of x (read_hyperedges limit ws)) ≡ r
    compared = ap (same_list ms) (members-found limit ws x j p ∙ sym eo) ∙ sym er

    pub update_same : r ≡ true → result_of (Err (SameMembers (record { 0 = x }))) ws ≡ update_live_result x ms ws (read limit ws)
    unfolding update_live_result on_changed
    update_same h = rw (compared, h)

    pub update-done : (exit : List ℕ) → Formed limit ws → 0 < length ms → length ms ≤ limit → r ≡ false
        → exit ≡ over_at (hyperedge_word limit j + 2) (member_words limit ms) ws → result_of (Ok 0) exit ≡ update_live_result x ms ws (read limit ws)
    unfolding update_live_result on_changed
    update-done exit f pos le h e =
        let g = hyperedge-found limit ws x j p in
        rw (compared, h) (ap (result_of (Ok 0)) (e ∙ put-members-words limit ws j x ms f pos le g.0 g.1))

-- p is what `find_hyperedge` found
module _ (x : ℕ) (ms ws : List ℕ) (p : Option ℕ) (e : p ≡ position x (live_hyperedges (read limit ws))) where
  pub update_found : (j : ℕ) → p ≡ Some j → position x (live_hyperedges (read limit ws)) ≡ Some j
  update_found j h = sym e ∙ h

  pub update-missing : p ≡ None → result_of (hyperedge_missing x) ws ≡ update_judged_result x ms ws (read limit ws)
  unfolding update_judged_result
  update-missing h = on-missing (live_hyperedges (read limit ws)) hyperedge_missing x ws _ p e h

  pub update-live : (j : ℕ) (y : Result) → p ≡ Some j → y ≡ update_live_result x ms ws (read limit ws) → y ≡ update_judged_result x ms ws (read limit ws)
  unfolding update_judged_result
  update-live j y h q = q ∙ on-found (live_hyperedges (read limit ws)) hyperedge_missing x ws _ p e j h

-- j is what `judge_members` said
module _ (x : ℕ) (ms ws : List ℕ) (j : Judgement) (by : JudgedBy j ms x (read limit ws)) where
  pub update-refused : (a : Refusal) → j ≡ Err a → result_of (Err a) ws ≡ update_result x ms ws (read limit ws)
  unfolding update_result
  update-refused a h = on-refused j ms x (read limit ws) by a ws _ h

  pub update-fine : (y : Result) → j ≡ Ok tt → y ≡ update_judged_result x ms ws (read limit ws) → y ≡ update_result x ms ws (read limit ws)
  unfolding update_result update_judged_result update_live_result
  update-fine y h q = on_fine j ms x (read limit ws) by ws _ y h q
