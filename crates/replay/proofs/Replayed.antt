-- Laws of the records that build a table, and of the last one. Assumes nothing.
use Rattle.std.proofs.Common.{◌≡◌, ℕ, min, true, false, not, eqb, List, length, take, ap, take_at, eq-eqb, ne_eqb}
use borrow.Author.Tests.{not-true, not-false}
use Rattle.lists.specs.Tests.{◌and◌}
use Rattle.lists.specs.Lists.{over}
use Rattle.lists.proofs.Tab.{length-tab}
use Rattle.layout.specs.Layout.{limit}
use Rattle.layout.specs.Answers.{Answer}
use Rattle.layout.specs.Answers.{Result, number, detail, result_of, on_formed}
use Rattle.edits.specs.Results.{add_vertex_result, add_hyperedge_result, update_result, remove_vertex_result, merge_result, remove_hyperedge_result, clear_result}
use Rattle.replay.specs.declared.Value.{Value}
use Rattle.replay.specs.declared.LongValue.{LongValue}
use Rattle.replay.specs.declared.Extent.{Extent}
use Rattle.replay.specs.declared.Held.{Held}
use Rattle.replay.specs.Records.{lost, whole, four_read, eight_read, word_read, word_number, byte_read, extent_at, list_at}
use Rattle.replay.specs.Judging.{AfterCount, counted_in, compared_in, answer_at, after_count, counted_at, sum_of, summed_at}
use Rattle.replay.specs.Replayed.{left_by, compared, edited, vertex_added, hyperedge_added, hyperedge_updated, vertex_removed, hyperedge_removed, vertices_merged, table_summed, end_at, record_at}

-- the words of a list, taken from the room that they were read into
list-taken : (s : List ℕ) (p : ℕ) (d : List ℕ) → take (extent_at s p (length d)).count (over (list_at s p (length d)) d) ≡ list_at s p (length d)
unfolding over list_at
list-taken s p d = take_at (list_at s p (length d)) _ (extent_at s p (length d)).count (length-tab (word_number s (byte_read s p).at) _)

module _ (s : List ℕ) (p : ℕ) (t tally : List ℕ) (r : ℕ) (t' tally' : List ℕ) (a : Answer) where
  edited-as : (q f : ℕ) (x : Result) → result_of a t' ≡ x → after_count r tally' ≡ counted_at f (answer_at s q (number a) (detail a)) tally → left_by r t' tally' ≡ edited s q f x tally
  unfolding edited compared counted_at
  edited-as q f x e j = rw (← e) (ap (λ (k : AfterCount). left_by k.at t' k.tally) j)

  pub cleared : result_of a t' ≡ clear_result t → after_count r tally' ≡ counted_at 5 (answer_at s p (number a) (detail a)) tally → left_by r t' tally' ≡ edited s p 5 (clear_result t) tally
  cleared = edited-as p 5 (clear_result t)

  module _ (w : Value) (i : w ≡ word_read s p) where
    pub vertex-added : result_of a t' ≡ on_formed t t (add_vertex_result w.value t) → after_count r tally' ≡ counted_at 0 (answer_at s w.at (number a) (detail a)) tally
        → left_by r t' tally' ≡ vertex_added s p t tally
    unfolding vertex_added
    vertex-added e j = rw (← i) (edited-as w.at 0 _ e j)

    pub vertex-removed : result_of a t' ≡ on_formed t t (remove_vertex_result w.value t) → after_count r tally' ≡ counted_at 3 (answer_at s w.at (number a) (detail a)) tally
        → left_by r t' tally' ≡ vertex_removed s p t tally
    unfolding vertex_removed
    vertex-removed e j = rw (← i) (edited-as w.at 3 _ e j)

    pub hyperedge-removed : result_of a t' ≡ on_formed t t (remove_hyperedge_result w.value t) → after_count r tally' ≡ counted_at 4 (answer_at s w.at (number a) (detail a)) tally
        → left_by r t' tally' ≡ hyperedge_removed s p t tally
    unfolding hyperedge_removed
    hyperedge-removed e j = rw (← i) (edited-as w.at 4 _ e j)

    pub vertices-merged : (x : Value) → x ≡ word_read s w.at → result_of a t' ≡ on_formed t t (merge_result w.value x.value t)
        → after_count r tally' ≡ counted_at 7 (answer_at s x.at (number a) (detail a)) tally → left_by r t' tally' ≡ vertices_merged s p t tally
    unfolding vertices_merged
    vertices-merged x h e j = rw (← i, ← h) (edited-as x.at 7 _ e j)

    pub hyperedge-updated : (d m : List ℕ) (l : Extent) → l ≡ extent_at s w.at (length d) → m ≡ over (list_at s w.at (length d)) d → length d ≡ limit
        → result_of a t' ≡ on_formed t t (update_result w.value (take l.count m) t) → after_count r tally' ≡ counted_at 2 (answer_at s l.at (number a) (detail a)) tally
        → left_by r t' tally' ≡ hyperedge_updated s p t tally
    unfolding hyperedge_updated
    hyperedge-updated d m l f g n e j =
        let words : take l.count m ≡ list_at s w.at limit = rw (g, f, list-taken s w.at d, n) in
        rw (← i, ← n, ← f, n, ← words) (edited-as l.at 2 _ e j)

  pub hyperedge-added : (d m : List ℕ) (l : Extent) (w : Value) → l ≡ extent_at s p (length d) → m ≡ over (list_at s p (length d)) d → length d ≡ limit → w ≡ word_read s l.at
      → result_of a t' ≡ on_formed t t (add_hyperedge_result (take l.count m) w.value t) → after_count r tally' ≡ counted_at 1 (answer_at s w.at (number a) (detail a)) tally
      → left_by r t' tally' ≡ hyperedge_added s p t tally
  unfolding hyperedge_added
  hyperedge-added d m l w f g n i e j =
      let words : take l.count m ≡ list_at s p limit = rw (g, f, list-taken s p d, n) in
      let extent : l ≡ extent_at s p limit = rw n at f in
      rw (← words, ← extent, ← i) (edited-as w.at 1 _ e j)

pub table-summed : (s : List ℕ) (p : ℕ) (t tally tally' : List ℕ) (x : LongValue) (sum : ℕ) → x ≡ eight_read s p → sum ≡ sum_of t (length t)
    → tally' ≡ counted_in 6 (eqb x.value sum) tally → left_by x.at t tally' ≡ table_summed s p t tally
unfolding table_summed compared summed_at
table-summed s p t tally tally' x sum e f l = rw (l, f, e)

-- ---- the last record

module _ (s : List ℕ) (p : ℕ) (tally : List ℕ) (n : Value) (m sum : ℕ) (x : Held) (e : n ≡ four_read s p) (f : m ≡ min n.at (length s)) (g : sum ≡ sum_of s m) (h : x ≡ summed_at s n.at sum)
  where
    here : summed_at s (four_read s p).at (sum_of s (min (four_read s p).at (length s))) ≡ x
    here = rw (h, g, f, e)

    pub end-differs : not x.same ≡ true → lost ≡ end_at s p tally
    unfolding end_at ◌and◌
    end-differs q = rw (here, not-true x.same q)

    module _ (q : not x.same ≡ false) where
      pub more-follows : (x.at ≡ length s → ⊥) → lost ≡ end_at s p tally
      unfolding end_at ◌and◌
      more-follows k = rw (here, not-false x.same q, ne_eqb x.at (length s) k)

      module _ (k : x.at ≡ length s) (c : ℕ) (l : c ≡ compared_in tally) where
        pub another-count : (n.value ≡ c → ⊥) → lost ≡ end_at s p tally
        unfolding end_at ◌and◌
        another-count o = rw (here, not-false x.same q, eq-eqb x.at (length s) k, ← e, ← l, ne_eqb n.value c o)

        pub end_whole : n.value ≡ c → whole ≡ end_at s p tally
        unfolding end_at ◌and◌
        end_whole o = rw (here, not-false x.same q, eq-eqb x.at (length s) k, ← e, ← l, eq-eqb n.value c o)

-- ---- by its kind

pub last-kind : (s : List ℕ) (kind p : ℕ) (t tally : List ℕ) (r : ℕ) → kind ≡ 255 → r ≡ end_at s p tally → left_by r t tally ≡ record_at s kind p t tally
unfolding record_at
last-kind s kind p t tally r k e = rw (e, k)

pub no_kind : (s : List ℕ) (kind p : ℕ) (t tally : List ℕ) → (kind ≡ 1 → ⊥) → (kind ≡ 2 → ⊥) → (kind ≡ 3 → ⊥) → (kind ≡ 4 → ⊥) → (kind ≡ 5 → ⊥) → (kind ≡ 6 → ⊥) → (kind ≡ 7 → ⊥) → (kind ≡ 9 → ⊥)
    → (kind ≡ 255 → ⊥)
    → left_by lost t tally ≡ record_at s kind p t tally
unfolding record_at
no_kind s kind p t tally a b c d e f g h i =
    rw (ne_eqb kind 1 a, ne_eqb kind 2 b, ne_eqb kind 3 c, ne_eqb kind 4 d, ne_eqb kind 5 e, ne_eqb kind 6 f, ne_eqb kind 7 g, ne_eqb kind 9 h, ne_eqb kind 255 i)
