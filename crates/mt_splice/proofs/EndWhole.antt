-- From a replacement that is written and buried to one that is done.
use Rattle.mt_splice.proofs.Prelude.{◌≡◌, ◌≢◌, ℕ, suc, inl, ◌+◌, ◌<◌, ◌≤◌, List, Option, Some, None, true, length, refl, sym, ap, ◌∙◌, subst, arith, slice_index_or, Call, Reply, first_row, RowKind, row_in, dead_mark, Book, Tree, Life, New, Live, Dead, Place, Root, Slot, column, inner_kind, inner_of, is_row_of, Sheet, life_of, word_at, tree_as, is_reached, with_published, MayPublish, Published, NewRow, passing, Start, now, child_row, Before, row_seen, HasParents, IsSpliced, TellsBelow, TellsGapAt, StandsAs, count_in, IsEndPlace, IsReadyToPublish, AreTendedTo, MayTendTop, Top, IsWhole, with_top}
use Rattle.mt_rows.specs.Laws as laws
use Rattle.mt_rows.proofs.Reached as reached
use Rattle.mt_splice.proofs.EndHoles.{at_on_level}
use Rattle.mt_splice.proofs.EndLists.{seen_some}
use Rattle.mt_splice.proofs.EndMade.{made_seen}
use Rattle.mt_splice.proofs.EndAfter.{outcome, told_after}
use Rattle.mt_splice.proofs.EndFacts.{life_if_buried, spliced}
use Rattle.mt_splice.proofs.EndTending.{IsTopTendedAt, none_tended_yet, only_more, top_only, top_kept, top_still, top_tended}
use Rattle.mt_splice.proofs.EndParents.{parent_stays, may_tend_some, may_tend_place, has_parents}
use Rattle.mt_splice.proofs.EndPublish as ends

-- ---- where nothing is left, no row was taken

none_new : (f : ends.Finish) (row : ℕ) → f.may.new ≡ None → ends.new_count f row ≡ 0
none_new f row none = ap (count_in (is_row_of row) (tree_as f.before.kind (ends.published f))) none

none_made : (f : ends.Finish) (n : NewRow) → f.may.new ≡ None → reached.IsOneOf n f.inner → ⊥
none_made f n none one =
    let found = made_seen f.sheet.tree.table f.may.taken n (subst (reached.IsOneOf n) f.may.inner_rows one) in
    let some = ends.taken_later f (row_seen found.0) (seen_some f.may.taken found.0 found.1) in
    let never = none_new f (row_seen found.0) none in
    absurd (omega arith)

none_in_slot : (f : ends.Finish) (old : Option ℕ) (row col : ℕ) → f.may.old ≡ old → f.may.new ≡ None → IsEndPlace (now f.start f.sheet) f.may.gone old (Slot row col) → ⊥
none_in_slot f None row col is_old none at = absurd at
none_in_slot f (Some h) row col is_old none at =
    let t : laws.Tree = now f.start f.sheet in
    let stands : laws.Stands t h = subst (StandsAs t) is_old (ends.stands_now f) in
    let place = at.0 in
    let some : 1 ≤ count_in (is_row_of (row_in place.at.word)) t (Some h) = reached.on_level_reached t h stands (suc place.low) place.at (at_on_level t h row col (ends.words_now f) stands place 0) in
    let here : 1 ≤ count_in (is_row_of (row_in place.at.word)) t f.may.old = subst (λ (old : Option ℕ). 1 ≤ count_in (is_row_of (row_in place.at.word)) t old) (sym is_old) some in
    let same = ends.now_count f (is_row_of (row_in place.at.word)) in
    let gone : passing (is_row_of (row_in place.at.word)) f.may.gone ≡ 0 = subst (λ (n : ℕ). passing (is_row_of n) f.may.gone ≡ 0) (sym place.number) at.1 in
    let c = ends.counts f (row_in place.at.word) in let sum = c.sum in
    let never = none_new f (row_in place.at.word) none in
    absurd (omega arith)

-- ---- what may be tended

tend_rows_by : (f : ends.Finish) (s₁ : Sheet) (new : Option ℕ) → f.may.new ≡ new → Published f.sheet s₁ f.top.place f.top.word f.call f.reply → AreTendedTo s₁ s₁ (inner_kind f.before.kind) f.inner 0
tend_rows_by f s₁ None is done = none_tended_yet (λ i n at. absurd (none_made f n is (reached.one_of_get f.inner i n at))) (λ i j n m slot slot' lt at_n at_m low low' same. absurd (none_made f n is (reached.one_of_get f.inner i n at_n)))
tend_rows_by f s₁ (Some h) is done = may_tend_some f h is s₁ done

tend_top_by : (f : ends.Finish) (s₁ : Sheet) (new : Option ℕ) (place : Place) → f.may.new ≡ new → f.top.place ≡ place → IsEndPlace (now f.start f.sheet) f.may.gone f.may.old place → Published f.sheet s₁ f.top.place f.top.word f.call f.reply → MayTendTop s₁ (inner_kind f.before.kind) place (row_in f.top.word)
tend_top_by f s₁ new Root is is_place at done = tt
tend_top_by f s₁ None (Slot row col) is is_place at done = absurd (none_in_slot f f.may.old row col refl is at)
tend_top_by f s₁ (Some h) (Slot row col) is is_place at done = may_tend_place f h is s₁ done (Slot row col) is_place

-- ---- all is done

parents_by : (f : ends.Finish) (s₁ s₂ s₃ : Sheet) (new : Option ℕ) → f.may.new ≡ new → Published f.sheet s₁ f.top.place f.top.word f.call f.reply → AreTendedTo s₁ s₂ (inner_kind f.before.kind) f.inner (length f.inner) → IsTopTendedAt s₂ s₃ (inner_kind f.before.kind) f.top.place (row_in f.top.word)
    → StandsAs (tree_as f.before.kind s₃.tree) new → HasParents (tree_as f.before.kind s₃.tree)
parents_by f s₁ s₂ s₃ None is done tended top stands = inl stands
parents_by f s₁ s₂ s₃ (Some h) is done tended top stands = has_parents f h is s₁ done s₂ s₃ tended top stands

-- a row that is gone keeps its dead mark, since only live rows are tended
module _ (f : ends.Finish) (s₁ s₂ s₃ : Sheet) (done : Published f.sheet s₁ f.top.place f.top.word f.call f.reply) (tended : AreTendedTo s₁ s₂ (inner_kind f.before.kind) f.inner (length f.inner)) (may_top : MayTendTop s₂ (inner_kind f.before.kind) f.top.place (row_in f.top.word))
    (top : IsTopTendedAt s₂ s₃ (inner_kind f.before.kind) f.top.place (row_in f.top.word)) where
  dead_now : (row : ℕ) → is_reached f.before.sheet.tree row ≡ true → ends.new_count f row ≡ 0 → life_of s₁.lives row ≡ Dead (f.sheet.ended + 1)
  dead_now row was none =
      let some = ends.was_reached f row was in
      let number = ends.was_number f row some in
      done.lives row number.0 (subst (λ (n : ℕ). row < first_row + n) (sym (ends.rows_same f)) number.1)
      ∙ life_if_buried f.sheet (ends.published f) row (ends.unreached_later f row none) ((ends.ledger f).buried row number.0 number.1 ∙ ends.some_gone f row (ends.was_gone f row some none))

  not_live : (row child : ℕ) → is_reached f.before.sheet.tree row ≡ true → ends.new_count f row ≡ 0 → life_of s₁.lives child ≡ Live → child ≢ row
  not_live row child was none live same =
      let both : Live ≡ Dead (f.sheet.ended + 1) = sym live ∙ (ap (life_of s₁.lives) same ∙ dead_now row was none) in
      absurd (cc)

  top_other : (place : Place) → MayTendTop s₂ (inner_kind f.before.kind) place (row_in f.top.word) → (row : ℕ) → is_reached f.before.sheet.tree row ≡ true → ends.new_count f row ≡ 0 → (r c : ℕ) → place ≡ Slot r c → row ≢ row_in f.top.word
  top_other Root at row was none r c is = absurd (cc)
  top_other (Slot r' c') at row was none r c is =
      let lives : s₂.lives ≡ s₁.lives = ap (λ (x : Sheet). x.lives) tended.only.rest in
      λ same. not_live row (row_in f.top.word) was none (ap (λ (l : List Life). slice_index_or l (row_in f.top.word) New) (sym lives) ∙ at.1.live) (sym same)

  marked_end : (row : ℕ) → is_reached f.before.sheet.tree row ≡ true → ends.new_count f row ≡ 0 → word_at s₃.tree row 0 ≡ dead_mark row
  marked_end row was none =
      let some = ends.was_reached f row was in
      top_kept s₂ s₃ (inner_kind f.before.kind) f.top.place (row_in f.top.word) row top (top_other f.top.place may_top row was none)
      ∙ (tended.others row (λ i n slot _ at below. not_live row (child_row s₁.tree.table (inner_kind f.before.kind) n.row slot) was none ((tended.each i n at).each slot below).live)
      ∙ (ap (λ (x : Sheet). column x.tree.table row 0) done.rest
      ∙ (parent_stays f row ∙ (ends.ledger f).marks row was (ends.some_gone f row (ends.was_gone f row some none)))))

-- ---- from what was asked to what is left

module _ {b : Before} {start : Start} {s : Sheet} {book : Book} {inner : List NewRow} {top : Top} {call : Call} {reply : Reply} (may : IsReadyToPublish b start s book inner top call reply) where
  abbrev f : ends.Finish
  f = record { before = b; start = start; sheet = s; book = book; inner = inner; top = top; call = call; reply = reply; may = may }

  pub may_publish_end : MayPublish b.kind s top.place top.word call reply
  may_publish_end = ends.may_publish f

  -- the kind of the inner rows, as the caller names it
  module _ {kind : RowKind} (is : kind ≡ inner_of start.tree.gapped) {s₁ : Sheet} (done : Published s s₁ top.place top.word call reply) where
    is_inner : inner_kind b.kind ≡ kind
    is_inner = sym (is ∙ ap (λ (t : Tree). inner_of t.gapped) may.case.was.tree)

    pub may_tend_rows : AreTendedTo s₁ s₁ kind inner 0
    may_tend_rows = subst (λ (k : RowKind). AreTendedTo s₁ s₁ k inner 0) is_inner (tend_rows_by f s₁ may.new refl done)

    module _ {s₂ : Sheet} (tended : AreTendedTo s₁ s₂ kind inner (length inner)) where
      may_tend_word : MayTendTop s₂ kind top.place (row_in top.word)
      may_tend_word = top_still s₁ s₂ kind top.place (row_in top.word) tended.only (subst (λ (k : RowKind). MayTendTop s₁ k top.place (row_in top.word)) is_inner (tend_top_by f s₁ may.new top.place refl refl may.at done))

      pub may_tend_top : MayTendTop s₂ kind top.place top.row
      may_tend_top = subst (MayTendTop s₂ kind top.place) (sym may.row) may_tend_word

      module _ (whole : IsWhole s₂) {s₃ : Sheet} (then : s₃ ≡ with_top s₂ kind top.place top.row) where
        top_told : IsTopTendedAt s₂ s₃ kind top.place (row_in top.word)
        top_told = top_tended s₂ s₃ kind top.place (row_in top.word) whole may_tend_word (then ∙ ap (with_top s₂ kind top.place) may.row)

        pub spliced_end : IsSpliced b.kind b.sheet s₃ b.book book b.number call reply top.place start.first start.last
        spliced_end =
            let o = outcome f s₁ s₃ done (only_more s₁ s₂ s₃ tended.only (top_only s₂ s₃ kind top.place (row_in top.word) top_told)) in
            let rows_tended = subst (λ (k : RowKind). AreTendedTo s₁ s₂ k inner (length inner)) (sym is_inner) tended in
            let top_tended_so = subst (λ (k : RowKind). IsTopTendedAt s₂ s₃ k top.place (row_in top.word)) (sym is_inner) top_told in
            let may_top = subst (λ (k : RowKind). MayTendTop s₂ k top.place (row_in top.word)) (sym is_inner) may_tend_word in
            spliced f s₃ o (parents_by f s₁ s₂ s₃ may.new refl done rows_tended top_tended_so o.stands)
            (λ row was not. marked_end f s₁ s₂ s₃ done rows_tended may_top top_tended_so row was (ends.later_unreached f row (sym (o.reached row) ∙ not)))

        pub told_end : (row col gap : ℕ) → top.place ≡ Slot row col → TellsBelow b.kind (with_published s.tree top.place top.word) top.word gap → TellsGapAt b.kind s₃.tree top.place gap
        told_end row col gap at tells = told_after f s₁ s₃ done (only_more s₁ s₂ s₃ tended.only (top_only s₂ s₃ kind top.place (row_in top.word) top_told)) row col gap at tells
