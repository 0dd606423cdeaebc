-- How the columns of a row are written, item after item.
use Rattle.mt_layout.proofs.Prelude.{◌≡◌, ℕ, ◌+◌, ◌-◌, ◌*◌, ◌<◌, ◌≤◌, List, [], length, take, drop, replicate, get_or, refl, ap, ◌∙◌, arith, length-drop, length-take-le, append-nil, get_or-take, drop_all, Item, IsLayout, pivot_column, slot_column, gap_column, row_words, put_mid}
use Rattle.mt_layout.proofs.RowWords.{item_or, used, length-used, is_used}
use Rattle.mt_layout.proofs.RowSizes.{some_slots, few_gaps}

-- the parent word and the first n items are written
pub record Written (slots gaps parent : ℕ) (items : List Item) (n : ℕ) (w : List ℕ) : Type 0 where
  pub first : get_or w 0 0 ≡ parent
  pub pivots : (k : ℕ) → k < n → k + 1 < slots → get_or w (pivot_column k) 0 ≡ (item_or items k).last
  pub words : (k : ℕ) → k < n → get_or w (slot_column slots k) 0 ≡ (item_or items k).word
  pub holes : (k : ℕ) → k < n → 0 < gaps → get_or w (gap_column slots k) 0 ≡ (item_or items k).gap

module _ (all slots gaps parent : ℕ) (items : List Item) (layout : IsLayout all slots gaps) (fit : length items ≤ slots) where
  abbrev unused : ℕ
  unused = 2 * slots + gaps

  -- where every item is written the columns in use are those of the row
  used_by_now : (w : List ℕ) (n : ℕ) → unused ≤ length w → slots ≤ n → Written slots gaps parent items n w → take unused w ≡ used all slots gaps parent items layout fit
  used_by_now w n long last was =
      let column = λ (c : ℕ) (h : c < unused). get_or-take unused w c 0 h in
      is_used all slots gaps parent items layout fit (take unused w) (length-take-le unused w long)
      (column 0 (omega (arith, some_slots all slots gaps layout)) ∙ was.first)
      (λ k h. column (pivot_column k) (omega arith) ∙ was.pivots k (omega arith) h)
      (λ k h. column (slot_column slots k) (omega arith) ∙ was.words k (omega arith))
      (λ k h. column (gap_column slots k) (omega arith) ∙ was.holes k (omega (arith, few_gaps all slots gaps layout)) (omega arith))

  -- and with zeros behind them they are its words
  pub all_written : (w zeros : List ℕ) (n : ℕ) → length w ≡ all → unused ≤ all → slots ≤ n → Written slots gaps parent items n w → zeros ≡ replicate (all - unused) 0
      → put_mid unused (length w - unused) w zeros ≡ row_words all slots gaps parent items
  all_written w zeros n long room last was zero =
      let rest : drop (length w - unused) (drop unused w) ≡ [] = drop_all (length w - unused) (drop unused w) (omega (arith, length-drop unused w)) in
      let front = used_by_now w n (omega arith) last was in
      let left : all - length (used all slots gaps parent items layout fit) ≡ all - unused = ap (λ (k : ℕ). all - k) (length-used all slots gaps parent items layout fit) in
      rw (rest, append-nil, zero, front, left) refl
