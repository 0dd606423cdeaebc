-- Where rows that replace the root stand in a new one: the tree then, and its law of gaps.
use Rattle.mt_splice.proofs.Prelude.{◌≡◌, ℕ, suc, ◌+◌, ◌<◌, ◌≤◌, List, ◌∷◌, ◌++◌, true, Some, length, refl, sym, ap, ◌∙◌, subst, arith, append-nil, deepest, most_rows, Book, Item, RowKind, Span, end_of, name_at, slots_of, spans_from, row_in-name_at, sizes, fills_end, Tree, IsRow, GapLaw, kind_on, top_of, expand, Levels, Sheet, Table, inner_of, spans_in, nine_levels, Climb, Top, numbers_in_all, HasClimbed, EndsAbove, Stand, was_seen, AreAllHeld, IsPlanned, begin_at, depth_at, gone_by, heads_at, level_of, new_at, taken_by, Before, with_root, Seen, passing, AreAllFromBelow, TellGaps, high_of, low_of, Start, tree_with, IsNewRow, []}
use Rattle.mt_splice.proofs.Burials.{AreBuried}
use Rattle.mt_splice.proofs.DraftedLedger.{new_row_stays}
use Rattle.mt_splice.proofs.EndForms.{IsEnding}
use Rattle.mt_splice.proofs.EndGaps.{root_laws}
use Rattle.mt_splice.proofs.Ended.{taken, gone, now, ledger_then, held_then, old_beside, keeps_then, wide_then, gone_above}
use Rattle.mt_splice.proofs.Endings.{alone, replaced_above}
use Rattle.mt_splice.proofs.GoneLedger.{columns_later}
use Rattle.mt_splice.proofs.Heads.{length-heads}
use Rattle.mt_splice.proofs.LayerGaps.{head_tells, planned_tell}
use Rattle.mt_splice.proofs.NewRows.{new_lawful}
use Rattle.mt_splice.proofs.Planned.{planned_stands, run_now}
use Rattle.mt_splice.proofs.RootEndings.{root_rows}
use Rattle.mt_splice.proofs.StepSeen.{seen_here}
use Rattle.mt_splice.proofs.Topped.{root_begins, root_ends}
use Rattle.mt_splice.proofs.ToldRows.{gaps_were}
use Rattle.mt_splice.proofs.WindowRows.{before_fills, behind_fills}
use Rattle.mt_splice.proofs.WrittenRows.{new_spans}

module _ {b : Before} {start : Start} {s s' : Sheet} {book book' : Book} {c : Climb} {top : Top} (hc : HasClimbed b start s book c top) (done : AreBuried s s' book book' (numbers_in_all s.tree start.height c.windows.items) b.number)
    (e : EndsAbove start s hc.layers hc.root hc.over top) where
  abbrev t : Tree
  t = start.tree

  abbrev T : Tree
  T = tree_with t s'.tree.table.words

  abbrev I : RowKind
  I = inner_of t.gapped

  abbrev k : ℕ
  k = length e.lower

  abbrev H : ℕ
  H = suc start.height

  abbrev items : List Item
  items = heads_at start k e.l

  abbrev x : Span
  x = record { first = 0; last = top_of t; word = name_at e.row I }

  planned : IsPlanned start (e.l ∷ e.lower)
  planned = subst (IsPlanned start) e.are hc.planned

  held : AreAllHeld start s'.tree.table.words (was_seen (taken hc)) (e.l ∷ e.lower)
  held = subst (AreAllHeld start s'.tree.table.words (was_seen (taken hc))) e.are (held_then hc done)

  told : AreAllFromBelow start (e.l ∷ e.lower)
  told = subst (AreAllFromBelow start) e.are hc.told

  at_top : depth_at start k ≡ 0
  at_top = let high = e.height in omega arith

  begin : begin_at start k e.l ≡ 0
  begin = ap (λ (d : ℕ). low_of t d e.l.from) at_top ∙ root_begins t e.l.from

  end : high_of t (depth_at start k) e.l.to ≡ top_of t + 1
  end = ap (λ (d : ℕ). high_of t d e.l.to) at_top ∙ root_ends t e.l.to

  taken_is : taken hc ≡ record { height = H; at = x } ∷ taken_by start (e.l ∷ e.lower)
  taken_is = λ i. e.one_root i ++ taken_by start (e.are i)

  gone_is : gone hc ≡ gone_by start (e.l ∷ e.lower)
  gone_is = (λ i. gone_by start (e.are i) ++ gone_above start (e.none i)) ∙ append-nil (gone_by start (e.l ∷ e.lower))

  -- the level below the new root is that of its items
  level_is : level_of start (e.l ∷ e.lower) ≡ spans_from 0 items
  level_is =
      let g = planned.0.gathered in
      alone start (depth_at start k) e.l.from e.l.to (new_at start k e.l) begin end (before_fills t start.height hc.stands e.l.from e.l.to (depth_at start k) g.order g.within (omega arith))
      (behind_fills t start.height hc.stands e.l.from e.l.to (depth_at start k) g.order g.within (omega arith))
      ∙ ap (λ (n : ℕ). spans_from n items) begin

  many : length items ≡ length e.l.ends
  many = length-heads I (kind_on t.gapped k) (begin_at start k e.l) e.l.items 0 e.l.ends e.l.rows planned.0.many

  -- the new root
  pub is_new : was_seen (taken hc) e.row ≡ true
  is_new = subst (λ (seen : List Seen). was_seen seen e.row ≡ true) (sym taken_is) (seen_here (record { height = H; at = x }) (taken_by start (e.l ∷ e.lower)) e.row (row_in-name_at e.row I))

  root_holds : IsNewRow T.table I e.row items
  root_holds = new_row_stays (tree_with t s.tree.table.words).table T.table I e.row items refl
      (λ c within. columns_later start hc.ledger (ledger_then hc done) (now hc).width (wide_then hc done ∙ (now hc).width) (keeps_then hc done) e.row c is_new within)
      (subst (λ (y : Table). IsNewRow y I e.row items) (λ i. record { width = (now hc).width i; words = s.tree.table.words }) e.holds)

  ends_last : end_of 0 items ≡ top_of t
  ends_last = let two = e.two in let same = many in let last = fills_end 0 0 (top_of t + 1) 0 items (omega arith) e.run.fills in omega arith

  x_is : record { first = 0; last = end_of 0 items; word = name_at e.row I } ≡ x
  x_is = λ i. record { first = 0; last = ends_last i; word = name_at e.row I }

  lawful : IsRow T H x
  lawful = subst (IsRow T H) x_is (new_lawful T H 0 (top_of t + 1) I e.row items root_holds refl e.inside (run_now s'.tree.table.words e.run))

  hold : expand T.table (x ∷ []) ≡ spans_from 0 items
  hold = ap (λ (y : Span). expand T.table (y ∷ [])) (sym x_is) ∙ (append-nil (spans_in T.table (record { first = 0; last = end_of 0 items; word = name_at e.row I })) ∙ new_spans T.table I e.row items root_holds 0)

  stand : Stand start s'.tree.table.words (was_seen (taken hc)) (λ p. passing p (taken_by start (e.l ∷ e.lower))) (λ p. passing p (gone hc)) 0 start.height (spans_from 0 items)
  stand =
      subst (λ (q : (ℕ × ℕ) × (List Span × List Seen)). Stand start s'.tree.table.words (was_seen (taken hc)) (λ p. passing p (taken_by start (e.l ∷ e.lower))) (λ p. passing p q.1.1) q.0.0 q.0.1 q.1.0)
      (λ i. ((at_top i, e.height i), (level_is i, sym gone_is i))) (planned_stands (old_beside hc done) e.l e.lower planned held (omega arith))

  low : H < deepest
  low =
      let rows : Levels (IsRow T) T.table H (x ∷ []) = ((lawful, tt), subst (Levels (IsRow T) T.table start.height) (sym hold) stand.rows) in
      nine_levels (with_root T x.word) H (subst (λ (t : Tree). t.rows ≤ most_rows) (sym hc.case.was.tree) hc.case.was.whole.few) (root_rows T x refl refl H rows)

  few : length items ≤ slots_of t.table.width (kind_on t.gapped H)
  few = let few = planned.0.few in let same = many in let size = sizes t.table.width (kind_on t.gapped H) in omega (arith, size.least, size.some)

  -- it keeps the law of gaps, and so do all rows below it
  pub above_ends : IsEnding start (taken hc) (gone hc) (Some start.height) (Some H) (with_root T x.word)
  above_ends =
      let both = planned_tell (old_beside hc done) (gaps_were hc.case.was hc.stands) e.l e.lower planned told held (omega arith) in
      let tells = subst (λ (q : ℕ × ℕ). TellGaps I T.table q.0 q.1 items) (λ i. (e.height i, begin i)) both.heads in
      let below = subst (λ (q : ℕ × List Span). Levels (GapLaw T) T.table q.0 q.1) (λ i. (e.height i, level_is i)) both.laws in
      let law = subst (GapLaw T H) x_is (head_tells T 0 e.row items H root_holds tells).1 in
      record {
        replaced = replaced_above x items refl refl low stand lawful hold refl few (ap (was_seen (taken hc)) (row_in-name_at e.row I) ∙ is_new) (λ p. ap (passing p) taken_is);
        gaps = λ index _ _. root_laws (was_seen (taken hc)) index T H x refl refl ((law, tt), subst (Levels (GapLaw T) T.table start.height) (sym hold) below);
      }
