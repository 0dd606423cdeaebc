-- Where one row takes the place of one, in a slot of the row above: the slot, the law of gaps, and what the row there tells.
use Rattle.mt_splice.proofs.Prelude.{◌≡◌, ℕ, suc, List, ◌∷◌, ◌++◌, false, true, Some, length, refl, sym, ap, ◌∙◌, subst, arith, append-nil, finds_room, Book, Item, RowKind, Gapped, Span, row_in, spans_from, PathStep, step_in, place, Tree, GapLaw, kind_on, longest_below, Levels, is_row_of, tally, times, StandsAt, tree_as, with_published, IsSlotAt, root_of, with_child, Sheet, inner_of, level_next, times_split, levels_shared, tally-append, one_of_parts, stands_at, times_in_once, Climb, Top, TellsBelow, numbers_in_all, HasClimbed, EndsInSlot, IsEndPlace, was_seen, AreAllHeld, begin_at, gone_by, heads_at, Before, passing, AreAllFromBelow, GapsBeside, TellGaps, before, behind, high_of, in_place, low_of, row_at, Start, rows_at, tree_with, [], now}
use Rattle.mt_splice.proofs.Burials.{AreBuried}
use Rattle.mt_splice.proofs.EndForms.{IsEnding, slot_stored}
use Rattle.mt_splice.proofs.Ended.{taken, gone, ledger_then, planned, high, within, old_beside, tree_stands, has, same_levels, words, held_stored, stand_below, x_is, level_is, slot_replaces, gone_above}
use Rattle.mt_splice.proofs.LayerGaps.{KeepGaps, each_old, old_laws, planned_tell}
use Rattle.mt_splice.proofs.KeptTrees.{kept_shared}
use Rattle.mt_splice.proofs.SlotGaps.{gaps_after}
use Rattle.mt_splice.proofs.SlotStores.{beside_then, is_slot, level_new}
use Rattle.mt_splice.proofs.ToldRows.{gaps_were}
use Rattle.mt_splice.proofs.Written.{counts_itself}
use Rattle.mt_splice.proofs.LedgerNow.{keeps_by}
use Rattle.mt_splice.proofs.StoredWords.{words_of}

one_begins : (x : Span) (gap lo : ℕ) (items : List Item) → items ≡ record { last = x.last; word = x.word; gap = gap } ∷ [] → spans_from lo items ≡ x ∷ [] → lo ≡ x.first
one_begins x gap lo items are spans =
    let same : x ∷ [] ≡ record { first = lo; last = x.last; word = x.word } ∷ [] = sym spans ∙ ap (spans_from lo) are in
    let here : x ≡ record { first = lo; last = x.last; word = x.word } = cc in
    sym (ap (λ (y : Span). y.first) here)

module _ {b : Before} {start : Start} {s s' : Sheet} {book book' : Book} {c : Climb} {top : Top} (hc : HasClimbed b start s book c top) (done : AreBuried s s' book book' (numbers_in_all s.tree start.height c.windows.items) b.number)
    (e : EndsInSlot start hc.layers hc.root hc.over top) where
  abbrev t : Tree
  t = start.tree

  abbrev T : Tree
  T = tree_with t s'.tree.table.words

  abbrev T' : Tree
  T' = tree_with t (words hc done e)

  abbrev h : ℕ
  h = length e.lower

  abbrev i : ℕ
  i = e.l.from

  abbrev parent : Span
  parent = row_at t e.depth i

  abbrev replaced : Span
  replaced = row_at t (suc e.depth) i

  abbrev step : PathStep
  step = step_in t.table parent i

  its_slot : IsSlotAt T e.depth parent step.slot replaced
  its_slot = is_slot (old_beside hc done) (tree_stands hc done e) (has hc done e) (same_levels hc done e) i e.depth h (within hc done e) (high hc done e) e.x.word

  level_then : rows_at T' (suc e.depth) ≡ in_place t (suc e.depth) i i (with_child replaced e.x.word ∷ [])
  level_then = level_new (old_beside hc done) (tree_stands hc done e) (has hc done e) (same_levels hc done e) i e.depth h (within hc done e) (high hc done e) e.x.word

  -- ---- the place

  gone_is : gone hc ≡ gone_by start (e.l ∷ e.lower)
  gone_is = (λ m. gone_by start (e.are m) ++ gone_above start (e.none m)) ∙ append-nil (gone_by start (e.l ∷ e.lower))

  -- its row is not gone
  row_stays : passing (is_row_of step.row) (gone hc) ≡ 0
  row_stays =
      let p = is_row_of step.row in
      let levels = high hc done e in
      let at = place t start.height hc.stands i e.depth (within hc done e) (omega (arith, levels)) in
      let once = times_in_once t start.height hc.stands step.row in
      let split = times_split p t.table e.depth (suc h) start.height (root_of t) levels in
      let parts = ap (tally (p (suc h))) at.parts ∙ tally-append (p (suc h)) at.front (parent ∷ at.back) in
      let itself = counts_itself (suc h) parent in
      let next = ap (times p t.table h) (level_next t.table e.depth (root_of t)) in
      let were = (stand_below hc done e).were p in
      let deep = ap (λ (d : ℕ). times p t.table h (rows_at t d)) e.above in
      let all = ap (passing p) gone_is in
      omega arith

  pub slot_is_place : IsEndPlace (now start s') (gone hc) (Some start.height) top.place
  slot_is_place = subst (IsEndPlace (now start s') (gone hc) (Some start.height)) (sym e.place)
      (record { depth = e.depth; low = h; slot = step.slot; at = parent; child = replaced; levels = high hc done e; here = its_slot; number = refl; column = refl }, row_stays)

  -- the word is stored there
  stored : T' ≡ tree_as b.kind (with_published s'.tree top.place top.word)
  stored = slot_stored hc.case.was (ledger_then hc done) (kind_on t.gapped (suc h)) step e.x.word ∙ (λ m. tree_as b.kind (with_published s'.tree (sym e.place m) (sym e.word m)))

  -- ---- the law of gaps

  tell : KeepGaps start T' e.l e.lower
  tell = planned_tell (beside_then (old_beside hc done) (tree_stands hc done e) (has hc done e) (same_levels hc done e) i e.depth h (within hc done e) (high hc done e) e.x.word) (gaps_were hc.case.was hc.stands) e.l e.lower (planned hc done e)
      (subst (AreAllFromBelow start) e.are hc.told) (subst (AreAllHeld start (words hc done e) (was_seen (taken hc))) e.are (held_stored hc done e)) (let above = e.above in omega arith)

  laws_then : Levels (GapLaw T') T'.table h (rows_at T' (suc e.depth))
  laws_then = subst (Levels (GapLaw T') T'.table h) (level_is hc done e ∙ sym level_then) tell.laws

  laws_before : Levels (GapLaw T) T.table start.height (root_of T)
  laws_before = old_laws (old_beside hc done) (gaps_were hc.case.was hc.stands) start.height 0 (omega arith) (omega arith)

  none_new : Levels (λ (_ : ℕ) (y : Span). was_seen (taken hc) (row_in y.word) ≡ false) T.table start.height (root_of T)
  none_new =
      levels_shared (λ (_ : ℕ) (y : Span). was_seen (taken hc) (row_in y.word) ≡ false) t.table T.table start.height (root_of t) (kept_shared (keeps_by hc.case.was (ledger_then hc done) hc.stands))
      (each_old (old_beside hc done) (gaps_were hc.case.was hc.stands) (λ (_ : ℕ) (y : Span). was_seen (taken hc) (row_in y.word) ≡ false) (λ _ y o. o.old) start.height 0 (omega arith) (omega arith))

  gaps_at : GapsBeside start (was_seen (taken hc)) T' (Some start.height)
  gaps_at index from to =
      let levels = high hc done e in let inside = within hc done e in let g = (planned hc done e).0.gathered in
      let begins = g.first in let ends = g.last in let first = ap (λ (d : ℕ). low_of t d i) e.above in let last = ap (λ (d : ℕ). high_of t d e.l.to) e.above in let same = ap (λ (z : Span). z.last) e.same in
      gaps_after T start.height h e.depth step.slot e.x.word index parent replaced (has hc done e) (tree_stands hc done e) (high hc done e) its_slot (omega arith) (omega arith) (was_seen (taken hc)) laws_before none_new laws_then

  pub slot_ends : IsEnding start (taken hc) (gone hc) (Some start.height) (Some start.height) (tree_as b.kind (with_published s'.tree top.place top.word))
  slot_ends = subst (IsEnding start (taken hc) (gone hc) (Some start.height) (Some start.height)) stored (record { replaced = slot_replaces hc done e; gaps = gaps_at })

  -- ---- what the row there tells

  x_begins : begin_at start h e.l ≡ e.x.first
  x_begins = one_begins e.x top.gap (begin_at start h e.l) (heads_at start h e.l) e.tells e.one

  gap_is : finds_room b.kind ≡ true → top.gap ≡ longest_below T'.table h (e.x ∷ [])
  gap_is gapped =
      let kinds : inner_of t.gapped ≡ Gapped = ap (λ (y : Tree). inner_of y.gapped) hc.case.was.tree ∙ ap inner_of gapped in
      let one : Item = record { last = e.x.last; word = e.x.word; gap = top.gap } in
      let gaps : top.gap ∷ [] ≡ longest_below T'.table h (e.x ∷ []) ∷ [] =
      subst (λ (q : (RowKind × ℕ) × List Item). TellGaps q.0.0 T'.table h q.0.1 q.1) (λ m. ((kinds m, x_begins m), e.tells m)) tell.heads in
      cc

  pub in_slot_tells : TellsBelow b.kind (with_published s'.tree top.place top.word) top.word top.gap
  in_slot_tells =
      let levels = high hc done e in
      let level_holds : rows_at T' (suc e.depth) ≡ before i (rows_at t (suc e.depth)) ++ (e.x ∷ behind i (rows_at t (suc e.depth))) =
      level_then ∙ (λ m. before i (rows_at t (suc e.depth)) ++ (sym (x_is hc done e) m ∷ behind i (rows_at t (suc e.depth)))) in
      let stands : StandsAt (words_of T') h e.x =
      stands_at T' start.height (slot_replaces hc done e).stands (suc e.depth) h e.x (omega arith) (one_of_parts (rows_at T' (suc e.depth)) (before i (rows_at t (suc e.depth))) (behind i (rows_at t (suc e.depth))) e.x level_holds) in
      subst (λ (q : Tree × ℕ). TellsBelow b.kind (words_of q.0) q.1 top.gap) (λ m. (stored m, sym e.word m)) (record { height = h; row = e.x; stands = stands; named = refl; longest = gap_is })
