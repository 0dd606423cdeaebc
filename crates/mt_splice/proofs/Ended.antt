-- The end of a climb: what is to be buried, and what stands when it is and the word is published.
use Rattle.mt_splice.proofs.Prelude.{◌≡◌, ℕ, zero, suc, ◌+◌, ◌-◌, ◌<◌, ◌≤◌, List, ◌∷◌, ◌++◌, Bool, true, Some, length, map, refl, sym, ap, ◌∙◌, subst, ⊎_elim, arith, append-nil, append_assoc, length-append, AllByRecursion, cases_lt, map-append, columns, Book, Span, slot_column, row_in, slots_of, slot_within, Fills, slot_for, place, child, lawful, HasWords, Tree, Stands, kind_on, top_of, is_row_of, level, tally, times, IsTreeOf, is_reached, root_of, with_child, Rooted, Sheet, column, inner_of, root_span, spans_in, all_back, row_most, level_next, tally-append, times_in_once, Climb, Top, Window, MayBeBuriedInTurn, EachInTurn, rows_on, numbers_in, numbers_in_all, IsWindowOn, AreWindowsOn, HasClimbed, EndsAtRoot, EndsInSlot, was_seen, IsLedger, Beside, Stand, IsNowOf, Layer, depth_at, level_of, IsPlanned, AreAllHeld, seen_at, taken_by, gone_by, window_at, windows_by, windows_above, Before, row_seen, new_rows_of, IsReplaced, Seen, passing, before, behind, between, row_at, low_of, high_of, in_place, Start, rows_at, times_in, tree_with, [], after_burials, after_retirals, with_root}
use Rattle.mt_splice.proofs.Burials.{AreBuried}
use Rattle.mt_splice.proofs.EndForms as forms
use Rattle.mt_splice.proofs.DraftedLedger.{all_held_stay}
use Rattle.mt_splice.proofs.Drafts.{other_row}
use Rattle.mt_splice.proofs.Endings.{alone, replaced_at_root, replaced_in_slot}
use Rattle.mt_splice.proofs.GoneLedger.{less_none, buried_by, burials_keep, held_later, WereReached, numbers_are, windows_are, length-windows, gone_reached, level_reached, seen_reached, both_reached, window_numbers, numbers_seen, window_is}
use Rattle.mt_splice.proofs.Heads.{heads_fill}
use Rattle.mt_splice.proofs.KeptTrees.{kept_level, kept_stands}
use Rattle.mt_splice.proofs.LedgerNow.{beside_by, keeps_by, now_by, tree_by}
use Rattle.mt_splice.proofs.LevelRows.{new_rows_stay}
use Rattle.mt_splice.proofs.Planned.{planned_stands, passing_seen}
use Rattle.mt_splice.proofs.SlotStores.{beside_then, stand_in_slot, words_then}
use Rattle.mt_splice.proofs.Splits.{fills_none}
use Rattle.mt_splice.proofs.StepSeen.{not_both}
use Rattle.mt_splice.proofs.Steps.{ledger_reads, reached_untaken, table_now}
use Rattle.mt_splice.proofs.Windows.{at_behind, once}
use Rattle.mt_splice.proofs.WindowRows.{window_parts, before_fills, behind_fills}

-- all rows of the levels above a depth, which are gone with them, from the lowest up
abbrev pub gone_above : Start → ℕ → List Seen
gone_above start zero = []
gone_above start (suc depth) = seen_at (start.height - depth) (rows_at start.tree depth) ++ gone_above start depth

-- ---- rows of whole levels

-- with those of a level, and of those below it, they are all rows
passing_above : (start : Start) (p : ℕ → Span → Bool) (d : ℕ) → d ≤ start.height → passing p (gone_above start d) + times p start.tree.table (start.height - d) (rows_at start.tree d) ≡ times_in p start.tree start.height
passing_above start p zero low = let none : passing p (gone_above start 0) ≡ 0 = refl in let all = ap (λ (n : ℕ). times p start.tree.table n (rows_at start.tree 0)) (less_none start.height) in omega arith
passing_above start p (suc d) low =
    let k = start.height - suc d in
    let above : start.height - d ≡ suc k = omega arith in
    let rest = passing_above start p d (omega arith) in
    let all = tally-append (λ (s : Seen). p s.height s.at) (seen_at (start.height - d) (rows_at start.tree d)) (gone_above start d) in
    let here = passing_seen p (start.height - d) (rows_at start.tree d) in
    let same = ap (λ (n : ℕ). times p start.tree.table n (rows_at start.tree d)) above in
    let next = ap (times p start.tree.table k) (level_next start.tree.table d (root_of start.tree)) in
    let tallied = ap (λ (n : ℕ). tally (p n) (rows_at start.tree d)) above in
    omega arith

-- all rows of a tree
pub passing_all : (start : Start) (p : ℕ → Span → Bool) → passing p (gone_above start (suc start.height)) ≡ times_in p start.tree start.height
passing_all start p =
    let rest = passing_above start p start.height (omega arith) in
    let zero_here : start.height - start.height ≡ 0 = omega arith in
    let all = tally-append (λ (s : Seen). p s.height s.at) (seen_at (start.height - start.height) (rows_at start.tree start.height)) (gone_above start start.height) in
    let here = passing_seen p (start.height - start.height) (rows_at start.tree start.height) in
    let same = ap (λ (n : ℕ). times p start.tree.table n (rows_at start.tree start.height)) zero_here in
    let tallied = ap (λ (n : ℕ). tally (p n) (rows_at start.tree start.height)) zero_here in
    omega arith

-- a window that stands for every index is its level
whole_between : (start : Start) → Stands start.tree start.height → (i j d : ℕ) → i ≤ j → j ≤ top_of start.tree → d ≤ start.height → low_of start.tree d i ≡ 0 → high_of start.tree d j ≡ top_of start.tree + 1 → between i j (rows_at start.tree d) ≡ rows_at start.tree d
whole_between start stands i j d order within low begin end =
    let t = start.tree in
    let front = fills_none 0 (before i (rows_at t d)) (subst (λ (hi : ℕ). Fills 0 hi (before i (rows_at t d))) begin (before_fills t start.height stands i j d order within low)) in
    let back = fills_none (top_of t + 1) (behind j (rows_at t d)) (subst (λ (lo : ℕ). Fills lo (top_of t + 1) (behind j (rows_at t d))) end (behind_fills t start.height stands i j d order within low)) in
    sym (window_parts t start.height stands i j d order within low ∙ ((λ m. front m ++ (between i j (rows_at t d) ++ back m)) ∙ append-nil (between i j (rows_at t d))))

-- indexes of one row have the same rows behind them
rows_behind_same : (start : Start) → Stands start.tree start.height → (i j d : ℕ) → i ≤ top_of start.tree → j ≤ top_of start.tree → d ≤ start.height → row_at start.tree d i ≡ row_at start.tree d j → behind j (rows_at start.tree d) ≡ behind i (rows_at start.tree d)
rows_behind_same start stands i j d i_within j_within low same =
    let at = place start.tree start.height stands i d i_within low in let there = place start.tree start.height stands j d j_within low in
    let from = there.from in let to = there.to in let first = ap (λ (z : Span). z.first) same in let last = ap (λ (z : Span). z.last) same in
    (once start.tree start.height stands j d at.front (row_at start.tree d i) at.back j_within low at.parts (omega arith) (omega arith)).1 ∙ at_behind at

module _ {b : Before} {start : Start} {s : Sheet} {book : Book} {c : Climb} {top : Top} (hc : HasClimbed b start s book c top) where
  abbrev pub taken : List Seen
  taken = hc.root ++ taken_by start hc.layers

  abbrev pub gone : List Seen
  gone = gone_by start hc.layers ++ gone_above start hc.over

  pub now : IsNowOf start s.tree
  now = now_by hc.case.was hc.ledger hc.stands

  root_same : s.tree.root ≡ start.tree.root
  root_same = ap (λ (t : Rooted). t.root) hc.ledger.tree ∙ sym (ap (λ (t : Tree). t.root) hc.case.was.tree)

  pub levels_now : (d k : ℕ) → start.height ≡ d + k → rows_on s.tree d ≡ rows_at start.tree d
  levels_now d k high = (λ i. level (sym (table_now hc.case.was hc.ledger) i) d (root_span (sym (table_now hc.case.was hc.ledger) i) (root_same i) ∷ [])) ∙ kept_level (keeps_by hc.case.was hc.ledger hc.stands) d k high

  pub tree_now : IsTreeOf s.tree b.kind
  tree_now = tree_by hc.case.was hc.ledger hc.stands

  -- ---- how many there are

  layers_few : (p : ℕ → Span → Bool) → (layers : List Layer) → hc.layers ≡ layers → passing p gone ≤ times_in p start.tree start.height
  layers_few p [] is = ⊎_elim
      (λ (some : 0 < hc.over). let joined = hc.joined some in let none = ap length is in let all = passing_all start p in
      let over : hc.over ≡ suc start.height = omega arith in let same = ap (λ (n : ℕ). passing p (gone_above start n)) over in let no = ap (λ (l : List Layer). passing p (gone_by start l)) is in
      let both = tally-append (λ (s : Seen). p s.height s.at) (gone_by start hc.layers) (gone_above start hc.over) in omega arith)
      (λ (none : hc.over ≤ 0). let zero_over : hc.over ≡ 0 = omega arith in let same = ap (λ (n : ℕ). passing p (gone_above start n)) zero_over in let no = ap (λ (l : List Layer). passing p (gone_by start l)) is in
      let both = tally-append (λ (s : Seen). p s.height s.at) (gone_by start hc.layers) (gone_above start hc.over) in omega arith)
      (cases_lt 0 hc.over)
  layers_few p (l ∷ lower) is =
      let planned = subst (IsPlanned start) is hc.planned in
      let held = subst (AreAllHeld start s.tree.table.words (was_seen taken)) is hc.held in
      let low = planned.0.low in
      let stand = planned_stands (beside_by hc.case.was hc.ledger hc.stands) l lower planned held (omega arith) in
      let were = stand.were p in
      let above = passing_above start p (depth_at start (length lower)) (omega arith) in
      let back : start.height - depth_at start (length lower) ≡ length lower = omega arith in
      let same = ap (λ (n : ℕ). times p start.tree.table n (rows_at start.tree (depth_at start (length lower)))) back in
      let are = ap (λ (l : List Layer). passing p (gone_by start l)) is in
      let both = tally-append (λ (s : Seen). p s.height s.at) (gone_by start hc.layers) (gone_above start hc.over) in
      ⊎_elim
      (λ (some : 0 < hc.over). let joined = hc.joined some in let long = ap length is in
      let over : hc.over ≡ depth_at start (length lower) = omega arith in let more = ap (λ (n : ℕ). passing p (gone_above start n)) over in omega arith)
      (λ (none : hc.over ≤ 0). let zero_over : hc.over ≡ 0 = omega arith in let more = ap (λ (n : ℕ). passing p (gone_above start n)) zero_over in omega arith) (cases_lt 0 hc.over)

  pub gone_few : (p : ℕ → Span → Bool) → passing p gone ≤ times_in p start.tree start.height
  gone_few p = layers_few p hc.layers refl

  gone_once : (row : ℕ) → passing (is_row_of row) gone ≤ 1
  gone_once row = let few = gone_few (is_row_of row) in let once = times_in_once start.tree start.height hc.stands row in omega arith

  -- ---- the windows

  above_reached : (d : ℕ) → d ≤ suc start.height → WereReached b (gone_above start d)
  above_reached zero low = tt
  above_reached (suc d) low =
      both_reached s hc.case.was now hc.stands levels_now (seen_at (start.height - d) (rows_at start.tree d)) (gone_above start d)
      (seen_reached s hc.case.was now hc.stands levels_now (start.height - d) (rows_at start.tree d) (level_reached s hc.case.was now hc.stands levels_now d (start.height - d) (omega arith))) (above_reached d (omega arith))

  above_numbers : (d depth : ℕ) → d ≤ hc.over → (0 < d → d ≡ suc depth) → numbers_in_all s.tree depth (windows_above start hc.from hc.to d) ≡ map row_seen (gone_above start d)
  above_numbers zero depth low at = refl
  above_numbers (suc d) depth low at =
      let whole = hc.whole d (omega arith) in
      let here : depth ≡ d = (let one = at (omega arith) in omega arith) in
      (λ i. (ap (λ (e : ℕ). numbers_in s.tree e (window_at start d hc.from hc.to)) here
      ∙ (window_numbers s hc.case.was now hc.stands levels_now hc.from hc.to d hc.order hc.within whole.0
      ∙ (ap (map (λ (x : Span). row_in x.word)) (whole_between start hc.stands hc.from hc.to d hc.order hc.within whole.0 whole.1 whole.2) ∙ sym (numbers_seen s hc.case.was now hc.stands levels_now (start.height - d) (rows_at start.tree d))))) i
      ++ above_numbers d (depth - 1) (omega arith) (λ some. omega arith) i)
      ∙ sym (map-append row_seen (seen_at (start.height - d) (rows_at start.tree d)) (gone_above start d))

  over_low : hc.over ≤ suc start.height
  over_low = ⊎_elim (λ (some : 0 < hc.over). let joined = hc.joined some in omega arith) (λ (none : hc.over ≤ 0). omega arith) (cases_lt 0 hc.over)

  gone_were : WereReached b gone
  gone_were =
      both_reached s hc.case.was now hc.stands levels_now (gone_by start hc.layers) (gone_above start hc.over) (gone_reached s hc.case.was now hc.stands levels_now hc.layers hc.planned) (above_reached hc.over over_low)

  numbers_append : (depth : ℕ) (ws vs : List Window) → numbers_in_all s.tree depth (ws ++ vs) ≡ numbers_in_all s.tree depth ws ++ numbers_in_all s.tree (depth - length ws) vs
  numbers_append depth [] vs = ap (λ (d : ℕ). numbers_in_all s.tree d vs) (less_none depth)
  numbers_append depth (w ∷ ws) vs =
      let less : depth - 1 - length ws ≡ depth - length (w ∷ ws) = omega arith in
      ap (λ (l : List ℕ). numbers_in s.tree depth w ++ l) (numbers_append (depth - 1) ws vs)
      ∙ (sym (append_assoc (numbers_in s.tree depth w) (numbers_in_all s.tree (depth - 1) ws) (numbers_in_all s.tree (depth - 1 - length ws) vs))
      ∙ ap (λ (d : ℕ). (numbers_in s.tree depth w ++ numbers_in_all s.tree (depth - 1) ws) ++ numbers_in_all s.tree d vs) less)

  -- the lowest of them stands above the layers
  stands_above : 0 < hc.over → hc.over ≡ suc (start.height - length (windows_by start hc.layers))
  stands_above some = let joined = hc.joined some in let many = length-windows s hc.case.was now hc.stands levels_now hc.layers in omega arith

  numbers_over : numbers_in_all s.tree (start.height - length (windows_by start hc.layers)) (windows_above start hc.from hc.to hc.over) ≡ map row_seen (gone_above start hc.over)
  numbers_over = above_numbers hc.over (start.height - length (windows_by start hc.layers)) (omega arith) stands_above

  pub numbers_gone : numbers_in_all s.tree start.height c.windows.items ≡ map row_seen gone
  numbers_gone =
      ap (numbers_in_all s.tree start.height) hc.windows
      ∙ (numbers_append start.height (windows_by start hc.layers) (windows_above start hc.from hc.to hc.over)
      ∙ ((λ i. numbers_are s hc.case.was now hc.stands levels_now hc.layers hc.planned i ++ numbers_over i) ∙ sym (map-append row_seen (gone_by start hc.layers) (gone_above start hc.over))))

  by_ledger : EachInTurn s book (map row_seen gone) b.number × IsLedger b (after_burials s (map row_seen gone)) (after_retirals book (map row_seen gone) b.number) taken gone
  by_ledger = buried_by hc.case.was hc.case.unpublished [] gone hc.ledger gone_once gone_were

  -- the rows of all windows may be buried
  pub may_bury_windows : MayBeBuriedInTurn s book (numbers_in_all s.tree start.height c.windows.items) b.number
  may_bury_windows = subst (λ (rows : List ℕ). MayBeBuriedInTurn s book rows b.number) (sym numbers_gone) (record { each = by_ledger.0 })

  length-above : (n : ℕ) → length (windows_above start hc.from hc.to n) ≡ n
  length-above zero = refl
  length-above (suc n) = ap suc (length-above n)

  above_on : (d depth : ℕ) → d ≤ hc.over → (0 < d → d ≡ suc depth) → AreWindowsOn s.tree depth (windows_above start hc.from hc.to d)
  above_on zero depth low at = tt
  above_on (suc d) depth low at =
      let whole = hc.whole d (omega arith) in let many = length-above d in
      let here : d ≡ depth = (let one = at (omega arith) in omega arith) in (
        subst (λ (e : ℕ). IsWindowOn s.tree e (window_at start d hc.from hc.to)) here (window_is s hc.case.was now hc.stands levels_now hc.from hc.to d hc.order hc.within whole.0),
        omega arith,
        above_on d (depth - 1) (omega arith) (λ some. omega arith),
      )

  few_layers : (layers : List Layer) → IsPlanned start layers → length layers ≤ start.height + 1
  few_layers [] planned = omega arith
  few_layers (l ∷ lower) planned = let low = planned.0.low in omega arith

  windows_join : (depth : ℕ) (ws vs : List Window) → length ws + length vs ≤ depth + 1 → AreWindowsOn s.tree depth ws → AreWindowsOn s.tree (depth - length ws) vs → AreWindowsOn s.tree depth (ws ++ vs)
  windows_join depth [] vs many on more = subst (λ (d : ℕ). AreWindowsOn s.tree d vs) (sym (less_none depth)) more
  windows_join depth (w ∷ ws) vs many on more =
      let less : depth - length (w ∷ ws) ≡ depth - 1 - length ws = omega arith in let deep = on.1 in
      (on.0, omega (arith, length-append ws vs), windows_join (depth - 1) ws vs (omega arith) on.2 (subst (λ (d : ℕ). AreWindowsOn s.tree d vs) less more))

  all_few : length (windows_by start hc.layers) + length (windows_above start hc.from hc.to hc.over) ≤ start.height + 1
  all_few =
      let layers = few_layers hc.layers hc.planned in let many = length-windows s hc.case.was now hc.stands levels_now hc.layers in let high = length-above hc.over in
      ⊎_elim (λ (some : 0 < hc.over). let joined = hc.joined some in omega arith) (λ (none : hc.over ≤ 0). omega arith) (cases_lt 0 hc.over)

  pub windows_on : AreWindowsOn s.tree start.height c.windows.items
  windows_on = subst (AreWindowsOn s.tree start.height) (sym hc.windows)
      (windows_join start.height (windows_by start hc.layers) (windows_above start hc.from hc.to hc.over) all_few (windows_are s hc.case.was now hc.stands levels_now hc.layers hc.planned)
      (above_on hc.over (start.height - length (windows_by start hc.layers)) (omega arith) stands_above))

  -- ---- when they are buried

  module _ {s' : Sheet} {book' : Book} (done : AreBuried s s' book book' (numbers_in_all s.tree start.height c.windows.items) b.number) where
    buried : AreBuried s s' book book' (map row_seen gone) b.number
    buried = subst (λ (rows : List ℕ). AreBuried s s' book book' rows b.number) numbers_gone done

    pub ledger_then : IsLedger b s' book' taken gone
    ledger_then = subst (λ (k : Book). IsLedger b s' k taken gone) (sym buried.book_is) (ledger_reads buried.rows_are by_ledger.1)

    pub keeps_then : (r c : ℕ) → 0 < c → c < columns s.tree.table.width → column s'.tree.table r c ≡ column s.tree.table r c
    keeps_then r c above within = ap (λ (x : Sheet). column x.tree.table r c) buried.rows_are ∙ burials_keep s (map row_seen gone) r c above within

    pub wide_then : s'.tree.table.width ≡ s.tree.table.width
    wide_then = ap (λ (t : Rooted). t.table.width) ledger_then.tree ∙ sym (ap (λ (t : Rooted). t.table.width) hc.ledger.tree)

    pub made_then : c.made.items ≡ new_rows_of s'.tree.table taken
    made_then = hc.made ∙ sym (new_rows_stay s.tree.table s'.tree.table taken wide_then (λ row some c above within. keeps_then row c above within))

    pub held_then : AreAllHeld start s'.tree.table.words (was_seen taken) hc.layers
    held_then = held_later start hc.ledger ledger_then now.width (wide_then ∙ now.width) keeps_then hc.layers hc.held

    -- the tree's rows stand beside the new ones
    pub old_beside : Beside start s'.tree.table.words (was_seen taken) 0
    old_beside = beside_by hc.case.was ledger_then hc.stands

    -- one row is the root
    module _ (e : EndsAtRoot start hc.layers hc.root hc.over top) where
      abbrev k : ℕ
      k = length e.lower

      abbrev d : ℕ
      d = depth_at start k

      root_planned : IsPlanned start (e.l ∷ e.lower)
      root_planned = subst (IsPlanned start) e.are hc.planned

      pub root_level : level_of start (e.l ∷ e.lower) ≡ e.x ∷ []
      root_level =
          let planned = root_planned in
          let low = planned.0.low in let g = planned.0.gathered in
          let fills = heads_fill start.tree k (inner_of start.tree.gapped) (kind_on start.tree.gapped k) e.l.items e.l.rows planned.0.cut planned.0.fewest planned.0.many in
          let one_fills = subst (Fills (low_of start.tree d e.l.from) (high_of start.tree d e.l.to)) e.one fills in
          let begin : low_of start.tree d e.l.from ≡ 0 = sym one_fills.0 ∙ e.first in
          let end : high_of start.tree d e.l.to ≡ top_of start.tree + 1 = sym one_fills.2 ∙ ap (λ (n : ℕ). n + 1) e.last in
          ap (in_place start.tree d e.l.from e.l.to) e.one
          ∙ alone start d e.l.from e.l.to (e.x ∷ []) begin end (before_fills start.tree start.height hc.stands e.l.from e.l.to d g.order g.within (omega arith)) (behind_fills start.tree start.height hc.stands e.l.from e.l.to d g.order g.within (omega arith))

      pub root_replaces : IsReplaced start.tree (with_root (tree_with start.tree s'.tree.table.words) e.x.word) start.map taken gone (Some start.height) (Some k)
      root_replaces =
          let planned = root_planned in
          let low = planned.0.low in
          let taken_is : taken ≡ taken_by start (e.l ∷ e.lower) = λ i. e.no_root i ++ taken_by start (e.are i) in
          let gone_is : gone ≡ gone_by start (e.l ∷ e.lower) ++ gone_above start d = λ i. gone_by start (e.are i) ++ gone_above start (e.above i) in
          let stand = planned_stands old_beside e.l e.lower planned (subst (AreAllHeld start s'.tree.table.words (was_seen taken)) e.are held_then) (omega arith) in
          replaced_at_root e.x hc.stands (omega arith) e.first e.last
          (subst (λ (p : List Seen × List Span). Stand start s'.tree.table.words (was_seen taken) (λ q. passing q p.0) (λ q. passing q (gone_by start (e.l ∷ e.lower))) d k p.1) (λ i. (sym taken_is i, root_level i)) stand)
          (λ p.
          let all = ap (passing p) gone_is in let both = tally-append (λ (s : Seen). p s.height s.at) (gone_by start (e.l ∷ e.lower)) (gone_above start d) in
          let above = passing_above start p d (omega arith) in
          let back : start.height - d ≡ k = omega arith in let same = ap (λ (n : ℕ). times p start.tree.table n (rows_at start.tree d)) back in omega arith)

    -- one row takes the place of one
    module _ (e : EndsInSlot start hc.layers hc.root hc.over top) where
      abbrev pub t : Tree
      t = start.tree

      abbrev pub h : ℕ
      h = length e.lower

      abbrev pub i : ℕ
      i = e.l.from

      pub planned : IsPlanned start (e.l ∷ e.lower)
      planned = subst (IsPlanned start) e.are hc.planned

      pub high : start.height ≡ e.depth + suc h
      high = let above = e.above in let low = planned.0.low in omega arith

      pub within : i ≤ top_of t
      within = let order = planned.0.gathered.order in let within = planned.0.gathered.within in omega arith

      pub tree_stands : Stands (tree_with t s'.tree.table.words) start.height
      tree_stands = kept_stands (keeps_by hc.case.was ledger_then hc.stands)

      pub has : HasWords (tree_with t s'.tree.table.words)
      has = forms.has_words hc.case.was ledger_then

      pub same_levels : (d k : ℕ) → start.height ≡ d + k → rows_at (tree_with t s'.tree.table.words) d ≡ rows_at t d
      same_levels d k high = kept_level (keeps_by hc.case.was ledger_then hc.stands) d k high

      abbrev pub words : List ℕ
      words = words_then old_beside tree_stands has same_levels i e.depth h within high e.x.word

      pub parent_reached : is_reached b.sheet.tree (row_in (row_at t e.depth i).word) ≡ true
      parent_reached =
          let at = place t start.height hc.stands i e.depth within (omega (arith, high)) in
          (all_back (λ (x : Span). is_reached b.sheet.tree (row_in x.word) ≡ true) at.front (row_at t e.depth i ∷ at.back)
          (subst (AllByRecursion (λ (x : Span). is_reached b.sheet.tree (row_in x.word) ≡ true)) at.parts (level_reached s hc.case.was now hc.stands levels_now e.depth (suc h) high))).0

      pub slot_inside : slot_column (slots_of t.table.width (kind_on t.gapped (suc h))) (slot_for (spans_in t.table (row_at t e.depth i)) i) < columns t.table.width
      slot_inside =
          let here = child t start.height hc.stands i e.depth within (omega (arith, high)) in
          let most = row_most (lawful t start.height hc.stands i e.depth (suc h) within high).name in
          let parts = ap length here.parts in let both = length-append here.front (row_at t (suc e.depth) i ∷ here.back) in let slot = here.slot in
          slot_within t.table.width (kind_on t.gapped (suc h)) (slot_for (spans_in t.table (row_at t e.depth i)) i) (omega arith)

      -- a row that was taken is not the one in which the word is stored
      pub stored_keeps : (row c : ℕ) → was_seen taken row ≡ true → c < columns t.table.width → column (tree_with t words).table row c ≡ column (tree_with t s'.tree.table.words).table row c
      stored_keeps row c some inside =
          other_row t.table.width s'.tree.table.words (row_in (row_at t e.depth i).word) (slot_column (slots_of t.table.width (kind_on t.gapped (suc h))) (slot_for (spans_in t.table (row_at t e.depth i)) i)) e.x.word row c
          (λ same. not_both (was_seen taken row) some (ap (was_seen taken) same ∙ reached_untaken hc.case.was ledger_then (row_in (row_at t e.depth i).word) parent_reached)) slot_inside inside

      pub held_stored : AreAllHeld start words (was_seen taken) hc.layers
      held_stored = all_held_stay start s'.tree.table.words words (was_seen taken) (was_seen taken) (λ row some. some) stored_keeps hc.layers held_then

      pub stand_below : Stand start words (was_seen taken) (λ p. passing p (taken_by start (e.l ∷ e.lower))) (λ p. passing p (gone_by start (e.l ∷ e.lower))) (depth_at start h) h (level_of start (e.l ∷ e.lower))
      stand_below = planned_stands (beside_then old_beside tree_stands has same_levels i e.depth h within high e.x.word) e.l e.lower planned (subst (AreAllHeld start words (was_seen taken)) e.are held_stored) (let above = e.above in omega arith)

      -- the new row covers what the old one did
      pub x_is : e.x ≡ with_child (row_at t (suc e.depth) i) e.x.word
      x_is =
          let fills = heads_fill t h (inner_of t.gapped) (kind_on t.gapped h) e.l.items e.l.rows planned.0.cut planned.0.fewest planned.0.many in
          let one = subst (Fills (low_of t (depth_at start h) e.l.from) (high_of t (depth_at start h) e.l.to)) e.one fills in
          let first : e.x.first ≡ low_of t (suc e.depth) i = one.0 ∙ ap (λ (d : ℕ). low_of t d i) e.above in
          let last : e.x.last ≡ (row_at t (suc e.depth) i).last =
          (let end = one.2 in let there = ap (λ (d : ℕ). high_of t d e.l.to) e.above in let same = ap (λ (z : Span). z.last) e.same in omega arith) in
          λ m. record { first = first m; last = last m; word = e.x.word }

      pub level_is : level_of start (e.l ∷ e.lower) ≡ in_place t (suc e.depth) i i (with_child (row_at t (suc e.depth) i) e.x.word ∷ [])
      level_is =
          let same = e.same in
          (λ m. in_place t (e.above m) i e.l.to (e.one m))
          ∙ (λ m. before i (rows_at t (suc e.depth)) ++ ((x_is m ∷ []) ++ behind_same m))
        where
          behind_same : behind e.l.to (rows_at t (suc e.depth)) ≡ behind i (rows_at t (suc e.depth))
          behind_same = rows_behind_same start hc.stands i e.l.to (suc e.depth) within planned.0.gathered.within (omega (arith, high)) e.same

      pub slot_replaces : IsReplaced t (tree_with t words) start.map taken gone (Some start.height) (Some start.height)
      slot_replaces =
          let taken_is : taken ≡ taken_by start (e.l ∷ e.lower) = λ m. e.no_root m ++ taken_by start (e.are m) in
          let gone_is : gone ≡ gone_by start (e.l ∷ e.lower) = (λ m. gone_by start (e.are m) ++ gone_above start (e.none m)) ∙ append-nil (gone_by start (e.l ∷ e.lower)) in
          replaced_in_slot hc.stands
          (stand_in_slot old_beside tree_stands has same_levels i e.depth h within high e.x.word
          (subst (λ (p : (List Seen × List Seen) × (List Span × ℕ)). Stand start words (was_seen taken) (λ q. passing q p.0.0) (λ q. passing q p.0.1) p.1.1 h p.1.0) (λ m. ((sym taken_is m, sym gone_is m), (level_is m, e.above m))) stand_below))
