-- The climb: what its steps ask, and what a level comes to.
use Rattle.mt_splice.proofs.Prelude.{◌≡◌, ℕ, zero, suc, ◌+◌, ◌*◌, ◌-◌, ◌<◌, ◌≤◌, List, ◌∷◌, ◌++◌, length, refl, sym, ap, ◌∙◌, subst, inl, ⊎_elim, arith, All, flat_map, Width, columns, greatest, Book, Item, RowKind, Leaf, Span, slots_of, leaf_range, spans_from, Apart, Fills, sizes, apart_anywhere, length-spans_from, PathStep, step_at, step_in, at_within, levels, place, Stands, kind_on, top_of, expand, Rooted, Sheet, OnlyReads, IsFree, life_of, Table, column, inner_of, leaf_low, Climb, Next, Up, Window, NewRow, IsCutOf, IsClimbing, IsNothingLeft, IsLevelDrafted, IsNothing, EndsHere, IsNextDecision, item_words, AreRowsTaken, noted_rows, MayDraftRows, AreRowsDrafted, heads, was_seen, IsLedger, IsNowOf, MayLook, MayGather, items_above, Layer, depth_at, begin_at, new_at, level_of, IsLayer, AreAllHeld, newest_first, taken_by, windows_by, window_at, Before, new_rows_of, MayBeIn, MayBeCut, IsWidened, IsWindow, MayWiden, before, behind, in_place, row_at, low_of, high_of, Gathered, Start, rows_at, tree_with, AreAmongOld, AreFromBelow, []}
use Rattle.mt_splice.proofs.Besides.{begin_within, low_enough, some_gathered}
use Rattle.mt_splice.proofs.DraftedLedger.{taken_behind, all_held_stay, ledger_then, taken_stay, held_then, noted_then, width_then}
use Rattle.mt_splice.proofs.FromBelow.{gathered_from, widened_from}
use Rattle.mt_splice.proofs.Heads.{heads_fill, length-heads}
use Rattle.mt_splice.proofs.LedgerNow.{now_by}
use Rattle.mt_splice.proofs.LevelRuns.{AreParts, cut_makes_parts}
use Rattle.mt_splice.proofs.Raised.{deep, risen}
use Rattle.mt_splice.proofs.ReadsNow.{widened_now, above_now}
use Rattle.mt_splice.proofs.Splits.{fills_none}
use Rattle.mt_splice.proofs.ToldRows.{gaps_were}
use Rattle.mt_splice.proofs.Steps.{ledger_reads}
use Rattle.mt_splice.proofs.Widened.{step_is, widened, IsWide}
use Rattle.mt_splice.proofs.WindowRows.{before_fills, behind_fills}
use Rattle.mt_splice.proofs.StoredWords.{words_of}

one_item : (items : List Item) → item_words items ≡ 0 ∷ [] → length items ≡ 1
one_item [] is = absurd (cc)
one_item (x ∷ []) is = refl
one_item (x ∷ y ∷ items) is = absurd (cc)

apart_at : (h lo : ℕ) (items : List Item) → h ≡ 0 → MayBeIn h (spans_from lo items) → Apart (spans_from 0 items)
apart_at zero lo items leaf fit = apart_anywhere lo 0 items fit.0
apart_at (suc h) lo items leaf fit = absurd (omega arith)

-- ---- the items of a level, widened

module _ {start : Start} {t : Rooted} {kind : RowKind} {left right : List PathStep} {depth : ℕ} {items : List Item} (look : MayLook start t kind left right depth items) {left' right' : List PathStep} {items' : List Item}
    (w : IsWidened t kind depth left right items left' right' items') where
  then : IsWidened (words_of start.tree) (kind_on start.tree.gapped look.height) depth left right items left' right' items'
  then = widened_now look.is_now look.may (subst (λ (k : RowKind). IsWidened t k depth left right items left' right' items') look.of_kind w)

  wide : IsWide start look.below left' right' depth look.height items'
  wide = widened look.may then

  abbrev v : IsWindow start look.below left' right' depth look.height items'
  v = wide.window

  abbrev lo : ℕ
  lo = low_of start.tree depth v.from

  abbrev hi : ℕ
  hi = high_of start.tree depth v.to

  first_step : step_at left' depth ≡ step_in start.tree.table (row_at start.tree depth v.from) v.from
  first_step = step_is start.tree start.height v.gathered.stands left' v.from depth (begin_within v.gathered) (low_enough v.gathered) v.is_left

  last_step : step_at right' depth ≡ step_in start.tree.table (row_at start.tree depth v.to) v.to
  last_step = step_is start.tree start.height v.gathered.stands right' v.to depth v.gathered.within (low_enough v.gathered) v.is_right

  first : (step_at left' depth).min ≡ lo
  first = ap (λ (z : PathStep). z.min) first_step

  last : (step_at right' depth).max + 1 ≡ hi
  last = ap (λ (z : PathStep). z.max + 1) last_step

  pub some_items : 1 ≤ length items'
  some_items = let some = some_gathered v.gathered in let same = length-spans_from lo items' in omega arith

  pub apart_items : kind ≡ Leaf → Apart (spans_from 0 items')
  apart_items leaf = apart_at look.height lo items' (leaf_low start.tree.gapped look.height (sym look.of_kind ∙ leaf)) v.gathered.fit

  pub left_deep : depth < length left'
  left_deep = deep start.tree start.height v.gathered.stands left' v.from depth (begin_within v.gathered) (low_enough v.gathered) v.is_left

  pub right_deep : depth < length right'
  right_deep = deep start.tree start.height v.gathered.stands right' v.to depth v.gathered.within (low_enough v.gathered) v.is_right

  module _ {width : Width} (is_width : width ≡ t.table.width) where
    width_is : width ≡ start.tree.table.width
    width_is = is_width ∙ look.is_now.width

    pub few_items : length items' + 3 ≤ 3 * slots_of width kind
    few_items =
        let size = sizes start.tree.table.width (kind_on start.tree.gapped look.height) in
        let slots : slots_of width kind ≡ slots_of start.tree.table.width (kind_on start.tree.gapped look.height) = λ i. slots_of (width_is i) (look.of_kind i) in
        let same = length-spans_from lo items' in
        ⊎_elim (λ (cut : MayBeCut start.tree look.height lo hi (spans_from lo items')). let few = cut.few in omega (arith, size.least, size.some))
        (λ (hole : (look.height ≡ 0) × (lo ≡ 0) × (hi ≡ top_of start.tree + 1) × (item_words items' ≡ 0 ∷ [])). let one = one_item items' hole.3 in omega (arith, size.least, size.some)) wide.cut

    module _ (not : IsNothing width left' right' depth kind items' → ⊥) where
      cut : MayBeCut start.tree look.height lo hi (spans_from lo items')
      cut = ⊎_elim (λ (cut : MayBeCut start.tree look.height lo hi (spans_from lo items')). cut)
          (λ (hole : (look.height ≡ 0) × (lo ≡ 0) × (hi ≡ top_of start.tree + 1) × (item_words items' ≡ 0 ∷ [])).
          let begin = first in let end = last in let low = hole.1 in let high = hole.2 in let top = ap greatest width_is in
          absurd (not (record { leaf = look.of_kind ∙ ap (kind_on start.tree.gapped) hole.0; all = record { first = omega arith; last = omega arith }; hole = hole.3 }))) wide.cut

      module _ {ends : List ℕ} (is_cut : IsCutOf width kind items' ends) where
        cut_here : IsCutOf start.tree.table.width (kind_on start.tree.gapped look.height) items' ends
        cut_here = subst (λ (p : Width × RowKind). IsCutOf p.0 p.1 items' ends) (λ i. (width_is i, look.of_kind i)) is_cut

        pub drafts : {s : Sheet} {book : Book} {begin : ℕ} → s.tree.table.width ≡ t.table.width → begin ≡ (step_at left' depth).min → length ends ≤ 3 → length ends ≤ length book.free → book.rows ≡ s.tree.rows → All (λ row. IsFree s.cleared (life_of s.lives row)) book.free
            → MayDraftRows s book kind begin items' ends
        drafts {s} {book} {begin} same begins few free rows spare = subst (λ (n : ℕ). MayDraftRows s book kind n items' ends) (sym (begins ∙ first)) (record {
          tree = start.tree;
          height = look.height;
          hi = hi;
          width = same ∙ look.is_now.width;
          of_kind = look.of_kind;
          within = (let at = (at_within 0 (top_of start.tree + 1) (rows_at start.tree depth) v.to (row_at start.tree depth v.to) (place start.tree start.height v.gathered.stands v.to depth v.gathered.within (low_enough v.gathered))).1 in omega arith);
          run = cut;
          cut = subst (λ (v : Width). IsCutOf v kind items' ends) width_is is_cut;
          few = few;
          free = free;
          rows = rows;
          spare = spare;
        })

-- ---- a level of a climb

module _ {b : Before} {start : Start} {s : Sheet} {book : Book} {kind : RowKind} {depth : ℕ} {c : Climb} (k : IsClimbing b start s book kind depth c) where
  abbrev h : ℕ
  h = length k.layers

  abbrev stands : Stands start.tree start.height
  stands = k.gathered.window.gathered.stands

  abbrev pub look_of : MayLook start s.tree kind c.ways.left.items c.ways.right.items depth c.gathered.run.items
  look_of = record { below = level_of start k.layers; height = h; is_now = now_by k.case.was k.ledger stands; of_kind = k.of_kind; may = k.gathered }

  depth_is : depth_at start h ≡ depth
  depth_is = let levels = k.gathered.window.gathered.levels in omega arith

  module _ {left' right' : List PathStep} {items' : List Item} (w : IsWidened s.tree kind depth c.ways.left.items c.ways.right.items c.gathered.run.items left' right' items') {width : Width} (is_width : width ≡ s.tree.table.width)
      (not : IsNothing width left' right' depth kind items' → ⊥) {ends : List ℕ} (is_cut : IsCutOf width kind items' ends) (few : length ends ≤ 3) where
    abbrev win : IsWindow start (level_of start k.layers) left' right' depth h items'
    win = (wide look_of w).window

    abbrev layer : List ℕ → Layer
    layer rows = record { from = win.from; to = win.to; items = items'; ends = ends; rows = rows }

    is_layer : (rows : List ℕ) → length rows ≡ length ends → IsLayer start (level_of start k.layers) h (layer rows)
    is_layer rows many = record {
      low = let levels = win.gathered.levels in omega arith;
      gathered = subst (λ (d : ℕ). Gathered start (level_of start k.layers) win.from win.to d h (spans_from (low_of start.tree d win.from) items')) (sym depth_is) win.gathered;
      cut = subst (λ (d : ℕ). MayBeCut start.tree h (low_of start.tree d win.from) (high_of start.tree d win.to) (spans_from (low_of start.tree d win.from) items')) (sym depth_is) (cut look_of w is_width not);
      fewest = cut_here look_of w is_width not is_cut;
      few = few;
      many = many;
    }

    module _ {s₁ s₂ : Sheet} {book' : Book} {above : RowKind} {begin : ℕ} {made' : List NewRow} {rows : List ℕ} {new : List Item} (reads : OnlyReads s s₁) (above_is : above ≡ inner_of start.tree.gapped) (begins : begin ≡ (step_at left' depth).min)
        (done : AreRowsDrafted s₁ s₂ book book' above kind begin items' ends c.made.items made' rows new) where
      abbrev l : Layer
      l = layer rows

      abbrev K : RowKind
      K = kind_on start.tree.gapped h

      abbrev at : ℕ
      at = begin_at start h l

      begins_at : begin ≡ at
      begins_at = begins ∙ (first look_of w ∙ ap (λ (d : ℕ). low_of start.tree d win.from) (sym depth_is))

      same₁ : s₁.tree ≡ s.tree
      same₁ = ap (λ (x : Sheet). x.tree) reads

      ledger₁ : IsLedger b s₁ book (taken_by start k.layers) []
      ledger₁ = ledger_reads reads k.ledger

      drafted : AreRowsTaken K items' 0 ends rows s₁ s₂ book book'
      drafted = subst (λ (r : RowKind). AreRowsTaken r items' 0 ends rows s₁ s₂ book book') k.of_kind done.taken

      told : AreFromBelow start k.layers at (high_of start.tree (depth_at start h) win.to) items'
      told = subst (λ (p : ℕ × ℕ). AreFromBelow start k.layers p.0 p.1 items')
          (λ i. ((first look_of w ∙ ap (λ (d : ℕ). low_of start.tree d win.from) (sym depth_is)) i, (last look_of w ∙ ap (λ (d : ℕ). high_of start.tree d win.to) (sym depth_is)) i))
          (widened_from (gaps_were k.case.was stands) k.layers k.gathered (then look_of w) k.from_below)

      up : new ≡ heads (inner_of start.tree.gapped) K at items' 0 ends rows
      up = done.up ∙ (λ i. heads (above_is i) (k.of_kind i) (begins_at i) items' 0 ends rows)

      planned_here : IsLayer start (level_of start k.layers) h l
      planned_here = is_layer rows done.many

      parts : AreParts start.tree h at items' 0 ends
      parts = cut_makes_parts items' planned_here.cut planned_here.fewest

      wide₁ : s₁.tree.table.width ≡ start.tree.table.width
      wide₁ = ap (λ (t : Rooted). t.table.width) same₁ ∙ (look_of).is_now.width

      wide₂ : s₂.tree.table.width ≡ start.tree.table.width
      wide₂ = width_then k.case.was h (inner_of start.tree.gapped) K items' 0 ends rows s₁ s₂ book book' drafted ∙ wide₁

      table_of : (x : Sheet) → x.tree.table.width ≡ start.tree.table.width → (tree_with start.tree x.tree.table.words).table ≡ x.tree.table
      table_of x wide = λ i. record { width = sym wide i; words = x.tree.table.words }

      lower_held : AreAllHeld start s₂.tree.table.words (was_seen (taken_by start (l ∷ k.layers))) k.layers
      lower_held = all_held_stay start s₁.tree.table.words s₂.tree.table.words (was_seen (taken_by start k.layers)) (was_seen (taken_by start (l ∷ k.layers)))
          (λ row some. taken_behind (newest_first h (new_at start h l)) (taken_by start k.layers) row some)
          (λ row c some within.
          ap (λ (t : Table). column t row c) (table_of s₂ wide₂)
          ∙ (taken_stay k.case.was h (inner_of start.tree.gapped) K items' at 0 ends rows s₁ s₂ book book' ledger₁ drafted row some c (subst (λ (v : Width). c < columns v) (sym wide₁) within)
          ∙ sym (ap (λ (t : Table). column t row c) (table_of s₁ wide₁))))
          k.layers (subst (λ (t : Rooted). AreAllHeld start t.table.words (was_seen (taken_by start k.layers)) k.layers) (sym same₁) k.held)

      pub level_drafted : {c' : Climb} {window : Window} {next : Next} → c'.ways.left.items ≡ left' → c'.ways.right.items ≡ right' → window.first ≡ step_at left' depth → window.last ≡ step_at right' depth → c'.windows.items ≡ c.windows.items ++ window ∷ [] → c'.made.items ≡ made'
          → c'.inner ≡ c.inner → IsNextDecision width left' right' depth kind items' (length ends) next → IsLevelDrafted b start s₂ book' depth c' rows new next
      level_drafted {c'} {window} {next} left_is right_is first_is last_is windows_is made_is inner_is goes = record {
        l = l;
        lower = k.layers;
        case = k.case;
        at = win.gathered.levels;
        planned = (planned_here, k.planned);
        held = (held_then k.case.was h (inner_of start.tree.gapped) K items' refl at 0 ends rows s₁ s₂ book book' ledger₁ drafted parts wide₂, lower_held);
        ledger = ledger_then k.case.was h (inner_of start.tree.gapped) K items' at 0 ends rows ledger₁ drafted;
        told = (told, k.told);
        left = left_is ∙ win.is_left;
        right = right_is ∙ win.is_right;
        numbers = refl;
        up = up;
        goes_on = subst (λ (p : (List PathStep × List PathStep) × (Width × RowKind)). IsNextDecision p.1.0 p.0.0 p.0.1 depth p.1.1 items' (length ends) next) (λ i. ((sym left_is i, sym right_is i), (width_is look_of w is_width i, k.of_kind i))) goes;
        windows = windows_is
            ∙ ((λ i. k.windows i ++ (record { first = (first_is ∙ first_step look_of w) i; last = (last_is ∙ last_step look_of w) i } ∷ []))
            ∙ ap (λ (d : ℕ). windows_by start k.layers ++ (window_at start d win.from win.to ∷ [])) (sym depth_is));
        made = made_is
            ∙ noted_then k.case.was h (inner_of start.tree.gapped) K items' refl at 0 ends rows s₁ s₂ book book' ledger₁ drafted parts done.many wide₂
            (k.made ∙ ap (λ (t : Rooted). new_rows_of t.table (taken_by start k.layers)) (sym same₁)) (done.noted ∙ ap (λ (r : RowKind). c.made.items ++ noted_rows r 0 ends rows) k.of_kind);
        inner = inner_is ∙ k.inner;
        room = k.room;
      }

-- ---- up to the next level

module _ {b : Before} {start : Start} {s : Sheet} {book : Book} {depth : ℕ} {c : Climb} {rows : List ℕ} {new : List Item} (d : IsLevelDrafted b start s book depth c rows new Up) where
  abbrev g : Gathered start (level_of start d.lower) d.l.from d.l.to (depth_at start (length d.lower)) (length d.lower) (spans_from (begin_at start (length d.lower) d.l) d.l.items)
  g = d.planned.0.gathered

  pub goes_deeper : depth ≡ suc (depth - 1)
  goes_deeper = by depth (λ root. d.goes_on.1 (inl root))
    where
      by : (n : ℕ) → (n ≡ 0 → ⊥) → n ≡ suc (n - 1)
      by zero some = absurd (some refl)
      by (suc n) some = omega arith

  depth_there : depth_at start (length d.lower) ≡ suc (depth - 1)
  depth_there = let at = d.at in let deeper = goes_deeper in omega arith

  abbrev window_up : IsWindow start (level_of start d.lower) c.ways.left.items c.ways.right.items (suc (depth - 1)) (length d.lower) d.l.items
  window_up = record {
    from = d.l.from;
    to = d.l.to;
    is_left = d.left;
    is_right = d.right;
    gathered = subst (λ (n : ℕ). Gathered start (level_of start d.lower) d.l.from d.l.to n (length d.lower) (spans_from (low_of start.tree n d.l.from) d.l.items)) depth_there g;
  }

  many_new : length new ≡ length d.l.ends
  many_new = ap length d.up ∙ length-heads (inner_of start.tree.gapped) (kind_on start.tree.gapped (length d.lower)) (begin_at start (length d.lower) d.l) d.l.items 0 d.l.ends d.l.rows d.planned.0.many

  few_new : length new ≤ 3
  few_new = let many = many_new in let few = d.planned.0.few in omega arith

  is_now : IsNowOf start s.tree
  is_now = now_by d.case.was d.ledger g.stands

  pub may_gather : {new' : List Item} → new' ≡ new → MayGather start s.tree c.inner c.ways.left.items c.ways.right.items (depth - 1) new'
  may_gather same = record {
    below = level_of start d.lower;
    height = length d.lower;
    items = d.l.items;
    is_now = is_now;
    of_kind = d.inner;
    window = window_up;
    few = subst (λ (l : List Item). length l ≤ 3) (sym same) few_new;
  }

  fills_new : Fills (low_of start.tree (suc (depth - 1)) d.l.from) (high_of start.tree (suc (depth - 1)) d.l.to) (spans_from (low_of start.tree (suc (depth - 1)) d.l.from) new)
  fills_new = subst (λ (n : ℕ). Fills (low_of start.tree n d.l.from) (high_of start.tree n d.l.to) (spans_from (low_of start.tree n d.l.from) new)) depth_there
      (subst (λ (l : List Item). Fills (begin_at start (length d.lower) d.l) (high_of start.tree (depth_at start (length d.lower)) d.l.to) (spans_from (begin_at start (length d.lower) d.l) l)) (sym d.up)
      (heads_fill start.tree (length d.lower) (inner_of start.tree.gapped) (kind_on start.tree.gapped (length d.lower)) d.l.items d.l.rows d.planned.0.cut d.planned.0.fewest d.planned.0.many))

  level_is : in_place start.tree (suc (depth - 1)) d.l.from d.l.to (spans_from (low_of start.tree (suc (depth - 1)) d.l.from) new) ≡ level_of start (d.l ∷ d.lower)
  level_is = (λ i. in_place start.tree (sym depth_there i) d.l.from d.l.to (spans_from (low_of start.tree (sym depth_there i) d.l.from) (d.up i)))

  run_there : {run new' : List Item} → new' ≡ new → run ≡ items_above s.tree c.inner (depth - 1) c.ways.left.items c.ways.right.items new' → run ≡ items_above (words_of start.tree) (inner_of start.tree.gapped) (depth - 1) c.ways.left.items c.ways.right.items new
  run_there same run =
      run
      ∙ (ap (items_above s.tree c.inner (depth - 1) c.ways.left.items c.ways.right.items) same
      ∙ (ap (λ (k : RowKind). items_above s.tree k (depth - 1) c.ways.left.items c.ways.right.items new) d.inner ∙ above_now is_now window_up (inner_of start.tree.gapped) new))

  from_here : AreFromBelow start (d.l ∷ d.lower) (step_at c.ways.left.items (depth - 1)).min ((step_at c.ways.right.items (depth - 1)).max + 1) (items_above (words_of start.tree) (inner_of start.tree.gapped) (depth - 1) c.ways.left.items c.ways.right.items new)
  from_here = subst
      (λ (p : ℕ × List Item).
      AreAmongOld start (length d.lower) (step_at c.ways.left.items (depth - 1)).min (low_of start.tree p.0 d.l.from) (high_of start.tree p.0 d.l.to) ((step_at c.ways.right.items (depth - 1)).max + 1) p.1
      (items_above (words_of start.tree) (inner_of start.tree.gapped) (depth - 1) c.ways.left.items c.ways.right.items new))
      (λ i. (sym depth_there i, d.up i)) (gathered_from (gaps_were d.case.was g.stands) window_up new)

  pub climbs_up : {s' : Sheet} {new' : List Item} {c' : Climb} → OnlyReads s s' → new' ≡ new → c'.gathered.run.items ≡ items_above s.tree c.inner (depth - 1) c.ways.left.items c.ways.right.items new' → c'.ways ≡ c.ways → c'.windows ≡ c.windows → c'.made ≡ c.made → c'.inner ≡ c.inner
      → IsClimbing b start s' book c.inner (depth - 1) c'
  climbs_up {s'} {new'} {c'} reads same run ways windows made inner =
      let tree : s'.tree ≡ s.tree = ap (λ (x : Sheet). x.tree) reads in
      record {
        layers = d.l ∷ d.lower;
        case = d.case;
        of_kind = d.inner;
        planned = d.planned;
        held = subst (λ (t : Rooted). AreAllHeld start t.table.words (was_seen (taken_by start (d.l ∷ d.lower))) (d.l ∷ d.lower)) (sym tree) d.held;
        ledger = ledger_reads reads d.ledger;
        gathered = subst (λ (p : (List PathStep × List PathStep) × List Item). MayWiden start (level_of start (d.l ∷ d.lower)) p.0.0 p.0.1 (depth - 1) (suc (length d.lower)) p.1)
            (λ i. ((sym (ap (λ w. w.left.items) ways) i, sym (ap (λ w. w.right.items) ways) i), sym (run_there same run) i))
            (subst (λ (l : List Span). MayWiden start l c.ways.left.items c.ways.right.items (depth - 1) (suc (length d.lower)) (items_above (words_of start.tree) (inner_of start.tree.gapped) (depth - 1) c.ways.left.items c.ways.right.items new)) level_is
            (risen window_up new fills_new few_new
            (subst (λ (p : ℕ × ℕ). EndsHere start.tree.table.width c.ways.left.items c.ways.right.items p.0 p.1 → ⊥) (λ i. (goes_deeper i, sym many_new i)) d.goes_on.1) refl));
        from_below = subst (λ (p : (List PathStep × List PathStep) × List Item). AreFromBelow start (d.l ∷ d.lower) (step_at p.0.0 (depth - 1)).min ((step_at p.0.1 (depth - 1)).max + 1) p.1)
            (λ i. ((sym (ap (λ w. w.left.items) ways) i, sym (ap (λ w. w.right.items) ways) i), sym (run_there same run) i)) from_here;
        told = d.told;
        windows = ap (λ w. w.items) windows ∙ d.windows;
        made = ap (λ m. m.items) made ∙ (d.made ∙ ap (λ (t : Rooted). new_rows_of t.table (taken_by start (d.l ∷ d.lower))) (sym tree));
        inner = inner ∙ d.inner;
        room = d.room;
      }

-- ---- nothing is left

hole_of : (lo : ℕ) (items : List Item) → item_words items ≡ 0 ∷ [] → (hole : Span) × (spans_from lo items ≡ hole ∷ []) × (hole.word ≡ 0)
hole_of lo [] is = absurd (cc)
hole_of lo (x ∷ []) is = (record { first = lo; last = x.last; word = x.word }, refl, head_is x.word 0 is)
  where
    head_is : (m n : ℕ) → m ∷ [] ≡ n ∷ [] → m ≡ n
    head_is m n same = cc
hole_of lo (x ∷ y ∷ items) is = absurd (cc)

-- one hole of every index stands for no range
empty_map : {start : Start} {below : List Span} {i j d : ℕ} {hole : Span} → Gathered start below i j d 0 (hole ∷ []) → hole.word ≡ 0 → low_of start.tree d i ≡ 0 → high_of start.tree d j ≡ top_of start.tree + 1 → start.map ≡ []
empty_map {start} {below} {i} {j} {d} {hole} g none begin end =
    let t = start.tree in
    let low : d ≤ start.height = (let levels = g.levels in omega arith) in
    let front = fills_none 0 (before i (rows_at t d)) (subst (λ (hi : ℕ). Fills 0 hi (before i (rows_at t d))) begin (before_fills t start.height g.stands i j d g.order g.within low)) in
    let back = fills_none (top_of t + 1) (behind j (rows_at t d)) (subst (λ (lo : ℕ). Fills lo (top_of t + 1) (behind j (rows_at t d))) end (behind_fills t start.height g.stands i j d g.order g.within low)) in
    sym g.level ∙ ((λ m. flat_map leaf_range (expand t.table (front m) ++ ((hole ∷ []) ++ expand t.table (back m)))) ∙ no_range hole none)
  where
    no_range : (x : Span) → x.word ≡ 0 → flat_map leaf_range (x ∷ []) ≡ []
    no_range x none = ap (λ (w : ℕ). flat_map leaf_range (record x { word = w } ∷ [])) none

pub nothing_left : {b : Before} {start : Start} {s s₁ : Sheet} {book : Book} {kind : RowKind} {depth : ℕ} {c c' : Climb} (k : IsClimbing b start s book kind depth c) {left' right' : List PathStep} {items' : List Item}
    (w : IsWidened s.tree kind depth c.ways.left.items c.ways.right.items c.gathered.run.items left' right' items') {width : Width} (is_width : width ≡ s.tree.table.width) → IsNothing width left' right' depth kind items' → OnlyReads s s₁ → {window : Window}
    → c'.ways.left.items ≡ left' → c'.ways.right.items ≡ right' → window.first ≡ step_at left' depth → window.last ≡ step_at right' depth → c'.windows.items ≡ c.windows.items ++ window ∷ [] → c'.made.items ≡ c.made.items → c'.inner ≡ c.inner → IsNothingLeft b start s₁ book depth c'
nothing_left {b} {start} {s} {s₁} {book} {kind} {depth} {c} {c'} k {left'} {right'} {items'} w {width} is_width nothing reads {window} left_is right_is first_is last_is windows_is made_is inner_is =
    by k.layers refl
  where
    look : MayLook start s.tree kind c.ways.left.items c.ways.right.items depth c.gathered.run.items
    look = look_of k

    leaf : length k.layers ≡ 0
    leaf = leaf_low start.tree.gapped (length k.layers) (sym k.of_kind ∙ nothing.leaf)

    begin : low_of start.tree depth (v look w).from ≡ 0
    begin = sym (first look w) ∙ nothing.all.first

    end : high_of start.tree depth (v look w).to ≡ top_of start.tree + 1
    end = sym (last look w) ∙ (ap (λ (n : ℕ). n + 1) nothing.all.last ∙ ap (λ (v : Width). greatest v + 1) (width_is look w is_width))

    by : (layers : List Layer) → k.layers ≡ layers → IsNothingLeft b start s₁ book depth c'
    by (l ∷ layers) is = let long = ap length is in let none = leaf in absurd (omega arith)
    by [] is =
        let g = (v look w).gathered in
        record {
          from = (v look w).from;
          to = (v look w).to;
          order = g.order;
          within = g.within;
          left = left_is ∙ (v look w).is_left;
          right = right_is ∙ (v look w).is_right;
          stands = g.stands;
          leaves = let levels = g.levels in let none = leaf in omega arith;
          first = begin;
          last = end;
          none = no_map;
          case = k.case;
          ledger = ledger_reads reads (subst (λ (l : List Layer). IsLedger b s book (taken_by start l) []) is k.ledger);
          windows = windows_is
              ∙ ((λ i. (k.windows ∙ ap (windows_by start) is) i ++ (window ∷ []))
              ∙ (λ i. record { first = (first_is ∙ first_step look w) i; last = (last_is ∙ last_step look w) i } ∷ []));
          made = made_is ∙ (k.made ∙ ap (λ (l : List Layer). new_rows_of s.tree.table (taken_by start l)) is);
          inner = inner_is ∙ k.inner;
        }
      where
        hole : (hole : Span) × (spans_from (low_of start.tree depth (v look w).from) items' ≡ hole ∷ []) × (hole.word ≡ 0)
        hole = hole_of (low_of start.tree depth (v look w).from) items' nothing.hole

        no_map : start.map ≡ []
        no_map =
            empty_map (subst (λ (p : ℕ × List Span). Gathered start (level_of start k.layers) (v look w).from (v look w).to depth p.0 p.1) (λ i. (leaf i, hole.1 i)) (v look w).gathered) hole.2 begin end

-- ---- the first level

-- the paths are as long as the tree is high
pub leaves_deep : {b : Before} {start : Start} {s : Sheet} {book : Book} {c : Climb} → IsClimbing b start s book Leaf (length c.ways.left.items - 1) c → (1 ≤ length c.ways.left.items) × (length c.ways.left.items - 1 ≡ start.height)
leaves_deep {start = start} {c = c} k =
    let g = k.gathered.window.gathered in
    let leaf = leaf_low start.tree.gapped (length k.layers) (sym k.of_kind) in
    let long = ap length k.gathered.window.is_left ∙ levels start.tree start.height g.stands k.gathered.window.from (begin_within g) in
    let deep = g.levels in
    (omega arith, omega arith)
