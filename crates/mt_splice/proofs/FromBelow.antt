-- The items of a climb are new rows among old ones, also when the row beside is taken in, and one level up.
use Rattle.mt_splice.proofs.Prelude.{◌≡◌, ℕ, suc, ◌+◌, ◌-◌, ◌<◌, ◌≤◌, List, [], ◌∷◌, ◌++◌, length, take, drop, refl, sym, ap, ◌∙◌, subst, inl, inr, arith, append_assoc, Item, RowKind, Span, spans_from, Fills, after, fills-append, spans-take, spans-drop, PathStep, step_at, Tree, Stands, kind_on, top_of, items_above, Layer, level_of, AreOld, AreAmongOld, AreFromBelow, HadGaps, IsWithBehind, IsWithBefore, IsWidened, IsWindow, MayWiden, low_of, high_of, Gathered, Start, items_of_row}
use Rattle.mt_splice.proofs.Besides.{begin_within, low_enough}
use Rattle.mt_splice.proofs.OldRows.{row_is_old, row_fills, take_old, drop_old, join_old}
use Rattle.mt_splice.proofs.Raised.{begin_there, fills_taken, fills_dropped}
use Rattle.mt_splice.proofs.TakenIn.{spans_behind}
use Rattle.mt_splice.proofs.ToldRows.{inner_beside}
use Rattle.mt_splice.proofs.Widened.{first_step, last_step, step_is}
use Rattle.mt_splice.proofs.Windows.{ahead_within, begins_behind, ends_ahead}
use Rattle.mt_splice.proofs.StoredWords.{words_of}

-- ---- with the items of a row more

more_behind : {start : Start} {h lo mid hi end end' : ℕ} {new items row items' : List Item} → AreAmongOld start h lo mid hi end new items → items' ≡ items ++ row → Fills end end' (spans_from end row) → AreOld start h end row → AreAmongOld start h lo mid hi end' new items'
more_behind {start} {h} {lo} {mid} {hi} {end} {end'} {new} {items} {row} among is fills old =
    let spans = spans_behind hi end among.back row among.past in
    record {
      front = among.front;
      back = among.back ++ row;
      are = is ∙ (ap (λ (l : List Item). l ++ row) among.are ∙ (append_assoc among.front (new ++ among.back) row ∙ ap (λ (l : List Item). among.front ++ l) (append_assoc new among.back row)));
      ahead = among.ahead;
      past = subst (Fills hi end') (sym spans) (fills-append hi end end' (spans_from hi among.back) (spans_from end row) among.past fills);
      old_front = among.old_front;
      old_back = join_old start h hi end among.back row spans among.old_back old;
    }

more_ahead : {start : Start} {h lo lo' mid hi end : ℕ} {new items row items' : List Item} → AreAmongOld start h lo mid hi end new items → items' ≡ row ++ items → Fills lo' lo (spans_from lo' row) → AreOld start h lo' row → AreAmongOld start h lo' mid hi end new items'
more_ahead {start} {h} {lo} {lo'} {mid} {hi} {end} {new} {items} {row} among is fills old =
    let spans = spans_behind lo' lo row among.front fills in
    record {
      front = row ++ among.front;
      back = among.back;
      are = is ∙ (ap (λ (l : List Item). row ++ l) among.are ∙ sym (append_assoc row among.front (new ++ among.back)));
      ahead = subst (Fills lo' mid) (sym spans) (fills-append lo' lo mid (spans_from lo' row) (spans_from lo among.front) fills among.ahead);
      past = among.past;
      old_front = join_old start h lo' lo row among.front spans old among.old_front;
      old_back = among.old_back;
    }

-- ---- widened

module _ {start : Start} (had : HadGaps start) (l : Layer) (lower : List Layer) {left right : List PathStep} {d : ℕ} {items : List Item} (may : MayWiden start (level_of start (l ∷ lower)) left right d (suc (length lower)) items) where
  abbrev t : Tree
  t = start.tree

  abbrev k : ℕ
  k = length lower

  abbrev K : RowKind
  K = kind_on t.gapped (suc k)

  abbrev g : Gathered start (level_of start (l ∷ lower)) may.window.from may.window.to d (suc k) (spans_from (low_of t d may.window.from) items)
  g = may.window.gathered

  -- where the row behind begins
  abbrev n : ℕ
  n = (step_at right d).max + 1

  -- and before which index the row ahead ends
  abbrev m : ℕ
  m = (step_at left d).min - 1

  module _ (from : AreFromBelow start (l ∷ lower) (step_at left d).min ((step_at right d).max + 1) items) {left' right' : List PathStep} {items' : List Item} where
    behind : IsWithBehind (words_of t) K d left right items left' right' items' → AreFromBelow start (l ∷ lower) (step_at left' d).min ((step_at right' d).max + 1) items'
    behind is =
        let last = last_step may in let some = is.some in
        let within : (step_at right d).max + 1 ≤ top_of t = omega arith in
        let more : high_of t d may.window.to ≤ top_of t = omega arith in
        let row = items_of_row t.table K (step_at right' d).row (step_at right' d).max in
        let begins : (step_at right' d).min ≡ n =
        ap (λ (z : PathStep). z.min) (step_is t start.height g.stands right' n d within (low_enough g) is.is_right)
        ∙ (ap (λ (m : ℕ). low_of t d m) last ∙ (begins_behind t start.height g.stands may.window.to d g.within (low_enough g) more ∙ sym last)) in
        let old : AreOld start k n row = subst (λ (m : ℕ). AreOld start k m row) begins (row_is_old start g.stands had right' n d k within g.levels is.is_right) in
        let fills : Fills n ((step_at right' d).max + 1) (spans_from n row) = subst (λ (m : ℕ). Fills m ((step_at right' d).max + 1) (spans_from m row)) begins (row_fills start g.stands had right' n d k within g.levels is.is_right) in
        subst (λ (p : List PathStep). AreFromBelow start (l ∷ lower) (step_at p d).min ((step_at right' d).max + 1) items') (sym is.is_left) (more_behind from (is.all ∙ inner_beside t.gapped items row) fills old)

    ahead : IsWithBefore (words_of t) K d left right items left' right' items' → AreFromBelow start (l ∷ lower) (step_at left' d).min ((step_at right' d).max + 1) items'
    ahead is =
        let first = first_step may in let some = is.some in
        let more : 0 < low_of t d may.window.from = omega arith in
        let there = ahead_within t start.height g.stands may.window.from d (begin_within g) (low_enough g) more in
        let within : (step_at left d).min - 1 ≤ top_of t = omega arith in
        let row = items_of_row t.table K (step_at left' d).row (step_at left' d).max in
        let ends : (step_at left' d).max + 1 ≡ (step_at left d).min =
        ap (λ (z : PathStep). z.max + 1) (step_is t start.height g.stands left' m d within (low_enough g) is.is_left)
        ∙ (ap (λ (i : ℕ). high_of t d (i - 1)) first ∙ (ends_ahead t start.height g.stands may.window.from d (begin_within g) (low_enough g) more ∙ sym first)) in
        let old : AreOld start k (step_at left' d).min row = row_is_old start g.stands had left' m d k within g.levels is.is_left in
        let fills : Fills (step_at left' d).min (step_at left d).min (spans_from (step_at left' d).min row) =
        subst (λ (i : ℕ). Fills (step_at left' d).min i (spans_from (step_at left' d).min row)) ends (row_fills start g.stands had left' m d k within g.levels is.is_left) in
        subst (λ (p : List PathStep). AreFromBelow start (l ∷ lower) (step_at left' d).min ((step_at p d).max + 1) items') (sym is.is_right) (more_ahead from (is.all ∙ inner_beside t.gapped row items) fills old)

    pub inner_widened : IsWidened (words_of t) K d left right items left' right' items' → AreFromBelow start (l ∷ lower) (step_at left' d).min ((step_at right' d).max + 1) items'
    inner_widened (inl is) = subst (λ (p : (List PathStep × List PathStep) × List Item). AreFromBelow start (l ∷ lower) (step_at p.0.0 d).min ((step_at p.0.1 d).max + 1) p.1) (λ m. ((sym is.same.0 m, sym is.same.1 m), sym is.same.2 m)) from
    inner_widened (inr (inl is)) = behind is
    inner_widened (inr (inr is)) = ahead is

pub widened_from : {start : Start} → HadGaps start → (layers : List Layer) {left right : List PathStep} {d : ℕ} {items : List Item} → MayWiden start (level_of start layers) left right d (length layers) items → {left' right' : List PathStep} {items' : List Item}
    → IsWidened (words_of start.tree) (kind_on start.tree.gapped (length layers)) d left right items left' right' items' → AreFromBelow start layers (step_at left d).min ((step_at right d).max + 1) items → AreFromBelow start layers (step_at left' d).min ((step_at right' d).max + 1) items'
widened_from had [] may w from = tt
widened_from had (l ∷ lower) may w from = inner_widened had l lower may from w

-- ---- one level up

module _ {start : Start} (had : HadGaps start) {below : List Span} {left right : List PathStep} {d h : ℕ} {items : List Item} (w : IsWindow start below left right (suc d) h items) (new : List Item) where
  abbrev T : Tree
  T = start.tree

  abbrev stands : Stands T start.height
  stands = w.gathered.stands

  abbrev left_items : List Item
  left_items = items_of_row T.table (kind_on T.gapped (suc h)) (step_at left d).row (step_at left d).max

  abbrev right_items : List Item
  right_items = items_of_row T.table (kind_on T.gapped (suc h)) (step_at right d).row (step_at right d).max

  levels : start.height ≡ d + suc h
  levels = let levels = w.gathered.levels in omega arith

  left_begins : (step_at left d).min ≡ low_of T d w.from
  left_begins = ap (λ (z : PathStep). z.min) (step_is T start.height stands left w.from d (begin_within w.gathered) (omega (arith, levels)) w.is_left)

  right_begins : (step_at right d).min ≡ low_of T d w.to
  right_begins = ap (λ (z : PathStep). z.min) (step_is T start.height stands right w.to d w.gathered.within (omega (arith, levels)) w.is_right)

  right_ends : (step_at right d).max + 1 ≡ high_of T d w.to
  right_ends = ap (λ (z : PathStep). z.max + 1) (step_is T start.height stands right w.to d w.gathered.within (omega (arith, levels)) w.is_right)

  spans_dropped : spans_from (high_of T (suc d) w.to) (drop ((step_at right d).slot + 1) right_items) ≡ drop ((step_at right d).slot + 1) (spans_from (low_of T d w.to) right_items)
  spans_dropped =
      let k = (step_at right d).slot + 1 in
      sym (begin_there (high_of T (suc d) w.to) (high_of T d w.to) (after (low_of T d w.to) (take k right_items)) (drop k right_items)
      (subst (Fills (high_of T (suc d) w.to) (high_of T d w.to)) (sym (spans-drop k (low_of T d w.to) right_items)) (fills_dropped w new)))
      ∙ spans-drop k (low_of T d w.to) right_items

  pub gathered_from : AreAmongOld start h (step_at left d).min (low_of start.tree (suc d) w.from) (high_of start.tree (suc d) w.to) ((step_at right d).max + 1) new (items_above (words_of start.tree) (kind_on start.tree.gapped (suc h)) d left right new)
  gathered_from = record {
    front = take (step_at left d).slot left_items;
    back = drop ((step_at right d).slot + 1) right_items;
    are = refl;
    ahead = subst (λ (n : ℕ). Fills n (low_of T (suc d) w.from) (spans_from n (take (step_at left d).slot left_items))) (sym left_begins)
        (subst (Fills (low_of T d w.from) (low_of T (suc d) w.from)) (sym (spans-take (step_at left d).slot (low_of T d w.from) left_items)) (fills_taken w new));
    past = subst (λ (n : ℕ). Fills (high_of T (suc d) w.to) n (spans_from (high_of T (suc d) w.to) (drop ((step_at right d).slot + 1) right_items))) (sym right_ends) (subst (Fills (high_of T (suc d) w.to) (high_of T d w.to)) (sym spans_dropped) (fills_dropped w new));
    old_front = take_old start h (step_at left d).min (step_at left d).slot left_items (row_is_old start stands had left w.from d h (begin_within w.gathered) levels w.is_left);
    old_back = drop_old start h (low_of T d w.to) (high_of T (suc d) w.to) (high_of T d w.to) ((step_at right d).slot + 1) right_items (fills_dropped w new)
        (subst (λ (n : ℕ). AreOld start h n right_items) right_begins (row_is_old start stands had right w.to d h w.gathered.within levels w.is_right));
  }
