-- What is told of a tree that was looked at under its lock: how it uses its rows, the least epoch at which a section stood open,
-- and the form and the image of its words.
use Rattle.mt_tree.proofs.Prelude.{◌≡◌, ℕ, ◌≤◌, List, Option, None, Some, Result, IfOk, IfOk-weaker, length, min, sym, ap, refl, ◌∙◌, subst, length-map, Kind, Record, IsIdle, HasHeight, IsScanned, Book, live_count, Sheet, Identity, Shape, Form, form_of, tree_as, IsImageOf, few_reached, live_rows, record_of, records_of, Tools, Stats, Look, Tree, Behind, behind_lock, IsAtRest, IsPenAtRest, AreWordsOf, LiesBehind, IsFormBehind, IsImagedBehind, IsLeastBy, IsLookAt, IsOldest, IsStatsOf, TellsRows, map_seen, opened, place_of, looked_words, Global, Vec}
use Rattle.mt_base.specs.declared.memory.NoMemory.{NoMemory}
use Rattle.mt_base.specs.Passes as known
use Rattle.mt_tree.proofs.AtWork.{same_shape}
use Rattle.mt_tree.proofs.Copying.{live_reached}

-- ---- rows that were taken out of an engine, scanned, and put into another

module _ (kind kind' : Kind) (e s s' : Sheet) (book book' : Book) (taken : s ≡ e) (same : kind ≡ kind') (idle : IsIdle kind s book) (scan : IsScanned kind s s' book book') where
  pub idle_scanned : IsIdle kind' s' book'
  idle_scanned = subst (λ (k : Kind). IsIdle k s' book') same (record { idle = ap (λ (x : Sheet). x.in_flight) scan.rest ∙ idle.idle; state = scan.state })

  pub high_scanned : (height : ℕ) → HasHeight e.tree height → HasHeight s'.tree height
  high_scanned height high = subst (λ (x : Sheet). HasHeight x.tree height) (sym scan.rest) (subst (λ (x : Sheet). HasHeight x.tree height) (sym taken) high)

pub scanned_as : (kind : Kind) (e s s' e' : Sheet) (b book book' b' : Book) → s ≡ e → e' ≡ s' → book ≡ b → b' ≡ book' → IsScanned kind s s' book book' → IsScanned kind e e' b b'
scanned_as kind e s s' e' b book book' b' one two three four scan = subst (λ (x : (Sheet × Sheet) × (Book × Book)). IsScanned kind x.0.0 x.0.1 x.1.0 x.1.1) (λ k. ((one k, sym two k), (three k, sym four k))) scan

-- ---- the least epoch

pub is_oldest : (t : Tree) (p : known.Pass) (b b' : Behind) (look : Look) (least ended calls : ℕ) → look.took.value ≡ b → look.left.value ≡ b' → IsLeastBy t p.seen b b' least → ended ≡ length b'.pen.history → calls ≡ min least ended → IsOldest t p (calls, look)
is_oldest t p b b' look least ended calls took left is count told =
    let all : ended ≡ length p.seen = count ∙ (sym (length-map b'.pen.history record_of) ∙ ap (λ (rs : List Record). length rs) is.after.records) in
    record {
      least = least;
      by = subst (λ (x : Behind × Behind). IsLeastBy t p.seen x.0 x.1 least) (λ k. (sym took k, sym left k)) is;
      told = told ∙ ap (min least) all;
    }

-- ---- how rows are used

pub tells_rows : (tools : Tools) (s : Stats) (rows : ℕ) → IsAtRest (Some tools) → s.rows ≡ rows → rows ≡ (behind_lock (Some tools)).table.shape.rows → s.free ≡ length tools.book.free → s.live ≡ live_count tools.book → s.held ≡ length tools.book.held → s.height ≡ tools.height
    → s.calls ≡ length (behind_lock (Some tools)).pen.history → TellsRows (behind_lock (Some tools)) s
tells_rows tools s rows rest many all free live held height calls =
    let kept = rest.1 in
    record {
      rows = many ∙ (all ∙ sym kept.of.rows);
      free = free;
      live = live ∙ live_reached _ (behind_lock (Some tools)).parts.sheet _ kept.idle;
      held = held;
      height = height ∙ kept.levels;
      calls = calls;
    }

-- ---- what the lock protected when it was taken

-- as many nodes were in use as the tree has, at the most
pub looked_few : (t : Tree) (q : known.Pass) (look : Look) → IsLookAt t q look → live_rows (looked_words look) ≤ (opened t).rows
looked_few t q look at =
    let few = few_reached look.took.value.parts.kind (looked_words look) at.kept.idle.state.kept.lawful in
    let many : (looked_words look).rows ≡ (opened t).rows = at.kept.of.rows ∙ ap (λ (s : Shape). s.rows) at.shape in
    subst (λ (n : ℕ). live_rows (looked_words look) ≤ n) many few

pub lies_there : (t : Tree) (tools : Option Tools) (b : Behind) → behind_lock tools ≡ b → IsAtRest tools → b.table ≡ place_of t → LiesBehind t (records_of b.pen.history) b
lies_there t None b is rest table = absurd rest
lies_there t (Some tools) b is rest table = record {
  table = table;
  shape = sym (ap (λ (x : Behind). x.pen.shape) is) ∙ (same_shape (Some tools) ∙ (ap (λ (x : Behind). x.table.shape) is ∙ ap (λ (x : Identity). x.shape) table));
  records = refl;
  height = tools.height;
  kept = subst (λ (x : Behind). IsPenAtRest x.pen x.parts tools.height) is rest.1;
}

module _ (t : Tree) (q : known.Pass) (b : Behind) (look : Look) (took : look.took.value ≡ b) (seen : q.seen ≡ records_of b.pen.history) (lies : LiesBehind t (records_of b.pen.history) b) where
  pub look_at : IsLookAt t q look
  look_at = subst (λ (x : List Record × Behind). LiesBehind t x.0 x.1) (λ k. (sym seen k, sym took k)) lies

  pub is_stats : (s : Stats) → TellsRows b s → IsStatsOf t q (s, look)
  is_stats s tells = (look_at, subst (λ (x : Behind). TellsRows x s) (sym took) tells)

  words_there : looked_words look ≡ b.parts.sheet.tree
  words_there = ap (λ (x : Behind). x.parts.sheet.tree) took

  pub form_there : (form : Form) → AreWordsOf (opened t).kind (opened t).rows (map_seen t q) b.parts.sheet.tree → form ≡ form_of (tree_as (opened t).kind b.parts.sheet.tree) → IsFormBehind t q (form, look)
  form_there form words is = record {
    behind = look_at;
    form = record {
      words = b.parts.sheet.tree;
      of = words;
      form_is = is;
      ranges = ap (λ (f : Form). f.ranges) is ∙ ap length words.map;
    };
    of = sym words_there;
  }

  pub image_there : (image : Result (Vec ℕ Global) NoMemory) → AreWordsOf (opened t).kind (opened t).rows (map_seen t q) b.parts.sheet.tree → IfOk image (λ bytes. IsImageOf (opened t).kind b.parts.sheet.tree bytes.items) → IsImagedBehind t q (image, look)
  image_there image words is = (look_at, IfOk-weaker image _ _ (λ bytes one. record { image = record { words = b.parts.sheet.tree; of = words; image = one }; of = sym words_there }) is)
