-- A replacement begins: nothing was done yet, and the leaves' items are to stand in the tree, or in the first leaf of all.
use Rattle.mt_splice.proofs.Prelude.{◌≡◌, ◌≢◌, ℕ, ◌+◌, ◌-◌, ◌≤◌, ◌==◌, List, ◌∷◌, None, true, false, length, refl, sym, ap, ◌∙◌, subst, inl, inr, arith, append-nil, flat_map, eqb-true, Kind, Range, Call, Reply, acted, over, deepest, Item, Span, named_kind, leaf_range, spans_from, edited, Book, Table, root_span, Tree, Stands, IsLawful, top_of, Sheet, IsWhole, tree_as, IsToldKind, map_by, PathStep, path_in, path_of_none, Start, IsConsistent, IsUnpublished, MaySplice, region_of, before_of, start_for, IsBegunBy, IsFirstStore, last_step, MayBeCut, Before, IsInFlight, IsLedger, []}
use Rattle.mt_path.proofs.TreePaths as paths
use Rattle.mt_splice.proofs.EndTrees.{map_is}
use Rattle.mt_splice.proofs.Runs.{empty_run}
use Rattle.mt_splice.proofs.StepSeen.{not_both}

-- ---- what is asked for, of lists that are the same

pub asked_so : {kind : Kind} {s : Sheet} {book : Book} {left left' right right' : List PathStep} {items items' : List Item} {number : ℕ} {call : Call} {reply : Reply} → left' ≡ left → right' ≡ right → items' ≡ items
    → MaySplice kind s book left right items number call reply → MaySplice kind s book left' right' items' number call reply
asked_so {kind = kind} {s = s} {book = book} {number = number} {call = call} {reply = reply} is_left is_right is may =
    subst (λ (l : List PathStep × List PathStep × List Item). MaySplice kind s book l.0 l.1 l.2 number call reply) (λ i. (sym is_left i, sym is_right i, sym is i)) may

-- ---- the height of a tree is that of its paths

pub no_path : (t : Table) (root i : ℕ) → root ≡ 0 → path_in t root i ≡ []
no_path t root i empty = path_of_none t deepest (root_span t root) i (ap named_kind empty)

pub stands_at_start : (t : Tree) → IsLawful t → t.root ≢ 0 → Stands t (length (path_in t.table t.root 0) - 1)
stands_at_start t (inl empty) some = absurd (some empty)
stands_at_start t (inr (h, stands, parent, tended)) some =
    let long = paths.levels t h stands 0 (omega arith) in
    let same : h ≡ length (path_in t.table t.root 0) - 1 = omega arith in
    subst (Stands t) same stands

empty_of : (t : Tree) → IsLawful t → ((h : ℕ) → Stands t h → ⊥) → t.root ≡ 0
empty_of t (inl empty) not = empty
empty_of t (inr (h, stands, parent, tended)) not = absurd (not h stands)

-- ---- nothing was done yet

module _ {kind : Kind} {s : Sheet} {book : Book} {number : ℕ} (whole : IsWhole s) (kept : IsConsistent kind s.tree s.lives s.buried s.cleared book number) where
  pub nothing_done : IsLedger (before_of kind s book number) s book [] []
  nothing_done = record {
    rest = refl;
    tree = refl;
    whole = whole;
    free = sym (append-nil book.free);
    held = sym (append-nil book.held);
    rows = refl;
    lives = λ row low high. refl;
    buried = kept.none_buried;
    kept = λ row c untaken above within. refl;
    parents = λ row untaken kept. refl;
    new_parents = λ row taken. absurd (not_both false taken refl);
    marks = λ row reached gone. absurd (not_both false gone refl);
  }

  pub case_of : (start : Start) → start.tree ≡ tree_as kind s.tree → IsToldKind s.kind kind → IsUnpublished s.in_flight s.published s.ended number → IsInFlight (before_of kind s book number) start
  case_of start is told unpublished = record { told = told; unpublished = unpublished; was = record { whole = whole; tree = is; kept = kept } }

-- ---- a tree stands

module _ {kind : Kind} {s : Sheet} {book : Book} {left right : List PathStep} {items : List Item} {number : ℕ} {call : Call} {reply : Reply} (may : MaySplice kind s book left right items number call reply) (whole : IsWhole s) where
  abbrev t : Tree
  t = tree_as kind s.tree

  -- the indexes from the left leaf's first to the right leaf's last may change
  abbrev start : Start
  start = start_for kind s call (last_step left).min (last_step right).max

  abbrev b : Before
  b = before_of kind s book number

  first_within : may.first ≤ top_of t
  first_within = let order = may.store.order in let within = may.store.within in omega arith

  pub the_answer : acted kind (map_by s.tree) call ≡ (start.map, reply)
  the_answer = ap (λ (r : Reply). (start.map, r)) (ap (λ (a : List Range × Reply). a.1) may.store.acts)

-- ---- what the entry does

no_steps : (path : List PathStep) → (length path == 0) ≡ true → path ≡ []
no_steps [] none = refl
no_steps (x ∷ path) none = let zero' = eqb-true (length (x ∷ path)) 0 none in absurd (omega arith)

module _ {b : Before} {start : Start} {kind : Kind} {s : Sheet} {book : Book} {left right : List PathStep} {items : List Item} {number : ℕ} {call : Call} {reply : Reply} (begun : IsBegunBy b start kind s book number call (last_step left).min (last_step right).max)
    (may : MaySplice kind s book left right items number call reply) where
  pub first_may_begin : {items' : List Item} → (length left == 0) ≡ true → items' ≡ items → IsFirstStore b start s book items' call reply
  first_may_begin {items' = items'} none is =
      subst (λ (x : Before). IsFirstStore x start s book items' call reply) (sym begun.before)
      (record { right = right; begun = record { before = refl; start = begun.start ∙ (λ i. start_for kind s call (sym begun.start i).first (sym begun.start i).last) }; may = asked_so (sym (no_steps left none)) refl is may })

-- ---- the empty tree

module _ {kind : Kind} {s : Sheet} {book : Book} {right : List PathStep} {items : List Item} {number : ℕ} {call : Call} {reply : Reply} (may : MaySplice kind s book [] right items number call reply) (whole : IsWhole s) where
  abbrev pub tree₀ : Tree
  tree₀ = tree_as kind s.tree

  abbrev pub b₀ : Before
  b₀ = before_of kind s book number

  abbrev pub hi : ℕ
  hi = top_of tree₀ + 1

  pub no_tree : s.tree.root ≡ 0
  no_tree = empty_of tree₀ may.kept.lawful.words (λ h stands. let none = ap length may.left_path ∙ paths.levels tree₀ h stands may.first (first_within may whole) in omega arith)

  abbrev store : List Span
  store = edited (region_of s.tree.table [] right) may.first may.last may.entry

  pub empty_cut : MayBeCut tree₀ 0 0 hi store × (flat_map leaf_range store ≡ over [] may.first may.last may.entry) × (length store ≤ 3)
  empty_cut = empty_run tree₀ right may.first may.last may.entry may.store.order may.store.within may.store.lawful (may.some no_tree)

  pub cut : MayBeCut tree₀ 0 0 hi (spans_from 0 items)
  cut = subst (MayBeCut tree₀ 0 0 hi) (sym may.edits) empty_cut.0

  pub stand : flat_map leaf_range (spans_from 0 items) ≡ (acted kind (map_by s.tree) call).0
  stand =
      ap (flat_map leaf_range) may.edits
      ∙ (empty_cut.1 ∙ (ap (λ (m : List Range). over m may.first may.last may.entry) (sym (map_is tree₀ None no_tree)) ∙ sym (ap (λ (a : List Range × Reply). a.0) may.store.acts)))

  module _ (from to : ℕ) where
    abbrev pub start₀ : Start
    start₀ = start_for kind s call from to

    pub case₀ : IsInFlight b₀ start₀
    case₀ = case_of whole may.kept start₀ refl may.told may.unpublished
