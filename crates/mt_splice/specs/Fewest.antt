-- That the nodes of a level are the fewest that their items can be cut into.
-- Source: this project's own; the kernel's mab_calc_split cuts a big node's items into two nodes, or three.
use Rattle.std.specs.Prelude.{◌≡◌, ◌≢◌, ℕ, zero, suc, Bool, true, false, List, [], ◌++◌, length}
use Rattle.std.specs.List.{AllByRecursion}
use Rattle.mt_splice.specs.Prelude.{Width, Item, RowKind, Leaf, Span, row_in, slots_of, least_items, spans_from, Table, expand, kind_on, IsCut}

-- the items are cut into the fewest nodes of a kind at these places
pub record IsCutOf (width : Width) (kind : RowKind) (items : List Item) (ends : List ℕ) : Type 0 where
  pub leaf : Bool
  pub is_leaf : leaf ≡ true → kind ≡ Leaf
  pub of_leaf : kind ≡ Leaf → leaf ≡ true
  pub cut : IsCut leaf (least_items width kind) (slots_of width kind) items ends

-- Of the nodes of a kind, the new ones are side by side, and are the fewest that their items can be cut into.
pub record AreFewestOf (is_new : ℕ → Bool) (t : Table) (kind : RowKind) (rows : List Span) : Type 0 where
  pub front : List Span
  pub new : List Span
  pub back : List Span
  pub parts : rows ≡ front ++ (new ++ back)
  pub new_rows : AllByRecursion (λ (x : Span). is_new (row_in x.word) ≡ true) new
  pub ahead : AllByRecursion (λ (x : Span). is_new (row_in x.word) ≡ false) front
  pub behind : AllByRecursion (λ (x : Span). is_new (row_in x.word) ≡ false) back
  pub first : ℕ
  pub items : List Item
  pub hold : expand t new ≡ spans_from first items
  pub fewest : new ≢ [] → (ends : List ℕ) × IsCutOf t.width kind items ends × (length new ≡ length ends)

-- so it is of nodes of a height, in a tree with gaps or without, and on each level below them
abbrev pub FewestBelow : (ℕ → Bool) → Bool → Table → ℕ → List Span → Type 0
FewestBelow is_new gapped t zero xs = AreFewestOf is_new t (kind_on gapped zero) xs
FewestBelow is_new gapped t (suc h) xs = AreFewestOf is_new t (kind_on gapped (suc h)) xs × FewestBelow is_new gapped t h (expand t xs)
