-- Where the items of a level are cut into nodes. Source: this project's own least numbers of items; the kernel's
-- mab_calc_split, which keeps a leaf from ending with a slot of no entry.
use Rattle.std.specs.Prelude.{◌≡◌, ◌≢◌, ℕ, ◌+◌, ◌-◌, ◌*◌, ◌/◌, ◌<◌, ◌≤◌, min, max, List, [], ◌∷◌, Bool, true, length, map, slice_index}
use Rattle.mt_layout.specs.declared.items.Item.{Item}
use Rattle.mt_leaf.specs.declared.cuts.Towards.{Towards}
use Rattle.mt_leaf.specs.declared.cuts.Towards.TheVariants as towards

abbrev pub word_of : List Item → ℕ → ℕ
word_of items i = slice_index (map (λ x. x.word) items) i

-- A node of the items `from` to, but without, `to`: at least `least` and at most `most`. A leaf that has items after it ends
-- with an entry.
pub record IsPiece (leaf : Bool) (least most : ℕ) (items : List Item) (from to : ℕ) : Type 0 where
  pub some : from < to
  pub many : from + least ≤ to
  pub few : to ≤ from + most
  pub full : leaf ≡ true → to < length items → word_of items (to - 1) ≢ 0

-- The end of a node that should end at `end`. In a leaf it is another one only where the node would end with a hole, and never
-- one where it does.
pub record IsMovedEnd (leaf : Bool) (items : List Item) (end to : ℕ) : Type 0 where
  pub full : leaf ≡ true → word_of items (to - 1) ≢ 0
  pub kept : word_of items (end - 1) ≢ 0 → to ≡ end
  pub inner : leaf ≢ true → to ≡ end

-- it may be one item earlier
pub record IsEnd (leaf : Bool) (items : List Item) (end to : ℕ) : Type 0 where
  pub most : to ≤ end
  pub least : end ≤ to + 1
  pub moved : IsMovedEnd leaf items end to

-- it may be one item later
pub record IsLaterEnd (leaf : Bool) (items : List Item) (end to : ℕ) : Type 0 where
  pub least : end ≤ to
  pub most : to ≤ end + 1
  pub moved : IsMovedEnd leaf items end to

-- nodes that end at these places, end to end: the first begins at `from`, and the last ends with the items
abbrev pub ArePieces : Bool → ℕ → ℕ → List Item → ℕ → List ℕ → Type 0
ArePieces leaf least most items from [] = from ≡ length items
ArePieces leaf least most items from (to ∷ ends) = IsPiece leaf least most items from to × ArePieces leaf least most items to ends

pub record AreFewest (leaf : Bool) (least most : ℕ) (items : List Item) (ends : List ℕ) : Type 0 where
  pub pieces : ArePieces leaf least most items 0 ends
  pub fewest : (others : List ℕ) → ArePieces leaf least most items 0 others → length ends ≤ length others

-- One node where `most` items or fewer are there, also below `least`; else the fewest nodes.
pub record IsCut (leaf : Bool) (least most : ℕ) (items : List Item) (ends : List ℕ) : Type 0 where
  pub one : length items ≤ most → ends ≡ length items ∷ []
  pub more : most < length items → AreFewest leaf least most items ends

-- ---- where two nodes meet

-- the first place at which `count` items may be cut in two, the half, and the last place
abbrev pub first_place : ℕ → ℕ → ℕ → ℕ
first_place least most count = max least (count - most)

abbrev pub half_place : ℕ → ℕ
half_place count = (count + 1) / 2

abbrev pub last_place : ℕ → ℕ → ℕ → ℕ
last_place least most count = min most (count - least)

-- Two nodes meet here: at the place that is asked for. In a leaf it may be one item beside it, if the first node would end with
-- a hole: later for the first place, earlier for the half and the last.
abbrev pub MeetAt : Towards → Bool → ℕ → ℕ → List Item → ℕ → Type 0
MeetAt towards.First leaf least most items to = IsLaterEnd leaf items (first_place least most (length items)) to
MeetAt towards.Middle leaf least most items to = IsEnd leaf items (half_place (length items)) to
MeetAt towards.Last leaf least most items to = IsEnd leaf items (last_place least most (length items)) to

-- Two nodes meet where they are asked to, and three nodes are of about one size.
pub record IsCutTowards (side : Towards) (leaf : Bool) (least most : ℕ) (items : List Item) (ends : List ℕ) : Type 0 where
  pub two : (to : ℕ) → ends ≡ to ∷ length items ∷ [] → MeetAt side leaf least most items to
  pub three : (one next : ℕ) → ends ≡ one ∷ next ∷ length items ∷ [] → IsEnd leaf items ((length items + 2) / 3) one × IsEnd leaf items ((2 * length items + 2) / 3) next
