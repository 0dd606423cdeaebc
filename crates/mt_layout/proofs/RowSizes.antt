-- What proofs use of the sizes of rows, so that none of them names a number.
use Rattle.mt_layout.proofs.Prelude.{◌≡◌, ◌≢◌, ℕ, ◌+◌, ◌*◌, ◌<◌, ◌≤◌, Some, inl, inr, refl, ap, arith, ◌⊎◌, Width, Long, Short, columns, RowKind, IsLayout, slot_column, gap_column, slots_of, gaps_of, least_items, run_room}
use Rattle.mt_layout.specs.declared.names.RowKind.TheVariants as kinds

-- What proofs use of these numbers: two full rows and eight items more can be gathered, two short rows and two items fit into
-- one row, and the columns of a row are its parent word, its pivots, its slots and its gaps.
pub record AreSizes (width : Width) (kind : RowKind) : Type 0 where
  pub least : 2 * least_items width kind + 2 ≤ slots_of width kind
  pub some : 2 ≤ least_items width kind
  pub room : 2 * slots_of width kind + 8 ≤ run_room
  pub columns_fit : 2 * slots_of width kind + gaps_of width kind ≤ columns width
  pub gaps : (gaps_of width kind ≡ 0) ⊎ (gaps_of width kind ≡ slots_of width kind)

pub sizes : (width : Width) (kind : RowKind) → AreSizes width kind
sizes Long kinds.Leaf = record { least = omega arith; some = omega arith; room = omega arith; columns_fit = omega arith; gaps = inl refl }
sizes Long kinds.Inner = record { least = omega arith; some = omega arith; room = omega arith; columns_fit = omega arith; gaps = inl refl }
sizes Long kinds.Gapped = record { least = omega arith; some = omega arith; room = omega arith; columns_fit = omega arith; gaps = inr refl }
sizes Short kinds.Leaf = record { least = omega arith; some = omega arith; room = omega arith; columns_fit = omega arith; gaps = inl refl }
sizes Short kinds.Inner = record { least = omega arith; some = omega arith; room = omega arith; columns_fit = omega arith; gaps = inl refl }
sizes Short kinds.Gapped = record { least = omega arith; some = omega arith; room = omega arith; columns_fit = omega arith; gaps = inr refl }

pub all_gaps_of : (width : Width) → gaps_of width kinds.Gapped ≡ slots_of width kinds.Gapped
all_gaps_of Long = refl
all_gaps_of Short = refl

pub no_gaps_of : (width : Width) (kind : RowKind) → kind ≢ kinds.Gapped → gaps_of width kind ≡ 0
no_gaps_of Long kinds.Leaf other = refl
no_gaps_of Long kinds.Inner other = refl
no_gaps_of Long kinds.Gapped other = absurd (other refl)
no_gaps_of Short kinds.Leaf other = refl
no_gaps_of Short kinds.Inner other = refl
no_gaps_of Short kinds.Gapped other = absurd (other refl)

pub few_slots_of : (width : Width) (kind : RowKind) → slots_of width kind ≤ 32
few_slots_of width kind = let room = (sizes width kind).room in omega arith

pub least_four : (width : Width) (kind : RowKind) → 4 ≤ least_items width kind
least_four Long kinds.Leaf = omega arith
least_four Long kinds.Inner = omega arith
least_four Long kinds.Gapped = omega arith
least_four Short kinds.Leaf = omega arith
least_four Short kinds.Inner = omega arith
least_four Short kinds.Gapped = omega arith

pub least_six : (width : Width) → 6 ≤ least_items width kinds.Leaf
least_six Long = omega arith
least_six Short = omega arith

-- ---- of a width and a kind

pub some_slots_of : (width : Width) (kind : RowKind) → 0 < slots_of width kind
some_slots_of width kind = omega (arith, sizes width kind)

pub least-below-slots : (width : Width) (kind : RowKind) → 2 * least_items width kind + 2 ≤ slots_of width kind
least-below-slots width kind = (sizes width kind).least

pub some_least : (width : Width) (kind : RowKind) → 2 ≤ least_items width kind
some_least width kind = (sizes width kind).some

pub slots_of-room : (width : Width) (kind : RowKind) → 2 * slots_of width kind + 8 ≤ run_room
slots_of-room width kind = (sizes width kind).room

pub slots_of-columns : (width : Width) (kind : RowKind) → 2 * slots_of width kind + gaps_of width kind ≤ columns width
slots_of-columns width kind = (sizes width kind).columns_fit

pub none_or_all : (width : Width) (kind : RowKind) → (gaps_of width kind ≡ 0) ⊎ (gaps_of width kind ≡ slots_of width kind)
none_or_all width kind = (sizes width kind).gaps

pub some_gaps_of : (width : Width) → gaps_of width kinds.Gapped ≢ 0
some_gaps_of width = λ none. absurd (omega (arith, all_gaps_of width, some_slots_of width kinds.Gapped))

pub some_columns : (width : Width) → 0 < columns width
some_columns width = omega (arith, sizes width kinds.Leaf, some_slots_of width kinds.Leaf)

-- a column of a slot is one of the row, and not that of the parent word
pub slot_above : (width : Width) (kind : RowKind) (i : ℕ) → 0 < slot_column (slots_of width kind) i
slot_above width kind i = omega (arith, some_slots_of width kind)

pub slot_within : (width : Width) (kind : RowKind) (i : ℕ) → i < slots_of width kind → slot_column (slots_of width kind) i < columns width
slot_within width kind i used = omega (arith, sizes width kind)

-- and so is a column of a gap, which stands above the pivots and the slots
pub gap_within : (width : Width) (i : ℕ) → i < slots_of width kinds.Gapped → gap_column (slots_of width kinds.Gapped) i < columns width
gap_within width i used = omega (arith, sizes width kinds.Gapped, all_gaps_of width)

pub gap_above : (width : Width) (kind : RowKind) (c i : ℕ) → Some kind ≡ Some kinds.Gapped → c < 2 * slots_of width kind → c ≢ gap_column (slots_of width kinds.Gapped) i
gap_above width kind c i named low = let is : kind ≡ kinds.Gapped = cc in let same = ap (slots_of width) is in λ at. omega arith

-- ---- of a layout

pub layout_of : (width : Width) (kind : RowKind) → IsLayout (columns width) (slots_of width kind) (gaps_of width kind)
layout_of width kind = record { width = width; kind = kind; all = refl; slots_are = refl; gaps_are = refl }

pub some_slots : (words slots gaps : ℕ) → IsLayout words slots gaps → 0 < slots
some_slots words slots gaps layout = omega (arith, sizes layout.width layout.kind, layout)

pub slots-fit : (words slots gaps : ℕ) → IsLayout words slots gaps → 2 * slots + gaps ≤ words
slots-fit words slots gaps layout = omega (arith, sizes layout.width layout.kind, layout)

pub slots-room : (words slots gaps : ℕ) → IsLayout words slots gaps → 2 * slots + 8 ≤ run_room
slots-room words slots gaps layout = omega (arith, sizes layout.width layout.kind, layout)

pub few_gaps : (words slots gaps : ℕ) → IsLayout words slots gaps → gaps ≤ slots
few_gaps words slots gaps layout = omega (arith, sizes layout.width layout.kind, layout)

pub all_gaps : (words slots gaps : ℕ) → IsLayout words slots gaps → 0 < gaps → gaps ≡ slots
all_gaps words slots gaps layout some = omega (arith, sizes layout.width layout.kind, layout)
