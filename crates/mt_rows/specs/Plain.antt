-- What rows in memory stand for. Source: this project's own.
use Rattle.std.specs.Prelude.{◌≡◌, ◌≢◌, ℕ, ◌+◌, ◌*◌, ◌<◌, ◌≤◌, Bool, true, false, Some, None, List, [], length, map, replicate, nat_le, nat_lt, slice_index_or, if◌then◌else◌}
use Rattle.std.specs.List.{slice_range}
use Rattle.mt_rows.specs.Prelude.{Width, columns, most_rows, first_row, RowKind, slots_of, most_calls}
use Rattle.mt_layout.specs.declared.names.RowKind.TheVariants as kinds
use Rattle.mt_rows.specs.declared.rows.Place.{Place}
use Rattle.mt_rows.specs.declared.rows.Place.TheVariants.{Root, Slot}
use Rattle.mt_rows.specs.declared.rows.Life.{Life}
use Rattle.mt_rows.specs.declared.rows.Life.TheVariants as lives
use Rattle.mt_rows.specs.declared.fates.Fate.{Fate}
use Rattle.mt_rows.specs.declared.fates.Fate.TheVariants.{New, Draft, Live, Buried}
use Rattle.mt_rows.specs.declared.plain.State.{State}
use Rattle.mt_rows.specs.Spans.{Table, base_of}
use Rattle.mt_rows.specs.Levels.{one_if}
use Rattle.mt_rows.specs.Sheet.{Rooted, Sheet, IsPlace}

-- A node that a call buried is dead once that call has published or ended, as the first `past` calls have.
abbrev pub life_in : ℕ → Fate → Life
life_in past New = lives.New
life_in past Draft = lives.Draft
life_in past Live = lives.Live
life_in past (Buried call) = if nat_le call past then lives.Dead call else lives.Live

abbrev pub buried_in : ℕ → Fate → Bool
buried_in past New = false
buried_in past Draft = false
buried_in past Live = false
buried_in past (Buried call) = nat_lt past call

abbrev pub past_of : State → ℕ
past_of p = p.ended + one_if p.published

abbrev pub fate_of : State → ℕ → Fate
fate_of p row = slice_index_or p.fates.items row New

abbrev pub sheet_of : State → Sheet
sheet_of p = record {
  tree = record { rows = p.rows; table = record { width = p.width; words = p.words.items }; root = p.root };
  ended = p.ended;
  in_flight = p.in_flight;
  published = p.published;
  lives = map (life_in (past_of p)) p.fates.items;
  buried = map (buried_in (past_of p)) p.fates.items;
  opened = p.fates.opened;
  cleared = p.cleared;
  shared = false;
  scan = p.scan;
  scans = p.scans;
  reads = Some p.reads;
  kind = None;
  told = None;
}

-- there is a word for each column, and a fate for each node, and those before the first that no node has; no node was buried by
-- a call to come; and before the first call an empty tree has no live node
pub record IsPlainState (p : State) : Type 0 where
  pub few : p.rows ≤ most_rows
  pub words : length p.words.items ≡ columns p.width * (first_row + p.rows)
  pub fates : length p.fates.items ≡ first_row + p.rows
  pub cleared : p.cleared ≤ p.ended
  pub room : p.in_flight ≡ true → p.ended < most_calls
  pub calm : p.in_flight ≡ false → p.published ≡ false
  pub buried : (row call : ℕ) → fate_of p row ≡ Buried call → (first_row ≤ row) × (1 ≤ call) × (call ≤ p.ended + one_if p.in_flight)
  pub fresh : (row : ℕ) → p.ended ≡ 0 → p.in_flight ≡ false → p.root ≡ 0 → fate_of p row ≢ Live

-- `n` nodes of a width, none of which was used, and no call
abbrev pub new_sheet : Width → ℕ → Sheet
new_sheet width rows = record {
  tree = record { rows = rows; table = record { width = width; words = replicate (columns width * (first_row + rows)) 0 }; root = 0 };
  ended = 0;
  in_flight = false;
  published = false;
  lives = replicate (first_row + rows) lives.New;
  buried = replicate (first_row + rows) false;
  opened = 0;
  cleared = 0;
  shared = false;
  scan = record { least = 0; by = None };
  scans = 0;
  reads = Some 0;
  kind = None;
  told = None;
}

-- the words in the slots of an inner row, which name its children
abbrev pub names_of : Table → ℕ → RowKind → List ℕ
names_of t row kinds.Leaf = []
names_of t row kind = slice_range t.words (base_of t row + slots_of t.width kind) (base_of t row + 2 * slots_of t.width kind)

abbrev pub IsPlaceOfTree : Rooted → Place → Type 0
IsPlaceOfTree t Root = Unit {0}
IsPlaceOfTree t (Slot row col) = IsPlace t row col
