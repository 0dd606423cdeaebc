-- How a walk comes from a row to the one below.
use Rattle.mt_read.proofs.Prelude.{◌≡◌, ◌≢◌, ℕ, zero, suc, ◌+◌, ◌*◌, ◌<◌, ◌≤◌, List, [], ◌∷◌, length, Option, Some, None, refl, sym, ap, ◌∙◌, subst, arith, IfSome, slice_get, some, get_elem?, mul-add, slice_get_within, Kind, Width, finds_room, greatest, greatest_of, kind_width, get_parts, begins_on, Leaf, Span, slot_column, named_kind, row_in, slots_of, Fills, few_slots_of, fills_le, fills_split, kind_at, inner_kind, leaf_low, Held, PassPart, Shape, column_at, IsRowAt, Comes, LoadedChild, LoadedEntry, LoadedRootRow, LoadedSlot, held_behind, floor_or, IsAt, Reads, here, kind_of, slots_in, spans_here, with_seen, Row, SlotPlace, GoesOn, GoesOnTo, IsOnRow, IsPlaceIn, IsUnder, SeesMore, WasMarked, steps_down, span_in_slot, copy_of}
use Rattle.mt_read.proofs.Finding.{count_is, slots_counted}

-- ---- leaves and inner rows

pub leaf_level : (q : PassPart) (row : Row) → IsOnRow q row → row.kind ≡ Leaf → (here q).extent.level ≡ 0
leaf_level q row on leaf = leaf_low (finds_room q.shape.kind) (here q).extent.level (sym on.kind ∙ leaf)

pub inner_level : (q : PassPart) (row : Row) → IsOnRow q row → row.kind ≢ Leaf → (here q).extent.level ≢ 0
inner_level q row on inner none = inner (on.kind ∙ ap (kind_at q.shape.kind) none)

-- ---- the slot's column

pub column_of_slot : (q : PassPart) (row : Row) (place : SlotPlace) (n : ℕ) → IsOnRow q row → n ≡ slots_of row.width row.kind → n + place.slot ≡ slot_column (slots_in q (here q)) place.slot
column_of_slot q row place n on count = ap (λ (m : ℕ). m + place.slot) (slots_counted q row on n count)

-- a place's slot, as a load of it has it
pub slot_is : (q : PassPart) (row : Row) (place : SlotPlace) (n : ℕ) → IsOnRow q row → IsPlaceIn q place → n ≡ slots_of row.width row.kind
    → (i : ℕ) × (n + place.slot ≡ slot_column (slots_in q (here q)) i) × (i < length (spans_here q (here q)))
slot_is q row place n on is count = (
  place.slot,
  column_of_slot q row place n on count,
  slice_get_within (spans_here q (here q)) place.slot _ is.stands,
)

-- and it is a column's number
pub slot_fits : (q : PassPart) (row : Row) (place : SlotPlace) (n : ℕ) → IsOnRow q row → IsPlaceIn q place → n ≡ slots_of row.width row.kind → n + place.slot < 64
slot_fits q row place n on is count =
    let used = (span_in_slot q.shape.kind (copy_of (here q)) (here q).row place.slot (here q).extent _ is.stands).0 in
    let counted = count_is q row on n count in
    let few = few_slots_of (here q).width (kind_of q (here q)) in
    omega arith

-- ---- a place lies within its row

pub span_within : (lo hi i : ℕ) (xs : List Span) (x : Span) → Fills lo hi xs → slice_get xs i ≡ Some x → (lo ≤ x.first) × (x.first ≤ x.last) × (x.last < hi)
span_within lo hi i xs x fills at =
    let parts = get_parts xs i x at in
    let split = fills_split lo hi parts.0 x parts.1 (subst (Fills lo hi) parts.2 fills) in
    let low = fills_le lo x.first parts.0 split.0 in let high = fills_le (x.last + 1) hi parts.1 split.2 in
    (low, split.1, omega arith)

pub place_within : (q : PassPart) (row : Row) (place : SlotPlace) → IsOnRow q row → IsPlaceIn q place → ((here q).extent.first ≤ place.first) × (place.first ≤ place.last) × (place.last ≤ (here q).extent.last)
place_within q row place on is =
    let facts = span_within (here q).extent.first ((here q).extent.last + 1) place.slot (spans_here q (here q)) _ on.shape.fills is.stands in
    let last = facts.2 in
    (facts.0, facts.1, omega arith)

-- ---- the child

-- the row that a name was read as
pub record IsNamed (name : ℕ) (width : Width) (min max : ℕ) (row : Row) : Type 0 where
  pub number : row.at.number ≡ row_in name
  pub base_is : IsRowAt width row.at
  pub kind : Some row.kind ≡ named_kind name
  pub width_is : row.width ≡ width
  pub min_is : row.min ≡ min
  pub max_is : row.max ≡ max

pub on_come : (q : PassPart) (row : Row) (name since : ℕ) (width : Width) (min max : ℕ) → IsAt q → Comes q (here q) name since → IsNamed name width min max row → width ≡ kind_width q.shape.kind → (here q).extent.first ≡ min → (here q).extent.last ≡ max → max ≤ greatest_of q.shape.kind → IsOnRow q row
on_come q row name since width min max at comes named wide first last within =
    let met = comes.met in
    record {
      at = at;
      number = named.number ∙ sym comes.row;
      base = subst (λ (w : Width). IsRowAt w row.at) wide named.base_is;
      kind = (let same : Some row.kind ≡ Some (kind_of q (here q)) = named.kind ∙ comes.named in cc);
      wide = named.width_is ∙ wide;
      min = named.min_is ∙ sym first;
      max = named.max_is ∙ sym last;
      within = omega arith;
      has = comes.has;
      old = comes.old;
      met = met;
      width = comes.width;
      shape = comes.shape;
    }

module _ (q q' : PassPart) (row : Row) (place : SlotPlace) (col name : ℕ) (on : IsOnRow q row) (is : IsPlaceIn q place) (column : col ≡ slot_column (slots_in q (here q)) place.slot)
    (inner : row.kind ≢ Leaf) (told : LoadedSlot (column_at (kind_width q.shape.kind) row.at.number col) name q q') where
  pub comes_to : LoadedChild (column_at (kind_width q.shape.kind) row.at.number col) name q q'
  comes_to = told.child (inner_level q row on inner)

  -- it covers just the place
  pub child_ends : ((here q').extent.first ≡ place.first) × ((here q').extent.last ≡ place.last)
  child_ends =
      let word : column_at (kind_width q.shape.kind) row.at.number col ≡ column_at (kind_width q.shape.kind) (here q).row (slot_column (slots_in q (here q)) place.slot) = (λ i. column_at (kind_width q.shape.kind) (on.number i) (column i)) in
      comes_to.covers place.slot _ word is.stands

  pub child_on : (child : Row) → IsNamed name row.width place.first place.last child → IsOnRow q' child
  child_on child named =
      let covers = child_ends in
      let ends = (place_within q row place on is).2 in let within = on.within in
      let shape : q'.shape ≡ q.shape = ap (λ (z : PassPart). z.shape) comes_to.reads.is in
      on_come q' child name (here q).since row.width place.first place.last comes_to.at comes_to.comes named (on.wide ∙ ap (λ (s : Shape). kind_width s.kind) (sym shape)) covers.0 covers.1
      (subst (λ (s : Shape). place.last ≤ greatest_of s.kind) (sym shape) (omega arith))

-- ---- going on

pub goes_by : (q q' part : PassPart) → Reads q q' part → part ≡ record q { seen = q'.seen; floor = part.floor; held = part.held; risen = part.risen; marks = part.marks } → q.risen ≤ part.risen
    → ((x : Held) → IsUnder q x → IsUnder part x) → GoesOnTo q q' part.marks
goes_by q q' part r same risen under = record {
  is = r.is ∙ (ap (λ (z : PassPart). record z { steps = q'.steps }) same ∙ (λ i. record q { seen = q'.seen; floor = (sym r.is i).floor; held = (sym r.is i).held; risen = (sym r.is i).risen; marks = part.marks; steps = q'.steps }));
  seen = r.seen;
  risen = subst (λ (z : PassPart). q.risen ≤ z.risen) (sym r.is) risen;
  under = λ x u. subst (λ (z : PassPart). IsUnder z x) (sym r.is) (under x u);
}

pub goes_sees : (q q' : PassPart) → SeesMore q q' → GoesOn q q'
goes_sees q q' s = goes_by q q' (with_seen q q'.seen) s refl (omega arith) (λ x u. u)

-- the dead marks are those that were loaded last
pub goes_to : (q q' q'' : PassPart) (m m' : List ℕ) → GoesOnTo q q' m → GoesOnTo q' q'' m' → GoesOnTo q q'' m'
goes_to q q' q'' m m' s t = record {
  is = t.is ∙ ap (λ (z : PassPart). record z { seen = q''.seen; floor = q''.floor; held = q''.held; risen = q''.risen; marks = m'; steps = q''.steps }) s.is;
  seen = begins_on q.seen q'.seen q''.seen s.seen t.seen;
  risen = (let less = s.risen in let more = t.risen in omega arith);
  under = λ x u. t.under x (s.under x u);
}

pub marks_are : (q q' : PassPart) (m : List ℕ) → GoesOnTo q q' m → q'.marks ≡ m
marks_are q q' m s = ap (λ (z : PassPart). z.marks) s.is

pub goes_on : (q q' q'' : PassPart) → GoesOn q q' → GoesOn q' q'' → GoesOn q q''
goes_on q q' q'' s t = subst (GoesOnTo q q'') (marks_are q q' q.marks s) (goes_to q q' q'' q.marks q'.marks s t)

-- where a dead mark is loaded then
pub marked_then : (x : Held) (q q' q'' : PassPart) → GoesOn q q' → WasMarked x q' q'' → WasMarked x q q''
marked_then x q q' q'' s w = record {
  goes = subst (λ (m : List ℕ). GoesOnTo q q'' (x.row ∷ m)) (marks_are q q' q.marks s) (goes_to q q' q'' q.marks (x.row ∷ q'.marks) s w.goes);
  begun = w.begun;
}

-- by another hold of the row
pub marked_same : (x y : Held) (q q' : PassPart) → x.row ≡ y.row → x.since ≡ y.since → WasMarked x q q' → WasMarked y q q'
marked_same x y q q' row since w = record { goes = subst (λ (n : ℕ). GoesOnTo q q' (n ∷ q.marks)) row w.goes; begun = subst (λ (n : ℕ). n < q'.risen) since w.begun }

-- with an answer
pub goes_some : {A : Type 0} (o : Option A) (q q' q'' : PassPart) → GoesOn q q' → IfSome o (λ x. GoesOn q' q'') → IfSome o (λ x. GoesOn q q'')
goes_some None q q' q'' s t = tt
goes_some (Some x) q q' q'' s t = goes_on q q' q'' s t

pub here_more : (q q' : PassPart) → SeesMore q q' → here q' ≡ here q
here_more q q' s = ap here s.is

pub goes_down : (q q' : PassPart) (word found : ℕ) → LoadedChild word found q q' → GoesOn q q'
goes_down q q' word found told = goes_by q q' (record (with_seen q q'.seen) { held = here q' ∷ q.held }) told.reads refl (omega arith) (λ x u. (suc u.0, u.1))

pub goes_root : (q q' : PassPart) (found : ℕ) → LoadedRootRow found q q' → GoesOn q q'
goes_root q q' found told = goes_by q q' (record (with_seen q q'.seen) { floor = floor_or q.floor (length q'.seen); held = here q' ∷ q.held }) told.reads refl (omega arith) (λ x u. (suc u.0, u.1))

behind_held : (held : List Held) (x : Held) (j : ℕ) → get_elem? held (suc j) ≡ some x → get_elem? (held_behind held) j ≡ some x
behind_held [] x j at = absurd (cc)
behind_held (y ∷ held) x j at = at

pub goes_entry : (q q' : PassPart) (word found : ℕ) → LoadedEntry word found q q' → GoesOn q q'
goes_entry q q' word found told = goes_by q q' (record (with_seen q q'.seen) { held = here q' ∷ held_behind q.held }) told.reads refl (omega arith) (λ x u. (u.0, behind_held q.held x u.0 u.1))

-- the row that the section was at is below the root's then
pub root_under : (q q' : PassPart) (found : ℕ) → LoadedRootRow found q q' → IsAt q → IsUnder q' (here q)
root_under q q' found told at = subst (λ (z : PassPart). IsUnder z (here q)) (sym told.reads.is) (0, at)

-- the root row covers every index
pub root_on : (q q' : PassPart) (name : ℕ) (width : Width) (top : ℕ) (row : Row) → LoadedRootRow name q q' → width ≡ kind_width q'.shape.kind → top ≡ greatest width → IsNamed name width 0 top row → IsOnRow q' row
root_on q q' name width top row told wide all named =
    let end : top ≡ greatest_of q'.shape.kind = all ∙ ap greatest wide in
    on_come q' row name (length q'.seen) width 0 top told.at told.comes named wide told.first (told.last ∙ sym end) (omega arith)

-- ---- steps

-- an inner row has as many slots as each other
pub inner_slots : (q : PassPart) → (here q).extent.level ≢ 0 → slots_in q (here q) ≡ slots_of (kind_width q.shape.kind) (inner_kind q.shape.kind)
inner_slots q inner = by_level (here q).extent.level inner
  where
    by_level : (level : ℕ) → level ≢ 0 → slots_of (kind_width q.shape.kind) (kind_at q.shape.kind level) ≡ slots_of (kind_width q.shape.kind) (inner_kind q.shape.kind)
    by_level zero inner = absurd (inner refl)
    by_level (suc level) inner = refl

one_level : (s t below level before middle after : ℕ) → below + 1 ≡ level → s ≡ t → middle + 1 ≤ before + t → after ≡ middle + 1 → after + s * below ≤ before + t * level
one_level s t below level before middle after next same few last =
    let more = ap (λ (n : ℕ). t * n) next in let turned = ap (λ (n : ℕ). n * below) same in omega (arith, more, turned, mul-add t below 1)

-- the pivots of an inner row and the slot that they lead to: a walk goes a level down
pub level_down : (q q' : PassPart) (before middle after : ℕ) → (here q).extent.level ≢ 0 → (here q').extent.level + 1 ≡ (here q).extent.level → q'.shape.kind ≡ q.shape.kind
    → middle + 1 ≤ before + slots_in q (here q) → after ≡ middle + 1 → after + steps_down q' ≤ before + steps_down q
level_down q q' before middle after inner next kind few last =
    one_level (slots_of (kind_width q'.shape.kind) (inner_kind q'.shape.kind)) (slots_of (kind_width q.shape.kind) (inner_kind q.shape.kind)) (here q').extent.level (here q).extent.level before middle after
    next (ap (λ (k : Kind). slots_of (kind_width k) (inner_kind k)) kind) (subst (λ (n : ℕ). middle + 1 ≤ before + n) (inner_slots q inner) few) last
