-- One level lower, row by row.
use Rattle.mt_gap.proofs.Prelude.{◌≡◌, ℕ, zero, suc, ◌+◌, ◌-◌, ◌*◌, ◌<◌, ◌≤◌, List, [], ◌∷◌, ◌++◌, true, false, Option, Some, None, length, drop, take, refl, sym, ap, ◌∙◌, subst, inl, inr, arith, append_assoc, append-nil, length-append, slice_index_or, flat_map, option_or, is_some, cases_Bool, take-append-drop, flat_map-append, Hole, kept, lowest_in, highest_in, columns, one_row_more, Table, Rooted, Sheet, ReadsUpTo, tree_kept, no_reads, reads_more, reads_up, Child, Window, child_hole, children_in, children_below, LoadedUpTo, picked, narrow, narrow_up, has_sure, Side, HasRoomFor, asked_for, asked_from, ends_where}
use Rattle.mt_gap.proofs.Kept.{kept-append}
use Rattle.mt_gap.proofs.NarrowedUp.{highest_back, highest_more}
use Rattle.mt_gap.proofs.RowLoops.{drop_at, narrow_stops, narrow_goes_on}
use Rattle.mt_gap.proofs.Asking.{up-append}
use Rattle.mt_gap.specs.declared.ways.Side.TheVariants as sides

pub loaded_none : (s : Sheet) (steps : ℕ) → LoadedUpTo 0 s s steps steps
loaded_none s steps = record { count = 0; few = omega arith; steps = omega arith; reads = reads_up 0 (columns s.tree.table.width * 0) s s (omega arith) (no_reads s) }

pub loaded_next : (s t u : Sheet) (old before new i : ℕ) → LoadedUpTo i s t old before → new ≡ before + 1 → ReadsUpTo (columns t.tree.table.width) t u → LoadedUpTo (i + 1) s u old new
loaded_next s t u old before new i done tick reads = record {
  count = done.count + 1;
  few = (let few = done.few in omega arith);
  steps = (let steps = done.steps in omega arith);
  reads = reads_up (columns s.tree.table.width * done.count + columns s.tree.table.width) (columns s.tree.table.width * (done.count + 1)) s u (one_row_more (columns s.tree.table.width) done.count)
      (reads_more (columns s.tree.table.width * done.count) (columns s.tree.table.width) s t u done.reads
      (subst (λ (r : Rooted). ReadsUpTo (columns r.table.width) t u) (tree_kept (columns s.tree.table.width * done.count) s t done.reads) reads));
}

-- so many, or fewer than these
pub loaded_few : (s t : Sheet) (old new i n : ℕ) → LoadedUpTo i s t old new → i ≤ n → LoadedUpTo n s t old new
loaded_few s t old new i n done few = record { count = done.count; few = (let low = done.few in omega arith); steps = done.steps; reads = done.reads }

pub tree_loaded : (s t : Sheet) (old new i : ℕ) → LoadedUpTo i s t old new → t.tree ≡ s.tree
tree_loaded s t old new i done = tree_kept (columns s.tree.table.width * done.count) s t done.reads

-- ---- from the left

narrow_front : (n lo hi : ℕ) (xs ys : List Child) → length (narrow n lo hi xs) ≤ length (narrow n lo hi (xs ++ ys))
narrow_front n lo hi xs ys = elim (cases_Bool (has_sure n lo hi xs)) [
  | inl sure ↦ (let same = ap length (narrow_stops n lo hi xs ys sure) in omega arith)
  | inr none ↦ (let same = ap length (narrow_goes_on n lo hi xs ys none) ∙ length-append (narrow n lo hi xs) (narrow n lo hi ys) in omega arith)
]

-- what is asked below the rows before row i, and what is to be asked below the others
abbrev AskedLower : Table → ℕ → ℕ → ℕ → List Child → ℕ → List Child → Type 0
AskedLower t n lo hi asked i next = next ++ narrow n lo hi (children_below t (drop i asked)) ≡ narrow n lo hi (children_below t asked)

module _ (t : Table) (n lo hi : ℕ) (asked : List Child) (i : ℕ) (d : Child) (next : List Child) (items : AskedLower t n lo hi asked i next) (within : i < length asked) where
  abbrev here : List Child
  here = children_in t (slice_index_or asked i d).span

  abbrev behind : List Child
  behind = children_below t (drop (suc i) asked)

  whole : next ++ narrow n lo hi (here ++ behind) ≡ narrow n lo hi (children_below t asked)
  whole = ap (λ (l : List Child). next ++ narrow n lo hi l) (sym (ap (children_below t) (drop_at asked i d within))) ∙ items

  lower_room : length (narrow n lo hi (children_below t asked)) ≤ 3 → length next + length (narrow n lo hi here) ≤ 3
  lower_room few =
      let front = narrow_front n lo hi here behind in
      let all = sym (length-append next (narrow n lo hi (here ++ behind))) ∙ ap length whole in
      omega arith

  lower_stops : (after : List Child) → after ≡ next ++ narrow n lo hi here → has_sure n lo hi here ≡ true → after ≡ narrow n lo hi (children_below t asked)
  lower_stops after is sure = is ∙ (ap (λ (l : List Child). next ++ l) (sym (narrow_stops n lo hi here behind sure)) ∙ whole)

  lower_on : (after : List Child) → after ≡ next ++ narrow n lo hi here → has_sure n lo hi here ≡ false → AskedLower t n lo hi asked (i + 1) after
  lower_on after is none =
      let at : suc i ≡ i + 1 = omega arith in
      subst (λ (k : ℕ). AskedLower t n lo hi asked k after) at
      (ap (λ (l : List Child). l ++ narrow n lo hi behind) is
      ∙ (append_assoc next (narrow n lo hi here) (narrow n lo hi behind)
      ∙ (ap (λ (l : List Child). next ++ l) (sym (narrow_goes_on n lo hi here behind none)) ∙ whole)))

lower_all : (t : Table) (n lo hi : ℕ) (asked : List Child) (i : ℕ) (next : List Child) → AskedLower t n lo hi asked i next → length asked ≤ i → next ≡ narrow n lo hi (children_below t asked)
lower_all t n lo hi asked i next items all = sym (append-nil next) ∙ (ap (λ (l : List Child). next ++ narrow n lo hi (children_below t l)) (sym (drop_all asked i all)) ∙ items)
  where
    drop_all : (xs : List Child) (i : ℕ) → length xs ≤ i → drop i xs ≡ []
    drop_all [] zero all = refl
    drop_all [] (suc i) all = refl
    drop_all (x ∷ xs) zero all = absurd (omega arith)
    drop_all (x ∷ xs) (suc i) all = drop_all xs i (omega arith)

-- ---- from the right

take_at : (xs : List Child) (i : ℕ) (d : Child) → i < length xs → take (suc i) xs ≡ take i xs ++ (slice_index_or xs i d ∷ [])
take_at [] i d within = absurd (omega arith)
take_at (x ∷ xs) zero d within = refl
take_at (x ∷ xs) (suc i) d within = ap (λ (l : List Child). x ∷ l) (take_at xs i d (omega arith))

below-append : (t : Table) (xs ys : List Child) → children_below t (xs ++ ys) ≡ children_below t xs ++ children_below t ys
below-append t [] ys = refl
below-append t (x ∷ xs) ys = ap (λ (l : List Child). children_in t x.span ++ l) (below-append t xs ys) ∙ sym (append_assoc (children_in t x.span) (children_below t xs) (children_below t ys))

take_front : (xs ys : List Child) (k m : ℕ) → m ≡ length xs + k → take m (xs ++ ys) ≡ xs ++ take k ys
take_front [] ys k m is = let same : m ≡ k = omega arith in ap (λ (j : ℕ). take j ys) same
take_front (x ∷ xs) ys k zero is = absurd (omega arith)
take_front (x ∷ xs) ys k (suc m) is = ap (λ (l : List Child). x ∷ l) (take_front xs ys k m (omega arith))

-- a front of a front, as one of the whole
shorter : (ys zs : List Child) (k : ℕ) → ((j : ℕ) × (take j (ys ++ zs) ≡ take k ys))
shorter [] zs zero = (0, refl)
shorter [] zs (suc k) = (0, refl)
shorter (y ∷ ys) zs zero = (0, refl)
shorter (y ∷ ys) zs (suc k) = let rest = shorter ys zs k in (suc rest.0, ap (λ (l : List Child). y ∷ l) rest.1)

-- what is asked below the rows before row i
abbrev AskedHigher : Table → ℕ → ℕ → ℕ → List Child → ℕ → List Child → Type 0
AskedHigher t n lo hi asked i next = next ≡ narrow_up n lo hi [] (children_below t (take i asked))

module _ (t : Table) (n lo hi : ℕ) (asked : List Child) (i : ℕ) (d : Child) (next : List Child) (items : AskedHigher t n lo hi asked i next) (within : i < length asked) where
  abbrev this : List Child
  this = children_in t (slice_index_or asked i d).span

  abbrev front : List Child
  front = children_below t (take i asked)

  upto : children_below t (take (suc i) asked) ≡ front ++ this
  upto = ap (children_below t) (take_at asked i d within) ∙ (below-append t (take i asked) (slice_index_or asked i d ∷ []) ∙ ap (λ (l : List Child). front ++ l) (append-nil this))

  parts : (xs : List Child) (i : ℕ) → i < length xs → xs ≡ take i xs ++ (slice_index_or xs i d ∷ drop (suc i) xs)
  parts [] i low = absurd (omega arith)
  parts (x ∷ xs) zero low = refl
  parts (x ∷ xs) (suc i) low = ap (λ (l : List Child). x ∷ l) (parts xs i (omega arith))

  all_parts : children_below t asked ≡ front ++ (this ++ children_below t (drop (suc i) asked))
  all_parts = ap (children_below t) (parts asked i within) ∙ below-append t (take i asked) (slice_index_or asked i d ∷ drop (suc i) asked)

  -- there is room for what is asked
  higher_room : ((k : ℕ) → length (narrow_up n lo hi [] (take k (children_below t asked))) ≤ 3) → (k : ℕ) → length (narrow_up n lo hi next (take k this)) ≤ 3
  higher_room few k =
      let rest = children_below t (drop (suc i) asked) in
      let j = shorter this rest k in
      let taken : take (length front + j.0) (children_below t asked) ≡ front ++ take k this =
      ap (take (length front + j.0)) all_parts ∙ (take_front front (this ++ rest) j.0 (length front + j.0) refl ∙ ap (λ (l : List Child). front ++ l) j.1) in
      subst (λ (l : List Child). length l ≤ 3)
      (ap (narrow_up n lo hi []) taken ∙ (up-append n lo hi [] front (take k this) ∙ ap (λ (l : List Child). narrow_up n lo hi l (take k this)) (sym items)))
      (few (length front + j.0))

  higher_on : (after : List Child) → after ≡ narrow_up n lo hi next this → AskedHigher t n lo hi asked (i + 1) after
  higher_on after is =
      let at : suc i ≡ i + 1 = omega arith in
      subst (λ (k : ℕ). AskedHigher t n lo hi asked k after) at
      (is ∙ (ap (λ (l : List Child). narrow_up n lo hi l this) items
      ∙ (sym (up-append n lo hi [] front this) ∙ ap (narrow_up n lo hi []) (sym upto))))

take_all : (xs : List Child) (i : ℕ) → length xs ≤ i → take i xs ≡ xs
take_all [] zero all = refl
take_all [] (suc i) all = refl
take_all (x ∷ xs) zero all = absurd (omega arith)
take_all (x ∷ xs) (suc i) all = ap (λ (l : List Child). x ∷ l) (take_all xs i (omega arith))

higher_all : (t : Table) (n lo hi : ℕ) (asked : List Child) (i : ℕ) (next : List Child) → AskedHigher t n lo hi asked i next → length asked ≤ i → next ≡ narrow_up n lo hi [] (children_below t asked)
higher_all t n lo hi asked i next items all = items ∙ ap (λ (l : List Child). narrow_up n lo hi [] (children_below t l)) (take_all asked i all)

-- ---- for the lowest place and for the highest

abbrev pub HasAskedBelow : Side → Window → Table → List Child → ℕ → List Child → Type 0
HasAskedBelow sides.Low w t asked i next = AskedLower t w.size w.lo w.hi asked i next
HasAskedBelow sides.High w t asked i next = AskedHigher t w.size w.lo w.hi asked i next

pub level_begins : (side : Side) (w : Window) (t : Table) (asked next : List Child) → next ≡ [] → HasAskedBelow side w t asked 0 next
level_begins sides.Low w t asked next empty = ap (λ (l : List Child). l ++ narrow w.size w.lo w.hi (children_below t asked)) empty
level_begins sides.High w t asked next empty = empty

pub level_room : (side : Side) (w : Window) (t : Table) (asked : List Child) (i : ℕ) (d : Child) (next : List Child) → HasAskedBelow side w t asked i next → i < length asked → HasRoomFor side w [] (children_below t asked)
    → HasRoomFor side w next (children_in t (slice_index_or asked i d).span)
level_room sides.Low w t asked i d next items within few = lower_room t w.size w.lo w.hi asked i d next items within (omega (arith, few))
level_room sides.High w t asked i d next items within few = higher_room t w.size w.lo w.hi asked i d next items within few

pub level_stops : (side : Side) (w : Window) (t : Table) (asked : List Child) (i : ℕ) (d : Child) (next : List Child) → HasAskedBelow side w t asked i next → i < length asked
    → (after : List Child) → after ≡ asked_from side w next (children_in t (slice_index_or asked i d).span) → ends_where side (has_sure w.size w.lo w.hi (children_in t (slice_index_or asked i d).span)) ≡ true
    → after ≡ asked_for side w (children_below t asked)
level_stops sides.Low w t asked i d next items within after is sure = lower_stops t w.size w.lo w.hi asked i d next items within after is sure
level_stops sides.High w t asked i d next items within after is sure = absurd (cc)

pub level_on : (side : Side) (w : Window) (t : Table) (asked : List Child) (i : ℕ) (d : Child) (next : List Child) → HasAskedBelow side w t asked i next → i < length asked
    → (after : List Child) → after ≡ asked_from side w next (children_in t (slice_index_or asked i d).span) → ends_where side (has_sure w.size w.lo w.hi (children_in t (slice_index_or asked i d).span)) ≡ false
    → HasAskedBelow side w t asked (i + 1) after
level_on sides.Low w t asked i d next items within after is none = lower_on t w.size w.lo w.hi asked i d next items within after is none
level_on sides.High w t asked i d next items within after is none = higher_on t w.size w.lo w.hi asked i d next items within after is

pub level_all : (side : Side) (w : Window) (t : Table) (asked : List Child) (i : ℕ) (next : List Child) → HasAskedBelow side w t asked i next → length asked ≤ i → next ≡ asked_for side w (children_below t asked)
level_all sides.Low w t asked i next items all = lower_all t w.size w.lo w.hi asked i next items all
level_all sides.High w t asked i next items all = higher_all t w.size w.lo w.hi asked i next items all

-- ---- leaves

abbrev pub FoundLow : Window → Table → List Child → ℕ → Type 0
FoundLow w t leaves i = kept w.size w.lo w.hi (flat_map child_hole (children_below t (take i leaves))) ≡ []

abbrev pub FoundHigh : Window → Table → List Child → ℕ → Option ℕ → Type 0
FoundHigh w t leaves i found = found ≡ picked (highest_in w.size) w (flat_map child_hole (children_below t (take i leaves)))

kept_parts : (w : Window) (t : Table) (xs ys : List Child) → kept w.size w.lo w.hi (flat_map child_hole (children_below t (xs ++ ys)))
    ≡ kept w.size w.lo w.hi (flat_map child_hole (children_below t xs)) ++ kept w.size w.lo w.hi (flat_map child_hole (children_below t ys))
kept_parts w t xs ys =
    ap (λ (l : List Child). kept w.size w.lo w.hi (flat_map child_hole l)) (below-append t xs ys)
    ∙ (ap (kept w.size w.lo w.hi) (flat_map-append child_hole (children_below t xs) (children_below t ys))
    ∙ kept-append w.size w.lo w.hi (flat_map child_hole (children_below t xs)) (flat_map child_hole (children_below t ys)))

kept_one : (w : Window) (t : Table) (x : Child) → kept w.size w.lo w.hi (flat_map child_hole (children_below t (x ∷ []))) ≡ kept w.size w.lo w.hi (flat_map child_hole (children_in t x.span))
kept_one w t x = ap (λ (l : List Child). kept w.size w.lo w.hi (flat_map child_hole l)) (append-nil (children_in t x.span))

nothing_low : (xs : List Hole) → None ≡ lowest_in xs → xs ≡ []
nothing_low [] none = refl
nothing_low (x ∷ xs) none = absurd (cc)

first_low : (xs ys : List Hole) (found : ℕ) → Some found ≡ lowest_in xs → Some found ≡ lowest_in (xs ++ ys)
first_low [] ys found is = absurd (cc)
first_low (x ∷ xs) ys found is = is

module _ (w : Window) (t : Table) (leaves : List Child) (i : ℕ) (d : Child) (within : i < length leaves) where
  abbrev leaf : Child
  leaf = slice_index_or leaves i d

  leaf_parts : kept w.size w.lo w.hi (flat_map child_hole (children_below t (take (suc i) leaves)))
      ≡ kept w.size w.lo w.hi (flat_map child_hole (children_below t (take i leaves))) ++ kept w.size w.lo w.hi (flat_map child_hole (children_in t leaf.span))
  leaf_parts = ap (λ (l : List Child). kept w.size w.lo w.hi (flat_map child_hole (children_below t l))) (take_at leaves i d within)
      ∙ (kept_parts w t (take i leaves) (leaf ∷ []) ∙ ap (λ (l : List Hole). kept w.size w.lo w.hi (flat_map child_hole (children_below t (take i leaves))) ++ l) (kept_one w t leaf))

  pub low_none : FoundLow w t leaves i → None ≡ picked lowest_in w (flat_map child_hole (children_in t leaf.span)) → FoundLow w t leaves (i + 1)
  low_none before none =
      let at : suc i ≡ i + 1 = omega arith in
      subst (FoundLow w t leaves) at (leaf_parts ∙ (λ j. before j ++ nothing_low (kept w.size w.lo w.hi (flat_map child_hole (children_in t leaf.span))) none j))

  pub low_some : (found : ℕ) → FoundLow w t leaves i → Some found ≡ picked lowest_in w (flat_map child_hole (children_in t leaf.span)) → Some found ≡ picked lowest_in w (flat_map child_hole (children_below t leaves))
  low_some found before is =
      let here = kept w.size w.lo w.hi (flat_map child_hole (children_in t leaf.span)) in
      let rest = kept w.size w.lo w.hi (flat_map child_hole (children_below t (drop (suc i) leaves))) in
      first_low here rest found is
      ∙ ap lowest_in (sym (ap (λ (l : List Child). kept w.size w.lo w.hi (flat_map child_hole (children_below t l))) (sym (take-append-drop (suc i) leaves))
      ∙ (kept_parts w t (take (suc i) leaves) (drop (suc i) leaves)
      ∙ ap (λ (l : List Hole). l ++ rest) (leaf_parts ∙ ap (λ (l : List Hole). l ++ here) before))))

  -- by whether there is one
  pub low_found : (found : Option ℕ) → FoundLow w t leaves i → found ≡ picked lowest_in w (flat_map child_hole (children_in t leaf.span)) → is_some found ≡ true → found ≡ picked lowest_in w (flat_map child_hole (children_below t leaves))
  low_found None before is some = absurd (cc)
  low_found (Some place) before is some = low_some place before is

  pub low_not_found : (found : Option ℕ) → FoundLow w t leaves i → found ≡ picked lowest_in w (flat_map child_hole (children_in t leaf.span)) → is_some found ≡ false → FoundLow w t leaves (i + 1)
  low_not_found None before is none = low_none before is
  low_not_found (Some place) before is none = absurd (cc)

  pub high_one : (found place : Option ℕ) → FoundHigh w t leaves i found → place ≡ picked (highest_in w.size) w (flat_map child_hole (children_in t leaf.span)) → FoundHigh w t leaves (i + 1) (option_or place found)
  high_one found place before is =
      let at : suc i ≡ i + 1 = omega arith in
      subst (λ (k : ℕ). FoundHigh w t leaves k (option_or place found)) at
      (last_of (kept w.size w.lo w.hi (flat_map child_hole (children_below t (take i leaves)))) (kept w.size w.lo w.hi (flat_map child_hole (children_in t leaf.span))) found place before is ∙ ap (highest_in w.size) (sym leaf_parts))
    where
      last_of : (xs ys : List Hole) (found place : Option ℕ) → found ≡ highest_in w.size xs → place ≡ highest_in w.size ys → option_or place found ≡ highest_in w.size (xs ++ ys)
      last_of xs [] found place before is = ap (λ (o : Option ℕ). option_or o found) is ∙ (before ∙ ap (highest_in w.size) (sym (append-nil xs)))
      last_of xs (y ∷ ys) found place before is =
          let some = some_highest w.size y ys in
          ap (λ (o : Option ℕ). option_or o found) (is ∙ some.1) ∙ (sym some.1 ∙ sym (highest_back w.size xs (y ∷ ys) (omega arith)))
        where
          some_highest : (n : ℕ) (y : Hole) (ys : List Hole) → ((p : ℕ) × (highest_in n (y ∷ ys) ≡ Some p))
          some_highest n y [] = (y.last + 1 - n, refl)
          some_highest n y (z ∷ ys) = let rest = some_highest n z ys in (rest.0, highest_more n y (z ∷ ys) (omega arith) ∙ rest.1)

pub low_nowhere : (w : Window) (t : Table) (leaves : List Child) (i : ℕ) → FoundLow w t leaves i → length leaves ≤ i → None ≡ picked lowest_in w (flat_map child_hole (children_below t leaves))
low_nowhere w t leaves i before all = ap lowest_in (sym (ap (λ (l : List Child). kept w.size w.lo w.hi (flat_map child_hole (children_below t l))) (sym (take_all leaves i all)) ∙ before))

pub high_all : (w : Window) (t : Table) (leaves : List Child) (i : ℕ) (found : Option ℕ) → FoundHigh w t leaves i found → length leaves ≤ i → found ≡ picked (highest_in w.size) w (flat_map child_hole (children_below t leaves))
high_all w t leaves i found before all = before ∙ ap (λ (l : List Child). picked (highest_in w.size) w (flat_map child_hole (children_below t l))) (take_all leaves i all)
