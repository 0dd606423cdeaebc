-- The rule holds at the start: the table's words are the rows that the tree opens with, and there is no call and no pass.
use Rattle.mt_rule.proofs.Prelude.{◌≡◌, ◌≢◌, ℕ, zero, suc, ◌+◌, ◌*◌, ◌<◌, ◌≤◌, List, [], ◌∷◌, Bool, true, false, length, map, replicate, refl, sym, ap, ◌∙◌, subst, inl, arith, slice_index, if◌then◌else◌, range_with_len, length-replicate, get_or-map-range_with_len, length-map-range_with_len, none-some, some, some-ne-none, some-injective, get_elem?, opening, Kind, Width, columns, first_row, most_rows, words_before, Extent, Known, nowhere, moment_of, follow, starts, Life, New, Draft, Live, Dead, IsTree, sheet_in, rows_whole, IsLawfulOf, LiveAreReached, is_reached, tree_as, HasDied, Rooted, life_of, TableStart, Shape, View, PenPart, AreOpening, first_row_column, root_at, section_at, IsKept, IsSoundPen, ViewFits, WordsFit, moment_at, new_pen, opening_life, opening_view, rooted_in, shape_opening, shape_told, state_in, MayOpen, lawful_tree, most_passes}
use Rattle.mt_rule.proofs.Lives.{every_life, none_marked}
use Rattle.mt_rule.proofs.Viewing.{pen_is}

-- ---- rows that no call has used

abbrev IsUnused : Life → Type 0
IsUnused New = Unit {0}
IsUnused Draft = ⊥
IsUnused Live = Unit {0}
IsUnused (Dead call) = ⊥

unused : (t : Rooted) (row : ℕ) → IsUnused (opening_life t row)
unused t row = by_reach (is_reached t row)
  where
    by_reach : (b : Bool) → IsUnused (if b then Live else New)
    by_reach true = tt
    by_reach false = tt

never_died : (ended : ℕ) (in_flight : Bool) (l : Life) → IsUnused l → HasDied ended in_flight l
never_died ended in_flight New is = tt
never_died ended in_flight Draft is = tt
never_died ended in_flight Live is = tt
never_died ended in_flight (Dead call) is = absurd is

not_dead : (l : Life) (d : ℕ) → IsUnused l → l ≢ Dead d
not_dead l d is e = subst IsUnused e is

abbrev OnlyLive : Life → Type 0
OnlyLive Live = Unit {0}
OnlyLive _ = ⊥

live_reach : (b : Bool) → (if b then Live else New) ≡ Live → b ≡ true
live_reach true e = refl
live_reach false e = absurd (subst OnlyLive (sym e) tt)

abbrev lives_of : (t : Rooted) → List Life
lives_of t = map (opening_life t) (range_with_len 0 (first_row + t.rows))

life_here : (t : Rooted) (row : ℕ) → row < first_row + t.rows → life_of (lives_of t) row ≡ opening_life t row
life_here t row low = get_or-map-range_with_len (opening_life t) 0 (first_row + t.rows) row row New low (omega arith)

zeros : (n k : ℕ) → slice_index (replicate {A = ℕ} n 0) k ≡ 0
zeros zero k = refl
zeros (suc n) zero = refl
zeros (suc n) (suc k) = zeros n k

opening_lives : (t : Rooted) → LiveAreReached t (lives_of t)
opening_lives t row first last =
    ((λ live. live_reach (is_reached t row) (sym (life_here t row last) ∙ live)), (λ reached. life_here t row last ∙ rw reached refl))

-- ---- what the pen knows

module _ (kind : Kind) (t : Rooted) (passes calls : ℕ) (lawful : IsLawfulOf t kind) where
  abbrev shape : Shape
  shape = shape_opening kind t passes calls

  abbrev part : PenPart
  part = new_pen shape t

  same : t ≡ rooted_in part
  same i = record { rows = t.rows; table = record { width = lawful.width i; words = t.table.words }; root = t.root }

  here : IsLawfulOf (rooted_in part) kind
  here = subst (λ (x : Rooted). IsLawfulOf x kind) same lawful

  tree : IsTree (tree_as kind (rooted_in part))
  tree = lawful_tree (tree_as kind (rooted_in part)) here.words

  live : LiveAreReached (rooted_in part) part.lives
  live = subst (λ (x : Rooted). LiveAreReached x (lives_of t)) same (opening_lives t)

  pub opening_known : (extents : ℕ → Extent) × Known kind (state_in part) extents (moment_at shape [])
  opening_known =
      let following = follow kind (rooted_in part) (λ _. nowhere) tree in (
        following.0,
        starts kind (state_in part) (λ _. nowhere) following.0 (moment_at shape []) here live (λ row _ _. none_marked (first_row + t.rows) row)
            (λ row d _. not_dead (life_of part.lives row) d (every_life IsUnused (opening_life t) (unused t) tt (range_with_len 0 (first_row + t.rows)) row))
            refl refl following.1 (ap moment_of same),
      )

  pub opening_sound : length t.table.words ≡ columns t.table.width * (first_row + t.rows) → t.rows ≤ most_rows → 1 ≤ passes → passes ≤ most_passes → (extents : ℕ → Extent) × IsSoundPen extents part
  opening_sound size rows some_pass few_passes =
      let known = opening_known in (
        known.0,
        record {
          history = record {
            dealt = omega arith;
            callers = tt;
            named = tt;
            loaded = λ h has. let none = has.1 in absurd (omega arith);
            count = refl;
            calm = λ _. refl;
            few = omega arith;
            legal = tt;
          };
          known = known.1;
          tree = record { width = refl; words = tree };
          live = live;
          rows = rows;
          words = size ∙ ap (λ (w : Width). columns w * (first_row + t.rows)) lawful.width;
          lives = length-map-range_with_len (opening_life t) 0 (first_row + t.rows);
          buried = length-replicate (first_row + t.rows) false;
          dead = λ row. never_died 0 false (life_of part.lives row) (every_life IsUnused (opening_life t) (unused t) tt (range_with_len 0 (first_row + t.rows)) row);
          some_pass = some_pass;
          few_passes = few_passes;
          passes = length-replicate passes 0;
          cleared = λ k low. (let z = zeros passes k in omega arith);
        },
      )

  section_low : (w : Width) (k : ℕ) → k < passes → passes ≤ most_passes → (section_at k ≢ root_at) × (section_at k < first_row_column w)
  section_low w k low few = ((λ e. omega arith), (let first = words_before w in omega arith))

  counters_low : (w : Width) → (0 < first_row_column w) × (1 < first_row_column w)
  counters_low w = ((let first = words_before w in omega arith), (let first = words_before w in omega arith))

  pub opening_words_fit : (words : List ℕ) → AreOpening t words → passes ≤ most_passes → WordsFit words part
  opening_words_fit words o few =
      let section : (k : ℕ) → k < passes → slice_index words (section_at k) ≡ 0 = λ k low. let s = section_low t.table.width k low few in o.none (section_at k) s.0 s.1 in record {
        size = o.size ∙ ap (λ (w : Width). columns w * (first_row + t.rows)) lawful.width;
        commits = o.none 0 (λ e. omega arith) (counters_low t.table.width).0;
        begun = o.none 1 (λ e. omega arith) (counters_low t.table.width).1;
        root = o.root;
        sections = λ k low. inl (section k low);
        undealt = λ k _ low. section k low;
        unnamed = λ i low off. o.none i off.root (subst (λ (w : Width). i < first_row_column w) (sym lawful.width) low);
        columns = λ i high. o.columns i (subst (λ (w : Width). first_row_column w ≤ i) (sym lawful.width) high);
      }

-- ---- the rule at the start

abbrev pub tree_told : TableStart → Rooted
tree_told told = (sheet_in told.rows.value).tree

pub starts_so : (told : TableStart) (words : List ℕ) → MayOpen told.kind (sheet_in told.rows.value) told.passes told.calls → AreOpening (tree_told told) words → IsKept told (opening words [] (opening_view told))
starts_so told words may opens =
    let whole = rows_whole told.rows.value in
    let t = tree_told told in
    let p : PenPart = new_pen (shape_told told) t in
    let sound = opening_sound told.kind t told.passes told.calls may.lawful whole.words whole.few may.some_pass may.few_passes in
    record {
      pen = 0;
      owner = λ _. 0;
      extents = sound.0;
      part = p;
      shaped = refl;
      sound = sound.1;
      words = opening_words_fit told.kind t told.passes told.calls may.lawful words opens may.few_passes;
      each = one sound.0;
    }
  where
    one : (extents : ℕ → Extent) (by : ℕ) (v : View) → get_elem? (opening_view told ∷ []) by ≡ some v → ViewFits 0 (λ _. 0) extents (new_pen (shape_told told) (tree_told told)) words by v
    one extents zero v e = subst (ViewFits 0 (λ _. 0) extents (new_pen (shape_told told) (tree_told told)) words 0) (some-injective (opening_view told) v e) record {
      keeper = λ q k. (refl, sym (pen_is (new_pen (shape_told told) (tree_told told)) q k));
      at = λ q k. absurd (none-some q k);
      section = λ q k. absurd (none-some q k);
      passes = λ q k. absurd (none-some q k);
      notes = λ n k. absurd (none-some n k);
    }
    one extents (suc by) v e = absurd (some-ne-none v (sym e))
