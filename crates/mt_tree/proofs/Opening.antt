-- A tree that opens: its pen, its rows and its passes.
use Rattle.mt_tree.proofs.Prelude.{◌≡◌, ℕ, zero, suc, ◌+◌, ◌<◌, ◌≤◌, Bool, true, false, List, [], ◌∷◌, Option, Some, length, map, get_or, replicate, refl, sym, ap, ◌∙◌, subst, arith, All, Contains, slice_get, slice_index_or, option_map, unwrap_or, if◌then◌else◌, range_with_len, zero-min, length-map, All-nil, Contains-get_or, slice_get-map, slice_get-get_or, slice_get_within, get_or-map-range_with_len, Kind, new_pass, first_row, Book, StampedRow, live_count, Life, New, Live, Dead, one_if, HasDied, IsWhole, Rooted, Sheet, life_of, IsLawfulOf, LiveAreReached, is_reached, map_by, IsUnheld, IsBookOf, live_is_reached, IsEngineState, IsIdle, IsState, HasHeight, levelled, tree_if_lawful, OpensSmall, Pass, PenPart, Shape, least_number, new_pen, opening_life, rooted_in, pen_sheet, tree_of, shape_opened, pass_in, IsSeatedAt, parts_of, IsPenAtRest, Tree, passes_of, place_of, AreAll, IsNew}
use Rattle.mt_base.specs.Passes as known
use Rattle.mt_rule.specs.Tokens as rule
use Rattle.mt_tree.specs.declared.shapes.Shape.{Shape as Shape'}

same_anywhere : {X : Type 0} (n i : ℕ) (x : X) → slice_index_or (replicate n x) i x ≡ x
same_anywhere zero i x = refl
same_anywhere (suc n) zero x = refl
same_anywhere (suc n) (suc i) x = same_anywhere n i x

life_from : (t : Rooted) (a n i row : ℕ) → a + i ≡ row → i < n → life_of (map (opening_life t) (range_with_len a n)) i ≡ opening_life t row
life_from t a zero i row at low = absurd (omega arith)
life_from t a (suc n) zero row at low = (let e : a ≡ row = omega (arith, at) in ap (opening_life t) e)
life_from t a (suc n) (suc i) row at low = life_from t (a + 1) n i row (omega (arith, at)) (omega arith)

-- rows and a book on which no call was begun, of which a tree opens
module _ (kind : Kind) (s : Sheet) (passes calls : ℕ) (book : Book) (idle : IsIdle kind s book) (none : s.ended ≡ 0) (whole : IsWhole s) where
  abbrev shape : Shape
  shape = shape_opened kind s passes calls

  abbrev pen : PenPart
  pen = record (new_pen shape s.tree) { dealt = passes }

  lawful : IsLawfulOf s.tree kind
  lawful = idle.state.kept.lawful

  booked : IsBookOf s.tree s.lives s.cleared book (s.ended + 1)
  booked = idle.state.kept.booked

  pub rooted_is : rooted_in pen ≡ s.tree
  rooted_is = λ k. record { rows = s.tree.rows; table = record { width = sym lawful.width k; words = s.tree.table.words }; root = s.tree.root }

  life_is : (row : ℕ) → row < first_row + s.tree.rows → life_of pen.lives row ≡ opening_life s.tree row
  life_is row low = life_from s.tree 0 (first_row + s.tree.rows) row row (omega arith) low

  reached_live : (b : Bool) → (if b then Live else New) ≡ Live → b ≡ true
  reached_live true is = refl
  reached_live false is = absurd (cc)

  live : LiveAreReached s.tree pen.lives
  live row low high = (
    λ is. reached_live (is_reached s.tree row) (sym (life_is row high) ∙ is),
    λ is. life_is row high ∙ ap (λ (b : Bool). if b then Live else New) is,
  )

  free_new : (row : ℕ) → Contains book.free row → row < first_row + s.tree.rows → life_of pen.lives row ≡ New
  free_new row free high = by (is_reached s.tree row) refl
    where
      by : (b : Bool) → is_reached s.tree row ≡ b → life_of pen.lives row ≡ New
      by false is = life_is row high ∙ ap (λ (b : Bool). if b then Live else New) is
      by true is = absurd ((booked.reached row is).not_free free)

  dead_none : (l : Life) (stamp : ℕ) → HasDied s.ended s.in_flight l → l ≡ Dead stamp → ⊥
  dead_none l stamp died is =
      let d : (1 ≤ stamp) × (stamp ≤ s.ended + one_if s.in_flight) = subst (HasDied s.ended s.in_flight) is died in
      let high = d.1 in
      let low = d.0 in
      omega (arith, low, high, none, ap one_if idle.idle)

  held_of : (held : List StampedRow) → All (λ (h : StampedRow). life_of s.lives h.row ≡ Dead h.stamp) held → held ≡ []
  held_of [] dead = refl
  held_of (h ∷ held) dead = absurd (dead_none (life_of s.lives h.row) h.stamp (whole.dead h.row) (dead 0 h (omega arith)))

  none_held : book.held ≡ []
  none_held = held_of book.held idle.state.held

  booked_there : IsBookOf s.tree pen.lives 0 book 1
  booked_there = record {
    sound = booked.sound;
    rows = booked.rows;
    out = booked.out;
    reached = booked.reached;
    spare = λ i d low.
        let here = booked.sound.free_rows i d low in
        subst (IsUnheld 0) (sym (free_new (get_or book.free i d) (Contains-get_or book.free i d low) (let h = here.1 in let r = booked.rows in omega (arith, h, r)))) tt;
    stamps = subst (All (λ (h : StampedRow). h.stamp < 1)) (sym none_held) (All-nil (λ (h : StampedRow). h.stamp < 1));
  }

  grown : length book.held + live_count book ≤ shape.opened
  grown = (let live = live_is_reached s.tree s.lives s.cleared kind book (s.ended + 1) (tree_if_lawful s.tree kind lawful) booked in omega (arith, live, ap length none_held))

  cleared_is : (n : ℕ) → least_number (replicate n 0) ≡ 0
  cleared_is zero = refl
  cleared_is (suc zero) = refl
  cleared_is (suc (suc n)) = zero-min (least_number (replicate (suc n) 0))

  state_there : IsEngineState kind (pen_sheet pen) book
  state_there = subst (λ (x : Rooted × ℕ). IsState kind (Some kind) x.0 pen.lives pen.buried x.1 0 shape.opened book) (λ k. (sym rooted_is k, sym (cleared_is passes) k)) (record {
    told = refl;
    kept = record {
      lawful = lawful;
      live = live;
      none_buried = λ row low high. same_anywhere (first_row + s.tree.rows) row false;
      booked = booked_there;
    };
    held = subst (All (λ (h : StampedRow). life_of pen.lives h.row ≡ Dead h.stamp)) (sym none_held) (All-nil (λ (h : StampedRow). life_of pen.lives h.row ≡ Dead h.stamp));
    grown = (let g = grown in omega (arith, g));
  })

  pub opens_small : OpensSmall shape
  opens_small = (let half = (levelled s.tree kind (tree_if_lawful s.tree kind lawful)).half in omega (arith, half))

  kept_there : (height : ℕ) → HasHeight s.tree height → IsPenAtRest pen (parts_of pen book) height
  kept_there height high = record {
    dealt = refl;
    of = record { kind = refl; rows = refl; map = ap map_by rooted_is; ended = refl; opened = opens_small };
    idle = record { idle = refl; state = state_there };
    few = omega arith;
    levels = subst (λ (x : Rooted). HasHeight x height) (sym rooted_is) high;
  }

  pub open_kept : (p : PenPart) (shape' : Shape) (height : ℕ) → shape' ≡ shape → p ≡ record (new_pen shape' s.tree) { dealt = passes } → HasHeight s.tree height → IsPenAtRest p (parts_of p book) height
  open_kept p shape' height shape_is pen_is high =
      subst (λ (x : PenPart). IsPenAtRest x (parts_of x book) height) (sym (pen_is ∙ ap (λ (x : Shape). record (new_pen x s.tree) { dealt = passes }) shape_is)) (kept_there height high)

-- what a pass of such a list knows
number_at : (n : ℕ) (ps : List Pass) (i : ℕ) (p : Pass) → map pass_in ps ≡ map new_pass (range_with_len 0 n) → i < n → slice_get ps i ≡ Some p → (pass_in p).number ≡ i
number_at n ps i p new low is =
    let here : pass_in p ≡ get_or (map pass_in ps) i (new_pass i) = sym (ap (λ (o : Option known.Pass). unwrap_or o (new_pass i)) (sym (slice_get-get_or (map pass_in ps) i (new_pass i) (omega (arith, slice_get_within ps i p is, length-map ps pass_in))) ∙ (slice_get-map pass_in ps i ∙ ap (option_map pass_in) is))) in
    let from : 0 + i ≡ i = omega arith in
    ap (λ (q : known.Pass). q.number) (here ∙ (ap (λ (qs : List known.Pass). get_or qs i (new_pass i)) new ∙ get_or-map-range_with_len new_pass 0 n i i (new_pass i) low from))

length_range : (a n : ℕ) → length (range_with_len a n) ≡ n
length_range a zero = refl
length_range a (suc n) = ap suc (length_range (a + 1) n)

pub all_new : (t : Tree) (ps : List Pass) (n : ℕ) → passes_of t ≡ n → All (rule.IsPassOf (place_of t)) ps → All (IsSeatedAt t.turn.table.shared.table_id t.turn.table.shared.key) ps → map pass_in ps ≡ map new_pass (range_with_len 0 n) → AreAll t ps
all_new t ps n many of seated new =
    let long : length ps ≡ n = sym (length-map ps pass_in) ∙ (ap length new ∙ (length-map (range_with_len 0 n) new_pass ∙ length_range 0 n)) in
    record {
      count = long ∙ sym many;
      of = λ i d low. record { of = of i d low; seated = seated i d low };
      numbered = λ i p is. let low = slice_get_within ps i p is in number_at n ps i p new (omega arith) is;
    }

pub new_tree : (t : Tree) (ps dealt : List Pass) (shape : Shape') (s : Sheet) → (place_of t).shape ≡ shape_opened shape.kind s shape.passes shape.calls → s.tree.rows ≡ shape.rows → All (rule.IsPassOf (place_of t)) ps
    → All (IsSeatedAt t.turn.table.shared.table_id t.turn.table.shared.key) ps → map pass_in ps ≡ map pass_in dealt → map pass_in dealt ≡ map new_pass (range_with_len 0 shape.passes) → IsNew shape (map_by s.tree) t ps
new_tree t ps dealt shape s is rows of seated same new = record {
  tree = ap (λ (x : Shape). tree_of x []) is ∙ (λ i. record { kind = shape.kind; rows = rows i; opening = map_by s.tree; records = [] });
  calls = ap (λ (x : Shape). x.calls) is;
  all = all_new t ps shape.passes (ap (λ (x : Shape). x.passes) is) of seated (same ∙ new);
  passes = same ∙ new;
}
