-- A publishing store keeps a row's pivots and which of its slots are 0.
use Rattle.mt_life.proofs.Prelude.{◌≡◌, ◌≢◌, ℕ, zero, suc, ◌+◌, ◌-◌, ◌<◌, ◌≤◌, ◌==◌, List, [], ◌∷◌, map, Bool, true, false, Some, None, length, refl, sym, ap, ◌∙◌, subst, ⊎_elim, arith, get_or, get_or-set_other, cases_eq, slice_get-get_or, slice_get, Kind, Call, Reply, RowKind, row_in, named_kind, slot_column, slots_of, Span, other_column, Place, Root, Slot, Live, Dead, base_of, column, spans_in, Tree, Stands, kind_at, Rooted, Sheet, life_of, one_if, tree_as, with_published, with_record, MayPublish, Published, StandsAt, is_reached, root_of, slot_read, OnLevel, stands_at, on_level, on_level_law, one_place, published_rows, published_width, Extent, Moment, moment_of, State, state_of, Later, HasRow, Known, HasExtentsOf, SameForm, Goes}
use Rattle.mt_life.proofs.Alike.{two_slots}
use Rattle.mt_life.proofs.Staying.{true_false, IsAt, at_or_not, others_stay, place_stays, on}
use Rattle.mt_life.proofs.Turning.{later_cases, any, dead_stays, later_stays}
use Rattle.mt_life.proofs.Carrying.{place_before, place_after, extent_stays}

abbrev hole : Span → Bool
hole x = x.word == 0

abbrev rest_of : {A : Type 0} → List A → List A
rest_of [] = []
rest_of (x ∷ xs) = xs

abbrev head_or : {A : Type 0} → A → List A → A
head_or a [] = a
head_or a (x ∷ xs) = x

same_hole : (xs ys : List Span) (i : ℕ) (x : Span) → map hole xs ≡ map hole ys → slice_get xs i ≡ Some x → (y : Span) × (slice_get ys i ≡ Some y) × (hole x ≡ hole y)
same_hole [] ys i x same at = let none : None ≡ Some x = at in absurd cc
same_hole (z ∷ xs) [] i x same at = absurd (let l = ap length same in omega arith)
same_hole (z ∷ xs) (y ∷ ys) zero x same at = (y, refl, ap hole (let e : Some x ≡ Some z = sym at in let same : x ≡ z = cc in same) ∙ ap (head_or true) same)
same_hole (z ∷ xs) (y ∷ ys) (suc i) x same at = same_hole xs ys i x (ap rest_of same) at

module _ (kind : Kind) (s : Sheet) (r col word : ℕ) (call : Call) (reply : Reply) (may : MayPublish kind s (Slot r col) word call reply)
    (k k' : ℕ) (x x' : Span) (at : StandsAt s.tree k x) (at' : StandsAt (with_published s.tree (Slot r col) word) k' x') (is : row_in x.word ≡ r) (is' : row_in x'.word ≡ r)
    (h h' : ℕ) (stands : Stands (tree_as kind s.tree) h) (stands' : Stands (tree_as kind (with_published s.tree (Slot r col) word)) h') where
  abbrev T : Tree
  T = tree_as kind s.tree

  abbrev T' : Tree
  T' = tree_as kind (with_published s.tree (Slot r col) word)

  abbrev slots : ℕ
  slots = slots_of s.tree.table.width (kind_at kind k)

  place : OnLevel T.table h (root_of T) k x
  place = on_level T h stands k x at

  same_span : x ≡ may.at.2.at
  same_span = (one_place T h stands k (h - may.at.2.depth) x may.at.2.at place (on T h stands may.at.2.depth may.at.2.at may.at.2.reached) (is ∙ sym may.at.2.number)).1

  same_kind : may.at.2.kind ≡ kind_at kind k
  same_kind = let e : Some may.at.2.kind ≡ Some (kind_at kind k) = sym may.at.2.named ∙ (ap (λ (y : Span). named_kind y.word) (sym same_span) ∙ (on_level_law T h stands k x place).name.named) in cc

  col_is : col ≡ slot_column slots may.at.2.slot
  col_is = may.at.2.column ∙ ap (λ (q : RowKind). slot_column (slots_of s.tree.table.width q) may.at.2.slot) same_kind

  used : may.at.2.slot < length (spans_in T.table x)
  used = subst (λ (y : Span). may.at.2.slot < length (spans_in T.table y)) (sym same_span) may.at.2.used

  zero_there : (column T'.table r col == 0) ≡ (column T.table r col == 0)
  zero_there =
      let keeps = may.rows.stay k k' x x' at at' (is ∙ sym is') in
      let y = get_or (spans_in T.table x) may.at.2.slot x in
      let y_at : slice_get (spans_in T.table x) may.at.2.slot ≡ Some y = slice_get-get_or (spans_in T.table x) may.at.2.slot x used in
      let other = same_hole (spans_in T.table x) (spans_in T'.table x') may.at.2.slot y keeps.holes y_at in
      let old = slot_read T k may.at.2.slot x y (on_level_law T h stands k x place) y_at in
      let new = slot_read T' k' may.at.2.slot x' other.0 (on_level_law T' h' stands' k' x' (on_level T' h' stands' k' x' at')) other.1 in
      let col_new : slot_column (slots_of s.tree.table.width (kind_at kind k')) may.at.2.slot ≡ col = ap (λ (n : ℕ). slot_column (slots_of s.tree.table.width (kind_at kind n)) may.at.2.slot) keeps.height ∙ sym col_is in
      let here : column T.table r col ≡ y.word = (λ i. column T.table (sym is i) (col_is i)) ∙ sym old in
      let there : column T'.table r col ≡ other.0.word = (λ i. column T'.table (sym is' i) (sym col_new i)) ∙ sym new in
      ap (λ (n : ℕ). n == 0) there ∙ (sym other.2 ∙ ap (λ (n : ℕ). n == 0) (sym here))

  form_here : SameForm T.table T'.table (kind_at kind k) r
  form_here c above low = ⊎_elim
      (λ (here : c ≡ col). ((λ pivot. absurd (let e = col_is in omega arith)), ap (λ (n : ℕ). column T'.table r n == 0) here ∙ (zero_there ∙ ap (λ (n : ℕ). column T.table r n == 0) (sym here))))
      (λ (off : c ≢ col).
      let same = get_or-set_other s.tree.table.words (base_of s.tree.table r + col) (base_of s.tree.table r + c) word 0 (other_column s.tree.table.width r r c col off (two_slots s.tree.table.width (kind_at kind k) c low) may.at.0.column) in
      ((λ _. same), ap (λ (n : ℕ). n == 0) same))
      (cases_eq c col)

form_at_place : (kind : Kind) (s : Sheet) (place : Place) (word : ℕ) (call : Call) (reply : Reply) → MayPublish kind s place word call reply → (row k k' : ℕ) (x x' : Span) → StandsAt s.tree k x → StandsAt (with_published s.tree place word) k' x'
    → row_in x.word ≡ row → row_in x'.word ≡ row → (h h' : ℕ) → Stands (tree_as kind s.tree) h → Stands (tree_as kind (with_published s.tree place word)) h' → IsAt place row
    → SameForm s.tree.table (with_published s.tree place word).table (kind_at kind k) row
form_at_place kind s Root word call reply may row k k' x x' at at' is is' h h' stands stands' here = absurd here
form_at_place kind s (Slot r col) word call reply may row k k' x x' at at' is is' h h' stands stands' here =
    subst (SameForm s.tree.table (with_published s.tree (Slot r col) word).table (kind_at kind k)) (sym here)
    (form_here kind s r col word call reply may k k' x x' at at' (is ∙ here) (is' ∙ here) h h' stands stands')

module _ (kind : Kind) (s s' : Sheet) (place : Place) (word : ℕ) (call : Call) (reply : Reply) (may : MayPublish kind s place word call reply) (done : Published s s' place word call reply)
    (before after : ℕ → Extent) (m m' : ℕ → Moment) (known : Known kind (state_of s) before m) (follows : HasExtentsOf (with_published s.tree place word) before after) (past : (k : ℕ) → k ≤ s.ended → m' k ≡ m k) (now : m' (s.ended + 1) ≡ moment_of (with_published s.tree place word)) where
  abbrev t' : Rooted
  t' = with_published s.tree place word

  abbrev u : State
  u = state_of (record s { tree = t'; published = true; lives = s'.lives; buried = s'.buried; told = with_record s.told call reply })

  form_stays : (row : ℕ) → HasRow s.tree.rows row → Later 0 (life_of s.lives row) → SameForm s.tree.table t'.table (kind_at kind (before row).level) row
  form_stays row has later = ⊎_elim
      (λ (here : IsAt place row).
      let reached = place_stays kind s place word row may.at may.live may.tree.words may.after here in
      let q = place_after kind s s' place word call reply may done before after m m' known follows past now row reached in
      ⊎_elim
      (λ (live : life_of s.lives row ≡ Live).
      let p = place_before kind s s' place word call reply may done before after m m' known follows past now row ((may.live row has.0 has.1).0 live) in
      subst (λ (e : Extent). SameForm s.tree.table t'.table (kind_at kind e.level) row) (sym p.extent)
      (form_at_place kind s place word call reply may row p.level q.level p.span q.span p.stands (stands_at (tree_as kind t') q.height q.stands q.on.depth q.level q.span q.on.height q.on.one) p.is q.is p.height q.height p.tree q.stands here))
      (λ (dead : (d : ℕ) × (life_of s.lives row ≡ Dead d) × (0 ≤ d)). absurd (true_false (is_reached t' row) reached (dead_stays kind s s' place word call reply may done row dead.0 has dead.1).0))
      (later_cases 0 (life_of s.lives row) later))
      (λ (off : IsAt place row → ⊥). λ c above low.
      let same = others_stay s place word row c may.at off (two_slots s.tree.table.width (kind_at kind (before row).level) c low) in
      ((λ _. same), ap (λ (n : ℕ). n == 0) same))
      (at_or_not place row)

  goes_on : Goes kind (state_of s) u before after m m'
  goes_on = record {
    rows = published_rows s.tree place word;
    width = published_width s.tree place word;
    cleared = omega arith;
    count = rw may.before (omega arith, omega arith);
    past = λ k le. past k (let l : k ≤ s.ended + one_if false = subst (λ (b : Bool). k ≤ s.ended + one_if b) may.before le in omega arith);
    later = λ row d has waits le later. later_stays kind s s' place word call reply may done row d has (let l : d ≤ s.ended + one_if false + 1 = subst (λ (b : Bool). d ≤ s.ended + one_if b + 1) may.before le in omega arith) later;
    place = λ row d has waits later. let any_later = any (life_of s.lives row) d later in (extent_stays kind s s' place word call reply may done before after m m' known follows past now row has any_later, form_stays row has any_later);
    dead = λ row d has waits dead. (dead_stays kind s s' place word call reply may done row d has dead).1;
    frozen = λ row d c has waits dead inside. others_stay s place word row c may.at
        (λ here. true_false (is_reached t' row) (place_stays kind s place word row may.at may.live may.tree.words may.after here) (dead_stays kind s s' place word call reply may done row d has dead).0) inside;
  }

  pub goes : Goes kind (state_of s) (state_of s') before after m m'
  goes = subst (λ (v : Sheet). Goes kind (state_of s) (state_of v) before after m m') (sym done.rest) goes_on
