-- The new rows of a level stay the fewest, as the levels above them are replaced.
use Rattle.mt_splice.proofs.Prelude.{◌≡◌, ◌≢◌, ℕ, zero, suc, ◌≤◌, List, [], ◌∷◌, ◌++◌, Bool, true, false, refl, sym, ◌∙◌, subst, length, arith, append-nil, AllByRecursion, all_front, all_back, Width, Item, RowKind, Leaf, Inner, Gapped, slots_of, Span, row_in, spans_from, Table, expand, Levels, kind_on, Shared, expand_shared, IsCutOf, AreFewestOf, FewestBelow}

-- rows are new as they were
abbrev pub SameNews : (ℕ → Bool) → (ℕ → Bool) → ℕ → Span → Type 0
SameNews is_new is_new' h x = is_new' (row_in x.word) ≡ is_new (row_in x.word)

news_stay : (is_new is_new' : ℕ → Bool) (h : ℕ) (v : Bool) (xs : List Span) → AllByRecursion (SameNews is_new is_new' h) xs → AllByRecursion (λ (x : Span). is_new (row_in x.word) ≡ v) xs → AllByRecursion (λ (x : Span). is_new' (row_in x.word) ≡ v) xs
news_stay is_new is_new' h v [] same all = tt
news_stay is_new is_new' h v (x ∷ xs) same all = (same.0 ∙ all.0, news_stay is_new is_new' h v xs same.1 all.1)

fewest_same : (is_new is_new' : ℕ → Bool) (kind : RowKind) (t t' : Table) (h : ℕ) (xs : List Span) → t'.width ≡ t.width → AllByRecursion (Shared t t' h) xs → AllByRecursion (SameNews is_new is_new' h) xs
    → AreFewestOf is_new t kind xs → AreFewestOf is_new' t' kind xs
fewest_same is_new is_new' kind t t' h xs width shared same few =
    let in_parts = subst (AllByRecursion (SameNews is_new is_new' h)) few.parts same in
    let behind = all_back (SameNews is_new is_new' h) few.front (few.new ++ few.back) in_parts in
    let shared_new = all_front (Shared t t' h) few.new few.back (all_back (Shared t t' h) few.front (few.new ++ few.back) (subst (AllByRecursion (Shared t t' h)) few.parts shared)) in
    record {
      front = few.front;
      new = few.new;
      back = few.back;
      parts = few.parts;
      new_rows = news_stay is_new is_new' h true few.new (all_front (SameNews is_new is_new' h) few.new few.back behind) few.new_rows;
      ahead = news_stay is_new is_new' h false few.front (all_front (SameNews is_new is_new' h) few.front (few.new ++ few.back) in_parts) few.ahead;
      behind = news_stay is_new is_new' h false few.back (all_back (SameNews is_new is_new' h) few.new few.back behind) few.behind;
      first = few.first;
      items = few.items;
      hold = expand_shared t t' few.new shared_new ∙ few.hold;
      fewest = subst (λ (w : Width). few.new ≢ [] → (ends : List ℕ) × IsCutOf w kind few.items ends × (length few.new ≡ length ends)) (sym width) few.fewest;
    }

-- what stands in the rows stays, and so do the fewest
pub fewest_later : (is_new is_new' : ℕ → Bool) (gapped : Bool) (t t' : Table) → t'.width ≡ t.width → (h : ℕ) (xs : List Span) → Levels (Shared t t') t h xs → Levels (SameNews is_new is_new') t h xs
    → FewestBelow is_new gapped t h xs → FewestBelow is_new' gapped t' h xs
fewest_later is_new is_new' gapped t t' width zero xs shared same few = fewest_same is_new is_new' (kind_on gapped zero) t t' zero xs width shared same few
fewest_later is_new is_new' gapped t t' width (suc h) xs shared same few = (
  fewest_same is_new is_new' (kind_on gapped (suc h)) t t' (suc h) xs width shared.0 same.0 few.0,
  subst (FewestBelow is_new' gapped t' h) (sym (expand_shared t t' xs shared.0)) (fewest_later is_new is_new' gapped t t' width h (expand t xs) shared.1 same.1 few.1),
)

-- rows of which none is new
pub none_new : (is_new : ℕ → Bool) (t : Table) (kind : RowKind) (xs : List Span) → AllByRecursion (λ (x : Span). is_new (row_in x.word) ≡ false) xs → AreFewestOf is_new t kind xs
none_new is_new t kind xs none = record { front = xs; new = []; back = []; parts = sym (append-nil xs); new_rows = tt; ahead = none; behind = tt; first = 0; items = []; hold = refl; fewest = λ some. absurd (some refl) }

-- items that fit in one row stand in one
pub one_row : (width : Width) (kind : RowKind) (items : List Item) → length items ≤ slots_of width kind → IsCutOf width kind items (length items ∷ [])
one_row width Leaf items few = record { leaf = true; is_leaf = λ _. refl; of_leaf = λ _. refl; cut = record { one = λ _. refl; more = λ many. absurd (omega arith) } }
one_row width Inner items few = record { leaf = false; is_leaf = λ leaf. absurd (cc); of_leaf = λ leaf. absurd (cc); cut = record { one = λ _. refl; more = λ many. absurd (omega arith) } }
one_row width Gapped items few = record { leaf = false; is_leaf = λ leaf. absurd (cc); of_leaf = λ leaf. absurd (cc); cut = record { one = λ _. refl; more = λ many. absurd (omega arith) } }

-- a new row alone on its level
pub one_new : (is_new : ℕ → Bool) (t : Table) (kind : RowKind) (x : Span) (lo : ℕ) (items : List Item) → is_new (row_in x.word) ≡ true → expand t (x ∷ []) ≡ spans_from lo items → length items ≤ slots_of t.width kind
    → AreFewestOf is_new t kind (x ∷ [])
one_new is_new t kind x lo items new hold few =
    record { front = []; new = x ∷ []; back = []; parts = refl; new_rows = (new, tt); ahead = tt; behind = tt; first = lo; items = items; hold = hold; fewest = λ _. (length items ∷ [], one_row t.width kind items few, refl) }
