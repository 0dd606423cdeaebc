-- Where rows end: beside a hole stands an entry, and where two or three rows are given, fewer would not do.
use Rattle.mt_leaf.proofs.Prelude.{◌≡◌, ◌≢◌, ℕ, zero, suc, ◌+◌, ◌-◌, ◌*◌, ◌/◌, ◌<◌, ◌≤◌, List, [], ◌∷◌, Bool, true, false, length, max, refl, sym, subst, arith, inl, inr, ◌∙◌, ⊎_elim, cases_Bool, cases_lt, Item, spans_from, Apart, Towards, word_of, IsEnd, IsLaterEnd, IsMovedEnd, IsPiece, ArePieces, IsCut, MeetAt, first_place, half_place, last_place}
use Rattle.mt_leaf.specs.declared.cuts.Towards.TheVariants as towards

-- in front of a hole stands an entry
full_before : (items : List Item) (first i : ℕ) → Apart (spans_from first items) → i + 1 < length items → word_of items (i + 1) ≡ 0 → word_of items i ≢ 0
full_before [] first i apart within hole = absurd (omega arith)
full_before (x ∷ []) first i apart within hole = absurd (omega arith)
full_before (x ∷ y ∷ items) first zero apart within hole = λ z. apart.0 z hole
full_before (x ∷ y ∷ items) first (suc i) apart within hole =
    let next : suc i + 1 ≡ suc (i + 1) = omega arith in
    full_before (y ∷ items) (x.last + 1) i apart.1 (omega arith) (rw next at hole)

-- and behind it
full_behind : (items : List Item) (first i : ℕ) → Apart (spans_from first items) → i + 1 < length items → word_of items i ≡ 0 → word_of items (i + 1) ≢ 0
full_behind items first i apart within hole = λ other. full_before items first i apart within other hole

moved : (leaf : Bool) (items : List Item) (end to : ℕ) → leaf ≡ true → word_of items (end - 1) ≡ 0 → (leaf ≡ true → word_of items (to - 1) ≢ 0) → IsMovedEnd leaf items end to
moved leaf items end to is hole full = record { full = full; kept = λ entry. absurd (entry hole); inner = λ other. absurd (other is) }

-- where the row would end with a hole it ends one item before
pub one_before : (leaf : Bool) (items : List Item) (end : ℕ) → 2 ≤ end → end < length items → (leaf ≡ true → Apart (spans_from 0 items)) → leaf ≡ true → word_of items (end - 1) ≡ 0
    → IsEnd leaf items end (end - 1)
one_before leaf items end some inside apart is hole =
    let before : end - 1 ≡ end - 1 - 1 + 1 = omega arith in
    record { most = omega arith; least = omega arith; moved = moved leaf items end (end - 1) is hole (λ l. full_before items 0 (end - 1 - 1) (apart l) (omega arith) (rw before at hole)) }

-- or one item behind
pub one_behind : (leaf : Bool) (items : List Item) (end : ℕ) → 1 ≤ end → end < length items → (leaf ≡ true → Apart (spans_from 0 items)) → leaf ≡ true → word_of items (end - 1) ≡ 0
    → IsLaterEnd leaf items end (end + 1)
one_behind leaf items end some inside apart is hole =
    let here : end - 1 + 1 ≡ end + 1 - 1 = omega arith in
    record { least = omega arith; most = omega arith; moved = moved leaf items end (end + 1) is hole (λ l. rw here at (full_behind items 0 (end - 1) (apart l) (omega arith) hole)) }

-- ---- where two rows meet

false_is_not_true : (b : Bool) → b ≡ false → b ≢ true
false_is_not_true b is = λ other. absurd (let both : false ≡ true = sym is ∙ other in cc)

-- a row that ends at the place itself shows that it was not moved
not_moved : (leaf : Bool) (items : List Item) (end to other : ℕ) → IsMovedEnd leaf items end to → (leaf ≡ true → word_of items (other - 1) ≢ 0) → other ≡ end → to ≡ end
not_moved leaf items end to other is full same = elim (cases_Bool leaf) [
  | inl t ↦ is.kept (subst (λ (n : ℕ). word_of items (n - 1) ≢ 0) same (full t))
  | inr n ↦ is.inner (false_is_not_true leaf n)
]

-- what is used of a place where two rows may meet
record Meets (leaf : Bool) (least most : ℕ) (items : List Item) (place : ℕ) : Type 0 where
  some : 0 < place
  many : least ≤ place
  rest : place + least ≤ length items
  inside : place < length items
  full : leaf ≡ true → word_of items (place - 1) ≢ 0
  only : most < max place (length items - place) → (a : ℕ) → IsPiece leaf least most items 0 a → IsPiece leaf least most items a (length items) → ⊥

module _ (leaf : Bool) (least most : ℕ) (items : List Item) (sizes : 2 * least + 2 ≤ most) (long : most < length items) where
  meets_first : (place : ℕ) → IsLaterEnd leaf items (first_place least most (length items)) place → Meets leaf least most items place
  meets_first place end =
      let low = end.least in let near = end.most in
      record {
        full = end.moved.full;
        some = omega arith;
        many = omega arith;
        rest = omega arith;
        inside = omega arith;
        only = λ more a front back.
            let few = front.few in let rest = back.few in let inside = back.some in
            let at : a ≡ first_place least most (length items) = omega arith in
            let same = not_moved leaf items (first_place least most (length items)) place a end.moved (λ l. front.full l inside) at in
            omega arith;
      }

  -- before a place of which no other serves that is cut in two rows
  meets_before : (end place : ℕ) → IsEnd leaf items end place → 1 < end → least < end → end < length items → end + least ≤ length items
      → ((a : ℕ) → most < max place (length items - place) → a ≤ most → length items - a ≤ most → (a ≡ end) × (place < end)) → Meets leaf least most items place
  meets_before end place is some many inside rest only =
      let low = is.most in let near = is.least in
      record {
        some = omega arith;
        many = omega arith;
        rest = omega arith;
        inside = omega arith;
        full = is.moved.full;
        only = λ more a front back.
            let at = only a more (omega (arith, front.few)) (omega (arith, back.few)) in
            let same = not_moved leaf items end place a is.moved (λ l. front.full l (omega (arith, back.some))) at.0 in
            omega (arith, at.1, same);
      }

  meets_middle : (place : ℕ) → IsEnd leaf items (half_place (length items)) place → Meets leaf least most items place
  meets_middle place end =
      let low = end.most in let near = end.least in
      meets_before (half_place (length items)) place end (omega arith) (omega arith) (omega arith) (omega arith) (λ a more few rest. (omega arith, omega arith))

  meets_last : (place : ℕ) → IsEnd leaf items (last_place least most (length items)) place → Meets leaf least most items place
  meets_last place end =
      let low = end.most in let near = end.least in
      meets_before (last_place least most (length items)) place end (omega arith) (omega arith) (omega arith) (omega arith) (λ a more few rest. (omega arith, omega arith))

  meets : (side : Towards) (place : ℕ) → MeetAt side leaf least most items place → Meets leaf least most items place
  meets towards.First place at = meets_first place at
  meets towards.Middle place at = meets_middle place at
  meets towards.Last place at = meets_last place at

-- no other two rows have fewer items at the end that the cut is made towards
refuted : (a b : ℕ) → (a < b → ⊥) → b ≤ a
refuted a b not = ⊎_elim (λ (less : a < b). absurd (not less)) (λ (more : b ≤ a). more) (cases_lt a b)

pub nearest_first : (leaf : Bool) (least most : ℕ) (items : List Item) (to other : ℕ) → MeetAt towards.First leaf least most items to → ArePieces leaf least most items 0 (other ∷ length items ∷ []) → to ≤ other
nearest_first leaf least most items to other at pieces =
    let many = pieces.0.many in let rest = pieces.1.0.few in let inside = pieces.1.0.some in let near = at.most in
    refuted other to (λ less. let here : other ≡ first_place least most (length items) = omega arith in let same = not_moved leaf items (first_place least most (length items)) to other at.moved (λ l. pieces.0.full l inside) here in omega arith)

pub nearest_last : (leaf : Bool) (least most : ℕ) (items : List Item) (to other : ℕ) → MeetAt towards.Last leaf least most items to → ArePieces leaf least most items 0 (other ∷ length items ∷ []) → other ≤ to
nearest_last leaf least most items to other at pieces =
    let few = pieces.0.few in let rest = pieces.1.0.many in let inside = pieces.1.0.some in let near = at.least in
    refuted to other (λ less. let here : other ≡ last_place least most (length items) = omega arith in let same = not_moved leaf items (last_place least most (length items)) to other at.moved (λ l. pieces.0.full l inside) here in omega arith)

-- ---- the cuts

module _ (leaf : Bool) (least most : ℕ) (items : List Item) (side : Towards) where
  not_one : most < length items → (others : List ℕ) → ArePieces leaf least most items 0 others → 2 ≤ length others
  not_one long [] pieces = let none : 0 ≡ length items = pieces in absurd (omega arith)
  not_one long (a ∷ []) pieces = let few = pieces.0.few in let end : a ≡ length items = pieces.1 in absurd (omega arith)
  not_one long (a ∷ b ∷ others) pieces = omega arith

  not_two : (place : ℕ) → most < length items → Meets leaf least most items place → most < max place (length items - place) → (others : List ℕ) → ArePieces leaf least most items 0 others → 3 ≤ length others
  not_two place long at more [] pieces = let none : 0 ≡ length items = pieces in absurd (omega arith)
  not_two place long at more (a ∷ []) pieces = let few = pieces.0.few in let all : a ≡ length items = pieces.1 in absurd (omega arith)
  not_two place long at more (a ∷ b ∷ []) pieces = absurd (at.only more a pieces.0 (subst (IsPiece leaf least most items a) pieces.1.1 pieces.1.0))
  not_two place long at more (a ∷ b ∷ c ∷ others) pieces = omega arith

  pub one_row : length items ≤ most → IsCut leaf least most items (length items ∷ [])
  one_row short = record { one = λ _. refl; more = λ long. absurd (omega arith) }

  pub two_rows : (place : ℕ) → 2 * least + 2 ≤ most → most < length items → MeetAt side leaf least most items place → max place (length items - place) ≤ most → IsCut leaf least most items (place ∷ length items ∷ [])
  two_rows place sizes long meet fits =
      let at = meets leaf least most items sizes long side place meet in
      let some = at.some in let many = at.many in let rest = at.rest in let inside = at.inside in
      record {
        one = λ short. absurd (omega arith);
        more = λ _. record {
          pieces = (
            record { some = omega arith; many = omega arith; few = omega arith; full = λ l _. at.full l },
            (record { some = omega arith; many = omega arith; few = omega arith; full = λ l past. absurd (omega arith) }, refl),
          );
          fewest = not_one long;
        };
      }

  pub three_rows : (place third thirds : ℕ) → 2 * least + 2 ≤ most → length items + 3 ≤ 3 * most → most < length items
      → MeetAt side leaf least most items place → most < max place (length items - place)
      → IsEnd leaf items ((length items + 2) / 3) third → IsEnd leaf items ((2 * length items + 2) / 3) thirds
      → IsCut leaf least most items (third ∷ thirds ∷ length items ∷ [])
  three_rows place third thirds sizes room long meet more one two =
      let at = meets leaf least most items sizes long side place meet in
      let low = one.most in let near = one.least in
      let high = two.most in let close = two.least in
      record {
        one = λ short. absurd (omega arith);
        more = λ _. record {
          pieces = (
            record { some = omega arith; many = omega arith; few = omega arith; full = λ l _. one.moved.full l },
            (
              record { some = omega arith; many = omega arith; few = omega arith; full = λ l _. two.moved.full l },
              (record { some = omega arith; many = omega arith; few = omega arith; full = λ l past. absurd (omega arith) }, refl),
            ),
          );
          fewest = not_two place long at more;
        };
      }
