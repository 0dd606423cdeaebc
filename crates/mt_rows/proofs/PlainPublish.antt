-- What a publishing store leaves: the rows that are reached are live, and the buried rows are dead.
use Rattle.mt_rows.proofs.Prelude.{◌≡◌, ℕ, ◌+◌, ◌<◌, ◌≤◌, ◌==◌, List, Bool, true, false, refl, sym, ap, ◌∙◌, inl, inr, arith, nat_lt, slice_index_or, if◌then◌else◌, cases_lt, le-leb, le-ltb, lt-ltb, Kind, Call, Reply, first_row, Place, Fate, New, Draft, Live, Buried, State, one_if, tally, reached_in, Sheet, Rooted, life_of, is_buried, is_reached, with_published, with_record, life_after, MayPublish, Published, life_in, buried_in, past_of, fate_of, sheet_of, IsPlainState, Fated, enlivened}
use Rattle.mt_rows.specs.declared.rows.Life.TheVariants as lives
use Rattle.mt_rows.proofs.PlainFates.{one_at_most, life_told, buried_told}
use Rattle.mt_rows.proofs.PlainPlant.{enlivened_length, enlivened_fate, enlivened_or_kept}
use Rattle.mt_rows.proofs.Published.{published_rows}

-- ---- fates once the call has published

unreached_life : (past ended : ℕ) (f : Fate) → past ≡ ended → ((call : ℕ) → f ≡ Buried call → call ≤ ended + 1) → life_in (ended + 1) f ≡ (if buried_in past f then lives.Dead (ended + 1) else life_in past f)
unreached_life past ended New is low = refl
unreached_life past ended Draft is low = refl
unreached_life past ended Live is low = refl
unreached_life past ended (Buried call) is low =
    let most = low call refl in
    elim (cases_lt past call) [
      | inl above ↦ let last : call ≡ ended + 1 = omega arith in rw (le-leb call (ended + 1) most, lt-ltb past call above) (ap (λ (n : ℕ). lives.Dead n) last)
      | inr below ↦ rw (le-leb call (ended + 1) most, le-ltb past call below, le-leb call past below) refl
    ]

none_buried : (ended : ℕ) (f : Fate) → ((call : ℕ) → f ≡ Buried call → call ≤ ended + 1) → buried_in (ended + 1) f ≡ false
none_buried ended New low = refl
none_buried ended Draft low = refl
none_buried ended Live low = refl
none_buried ended (Buried call) low = le-ltb (ended + 1) call (low call refl)

-- ---- the rows then

-- the fates once the rows are live that are reached
abbrev pub lively : State → Fated
lively p = record p.fates { items = enlivened p.fates.items (reached_in (sheet_of p).tree.table p.root) }

abbrev pub published : State → State
published p = record p { fates = lively p; published = true }

-- p is what the sheet tells, with the word stored
module _ (p : State) (s : Sheet) (kind : Kind) (place : Place) (word : ℕ) (call : Call) (reply : Reply) (plain : IsPlainState p) (is : sheet_of p ≡ record s { tree = with_published s.tree place word })
    (may : MayPublish kind s place word call reply) where
  abbrev after : Rooted
  after = with_published s.tree place word

  abbrev reached : List ℕ
  reached = reached_in (sheet_of p).tree.table p.root

  silent : p.published ≡ false
  silent = ap (λ (s : Sheet). s.published) is ∙ may.before

  past_is : past_of p ≡ p.ended
  past_is = ap (λ (b : Bool). p.ended + one_if b) silent ∙ omega arith

  lives_are : (row : ℕ) → life_of s.lives row ≡ life_in (past_of p) (fate_of p row)
  lives_are row = sym (ap (λ (s : Sheet). life_of s.lives row) is) ∙ life_told p row

  buried_are : (row : ℕ) → is_buried s.buried row ≡ buried_in (past_of p) (fate_of p row)
  buried_are row = sym (ap (λ (s : Sheet). is_buried s.buried row) is) ∙ buried_told p row

  low : (row call : ℕ) → fate_of p row ≡ Buried call → call ≤ p.ended + 1
  low row call at = let most = (plain.buried row call at).2 in omega (arith, one_at_most p.in_flight)

  buried_stays : (row call : ℕ) → slice_index_or (enlivened p.fates.items reached) row New ≡ Buried call → fate_of p row ≡ Buried call
  buried_stays row call at = elim (enlivened_or_kept reached p.fates.items row) [ inl live ↦ absurd (cc) | inr kept ↦ sym kept ∙ at ]

  pub published_plain : IsPlainState (published p)
  published_plain = record {
    few = plain.few;
    words = plain.words;
    fates = enlivened_length reached p.fates.items ∙ plain.fates;
    cleared = plain.cleared;
    room = plain.room;
    calm = λ idle. let in_flight : p.in_flight ≡ true = ap (λ (s : Sheet). s.in_flight) is ∙ may.in_flight in absurd (cc);
    buried = λ row call at. plain.buried row call (buried_stays row call at);
    fresh = λ row first idle empty alive. let in_flight : p.in_flight ≡ true = ap (λ (s : Sheet). s.in_flight) is ∙ may.in_flight in absurd (cc);
  }

  fate_low : (row call : ℕ) → slice_index_or (enlivened p.fates.items reached) row New ≡ Buried call → call ≤ p.ended + 1
  fate_low row call at = low row call (buried_stays row call at)

  ended_is : p.ended ≡ s.ended
  ended_is = ap (λ (s : Sheet). s.ended) is

  reached_is : (row : ℕ) → nat_lt 0 (tally (λ (r : ℕ). r == row) reached) ≡ is_reached after row
  reached_is row = ap (λ (s : Sheet). is_reached s.tree row) is

  lives_after : (row : ℕ) → row < first_row + s.tree.rows → life_in (p.ended + 1) (slice_index_or (enlivened p.fates.items reached) row New) ≡ life_after s after row
  lives_after row within =
      let rows : p.rows ≡ s.tree.rows = ap (λ (s : Sheet). s.tree.rows) is ∙ published_rows s.tree place word in
      let size = plain.fates in
      ap (life_in (p.ended + 1)) (enlivened_fate reached p.fates.items row (omega arith) ∙ ap (λ (b : Bool). if b then Live else fate_of p row) (reached_is row)) ∙ by (is_reached after row)
    where
      by : (b : Bool) → life_in (p.ended + 1) (if b then Live else fate_of p row) ≡ (if b then lives.Live else (if is_buried s.buried row then lives.Dead (s.ended + 1) else life_of s.lives row))
      by true = refl
      by false = unreached_life (past_of p) p.ended (fate_of p row) past_is (low row) ∙ (λ i. if sym (buried_are row) i then lives.Dead (ended_is i + 1) else sym (lives_are row) i)

  pub published_is : Published s (sheet_of (published p)) place word call reply
  published_is = record {
    rest = λ i. record (is i) { published = true; lives = (sheet_of (published p)).lives; buried = (sheet_of (published p)).buried; told = with_record (is i).told call reply };
    lives = λ row first within. life_told (published p) row ∙ lives_after row within;
    buried = λ row first within. buried_told (published p) row ∙ none_buried p.ended (slice_index_or (enlivened p.fates.items reached) row New) (fate_low row);
  }
