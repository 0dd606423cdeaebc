-- What the freeing of held rows that were replaced early enough leaves of a book.
use Rattle.mt_engine.proofs.Prelude.{◌≡◌, ℕ, ◌+◌, ◌<◌, ◌≤◌, List, [], ◌∷◌, ◌++◌, true, length, map, nat_le, nat_lt, sym, subst, inl, inr, arith, append-nil, length-append, min, All, cases_Bool, leb-true, leb-false, ltb-true, All-head, All-tail, All-push, All-weaker, Contains-append_left, Contains-append_right, Contains-append_cases, filter_passes, StampedRow, Book, IsBook, IsOut, still_held, after_reclaim, book, reclaim_leaves_book, first_due, none_due, Life, New, Draft, Live, Dead, life_of, IsUnheld}

-- the held row died by the call that the book tells, which has ended
pub record DiedBy (lives : List Life) (all : ℕ) (h : StampedRow) : Type 0 where
  pub dead : life_of lives h.row ≡ Dead h.stamp
  pub ended : h.stamp ≤ all

-- what holds on while one held row after another is freed
pub record Freed (lives : List Life) (all cleared : ℕ) (was b : Book) : Type 0 where
  pub sound : IsBook b
  pub rows : b.rows ≡ was.rows
  pub counted : length b.free + length b.held ≡ length was.free + length was.held
  pub fewer : length b.held ≤ length was.held
  pub out : (row : ℕ) → IsOut b row → IsOut was row
  pub spare : All (λ row. IsUnheld cleared (life_of lives row)) b.free
  pub dead : All (DiedBy lives all) b.held

pub spare_rises : (was cleared : ℕ) (life : Life) → was ≤ cleared → IsUnheld was life → IsUnheld cleared life
spare_rises was cleared New rises spare = tt
spare_rises was cleared Draft rises spare = spare
spare_rises was cleared Live rises spare = spare
spare_rises was cleared (Dead call) rises spare = omega (arith, rises, spare)

out_before : (rows : ℕ) (free : List ℕ) (h : StampedRow) (held : List StampedRow) (row : ℕ) → IsOut (book rows (free ++ h.row ∷ []) held) row → IsOut (book rows free (h ∷ held)) row
out_before rows free h held row out = record {
  here = out.here;
  not_free = λ c. out.not_free (Contains-append_left free (h.row ∷ []) row c);
  not_held = λ c. elim (Contains-append_cases (h.row ∷ []) (map (λ g. g.row) held) row c) [
    | inl first ↦ out.not_free (Contains-append_right free (h.row ∷ []) row first)
    | inr rest ↦ out.not_held rest
  ];
}

module _ (lives : List Life) (all cleared least : ℕ) (reach : min least all ≤ cleared) (was : Book) where
  one_freed : (rows : ℕ) (free : List ℕ) (h : StampedRow) (held : List StampedRow) → h.stamp ≤ least → Freed lives all cleared was (book rows free (h ∷ held)) → Freed lives all cleared was (book rows (free ++ h.row ∷ []) held)
  one_freed rows free h held due k =
      let first : DiedBy lives all h = All-head (DiedBy lives all) h held k.dead in
      record {
        sound = reclaim_leaves_book rows free h held k.sound;
        rows = k.rows;
        counted = omega (arith, k.counted, length-append free (h.row ∷ []));
        fewer = (let more = k.fewer in omega arith);
        out = λ row out. k.out row (out_before rows free h held row out);
        spare = All-push (λ row. IsUnheld cleared (life_of lives row)) free h.row k.spare (subst (λ (l : Life). IsUnheld cleared l) (sym first.dead) (let ended = first.ended in omega (arith, ended, due, reach)));
        dead = All-tail (DiedBy lives all) h held k.dead;
      }

  by_recursion : (rows : ℕ) (free : List ℕ) (held : List StampedRow) → Freed lives all cleared was (book rows free held) → Freed lives all cleared was (after_reclaim (book rows free held) least)
  by_recursion rows free [] k = rw append-nil k
  by_recursion rows free (h ∷ held) k = elim (cases_Bool (nat_le h.stamp least)) [
    | inl is_due ↦
        let due : h.stamp ≤ least = leb-true h.stamp least is_due in
        subst (λ (b : Book). Freed lives all cleared was b) (first_due rows free h held least due) (by_recursion rows (free ++ h.row ∷ []) held (one_freed rows free h held due k))
    | inr not_due ↦
        let later : least < h.stamp = leb-false h.stamp least not_due in
        subst (λ (b : Book). Freed lives all cleared was b) (sym (none_due (book rows free (h ∷ held)) least k.sound later).1) k
  ]

  pub reclaimed : Freed lives all cleared was was → Freed lives all cleared was (after_reclaim was least)
  reclaimed k = by_recursion was.rows was.free was.held k

-- the held rows left were replaced later
pub left_later : (least : ℕ) (held : List StampedRow) → All (λ (h : StampedRow). least < h.stamp) (still_held least held)
left_later least held = All-weaker (λ (h : StampedRow). nat_lt least h.stamp ≡ true) (λ (h : StampedRow). least < h.stamp) (λ h is. ltb-true least h.stamp is) (still_held least held) (filter_passes (λ (h : StampedRow). nat_lt least h.stamp) held)
