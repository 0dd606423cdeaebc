-- The rows and the book after a scan, when the held rows that no section holds are free.
use Rattle.mt_engine.proofs.Prelude.{◌≡◌, ℕ, ◌+◌, ◌≤◌, refl, sym, ap, ◌∙◌, subst, arith, min, All-weaker, Kind, Book, after_reclaim, out_after_reclaim, Scan, Sheet, IsScan, life_of, scanned, WasScanned, IsBookOf, IsUnheld, IsEngineState, IsScanned}
use Rattle.mt_engine.proofs.Reclaims.{Freed, spare_rises, reclaimed}

-- a scan was made, however many there were
pub was_scanned : (s : Sheet) (answer : Scan) (cleared : ℕ) → WasScanned (scanned s answer cleared)
was_scanned s answer cleared = omega arith

-- the first one
pub first_scan : (s : Sheet) (answer : Scan) (cleared : ℕ) → s.scans ≡ 0 → (scanned s answer cleared).scans ≤ 1
first_scan s answer cleared none = omega arith

module _ (kind : Kind) (s : Sheet) (answer : Scan) (cleared : ℕ) (book : Book) (is : IsEngineState kind s book) (rises : s.cleared ≤ cleared) (reach : min answer.least s.ended ≤ cleared) where
  abbrev after : Sheet
  after = scanned s answer cleared

  abbrev freed : Book
  freed = after_reclaim book answer.least

  none_freed : Freed s.lives s.ended cleared book book
  none_freed = record {
    sound = is.kept.booked.sound;
    rows = refl;
    counted = refl;
    fewer = omega arith;
    out = λ row out. out;
    spare = All-weaker (λ row. IsUnheld s.cleared (life_of s.lives row)) (λ row. IsUnheld cleared (life_of s.lives row)) (λ row spare. spare_rises s.cleared cleared (life_of s.lives row) rises spare) book.free is.kept.booked.spare;
    dead = λ k d within. record { dead = is.held k d within; ended = (let below = is.kept.booked.stamps k d within in omega (arith, below)) };
  }

  all_freed : Freed s.lives s.ended cleared book freed
  all_freed = reclaimed s.lives s.ended cleared answer.least reach book none_freed

  booked : IsBookOf s.tree s.lives cleared freed (s.ended + 1)
  booked = record {
    sound = all_freed.sound;
    rows = is.kept.booked.rows;
    out = λ row from below out. is.kept.booked.out row from below (all_freed.out row out);
    reached = λ row at. out_after_reclaim book answer.least row (is.kept.booked.reached row at);
    spare = all_freed.spare;
    stamps = λ k d within. (let ended = (all_freed.dead k d within).ended in omega (arith, ended));
  }

  state_after : IsEngineState kind after freed
  state_after = record {
    told = is.told;
    kept = record { lawful = is.kept.lawful; live = is.kept.live; none_buried = is.kept.none_buried; booked = booked };
    held = λ k d within. (all_freed.dead k d within).dead;
    grown = (let grown = is.grown in let counted = all_freed.counted in let fewer = all_freed.fewer in let most = is.kept.booked.sound.counted in omega (arith, grown, counted, fewer, most));
  }

pub is_scanned : (kind : Kind) (s s' : Sheet) (answer : Scan) (book next : Book) → IsEngineState kind s book → s' ≡ scanned s answer s'.cleared → IsScan s.shared s.told answer → s.cleared ≤ s'.cleared → min answer.least s.ended ≤ s'.cleared → next ≡ after_reclaim book answer.least → IsScanned kind s s' book next
is_scanned kind s s' answer book next is rest found rises reach freed = record {
  rest = rest ∙ ap (λ (a : Scan). scanned s a s'.cleared) (sym same);
  answer = subst (IsScan s.shared s.told) (sym same) found;
  rises = rises;
  freed = freed ∙ ap (λ (a : Scan). after_reclaim book a.least) (sym same);
  state =
      subst (λ (b : Book). IsEngineState kind s' b) (sym freed)
      (subst (λ (x : Sheet). IsEngineState kind x (after_reclaim book answer.least)) (sym rest) (state_after kind s answer s'.cleared book is rises reach));
}
  where
    same : s'.scan ≡ answer
    same = ap (λ (x : Sheet). x.scan) rest
