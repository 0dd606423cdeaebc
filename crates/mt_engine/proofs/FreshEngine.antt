-- Rows and a book of which nothing was used yet make an engine.
use Rattle.mt_engine.proofs.Prelude.{◌≡◌, ℕ, zero, suc, length, refl, ap, arith, All-nil, Kind, kind_width, StampedRow, IsBook, new_book, rows_down, Dead, new_sheet, life_of, fresh_is_ready, IsIdle}

length-rows_down : (n : ℕ) → length (rows_down n) ≡ n
length-rows_down zero = refl
length-rows_down (suc n) = ap suc (length-rows_down n)

pub fresh_is_idle : (kind : Kind) (n : ℕ) → IsBook (new_book n) → IsIdle kind (new_sheet (kind_width kind) n) (new_book n)
fresh_is_idle kind n sound =
    let ready = fresh_is_ready kind n sound in
    record {
      idle = refl;
      state = record {
        told = ready.told;
        kept = ready.kept;
        held = All-nil (λ (h : StampedRow). life_of (new_sheet (kind_width kind) n).lives h.row ≡ Dead h.stamp);
        grown = let all = length-rows_down n in omega arith;
      };
    }
