-- What a find tells of the ranges in its window, and a search of the room in it.
use Rattle.mt_verify.proofs.Prelude.{◌≡◌, ℕ, ◌≤◌, List, Option, Some, None, refl, sym, is_some, le-ltb, Range, Find, answer, found, is_held, is_held_where_met, is_start}

pub met_is : (m : List Range) (first last : ℕ) → first ≤ last → is_some (answer m (Find first last)) ≡ is_held m first last
met_is m first last order = rw (le-ltb last first order) (sym (is_held_where_met m first last))

pub start_is : (start : Option ℕ) → is_start (found start) ≡ is_some start
start_is None = refl
start_is (Some s) = refl
