-- What a call leaves is a map of the same kind.
use Rattle.mt_list.proofs.Prelude.{◌≡◌, ℕ, ◌+◌, ◌-◌, ◌≤◌, false, List, Option, Some, None, OnSome, IfSome, IfNone, arith, sym, subst, Kind, Range, greatest_of, low, high, is_bad_area, IsMap, over, without, over_is_map, without_is_map, stored_area, low_is_room, high_is_room}

-- after an entry was put over some indexes
pub put_is_map : (kind : Kind) (m after : List Range) (first last entry : ℕ) → first ≤ last → last ≤ greatest_of kind → IsMap kind m → after ≡ over m first last entry → IsMap kind after
put_is_map kind m after first last entry order within ordered is = subst (IsMap kind) (sym is) (over_is_map kind m first last entry order within ordered)

-- after an erase that gave this
pub erased_is_map : (kind : Kind) (m after : List Range) (index : ℕ) (erased : Option Range) → IsMap kind m → OnSome erased (after ≡ without m index) → IfNone erased (after ≡ m) → IsMap kind after
erased_is_map kind m after index None ordered some none = subst (IsMap kind) (sym none) ordered
erased_is_map kind m after index (Some r) ordered some none = subst (IsMap kind) (sym some) (without_is_map kind m index ordered)

-- an area at a start that a search found ends at the greatest index or below
pub low_fits : (kind : Kind) (m : List Range) (size lo hi entry : ℕ) (start : Option ℕ) → is_bad_area kind size lo hi entry ≡ false → IsMap kind m → start ≡ low kind m size lo hi → IfSome start (λ s. s + size ≤ greatest_of kind + 1)
low_fits kind m size lo hi entry None valid ordered is = tt
low_fits kind m size lo hi entry (Some s) valid ordered is =
    let area = stored_area kind size lo hi entry valid in
    omega (arith, area.within, (low_is_room kind m size lo hi s ordered area.some (sym is)).to)

pub high_fits : (kind : Kind) (m : List Range) (size lo hi entry : ℕ) (start : Option ℕ) → is_bad_area kind size lo hi entry ≡ false → IsMap kind m → start ≡ high kind m size lo hi → IfSome start (λ s. s + size ≤ greatest_of kind + 1)
high_fits kind m size lo hi entry None valid ordered is = tt
high_fits kind m size lo hi entry (Some s) valid ordered is =
    let area = stored_area kind size lo hi entry valid in
    omega (arith, area.within, (high_is_room kind m size lo hi s ordered area.some (sym is)).to)
