-- The height that is kept is right while the tree's words are as they were.
use Rattle.mt_engine.proofs.Prelude.{◌≡◌, ℕ, sym, ap, ◌∙◌, subst, Kind, Book, Rooted, Sheet, OnlyReads, height_in, IsIdle, HasHeight, IsMeasured, IsScanned}

-- ---- where words were only loaded

pub measured_if_read : (kind : Kind) (s s' : Sheet) (book : Book) (height : ℕ) → OnlyReads s s' → IsMeasured kind s book height → IsMeasured kind s' book height
measured_if_read kind s s' book height reads is = subst (λ (x : Sheet). IsMeasured kind x book height) (sym reads) (record { idle = is.idle; measured = is.measured })

pub measured_first : (kind : Kind) (s s' : Sheet) (book : Book) (height : ℕ) → IsIdle kind s book → OnlyReads s s' → HasHeight s.tree height → IsMeasured kind s' book height
measured_first kind s s' book height idle reads has = measured_if_read kind s s' book height reads (record { idle = idle; measured = has })

-- ---- where rows were scanned

pub measured_scanned : (kind : Kind) (s s' : Sheet) (book book' : Book) (height : ℕ) → IsMeasured kind s book height → IsScanned kind s s' book book' → IsMeasured kind s' book' height
measured_scanned kind s s' book book' height is found = record {
  idle = record { idle = ap (λ (x : Sheet). x.in_flight) found.rest ∙ is.idle.idle; state = found.state };
  measured = is.measured ∙ sym (ap (λ (x : Sheet). height_in x.tree.table x.tree.root) found.rest);
}

-- ---- of the empty tree

pub empty_height : (t : Rooted) → t.root ≡ 0 → HasHeight t 0
empty_height t empty = sym (ap (height_in t.table) empty)
