use Rattle.mt_rows.proofs.Prelude.{ℕ, sym, subst, Store, acted, Slot, MayPublish, map_by}
use Rattle.mt_rows.proofs.ExactStore.{may_publish}
use Rattle.mt_rows.proofs.laws.an_exact_store_may_be_published.Goals as goal

pub returns : goal.returns
returns c = λ kind s h slot entry row col leaf item whole in_flight before live none_buried told width stands at is_row is_col old new free.
    subst (λ (r : ℕ × ℕ). MayPublish kind s (Slot r.0 r.1) entry (Store item.first item.last entry) (acted kind (map_by s.tree) (Store item.first item.last entry)).1) (λ i. (sym is_row i, sym is_col i))
    (may_publish kind s h slot entry leaf item whole live none_buried told width stands at old new free in_flight before)
