-- How a tree uses its rows, read off its parts.
use Rattle.mt_c.proofs.Prelude.{◌≡◌, ◌∙◌, ℕ, Option, Some, None, length, refl, sym, ap, subst, Kind, Book, live_count, Sheet, IsIdle, Parts, HasHeight, live_rows, live_as, OutStats, IsAsked, OwnTree, HasStats, TellsTree, no_stats}

-- rows that were taken out of an engine are as high as its tree
pub still_high : (e s : Sheet) (height : ℕ) → s ≡ e → HasHeight e.tree height → HasHeight s.tree height
still_high e s height same high = subst (λ (x : Sheet). HasHeight x.tree height) (sym same) high

pub tells_tree : (e : Parts) (s : Sheet) (book : Book) (kind : Kind) (told : OutStats) → s ≡ e.sheet → book ≡ e.book → IsIdle kind s book → told.rows ≡ s.tree.rows → told.free ≡ length book.free → told.live ≡ live_count book → told.held ≡ length book.held
    → HasHeight e.sheet.tree told.height → told.calls ≡ e.sheet.ended → TellsTree e told
tells_tree e s book kind told taken booked idle rows free live held high calls = record {
  rows = rows ∙ ap (λ (x : Sheet). x.tree.rows) taken;
  free = free ∙ ap (λ (b : Book). length b.free) booked;
  live = live ∙ (live_as kind e.sheet s book taken idle ∙ ap (λ (x : Sheet). live_rows x.tree) taken);
  held = held ∙ ap (λ (b : Book). length b.held) booked;
  height = high;
  calls = calls;
}

-- of an engine by whichever name
pub stats_there : (e t : Parts) (told : OutStats) → TellsTree e told → e ≡ t → TellsTree t told
stats_there e t told tells same = subst (λ (x : Parts). TellsTree x told) same tells

-- ---- what C is told

pub stats_open : (before after : Option OwnTree) (t t' : OwnTree) (status : ℕ) (told : OutStats) → before ≡ Some t → after ≡ Some t' → IsAsked t.engine t'.engine → status ≡ 0 → TellsTree t.engine told → HasStats before after status told
stats_open before after t t' status told was is asked number tells = subst (λ (x : Option OwnTree × Option OwnTree). HasStats x.0 x.1 status told) (λ i. (sym was i, sym is i)) (asked, number, tells)

pub stats_closed : (before after : Option OwnTree) (status : ℕ) (told : OutStats) → before ≡ None → after ≡ None → status ≡ 9 → told ≡ no_stats → HasStats before after status told
stats_closed before after status told was is number none = subst (λ (x : Option OwnTree × Option OwnTree). HasStats x.0 x.1 status told) (λ i. (sym was i, sym is i)) (refl, number, none)
