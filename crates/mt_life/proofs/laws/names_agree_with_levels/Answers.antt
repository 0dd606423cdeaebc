use Rattle.mt_life.proofs.Prelude.{◌≡◌, ℕ, Some, sym, ap, ◌∙◌, Kind, row_in, named_kind, Span, Life, kind_at, all_map, Extent, State, spans_at, IsLive, Later, Child}
use Rattle.mt_life.proofs.laws.names_agree_with_levels.Goals as goal

-- a child is named as one of its level, and stands there
agrees : (kind : Kind) (s : State) (e : ℕ → Extent) (L : Life → Type 0) (level : ℕ) (y : Span) → Child kind s.tree.rows s.lives e L level y → (named_kind y.word ≡ Some (kind_at kind level)) × ((e (row_in y.word)).level ≡ level)
agrees kind s e L level y child = (child.named, ap (λ (n : Extent). n.level) child.extent)

pub returns : goal.returns
returns c = record {
  root = λ kind s e m known some.
      let child = (known.root some).2 in
      child.named ∙ ap (λ (n : Extent). Some (kind_at kind n.level)) (sym child.extent);
  live = λ kind s e m row level known has live inner.
      all_map (Child kind s.tree.rows s.lives e IsLive level) (λ (y : Span). (named_kind y.word ≡ Some (kind_at kind level)) × ((e (row_in y.word)).level ≡ level)) (agrees kind s e IsLive level) (spans_at kind s.tree.table row (e row))
      (known.live_inner row level has live inner);
  dead = λ kind s e m row level d known has dead waits inner.
      all_map (Child kind s.tree.rows s.lives e (Later d) level) (λ (y : Span). (named_kind y.word ≡ Some (kind_at kind level)) × ((e (row_in y.word)).level ≡ level)) (agrees kind s e (Later d) level) (spans_at kind s.tree.table row (e row))
      (known.dead_inner row level d has dead waits inner);
}
