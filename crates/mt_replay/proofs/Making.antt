-- The empty trees of a phase: each is of the kind that stands at its place.
use Rattle.mt_replay.proofs.Prelude.{◌≡◌, ℕ, suc, ◌+◌, ◌<◌, ◌≤◌, List, [], ◌∷◌, ◌++◌, Result, IfOk, length, take, drop, get_or, slice_range, arith, refl, sym, ap, ◌∙◌, subst, drop-cons, length-take, length-drop, ◌-◌, Vec, Global, Kind, Pass, Line, SharedTree, AreMade, BeginAs, IsMade, declared_kind, kinds_in}
use Rattle.mt_replay.proofs.LogPhases.{front_and_phase}

module _ {P T E : Type 0} (tree : T → SharedTree) (knows : P → Pass) (serves : T → P → Type 0) (many : T → ℕ) (rows passes : ℕ) where
  abbrev Are : List Kind → List (Result (T × Vec P Global) E) → Type 0
  Are kinds made = AreMade tree knows serves many rows passes kinds made

  -- by their places
  pub made_by_places : (kinds : List Kind) (made : List (Result (T × Vec P Global) E)) → length made ≡ length kinds → ((i : ℕ) (k : Kind) (m : Result (T × Vec P Global) E) → i < length kinds → IfOk (get_or made i m) (IsMade tree knows serves many rows passes (get_or kinds i k))) → Are kinds made
  made_by_places [] [] same each = tt
  made_by_places [] (m ∷ made) same each = absurd (omega (arith, same))
  made_by_places (kind ∷ kinds) [] same each = absurd (omega (arith, same))
  made_by_places (kind ∷ kinds) (m ∷ made) same each = (each 0 kind m (omega arith), made_by_places kinds made (omega (arith, same)) (λ i k n below. each (suc i) k n (omega (arith, below))))

  made_append : (kinds more : List Kind) (made next : List (Result (T × Vec P Global) E)) → Are kinds made → Are more next → Are (kinds ++ more) (made ++ next)
  made_append [] more [] next are also = also
  made_append [] more (m ∷ made) next are also = absurd are
  made_append (kind ∷ kinds) more [] next are also = absurd are
  made_append (kind ∷ kinds) more (m ∷ made) next are also = (are.0, made_append kinds more made next are.1 also)

  -- those of the next kinds behind them
  pub more_made : (kinds : List Kind) (from to : ℕ) (made next : List (Result (T × Vec P Global) E)) → from ≤ to → to ≤ length kinds → Are (take from kinds) made → Are (slice_range kinds from to) next → Are (take to kinds) (made ++ next)
  more_made kinds from to made next low high are also = subst (λ (ks : List Kind). Are ks (made ++ next)) (front_and_phase kinds from to low high) (made_append (take from kinds) (slice_range kinds from to) made next are also)

  -- the first of them, and the rest
  pub made_split : (kinds more : List Kind) (made : List (Result (T × Vec P Global) E)) → Are (kinds ++ more) made → BeginAs tree knows serves many rows passes kinds made × Are more (drop (length kinds) made)
  made_split [] more made are = (tt, are)
  made_split (kind ∷ kinds) more [] are = absurd are
  made_split (kind ∷ kinds) more (m ∷ made) are = let rest = made_split kinds more made are.1 in ((are.0, rest.0), rest.1)

  pub made_long : (kinds : List Kind) (made : List (Result (T × Vec P Global) E)) → Are kinds made → length made ≡ length kinds
  made_long [] [] are = refl
  made_long [] (m ∷ made) are = absurd are
  made_long (kind ∷ kinds) [] are = absurd are
  made_long (kind ∷ kinds) (m ∷ made) are = ap suc (made_long kinds made are.1)

  -- the first of them alone
  pub first_there : (kind : Kind) (made : List (Result (T × Vec P Global) E)) → BeginAs tree knows serves many rows passes (kind ∷ []) made → 0 < length made
  first_there kind [] are = absurd are
  first_there kind (m ∷ made) are = omega arith

  pub first_made : (kind : Kind) (made : List (Result (T × Vec P Global) E)) (m : Result (T × Vec P Global) E) (left : List (Result (T × Vec P Global) E)) → BeginAs tree knows serves many rows passes (kind ∷ []) made → made ≡ m ∷ left → IfOk m (IsMade tree knows serves many rows passes kind)
  first_made kind made m left are is = (subst (BeginAs tree knows serves many rows passes (kind ∷ [])) is are).0

  -- those of a line, and of the lines behind it
  pub line_made : (lines : List Line) (at : ℕ) (line : Line) (made : List (Result (T × Vec P Global) E)) → at < length lines → line ≡ get_or lines at line → Are (kinds_in (drop at lines)) made
      → BeginAs tree knows serves many rows passes (declared_kind line.item) made × Are (kinds_in (drop (at + 1) lines)) (drop (length (declared_kind line.item)) made)
  line_made lines at line made within is are =
      let here : drop at lines ≡ line ∷ drop (suc at) lines = drop-cons lines at line within ∙ ap (λ (x : Line). x ∷ drop (suc at) lines) (sym is) in
      let next : suc at ≡ at + 1 = omega arith in
      made_split (declared_kind line.item) (kinds_in (drop (at + 1) lines)) made (subst (λ (n : ℕ). Are (declared_kind line.item ++ kinds_in (drop n lines)) made) next (subst (λ (ls : List Line). Are (kinds_in ls) made) here are))

pub slice_long : {X : Type 0} (xs : List X) (from to : ℕ) → from ≤ to → to ≤ length xs → length (slice_range xs from to) + from ≡ to
slice_long xs from to low high = omega (arith, low, high, length-take (to - from) (drop from xs), length-drop from xs)
