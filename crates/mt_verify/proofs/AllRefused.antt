-- In every run that is told so the trees are those that were gone through: where that goes no further, there is no run.
use Rattle.mt_verify.proofs.Prelude.{◌≡◌, ℕ, zero, suc, ◌<◌, ◌≤◌, List, [], ◌∷◌, ◌++◌, Some, length, drop, slice_get, refl, sym, ap, ◌∙◌, subst, arith, flat_map, append_assoc, take_all, same_Some, slice_get_within, Kind, Range, History, last_map, map_at, most_rows, Log, Listing, Transcript, IsRunBy, OpensAs, Step, listings_of, listing_text, Declared, Opening, Empty, CopyOf, trees_of, ToldLine, HaveGoneTo, IsGoneTree, IsToldRun, OpensGone, listing_by, listings_by, CannotGo, GoneTree, gone_map, AreHeard, map_of_noted, CopiesEarlier}
use Rattle.mt_verify.specs.ToldReads.{calls_of_phases_before as calls_before_told}
use Rattle.mt_verify.proofs.Answered.{heard_maps}
use Rattle.mt_verify.proofs.OwnStops.{as_many_noted}
use Rattle.mt_verify.proofs.RefusedTrees.{as_many_before, can_go}
use Rattle.mt_verify.proofs.Runs.{some_at}
use Rattle.mt_verify.proofs.ToldRuns.{as_many_calls, heard_so}

-- a history is that of a tree that was gone through
pub record IsHistoryOf (version : ℕ) (g : GoneTree) (h : History) : Type 0 where
  pub kind : h.kind ≡ g.kind
  pub opening : h.opening ≡ g.opening
  pub heard : AreHeard version g.noted h.records

-- its maps are those of the tree
pub maps_are_of : (version : ℕ) (g : GoneTree) (h : History) (k : ℕ) → IsHistoryOf version g h → map_at h k ≡ gone_map g k
maps_are_of version g h k is = heard_maps version h g.noted k is.heard ∙ (λ i. map_of_noted (is.kind i) (is.opening i) g.noted k)

-- ---- lists

append_same : (xs ys zs : List ℕ) → xs ++ ys ≡ xs ++ zs → ys ≡ zs
append_same [] ys zs same = same
append_same (x ∷ xs) ys zs same = append_same xs ys zs (cc)

dropped : {X : Type 0} (xs : List X) (i : ℕ) (x : X) → slice_get xs i ≡ Some x → drop i xs ≡ x ∷ drop (suc i) xs
dropped [] i x at = absurd (cc)
dropped (y ∷ xs) zero x at = ap (λ z. z ∷ xs) (same_Some y x at)
dropped (y ∷ xs) (suc i) x at = dropped xs i x at

nothing : {X : Type 0} (xs : List X) (i : ℕ) → length xs ≤ i → drop i xs ≡ []
nothing [] zero past = refl
nothing [] (suc i) past = refl
nothing (x ∷ xs) zero past = absurd (omega (arith, past))
nothing (x ∷ xs) (suc i) past = nothing xs i (omega (arith, past))

-- listings of trees, of which the first are listed otherwise as well
split_listings : (declared : List Declared) (trees : List History) (gone : List GoneTree)
    → ((i : ℕ) (d : Declared) (h : History) (g : GoneTree) → slice_get declared i ≡ Some d → slice_get trees i ≡ Some h → slice_get gone i ≡ Some g → record { name = d.tree.name; kind = d.tree.kind; ranges = last_map h } ≡ listing_by d g)
    → length trees ≡ length declared → length gone ≤ length trees
    → flat_map listing_text (listings_of declared trees) ≡ flat_map listing_text (listings_by declared gone) ++ flat_map listing_text (listings_of (drop (length gone) declared) (drop (length gone) trees))
split_listings [] trees [] same many enough = refl
split_listings (d ∷ declared) trees [] same many enough = refl
split_listings [] [] (g ∷ gone) same many enough = absurd (omega (arith, enough))
split_listings [] (h ∷ trees) (g ∷ gone) same many enough = absurd (omega (arith, many))
split_listings (d ∷ declared) [] (g ∷ gone) same many enough = absurd (omega (arith, enough))
split_listings (d ∷ declared) (h ∷ trees) (g ∷ gone) same many enough =
    let rest = split_listings declared trees gone (λ i e k f of at here. same (suc i) e k f of at here) (omega (arith, many)) (omega (arith, enough)) in
    let head = same 0 d h g refl refl refl in
    (λ k. listing_text (head k) ++ rest k)
    ∙ sym (append_assoc (listing_text (listing_by d g)) (flat_map listing_text (listings_by declared gone)) (flat_map listing_text (listings_of (drop (length gone) declared) (drop (length gone) trees))))

module _ (log : Log) (rows : ℕ) (told : List ToldLine) (behind : List ℕ) (gone : List GoneTree) (rest : List ℕ) (to : HaveGoneTo log rows told behind gone rest) (few : rows ≤ most_rows) (earlier : CopiesEarlier (trees_of log.lines))
    (t : Transcript) (steps : List Step) (trees : List History) (is : IsToldRun log rows told behind t steps trees) where
  run : IsRunBy log rows t steps trees
  run = is.run

  -- each declared tree has a history, and each history is of a declared tree
  declared_at : (tree : ℕ) (h : History) → slice_get trees tree ≡ Some h → (d : Declared) × (slice_get (trees_of log.lines) tree ≡ Some d)
  declared_at tree h at = some_at (trees_of log.lines) tree (omega (arith, slice_get_within trees tree h at, run.count))

  abbrev Alike : ℕ → Type 0
  Alike tree = (g : GoneTree) (h : History) → slice_get gone tree ≡ Some g → slice_get trees tree ≡ Some h → IsHistoryOf log.version g h

  -- a tree opens as the history does, where the trees that are declared before it were gone through so
  pub opens_same : (tree : ℕ) (d : Declared) (g : GoneTree) (h : History) → ((source : ℕ) → source < tree → Alike source) → slice_get (trees_of log.lines) tree ≡ Some d → slice_get trees tree ≡ Some h
      → g.kind ≡ d.tree.kind → OpensGone told gone d.opening g → (h.kind ≡ g.kind) × (h.opening ≡ g.opening)
  opens_same tree d g h lower at is_at kind opening =
      let o = run.opened tree d h at is_at in
      (o.kind ∙ sym kind, by_opening d.opening refl o.opening opening)
    where
      by_opening : (o : Opening) → d.opening ≡ o → OpensAs steps trees o h → OpensGone told gone o g → h.opening ≡ g.opening
      by_opening Empty of opens goes = opens ∙ sym goes
      by_opening (CopyOf source phase) of opens goes =
          let same = lower source (earlier tree source phase d at of) goes.0 opens.0 goes.1 opens.1 in
          opens.3 ∙ (ap (map_at opens.0) (as_many_before log.version source phase told steps is.are) ∙ (maps_are_of log.version goes.0 opens.0 (calls_before_told told source phase) same ∙ sym goes.3))

  -- a tree that was gone through is like its history, where the trees that are declared before it are
  like : (tree : ℕ) (d : Declared) (g : GoneTree) (h : History) → ((source : ℕ) → source < tree → Alike source) → slice_get (trees_of log.lines) tree ≡ Some d → slice_get trees tree ≡ Some h
      → IsGoneTree log.version rows told gone tree d g → IsHistoryOf log.version g h
  like tree d g h lower at is_at one =
      let same = opens_same tree d g h lower at is_at one.kind one.opening in
      record { kind = same.0; opening = same.1; heard = heard_so log rows t steps trees run told is.are few tree h is_at one.has.calls one.has.are g.noted one.has.heard }

  alike_below : (n : ℕ) (tree : ℕ) → tree < n → Alike tree
  alike_below zero tree low = absurd (omega (arith, low))
  alike_below (suc n) tree low = λ g h at is_at.
      (let d = declared_at tree h is_at in
      like tree d.0 g h (λ source lower. alike_below n source (omega (arith, lower, low))) d.1 is_at (to.each tree d.0 g d.1 at))

  pub alike : (tree : ℕ) → Alike tree
  alike tree = alike_below (suc tree) tree (omega arith)

  -- ---- the tree that comes next

  -- it cannot be hindered
  pub next_goes : (tree : ℕ) (d : Declared) (g : GoneTree) → slice_get (trees_of log.lines) tree ≡ Some d → g.kind ≡ d.tree.kind → OpensGone told gone d.opening g → CannotGo log.version rows told tree g.kind g.opening → ⊥
  next_goes tree d g at kind opening cannot =
      let h = some_at trees tree (omega (arith, slice_get_within (trees_of log.lines) tree d at, run.count)) in
      let same = opens_same tree d g h.0 (λ source lower. alike source) at h.1 kind opening in
      can_go log rows t steps trees run told is.are few tree h.0 h.1 (subst (λ (x : Kind × List Range). CannotGo log.version rows told tree x.0 x.1) (λ i. (sym same.0 i, sym same.1 i)) cannot)

  -- ---- listings

  -- a history ends with the map that its tree ends with
  pub ends_so : (tree : ℕ) (d : Declared) (g : GoneTree) (h : History) → slice_get (trees_of log.lines) tree ≡ Some d → slice_get trees tree ≡ Some h → IsGoneTree log.version rows told gone tree d g → last_map h ≡ gone_map g (length g.noted)
  ends_so tree d g h of is_at one =
      let many : length h.records ≡ length g.noted = omega (arith, as_many_calls log rows t steps trees run told is.are few tree h is_at one.has.calls one.has.are, as_many_noted told tree one.has.calls g.noted one.has.heard) in
      let all : map_at h (length g.noted) ≡ last_map h = ap (λ r. last_map (record h { records = r })) (take_all (length g.noted) h.records (omega (arith, many))) in
      sym all ∙ maps_are_of log.version g h (length g.noted) (like tree d g h (λ source lower. alike source) of is_at one)

  last_is : (tree : ℕ) (d : Declared) (g : GoneTree) (h : History) → slice_get (trees_of log.lines) tree ≡ Some d → slice_get gone tree ≡ Some g → slice_get trees tree ≡ Some h → last_map h ≡ gone_map g (length g.noted)
  last_is tree d g h of at is_at = ends_so tree d g h of is_at (to.each tree d g of at)

  -- the listings of the first trees of a run are those of the trees that were gone through
  abbrev pub front : List ℕ
  front = flat_map listing_text (listings_by (trees_of log.lines) gone)

  pub rest_is : length gone ≤ length trees → rest ≡ flat_map listing_text (listings_of (drop (length gone) (trees_of log.lines)) (drop (length gone) trees))
  rest_is enough =
      let all = split_listings (trees_of log.lines) trees gone (λ i d h g of at here. (λ k. record { name = d.tree.name; kind = d.tree.kind; ranges = last_is i d g h of here at k })) (omega (arith, run.count)) enough in
      append_same front rest (flat_map listing_text (listings_of (drop (length gone) (trees_of log.lines)) (drop (length gone) trees))) (sym to.listed ∙ (is.lists ∙ (ap (flat_map listing_text) run.lists ∙ all)))

  -- the tree that comes next is listed as it was gone through
  pub next_listed : (d : Declared) (h : History) (after : List Range) → slice_get (trees_of log.lines) (length gone) ≡ Some d → slice_get trees (length gone) ≡ Some h → last_map h ≡ after
      → (more : List ℕ) × (rest ≡ listing_text (record { name = d.tree.name; kind = d.tree.kind; ranges = after }) ++ more)
  next_listed d h after of at last =
      let enough : length gone < length trees = slice_get_within trees (length gone) h at in
      let one = dropped (trees_of log.lines) (length gone) d of in
      let two = dropped trees (length gone) h at in
      let listing : List Listing = listings_of (drop (suc (length gone)) (trees_of log.lines)) (drop (suc (length gone)) trees) in
      let text : rest ≡ flat_map listing_text (record { name = d.tree.name; kind = d.tree.kind; ranges = last_map h } ∷ listing) = rest_is (omega (arith, enough)) ∙ (λ k. flat_map listing_text (listings_of (one k) (two k))) in
      (flat_map listing_text listing, text ∙ ap (λ (m : List Range). listing_text (record { name = d.tree.name; kind = d.tree.kind; ranges = m }) ++ flat_map listing_text listing) last)

  -- behind the last tree stands nothing
  pub none_left : length gone ≡ length (trees_of log.lines) → rest ≡ []
  none_left all = rest_is (omega (arith, run.count, all)) ∙ (λ k. flat_map listing_text (listings_of (nothing (trees_of log.lines) (length gone) (omega (arith, all)) k) (drop (length gone) trees)))
