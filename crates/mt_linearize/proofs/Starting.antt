-- One more tree, which is empty or a copy.
use Rattle.mt_linearize.proofs.Prelude.{◌≡◌, ◌⊎◌, ℕ, zero, suc, ◌+◌, ◌<◌, ◌≤◌, List, [], ◌∷◌, ◌++◌, Some, length, map, get_or, slice_get, arith, refl, sym, ap, ◌∙◌, subst, inl, inr, length-append, All, AllByRecursion, range_with_len, Contains, ne_eqb, length-map-range_with_len, slice_get_within, slice_get-get_or, Kind, Range, History, last_map, Pass, IsSettled, new_pass, places, KnownTree, Step, Opens, OpensAs, calls_before, Opening, Empty, CopyOf, Declared, outcomes_of, Tracked, histories_of, new_history, new_tracked, Pairs, OrderOn, On, Tracks, IsPlaced, HasBegun, Ran, numbers_of}
use Rattle.mt_linearize.proofs.Counting.{all_before, whole}
use Rattle.mt_linearize.proofs.Lists.{same_some, every}
use Rattle.mt_linearize.proofs.Once.{numbers_long}
use Rattle.mt_linearize.proofs.Running.{Of, tracked_of, history_at}
use Rattle.mt_linearize.proofs.Tracking.{lanes_below}

-- before a log's first line
pub nothing_ran : (passes rows : ℕ) → Ran passes rows 0 [] [] []
nothing_ran passes rows = record {
  count = refl;
  placed = tt;
  named = tt;
  tracks = λ tree t is. cc;
  sized = λ tree t is. cc;
  opened = λ tree d t said is. cc;
  copied = λ tree d said. cc;
}

-- ---- a new tree has no steps

new_at : (b n i : ℕ) (q : Pass) → slice_get (map new_pass (range_with_len b n)) i ≡ Some q → q ≡ new_pass (b + i)
new_at b zero i q is = cc
new_at b (suc n) zero q is = let e : b ≡ b + 0 = omega arith in same_some q (new_pass b) (sym is) ∙ ap new_pass e
new_at b (suc n) (suc i) q is = let e : b + 1 + i ≡ b + suc i = omega arith in new_at (b + 1) n i q is ∙ ap new_pass e

new_passes : (passes i : ℕ) (q : Pass) → slice_get (map new_pass (range_with_len 0 passes)) i ≡ Some q → q ≡ new_pass i
new_passes passes i q is = let e : 0 + i ≡ i = omega arith in new_at 0 passes i q is ∙ ap new_pass e

-- what holds of each new pass
of_new : (P : Pass → Type 0) (passes : ℕ) → ((i : ℕ) → P (new_pass i)) → All P (map new_pass (range_with_len 0 passes))
of_new P passes f k d l =
    let list : List Pass = map new_pass (range_with_len 0 passes) in
    let e : get_or list k d ≡ new_pass k = new_passes passes k (get_or list k d) (slice_get-get_or list k d l) in
    subst P (sym e) (f k)

pub new_is_settled : (passes rows : ℕ) (kind : Kind) (opening : List Range) → IsSettled (new_history kind rows opening) (new_tracked passes rows kind opening).passes
new_is_settled passes rows kind opening = record {
  numbered = λ i q is. ap (λ (z : Pass). z.number) (new_passes passes i q is);
  seen = of_new (λ (q : Pass). q.seen ≡ []) passes (λ i. refl);
  own = of_new (λ (q : Pass). q.mine ≡ places q.number []) passes (λ i. refl);
  theirs = λ k d l. absurd (omega arith);
  begun = of_new (λ (q : Pass). q.begun ≤ 0) passes (λ i. omega arith);
  ended = of_new (λ (q : Pass). q.ended ≡ 0) passes (λ i. refl);
  by = λ k d l. absurd (omega arith);
  legal = tt;
}

-- no step so far is on a tree that is not declared
pub idle : (tree lane : ℕ) (steps : List Step) → AllByRecursion (λ (s : Step). s.tree < tree) steps → outcomes_of tree lane steps ≡ []
idle tree lane [] h = refl
idle tree lane (s ∷ steps) h = rw (ne_eqb s.tree tree (λ same. absurd (omega (arith, h.0)))) (idle tree lane steps h.1)

apart : (P : Step → Type 0) (tree : ℕ) (steps : List Step) → AllByRecursion (λ (s : Step). s.tree < tree) steps → AllByRecursion (On tree P) steps
apart P tree steps h = every (λ (s : Step). s.tree < tree) (On tree P) steps (λ s l on. absurd (omega arith)) h

apart_pairs : (tree : ℕ) (steps : List Step) → AllByRecursion (λ (s : Step). s.tree < tree) steps → Pairs (OrderOn tree) steps
apart_pairs tree [] h = tt
apart_pairs tree (s ∷ steps) h = (every (λ (r : Step). r.tree < tree) (OrderOn tree s) steps (λ r l here there knows. absurd (omega arith)) h.1, apart_pairs tree steps h.1)

new_tracks : (passes rows tree : ℕ) (steps : List Step) (kind : Kind) (opening : List Range) → AllByRecursion (λ (s : Step). s.tree < tree) steps → Tracks passes tree steps (new_tracked passes rows kind opening)
new_tracks passes rows tree steps kind opening h = record {
  settled = new_is_settled passes rows kind opening;
  count = length-map-range_with_len new_pass 0 passes;
  own = λ lane q is. ap (λ (z : Pass). z.mine) (new_passes passes lane q is) ∙ sym (ap numbers_of (idle tree lane steps h));
  readers = λ lane epoch q is has. let none : Contains [] epoch = subst (λ (z : Pass). Contains z.opened epoch) (new_passes passes lane q is) has in absurd (omega (arith, none.1));
  upto = apart _ tree steps h;
  order = apart_pairs tree steps h;
  holds = apart _ tree steps h;
  counts = apart _ tree steps h;
  holders = apart _ tree steps h;
}

-- ---- one more tree

-- the old ones, or the new one
pub pushed : {X : Type 0} (xs : List X) (y : X) (i : ℕ) (x : X) → slice_get (xs ++ y ∷ []) i ≡ Some x → ((i < length xs) × (slice_get xs i ≡ Some x)) ⊎ ((i ≡ length xs) × (x ≡ y))
pushed [] y zero x is = inr (refl, same_some x y (sym is))
pushed [] y (suc i) x is = absurd (omega (arith, slice_get_within (y ∷ []) (suc i) x is))
pushed (z ∷ xs) y zero x is = inl (omega arith, is)
pushed (z ∷ xs) y (suc i) x is = elim (pushed xs y i x is) [ inl old ↦ inl (omega (arith, old.0), old.1) | inr new ↦ inr (omega (arith, new.0), new.1) ]

pub still : {X : Type 0} (xs : List X) (y : X) (i : ℕ) (x : X) → slice_get xs i ≡ Some x → slice_get (xs ++ y ∷ []) i ≡ Some x
still [] y i x is = absurd (omega (arith, slice_get_within [] i x is))
still (z ∷ xs) y zero x is = is
still (z ∷ xs) y (suc i) x is = still xs y i x is

-- a tree that opens as it is declared
tree_ran : (passes rows phase : ℕ) (declared : List Declared) (steps : List Step) (trees : List Tracked) (d : Declared) (kind : Kind) (opening : List Range) → Ran passes rows phase declared steps trees → HasBegun phase d.opening → Opens steps (histories_of trees) d (new_history kind rows opening)
    → Ran passes rows phase (declared ++ d ∷ []) steps (trees ++ new_tracked passes rows kind opening ∷ [])
tree_ran passes rows phase declared steps trees d kind opening r begun opens =
    let new : Tracked = new_tracked passes rows kind opening in
    let more : length (trees ++ new ∷ []) ≡ length trees + 1 = omega (arith, length-append trees (new ∷ [])) in
    record {
      count = omega (arith, more, r.count, length-append declared (d ∷ []));
      placed = r.placed;
      named = every (λ (s : Step). s.tree < length trees) (λ (s : Step). s.tree < length (trees ++ new ∷ [])) steps (λ s l. omega arith) r.named;
      tracks = λ tree t is. tracks_more tree t (pushed trees new tree t is);
      sized = λ tree t is. sized_more tree t (pushed trees new tree t is);
      opened = λ tree e t said is. opened_more tree e t (pushed trees new tree t is) (pushed declared d tree e said);
      copied = λ tree e said. copied_more tree e (pushed declared d tree e said);
    }
  where
    all : List Tracked
    all = trees ++ new_tracked passes rows kind opening ∷ []

    tracks_more : (tree : ℕ) (t : Tracked) → (((tree < length trees) × (slice_get trees tree ≡ Some t)) ⊎ ((tree ≡ length trees) × (t ≡ new_tracked passes rows kind opening))) → Tracks passes tree steps t
    tracks_more tree t (inl old) = r.tracks tree t old.1
    tracks_more tree t (inr new) = rw (new.0, new.1) (new_tracks passes rows (length trees) steps kind opening r.named)

    sized_more : (tree : ℕ) (t : Tracked) → (((tree < length trees) × (slice_get trees tree ≡ Some t)) ⊎ ((tree ≡ length trees) × (t ≡ new_tracked passes rows kind opening))) → t.history.rows ≡ rows
    sized_more tree t (inl old) = r.sized tree t old.1
    sized_more tree t (inr new) = ap (λ (z : Tracked). z.history.rows) new.1

    opens_more : (o : Opening) (h : History) → OpensAs steps (histories_of trees) o h → OpensAs steps (histories_of (trees ++ new_tracked passes rows kind opening ∷ [])) o h
    opens_more Empty h o = o
    opens_more (CopyOf tree q) h o =
        let f : Of trees tree o.0 = tracked_of trees tree o.0 o.1 in
        (o.0, history_at (trees ++ new_tracked passes rows kind opening ∷ []) tree f.t (still trees (new_tracked passes rows kind opening) tree f.t f.at) ∙ ap Some (sym f.is), o.2, o.3)

    opened_more : (tree : ℕ) (e : Declared) (t : Tracked) → (((tree < length trees) × (slice_get trees tree ≡ Some t)) ⊎ ((tree ≡ length trees) × (t ≡ new_tracked passes rows kind opening))) → (((tree < length declared) × (slice_get declared tree ≡ Some e)) ⊎ ((tree ≡ length declared) × (e ≡ d)))
        → Opens steps (histories_of (trees ++ new_tracked passes rows kind opening ∷ [])) e t.history
    opened_more tree e t (inl old) (inl said) = let o = r.opened tree e t said.1 old.1 in record { kind = o.kind; opening = opens_more e.opening t.history o.opening }
    opened_more tree e t (inr new) (inr said) = rw (new.1, said.1) (record { kind = opens.kind; opening = opens_more d.opening (new_history kind rows opening) opens.opening })
    opened_more tree e t (inl old) (inr said) = absurd (omega (arith, old.0, said.0, r.count))
    opened_more tree e t (inr new) (inl said) = absurd (omega (arith, new.0, said.0, r.count))

    copied_more : (tree : ℕ) (e : Declared) → (((tree < length declared) × (slice_get declared tree ≡ Some e)) ⊎ ((tree ≡ length declared) × (e ≡ d))) → HasBegun phase e.opening
    copied_more tree e (inl said) = r.copied tree e said.1
    copied_more tree e (inr said) = rw said.1 begun

-- an empty tree opens so
pub empty_ran : (passes rows phase : ℕ) (declared : List Declared) (steps : List Step) (trees : List Tracked) (known : KnownTree) → Ran passes rows phase declared steps trees
    → Ran passes rows phase (declared ++ record { tree = known; opening = Empty } ∷ []) steps (trees ++ new_tracked passes rows known.kind [] ∷ [])
empty_ran passes rows phase declared steps trees known r = tree_ran passes rows phase declared steps trees (record { tree = known; opening = Empty }) known.kind [] r tt (record { kind = refl; opening = refl })

-- and a copy, where its map is the source's as the phase begins
pub copy_ran : (passes rows phase : ℕ) (declared : List Declared) (steps : List Step) (trees : List Tracked) (known : KnownTree) (tree : ℕ) (source : Tracked) → slice_get trees tree ≡ Some source → known.kind ≡ source.history.kind → Ran passes rows phase declared steps trees
    → Ran passes rows phase (declared ++ record { tree = known; opening = CopyOf tree phase } ∷ []) steps (trees ++ new_tracked passes rows known.kind (last_map source.history) ∷ [])
copy_ran passes rows phase declared steps trees known tree source is kind r =
    let t : Tracks passes tree steps source = r.tracks tree source is in
    let earlier : AllByRecursion (λ (s : Step). s.phase < phase) steps = every (IsPlaced passes phase) (λ (s : Step). s.phase < phase) steps (λ s l. l.0) r.placed in
    let calls : calls_before steps tree phase ≡ length source.history.records = all_before steps tree phase earlier ∙ numbers_long passes tree steps source (lanes_below passes phase steps r.placed) t in
    tree_ran passes rows phase declared steps trees (record { tree = known; opening = CopyOf tree phase }) known.kind (last_map source.history) r (omega arith) (record {
      kind = refl;
      opening = (source.history, history_at trees tree source is, kind, whole source.history (calls_before steps tree phase) calls);
    })
