-- A player's trees listed one after another are the trees at the end of a log.
use Rattle.mt_replay.proofs.Prelude.{◌≡◌, ℕ, zero, suc, ◌+◌, ◌<◌, ◌≤◌, List, [], ◌∷◌, ◌++◌, Some, length, map, take, slice_get, get_or, arith, refl, sym, ap, ◌∙◌, take_all, take_more, get_or_from_slice_get, slice_get_read, slice_get_within, Range, last_map, Listing, KnownTree, listings_of, Declared, Tracked, histories_of, PlayerState, HasRanges}

abbrev pub listed : List KnownTree → List Tracked → List Listing
listed [] trees = []
listed (k ∷ known) [] = []
listed (k ∷ known) (t ∷ trees) = record { name = k.name; kind = k.kind; ranges = last_map t.history } ∷ listed known trees

listed_at : (known : List KnownTree) (trees : List Tracked) (at : ℕ) (k : KnownTree) (t : Tracked) → slice_get known at ≡ Some k → slice_get trees at ≡ Some t → slice_get (listed known trees) at ≡ Some (record { name = k.name; kind = k.kind; ranges = last_map t.history })
listed_at [] trees at k t is beside = absurd (cc)
listed_at (x ∷ known) [] at k t is beside = absurd (cc)
listed_at (x ∷ known) (y ∷ trees) zero k t is beside =
    let same : x ≡ k = cc in
    let also : y ≡ t = cc in
    λ i. Some (record { name = (same i).name; kind = (same i).kind; ranges = last_map (also i).history })
listed_at (x ∷ known) (y ∷ trees) (suc at) k t is beside = listed_at known trees at k t is beside

listed_long : (known : List KnownTree) (trees : List Tracked) → length (listed known trees) ≤ length known
listed_long [] trees = omega arith
listed_long (k ∷ known) [] = omega arith
listed_long (k ∷ known) (t ∷ trees) = omega (arith, listed_long known trees)

listings : (declared : List Declared) (trees : List Tracked) → listed (map (λ (d : Declared). d.tree) declared) trees ≡ listings_of declared (histories_of trees)
listings [] trees = refl
listings (d ∷ declared) [] = refl
listings (d ∷ declared) (t ∷ trees) = ap (λ (ls : List Listing). record { name = d.tree.name; kind = d.tree.kind; ranges = last_map t.history } ∷ ls) (listings declared trees)

pub one_listed : (p : PlayerState) (at : ℕ) (k : KnownTree) (ranges : List Range) (lists : List Listing) → at < length p.known → k ≡ get_or p.known at k → HasRanges p at (λ (rs : List Range). ranges ≡ rs) → lists ≡ take at (listed p.known p.trees) → lists ++ record { name = k.name; kind = k.kind; ranges = ranges } ∷ [] ≡ take (at + 1) (listed p.known p.trees)
one_listed p at k ranges lists within is has so_far =
    let next : Listing = record { name = k.name; kind = k.kind; ranges = last_map has.tree.history } in
    let here : slice_get (listed p.known p.trees) at ≡ Some next = listed_at p.known p.trees at k has.tree (slice_get_read p.known (length p.known) at k refl within is) has.tree_is in
    (λ i. so_far i ++ record { name = k.name; kind = k.kind; ranges = has.holds i } ∷ [])
    ∙ (ap (λ (l : Listing). take at (listed p.known p.trees) ++ l ∷ []) (sym (get_or_from_slice_get (listed p.known p.trees) at next next here)) ∙ sym (take_more (listed p.known p.trees) at next (slice_get_within (listed p.known p.trees) at next here)))

pub all_listed : (p : PlayerState) (at : ℕ) (lists : List Listing) (declared : List Declared) → length p.known ≤ at → lists ≡ take at (listed p.known p.trees) → p.known ≡ map (λ (d : Declared). d.tree) declared → lists ≡ listings_of declared (histories_of p.trees)
all_listed p at lists declared all so_far known = so_far ∙ (take_all at (listed p.known p.trees) (omega (arith, all, listed_long p.known p.trees)) ∙ (ap (λ (ks : List KnownTree). listed ks p.trees) known ∙ listings declared p.trees))
