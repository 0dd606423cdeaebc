-- The moments of a beginning of a history are those of the whole, and the moment of one call more.
use Rattle.mt_rule.proofs.Prelude.{◌≡◌, ℕ, ◌+◌, ◌≤◌, List, [], ◌∷◌, ◌++◌, length, map, take, get_or, sym, ap, ◌∙◌, arith, length-append, fold, get_or_append_left, length-map, map-append, take-append-le, take_all, fold-append, get_or-append_seam, last_map, map_after, map_at, Begins, Moment, Shape, record_of, records_of, tree_of, cuts_of, cuts_at, moment_at}

-- ---- the records of the first k moments, and where the leaves began

records_first : (xs ys : List Moment) (k : ℕ) → k ≤ length xs → take k (records_of (xs ++ ys)) ≡ take k (records_of xs)
records_first xs ys k low = ap (take k) (map-append record_of xs ys) ∙ take-append-le k (records_of xs) (records_of ys) (let e = length-map xs record_of in omega arith)

cuts_first : (shape : Shape) (xs ys : List Moment) (k : ℕ) → k ≤ length xs → cuts_at shape (xs ++ ys) k ≡ cuts_at shape xs k
cuts_first shape xs ys k low =
    ap (λ (l : List (List ℕ)). get_or (shape.cuts ∷ l) k []) (map-append cuts_of xs ys)
    ∙ get_or_append_left (shape.cuts ∷ map cuts_of xs) (map cuts_of ys) [] k (let e = length-map xs cuts_of in omega arith)

-- ---- moments

moment_first : (shape : Shape) (xs ys : List Moment) (k : ℕ) → k ≤ length xs → moment_at shape (xs ++ ys) k ≡ moment_at shape xs k
moment_first shape xs ys k low = λ i. record { ranges = fold (map_after shape.kind) shape.opening (records_first xs ys k low i); cuts = cuts_first shape xs ys k low i }

-- a beginning of the history has the same moments, up to its length
pub moment_within : (shape : Shape) (xs h : List Moment) (k : ℕ) → Begins xs h → k ≤ length xs → moment_at shape h k ≡ moment_at shape xs k
moment_within shape xs h k b low = ap (λ (l : List Moment). moment_at shape l k) b.1 ∙ moment_first shape xs b.0 k low

-- so does the history that is one call shorter
pub moment_before : (shape : Shape) (h : List Moment) (m : Moment) (k : ℕ) → k ≤ length h → moment_at shape (h ++ m ∷ []) k ≡ moment_at shape h k
moment_before shape h m k low = moment_first shape h (m ∷ []) k low

-- the last moment has the last map
pub map_now : (shape : Shape) (h : List Moment) → map_at (tree_of shape h) (length h) ≡ last_map (tree_of shape h)
map_now shape h = ap (fold (map_after shape.kind) shape.opening) (take_all (length h) (records_of h) (let e = length-map h record_of in omega arith))

-- the map after one call more
pub map_more : (shape : Shape) (h : List Moment) (m : Moment) → last_map (tree_of shape (h ++ m ∷ [])) ≡ map_after shape.kind (last_map (tree_of shape h)) (record_of m)
map_more shape h m = ap (fold (map_after shape.kind) shape.opening) (map-append record_of h (m ∷ [])) ∙ fold-append (map_after shape.kind) shape.opening (records_of h) (record_of m ∷ [])

cuts_more : (shape : Shape) (h : List Moment) (m : Moment) → cuts_at shape (h ++ m ∷ []) (length h + 1) ≡ m.cuts
cuts_more shape h m =
    let e : length (shape.cuts ∷ map cuts_of h) ≡ length h + 1 = (let l = length-map h cuts_of in omega arith) in
    ap (λ (l : List (List ℕ)). get_or (shape.cuts ∷ l) (length h + 1) []) (map-append cuts_of h (m ∷ []))
    ∙ (ap (λ (n : ℕ). get_or ((shape.cuts ∷ map cuts_of h) ++ m.cuts ∷ []) n []) (sym e)
    ∙ get_or-append_seam (shape.cuts ∷ map cuts_of h) m.cuts [] [])

-- the moment of one call more
pub moment_more : (shape : Shape) (h : List Moment) (m : Moment)
    → moment_at shape (h ++ m ∷ []) (length h + 1) ≡ record { ranges = map_after shape.kind (last_map (tree_of shape h)) (record_of m); cuts = m.cuts }
moment_more shape h m =
    let size : length (h ++ m ∷ []) ≡ length h + 1 = omega (arith, length-append h (m ∷ [])) in
    let map : map_at (tree_of shape (h ++ m ∷ [])) (length h + 1) ≡ map_after shape.kind (last_map (tree_of shape h)) (record_of m) =
    ap (map_at (tree_of shape (h ++ m ∷ []))) (sym size) ∙ (map_now shape (h ++ m ∷ []) ∙ map_more shape h m) in
    λ i. record { ranges = map i; cuts = cuts_more shape h m i }
