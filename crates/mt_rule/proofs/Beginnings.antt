-- Beginnings of a history, the places of a pass's calls in it, and legal histories that grow.
use Rattle.mt_rule.proofs.Prelude.{◌≡◌, ◌≢◌, ℕ, ◌+◌, ◌<◌, ◌≤◌, ◌==◌, List, [], ◌∷◌, ◌++◌, Bool, true, false, length, refl, sym, ap, ◌∙◌, subst, arith, append-nil, length-append, nat_lt, fold, AllByRecursion, ne_eqb, eq-eqb, map-append, length-map, Range, Record, History, IsAnswered, AreLegalFrom, IsLegal, limits_after, last_map, map_after, Begins, places_from, places, longer, begins_none, all_join, Moment, Shape, record_of, records_of, tree_of, longer_history}

-- ---- beginnings

module _ {X : Type 0} where
  abbrev head_or : X → List X → X
  head_or d [] = d
  head_or d (x ∷ xs) = x

  abbrev tail : List X → List X
  tail [] = []
  tail (x ∷ xs) = xs

  between : (xs ys a b : List X) → xs ++ a ≡ ys ++ b → length xs ≤ length ys → Begins xs ys
  between [] ys a b e l = (ys, refl)
  between (x ∷ xs) [] a b e l = absurd (omega arith)
  between (x ∷ xs) (y ∷ ys) a b e l = let t = between xs ys a b (ap tail e) (omega arith) in (t.0, λ i. sym (ap (head_or x) e) i ∷ t.1 i)

  -- of two beginnings of one list the shorter begins the other
  pub begins_both : (xs ys h : List X) → Begins xs h → Begins ys h → length xs ≤ length ys → Begins xs ys
  begins_both xs ys h a b l = between xs ys a.0 b.0 (sym a.1 ∙ b.1) l

pub begins_records : (xs ys : List Moment) → Begins xs ys → Begins (records_of xs) (records_of ys)
begins_records xs ys b = (records_of b.0, ap records_of b.1 ∙ map-append record_of xs b.0)

pub record LongerFits (xs ys h : List Moment) : Type 0 where
  pub this : Begins xs (longer_history xs ys)
  pub that : Begins ys (longer_history xs ys)
  pub whole : Begins (longer_history xs ys) h

pub longer_fits : (xs ys h : List Moment) → Begins xs h → Begins ys h → LongerFits xs ys h
longer_fits xs ys h a b = by_case (nat_lt (length xs) (length ys)) refl
  where
    by_case : (c : Bool) → nat_lt (length xs) (length ys) ≡ c → LongerFits xs ys h
    by_case true e = record { this = rw e (begins_both xs ys h a b (grind arith)); that = rw e (begins_none ys); whole = rw e b }
    by_case false e = record { this = rw e (begins_none xs); that = rw e (begins_both ys xs h b a (grind arith)); whole = rw e a }

-- the longer of two lists of moments has the records of the longer
pub longer_records : (xs ys : List Moment) → records_of (longer_history xs ys) ≡ longer (records_of xs) (records_of ys)
longer_records xs ys = by_case (nat_lt (length xs) (length ys)) refl
  where
    lengths : nat_lt (length (records_of xs)) (length (records_of ys)) ≡ nat_lt (length xs) (length ys)
    lengths = rw (length-map xs record_of, length-map ys record_of) refl

    by_case : (c : Bool) → nat_lt (length xs) (length ys) ≡ c → records_of (longer_history xs ys) ≡ longer (records_of xs) (records_of ys)
    by_case true e = rw (e, lengths ∙ e) refl
    by_case false e = rw (e, lengths ∙ e) refl

-- ---- places

pub places_append : (n by : ℕ) (xs ys : List Record) → places_from n by (xs ++ ys) ≡ places_from n by xs ++ places_from (n + length xs) by ys
places_append n by [] ys = let e : n + 0 ≡ n = omega arith in ap (λ (k : ℕ). places_from k by ys) (sym e)
places_append n by (x ∷ xs) ys = by_case (let e : (n + 1) + length xs ≡ n + length (x ∷ xs) = omega arith in
    places_append (n + 1) by xs ys ∙ ap (λ (k : ℕ). places_from (n + 1) by xs ++ places_from k by ys) e) (x.pass == by) refl
  where
    by_case : places_from (n + 1) by (xs ++ ys) ≡ places_from (n + 1) by xs ++ places_from (n + length (x ∷ xs)) by ys
        → (b : Bool) → (x.pass == by) ≡ b → places_from n by ((x ∷ xs) ++ ys) ≡ places_from n by (x ∷ xs) ++ places_from (n + length (x ∷ xs)) by ys
    by_case on true e = rw e (ap (λ (l : List ℕ). n ∷ l) on)
    by_case on false e = rw e on

pub places_none : (n by : ℕ) (h : List Record) → AllByRecursion (λ r. r.pass < by) h → places_from n by h ≡ []
places_none n by [] all = refl
places_none n by (x ∷ h) all = let a = all.0 in rw (ne_eqb x.pass by (λ e. omega arith)) (places_none (n + 1) by h all.1)

pub places_last : (by : ℕ) (h : List Record) (r : Record) → r.pass ≡ by → places by (h ++ r ∷ []) ≡ places by h ++ (length h + 1) ∷ []
places_last by h r e = places_append 1 by h (r ∷ []) ∙ rw (eq-eqb r.pass by e) (let n : 1 + length h ≡ length h + 1 = omega arith in ap (λ (k : ℕ). places by h ++ k ∷ []) n)

places_same : (by : ℕ) (h : List Record) (r : Record) → r.pass ≢ by → places by (h ++ r ∷ []) ≡ places by h
places_same by h r e = places_append 1 by h (r ∷ []) ∙ rw (ne_eqb r.pass by e) (append-nil (places by h))

-- a moment more: of this pass, or of another
pub places_mine : (h : List Moment) (m : Moment) → places m.pass (records_of (h ++ m ∷ [])) ≡ places m.pass (records_of h) ++ (length h + 1) ∷ []
places_mine h m = ap (places m.pass) (map-append record_of h (m ∷ [])) ∙ (places_last m.pass (records_of h) (record_of m) refl
    ∙ ap (λ (n : ℕ). places m.pass (records_of h) ++ (n + 1) ∷ []) (length-map h record_of))

pub places_other : (by : ℕ) (h : List Moment) (m : Moment) → m.pass ≢ by → places by (records_of (h ++ m ∷ [])) ≡ places by (records_of h)
places_other by h m e = ap (places by) (map-append record_of h (m ∷ [])) ∙ places_same by (records_of h) (record_of m) e

-- where a beginning has all places, a longer one has no more
no_more : (xs ys zs : List ℕ) → (xs ++ ys) ++ zs ≡ xs → ys ≡ []
no_more xs [] zs e = refl
no_more xs (y ∷ ys) zs e = let n = ap length e in absurd (omega (arith, n, length-append (xs ++ y ∷ ys) zs, length-append xs (y ∷ ys)))

places_between : (by : ℕ) (xs ys h : List Record) → Begins xs ys → Begins ys h → places by h ≡ places by xs → places by ys ≡ places by xs
places_between by xs ys h a b e =
    let one : places by ys ≡ places by xs ++ places_from (1 + length xs) by a.0 = ap (places by) a.1 ∙ places_append 1 by xs a.0 in
    let two : places by h ≡ places by ys ++ places_from (1 + length ys) by b.0 = ap (places by) b.1 ∙ places_append 1 by ys b.0 in
    let three : (places by xs ++ places_from (1 + length xs) by a.0) ++ places_from (1 + length ys) by b.0 ≡ places by xs =
    ap (λ (l : List ℕ). l ++ places_from (1 + length ys) by b.0) (sym one) ∙ (sym two ∙ e) in
    one ∙ (ap (λ (l : List ℕ). places by xs ++ l) (no_more (places by xs) (places_from (1 + length xs) by a.0) (places_from (1 + length ys) by b.0) three) ∙ append-nil (places by xs))

pub places_within : (by : ℕ) (xs ys h : List Moment) → Begins xs ys → Begins ys h → places by (records_of h) ≡ places by (records_of xs) → places by (records_of ys) ≡ places by (records_of xs)
places_within by xs ys h a b e = places_between by (records_of xs) (records_of ys) (records_of h) (begins_records xs ys a) (begins_records ys h b) e

-- ---- facts of each record

pub all_more : (P : Record → Type 0) (h : List Moment) (m : Moment) → AllByRecursion P (records_of h) → P (record_of m) → AllByRecursion P (records_of (h ++ m ∷ []))
all_more P h m all p = subst (AllByRecursion P) (sym (map-append record_of h (m ∷ []))) (all_join P (records_of h) (record_of m ∷ []) all (p, tt))

-- ---- legal histories

-- what a tree's own records are is not read
legal_too : (shape : Shape) (a b : List Moment) (ended : ℕ) (m : List Range) (h : List Record) → AreLegalFrom (tree_of shape a) ended m h → AreLegalFrom (tree_of shape b) ended m h
legal_too shape a b ended m [] legal = tt
legal_too shape a b ended m (x ∷ h) legal = (legal.0, legal_too shape a b (ended + 1) (map_after shape.kind m x) h legal.1)

legal_push : (t : History) (ended : ℕ) (m : List Range) (h : List Record) (r : Record) → AreLegalFrom t ended m h → IsAnswered t.kind (limits_after t (ended + length h)) (fold (map_after t.kind) m h) r → AreLegalFrom t ended m (h ++ r ∷ [])
legal_push t ended m [] r legal ok = let e : ended + 0 ≡ ended = omega arith in (subst (λ (n : ℕ). IsAnswered t.kind (limits_after t n) m r) e ok, tt)
legal_push t ended m (x ∷ h) r legal ok = let e : ended + length (x ∷ h) ≡ (ended + 1) + length h = omega arith in
    (legal.0, legal_push t (ended + 1) (map_after t.kind m x) h r legal.1 (subst (λ (n : ℕ). IsAnswered t.kind (limits_after t n) (fold (map_after t.kind) (map_after t.kind m x) h) r) e ok))

legal_start : (t : History) (ended : ℕ) (m : List Range) (xs ys : List Record) → AreLegalFrom t ended m (xs ++ ys) → AreLegalFrom t ended m xs
legal_start t ended m [] ys legal = tt
legal_start t ended m (x ∷ xs) ys legal = (legal.0, legal_start t (ended + 1) (map_after t.kind m x) xs ys legal.1)

pub legal_next : (shape : Shape) (h : List Moment) (m : Moment) → IsLegal (tree_of shape h) → IsAnswered shape.kind (limits_after (tree_of shape h) (length h)) (last_map (tree_of shape h)) (record_of m) → IsLegal (tree_of shape (h ++ m ∷ []))
legal_next shape h m legal ok =
    let count : length h ≡ 0 + length (records_of h) = let e = length-map h record_of in omega arith in
    let long : AreLegalFrom (tree_of shape h) 0 shape.opening (records_of h ++ record_of m ∷ []) =
    legal_push (tree_of shape h) 0 shape.opening (records_of h) (record_of m) legal (subst (λ (n : ℕ). IsAnswered shape.kind (limits_after (tree_of shape h) n) (last_map (tree_of shape h)) (record_of m)) count ok) in
    legal_too shape h (h ++ m ∷ []) 0 shape.opening (records_of (h ++ m ∷ [])) (subst (AreLegalFrom (tree_of shape h) 0 shape.opening) (sym (map-append record_of h (m ∷ []))) long)

pub legal_within : (shape : Shape) (xs h : List Moment) → Begins xs h → IsLegal (tree_of shape h) → IsLegal (tree_of shape xs)
legal_within shape xs h b legal =
    let all : AreLegalFrom (tree_of shape h) 0 shape.opening (records_of xs ++ records_of b.0) = subst (AreLegalFrom (tree_of shape h) 0 shape.opening) (ap records_of b.1 ∙ map-append record_of xs b.0) legal in
    legal_too shape h xs 0 shape.opening (records_of xs) (legal_start (tree_of shape h) 0 shape.opening (records_of xs) (records_of b.0) all)
