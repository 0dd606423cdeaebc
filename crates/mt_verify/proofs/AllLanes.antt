-- Where each lane's reads on each tree have the first numbers that do for the lane by itself, all reads of a run have.
use Rattle.mt_verify.proofs.Prelude.{[], ◌≡◌, ℕ, zero, suc, ◌+◌, ◌<◌, ◌≤◌, ◌==◌, true, List, ◌∷◌, ◌++◌, Option, Some, None, length, get_or, slice_get, refl, sym, ap, ◌∙◌, subst, inl, inr, arith, cons_option, cases_Bool, eq-eqb, eqb-true, get_or_append_left, get_or_at, length-append, filter_map-append, slice_get_within, same_Some, History, map_at, get_parts, Log, Transcript, Outcome, Called, Looked, Counted, Step, IsRunBy, StandsIn, is_read, shown, ToldRead, AreFirst, look_of, by_lane, looks_on, points_on, LanesArePicked, floor_at, IsFirstPoint, point_of, lo_of, read_number, at_place, TellsAt, IsTrueAt, KnowsAt}
use Rattle.mt_verify.proofs.CopiedKinds.{still_there}
use Rattle.mt_verify.proofs.Runs.{all_at, some_at, placed}

-- ---- one step

-- a point of this lane on this tree is the number of one of its reads
pub record IsReadOf (tree lane k : ℕ) (u : Step) : Type 0 where
  pub on_tree : u.tree ≡ tree
  pub of_lane : u.lane ≡ lane
  pub read : is_read u.outcome ≡ true
  pub number : read_number u.outcome ≡ k

point_is : (o : Outcome) (k : ℕ) → point_of o ≡ Some k → (is_read o ≡ true) × (read_number o ≡ k)
point_is (Called n c r) k is = absurd (cc)
point_is (Looked lo hi n q v) k is = (refl, same_Some n k is)
point_is (Counted said ranges) k is = absurd (cc)

-- what is of a lane of a tree is of a step of that lane on that tree
pub record IsOwn {X : Type 0} (f : Outcome → Option X) (tree lane : ℕ) (u : Step) (x : X) : Type 0 where
  pub on_tree : (u.tree == tree) ≡ true
  pub of_lane : (u.lane == lane) ≡ true
  pub is : f u.outcome ≡ Some x

own_of : {X : Type 0} (f : Outcome → Option X) (tree lane : ℕ) (u : Step) (x : X) → by_lane f tree lane u ≡ Some x → IsOwn f tree lane u x
own_of f tree lane u x is = elim (cases_Bool (u.tree == tree)) [
  | inr other ↦ absurd (let none : None ≡ Some x = rw other at is in cc)
  | inl here ↦
      (let mine = rw here at is in
      elim (cases_Bool (u.lane == lane)) [
        | inr apart ↦ absurd (let none : None ≡ Some x = rw apart at mine in cc)
        | inl own ↦ (let told = rw own at mine in record { on_tree = here; of_lane = own; is = told })
      ])
]

pub read_of : (tree lane : ℕ) (u : Step) (k : ℕ) → by_lane point_of tree lane u ≡ Some k → IsReadOf tree lane k u
read_of tree lane u k is =
    let own = own_of point_of tree lane u k is in
    let p = point_is u.outcome k own.is in
    record { on_tree = eqb-true u.tree tree own.on_tree; of_lane = eqb-true u.lane lane own.of_lane; read = p.0; number = p.1 }

own_step : {X : Type 0} (f : Outcome → Option X) (s : Step) → by_lane f s.tree s.lane s ≡ f s.outcome
own_step f s = rw (eq-eqb s.tree s.tree refl, eq-eqb s.lane s.lane refl) refl

pub is_own : {X : Type 0} (f : Outcome → Option X) (tree lane : ℕ) (s : Step) → (s.tree == tree) ≡ true → (s.lane == lane) ≡ true → by_lane f tree lane s ≡ f s.outcome
is_own f tree lane s here own = rw (here, own) refl

-- ---- lists

cons_long : {X Y : Type 0} (o : Option X) (p : Option Y) (xs : List X) (ys : List Y) → (o ≡ None → p ≡ None) → ((x : X) → o ≡ Some x → (y : Y) × (p ≡ Some y)) → length xs ≡ length ys → length (cons_option o xs) ≡ length (cons_option p ys)
cons_long None p xs ys none some same = rw (none refl) same
cons_long (Some x) p xs ys none some same = rw ((some x refl).1) (ap suc same)

pub both_none : (tree lane : ℕ) (s : Step) → by_lane look_of tree lane s ≡ None → by_lane point_of tree lane s ≡ None
both_none tree lane s is = elim (cases_Bool (s.tree == tree)) [
  | inr other ↦ rw other refl
  | inl here ↦
      (let mine = rw here at is in
      elim (cases_Bool (s.lane == lane)) [
        | inr apart ↦ rw (here, apart) refl
        | inl own ↦ (let told = rw own at mine in rw (here, own) (none s.outcome told))
      ])
]
  where
    none : (o : Outcome) → look_of o ≡ None → point_of o ≡ None
    none (Called n c r) told = refl
    none (Looked lo hi k q v) told = absurd (cc)
    none (Counted said ranges) told = refl

pub both_some : (tree lane : ℕ) (s : Step) (l : ToldRead) → by_lane look_of tree lane s ≡ Some l → (k : ℕ) × (by_lane point_of tree lane s ≡ Some k)
both_some tree lane s l is =
    let own = own_of look_of tree lane s l is in
    let k = some s.outcome own.is in
    (k.0, is_own point_of tree lane s own.on_tree own.of_lane ∙ k.1)
  where
    some : (o : Outcome) → look_of o ≡ Some l → (k : ℕ) × (point_of o ≡ Some k)
    some (Called n c r) told = absurd (cc)
    some (Looked lo hi k q v) told = (k, refl)
    some (Counted said ranges) told = absurd (cc)

pub as_many : (tree lane : ℕ) (steps : List Step) → length (looks_on tree lane steps) ≡ length (points_on tree lane steps)
as_many tree lane [] = refl
as_many tree lane (s ∷ steps) =
    cons_long (by_lane look_of tree lane s) (by_lane point_of tree lane s) (looks_on tree lane steps) (points_on tree lane steps) (both_none tree lane s) (both_some tree lane s) (as_many tree lane steps)

get_mid : {X : Type 0} (xs : List X) (y : X) (ys : List X) → slice_get (xs ++ y ∷ ys) (length xs) ≡ Some y
get_mid [] y ys = refl
get_mid (x ∷ xs) y ys = get_mid xs y ys

-- the points of a lane in front are at most what each of its reads there is
front_below : (tree lane m : ℕ) (us : List Step) → ((j : ℕ) (u : Step) (k : ℕ) → slice_get us j ≡ Some u → by_lane point_of tree lane u ≡ Some k → k ≤ m) → (j : ℕ) → j < length (points_on tree lane us) → get_or (points_on tree lane us) j 0 ≤ m
front_below tree lane m [] each j below = absurd (omega arith)
front_below tree lane m (u ∷ us) each j below = with_first (by_lane point_of tree lane u) refl j below (front_below tree lane m us (λ i v k is told. each (suc i) v k is told))
  where
    with_first : (o : Option ℕ) → by_lane point_of tree lane u ≡ o → (i : ℕ) → i < length (cons_option (by_lane point_of tree lane u) (points_on tree lane us)) → ((i : ℕ) → i < length (points_on tree lane us) → get_or (points_on tree lane us) i 0 ≤ m) → get_or (cons_option (by_lane point_of tree lane u) (points_on tree lane us)) i 0 ≤ m
    with_first None is i within rest = let inside = rw is at within in rw is (rest i inside)
    with_first (Some k) is zero within rest = rw is (each zero u k refl is)
    with_first (Some k) is (suc i) within rest = let inside = rw is at within in rw is (rest i (omega arith))

floor_below : (points : List ℕ) (n m : ℕ) → ((j : ℕ) → j < n → get_or points j 0 ≤ m) → floor_at points n ≤ m
floor_below points zero m each = omega arith
floor_below points (suc i) m each = each i (omega arith)

-- ---- all reads

module _ (log : Log) (rows : ℕ) (t : Transcript) (steps : List Step) (trees : List History) (run : IsRunBy log rows t steps trees) (picked : LanesArePicked steps trees) where
  -- a read at a place
  at_read : (s : Step) (o : Outcome) → s.outcome ≡ o → (i m : ℕ) → slice_get steps i ≡ Some s → lo_of o ≤ m → ((j : ℕ) → j < i → KnowsAt steps i j → at_place read_number steps j ≤ m) → m < read_number o → IsTrueAt steps trees i m → ⊥
  at_read s (Called n c r) same i m is low below lower holds = omega arith
  at_read s (Counted said ranges) same i m is low below lower holds = omega arith
  at_read s (Looked lo hi k q v) same i m is low below lower holds =
      let h = all_at (StandsIn steps trees) steps i s run.reads is in
      let parts = get_parts steps i s is in
      let front : List Step = parts.0 in
      let back : List Step = parts.1 in
      let look : ToldRead = record { lo = lo; hi = hi; query = q; told = shown q v } in
      let looks : looks_on s.tree s.lane steps ≡ looks_on s.tree s.lane front ++ look ∷ looks_on s.tree s.lane back =
      ap (looks_on s.tree s.lane) parts.2 ∙ (filter_map-append (by_lane look_of s.tree s.lane) front (s ∷ back) ∙ ap (λ (o : Option ToldRead). looks_on s.tree s.lane front ++ cons_option o (looks_on s.tree s.lane back)) (own_step look_of s ∙ ap look_of same)) in
      let points : points_on s.tree s.lane steps ≡ points_on s.tree s.lane front ++ k ∷ points_on s.tree s.lane back =
      ap (points_on s.tree s.lane) parts.2 ∙ (filter_map-append (by_lane point_of s.tree s.lane) front (s ∷ back) ∙ ap (λ (o : Option ℕ). points_on s.tree s.lane front ++ cons_option o (points_on s.tree s.lane back)) (own_step point_of s ∙ ap point_of same)) in
      let p : ℕ = length (points_on s.tree s.lane front) in
      let there : slice_get (looks_on s.tree s.lane steps) p ≡ Some look =
      ap (λ (ls : List ToldRead). slice_get ls p) looks ∙ (ap (slice_get (looks_on s.tree s.lane front ++ look ∷ looks_on s.tree s.lane back)) (sym (as_many s.tree s.lane front)) ∙ get_mid (looks_on s.tree s.lane front) look (looks_on s.tree s.lane back)) in
      let number : get_or (points_on s.tree s.lane steps) p 0 ≡ k = ap (λ (ps : List ℕ). get_or ps p 0) points ∙ get_or_at (points_on s.tree s.lane front) k (points_on s.tree s.lane back) 0 p refl in
      let long : length (points_on s.tree s.lane steps) ≡ p + suc (length (points_on s.tree s.lane back)) = ap length points ∙ length-append (points_on s.tree s.lane front) (k ∷ points_on s.tree s.lane back) in
      let one : IsFirstPoint (map_at h.0) (floor_at (points_on s.tree s.lane steps) p) look (get_or (points_on s.tree s.lane steps) p 0) = (picked s.tree s.lane h.0 h.1).each p look (omega arith) there in
      let fronts : (j : ℕ) → j < p → get_or (points_on s.tree s.lane steps) j 0 ≤ m = (λ j inside.
      let same_one : get_or (points_on s.tree s.lane steps) j 0 ≡ get_or (points_on s.tree s.lane front) j 0 = ap (λ (ps : List ℕ). get_or ps j 0) points ∙ get_or_append_left (points_on s.tree s.lane front) (k ∷ points_on s.tree s.lane back) 0 j inside in
      omega (arith, same_one, front_below s.tree s.lane m front (λ e u n at told. known e u n at told parts.3 parts.2) j inside)) in
      one.first m (floor_below (points_on s.tree s.lane steps) p m fronts) low (omega (arith, number)) (subst (TellsAt h.0 m) same (holds s h.0 is h.1)).1
    where
      known : (e : ℕ) (u : Step) (n : ℕ) → slice_get (get_parts steps i s is).0 e ≡ Some u → by_lane point_of s.tree s.lane u ≡ Some n → length (get_parts steps i s is).0 ≡ i → steps ≡ (get_parts steps i s is).0 ++ (s ∷ (get_parts steps i s is).1) → n ≤ m
      known e u n at told place whole =
          let r = read_of s.tree s.lane u n told in
          let here : slice_get steps e ≡ Some u = ap (λ (xs : List Step). slice_get xs e) whole ∙ still_there (get_parts steps i s is).0 (s ∷ (get_parts steps i s is).1) e u at in
          let earlier : e < i = omega (arith, place, slice_get_within (get_parts steps i s is).0 e u at) in
          let it : at_place read_number steps e ≤ m = below e earlier (record { later = s; earlier = u; at = is; before = here; reads = ap is_read same; read_before = r.read; tree = r.on_tree; knows = inl r.of_lane }) in
          omega (arith, it, placed read_number steps e u here, r.number)

  pub all_first : AreFirst (length steps) (at_place lo_of steps) (IsTrueAt steps trees) (KnowsAt steps) (λ i. true) (at_place read_number steps)
  all_first i m within done low below lower holds =
      let s = some_at steps i within in
      at_read s.0 s.0.outcome refl i m s.1 (omega (arith, placed lo_of steps i s.0 s.1)) below (omega (arith, placed read_number steps i s.0 s.1)) holds
