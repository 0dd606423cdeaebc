-- The numbers of reads, put together line by line from those of each lane on each tree.
use Rattle.mt_verify.proofs.Prelude.{◌≡◌, ◌⊎◌, ℕ, suc, ◌+◌, ◌*◌, ◌<◌, ◌==◌, true, false, List, [], ◌∷◌, ◌++◌, Option, Some, None, length, filter, map, replicate, set, slice_get, get_or, take, drop, refl, sym, ap, ◌∙◌, subst, inl, inr, arith, get_or-set_same, get_or-set_other, length-append, drop-cons, cons_option, slice_index, cases_Bool, eqb-false, eqb-true, eq-eqb, append-nil, get_or-replicate, length-map, length-replicate, length-set, take_all, take_more, take-append-drop, filter-append, filter_map-append, length-map-range_with_len, slice_get-get_or, slice_get_within, ToldLine, What, Wrote, Got, Copied, Lawful, ToldRead, is_got, number_for, numbers_behind, read_by, read_in, reads_count, reads_told, own_points, AreLanesDone, Lane, looks_of, GoneTree, lane_looks, look_by, look_told, looks_told, cell_of, points_at, lines_on, looks_by_lane, most_lanes}
use Rattle.mt_base.specs.declared.kinds.Kind.TheVariants as kinds
use Rattle.mt_verify.proofs.Filled.{HasNumber}
use Rattle.mt_verify.proofs.FilledReads.{has_number, second_of}
use Rattle.mt_verify.proofs.OwnLines.{lane_is}
use Rattle.mt_verify.proofs.RefusedTrees.{lane_at}

-- ---- one line more

number_same : (what : What) (points more : List ℕ) → HasNumber what points → (number_for what (points ++ more) ≡ number_for what points) × (numbers_behind what (points ++ more) ≡ numbers_behind what points ++ more)
number_same (Wrote number call reply) points more has = (refl, refl)
number_same (Copied count) points more has = (refl, refl)
number_same (Lawful count) points more has = (refl, refl)
number_same (Got lo hi query told) [] more has = absurd has
number_same (Got lo hi query told) (k ∷ points) more has = (refl, refl)

points_over : (read : Option (ToldRead × ℕ)) (all some : List (ToldRead × ℕ)) (more : List ℕ) → map second_of all ≡ map second_of some ++ more → map second_of (cons_option read all) ≡ map second_of (cons_option read some) ++ more
points_over None all some more same = same
points_over (Some r) all some more same = ap (λ (l : List ℕ). r.1 ∷ l) same

-- of a lane's numbers, what the last line adds
abbrev point_in : ℕ → ℕ → ℕ → ToldLine → List ℕ
point_in tree lane k t = map second_of (cons_option (read_in tree lane k t) [])

points_more : (tree lane : ℕ) (xs : List ToldLine) (t : ToldLine) (points more : List ℕ) → length points ≡ reads_count xs → own_points tree lane (xs ++ t ∷ []) (points ++ more) ≡ own_points tree lane xs points ++ point_in tree lane (number_for t.what more) t
points_more tree lane [] t [] more count = refl
points_more tree lane [] t (k ∷ points) more count = absurd (omega (arith, count))
points_more tree lane (x ∷ xs) t points more count =
    let has = has_number x.what xs points x refl count in
    let same = number_same x.what points more has.0 in
    let rest = points_more tree lane xs t (numbers_behind x.what points) more has.1 in
    let over = points_over (read_in tree lane (number_for x.what points) x) (reads_told tree lane (xs ++ t ∷ []) (numbers_behind x.what points ++ more)) (reads_told tree lane xs (numbers_behind x.what points)) (point_in tree lane (number_for t.what more) t) rest in
    ap (λ (n : ℕ). map second_of (cons_option (read_in tree lane n x) (reads_told tree lane (xs ++ t ∷ []) (numbers_behind x.what (points ++ more))))) same.0
    ∙ (ap (λ (l : List ℕ). map second_of (cons_option (read_in tree lane (number_for x.what points) x) (reads_told tree lane (xs ++ t ∷ []) l))) same.1 ∙ over)

looks_more : (tree lane : ℕ) (xs : List ToldLine) (t : ToldLine) → length (looks_told tree lane (xs ++ t ∷ [])) ≡ length (looks_told tree lane xs) + length (looks_told tree lane (t ∷ []))
looks_more tree lane xs t = ap length (filter_map-append (look_by tree lane) xs (t ∷ [])) ∙ length-append (looks_told tree lane xs) (looks_told tree lane (t ∷ []))

count_more : (xs : List ToldLine) (t : ToldLine) → reads_count (xs ++ t ∷ []) ≡ reads_count xs + reads_count (t ∷ [])
count_more xs t = ap length (filter-append (λ (u : ToldLine). is_got u.what) xs (t ∷ [])) ∙ length-append (filter (λ (u : ToldLine). is_got u.what) xs) (filter (λ (u : ToldLine). is_got u.what) (t ∷ []))

-- what a line adds to a lane on a tree: a read with its number, or nothing
adds_by : (k : ℕ) (what : What) → is_got what ≡ true → (map second_of (cons_option (read_by what k) []) ≡ k ∷ []) × (length (cons_option (look_told what) []) ≡ 1)
adds_by k (Wrote number call reply) got = absurd (cc)
adds_by k (Copied count) got = absurd (cc)
adds_by k (Lawful count) got = absurd (cc)
adds_by k (Got lo hi query told) got = (refl, refl)

adds_none_by : (k : ℕ) (what : What) → is_got what ≡ false → (map second_of (cons_option (read_by what k) []) ≡ []) × (length (cons_option (look_told what) []) ≡ 0)
adds_none_by k (Wrote number call reply) other = (refl, refl)
adds_none_by k (Copied count) other = (refl, refl)
adds_none_by k (Lawful count) other = (refl, refl)
adds_none_by k (Got lo hi query told) other = absurd (cc)

adds_one : (tree lane k : ℕ) (t : ToldLine) → (t.tree == tree) ≡ true → (t.lane == lane) ≡ true → is_got t.what ≡ true → (point_in tree lane k t ≡ k ∷ []) × (length (looks_told tree lane (t ∷ [])) ≡ 1)
adds_one tree lane k t here own got = rw (here, own) (adds_by k t.what got)

adds_none : (tree lane k : ℕ) (t : ToldLine) → is_got t.what ≡ false → (point_in tree lane k t ≡ []) × (length (looks_told tree lane (t ∷ [])) ≡ 0)
adds_none tree lane k t other = elim (cases_Bool (t.tree == tree)) [
  | inr off ↦ rw off (refl, refl)
  | inl here ↦
      elim (cases_Bool (t.lane == lane)) [
        | inr off ↦ rw (here, off) (refl, refl)
        | inl own ↦ rw (here, own) (adds_none_by k t.what other)
      ]
]

-- ---- what was put together so far

pub record IsMerged (gone : List GoneTree) (told : List ToldLine) (used points : List ℕ) : Type 0 where
  pub count : length points ≡ reads_count told
  pub cells : length used ≡ length gone * most_lanes
  -- so many of a lane's numbers were used as it has reads so far, and these are its numbers so far
  pub taken : (tree lane : ℕ) → tree < length gone → lane < most_lanes → slice_index used (cell_of tree lane) ≡ length (looks_told tree lane told)
  pub own : (tree lane : ℕ) → tree < length gone → lane < most_lanes → own_points tree lane told points ≡ take (length (looks_told tree lane told)) (points_at gone tree lane)

-- each lane has as many numbers as reads
abbrev pub HaveAll : List GoneTree → List ToldLine → Type 0
HaveAll gone told = (tree lane : ℕ) → tree < length gone → lane < most_lanes → length (points_at gone tree lane) ≡ length (looks_told tree lane told)

pub idle : (gone : List GoneTree) (xs : List ToldLine) (t : ToldLine) (used points : List ℕ) → is_got t.what ≡ false → IsMerged gone xs used points → IsMerged gone (xs ++ t ∷ []) used points
idle gone xs t used points other m = record {
  count = m.count ∙ (sym (count_more xs t ∙ (ap (λ n. reads_count xs + n) none ∙ omega arith)));
  cells = m.cells;
  taken = λ tree lane below within. m.taken tree lane below within ∙ sym (same tree lane);
  own = λ tree lane below within.
      (let last : own_points tree lane (xs ++ t ∷ []) (points ++ []) ≡ own_points tree lane xs points ++ [] = points_more tree lane xs t points [] m.count ∙ ap (λ (l : List ℕ). own_points tree lane xs points ++ l) (adds_none tree lane (number_for t.what []) t other).0 in
      let all : own_points tree lane (xs ++ t ∷ []) points ≡ own_points tree lane xs points =
      subst (λ (l : List ℕ). own_points tree lane (xs ++ t ∷ []) l ≡ own_points tree lane xs points) (append-nil points) (last ∙ append-nil (own_points tree lane xs points)) in
      all ∙ (m.own tree lane below within ∙ ap (λ n. take n (points_at gone tree lane)) (sym (same tree lane))));
}
  where
    none : reads_count (t ∷ []) ≡ 0
    none = rw other refl

    same : (tree lane : ℕ) → length (looks_told tree lane (xs ++ t ∷ [])) ≡ length (looks_told tree lane xs)
    same tree lane = looks_more tree lane xs t ∙ (ap (λ n. length (looks_told tree lane xs) + n) (adds_none tree lane 0 t other).1 ∙ omega arith)

pub merged_by : (gone : List GoneTree) (xs ys : List ToldLine) (used used' points points' : List ℕ) → xs ≡ ys → used ≡ used' → points ≡ points' → IsMerged gone xs used points → IsMerged gone ys used' points'
merged_by gone xs ys used used' points points' lines places numbers m =
    subst (λ (l : List ToldLine). IsMerged gone l used' points') lines (subst (λ (l : List ℕ). IsMerged gone xs l points') places (subst (λ (l : List ℕ). IsMerged gone xs used l) numbers m))

pub none_yet : (gone : List GoneTree) → IsMerged gone [] (replicate (length gone * most_lanes) 0) []
none_yet gone = record {
  count = refl;
  cells = length-replicate (length gone * most_lanes) 0;
  taken = λ tree lane below within. get_or-replicate (length gone * most_lanes) (cell_of tree lane) 0 0 (omega (arith, below, within));
  own = λ tree lane below within. refl;
}

-- the read of this line takes the next number of its lane on its tree
module _ (gone : List GoneTree) (xs : List ToldLine) (t : ToldLine) (used points : List ℕ) (m : IsMerged gone xs used points) (got : is_got t.what ≡ true) (there : t.tree < length gone) (on : t.lane < most_lanes)
    (room : slice_index used (cell_of t.tree t.lane) < length (points_at gone t.tree t.lane)) where
  abbrev place : ℕ
  place = slice_index used (cell_of t.tree t.lane)

  abbrev point : ℕ
  point = slice_index (points_at gone t.tree t.lane) place

  abbrev after : List ℕ
  after = set used (cell_of t.tree t.lane) (place + 1)

  -- a lane on a tree is the one of the line, or the line adds nothing to it
  abbrev IsOther : ℕ → ℕ → Type 0
  IsOther tree lane = (cell_of tree lane ≡ cell_of t.tree t.lane → ⊥) × ((k : ℕ) → (point_in tree lane k t ≡ []) × (length (looks_told tree lane (t ∷ [])) ≡ 0))

  which : (tree lane : ℕ) → lane < most_lanes → ((t.tree ≡ tree) × (t.lane ≡ lane)) ⊎ IsOther tree lane
  which tree lane within = elim (cases_Bool (t.tree == tree)) [
    | inr off ↦ (let ne : t.tree ≡ tree → ⊥ = eqb-false t.tree tree off in inr (λ same. ne (omega (arith, same, within, on)), λ k. rw off (refl, refl)))
    | inl here ↦
        elim (cases_Bool (t.lane == lane)) [
          | inr off ↦ (let ne : t.lane ≡ lane → ⊥ = eqb-false t.lane lane off in inr (λ same. ne (omega (arith, same, within, on)), λ k. rw (here, off) (refl, refl)))
          | inl own ↦ inl (eqb-true t.tree tree here, eqb-true t.lane lane own)
        ]
  ]

  one : (point_in t.tree t.lane point t ≡ point ∷ []) × (length (looks_told t.tree t.lane (t ∷ [])) ≡ 1)
  one = adds_one t.tree t.lane point t (eq-eqb t.tree t.tree refl) (eq-eqb t.lane t.lane refl) got

  number : number_for t.what (point ∷ []) ≡ point
  number = number_of t.what got
    where
      number_of : (what : What) → is_got what ≡ true → number_for what (point ∷ []) ≡ point
      number_of (Wrote number call reply) got = absurd (cc)
      number_of (Copied count) got = absurd (cc)
      number_of (Lawful count) got = absurd (cc)
      number_of (Got lo hi query told) got = refl

  at_place : place ≡ length (looks_told t.tree t.lane xs)
  at_place = m.taken t.tree t.lane there on

  within_cells : cell_of t.tree t.lane < length used
  within_cells = omega (arith, m.cells, there, on)

  looks_own : length (looks_told t.tree t.lane (xs ++ t ∷ [])) ≡ place + 1
  looks_own = omega (arith, looks_more t.tree t.lane xs t, one.1, at_place)

  looks_other : (tree lane : ℕ) → IsOther tree lane → length (looks_told tree lane (xs ++ t ∷ [])) ≡ length (looks_told tree lane xs)
  looks_other tree lane other = omega (arith, looks_more tree lane xs t, (other.1 0).1)

  taken_own : slice_index after (cell_of t.tree t.lane) ≡ length (looks_told t.tree t.lane (xs ++ t ∷ []))
  taken_own = get_or-set_same used (cell_of t.tree t.lane) (place + 1) 0 within_cells ∙ sym looks_own

  taken_more : (tree lane : ℕ) → tree < length gone → lane < most_lanes → slice_index after (cell_of tree lane) ≡ length (looks_told tree lane (xs ++ t ∷ []))
  taken_more tree lane below within = elim (which tree lane within) [
    | inl same ↦ subst (λ (n : ℕ). slice_index after (cell_of n lane) ≡ length (looks_told n lane (xs ++ t ∷ []))) same.0 (subst (λ (n : ℕ). slice_index after (cell_of t.tree n) ≡ length (looks_told t.tree n (xs ++ t ∷ []))) same.1 taken_own)
    | inr other ↦ get_or-set_other used (cell_of t.tree t.lane) (cell_of tree lane) (place + 1) 0 other.0 ∙ (m.taken tree lane below within ∙ sym (looks_other tree lane other))
  ]

  own_own : own_points t.tree t.lane (xs ++ t ∷ []) (points ++ point ∷ []) ≡ take (length (looks_told t.tree t.lane (xs ++ t ∷ []))) (points_at gone t.tree t.lane)
  own_own =
      let last : own_points t.tree t.lane (xs ++ t ∷ []) (points ++ point ∷ []) ≡ own_points t.tree t.lane xs points ++ point ∷ [] =
      points_more t.tree t.lane xs t points (point ∷ []) m.count ∙ ap (λ (l : List ℕ). own_points t.tree t.lane xs points ++ l) (ap (λ n. point_in t.tree t.lane n t) number ∙ one.0) in
      let before : own_points t.tree t.lane xs points ≡ take place (points_at gone t.tree t.lane) = m.own t.tree t.lane there on ∙ ap (λ n. take n (points_at gone t.tree t.lane)) (sym at_place) in
      last ∙ (ap (λ (l : List ℕ). l ++ point ∷ []) before ∙ (sym (take_more (points_at gone t.tree t.lane) place 0 room) ∙ ap (λ n. take n (points_at gone t.tree t.lane)) (sym looks_own)))

  own_more : (tree lane : ℕ) → tree < length gone → lane < most_lanes → own_points tree lane (xs ++ t ∷ []) (points ++ point ∷ []) ≡ take (length (looks_told tree lane (xs ++ t ∷ []))) (points_at gone tree lane)
  own_more tree lane below within = elim (which tree lane within) [
    | inl same ↦
        subst (λ (n : ℕ). own_points n lane (xs ++ t ∷ []) (points ++ point ∷ []) ≡ take (length (looks_told n lane (xs ++ t ∷ []))) (points_at gone n lane)) same.0
        (subst (λ (n : ℕ). own_points t.tree n (xs ++ t ∷ []) (points ++ point ∷ []) ≡ take (length (looks_told t.tree n (xs ++ t ∷ []))) (points_at gone t.tree n)) same.1 own_own)
    | inr other ↦
        points_more tree lane xs t points (point ∷ []) m.count
        ∙ (ap (λ (l : List ℕ). own_points tree lane xs points ++ l) (other.1 (number_for t.what (point ∷ []))).0
        ∙ (append-nil (own_points tree lane xs points) ∙ (m.own tree lane below within ∙ ap (λ n. take n (points_at gone tree lane)) (sym (looks_other tree lane other)))))
  ]

  pub one_more : IsMerged gone (xs ++ t ∷ []) after (points ++ point ∷ [])
  one_more = record {
    count = length-append points (point ∷ []) ∙ (ap (λ n. n + 1) m.count ∙ sym (count_more xs t ∙ ap (λ n. reads_count xs + n) (rw got refl)));
    cells = length-set used (cell_of t.tree t.lane) (place + 1) ∙ m.cells;
    taken = taken_more;
    own = own_more;
  }

-- ---- all of them

no_tree : GoneTree
no_tree = record { kind = kinds.Range; opening = []; noted = []; lanes = [] }

no_lane : Lane
no_lane = record { looks = []; points = [] }

module _ (gone : List GoneTree) (told : List ToldLine) (looks : (tree : ℕ) (g : GoneTree) → slice_get gone tree ≡ Some g → looks_of g.lanes ≡ lane_looks tree told) where
  as_many_lanes : (tree : ℕ) (g : GoneTree) → slice_get gone tree ≡ Some g → length g.lanes ≡ most_lanes
  as_many_lanes tree g is = omega (arith, length-map g.lanes (λ (t : Lane). t.looks), ap length (looks tree g is), length-map-range_with_len (looks_by_lane (lines_on tree told)) 0 most_lanes)

  pub points_are : (tree lane : ℕ) (g : GoneTree) (l : Lane) → slice_get gone tree ≡ Some g → slice_get g.lanes lane ≡ Some l → points_at gone tree lane ≡ l.points
  points_are tree lane g l is at = rw (is, at) refl

  pub have_all : ((tree : ℕ) (g : GoneTree) → slice_get gone tree ≡ Some g → AreLanesDone g.lanes true) → HaveAll gone told
  have_all done tree lane below within =
      let g : GoneTree = get_or gone tree no_tree in
      let is : slice_get gone tree ≡ Some g = slice_get-get_or gone tree no_tree below in
      let l : Lane = get_or g.lanes lane no_lane in
      let at : slice_get g.lanes lane ≡ Some l = slice_get-get_or g.lanes lane no_lane (omega (arith, within, as_many_lanes tree g is)) in
      let own : l.looks ≡ looks_told tree lane told = lane_at tree lane told g.lanes l (looks tree g is) at ∙ lane_is tree lane told in
      ap length (points_are tree lane g l is at) ∙ (done tree g is lane l at ∙ ap length own)

  pub all_own : ((tree : ℕ) (g : GoneTree) → slice_get gone tree ≡ Some g → AreLanesDone g.lanes true) → (used points : List ℕ) → IsMerged gone told used points
      → (tree lane : ℕ) (g : GoneTree) (l : Lane) → slice_get gone tree ≡ Some g → slice_get g.lanes lane ≡ Some l → own_points tree lane told points ≡ l.points
  all_own done used points m tree lane g l is at =
      let below : tree < length gone = slice_get_within gone tree g is in
      let within : lane < most_lanes = omega (arith, slice_get_within g.lanes lane l at, as_many_lanes tree g is) in
      m.own tree lane below within ∙ (take_all (length (looks_told tree lane told)) (points_at gone tree lane) (omega (arith, have_all done tree lane below within)) ∙ points_are tree lane g l is at)

-- the line that comes next finds a number of its lane, where it tells a read
pub has_next : (gone : List GoneTree) (told : List ToldLine) (i : ℕ) (d : ToldLine) (used points : List ℕ) → i < length told → HaveAll gone told → IsMerged gone (take i told) used points → (get_or told i d).tree < length gone → (get_or told i d).lane < most_lanes → is_got (get_or told i d).what ≡ true
    → (cell_of (get_or told i d).tree (get_or told i d).lane < length used) × (slice_index used (cell_of (get_or told i d).tree (get_or told i d).lane) < length (points_at gone (get_or told i d).tree (get_or told i d).lane))
has_next gone told i d used points before all m there on got =
    let t : ToldLine = get_or told i d in
    let parts : take i told ++ t ∷ drop (suc i) told ≡ told = ap (λ (l : List ToldLine). take i told ++ l) (sym (drop-cons told i d before)) ∙ take-append-drop i told in
    let split : length (looks_told t.tree t.lane told) ≡ length (looks_told t.tree t.lane (take i told)) + length (looks_told t.tree t.lane (t ∷ drop (suc i) told)) =
    ap (λ (l : List ToldLine). length (looks_told t.tree t.lane l)) (sym parts) ∙ (ap length (filter_map-append (look_by t.tree t.lane) (take i told) (t ∷ drop (suc i) told)) ∙ length-append (looks_told t.tree t.lane (take i told)) (looks_told t.tree t.lane (t ∷ drop (suc i) told))) in
    let some : 0 < length (looks_told t.tree t.lane (t ∷ drop (suc i) told)) = rw (eq-eqb t.tree t.tree refl, eq-eqb t.lane t.lane refl) (look_first t.what got (looks_told t.tree t.lane (drop (suc i) told))) in
    (omega (arith, m.cells, there, on), omega (arith, m.taken t.tree t.lane there on, all t.tree t.lane there on, split, some))
  where
    look_first : (what : What) → is_got what ≡ true → (rest : List ToldRead) → 0 < length (cons_option (look_told what) rest)
    look_first (Wrote number call reply) got rest = absurd (cc)
    look_first (Copied count) got rest = absurd (cc)
    look_first (Lawful count) got rest = absurd (cc)
    look_first (Got lo hi query told) got rest = omega arith
