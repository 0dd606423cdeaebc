-- The numbers of a run's reads are, for each lane on each tree, such as the lane's looks may have.
use Rattle.mt_verify.proofs.Prelude.{◌≡◌, ℕ, zero, suc, ◌+◌, ◌<◌, ◌≤◌, true, List, [], ◌∷◌, Option, Some, None, get_or, slice_get, refl, sym, ap, ◌∙◌, subst, inl, arith, All, AllPairs, cons_option, eq-eqb, same_Some, History, map_at, Log, Transcript, Outcome, Called, Looked, Counted, Step, IsRunBy, InOrder, StandsIn, IsTrueOf, Follows, is_read, shown, ToldRead, look_of, by_lane, looks_on, points_on, IsTrueOn, MayHave, point_of, lo_of, read_number}
use Rattle.mt_verify.proofs.AllLanes.{IsReadOf, read_of, is_own, both_none, both_some}
use Rattle.mt_verify.proofs.LeastNumbers.{low_at, high_at}
use Rattle.mt_verify.proofs.Runs.{all_at, some_at}

-- what a step on this lane and tree has
pub record HasLook (tree lane : ℕ) (s : Step) (l : ToldRead) (k : ℕ) : Type 0 where
  pub here : IsReadOf tree lane k s
  pub low : lo_of s.outcome ≡ l.lo
  pub told : (h : History) (before : ℕ) → IsTrueOf h before s.outcome → (l.lo ≤ k) × (k ≤ l.hi) × IsTrueOn (map_at h k) l

look_is : (o : Outcome) (l : ToldRead) (k : ℕ) → look_of o ≡ Some l → point_of o ≡ Some k → (lo_of o ≡ l.lo) × ((h : History) (before : ℕ) → IsTrueOf h before o → (l.lo ≤ k) × (k ≤ l.hi) × IsTrueOn (map_at h k) l)
look_is (Called n c r) l k is at = absurd (cc)
look_is (Counted said ranges) l k is at = absurd (cc)
look_is (Looked lo hi m q v) l k is at =
    let look : record { lo = lo; hi = hi; query = q; told = shown q v } ≡ l = same_Some (record { lo = lo; hi = hi; query = q; told = shown q v }) l is in
    let number : m ≡ k = same_Some m k at in (
      ap (λ (x : ToldRead). x.lo) look,
      λ h before true_of.
          subst (λ (x : ToldRead × ℕ). (x.0.lo ≤ x.1) × (x.1 ≤ x.0.hi) × IsTrueOn (map_at h x.1) x.0) (λ i. (look i, number i)) (true_of.0.from, true_of.0.to, ap (shown q) (sym true_of.0.answered)),
    )

has_look : (tree lane : ℕ) (s : Step) (l : ToldRead) (k : ℕ) → by_lane look_of tree lane s ≡ Some l → by_lane point_of tree lane s ≡ Some k → HasLook tree lane s l k
has_look tree lane s l k is at =
    let r = read_of tree lane s k at in
    let own_look : look_of s.outcome ≡ Some l = sym (is_own look_of tree lane s (eq-eqb s.tree tree r.on_tree) (eq-eqb s.lane lane r.of_lane)) ∙ is in
    let own_point : point_of s.outcome ≡ Some k = sym (is_own point_of tree lane s (eq-eqb s.tree tree r.on_tree) (eq-eqb s.lane lane r.of_lane)) ∙ at in
    let x = look_is s.outcome l k own_look own_point in
    record { here = r; low = x.0; told = x.1 }

-- of two reads of which the later knows of the earlier
pair_of : (o p : Outcome) → is_read o ≡ true → is_read p ≡ true → Follows o p → (read_number o ≤ read_number p) × (read_number o ≤ lo_of p + 1)
pair_of (Called m c r) p read read' follows = absurd (cc)
pair_of (Counted said ranges) p read read' follows = absurd (cc)
pair_of (Looked lo hi k q v) (Called n c r) read read' follows = absurd (cc)
pair_of (Looked lo hi k q v) (Counted said ranges) read read' follows = absurd (cc)
pair_of (Looked lo hi k q v) (Looked lo' hi' k' q' v') read read' follows = (follows.0, follows.2)

-- ---- the lists of a lane

-- what holds of each look and its number, where it holds of each step that has them
module _ (tree lane : ℕ) (P : ToldRead → ℕ → Type 0) where
  abbrev EachHas : List Step → Type 0
  EachHas steps = (i : ℕ) (l : ToldRead) → slice_get (looks_on tree lane steps) i ≡ Some l → P l (get_or (points_on tree lane steps) i 0)

  each_has : (steps : List Step) → ((e : ℕ) (s : Step) (l : ToldRead) (k : ℕ) → slice_get steps e ≡ Some s → by_lane look_of tree lane s ≡ Some l → by_lane point_of tree lane s ≡ Some k → P l k) → EachHas steps
  each_has [] each = λ i l is. absurd (cc)
  each_has (s ∷ steps) each = step (by_lane look_of tree lane s) refl (each_has steps (λ e u l k at. each (suc e) u l k at))
    where
      step : (o : Option ToldRead) → by_lane look_of tree lane s ≡ o → EachHas steps → EachHas (s ∷ steps)
      step None look rest i l is =
          let point = both_none tree lane s look in
          let inside : slice_get (looks_on tree lane steps) i ≡ Some l = ap (λ (o : Option ToldRead). slice_get (cons_option o (looks_on tree lane steps)) i) (sym look) ∙ is in
          subst (λ (o : Option ℕ). P l (get_or (cons_option o (points_on tree lane steps)) i 0)) (sym point) (rest i l inside)
      step (Some m) look rest i l is =
          let point = both_some tree lane s m look in
          let inside : slice_get (m ∷ looks_on tree lane steps) i ≡ Some l = ap (λ (o : Option ToldRead). slice_get (cons_option o (looks_on tree lane steps)) i) (sym look) ∙ is in
          subst (λ (o : Option ℕ). P l (get_or (cons_option o (points_on tree lane steps)) i 0)) (sym point.1) (first i inside)
        where
          first : (i : ℕ) → slice_get (m ∷ looks_on tree lane steps) i ≡ Some l → P l (get_or ((both_some tree lane s m look).0 ∷ points_on tree lane steps) i 0)
          first zero inside = subst (λ (x : ToldRead). P x (both_some tree lane s m look).0) (same_Some m l inside) (each zero s m (both_some tree lane s m look).0 refl look (both_some tree lane s m look).1)
          first (suc i) inside = rest i l inside

-- each two looks with their numbers, of which the one stands before the other
abbrev Rises : ToldRead → ℕ → ToldRead → ℕ → Type 0
Rises l k l' k' = (k ≤ k') × (k ≤ l'.lo + 1)

module _ (tree lane : ℕ) where
  abbrev PairsRise : List Step → Type 0
  PairsRise steps = (j i : ℕ) (l l' : ToldRead) → j < i → slice_get (looks_on tree lane steps) j ≡ Some l → slice_get (looks_on tree lane steps) i ≡ Some l' → Rises l (get_or (points_on tree lane steps) j 0) l' (get_or (points_on tree lane steps) i 0)

  behind_one : (s : Step) (l : ToldRead) (k : ℕ) (steps : List Step) → by_lane look_of tree lane s ≡ Some l → by_lane point_of tree lane s ≡ Some k → All (InOrder s) steps → EachHas tree lane (Rises l k) steps
  behind_one s l k steps is at order = each_has tree lane (Rises l k) steps (λ e u l' k' there look point.
      let a = has_look tree lane s l k is at in
      let b = has_look tree lane u l' k' look point in
      let follows = all_at (InOrder s) steps e u order there (a.here.on_tree ∙ sym b.here.on_tree) (inl (a.here.of_lane ∙ sym b.here.of_lane)) in
      let both = pair_of s.outcome u.outcome a.here.read b.here.read follows in
      (omega (arith, both.0, a.here.number, b.here.number), omega (arith, both.1, a.here.number, b.low)))

  pairs_rise : (steps : List Step) → AllPairs InOrder steps → PairsRise steps
  pairs_rise [] order = λ j i l l' before is is'. absurd (cc)
  pairs_rise (s ∷ steps) order = step (by_lane look_of tree lane s) refl (pairs_rise steps (λ a b d before within. order (suc a) (suc b) d (omega arith) (omega arith))) (λ b d within. order zero (suc b) d (omega arith) (omega arith))
    where
      step : (o : Option ToldRead) → by_lane look_of tree lane s ≡ o → PairsRise steps → All (InOrder s) steps → PairsRise (s ∷ steps)
      step None look rest head j i l l' before is is' =
          let point = both_none tree lane s look in
          let one : slice_get (looks_on tree lane steps) j ≡ Some l = ap (λ (o : Option ToldRead). slice_get (cons_option o (looks_on tree lane steps)) j) (sym look) ∙ is in
          let two : slice_get (looks_on tree lane steps) i ≡ Some l' = ap (λ (o : Option ToldRead). slice_get (cons_option o (looks_on tree lane steps)) i) (sym look) ∙ is' in
          subst (λ (o : Option ℕ). Rises l (get_or (cons_option o (points_on tree lane steps)) j 0) l' (get_or (cons_option o (points_on tree lane steps)) i 0)) (sym point) (rest j i l l' before one two)
      step (Some m) look rest head j i l l' before is is' =
          let point = both_some tree lane s m look in
          let one : slice_get (m ∷ looks_on tree lane steps) j ≡ Some l = ap (λ (o : Option ToldRead). slice_get (cons_option o (looks_on tree lane steps)) j) (sym look) ∙ is in
          let two : slice_get (m ∷ looks_on tree lane steps) i ≡ Some l' = ap (λ (o : Option ToldRead). slice_get (cons_option o (looks_on tree lane steps)) i) (sym look) ∙ is' in
          subst (λ (o : Option ℕ). Rises l (get_or (cons_option o (points_on tree lane steps)) j 0) l' (get_or (cons_option o (points_on tree lane steps)) i 0)) (sym point.1) (first j i before one two)
        where
          first : (j i : ℕ) → j < i → slice_get (m ∷ looks_on tree lane steps) j ≡ Some l → slice_get (m ∷ looks_on tree lane steps) i ≡ Some l' → Rises l (get_or ((both_some tree lane s m look).0 ∷ points_on tree lane steps) j 0) l' (get_or ((both_some tree lane s m look).0 ∷ points_on tree lane steps) i 0)
          first j zero before one two = absurd (omega arith)
          first zero (suc i) before one two = subst (λ (x : ToldRead). Rises x (both_some tree lane s m look).0 l' (get_or (points_on tree lane steps) i 0)) (same_Some m l one) (behind_one s m (both_some tree lane s m look).0 steps look (both_some tree lane s m look).1 head i l' two)
          first (suc j) (suc i) before one two = rest j i l l' (omega arith) one two

-- ---- a run

module _ (log : Log) (rows : ℕ) (t : Transcript) (steps : List Step) (trees : List History) (run : IsRunBy log rows t steps trees) (tree lane : ℕ) (h : History) (is : slice_get trees tree ≡ Some h) where
  abbrev looks : List ToldRead
  looks = looks_on tree lane steps

  each_read : EachHas tree lane (λ l k. (l.lo ≤ k) × (k ≤ l.hi) × IsTrueOn (map_at h k) l) steps
  each_read = each_has tree lane (λ l k. (l.lo ≤ k) × (k ≤ l.hi) × IsTrueOn (map_at h k) l) steps (λ e s l k there look point.
      let a = has_look tree lane s l k look point in
      let g = all_at (StandsIn steps trees) steps e s run.reads there in
      let same : g.0 ≡ h = same_Some g.0 h (sym g.1 ∙ (ap (slice_get trees) a.here.on_tree ∙ is)) in
      subst (λ (x : History). (l.lo ≤ k) × (k ≤ l.hi) × IsTrueOn (map_at x k) l) same (a.told g.0 _ g.2))

  pub lane_may_have : MayHave (map_at h) looks (λ i. get_or (points_on tree lane steps) i 0)
  lane_may_have = record {
    from = λ i within. let l = some_at looks i within in let e = each_read i l.0 l.1 in omega (arith, low_at looks i l.0 l.1, e.0);
    to = λ i within. let l = some_at looks i within in let e = each_read i l.0 l.1 in omega (arith, high_at looks i l.0 l.1, e.1);
    holds = λ i within l at. (each_read i l at).2;
    rise = λ j i before within known. (let l = some_at looks j (omega arith) in let l' = some_at looks i within in (pairs_rise tree lane steps run.order j i l.0 l'.0 before l.1 l'.1).0);
    floor = λ j i before within known. (let l = some_at looks j (omega arith) in let l' = some_at looks i within in omega (arith, low_at looks i l'.0 l'.1, (pairs_rise tree lane steps run.order j i l.0 l'.0 before l.1 l'.1).1));
  }
