-- A call that begins or ends, and a scan, leave what is known of rows.
use Rattle.mt_life.proofs.Prelude.{◌≡◌, ℕ, ◌+◌, ◌-◌, ◌<◌, ◌≤◌, Bool, true, false, refl, sym, ap, ◌∙◌, subst, ⊎_elim, arith, cases_lt, Kind, Call, Reply, IsMap, Scan, one_if, is_buried, Sheet, MayBegin, begun, scanned, MayFinish, finished, Extent, Moment, State, state_of, with_cleared, HasRow, HasPart, calls, Known, Goes}
use Rattle.mt_life.proofs.Staying.{true_false}

module _ (kind : Kind) (s : State) (e : ℕ → Extent) (m m' : ℕ → Moment) (known : Known kind s e m) (ended : ℕ) (in_flight published : Bool) (cleared : ℕ) where
  abbrev v : State
  v = record s { ended = ended; in_flight = in_flight; published = published; cleared = cleared }

  pub record Turns : Type 0 where
    pub calm : in_flight ≡ false → published ≡ false
    pub clear : s.cleared ≤ cleared
    pub count : (calls s ≤ calls v) × (calls v ≤ calls s + 1)
    pub past : (k : ℕ) → k ≤ calls s → m' k ≡ m k
    pub now : m' (calls v) ≡ m (calls s)
    pub burials : (row : ℕ) → HasRow s.tree.rows row → is_buried s.buried row ≡ true → (in_flight ≡ true) × (published ≡ false)

  pub turned : Turns → Known kind v e m' × Goes kind s v e e m m'
  turned turns = (
    record {
      width = known.width;
      calm = turns.calm;
      current = ap (λ (k : Moment). k.ranges) turns.now ∙ known.current;
      maps = λ k le. ⊎_elim
          (λ (new : calls s < k). let most = turns.count.1 in let last : k ≡ calls v = omega arith in
          subst (λ (n : ℕ). IsMap kind (m' n).ranges) (sym last) (subst (λ (k : Moment). IsMap kind k.ranges) (sym turns.now) (known.maps (calls s) (omega arith))))
          (λ (old : k ≤ calls s). subst (λ (k : Moment). IsMap kind k.ranges) (sym (turns.past k old)) (known.maps k old))
          (cases_lt (calls s) k);
      root = known.root;
      shape = known.shape;
      dead = λ row d has dead. let both = known.dead row d has dead in let low = both.1 in let more = turns.count.0 in (both.0, omega arith);
      marks = λ row d has dead waits. known.marks row d has dead (let clear = turns.clear in omega arith);
      buried = λ row has is. let was = known.buried row has is in let now = turns.burials row has is in (was.0, was.1, now.0, now.1);
      unmarked = known.unmarked;
      live_leaf = λ row has live leaf. subst (λ (k : Moment). HasPart kind s.tree.table row (e row) k) (sym turns.now) (known.live_leaf row has live leaf);
      dead_leaf = λ row d has dead leaf. let low = (known.dead row d has dead).1 in
          subst (λ (k : Moment). HasPart kind s.tree.table row (e row) k) (sym (turns.past (d - 1) (omega arith))) (known.dead_leaf row d has dead leaf);
      live_inner = known.live_inner;
      dead_inner = λ row level d has dead waits at. known.dead_inner row level d has dead (let clear = turns.clear in omega arith) at;
    },
    record {
      rows = refl;
      width = refl;
      cleared = turns.clear;
      count = turns.count;
      past = turns.past;
      later = λ row d has waits le later. later;
      place = λ row d has waits later. (refl, λ c above low. ((λ _. refl), refl));
      dead = λ row d has waits dead. dead;
      frozen = λ row d c has waits dead inside. refl;
    },
  )

pub begin_turns : (kind : Kind) (s : Sheet) (e : ℕ → Extent) (m : ℕ → Moment) → MayBegin s → Known kind (state_of s) e m → Known kind (state_of (begun s)) e m × Goes kind (state_of s) (state_of (begun s)) e e m m
begin_turns kind s e m may known =
    let off : one_if false ≡ one_if s.published = ap one_if (sym (known.calm may.idle)) in
    let same : calls (state_of (begun s)) ≡ calls (state_of s) = ap (λ (n : ℕ). s.ended + n) off in
    turned kind (state_of s) e m m known s.ended true false s.cleared (record {
      calm = λ _. refl;
      clear = omega arith;
      count = (omega arith, omega arith);
      past = λ k le. refl;
      now = ap m same;
      burials = λ row has is. (refl, refl);
    })

pub raise_turns : (kind : Kind) (s : State) (cleared : ℕ) (e : ℕ → Extent) (m : ℕ → Moment) → s.cleared ≤ cleared → Known kind s e m → Known kind (with_cleared s cleared) e m × Goes kind s (with_cleared s cleared) e e m m
raise_turns kind s cleared e m rises known = turned kind s e m m known s.ended s.in_flight s.published cleared (record {
  calm = known.calm;
  clear = rises;
  count = (omega arith, omega arith);
  past = λ k le. refl;
  now = refl;
  burials = λ row has is. let was = known.buried row has is in (was.2, was.3);
})

pub scan_turns : (kind : Kind) (s : Sheet) (answer : Scan) (cleared : ℕ) (e : ℕ → Extent) (m : ℕ → Moment) → s.cleared ≤ cleared → Known kind (state_of s) e m
    → Known kind (state_of (scanned s answer cleared)) e m × Goes kind (state_of s) (state_of (scanned s answer cleared)) e e m m
scan_turns kind s answer cleared e m rises known = raise_turns kind (state_of s) cleared e m rises known

-- a call ends; where it has published nothing, the map and its cuts are those of the call before
pub finish_turns : (kind : Kind) (s : Sheet) (call : Call) (reply : Reply) (e : ℕ → Extent) (m m' : ℕ → Moment) → MayFinish kind s call reply → ((k : ℕ) → k ≤ calls (state_of s) → m' k ≡ m k) → (s.published ≡ false → m' (s.ended + 1) ≡ m s.ended) → Known kind (state_of s) e m
    → Known kind (state_of (finished s call reply)) e m' × Goes kind (state_of s) (state_of (finished s call reply)) e e m m'
finish_turns kind s call reply e m m' may past quiet known = turned kind (state_of s) e m m' known (s.ended + 1) false false s.cleared (record {
  calm = λ _. refl;
  clear = omega arith;
  count = most s.published;
  past = past;
  now = by s.published refl;
  burials = λ row has is. let was = known.buried row has is in absurd (true_false (is_buried s.buried row) is ((may.kept was.3).none_buried row has.0 has.1));
})
  where
    most : (b : Bool) → (s.ended + one_if b ≤ (s.ended + 1) + one_if false) × ((s.ended + 1) + one_if false ≤ s.ended + one_if b + 1)
    most true = (omega arith, omega arith)
    most false = (omega arith, omega arith)

    end_is : (s.ended + 1) + one_if false ≡ s.ended + 1
    end_is = omega arith

    by : (b : Bool) → s.published ≡ b → m' ((s.ended + 1) + one_if false) ≡ m (calls (state_of s))
    by true is = let same : calls (state_of s) ≡ s.ended + 1 = ap (λ (b : Bool). s.ended + one_if b) is in ap m' (end_is ∙ sym same) ∙ past (calls (state_of s)) (omega arith)
    by false is = let same : s.ended ≡ calls (state_of s) = let e : calls (state_of s) ≡ s.ended + one_if false = ap (λ (b : Bool). s.ended + one_if b) is in omega arith in ap m' end_is ∙ (quiet is ∙ ap m same)
