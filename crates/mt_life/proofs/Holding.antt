-- What is known of rows is enough for a section that holds some.
use Rattle.mt_life.proofs.Prelude.{◌≡◌, ◌≢◌, ℕ, suc, ◌+◌, ◌-◌, ◌<◌, ◌≤◌, Bool, true, false, Some, None, refl, sym, ap, ◌∙◌, subst, inl, inr, ⊎_elim, arith, cases_lt, cases_Bool, Kind, Width, columns, deepest, RowKind, row_in, dead_mark, slots_of, Span, Life, New, Draft, Live, Dead, Table, root_span, one_if, kind_at, life_of, is_buried, word_at, IsOneOf, all_one_of, Extent, Held, Moment, State, begun_calls, extent_at, spans_at, Alive, Later, IsLive, HasRow, HasPart, calls, Child, Known, SameForm, Shape, Goes, copy_of, come, died_by, as_known_now, Snapshot, HoldsRow, LeadsTo, LeafTells}
use Rattle.mt_life.proofs.Turning.{later_cases, any}

form_same : (t : Table) (kind : RowKind) (row : ℕ) → SameForm t t kind row
form_same t kind row c above low = ((λ _. refl), refl)

form_on : (a b c : Table) (kind : RowKind) (row : ℕ) → b.width ≡ a.width → SameForm a b kind row → SameForm b c kind row → SameForm a c kind row
form_on a b c kind row width first second col above low =
    let slots : slots_of b.width kind ≡ slots_of a.width kind = ap (λ (w : Width). slots_of w kind) width in
    let one = first col above low in
    let two = second col above (omega arith) in
    ((λ pivot. two.0 (omega arith) ∙ one.0 pivot), two.1 ∙ one.1)

form_back : (a b : Table) (kind : RowKind) (row : ℕ) → b.width ≡ a.width → SameForm a b kind row → SameForm b a kind row
form_back a b kind row width form col above low =
    let slots : slots_of b.width kind ≡ slots_of a.width kind = ap (λ (w : Width). slots_of w kind) width in
    let one = form col above (omega arith) in
    ((λ pivot. sym (one.0 (omega arith))), sym one.1)

alive_dead : (l : Life) (d n k : ℕ) → l ≡ Dead d → Alive l n k → k < d
alive_dead l d n k is alive = subst (λ (l : Life). Alive l n k) is alive

abbrev DiesFrom : ℕ → Life → Type 0
DiesFrom since l = (d : ℕ) × (l ≡ Dead d) × (since + 1 ≤ d)

-- what a section knows of a row that it holds stays true
pub holds_on : (kind : Kind) (s s' : State) (e e' : ℕ → Extent) (m m' : ℕ → Moment) (x : Held) → Known kind s e m → Known kind s' e' m' → Goes kind s s' e e' m m' → s'.cleared ≤ x.since
    → HoldsRow kind s e m x → HoldsRow kind s' e' m' x
holds_on kind s s' e e' m m' x known known' g kept h = record {
  has = has';
  life = later;
  kept = kept;
  old = h.old;
  met = (let a = g.count.0 in let b = h.met in omega arith);
  extent = place.0 ∙ h.extent;
  width = h.width ∙ sym g.width;
  shape = h.shape;
  form = form';
  died = λ d is. g.dead x.row d h.has (waits_for d (h.died d is)) (h.died d is);
  frozen = λ d c is inside. let inside' = subst (λ (w : Width). c < columns w) g.width inside in g.frozen x.row d c h.has (waits_for d (h.died d is)) (h.died d is) inside' ∙ h.frozen d c is inside';
  past = past;
}
  where
    has' : HasRow s'.tree.rows x.row
    has' = let low = h.has.0 in let high = h.has.1 in let rows = g.rows in (low, omega arith)

    waits : s.cleared < x.since + 1
    waits = let k = h.kept in omega arith

    waits_for : (d : ℕ) → life_of s.lives x.row ≡ Dead d → s.cleared < d
    waits_for d dead = let after : x.since + 1 ≤ d = subst (Later (x.since + 1)) dead h.life in let k = h.kept in omega arith

    later : Later (x.since + 1) (life_of s'.lives x.row)
    later = g.later x.row (x.since + 1) h.has waits (let a = h.old in let b = h.met in omega arith) h.life

    place : (e' x.row ≡ e x.row) × SameForm s.tree.table s'.tree.table (kind_at kind (e x.row).level) x.row
    place = g.place x.row (x.since + 1) h.has waits h.life

    form' : SameForm (copy_of x) s'.tree.table (kind_at kind x.extent.level) x.row
    form' = form_on (copy_of x) s.tree.table s'.tree.table (kind_at kind x.extent.level) x.row (sym h.width) h.form
        (subst (λ (n : Extent). SameForm s.tree.table s'.tree.table (kind_at kind n.level) x.row) h.extent place.1)

    newest : x.extent.level ≡ 0 → life_of s'.lives x.row ≡ Live → Snapshot kind x (m' (calls s'))
    newest leaf live =
        let here = place.0 ∙ h.extent in
        record {
          table = s'.tree.table;
          width = g.width ∙ sym h.width;
          form = form';
          part = subst (λ (n : Extent). HasPart kind s'.tree.table x.row n (m' (calls s'))) here (known'.live_leaf x.row has' live (ap (λ (n : Extent). n.level) here ∙ leaf));
        }

    -- alive after k of the old calls by what is known now, and so by what was known
    was : (k : ℕ) → k ≤ calls s → Alive (life_of s'.lives x.row) (calls s') k → Alive (life_of s.lives x.row) (calls s) k
    was k old alive = ⊎_elim
        (λ (live : life_of s.lives x.row ≡ Live). subst (λ (l : Life). Alive l (calls s) k) (sym live) old)
        (λ (dead : DiesFrom x.since (life_of s.lives x.row)).
        let now = g.dead x.row dead.0 h.has (waits_for dead.0 dead.1) dead.1 in
        subst (λ (l : Life). Alive l (calls s) k) (sym dead.1) (alive_dead (life_of s'.lives x.row) dead.0 (calls s') k now alive))
        (later_cases (x.since + 1) (life_of s.lives x.row) h.life)

    past : x.extent.level ≡ 0 → (k : ℕ) → x.met ≤ k → Alive (life_of s'.lives x.row) (calls s') k → Snapshot kind x (m' k)
    past leaf k met alive = ⊎_elim
        (λ (new : calls s < k). ⊎_elim
        (λ (live : life_of s'.lives x.row ≡ Live).
        let low : k ≤ calls s' = subst (λ (l : Life). Alive l (calls s') k) live alive in
        let most = g.count.1 in let same : calls s' ≡ k = omega arith in
        subst (λ (n : ℕ). Snapshot kind x (m' n)) same (newest leaf live))
        (λ (dead : DiesFrom x.since (life_of s'.lives x.row)).
        let low = alive_dead (life_of s'.lives x.row) dead.0 (calls s') k dead.1 alive in let most = g.count.1 in
        let by = (known'.dead x.row dead.0 has' dead.1).1 in absurd (omega arith))
        (later_cases (x.since + 1) (life_of s'.lives x.row) later))
        (λ (old : k ≤ calls s). subst (Snapshot kind x) (sym (g.past k old)) (h.past leaf k met (was k old alive)))
        (cases_lt (calls s) k)

-- ---- what is come to

module _ (kind : Kind) (s : State) (e : ℕ → Extent) (m : ℕ → Moment) (known : Known kind s e m) where
  -- a row of this extent, live or dead since, may be held
  comes : (row since : ℕ) (n : Extent) → HasRow s.tree.rows row → Later (since + 1) (life_of s.lives row) → s.cleared ≤ since → since ≤ calls s → e row ≡ n → HoldsRow kind s e m (come s row since n)
  comes row since n has life kept low extent = record {
    has = has;
    life = life;
    kept = kept;
    old = low;
    met = omega arith;
    extent = extent;
    width = refl;
    shape = subst (Shape kind s.tree.table row) extent (known.shape row has (any (life_of s.lives row) (since + 1) life));
    form = form_same s.tree.table (kind_at kind n.level) row;
    died = λ d is. let none : None ≡ Some d = is in absurd cc;
    frozen = λ d c is inside. let none : None ≡ Some d = is in absurd cc;
    past = λ leaf k met alive. ⊎_elim
        (λ (live : life_of s.lives row ≡ Live).
        let at : k ≤ calls s = subst (λ (l : Life). Alive l (calls s) k) live alive in
        let same : calls s ≡ k = omega arith in
        record {
          table = s.tree.table;
          width = refl;
          form = form_same s.tree.table (kind_at kind n.level) row;
          part = subst (λ (j : ℕ). HasPart kind s.tree.table row n (m j)) same
              (subst (λ (n : Extent). HasPart kind s.tree.table row n (m (calls s))) extent (known.live_leaf row has live (ap (λ (n : Extent). n.level) extent ∙ leaf)));
        })
        (λ (dead : DiesFrom since (life_of s.lives row)).
        let before = alive_dead (life_of s.lives row) dead.0 (calls s) k dead.1 alive in let by = (known.dead row dead.0 has dead.1).1 in absurd (omega arith))
        (later_cases (since + 1) (life_of s.lives row) life);
  }

  -- the root, at the load of its word: it covers every index, and has few levels below it
  pub root_held : s.cleared ≤ calls s → s.tree.root ≢ 0 → (level : ℕ) × (level < deepest) × LeadsTo kind s e m s.tree.root (calls s) (extent_at (root_span s.tree.table s.tree.root) level)
  root_held low some =
      let root = known.root some in (
        root.0,
        root.1,
        record {
          named = root.2.named;
          held = comes (row_in s.tree.root) (calls s) (extent_at (root_span s.tree.table s.tree.root) root.0) root.2.has (subst (Later (calls s + 1)) (sym root.2.life) tt) low (omega arith) root.2.extent;
        },
      )

  -- what a slot of an inner row that is held names: it covers just the slot's span, one level lower
  pub child_held : (x : Held) (level : ℕ) (y : Span) → HoldsRow kind s e m x → x.extent.level ≡ suc level → IsOneOf y (spans_at kind s.tree.table x.row x.extent) → LeadsTo kind s e m y.word x.since (extent_at y level)
  child_held x level y h inner one =
      let high : (e x.row).level ≡ suc level = ap (λ (n : Extent). n.level) h.extent ∙ inner in
      let one' = subst (λ (n : Extent). IsOneOf y (spans_at kind s.tree.table x.row n)) (sym h.extent) one in
      let low : x.since ≤ calls s = let a = h.old in let b = h.met in omega arith in
      ⊎_elim
      (λ (live : life_of s.lives x.row ≡ Live).
      let c = all_one_of (Child kind s.tree.rows s.lives e IsLive level) (spans_at kind s.tree.table x.row (e x.row)) y (known.live_inner x.row level h.has live high) one' in
      record { named = c.named; held = comes (row_in y.word) x.since (extent_at y level) c.has (subst (Later (x.since + 1)) (sym c.life) tt) h.kept low c.extent })
      (λ (dead : DiesFrom x.since (life_of s.lives x.row)).
      let late = dead.2 in let kept = h.kept in
      let c = all_one_of (Child kind s.tree.rows s.lives e (Later dead.0) level) (spans_at kind s.tree.table x.row (e x.row)) y (known.dead_inner x.row level dead.0 h.has dead.1 (omega arith) high) one' in
      record { named = c.named; held = comes (row_in y.word) x.since (extent_at y level) c.has (earlier (life_of s.lives (row_in y.word)) (x.since + 1) dead.0 late c.life) h.kept low c.extent })
      (later_cases (x.since + 1) (life_of s.lives x.row) h.life)
    where
      earlier : (l : Life) (d n : ℕ) → d ≤ n → Later n l → Later d l
      earlier New d n le later = absurd later
      earlier Draft d n le later = absurd later
      earlier Live d n le later = tt
      earlier (Dead a) d n le later = omega arith

  -- a leaf that is held has what the map had after k calls, no earlier than the load of the root: after all, where it is live
  pub leaf_held : (x : Held) → HoldsRow kind s e m x → x.extent.level ≡ 0 → LeafTells kind s m x
  leaf_held x h leaf =
      let flat : (e x.row).level ≡ 0 = ap (λ (n : Extent). n.level) h.extent ∙ leaf in
      ⊎_elim
      (λ (live : life_of s.lives x.row ≡ Live). record {
        k = calls s;
        low = let a = h.old in let b = h.met in omega arith;
        high = omega arith;
        now = λ _. refl;
        part = subst (λ (n : Extent). HasPart kind s.tree.table x.row n (m (calls s))) h.extent (known.live_leaf x.row h.has live flat);
      })
      (λ (dead : DiesFrom x.since (life_of s.lives x.row)).
      let late = dead.2 in let by = (known.dead x.row dead.0 h.has dead.1).1 in record {
        k = dead.0 - 1;
        low = omega arith;
        high = omega arith;
        now = λ none. let both : Some dead.0 ≡ None = sym (ap died_by dead.1) ∙ none in absurd cc;
        part = subst (λ (n : Extent). HasPart kind s.tree.table x.row n (m (dead.0 - 1))) h.extent (known.dead_leaf x.row dead.0 h.has dead.1 flat);
      })
      (later_cases (x.since + 1) (life_of s.lives x.row) h.life)

  died_is : (l : Life) (d : ℕ) → died_by l ≡ Some d → l ≡ Dead d
  died_is New d is = let none : None ≡ Some d = is in absurd cc
  died_is Draft d is = let none : None ≡ Some d = is in absurd cc
  died_is Live d is = let none : None ≡ Some d = is in absurd cc
  died_is (Dead n) d is = let same : n ≡ d = cc in ap Dead same

  -- a row that is held may be copied anew
  pub renewed_held : (x : Held) → HoldsRow kind s e m x → HoldsRow kind s e m (as_known_now s x)
  renewed_held x h = record {
    has = h.has;
    life = h.life;
    kept = h.kept;
    old = h.old;
    met = h.met;
    extent = h.extent;
    width = refl;
    shape = subst (Shape kind s.tree.table x.row) h.extent (known.shape x.row h.has (any (life_of s.lives x.row) (x.since + 1) h.life));
    form = form_same s.tree.table (kind_at kind x.extent.level) x.row;
    died = λ d is. died_is (life_of s.lives x.row) d is;
    frozen = λ d c is inside. refl;
    past = λ leaf k met alive.
        let old = h.past leaf k met alive in
        record {
          table = old.table;
          width = old.width ∙ h.width;
          form = form_on s.tree.table (copy_of x) old.table (kind_at kind x.extent.level) x.row h.width (form_back (copy_of x) s.tree.table (kind_at kind x.extent.level) x.row (sym h.width) h.form) old.form;
          part = old.part;
        };
  }

  -- ---- the parent word of a row that is held

  -- where it is the dead mark, a call has begun that the walk had not seen
  pub marked_held : (x : Held) → HoldsRow kind s e m x → word_at s.tree x.row 0 ≡ dead_mark x.row → x.since + 1 ≤ begun_calls s
  marked_held x h marked = ⊎_elim
      (λ (live : life_of s.lives x.row ≡ Live). elim (cases_Bool (is_buried s.buried x.row)) [
        | inl buried ↦
            let was = known.buried x.row h.has buried in
            let begun : begun_calls s ≡ s.ended + 1 = ap (λ (b : Bool). s.ended + one_if b) was.2 in
            let seen : calls s ≡ s.ended + 0 = ap (λ (b : Bool). s.ended + one_if b) was.3 in
            let a = h.old in let b = h.met in omega arith
        | inr not ↦ absurd (known.unmarked x.row h.has live not marked)
      ])
      (λ (dead : DiesFrom x.since (life_of s.lives x.row)).
      let late = dead.2 in let by = (known.dead x.row dead.0 h.has dead.1).1 in let most = calls_begun in omega arith)
      (later_cases (x.since + 1) (life_of s.lives x.row) h.life)
    where
      most_seen : (b : Bool) → s.ended + one_if b ≤ s.ended + 1
      most_seen true = omega arith
      most_seen false = omega arith

      calls_begun : calls s ≤ begun_calls s
      calls_begun = elim (cases_Bool s.in_flight) [
        | inl flies ↦ let one : begun_calls s ≡ s.ended + 1 = ap (λ (b : Bool). s.ended + one_if b) flies in let few = most_seen s.published in omega arith
        | inr idle ↦ let none : calls s ≡ s.ended + 0 = ap (λ (b : Bool). s.ended + one_if b) (known.calm idle) in omega arith
      ]

  -- where it is not, the row is live, and what it held was right at every number of calls since its name was loaded
  pub unmarked_held : (x : Held) → HoldsRow kind s e m x → word_at s.tree x.row 0 ≢ dead_mark x.row → (life_of s.lives x.row ≡ Live) × (x.extent.level ≡ 0 → (k : ℕ) → x.met ≤ k → k ≤ calls s → Snapshot kind x (m k))
  unmarked_held x h off =
      let live : life_of s.lives x.row ≡ Live = ⊎_elim
      (λ (live : life_of s.lives x.row ≡ Live). live)
      (λ (dead : DiesFrom x.since (life_of s.lives x.row)). let late = dead.2 in let kept = h.kept in absurd (off (known.marks x.row dead.0 h.has dead.1 (omega arith))))
      (later_cases (x.since + 1) (life_of s.lives x.row) h.life) in
      (live, λ leaf k met low. h.past leaf k met (subst (λ (l : Life). Alive l (calls s) k) (sym live) low))
