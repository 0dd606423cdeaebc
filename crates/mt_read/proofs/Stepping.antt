-- What a step of a cursor makes of its pass.
use Rattle.mt_read.proofs.Prelude.{◌≡◌, ℕ, ◌+◌, ◌≤◌, max, List, [], ◌∷◌, length, Option, Some, None, refl, sym, ap, ◌∙◌, subst, arith, append-nil, IfSome, Range, Query, Find, answer, PassPart, known_by, LoadedBegun, moment_seen, Identity, tree_in, Resumed, epoch_or, epochs_opened, find_at, GoesOnTo}
use Rattle.mt_base.specs.Passes as known
use Rattle.mt_read.proofs.Windows.{reads_between}

-- what the query at a place is
pub asks_nothing : (m : List Range) (at : Option ℕ) (max : ℕ) → at ≡ None → None ≡ answer m (find_at at max)
asks_nothing m at max none = ap (λ (o : Option ℕ). answer m (find_at o max)) (sym none)

pub asks_there : (m : List Range) (at : Option ℕ) (index bound max : ℕ) → at ≡ Some index → bound ≡ max → answer m (Find index bound) ≡ answer m (find_at at max)
asks_there m at index bound max some same = ap (λ (n : ℕ). answer m (Find index n)) same ∙ ap (λ (o : Option ℕ). answer m (find_at o max)) (sym some)

opened_more : (epoch : Option ℕ) (opened : List ℕ) (lo : ℕ) → known.Begins opened (epochs_opened epoch opened lo)
opened_more None opened lo = (lo ∷ [], refl)
opened_more (Some epoch) opened lo = ([], sym (append-nil opened))

module _ (t : Identity) (q q₁ q₂ q₃ : PassPart) (lo hi : ℕ) (epoch : Option ℕ) (of : q.shape ≡ t.shape) (standing : IfSome epoch (λ (e : ℕ). q.standing ≡ Some e)) (resumed : Resumed lo epoch q q₁) (marks : List ℕ) (goes : GoesOnTo q₁ q₂ marks) (begun : LoadedBegun hi q₂ q₃) where
  -- what the pass knows after it
  abbrev after : PassPart
  after = record q { seen = q₂.seen; opened = epochs_opened epoch q.opened lo; standing = Some (epoch_or epoch lo); begun = hi; ended = lo; epoch = lo; floor = q₂.floor; risen = q₂.risen; marks = marks; held = q₂.held; steps = q₂.steps + 1 }

  middle : (e : Option ℕ) → IfSome e (λ (n : ℕ). q.standing ≡ Some n) → Resumed lo e q q₁
      → q₂ ≡ record q { seen = q₂.seen; opened = epochs_opened e q.opened lo; standing = Some (epoch_or e lo); ended = lo; epoch = lo; floor = q₂.floor; risen = q₂.risen; marks = marks; held = q₂.held; steps = q₂.steps }
  middle None standing r = goes.is ∙ ap (λ (z : PassPart). record z { seen = q₂.seen; floor = q₂.floor; held = q₂.held; risen = q₂.risen; marks = marks; steps = q₂.steps }) r.is
  middle (Some n) standing r =
      goes.is ∙ (ap (λ (z : PassPart). record z { seen = q₂.seen; floor = q₂.floor; held = q₂.held; risen = q₂.risen; marks = marks; steps = q₂.steps }) r.is
      ∙ (λ i. record q { seen = q₂.seen; standing = standing i; ended = lo; epoch = lo; floor = q₂.floor; risen = q₂.risen; marks = marks; held = q₂.held; steps = q₂.steps }))

  is_after : q₃ ≡ after
  is_after = begun.is ∙ ap (λ (z : PassPart). record z { begun = hi; steps = q₂.steps + 1 }) (middle epoch standing resumed)

  begun_low : q.begun ≤ hi
  begun_low = let same : q₂.begun ≡ q.begun = ap (λ (z : PassPart). z.begun) (middle epoch standing resumed) in let low = begun.before in omega arith

  pub step_at : (k : ℕ) (query : Query) (value : Option Range) → length q₁.seen ≤ k → k ≤ length q₂.seen → value ≡ answer (moment_seen q₂ k).ranges query → known.IsSound (tree_in t) (known_by q₃)
      → known.Read (tree_in t) (known_by q) lo hi k query value (known_by q₃)
  step_at k query value low high is sound =
      subst (λ (z : PassPart). known.Read (tree_in t) (known_by q) lo hi k query value (known_by z)) (sym is_after)
      (reads_between t q q₁ q₂ (epochs_opened epoch q.opened lo) (Some (epoch_or epoch lo)) lo hi (ap (λ (z : PassPart). z.shape) (middle epoch standing resumed) ∙ of) (opened_more epoch q.opened lo)
      resumed.seen goes.seen resumed.before resumed.most resumed.least begun_low begun.seen k query value low high is (subst (λ (z : PassPart). known.IsSound (tree_in t) (known_by z)) is_after sound))

  pub read_step : (query : Query) (value : Option Range) (k : ℕ) → length q₁.seen ≤ k → k ≤ length q₂.seen → value ≡ answer (moment_seen q₂ k).ranges query → known.IsSound (tree_in t) (known_by q₃)
      → (k : ℕ) × known.Read (tree_in t) (known_by q) lo hi k query value (known_by q₃)
  read_step query value k low high is sound = (k, step_at k query value low high is sound)
