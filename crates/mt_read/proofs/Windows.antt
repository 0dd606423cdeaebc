-- What a section's beginning, a walk and its end make of a read.
use Rattle.mt_read.proofs.Prelude.{◌≡◌, ℕ, ◌+◌, ◌≤◌, max, List, [], ◌∷◌, ◌++◌, length, Option, Some, None, refl, sym, ap, ◌∙◌, subst, arith, length-map, map-append, Range, Query, Find, answer, Kind, map_at, IsMap, greatest_of, begins_long, begins_on, Moment, PassPart, Shape, known_by, record_of, records_of, tree_of, HasBecome, LoadedBegun, LoadedCommits, closed_section, moment_seen, opened_section, with_seen, Identity, tree_in, Answers, within, GoesOnTo, Began, Ended, HasRead}
use Rattle.mt_base.specs.Passes as known
use Rattle.mt_read.proofs.MapAnswers.{find_within}

-- ---- a section's beginning and its end

-- what a pass has become it has become but for its steps
pub but_steps : (q part : PassPart) → q ≡ part → HasBecome q part
but_steps q part is = is ∙ (λ i. record part { steps = (sym is i).steps })

pub has_begun : (n : ℕ) (q q₁ q₂ : PassPart) → LoadedCommits n q q₁ → q₂ ≡ opened_section q₁ → Began n q q₂
has_begun n q q₁ q₂ loaded is =
    let same : q₂.seen ≡ q₁.seen = ap (λ (z : PassPart). z.seen) is in
    record {
      is = is ∙ (ap opened_section loaded.reads.is ∙ (λ i. record (opened_section (record (with_seen q (sym is i).seen) { epoch = n; ended = n })) { steps = (sym is i).steps }));
      seen = subst (λ (seen : List Moment). known.Begins q.seen seen) (sym same) loaded.reads.seen;
      before = loaded.before;
      most = subst (λ (seen : List Moment). n ≤ length seen) (sym same) loaded.most;
      least = subst (λ (seen : List Moment). length seen ≤ n + 1) (sym same) loaded.least;
    }

pub has_ended : (n : ℕ) (q q₁ q₂ : PassPart) → LoadedBegun n q q₁ → q₂ ≡ closed_section q₁ → Ended n q q₂
has_ended n q q₁ q₂ loaded is = record {
  is = but_steps q₂ (closed_section (record q { begun = n; steps = q.steps + 1 })) (is ∙ ap closed_section loaded.is);
  seen = loaded.seen;
  before = loaded.before;
  risen = loaded.risen;
}

-- ---- what a pass has seen

pub begins_records : (xs ys : List Moment) → known.Begins xs ys → known.Begins (records_of xs) (records_of ys)
begins_records xs ys b = (records_of b.0, ap records_of b.1 ∙ map-append record_of xs b.0)

-- what answers one query answers another, where a map answers both alike
pub alike : (q : PassPart) (least : ℕ) (query other : Query) (f : Option Range → Option Range) (value : Option Range) → ((k : ℕ) → IsMap q.shape.kind (moment_seen q k).ranges → f (answer (moment_seen q k).ranges query) ≡ answer (moment_seen q k).ranges other)
    → Answers q least query value → Answers q least other (f value)
alike q least query other f value same a = record { k = a.k; low = a.low; high = a.high; map = a.map; is = ap f a.is ∙ same a.k a.map }

pub bounded : (q : PassPart) (kind : Kind) (least index max : ℕ) (value : Option Range) → q.shape.kind ≡ kind → Answers q least (Find index (greatest_of kind)) value → Answers q least (Find index max) (within index max value)
bounded q kind least index max value same a =
    alike q least (Find index (greatest_of kind)) (Find index max) (within index max) value (λ k map. find_within kind (moment_seen q k).ranges index max (subst (λ (z : Kind). IsMap z (moment_seen q k).ranges) same map)) a

-- what a pass that knew q knows after a read, which had seen so much at q₁ when it began and at q₂ when it ended
module _ (t : Identity) (q q₁ q₂ : PassPart) (opened : List ℕ) (standing : Option ℕ) (lo hi : ℕ) where
  abbrev known_after : known.Pass
  known_after = record (known_by q) { seen = records_of q₂.seen; opened = opened; standing = standing; begun = hi; ended = lo }

  pub reads_between : q₂.shape ≡ t.shape → known.Begins q.opened opened → known.Begins q.seen q₁.seen → known.Begins q₁.seen q₂.seen → q.ended ≤ lo → lo ≤ length q₁.seen → length q₁.seen ≤ lo + 1 → q.begun ≤ hi → length q₂.seen ≤ hi
      → (k : ℕ) (query : Query) (value : Option Range) → length q₁.seen ≤ k → k ≤ length q₂.seen → value ≡ answer (moment_seen q₂ k).ranges query → known.IsSound (tree_in t) known_after → known.Read (tree_in t) (known_by q) lo hi k query value known_after
  reads_between shape opens began went before most least begun top k query value low high is sound =
      let first = begins_long q.seen q₁.seen began in
      let long = length-map q.seen record_of in let long₂ = length-map q₂.seen record_of in
      record {
        grows = record { number = refl; seen = begins_records q.seen q₂.seen (begins_on q.seen q₁.seen q₂.seen began went); mine = refl; opened = opens; begun = begun; ended = before };
        true = record {
          from = omega arith;
          to = omega arith;
          made = omega arith;
          answered = is ∙ ap (λ (s : Shape). answer (map_at (tree_of s q₂.seen) k) query) shape;
        };
        from = omega arith;
        floor = omega arith;
        before = before;
        lo_known = omega arith;
        hi_known = omega arith;
        sound = sound;
      }

module _ (t : Identity) (q q₁ q₂ q₃ : PassPart) (lo hi : ℕ) (of : q.shape ≡ t.shape) (began : Began lo q q₁) (marks : List ℕ) (goes : GoesOnTo q₁ q₂ marks) (ended : Ended hi q₂ q₃) where
  -- what the pass knows after it
  abbrev after : PassPart
  after = record q { seen = q₂.seen; opened = q.opened ++ lo ∷ []; standing = None; begun = hi; ended = lo; epoch = lo; floor = None; risen = q₂.risen; marks = marks; held = []; steps = q₃.steps }

  middle : q₂ ≡ record q { seen = q₂.seen; opened = q.opened ++ lo ∷ []; standing = Some lo; ended = lo; epoch = lo; floor = q₂.floor; risen = q₂.risen; marks = marks; held = q₂.held; steps = q₂.steps }
  middle = goes.is ∙ ap (λ (z : PassPart). record z { seen = q₂.seen; floor = q₂.floor; held = q₂.held; risen = q₂.risen; marks = marks; steps = q₂.steps }) began.is

  is_after : q₃ ≡ after
  is_after = ended.is ∙ ap (λ (z : PassPart). record (closed_section (record z { begun = hi })) { steps = q₃.steps }) middle

  pub marks_after : q₃.marks ≡ marks
  marks_after = ap (λ (z : PassPart). z.marks) is_after

  seen_all : known.Begins q.seen q₂.seen
  seen_all = begins_on q.seen q₁.seen q₂.seen began.seen goes.seen

  begun_low : q.begun ≤ hi
  begun_low = let same : q₂.begun ≡ q.begun = ap (λ (z : PassPart). z.begun) middle in let low = ended.before in omega arith

  pub has_read : HasRead lo hi (known_by q) (known_by q₃)
  has_read =
      let most = began.most in let grown = begins_long q₁.seen q₂.seen goes.seen in let high = ended.seen in
      let same : q₃.seen ≡ q₂.seen = ap (λ (z : PassPart). z.seen) is_after in
      let long = length-map q₃.seen record_of in
      let long₂ = ap (length {A = Moment}) same in
      record {
        seen = subst (λ (z : PassPart). known.Begins (records_of q.seen) (records_of z.seen)) (sym is_after) (begins_records q.seen q₂.seen seen_all);
        pass = ap known_by is_after ∙ (λ i. record (known_by q) { seen = records_of (sym is_after i).seen; opened = q.opened ++ lo ∷ []; standing = None; begun = hi; ended = lo });
        window = (omega arith, omega arith);
      }

  pub read_at : (k : ℕ) (query : Query) (value : Option Range) → length q₁.seen ≤ k → k ≤ length q₂.seen → value ≡ answer (moment_seen q₂ k).ranges query → known.IsSound (tree_in t) (known_by q₃) → known.Read (tree_in t) (known_by q) lo hi k query value (known_by q₃)
  read_at k query value low high is sound =
      subst (λ (z : PassPart). known.Read (tree_in t) (known_by q) lo hi k query value (known_by z)) (sym is_after)
      (reads_between t q q₁ q₂ (q.opened ++ lo ∷ []) None lo hi (ap (λ (z : PassPart). z.shape) middle ∙ of) (lo ∷ [], refl) began.seen goes.seen began.before began.most began.least begun_low ended.seen k query value low high is
      (subst (λ (z : PassPart). known.IsSound (tree_in t) (known_by z)) is_after sound))

  pub read_by : (query : Query) (value : Option Range) → Answers q₂ (length q₁.seen) query value → known.IsSound (tree_in t) (known_by q₃) → (k : ℕ) × known.Read (tree_in t) (known_by q) lo hi k query value (known_by q₃)
  read_by query value a sound = (a.k, read_at a.k query value a.low a.high a.is sound)
