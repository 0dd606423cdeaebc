-- What is known of a kept leaf, from step to step.
use Rattle.mt_read.proofs.Prelude.{◌≡◌, ◌≢◌, ℕ, suc, ◌≤◌, ◌==◌, true, false, List, length, Option, Some, None, refl, sym, ap, ◌∙◌, subst, arith, append-nil, [], ◌∷◌, IfSome, eq-eqb, ne_eqb, Range, Query, answer, IsMap, Begins, kind_width, begins_long, dead_mark, Held, Moment, PassPart, Shape, column_at, IsAt, LoadedParent, ParentTells, here, marks_with, moment_seen, with_seen, Row, KeptLeaf, Answers, LeafAnswers, IsOnKeptLeaf, GoesOn, GoesOnTo, IsOnLeaf, IsUnder, WasMarked}
use Rattle.mt_life.specs.declared.views.Moment as life
use Rattle.mt_read.proofs.Descending.{goes_by}
use Rattle.mt_read.proofs.Moments.{moment_stays}

-- ---- a pass of which nothing but numbers has changed

module _ (q q' : PassPart) (seen : List Moment) (begun ended epoch risen steps : ℕ) (marks : List ℕ) (is : q' ≡ record q { seen = seen; begun = begun; ended = ended; epoch = epoch; risen = risen; marks = marks; steps = steps }) (more : length q.seen ≤ length seen) where
  pub leaf_around : (leaf : Row) → IsOnLeaf q leaf → IsOnLeaf q' leaf
  leaf_around leaf at = subst (λ (z : PassPart). IsOnLeaf z leaf) (sym is) (let on = at.on in let met = on.met in record {
    on = record { at = on.at; number = on.number; base = on.base; kind = on.kind; wide = on.wide; min = on.min; max = on.max; within = on.within; has = on.has; old = on.old; met = omega arith; width = on.width; shape = on.shape };
    level = at.level;
  })

  pub kept_around : (leaf : Option KeptLeaf) → IfSome leaf (IsOnKeptLeaf q) → IfSome leaf (IsOnKeptLeaf q')
  kept_around None kept = tt
  kept_around (Some k) kept = record { leaf = leaf_around k.leaf kept.leaf; lo = subst (λ (z : PassPart). k.lo ≤ (here z).since) (sym is) kept.lo }

-- ---- the parent word

-- the number of calls that the pass has seen before, and after: an answer of these is an answer still
pub answers_later : (q q' : PassPart) (least : ℕ) (query : Query) (value : Option Range) → q'.shape ≡ q.shape → Begins q.seen q'.seen → Answers q least query value → Answers q' least query value
answers_later q q' least query value shape b a =
    let long = begins_long q.seen q'.seen b in let high = a.high in
    let stays = moment_stays q q' a.k shape b a.high in
    record {
      k = a.k;
      low = a.low;
      high = omega arith;
      map = subst (λ (s : Shape). IsMap s.kind (moment_seen q' a.k).ranges) (sym shape) (subst (λ (m : life.Moment). IsMap q.shape.kind m.ranges) (sym stays) a.map);
      is = a.is ∙ ap (λ (m : life.Moment). answer m.ranges query) (sym stays);
    }

module _ (q q' : PassPart) (number word found : ℕ) (told : LoadedParent number word found q q') where
  goes_parent : GoesOnTo q q' (marks_with number found q.marks)
  goes_parent = goes_by q q' (record (with_seen q q'.seen) { risen = q'.risen; marks = marks_with number found q.marks }) told.reads refl told.risen (λ x u. u)

  -- it is not the dead mark
  pub goes_unmarked : found ≢ dead_mark number → GoesOn q q'
  goes_unmarked off = subst (GoesOnTo q q') (let test : (found == dead_mark number) ≡ false = ne_eqb found (dead_mark number) off in rw test refl) goes_parent

  -- it is
  pub goes_marked : (x : Held) → found ≡ dead_mark number → number ≡ x.row → ParentTells q' x found → WasMarked x q q'
  goes_marked x mark same tells = record {
    goes = subst (GoesOnTo q q') (let test : (found == dead_mark number) ≡ true = eq-eqb found (dead_mark number) mark in rw test (ap (λ (n : ℕ). n ∷ q.marks) same)) goes_parent;
    begun = (let more = tells.dead (mark ∙ ap dead_mark same) in omega arith);
  }

  parent_shape : q'.shape ≡ q.shape
  parent_shape = ap (λ (z : PassPart). z.shape) told.reads.is

  pub leaf_parent : (leaf : Row) → IsOnLeaf q leaf → IsOnLeaf q' leaf
  leaf_parent leaf at = leaf_around q q' q'.seen q.begun q.ended q.epoch q'.risen q'.steps (marks_with number found q.marks) told.reads.is (begins_long q.seen q'.seen told.reads.seen) leaf at

  pub parent_tells : (row : ℕ) → IsAt q → word ≡ column_at (kind_width q.shape.kind) row 0 → row ≡ (here q).row → ParentTells q' (here q) found
  parent_tells row at is same = told.tells 0 (here q) at (is ∙ ap (λ (r : ℕ). column_at (kind_width q.shape.kind) r 0) same)

  -- of a row that is held below
  under_tells : (x : Held) → IsUnder q x → word ≡ column_at (kind_width q.shape.kind) x.row 0 → ParentTells q' x found
  under_tells x under is = told.tells (suc under.0) x under.1 is

  -- of a leaf that is held below, by its number
  pub leaf_tells : (x : Held) → IsUnder q x → word ≡ column_at (kind_width q.shape.kind) number 0 → number ≡ x.row → ParentTells q' x found
  leaf_tells x under is same = under_tells x under (is ∙ ap (λ (r : ℕ). column_at (kind_width q.shape.kind) r 0) same)

  -- a leaf that is not found marked answers of all that was seen before
  pub answers_live : (x : Held) (most : ℕ) (query : Query) (value : Option Range) → LeafAnswers q x query value → (here q).died ≡ None → most ≤ length q.seen → Answers q' most query value
  answers_live x most query value a live le =
      let now = a.now live in
      answers_later q q' most query value parent_shape told.reads.seen
      (record { k = a.answers.k; low = omega arith; high = a.answers.high; map = a.answers.map; is = a.answers.is })

-- ---- a walk anew

pub kept_anew : (q q' : PassPart) (kept : KeptLeaf) (lo : ℕ) → kept.lo ≡ lo → IsOnLeaf q' kept.leaf → lo ≤ length q.seen → length q.seen ≤ (here q').since → IsOnKeptLeaf q' kept
kept_anew q q' kept lo is at low since = record { leaf = at; lo = omega arith }

pub nothing_goes : (q : PassPart) → GoesOn q q
nothing_goes q = record { is = refl; seen = ([], sym (append-nil q.seen)); risen = omega arith; under = λ x u. u }
