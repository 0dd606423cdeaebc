-- Batches: what was read so far, and one read more.
use Rattle.mt_read.proofs.Prelude.{◌≡◌, ℕ, ◌+◌, ◌<◌, ◌≤◌, List, [], ◌∷◌, ◌++◌, Option, Some, None, length, refl, sym, ap, ◌∙◌, subst, arith, append_assoc, option_map, slice_index, Range, Query, Load, answer, Begins, begins_long, PassPart, find_at, KeptLeaf, IfSome, ◌⊎◌, inl, inr, Answers, GoesOn, place_behind, AreEntries, AreSteps, EntriesPut, HasFound, IsSeenFrom, RangesPut, SeenAt, entry_or_zero, drop_more, take_more, set_at, length_push, take, drop, slice_set, slice_index_or, unwrap_or}
use Rattle.mt_life.specs.declared.views.Moment as life
use Rattle.mt_read.proofs.Moments.{moment_stays}

-- what a pass has seen at a version, it has seen when it has seen more
pub seen_on : (q q' : PassPart) (k : ℕ) (query : Query) (value : Option Range) → q'.shape ≡ q.shape → Begins q.seen q'.seen → SeenAt q k query value → SeenAt q' k query value
seen_on q q' k query value shape b a =
    let long = begins_long q.seen q'.seen b in let high = a.high in
    record {
      high = omega arith;
      is = a.is ∙ ap (λ (m : life.Moment). answer m.ranges query) (sym (moment_stays q q' k shape b a.high));
    }

-- one more is put into the next place
put_next : {X : Type 0} → (done old new : List X) (i : ℕ) (x : X) → i ≡ length done → i < length old → new ≡ done ++ drop i old → slice_set new i x ≡ (done ++ (x ∷ [])) ++ drop (i + 1) old
put_next {X} done old new i x long fits is =
    ap (λ (l : List X). slice_set l i x) (is ∙ ap (λ (l : List X). done ++ l) (drop_more old i x fits))
    ∙ (set_at done (slice_index_or old i x) (drop (i + 1) old) x i (sym long) ∙ sym (append_assoc done (x ∷ []) (drop (i + 1) old)))

longer : {X : Type 0} → (done : List X) (x : X) (i : ℕ) → i ≡ length done → i + 1 ≡ length (done ++ (x ∷ []))
longer done x i long = ap (λ (n : ℕ). n + 1) long ∙ sym (length_push done x)

-- ---- look-ups

pub entries_begin : (At : ℕ → Query → Option Range → Type 0) (from to : ℕ) (indexes old : List ℕ) → from ≤ to → EntriesPut At from to 0 indexes old old
entries_begin At from to indexes old low = record { found = []; read = low; count_is = refl; put = refl }

module _ (At At' : ℕ → Query → Option Range → Type 0) (on : (k : ℕ) (query : Query) (value : Option Range) → At k query value → At' k query value) where
  entry_more : (from : ℕ) (indexes found : List ℕ) (to : ℕ) → AreEntries At from indexes found to → (index entry k to' : ℕ) (value : Option Range) → to ≤ k → k ≤ to' → At' k (Load index) value → entry ≡ entry_or_zero value
      → AreEntries At' from (indexes ++ (index ∷ [])) (found ++ (entry ∷ [])) to'
  entry_more from [] [] to are index entry k to' value low high at is = (k, value, omega arith, at, is, high)
  entry_more from [] (e ∷ found) to are index entry k to' value low high at is = absurd are
  entry_more from (i ∷ indexes) [] to are index entry k to' value low high at is = absurd are
  entry_more from (i ∷ indexes) (e ∷ found) to are index entry k to' value low high at is =
      (are.0, are.1, are.2, on are.0 (Load i) are.1 are.3, are.4, entry_more are.0 indexes found to are.5 index entry k to' value low high at is)

  pub entries_next : (from to to' count : ℕ) (indexes old new : List ℕ) → EntriesPut At from to count indexes old new → count < length indexes → count < length old
      → (entry k : ℕ) (value : Option Range) → to ≤ k → k ≤ to' → At' k (Load (slice_index indexes count)) value → entry ≡ entry_or_zero value
      → EntriesPut At' from to' (count + 1) indexes old (slice_set new count entry)
  entries_next from to to' count indexes old new was more fits entry k value low high at is = record {
    found = was.found ++ (entry ∷ []);
    read = subst (λ (l : List ℕ). AreEntries At' from l (was.found ++ (entry ∷ [])) to') (sym (take_more indexes count 0 more)) (entry_more from (take count indexes) was.found to was.read (slice_index indexes count) entry k to' value low high at is);
    count_is = longer was.found entry count was.count_is;
    put = put_next was.found old new count entry was.count_is fits was.put;
  }

-- an entry, or 0 for none
pub unwrapped : (entry : Option ℕ) (value : Option Range) (word : ℕ) → entry ≡ option_map (λ (r : Range). r.entry) value → word ≡ unwrap_or entry 0 → word ≡ entry_or_zero value
unwrapped entry None word is got = got ∙ ap (λ (o : Option ℕ). unwrap_or o 0) is
unwrapped entry (Some r) word is got = got ∙ ap (λ (o : Option ℕ). unwrap_or o 0) is

-- one look-up more
pub entry_put : (q q' : PassPart) → GoesOn q q' → (from count : ℕ) (indexes old new : List ℕ) → EntriesPut (SeenAt q) from (length q.seen) count indexes old new → count < length indexes → count < length old
    → (index : ℕ) (entry : Option ℕ) → (value : Option Range) × Answers q' (length q.seen) (Load index) value × (entry ≡ option_map (λ (r : Range). r.entry) value) → index ≡ slice_index indexes count → (word : ℕ) → word ≡ unwrap_or entry 0
    → EntriesPut (SeenAt q') from (length q'.seen) (count + 1) indexes old (slice_set new count word)
entry_put q q' goes from count indexes old new was more fits index entry found is word got =
    let a = found.1 in
    let shape : q'.shape ≡ q.shape = ap (λ (z : PassPart). z.shape) goes.is in
    entries_next (SeenAt q) (SeenAt q') (λ k query value at. seen_on q q' k query value shape goes.seen at) from (length q.seen) (length q'.seen) count indexes old new was more fits word a.k found.0 a.low a.high
    (subst (λ (n : ℕ). SeenAt q' a.k (Load n) found.0) is (record { high = a.high; is = a.is }))
    (unwrapped entry found.0 word found.2 got)

-- ---- steps

pub record HasPut (At : ℕ → Query → Option Range → Type 0) (max from to : ℕ) (at : Option ℕ) (old new : List Range) (count : ℕ) (left : Option ℕ) : Type 0 where
  pub found : List Range
  pub read : AreSteps At max from at found to left
  pub put : new ≡ found ++ drop count old
  pub count_is : count ≡ length found

pub steps_begin : (At : ℕ → Query → Option Range → Type 0) (max from to : ℕ) (at : Option ℕ) (old : List Range) → from ≤ to → HasPut At max from to at old old 0 at
steps_begin At max from to at old low = record { found = []; read = (low, refl); put = refl; count_is = refl }

steps_order : (At : ℕ → Query → Option Range → Type 0) (max from : ℕ) (at : Option ℕ) (found : List Range) (to : ℕ) (left : Option ℕ) → AreSteps At max from at found to left → from ≤ to
steps_order At max from at [] to left are = are.0
steps_order At max from at (r ∷ found) to left are = let low = are.1 in let rest = steps_order At max are.0 (place_behind (Some r) max) found to left are.3 in omega arith

module _ (At At' : ℕ → Query → Option Range → Type 0) (on : (k : ℕ) (query : Query) (value : Option Range) → At k query value → At' k query value) (max : ℕ) where
  step_more : (from : ℕ) (at : Option ℕ) (found : List Range) (to : ℕ) (left : Option ℕ) → AreSteps At max from at found to left → (r : Range) (k to' : ℕ) → to ≤ k → k ≤ to' → At' k (find_at left max) (Some r)
      → AreSteps At' max from at (found ++ (r ∷ [])) to' (place_behind (Some r) max)
  step_more from at [] to left are r k to' low high is =
      let order = are.0 in (k, omega arith, subst (λ (o : Option ℕ). At' k (find_at o max) (Some r)) are.1 is, (high, refl))
  step_more from at (x ∷ found) to left are r k to' low high is =
      (are.0, are.1, on are.0 (find_at at max) (Some x) are.2, step_more are.0 (place_behind (Some x) max) found to left are.3 r k to' low high is)

  pub steps_next : (from to to' : ℕ) (at : Option ℕ) (old new : List Range) (count : ℕ) (left : Option ℕ) → HasPut At max from to at old new count left → count < length old
      → (r : Range) (k : ℕ) → to ≤ k → k ≤ to' → At' k (find_at left max) (Some r) → HasPut At' max from to' at old (slice_set new count r) (count + 1) (place_behind (Some r) max)
  steps_next from to to' at old new count left was fits r k low high is = record {
    found = was.found ++ (r ∷ []);
    read = step_more from at was.found to left was.read r k to' low high is;
    put = put_next was.found old new count r was.count_is fits was.put;
    count_is = longer was.found r count was.count_is;
  }

-- ---- the same reads, in other words

module _ (At At' : ℕ → Query → Option Range → Type 0) (n : ℕ) (on : (k : ℕ) (query : Query) (value : Option Range) → n ≤ k → At k query value → At' k query value) where
  entries_are : (from from' : ℕ) (indexes found : List ℕ) (to to' : ℕ) → n ≤ from → from' ≤ from → to ≤ to' → AreEntries At from indexes found to → AreEntries At' from' indexes found to'
  entries_are from from' [] [] to to' least low high are = omega arith
  entries_are from from' [] (e ∷ found) to to' least low high are = absurd are
  entries_are from from' (i ∷ indexes) [] to to' least low high are = absurd are
  entries_are from from' (i ∷ indexes) (e ∷ found) to to' least low high are =
      let later = are.2 in
      (are.0, are.1, omega arith, on are.0 (Load i) are.1 (omega arith) are.3, are.4, entries_are are.0 are.0 indexes found to to' (omega arith) (omega arith) high are.5)

  pub entries_as : (from from' to to' count : ℕ) (indexes old new : List ℕ) → n ≤ from → from' ≤ from → to ≤ to' → EntriesPut At from to count indexes old new → EntriesPut At' from' to' count indexes old new
  entries_as from from' to to' count indexes old new least low high was =
      record { found = was.found; read = entries_are from from' (take count indexes) was.found to to' least low high was.read; count_is = was.count_is; put = was.put }

  steps_are : (max from from' : ℕ) (at : Option ℕ) (found : List Range) (to : ℕ) (left : Option ℕ) → n ≤ from → from' ≤ from → AreSteps At max from at found to left → AreSteps At' max from' at found to left
  steps_are max from from' at [] to left least low are = let order = are.0 in (omega arith, are.1)
  steps_are max from from' at (r ∷ found) to left least low are =
      let later = are.1 in
      (are.0, omega arith, on are.0 (find_at at max) (Some r) (omega arith) are.2, steps_are max are.0 are.0 (place_behind (Some r) max) found to left (omega arith) (omega arith) are.3)

  found_as : (max from from' to to' : ℕ) (at : Option ℕ) (room : ℕ) (found : List Range) (at' : Option ℕ) → n ≤ from → from' ≤ from → to ≤ to' → HasFound At max from to at room found at' → HasFound At' max from' to' at room found at'
  found_as max from from' to to' at room found at' least low high was =
      let within = was.within in
      let order = steps_order At max from at found was.until was.left was.read in
      record {
        until = was.until;
        left = was.left;
        read = steps_are max from from' at found was.until was.left least low was.read;
        within = omega arith;
        fits = was.fits;
        full = was.full;
        ended = λ short.
            let end = was.ended short in
            let first = end.1.1 in let last = end.1.2 in
            (end.0, (end.1.0, first, omega arith, on end.1.0 (find_at was.left max) None (omega arith) end.1.3));
      }

  pub ranges_as : (max from from' to to' : ℕ) (at : Option ℕ) (old new : List Range) (count : ℕ) (at' : Option ℕ) → n ≤ from → from' ≤ from → to ≤ to' → RangesPut At max from to at old new count at' → RangesPut At' max from' to' at old new count at'
  ranges_as max from from' to to' at old new count at' least low high was =
      record { found = was.found; has = found_as max from from' to to' at (length old) was.found at' least low high was.has; count_is = was.count_is; put = was.put }

-- ---- a batch that ends

-- there is no place left
pub all_put : (At : ℕ → Query → Option Range → Type 0) (max from to : ℕ) (at : Option ℕ) (old new : List Range) (count : ℕ) (left : Option ℕ) → HasPut At max from to at old new count left → count ≡ length old → RangesPut At max from to at old new (length old) left
all_put At max from to at old new count left was all =
    let long = was.count_is in record {
      found = was.found;
      has = record { until = to; left = left; read = was.read; within = omega arith; fits = omega arith; full = λ _. refl; ended = λ short. absurd (omega arith) };
      count_is = sym all ∙ long;
      put = was.put ∙ ap (λ (n : ℕ). was.found ++ drop n old) all;
    }

-- a step found none
pub none_left : (q q' : PassPart) → q'.shape ≡ q.shape → Begins q.seen q'.seen → (max from : ℕ) (at : Option ℕ) (old new : List Range) (count : ℕ) (left : Option ℕ) → HasPut (SeenAt q) max from (length q.seen) at old new count left → count < length old
    → IsSeenFrom q' (length q.seen) (find_at left max) None → (at' : Option ℕ) → at' ≡ None → RangesPut (SeenAt q') max from (length q'.seen) at old new count at'
none_left q q' shape b max from at old new count left was fits none at' is =
    let long = begins_long q.seen q'.seen b in let count_is = was.count_is in record {
      found = was.found;
      has = record {
        until = length q.seen;
        left = left;
        read = steps_are (SeenAt q) (SeenAt q') 0 (λ k query value low s. seen_on q q' k query value shape b s) max from from at was.found (length q.seen) left (omega arith) (omega arith) was.read;
        within = omega arith;
        fits = omega arith;
        full = λ all. absurd (omega arith);
        ended = λ short. (is, (none.0, none.1, none.2.high, none.2));
      };
      count_is = was.count_is;
      put = was.put;
    }

-- ---- the leaf that is kept

pub kept_since : (a b c : Option KeptLeaf) (lo : ℕ) → (b ≡ a) ⊎ IfSome b (λ (kept : KeptLeaf). kept.lo ≡ lo) → (c ≡ b) ⊎ IfSome c (λ (kept : KeptLeaf). kept.lo ≡ lo) → (c ≡ a) ⊎ IfSome c (λ (kept : KeptLeaf). kept.lo ≡ lo)
kept_since a b c lo (inl same) (inl again) = inl (again ∙ same)
kept_since a b c lo (inr since) (inl again) = inr (subst (λ (o : Option KeptLeaf). IfSome o (λ (kept : KeptLeaf). kept.lo ≡ lo)) (sym again) since)
kept_since a b c lo first (inr since) = inr since
