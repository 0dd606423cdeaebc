-- Trees and the rows of their passes, place by place.
use Rattle.mt_replay.proofs.Prelude.{◌≡◌, ℕ, zero, suc, List, [], ◌∷◌, Some, slice_get, arith, refl, sym, All, slice_get-get_or, slice_get_within, Record, History, Pass, with_records, Outcome, Called, Looked, Counted, Does, Leads, Tracked, same_some, SharedTree, tracked_in, seen_by, tracked_of}

pub all_from : {X : Type 0} (P : X → Type 0) (xs : List X) → ((i : ℕ) (x : X) → slice_get xs i ≡ Some x → P x) → All P xs
all_from P xs h = λ i d within. h i _ (slice_get-get_or xs i d within)

-- ---- each tree with its row

pub record Found (trees : List SharedTree) (rows : List (List Pass)) (number : ℕ) (b : Tracked) : Type 0 where
  pub tree : SharedTree
  pub row : List Pass
  pub tree_is : slice_get trees number ≡ Some tree
  pub row_is : slice_get rows number ≡ Some row
  pub is : b ≡ tracked_of tree row

pub found : (trees : List SharedTree) (rows : List (List Pass)) (number : ℕ) (b : Tracked) → slice_get (tracked_in trees rows) number ≡ Some b → Found trees rows number b
found [] rows number b e = absurd (omega (arith, slice_get_within [] number b e))
found (t ∷ trees) [] number b e = absurd (omega (arith, slice_get_within [] number b e))
found (t ∷ trees) (row ∷ rows) zero b e = record { tree = t; row = row; tree_is = refl; row_is = refl; is = sym (same_some (tracked_of t row) b e) }
found (t ∷ trees) (row ∷ rows) (suc number) b e = let f = found trees rows number b e in record { tree = f.tree; row = f.row; tree_is = f.tree_is; row_is = f.row_is; is = f.is }

-- ---- what leads from pass to pass reads no calls of the tree's history

does_seen : (h : History) (records : List Record) (p : Pass) (o : Outcome) (q : Pass) → Does h p o q → Does (with_records h records) p o q
does_seen h records p (Called number call reply) q (closed, w) = (closed, record { others = w.others; pass = w.pass; last = w.last; begun = w.begun; ended = w.ended; sound = record { own = w.sound.own; legal = w.sound.legal }; by = w.by })
does_seen h records p (Looked lo hi k query value) q r = record { grows = r.grows; true = r.true; from = r.from; floor = r.floor; before = r.before; lo_known = r.lo_known; hi_known = r.hi_known; sound = record { own = r.sound.own; legal = r.sound.legal } }
does_seen h records p (Counted said ranges) q l = l

leads_with : (h : History) (records : List Record) (p : Pass) (os : List Outcome) (q : Pass) → Leads h p os q → Leads (with_records h records) p os q
leads_with h records p [] q l = l
leads_with h records p (o ∷ os) q (m, n, learns, does, leads) = (m, n, learns, does_seen h records m o n does, leads_with h records n os q leads)

pub leads_seen : (h : History) (row : List Pass) (p : Pass) (os : List Outcome) (q : Pass) → Leads h p os q → Leads (seen_by h row) p os q
leads_seen h [] p os q l = l
leads_seen h (r ∷ row) p os q l = leads_with h r.seen p os q l

pub seen_otherwise : (h : History) (before after : List Pass) → seen_by h after ≡ with_records (seen_by h before) (seen_by h after).records
seen_otherwise h [] [] = refl
seen_otherwise h [] (q ∷ after) = refl
seen_otherwise h (p ∷ before) [] = refl
seen_otherwise h (p ∷ before) (q ∷ after) = refl
