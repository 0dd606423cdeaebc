-- Batches: what so many look-ups have put, and so many steps have found.
use Rattle.mt_engine.proofs.Prelude.{All, All-tail, IsTreeOf, Kind, handle_in, inl, inr, None, Option, Some, [], ap, append-nil, append_assoc, arith, length, length-append, length-map, get_or-map, length-drop, length_push, map, min, refl, subst, suc, sym, take, ℕ, ◌++◌, ◌+◌, ◌-◌, ◌<◌, ◌∙◌, ◌∷◌, ◌≡◌, ◌≢◌, ◌≤◌, List, drop, option_map, slice_index, slice_index_or, slice_set, Load, Range, answer, greatest, Rooted, Sheet, OnlyReads, map_by, same_tree, RangeWalk, WalksFrom, reads_on, PutSteps, Stepped, entries_at, entry_or_zero, found_from, found_then, index_behind, put_first, steps_by, steps_from, words_in, cases_eq, drop_all, length-take-le, map-append, take_all, take_min, take_more}
use Rattle.std.specs.Option.{unwrap_or}
use Rattle.mt_engine.proofs.SlotQueries.{IsHandleAt, load_held, load_hole}

-- ---- the first places of a list

module _ {A : Type 0} where
  -- one more is put behind those before
  pub put_next : (done old : List A) (x : A) → length done < length old → slice_set (put_first done old) (length done) x ≡ put_first (done ++ (x ∷ [])) old
  put_next [] [] x low = absurd (omega arith)
  put_next [] (o ∷ old) x low = refl
  put_next (d ∷ done) [] x low = absurd (omega arith)
  put_next (d ∷ done) (o ∷ old) x low = ap (λ (l : List A). d ∷ l) (put_next done old x (omega arith))

  -- so many of a list were put, and one more is
  pub put_more : (xs old new : List A) (k : ℕ) (x : A) → k < length xs → k < length old → new ≡ put_first (take k xs) old → x ≡ slice_index_or xs k x → slice_set new k x ≡ put_first (take (k + 1) xs) old
  put_more xs old new k x low fits is at =
      let long = length-take-le k xs (omega arith) in
      (λ i. slice_set (is i) (sym long i) x) ∙ (put_next (take k xs) old x (omega arith)
      ∙ ap (λ (l : List A). put_first l old) (ap (λ (y : A). take k xs ++ (y ∷ [])) at ∙ sym (take_more xs k x low)))

  -- all were put, and there are no other places
  pub put_whole : (xs old new : List A) (k : ℕ) → length xs ≤ k → length old ≡ length xs → new ≡ put_first (take k xs) old → new ≡ xs
  put_whole xs old new k all long is =
      is ∙ (ap (λ (l : List A). put_first l old) (take_all k xs all) ∙ (ap (λ (l : List A). xs ++ l) (drop_all (length xs) old (omega arith)) ∙ append-nil xs))

-- ---- look-ups

or_zero : (o : Option Range) → unwrap_or (option_map (λ (r : Range). r.entry) o) 0 ≡ entry_or_zero o
or_zero None = refl
or_zero (Some r) = refl

-- what a look-up by itself answers is what stands in its place
pub looked_up : (s s' : Sheet) (indexes : List ℕ) (k index entry : ℕ) (found : Option ℕ) → OnlyReads s s' → k < length indexes → index ≡ slice_index indexes k
    → found ≡ option_map (λ (r : Range). r.entry) (answer (map_by s'.tree) (Load index)) → entry ≡ unwrap_or found 0 → entry ≡ slice_index_or (entries_at (map_by s.tree) indexes) k entry
looked_up s s' indexes k index entry found reads low at answers is =
    let one = λ (i : ℕ). entry_or_zero (answer (map_by s.tree) (Load i)) in
    is ∙ (ap (λ (o : Option ℕ). unwrap_or o 0) answers ∙ (or_zero (answer (map_by s'.tree) (Load index))
    ∙ (ap (λ (t : Rooted). entry_or_zero (answer (map_by t) (Load index))) (same_tree s s' reads) ∙ (ap one at ∙ sym (get_or-map one indexes k 0 entry low)))))

pub look_more : (s s' : Sheet) (indexes old new : List ℕ) (k index entry : ℕ) (found : Option ℕ) → OnlyReads s s' → k < length indexes → k < length old → new ≡ put_first (take k (entries_at (map_by s.tree) indexes)) old
    → index ≡ slice_index indexes k → found ≡ option_map (λ (r : Range). r.entry) (answer (map_by s'.tree) (Load index)) → entry ≡ unwrap_or found 0
    → slice_set new k entry ≡ put_first (take (k + 1) (entries_at (map_by s.tree) indexes)) old
look_more s s' indexes old new k index entry found reads low fits before at answers is =
    let all = length-map indexes (λ (i : ℕ). entry_or_zero (answer (map_by s.tree) (Load i))) in
    put_more (entries_at (map_by s.tree) indexes) old new k entry (omega arith) fits before (looked_up s s' indexes k index entry found reads low at answers is)

-- all were looked up
pub look_all : (m : List Range) (indexes old new : List ℕ) (k : ℕ) → length indexes ≤ k → length old ≡ length indexes → new ≡ put_first (take k (entries_at m indexes)) old → new ≡ entries_at m indexes
look_all m indexes old new k all long is =
    let many = length-map indexes (λ (i : ℕ). entry_or_zero (answer m (Load i))) in
    put_whole (entries_at m indexes) old new k (omega arith) (omega arith) is

-- as many as there are indexes and places
pub look_few : (m : List Range) (indexes old : List ℕ) (count : ℕ) → count ≡ min (length indexes) (length old) → entries_at m (take count indexes) ++ drop count old ≡ put_first (entries_at m (take (length old) indexes)) old
look_few m indexes old count least =
    let same : count ≡ min (length old) (length indexes) = omega arith in
    let few : take count indexes ≡ take (length old) indexes = ap (λ (n : ℕ). take n indexes) same ∙ take_min (length old) indexes in
    let many : length (entries_at m (take count indexes)) ≡ count = length-map (take count indexes) (λ (i : ℕ). entry_or_zero (answer m (Load i))) ∙ length-take-le count indexes (omega arith) in
    (λ i. entries_at m (take count indexes) ++ drop (sym many i) old) ∙ ap (λ (l : List ℕ). put_first (entries_at m l) old) few

-- the words that stand at indexes of a tree are the entries that they hold
word_is : (t : Rooted) (tree : (kind : Kind) × IsTreeOf t kind) (index : ℕ) → t.root ≢ 0 → index ≤ greatest t.table.width → (handle_in t index).span.word ≡ entry_or_zero (answer (map_by t) (Load index))
word_is t tree index root within =
    let at : IsHandleAt t index (handle_in t index) = record { some = root; within = within; is = refl } in
    elim (cases_eq (handle_in t index).span.word 0) [
      | inl hole ↦ hole ∙ ap entry_or_zero (load_hole t tree index (handle_in t index) at hole)
      | inr held ↦ ap entry_or_zero (load_held t tree index (handle_in t index) at held)
    ]

pub words_are : (t : Rooted) (tree : (kind : Kind) × IsTreeOf t kind) → t.root ≢ 0 → (indexes : List ℕ) → All (λ (index : ℕ). index ≤ greatest t.table.width) indexes → words_in t indexes ≡ entries_at (map_by t) indexes
words_are t tree root [] within = refl
words_are t tree root (index ∷ indexes) within =
    let first = word_is t tree index root (within 0 0 (omega arith)) in
    let others = words_are t tree root indexes (All-tail (λ (i : ℕ). i ≤ greatest t.table.width) index indexes within) in
    λ i. first i ∷ others i

-- ---- steps

-- so many steps were made, and each found a range, which was put by f
pub record HasStepped {A : Type 0} (f : Range → A) (m : List Range) (top most : ℕ) (first : Option ℕ) (old : List A) (made : ℕ) (next : Option ℕ) (new : List A) : Type 0 where
  pub done : List Range
  pub long : length done ≡ made
  pub low : made ≤ most
  pub put : new ≡ put_first (map f done) old
  pub found : (steps_from m top most first).found ≡ done ++ (steps_from m top (most - made) next).found
  pub goes : (steps_from m top most first).next ≡ (steps_from m top (most - made) next).next

-- before the first
pub steps_begin : {A : Type 0} (f : Range → A) (m : List Range) (top : ℕ) (first : Option ℕ) (old : List A) → HasStepped f m top (length old) first old 0 first old
steps_begin f m top first old =
    let same : length old ≡ length old - 0 = omega arith in
    record {
      done = [];
      long = refl;
      low = omega arith;
      put = refl;
      found = ap (λ (n : ℕ). (steps_from m top n first).found) same;
      goes = ap (λ (n : ℕ). (steps_from m top n first).next) same;
    }

-- what is left to find where the next step finds a range, and where it finds none
left_some : (m : List Range) (top n : ℕ) (next : Option ℕ) (r : Range) → found_from m top next ≡ Some r
    → steps_from m top (suc n) next ≡ record { found = r ∷ (steps_from m top n (index_behind top (Some r))).found; next = (steps_from m top n (index_behind top (Some r))).next }
unfolding steps_from
left_some m top n next r is = ap (λ (o : Option Range). found_then o (λ (x : Range). steps_from m top n (index_behind top (Some x)))) is

left_none : (m : List Range) (top n : ℕ) (next : Option ℕ) → found_from m top next ≡ None → steps_from m top (suc n) next ≡ record { found = []; next = None }
unfolding steps_from
left_none m top n next is = ap (λ (o : Option Range). found_then o (λ (x : Range). steps_from m top n (index_behind top (Some x)))) is

left_all : (m : List Range) (top : ℕ) (next : Option ℕ) → steps_from m top 0 next ≡ record { found = []; next = next }
unfolding steps_from
left_all m top next = refl

module _ {A : Type 0} {f : Range → A} {m : List Range} {top most : ℕ} {first : Option ℕ} {old : List A} {made : ℕ} {next : Option ℕ} {new : List A} (has : HasStepped f m top most first old made next new) where
  abbrev whole : Stepped
  whole = steps_from m top most first

  mapped : length (map f has.done) ≡ made
  mapped = length-map has.done f ∙ has.long

  -- a step finds a range, which is put behind those before
  pub steps_on : made < most → most ≡ length old → (r : Range) → found_from m top next ≡ Some r → (new' : List A) → new' ≡ slice_set new made (f r)
      → (next' : Option ℕ) → next' ≡ index_behind top (Some r) → HasStepped f m top most first old (made + 1) next' new'
  steps_on low all r is new' set next' behind =
      let left : most - made ≡ suc (most - (made + 1)) = omega arith in
      let goes = ap (λ (n : ℕ). steps_from m top n next) left ∙ left_some m top (most - (made + 1)) next r is in
      let on = ap (λ (i : Option ℕ). steps_from m top (most - (made + 1)) i) (sym behind) in
      let many = mapped in
      record {
        done = has.done ++ (r ∷ []);
        long = length_push has.done r ∙ ap (λ (n : ℕ). n + 1) has.long;
        low = omega arith;
        put = set ∙ ((λ i. slice_set (has.put i) (sym many i) (f r)) ∙ (put_next (map f has.done) old (f r) (omega arith) ∙ ap (λ (l : List A). put_first l old) (sym (map-append f has.done (r ∷ [])))));
        found = has.found ∙ (ap (λ (x : Stepped). has.done ++ x.found) goes
            ∙ (sym (append_assoc has.done (r ∷ []) (steps_from m top (most - (made + 1)) (index_behind top (Some r))).found)
            ∙ ap (λ (x : Stepped). (has.done ++ (r ∷ [])) ++ x.found) on));
        goes = has.goes ∙ (ap (λ (x : Stepped). x.next) goes ∙ ap (λ (x : Stepped). x.next) on);
      }

  -- these are all that were asked for
  ends : whole.found ≡ has.done → (new ≡ put_first (map f whole.found) old) × (made ≡ length whole.found)
  ends found = (has.put ∙ ap (λ (l : List Range). put_first (map f l) old) (sym found), sym has.long ∙ ap length (sym found))

  -- a step finds none: these are all
  pub steps_end : made < most → found_from m top next ≡ None → PutSteps f whole old new made None
  steps_end low is =
      let left : most - made ≡ suc (most - (made + 1)) = omega arith in
      let goes = ap (λ (n : ℕ). steps_from m top n next) left ∙ left_none m top (most - (made + 1)) next is in
      let all = ends (has.found ∙ (ap (λ (x : Stepped). has.done ++ x.found) goes ∙ append-nil has.done)) in
      record { put = all.0; many = all.1; goes = sym (has.goes ∙ ap (λ (x : Stepped). x.next) goes) }

  -- there is no place left: these are as many as were asked for
  pub steps_full : most ≤ made → PutSteps f whole old new made next
  steps_full high =
      let left : most - made ≡ 0 = omega arith in
      let goes = ap (λ (n : ℕ). steps_from m top n next) left ∙ left_all m top next in
      let all = ends (has.found ∙ (ap (λ (x : Stepped). has.done ++ x.found) goes ∙ append-nil has.done)) in
      record { put = all.0; many = all.1; goes = sym (has.goes ∙ ap (λ (x : Stepped). x.next) goes) }

  -- so many places are there as before
  pub steps_long : most ≡ length old → length new ≡ length old
  steps_long all =
      let low = has.low in let many = mapped in
      ap length has.put ∙ (length-append (map f has.done) (drop (length (map f has.done)) old) ∙ (let rest = length-drop (length (map f has.done)) old in omega arith))

-- ---- steps of a walk in a tree that is only read

-- so many steps were made, and what each found was put by f
pub record HasPut {A : Type 0} (f : Range → A) (s s' : Sheet) (walk walk' : RangeWalk) (old new : List A) (made : ℕ) : Type 0 where
  pub reads : OnlyReads s s'
  pub walks : WalksFrom s.tree walk'
  pub stepped : HasStepped f (map_by s.tree) (greatest s.tree.table.width) (length old) walk.next old made walk'.next new

pub put_begin : {A : Type 0} (f : Range → A) (s : Sheet) (walk : RangeWalk) (old : List A) → WalksFrom s.tree walk → HasPut f s s walk walk old old 0
put_begin f s walk old walks = record { reads = refl; walks = walks; stepped = steps_begin f (map_by s.tree) (greatest s.tree.table.width) walk.next old }

module _ {A : Type 0} {f : Range → A} {s s' : Sheet} {walk walk' : RangeWalk} {old new : List A} {made : ℕ} (put : HasPut f s s' walk walk' old new made) where
  same : s'.tree ≡ s.tree
  same = same_tree s s' put.reads

  abbrev pub steps : Stepped
  steps = steps_by s.tree (length old) walk.next

  found_there : (o : Option Range) → o ≡ found_from (map_by s'.tree) (greatest s'.tree.table.width) walk'.next → found_from (map_by s.tree) (greatest s.tree.table.width) walk'.next ≡ o
  found_there o is = ap (λ (t : Rooted). found_from (map_by t) (greatest t.table.width) walk'.next) (sym same) ∙ sym is

  pub put_on : made < length old → (s'' : Sheet) → OnlyReads s' s'' → (r : Range) → Some r ≡ found_from (map_by s'.tree) (greatest s'.tree.table.width) walk'.next → (walk'' : RangeWalk) → walk''.next ≡ index_behind (greatest s'.tree.table.width) (Some r)
      → WalksFrom s'.tree walk'' → (new' : List A) → new' ≡ slice_set new made (f r) → HasPut f s s'' walk walk'' old new' (made + 1)
  put_on low s'' reads r is walk'' behind walks new' set = record {
    reads = reads_on s s' s'' put.reads reads;
    walks = subst (λ (t : Rooted). WalksFrom t walk'') same walks;
    stepped = steps_on put.stepped low refl r (found_there (Some r) is) new' set walk''.next
        (behind ∙ ap (λ (t : Rooted). index_behind (greatest t.table.width) (Some r)) same);
  }

  pub put_end : made < length old → None ≡ found_from (map_by s'.tree) (greatest s'.tree.table.width) walk'.next → PutSteps f steps old new made None
  put_end low is = steps_end put.stepped low (found_there None is)

  pub put_full : length old ≤ made → PutSteps f steps old new made walk'.next
  put_full high = steps_full put.stepped high

  pub put_long : length new ≡ length old
  put_long = steps_long put.stepped refl
