-- The ranges that a store meets, as a walk tells them, and the store behind it.
use Rattle.mt_tree.proofs.Prelude.{◌≡◌, ◌∙◌, ◌+◌, ◌-◌, ◌<◌, ◌≤◌, ℕ, Bool, true, List, [], ◌∷◌, ◌++◌, Option, Some, None, Result, Ok, Err, IfOk, IfErr, length, map, set, take, take-append_seam, refl, sym, ap, subst, arith, inl, inr, nat_le, if◌then◌else◌, length-append, length-map, append-nil, AllByRecursion, History, Kind, Range, Call, Record, OnlyReads, Rooted, Sheet, deepest, map_by, record_of, records_of, saw_wrote, Done, Worn, Tree, Behind, after_show, opened, limit_of, map_seen, IsWorn, NamesPass, WasAnsweredBy, WasMade, Wrote, begins_long, begins_on, IsMapFrom, overlaps, greatest, tree_map, tree_within, none_given, one_given, ranges_from, reads_on, IsTreeOf, TellsMet, map_met, ranges_met, cases_Bool, le-leb, leb-false, lt-leb, append_assoc, map-append, root_span}
use Rattle.std.specs.Prelude.{◌^◌, drop, filter}
use Rattle.mt_base.specs.Passes as known
use Rattle.mt_check.proofs.Counts.{ranges_fit}
use Rattle.mt_engine.specs.RangeWalks.{WalksFrom, found_from, index_behind, index_in}
use Rattle.mt_engine.specs.declared.range_walk.RangeWalk.{RangeWalk}

-- ---- a buffer

-- one that begins with these, as far as it has room, and is else as before
abbrev pub filled : {A : Type 0} → List A → List A → List A
filled [] told = []
filled (x ∷ buffer) [] = x ∷ buffer
filled (x ∷ buffer) (y ∷ told) = y ∷ filled buffer told

filled_none : {A : Type 0} (buffer : List A) → filled buffer [] ≡ buffer
filled_none [] = refl
filled_none (x ∷ buffer) = refl

filled_more : {A : Type 0} (buffer told : List A) (y : A) → set (filled buffer told) (length told) y ≡ filled buffer (told ++ y ∷ [])
filled_more [] told y = refl
filled_more {A = A} (x ∷ buffer) [] y = ap (λ (l : List A). y ∷ l) (sym (filled_none buffer))
filled_more {A = A} (x ∷ buffer) (z ∷ told) y = ap (λ (l : List A). z ∷ l) (filled_more buffer told y)

-- their first ones, and what stood behind so many
filled_is : {A : Type 0} (buffer told : List A) → filled buffer told ≡ take (length buffer) told ++ drop (length told) buffer
filled_is [] [] = refl
filled_is [] (y ∷ told) = refl
filled_is (x ∷ buffer) [] = refl
filled_is {A = A} (x ∷ buffer) (y ∷ told) = ap (λ (l : List A). y ∷ l) (filled_is buffer told)

-- ---- the ranges of a map that a store meets

-- whether a range begins at an index or below
abbrev begins_to : ℕ → Range → Bool
begins_to last r = nat_le r.first last

-- they are those that end at the first index or above, and begin at the last one or below
met_from : (m : List Range) (first last : ℕ) → filter (begins_to last) (filter (λ (r : Range). nat_le first r.last) m) ≡ filter (overlaps first last) m
met_from [] first last = refl
met_from (r ∷ m) first last = elim (cases_Bool (nat_le first r.last)) [
  | inl ends ↦ elim (cases_Bool (nat_le r.first last)) [
    | inl begins ↦ rw (ends, begins) (ap (λ (l : List Range). r ∷ l) (met_from m first last))
    | inr above ↦ rw (ends, above) (met_from m first last)
  ]
  | inr below ↦ elim (cases_Bool (nat_le r.first last)) [
    | inl begins ↦ rw (below, begins) (met_from m first last)
    | inr above ↦ rw (below, above) (met_from m first last)
  ]
]

-- above the greatest index there are none
none_above : (m : List Range) (first last top : ℕ) → AllByRecursion (λ (r : Range). r.last ≤ top) m → top < first → filter (overlaps first last) m ≡ []
none_above [] first last top within above = refl
none_above (r ∷ m) first last top within above =
    let ends = within.0 in
    elim (cases_Bool (nat_le r.first last)) [
      | inl begins ↦ rw (begins, lt-leb first r.last (omega arith)) (none_above m first last top within.1 above)
      | inr later ↦ rw later (none_above m first last top within.1 above)
    ]

-- those that begin above an index
none_begin : (m : List Range) (low last : ℕ) → IsMapFrom low m → last < low → filter (begins_to last) m ≡ []
none_begin [] low last rise above = refl
none_begin (r ∷ m) low last rise above =
    let begins = rise.0 in let ends = rise.1 in
    rw (lt-leb r.first last (omega arith)) (none_begin m (r.last + 1) last rise.3 (omega arith))

rise_from : (m : List Range) (low lower : ℕ) → lower ≤ low → IsMapFrom low m → IsMapFrom lower m
rise_from [] low lower less rise = tt
rise_from (r ∷ m) low lower less rise = let begins = rise.0 in (omega arith, rise.1, rise.2, rise.3)

-- what is kept of a map rises
kept_rise : (p : Range → Bool) (m : List Range) (low : ℕ) → IsMapFrom low m → IsMapFrom low (filter p m)
kept_rise p [] low rise = tt
kept_rise p (r ∷ m) low rise = elim (cases_Bool (p r)) [
  | inl kept ↦ rw kept (rise.0, rise.1, rise.2, kept_rise p m (r.last + 1) rise.3)
  | inr gone ↦ rw gone (let begins = rise.0 in let ends = rise.1 in rise_from (filter p m) (r.last + 1) low (omega arith) (kept_rise p m (r.last + 1) rise.3))
]

few_kept : (p : Range → Bool) (m : List Range) → length (filter p m) ≤ length m
few_kept p [] = omega arith
few_kept p (r ∷ m) = let few = few_kept p m in elim (cases_Bool (p r)) [ inl kept ↦ rw kept (omega arith) | inr gone ↦ rw gone (omega arith) ]

-- a map of a tree has so many
map_fits : (t : Rooted) → length (map_by t) < 2 ^ 64
map_fits t = ranges_fit t.table deepest (root_span t.table t.root) (omega arith)

-- ---- a walk over them

-- these were told, and the walk gives the others
pub record AreTold {A : Type 0} (shows : Range → A) (s s' : Sheet) (walk : RangeWalk) (first last : ℕ) (met met' : List A) (count : ℕ) : Type 0 where
  pub rest : OnlyReads s s'
  pub walks : WalksFrom s.tree walk
  pub ranges : List Range
  pub all : ranges ++ filter (begins_to last) (ranges_from (map_by s.tree) walk.next) ≡ filter (overlaps first last) (map_by s.tree)
  pub counted : count ≡ length ranges
  pub put : met' ≡ filled met (map shows ranges)

module _ {A : Type 0} (shows : Range → A) (s : Sheet) (kind : Kind) (tree : IsTreeOf s.tree kind) (first last : ℕ) (met : List A) where
  abbrev here : Rooted
  here = s.tree

  abbrev m : List Range
  m = map_by here

  abbrev top : ℕ
  top = greatest here.table.width

  begun_with : (next : Option ℕ) → next ≡ index_in top first → filter (begins_to last) (ranges_from m next) ≡ filter (overlaps first last) m
  begun_with next is = elim (cases_Bool (nat_le first top)) [
    | inl low ↦ (let at : next ≡ Some first = is ∙ ap (λ (b : Bool). if b then Some first else None) low in subst (λ (o : Option ℕ). filter (begins_to last) (ranges_from m o) ≡ filter (overlaps first last) m) (sym at) (met_from m first last))
    | inr above ↦ (let at : next ≡ None = is ∙ ap (λ (b : Bool). if b then Some first else None) above in subst (λ (o : Option ℕ). filter (begins_to last) (ranges_from m o) ≡ filter (overlaps first last) m) (sym at) (sym (none_above m first last top (tree_within here kind tree) (leb-false first top above))))
  ]

  pub none_told : (walk : RangeWalk) → WalksFrom s.tree walk → walk.next ≡ index_in top first → AreTold shows s s walk first last met met 0
  none_told walk walks next = record { rest = refl; walks = walks; ranges = []; all = begun_with walk.next next; counted = refl; put = sym (filled_none met) }

  module _ (s' : Sheet) (walk : RangeWalk) (met' : List A) (count : ℕ) (told : AreTold shows s s' walk first last met met' count) where
    same : s'.tree ≡ here
    same = ap (λ (x : Sheet). x.tree) told.rest

    found_here : (o : Option Range) → o ≡ found_from (map_by s'.tree) (greatest s'.tree.table.width) walk.next → o ≡ found_from m top walk.next
    found_here o found = found ∙ ap (λ (t : Rooted). found_from (map_by t) (greatest t.table.width) walk.next) same

    more_here : (r : Range) → Some r ≡ found_from (map_by s'.tree) (greatest s'.tree.table.width) walk.next → ranges_from m walk.next ≡ r ∷ ranges_from m (index_behind top (Some r))
    more_here r found = one_given m top (tree_map here kind tree).rise (tree_within here kind tree) walk.next r told.walks.within (found_here (Some r) found)

    tells : told.ranges ≡ filter (overlaps first last) m → TellsMet shows (filter (overlaps first last) m) met met' count
    tells is = record {
      told =
          let here : met' ≡ filled met (map shows (filter (overlaps first last) m)) = told.put ∙ ap (λ (l : List Range). filled met (map shows l)) is in
          here ∙ (filled_is met (map shows (filter (overlaps first last) m)) ∙ ap (λ (n : ℕ). take (length met) (map shows (filter (overlaps first last) m)) ++ drop n met) (length-map (filter (overlaps first last) m) shows));
      counted = told.counted ∙ ap length is;
    }

    none_left : filter (begins_to last) (ranges_from m walk.next) ≡ [] → told.ranges ≡ filter (overlaps first last) m
    none_left none = sym (append-nil told.ranges) ∙ (ap (λ (l : List Range). told.ranges ++ l) (sym none) ∙ told.all)

    -- the walk has ended
    pub all_told : None ≡ found_from (map_by s'.tree) (greatest s'.tree.table.width) walk.next → TellsMet shows (filter (overlaps first last) m) met met' count
    all_told found = tells (none_left (ap (filter (begins_to last)) (none_given m top (tree_map here kind tree).rise (tree_within here kind tree) walk.next told.walks.within (found_here None found))))

    -- they are fewer than 2 ^ 64
    pub few_told : count < 2 ^ 64
    few_told =
        let some : length told.ranges ≤ length (filter (overlaps first last) m) = (let long = ap length told.all in omega (arith, long, length-append told.ranges (filter (begins_to last) (ranges_from m walk.next)))) in
        omega (arith, told.counted, some, few_kept (overlaps first last) m, map_fits here)

    module _ (r : Range) (found : Some r ≡ found_from (map_by s'.tree) (greatest s'.tree.table.width) walk.next) where
      -- it has come to one that begins above the last index
      pub rest_above : last < r.first → TellsMet shows (filter (overlaps first last) m) met met' count
      rest_above above =
          let from : IsMapFrom 0 (r ∷ ranges_from m (index_behind top (Some r))) = subst (IsMapFrom 0) (more_here r found) (kept_from walk.next) in
          let rising : IsMapFrom r.first (r ∷ ranges_from m (index_behind top (Some r))) = (omega arith, from.1, from.2, from.3) in
          tells (none_left (ap (filter (begins_to last)) (more_here r found) ∙ none_begin (r ∷ ranges_from m (index_behind top (Some r))) r.first last rising above))
        where
          kept_from : (o : Option ℕ) → IsMapFrom 0 (ranges_from m o)
          kept_from None = tt
          kept_from (Some index) = kept_rise (λ (x : Range). nat_le index x.last) m 0 (tree_map here kind tree).rise

      module _ (walk' : RangeWalk) (next : walk'.next ≡ index_behind (greatest s'.tree.table.width) (Some r)) where
        next_here : walk'.next ≡ index_behind top (Some r)
        next_here = next ∙ ap (λ (t : Rooted). index_behind (greatest t.table.width) (Some r)) same

        pub one_told : r.first ≤ last → (s″ : Sheet) → OnlyReads s' s″ → WalksFrom s″.tree walk' → (met″ : List A) → met″ ≡ set met' count (shows r) → AreTold shows s s″ walk' first last met met″ (count + 1)
        one_told begins s″ reads walks met″ put = record {
          rest = reads_on s s' s″ told.rest reads;
          walks = subst (λ (t : Rooted). WalksFrom t walk') (ap (λ (x : Sheet). x.tree) (reads_on s s' s″ told.rest reads)) walks;
          ranges = told.ranges ++ r ∷ [];
          all =
              (λ i. (told.ranges ++ r ∷ []) ++ filter (begins_to last) (ranges_from m (next_here i)))
              ∙ (append_assoc told.ranges (r ∷ []) (filter (begins_to last) (ranges_from m (index_behind top (Some r)))) ∙ (ap (λ (l : List Range). told.ranges ++ l) (sym here_first) ∙ told.all));
          counted = ap (λ (n : ℕ). n + 1) told.counted ∙ sym (length-append told.ranges (r ∷ []));
          put =
              put
              ∙ ((λ i. set (told.put i) (long i) (shows r))
              ∙ (filled_more met (map shows told.ranges) (shows r) ∙ ap (filled met) (sym (map-append shows told.ranges (r ∷ [])))));
        }
          where
            here_first : filter (begins_to last) (ranges_from m walk.next) ≡ r ∷ filter (begins_to last) (ranges_from m (index_behind top (Some r)))
            here_first = ap (filter (begins_to last)) (more_here r found) ∙ first_kept (le-leb r.first last begins)
              where
                first_kept : nat_le r.first last ≡ true → filter (begins_to last) (r ∷ ranges_from m (index_behind top (Some r))) ≡ r ∷ filter (begins_to last) (ranges_from m (index_behind top (Some r)))
                first_kept kept = rw kept refl

            long : count ≡ length (map shows told.ranges)
            long = told.counted ∙ sym (length-map told.ranges shows)

        pub fewer_left : length (ranges_from m walk'.next) < length (ranges_from m walk.next)
        fewer_left =
            let more = ap length (more_here r found) in
            let behind : length (ranges_from m walk'.next) ≡ length (ranges_from m (index_behind top (Some r))) = ap (λ (o : Option ℕ). length (ranges_from m o)) next_here in
            omega (arith, more, behind)

-- ---- a range of indexes

-- a store means something where its first index is not above its last
pub some_met : {A : Type 0} (shows : Range → A) (m : List Range) (first last count : ℕ) (met met' : List A) → first ≤ last → TellsMet shows (filter (overlaps first last) m) met met' count → TellsMet shows (ranges_met m first last) met met' count
some_met shows m first last count met met' some told = rw (le-leb first last some) told

pub none_met : {A : Type 0} (shows : Range → A) (m : List Range) (first last count : ℕ) (met met' : List A) → last < first → count ≡ 0 → met' ≡ met → TellsMet shows (ranges_met m first last) met met' count
none_met shows m first last count met met' above none same = rw (lt-leb first last above) (none_told none same)
  where
    none_told : count ≡ 0 → met' ≡ met → TellsMet shows [] met met' count
    none_told none same = record { told = same ∙ (sym (filled_none met) ∙ filled_is met []); counted = none }

-- ---- a store behind it

pub saw_on : (tree : History) (p q r : known.Pass) → known.Saw tree p q → known.Saw tree q r → known.Saw tree p r
saw_on tree p q r s u = record {
  seen = begins_on p.seen q.seen r.seen s.seen u.seen;
  pass = u.pass ∙ ap (λ (x : known.Pass). record x { seen = r.seen; ended = length r.seen }) s.pass;
  begun = omega (arith, u.begun, ap (λ (x : known.Pass). x.begun) s.pass);
  ended = omega (arith, s.ended, begins_long q.seen r.seen u.seen);
  sound = u.sound;
}

module _ (t : Tree) (p m q : known.Pass) (b b' : Behind) (call : Call) (saw : known.Saw (opened t) p m) (knew : m.seen ≡ records_of b.pen.history) where
  -- a pass that saw all, and then made a call, made it
  pub made_then : (made : Result Done Worn) → IfOk made (λ d. Wrote (opened t) m d.call call d.reply q × (d.call ≤ limit_of t)) → IfOk made (λ d. NamesPass t d.reply) → IfOk made (λ d. WasAnsweredBy t q b b' call d)
      → IfErr made (λ w. IsWorn t m w q × (b' ≡ after_show b)) → WasMade t p call made q
  made_then (Ok d) done named answered worn = record { done = (saw_wrote (opened t) p m d.call call d.reply q saw done.0, done.1); named = named; answered = (b, b', answered); worn = tt }
  made_then (Err w) done named answered worn = record { done = tt; named = tt; answered = tt; worn = record { calls = worn.0.calls; all = worn.0.all; saw = saw_on (opened t) p m q saw worn.0.saw } }

  -- what it had seen is what the call met
  pub map_then : (made : Result Done Worn) → IfOk made (λ d. Wrote (opened t) m d.call call d.reply q × (d.call ≤ limit_of t)) → IfOk made (λ d. d.call ≡ length b.pen.history + 1)
      → IfErr made (λ w. IsWorn t m w q × (b' ≡ after_show b)) → q.seen ≡ records_of b'.pen.history → map_seen t m ≡ map_met t made q
  map_then (Ok d) done number worn seen = ap (λ (rs : List Record). map_seen t (record q { seen = rs })) (sym first)
    where
      made : Record
      made = record { pass = m.number; call = call; reply = d.reply }

      long : d.call - 1 ≡ length m.seen
      long = omega (arith, number, ap length knew, length-map b.pen.history record_of)

      all : q.seen ≡ m.seen ++ (done.0.others ++ made ∷ [])
      all = ap (λ (x : known.Pass). x.seen) done.0.pass ∙ append_assoc m.seen done.0.others (made ∷ [])

      first : take (d.call - 1) q.seen ≡ m.seen
      first = (λ k. take (long k) (all k)) ∙ take-append_seam m.seen (done.0.others ++ made ∷ [])
  map_then (Err w) done number worn seen =
      let same : q.seen ≡ m.seen = seen ∙ (ap (λ (x : Behind). records_of x.pen.history) worn.1 ∙ sym knew) in
      ap (λ (rs : List Record). map_seen t (record q { seen = rs })) (sym same)

  pub tells_then : {A : Type 0} (shows : Range → A) (first last count : ℕ) (met met' : List A) (made : Result Done Worn) → TellsMet shows (ranges_met (map_seen t m) first last) met met' count
      → IfOk made (λ d. Wrote (opened t) m d.call call d.reply q × (d.call ≤ limit_of t)) → IfOk made (λ d. d.call ≡ length b.pen.history + 1) → IfErr made (λ w. IsWorn t m w q × (b' ≡ after_show b)) → q.seen ≡ records_of b'.pen.history
      → TellsMet shows (ranges_met (map_met t made q) first last) met met' count
  tells_then shows first last count met met' made told done number worn seen = subst (λ (all : List Range). TellsMet shows (ranges_met all first last) met met' count) (map_then made done number worn seen) told

-- ---- under one lock that was found free

pub stored_from : (t : Tree) (p m q : known.Pass) (call : Call) (made : Result Done Worn) → m ≡ p → WasMade t m call made q → WasMade t p call made q
stored_from t p m q call made same was = subst (λ (x : known.Pass). WasMade t x call made q) same was
