-- The lines of a scan, from its steps: the text tells how many there are.
use Rattle.mt_told.proofs.Prelude.{◌≡◌, ℕ, zero, suc, ◌+◌, ◌<◌, ◌≤◌, List, [], ◌∷◌, ◌++◌, Option, Some, None, get_or, append_assoc, refl, sym, ap, ◌∙◌, subst, arith, All, flat_map, append-nil, All-head, All-nil, All-push, All-tail, Range, ScanGoesOnFrom, Outcome, Called, Looked, Counted, Step, find_at, place_after, place_within, shown, IsScanAt, IsScanFrom, range_told, AddsTold, AllFit, IsOutcomeOf, IsStepAt, IsToldAt, TellsDone, TellsNotDone, TellsStepAt, step_at_place, steps_text, AreSpelled, FitsLine, IsSpelled, IsSpelledOf, Spelling, told_text, Stretch, Look, LinePlace, ToldLine, What, Wrote, Got, Copied, Lawful}
use Rattle.mt_log.specs.declared.transcripts.Answer.TheVariants as answers
use Rattle.mt_told.proofs.Stepped.{nothing_told, steps_text-append, told_text-append}

-- ---- what a find of a scan was told

find_shows : (at : Option ℕ) (max : ℕ) (value : Option Range) (r : Range) → shown (find_at at max) value ≡ answers.Range r → value ≡ Some r
find_shows at max None r h = absurd (cc)
find_shows None max (Some found) r h = let same : found ≡ r = (cc) in ap (λ x. Some x) same
find_shows (Some index) max (Some found) r h = let same : found ≡ r = (cc) in ap (λ x. Some x) same

-- the range was found, or none was
value_told : (sp : Spelling) (what : What) (at : Option ℕ) (max lo hi k : ℕ) (value : Option Range) → IsSpelledOf sp what (Looked lo hi k (find_at at max) value) → value ≡ range_told what
value_told sp (Wrote number call reply) at max lo hi k value h = absurd h
value_told sp (Got l h query (answers.Range r)) at max lo hi k value told = find_shows at max value r told.3
value_told sp (Got l h query (answers.Entry e)) at max lo hi k value told = no_entry at value told.3
  where
    no_entry : (at : Option ℕ) (value : Option Range) → shown (find_at at max) value ≡ answers.Entry e → value ≡ None
    no_entry at None is = refl
    no_entry None (Some r) is = absurd (cc)
    no_entry (Some index) (Some r) is = absurd (cc)
value_told sp (Got l h query answers.None) at max lo hi k value told = no_range at value told.3
  where
    no_range : (at : Option ℕ) (value : Option Range) → shown (find_at at max) value ≡ answers.None → value ≡ None
    no_range at None is = refl
    no_range None (Some r) is = absurd (cc)
    no_range (Some index) (Some r) is = absurd (cc)
value_told sp (Copied count) at max lo hi k value h = absurd h
value_told sp (Lawful count) at max lo hi k value h = absurd h

-- ---- one step of a scan, and those behind it

module _ (place : LinePlace) (scan : Stretch) (count : ℕ) (at : Option ℕ) (text mid : List ℕ) (t : ToldLine) (step : TellsDone (IsStepAt place (Look (find_at at scan.max))) text (t ∷ []) mid) where
  abbrev FoundStep : ℕ → ℕ → ℕ → Option Range → Step
  FoundStep lo hi k value = step_at_place place (Looked lo hi k (find_at at scan.max) value)

  -- the first step is told, and the text goes on with the others
  record FirstTold (sp : Spelling) (lo hi k : ℕ) (value : Option Range) (others : List Step) (after : List ℕ) : Type 0 where
    told : IsSpelled sp t (FoundStep lo hi k value)
    found : value ≡ range_told t.what
    behind : mid ≡ steps_text sp others ++ after

  first_told : (sp : Spelling) (lo hi k : ℕ) (value : Option Range) (others steps : List Step) (after : List ℕ) → steps ≡ FoundStep lo hi k value ∷ others → AllFit sp steps → text ≡ steps_text sp steps ++ after → FirstTold sp lo hi k value others after
  first_told sp lo hi k value others steps after is small other =
      let all : AllFit sp (FoundStep lo hi k value ∷ others) = subst (AllFit sp) is small in
      let small_one : AllFit sp (FoundStep lo hi k value ∷ []) = λ i d within. subst (λ (s : Step). FitsLine sp s.outcome) (one_of (FoundStep lo hi k value) i d within) (all 0 (FoundStep lo hi k value) (omega arith)) in
      let whole : text ≡ steps_text sp (FoundStep lo hi k value ∷ []) ++ (steps_text sp others ++ after) =
      other ∙ (ap (λ (ss : List Step). steps_text sp ss ++ after) is ∙ steps_text-append sp (FoundStep lo hi k value ∷ []) others after) in
      let one = step.only sp (FoundStep lo hi k value ∷ []) (steps_text sp others ++ after) (Looked lo hi k (find_at at scan.max) value, refl, refl) small_one whole in
      record {
        told = one.0.0;
        found = value_told sp t.what at scan.max lo hi k value one.0.0.outcome;
        behind = one.1;
      }
    where
      one_of : (s : Step) (i : ℕ) (d : Step) → i < 1 → s ≡ get_or (s ∷ []) i d
      one_of s zero d within = refl
      one_of s (suc i) d within = absurd (omega arith)

  -- a step that is told so is a find of the scan
  its_find : (sp : Spelling) (s : Step) → IsSpelled sp t s → (lo hi k : ℕ) × (value : Option Range) × (s ≡ FoundStep lo hi k value) × (value ≡ range_told t.what)
  its_find sp s told = of_outcome (step.its sp (s ∷ []) (told, tt))
    where
      looked : (o : Outcome) → s ≡ step_at_place place o → IsOutcomeOf (Look (find_at at scan.max)) o → (lo hi k : ℕ) × (value : Option Range) × (s ≡ FoundStep lo hi k value) × (value ≡ range_told t.what)
      looked (Called n c r) is h = absurd h
      looked (Looked lo hi k q value) is h =
          let same : s ≡ FoundStep lo hi k value = is ∙ ap (λ q. step_at_place place (Looked lo hi k q value)) h in
          (lo, hi, k, value, same, value_told sp t.what at scan.max lo hi k value (subst (λ (x : Step). IsSpelledOf sp t.what x.outcome) same told.outcome))
      looked (Counted f ranges) is h = absurd h

      of_outcome : IsStepAt place (Look (find_at at scan.max)) (s ∷ []) → (lo hi k : ℕ) × (value : Option Range) × (s ≡ FoundStep lo hi k value) × (value ≡ range_told t.what)
      of_outcome h = let is : s ≡ step_at_place place h.0 = ap (λ (ss : List Step). first_or s ss) h.1 in looked h.0 is h.2
        where
          first_or : Step → List Step → Step
          first_or d [] = d
          first_or d (x ∷ xs) = x

  -- behind a range the scan goes on
  module _ (r : Range) (found : range_told t.what ≡ Some r) where
    goes_on : (value : Option Range) (others : List Step) → value ≡ range_told t.what → ScanGoesOnFrom (IsScanFrom place scan count) scan.max value others → IsScanFrom place scan count (place_after scan.max r) others
    goes_on value others is goes = subst (λ (v : Option Range). ScanGoesOnFrom (IsScanFrom place scan count) scan.max v others) (is ∙ found) goes

    pub no_more : TellsNotDone (IsScanFrom place scan count (place_after scan.max r)) mid → TellsNotDone (IsScanFrom place scan (suc count) at) text
    no_more none sp steps after h small other =
        let first = first_told sp h.0 h.1 h.2 h.3 h.4 steps after h.5 small other in
        let others : AllFit sp h.4 = All-tail (λ (s : Step). FitsLine sp s.outcome) (FoundStep h.0 h.1 h.2 h.3) h.4 (subst (AllFit sp) h.5 small) in
        none sp h.4 after (goes_on h.3 h.4 first.found h.6) others first.behind

    module _ (more : List ToldLine) (end : List ℕ) (tail : TellsDone (IsScanFrom place scan count (place_after scan.max r)) mid more end) where
      only_more : (sp : Spelling) (steps : List Step) (after : List ℕ) → IsScanFrom place scan (suc count) at steps → AllFit sp steps → text ≡ steps_text sp steps ++ after → AreSpelled sp (t ∷ more) steps × (end ≡ after)
      only_more sp steps after h small other =
          let first = first_told sp h.0 h.1 h.2 h.3 h.4 steps after h.5 small other in
          let others : AllFit sp h.4 = All-tail (λ (s : Step). FitsLine sp s.outcome) (FoundStep h.0 h.1 h.2 h.3) h.4 (subst (AllFit sp) h.5 small) in
          let rest = tail.only sp h.4 after (goes_on h.3 h.4 first.found h.6) others first.behind in
          (subst (AreSpelled sp (t ∷ more)) (sym h.5) (first.told, rest.0), rest.1)

      its_more : (sp : Spelling) (steps : List Step) → AreSpelled sp (t ∷ more) steps → IsScanFrom place scan (suc count) at steps
      its_more sp [] told = absurd told
      its_more sp (s ∷ steps) told =
          let find = its_find sp s told.0 in
          let goes = subst (λ (v : Option Range). ScanGoesOnFrom (IsScanFrom place scan count) scan.max v steps) (sym (find.5 ∙ found)) (tail.its sp steps told.1) in
          (find.0, find.1, find.2, find.3, steps, ap (λ (x : Step). x ∷ steps) find.4, goes)

      printed_more : (sp : Spelling) (steps : List Step) → AreSpelled sp (t ∷ more) steps → text ≡ steps_text sp steps ++ end
      printed_more sp [] told = absurd told
      printed_more sp (s ∷ steps) told =
          step.printed sp (s ∷ []) (told.0, tt)
          ∙ (ap (λ (m : List ℕ). steps_text sp (s ∷ []) ++ m) (tail.printed sp steps told.1)
          ∙ sym (steps_text-append sp (s ∷ []) steps end))

      written_more : text ≡ flat_map told_text (t ∷ more) ++ end
      written_more = step.written ∙ (ap (λ (m : List ℕ). flat_map told_text (t ∷ []) ++ m) tail.written ∙ sym (told_text-append (t ∷ []) more end))

      pub scan_more : TellsDone (IsScanFrom place scan (suc count) at) text (t ∷ more) end
      scan_more = record { only = only_more; its = its_more; printed = printed_more; written = written_more; shorter = omega (arith, step.shorter, tail.shorter) }

  -- behind nothing it ends
  module _ (found : range_told t.what ≡ None) where
    ends : (value : Option Range) (others : List Step) → value ≡ range_told t.what → ScanGoesOnFrom (IsScanFrom place scan count) scan.max value others → others ≡ []
    ends value others is goes = subst (λ (v : Option Range). ScanGoesOnFrom (IsScanFrom place scan count) scan.max v others) (is ∙ found) goes

    only_end : (sp : Spelling) (steps : List Step) (after : List ℕ) → IsScanFrom place scan (suc count) at steps → AllFit sp steps → text ≡ steps_text sp steps ++ after → AreSpelled sp (t ∷ []) steps × (mid ≡ after)
    only_end sp steps after h small other =
        let first = first_told sp h.0 h.1 h.2 h.3 h.4 steps after h.5 small other in
        let none : h.4 ≡ [] = ends h.3 h.4 first.found h.6 in
        let is : steps ≡ FoundStep h.0 h.1 h.2 h.3 ∷ [] = h.5 ∙ ap (λ (ss : List Step). FoundStep h.0 h.1 h.2 h.3 ∷ ss) none in
        (subst (AreSpelled sp (t ∷ [])) (sym is) (first.told, tt), first.behind ∙ ap (λ (ss : List Step). steps_text sp ss ++ after) none)

    its_end : (sp : Spelling) (steps : List Step) → AreSpelled sp (t ∷ []) steps → IsScanFrom place scan (suc count) at steps
    its_end sp [] told = absurd told
    its_end sp (s ∷ other ∷ steps) told = absurd told.1
    its_end sp (s ∷ []) told =
        let find = its_find sp s told.0 in
        let goes = subst (λ (v : Option Range). ScanGoesOnFrom (IsScanFrom place scan count) scan.max v []) (sym (find.5 ∙ found)) refl in
        (find.0, find.1, find.2, find.3, [], ap (λ (x : Step). x ∷ []) find.4, goes)

    pub scan_end : TellsDone (IsScanFrom place scan (suc count) at) text (t ∷ []) mid
    scan_end = record { only = only_end; its = its_end; printed = step.printed; written = step.written; shorter = step.shorter }

pub no_first : (place : LinePlace) (scan : Stretch) (count : ℕ) (at : Option ℕ) (text : List ℕ) → TellsNotDone (IsStepAt place (Look (find_at at scan.max))) text → TellsNotDone (IsScanFrom place scan (suc count) at) text
no_first place scan count at text none sp steps after h small other =
    let o = Looked h.0 h.1 h.2 (find_at at scan.max) h.3 in
    let all : AllFit sp (step_at_place place o ∷ h.4) = subst (AllFit sp) h.5 small in
    let one = All-push (λ (s : Step). FitsLine sp s.outcome) [] (step_at_place place o) (All-nil (λ (s : Step). FitsLine sp s.outcome)) (All-head (λ (s : Step). FitsLine sp s.outcome) (step_at_place place o) h.4 all) in
    none sp (step_at_place place o ∷ []) (steps_text sp h.4 ++ after) (o, refl, refl) one
    (other ∙ (ap (λ (ss : List Step). steps_text sp ss ++ after) h.5 ∙ steps_text-append sp (step_at_place place o ∷ []) h.4 after))

-- ---- so far

-- Some steps of the scan are read, and these are told; what the text goes on with, if it is the rest of the scan, is the scan's
-- with what was told before it, and if it is not, the text tells of no scan.
pub record ScanGoesOn (place : LinePlace) (scan : Stretch) (text rest : List ℕ) (old new : List ToldLine) (at : Option ℕ) (i : ℕ) : Type 0 where
  pub left : ℕ
  pub sum : i + left ≡ scan.count
  pub mine : List ToldLine
  pub whole : new ≡ old ++ mine
  pub placed : All (IsToldAt place) mine
  pub some : (more : List ToldLine) (end : List ℕ) → TellsDone (IsScanFrom place scan left at) rest more end → TellsDone (IsScanAt place scan) text (mine ++ more) end
  pub none : TellsNotDone (IsScanFrom place scan left at) rest → TellsNotDone (IsScanAt place scan) text

pub scan_begins : (place : LinePlace) (scan : Stretch) (text : List ℕ) (old : List ToldLine) → ScanGoesOn place scan text text old old (place_within scan.index scan.max) 0
scan_begins place scan text old = record {
  left = scan.count;
  sum = omega arith;
  mine = [];
  whole = sym (append-nil old);
  placed = All-nil (IsToldAt place);
  some = λ more end h. h;
  none = λ h. h;
}

module _ (place : LinePlace) (scan : Stretch) (text rest : List ℕ) (old new : List ToldLine) (at : Option ℕ) (i : ℕ) (so_far : ScanGoesOn place scan text rest old new at i) where
  -- at the end so many steps were told
  pub all_told : scan.count ≤ i → AddsTold (IsScanAt place scan) (IsToldAt place) text old new rest
  all_told past =
      let over : so_far.left ≡ 0 = omega (arith, so_far.sum) in
      record {
        mine = so_far.mine;
        whole = so_far.whole;
        told = subst (λ (ts : List ToldLine). TellsDone (IsScanAt place scan) text ts rest) (append-nil so_far.mine) (so_far.some [] rest (subst (λ (n : ℕ). TellsDone (IsScanFrom place scan n at) rest [] rest) (sym over) (nothing_told rest)));
        placed = so_far.placed;
      }

  -- one more is left
  record OneMore : Type 0 where
    left : ℕ
    is : so_far.left ≡ suc left
    sum : (i + 1) + left ≡ scan.count

  one_more : i < scan.count → OneMore
  one_more below = of_left so_far.left so_far.sum refl
    where
      of_left : (n : ℕ) → i + n ≡ scan.count → so_far.left ≡ n → OneMore
      of_left zero sum is = absurd (omega (arith, sum, below))
      of_left (suc n) sum is = record { left = n; is = is; sum = omega (arith, sum) }

  module _ (below : i < scan.count) where
    from_left : (n : ℕ) → so_far.left ≡ suc n → (more : List ToldLine) (end : List ℕ) → TellsDone (IsScanFrom place scan (suc n) at) rest more end → TellsDone (IsScanAt place scan) text (so_far.mine ++ more) end
    from_left n is more end h = so_far.some more end (subst (λ (m : ℕ). TellsDone (IsScanFrom place scan m at) rest more end) (sym is) h)

    none_left : (n : ℕ) → so_far.left ≡ suc n → TellsNotDone (IsScanFrom place scan (suc n) at) rest → TellsNotDone (IsScanAt place scan) text
    none_left n is h = so_far.none (subst (λ (m : ℕ). TellsNotDone (IsScanFrom place scan m at) rest) (sym is) h)

    pub stops : TellsNotDone (IsStepAt place (Look (find_at at scan.max))) rest → TellsNotDone (IsScanAt place scan) text
    stops none = let one = one_more below in none_left one.left one.is (no_first place scan one.left at rest none)

    module _ (t : ToldLine) (mid : List ℕ) (step : TellsStepAt place (Look (find_at at scan.max)) rest t mid) where
      pushed : new ++ t ∷ [] ≡ old ++ (so_far.mine ++ t ∷ [])
      pushed = ap (λ (ts : List ToldLine). ts ++ t ∷ []) so_far.whole ∙ append_assoc old so_far.mine (t ∷ [])

      pub last_told : range_told t.what ≡ None → AddsTold (IsScanAt place scan) (IsToldAt place) text old (new ++ t ∷ []) mid
      last_told found =
          let one = one_more below in
          record {
            mine = so_far.mine ++ t ∷ [];
            whole = pushed;
            told = from_left one.left one.is (t ∷ []) mid (scan_end place scan one.left at rest mid t step.told found);
            placed = All-push (IsToldAt place) so_far.mine t so_far.placed step.stands;
          }

      pub goes_on_behind : (r : Range) → range_told t.what ≡ Some r → ScanGoesOn place scan text mid old (new ++ t ∷ []) (place_after scan.max r) (i + 1)
      goes_on_behind r found =
          let one = one_more below in
          record {
            left = one.left;
            sum = one.sum;
            mine = so_far.mine ++ t ∷ [];
            whole = pushed;
            placed = All-push (IsToldAt place) so_far.mine t so_far.placed step.stands;
            some = λ more end h. subst (λ (ts : List ToldLine). TellsDone (IsScanAt place scan) text ts end) (sym (append_assoc so_far.mine (t ∷ []) more))
                (from_left one.left one.is (t ∷ more) end (scan_more place scan one.left at rest mid t step.told r found more end h));
            none = λ h. none_left one.left one.is (no_more place scan one.left at rest mid t step.told r found h);
          }
