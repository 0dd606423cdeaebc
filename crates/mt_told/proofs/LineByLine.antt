-- What a text tells, line of the log by line.
use Rattle.mt_told.proofs.Prelude.{◌≡◌, ℕ, ◌+◌, ◌<◌, ◌≤◌, Bool, true, false, cond, List, [], ◌∷◌, ◌++◌, length, length-append, get_or, drop, append_assoc, map, refl, sym, ap, ◌∙◌, subst, inl, inr, arith, ◌-◌, cases_lt, All, AllPairs, flat_map, option_to_list, append-nil, drop_all, drop_more, get_or_append_left, get_or-append-add, get_or-append_right, length-map, All-append, All-cons, All-get_or, All-nil, All-weaker, slice_get_cases, Call, Query, Item, Tree, Lane, Join, Dup, Check, Write, Ask, Scan, Line, Log, phase_after, AreDone, Asked, Called, Counted, IsDone, Looked, Outcome, Step, asked_from, is_answered, lane_after, lane_of, step_of, steps_of, AreNamedFrom, CopyOf, Declared, IsReadable, NamesBelow, count_after, declared_by, renamed, trees_from, trees_of, IsLaneLineDone, IsPlacedBy, IsScanAt, AddsTold, AllFit, IsOutcomeOf, IsStepAt, IsToldAt, TellsDone, TellsNotDone, steps_text, AreSpelled, FitsLine, HasForm, IsToldBy, Spelling, TellsNone, told_text, LinePlace, ToldLine, most_lanes}
use Rattle.mt_log.specs.declared.transcripts.Said.TheVariants as said
use Rattle.mt_told.proofs.Stepped.{nothing_told, steps_text-append, told_text-append}
use Rattle.mt_told.specs.declared.steps.Deed.TheVariants as deeds

-- ---- steps that are done so, and so

tells_so : (D E : List Step → Type 0) (text rest : List ℕ) (told : List ToldLine) → ((steps : List Step) → D steps → E steps) → ((steps : List Step) → E steps → D steps) → TellsDone D text told rest → TellsDone E text told rest
tells_so D E text rest told to from h =
    record {
      only = λ sp steps after done small is. h.only sp steps after (from steps done) small is;
      its = λ sp steps so. to steps (h.its sp steps so);
      printed = h.printed;
      written = h.written;
      shorter = h.shorter;
    }

tells_not_so : (D E : List Step → Type 0) (text : List ℕ) → ((steps : List Step) → E steps → D steps) → TellsNotDone D text → TellsNotDone E text
tells_not_so D E text from none sp steps after done small is = none sp steps after (from steps done) small is

-- these steps, and behind them those
abbrev Both : (List Step → Type 0) → (List Step → Type 0) → List Step → Type 0
Both D E steps = (first second : List Step) × (steps ≡ first ++ second) × D first × E second

-- ---- lists of steps

told-append : (sp : Spelling) (mine more : List ToldLine) (first second : List Step) → AreSpelled sp mine first → AreSpelled sp more second → AreSpelled sp (mine ++ more) (first ++ second)
told-append sp [] more [] second h k = k
told-append sp [] more (s ∷ first) second h k = absurd h
told-append sp (t ∷ mine) more [] second h k = absurd h
told-append sp (t ∷ mine) more (s ∷ first) second h k = (h.0, told-append sp mine more first second h.1 k)

told_parts : (sp : Spelling) (mine more : List ToldLine) (steps : List Step) → AreSpelled sp (mine ++ more) steps → Both (AreSpelled sp mine) (AreSpelled sp more) steps
told_parts sp [] more steps h = ([], steps, refl, tt, h)
told_parts sp (t ∷ mine) more [] h = absurd h
told_parts sp (t ∷ mine) more (s ∷ steps) h =
    let rest = told_parts sp mine more steps h.1 in
    (s ∷ rest.0, rest.1, ap (λ (ss : List Step). s ∷ ss) rest.2, (h.0, rest.3), rest.4)

small_first : (sp : Spelling) (first second : List Step) → AllFit sp (first ++ second) → AllFit sp first
small_first sp first second h k d within = subst (λ (s : Step). FitsLine sp s.outcome) (get_or_append_left first second d k within) (h k d (omega (arith, length-append first second, within)))

small_second : (sp : Spelling) (first second : List Step) → AllFit sp (first ++ second) → AllFit sp second
small_second sp first second h k d within = subst (λ (s : Step). FitsLine sp s.outcome) (get_or-append-add first second k d) (h (length first + k) d (omega (arith, length-append first second, within)))

-- ---- one behind the other

module _ (D E : List Step → Type 0) (text mid : List ℕ) (mine : List ToldLine) (first : TellsDone D text mine mid) where
  -- the first of them are told, and the text goes on with the second
  record FirstPart (sp : Spelling) (ones others : List Step) (after : List ℕ) : Type 0 where
    told : AreSpelled sp mine ones
    behind : mid ≡ steps_text sp others ++ after

  first_part : (sp : Spelling) (steps ones others : List Step) (after : List ℕ) → steps ≡ ones ++ others → D ones → AllFit sp steps → text ≡ steps_text sp steps ++ after → FirstPart sp ones others after
  first_part sp steps ones others after is done small whole =
      let all : AllFit sp (ones ++ others) = subst (AllFit sp) is small in
      let one = first.only sp ones (steps_text sp others ++ after) done (small_first sp ones others all)
      (whole ∙ (ap (λ (ss : List Step). steps_text sp ss ++ after) is ∙ steps_text-append sp ones others after)) in
      record { told = one.0; behind = one.1 }

  pub not_second : TellsNotDone E mid → TellsNotDone (Both D E) text
  not_second none sp steps after h small whole =
      let part = first_part sp steps h.0 h.1 after h.2 h.3 small whole in
      none sp h.1 after h.4 (small_second sp h.0 h.1 (subst (AllFit sp) h.2 small)) part.behind

  module _ (end : List ℕ) (more : List ToldLine) (second : TellsDone E mid more end) where
    only_both : (sp : Spelling) (steps : List Step) (after : List ℕ) → Both D E steps → AllFit sp steps → text ≡ steps_text sp steps ++ after → AreSpelled sp (mine ++ more) steps × (end ≡ after)
    only_both sp steps after h small whole =
        let part = first_part sp steps h.0 h.1 after h.2 h.3 small whole in
        let rest = second.only sp h.1 after h.4 (small_second sp h.0 h.1 (subst (AllFit sp) h.2 small)) part.behind in
        (subst (AreSpelled sp (mine ++ more)) (sym h.2) (told-append sp mine more h.0 h.1 part.told rest.0), rest.1)

    its_both : (sp : Spelling) (steps : List Step) → AreSpelled sp (mine ++ more) steps → Both D E steps
    its_both sp steps told =
        let parts = told_parts sp mine more steps told in
        (parts.0, parts.1, parts.2, first.its sp parts.0 parts.3, second.its sp parts.1 parts.4)

    printed_both : (sp : Spelling) (steps : List Step) → AreSpelled sp (mine ++ more) steps → text ≡ steps_text sp steps ++ end
    printed_both sp steps told =
        let parts = told_parts sp mine more steps told in
        first.printed sp parts.0 parts.3
        ∙ (ap (λ (t : List ℕ). steps_text sp parts.0 ++ t) (second.printed sp parts.1 parts.4)
        ∙ (sym (steps_text-append sp parts.0 parts.1 end) ∙ ap (λ (ss : List Step). steps_text sp ss ++ end) (sym parts.2)))

    pub both_told : TellsDone (Both D E) text (mine ++ more) end
    both_told = record { only = only_both; its = its_both; printed = printed_both; written = first.written ∙ (ap (λ (m : List ℕ). flat_map told_text mine ++ m) second.written ∙ sym (told_text-append mine more end)); shorter = omega (arith, length-append mine more, first.shorter, second.shorter) }

not_first : (D E : List Step → Type 0) (text : List ℕ) → TellsNotDone D text → TellsNotDone (Both D E) text
not_first D E text none sp steps after h small whole =
    none sp h.0 (steps_text sp h.1 ++ after) h.3 (small_first sp h.0 h.1 (subst (AllFit sp) h.2 small))
    (whole ∙ (ap (λ (ss : List Step). steps_text sp ss ++ after) h.2 ∙ steps_text-append sp h.0 h.1 after))

-- ---- what came of lines, one behind the other

done_parts : (xs ys : List Asked) (steps : List Step) → AreDone (xs ++ ys) steps → Both (AreDone xs) (AreDone ys) steps
done_parts [] ys steps h = ([], steps, refl, refl, h)
done_parts (x ∷ xs) ys steps h =
    let rest = done_parts xs ys h.1 h.4 in
    (h.0 ++ rest.0, rest.1, h.2 ∙ (ap (λ (ss : List Step). h.0 ++ ss) rest.2 ∙ sym (append_assoc h.0 rest.0 rest.1)), (h.0, rest.0, refl, h.3, rest.3), rest.4)

done_both : (xs ys : List Asked) (first second : List Step) → AreDone xs first → AreDone ys second → AreDone (xs ++ ys) (first ++ second)
done_both [] ys first second h k = subst (AreDone ys) (ap (λ (ss : List Step). ss ++ second) (sym h)) k
done_both (x ∷ xs) ys first second h k =
    (h.0, h.1 ++ second, ap (λ (ss : List Step). ss ++ second) h.2 ∙ append_assoc h.0 h.1 second, h.3, done_both xs ys h.1 second h.4 k)

from_both : (xs ys : List Asked) (steps : List Step) → Both (AreDone xs) (AreDone ys) steps → AreDone (xs ++ ys) steps
from_both xs ys steps h = subst (AreDone (xs ++ ys)) (sym h.2) (done_both xs ys h.0 h.1 h.3 h.4)

-- the lines that are answered are those of the first line and those of the others
asked_more : (lane phase : ℕ) (line : Line) (lines : List Line) → asked_from lane phase (line ∷ lines) ≡ asked_from lane phase (line ∷ []) ++ asked_from (lane_after lane line.item) (phase_after phase line.item) lines
asked_more lane phase line lines = of_test (is_answered line.item) (record { line = line.number; lane = lane_of lane line.item; phase = phase; item = line.item }) (asked_from (lane_after lane line.item) (phase_after phase line.item) lines)
  where
    of_test : (b : Bool) (a : Asked) (rest : List Asked) → cond b (a ∷ rest) rest ≡ cond b (a ∷ []) [] ++ rest
    of_test true a rest = refl
    of_test false a rest = refl

-- ---- one line

one_done : (a : Asked) (steps : List Step) → AreDone (a ∷ []) steps → IsDone a a.item steps
one_done a steps h = subst (IsDone a a.item) (sym (h.2 ∙ (ap (λ (ss : List Step). h.0 ++ ss) h.4 ∙ append-nil h.0))) h.3

done_one : (a : Asked) (steps : List Step) → IsDone a a.item steps → AreDone (a ∷ []) steps
done_one a steps h = (steps, [], sym (append-nil steps), h, refl)

call_done : (a : Asked) (tree : ℕ) (call : Call) (steps : List Step) → IsStepAt (record { line = a.line; lane = a.lane; phase = a.phase; tree = tree }) (deeds.Call call) steps → IsDone a (Write tree call) steps
call_done a tree call steps h = of_outcome h.0 h.1 h.2
  where
    of_outcome : (o : Outcome) → steps ≡ step_of a tree o ∷ [] → IsOutcomeOf (deeds.Call call) o → IsDone a (Write tree call) steps
    of_outcome (Called n c r) is same = (n, r, is ∙ ap (λ c. step_of a tree (Called n c r) ∷ []) same)
    of_outcome (Looked lo hi k q v) is h = absurd h
    of_outcome (Counted s ranges) is h = absurd h

look_done : (a : Asked) (tree : ℕ) (query : Query) (steps : List Step) → IsStepAt (record { line = a.line; lane = a.lane; phase = a.phase; tree = tree }) (deeds.Look query) steps → IsDone a (Ask tree query) steps
look_done a tree query steps h = of_outcome h.0 h.1 h.2
  where
    of_outcome : (o : Outcome) → steps ≡ step_of a tree o ∷ [] → IsOutcomeOf (deeds.Look query) o → IsDone a (Ask tree query) steps
    of_outcome (Called n c r) is h = absurd h
    of_outcome (Looked lo hi k q v) is same = (lo, hi, k, v, is ∙ ap (λ q. step_of a tree (Looked lo hi k q v) ∷ []) same)
    of_outcome (Counted s ranges) is h = absurd h

copy_done : (a : Asked) (tree : ℕ) (name : List ℕ) (steps : List Step) → IsStepAt (record { line = a.line; lane = a.lane; phase = a.phase; tree = tree }) deeds.Copy steps → IsDone a (Dup tree name) steps
copy_done a tree name steps h = of_outcome h.0 h.1 h.2
  where
    of_outcome : (o : Outcome) → steps ≡ step_of a tree o ∷ [] → IsOutcomeOf deeds.Copy o → IsDone a (Dup tree name) steps
    of_outcome (Called n c r) is h = absurd h
    of_outcome (Looked lo hi k q v) is h = absurd h
    of_outcome (Counted s ranges) is same = (ranges, is ∙ ap (λ s. step_of a tree (Counted s ranges) ∷ []) same)

check_done : (a : Asked) (tree : ℕ) (steps : List Step) → IsStepAt (record { line = a.line; lane = a.lane; phase = a.phase; tree = tree }) deeds.Check steps → IsDone a (Check tree) steps
check_done a tree steps h = of_outcome h.0 h.1 h.2
  where
    of_outcome : (o : Outcome) → steps ≡ step_of a tree o ∷ [] → IsOutcomeOf deeds.Check o → IsDone a (Check tree) steps
    of_outcome (Called n c r) is h = absurd h
    of_outcome (Looked lo hi k q v) is h = absurd h
    of_outcome (Counted s ranges) is same = (ranges, is ∙ ap (λ s. step_of a tree (Counted s ranges) ∷ []) same)

adds_so : (D E : List Step → Type 0) (P Q : ToldLine → Type 0) (text rest : List ℕ) (old new : List ToldLine) → ((steps : List Step) → D steps → E steps) → ((steps : List Step) → E steps → D steps) → ((t : ToldLine) → P t → Q t) → AddsTold D P text old new rest → AddsTold E Q text old new rest
adds_so D E P Q text rest old new to from placed h =
    record { mine = h.mine; whole = h.whole; told = tells_so D E text rest h.mine to from h.told; placed = All-weaker P Q placed h.mine h.placed }

-- what is told of a line that is answered by steps at one place
module _ (lane phase number tree : ℕ) (item : Item) (answered : is_answered item ≡ true) (names : (count : ℕ) → NamesBelow count item → tree < count) (D : List Step → Type 0) where
  abbrev asked : Asked
  asked = record { line = number; lane = lane_of lane item; phase = phase; item = item }

  abbrev here : LinePlace
  here = record { line = number; lane = lane_of lane item; phase = phase; tree = tree }

  abbrev line : Line
  line = record { number = number; item = item }

  only_asked : asked_from lane phase (line ∷ []) ≡ asked ∷ []
  only_asked = ap (λ (b : Bool). cond b (asked ∷ []) []) answered

  stands_so : (t : ToldLine) → IsToldAt here t → IsPlacedBy lane phase line t
  stands_so t h = record { form = h.form; done_in = h.lane; done_at = h.phase; done_on = λ count named. subst (λ (n : ℕ). n < count) (sym h.tree) (names count named) }

  pub line_added : ((steps : List Step) → D steps → IsDone asked item steps) → ((steps : List Step) → IsDone asked item steps → D steps) → (text rest : List ℕ) (old new : List ToldLine) → AddsTold D (IsToldAt here) text old new rest → AddsTold (IsLaneLineDone lane phase line) (IsPlacedBy lane phase line) text old new rest
  line_added to from text rest old new h =
      adds_so D (IsLaneLineDone lane phase line) (IsToldAt here) (IsPlacedBy lane phase line) text rest old new
      (λ steps d. subst (λ (xs : List Asked). AreDone xs steps) (sym only_asked) (done_one asked steps (to steps d)))
      (λ steps d. from steps (one_done asked steps (subst (λ (xs : List Asked). AreDone xs steps) only_asked d)))
      stands_so h

-- a line that is not answered
pub quiet_line : (lane phase : ℕ) (line : Line) (text : List ℕ) (old : List ToldLine) → is_answered line.item ≡ false → AddsTold (IsLaneLineDone lane phase line) (IsPlacedBy lane phase line) text old old text
quiet_line lane phase line text old quiet =
    record {
      mine = [];
      whole = sym (append-nil old);
      told = subst (λ (xs : List Asked). TellsDone (AreDone xs) text [] text) (sym none_asked) (nothing_told text);
      placed = All-nil (IsPlacedBy lane phase line);
    }
  where
    none_asked : asked_from lane phase (line ∷ []) ≡ []
    none_asked = ap (λ (b : Bool). cond b (record { line = line.number; lane = lane_of lane line.item; phase = phase; item = line.item } ∷ []) []) quiet

abbrev at_place : ℕ → ℕ → ℕ → ℕ → LinePlace
at_place number lane phase tree = record { line = number; lane = lane; phase = phase; tree = tree }

abbrev asked_so : ℕ → ℕ → ℕ → Item → Asked
asked_so number lane phase item = record { line = number; lane = lane_of lane item; phase = phase; item = item }

-- the line says this
abbrev LineAdds : ℕ → ℕ → ℕ → List ℕ → List ℕ → List ToldLine → List ToldLine → Item → Type 0
LineAdds lane phase number text rest old new item = AddsTold (IsLaneLineDone lane phase (record { number = number; item = item })) (IsPlacedBy lane phase (record { number = number; item = item })) text old new rest

module _ (lane phase : ℕ) (line : Line) (text rest : List ℕ) (old new : List ToldLine) where
  is_line : (item : Item) → line.item ≡ item → LineAdds lane phase line.number text rest old new item → LineAdds lane phase line.number text rest old new line.item
  is_line item is h = subst (LineAdds lane phase line.number text rest old new) (sym is) h

  pub call_line : (tree : ℕ) (call : Call) → line.item ≡ Write tree call → (place : LinePlace) → place ≡ at_place line.number lane phase tree → AddsTold (IsStepAt place (deeds.Call call)) (IsToldAt place) text old new rest → AddsTold (IsLaneLineDone lane phase line) (IsPlacedBy lane phase line) text old new rest
  call_line tree call is place there h =
      is_line (Write tree call) is (line_added lane phase line.number tree (Write tree call) refl (λ count named. named) (IsStepAt (at_place line.number lane phase tree) (deeds.Call call))
      (call_done (asked_so line.number lane phase (Write tree call)) tree call) (λ steps d. (Called d.0 call d.1, d.2, refl)) text rest old new (subst (λ (p : LinePlace). AddsTold (IsStepAt p (deeds.Call call)) (IsToldAt p) text old new rest) there h))

  pub look_line : (tree : ℕ) (query : Query) → line.item ≡ Ask tree query → (place : LinePlace) → place ≡ at_place line.number lane phase tree → AddsTold (IsStepAt place (deeds.Look query)) (IsToldAt place) text old new rest → AddsTold (IsLaneLineDone lane phase line) (IsPlacedBy lane phase line) text old new rest
  look_line tree query is place there h =
      is_line (Ask tree query) is (line_added lane phase line.number tree (Ask tree query) refl (λ count named. named) (IsStepAt (at_place line.number lane phase tree) (deeds.Look query))
      (look_done (asked_so line.number lane phase (Ask tree query)) tree query) (λ steps d. (Looked d.0 d.1 d.2 query d.3, d.4, refl)) text rest old new (subst (λ (p : LinePlace). AddsTold (IsStepAt p (deeds.Look query)) (IsToldAt p) text old new rest) there h))

  pub copy_line : (tree : ℕ) (name : List ℕ) → line.item ≡ Dup tree name → (place : LinePlace) → place ≡ at_place line.number 0 phase tree → AddsTold (IsStepAt place deeds.Copy) (IsToldAt place) text old new rest → AddsTold (IsLaneLineDone lane phase line) (IsPlacedBy lane phase line) text old new rest
  copy_line tree name is place there h =
      is_line (Dup tree name) is (line_added lane phase line.number tree (Dup tree name) refl (λ count named. named) (IsStepAt (at_place line.number 0 phase tree) deeds.Copy)
      (copy_done (asked_so line.number lane phase (Dup tree name)) tree name) (λ steps d. (Counted said.Copied d.0, d.1, refl)) text rest old new (subst (λ (p : LinePlace). AddsTold (IsStepAt p deeds.Copy) (IsToldAt p) text old new rest) there h))

  pub check_line : (tree : ℕ) → line.item ≡ Check tree → (place : LinePlace) → place ≡ at_place line.number 0 phase tree → AddsTold (IsStepAt place deeds.Check) (IsToldAt place) text old new rest → AddsTold (IsLaneLineDone lane phase line) (IsPlacedBy lane phase line) text old new rest
  check_line tree is place there h =
      is_line (Check tree) is (line_added lane phase line.number tree (Check tree) refl (λ count named. named) (IsStepAt (at_place line.number 0 phase tree) deeds.Check)
      (check_done (asked_so line.number lane phase (Check tree)) tree) (λ steps d. (Counted said.Lawful d.0, d.1, refl)) text rest old new (subst (λ (p : LinePlace). AddsTold (IsStepAt p deeds.Check) (IsToldAt p) text old new rest) there h))

  pub scan_line : (tree index max count : ℕ) → line.item ≡ Scan tree index max count → (place : LinePlace) → place ≡ at_place line.number lane phase tree → AddsTold (IsScanAt place (record { index = index; max = max; count = count })) (IsToldAt place) text old new rest → AddsTold (IsLaneLineDone lane phase line) (IsPlacedBy lane phase line) text old new rest
  scan_line tree index max count is place there h =
      is_line (Scan tree index max count) is (line_added lane phase line.number tree (Scan tree index max count) refl (λ count named. named) (IsScanAt (at_place line.number lane phase tree) (record { index = index; max = max; count = count }))
      (λ steps d. d) (λ steps d. d) text rest old new (subst (λ (p : LinePlace). AddsTold (IsScanAt p (record { index = index; max = max; count = count })) (IsToldAt p) text old new rest) there h))

-- ---- the trees and lanes that lines name

-- a line that names trees below a count names them below a greater one
names_more : (count more : ℕ) (item : Item) → count ≤ more → NamesBelow count item → NamesBelow more item
names_more count more (Tree name kind) le h = tt
names_more count more (Lane lane) le h = h
names_more count more Join le h = tt
names_more count more (Dup from name) le h = omega arith
names_more count more (Check tree) le h = omega arith
names_more count more (Write tree call) le h = omega arith
names_more count more (Ask tree query) le h = omega arith
names_more count more (Scan tree index max steps) le h = omega arith

-- no more trees are counted behind a line than are declared
counts_declared : (trees : List Declared) (phase : ℕ) (item : Item) → NamesBelow (length trees) item → count_after (length trees) item ≤ length (trees ++ option_to_list (declared_by trees phase item))
counts_declared trees phase (Tree name kind) h = omega (arith, length-append trees (option_to_list (declared_by trees phase (Tree name kind))))
counts_declared trees phase (Dup from name) h =
    let known = map (λ (d : Declared). d.tree) trees in
    elim (slice_get_cases known from).1 [
      | inl found ↦ rw found.2 (omega (arith, length-append trees (record { tree = renamed name found.0; opening = CopyOf from phase } ∷ [])))
      | inr past ↦ absurd (omega (arith, past.0, h, length-map trees (λ (d : Declared). d.tree)))
    ]
counts_declared trees phase item h = omega (arith, length-append trees [])

declared_more : (trees : List Declared) (phase : ℕ) (lines : List Line) → length trees ≤ length (trees_from trees phase lines)
declared_more trees phase [] = omega arith
declared_more trees phase (line ∷ lines) =
    omega (arith, length-append trees (option_to_list (declared_by trees phase line.item)), declared_more (trees ++ option_to_list (declared_by trees phase line.item)) (phase_after phase line.item) lines)

AreNamedFrom-more : (count more : ℕ) (lines : List Line) → count ≤ more → AreNamedFrom count lines → AreNamedFrom more lines
AreNamedFrom-more count more [] le h = tt
AreNamedFrom-more count more (line ∷ lines) le h = (names_more count more line.item le h.0, AreNamedFrom-more (count_after count line.item) (count_after more line.item) lines (after_more line.item) h.1)
  where
    after_more : (item : Item) → count_after count item ≤ count_after more item
    after_more (Tree name kind) = omega arith
    after_more (Dup from name) = omega arith
    after_more item = le

-- each line names trees that the log declares
names_declared : (trees : List Declared) (phase : ℕ) (lines : List Line) → AreNamedFrom (length trees) lines → All (λ line. NamesBelow (length (trees_from trees phase lines)) line.item) lines
names_declared trees phase [] h = All-nil (λ (line : Line). NamesBelow (length trees) line.item)
names_declared trees phase (line ∷ lines) h =
    let more : List Declared = trees ++ option_to_list (declared_by trees phase line.item) in
    let behind : ℕ = phase_after phase line.item in
    let named : AreNamedFrom (length more) lines = AreNamedFrom-more (count_after (length trees) line.item) (length more) lines (counts_declared trees phase line.item h.0) h.1 in
    let all : ℕ = length (trees_from more behind lines) in
    All-cons (λ (l : Line). NamesBelow all l.item) line lines
    (names_more (length trees) all line.item (omega (arith, declared_more trees phase (line ∷ lines))) h.0)
    (names_declared more behind lines named)

named_line : (lines : List Line) (i : ℕ) (line : Line) → IsReadable lines → i < length lines → line ≡ get_or lines i line → NamesBelow (length (trees_of lines)) line.item
named_line lines i line readable within is =
    subst (λ (l : Line). NamesBelow (length (trees_of lines)) l.item) (sym is) (All-get_or (λ (l : Line). NamesBelow (length (trees_of lines)) l.item) lines i line within (names_declared [] 0 lines readable.named))

-- the lane of a line, and of the line behind it, is one of those that there are
lane_there : (count lane : ℕ) (item : Item) → lane < most_lanes → NamesBelow count item → (lane_of lane item < most_lanes) × (lane_after lane item < most_lanes)
lane_there count lane (Lane other) below named = (below, named)
lane_there count lane Join below named = (below, omega arith)
lane_there count lane (Dup from name) below named = (omega arith, below)
lane_there count lane (Check tree) below named = (omega arith, below)
lane_there count lane item below named = (below, below)

phase_there : (phase : ℕ) (item : Item) → (phase ≤ phase_after phase item) × (phase_after phase item ≤ phase + 1)
phase_there phase Join = (omega arith, omega arith)
phase_there phase item = (omega arith, omega arith)

-- ---- phase by phase

all_pairs_append : (xs ys : List ToldLine) (phase : ℕ) → AllPairs (λ (s t : ToldLine). s.phase ≤ t.phase) xs → All (λ (s : ToldLine). s.phase ≤ phase) xs → All (λ (t : ToldLine). t.phase ≡ phase) ys → AllPairs (λ (s t : ToldLine). s.phase ≤ t.phase) (xs ++ ys)
all_pairs_append xs ys phase rises upto same i j d before within =
    let all : All (λ (s : ToldLine). s.phase ≤ phase) (xs ++ ys) = All-append (λ (s : ToldLine). s.phase ≤ phase) xs ys upto (All-weaker (λ (t : ToldLine). t.phase ≡ phase) (λ (t : ToldLine). t.phase ≤ phase) (λ t is. omega (arith, is)) ys same) in
    elim (cases_lt j (length xs)) [
      | inl low ↦ subst2 (get_or_append_left xs ys d i (omega arith)) (get_or_append_left xs ys d j low) (rises i j d before low)
      | inr high ↦
          (let is : (get_or (xs ++ ys) j d).phase ≡ phase = subst (λ (t : ToldLine). t.phase ≡ phase) (sym (get_or-append_right xs ys (length xs) j d refl high)) (same (j - length xs) d (omega (arith, length-append xs ys))) in
          omega (arith, is, all i d (omega arith)))
    ]
  where
    subst2 : {a b c e : ToldLine} → a ≡ b → c ≡ e → b.phase ≤ e.phase → a.phase ≤ c.phase
    subst2 ab ce h = omega (arith, ap (λ (t : ToldLine). t.phase) ab, ap (λ (t : ToldLine). t.phase) ce, h)

-- ---- so far

-- Some lines of the log are gone along, and these are told; what the text goes on with, if it is of the lines that are left, is of
-- all lines with what was told before it, and if it is not, the text tells of no steps of the log.
pub record LinesGoOn (lines : List Line) (text rest : List ℕ) (told : List ToldLine) (lane phase i : ℕ) : Type 0 where
  pub some : (more : List ToldLine) (end : List ℕ) → TellsDone (AreDone (asked_from lane phase (drop i lines))) rest more end → TellsDone (AreDone (steps_of lines)) text (told ++ more) end
  pub none : TellsNotDone (AreDone (asked_from lane phase (drop i lines))) rest → TellsNotDone (AreDone (steps_of lines)) text
  pub in_lane : lane < most_lanes
  pub in_phase : phase ≤ i
  pub form : All (λ (t : ToldLine). HasForm t.what) told
  pub trees : All (λ (t : ToldLine). t.tree < length (trees_of lines)) told
  pub lanes : All (λ (t : ToldLine). t.lane < most_lanes) told
  pub phases : AllPairs (λ (s t : ToldLine). s.phase ≤ t.phase) told
  pub upto : All (λ (t : ToldLine). t.phase ≤ phase) told

pub lines_begin : (lines : List Line) (text : List ℕ) → LinesGoOn lines text text [] 0 0 0
lines_begin lines text = record {
  some = λ more end h. h;
  none = λ h. h;
  in_lane = omega arith;
  in_phase = omega arith;
  form = All-nil (λ (t : ToldLine). HasForm t.what);
  trees = All-nil (λ (t : ToldLine). t.tree < length (trees_of lines));
  lanes = All-nil (λ (t : ToldLine). t.lane < most_lanes);
  phases = λ k j d before within. absurd (omega (arith, within));
  upto = All-nil (λ (t : ToldLine). t.phase ≤ 0);
}

module _ (lines : List Line) (text rest : List ℕ) (told : List ToldLine) (lane phase i : ℕ) (so_far : LinesGoOn lines text rest told lane phase i) where
  pub lines_end : length lines ≤ i → TellsDone (AreDone (steps_of lines)) text told rest
  lines_end past =
      let over : drop i lines ≡ [] = drop_all i lines past in
      subst (λ (ts : List ToldLine). TellsDone (AreDone (steps_of lines)) text ts rest) (append-nil told)
      (so_far.some [] rest (subst (λ (ls : List Line). TellsDone (AreDone (asked_from lane phase ls)) rest [] rest) (sym over) (nothing_told rest)))

  module _ (line : Line) (within : i < length lines) (is : line ≡ get_or lines i line) where
    abbrev lane' : ℕ
    lane' = lane_after lane line.item

    abbrev phase' : ℕ
    phase' = phase_after phase line.item

    abbrev Left : List Step → Type 0
    Left = AreDone (asked_from lane' phase' (drop (i + 1) lines))

    left : asked_from lane phase (drop i lines) ≡ asked_from lane phase (line ∷ []) ++ asked_from lane' phase' (drop (i + 1) lines)
    left =
        ap (asked_from lane phase) (drop_more lines i line within ∙ ap (λ (l : Line). l ∷ drop (i + 1) lines) (sym is))
        ∙ asked_more lane phase line (drop (i + 1) lines)

    left_done : (steps : List Step) → Both (IsLaneLineDone lane phase line) Left steps → AreDone (asked_from lane phase (drop i lines)) steps
    left_done steps h = subst (λ (xs : List Asked). AreDone xs steps) (sym left) (from_both (asked_from lane phase (line ∷ [])) (asked_from lane' phase' (drop (i + 1) lines)) steps h)

    done_left : (steps : List Step) → AreDone (asked_from lane phase (drop i lines)) steps → Both (IsLaneLineDone lane phase line) Left steps
    done_left steps h = done_parts (asked_from lane phase (line ∷ [])) (asked_from lane' phase' (drop (i + 1) lines)) steps (subst (λ (xs : List Asked). AreDone xs steps) left h)

    pub line_stops : TellsNotDone (IsLaneLineDone lane phase line) rest → TellsNotDone (AreDone (steps_of lines)) text
    line_stops none =
        so_far.none (tells_not_so (Both (IsLaneLineDone lane phase line) Left) (AreDone (asked_from lane phase (drop i lines))) rest done_left
        (not_first (IsLaneLineDone lane phase line) Left rest none))

    module _ (readable : IsReadable lines) (new : List ToldLine) (mid : List ℕ) (added : AddsTold (IsLaneLineDone lane phase line) (IsPlacedBy lane phase line) rest told new mid) where
      named : NamesBelow (length (trees_of lines)) line.item
      named = named_line lines i line readable within is

      there : (lane_of lane line.item < most_lanes) × (lane' < most_lanes)
      there = lane_there (length (trees_of lines)) lane line.item so_far.in_lane named

      later : (phase ≤ phase') × (phase' ≤ phase + 1)
      later = phase_there phase line.item

      some_more : (more : List ToldLine) (end : List ℕ) → TellsDone Left mid more end → TellsDone (AreDone (steps_of lines)) text ((told ++ added.mine) ++ more) end
      some_more more end h =
          subst (λ (ts : List ToldLine). TellsDone (AreDone (steps_of lines)) text ts end) (sym (append_assoc told added.mine more))
          (so_far.some (added.mine ++ more) end (tells_so (Both (IsLaneLineDone lane phase line) Left) (AreDone (asked_from lane phase (drop i lines))) rest end (added.mine ++ more) left_done done_left
          (both_told (IsLaneLineDone lane phase line) Left rest mid added.mine added.told end more h)))

      none_more : TellsNotDone Left mid → TellsNotDone (AreDone (steps_of lines)) text
      none_more none =
          so_far.none (tells_not_so (Both (IsLaneLineDone lane phase line) Left) (AreDone (asked_from lane phase (drop i lines))) rest done_left
          (not_second (IsLaneLineDone lane phase line) Left rest mid added.mine added.told none))

      of_mine : (P : ToldLine → Type 0) → ((t : ToldLine) → IsPlacedBy lane phase line t → P t) → All P added.mine
      of_mine P h = All-weaker (IsPlacedBy lane phase line) P h added.mine added.placed

      upto_phase : All (λ (t : ToldLine). t.phase ≤ phase') (told ++ added.mine)
      upto_phase = All-append (λ (t : ToldLine). t.phase ≤ phase') told added.mine
          (All-weaker (λ (t : ToldLine). t.phase ≤ phase) (λ (t : ToldLine). t.phase ≤ phase') (λ t h. omega (arith, h, later.0)) told so_far.upto)
          (of_mine (λ (t : ToldLine). t.phase ≤ phase') (λ t h. omega (arith, h.done_at, later.0)))

      gone_on : LinesGoOn lines text mid (told ++ added.mine) lane' phase' (i + 1)
      gone_on = record {
        some = some_more;
        none = none_more;
        in_lane = there.1;
        in_phase = omega (arith, later.1, so_far.in_phase);
        form = All-append (λ (t : ToldLine). HasForm t.what) told added.mine so_far.form (of_mine (λ (t : ToldLine). HasForm t.what) (λ t h. h.form));
        trees = All-append (λ (t : ToldLine). t.tree < length (trees_of lines)) told added.mine so_far.trees (of_mine (λ (t : ToldLine). t.tree < length (trees_of lines)) (λ t h. h.done_on (length (trees_of lines)) named));
        lanes = All-append (λ (t : ToldLine). t.lane < most_lanes) told added.mine so_far.lanes (of_mine (λ (t : ToldLine). t.lane < most_lanes) (λ t h. omega (arith, h.done_in, there.0)));
        phases = all_pairs_append told added.mine phase so_far.phases so_far.upto (of_mine (λ (t : ToldLine). t.phase ≡ phase) (λ t h. h.done_at));
        upto = upto_phase;
      }

      pub line_goes_on : LinesGoOn lines text mid new lane' phase' (i + 1)
      line_goes_on = subst (λ (ts : List ToldLine). LinesGoOn lines text mid ts lane' phase' (i + 1)) (sym added.whole) gone_on

-- ---- the whole text

pub told_by : (log : Log) (text rest : List ℕ) (told : List ToldLine) (lane phase i : ℕ) → LinesGoOn log.lines text rest told lane phase i → length log.lines ≤ i → IsToldBy log text told rest
told_by log text rest told lane phase i so_far past =
    let all = lines_end log.lines text rest told lane phase i so_far past in
    record {
      only = λ sp steps after h. all.only sp steps after h.done h.fit h.printed;
      done = all.its;
      printed = all.printed;
      form = so_far.form;
      written = all.written;
      trees = so_far.trees;
      lanes = so_far.lanes;
      phases = so_far.phases;
      few = omega (arith, all.shorter);
    }

pub told_none : (log : Log) (text : List ℕ) → TellsNotDone (AreDone (steps_of log.lines)) text → TellsNone log text
told_none log text none sp steps rest h = none sp steps rest h.done h.fit h.printed
