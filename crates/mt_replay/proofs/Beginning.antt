-- What the lines of a phase make of a player as the phase begins, one line after another.
use Rattle.mt_replay.proofs.Prelude.{drop-cons, ◌≡◌, ℕ, suc, ◌+◌, ◌<◌, ◌≤◌, false, List, [], ◌∷◌, ◌++◌, Option, Some, None, length, map, take, drop, All, slice_get, get_or, arith, refl, sym, ap, ◌∙◌, subst, inl, inr, append_assoc, AllByRecursion, option_map, option_to_list, cases_Bool, append-nil, length-map, map-append, take_all, take_more, All-append, All-from_recursion, All-nil, recursion_from_All, slice_get-map, slice_get_within, Kind, Range, last_map, Item, Tree, Join, Dup, Check, Write, Ask, Scan, Line, Entry, KnownTree, Asked, Step, Counted, AreDone, entry_of, AreNamedFrom, Declared, Empty, CopyOf, NamesBelow, count_after, declared_by, renamed, trees_of, CountsRanges, phase_behind, step_of_line, Tracked, new_tracked, Ran, some_at, same_some, empty_ran, copy_ran, still, done_append, phase_append, trees_more, IsOnePhase, asked_of, counts_in, is_count, is_join, same_phase, PlayerState, BeginsPhase, Checks, Copies, IsBegun, IsPhaseBegun, IsPlayedBy}
use Rattle.mt_log.specs.declared.lines.Item.TheVariants.{Lane}
use Rattle.mt_log.specs.declared.transcripts.Said.TheVariants as said

-- ---- lines of one phase

phase_stays : (phase : ℕ) (lines : List Line) → AllByRecursion (λ (line : Line). is_join line.item ≡ false) lines → phase_behind phase lines ≡ phase
phase_stays phase [] one = refl
phase_stays phase (line ∷ lines) one = ap (λ (n : ℕ). phase_behind n lines) (same_phase phase line.item one.0) ∙ phase_stays phase lines one.1

counts_more : (phase : ℕ) (lines : List Line) (line : Line) → counts_in phase (lines ++ line ∷ []) ≡ counts_in phase lines ++ counts_in phase (line ∷ [])
counts_more phase [] line = refl
counts_more phase (x ∷ lines) line = elim (cases_Bool (is_count x.item)) [
  | inl t ↦ rw t (ap (λ (z : List Asked). asked_of 0 phase x ∷ z) (counts_more phase lines line))
  | inr f ↦ rw f (counts_more phase lines line)
]

-- ---- one line more

module _ (phase : ℕ) (front lines : List Line) (old : PlayerState) (steps counted : List Step) (at : phase_behind 0 front ≡ phase) (one : IsOnePhase lines) (so_far : IsPhaseBegun phase front lines old steps counted) where
  abbrev declared : List Declared
  declared = trees_of (front ++ lines)

  trees_are : (line : Line) → trees_of (front ++ (lines ++ line ∷ [])) ≡ declared ++ option_to_list (declared_by declared phase line.item)
  trees_are line =
      let here : phase_behind 0 (front ++ lines) ≡ phase = phase_append 0 front lines ∙ (ap (λ (n : ℕ). phase_behind n lines) at ∙ phase_stays phase lines (recursion_from_All _ lines one)) in
      ap trees_of (sym (append_assoc front lines (line ∷ []))) ∙ (trees_more (front ++ lines) line ∙ ap (λ (n : ℕ). declared ++ option_to_list (declared_by declared n line.item)) here)

  next : (line : Line) (new : PlayerState) (more : List Step) → Ran new.passes new.rows phase (declared ++ option_to_list (declared_by declared phase line.item)) steps new.trees → AreDone (counts_in phase (line ∷ [])) more → All (λ (s : Step). CountsRanges new.trees s) (counted ++ more)
      → new.entries ≡ old.entries ++ map entry_of more → new.known ≡ map (λ (d : Declared). d.tree) (declared ++ option_to_list (declared_by declared phase line.item)) → All (λ (t : Tracked). length t.history.records ≤ length front) new.trees
      → IsBegun phase front (lines ++ line ∷ []) new steps
  next line new more ran done each told known few = (
    counted ++ more,
    record {
      ran = subst (λ (ds : List Declared). Ran new.passes new.rows phase ds steps new.trees) (sym (trees_are line)) ran;
      done = so_far.done;
      counted_are = subst (λ (asked : List Asked). AreDone asked (counted ++ more)) (sym (counts_more phase lines line)) (done_append (counts_in phase lines) (counts_in phase (line ∷ [])) counted more so_far.counted_are done);
      each = each;
      told = told ∙ (ap (λ (es : List Entry). es ++ map entry_of more) so_far.told ∙ (sym (map-append entry_of (steps ++ counted) more) ∙ ap (map entry_of) (append_assoc steps counted more)));
      known = known ∙ ap (map (λ (d : Declared). d.tree)) (sym (trees_are line));
      few = few;
    },
  )

  -- what was counted so far, where one more tree is there
  counted_there : (t : Tracked) → All (λ (s : Step). CountsRanges (old.trees ++ t ∷ []) s) counted
  counted_there t = λ k d l.
      let s = so_far.each k d l in
      record { said = s.said; ranges = s.ranges; tracked = s.tracked; outcome = s.outcome; is = still old.trees t (get_or counted k d).tree s.tracked s.is; counts = s.counts }

  few_there : (t : Tracked) → t.history.records ≡ [] → All (λ (z : Tracked). length z.history.records ≤ length front) (old.trees ++ t ∷ [])
  few_there t none = All-append (λ (z : Tracked). length z.history.records ≤ length front) old.trees (t ∷ []) so_far.few (All-from_recursion (λ (z : Tracked). length z.history.records ≤ length front) (t ∷ []) (omega (arith, ap length none), tt))

  silent : (line : Line) (new : PlayerState) → declared_by declared phase line.item ≡ None → counts_in phase (line ∷ []) ≡ [] → new ≡ old → IsBegun phase front (lines ++ line ∷ []) new steps
  silent line new undeclared uncounted is =
      let same : declared ++ option_to_list (declared_by declared phase line.item) ≡ declared = ap (λ (o : Option Declared). declared ++ option_to_list o) undeclared ∙ append-nil declared in
      subst (λ (z : PlayerState). IsBegun phase front (lines ++ line ∷ []) z steps) (sym is) (next line old []
      (subst (λ (ds : List Declared). Ran old.passes old.rows phase ds steps old.trees) (sym same) so_far.ran)
      (subst (λ (asked : List Asked). AreDone asked []) (sym uncounted) refl)
      (subst (All (λ (s : Step). CountsRanges old.trees s)) (sym (append-nil counted)) so_far.each)
      (sym (append-nil old.entries))
      (so_far.known ∙ ap (map (λ (d : Declared). d.tree)) (sym same))
      so_far.few)

  tree_line : (number : ℕ) (name : List ℕ) (kind : Kind) (new : PlayerState) → BeginsPhase old new number (Tree name kind) → IsBegun phase front (lines ++ record { number = number; item = Tree name kind } ∷ []) new steps
  tree_line number name kind new is =
      let known : KnownTree = record { name = name; kind = kind } in
      let added : Tracked = new_tracked old.passes old.rows kind [] in
      let declares : Declared = record { tree = known; opening = Empty } in
      subst (λ (z : PlayerState). IsBegun phase front (lines ++ record { number = number; item = Tree name kind } ∷ []) z steps) (sym is)
      (next (record { number = number; item = Tree name kind }) (record old { known = old.known ++ known ∷ []; trees = old.trees ++ added ∷ [] }) []
      (empty_ran old.passes old.rows phase declared steps old.trees known so_far.ran)
      refl
      (subst (All (λ (s : Step). CountsRanges (old.trees ++ added ∷ []) s)) (sym (append-nil counted)) (counted_there added))
      (sym (append-nil old.entries))
      (ap (λ (ks : List KnownTree). ks ++ known ∷ []) so_far.known ∙ sym (map-append (λ (d : Declared). d.tree) declared (declares ∷ [])))
      (few_there added refl))

  check_line : (number tree : ℕ) (new : PlayerState) → Checks old new number tree → IsBegun phase front (lines ++ record { number = number; item = Check tree } ∷ []) new steps
  check_line number tree new does =
      let s : Step = step_of_line phase 0 number tree (Counted said.Lawful (last_map does.checked.history)) in
      let entries : List Entry = old.entries ++ entry_of s ∷ [] in
      subst (λ (z : PlayerState). IsBegun phase front (lines ++ record { number = number; item = Check tree } ∷ []) z steps) (sym does.made)
      (next (record { number = number; item = Check tree }) (record old { entries = entries }) (s ∷ [])
      (subst (λ (ds : List Declared). Ran old.passes old.rows phase ds steps old.trees) (sym (append-nil declared)) so_far.ran)
      (s ∷ [], [], refl, (last_map does.checked.history, refl), refl)
      (All-append (λ (z : Step). CountsRanges old.trees z) counted (s ∷ []) so_far.each (All-from_recursion (λ (z : Step). CountsRanges old.trees z) (s ∷ [])
      (record { said = said.Lawful; ranges = last_map does.checked.history; tracked = does.checked; outcome = refl; is = does.tree_is; counts = refl }, tt)))
      refl
      (so_far.known ∙ ap (map (λ (d : Declared). d.tree)) (sym (append-nil declared)))
      so_far.few)

  -- a tree that is known is declared, and of that kind
  named_kind : (from : ℕ) (named : KnownTree) (source : Tracked) → slice_get old.known from ≡ Some named → slice_get old.trees from ≡ Some source → named.kind ≡ source.history.kind
  named_kind from named source named_is source_is =
      let known : slice_get (map (λ (d : Declared). d.tree) declared) from ≡ Some named = ap (λ (ks : List KnownTree). slice_get ks from) (sym so_far.known) ∙ named_is in
      let d = some_at declared from (omega (arith, slice_get_within (map (λ (d : Declared). d.tree) declared) from named known, length-map declared (λ (d : Declared). d.tree))) in
      let there : slice_get (map (λ (d : Declared). d.tree) declared) from ≡ Some d.0.tree = slice_get-map (λ (d : Declared). d.tree) declared from ∙ ap (option_map (λ (d : Declared). d.tree)) d.1 in
      let same : named ≡ d.0.tree = same_some named d.0.tree (sym known ∙ there) in
      ap (λ (k : KnownTree). k.kind) same ∙ sym (so_far.ran.opened from d.0 source d.1 source_is).kind

  copy_line : (number from : ℕ) (name : List ℕ) (new : PlayerState) → Copies old new number from name → IsBegun phase front (lines ++ record { number = number; item = Dup from name } ∷ []) new steps
  copy_line number from name new does =
      let source : Tracked = does.source in
      let opening : List Range = last_map source.history in
      let s : Step = step_of_line phase 0 number from (Counted said.Copied opening) in
      let known : KnownTree = renamed name does.named in
      let added : Tracked = new_tracked old.passes source.history.rows source.history.kind opening in
      let declares : Declared = record { tree = known; opening = CopyOf from phase } in
      let listed : slice_get (map (λ (d : Declared). d.tree) declared) from ≡ Some does.named = ap (λ (ks : List KnownTree). slice_get ks from) (sym so_far.known) ∙ does.named_is in
      let declares_is : option_to_list (declared_by declared phase (Dup from name)) ≡ declares ∷ [] =
      ap (λ (o : Option KnownTree). option_to_list (option_map (λ (tree : KnownTree). record { tree = tree; opening = CopyOf from phase }) (option_map (renamed name) o))) listed in
      let kind_is : does.named.kind ≡ source.history.kind = named_kind from does.named source does.named_is does.source_is in
      let rows_are : source.history.rows ≡ old.rows = so_far.ran.sized from source does.source_is in
      let added_is : new_tracked old.passes old.rows does.named.kind opening ≡ added = λ i. new_tracked old.passes (sym rows_are i) (kind_is i) opening in
      subst (λ (z : PlayerState). IsBegun phase front (lines ++ record { number = number; item = Dup from name } ∷ []) z steps) (sym does.made)
      (next (record { number = number; item = Dup from name }) (record old { known = old.known ++ known ∷ []; trees = old.trees ++ added ∷ []; entries = old.entries ++ entry_of s ∷ [] }) (s ∷ [])
      (subst (λ (ds : List Declared). Ran old.passes old.rows phase (declared ++ ds) steps (old.trees ++ added ∷ [])) (sym declares_is)
      (subst (λ (t : Tracked). Ran old.passes old.rows phase (declared ++ declares ∷ []) steps (old.trees ++ t ∷ [])) added_is (copy_ran old.passes old.rows phase declared steps old.trees known from source does.source_is kind_is so_far.ran)))
      (s ∷ [], [], refl, (opening, refl), refl)
      (All-append (λ (z : Step). CountsRanges (old.trees ++ added ∷ []) z) counted (s ∷ []) (counted_there added) (All-from_recursion (λ (z : Step). CountsRanges (old.trees ++ added ∷ []) z) (s ∷ [])
      (record { said = said.Copied; ranges = opening; tracked = source; outcome = refl; is = still old.trees added from source does.source_is; counts = refl }, tt)))
      refl
      (ap (λ (ks : List KnownTree). ks ++ known ∷ []) so_far.known ∙ (sym (map-append (λ (d : Declared). d.tree) declared (declares ∷ [])) ∙ ap (λ (ds : List Declared). map (λ (d : Declared). d.tree) (declared ++ ds)) (sym declares_is)))
      (few_there added refl))

  pub line_begun : (number : ℕ) (item : Item) (new : PlayerState) → is_join item ≡ false → BeginsPhase old new number item → IsBegun phase front (lines ++ record { number = number; item = item } ∷ []) new steps
  line_begun number (Tree name kind) new here does = tree_line number name kind new does
  line_begun number (Lane lane) new here does = silent (record { number = number; item = Lane lane }) new refl refl does
  line_begun number Join new here does = absurd (cc)
  line_begun number (Dup from name) new here does = copy_line number from name new does
  line_begun number (Check tree) new here does = check_line number tree new does
  line_begun number (Write tree call) new here does = silent (record { number = number; item = Write tree call }) new refl refl does
  line_begun number (Ask tree query) new here does = silent (record { number = number; item = Ask tree query }) new refl refl does
  line_begun number (Scan tree index max count) new here does = silent (record { number = number; item = Scan tree index max count }) new refl refl does

-- before the phase's first line
pub none_begun : (phase : ℕ) (front : List Line) (p : PlayerState) (steps : List Step) → IsPlayedBy phase front p steps → IsBegun phase front [] p steps
none_begun phase front p steps played = (
  [],
  record {
    ran = subst (λ (ls : List Line). Ran p.passes p.rows phase (trees_of ls) steps p.trees) (sym (append-nil front)) played.ran;
    done = played.done;
    counted_are = refl;
    each = All-nil (λ (s : Step). CountsRanges p.trees s);
    told = played.told ∙ ap (map entry_of) (sym (append-nil steps));
    known = played.known ∙ ap (λ (ls : List Line). map (λ (d : Declared). d.tree) (trees_of ls)) (sym (append-nil front));
    few = played.few;
  },
)

-- so far, from what the player was when the phase began
abbrev pub BegunFrom : PlayerState → List Line → PlayerState → Type 0
BegunFrom old lines new = (phase : ℕ) (front : List Line) (steps : List Step) → phase_behind 0 front ≡ phase → IsOnePhase lines → IsPlayedBy phase front old steps → IsBegun phase front lines new steps

rows_stay : (old new : PlayerState) (number : ℕ) (item : Item) → BeginsPhase old new number item → (new.rows ≡ old.rows) × (new.passes ≡ old.passes)
rows_stay old new number (Tree name kind) is = (ap (λ (p : PlayerState). p.rows) is, ap (λ (p : PlayerState). p.passes) is)
rows_stay old new number (Lane lane) is = (ap (λ (p : PlayerState). p.rows) is, ap (λ (p : PlayerState). p.passes) is)
rows_stay old new number Join is = (ap (λ (p : PlayerState). p.rows) is, ap (λ (p : PlayerState). p.passes) is)
rows_stay old new number (Dup from name) is = (ap (λ (p : PlayerState). p.rows) is.made, ap (λ (p : PlayerState). p.passes) is.made)
rows_stay old new number (Check tree) is = (ap (λ (p : PlayerState). p.rows) is.made, ap (λ (p : PlayerState). p.passes) is.made)
rows_stay old new number (Write tree call) is = (ap (λ (p : PlayerState). p.rows) is, ap (λ (p : PlayerState). p.passes) is)
rows_stay old new number (Ask tree query) is = (ap (λ (p : PlayerState). p.rows) is, ap (λ (p : PlayerState). p.passes) is)
rows_stay old new number (Scan tree index max count) is = (ap (λ (p : PlayerState). p.rows) is, ap (λ (p : PlayerState). p.passes) is)

one_phase_cut : (lines : List Line) (line : Line) → AllByRecursion (λ (l : Line). is_join l.item ≡ false) (lines ++ line ∷ []) → AllByRecursion (λ (l : Line). is_join l.item ≡ false) lines × (is_join line.item ≡ false)
one_phase_cut [] line one = (tt, one.0)
one_phase_cut (x ∷ lines) line one = let rest = one_phase_cut lines line one.1 in ((one.0, rest.0), rest.1)

-- how far a player has begun, from what it was, with the trees that are named from the next line on
pub record HasBegun (lines : List Line) (done count : ℕ) (old new : PlayerState) : Type 0 where
  pub begun : BegunFrom old (take done lines) new
  pub rows : new.rows ≡ old.rows
  pub passes : new.passes ≡ old.passes
  pub named : AreNamedFrom count (drop done lines)

pub nothing_begun : (lines : List Line) (count : ℕ) (p : PlayerState) → AreNamedFrom count lines → HasBegun lines 0 count p p
nothing_begun lines count p named = record { begun = λ phase front steps at one played. none_begun phase front p steps played; rows = refl; passes = refl; named = named }

module _ (lines : List Line) (done count : ℕ) (line : Line) (old p : PlayerState) (within : done < length lines) (is : line ≡ get_or lines done line) (so_far : HasBegun lines done count old p) where
  left : AreNamedFrom count (line ∷ drop (suc done) lines)
  left = subst (AreNamedFrom count) (drop-cons lines done line within ∙ ap (λ (x : Line). x ∷ drop (suc done) lines) (sym is)) so_far.named

  pub named_here : NamesBelow count line.item
  named_here = left.0

  one_more : (new : PlayerState) → BeginsPhase p new line.number line.item → BegunFrom old (take done lines ++ line ∷ []) new
  one_more new does phase front steps at one played =
      let cut = one_phase_cut (take done lines) line (recursion_from_All _ (take done lines ++ line ∷ []) one) in
      let before : IsOnePhase (take done lines) = All-from_recursion _ (take done lines) cut.0 in
      let (counted, begun) = so_far.begun phase front steps at before played in
      line_begun phase front (take done lines) p steps counted at before begun line.number line.item new cut.1 does

  pub begun_on : (new : PlayerState) (count' : ℕ) → BeginsPhase p new line.number line.item → count' ≡ count_after count line.item → HasBegun lines (done + 1) count' old new
  begun_on new count' does more =
      let stays = rows_stay p new line.number line.item does in
      let next : done + 1 ≡ suc done = omega arith in
      record {
        begun = subst (λ (ls : List Line). BegunFrom old ls new) (sym (take_more lines done line within ∙ ap (λ (x : Line). take done lines ++ x ∷ []) (sym is))) (one_more new does);
        rows = stays.0 ∙ so_far.rows;
        passes = stays.1 ∙ so_far.passes;
        named = rw (more, next) left.1;
      }

pub all_begun : (lines : List Line) (done count : ℕ) (old new : PlayerState) → length lines ≤ done → HasBegun lines done count old new → BegunFrom old lines new
all_begun lines done count old new all so_far = subst (λ (ls : List Line). BegunFrom old ls new) (take_all done lines all) so_far.begun
