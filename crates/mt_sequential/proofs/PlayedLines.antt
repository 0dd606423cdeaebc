-- What is played of one line more is what came of the lines.
use Rattle.mt_sequential.proofs.Prelude.{◌≡◌, ℕ, zero, suc, ◌+◌, ◌<◌, Bool, true, false, List, [], ◌∷◌, ◌++◌, Option, Some, None, length, map, arith, ap, sym, ◌∙◌, refl, subst, append_assoc, length-append, slice_get, slice_set, option_map, option_to_list, append-nil, map-append, Kind, Range, Call, Query, answer, Record, History, last_map, Limits, IsMade, Item, Tree, Lane, Join, Dup, Check, Write, Ask, Scan, Line, Log, Word, Entry, Transcript, KnownTree, IsInPlace, phase_after, stepped_after, stepped_from, Asked, Step, Called, Looked, Counted, ScanGoesOnFrom, AreScanSteps, AreDone, IsRun, entry_of, find_at, listings_of, place_after, place_within, shown, steps_of, Declared, Empty, CopyOf, declared_by, renamed, trees_of, asked_by, lane_behind, phase_behind, HasPlayed, MayLimit, IsNext, step_of_line, with_call, new_history, made_is_next, limits_next, call_played, count_played, phase_played, read_played, tree_played, copy_played, nothing_played, as_declared, as_large, played_is_run, asked_more, trees_more, phase_more, stepped_more, done_append, TreeState, PlayerState, Copies, Checks, Calls, Does, AreBoth, HasHistory, IsDeclaredSo, IsPlayedBy, IsPlayed, with_entry, read_entry, scan_entries, entries_behind, listing_of, most_lanes}
use Rattle.mt_log.specs.declared.transcripts.Said.TheVariants as said

-- ---- two lists, place by place

both_push : {X Y : Type 0} (R : X → Y → Type 0) (xs : List X) (ys : List Y) (x : X) (y : Y) → AreBoth R xs ys → R x y → AreBoth R (xs ++ x ∷ []) (ys ++ y ∷ [])
both_push R [] [] x y both one = (one, tt)
both_push R [] (v ∷ ys) x y both one = absurd both
both_push R (u ∷ xs) [] x y both one = absurd both
both_push R (u ∷ xs) (v ∷ ys) x y both one = (both.0, both_push R xs ys x y both.1 one)

pub both_get : {X Y : Type 0} (R : X → Y → Type 0) (xs : List X) (ys : List Y) (i : ℕ) (x : X) → AreBoth R xs ys → slice_get xs i ≡ Some x → (y : Y) × ((slice_get ys i ≡ Some y) × R x y)
both_get R [] [] i x both at = absurd (cc)
both_get R [] (v ∷ ys) i x both at = absurd both
both_get R (u ∷ xs) [] i x both at = absurd both
both_get R (u ∷ xs) (v ∷ ys) zero x both at = let same : u ≡ x = cc in (v, (refl, subst (λ z. R z v) same both.0))
both_get R (u ∷ xs) (v ∷ ys) (suc i) x both at = both_get R xs ys i x both.1 at

both_set : {X Y : Type 0} (R : X → Y → Type 0) (xs : List X) (ys : List Y) (i : ℕ) (x : X) (y : Y) → AreBoth R xs ys → R x y → AreBoth R (slice_set xs i x) (slice_set ys i y)
both_set R [] [] i x y both one = tt
both_set R [] (v ∷ ys) i x y both one = absurd both
both_set R (u ∷ xs) [] i x y both one = absurd both
both_set R (u ∷ xs) (v ∷ ys) zero x y both one = (one, both.1)
both_set R (u ∷ xs) (v ∷ ys) (suc i) x y both one = (both.0, both_set R xs ys i x y both.1 one)

both_kept : {X Y : Type 0} (R : X → Y → Type 0) (xs : List X) (ys : List Y) (i : ℕ) (x x' : X) → AreBoth R xs ys → slice_get xs i ≡ Some x → ((y : Y) → R x y → R x' y) → AreBoth R (slice_set xs i x') ys
both_kept R [] [] i x x' both at f = tt
both_kept R [] (v ∷ ys) i x x' both at f = absurd both
both_kept R (u ∷ xs) [] i x x' both at f = absurd both
both_kept R (u ∷ xs) (v ∷ ys) zero x x' both at f = let same : u ≡ x = cc in (f v (subst (λ z. R z v) same both.0), both.1)
both_kept R (u ∷ xs) (v ∷ ys) (suc i) x x' both at f = (both.0, both_kept R xs ys i x x' both.1 at f)

get_map : {X Y : Type 0} (f : X → Y) (xs : List X) (i : ℕ) (x : X) → slice_get xs i ≡ Some x → slice_get (map f xs) i ≡ Some (f x)
get_map f [] i x at = absurd (cc)
get_map f (u ∷ xs) zero x at = let same : u ≡ x = cc in ap (λ z. Some (f z)) same
get_map f (u ∷ xs) (suc i) x at = get_map f xs i x at

-- ---- one line more

-- a step of the phase was made, or none
stepped_up : (passes rows phase : ℕ) (stepped : Bool) (declared : List Declared) (steps : List Step) (trees : List History) → HasPlayed passes rows phase stepped declared steps trees → HasPlayed passes rows phase true declared steps trees
stepped_up passes rows phase stepped declared steps trees h = record { some = h.some; opening = h.opening; earlier = h.earlier; now = h.now; all = h.all; ran = h.ran; going = h.going; still = λ no. absurd (cc) }

module _ (rows : ℕ) (lines : List Line) (old : PlayerState) (steps : List Step) (trees : List History) (so_far : IsPlayedBy rows lines old steps trees) where
  abbrev phase : ℕ
  phase = phase_behind 0 lines

  abbrev lane : ℕ
  lane = lane_behind 0 lines

  abbrev stepped : Bool
  stepped = stepped_from false lines

  abbrev declared : List Declared
  declared = trees_of lines

  next : (line : Line) (new : PlayerState) (more : List Step) (trees' : List History)
      → HasPlayed most_lanes rows (phase_after phase line.item) (stepped_after stepped line.item) (declared ++ option_to_list (declared_by declared phase line.item)) (steps ++ more) trees'
      → AreDone (asked_by lane phase line) more → new.entries ≡ old.entries ++ map entry_of more → AreBoth IsDeclaredSo new.trees (declared ++ option_to_list (declared_by declared phase line.item)) → AreBoth HasHistory new.trees trees'
      → IsPlayed rows (lines ++ line ∷ []) new
  next line new more trees' played done told of holds = (
    steps ++ more,
    trees',
    record {
      played =
          subst (λ (n : ℕ). HasPlayed most_lanes rows n (stepped_from false (lines ++ line ∷ [])) (trees_of (lines ++ line ∷ [])) (steps ++ more) trees') (sym (phase_more lines line))
          (subst (λ (b : Bool). HasPlayed most_lanes rows (phase_after phase line.item) b (trees_of (lines ++ line ∷ [])) (steps ++ more) trees') (sym (stepped_more lines line))
          (subst (λ (ds : List Declared). HasPlayed most_lanes rows (phase_after phase line.item) (stepped_after stepped line.item) ds (steps ++ more) trees') (sym (trees_more lines line)) played));
      done = subst (λ (asked : List Asked). AreDone asked (steps ++ more)) (sym (asked_more lines line)) (done_append (steps_of lines) (asked_by lane phase line) steps more so_far.done done);
      told = told ∙ (ap (λ (es : List Entry). es ++ map entry_of more) so_far.told ∙ sym (map-append entry_of steps more));
      declared = subst (AreBoth IsDeclaredSo new.trees) (sym (trees_more lines line)) of;
      held = holds;
    },
  )

  no_more : (ds : List Declared) (stepped' : Bool) (phase' : ℕ) (trees' : List History) → HasPlayed most_lanes rows phase' stepped' ds steps trees' → HasPlayed most_lanes rows phase' stepped' ds (steps ++ []) trees'
  no_more ds stepped' phase' trees' played = subst (λ (ss : List Step). HasPlayed most_lanes rows phase' stepped' ds ss trees') (sym (append-nil steps)) played

  -- as the trees were
  same_declared : AreBoth IsDeclaredSo old.trees (declared ++ [])
  same_declared = subst (AreBoth IsDeclaredSo old.trees) (sym (append-nil declared)) so_far.declared

  undeclared : (phase' : ℕ) (stepped' : Bool) (steps' : List Step) (trees' : List History) → HasPlayed most_lanes rows phase' stepped' declared steps' trees' → HasPlayed most_lanes rows phase' stepped' (declared ++ []) steps' trees'
  undeclared phase' stepped' steps' trees' played = subst (λ (ds : List Declared). HasPlayed most_lanes rows phase' stepped' ds steps' trees') (sym (append-nil declared)) played

  silent : (entries : List Entry) → entries ≡ entries ++ []
  silent entries = sym (append-nil entries)

  tree_line : (number : ℕ) (name : Word) (kind : Kind) (new : PlayerState) → Does rows old new number (Tree name kind) → IsPlayed rows (lines ++ record { number = number; item = Tree name kind } ∷ []) new
  tree_line number name kind new (t, new_tree, is) =
      next (record { number = number; item = Tree name kind }) new [] (trees ++ new_history kind rows [] ∷ [])
      (no_more (declared ++ record { tree = record { name = name; kind = kind }; opening = Empty } ∷ []) stepped phase (trees ++ new_history kind rows [] ∷ []) (tree_played most_lanes rows phase stepped declared steps trees (record { name = name; kind = kind }) so_far.played))
      refl
      (ap (λ (p : PlayerState). p.entries) is ∙ silent old.entries)
      (subst (λ (ts : List TreeState). AreBoth IsDeclaredSo ts (declared ++ record { tree = record { name = name; kind = kind }; opening = Empty } ∷ [])) (sym (ap (λ (p : PlayerState). p.trees) is))
      (both_push IsDeclaredSo old.trees declared t (record { tree = record { name = name; kind = kind }; opening = Empty }) so_far.declared (record { name = new_tree.name_is; kind = new_tree.kind_is })))
      (subst (λ (ts : List TreeState). AreBoth HasHistory ts (trees ++ new_history kind rows [] ∷ [])) (sym (ap (λ (p : PlayerState). p.trees) is))
      (both_push HasHistory old.trees trees t (new_history kind rows []) so_far.held (record { kind = new_tree.map.kind_is; ranges = new_tree.map.opening; limits = new_tree.map.limits; calls = new_tree.calls })))

  lane_line : (number other : ℕ) (new : PlayerState) → new ≡ old → IsPlayed rows (lines ++ record { number = number; item = Lane other } ∷ []) new
  lane_line number other new is =
      next (record { number = number; item = Lane other }) new [] trees (no_more (declared ++ []) stepped phase trees (undeclared phase stepped steps trees so_far.played)) refl
      (ap (λ (p : PlayerState). p.entries) is ∙ silent old.entries) (subst (λ (p : PlayerState). AreBoth IsDeclaredSo p.trees (declared ++ [])) (sym is) same_declared) (subst (λ (p : PlayerState). AreBoth HasHistory p.trees trees) (sym is) so_far.held)

  join_line : (number : ℕ) (new : PlayerState) → new ≡ old → IsPlayed rows (lines ++ record { number = number; item = Join } ∷ []) new
  join_line number new is =
      next (record { number = number; item = Join }) new [] trees
      (no_more (declared ++ []) false (phase + 1) trees (undeclared (phase + 1) false steps trees (phase_played most_lanes rows phase stepped declared steps trees so_far.played))) refl
      (ap (λ (p : PlayerState). p.entries) is ∙ silent old.entries) (subst (λ (p : PlayerState). AreBoth IsDeclaredSo p.trees (declared ++ [])) (sym is) same_declared) (subst (λ (p : PlayerState). AreBoth HasHistory p.trees trees) (sym is) so_far.held)

  -- ---- trees are counted and copied before the first step of a phase

  module _ (fresh : stepped ≡ false) where
    at_first : HasPlayed most_lanes rows phase false declared steps trees
    at_first = subst (λ (b : Bool). HasPlayed most_lanes rows phase b declared steps trees) fresh so_far.played

    back : (ds : List Declared) (steps' : List Step) (trees' : List History) → HasPlayed most_lanes rows phase false ds steps' trees' → HasPlayed most_lanes rows phase stepped ds steps' trees'
    back ds steps' trees' played = subst (λ (b : Bool). HasPlayed most_lanes rows phase b ds steps' trees') (sym fresh) played

    check_line : (number tree : ℕ) (new : PlayerState) → Checks old new number tree → IsPlayed rows (lines ++ record { number = number; item = Check tree } ∷ []) new
    check_line number tree new does =
        let (h, (at, holds)) = both_get HasHistory old.trees trees tree does.checked so_far.held does.tree_is in
        let s : Step = step_of_line phase 0 number tree (Counted said.Lawful (last_map h)) in
        next (record { number = number; item = Check tree }) new (s ∷ []) trees
        (undeclared phase stepped (steps ++ s ∷ []) trees (back declared (steps ++ s ∷ []) trees (count_played most_lanes rows phase declared steps trees number tree h said.Lawful at_first at)))
        (s ∷ [], [], refl, (last_map h, refl), refl)
        (does.told ∙ ap (λ (m : List Range). with_entry old number (said.Lawful (length m))) holds.ranges)
        (subst (λ (ts : List TreeState). AreBoth IsDeclaredSo ts (declared ++ [])) (sym does.trees) same_declared)
        (subst (λ (ts : List TreeState). AreBoth HasHistory ts trees) (sym does.trees) so_far.held)

    copy_line : (number from : ℕ) (name : Word) (new : PlayerState) → Copies old new number from name → IsPlayed rows (lines ++ record { number = number; item = Dup from name } ∷ []) new
    copy_line number from name new does =
        let (h, (at, holds)) = both_get HasHistory old.trees trees from does.source so_far.held does.from_is in
        let (d, (at_d, of)) = both_get IsDeclaredSo old.trees declared from does.source so_far.declared does.from_is in
        let s : Step = step_of_line phase 0 number from (Counted said.Copied (last_map h)) in
        let known : KnownTree = renamed name d.tree in
        let added : Declared = record { tree = known; opening = CopyOf from phase } in
        let one : option_to_list (declared_by declared phase (Dup from name)) ≡ added ∷ [] =
        ap (λ (o : Option KnownTree). option_to_list (option_map (λ (tree : KnownTree). record { tree = tree; opening = CopyOf from phase }) (option_map (renamed name) o))) (get_map (λ (d : Declared). d.tree) declared from d at_d) in
        let history : History = new_history known.kind rows (last_map h) in
        let counted = count_played most_lanes rows phase declared steps trees number from h said.Copied at_first at in
        let kinds : d.tree.kind ≡ h.kind = sym (as_declared most_lanes rows phase stepped declared steps trees from d h so_far.played at_d at) in
        let sized : h.rows ≡ rows = as_large most_lanes rows phase stepped declared steps trees from h so_far.played at in
        let copied = copy_played most_lanes rows phase declared (steps ++ s ∷ []) trees known from h counted at kinds in
        let new_tree = does.declared h holds.limits in
        let limits : MayLimit history does.copy.map.limits = subst (λ (k : Kind). MayLimit (new_history k rows (last_map h)) does.copy.map.limits) of.kind
        (subst (λ (n : ℕ). MayLimit (new_history does.source.kind n (last_map h)) does.copy.map.limits) sized (subst (λ (m : List Range). MayLimit (new_history does.source.kind h.rows m) does.copy.map.limits) holds.ranges new_tree.map.limits)) in
        next (record { number = number; item = Dup from name }) new (s ∷ []) (trees ++ history ∷ [])
        (subst (λ (ds : List Declared). HasPlayed most_lanes rows phase stepped (declared ++ ds) (steps ++ s ∷ []) (trees ++ history ∷ [])) (sym one) (back (declared ++ added ∷ []) (steps ++ s ∷ []) (trees ++ history ∷ []) copied))
        (s ∷ [], [], refl, (last_map h, refl), refl)
        (does.told ∙ ap (λ (m : List Range). with_entry old number (said.Copied (length m))) holds.ranges)
        (subst (λ (ds : List Declared). AreBoth IsDeclaredSo new.trees (declared ++ ds)) (sym one) (subst (λ (ts : List TreeState). AreBoth IsDeclaredSo ts (declared ++ added ∷ [])) (sym does.trees)
        (both_push IsDeclaredSo old.trees declared does.copy added so_far.declared (record { name = new_tree.name_is; kind = new_tree.kind_is ∙ of.kind }))))
        (subst (λ (ts : List TreeState). AreBoth HasHistory ts (trees ++ history ∷ [])) (sym does.trees)
        (both_push HasHistory old.trees trees does.copy history so_far.held (record { kind = new_tree.map.kind_is ∙ of.kind; ranges = new_tree.map.opening ∙ holds.ranges; limits = limits; calls = new_tree.calls })))

  -- ---- calls and reads

  module _ (known_lane : lane < most_lanes) where
    call_line : (number tree : ℕ) (call : Call) (new : PlayerState) → Calls old new number tree call → IsPlayed rows (lines ++ record { number = number; item = Write tree call } ∷ []) new
    call_line number tree call new does =
        let (h, (at, holds)) = both_get HasHistory old.trees trees tree does.before so_far.held does.tree_is in
        let r : Record = record { pass = lane; call = call; reply = does.reply } in
        let made : IsMade h.kind does.before.map.limits (last_map h) call does.after.map.ranges does.reply = subst (λ (m : List Range). IsMade h.kind does.before.map.limits m call does.after.map.ranges does.reply) holds.ranges
        (subst (λ (k : Kind). IsMade k does.before.map.limits does.before.map.ranges call does.after.map.ranges does.reply) holds.kind does.called.made) in
        let is_next : IsNext h r does.after.map.ranges = made_is_next h does.before.map.limits lane call does.after.map.ranges does.reply holds.limits made in
        let s : Step = step_of_line phase lane number tree (Called (length h.records + 1) call does.reply) in
        let limits : MayLimit (with_call h r) does.after.map.limits = subst (λ (l : Option Limits). MayLimit (with_call h r) l) (sym does.called.limits) (limits_next h does.before.map.limits r holds.limits) in
        next (record { number = number; item = Write tree call }) new (s ∷ []) (slice_set trees tree (with_call h r))
        (undeclared phase true (steps ++ s ∷ []) (slice_set trees tree (with_call h r)) (call_played most_lanes rows phase stepped declared steps trees lane number tree h call does.reply does.after.map.ranges so_far.played at known_lane is_next))
        (s ∷ [], [], refl, (length h.records + 1, does.reply, refl), refl)
        (does.told ∙ ap (λ (n : ℕ). with_entry old number (said.Wrote (n + 1) does.reply)) holds.calls)
        (subst (AreBoth IsDeclaredSo new.trees) (sym (append-nil declared)) (subst (λ (ts : List TreeState). AreBoth IsDeclaredSo ts declared) (sym does.trees)
        (both_kept IsDeclaredSo old.trees declared tree does.before does.after so_far.declared does.tree_is (λ d of. record { name = does.called.name ∙ of.name; kind = does.called.kind ∙ of.kind }))))
        (subst (λ (ts : List TreeState). AreBoth HasHistory ts (slice_set trees tree (with_call h r))) (sym does.trees)
        (both_set HasHistory old.trees trees tree does.after (with_call h r) so_far.held
        (record { kind = does.called.map_kind ∙ holds.kind; ranges = is_next.moved; limits = limits; calls = omega (arith, does.called.calls, holds.calls, length-append h.records (r ∷ [])) })))

    read_step : ℕ → ℕ → History → Query → Step
    read_step number tree h query = step_of_line phase lane number tree (Looked (length h.records) (length h.records) (length h.records) query (answer (last_map h) query))

    module _ (number tree : ℕ) (t : TreeState) (h : History) (at : slice_get trees tree ≡ Some h) (holds : HasHistory t h) where
      abbrev asked : Item → Asked
      asked item = record { line = number; lane = lane; phase = phase; item = item }

      entry_is : (query : Query) → read_entry number t query ≡ entry_of (read_step number tree h query)
      unfolding read_step
      entry_is query = λ i. record { line = number; said = said.Got (holds.calls i) (holds.calls i) (shown query (answer (holds.ranges i) query)) }

      one_read : (stepped' : Bool) (before : List Step) (query : Query) → HasPlayed most_lanes rows phase stepped' declared before trees → HasPlayed most_lanes rows phase true declared (before ++ read_step number tree h query ∷ []) trees
      unfolding read_step
      one_read stepped' before query played = read_played most_lanes rows phase stepped' declared before trees lane number tree h query played at known_lane

      -- what came of a scan from this place on: some more steps, which are told so
      record HasScanned (item : Item) (max left : ℕ) (place : Option ℕ) (before : List Step) : Type 0 where
        more : List Step
        scan : AreScanSteps (asked item) tree max left place more
        told : scan_entries number t max left place ≡ map entry_of more
        played : HasPlayed most_lanes rows phase true declared (before ++ more) trees

      record HasGoneOn (item : Item) (max left : ℕ) (value : Option Range) (before : List Step) : Type 0 where
        more : List Step
        goes : ScanGoesOnFrom (AreScanSteps (asked item) tree max left) max value more
        told : entries_behind (scan_entries number t max left) max value ≡ map entry_of more
        played : HasPlayed most_lanes rows phase true declared (before ++ more) trees

      none_behind : (before : List Step) → HasPlayed most_lanes rows phase true declared before trees → HasPlayed most_lanes rows phase true declared (before ++ []) trees
      none_behind before played = subst (λ (ss : List Step). HasPlayed most_lanes rows phase true declared ss trees) (sym (append-nil before)) played

      goes_on : (item : Item) (max left : ℕ) (value : Option Range) (before : List Step) → HasPlayed most_lanes rows phase true declared before trees → ((place : Option ℕ) → HasScanned item max left place before) → HasGoneOn item max left value before
      goes_on item max left None before played scan = record { more = []; goes = refl; told = refl; played = none_behind before played }
      goes_on item max left (Some r) before played scan = let rest = scan (place_after max r) in record { more = rest.more; goes = rest.scan; told = rest.told; played = rest.played }

      scanned : (left : ℕ) (item : Item) (max : ℕ) (place : Option ℕ) (before : List Step) → HasPlayed most_lanes rows phase true declared before trees → HasScanned item max left place before
      unfolding read_step
      scanned zero item max place before played = record { more = []; scan = refl; told = refl; played = none_behind before played }
      scanned (suc left) item max place before played =
          let query : Query = find_at place max in
          let s : Step = read_step number tree h query in
          let one = one_read true before query played in
          let rest = goes_on item max left (answer (last_map h) query) (before ++ s ∷ []) one (λ next_place. scanned left item max next_place (before ++ s ∷ []) one) in
          record {
            more = s ∷ rest.more;
            scan = (length h.records, length h.records, length h.records, answer (last_map h) query, rest.more, refl, rest.goes);
            told = (λ i. entry_is query i ∷ entries_behind (scan_entries number t max left) max (answer (holds.ranges i) query)) ∙ ap (λ (es : List Entry). entry_of s ∷ es) rest.told;
            played = subst (λ (ss : List Step). HasPlayed most_lanes rows phase true declared ss trees) (append_assoc before (s ∷ []) rest.more) rest.played;
          }

    ask_line : (number tree : ℕ) (query : Query) (new : PlayerState) → Does rows old new number (Ask tree query) → IsPlayed rows (lines ++ record { number = number; item = Ask tree query } ∷ []) new
    unfolding read_step
    ask_line number tree query new does =
        let (h, (at, holds)) = both_get HasHistory old.trees trees tree does.asked so_far.held does.tree_is in
        let s : Step = read_step number tree h query in
        next (record { number = number; item = Ask tree query }) new (s ∷ []) trees
        (undeclared phase true (steps ++ s ∷ []) trees (one_read number tree does.asked h at holds stepped steps query so_far.played))
        (s ∷ [], [], refl, (length h.records, length h.records, length h.records, answer (last_map h) query, refl), refl)
        (does.told ∙ ap (λ (e : Entry). old.entries ++ e ∷ []) (entry_is number tree does.asked h at holds query))
        (subst (λ (ts : List TreeState). AreBoth IsDeclaredSo ts (declared ++ [])) (sym does.trees) same_declared)
        (subst (λ (ts : List TreeState). AreBoth HasHistory ts trees) (sym does.trees) so_far.held)

    scan_line : (number tree index max count : ℕ) (new : PlayerState) → Does rows old new number (Scan tree index max count) → IsPlayed rows (lines ++ record { number = number; item = Scan tree index max count } ∷ []) new
    scan_line number tree index max count new does =
        let (h, (at, holds)) = both_get HasHistory old.trees trees tree does.asked so_far.held does.tree_is in
        let came = scanned number tree does.asked h at holds count (Scan tree index max count) max (place_within index max) steps (stepped_up most_lanes rows phase stepped declared steps trees so_far.played) in
        next (record { number = number; item = Scan tree index max count }) new came.more trees
        (undeclared phase true (steps ++ came.more) trees came.played)
        (came.more, [], sym (append-nil came.more), came.scan, refl)
        (does.told ∙ ap (λ (es : List Entry). old.entries ++ es) came.told)
        (subst (λ (ts : List TreeState). AreBoth IsDeclaredSo ts (declared ++ [])) (sym does.trees) same_declared)
        (subst (λ (ts : List TreeState). AreBoth HasHistory ts trees) (sym does.trees) so_far.held)

pub line_played : (rows : ℕ) (lines : List Line) (number : ℕ) (item : Item) (old new : PlayerState) → IsInPlace (stepped_from false lines) item → lane_behind 0 lines < most_lanes → Does rows old new number item → IsPlayed rows lines old
    → IsPlayed rows (lines ++ record { number = number; item = item } ∷ []) new
line_played rows lines number (Tree name kind) old new placed in_lane does (steps, trees, so_far) = tree_line rows lines old steps trees so_far number name kind new does
line_played rows lines number (Lane other) old new placed in_lane does (steps, trees, so_far) = lane_line rows lines old steps trees so_far number other new does
line_played rows lines number Join old new placed in_lane does (steps, trees, so_far) = join_line rows lines old steps trees so_far number new does
line_played rows lines number (Dup from name) old new placed in_lane does (steps, trees, so_far) = copy_line rows lines old steps trees so_far placed number from name new does
line_played rows lines number (Check tree) old new placed in_lane does (steps, trees, so_far) = check_line rows lines old steps trees so_far placed number tree new does
line_played rows lines number (Write tree call) old new placed in_lane does (steps, trees, so_far) = call_line rows lines old steps trees so_far in_lane number tree call new does
line_played rows lines number (Ask tree query) old new placed in_lane does (steps, trees, so_far) = ask_line rows lines old steps trees so_far in_lane number tree query new does
line_played rows lines number (Scan tree index max count) old new placed in_lane does (steps, trees, so_far) = scan_line rows lines old steps trees so_far in_lane number tree index max count new does

-- ---- before the first line, and behind the last

pub none_played : (rows : ℕ) (player : PlayerState) → player.trees ≡ [] → player.entries ≡ [] → IsPlayed rows [] player
none_played rows player trees entries = (
  [],
  [],
  record {
    played = nothing_played most_lanes rows (omega arith);
    done = refl;
    told = entries;
    declared = subst (λ (ts : List TreeState). AreBoth IsDeclaredSo ts []) (sym trees) tt;
    held = subst (λ (ts : List TreeState). AreBoth HasHistory ts []) (sym trees) tt;
  },
)

listed : (ts : List TreeState) (ds : List Declared) (hs : List History) → AreBoth IsDeclaredSo ts ds → AreBoth HasHistory ts hs → map listing_of ts ≡ listings_of ds hs
listed [] [] hs of held = refl
listed [] (d ∷ ds) hs of held = absurd of
listed (t ∷ ts) [] hs of held = absurd of
listed (t ∷ ts) (d ∷ ds) [] of held = absurd held
listed (t ∷ ts) (d ∷ ds) (h ∷ hs) of held =
    let behind = listed ts ds hs of.1 held.1 in
    let named = of.0 in let holds = held.0 in
    λ i. record { name = named.name i; kind = named.kind i; ranges = holds.ranges i } ∷ behind i

pub run_of : (rows : ℕ) (log : Log) (t : Transcript) (player : PlayerState) → IsPlayed rows log.lines player → t.version ≡ log.version → t.entries ≡ player.entries → t.lists ≡ map listing_of player.trees → IsRun log rows t
run_of rows log t player (steps, trees, p) version entries lists =
    played_is_run most_lanes rows (phase_behind 0 log.lines) (stepped_from false log.lines) log t steps trees p.played p.done version (entries ∙ p.told) (lists ∙ listed player.trees (trees_of log.lines) trees p.declared p.held)
